-- Loading a program comes to one thing.
use Rattle.std.proofs.Common.{◌≡◌, ◌⊎◌, ℕ, zero, suc, ◌<◌, ◌≤◌, Bool, true, false, cond, List, [], ◌∷◌, ◌++◌, length, take, slice_get, Option, None, Some, refl, sym, ap, ap₂, ◌∙◌, subst, arith, inl, inr, ⊎_elim}
use Rattle.std.specs.List.{flat_map}
use Rattle.std.specs.Str.{IsUtf8, is_utf8, IsValidUpTo}
use Rattle.std.specs.Char.Escape.{encode_utf16}
use Rattle.std.proofs.lemmas.List.{take_all, length-append}
use Rattle.std.proofs.lemmas.Str.{IsUtf8-from_is_utf8, is_utf8-from_IsUtf8, IsUtf8-nil}
use Rattle.std.proofs.lemmas.Bool.{cases_lt}
use Rattle.opal_base.specs.declared.place.Pos.{Pos}
use Rattle.opal_base.specs.Outside.{FileMap}
use Rattle.opal_base.specs.Place.{place_at}
use Rattle.opal_base.specs.Text.{IsDecoded}
use Rattle.opal_base.proofs.Texts.{one_text_is, one_offset_is, decoded_or_not_is}
use Rattle.ruby_meaning.specs.declared.construct.Construct.{Construct}
use Rattle.ruby_meaning.specs.declared.construct.Construct.TheVariants as construct
use Rattle.ruby_meaning.specs.declared.scope.Resolved.{Resolved}
use Rattle.ruby_meaning.specs.declared.token.Token.{Token}
use Rattle.ruby_meaning.specs.declared.tree.Program.{Program}
use Rattle.ruby_meaning.specs.Lexing.Laws.{is_eof, HasOneEof}
use Rattle.ruby_meaning.specs.Lexing.Lexes.{Lexes}
use Rattle.ruby_meaning.specs.Grammar.Laws.{SpellsInLimit, before_end, sight}
use Rattle.ruby_meaning.specs.Grammar.Refusals.{GrammarRefusal, RefusedTokens}
use Rattle.ruby_meaning.specs.Grammar.Seen.{seen, seen_behind}
use Rattle.ruby_meaning.specs.Scoping.Scopes.{Scoped, OwnScopeFault}
use Rattle.ruby_meaning.specs.Load.{most_bytes, place, TextSpells, TextResolves, TextRefused, NoTokens, NoProgram, NoScopes, HoldsText, IsProgram, IsBadByte, IsRefused, TooLong, NoText, BadText, Loaded, Whole, Missing, Refused, Loads}
use Rattle.ruby_meaning.specs.Laws.{SomeLoad, OneLoad}
use Rattle.ruby_meaning.proofs.Lexing.Once as lexing
use Rattle.ruby_meaning.proofs.Lexing.Order.{one_eof}
use Rattle.ruby_meaning.proofs.Lexing.Total.{some_lexing}
use Rattle.ruby_meaning.proofs.Grammar.Programs as grammar
use Rattle.ruby_meaning.proofs.Grammar.Refusals.{one_construct, some_construct}
use Rattle.ruby_meaning.proofs.Scoping.Once as scoping

-- ---- something

-- a decoding of UTF-8
decoded_of : (bytes : List ℕ) → IsUtf8 bytes → (units : List ℕ) × IsDecoded bytes units
decoded_of bytes u = (flat_map encode_utf16 u.0, record { chars = u.0; are_scalars = u.1.0; in_utf8 = u.1.1; in_utf16 = refl })

pick : {P : Type 0} (b : Bool) → (b ≡ true → P) → (b ≡ false → P) → P
pick true holds isnt = holds refl
pick false holds isnt = isnt refl

-- where no front longer than n is UTF-8, the longest that is ends somewhere
valid_front : (bytes : List ℕ) (n : ℕ) → n < length bytes → ((m : ℕ) → n < m → IsUtf8 (take m bytes) → ⊥) → (offset : ℕ) × IsValidUpTo bytes offset
valid_front bytes zero short none = (0, record { short = short; front = IsUtf8-nil; longest = none })
valid_front bytes (suc n) short none = pick (is_utf8 (take (suc n) bytes))
    (λ is. (suc n, record { short = short; front = IsUtf8-from_is_utf8 _ is; longest = none }))
    (λ isnt. valid_front bytes n (omega arith) (λ m above u. ⊎_elim
    (λ more. none m more u)
    (λ here. let e : m ≡ suc n = omega arith in
    let is = is_utf8-from_IsUtf8 _ (subst (λ k. IsUtf8 (take k bytes)) e u) in cc)
    (cases_lt (suc n) m)))

-- bytes that aren't UTF-8 have a longest front that is
bad_from : (bytes : List ℕ) → (IsUtf8 bytes → ⊥) → (k : ℕ) → length bytes ≡ k → (offset : ℕ) × IsValidUpTo bytes offset
bad_from [] isnt k e = absurd (isnt IsUtf8-nil)
bad_from (b ∷ bytes) isnt zero e = absurd (omega (arith, e))
bad_from (b ∷ bytes) isnt (suc k) e = valid_front (b ∷ bytes) k (omega (arith, e)) (λ m above u. isnt (subst IsUtf8 (take_all m (b ∷ bytes) (omega (arith, e, above))) u))

-- ---- the token at which a list of tokens is refused

seen_length : (before tokens : List Token) → length (seen_behind before tokens) ≡ length tokens
seen_length before [] = refl
seen_length before (t ∷ tokens) = ap suc (seen_length (t ∷ before) tokens)

cut_length : (b : Bool) (t : Token) (rest : List Token) (n : ℕ) → length rest ≤ n → length (cond b [] (t ∷ rest)) ≤ suc n
cut_length true t rest n l = omega arith
cut_length false t rest n l = omega (arith, l)

-- the tokens before the end token are fewer
front_length : (front : List Token) (eof : Token) → is_eof eof.kind ≡ true → length (before_end (front ++ eof ∷ [])) ≤ length front
front_length [] eof e = subst (λ b. length (cond b [] (eof ∷ [])) ≤ 0) (sym e) (omega arith)
front_length (t ∷ front) eof e = cut_length (is_eof t.kind) t (before_end (front ++ eof ∷ [])) (length front) (front_length front eof e)

sight_length : (tokens : List Token) → HasOneEof tokens → length (sight tokens) < length tokens
unfolding seen
sight_length tokens h =
    let shorter = subst (λ ts. length (before_end ts) ≤ length h.front) (sym h.split) (front_length h.front h.eof h.last) in
    let whole = ap length h.split ∙ length-append h.front (h.eof ∷ []) in
    omega (arith, shorter, whole, seen_length [] (before_end tokens))

token_there : (tokens : List Token) (at : ℕ) → at < length tokens → (t : Token) × (slice_get tokens at ≡ Some t)
token_there [] at l = absurd (omega (arith, l))
token_there (t ∷ tokens) zero l = (t, refl)
token_there (t ∷ tokens) (suc at) l = token_there tokens at (omega (arith, l))

placed : (tokens : List Token) (at : ℕ) (c : Construct) → HasOneEof tokens → GrammarRefusal tokens at c → (pos : Pos) × RefusedTokens tokens pos c
placed tokens at c h r =
    let t = token_there tokens at (omega (arith, r.fault.within, sight_length tokens h)) in
    (t.0.pos, record { at = at; refusal = r; token = t.0; stands = t.1; place = refl })

-- ---- a text is taken or refused

abbrev TextRead : List ℕ → Type 0
TextRead text = ((resolved : Resolved) × TextResolves text resolved) ⊎ ((pos : Pos) × (c : Construct) × TextRefused text pos c)

spelled_read : (text : List ℕ) (program : Program) → TextSpells text program → TextRead text
spelled_read text program h = elim (scoping.scoped_or_refused program) [
  | inl x ↦ inl (x.0, record { program = program; spelled = h; scoped = x.1 })
  | inr x ↦ inr (x.0, x.1, NoScopes program h x.2)
]

lexed_read : (text : List ℕ) (tokens : List Token) → Lexes text tokens → TextRead text
lexed_read text tokens h = elim (grammar.some_answer tokens) [
  | inl x ↦ spelled_read text x.0 (record { tokens = tokens; lexes = h; spells = x.1 })
  | inr x ↦
      let c = some_construct tokens x.0 x.1 in
      let p = placed tokens x.0 c.0 (one_eof text tokens h) c.1 in
      inr (p.0, c.0, NoProgram tokens h p.1)
]

text_read : (text : List ℕ) → TextRead text
text_read text = elim (some_lexing text) [
  | inl x ↦ lexed_read text x.0 x.1
  | inr x ↦ inr (x.0, x.1, NoTokens x.2)
]

-- ---- and so is a file

abbrev Read : List ℕ → Type 0
Read bytes = ((resolved : Resolved) × IsProgram bytes resolved) ⊎ ((pos : Pos) × (c : Construct) × IsRefused bytes pos c)

decoded_read : (bytes text : List ℕ) → HoldsText bytes text → Read bytes
decoded_read bytes text h = elim (text_read text) [
  | inl x ↦ inl (x.0, record { text = text; holds = h; resolves = x.1 })
  | inr x ↦ inr (x.0, x.1, BadText text h x.2)
]

bad_read : (bytes : List ℕ) → length bytes ≤ most_bytes → (offset : ℕ) → IsValidUpTo bytes offset → Read bytes
bad_read bytes short offset until =
    let front = decoded_of (take offset bytes) until.front in
    inr (place_at front.0 (length front.0), construct.BadByte, NoText (record { short = short; offset = offset; valid = until; front = front.0; decoded = front.1; at = refl }) refl)

file_read : (bytes : List ℕ) → Read bytes
file_read bytes = ⊎_elim
    (λ long. inr (place 0 0, construct.FileTooLong, TooLong long refl refl))
    (λ short. pick (is_utf8 bytes)
    (λ is. let d = decoded_of bytes (IsUtf8-from_is_utf8 bytes is) in decoded_read bytes d.0 (record { short = short; decoded = d.1 }))
    (λ isnt. let v = bad_from bytes (λ u. let is = is_utf8-from_IsUtf8 bytes u in cc) (length bytes) refl in bad_read bytes short v.0 v.1))
    (cases_lt most_bytes (length bytes))

file_load : (files : FileMap) (main bytes : List ℕ) → files main ≡ Some bytes → Read bytes → (loaded : Loaded) × Loads files main loaded
file_load files main bytes e (inl x) = (Whole (record { main = x.0 }), (bytes, e, x.1))
file_load files main bytes e (inr x) = (Refused main x.0 x.1, (refl, bytes, e, x.2))

loaded_of : (files : FileMap) (main : List ℕ) (content : Option (List ℕ)) → files main ≡ content → (loaded : Loaded) × Loads files main loaded
loaded_of files main None e = (Missing main, (refl, e))
loaded_of files main (Some bytes) e = file_load files main bytes e (file_read bytes)

pub some_load_is : SomeLoad
some_load_is files main = loaded_of files main (files main) refl

-- ---- a text is read in one way

one_program : (text : List ℕ) (a b : Program) → TextSpells text a → TextSpells text b → a ≡ b
one_program text a b p q =
    grammar.one_program q.tokens a b (subst (λ ts. SpellsInLimit a ts) (lexing.one_list text p.tokens q.tokens p.lexes q.lexes) p.spells).spelled q.spells.spelled

one_resolved : (text : List ℕ) (a b : Resolved) → TextResolves text a → TextResolves text b → a ≡ b
one_resolved text a b p q = scoping.one_scoping q.program a b (subst (λ x. Scoped x a) (one_program text p.program q.program p.spelled q.spelled) p.scoped) q.scoped

not_misspelled : (text : List ℕ) (tokens : List Token) (program : Program) (pos : Pos) (c : Construct) → TextSpells text program → Lexes text tokens → RefusedTokens tokens pos c → ⊥
not_misspelled text tokens program pos c h g r =
    grammar.never_both tokens program r.at (subst (λ ts. SpellsInLimit program ts) (lexing.one_list text h.tokens tokens h.lexes g) h.spells) r.refusal.fault

not_refused : (text : List ℕ) (resolved : Resolved) (pos : Pos) (c : Construct) → TextResolves text resolved → TextRefused text pos c → ⊥
not_refused text resolved pos c h (NoTokens f) = lexing.never_both text h.spelled.tokens pos c h.spelled.lexes f
not_refused text resolved pos c h (NoProgram tokens g r) = not_misspelled text tokens h.program pos c h.spelled g r
not_refused text resolved pos c h (NoScopes program g f) =
    scoping.not_both program resolved pos c (subst (λ p. Scoped p resolved) (one_program text h.program program h.spelled g) h.scoped) f

one_token : (tokens : List Token) (i j : ℕ) (t u : Token) → i ≡ j → slice_get tokens i ≡ Some t → slice_get tokens j ≡ Some u → t ≡ u
one_token tokens i j t u e p q = let f = subst (λ k. slice_get tokens k ≡ Some t) e p in cc

one_place : (tokens : List Token) (pos other : Pos) (c d : Construct) → RefusedTokens tokens pos c → RefusedTokens tokens other d → (pos ≡ other) × (c ≡ d)
one_place tokens pos other c d p q =
    let same = one_construct tokens p.at q.at c d p.refusal q.refusal in
    let t = one_token tokens p.at q.at p.token q.token same.0 p.stands q.stands in
    (p.place ∙ ap (λ (t : Token). t.pos) t ∙ sym q.place, same.1)

abbrev Same : Pos → Pos → Construct → Construct → Type 0
Same pos other c d = (pos ≡ other) × (c ≡ d)

one_fault : (text : List ℕ) (pos other : Pos) (c d : Construct) → TextRefused text pos c → TextRefused text other d → Same pos other c d
one_fault text pos other c d (NoTokens f) (NoTokens e) = lexing.one_fault text pos other c d f e
one_fault text pos other c d (NoTokens f) (NoProgram tokens g e) = absurd (lexing.never_both text tokens pos c g f)
one_fault text pos other c d (NoTokens f) (NoScopes program g e) = absurd (lexing.never_both text g.tokens pos c g.lexes f)
one_fault text pos other c d (NoProgram tokens h f) (NoTokens e) = absurd (lexing.never_both text tokens other d h e)
one_fault text pos other c d (NoProgram tokens h f) (NoProgram others g e) =
    one_place others pos other c d (subst (λ ts. RefusedTokens ts pos c) (lexing.one_list text tokens others h g) f) e
one_fault text pos other c d (NoProgram tokens h f) (NoScopes program g e) = absurd (not_misspelled text tokens program pos c g h f)
one_fault text pos other c d (NoScopes program h f) (NoTokens e) = absurd (lexing.never_both text h.tokens other d h.lexes e)
one_fault text pos other c d (NoScopes program h f) (NoProgram tokens g e) = absurd (not_misspelled text tokens program other d h g e)
one_fault text pos other c d (NoScopes program h f) (NoScopes others g e) =
    scoping.one_refusal others pos other c d (subst (λ p. OwnScopeFault p pos c) (one_program text program others h g) f) e

-- ---- and so is a file

one_text : (bytes a b : List ℕ) → HoldsText bytes a → HoldsText bytes b → a ≡ b
one_text bytes a b p q = one_text_is bytes a b p.decoded q.decoded

one_content_of : (bytes : List ℕ) (a b : Resolved) → IsProgram bytes a → IsProgram bytes b → a ≡ b
one_content_of bytes a b p q = one_resolved q.text a b (subst (λ text. TextResolves text a) (one_text bytes p.text q.text p.holds q.holds) p.resolves) q.resolves

not_long : (bytes text : List ℕ) → HoldsText bytes text → most_bytes < length bytes → ⊥
not_long bytes text h l = omega (arith, h.short, l)

not_bad : (bytes text : List ℕ) (pos : Pos) → HoldsText bytes text → IsBadByte bytes pos → ⊥
not_bad bytes text pos h b = decoded_or_not_is bytes b.offset b.valid text h.decoded

not_refused_too : (bytes : List ℕ) (resolved : Resolved) (pos : Pos) (c : Construct) → IsProgram bytes resolved → IsRefused bytes pos c → ⊥
not_refused_too bytes resolved pos c h (TooLong l at is) = not_long bytes h.text h.holds l
not_refused_too bytes resolved pos c h (NoText b is) = not_bad bytes h.text pos h.holds b
not_refused_too bytes resolved pos c h (BadText text g f) =
    not_refused text resolved pos c (subst (λ text. TextResolves text resolved) (one_text bytes h.text text h.holds g) h.resolves) f

one_bad : (bytes : List ℕ) (pos other : Pos) → IsBadByte bytes pos → IsBadByte bytes other → pos ≡ other
one_bad bytes pos other p q =
    let n = one_offset_is bytes p.offset q.offset p.valid q.valid in
    let f = one_text_is (take q.offset bytes) p.front q.front (subst (λ k. IsDecoded (take k bytes) p.front) n p.decoded) q.decoded in
    p.at ∙ ap (λ front. place_at front (length front)) f ∙ sym q.at

one_refused : (bytes : List ℕ) (pos other : Pos) (c d : Construct) → IsRefused bytes pos c → IsRefused bytes other d → Same pos other c d
one_refused bytes pos other c d (TooLong l at is) (TooLong m there same) = (at ∙ sym there, is ∙ sym same)
one_refused bytes pos other c d (TooLong l at is) (NoText b same) = absurd (omega (arith, l, b.short))
one_refused bytes pos other c d (TooLong l at is) (BadText text h f) = absurd (not_long bytes text h l)
one_refused bytes pos other c d (NoText a is) (TooLong m there same) = absurd (omega (arith, m, a.short))
one_refused bytes pos other c d (NoText a is) (NoText b same) = (one_bad bytes pos other a b, is ∙ sym same)
one_refused bytes pos other c d (NoText a is) (BadText text h f) = absurd (not_bad bytes text pos h a)
one_refused bytes pos other c d (BadText text h f) (TooLong m there same) = absurd (not_long bytes text h m)
one_refused bytes pos other c d (BadText text h f) (NoText b same) = absurd (not_bad bytes text other h b)
one_refused bytes pos other c d (BadText text h f) (BadText others g e) =
    one_fault others pos other c d (subst (λ text. TextRefused text pos c) (one_text bytes text others h g) f) e

-- ---- one thing

-- the two contents of a file are one
one_content : (files : FileMap) (main bytes other : List ℕ) → files main ≡ Some bytes → files main ≡ Some other → bytes ≡ other
one_content files main bytes other e f = cc

pub one_load_is : OneLoad
one_load_is files main (Whole bundle) (Whole other) p q =
    let b = one_content files main p.0 q.0 p.1 q.1 in
    ap (λ resolved. Whole (record { main = resolved })) (one_content_of q.0 bundle.main other.main (subst (λ x. IsProgram x bundle.main) b p.2) q.2)
one_load_is files main (Whole bundle) (Missing name) p q = let e = p.1 in let f = q.1 in cc
one_load_is files main (Whole bundle) (Refused name pos c) p q =
    let b = one_content files main p.0 q.1 p.1 q.2 in
    absurd (not_refused_too q.1 bundle.main pos c (subst (λ x. IsProgram x bundle.main) b p.2) q.3)
one_load_is files main (Missing name) (Whole bundle) p q = let e = p.1 in let f = q.1 in cc
one_load_is files main (Missing name) (Missing other) p q = ap Missing (p.0 ∙ sym q.0)
one_load_is files main (Missing name) (Refused other pos c) p q = let e = p.1 in let f = q.2 in cc
one_load_is files main (Refused name pos c) (Whole bundle) p q =
    let b = one_content files main p.1 q.0 p.2 q.1 in
    absurd (not_refused_too q.0 bundle.main pos c q.2 (subst (λ x. IsRefused x pos c) b p.3))
one_load_is files main (Refused name pos c) (Missing other) p q = let e = p.2 in let f = q.1 in cc
one_load_is files main (Refused name pos c) (Refused other at what) p q =
    let b = one_content files main p.1 q.1 p.2 q.2 in
    let same = one_refused q.1 pos at c what (subst (λ x. IsRefused x pos c) b p.3) q.3 in
    let n : name ≡ other = p.0 ∙ sym q.0 in
    ap (λ n. Refused n pos c) n ∙ ap₂ (λ p d. Refused other p d) same.0 same.1
