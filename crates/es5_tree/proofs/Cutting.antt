-- Bytes are cut into pieces up to their end or up to a byte where no piece stands.
use Rattle.std.proofs.Common.{◌≡◌, ℕ, zero, suc, ◌<◌, ◌⊎◌, Bool, true, false, cond, ◌==◌, List, [], ◌∷◌, ◌++◌, Option, Some, None, drop, take, length, take_while, refl, sym, ap, ◌∙◌, subst, inl, inr, ⊎_elim, arith, append_assoc, length-append, length-drop}
use Rattle.std.proofs.lemmas.Bool.{cases_eq}
use Rattle.std.proofs.lemmas.List.{take-append-drop, length-take, append_cancel_left}
use Rattle.std.specs.List.{prefix_len}
use Rattle.std.specs.Option.{option_map}
use Rattle.es5_tree.specs.declared.token.EsToken.{EsToken}
use Rattle.es5_tree.specs.declared.token.EsTokenKind.TheVariants as kind
use Rattle.es5_tree.specs.declared.sign.Sign.{Sign}
use Rattle.es5_tree.specs.declared.sign.Sign.TheVariants as sign
use Rattle.es5_tree.specs.declared.lexing.Class.{Class}
use Rattle.es5_tree.specs.declared.lexing.Class.TheVariants.{Blank, Letter, Digit, Quote, Other}
use Rattle.es5_tree.specs.declared.lexing.Restriction.{Restriction}
use Rattle.es5_tree.specs.declared.lexing.Restriction.TheVariants.{Free}
use Rattle.es5_tree.specs.Characters.{is_digit, is_name_part, class_of}
use Rattle.es5_tree.specs.Literals.{comment_size, NoComment, hex_number, single_escape, begins_with_digit, escape, character, Characters, Unquoted}
use Rattle.es5_tree.specs.Numerals.{numeral, goes_on}
use Rattle.es5_tree.specs.Signs.{sign_at}
use Rattle.es5_tree.specs.Tokens.{Form, Space, Comment, Word, Num, Str, Mark, Stands, Stuck, kind_of, StandsAt, StuckAt, allows, after_piece, after_all, Piece, Reaches}
use Rattle.es5_tree.specs.Lexed.{LexesTo, tokens_from, token_at}
use Rattle.es5_tree.specs.Laws.{Lexed, LexedOnce, TokensOrNone}
use Rattle.es5_tree.proofs.OneCut.{class_in, stands_class, stands_one, no_digits, none_some, same_cons, stands_some, lexes_one, reaches_one, end_stuck}
use Rattle.es5_tree.proofs.Signs.{class_at, sign_fits}

-- bytes have one list of tokens at most
tokens_one : (bytes : List ℕ) (tokens others : List EsToken) → LexesTo bytes tokens → LexesTo bytes others → tokens ≡ others
tokens_one bytes tokens others h h' =
    let same = lexes_one h.pieces h'.pieces bytes h.lexed h'.lexed in
    h.same ∙ ap (λ ps. tokens_from bytes 0 ps ++ token_at bytes _ 0 kind.End ∷ []) same ∙ sym h'.same

-- ---- a character has a byte

abbrev Moves : Option (ℕ × ℕ) → Type 0
Moves None = Unit {0}
Moves (Some p) = 0 < p.1

moves_if : (b : Bool) (o o' : Option (ℕ × ℕ)) → Moves o → Moves o' → Moves (cond b o o')
moves_if true o o' h h' = h
moves_if false o o' h h' = h'

moves_map : (k : ℕ) (o : Option ℕ) → Moves (option_map (λ unit. (unit, suc k)) o)
moves_map k None = tt
moves_map k (Some unit) = omega arith

escape_moves : (bytes : List ℕ) → Moves (escape bytes)
escape_moves [] = tt
escape_moves (byte ∷ bytes) =
    moves_if (byte == 117) _ _ (moves_map 5 (hex_number 0 4 bytes))
    (moves_if (byte == 120) _ _ (moves_map 3 (hex_number 0 2 bytes))
    (moves_if (byte == 48) _ _ (moves_if (begins_with_digit bytes) None (Some (0, 2)) tt (omega arith))
    (moves_map 1 (single_escape byte))))

character_moves : (quote : ℕ) (bytes : List ℕ) → Moves (character quote bytes)
unfolding character
character_moves quote [] = tt
character_moves quote (byte ∷ bytes) = moves_if (byte == 92) _ _ (escape_moves bytes) (moves_if _ None (Some (byte, 1)) tt (omega arith))

pub character_size : (quote : ℕ) (bytes : List ℕ) (unit n : ℕ) → character quote bytes ≡ Some (unit, n) → 0 < n
character_size quote bytes unit n e = subst Moves {x = character quote bytes} {y = Some (unit, n)} e (character_moves quote bytes)

-- ---- string literals

-- the bytes are the text of a literal with its closing quote, or no text
abbrev Quoted : ℕ → List ℕ → Type 0
Quoted quote bytes = (text : List ℕ) × (rest : List ℕ) × Characters quote text bytes rest

some_same : (o : Option (ℕ × ℕ)) (unit n unit' n' : ℕ) → o ≡ Some (unit, n) → o ≡ Some (unit', n') → n ≡ n'
some_same o unit n unit' n' e f = let g : Some (unit, n) ≡ Some (unit', n') = sym e ∙ f in ap (λ (o : Option (ℕ × ℕ)). elim o [ None ↦ 0 | Some p ↦ p.1 ]) g

pub no_character : (quote byte : ℕ) (bytes : List ℕ) → (byte ≡ quote → ⊥) → character quote (byte ∷ bytes) ≡ None → Unquoted quote (byte ∷ bytes)
no_character quote byte bytes n e [] rest h = n (same_cons byte quote bytes rest h).0
no_character quote byte bytes n e (unit ∷ text) rest (k, c, w) = none_some _ (unit, k) e c

pub end_unquoted : (quote : ℕ) → Unquoted quote []
unfolding character
end_unquoted quote [] rest h = cc
end_unquoted quote (unit ∷ text) rest (k, c, w) = none_some None (unit, k) refl c

pub next_unquoted : (quote byte unit n : ℕ) (bytes : List ℕ) → (byte ≡ quote → ⊥) → character quote (byte ∷ bytes) ≡ Some (unit, n) → Unquoted quote (drop n (byte ∷ bytes)) → Unquoted quote (byte ∷ bytes)
next_unquoted quote byte unit n bytes ne e none [] rest h = ne (same_cons byte quote bytes rest h).0
next_unquoted quote byte unit n bytes ne e none (unit' ∷ text) rest (k, c, w) =
    none text rest (subst (λ m. Characters quote text (drop m (byte ∷ bytes)) rest) {x = k} {y = n} (some_same _ unit' k unit n c e) w)

shorter : (byte n fuel : ℕ) (bytes : List ℕ) → 0 < n → length (byte ∷ bytes) < suc fuel → length (drop n (byte ∷ bytes)) < fuel
shorter byte n fuel bytes p l = omega (arith, length-drop n (byte ∷ bytes))

quoted_or_not : (fuel quote : ℕ) (bytes : List ℕ) → length bytes < fuel → Quoted quote bytes ⊎ Unquoted quote bytes
quoted_or_not zero quote bytes l = absurd (omega (arith, l))
quoted_or_not (suc fuel) quote [] l = inr (end_unquoted quote)
quoted_or_not (suc fuel) quote (byte ∷ bytes) l = ⊎_elim (λ e. inl ([], bytes, ap (λ b. b ∷ bytes) e)) (λ ne. by_character (λ n p. quoted_or_not fuel quote (drop n (byte ∷ bytes)) (shorter byte n fuel bytes p l)) ne (character quote (byte ∷ bytes)) refl) (cases_eq byte quote)
  where
    by_rest : (byte ≡ quote → ⊥) → (unit n : ℕ) → character quote (byte ∷ bytes) ≡ Some (unit, n) → Quoted quote (drop n (byte ∷ bytes)) ⊎ Unquoted quote (drop n (byte ∷ bytes)) → Quoted quote (byte ∷ bytes) ⊎ Unquoted quote (byte ∷ bytes)
    by_rest ne unit n e (inl h) = inl (unit ∷ h.0, h.1, (n, e, h.2))
    by_rest ne unit n e (inr h) = inr (next_unquoted quote byte unit n bytes ne e h)

    by_character : ((n : ℕ) → 0 < n → Quoted quote (drop n (byte ∷ bytes)) ⊎ Unquoted quote (drop n (byte ∷ bytes))) → (byte ≡ quote → ⊥) → (o : Option (ℕ × ℕ)) → character quote (byte ∷ bytes) ≡ o → Quoted quote (byte ∷ bytes) ⊎ Unquoted quote (byte ∷ bytes)
    by_character more ne None e = inr (no_character quote byte bytes ne e)
    by_character more ne (Some p) e = by_rest ne p.0 p.1 e (more p.1 (character_size quote (byte ∷ bytes) p.0 p.1 e))

-- ---- pieces

-- something stands at the front of the bytes
abbrev Begun : List ℕ → Type 0
Begun bytes = (form : Form) × (rest : List ℕ) × Stands form bytes rest

-- only forms of the first byte's class stand
pub stuck_by : (bytes : List ℕ) (class : Class) → class_at bytes ≡ class → ((form : Form) (behind : List ℕ) → class_in form ≡ class → Stands form bytes behind → ⊥) → Stuck bytes
stuck_by bytes class e none form behind h = none form behind (sym (stands_class form bytes behind h) ∙ e) h

pub quote_stuck : (byte : ℕ) (bytes : List ℕ) → class_of byte ≡ Quote → Unquoted byte bytes → Stuck (byte ∷ bytes)
quote_stuck byte bytes e none = stuck_by (byte ∷ bytes) Quote e by
  where
    by : (form : Form) (behind : List ℕ) → class_in form ≡ Quote → Stands form (byte ∷ bytes) behind → ⊥
    by (Str text) behind c (quote, more, s, q, w) =
        let same = same_cons byte quote bytes more s in
        none text behind (subst (λ l. Characters byte text l behind) {x = more} {y = bytes} (sym same.1) (subst (λ k. Characters k text more behind) {x = quote} {y = byte} (sym same.0) w))
    by form behind c h = cc

-- a run of digits that is no numeral, or that goes on
abbrev pub NoNumeral : List ℕ → Type 0
NoNumeral bytes = (value : ℕ) (rest : List ℕ) → numeral (take_while is_digit bytes) ≡ Some value → bytes ≡ take_while is_digit bytes ++ rest → goes_on rest ≡ false → ⊥

pub digit_stuck : (bytes : List ℕ) → class_at bytes ≡ Digit → NoNumeral bytes → Stuck bytes
digit_stuck bytes e none = stuck_by bytes Digit e by
  where
    by : (form : Form) (behind : List ℕ) → class_in form ≡ Digit → Stands form bytes behind → ⊥
    by (Num value) behind c (n, r, g) = none value behind n r g
    by form behind c h = cc

abbrev pub NoMark : Option (Sign × ℕ) → Type 0
NoMark None = Unit {0}
NoMark (Some (sign.Mark mark, n)) = ⊥
NoMark (Some (sign.Refused, n)) = Unit {0}

pub other_stuck : (bytes : List ℕ) → class_at bytes ≡ Other → NoMark (sign_at bytes) → NoComment bytes → Stuck bytes
other_stuck bytes e sign none = stuck_by bytes Other e by
  where
    by : (form : Form) (behind : List ℕ) → class_in form ≡ Other → Stands form bytes behind → ⊥
    by Comment behind c (more, n, s, k, r) = none more n s k
    by (Mark mark) behind c (n, s, r) = subst NoMark s sign
    by form behind c h = cc

-- what is behind a word
abbrev pub word_rest : List ℕ → List ℕ
word_rest bytes = drop (prefix_len is_name_part bytes) bytes

pub word_stands : (byte : ℕ) (bytes : List ℕ) → class_of byte ≡ Letter → Stands (Word (byte ∷ take_while is_name_part bytes)) (byte ∷ bytes) (word_rest bytes)
word_stands byte bytes e = (byte, bytes, refl, e, refl, ap (λ l. byte ∷ l) (sym (take-append-drop (prefix_len is_name_part bytes) bytes)))

-- what is behind a run of digits
abbrev pub digits_rest : List ℕ → List ℕ
digits_rest bytes = drop (prefix_len is_digit bytes) bytes

pub digits_split : (bytes : List ℕ) → bytes ≡ take_while is_digit bytes ++ digits_rest bytes
digits_split bytes = sym (take-append-drop (prefix_len is_digit bytes) bytes)

pub digits_go_on : (bytes : List ℕ) → goes_on (digits_rest bytes) ≡ true → NoNumeral bytes
digits_go_on bytes g value rest n r f =
    let same : digits_rest bytes ≡ rest = append_cancel_left (take_while is_digit bytes) (digits_rest bytes) rest (sym (digits_split bytes) ∙ r) in
    let clash : true ≡ false = sym g ∙ ap goes_on same ∙ f in
    cc

pub no_numeral : (bytes : List ℕ) → numeral (take_while is_digit bytes) ≡ None → NoNumeral bytes
no_numeral bytes e value rest n r f = let clash : None ≡ Some value = sym e ∙ n in cc

-- a comment behind a slash, or none
comment_or_not : (bytes : List ℕ) → Begun bytes ⊎ NoComment bytes
comment_or_not [] = inr (λ more n e c. cc)
comment_or_not (byte ∷ bytes) = ⊎_elim (λ e. at e (comment_size bytes) refl) (λ ne. inr (λ more n e c. ne (same_cons byte 47 bytes more e).0)) (cases_eq byte 47)
  where
    none : comment_size bytes ≡ None → NoComment (byte ∷ bytes)
    none e more n s c = let clash : None ≡ Some n = sym e ∙ ap comment_size (same_cons byte 47 bytes more s).1 ∙ c in cc

    at : byte ≡ 47 → (o : Option ℕ) → comment_size bytes ≡ o → Begun (byte ∷ bytes) ⊎ NoComment (byte ∷ bytes)
    at e None c = inr (none c)
    at e (Some n) c = inl (Comment, drop n bytes, (bytes, n, ap (λ b. b ∷ bytes) e, c, refl))

sign_or_not : (bytes : List ℕ) (o : Option (Sign × ℕ)) → sign_at bytes ≡ o → Begun bytes ⊎ NoMark o
sign_or_not bytes None e = inr tt
sign_or_not bytes (Some (sign.Mark mark, n)) e = inl (Mark mark, drop n bytes, (n, e, refl))
sign_or_not bytes (Some (sign.Refused, n)) e = inr tt

begun_or_not : (bytes : List ℕ) → Begun bytes ⊎ Stuck bytes
begun_or_not [] = inr stands_some
begun_or_not (byte ∷ bytes) = by (class_of byte) refl
  where
    literal : class_of byte ≡ Quote → Quoted byte bytes ⊎ Unquoted byte bytes → Begun (byte ∷ bytes) ⊎ Stuck (byte ∷ bytes)
    literal e (inl h) = inl (Str h.0, h.1, (byte, bytes, refl, e, h.2))
    literal e (inr h) = inr (quote_stuck byte bytes e h)

    behind : class_of byte ≡ Digit → (value : ℕ) → numeral (take_while is_digit (byte ∷ bytes)) ≡ Some value → (b : Bool) → goes_on (digits_rest (byte ∷ bytes)) ≡ b → Begun (byte ∷ bytes) ⊎ Stuck (byte ∷ bytes)
    behind e value n true g = inr (digit_stuck (byte ∷ bytes) e (digits_go_on (byte ∷ bytes) g))
    behind e value n false g = inl (Num value, digits_rest (byte ∷ bytes), (n, digits_split (byte ∷ bytes), g))

    digits : class_of byte ≡ Digit → (o : Option ℕ) → numeral (take_while is_digit (byte ∷ bytes)) ≡ o → Begun (byte ∷ bytes) ⊎ Stuck (byte ∷ bytes)
    digits e None n = inr (digit_stuck (byte ∷ bytes) e (no_numeral (byte ∷ bytes) n))
    digits e (Some value) n = behind e value n (goes_on (digits_rest (byte ∷ bytes))) refl

    by : (class : Class) → class_of byte ≡ class → Begun (byte ∷ bytes) ⊎ Stuck (byte ∷ bytes)
    by Blank e = inl (Space, bytes, (byte, refl, e))
    by Letter e = inl (Word (byte ∷ take_while is_name_part bytes), word_rest bytes, word_stands byte bytes e)
    by Digit e = digits e (numeral (take_while is_digit (byte ∷ bytes))) refl
    by Quote e = literal e (quoted_or_not (suc (length bytes)) byte bytes (omega arith))
    by Other e = ⊎_elim inl (λ s. ⊎_elim inl (λ c. inr (other_stuck (byte ∷ bytes) e s c)) (comment_or_not (byte ∷ bytes))) (sign_or_not (byte ∷ bytes) (sign_at (byte ∷ bytes)) refl)

-- something stands at the front that may come
abbrev BegunAt : Restriction → List ℕ → Type 0
BegunAt restriction bytes = (form : Form) × (rest : List ℕ) × StandsAt restriction form bytes rest

pub not_allowed : (restriction : Restriction) (bytes : List ℕ) (form : Form) (rest : List ℕ) → Stands form bytes rest → allows restriction (kind_of form) ≡ false → StuckAt restriction bytes
not_allowed restriction bytes form rest h e other behind at =
    let clash : true ≡ false = sym at.allowed ∙ ap (λ f. allows restriction (kind_of f)) (sym (stands_one form other bytes rest behind h at.stands).0) ∙ e in
    cc

begun_at_or_not : (restriction : Restriction) (bytes : List ℕ) → BegunAt restriction bytes ⊎ StuckAt restriction bytes
begun_at_or_not restriction bytes = by (begun_or_not bytes)
  where
    allowed : (form : Form) (rest : List ℕ) → Stands form bytes rest → (b : Bool) → allows restriction (kind_of form) ≡ b → BegunAt restriction bytes ⊎ StuckAt restriction bytes
    allowed form rest h true e = inl (form, rest, record { stands = h; allowed = e })
    allowed form rest h false e = inr (not_allowed restriction bytes form rest h e)

    by : Begun bytes ⊎ Stuck bytes → BegunAt restriction bytes ⊎ StuckAt restriction bytes
    by (inl h) = allowed h.0 h.1 h.2 (allows restriction (kind_of h.0)) refl
    by (inr h) = inr (λ form behind at. h form behind at.stands)

-- ---- a piece is a part of the bytes

abbrev pub Part : List ℕ → List ℕ → Type 0
Part bytes rest = (slice : List ℕ) × (bytes ≡ slice ++ rest) × (0 < length slice)

characters_part : (quote : ℕ) (text bytes rest : List ℕ) → Characters quote text bytes rest → Part bytes rest
characters_part quote [] bytes rest h = (quote ∷ [], h, omega arith)
characters_part quote (unit ∷ text) bytes rest (n, c, w) =
    let i = characters_part quote text (drop n bytes) rest w in (
      take n bytes ++ i.0,
      sym (take-append-drop n bytes) ∙ ap (λ l. take n bytes ++ l) i.1 ∙ sym (append_assoc (take n bytes) i.0 rest),
      omega (arith, length-append (take n bytes) i.0, i.2),
    )

pub digits_some : (bytes : List ℕ) (value : ℕ) → numeral bytes ≡ Some value → 0 < length bytes
digits_some [] value e = absurd (let clash : None ≡ Some value = sym no_digits ∙ e in cc)
digits_some (digit ∷ digits) value e = omega arith

pub stands_part : (form : Form) (bytes rest : List ℕ) → Stands form bytes rest → Part bytes rest
stands_part Space bytes rest (byte, e, c) = (byte ∷ [], e, omega arith)
stands_part (Mark mark) bytes rest (n, e, r) =
    let fits = sign_fits bytes (sign.Mark mark) n e in
    (take n bytes, sym (take-append-drop n bytes) ∙ ap (λ l. take n bytes ++ l) (sym r), omega (arith, length-take n bytes, fits.0, fits.1))
stands_part Comment bytes rest (more, n, e, s, r) = (47 ∷ take n more, e ∙ ap (λ l. 47 ∷ l) (sym (take-append-drop n more)) ∙ ap (λ l. 47 ∷ take n more ++ l) (sym r), omega arith)
stands_part (Num value) bytes rest (e, r, g) = (take_while is_digit bytes, r, digits_some (take_while is_digit bytes) value e)
stands_part (Word name) bytes rest (byte, more, e, c, n, r) = (name, r, subst (λ l. 0 < length l) {x = byte ∷ take_while is_name_part more} {y = name} (sym n) (omega arith))
stands_part (Str text) bytes rest (quote, more, e, c, w) =
    let i = characters_part quote text more rest w in
    (quote ∷ i.0, e ∙ ap (λ l. quote ∷ l) i.1, omega arith)

reaches_part : (pieces : List Piece) (restriction : Restriction) (bytes rest : List ℕ) → Reaches restriction bytes pieces rest → (front : List ℕ) × (bytes ≡ front ++ rest)
reaches_part [] restriction bytes rest h = ([], h)
reaches_part (piece ∷ pieces) restriction bytes rest (mid, r, st, l) =
    let i = reaches_part pieces (after_piece restriction piece) mid rest l in
    (piece.slice ++ i.0, r ∙ ap (λ x. piece.slice ++ x) i.1 ∙ sym (append_assoc piece.slice i.0 rest))

-- ---- all bytes

-- pieces as far as they go
abbrev Cut : Restriction → List ℕ → Type 0
Cut restriction bytes = (pieces : List Piece) × (rest : List ℕ) × Reaches restriction bytes pieces rest × StuckAt (after_all restriction pieces) rest

cut : (fuel : ℕ) (restriction : Restriction) (bytes : List ℕ) → length bytes < fuel → Cut restriction bytes
cut zero restriction bytes l = absurd (omega (arith, l))
cut (suc fuel) restriction bytes l = by (λ next rest s. cut fuel next rest s) (begun_at_or_not restriction bytes)
  where
    by : ((next : Restriction) (rest : List ℕ) → length rest < fuel → Cut next rest) → BegunAt restriction bytes ⊎ StuckAt restriction bytes → Cut restriction bytes
    by more (inr h) = ([], bytes, refl, h)
    by more (inl h) =
        let part = stands_part h.0 bytes h.1 h.2.stands in
        let smaller : length h.1 < fuel = omega (arith, ap length part.1, length-append part.0 h.1, part.2, l) in
        let piece : Piece = record { form = h.0; slice = part.0 } in
        let i = more (after_piece restriction piece) h.1 smaller in
        (piece ∷ i.0, i.1, (h.1, part.1, h.2, i.2), i.3)

lexed_of : (bytes : List ℕ) (pieces : List Piece) → Reaches Free bytes pieces [] → LexesTo bytes (tokens_from bytes 0 pieces ++ token_at bytes (length bytes) 0 kind.End ∷ [])
lexed_of bytes pieces h = record { pieces = pieces; lexed = h; same = refl }

pub tokens_or_none_is : TokensOrNone
tokens_or_none_is bytes = by (cut (suc (length bytes)) Free bytes (omega arith))
  where
    by : Cut Free bytes → Lexed bytes
    by (pieces, [], h, s) = inl (_, lexed_of bytes pieces h)
    by (pieces, byte ∷ rest, h, s) =
        let part = reaches_part pieces Free bytes (byte ∷ rest) h in
        inr (
          length part.0,
          record {
            pieces = pieces;
            rest = byte ∷ rest;
            reached = h;
            some = omega arith;
            none = s;
            place = sym (length-append part.0 (byte ∷ rest)) ∙ sym (ap length part.1);
          },
        )

pub lexed_once_is : LexedOnce
lexed_once_is = record {
  tokens = tokens_one;
  offset = λ bytes offset other a b.
      let same = reaches_one a.pieces b.pieces Free bytes a.rest b.rest a.reached b.reached a.none b.none in
      omega (arith, a.place, b.place, ap length same.1);
  apart = λ bytes tokens offset a b.
      let same = reaches_one a.pieces b.pieces Free bytes [] b.rest a.lexed b.reached (end_stuck _) b.none in
      omega (arith, b.some, ap length same.1);
}
