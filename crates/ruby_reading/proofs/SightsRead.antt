-- The signs of tokens, one token after the other.
use Rattle.std.proofs.Common.{◌≡◌, ℕ, suc, ◌+◌, ◌-◌, ◌<◌, Bool, true, false, ◌&&◌, ◌||◌, List, [], ◌∷◌, ◌++◌, length, map, take, Some, None, refl, sym, ap, ◌∙◌, subst, arith, length-append}
use Rattle.std.specs.Prelude.{not, slice_get, if◌then◌else◌}
use Rattle.std.specs.List.{AllByRecursion}
use Rattle.std.proofs.Math.Seq.{take-suc}
use Rattle.std.proofs.lemmas.List.{map-append}
use Rattle.std.proofs.lemmas.Option.{slice_get_within, get_or_from_slice_get}
use Rattle.ruby_meaning.specs.declared.production.Sign.TheVariants as sign
use Rattle.ruby_meaning.specs.declared.token.Token.{Token}
use Rattle.ruby_meaning.specs.declared.token.TokenKind.{TokenKind}
use Rattle.ruby_meaning.specs.declared.token.TokenKind.TheVariants as kind
use Rattle.ruby_meaning.specs.Grammar.Laws.{before_end, sight}
use Rattle.ruby_meaning.specs.Grammar.Seen.{Seen, seen, seen_behind, gives_name, takes_arguments, opens_call, is_dot, is_def, is_alias, is_name, is_callee, is_paren, is_argument_mark}
use Rattle.ruby_meaning.specs.Grammar.Seen as g
use Rattle.ruby_meaning.specs.Lexing.Laws.{is_eof, HasOneEof}
use Rattle.ruby_meaning.specs.declared.production.Sign.{Sign}
use Rattle.ruby_reading.specs.declared.cursor.Sight.{Sight}
use Rattle.ruby_reading.specs.Ahead.{see}
use Rattle.ruby_reading.specs.Sights.{Window, window, holds, gives, takes, opens, sign_of_kind, sign_from}

-- the tokens before, the last one first
abbrev pub onto : List Token → List Token → List Token
onto past [] = past
onto past (t ∷ ts) = onto (t ∷ past) ts

onto_more : (past ts : List Token) (t : Token) → onto past (ts ++ t ∷ []) ≡ t ∷ onto past ts
onto_more past [] t = refl
onto_more past (x ∷ ts) t = onto_more (x ∷ past) ts t

abbrev seen_at : List Token → Token → Seen
seen_at past t = record { token = t; sign = g.sign_of_kind past t t.kind }

seen_more : (past ts : List Token) (t : Token) → seen_behind past (ts ++ t ∷ []) ≡ seen_behind past ts ++ seen_at (onto past ts) t ∷ []
seen_more past [] t = refl
seen_more past (x ∷ ts) t = ap (λ l. seen_at past x ∷ l) (seen_more (x ∷ past) ts t)

gives_one : (d a b : Bool) → (a || b) ≡ ((d && false) || (a || b))
gives_one true a b = refl
gives_one false a b = refl

gives_window : (past : List Token) → gives_name past ≡ gives ((window past).0) ((window past).1.1.0)
unfolding gives_name
gives_window [] = refl
gives_window (a ∷ []) = gives_one (is_dot a.kind) (is_def a.kind) (is_alias a.kind)
gives_window (a ∷ b ∷ []) = gives_one (is_dot a.kind) (is_def a.kind) (is_alias a.kind)
gives_window (a ∷ b ∷ c ∷ past) = by (is_dot a.kind && is_def c.kind) (is_def a.kind) (is_alias a.kind)
  where
    by : (x y z : Bool) → (x || y || z) ≡ (x || (y || z))
    by true y z = refl
    by false y z = refl

takes_window : (past : List Token) → takes_arguments past ≡ takes (window past)
unfolding takes_arguments
takes_window [] = refl
takes_window (t ∷ past) = ap (λ b. is_name t.kind && not b) (gives_window past)

opens_window : (past : List Token) → opens_call past ≡ opens (window past)
unfolding opens_call
opens_window [] = refl
opens_window (t ∷ []) = refl
opens_window (t ∷ u ∷ past) = refl

and_three : (a b c : Bool) → (a && b && c) ≡ ((a && b) && c)
and_three true b c = refl
and_three false b c = refl

and_four : (a b c d : Bool) → (a && b && c && d) ≡ ((a && (b && c)) && d)
and_four true true c d = refl
and_four true false c d = refl
and_four false b c d = refl

sign_is : (past : List Token) (t : Token) (k : TokenKind) → g.sign_of_kind past t k ≡ sign_of_kind (opens_call past) (takes_arguments past) t k
unfolding g.sign_of_op
sign_is past t (kind.Name n) = refl
sign_is past t (kind.Const n) = refl
sign_is past t (kind.Ivar n) = refl
sign_is past t (kind.Gvar n) = refl
sign_is past t (kind.Keyword w) = refl
sign_is past t (kind.Op m) =
    ap (λ x. if x then sign.CallOpen else (if is_argument_mark m && t.blank_before && not t.blank_after && takes_arguments past then sign.Marked m else sign.Op m)) (and_three (is_paren m) (not t.blank_before) (opens_call past))
    ∙ ap (λ y. if (is_paren m && not t.blank_before) && opens_call past then sign.CallOpen else (if y then sign.Marked m else sign.Op m)) (and_four (is_argument_mark m) t.blank_before (not t.blank_after) (takes_arguments past))
sign_is past t (kind.Label n) = refl
sign_is past t (kind.Int i) = refl
sign_is past t (kind.Text u) = refl
sign_is past t kind.TextBegin = refl
sign_is past t kind.TextEnd = refl
sign_is past t kind.PartBegin = refl
sign_is past t kind.PartEnd = refl
sign_is past t kind.Newline = refl
sign_is past t kind.Eof = refl

sign_window : (past : List Token) (t : Token) → g.sign_of_kind past t t.kind ≡ sign_from (window past) t
sign_window past t = sign_is past t t.kind ∙ ap (λ o. sign_of_kind o (takes_arguments past) t t.kind) (opens_window past) ∙ ap (λ k. sign_of_kind (opens (window past)) k t t.kind) (takes_window past)

one_more : (ts : List Token) (i : ℕ) (t : Token) → slice_get ts i ≡ Some t → take (suc i) ts ≡ take i ts ++ t ∷ []
one_more ts i t h = take-suc ts i t (slice_get_within ts i t h) ∙ ap (λ x. take i ts ++ x ∷ []) (get_or_from_slice_get ts i t t h)

one_on : (i : ℕ) → i + 1 ≡ suc i
one_on i = omega arith

seen_on : (ts : List Token) (i : ℕ) (t : Token) → slice_get ts i ≡ Some t
    → seen_behind [] (take (suc i) ts) ≡ seen_behind [] (take i ts) ++ record { token = t; sign = sign_from (window (onto [] (take i ts))) t } ∷ []
seen_on ts i t h = ap (seen_behind []) (one_more ts i t h) ∙ seen_more [] (take i ts) t
    ∙ ap (λ s. seen_behind [] (take i ts) ++ record { token = t; sign = s } ∷ []) (sign_window (onto [] (take i ts)) t)

-- one token more
pub sights_on : (ts : List Token) (i : ℕ) (t : Token) (w : Window) (g : Sign) (xs : List Sight) (s : Sight) → map see xs ≡ seen_behind [] (take i ts) → w ≡ window (onto [] (take i ts))
    → slice_get ts i ≡ Some t → g ≡ sign_from w t → see s ≡ record { token = t; sign = g } → map see (xs ++ s ∷ []) ≡ seen_behind [] (take (i + 1) ts)
sights_on ts i t w g xs s e f h k m =
    map-append see xs (s ∷ []) ∙ ap (λ l. l ++ see s ∷ []) e ∙ ap (λ x. seen_behind [] (take i ts) ++ x ∷ []) (m ∙ ap (λ y. record { token = t; sign = y }) (k ∙ ap (λ v. sign_from v t) f))
    ∙ sym (ap (λ n. seen_behind [] (take n ts)) (one_on i) ∙ seen_on ts i t h)

pub past_on : (ts : List Token) (i : ℕ) (t : Token) → slice_get ts i ≡ Some t → window (onto [] (take (i + 1) ts)) ≡ window (t ∷ onto [] (take i ts))
past_on ts i t h = ap window (ap (λ n. onto [] (take n ts)) (one_on i) ∙ ap (onto []) (one_more ts i t h) ∙ onto_more [] (take i ts) t)

before_front : (front : List Token) (eof : Token) → AllByRecursion (λ t. is_eof t.kind ≡ false) front → is_eof eof.kind ≡ true → before_end (front ++ eof ∷ []) ≡ front
before_front [] eof h e = rw e refl
before_front (t ∷ ts) eof h e = rw h.0 (ap (λ l. t ∷ l) (before_front ts eof h.1 e))

front_taken : (front : List Token) (eof : Token) → take (length front) (front ++ eof ∷ []) ≡ front
front_taken [] eof = refl
front_taken (t ∷ ts) eof = ap (λ l. t ∷ l) (front_taken ts eof)

-- all but the end token
pub all_sights : (ts : List Token) → HasOneEof ts → seen_behind [] (take (length ts - 1) ts) ≡ sight ts
unfolding seen
all_sights ts h =
    let n : length ts - 1 ≡ length h.front = omega (arith, ap length h.split ∙ length-append h.front (h.eof ∷ [])) in
    let cut : take (length ts - 1) ts ≡ h.front = ap (λ k. take k ts) n ∙ ap (take (length h.front)) h.split ∙ front_taken h.front h.eof in
    let back : before_end ts ≡ h.front = ap before_end h.split ∙ before_front h.front h.eof h.others h.last in
    ap (seen_behind []) (cut ∙ sym back)

sights_count : (past ts : List Token) → length (seen_behind past ts) ≡ length ts
sights_count past [] = refl
sights_count past (t ∷ ts) = ap suc (sights_count (t ∷ past) ts)

-- the end token stands behind all
pub end_behind : (ts : List Token) → HasOneEof ts → length (sight ts) < length ts
unfolding seen
end_behind ts h =
    let back : before_end ts ≡ h.front = ap before_end h.split ∙ before_front h.front h.eof h.others h.last in
    omega (arith, sights_count [] (before_end ts), ap length back, ap length h.split ∙ length-append h.front (h.eof ∷ []))
