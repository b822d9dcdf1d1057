-- The slices of bytes' tokens, and the values of their numerals.
use Rattle.std.proofs.Common.{◌≡◌, ℕ, ◌+◌, ◌<◌, ◌≤◌, ◌^◌, Bool, true, false, cond, ◌||◌, nat_lt, List, [], ◌∷◌, ◌++◌, Option, Some, None, length, refl, sym, ap, subst, arith, length-append}
use Rattle.std.specs.Prelude.{pos}
use Rattle.std.proofs.lemmas.Grind.{common_steps}
use Rattle.std.specs.List.{AllByRecursion}
use Rattle.es5_tree.specs.declared.token.EsToken.{EsToken}
use Rattle.es5_tree.specs.declared.token.EsTokenKind.{EsTokenKind}
use Rattle.es5_tree.specs.declared.token.EsTokenKind.TheVariants as token
use Rattle.es5_tree.specs.declared.lexing.Restriction.{Restriction}
use Rattle.es5_tree.specs.declared.lexing.Restriction.TheVariants.{Free}
use Rattle.es5_tree.specs.Numerals.{value, is_no_numeral, numeral}
use Rattle.es5_tree.specs.Tokens.{Form, Space, Comment, Word, Num, Str, Mark, Stands, kind_of, Piece, after_piece, Reaches}
use Rattle.es5_tree.specs.Lexed.{LexesTo, token_at, token_if, tokens_from, Ascends, IsEnded, IsSafe, IsSafeKind}
use Rattle.es5_tree.specs.Laws.{SlicesAscend, NumeralsSafe}

-- ---- slices

-- the end token behind the tokens of pieces
abbrev ended : List ℕ → ℕ → ℕ → List Piece → List EsToken
ended bytes end from pieces = tokens_from bytes from pieces ++ token_at bytes end 0 token.End ∷ []

ascend_from : (pieces : List Piece) (restriction : Restriction) (bytes text : List ℕ) (end from at : ℕ) → Reaches restriction text pieces [] → at ≤ from → from + length text ≡ end → Ascends at (ended bytes end from pieces)
ascend_from [] restriction bytes text end from at h l e = (omega (arith, ap length h), omega arith, tt)
ascend_from (piece ∷ pieces) restriction bytes text end from at (rest, r, st, h) l e =
    by (kind_of piece.form) (λ next m. ascend_from pieces (after_piece restriction piece) bytes rest end (from + length piece.slice) next h m (omega (arith, e, ap length r, length-append piece.slice rest)))
  where
    by : (o : Option EsTokenKind) → ((next : ℕ) → next ≤ from + length piece.slice → Ascends next (ended bytes end (from + length piece.slice) pieces)) → Ascends at ((token_if bytes from (length piece.slice) o ++ tokens_from bytes (from + length piece.slice) pieces) ++ token_at bytes end 0 token.End ∷ [])
    by None more = more at (omega (arith, l))
    by (Some k) more = (l, omega arith, more (from + length piece.slice) (omega arith))

pub slices_ascend_is : SlicesAscend
slices_ascend_is bytes tokens h = subst (Ascends 0) (sym h.same) (ascend_from h.pieces Free bytes bytes (length bytes) 0 0 h.lexed (omega arith) (omega arith))

-- ---- numerals

pub below_safe : (n : ℕ) → nat_lt 9007199254740991 n ≡ false → n < 2 ^ 53
below_safe n e = grind (arith, common_steps)

bounded : (a b : Bool) (n found : ℕ) → (b ≡ false → n < 2 ^ 53) → cond (a || b) None (Some n) ≡ Some found → found < 2 ^ 53
bounded true b n found h e = cc
bounded false true n found h e = cc
bounded false false n found h e = let same : n ≡ found = cc in omega (arith, h refl)

numeral_safe : (digits : List ℕ) (found : ℕ) → numeral digits ≡ Some found → found < 2 ^ 53
unfolding numeral
numeral_safe digits found e = bounded (is_no_numeral digits) (nat_lt 9007199254740991 (value 0 digits)) (value 0 digits) found (below_safe (value 0 digits)) e

kind_safe : (form : Form) (bytes rest : List ℕ) → Stands form bytes rest → (k : EsTokenKind) → kind_of form ≡ Some k → IsSafeKind k
kind_safe (Num found) bytes rest h k e = subst IsSafeKind {x = token.Num (pos found)} {y = k} (let same : token.Num (pos found) ≡ k = cc in same) (found, refl, numeral_safe _ found h.0)
kind_safe (Word name) bytes rest h k e = subst IsSafeKind {x = token.Word name} {y = k} (let same : token.Word name ≡ k = cc in same) tt
kind_safe (Str text) bytes rest h k e = subst IsSafeKind {x = token.Str text} {y = k} (let same : token.Str text ≡ k = cc in same) tt
kind_safe (Mark mark) bytes rest h k e = subst IsSafeKind {x = token.Mark mark} {y = k} (let same : token.Mark mark ≡ k = cc in same) tt
kind_safe form bytes rest h k e = cc

safe_from : (pieces : List Piece) (restriction : Restriction) (bytes text rest : List ℕ) (end from : ℕ) → Reaches restriction text pieces rest → AllByRecursion IsSafe (ended bytes end from pieces)
safe_from [] restriction bytes text rest end from h = (tt, tt)
safe_from (piece ∷ pieces) restriction bytes text rest end from (mid, r, st, h) =
    by (kind_of piece.form) (kind_safe piece.form text mid st.stands) (safe_from pieces (after_piece restriction piece) bytes mid rest end (from + length piece.slice) h)
  where
    by : (o : Option EsTokenKind) → ((k : EsTokenKind) → o ≡ Some k → IsSafeKind k) → AllByRecursion IsSafe (ended bytes end (from + length piece.slice) pieces) → AllByRecursion IsSafe ((token_if bytes from (length piece.slice) o ++ tokens_from bytes (from + length piece.slice) pieces) ++ token_at bytes end 0 token.End ∷ [])
    by None safe more = more
    by (Some k) safe more = (safe k refl, more)

pub numerals_safe_is : NumeralsSafe
numerals_safe_is bytes tokens h = subst (AllByRecursion IsSafe) (sym h.same) (safe_from h.pieces Free bytes bytes [] (length bytes) 0 h.lexed)

-- ---- the end token

kind_not_end : (form : Form) (k : EsTokenKind) → kind_of form ≡ Some k → k ≡ token.End → ⊥
kind_not_end Space k e f = cc
kind_not_end Comment k e f = cc
kind_not_end (Word name) k e f = cc
kind_not_end (Num value) k e f = cc
kind_not_end (Str text) k e f = cc
kind_not_end (Mark mark) k e f = cc

one_more : (t : EsToken) (tokens : List EsToken) → (t.kind ≡ token.End → ⊥) → IsEnded tokens → IsEnded (t ∷ tokens)
one_more t [] n h = absurd h
one_more t (next ∷ tokens) n h = (n, h)

ended_from : (bytes : List ℕ) (pieces : List Piece) (from : ℕ) (end : EsToken) → end.kind ≡ token.End → IsEnded (tokens_from bytes from pieces ++ end ∷ [])
ended_from bytes [] from end e = e
ended_from bytes (piece ∷ pieces) from end e = by (kind_of piece.form) refl (ended_from bytes pieces (from + length piece.slice) end e)
  where
    by : (o : Option EsTokenKind) → kind_of piece.form ≡ o → IsEnded (tokens_from bytes (from + length piece.slice) pieces ++ end ∷ []) → IsEnded ((token_if bytes from (length piece.slice) o ++ tokens_from bytes (from + length piece.slice) pieces) ++ end ∷ [])
    by None f i = i
    by (Some k) f i = one_more (token_at bytes from (length piece.slice) k) (tokens_from bytes (from + length piece.slice) pieces ++ end ∷ []) (kind_not_end piece.form k f) i

-- the tokens of bytes end with their one end token
pub lexed_ended : (bytes : List ℕ) (tokens : List EsToken) → LexesTo bytes tokens → IsEnded tokens
lexed_ended bytes tokens h = subst IsEnded (sym h.same) (ended_from bytes h.pieces 0 (token_at bytes (length bytes) 0 token.End) refl)
