-- Tokens that are skipped.
use Rattle.std.proofs.Common.{◌≡◌, ℕ, zero, suc, ◌≤◌, Bool, true, false, List, [], ◌∷◌, length, Some, None, Result, Ok, Err, refl, ap, ◌∙◌, arith}
use Rattle.std.specs.Prelude.{if◌then◌else◌, ◌&&◌}
use Rattle.grammar.specs.FormReaders.{and_then, next_in, read_many, read_one_token, read_token}
use Rattle.grammar.specs.Spelling.{token_in, token_such}
use Rattle.ruby_meaning.specs.Grammar.Seen.{Seen}
use Rattle.ruby_reading.specs.Ahead.{class_code}
use Rattle.ruby_parameters.specs.Parameters.{those, behind_those, behind_one}

module _ (f : ℕ → Bool) where
  abbrev Many : ℕ → List Seen → Result (List Seen × List Seen) (List Seen)
  Many n ts = read_many (λ t. f (class_code t)) (read_token (token_in class_code f)) n ts

  pub many_skipped : (n : ℕ) (ts : List Seen) → length ts ≤ n → Many n ts ≡ Ok (those f ts, behind_those f ts)
  many_skipped zero [] h = refl
  many_skipped zero (t ∷ ts) h = absurd (omega arith)
  many_skipped (suc n) [] h = refl
  many_skipped (suc n) (t ∷ ts) h = by (f (class_code t)) (many_skipped n ts (omega arith))
    where
      by : (c : Bool) → Many n ts ≡ Ok (those f ts, behind_those f ts)
          → (if c then and_then (read_one_token (if c then Some t else None) t ts) (λ a rest. and_then (Many n rest) (λ xs after. Ok (a ∷ xs, after))) else Ok ([], t ∷ ts))
          ≡ Ok ((if c then t ∷ those f ts else []), (if c then behind_those f ts else t ∷ ts))
      by true e = ap (λ o. and_then o (λ xs after. Ok (t ∷ xs, after))) e
      by false e = refl

  pub many_all_skipped : (ts rest : List Seen) → behind_those f ts ≡ rest → Many (length ts) ts ≡ Ok (those f ts, rest)
  many_all_skipped ts rest e = many_skipped (length ts) ts (omega arith) ∙ ap (λ r. Ok (those f ts, r)) e

  pub none_skipped : (ts : List Seen) → next_in (λ t. f (class_code t)) ts ≡ false → behind_those f ts ≡ behind_one f ts
  none_skipped [] e = refl
  none_skipped (t ∷ ts) e = rw e refl

  pub one_skipped : (ts : List Seen) → behind_those f (behind_one f ts) ≡ behind_those f ts
  one_skipped [] = refl
  one_skipped (t ∷ ts) = by (f (class_code t)) refl
    where
      by : (c : Bool) → f (class_code t) ≡ c → behind_those f (if c then ts else t ∷ ts) ≡ (if c then behind_those f ts else t ∷ ts)
      by true e = refl
      by false e = rw e refl

  pub one_fewer : (ts : List Seen) → next_in (λ t. f (class_code t)) ts ≡ true → suc (length (behind_one f ts)) ≡ length ts
  one_fewer [] e = cc
  one_fewer (t ∷ ts) e = rw e refl

  pub nothing_left : (ts : List Seen) → length ts ≤ 0 → behind_those f ts ≡ ts
  nothing_left [] h = refl
  nothing_left (t ∷ ts) h = absurd (omega arith)

taken_rest : (c : Bool) (t a : Seen) (ts rest : List Seen) → read_one_token (if c then Some t else None) t ts ≡ Ok (a, rest) → length ts ≡ length rest
taken_rest true t a ts rest e = let f : ◌≡◌ {A = Seen × List Seen} (t, ts) (a, rest) = cc in ap (λ z. length z.1) f
taken_rest false t a ts rest e = cc

pub one_fewer_taken : (f : ℕ → Bool) (ts rest : List Seen) (a : Seen) → read_token (token_in class_code f) ts ≡ Ok (a, rest) → length ts ≡ suc (length rest)
one_fewer_taken f [] rest a e = cc
one_fewer_taken f (t ∷ ts) rest a e = ap suc (taken_rest (f (class_code t)) t a ts rest e)

-- a token that meets a condition
pub such_taken : (f : ℕ → Bool) (ok : Seen → Bool) (ts : List Seen) → next_in ok ts ≡ true → read_token (token_such class_code f ok) ts ≡ read_token (token_in class_code f) ts
such_taken f ok [] e = refl
such_taken f ok (t ∷ ts) e = by (f (class_code t)) (ok t) e
  where
    by : (c o : Bool) → o ≡ true → read_one_token (if c && o then Some t else None) t ts ≡ read_one_token (if c then Some t else None) t ts
    by true true e = refl
    by false true e = refl
    by c false e = cc

pub such_refused : (f : ℕ → Bool) (ok : Seen → Bool) (ts : List Seen) → next_in ok ts ≡ false → read_token (token_such class_code f ok) ts ≡ Err ts
such_refused f ok [] e = refl
such_refused f ok (t ∷ ts) e = by (f (class_code t)) (ok t) e
  where
    by : (c o : Bool) → o ≡ false → read_one_token (if c && o then Some t else None) t ts ≡ Err (t ∷ ts)
    by true false e = refl
    by false false e = refl
    by c true e = cc
