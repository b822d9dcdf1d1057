-- Parentheses that make no node, read without recursion: the openings are counted, and closed one after the other.
use Rattle.std.proofs.Common.{◌≡◌, ℕ, zero, suc, Bool, true, false, List, [], ◌∷◌, Result, Ok, Err, refl, sym, ap, ◌∙◌}
use Rattle.std.specs.Prelude.{if◌then◌else◌}
use Rattle.grammar.specs.FormReaders.{and_then, next_in, openings, behind_openings, close_all}
use Rattle.grammar.proofs.Loops.{and_then_assoc, and_then_same}

keep : {T A : Type 0} (o : Result (A × List T) (List T)) → and_then o (λ a r. Ok (a, r)) ≡ o
keep (Ok y) = refl
keep (Err y) = refl

-- A primary is an atom or an expression in parentheses, and an expression goes on behind a primary.
module _ {T A B : Type 0} (opens : T → Bool) (atom primary : List T → Result (A × List T) (List T)) (expression : List T → Result (B × List T) (List T))
    (resume : A → List T → Result (B × List T) (List T)) (close : B → List T → Result (A × List T) (List T)) where
  one_more : (n : ℕ) (a : A) (ts : List T) → and_then (close_all resume close n a ts) (λ c r. and_then (resume c r) close) ≡ close_all resume close (suc n) a ts
  unfolding close_all
  one_more zero a ts = and_then_same (resume a ts) close (λ e rest. and_then (close e rest) (λ c after. Ok (c, after))) (λ e rest. sym (keep (close e rest)))
  one_more (suc n) a ts =
      and_then_assoc (resume a ts) (λ e rest. and_then (close e rest) (λ c after. close_all resume close n c after)) (λ c r. and_then (resume c r) close)
      ∙ and_then_same (resume a ts) (λ e rest. and_then (and_then (close e rest) (λ c after. close_all resume close n c after)) (λ c r. and_then (resume c r) close))
      (λ e rest. and_then (close e rest) (λ c after. close_all resume close (suc n) c after))
      (λ e rest. and_then_assoc (close e rest) (λ c after. close_all resume close n c after) (λ c r. and_then (resume c r) close)
      ∙ and_then_same (close e rest) (λ c after. and_then (close_all resume close n c after) (λ c r. and_then (resume c r) close)) (λ c after. close_all resume close (suc n) c after) (λ c after. one_more n c after))

  module _ (by_primary : (ts : List T) → expression ts ≡ and_then (primary ts) resume)
      (opened : (t : T) (ts : List T) → opens t ≡ true → primary (t ∷ ts) ≡ and_then (expression ts) close)
      (not_opened : (ts : List T) → next_in opens ts ≡ false → primary ts ≡ atom ts) where
    pub without_recursion : (ts : List T) → primary ts ≡ and_then (atom (behind_openings opens ts)) (λ a rest. close_all resume close (openings opens ts) a rest)
    unfolding close_all
    without_recursion [] = not_opened [] refl ∙ sym (keep (atom []))
    without_recursion (t ∷ r) = by (without_recursion r) (opens t) refl
      where
        by : primary r ≡ and_then (atom (behind_openings opens r)) (λ a rest. close_all resume close (openings opens r) a rest) → (c : Bool) → opens t ≡ c
            → primary (t ∷ r) ≡ and_then (atom (if c then behind_openings opens r else t ∷ r)) (λ a rest. close_all resume close (if c then suc (openings opens r) else 0) a rest)
        by h false e = not_opened (t ∷ r) e ∙ sym (keep (atom (t ∷ r)))
        by h true e =
            let last : A → List T → Result (A × List T) (List T) = λ c r. and_then (resume c r) close in
            let inner : A → List T → Result (A × List T) (List T) = λ a rest. close_all resume close (openings opens r) a rest in
            opened t r e ∙ ap (λ o. and_then o close) (by_primary r) ∙ and_then_assoc (primary r) resume close
            ∙ ap (λ o. and_then o last) h ∙ and_then_assoc (atom (behind_openings opens r)) inner last
            ∙ and_then_same (atom (behind_openings opens r)) (λ a rest. and_then (inner a rest) last) (λ a rest. close_all resume close (suc (openings opens r)) a rest) (λ a rest. one_more (openings opens r) a rest)
