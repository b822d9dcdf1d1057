-- Readers as loops.
use Rattle.std.proofs.Common.{◌≡◌, ℕ, zero, suc, Bool, true, false, List, [], ◌∷◌, ◌++◌, Result, Ok, Err, refl, sym, ap, ◌∙◌, append_assoc, append-nil}
use Rattle.std.specs.Prelude.{if◌then◌else◌}
use Rattle.grammar.specs.FormReaders.{and_then, next_in, read_many, read_many_from}

module _ {T A : Type 0} (first : T → Bool) (p : List T → Result (A × List T) (List T)) where
  abbrev behind : List A → Result (List A × List T) (List T) → Result (List A × List T) (List T)
  behind found o = and_then o (λ ys r. Ok (found ++ ys, r))

  again : (found : List A) (a : A) (o : Result (List A × List T) (List T)) → behind (found ++ a ∷ []) o ≡ behind found (and_then o (λ ys r. Ok (a ∷ ys, r)))
  again found a (Ok y) = ap (λ z. Ok (z, y.1)) (append_assoc found (a ∷ []) y.0)
  again found a (Err y) = refl

  pub read_many_from_is : (n : ℕ) (found : List A) (ts : List T) → read_many_from first p n found ts ≡ behind found (read_many first p n ts)
  unfolding read_many_from
  read_many_from_is zero found ts = ap (λ z. Ok (z, ts)) (sym (append-nil found))
  read_many_from_is (suc n) found ts = by (λ a r. read_many_from_is n (found ++ a ∷ []) r) (next_in first ts) (p ts)
    where
      by : ((a : A) (r : List T) → read_many_from first p n (found ++ a ∷ []) r ≡ behind (found ++ a ∷ []) (read_many first p n r)) → (c : Bool) (o : Result (A × List T) (List T))
          → (if c then and_then o (λ a rest. read_many_from first p n (found ++ a ∷ []) rest) else Ok (found, ts))
          ≡ behind found (if c then and_then o (λ a rest. and_then (read_many first p n rest) (λ xs after. Ok (a ∷ xs, after))) else Ok ([], ts))
      by go true (Ok y) = go y.0 y.1 ∙ again found y.0 (read_many first p n y.1)
      by go true (Err y) = refl
      by go false o = ap (λ z. Ok (z, ts)) (sym (append-nil found))

-- what is read behind two readers is read behind the second
pub and_then_assoc : {T A B C : Type 0} (o : Result (A × List T) (List T)) (f : A → List T → Result (B × List T) (List T)) (g : B → List T → Result (C × List T) (List T))
    → and_then (and_then o f) g ≡ and_then o (λ a r. and_then (f a r) g)
and_then_assoc (Ok y) f g = refl
and_then_assoc (Err y) f g = refl

pub and_then_same : {T A B : Type 0} (o : Result (A × List T) (List T)) (f g : A → List T → Result (B × List T) (List T)) → ((a : A) (r : List T) → f a r ≡ g a r) → and_then o f ≡ and_then o g
and_then_same (Ok y) f g h = h y.0 y.1
and_then_same (Err y) f g h = refl
