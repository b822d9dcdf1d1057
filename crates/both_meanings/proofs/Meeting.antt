-- States of both sides, one after the other.
use Rattle.std.proofs.Common.{◌≡◌, ℕ, zero, suc, List, [], ◌∷◌, ◌++◌, length, Some, refl, sym, ap, ◌∙◌, subst, append_assoc, append-nil}
use Rattle.std.specs.List.{slice_get}
use Rattle.es5_evaluation.specs.State as es
use Rattle.ruby_evaluation.specs.State.{Ruby}
use Rattle.ruby_evaluation.specs.Task.{Moment}
use Rattle.ruby_evaluation.specs.Run.{befores}
use Rattle.both_meanings.specs.Agree.{Relation}
use Rattle.both_meanings.specs.Follows.{Carried, Met}

pub befores_both : (later earlier : List Moment) → befores (later ++ earlier) ≡ befores earlier ++ befores later
befores_both [] earlier = sym (append-nil (befores earlier))
befores_both (m ∷ later) earlier = ap (λ l. l ++ m.before ∷ []) (befores_both later earlier) ∙ append_assoc (befores earlier) (befores later) (m.before ∷ [])

pub carried_both : (C : Relation) (rs qs : List Ruby) (vs ws : List es.State) → Carried C rs vs → Carried C qs ws → Carried C (rs ++ qs) (vs ++ ws)
carried_both C [] qs [] ws a b = b
carried_both C [] qs (v ∷ vs) ws a b = absurd a
carried_both C (r ∷ rs) qs [] ws a b = absurd a
carried_both C (r ∷ rs) qs (v ∷ vs) ws a b = (a.0, carried_both C rs qs vs ws a.1 b)

pub carried_length : (C : Relation) (rs : List Ruby) (vs : List es.State) → Carried C rs vs → length rs ≡ length vs
carried_length C [] [] a = refl
carried_length C [] (v ∷ vs) a = absurd a
carried_length C (r ∷ rs) [] a = absurd a
carried_length C (r ∷ rs) (v ∷ vs) a = ap suc (carried_length C rs vs a.1)

pub carried_at : (C : Relation) (rs : List Ruby) (vs : List es.State) (k : ℕ) (r : Ruby) (s : es.State) → Carried C rs vs → slice_get rs k ≡ Some r → slice_get vs k ≡ Some s → C r s
carried_at C [] vs k r s a x y = cc
carried_at C (q ∷ rs) [] k r s a x y = absurd a
carried_at C (q ∷ rs) (v ∷ vs) zero r s a x y = let e : q ≡ r = cc in let f : v ≡ s = cc in subst (λ w. C w s) e (subst (λ w. C q w) f a.0)
carried_at C (q ∷ rs) (v ∷ vs) (suc k) r s a x y = carried_at C rs vs k r s a.1 x y

pub met_none : (C : Relation) (c : List Moment) → Met C c c []
met_none C c = record { later = []; is = refl; carried = tt }

pub met_both : (C : Relation) (c0 c1 c2 : List Moment) (vs ws : List es.State) → Met C c0 c1 vs → Met C c1 c2 ws → Met C c0 c2 (vs ++ ws)
met_both C c0 c1 c2 vs ws a b = record {
  later = b.later ++ a.later;
  is = b.is ∙ ap (λ l. b.later ++ l) a.is ∙ sym (append_assoc b.later a.later c0);
  carried = subst (λ l. Carried C l (vs ++ ws)) (sym (befores_both b.later a.later)) (carried_both C (befores a.later) (befores b.later) vs ws a.carried b.carried);
}

-- ---- what stands at a place

pub at_front : {A : Type 0} (xs ys : List A) (k : ℕ) (x : A) → slice_get xs k ≡ Some x → slice_get (xs ++ ys) k ≡ Some x
at_front [] ys k x e = cc
at_front (y ∷ xs) ys zero x e = e
at_front (y ∷ xs) ys (suc k) x e = at_front xs ys k x e

pub one_there : {A : Type 0} (xs : List A) (k : ℕ) (x y : A) → slice_get xs k ≡ Some x → slice_get xs k ≡ Some y → x ≡ y
one_there xs k x y e f = cc
