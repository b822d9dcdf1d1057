-- The walk of one task after another, and that more depth changes nothing.
use Rattle.std.proofs.Common.{◌≡◌, ℕ, zero, suc, ◌≤◌, refl, ap, ◌∙◌, arith}
use Rattle.ruby_evaluation.specs.Task.{Result, Request, Task, Done, Outside, Ask, Look, Change, Begins, Host, State, Outcome, Ends, Left, Starved, andthen, changed, noted, Eval, walk}
use Rattle.ruby_evaluation.specs.Requires.{Files}
use Rattle.ruby_evaluation.specs.Nodes.{perform}
use Rattle.ruby_evaluation.specs.Run.{eval_to}
use Rattle.ruby_evaluation.specs.Laws.{WalkThen, DepthEnough}

abbrev Cont : Type 0
Cont = Result → State → ℕ → Outcome

then_each : (o : Outcome) (a b c : Cont) → ((r : Result) (s : State) (l : ℕ) → a r s l ≡ andthen (b r s l) c) → andthen o a ≡ andthen (andthen o b) c
then_each (Ends r s l) a b c h = h r s l
then_each (Left s l) a b c h = refl
then_each (Starved s) a b c h = refl

pub walk_then : WalkThen
walk_then f (Done r) k s g = refl
walk_then f Outside k s g = refl
walk_then f (Ask q j) k s g = then_each (f q s g) _ _ _ (λ r u l. walk_then f (j r) k u l)
walk_then f (Look j) k s g = walk_then f (j s.ruby) k s g
walk_then f (Change c t) k s g = walk_then f t k (changed c s) g
walk_then f (Begins t) k s zero = refl
walk_then f (Begins t) k s (suc g) = walk_then f t k s g
walk_then f (Host c t) k s zero = refl
walk_then f (Host c t) k s (suc g) = walk_then f t k (noted c s) g

-- ---- depth

abbrev left : Outcome → ℕ
left (Ends r s l) = l
left (Left s l) = l
left (Starved s) = 0

record Same (n : ℕ) (o o' : Outcome) : Type 0 where
  is : o' ≡ o
  less : left o ≤ n

same_then : (n : ℕ) (o o' : Outcome) (k k' : Cont) → Same n o o' → ((r : Result) (s : State) (l : ℕ) → l ≤ n → Same l (k r s l) (k' r s l)) → Same n (andthen o k) (andthen o' k')
same_then n (Ends r s l) o' k k' x h =
    let y = h r s l x.less in record { is = ap (λ z. andthen z k') x.is ∙ y.is; less = omega (arith, x.less, y.less) }
same_then n (Left s l) o' k k' x h = record { is = ap (λ z. andthen z k') x.is; less = x.less }
same_then n (Starved s) o' k k' x h = record { is = ap (λ z. andthen z k') x.is; less = omega arith }

abbrev SameRun : ℕ → Eval → Eval → Type 0
SameRun N f f' = (q : Request) (s : State) (n : ℕ) → n ≤ N → Same n (f q s n) (f' q s n)

same_walk : (N : ℕ) (f f' : Eval) → SameRun N f f' → (t : Task) (s : State) (n : ℕ) → n ≤ N → Same n (walk f t s n) (walk f' t s n)
same_walk N f f' h (Done r) s n a = record { is = refl; less = omega arith }
same_walk N f f' h Outside s n a = record { is = refl; less = omega arith }
same_walk N f f' h (Ask q k) s n a = same_then n _ _ _ _ (h q s n a) (λ r u l b. same_walk N f f' h (k r) u l (omega arith))
same_walk N f f' h (Look k) s n a = same_walk N f f' h (k s.ruby) s n a
same_walk N f f' h (Change c t) s n a = same_walk N f f' h t (changed c s) n a
same_walk N f f' h (Begins t) s zero a = record { is = refl; less = omega arith }
same_walk N f f' h (Begins t) s (suc n) a = let x = same_walk N f f' h t s n (omega arith) in record { is = x.is; less = omega (arith, x.less) }
same_walk N f f' h (Host c t) s zero a = record { is = refl; less = omega arith }
same_walk N f f' h (Host c t) s (suc n) a = let x = same_walk N f f' h t (noted c s) n (omega arith) in record { is = x.is; less = omega (arith, x.less) }

same_eval : (files : Files) (d : ℕ) → SameRun d (eval_to files d) (eval_to files (suc d))
unfolding eval_to
same_eval files zero q s zero a = record { is = refl; less = omega arith }
same_eval files zero q s (suc n) a = absurd (omega arith)
same_eval files (suc d) q s zero a = record { is = refl; less = omega arith }
same_eval files (suc d) q s (suc n) a =
    let x = same_walk d (eval_to files d) (eval_to files (suc d)) (same_eval files d) (perform files q) s n (omega arith) in
    record { is = x.is; less = omega (arith, x.less) }

pub depth_enough : DepthEnough
depth_enough files d q s g a = (same_eval files d q s g a).is
