-- One more unit: the same end with one more left, or at most one more call of the host and nothing left. One clause for each step of a task; no clause for a kind of node.
use Rattle.std.proofs.Common.{◌≡◌, ℕ, zero, suc, ◌+◌, ◌≤◌, inl, inr, List, [], ◌∷◌, ◌++◌, refl, sym, ap, ◌∙◌, subst, arith}
use Rattle.ruby_meaning.specs.declared.tree.Node.{Node}
use Rattle.ruby_evaluation.specs.Tables.{Text}
use Rattle.ruby_evaluation.specs.Task.{Result, Request, Task, Done, Outside, Ask, Look, Change, Begins, Host, Moment, State, Outcome, Ends, Left, Starved, andthen, changed, noted, Eval, walk}
use Rattle.ruby_evaluation.specs.Requires.{Files}
use Rattle.ruby_evaluation.specs.Nodes.{perform}
use Rattle.ruby_evaluation.specs.Run.{eval_to, Bundled, program, first_state, outcome}
use Rattle.ruby_evaluation.specs.Laws.{OneMore, Step, Next, calls_of, HasEnded, with_left, OneUnitMore, MoreUnits, CallsGrow}

-- without units
abbrev Quiet : State → Outcome → Type 0
Quiet s (Ends r t l) = (l ≡ 0) × (t.calls ≡ s.calls)
Quiet s (Left t l) = (l ≡ 0) × (t.calls ≡ s.calls)
Quiet s (Starved t) = t.calls ≡ s.calls

record Slow (n : ℕ) (s : State) (o o' o0 : Outcome) : Type 0 where
  next : Next n o o'
  quiet : Quiet s o0

abbrev Cont : Type 0
Cont = Result → State → ℕ → Outcome

next_up : (n l : ℕ) (o o' : Outcome) → l ≤ n → Next l o o' → Next n o o'
next_up n l (Ends r s k) o' a x = (omega (arith, x.0), x.1)
next_up n l (Left s k) o' a x = (omega (arith, x.0), x.1)
next_up n l (Starved s) o' a x = x

more_same : (a b c : List Moment) → OneMore a b → c ≡ b → OneMore a c
more_same a b c (inl e) i = inl (i ∙ e)
more_same a b c (inr x) i = inr (x.0, i ∙ x.1)

step_quiet : (s t : State) (o : Outcome) → OneMore s.calls t.calls → Quiet t o → Step s o
step_quiet s t (Ends r u l) m q = (q.0, more_same _ _ _ m q.1)
step_quiet s t (Left u l) m q = (q.0, more_same _ _ _ m q.1)
step_quiet s t (Starved u) m q = more_same _ _ _ m q

step_then : (s : State) (o' : Outcome) (k' : Cont) → Step s o' → ((r : Result) (t : State) → Quiet t (k' r t 0)) → Step s (andthen o' k')
step_then s (Ends r t l) k' x q = step_quiet s t (k' r t l) x.1 (subst (λ z. Quiet t (k' r t z)) (sym x.0) (q r t))
step_then s (Left t l) k' x q = x
step_then s (Starved t) k' x q = x

quiet_same : (s t : State) (o : Outcome) → t.calls ≡ s.calls → Quiet t o → Quiet s o
quiet_same s t (Ends r u l) e q = (q.0, q.1 ∙ e)
quiet_same s t (Left u l) e q = (q.0, q.1 ∙ e)
quiet_same s t (Starved u) e q = q ∙ e

quiet_then : (s : State) (o : Outcome) (k' : Cont) → Quiet s o → ((r : Result) (t : State) → Quiet t (k' r t 0)) → Quiet s (andthen o k')
quiet_then s (Ends r t l) k' x q = quiet_same s t (k' r t l) x.1 (subst (λ z. Quiet t (k' r t z)) (sym x.0) (q r t))
quiet_then s (Left t l) k' x q = x
quiet_then s (Starved t) k' x q = x

abbrev SlowCont : ℕ → Cont → Cont → Type 0
SlowCont n k k' = (r : Result) (s : State) (l : ℕ) → l ≤ n → Slow l s (k r s l) (k' r s (suc l)) (k' r s 0)

slow_then : (n : ℕ) (s : State) (o o' o0 : Outcome) (k k' : Cont) → Slow n s o o' o0 → SlowCont n k k' → Slow n s (andthen o k) (andthen o' k') (andthen o0 k')
slow_then n s (Ends r t l) o' o0 k k' x h = record {
  next = subst (λ z. Next n (k r t l) (andthen z k')) (sym x.next.1) (next_up n l _ _ x.next.0 (h r t l x.next.0).next);
  quiet = quiet_then s o0 k' x.quiet (λ r1 u. (h r1 u 0 (omega arith)).quiet);
}
slow_then n s (Left t l) o' o0 k k' x h = record {
  next = (x.next.0, ap (λ z. andthen z k') x.next.1);
  quiet = quiet_then s o0 k' x.quiet (λ r1 u. (h r1 u 0 (omega arith)).quiet);
}
slow_then n s (Starved t) o' o0 k k' x h = record {
  next = step_then t o' k' x.next (λ r1 u. (h r1 u 0 (omega arith)).quiet);
  quiet = quiet_then s o0 k' x.quiet (λ r1 u. (h r1 u 0 (omega arith)).quiet);
}

one_of_quiet : (s : State) (o : Outcome) → Quiet s o → Step s o
one_of_quiet s (Ends r t l) q = (q.0, inl q.1)
one_of_quiet s (Left t l) q = (q.0, inl q.1)
one_of_quiet s (Starved t) q = inl q

abbrev SlowRun : ℕ → Eval → Eval → Type 0
SlowRun N f f' = (q : Request) (s : State) (n : ℕ) → n ≤ N → Slow n s (f q s n) (f' q s (suc n)) (f' q s 0)

slow_walk : (N : ℕ) (f f' : Eval) → SlowRun N f f' → (t : Task) (s : State) (n : ℕ) → n ≤ N → Slow n s (walk f t s n) (walk f' t s (suc n)) (walk f' t s 0)
slow_walk N f f' h (Done r) s n a = record { next = (omega arith, refl); quiet = (refl, refl) }
slow_walk N f f' h Outside s n a = record { next = (omega arith, refl); quiet = (refl, refl) }
slow_walk N f f' h (Ask q k) s n a = slow_then n s _ _ _ _ _ (h q s n a) (λ r t l b. slow_walk N f f' h (k r) t l (omega arith))
slow_walk N f f' h (Look k) s n a = slow_walk N f f' h (k s.ruby) s n a
slow_walk N f f' h (Change c t) s n a = let x = slow_walk N f f' h t (changed c s) n a in record { next = x.next; quiet = quiet_same s (changed c s) _ refl x.quiet }
slow_walk N f f' h (Begins t) s zero a = let x = slow_walk N f f' h t s 0 a in record { next = one_of_quiet s _ x.quiet; quiet = refl }
slow_walk N f f' h (Begins t) s (suc n) a = let x = slow_walk N f f' h t s n (omega arith) in record { next = next_up (suc n) n _ _ (omega arith) x.next; quiet = refl }
slow_walk N f f' h (Host c t) s zero a = let x = slow_walk N f f' h t (noted c s) 0 a in record { next = step_quiet s (noted c s) _ (inr (record { call = c; before = s.ruby }, refl)) x.quiet; quiet = refl }
slow_walk N f f' h (Host c t) s (suc n) a = let x = slow_walk N f f' h t (noted c s) n (omega arith) in record { next = next_up (suc n) n _ _ (omega arith) x.next; quiet = refl }

slow_none : (files : Files) → SlowRun 0 (eval_to files 0) (eval_to files 0)
unfolding eval_to
slow_none files q s n a = record { next = inl refl; quiet = refl }

slow_eval : (files : Files) (d : ℕ) → SlowRun d (eval_to files d) (eval_to files (suc d))
unfolding eval_to
slow_eval files zero q s zero a = record { next = one_of_quiet s _ (slow_walk 0 (eval_to files 0) (eval_to files 0) (slow_none files) (perform files q) s 0 (omega arith)).quiet; quiet = refl }
slow_eval files zero q s (suc n) a = absurd (omega arith)
slow_eval files (suc d) q s zero a = record { next = one_of_quiet s _ (slow_walk d (eval_to files d) (eval_to files (suc d)) (slow_eval files d) (perform files q) s 0 (omega arith)).quiet; quiet = refl }
slow_eval files (suc d) q s (suc n) a =
    let x = slow_walk d (eval_to files d) (eval_to files (suc d)) (slow_eval files d) (perform files q) s n (omega arith) in
    record { next = next_up (suc n) n _ _ (omega arith) x.next; quiet = refl }

pub one_unit_more : OneUnitMore
unfolding outcome
one_unit_more core b input n =
    (slow_walk n (eval_to b.files n) (eval_to b.files (suc n)) (slow_eval b.files n) (program core b) (first_state input) n (omega arith)).next

-- ---- more units

left_none : (o : Outcome) → with_left 0 o ≡ o
left_none (Ends r s l) = ap (Ends r s) (let e : l + 0 ≡ l = omega arith in e)
left_none (Left s l) = ap (Left s) (let e : l + 0 ≡ l = omega arith in e)
left_none (Starved s) = refl

left_more : (n k : ℕ) (o o' : Outcome) → HasEnded o → Next n (with_left k o) o' → o' ≡ with_left (suc k) o
left_more n k (Ends r s l) o' h x = x.1 ∙ ap (Ends r s) (let e : suc (l + k) ≡ l + suc k = omega arith in e)
left_more n k (Left s l) o' h x = x.1 ∙ ap (Left s) (let e : suc (l + k) ≡ l + suc k = omega arith in e)
left_more n k (Starved s) o' h x = absurd h

more : (core : Node) (b : Bundled) (input : Text) (n : ℕ) → HasEnded (outcome core b input n) → (k m : ℕ) → m ≡ n + k → outcome core b input m ≡ with_left k (outcome core b input n)
more core b input n h zero m p = ap (λ z. outcome core b input z) (let e : m ≡ n = omega (arith, p) in e) ∙ sym (left_none (outcome core b input n))
more core b input n h (suc k) m p =
    let ih = more core b input n h k (n + k) refl in
    let x : Next (n + k) (with_left k (outcome core b input n)) (outcome core b input (suc (n + k))) = subst (λ z. Next (n + k) z (outcome core b input (suc (n + k)))) ih (one_unit_more core b input (n + k)) in
    ap (λ z. outcome core b input z) (let e : m ≡ suc (n + k) = omega (arith, p) in e) ∙ left_more (n + k) k (outcome core b input n) (outcome core b input (suc (n + k))) h x

pub more_units : MoreUnits
more_units core b input n k h = more core b input n h k (n + k) refl

-- ---- calls grow

one_grows : (a c : List Moment) → OneMore a c → (later : List Moment) × (c ≡ later ++ a)
one_grows a c (inl e) = ([], e)
one_grows a c (inr x) = (x.0 ∷ [], x.1)

step_grows : (n : ℕ) (o o' : Outcome) → Next n o o' → (later : List Moment) × (calls_of o' ≡ later ++ calls_of o)
step_grows n (Ends r s l) o' x = ([], ap calls_of x.1)
step_grows n (Left s l) o' x = ([], ap calls_of x.1)
step_grows n (Starved s) (Ends r t l) x = one_grows s.calls t.calls x.1
step_grows n (Starved s) (Left t l) x = one_grows s.calls t.calls x.1
step_grows n (Starved s) (Starved t) x = one_grows s.calls t.calls x

joined : (xs ys zs : List Moment) → xs ++ (ys ++ zs) ≡ (xs ++ ys) ++ zs
joined [] ys zs = refl
joined (x ∷ xs) ys zs = ap (λ r. x ∷ r) (joined xs ys zs)

grow : (core : Node) (b : Bundled) (input : Text) (n k m : ℕ) → m ≡ n + k → (later : List Moment) × (calls_of (outcome core b input m) ≡ later ++ calls_of (outcome core b input n))
grow core b input n zero m p = ([], ap (λ z. calls_of (outcome core b input z)) (let x : m ≡ n = omega (arith, p) in x))
grow core b input n (suc k) m p =
    let ih = grow core b input n k (n + k) refl in
    let x = step_grows (n + k) (outcome core b input (n + k)) (outcome core b input (suc (n + k))) (one_unit_more core b input (n + k)) in
    (x.0 ++ ih.0, ap (λ z. calls_of (outcome core b input z)) (let y : m ≡ suc (n + k) = omega (arith, p) in y) ∙ x.1 ∙ ap (λ z. x.0 ++ z) ih.1 ∙ joined x.0 ih.0 (calls_of (outcome core b input n)))

pub calls_grow : CallsGrow
calls_grow core b input n k = grow core b input n k (n + k) refl
