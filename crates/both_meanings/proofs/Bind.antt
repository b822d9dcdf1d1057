-- How what follows an outcome composes.
use Rattle.std.proofs.Common.{◌≡◌, ℕ, ◌+◌, ◌*◌, ◌≤◌, List, [], ◌++◌, refl, sym, ap, ◌∙◌, subst, arith, append-nil}
use Rattle.es5_tree.specs.Ends.{Number}
use Rattle.opal_base.specs.declared.place.Pos.{Pos}
use Rattle.es5_evaluation.specs.State as es
use Rattle.es5_evaluation.specs.Task.{Completion, Request, Task, Done, Leaves, Ask, ◌>>=◌}
use Rattle.es5_evaluation.specs.Run.{behind, run_on}
use Rattle.es5_evaluation.proofs.TaskRuns.{run_then, run_leaves, run_starves}
use Rattle.es5_rules.specs.Moments.{moments, moments_on}
use Rattle.es5_rules.specs.Steps.{Steps}
use Rattle.es5_rules.proofs.Moments.{moments_then, moments_leaves, moments_starves}
use Rattle.es5_rules.proofs.Steps.{steps_refl, steps_trans, steps_on}
use Rattle.ruby_evaluation.specs.Task.{Result, Val, Jump, Moment, State, Outcome, Ends, Left, Starved, andthen}
use Rattle.ruby_evaluation.specs.Task as ruby
use Rattle.both_meanings.specs.Agree.{Relation}
use Rattle.both_meanings.specs.Follows.{calls_of, Met, ahead, Post, Follows}
use Rattle.both_meanings.proofs.Meeting.{met_none, met_both}

-- ---- the script goes on before

pub follows_pre : {C : Relation} {c0 c1 : List Moment} {n a l a2 m : ℕ} {o : Outcome} {t u : Task} {s z : es.State} {vs : List es.State} {P : Post} → Steps t s m u z vs → Met C c0 c1 vs → l ≤ n → n + a2 ≤ l + 1000 * m + a → Follows C c1 l a2 o u z P → Follows C c0 n a o t s P
follows_pre {C} {c0} {c1} {m = m} {o = Ends r st x} {vs = vs} e met b1 b2 f =
    let f1 = f.by in
    record { by = record { m = m + f1.m; c = f1.c; z = f1.z; vs = vs ++ f1.vs; runs = steps_trans e f1.runs; met = met_both C c0 c1 _ vs f1.vs met f1.met; post = f1.post; less = omega (arith, f1.less, b1); steps = omega (arith, f1.steps, b2, b1) } }
follows_pre {C} {c0} {c1} {m = m} {o = Left st x} {vs = vs} e met b1 b2 f =
    let f1 = f.by in
    record {
      by = record {
        m = m + f1.m;
        place = f1.place;
        z = f1.z;
        vs = vs ++ f1.vs;
        leaves = λ g k i. e.runs g (f1.m + k) (omega (arith, i)) ∙ f1.leaves (f1.m + k) k refl;
        sees = λ g k i. e.sees g (f1.m + k) (omega (arith, i)) ∙ ap (λ l. vs ++ l) (f1.sees (f1.m + k) k refl);
        met = met_both C c0 c1 _ vs f1.vs met f1.met;
        same = f1.same;
        less = omega (arith, f1.less, b1);
        steps = omega (arith, f1.steps, b2, b1);
      };
    }
follows_pre {C} {c0} {c1} {m = m} {o = Starved st} {vs = vs} e met b1 b2 f =
    let f1 = f.by in
    record {
      by = record {
        m = m + f1.m;
        z = f1.z;
        vs = vs ++ f1.vs;
        stops = e.runs (m + f1.m) f1.m refl ∙ f1.stops;
        sees = e.sees (m + f1.m) f1.m refl ∙ ap (λ l. vs ++ l) f1.sees;
        met = met_both C c0 c1 _ vs f1.vs met f1.met;
        same = f1.same;
        steps = omega (arith, f1.steps, b2);
      };
    }

-- without a call of the host
pub follows_quiet : {C : Relation} {c0 : List Moment} {n a l a2 m : ℕ} {o : Outcome} {t u : Task} {s z : es.State} {P : Post} → Steps t s m u z [] → l ≤ n → n + a2 ≤ l + 1000 * m + a → Follows C c0 l a2 o u z P → Follows C c0 n a o t s P
follows_quiet {C} {c0} e b1 b2 f = follows_pre e (met_none C c0) b1 b2 f

-- ---- one computation after another

-- the allowance of what comes after a result
abbrev pub after : Result → ℕ → ℕ → ℕ
after (Val v) av aj = av
after (ruby.Leaves j) av aj = aj

after_fits : (r : Result) (a1 a av aj : ℕ) → a1 + av ≤ a + 120 → a1 + aj ≤ a → a1 + after r av aj ≤ a + ahead r
after_fits (Val v) a1 a av aj x y = x
after_fits (ruby.Leaves j) a1 a av aj x y = omega (arith, y)

-- what is left of the units, at most
abbrev pub left : Outcome → ℕ
left (Ends r st l) = l
left (Left st l) = l
left (Starved st) = 0

-- u bounds what is left
pub follows_then_in : {C : Relation} {c0 : List Moment} {n u a1 a av aj : ℕ} {o : Outcome} {k : Result → State → ℕ → Outcome} {t : Task} {kk : Completion → Task} {s : es.State} (P : Post) {Q : Post} → a1 + av ≤ a + 120 → a1 + aj ≤ a → left o ≤ u → Follows C c0 n a1 o t s P → ((r : Result) (st : State) (l : ℕ) (c : Completion) (z : es.State) → P r st c z → l ≤ n → l ≤ u → Follows C st.calls l (after r av aj) (k r st l) (kk c) z Q) → Follows C c0 n a (andthen o k) (t >>= kk) s Q
follows_then_in {n = n} {u = u} {a1 = a1} {a = a} {av = av} {aj = aj} {o = Ends r st l} {kk = kk} P x y b f next =
    let f1 = f.by in
    follows_pre (steps_on kk f1.runs) f1.met f1.less (omega (arith, f1.steps, after_fits r a1 a av aj x y)) (next r st l f1.c f1.z f1.post f1.less b)
follows_then_in {o = Left st l} {t = t} {kk = kk} {s = s} P x y b f next =
    let f1 = f.by in
    record {
      by = record {
        m = f1.m;
        place = f1.place;
        z = f1.z;
        vs = f1.vs;
        leaves = λ g k i. run_then g t kk s ∙ ap (λ o. behind o (run_on kk)) (f1.leaves g k i);
        sees = λ g k i. moments_then g t kk s ∙ ap (λ o. moments g t s ++ moments_on kk o) (f1.leaves g k i) ∙ append-nil (moments g t s) ∙ f1.sees g k i;
        met = f1.met;
        same = f1.same;
        less = f1.less;
        steps = omega (arith, f1.steps, y);
      };
    }
follows_then_in {o = Starved st} {t = t} {kk = kk} {s = s} P x y b f next =
    let f1 = f.by in
    record {
      by = record {
        m = f1.m;
        z = f1.z;
        vs = f1.vs;
        stops = run_then f1.m t kk s ∙ ap (λ o. behind o (run_on kk)) f1.stops;
        sees = moments_then f1.m t kk s ∙ ap (λ o. moments f1.m t s ++ moments_on kk o) f1.stops ∙ append-nil (moments f1.m t s) ∙ f1.sees;
        met = f1.met;
        same = f1.same;
        steps = omega (arith, f1.steps, y);
      };
    }

pub follows_then : {C : Relation} {c0 : List Moment} {n a1 a av aj : ℕ} {o : Outcome} {k : Result → State → ℕ → Outcome} {t : Task} {kk : Completion → Task} {s : es.State} (P : Post) {Q : Post} → a1 + av ≤ a + 120 → a1 + aj ≤ a → Follows C c0 n a1 o t s P → ((r : Result) (st : State) (l : ℕ) (c : Completion) (z : es.State) → P r st c z → l ≤ n → Follows C st.calls l (after r av aj) (k r st l) (kk c) z Q) → Follows C c0 n a (andthen o k) (t >>= kk) s Q
follows_then {o = o} P x y f next = follows_then_in {u = left o} P x y (omega arith) f (λ r st l c z p b b2. next r st l c z p b)

-- only the script goes on behind
same_outcome : (o : Outcome) → andthen o Ends ≡ o
same_outcome (Ends r st l) = refl
same_outcome (Left st l) = refl
same_outcome (Starved st) = refl

pub follows_map : {C : Relation} {c0 : List Moment} {n a1 a av aj : ℕ} {o : Outcome} {t : Task} {kk : Completion → Task} {s : es.State} (P : Post) {Q : Post} → a1 + av ≤ a + 120 → a1 + aj ≤ a → Follows C c0 n a1 o t s P → ((r : Result) (st : State) (l : ℕ) (c : Completion) (z : es.State) → P r st c z → l ≤ n → Follows C st.calls l (after r av aj) (Ends r st l) (kk c) z Q) → Follows C c0 n a o (t >>= kk) s Q
follows_map {C} {c0} {n} {a = a} {o = o} {t = t} {kk = kk} {s = s} P {Q} x y f next = subst (λ v. Follows C c0 n a v (t >>= kk) s Q) (same_outcome o) (follows_then P x y f next)

-- ---- the ends

pub follows_end : {C : Relation} {c0 : List Moment} {n a l m : ℕ} {r : Result} {st : State} {t : Task} {s z : es.State} {vs : List es.State} {P : Post} (c : Completion) → Steps t s m (Done c) z vs → Met C c0 st.calls vs → P r st c z → l ≤ n → n + ahead r ≤ l + 1000 * m + a → Follows C c0 n a (Ends r st l) t s P
follows_end {m = m} {z = z} {vs = vs} c e met p b1 b2 = record { by = record { m = m; c = c; z = z; vs = vs; runs = e; met = met; post = p; less = b1; steps = b2 } }

pub follows_leaves : {C : Relation} {c0 : List Moment} {n a l m : ℕ} {st : State} {t : Task} {s z : es.State} {vs : List es.State} {P : Post} (p : Pos) → Steps t s m (Leaves Number p) z vs → Met C c0 st.calls vs → calls_of st.calls ≡ z.calls → l ≤ n → n ≤ l + 1000 * m + a → Follows C c0 n a (Left st l) t s P
follows_leaves {m = m} {z = z} {vs = vs} p e met same b1 b2 = record {
  by = record {
    m = m;
    place = p;
    z = z;
    vs = vs;
    leaves = λ g k i. e.runs g k i ∙ run_leaves k Number p z;
    sees = λ g k i. e.sees g k i ∙ ap (λ l. vs ++ l) (moments_leaves k Number p z) ∙ append-nil vs;
    met = met;
    same = same;
    less = b1;
    steps = b2;
  };
}

-- both sides are out of units
pub follows_starves : {C : Relation} {c0 : List Moment} {n a m : ℕ} {st : State} {t : Task} {q : Request} {k : Completion → Task} {s z : es.State} {vs : List es.State} {P : Post} → Steps t s m (Ask q k) z vs → Met C c0 st.calls vs → calls_of st.calls ≡ z.calls → n ≤ 1000 * m + a → Follows C c0 n a (Starved st) t s P
follows_starves {m = m} {q = q} {k = k} {z = z} {vs = vs} e met same b = record {
  by = record {
    m = m;
    z = z;
    vs = vs;
    stops = e.runs m 0 (omega arith) ∙ run_starves q k z;
    sees = e.sees m 0 (omega arith) ∙ ap (λ l. vs ++ l) (moments_starves q k z) ∙ append-nil vs;
    met = met;
    same = same;
    steps = b;
  };
}

-- ---- said otherwise

-- with more said of the ends
pub follows_post : {C : Relation} {c0 : List Moment} {n a : ℕ} {o : Outcome} {t : Task} {s : es.State} (P : Post) {Q : Post} → ((r : Result) (st : State) (c : Completion) (z : es.State) → P r st c z → Q r st c z) → Follows C c0 n a o t s P → Follows C c0 n a o t s Q
follows_post {o = Ends r st l} P i f = let f1 = f.by in record { by = record { m = f1.m; c = f1.c; z = f1.z; vs = f1.vs; runs = f1.runs; met = f1.met; post = i r st f1.c f1.z f1.post; less = f1.less; steps = f1.steps } }
follows_post {o = Left st l} P i f = let f1 = f.by in record { by = f1 }
follows_post {o = Starved st} P i f = let f1 = f.by in record { by = f1 }

-- under other names
pub follows_task : {C : Relation} {c0 : List Moment} {n a : ℕ} {o : Outcome} {t u : Task} {s : es.State} {P : Post} → t ≡ u → Follows C c0 n a o u s P → Follows C c0 n a o t s P
follows_task {C} {c0} {n} {a} {o} {s = s} {P = P} e f = subst (λ x. Follows C c0 n a o x s P) (sym e) f

pub follows_outcome : {C : Relation} {c0 : List Moment} {n a : ℕ} {o p : Outcome} {t : Task} {s : es.State} {P : Post} → o ≡ p → Follows C c0 n a p t s P → Follows C c0 n a o t s P
follows_outcome {C} {c0} {n} {a} {t = t} {s = s} {P = P} e f = subst (λ x. Follows C c0 n a x t s P) (sym e) f

pub follows_more : {C : Relation} {c0 : List Moment} {n a b : ℕ} {o : Outcome} {t : Task} {s : es.State} {P : Post} → a ≤ b → Follows C c0 n a o t s P → Follows C c0 n b o t s P
follows_more x f = follows_quiet steps_refl (omega arith) (omega (arith, x)) f
