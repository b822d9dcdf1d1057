-- What follows the steps of Ruby's tasks: a part that begins, and a call of the host.
use Rattle.std.proofs.Common.{◌≡◌, ℕ, zero, suc, ◌+◌, ◌*◌, ◌≤◌, [], ◌∷◌, refl, arith}
use Rattle.opal_base.specs.Shown.{HostCall}
use Rattle.es5_evaluation.specs.State as es
use Rattle.es5_evaluation.specs.Task.{Completion, ◌>>=◌}
use Rattle.es5_evaluation.specs.Task as task
use Rattle.es5_rules.specs.Steps.{Steps}
use Rattle.ruby_evaluation.specs.Task.{Result, Task, Begins, Host, Eval, State, noted, walk}
use Rattle.ruby_evaluation.specs.Task as ruby
use Rattle.both_meanings.specs.Agree.{Relation}
use Rattle.both_meanings.specs.Follows.{calls_of, Met, Post, Follows}
use Rattle.both_meanings.proofs.Meeting.{met_none}
use Rattle.both_meanings.proofs.Bind.{after, follows_pre, follows_quiet, follows_starves, follows_then}

-- the one call that a state has more than the one before it
met_one : (C : Relation) (c : HostCall) (st : State) (v : es.State) → C st.ruby v → Met C st.calls (noted c st).calls (v ∷ [])
met_one C c st v h = record { later = record { call = c; before = st.ruby } ∷ []; is = refl; carried = (h, tt) }

-- a request, and then what Ruby's task does with its result
pub follows_ask : (f : Eval) (q : ruby.Request) (k : Result → Task) (st : State) {C : Relation} {n a1 a av aj : ℕ} {t : task.Task} {kk : Completion → task.Task} {s : es.State} (P : Post) {Q : Post} → a1 + av ≤ a + 120 → a1 + aj ≤ a → Follows C st.calls n a1 (f q st n) t s P → ((r : Result) (st1 : State) (l : ℕ) (c : Completion) (z : es.State) → P r st1 c z → l ≤ n → Follows C st1.calls l (after r av aj) (walk f (k r) st1 l) (kk c) z Q) → Follows C st.calls n a (walk f (ruby.Ask q k) st n) (t >>= kk) s Q
follows_ask f q k st P x y h next = follows_then P x y h next

-- A part begins: it takes a unit, and the script has a node that begins too.
pub follows_begins : (f : Eval) (t : Task) (st : State) {C : Relation} {n a a2 m m0 : ℕ} {u w : task.Task} {q : task.Request} {kk : Completion → task.Task} {s s0 z : es.State} {P : Post} → Steps u s m0 (task.Ask q kk) s0 [] → calls_of st.calls ≡ s0.calls → Steps u s m w z [] → 1 + a2 ≤ 1000 * m + a → ((g : ℕ) → suc g ≡ n → Follows C st.calls g a2 (walk f t st g) w z P) → Follows C st.calls n a (walk f (Begins t) st n) u s P
follows_begins f t st {C} {n = zero} e0 same e b next = follows_starves e0 (met_none C st.calls) same (omega arith)
follows_begins f t st {C} {n = suc g} {a = a} {a2 = a2} {m = m} e0 same e b next = follows_quiet {l = g} {a2 = a2} e (omega arith) (omega (arith, b)) (next g refl)

-- A call of the host: it takes a unit, and the script makes it in a state that is in the relation.
pub follows_host : (f : Eval) (c : HostCall) (t : Task) (st : State) {C : Relation} {n a a2 m m0 : ℕ} {u w : task.Task} {q : task.Request} {kk : Completion → task.Task} {s s0 v z : es.State} {P : Post} → Steps u s m0 (task.Ask q kk) s0 [] → calls_of st.calls ≡ s0.calls → Steps u s m w z (v ∷ []) → C st.ruby v → 1 + a2 ≤ 1000 * m + a → ((g : ℕ) → suc g ≡ n → Follows C (noted c st).calls g a2 (walk f t (noted c st) g) w z P) → Follows C st.calls n a (walk f (Host c t) st n) u s P
follows_host f c t st {C} {n = zero} e0 same e h b next = follows_starves e0 (met_none C st.calls) same (omega arith)
follows_host f c t st {C} {n = suc g} {a = a} {a2 = a2} {m = m} {v = v} e0 same e h b next = follows_pre {l = g} {a2 = a2} e (met_one C c st v h) (omega arith) (omega (arith, b)) (next g refl)
