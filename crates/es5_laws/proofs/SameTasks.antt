-- Tasks that do the same but for the sites and places of the trees in them.
use Rattle.std.proofs.Common.{ℕ, map}
use Rattle.opal_base.specs.declared.place.Pos.{Pos}
use Rattle.es5_tree.specs.Values.{Text, Val}
use Rattle.es5_tree.specs.Ends.{OutKind}
use Rattle.es5_tree.specs.Grammar.Spelling.{bare_stmt, no_place}
use Rattle.es5_tree.specs.Objects.Cells.{Cell}
use Rattle.es5_tree.proofs.Bare.{bare_expr}
use Rattle.es5_evaluation.specs.State.{Code, Activation, State}
use Rattle.es5_evaluation.specs.Task.{Place, Completion, Normal, Refers, Return, Throw, Break, Continue, Request, Evaluate, Refer, Execute, Turn, Task, Done, Leaves, Ask, Look, Set, Make, Keep, Enter, Store, Print, Read, ◌>>=◌}
use Rattle.es5_evaluation.specs.Evaluate.{normally, referred}

-- ---- without sites and places

abbrev pub bare_code : Code → Code
bare_code c = record { name = c.name; params = c.params; body = map bare_stmt c.body }

abbrev pub bare_state : State → State
bare_state s = record s { codes = map bare_code s.codes }

abbrev pub bare_request : Request → Request
bare_request (Evaluate e ρ) = Evaluate (bare_expr e) ρ
bare_request (Refer e ρ) = Refer (bare_expr e) ρ
bare_request (Execute t ρ) = Execute (bare_stmt t) ρ
bare_request (Turn e b ρ) = Turn (bare_expr e) (bare_stmt b) ρ

-- The second task does what the first does, from a state without sites and places, and asks for bare trees.
pub data Alike : Task → Task → Type 0 where
  done : (c : Completion) → Alike (Done c) (Done c)
  leaves : (k : OutKind) (p : Pos) → Alike (Leaves k p) (Leaves k no_place)
  asks : (q : Request) {f g : Completion → Task} → ((c : Completion) → Alike (f c) (g c)) → Alike (Ask q f) (Ask (bare_request q) g)
  looks : {f g : State → Task} → ((s : State) → Alike (f s) (g (bare_state s))) → Alike (Look f) (Look g)
  sets : (o : ℕ) (c : Cell) {t u : Task} → Alike t u → Alike (Set o c t) (Set o c u)
  makes : (c : Cell) {f g : ℕ → Task} → ((o : ℕ) → Alike (f o) (g o)) → Alike (Make c f) (Make c g)
  keeps : (c : Code) {f g : ℕ → Task} → ((k : ℕ) → Alike (f k) (g k)) → Alike (Keep c f) (Keep (bare_code c) g)
  enters : (a : Activation) {f g : ℕ → Task} → ((r : ℕ) → Alike (f r) (g r)) → Alike (Enter a f) (Enter a g)
  stores : (r : ℕ) (a : Activation) {t u : Task} → Alike t u → Alike (Store r a t) (Store r a u)
  prints : (x : Text) {t u : Task} → Alike t u → Alike (Print x t) (Print x u)
  reads : (n : ℕ) {t u : Task} → Alike t u → Alike (Read n t) (Read n u)

-- ---- one task after another

pub alike_then : {t u : Task} → Alike t u → {k l : Completion → Task} → ((c : Completion) → Alike (k c) (l c)) → Alike (t >>= k) (u >>= l)
unfolding ◌>>=◌
alike_then (done c) h = h c
alike_then (leaves o p) h = leaves o p
alike_then (asks q i) h = asks q (λ c. alike_then (i c) h)
alike_then (looks i) h = looks (λ s. alike_then (i s) h)
alike_then (sets o c i) h = sets o c (alike_then i h)
alike_then (makes c i) h = makes c (λ o. alike_then (i o) h)
alike_then (keeps c i) h = keeps c (λ n. alike_then (i n) h)
alike_then (enters a i) h = enters a (λ r. alike_then (i r) h)
alike_then (stores r a i) h = stores r a (alike_then i h)
alike_then (prints x i) h = prints x (alike_then i h)
alike_then (reads n i) h = reads n (alike_then i h)

pub normally_alike : {k l : Val → Task} → ((v : Val) → Alike (k v) (l v)) → (c : Completion) → Alike (normally k c) (normally l c)
normally_alike h (Normal v) = h v
normally_alike h (Refers p) = done (Refers p)
normally_alike h (Return v) = done (Return v)
normally_alike h (Throw v) = done (Throw v)
normally_alike h Break = done Break
normally_alike h Continue = done Continue

pub referred_alike : {f g : Place → Task} {k l : Val → Task} → ((p : Place) → Alike (f p) (g p)) → ((v : Val) → Alike (k v) (l v)) → (c : Completion) → Alike (referred f k c) (referred g l c)
referred_alike i h (Normal v) = h v
referred_alike i h (Refers p) = i p
referred_alike i h (Return v) = done (Return v)
referred_alike i h (Throw v) = done (Throw v)
referred_alike i h Break = done Break
referred_alike i h Continue = done Continue
