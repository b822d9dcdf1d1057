-- Moves from task to task.
use Rattle.std.proofs.Common.{◌≡◌, ℕ, ◌+◌, ◌≤◌, List, [], ◌++◌, length, Option, Result, Ok, Err, refl, sym, ap, ◌∙◌, subst, append_assoc, append-nil}
use Rattle.opal_base.specs.Outside.{appended}
use Rattle.opal_base.specs.Shown.{HostCall, output_of}
use Rattle.opal_base.proofs.Outputs.{output_both}
use Rattle.opal_base.proofs.Took.{appended_none, appended_twice}
use Rattle.es5_evaluation.specs.Task.{Completion, Scope, Task, Answers, walk, ◌>>=◌}
use Rattle.es5_evaluation.specs.Run.{at_first}
use Rattle.es5_code.specs.declared.node.Node.{Node}
use Rattle.es5_store.specs.declared.effect.Effect.{Effect}
use Rattle.es5_store.specs.declared.effect.Halt.{Halt}
use Rattle.es5_store.specs.declared.effect.Halt.TheVariants as halt
use Rattle.es5_store.specs.declared.store.Store.{Store}
use Rattle.es5_store.specs.Store.{state_in}
use Rattle.es5_store.specs.Steps.{Acted, Quiet, WritesOn, effect_task}
use Rattle.es5_execution.specs.Progress.{Moves, Followed, Halted}

-- ---- nothing was written

pub here : (T : List Node) (t : Task) (s : Store) (A : Answers) (g : ℕ) (calls : List HostCall) → WritesOn [] calls (walk A g t (state_in T s calls)) A g
here T t s A g calls = record { task = t; state = state_in T s calls; rest = []; front = sym (append-nil (output_of calls)) ∙ sym (append-nil (output_of calls ++ [])); comes = refl }

-- an act that doesn't call the host
pub quiet_acts : (r : Result Effect Halt) (T : List Node) (ρ : Scope) (t : Task) (old new : Store) (told : Option (List ℕ)) → Quiet r T ρ t old new → Acted r T ρ t old new told told
quiet_acts (Ok e) T ρ t old new told q = ([], sym (appended_none told), q)
quiet_acts (Err halt.CellsFull) T ρ t old new told q = (refl, q)
quiet_acts (Err halt.WriteFault) T ρ t old new told q = elim q [ ]
quiet_acts (Err halt.NoMemory) T ρ t old new told q = ([], sym (appended_none told), λ A g k calls. here T (t >>= k) old A g calls)

-- ---- moves

-- the same task over the same store
pub follow : (T : List Node) (t u : Task) (s : Store) (told : Option (List ℕ)) → t ≡ u → Followed T t s u s told told
follow T t u s told e = ([], sym (appended_none told), λ A g calls. ap (λ x. walk A g x (state_in T s calls)) e)

-- no memory was found before anything was done
pub no_memory_here : (T : List Node) (t : Task) (s : Store) (told : Option (List ℕ)) → Halted halt.NoMemory T t s told told
no_memory_here T t s told = ([], sym (appended_none told), here T t s)

-- an act, and what is left of its effect
pub acted_next : (T : List Node) (ρ : Scope) (t u : Task) (k : Completion → Task) (e : Effect) (old new : Store) (told now : Option (List ℕ)) → Acted (Ok e) T ρ t old new told now → (effect_task T ρ e >>= k) ≡ u → Followed T (t >>= k) old u new told now
acted_next T ρ t u k e old new told now q h = (q.0, q.1, λ A g calls. q.2 A g k calls ∙ ap (λ x. walk A g x (state_in T new (q.0 ++ calls))) h)

-- an act that stopped the run
pub acted_halt : (T : List Node) (ρ : Scope) (t : Task) (k : Completion → Task) (h : Halt) (old new : Store) (told now : Option (List ℕ)) → Acted (Err h) T ρ t old new told now → Halted h T (t >>= k) old told now
acted_halt T ρ t k halt.CellsFull old new told now q = ([], q.0 ∙ sym (appended_none told), λ A g calls. q.1 A g k calls)
acted_halt T ρ t k halt.WriteFault old new told now q = (q.0, q.1, λ A g calls. q.2 A g k calls)
acted_halt T ρ t k halt.NoMemory old new told now q = (q.0, q.1, λ A g calls. q.2 A g k calls)

-- no memory was found for what is left of its effect
pub acted_lost : (T : List Node) (ρ : Scope) (t : Task) (k : Completion → Task) (e : Effect) (old new : Store) (told now : Option (List ℕ)) → Acted (Ok e) T ρ t old new told now → Halted halt.NoMemory T (t >>= k) old told now
acted_lost T ρ t k e old new told now q = (
  output_of q.0,
  q.1,
  λ A g calls. record {
    task = effect_task T ρ e >>= k;
    state = state_in T new (q.0 ++ calls);
    rest = [];
    front = output_both q.0 calls ∙ sym (append-nil (output_of calls ++ output_of q.0));
    comes = q.2 A g k calls;
  },
)

-- one move after another
pub followed_both : (T : List Node) (t u v : Task) (a b d : Store) (told mid now : Option (List ℕ)) → Followed T t a u b told mid → Followed T u b v d mid now → Followed T t a v d told now
followed_both T t u v a b d told mid now (more, e, m) (rest, f, n) = (
  rest ++ more,
  f ∙ ap (λ x. appended x (output_of rest)) e ∙ appended_twice told (output_of more) (output_of rest) ∙ ap (appended told) (sym (output_both rest more)),
  λ A g calls. m A g calls ∙ n A g (more ++ calls) ∙ ap (λ x. walk A g v (state_in T d x)) (sym (append_assoc rest more calls)),
)

writes_later : (T : List Node) (t u : Task) (a b : Store) (more : List HostCall) (piece : List ℕ) → Moves T t a u b more → ((A : Answers) (g : ℕ) (calls : List HostCall) → WritesOn piece calls (walk A g u (state_in T b calls)) A g)
    → (A : Answers) (g : ℕ) (calls : List HostCall) → WritesOn (output_of more ++ piece) calls (walk A g t (state_in T a calls)) A g
writes_later T t u a b more piece m n A g calls =
    let x = n A g (more ++ calls) in
    record {
      task = x.task;
      state = x.state;
      rest = x.rest;
      front = x.front ∙ ap (λ l. (l ++ piece) ++ x.rest) (output_both more calls) ∙ ap (λ l. l ++ x.rest) (append_assoc (output_of calls) (output_of more) piece);
      comes = m A g calls ∙ x.comes;
    }

-- a move, and then the run stops
pub followed_halt : (T : List Node) (t u : Task) (a b : Store) (h : Halt) (told mid now : Option (List ℕ)) → a.limit ≡ b.limit → Followed T t a u b told mid → Halted h T u b mid now → Halted h T t a told now
followed_halt T t u a b halt.CellsFull told mid now l (more, e, m) (rest, f, n) = (
  rest ++ more,
  f ∙ ap (λ x. appended x (output_of rest)) e ∙ appended_twice told (output_of more) (output_of rest) ∙ ap (appended told) (sym (output_both rest more)),
  λ A g calls. (let x = n A g (more ++ calls) in record {
    task = x.task;
    state = x.state;
    makes = x.makes;
    full = subst (λ limit. limit + at_first ≤ length x.state.heap + length x.state.records) (sym l) x.full;
    quiet = x.quiet ∙ sym (append_assoc rest more calls);
    comes = m A g calls ∙ x.comes;
  }),
)
followed_halt T t u a b halt.WriteFault told mid now l (more, e, m) (piece, f, n) = (
  output_of more ++ piece,
  f ∙ ap (λ x. appended x piece) e ∙ appended_twice told (output_of more) piece,
  λ A g calls. writes_later T t u a b more piece m n A g calls,
)
followed_halt T t u a b halt.NoMemory told mid now l (more, e, m) (piece, f, n) = (
  output_of more ++ piece,
  f ∙ ap (λ x. appended x piece) e ∙ appended_twice told (output_of more) piece,
  λ A g calls. writes_later T t u a b more piece m n A g calls,
)
