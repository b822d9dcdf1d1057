-- What stands before the first node of a script begins.
use Rattle.std.proofs.Common.{◌≡◌, ℕ, ◌+◌, ◌≤◌, List, [], ◌∷◌, ◌++◌, drop, length, map, Option, Some, None, refl, sym, ap, ap₂, ◌∙◌, subst, arith}
use Rattle.std.proofs.lemmas.List.{length-map}
use Rattle.es5_tree.specs.Values.{Text, Val}
use Rattle.es5_tree.specs.Objects.Cells.{Cell}
use Rattle.es5_tree.specs.Intrinsics.Lines.{Reading}
use Rattle.es5_tree.specs.Intrinsics.Made as made
use Rattle.es5_tree.specs.Intrinsics.Valid.{Valid}
use Rattle.es5_evaluation.specs.State.{Activation, Code, State}
use Rattle.es5_evaluation.specs.Task.{Completion, Scope, Task, Done, Leaves, Ask, Look, Set, Make, Keep, Enter, Store, Print, Read, ◌>>=◌}
use Rattle.es5_evaluation.specs.Declared.{locals}
use Rattle.es5_evaluation.specs.Evaluate.{undefined_variables}
use Rattle.es5_evaluation.specs.Run.{first_state}
use Rattle.es5_code.specs.At.{Table}
use Rattle.es5_code.specs.Trees.{code_in, stmts_in}
use Rattle.es5_code.specs.declared.node.Node.{Node}
use Rattle.es5_pending.specs.declared.frame.Frame.{Frame}
use Rattle.es5_pending.specs.Meaning.{rest, resume, scope_behind}
use Rattle.es5_store.specs.declared.store.Store.{Store as Stored}
use Rattle.es5_store.specs.Store.{Sound, record_of, records_of, state_in}
use Rattle.es5_machine.specs.Progress.{script_in}

-- behind the last frame nothing is done
nothing_behind : (T : List Node) (ρ : Scope) (t : Task) → (t >>= rest T ρ []) ≡ t
unfolding ◌>>=◌ rest
nothing_behind T ρ (Done c) = refl
nothing_behind T ρ (Leaves o p) = refl
nothing_behind T ρ (Ask q k) = λ i. Ask q (λ c. nothing_behind T ρ (k c) i)
nothing_behind T ρ (Look k) = λ i. Look (λ s. nothing_behind T ρ (k s) i)
nothing_behind T ρ (Set o c t) = λ i. Set o c (nothing_behind T ρ t i)
nothing_behind T ρ (Make c k) = λ i. Make c (λ o. nothing_behind T ρ (k o) i)
nothing_behind T ρ (Keep c k) = λ i. Keep c (λ n. nothing_behind T ρ (k n) i)
nothing_behind T ρ (Enter a k) = λ i. Enter a (λ r. nothing_behind T ρ (k r) i)
nothing_behind T ρ (Store r a t) = λ i. Store r a (nothing_behind T ρ t i)
nothing_behind T ρ (Print x t) = λ i. Print x (nothing_behind T ρ t i)
nothing_behind T ρ (Read n t) = λ i. Read n (nothing_behind T ρ t i)

-- where one frame waits, what it does is all
pub one_behind : (T : List Node) (ρ : Scope) (f : Frame) → rest T ρ (f ∷ []) ≡ resume T ρ f
unfolding rest
one_behind T ρ f = λ i c. nothing_behind T (scope_behind ρ f) (resume T ρ f c) i

-- the state of the first store
pub first_is : (t : Table) (input : Text) (store : Stored) (globals own : List (Text × Val)) (before : List (Text × Val)) (names : List Text) → store.heap.cells ≡ made.cells → store.codes.items ≡ [] → records_of store.records.items ≡ record { variables = []; constants = globals; outer = None } ∷ record { variables = own; constants = []; outer = Some 0 } ∷ [] → globals ≡ made.globals → before ≡ [] → own ≡ before ++ undefined_variables (drop 0 names) → names ≡ t.variables → t.variables ≡ locals [] (stmts_in t.nodes t.body) → store.lines ≡ record { input = input; read = 0 } → state_in t.nodes store [] ≡ first_state (script_in t) input
unfolding first_state
first_is t input store globals own before names h c r g b o n v l =
    let e : own ≡ undefined_variables (locals [] (stmts_in t.nodes t.body)) = o ∙ ap (λ x. x ++ undefined_variables names) b ∙ ap undefined_variables (n ∙ v) in
    let records : records_of store.records.items ≡ record { variables = []; constants = made.globals; outer = None } ∷ record { variables = undefined_variables (locals [] (stmts_in t.nodes t.body)); constants = []; outer = Some 0 } ∷ [] = r ∙ ap₂ (λ (x y : List (Text × Val)). (let a : Activation = record { variables = []; constants = x; outer = None } in a) ∷ (let b : Activation = record { variables = y; constants = []; outer = Some 0 } in b) ∷ []) g e in
    λ i. record {
      heap = h i;
      codes = map (code_in t.nodes) (c i);
      records = records i;
      lines = l i;
      calls = [];
    }

-- it is sound
pub first_sound : (store : Stored) (a b : Activation) → length made.cells ≡ made.count → Valid made.cells → store.heap.cells ≡ made.cells → records_of store.records.items ≡ a ∷ b ∷ [] → store.heap.capacity ≡ store.limit + 29 → Sound store
first_sound store a b n v h r c =
    let two : length store.records.items ≡ 2 = sym (length-map store.records.items record_of) ∙ ap length r in
    let all : length store.heap.cells ≡ 29 = ap length h ∙ n in
    record {
      valid = subst Valid (sym h) v;
      records = omega (arith, two);
      within = omega (arith, two, all);
      room = omega (arith, c);
    }
