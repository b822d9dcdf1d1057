-- New activation records, step by step.
use Rattle.std.proofs.Common.{◌≡◌, ℕ, List, [], ◌∷◌, ◌++◌, length, map, Some, refl, sym, ap, ◌∙◌, subst}
use Rattle.std.proofs.lemmas.List.{map-append, length-map}
use Rattle.es5_tree.specs.Values.{Text, Val}
use Rattle.es5_tree.specs.declared.tree.Catch.{Catch, Catch-F, roll-Catch, out-roll-Catch}
use Rattle.es5_tree.specs.declared.tree.EsExpr.{EsExpr}
use Rattle.es5_tree.specs.declared.tree.EsKind.{EsKind}
use Rattle.es5_tree.specs.declared.tree.EsStmt.{EsStmt}
use Rattle.es5_evaluation.specs.State.{Activation}
use Rattle.es5_evaluation.specs.Task.{Scope, Task, Enter, walk, ◌>>=◌}
use Rattle.es5_evaluation.specs.Evaluate.{all, caught_by}
use Rattle.es5_code.specs.declared.node.Node.{Node}
use Rattle.es5_code.specs.Trees.{stmts_in}
use Rattle.es5_store.specs.declared.store.Record.{Record}
use Rattle.es5_store.specs.declared.store.Store.{Store}
use Rattle.es5_store.specs.Store.{state_in, record_of, records_of, IsFull}
use Rattle.es5_store.specs.Steps.{Steps, Fills}
use Rattle.es5_making.proofs.Growth.{full_state, state_is}

pub record_full : (T : List Node) (s : Store) (a : Activation) (f : ℕ → Task) → IsFull s → Fills T (Enter a f) s
unfolding ◌>>=◌
record_full T s a f h = λ A g k calls. record {
  task = Enter a (λ r. f r >>= k);
  state = state_in T s calls;
  makes = tt;
  full = full_state s h;
  quiet = refl;
  comes = refl;
}

pub record_made : (T : List Node) (s new : Store) (x : Record) (a : Activation) (r : ℕ) (f : ℕ → Task) → record_of x ≡ a → r ≡ length s.records.items → new.records.items ≡ s.records.items ++ x ∷ [] → new.heap ≡ s.heap → new.codes.items ≡ s.codes.items → new.lines ≡ s.lines → Steps T (Enter a f) s (f r) new []
unfolding ◌>>=◌ walk
record_made T s new x a r f e n records heap codes lines = λ A g k calls.
    let number : r ≡ length (records_of s.records.items) = n ∙ sym (length-map s.records.items record_of) in
    let added : records_of new.records.items ≡ records_of s.records.items ++ a ∷ [] = ap records_of records ∙ (map-append record_of s.records.items (x ∷ []) ∙ ap (λ b. records_of s.records.items ++ b ∷ []) e) in
    ap (walk A g (f (length (records_of s.records.items)) >>= k)) (sym (state_is T new calls _ _ _ _ (ap (λ h. h.cells) heap) (ap (map _) codes) added lines))
    ∙ ap (λ i. walk A g (f i >>= k) (state_in T new calls)) (sym number)

-- ---- what was thrown is taken

abbrev pub catch_record : Text → Val → ℕ → Activation
catch_record name v outer = record { variables = (name, v) ∷ []; constants = []; outer = Some outer }

abbrev catch_task : Text → List EsStmt → Scope → Val → Task
catch_task name body ρ v = Enter (catch_record name v ρ.innermost) (λ r. all body (record { this = ρ.this; innermost = r }))

catch_open : (name : Text) (body : List EsStmt) (ρ : Scope) (v : Val) → caught_by (roll-Catch (record { name = name; body = body })) ρ v ≡ catch_task name body ρ v
catch_open name body ρ v = ap (λ (c : Catch-F EsKind EsStmt Catch EsExpr). catch_task c.name c.body ρ v) (out-roll-Catch (record { name = name; body = body }))

pub catch_full : (T : List Node) (s : Store) (name : Text) (body : ℕ) (ρ : Scope) (v : Val) → IsFull s → Fills T (caught_by (roll-Catch (record { name = name; body = stmts_in T body })) ρ v) s
catch_full T s name body ρ v h = subst (λ t. Fills T t s) (sym (catch_open name (stmts_in T body) ρ v)) (record_full T s (catch_record name v ρ.innermost) (λ r. all (stmts_in T body) (record { this = ρ.this; innermost = r })) h)

pub catch_made : (T : List Node) (ρ : Scope) (s new : Store) (x : Record) (name : Text) (body outer r : ℕ) (v : Val) → ρ.innermost ≡ outer → record_of x ≡ catch_record name v outer → r ≡ length s.records.items → new.records.items ≡ s.records.items ++ x ∷ [] → new.heap ≡ s.heap → new.codes.items ≡ s.codes.items → new.lines ≡ s.lines → Steps T (caught_by (roll-Catch (record { name = name; body = stmts_in T body })) ρ v) s (all (stmts_in T body) (record { this = ρ.this; innermost = r })) new []
catch_made T ρ s new x name body outer r v i e n records heap codes lines =
    subst (λ t. Steps T t s (all (stmts_in T body) (record { this = ρ.this; innermost = r })) new []) (sym (catch_open name (stmts_in T body) ρ v))
    (record_made T s new x (catch_record name v ρ.innermost) r (λ m. all (stmts_in T body) (record { this = ρ.this; innermost = m })) (e ∙ ap (catch_record name v) (sym i)) n records heap codes lines)
