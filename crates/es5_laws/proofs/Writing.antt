-- The run of a script that writes texts: five units a statement, and the text is written with the fifth.
use Rattle.std.proofs.Common.{◌≡◌, ℕ, zero, suc, ◌+◌, ◌-◌, ◌*◌, ◌/◌, ◌%◌, ◌<◌, ◌≤◌, List, [], ◌∷◌, ◌++◌, length, map, take, codes, Some, refl, sym, ap, ◌∙◌, arith, inl, inr, ⊎_elim, append_assoc, append-nil}
use Rattle.std.specs.List.{flat_map}
use Rattle.std.proofs.Math.Seq.{take-length}
use Rattle.std.proofs.lemmas.Bool.{cases_lt}
use denote.Hole.Carrier
use lib.Utf8.{encode}
use Rattle.opal_base.proofs.Texts.{text_printed_back_is}
use Rattle.opal_base.specs.Text.{utf8_of}
use Rattle.opal_base.specs.Shown.{HostCall, Wrote, Ended, Going, Shows, output_of}
use Rattle.es5_tree.specs.declared.tree.EsKind.TheBlock
use Rattle.es5_tree.specs.declared.tree.EsKind.{out-EsKind}
use Rattle.es5_tree.specs.declared.tree.EsKind.TheVariants as kind
use Rattle.es5_tree.specs.declared.tree.EsStmt.{out-EsStmt}
use Rattle.es5_tree.specs.Tree.{start}
use Rattle.es5_tree.specs.Values.{Text, Undefined, find_own}
use Rattle.es5_tree.specs.Objects.Cells.{own}
use Rattle.es5_tree.specs.Objects.Links.{cell_at, chain, first_of_chain, first_own, get}
use Rattle.es5_tree.specs.Ends.{Finished}
use Rattle.es5_tree.specs.Intrinsics.Made as made
use Rattle.es5_evaluation.specs.State.{State, record_at, binding, binding_by}
use Rattle.es5_evaluation.specs.Task.{Completion, Normal, Task, Execute, Outcome, walk, ◌>>=◌}
use Rattle.es5_evaluation.specs.Task as task
use Rattle.es5_evaluation.specs.Declared.{both, expr_code, locals, new_names, nothing, own_code, stmt_code}
use Rattle.es5_evaluation.specs.Evaluate.{all, normally, perform, exec_node, eval_node, refer_node, read_name, read_place, read_property, access, gather, invoke, row_task, undefined_variables}
use Rattle.es5_evaluation.specs.Run.{ask, es_run, first_state, outcome, run, global_record, script_scope, shown_by}
use Rattle.es5_evaluation.proofs.Own as own
use Rattle.es5_laws.specs.Writes.{expr, write, writes}
use Rattle.es5_laws.specs.Laws.{WritesInTurn, OneWriteTakesFive}

-- the state in which the statements of such a script begin: only what was written differs
abbrev pub ready : Text → List HostCall → State
ready input calls = record {
  heap = made.cells;
  codes = [];
  records = global_record ∷ record { variables = []; constants = []; outer = Some 0 } ∷ [];
  lines = record { input = input; read = 0 };
  calls = calls;
}

write_runs : (text input : Text) (calls : List HostCall) (g : ℕ) (k : Completion → Task) → ask (suc (suc (suc (suc (suc g))))) (Execute (write text) script_scope) k (ready input calls) ≡ walk (ask g) g (k (Normal Undefined)) (ready input (Wrote text ∷ calls))
unfolding out-EsKind out-EsStmt Carrier.out Carrier.shown Carrier.hidden TheBlock.shown-the_row-EsKind-0 TheBlock.shown-the_row-EsExpr-1 find_own own cell_at chain first_of_chain first_own get made.cells record_at binding binding_by walk ◌>>=◌ perform exec_node eval_node refer_node read_name read_place read_property access gather invoke row_task ask
write_runs text input calls g k = refl

write_starves : (text input : Text) (calls : List HostCall) (r : ℕ) (k : Completion → Task) → r < 5 → ask r (Execute (write text) script_scope) k (ready input calls) ≡ task.Going (ready input calls)
unfolding out-EsKind out-EsStmt Carrier.out Carrier.shown Carrier.hidden TheBlock.shown-the_row-EsKind-0 TheBlock.shown-the_row-EsExpr-1 find_own own cell_at chain first_of_chain first_own get made.cells record_at binding binding_by walk ◌>>=◌ perform exec_node eval_node refer_node read_name read_place read_property access gather invoke row_task ask
write_starves text input calls zero k l = refl
write_starves text input calls (suc zero) k l = refl
write_starves text input calls (suc (suc zero)) k l = refl
write_starves text input calls (suc (suc (suc zero))) k l = refl
write_starves text input calls (suc (suc (suc (suc zero)))) k l = refl
write_starves text input calls (suc (suc (suc (suc (suc r))))) k l = absurd (omega (arith, l))

-- ---- one statement after the other

-- the texts were written, the first of them first
abbrev pub wrote : List HostCall → List Text → List HostCall
wrote calls [] = calls
wrote calls (text ∷ texts) = wrote (Wrote text ∷ calls) texts

output_wrote : (calls : List HostCall) (texts : List Text) → output_of (wrote calls texts) ≡ output_of calls ++ flat_map utf8_of texts
output_wrote calls [] = sym (append-nil (output_of calls))
output_wrote calls (text ∷ texts) = output_wrote (Wrote text ∷ calls) texts ∙ append_assoc (output_of calls) (utf8_of text) (flat_map utf8_of texts)

-- the run of the statements
abbrev pub run_writes : List Text → Text → List HostCall → ℕ → Outcome
run_writes texts input calls n = run n (all (map write texts) script_scope) (ready input calls)

all_end : (texts : List Text) (input : Text) (calls : List HostCall) (g : ℕ) → run_writes texts input calls (5 * length texts + g) ≡ task.Ended (Normal Undefined) (ready input (wrote calls texts)) g
unfolding all run walk
all_end [] input calls g = ap (λ n. task.Ended (Normal Undefined) (ready input calls) n) (omega arith)
all_end (text ∷ texts) input calls g =
    ap (λ n. run_writes (text ∷ texts) input calls n) {x = 5 * length (text ∷ texts) + g} {y = suc (suc (suc (suc (suc (5 * length texts + g)))))} (omega arith)
    ∙ (write_runs text input calls (5 * length texts + g) (normally (λ v. all (map write texts) script_scope)) ∙ all_end texts input (Wrote text ∷ calls) g)

all_starve : (texts : List Text) (input : Text) (calls : List HostCall) (j r : ℕ) → j < length texts → r < 5 → run_writes texts input calls (5 * j + r) ≡ task.Going (ready input (wrote calls (take j texts)))
unfolding all run walk
all_starve [] input calls j r l h = absurd (omega (arith, l))
all_starve (text ∷ texts) input calls zero r l h =
    ap (λ n. run_writes (text ∷ texts) input calls n) {x = 5 * 0 + r} {y = r} (omega arith)
    ∙ write_starves text input calls r (normally (λ v. all (map write texts) script_scope)) h
all_starve (text ∷ texts) input calls (suc j) r l h =
    ap (λ n. run_writes (text ∷ texts) input calls n) {x = 5 * suc j + r} {y = suc (suc (suc (suc (suc (5 * j + r)))))} (omega arith)
    ∙ (write_runs text input calls (5 * j + r) (normally (λ v. all (map write texts) script_scope)) ∙ all_starve texts input (Wrote text ∷ calls) j r (omega (arith, l)) h)

-- ---- the script

-- such a statement declares nothing
nothing_declared : (text : Text) → stmt_code (write text) ≡ nothing
nothing_declared text =
    let host = expr (kind.Name (codes "$host")) in
    let member = expr (kind.Member host (codes "write") start) in
    let args = expr (kind.Str text) ∷ [] in
    let call = expr (kind.Call member args) in
    let of_host : expr_code host ≡ nothing = own.expr_to host ∙ own.of_name (codes "$host") in
    let of_member : expr_code member ≡ nothing = own.expr_to member ∙ own.of_member host (codes "write") start ∙ of_host in
    let of_text : expr_code (expr (kind.Str text)) ≡ nothing = own.expr_to (expr (kind.Str text)) ∙ own.of_str text in
    own.of_expr call
    ∙ (own.expr_to call ∙ (own.of_call member args ∙ (ap (λ a. both a (both (expr_code (expr (kind.Str text))) nothing)) of_member ∙ ap (λ a. both nothing (both a nothing)) of_text)))

no_names : (texts : List Text) → own_code (map write texts) ≡ nothing
unfolding own_code
no_names [] = refl
no_names (text ∷ texts) = ap (λ a. both a (own_code (map write texts))) (nothing_declared text) ∙ no_names texts

no_locals : (texts : List Text) → locals [] (map write texts) ≡ []
unfolding new_names
no_locals texts = ap (λ a. new_names [] a.names) (no_names texts)

run_of_writes : (texts : List Text) (input : Text) (n : ℕ) → es_run (writes texts) input n ≡ shown_by (run_writes texts input [] n)
unfolding es_run outcome first_state
run_of_writes texts input n =
    ap (λ names. shown_by (run n (all (map write texts) script_scope) (record { heap = made.cells; codes = []; records = global_record ∷ record { variables = undefined_variables names; constants = []; outer = Some 0 } ∷ []; lines = record { input = input; read = 0 }; calls = [] })))
    (no_locals texts)

pub writes_end : (texts : List Text) (input : Text) (n : ℕ) → 5 * length texts ≤ n → es_run (writes texts) input n ≡ Ended (flat_map utf8_of texts) Finished
writes_end texts input n l =
    run_of_writes texts input n
    ∙ ap (λ m. shown_by (run_writes texts input [] m)) {x = n} {y = 5 * length texts + (n - 5 * length texts)} (omega (arith, l))
    ∙ ap shown_by (all_end texts input [] (n - 5 * length texts))
    ∙ ap (λ output. Ended output Finished) (output_wrote [] texts)

pub writes_go_on : (texts : List Text) (input : Text) (j r : ℕ) → j < length texts → r < 5 → es_run (writes texts) input (5 * j + r) ≡ Going (flat_map utf8_of (take j texts))
writes_go_on texts input j r l h =
    run_of_writes texts input (5 * j + r)
    ∙ ap shown_by (all_starve texts input [] j r l h)
    ∙ ap Going (output_wrote [] (take j texts))

pub writes_in_turn_is : WritesInTurn
writes_in_turn_is texts input = record {
  enough = 5 * length texts;
  ends = writes_end texts input;
  goes = λ n l. (n / 5, omega (arith, l), ap (es_run (writes texts) input) {x = n} {y = 5 * (n / 5) + n % 5} (omega arith) ∙ writes_go_on texts input (n / 5) (n % 5) (omega (arith, l)) (omega arith));
  shows = λ j l. (5 * j, ⊎_elim (λ h. here j h) (λ h. last j l h) (cases_lt j (length texts)));
}
  where
    here : (j : ℕ) → j < length texts → Shows (es_run (writes texts) input (5 * j)) (flat_map utf8_of (take j texts))
    here j h = inl (ap (es_run (writes texts) input) {x = 5 * j} {y = 5 * j + 0} (omega arith) ∙ writes_go_on texts input j 0 h (omega arith))

    last : (j : ℕ) → j ≤ length texts → length texts ≤ j → Shows (es_run (writes texts) input (5 * j)) (flat_map utf8_of (take j texts))
    last j l h =
        let same : take j texts ≡ texts = ap (λ n. take n texts) {x = j} {y = length texts} (omega (arith, l, h)) ∙ take-length texts in
        inr (Finished, writes_end texts input (5 * j) (omega (arith, h)) ∙ ap (λ l. Ended (flat_map utf8_of l) Finished) (sym same))

-- ---- one statement

hi_bytes : utf8_of (codes "hi") ≡ codes "hi"
unfolding encode
hi_bytes = text_printed_back_is (codes "hi") (codes "hi") (record { chars = codes "hi"; are_scalars = refl; in_utf8 = refl; in_utf16 = refl })

pub one_write_takes_five_is : OneWriteTakesFive
one_write_takes_five_is input =
    (writes_go_on (codes "hi" ∷ []) input 0 4 (omega arith) (omega arith), writes_end (codes "hi" ∷ []) input 5 (omega arith) ∙ ap (λ output. Ended output Finished) (append-nil (utf8_of (codes "hi")) ∙ hi_bytes))
