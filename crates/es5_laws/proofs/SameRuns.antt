-- Scripts that are the same but for sites and places run alike.
use Rattle.std.proofs.Common.{◌≡◌, ℕ, zero, suc, List, [], ◌∷◌, length, map, Some, refl, sym, ap, ◌∙◌, subst}
use Rattle.std.proofs.lemmas.List.{length-map, map-append}
use Rattle.opal_base.specs.Shown.{output_of}
use Rattle.es5_tree.specs.declared.tree.Script.{Script}
use Rattle.es5_tree.specs.Values.{Text}
use Rattle.es5_tree.specs.Ends.{EsEnd, Finished, Uncaught, Outside}
use Rattle.es5_tree.specs.Grammar.Spelling.{bare, bare_stmt, no_place}
use Rattle.es5_tree.specs.Intrinsics.Made as made
use Rattle.es5_evaluation.specs.State.{Code, State}
use Rattle.es5_evaluation.specs.Task.{Completion, Request, Task, Outcome, Ended, Left, Going, Answers, walk, with_code, ◌>>=◌}
use Rattle.es5_evaluation.specs.Declared.{new_names}
use Rattle.es5_evaluation.specs.Evaluate.{all, perform, undefined_variables}
use Rattle.es5_evaluation.specs.Run.{ask, cells_at, cells_of, end_of, es_run, first_state, global_record, outcome, run, script_scope, shown_by, state_of}
use Rattle.es5_laws.specs.Laws.{SameEnd, SameShown, SitesDontMatter, SameCells}
use Rattle.es5_laws.proofs.OwnCode.{bare_own_code}
use Rattle.es5_laws.proofs.SameTasks.{Alike, done, leaves, asks, looks, sets, makes, keeps, enters, stores, prints, reads, bare_code, bare_state, bare_request, alike_then}
use Rattle.es5_laws.proofs.SameCalls.{all_alike}
use Rattle.es5_laws.proofs.SameNodes.{perform_alike}

-- how a walk comes out, without sites and places
abbrev pub bare_outcome : Outcome → Outcome
bare_outcome (Ended c s g) = Ended c (bare_state s) g
bare_outcome (Left k p s) = Left k no_place (bare_state s)
bare_outcome (Going s) = Going (bare_state s)

-- ---- walks

-- what comes of nodes that are the same but for sites and places
abbrev AnswersAlike : Answers → Type 0
AnswersAlike A = (q : Request) (k l : Completion → Task) (s : State) → ((c : Completion) → Alike (k c) (l c)) → A (bare_request q) l (bare_state s) ≡ bare_outcome (A q k s)

-- a state with one more function
more_code : (s : State) (c : Code) → with_code (bare_state s) (bare_code c) ≡ bare_state (with_code s c)
more_code s c = ap (λ codes. record s { codes = codes }) (sym (map-append bare_code s.codes (c ∷ [])))

walk_alike : (A : Answers) → AnswersAlike A → (g : ℕ) (t u : Task) → Alike t u → (s : State) → walk A g u (bare_state s) ≡ bare_outcome (walk A g t s)
unfolding walk
walk_alike A h g _ _ (done c) s = refl
walk_alike A h g _ _ (leaves k p) s = refl
walk_alike A h g _ _ (asks q i) s = h q _ _ s i
walk_alike A h g _ _ (looks i) s = walk_alike A h g _ _ (i s) s
walk_alike A h g _ _ (sets o c i) s = walk_alike A h g _ _ i _
walk_alike A h g _ _ (makes c i) s = walk_alike A h g _ _ (i _) _
walk_alike A h g _ _ (keeps c {g = f} i) s =
    ap (λ n. walk A g (f n) (with_code (bare_state s) (bare_code c))) (length-map s.codes bare_code)
    ∙ (ap (walk A g (f (length s.codes))) (more_code s c) ∙ walk_alike A h g _ _ (i (length s.codes)) (with_code s c))
walk_alike A h g _ _ (enters a i) s = walk_alike A h g _ _ (i _) _
walk_alike A h g _ _ (stores r a i) s = walk_alike A h g _ _ i _
walk_alike A h g _ _ (prints x i) s = walk_alike A h g _ _ i _
walk_alike A h g _ _ (reads n i) s = walk_alike A h g _ _ i _

ask_alike : (n : ℕ) → AnswersAlike (ask n)
unfolding ask
ask_alike zero q k l s h = refl
ask_alike (suc n) q k l s h = walk_alike (ask n) (ask_alike n) n (perform q >>= k) (perform (bare_request q) >>= l) (alike_then (perform_alike q) h) s

-- ---- scripts

-- the first state, with these variables of the script's own
abbrev first_with : Text → List Text → State
first_with input names = record {
  heap = made.cells;
  codes = [];
  records = global_record ∷ record { variables = undefined_variables names; constants = []; outer = Some 0 } ∷ [];
  lines = record { input = input; read = 0 };
  calls = [];
}

bare_first : (script : Script) (input : Text) → first_state (bare script) input ≡ bare_state (first_state script input)
unfolding first_state
bare_first script input = ap (λ o. first_with input (new_names [] o.names)) (bare_own_code script.body)

bare_comes_out : (script : Script) (input : Text) (n : ℕ) → outcome (bare script) input n ≡ bare_outcome (outcome script input n)
unfolding outcome run
bare_comes_out script input n =
    ap (λ s. run n (all (map bare_stmt script.body) script_scope) s) (bare_first script input)
    ∙ walk_alike (ask n) (ask_alike n) n (all script.body script_scope) (all (map bare_stmt script.body) script_scope) (all_alike script.body script_scope) (first_state script input)

come_out_alike : (script other : Script) → bare script ≡ bare other → (input : Text) (n : ℕ) → bare_outcome (outcome script input n) ≡ bare_outcome (outcome other input n)
come_out_alike script other e input n = sym (bare_comes_out script input n) ∙ (ap (λ s. outcome s input n) e ∙ bare_comes_out other input n)

-- ---- what is shown

same_end : (end : EsEnd) → SameEnd end end
same_end Finished = tt
same_end (Uncaught name message) = (refl, refl)
same_end (Outside kind place) = refl

shown_same : (o p : Outcome) → bare_outcome o ≡ bare_outcome p → SameShown (shown_by o) (shown_by p)
shown_same (Ended c s g) (Ended d r h) e =
    let f : bare_state s ≡ bare_state r = cc in
    let i : c ≡ d = cc in
    (ap (λ x. output_of x.calls) f, subst (λ x. SameEnd (end_of c s.heap) (end_of x r.heap)) i (subst (λ x. SameEnd (end_of c s.heap) (end_of c x.heap)) f (same_end (end_of c s.heap))))
shown_same (Ended c s g) (Left k q r) e = cc
shown_same (Ended c s g) (Going r) e = cc
shown_same (Left k p s) (Ended d r h) e = cc
shown_same (Left k p s) (Left l q r) e = let f : bare_state s ≡ bare_state r = cc in (ap (λ x. output_of x.calls) f, cc)
shown_same (Left k p s) (Going r) e = cc
shown_same (Going s) (Ended d r h) e = cc
shown_same (Going s) (Left k q r) e = cc
shown_same (Going s) (Going r) e = let f : bare_state s ≡ bare_state r = cc in ap (λ x. output_of x.calls) f

pub sites_dont_matter_is : SitesDontMatter
unfolding es_run
sites_dont_matter_is script other e input n = shown_same _ _ (come_out_alike script other e input n)

-- ---- cells

bare_cells : (o : Outcome) → cells_of (state_of (bare_outcome o)) ≡ cells_of (state_of o)
bare_cells (Ended c s g) = refl
bare_cells (Left k p s) = refl
bare_cells (Going s) = refl

pub same_cells_is : SameCells
unfolding cells_at
same_cells_is script other e input n =
    sym (bare_cells (outcome script input n)) ∙ (ap (λ o. cells_of (state_of o)) (come_out_alike script other e input n) ∙ bare_cells (outcome other input n))
