-- What the runs of scripts come to.
use Rattle.std.specs.Prelude.{◌≡◌, ℕ, List, [], ◌∷◌, codes, ⊤}
use Rattle.opal_base.specs.Shown.{Ended, Going, Shown, ShowsInTurn}
use Rattle.es5_tree.specs.declared.tree.Script.{Script}
use Rattle.es5_tree.specs.Depth.{script_depth}
use Rattle.es5_tree.specs.Grammar.Spelling.{bare}
use Rattle.es5_tree.specs.Values.{Text}
use Rattle.es5_tree.specs.Ends.{EsEnd, Finished, Outside, Uncaught}
use Rattle.es5_evaluation.specs.Run.{cells_at, es_run}
use Rattle.es5_laws.specs.Writes.{writes}

-- a script that writes texts writes them one after the other and finishes
abbrev pub WritesInTurn : Type 0
WritesInTurn = (texts : List (List ℕ)) (input : Text) → ShowsInTurn (es_run (writes texts) input) texts Finished

-- `$host.write("hi");` goes on with four units, and has ended with five
abbrev pub OneWriteTakesFive : Type 0
OneWriteTakesFive = (input : Text) → (es_run (writes (codes "hi" ∷ [])) input 4 ≡ Going []) × (es_run (writes (codes "hi" ∷ [])) input 5 ≡ Ended (codes "hi") Finished)

-- scripts that are the same but for sites and places are as deep
abbrev pub SameDepth : Type 0
SameDepth = (script other : Script) → bare script ≡ bare other → script_depth script ≡ script_depth other

-- ends that are the same but for the place where a run leaves the profile
abbrev pub SameEnd : EsEnd → EsEnd → Type 0
SameEnd Finished Finished = ⊤
SameEnd (Uncaught name message) (Uncaught other text) = (name ≡ other) × (message ≡ text)
SameEnd (Outside kind place) (Outside other there) = kind ≡ other
SameEnd _ _ = ⊥

-- the same output, and the same end but for that place
abbrev pub SameShown : Shown EsEnd → Shown EsEnd → Type 0
SameShown (Going output) (Going other) = output ≡ other
SameShown (Ended output end) (Ended other last) = (output ≡ other) × SameEnd end last
SameShown _ _ = ⊥

-- sites and places change nothing of a run but that place
abbrev pub SitesDontMatter : Type 0
SitesDontMatter = (script other : Script) → bare script ≡ bare other → (input : Text) (n : ℕ) → SameShown (es_run script input n) (es_run other input n)

-- nor how many cells it makes
abbrev pub SameCells : Type 0
SameCells = (script other : Script) → bare script ≡ bare other → (input : Text) (n : ℕ) → cells_at script input n ≡ cells_at other input n
