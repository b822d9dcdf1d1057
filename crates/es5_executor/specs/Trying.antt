-- `try` with a last part, and with one that takes what was thrown.
use Rattle.std.specs.Prelude.{ℕ, ◌<◌, [], ◌∷◌, ◌++◌, length, None, Some, codes}
use Rattle.opal_base.specs.declared.place.Pos.{Pos}
use Rattle.es5_tree.specs.declared.tree.Catch.{Catch}
use Rattle.es5_tree.specs.declared.tree.EsStmt.TheVariants as stmt
use Rattle.es5_tree.specs.Values.{Val, Obj}
use Rattle.es5_evaluation.specs.State.{Code, State}
use Rattle.es5_evaluation.specs.Task.{Normal, Throw}
use Rattle.es5_evaluation.specs.Evaluate.{invoke}
use Rattle.es5_executor.specs.Builders.{name, at, this, assign, return, throw, code}
use Rattle.es5_executor.specs.Runs.{Gave, Takes}
use Rattle.es5_executor.specs.Memory.{record_of, IsFunction, write}

-- function(x) { try { throw x; } finally { this["a"] = x; } }
abbrev pub last_code : Code
last_code = code (codes "x" ∷ []) (stmt.Try (throw (name (codes "x")) ∷ []) None (Some (assign (at this (codes "a")) (name (codes "x")) ∷ [])) ∷ [])

abbrev pub Lasts : Type 0
Lasts = (p : Pos) (f o t : ℕ) (v : Val) (s : State) → IsFunction s.heap s.codes f last_code o → o < length s.records →
    Takes (invoke p (Obj f) (Obj t) (v ∷ [])) s 9 (Gave (Throw v)) (record s { heap = write s.heap t (codes "a") v; records = s.records ++ record_of o ((codes "x", v) ∷ []) ∷ [] })

abbrev pub part : Catch
part = record { name = codes "e"; body = return (name (codes "e")) ∷ [] }

-- function(x) { try { throw x; } catch (e) { return e; } }
abbrev pub catch_code : Code
catch_code = code (codes "x" ∷ []) (stmt.Try (throw (name (codes "x")) ∷ []) (Some part) None ∷ [])

abbrev pub Catches : Type 0
Catches = (p : Pos) (f o : ℕ) (v that : Val) (s : State) → IsFunction s.heap s.codes f catch_code o → o < length s.records →
    Takes (invoke p (Obj f) that (v ∷ [])) s 5 (Gave (Normal v)) (record s { records = (s.records ++ record_of o ((codes "x", v) ∷ []) ∷ []) ++ record_of (length s.records) ((codes "e", v) ∷ []) ∷ [] })
