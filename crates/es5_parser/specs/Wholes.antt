-- What the reading of a whole list of tokens comes to.
use Rattle.std.specs.Prelude.{◌≡◌, ℕ, ◌-◌, Bool, true, false, nat_eq, List, map, Result, Ok, Err}
use Rattle.descent.specs.declared.fail.Fail.{Fail}
use Rattle.descent.specs.declared.fail.Fail.TheVariants as fail
use Rattle.grammar.specs.Reading.{read_all}
use Rattle.es5_tree.specs.declared.token.EsToken.{EsToken}
use Rattle.es5_tree.specs.declared.tree.EsStmt.{EsStmt}
use Rattle.es5_tree.specs.Grammar.Names.{script}
use Rattle.es5_tree.specs.Grammar.Nodes.{statement}
use Rattle.es5_tree.specs.Grammar.Table.{table}
use Rattle.es5_parser.specs.declared.read.Halt.{Halt}
use Rattle.es5_parser.specs.declared.read.Halt.TheVariants as halt

abbrev pub stopped : ℕ → ℕ → Result (List EsStmt) Halt
stopped all left = Err (halt.At (all - left))

abbrev pub whole_body : Bool → List EsStmt → ℕ → ℕ → Result (List EsStmt) Halt
whole_body true body all left = Ok body
whole_body false body all left = stopped all left

abbrev pub whole : Result (List EsStmt) Fail → ℕ → ℕ → Result (List EsStmt) Halt
whole (Ok body) all left = whole_body (nat_eq left 0) body all left
whole (Err fail.NoMemory) all left = Err halt.NoMemory
whole (Err fail.Refused) all left = stopped all left

-- the statements that a whole list spells with so many levels, or the index of the token that is refused
abbrev pub ReadsAll : ℕ → List EsToken → Result (List EsStmt) Halt → Type 0
ReadsAll levels ts (Ok body) = read_all table script levels ts ≡ Ok (map statement body)
ReadsAll levels ts (Err halt.NoMemory) = Unit {0}
ReadsAll levels ts (Err (halt.At at)) = read_all table script levels ts ≡ Err at
