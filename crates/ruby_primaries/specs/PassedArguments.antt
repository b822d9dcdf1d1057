-- Arguments as calls take them.
use Rattle.std.specs.Prelude.{List, Option}
use Rattle.ruby_meaning.specs.declared.tree.Node.{Node}
use Rattle.ruby_primaries.specs.declared.passed.Passed.{Passed}

abbrev pub shown_passed : Passed → List Node × Option Node
shown_passed x = (x.items, x.pass)
