use Rattle.ruby_reading.specs.Ahead.{ahead}
use Rattle.ruby_reading.proofs.Named.{tree_read, tree_failed}
use Rattle.ruby_reading.proofs.names.Parser.tree.Goals as goal

pub returns-in-Ok-Tree : goal.returns-in-Ok-Tree
returns-in-Ok-Tree g c = tree_read c.args.takes_do c.args.self.now.in_rescue c.args.self.now.depth (ahead c.args.cursor.now) (ahead c.named.new.cursor) c.args.tree c.production_of.result c.in-Ok-Tree.node c.production_of.ensures (rw c.in-Ok-Tree.field-0-is at c.in-Ok-Tree.ensures)

pub returns : goal.returns
returns g c = tree_failed c.args.takes_do c.args.self.now.in_rescue c.args.self.now.depth (ahead c.args.cursor.now) (ahead c.named.new.cursor) c.args.tree c.production_of.result c.in-Err.fail c.production_of.ensures c.in-Err.ensures
