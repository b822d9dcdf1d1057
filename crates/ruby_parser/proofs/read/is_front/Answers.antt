use Rattle.std.proofs.Common.{◌≡◌, ap, sym, ◌∙◌, map, subst}
use Rattle.grammar.specs.Spelling.{IsFront}
use Rattle.ruby_meaning.specs.Grammar.Laws.{whole_file}
use Rattle.ruby_meaning.specs.Grammar.Refusals.{most_levels}
use Rattle.ruby_meaning.specs.Grammar.Table.{table}
use Rattle.ruby_reading.specs.Ahead.{ahead, see}
use Rattle.ruby_parser.specs.Endings.{ended}
use Rattle.ruby_parser.specs.Refusing.{TellsIf}
use Rattle.ruby_parser.proofs.Wholes.{front_told}
use Rattle.ruby_parser.proofs.read.is_front.Goals as goal

pub returns : goal.returns
returns c =
    let ts = map see c.args.sights.now in
    subst (TellsIf (IsFront table whole_file most_levels ts)) (sym (c.ended.ensures ∙ ap (ended c.read_part-read.result) c.left.ensures)) (front_told ts (ahead c.read_part-read.new.cursor) c.read_part-read.result c.read_part-read.ensures)
