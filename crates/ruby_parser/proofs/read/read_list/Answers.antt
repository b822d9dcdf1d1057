use Rattle.std.proofs.Common.{◌≡◌, ap, sym, ◌∙◌, length, map, subst}
use Rattle.std.proofs.lemmas.List.{length-map}
use Rattle.ruby_reading.specs.Ahead.{ahead, see}
use Rattle.ruby_parser.specs.Endings.{whole}
use Rattle.ruby_parser.specs.Refusing.{ReadsAll}
use Rattle.ruby_parser.proofs.Wholes.{whole_told}
use Rattle.ruby_parser.proofs.read.read_list.Goals as goal

pub returns : goal.returns
returns c =
    let ts = map see c.args.sights.now in
    let all = ap (λ n. whole c.read_part-read.result n (length (ahead c.read_part-read.new.cursor))) (length-map c.args.sights.now see) in
    let left = ap (whole c.read_part-read.result (length c.args.sights.now)) c.left.ensures in
    subst (ReadsAll c.args.levels ts) (sym (c.whole.ensures ∙ left ∙ sym all)) (whole_told c.args.levels ts (ahead c.read_part-read.new.cursor) c.read_part-read.result c.read_part-read.ensures)
