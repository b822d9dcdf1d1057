use Rattle.std.proofs.Common.{◌≡◌, ◌≤◌, ◌<◌, suc, ◌+◌, ap, map, sym, ◌∙◌, length, subst, take, arith}
use Rattle.std.proofs.lemmas.List.{length-map, take-map}
use Rattle.grammar.specs.Reading.{FrontUpTo}
use Rattle.grammar.specs.Spelling.{IsFront}
use Rattle.ruby_meaning.specs.Grammar.Laws.{whole_file}
use Rattle.ruby_meaning.specs.Grammar.Refusals.{most_levels}
use Rattle.ruby_meaning.specs.Grammar.Table.{table}
use Rattle.ruby_reading.specs.Ahead.{see}
use Rattle.ruby_parser.specs.Endings.{spelled}
use Rattle.ruby_parser.specs.Refusing.{TellsIf}
use Rattle.ruby_parser.proofs.Wholes.{end_told, within_told}
use Rattle.ruby_parser.proofs.refusal.is_too_deep.Goals as goal

pub returns-then-at-sights : goal.returns-then-at-sights
returns-then-at-sights c =
    let ts = map see c.args.sights.now in
    let one : c.args.at + 1 ≡ suc c.args.at = omega arith in
    let cut = sym (take-map see (c.args.at + 1) c.args.sights.now) ∙ ap (λ n. take n ts) one in
    within_told ts c.args.at (omega (arith, c.if-at-sights.true, length-map c.args.sights.now see)) c.is_front.result
    (subst (λ l. TellsIf (IsFront table whole_file most_levels l) c.is_front.result) cut c.is_front.ensures)

pub returns-else-at-sights : goal.returns-else-at-sights
returns-else-at-sights c =
    let ts = map see c.args.sights.now in
    let end : c.args.at ≡ length ts = omega (arith, c.if-at-sights.false, c.requires.within, length-map c.args.sights.now see) in
    subst (TellsIf (FrontUpTo table whole_file most_levels ts (suc c.args.at))) (sym c.spelled.ensures) (end_told ts c.args.at end c.read_list.result c.read_list.ensures)
