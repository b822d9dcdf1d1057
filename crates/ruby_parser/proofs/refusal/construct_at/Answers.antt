use Rattle.std.proofs.Common.{◌≡◌, map}
use Rattle.ruby_reading.specs.Ahead.{see}
use Rattle.ruby_parser.proofs.Constructs.{named_told}
use Rattle.ruby_parser.proofs.refusal.construct_at.Goals as goal

pub returns : goal.returns
returns c = named_told c.args.sights.now c.args.at c.in_ok-is_too_deep.field-0 c.if-branch.false c.in_ok-is_too_deep.ensures c.sign_at.result c.sign_at.ensures c.construct_behind.result c.construct_behind.ensures
