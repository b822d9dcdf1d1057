use Rattle.std.proofs.Common.{map}
use Rattle.ruby_reading.specs.Ahead.{see}
use Rattle.ruby_parser.proofs.Told.{keyword_told}
use Rattle.ruby_parser.proofs.refusal.is_keyword_parameter.Goals as goal

pub returns : goal.returns
returns c = keyword_told (map see c.args.front.now) c.args.next c.is_keyword_sign-sign.result c.in_ok-starts.starts c.both-told.result c.is_keyword_sign-sign.ensures c.both-told.ensures c.in_ok-starts.ensures
