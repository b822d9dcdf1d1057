use Rattle.std.proofs.Common.{◌≡◌, Some, ap, sym, ◌∙◌}
use Rattle.ruby_parser.proofs.LastSign.{last_is}
use Rattle.ruby_parser.proofs.refusal.last_sign.Goals as goal

pub returns-in-len1-up : goal.returns-in-len1-up
returns-in-len1-up c = sym (last_is c.args.front.now c.last-item.result c.in-len1-up.len_at_least ∙ ap (λ s. Some s.sign) (sym c.last-item.is))
