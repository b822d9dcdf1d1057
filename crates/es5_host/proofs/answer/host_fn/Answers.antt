use Rattle.std.proofs.Common.{◌≡◌, rules}
use Rattle.std.specs.List.{slice_get}
use Rattle.es5_host.proofs.Numbers.{by_number, in_order}
use Rattle.es5_host.proofs.answer.host_fn.Goals as goal

pub returns : goal.returns
returns c =
    let e : c.copied.result ≡ slice_get in_order c.args.number = search rules in
    by_number c.copied.result c.args.number e
