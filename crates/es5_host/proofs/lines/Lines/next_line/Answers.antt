use Rattle.std.proofs.Common.{◌∙◌, ap, length, drop}
use Rattle.es5_tree.specs.Intrinsics.Lines.{line_of}
use Rattle.es5_host.proofs.Reading.{read_within}
use Rattle.es5_host.proofs.lines.Lines.next_line.Goals as goal

pub invariant_of-self : goal.invariant_of-self
invariant_of-self c = read_within c.self.inside.input c.self.inside.read (length c.line_of-line.result.now) c.self.invariant (ap length (c.line_of-line.ensures ∙ ap line_of (c.rest_of.ensures ∙ ap (drop c.self.inside.read) c.as_slice.ensures)))
