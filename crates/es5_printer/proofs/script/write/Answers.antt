use Rattle.std.proofs.Common.{◌≡◌, map, codes, ◌∙◌, ap}
use Rattle.es5_printer.specs.Forms.{lines}
use Rattle.es5_printer.specs.Page.{with_text, written}
use Rattle.es5_printer.specs.Text.{stmt_pieces}
use Rattle.es5_printer.proofs.script.write.Goals as goal

pub returns : goal.returns
returns c =
    c.in_ok-lines.ensures
    ∙ (ap (λ b. written (lines (map stmt_pieces b)) c.put.new.self) c.as_slice.ensures
    ∙ ap (written (lines (map stmt_pieces c.args.script.now.body))) (c.in_ok-put.ensures ∙ ap (with_text (codes "\"use strict\";\n")) c.new-page.ensures))
