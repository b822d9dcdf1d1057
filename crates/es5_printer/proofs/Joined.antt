-- The text of joined statements.
use Rattle.std.proofs.Common.{map, ap, refl, ◌∙◌}
use Rattle.std.proofs.lemmas.List.{map-append}
use Rattle.std.proofs.lemmas.Grind.{flat_map-append}
use Rattle.es5_printer.specs.Forms.{lines}
use Rattle.es5_printer.specs.Laws.{JoinedTexts, TextOfStatements}
use Rattle.es5_printer.specs.Pieces.{bytes_of, piece_bytes}
use Rattle.es5_printer.specs.Text.{stmt_pieces}

pub joined : JoinedTexts
joined first second =
    ap (λ l. bytes_of (lines l)) (map-append stmt_pieces first second)
    ∙ (ap bytes_of (flat_map-append _ (map stmt_pieces first) (map stmt_pieces second)) ∙ flat_map-append piece_bytes (lines (map stmt_pieces first)) (lines (map stmt_pieces second)))

pub of_statements : TextOfStatements
of_statements script = refl
