-- The one text of a script, a function of its tree, and the places of its sites in it.
use Rattle.std.specs.Prelude.{ℕ, List, ◌∷◌, map, codes}
use Rattle.opal_base.specs.declared.place.Pos.{Pos}
use Rattle.es5_tree.specs.declared.tree.Catch.{Catch}
use Rattle.es5_tree.specs.declared.tree.EsExpr.{EsExpr}
use Rattle.es5_tree.specs.declared.tree.EsKind.{EsKind}
use Rattle.es5_tree.specs.declared.tree.EsKind.TheFolds.{fold-Catch, fold-EsExpr, fold-EsKind, fold-EsStmt}
use Rattle.es5_tree.specs.declared.tree.EsStmt.{EsStmt}
use Rattle.es5_tree.specs.declared.tree.Script.{Script}
use Rattle.es5_printer.specs.declared.place.Place.{Place}
use Rattle.es5_printer.specs.Forms.{Form, Part, of_catch, of_expr, of_kind, of_stmt, lines}
use Rattle.es5_printer.specs.Pieces.{Piece, text, bytes_of, places_from}

unfoldable pub expr_part : EsExpr → Part
expr_part = fold-EsExpr Form (List Piece) (List Piece) Part of_kind of_stmt of_catch of_expr

-- The same fold at the other types of the tree:
unfoldable pub kind_form : EsKind → Form
kind_form = fold-EsKind Form (List Piece) (List Piece) Part of_kind of_stmt of_catch of_expr

unfoldable pub stmt_pieces : EsStmt → List Piece
stmt_pieces = fold-EsStmt Form (List Piece) (List Piece) Part of_kind of_stmt of_catch of_expr

unfoldable pub catch_pieces : Catch → List Piece
catch_pieces = fold-Catch Form (List Piece) (List Piece) Part of_kind of_stmt of_catch of_expr

-- the directive, and each statement on a line of its own
abbrev pub script_pieces : Script → List Piece
script_pieces script = text (codes "\"use strict\";\n") ∷ lines (map stmt_pieces script.body)

abbrev pub text_of : Script → List ℕ
text_of script = bytes_of (script_pieces script)

abbrev pub places_of : Script → List Place
places_of script = places_from (record { line = 0; col = 0 }) (script_pieces script)
