-- Laws of printed texts.
use Rattle.std.specs.Prelude.{◌≡◌, ℕ, List, ◌++◌, map, codes}
use Rattle.es5_tree.specs.declared.tree.EsStmt.{EsStmt}
use Rattle.es5_tree.specs.declared.tree.Script.{Script}
use Rattle.es5_printer.specs.Forms.{lines}
use Rattle.es5_printer.specs.Pieces.{bytes_of}
use Rattle.es5_printer.specs.Text.{stmt_pieces, text_of}

abbrev pub statements_text : List EsStmt → List ℕ
statements_text body = bytes_of (lines (map stmt_pieces body))

-- the text of statements that are joined is the join of their texts
abbrev pub JoinedTexts : Type 0
JoinedTexts = (first second : List EsStmt) → statements_text (first ++ second) ≡ statements_text first ++ statements_text second

-- a script's text is that of the directive and that of its statements
abbrev pub TextOfStatements : Type 0
TextOfStatements = (script : Script) → text_of script ≡ codes "\"use strict\";\n" ++ statements_text script.body
