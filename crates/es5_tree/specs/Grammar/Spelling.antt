-- Which tokens and bytes spell a script, and where they spell none (ECMA-262 5.1, sections 7 and 11 to 14, as far as the profile goes).
use Rattle.std.specs.Prelude.{◌≡◌, ◌⊎◌, ℕ, ◌≤◌, List, [], ◌∷◌, map, None, Some, slice_get}
use Rattle.grammar.specs.Reading.{RefusedAt}
use Rattle.grammar.specs.Spelling.{Spells}
use Rattle.opal_base.specs.declared.place.Pos.{Pos}
use Rattle.es5_tree.specs.declared.token.EsToken.{EsToken}
use Rattle.es5_tree.specs.declared.token.EsTokenKind.{EsTokenKind}
use Rattle.es5_tree.specs.declared.token.EsTokenKind.TheVariants as kind_
use Rattle.es5_tree.specs.declared.tree.Catch.{Catch, roll-Catch}
use Rattle.es5_tree.specs.declared.tree.EsExpr.{EsExpr}
use Rattle.es5_tree.specs.declared.tree.EsKind.{EsKind, roll-EsKind}
use Rattle.es5_tree.specs.declared.tree.EsKind.TheFolds.{fold-EsStmt}
use Rattle.es5_tree.specs.declared.tree.EsKind.TheOpen.{EsKind-F}
use Rattle.es5_tree.specs.declared.tree.EsKind.TheVariants as kind
use Rattle.es5_tree.specs.declared.tree.EsStmt.{EsStmt, roll-EsStmt}
use Rattle.es5_tree.specs.declared.tree.Script.{Script}
use Rattle.es5_tree.specs.Depth.{script_depth}
use Rattle.es5_tree.specs.Lexed.{LexesTo, NoTokenPlace}
use Rattle.es5_tree.specs.Grammar.Nodes.{Node, stmts}
use Rattle.es5_tree.specs.Grammar.Names as name
use Rattle.es5_tree.specs.Grammar.Table.{table}

-- ---- tokens

abbrev pub up_to_end : EsTokenKind → List EsToken → EsToken → List EsToken
up_to_end kind_.End rest token = []
up_to_end other rest token = token ∷ rest

-- the tokens before the end token
abbrev pub before_end : List EsToken → List EsToken
before_end [] = []
before_end (token ∷ tokens) = up_to_end token.kind (before_end tokens) token

-- The tokens spell the script, its places with it; no expression has a site.
pub record SpellsScript (script : Script) (tokens : List EsToken) : Type 0 where
  pub body : List Node
  pub spells : Spells table name.script body (before_end tokens)
  pub tree : script ≡ record { body = stmts body }

-- so many statements and expressions at most on each path
abbrev pub limit : ℕ
limit = 1200

pub record SpellsInLimit (script : Script) (tokens : List EsToken) : Type 0 where
  pub spelled : SpellsScript script tokens
  pub shallow : script_depth script ≤ limit

-- The index of the first token such that the tokens up to and with it are no front of a script within the limit; the end token
-- is one.
abbrev pub NoFrontAt : List EsToken → ℕ → Type 0
NoFrontAt tokens at = RefusedAt table name.script limit (before_end tokens) at

-- its place
pub record NoFrontPos (tokens : List EsToken) (pos : Pos) : Type 0 where
  pub at : ℕ
  pub token : EsToken
  pub none : NoFrontAt tokens at
  pub there : slice_get tokens at ≡ Some token
  pub place : pos ≡ token.pos

-- ---- bytes

-- The tokens of the bytes spell the script, its places with it.
pub record Reads (bytes : List ℕ) (script : Script) : Type 0 where
  pub tokens : List EsToken
  pub lexed : LexesTo bytes tokens
  pub spells : SpellsScript script tokens

-- the same trees without their sites and places
abbrev pub no_place : Pos
no_place = record { line = 0; col = 0 }

abbrev pub bare_kind : EsKind-F EsKind EsStmt Catch EsExpr → EsKind
bare_kind (EsKind-F.Member base name mark) = kind.Member base name no_place
bare_kind (EsKind-F.Index base key mark) = kind.Index base key no_place
bare_kind form = roll-EsKind form

unfoldable pub bare_stmt : EsStmt → EsStmt
bare_stmt = fold-EsStmt EsKind EsStmt Catch EsExpr bare_kind roll-EsStmt roll-Catch (λ e. record { kind = e.kind; origin = None; pos = no_place })

abbrev pub bare : Script → Script
bare script = record { body = map bare_stmt script.body }

-- The bytes spell the script; sites and places play no part.
pub record EsSpells (script : Script) (bytes : List ℕ) : Type 0 where
  pub read : Script
  pub reads : Reads bytes read
  pub same : bare script ≡ bare read

pub record NoFrontPlace (bytes : List ℕ) (pos : Pos) : Type 0 where
  pub tokens : List EsToken
  pub lexed : LexesTo bytes tokens
  pub stops : NoFrontPos tokens pos

-- The place where bytes spell no script within the limit: the first byte where no token, blank or comment begins, and where there
-- is none, the first token that ends no front.
abbrev pub IsNotScript : List ℕ → Pos → Type 0
IsNotScript bytes pos = NoTokenPlace bytes pos ⊎ NoFrontPlace bytes pos
