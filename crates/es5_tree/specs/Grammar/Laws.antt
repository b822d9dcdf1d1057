-- Laws of the grammar.
use Rattle.std.specs.Prelude.{◌≡◌, ◌⊎◌, ℕ, ◌≤◌, List, ◌++◌}
use Rattle.grammar.specs.Checks.{Predictive}
use Rattle.grammar.specs.Rules.{El, deep}
use Rattle.grammar.specs.Spelling.{Spells, IsFront}
use Rattle.opal_base.specs.declared.place.Pos.{Pos}
use Rattle.es5_tree.specs.declared.token.EsToken.{EsToken}
use Rattle.es5_tree.specs.declared.tree.Script.{Script}
use Rattle.es5_tree.specs.Depth.{script_depth}
use Rattle.es5_tree.specs.Lexed.{IsEnded}
use Rattle.es5_tree.specs.Grammar.Nodes.{Node, depth}
use Rattle.es5_tree.specs.Grammar.Names.{Name, sorts}
use Rattle.es5_tree.specs.Grammar.Spelling.{SpellsScript, SpellsInLimit, limit, NoFrontAt, NoFrontPos, Reads, bare, EsSpells, IsNotScript}
use Rattle.es5_tree.specs.Grammar.Table.{table}

-- ---- tokens

-- tokens spell one script at most
abbrev pub OneScript : Type 0
OneScript = (tokens : List EsToken) (script other : Script) → SpellsScript script tokens → SpellsScript other tokens → script ≡ other

-- they spell one within the limit or have a first token that ends no front, never both, and one such token
abbrev pub SpelledOrRefused : Type 0
SpelledOrRefused = (tokens : List EsToken) → ((script : Script) × SpellsInLimit script tokens) ⊎ ((at : ℕ) × NoFrontAt tokens at)

abbrev pub NeverBoth : Type 0
NeverBoth = (tokens : List EsToken) (script : Script) (at : ℕ) → SpellsInLimit script tokens → NoFrontAt tokens at → ⊥

abbrev pub OneStop : Type 0
OneStop = (tokens : List EsToken) (at other : ℕ) → NoFrontAt tokens at → NoFrontAt tokens other → at ≡ other

-- tokens that end with their one end token have it or one before it there
abbrev pub StopsAtToken : Type 0
StopsAtToken = (tokens : List EsToken) (at : ℕ) → IsEnded tokens → NoFrontAt tokens at → (pos : Pos) × NoFrontPos tokens pos

-- each beginning of what a production spells within some levels is a front of it
abbrev pub BeginningsAreFronts : Type 0
BeginningsAreFronts = (k : Name) (levels : ℕ) (u v : List EsToken) (x : El EsToken Node (sorts k)) → Spells table k x (u ++ v) → deep EsToken depth (sorts k) x ≤ levels → IsFront table k levels u

-- one token tells how to go on
abbrev pub OneTokenTells : Type 0
OneTokenTells = Predictive table

-- ---- bytes

-- with their places, bytes spell one script at most
abbrev pub OneRead : Type 0
OneRead = (bytes : List ℕ) (script other : Script) → Reads bytes script → Reads bytes other → script ≡ other

-- what bytes spell with its places they spell
abbrev pub ReadSpells : Type 0
ReadSpells = (bytes : List ℕ) (script : Script) → Reads bytes script → EsSpells script bytes

-- but for sites and places, bytes spell one script at most
abbrev pub OneSpelled : Type 0
OneSpelled = (bytes : List ℕ) (script other : Script) → EsSpells script bytes → EsSpells other bytes → bare script ≡ bare other

-- bytes spell a script within the limit or have a place where they spell none, never both, and one such place
abbrev pub ScriptOrPlace : Type 0
ScriptOrPlace = (bytes : List ℕ) → ((script : Script) × Reads bytes script × (script_depth script ≤ limit)) ⊎ ((pos : Pos) × IsNotScript bytes pos)

abbrev pub NotScriptOrRead : Type 0
NotScriptOrRead = (bytes : List ℕ) (script : Script) (pos : Pos) → Reads bytes script → script_depth script ≤ limit → IsNotScript bytes pos → ⊥

abbrev pub OnePlace : Type 0
OnePlace = (bytes : List ℕ) (pos other : Pos) → IsNotScript bytes pos → IsNotScript bytes other → pos ≡ other
