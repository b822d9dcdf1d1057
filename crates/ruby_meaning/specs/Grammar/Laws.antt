-- Which program a file's tokens spell, where they are refused, and what holds of that.
use Rattle.std.specs.Prelude.{◌≡◌, ℕ, ◌≤◌, true, false, if◌then◌else◌, List, [], ◌∷◌, ◌++◌, ◌⊎◌}
use Rattle.grammar.specs.Rules.{El, deep}
use Rattle.grammar.specs.Spelling.{Spells, IsFront}
use Rattle.grammar.specs.Checks.{Predictive}
use Rattle.grammar.specs.Reading.{RefusedAt}
use Rattle.ruby_meaning.specs.declared.production.Part.{Part}
use Rattle.ruby_meaning.specs.declared.production.Production.TheVariants as p
use Rattle.ruby_meaning.specs.declared.token.Token.{Token}
use Rattle.ruby_meaning.specs.declared.tree.Node.{Node}
use Rattle.ruby_meaning.specs.declared.tree.Program.{Program}
use Rattle.ruby_meaning.specs.Depth.{depth_of}
use Rattle.ruby_meaning.specs.Lexing.Laws.{is_eof}
use Rattle.ruby_meaning.specs.Grammar.Seen.{Seen, seen}
use Rattle.ruby_meaning.specs.Grammar.Names.{sorts, part}
use Rattle.ruby_meaning.specs.Grammar.Table.{table}

-- `stmts` of a file: a `do` block may be taken, and no rescue clause stands around it
abbrev pub whole_file : Part
whole_file = part p.Statements true false

-- the tokens before the end token
abbrev pub before_end : List Token → List Token
before_end [] = []
before_end (t ∷ ts) = if is_eof t.kind then [] else t ∷ before_end ts

-- what the grammar sees of a file's tokens
abbrev pub sight : List Token → List Seen
sight tokens = seen (before_end tokens)

-- The tokens spell the program.
pub record SpellsProgram (program : Program) (tokens : List Token) : Type 0 where
  -- 1 where the file has no statement
  pub written : ℕ
  pub spells : Spells table whole_file (program.body, written) (sight tokens)

abbrev pub limit : ℕ
limit = 120

pub record SpellsInLimit (program : Program) (tokens : List Token) : Type 0 where
  pub spelled : SpellsProgram program tokens
  pub shallow : depth_of program.body ≤ limit

-- The first token such that the tokens up to and with it are no front of a program within the limit; the end token is one.
abbrev pub GrammarFault : List Token → ℕ → Type 0
GrammarFault tokens at = RefusedAt table whole_file limit (sight tokens) at

-- Tokens spell at most one program.
abbrev pub OneProgram : Type 0
OneProgram = (tokens : List Token) (p q : Program) → SpellsProgram p tokens → SpellsProgram q tokens → p ≡ q

-- Tokens spell a program within the limit or are refused, never both, and at one place.
abbrev pub SpelledOrRefused : Type 0
SpelledOrRefused = (tokens : List Token) → ((p : Program) × SpellsInLimit p tokens) ⊎ ((at : ℕ) × GrammarFault tokens at)

abbrev pub NeverBoth : Type 0
NeverBoth = (tokens : List Token) (p : Program) (at : ℕ) → SpellsInLimit p tokens → GrammarFault tokens at → ⊥

abbrev pub OnePlace : Type 0
OnePlace = (tokens : List Token) (at other : ℕ) → GrammarFault tokens at → GrammarFault tokens other → at ≡ other

-- Each beginning of what a production spells within some levels is a front of it.
abbrev pub BeginningsAreFronts : Type 0
BeginningsAreFronts = (k : Part) (levels : ℕ) (u v : List Seen) (x : El Seen Node (sorts k)) → Spells table k x (u ++ v) → deep Seen depth_of (sorts k) x ≤ levels → IsFront table k levels u

-- One token tells how to go on.
abbrev pub OneTokenTells : Type 0
OneTokenTells = Predictive table
