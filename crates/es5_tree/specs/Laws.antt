-- Laws of tokens.
use Rattle.std.specs.Prelude.{◌≡◌, ◌⊎◌, ℕ, List}
use Rattle.std.specs.List.{AllByRecursion}
use Rattle.es5_tree.specs.declared.token.EsToken.{EsToken}
use Rattle.es5_tree.specs.Lexed.{LexesTo, Ascends, IsEnded, IsSafe, NoTokenAt}

-- bytes have a list of tokens, or a first byte where none begins
abbrev pub Lexed : List ℕ → Type 0
Lexed bytes = ((tokens : List EsToken) × LexesTo bytes tokens) ⊎ ((offset : ℕ) × NoTokenAt bytes offset)

abbrev pub TokensOrNone : Type 0
TokensOrNone = (bytes : List ℕ) → Lexed bytes

-- one list at most, one such byte at most, and never both
pub record LexedOnce : Type 0 where
  pub tokens : (bytes : List ℕ) (tokens others : List EsToken) → LexesTo bytes tokens → LexesTo bytes others → tokens ≡ others
  pub offset : (bytes : List ℕ) (offset other : ℕ) → NoTokenAt bytes offset → NoTokenAt bytes other → offset ≡ other
  pub apart : (bytes : List ℕ) (tokens : List EsToken) (offset : ℕ) → LexesTo bytes tokens → NoTokenAt bytes offset → ⊥

-- their slices follow one another, the end token is the last and the only one, and numerals are at most 2^53-1
abbrev pub SlicesAscend : Type 0
SlicesAscend = (bytes : List ℕ) (tokens : List EsToken) → LexesTo bytes tokens → Ascends 0 tokens

abbrev pub OneEndToken : Type 0
OneEndToken = (bytes : List ℕ) (tokens : List EsToken) → LexesTo bytes tokens → IsEnded tokens

abbrev pub NumeralsSafe : Type 0
NumeralsSafe = (bytes : List ℕ) (tokens : List EsToken) → LexesTo bytes tokens → AllByRecursion IsSafe tokens
