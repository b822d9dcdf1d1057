-- What the functions of the lexer find at the front of bytes.
use Rattle.std.specs.Prelude.{◌≡◌, ℕ, ◌+◌, ◌≤◌, ◌<◌, List, [], ◌∷◌, drop, length, Option, Some, None}
use Rattle.es5_tree.specs.declared.token.EsTokenKind.{EsTokenKind}
use Rattle.es5_tree.specs.declared.token.EsToken.{EsToken}
use Rattle.opal_base.specs.declared.place.Pos.{Pos}
use Rattle.es5_tree.specs.declared.lexing.Restriction.{Restriction}
use Rattle.es5_tree.specs.declared.lexing.Restriction.TheVariants.{Free}
use Rattle.es5_tree.specs.Literals.{Characters, Unquoted, NoComment}
use Rattle.es5_tree.specs.Tokens as spec
use Rattle.es5_tree.specs.Tokens.{Form, kind_of, Stands, Stuck, StandsAt, StuckAt, after_all, Reaches}
use Rattle.es5_tree.specs.Lexed.{tokens_from}
use Rattle.es5_lexer.specs.declared.piece.Piece.{Piece}

-- a literal's text and the number of its bytes with the closing quote, or none
abbrev pub QuotedOrNot : ℕ → List ℕ → Option (List ℕ × ℕ) → Type 0
QuotedOrNot quote bytes None = Unquoted quote bytes
QuotedOrNot quote bytes (Some p) = Characters quote p.0 bytes (drop p.1 bytes) × (p.1 ≤ length bytes)

-- a piece of so many bytes that is a token of the kind, or a blank or comment
pub record PieceAt (bytes : List ℕ) (kind : Option EsTokenKind) (size : ℕ) : Type 0 where
  pub form : Form
  pub is : kind ≡ kind_of form
  pub stands : Stands form bytes (drop size bytes)
  pub some : 0 < size
  pub within : size ≤ length bytes

abbrev pub PieceOrNot : List ℕ → Option Piece → Type 0
PieceOrNot bytes None = Stuck bytes
PieceOrNot bytes (Some piece) = PieceAt bytes piece.kind piece.size

-- a comment, or none
abbrev pub CommentOrNot : List ℕ → Option Piece → Type 0
CommentOrNot bytes None = NoComment bytes
CommentOrNot bytes (Some piece) = PieceAt bytes piece.kind piece.size

-- the same of a piece that may come
pub record AllowedAt (restriction : Restriction) (bytes : List ℕ) (kind : Option EsTokenKind) (size : ℕ) : Type 0 where
  pub form : Form
  pub is : kind ≡ kind_of form
  pub stands : StandsAt restriction form bytes (drop size bytes)
  pub some : 0 < size
  pub within : size ≤ length bytes

abbrev pub AllowedOrNot : Restriction → List ℕ → Option Piece → Type 0
AllowedOrNot restriction bytes None = StuckAt restriction bytes
AllowedOrNot restriction bytes (Some piece) = AllowedAt restriction bytes piece.kind piece.size

-- the token of a piece at a place
abbrev pub token_here : Pos → ℕ → ℕ → Option EsTokenKind → List EsToken
token_here pos from size None = []
token_here pos from size (Some kind) = record { kind = kind; from = from; to = from + size; pos = pos } ∷ []

-- what the loop keeps: these are the tokens of the pieces up to the byte
pub record Progress (bytes : List ℕ) (at : ℕ) (restriction : Restriction) (tokens : List EsToken) : Type 0 where
  pub pieces : List spec.Piece
  pub reached : Reaches Free bytes pieces (drop at bytes)
  pub restricted : restriction ≡ after_all Free pieces
  pub same : tokens ≡ tokens_from bytes 0 pieces
