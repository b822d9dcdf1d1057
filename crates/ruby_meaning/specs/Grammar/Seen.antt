-- What the grammar sees of a list of tokens: each token with its sign, which hangs on the tokens before it and on blanks.
use Rattle.std.specs.Prelude.{Bool, true, false, not, ◌&&◌, ◌||◌, if◌then◌else◌, List, [], ◌∷◌}
use Rattle.ruby_meaning.specs.declared.production.Sign.{Sign}
use Rattle.ruby_meaning.specs.declared.production.Sign.TheVariants as sign
use Rattle.ruby_meaning.specs.declared.token.Mark.{Mark}
use Rattle.ruby_meaning.specs.declared.token.Mark.TheVariants as mark
use Rattle.ruby_meaning.specs.declared.token.Word.TheVariants as word
use Rattle.ruby_meaning.specs.declared.token.Token.{Token}
use Rattle.ruby_meaning.specs.declared.token.TokenKind.{TokenKind}
use Rattle.ruby_meaning.specs.declared.token.TokenKind.TheVariants as kind

pub record Seen : Type 0 where
  pub token : Token
  pub sign : Sign

-- The tokens before are given with the last one first.

abbrev pub is_dot : TokenKind → Bool
is_dot (kind.Op mark.Dot) = true
is_dot _ = false

abbrev pub is_def : TokenKind → Bool
is_def (kind.Keyword word.Def) = true
is_def _ = false

abbrev pub is_alias : TokenKind → Bool
is_alias (kind.Keyword word.Alias) = true
is_alias _ = false

-- a name that stands behind these is the one that a `def` gives, or the first of an `alias`
unfoldable pub gives_name : List Token → Bool
gives_name (dot ∷ receiver ∷ def ∷ before) = (is_dot dot.kind && is_def def.kind) || is_def dot.kind || is_alias dot.kind
gives_name (last ∷ before) = is_def last.kind || is_alias last.kind
gives_name [] = false

abbrev pub is_name : TokenKind → Bool
is_name (kind.Name n) = true
is_name (kind.Keyword word.Yield) = true
is_name (kind.Keyword word.Super) = true
is_name _ = false

-- a name, `yield` or `super`, which takes arguments
unfoldable pub takes_arguments : List Token → Bool
takes_arguments (last ∷ before) = is_name last.kind && not (gives_name before)
takes_arguments [] = false

abbrev pub is_callee : TokenKind → Bool
is_callee (kind.Const n) = true
is_callee k = is_name k || is_dot k

abbrev pub ends_in_dot : List Token → Bool
ends_in_dot (last ∷ before) = is_dot last.kind
ends_in_dot [] = false

abbrev pub is_open : TokenKind → Bool
is_open (kind.Op mark.ParenOpen) = true
is_open _ = false

-- A `(` directly behind it opens the arguments of a call: behind a name, a `.`, or what a method is named by. The `(` of
-- `.(` names none, so that a value begins behind it.
unfoldable pub opens_call : List Token → Bool
opens_call (last ∷ before) = is_callee last.kind || (ends_in_dot before && not (is_open last.kind))
opens_call [] = false

abbrev pub is_argument_mark : Mark → Bool
is_argument_mark mark.Minus = true
is_argument_mark mark.BracketOpen = true
is_argument_mark mark.Star = true
is_argument_mark mark.Ampersand = true
is_argument_mark mark.ParenOpen = true
is_argument_mark mark.ColonColon = true
is_argument_mark mark.WordsRound = true
is_argument_mark mark.WordsSquare = true
is_argument_mark mark.SymbolsRound = true
is_argument_mark mark.SymbolsSquare = true
is_argument_mark _ = false

abbrev pub is_paren : Mark → Bool
is_paren mark.ParenOpen = true
is_paren _ = false

unfoldable pub sign_of_op : List Token → Token → Mark → Sign
sign_of_op before t m =
    if is_paren m && not t.blank_before && opens_call before then sign.CallOpen
    else (if is_argument_mark m && t.blank_before && not t.blank_after && takes_arguments before then sign.Marked m
    else sign.Op m)

abbrev pub sign_of_kind : List Token → Token → TokenKind → Sign
sign_of_kind before t (kind.Name n) = sign.Name
sign_of_kind before t (kind.Const n) = sign.Const
sign_of_kind before t (kind.Ivar n) = sign.Ivar
sign_of_kind before t (kind.Gvar n) = sign.Gvar
sign_of_kind before t (kind.Keyword w) = sign.Keyword w
sign_of_kind before t (kind.Op m) = sign_of_op before t m
sign_of_kind before t (kind.Label n) = sign.Label
sign_of_kind before t (kind.Int i) = sign.Int
sign_of_kind before t (kind.Text u) = sign.Text
sign_of_kind before t kind.TextBegin = sign.TextBegin
sign_of_kind before t kind.TextEnd = sign.TextEnd
sign_of_kind before t kind.PartBegin = sign.PartBegin
sign_of_kind before t kind.PartEnd = sign.PartEnd
sign_of_kind before t kind.Newline = sign.Newline
sign_of_kind before t kind.Eof = sign.Eof

abbrev pub seen_behind : List Token → List Token → List Seen
seen_behind before [] = []
seen_behind before (t ∷ ts) = record { token = t; sign = sign_of_kind before t t.kind } ∷ seen_behind (t ∷ before) ts

-- the tokens of a whole file
unfoldable pub seen : List Token → List Seen
seen = seen_behind []
