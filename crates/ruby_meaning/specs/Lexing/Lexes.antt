-- Which tokens a text has, and where it is refused.
use Rattle.std.specs.Prelude.{◌≡◌, ℕ, ℤ, pos, negsuc, zero, suc, ◌+◌, ◌-◌, Bool, true, false, not, ◌||◌, if◌then◌else◌, ◌==◌, List, [], ◌∷◌, ◌++◌, length, take, drop, slice_index, Option, Some, None, unwrap_or}
use Rattle.opal_base.specs.declared.place.Pos.{Pos}
use Rattle.opal_base.specs.Laws.{place_behind}
use Rattle.ruby_meaning.specs.declared.construct.Construct.{Construct}
use Rattle.ruby_meaning.specs.declared.construct.Construct.TheVariants as construct
use Rattle.ruby_meaning.specs.declared.construct.Stop.{Stop}
use Rattle.ruby_meaning.specs.declared.construct.Stop.TheVariants as stop
use Rattle.ruby_meaning.specs.declared.form.Bracket.{Bracket}
use Rattle.ruby_meaning.specs.declared.form.Bracket.TheVariants as bracket
use Rattle.ruby_meaning.specs.declared.form.Form.{Form}
use Rattle.ruby_meaning.specs.declared.form.Form.TheVariants as form
use Rattle.ruby_meaning.specs.declared.form.Mode.{Mode}
use Rattle.ruby_meaning.specs.declared.form.Mode.TheVariants as mode
use Rattle.ruby_meaning.specs.declared.form.Place.{Place}
use Rattle.ruby_meaning.specs.declared.form.Spelling.TheVariants as spelling
use Rattle.ruby_meaning.specs.declared.form.Stand.{Stand}
use Rattle.ruby_meaning.specs.declared.form.Stand.TheVariants as stand
use Rattle.ruby_meaning.specs.declared.spot.Spot.{Spot}
use Rattle.ruby_meaning.specs.declared.token.Mark.{Mark}
use Rattle.ruby_meaning.specs.declared.token.Mark.TheVariants as mark_
use Rattle.ruby_meaning.specs.declared.token.Token.{Token}
use Rattle.ruby_meaning.specs.declared.token.TokenKind.{TokenKind}
use Rattle.ruby_meaning.specs.declared.token.TokenKind.TheVariants as kind
use Rattle.ruby_meaning.specs.Lexing.Characters.{blank_len}
use Rattle.ruby_meaning.specs.Lexing.Numbers.{number_value}
use Rattle.ruby_meaning.specs.Lexing.OpenTexts.{top_is_none, closes, open_after}
use Rattle.ruby_meaning.specs.Lexing.Stands.{is_over, stands}
use Rattle.ruby_meaning.specs.Lexing.Texts.{content, unquoted}

-- ---- from a form and its slice to a token

abbrev pub signed_value : Bool → ℕ → ℤ
signed_value false n = pos n
signed_value true zero = pos 0
signed_value true (suc n) = negsuc n

-- the value of an integer's slice
unfoldable pub integer : List ℕ → ℤ
integer slice =
    let minus = slice_index slice 0 == 45 in
    signed_value minus (unwrap_or (number_value slice (if minus then 1 else 0)) 0)

abbrev pub words_mark : Bracket → Mark
words_mark bracket.Round = mark_.WordsRound
words_mark bracket.Square = mark_.WordsSquare

abbrev pub symbols_mark : Bracket → Mark
symbols_mark bracket.Round = mark_.SymbolsRound
symbols_mark bracket.Square = mark_.SymbolsSquare

abbrev pub end_mark : Bracket → Mark
end_mark bracket.Round = mark_.ListEndRound
end_mark bracket.Square = mark_.ListEndSquare

-- The token of a form is determined by its slice. The byte order mark, a blank, a comment, a newline that ends nothing
-- and what stands between the words of a list are skipped.
unfoldable pub kind_of : Form → List ℕ → Option TokenKind
kind_of form.Bom slice = None
kind_of form.Blank slice = None
kind_of form.Comment slice = None
kind_of form.Block slice = None
kind_of form.Joint slice = None
kind_of form.Separator slice = None
kind_of form.Newline slice = Some kind.Newline
kind_of form.Name slice = Some (kind.Name slice)
kind_of form.Const slice = Some (kind.Const slice)
kind_of form.Ivar slice = Some (kind.Ivar slice)
kind_of form.Gvar slice = Some (kind.Gvar slice)
kind_of form.Label slice = Some (kind.Label slice)
kind_of (form.MethodName p) slice = Some (kind.Name slice)
kind_of (form.MethodConst p) slice = Some (kind.Const slice)
kind_of (form.MethodOp p m) slice = Some (kind.Op m)
kind_of (form.MethodSet p) slice = Some (kind.Op mark_.Assign)
kind_of form.DefDot slice = Some (kind.Op mark_.Dot)
kind_of form.UndefComma slice = Some (kind.Op mark_.Comma)
kind_of form.PipeOpen slice = Some (kind.Op mark_.Pipe)
kind_of (form.Keyword w) slice = Some (kind.Keyword w)
kind_of (form.Op m) slice = Some (kind.Op m)
kind_of form.Int slice = Some (kind.Int (integer slice))
kind_of form.Text slice = Some (kind.Text (content spelling.Double (unquoted slice)))
kind_of form.RawText slice = Some (kind.Text (content spelling.Single (unquoted slice)))
kind_of form.Symbol slice = Some (kind.Text (drop 1 slice))
kind_of form.QuotedSymbol slice = Some (kind.Text (content spelling.Double (unquoted (drop 1 slice))))
kind_of form.TextBegin slice = Some kind.TextBegin
kind_of form.Chunk slice = Some (kind.Text (content spelling.Double slice))
kind_of form.PartBegin slice = Some kind.PartBegin
kind_of form.PartEnd slice = Some kind.PartEnd
kind_of form.TextEnd slice = Some kind.TextEnd
kind_of (form.WordsBegin b n) slice = Some (kind.Op (words_mark b))
kind_of (form.SymbolsBegin b n) slice = Some (kind.Op (symbols_mark b))
kind_of (form.ListWord b) slice = Some (kind.Text (content (spelling.Word b) slice))
kind_of (form.ListEnd b) slice = Some (kind.Op (end_mark b))

-- ---- from one place to the next

abbrev pub is_blank : Form → Bool
is_blank form.Blank = true
is_blank _ = false

abbrev pub is_bom : Form → Bool
is_bom form.Bom = true
is_bom _ = false

-- the last token, where the form is skipped the one before
unfoldable pub last_after : Form → Form → Form
last_after form.Bom last = last
last_after form.Blank last = last
last_after form.Comment last = last
last_after form.Block last = last
last_after form.Joint last = last
last_after form.Separator last = last
last_after f last = f

abbrev pub list_after : Mode → ℕ → Mode
list_after (mode.List b left) n = mode.List b (left - n)
list_after m n = m

unfoldable pub mode_after : Form → ℕ → Mode → Mode
mode_after form.TextBegin n m = mode.Text
mode_after form.Chunk n m = mode.Text
mode_after form.PartEnd n m = mode.Text
mode_after (form.WordsBegin b left) n m = mode.List b left
mode_after (form.SymbolsBegin b left) n m = mode.List b left
mode_after form.Separator n m = list_after m n
mode_after (form.ListWord b) n m = list_after m n
mode_after _ n m = mode.Code

-- the place of the outermost open text
unfoldable pub outer_after : Spot → Form → Pos
outer_after s form.TextBegin = if top_is_none s.nesting then s.pos else s.outer
outer_after s _ = s.outer

-- the place behind these units
abbrev pub place_from : Pos → List ℕ → Pos
place_from p [] = p
place_from p (u ∷ us) = place_from (place_behind u p) us

unfoldable pub after : Spot → Form → List ℕ → Spot
after s f slice = record {
  at = s.at + length slice;
  pos = place_from s.pos slice;
  last = last_after f s.last;
  behind = f;
  mode = mode_after f (length slice) s.mode;
  nesting = open_after f s.nesting;
  outer = outer_after s f;
}

unfoldable pub place_of : Spot → Place
place_of s = record {
  last = s.last;
  blank = is_blank s.behind;
  mode = s.mode;
  closes = closes s.nesting;
  line_start = s.pos.col == 0 || is_bom s.behind;
  text_start = s.at == 0;
}

abbrev pub first_place : Pos
first_place = record { line = 0; col = 0 }

-- the start of a text
abbrev pub start : Spot
start = record { at = 0; pos = first_place; last = form.Newline; behind = form.Newline; mode = mode.Code; nesting = []; outer = first_place }

-- ---- a text in pieces

pub record Piece : Type 0 where
  pub form : Form
  pub slice : List ℕ

-- From s on, these pieces stand one after the other, each at its place, and lead to e, with the rest `more`.
abbrev pub Reaches : Spot → List ℕ → List Piece → Spot → List ℕ → Type 0
Reaches s text [] e more = (s ≡ e) × (text ≡ more)
Reaches s text (p ∷ ps) e more =
    (rest : List ℕ) × (text ≡ p.slice ++ rest) × (stands (place_of s) text ≡ stand.Form p.form (length p.slice)) × Reaches (after s p.form p.slice) rest ps e more

abbrev pub token_at : Spot → List ℕ → List ℕ → TokenKind → Token
token_at s slice rest k = record {
  kind = k;
  from = s.at;
  to = s.at + length slice;
  pos = s.pos;
  end = place_from s.pos slice;
  blank_before = is_blank s.behind;
  blank_after = not (blank_len rest == 0);
}

abbrev pub token_if : Spot → List ℕ → List ℕ → Option TokenKind → List Token
token_if s slice rest None = []
token_if s slice rest (Some k) = token_at s slice rest k ∷ []

-- the tokens of pieces that stand from s on
abbrev pub tokens_of : Spot → List ℕ → List Piece → List Token
tokens_of s text [] = []
tokens_of s text (p ∷ ps) =
    let rest = drop (length p.slice) text in
    token_if s p.slice rest (kind_of p.form p.slice) ++ tokens_of (after s p.form p.slice) rest ps

-- The tokens of a text: its pieces lead to its end, with no text open.
pub record Lexes (text : List ℕ) (tokens : List Token) : Type 0 where
  pub pieces : List Piece
  pub end : Spot
  pub rest : List ℕ
  pub reaches : Reaches start text pieces end rest
  pub stops : stands (place_of end) rest ≡ stand.End
  pub over : is_over rest ≡ true
  pub closed : top_is_none end.nesting ≡ true
  pub same : tokens ≡ tokens_of start text pieces ++ token_at end [] [] kind.Eof ∷ []

-- what is refused where no form stands: a text without end counts at the end of the file, and the outermost one first
abbrev pub FaultAt : Spot → List ℕ → Stand → Pos → Construct → Type 0
FaultAt s text (stand.Form f n) place c = ⊥
FaultAt s text (stand.Refused d n) place c = (place ≡ place_from s.pos (take n text)) × (c ≡ d)
FaultAt s text stand.Endless place c = (place ≡ (if top_is_none s.nesting then s.pos else s.outer)) × (c ≡ construct.Unterminated)
FaultAt s text stand.Cut place c = (place ≡ s.outer) × (c ≡ construct.Unterminated)
FaultAt s text stand.End place c = (top_is_none s.nesting ≡ false) × (place ≡ s.outer) × (c ≡ construct.Unterminated)

-- The first place where no form stands, or a refused one.
pub record LexFault (text : List ℕ) (place : Pos) (c : Construct) : Type 0 where
  pub pieces : List Piece
  pub end : Spot
  pub rest : List ℕ
  pub reaches : Reaches start text pieces end rest
  pub fault : FaultAt end rest (stands (place_of end) rest) place c

-- the refusal is the text's, or no memory was found
abbrev pub Stops : List ℕ → Stop → Type 0
Stops text stop.NoMemory = Unit {0}
Stops text (stop.Refused place c) = LexFault text place c
