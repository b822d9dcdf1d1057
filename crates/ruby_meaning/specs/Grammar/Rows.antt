-- Lists of tokens that are refused, each with the place.
use Rattle.std.specs.Prelude.{ℕ, pos, codes, List, [], ◌∷◌}
use Rattle.grammar.specs.Reading.{RefusedAt}
use Rattle.ruby_meaning.specs.declared.production.Sign.TheVariants as sign
use Rattle.ruby_meaning.specs.declared.token.Mark.{Mark}
use Rattle.ruby_meaning.specs.declared.token.Mark.TheVariants as mark
use Rattle.ruby_meaning.specs.declared.token.TokenKind.TheVariants as kind
use Rattle.ruby_meaning.specs.declared.token.Word.{Word}
use Rattle.ruby_meaning.specs.declared.token.Word.TheVariants as word
use Rattle.ruby_meaning.specs.Grammar.Seen.{Seen}
use Rattle.ruby_meaning.specs.Grammar.Table.{table}
use Rattle.ruby_meaning.specs.Grammar.Laws.{whole_file, limit}
use Rattle.ruby_meaning.specs.Grammar.Refusals.{stand_in}

abbrev pub name : Seen
name = stand_in (kind.Name (codes "x")) sign.Name

abbrev pub lambda_name : Seen
lambda_name = stand_in (kind.Name (codes "lambda")) sign.Name

abbrev pub one : Seen
one = stand_in (kind.Int (pos 1)) sign.Int

abbrev pub key : Word → Seen
key w = stand_in (kind.Keyword w) (sign.Keyword w)

abbrev pub op : Mark → Seen
op m = stand_in (kind.Op m) (sign.Op m)

abbrev pub Refused : List Seen → ℕ → Type 0
Refused tokens at = RefusedAt table whole_file limit tokens at

pub record RefusedRows : Type 0 where
  -- def x *x, x = 1; end: a default behind a `*`
  pub default_behind_rest : Refused (key word.Def ∷ name ∷ op mark.Star ∷ name ∷ op mark.Comma ∷ name ∷ op mark.Assign ∷ one ∷ op mark.Semicolon ∷ key word.End ∷ []) 6
  -- def x x = 1, x, x = 1; end: a default behind a name behind a default
  pub default_behind_name : Refused (key word.Def ∷ name ∷ name ∷ op mark.Assign ∷ one ∷ op mark.Comma ∷ name ∷ op mark.Comma ∷ name ∷ op mark.Assign ∷ one ∷ op mark.Semicolon ∷ key word.End ∷ []) 9
  -- def x *x, *x; end
  pub two_rests : Refused (key word.Def ∷ name ∷ op mark.Star ∷ name ∷ op mark.Comma ∷ op mark.Star ∷ name ∷ op mark.Semicolon ∷ key word.End ∷ []) 5
  -- def x &x, x; end: a name behind the one that takes the block
  pub name_behind_block : Refused (key word.Def ∷ name ∷ op mark.Ampersand ∷ name ∷ op mark.Comma ∷ name ∷ op mark.Semicolon ∷ key word.End ∷ []) 4
  -- def x (x, (x, x)) end: names in brackets are a block's alone
  pub brackets_in_method : Refused (key word.Def ∷ name ∷ op mark.ParenOpen ∷ name ∷ op mark.Comma ∷ op mark.ParenOpen ∷ name ∷ op mark.Comma ∷ name ∷ op mark.ParenClose ∷ op mark.ParenClose ∷ key word.End ∷ []) 5
  -- x { |(x)| 1 }: one name in brackets
  pub one_in_brackets : Refused (name ∷ op mark.BraceOpen ∷ op mark.Pipe ∷ op mark.ParenOpen ∷ name ∷ op mark.ParenClose ∷ op mark.Pipe ∷ one ∷ op mark.BraceClose ∷ []) 5
  -- -> { |x| 1 }
  pub parameters_behind_arrow : Refused (op mark.Arrow ∷ op mark.BraceOpen ∷ op mark.Pipe ∷ name ∷ op mark.Pipe ∷ one ∷ op mark.BraceClose ∷ []) 2
  -- def x.x; end: a method is given to `self` or a constant alone
  pub method_of_a_name : Refused (key word.Def ∷ name ∷ op mark.Dot ∷ name ∷ op mark.Semicolon ∷ key word.End ∷ []) 2
  -- return x do 1 end
  pub block_in_jump : Refused (key word.Return ∷ name ∷ key word.Do ∷ one ∷ key word.End ∷ []) 2
