-- The class of a token, as a number below `size`.
use Rattle.std.specs.Prelude.{ℕ, Bool}
use Rattle.grammar.specs.CommonRules.{class}
use Rattle.ruby_meaning.specs.declared.production.Sign.{Sign}
use Rattle.ruby_meaning.specs.declared.production.Sign.TheVariants as sign
use Rattle.ruby_meaning.specs.declared.token.Mark.{Mark}
use Rattle.ruby_meaning.specs.declared.token.Mark.TheVariants as mark
use Rattle.ruby_meaning.specs.declared.token.Word.{Word}
use Rattle.ruby_meaning.specs.declared.token.Word.TheVariants as word

abbrev pub size : ℕ
size = 116

abbrev pub word_code : Word → ℕ
word_code word.Alias = 24
word_code word.And = 25
word_code word.Begin = 26
word_code word.Break = 27
word_code word.Case = 28
word_code word.Class = 29
word_code word.Def = 30
word_code word.Do = 31
word_code word.Else = 32
word_code word.Elsif = 33
word_code word.End = 34
word_code word.Ensure = 35
word_code word.False = 36
word_code word.For = 37
word_code word.If = 38
word_code word.In = 39
word_code word.Module = 40
word_code word.Next = 41
word_code word.Nil = 42
word_code word.Not = 43
word_code word.Or = 44
word_code word.Rescue = 45
word_code word.Retry = 46
word_code word.Return = 47
word_code word.Self_ = 48
word_code word.Super = 49
word_code word.Then = 50
word_code word.True = 51
word_code word.Undef = 52
word_code word.Unless = 53
word_code word.Until = 54
word_code word.When = 55
word_code word.While = 56
word_code word.Yield = 57

abbrev pub mark_code : Mark → ℕ
mark_code mark.Ampersand = 58
mark_code mark.And = 59
mark_code mark.AndSet = 60
mark_code mark.Arrow = 61
mark_code mark.Assign = 62
mark_code mark.Bang = 63
mark_code mark.BraceClose = 64
mark_code mark.BraceOpen = 65
mark_code mark.BracketClose = 66
mark_code mark.BracketOpen = 67
mark_code mark.Caret = 68
mark_code mark.Colon = 69
mark_code mark.ColonColon = 70
mark_code mark.Comma = 71
mark_code mark.Compare = 72
mark_code mark.Dot = 73
mark_code mark.DotDot = 74
mark_code mark.DotDotDot = 75
mark_code mark.Equal = 76
mark_code mark.FatArrow = 77
mark_code mark.Greater = 78
mark_code mark.GreaterEqual = 79
mark_code mark.Index = 80
mark_code mark.IndexSet = 81
mark_code mark.Less = 82
mark_code mark.LessEqual = 83
mark_code mark.ListEndRound = 84
mark_code mark.ListEndSquare = 85
mark_code mark.Minus = 86
mark_code mark.MinusSet = 87
mark_code mark.Negate = 88
mark_code mark.NotEqual = 89
mark_code mark.Or = 90
mark_code mark.OrSet = 91
mark_code mark.ParenClose = 92
mark_code mark.ParenOpen = 93
mark_code mark.Percent = 94
mark_code mark.PercentSet = 95
mark_code mark.Pipe = 96
mark_code mark.Plus = 97
mark_code mark.PlusSet = 98
mark_code mark.Power = 99
mark_code mark.PowerSet = 100
mark_code mark.Question = 101
mark_code mark.Semicolon = 102
mark_code mark.ShiftLeft = 103
mark_code mark.ShiftLeftSet = 104
mark_code mark.ShiftRight = 105
mark_code mark.Slash = 106
mark_code mark.SlashSet = 107
mark_code mark.Star = 108
mark_code mark.StarSet = 109
mark_code mark.SymbolsRound = 110
mark_code mark.SymbolsSquare = 111
mark_code mark.Tilde = 112
mark_code mark.TripleEqual = 113
mark_code mark.WordsRound = 114
mark_code mark.WordsSquare = 115

-- the signs that can begin an argument
abbrev pub marked_code : Mark → ℕ
marked_code mark.Minus = 14
marked_code mark.BracketOpen = 15
marked_code mark.Star = 16
marked_code mark.Ampersand = 17
marked_code mark.ParenOpen = 18
marked_code mark.ColonColon = 19
marked_code mark.WordsRound = 20
marked_code mark.WordsSquare = 21
marked_code mark.SymbolsRound = 22
marked_code mark.SymbolsSquare = 23
marked_code m = mark_code m

abbrev pub code_of : Sign → ℕ
code_of sign.Name = 0
code_of sign.Const = 1
code_of sign.Ivar = 2
code_of sign.Gvar = 3
code_of sign.Label = 4
code_of sign.Int = 5
code_of sign.Text = 6
code_of sign.TextBegin = 7
code_of sign.TextEnd = 8
code_of sign.PartBegin = 9
code_of sign.PartEnd = 10
code_of sign.Newline = 11
code_of sign.Eof = 12
code_of sign.CallOpen = 13
code_of (sign.Marked m) = marked_code m
code_of (sign.Keyword w) = word_code w
code_of (sign.Op m) = mark_code m

-- ---- sets of classes

abbrev pub a : Sign → ℕ → Bool
a s = class (code_of s)

abbrev pub op : Mark → ℕ → Bool
op m = class (mark_code m)

abbrev pub marked_op : Mark → ℕ → Bool
marked_op m = class (marked_code m)

abbrev pub key : Word → ℕ → Bool
key w = class (word_code w)
