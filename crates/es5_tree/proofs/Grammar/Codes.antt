-- Each terminal's number is below `size`.
use Rattle.std.proofs.Common.{◌<◌, arith}
use Rattle.es5_tree.specs.declared.terminal.Keyword.{Keyword}
use Rattle.es5_tree.specs.declared.terminal.Keyword.TheVariants as keyword
use Rattle.es5_tree.specs.declared.terminal.Terminal.{Terminal}
use Rattle.es5_tree.specs.declared.terminal.Terminal.TheVariants as terminal
use Rattle.es5_tree.specs.declared.token.EsMark.{EsMark}
use Rattle.es5_tree.specs.declared.token.EsMark.TheVariants as mark
use Rattle.es5_tree.specs.Grammar.Terminals.{size, keyword_code, mark_code, code_of}

keyword_within : (k : Keyword) → keyword_code k < size
keyword_within keyword.Break = omega arith
keyword_within keyword.Catch = omega arith
keyword_within keyword.Continue = omega arith
keyword_within keyword.Delete = omega arith
keyword_within keyword.Else = omega arith
keyword_within keyword.False = omega arith
keyword_within keyword.Finally = omega arith
keyword_within keyword.Function = omega arith
keyword_within keyword.If = omega arith
keyword_within keyword.Null = omega arith
keyword_within keyword.Return = omega arith
keyword_within keyword.This = omega arith
keyword_within keyword.Throw = omega arith
keyword_within keyword.True = omega arith
keyword_within keyword.Try = omega arith
keyword_within keyword.Typeof = omega arith
keyword_within keyword.Var = omega arith
keyword_within keyword.While = omega arith

mark_within : (m : EsMark) → mark_code m < size
mark_within mark.OpenBrace = omega arith
mark_within mark.CloseBrace = omega arith
mark_within mark.OpenParen = omega arith
mark_within mark.CloseParen = omega arith
mark_within mark.OpenBracket = omega arith
mark_within mark.CloseBracket = omega arith
mark_within mark.Dot = omega arith
mark_within mark.Semicolon = omega arith
mark_within mark.Comma = omega arith
mark_within mark.Less = omega arith
mark_within mark.Greater = omega arith
mark_within mark.LessOrEqual = omega arith
mark_within mark.GreaterOrEqual = omega arith
mark_within mark.Same = omega arith
mark_within mark.Different = omega arith
mark_within mark.Plus = omega arith
mark_within mark.Minus = omega arith
mark_within mark.Times = omega arith
mark_within mark.Divide = omega arith
mark_within mark.Remainder = omega arith
mark_within mark.Not = omega arith
mark_within mark.And = omega arith
mark_within mark.Or = omega arith
mark_within mark.Question = omega arith
mark_within mark.Colon = omega arith
mark_within mark.Assign = omega arith

pub code_within : (t : Terminal) → code_of t < size
code_within terminal.Name = omega arith
code_within terminal.Arguments = omega arith
code_within terminal.Num = omega arith
code_within terminal.Str = omega arith
code_within terminal.Refused = omega arith
code_within terminal.End = omega arith
code_within (terminal.Keyword k) = keyword_within k
code_within (terminal.Mark m) = mark_within m
