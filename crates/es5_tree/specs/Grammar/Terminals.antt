-- The terminals of the grammar (ECMA-262 5.1, 5.1.4): what it sees of a token, as a number below `size`, and sets of them.
use Rattle.std.specs.Prelude.{ℕ, Bool, ◌||◌, if◌then◌else◌, List, [], ◌∷◌, map, Option, None, Some, codes, bytes_eq}
use Rattle.grammar.specs.CommonRules.{class, ◌or◌}
use Rattle.es5_tree.specs.declared.terminal.Keyword.{Keyword}
use Rattle.es5_tree.specs.declared.terminal.Keyword.TheVariants as keyword
use Rattle.es5_tree.specs.declared.terminal.Terminal.{Terminal}
use Rattle.es5_tree.specs.declared.terminal.Terminal.TheVariants as terminal
use Rattle.es5_tree.specs.declared.terminal.TheConstants.{KEYWORDS}
use Rattle.es5_tree.specs.declared.token.EsMark.{EsMark}
use Rattle.es5_tree.specs.declared.token.EsMark.TheVariants as mark
use Rattle.es5_tree.specs.declared.token.EsToken.{EsToken}
use Rattle.es5_tree.specs.declared.token.EsTokenKind.{EsTokenKind}
use Rattle.es5_tree.specs.declared.token.EsTokenKind.TheVariants as kind
use Rattle.es5_tree.specs.Reserved.{is_reserved}

-- the keyword that the table has for a spelling
abbrev pub keyword_in : List (List ℕ × Keyword) → List ℕ → Option Keyword
keyword_in [] name = None
keyword_in (entry ∷ entries) name = if bytes_eq entry.0 name then Some entry.1 else keyword_in entries name

abbrev pub keywords : List (List ℕ × Keyword)
keywords = map (λ entry. (entry.0.now, entry.1)) KEYWORDS

-- `eval` and the reserved words that the grammar doesn't have are no names
abbrev pub terminal_of_other : List ℕ → Terminal
terminal_of_other name =
    if bytes_eq (codes "arguments") name then terminal.Arguments
    else (if bytes_eq (codes "eval") name || is_reserved name then terminal.Refused else terminal.Name)

abbrev pub keyword_or : Option Keyword → Terminal → Terminal
keyword_or (Some k) other = terminal.Keyword k
keyword_or None other = other

unfoldable pub terminal_of_word : List ℕ → Terminal
terminal_of_word name = keyword_or (keyword_in keywords name) (terminal_of_other name)

abbrev pub terminal_of : EsTokenKind → Terminal
terminal_of (kind.Word name) = terminal_of_word name
terminal_of (kind.Num value) = terminal.Num
terminal_of (kind.Str text) = terminal.Str
terminal_of (kind.Mark m) = terminal.Mark m
terminal_of kind.End = terminal.End

-- ---- their numbers

abbrev pub size : ℕ
size = 50

abbrev pub keyword_code : Keyword → ℕ
keyword_code keyword.Break = 6
keyword_code keyword.Catch = 7
keyword_code keyword.Continue = 8
keyword_code keyword.Delete = 9
keyword_code keyword.Else = 10
keyword_code keyword.False = 11
keyword_code keyword.Finally = 12
keyword_code keyword.Function = 13
keyword_code keyword.If = 14
keyword_code keyword.Null = 15
keyword_code keyword.Return = 16
keyword_code keyword.This = 17
keyword_code keyword.Throw = 18
keyword_code keyword.True = 19
keyword_code keyword.Try = 20
keyword_code keyword.Typeof = 21
keyword_code keyword.Var = 22
keyword_code keyword.While = 23

abbrev pub mark_code : EsMark → ℕ
mark_code mark.OpenBrace = 24
mark_code mark.CloseBrace = 25
mark_code mark.OpenParen = 26
mark_code mark.CloseParen = 27
mark_code mark.OpenBracket = 28
mark_code mark.CloseBracket = 29
mark_code mark.Dot = 30
mark_code mark.Semicolon = 31
mark_code mark.Comma = 32
mark_code mark.Less = 33
mark_code mark.Greater = 34
mark_code mark.LessOrEqual = 35
mark_code mark.GreaterOrEqual = 36
mark_code mark.Same = 37
mark_code mark.Different = 38
mark_code mark.Plus = 39
mark_code mark.Minus = 40
mark_code mark.Times = 41
mark_code mark.Divide = 42
mark_code mark.Remainder = 43
mark_code mark.Not = 44
mark_code mark.And = 45
mark_code mark.Or = 46
mark_code mark.Question = 47
mark_code mark.Colon = 48
mark_code mark.Assign = 49

abbrev pub code_of : Terminal → ℕ
code_of terminal.Name = 0
code_of terminal.Arguments = 1
code_of terminal.Num = 2
code_of terminal.Str = 3
code_of terminal.Refused = 4
code_of terminal.End = 5
code_of (terminal.Keyword k) = keyword_code k
code_of (terminal.Mark m) = mark_code m

abbrev pub token_code : EsToken → ℕ
token_code token = code_of (terminal_of token.kind)

-- ---- sets of them

abbrev pub a : Terminal → ℕ → Bool
a t = class (code_of t)

abbrev pub op : EsMark → ℕ → Bool
op m = class (mark_code m)

abbrev pub key : Keyword → ℕ → Bool
key k = class (keyword_code k)

-- 7.6
abbrev pub identifier : ℕ → Bool
identifier = a terminal.Name or a terminal.Arguments
