-- What is read with no level left: the tokens that stand before the first node.
use Rattle.std.specs.Prelude.{ℕ, Bool, false}
use Rattle.grammar.specs.CommonRules.{◌or◌}
use Rattle.ruby_meaning.specs.declared.production.Production.{Production}
use Rattle.ruby_meaning.specs.declared.production.Production.TheVariants as p
use Rattle.ruby_meaning.specs.declared.token.Mark.TheVariants as mark
use Rattle.ruby_meaning.specs.declared.token.Word.TheVariants as word
use Rattle.ruby_meaning.specs.Grammar.Classes.{op, marked_op, key}

abbrev pub opens_value : ℕ → Bool
opens_value = op mark.ParenOpen or marked_op mark.ParenOpen or key word.Begin

abbrev pub opens_nothing : ℕ → Bool
opens_nothing n = false

-- the classes of tokens that stand before a node
abbrev pub opens_of : Production → ℕ → Bool
opens_of p.Statements = opens_nothing
opens_of p.Otherwise = key word.Else
opens_of (p.MorePairs blocks) = opens_nothing
opens_of _ = opens_value
