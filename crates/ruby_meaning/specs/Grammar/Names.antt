-- The names of productions, and what each gives.
use Rattle.std.specs.Prelude.{Bool}
use Rattle.grammar.specs.Rules.{Sort, leaf, tree, marked, pair, list, optional, under, Rule}
use Rattle.ruby_meaning.specs.declared.production.Part.{Part}
use Rattle.ruby_meaning.specs.declared.production.Production.{Production}
use Rattle.ruby_meaning.specs.declared.production.Production.TheVariants as p
use Rattle.ruby_meaning.specs.declared.tree.Node.{Node}
use Rattle.ruby_meaning.specs.Grammar.Seen.{Seen}

-- arguments, pairs behind them, and a block pass
abbrev pub pairs_sort : Sort
pairs_sort = list (under (pair tree tree))

abbrev pub args_sort : Sort
args_sort = pair (list tree) (pair pairs_sort (optional tree))

-- parameters: names, or names in brackets; those with a default; "*" with a name or none; those behind; "&"
abbrev pub params_sort : Sort
params_sort = pair (list (list leaf)) (pair (list (pair leaf tree)) (pair (optional (optional leaf)) (pair (list (list leaf)) (optional leaf))))

-- targets and their value
abbrev pub targets_sort : Sort
targets_sort = pair (list tree) tree

-- A value with a number has with it how it was written.
abbrev pub sort_of : Production → Sort
sort_of p.Statements = marked tree
sort_of p.OneValue = marked tree
sort_of p.Otherwise = marked tree
sort_of p.NestedValue = marked tree
sort_of (p.Arguments blocks) = args_sort
sort_of (p.CommandArguments blocks) = args_sort
sort_of (p.MorePairs blocks) = args_sort
sort_of (p.MoreTargets starred) = targets_sort
sort_of (p.Parameters stage brackets) = params_sort
sort_of _ = tree

abbrev pub sorts : Part → Sort
sorts k = sort_of k.production

abbrev pub R : Sort → Type 0
R = Rule Seen Node Part sorts

abbrev pub part : Production → Bool → Bool → Part
part name takes_do in_rescue = record { production = name; takes_do = takes_do; in_rescue = in_rescue }
