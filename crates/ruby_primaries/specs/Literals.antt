-- Lists in literals.
use Rattle.std.specs.Prelude.{◌≡◌, ℕ, zero, suc, Bool, ◌||◌, if◌then◌else◌, List, [], ◌∷◌, ◌++◌, length, map, Result, Ok, Err}
use Rattle.grammar.specs.Checks.{first}
use Rattle.grammar.specs.CommonRules.{behind, separated}
use Rattle.grammar.specs.FormReaders.{and_then, next_in, read_many}
use Rattle.grammar.specs.Readers.{read_named, read_rule}
use Rattle.grammar.specs.Rules.{tree, pair, list, many, choice, absent}
use Rattle.ruby_meaning.specs.declared.production.Sign.TheVariants as sign
use Rattle.ruby_meaning.specs.declared.token.Mark.TheVariants as mark
use Rattle.ruby_meaning.specs.declared.tree.Node.{Node}
use Rattle.ruby_meaning.specs.Grammar.Classes.{a, op}
use Rattle.ruby_meaning.specs.Grammar.Names.{R}
use Rattle.ruby_meaning.specs.Grammar.Primaries as g
use Rattle.ruby_meaning.specs.Grammar.Seen.{Seen}
use Rattle.ruby_meaning.specs.Grammar.Table.{table, begins_value}
use Rattle.descent.specs.declared.fail.Fail.{Fail}
use Rattle.descent.specs.declared.fail.Fail.TheVariants.{NoMemory, Refused}
use Rattle.ruby_primaries.specs.declared.primary.Pair.{Pair}
use Rattle.ruby_primaries.specs.declared.primary.Pairs.{Pairs}
use Rattle.ruby_reading.specs.Ahead.{class_code}
use Rattle.ruby_reading.specs.Named.{many_from}

abbrev pub texts : R (list tree)
texts = many g.text

abbrev pub texts_from : ℕ → ℕ → List Node → List Seen → Result (List Node × List Seen) (List Seen)
texts_from levels n found ts = many_from {s = tree} g.text levels n found ts

abbrev pub text_part : Bool → R tree
text_part r = choice g.text (g.embedded r)

abbrev pub text_parts : Bool → R (list tree)
text_parts r = many (text_part r)

abbrev pub parts_from : Bool → ℕ → ℕ → List Node → List Seen → Result (List Node × List Seen) (List Seen)
parts_from r levels n found ts = many_from {s = tree} (text_part r) levels n found ts

-- ---- pairs

abbrev pub shown_pair : Pair → Node × Node
shown_pair p = (p.key, p.value)

abbrev pub begins_pair : Seen → Bool
begins_pair t = a sign.Label (class_code t) || begins_value (class_code t)

abbrev pub next_pair : Bool → R (pair tree tree)
next_pair r = behind (op mark.Comma) (g.pair_in_braces r)

abbrev pub some_pairs : Bool → R (list (pair tree tree))
some_pairs r = choice (separated (g.pair_in_braces r) (op mark.Comma)) (absent [])

abbrev pub shown_pairs : Pairs → List Node × List Node
shown_pairs p = (p.keys, p.values)

abbrev pub Splits : Type 0
Splits = Result ((List Node × List Node) × List Seen) (List Seen)

-- as `read_many`, with the two parts of each put into a list of its own, behind those found so far
unfoldable pub read_pairs_from : (Seen → Bool) → (List Seen → Result ((Node × Node) × List Seen) (List Seen)) → ℕ → List Node → List Node → List Seen → Splits
read_pairs_from first p zero ks vs ts = Ok ((ks, vs), ts)
read_pairs_from first p (suc n) ks vs ts = if next_in first ts then and_then (p ts) (λ a rest. read_pairs_from first p n (ks ++ a.0 ∷ []) (vs ++ a.1 ∷ []) rest) else Ok ((ks, vs), ts)

abbrev pub pairs_from : Bool → ℕ → ℕ → List Node → List Node → List Seen → Splits
pairs_from r b n ks vs ts = read_pairs_from (λ t. first table (next_pair r) (table.code t)) (read_rule table (read_named table) (next_pair r) b) n ks vs ts

abbrev pub read_pairs : Bool → ℕ → List Seen → Result (List (Node × Node) × List Seen) (List Seen)
read_pairs r b ts = read_many (λ t. first table (next_pair r) (table.code t)) (read_rule table (read_named table) (next_pair r) b) (length ts) ts

abbrev pub firsts : List (Node × Node) → List Node
firsts xs = map (λ y. y.0) xs

abbrev pub seconds : List (Node × Node) → List Node
seconds xs = map (λ y. y.1) xs

abbrev pub GivesPairs : Result (List (Node × Node) × List Seen) (List Seen) → Result Pairs Fail → List Seen → Type 0
GivesPairs outcome (Ok p) rest = (xs : List (Node × Node)) × (outcome ≡ Ok (xs, rest)) × (firsts xs ≡ p.keys) × (seconds xs ≡ p.values)
GivesPairs outcome (Err NoMemory) rest = Unit {0}
GivesPairs outcome (Err Refused) rest = outcome ≡ Err rest

-- The pairs are the first and those that are read.
abbrev pub GivesPairsBehind : Node → Node → Result (List (Node × Node) × List Seen) (List Seen) → Result Pairs Fail → List Seen → Type 0
GivesPairsBehind k v outcome (Ok p) rest = (xs : List (Node × Node)) × (outcome ≡ Ok (xs, rest)) × (k ∷ firsts xs ≡ p.keys) × (v ∷ seconds xs ≡ p.values)
GivesPairsBehind k v outcome (Err NoMemory) rest = Unit {0}
GivesPairsBehind k v outcome (Err Refused) rest = outcome ≡ Err rest
