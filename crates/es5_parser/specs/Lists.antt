-- The pairs of an object and the parameters of a function, none twice, as the parser's loops read them.
use Rattle.std.specs.Prelude.{ℕ, zero, suc, Bool, List, [], ◌∷◌, ◌++◌, length, map, Option, Some, None, Result, Ok, Err, if◌then◌else◌}
use Rattle.descent.specs.declared.fail.Fail.{Fail}
use Rattle.descent.specs.Gives.{Gives}
use Rattle.grammar.specs.FormReaders.{and_then, next_in, read_token}
use Rattle.grammar.specs.Readers.{read_named}
use Rattle.grammar.specs.Spelling.{token_in, token_such}
use Rattle.es5_tree.specs.declared.terminal.Level.TheVariants as level
use Rattle.es5_tree.specs.declared.terminal.Terminal.TheVariants as terminal
use Rattle.es5_tree.specs.declared.token.EsMark.TheVariants as mark
use Rattle.es5_tree.specs.declared.token.EsToken.{EsToken}
use Rattle.es5_tree.specs.Grammar.Names.{expr}
use Rattle.es5_tree.specs.Grammar.Nodes.{Node, expression, is_new, name_of}
use Rattle.es5_tree.specs.Grammar.Table.{table}
use Rattle.es5_tree.specs.Grammar.Terminals.{a, op, identifier, token_code}
use Rattle.es5_reading.specs.Loops.{Outcome}
use Rattle.es5_parser.specs.declared.object.Pair.{Pair}
use Rattle.es5_parser.specs.declared.object.Pairs.{Pairs}

abbrev pub is_comma : EsToken → Bool
is_comma t = op mark.Comma (token_code t)

-- ---- pairs

abbrev pub shown_pair : Pair → List ℕ × Node
shown_pair p = (p.key, expression p.value)

abbrev pub GivesPair : Result ((List ℕ × Node) × List EsToken) (List EsToken) → Result Pair Fail → List EsToken → Type 0
GivesPair = Gives shown_pair

abbrev pub shown_pairs : Pairs → List (List ℕ) × List Node
shown_pairs p = (p.keys, map expression p.values)

abbrev pub GivesPairs : Result ((List (List ℕ) × List Node) × List EsToken) (List EsToken) → Result Pairs Fail → List EsToken → Type 0
GivesPairs = Gives shown_pairs

-- a pair whose key is none of those
unfoldable pub next_pair : ℕ → List (List ℕ) → List EsToken → Outcome (List ℕ × Node)
next_pair b keys ts =
    and_then (read_token (token_such token_code identifier (is_new keys)) ts) (λ t rest.
    and_then (read_token (token_in token_code (op mark.Colon)) rest) (λ c after.
    and_then (read_named table b (expr level.Assignment) after) (λ e last. Ok ((name_of t, e), last))))

-- the pairs, behind those found; a comma may end them
unfoldable pub pairs_from : ℕ → ℕ → List (List ℕ) → List Node → List EsToken → Outcome (List (List ℕ) × List Node)
pairs_from zero b keys values ts = Ok ((keys, values), ts)
pairs_from (suc n) b keys values ts =
    if next_in (λ t. identifier (token_code t)) ts
    then and_then (next_pair b keys ts) (λ p rest.
    if next_in is_comma rest
    then and_then (read_token (token_in token_code (op mark.Comma)) rest) (λ c after. pairs_from n b (keys ++ p.0 ∷ []) (values ++ p.1 ∷ []) after)
    else Ok ((keys ++ p.0 ∷ [], values ++ p.1 ∷ []), rest))
    else Ok ((keys, values), ts)

-- ---- parameters

abbrev pub GivesNames : Result (List (List ℕ) × List EsToken) (List EsToken) → Result (List (List ℕ)) Fail → List EsToken → Type 0
GivesNames = Gives (λ names. names)

-- the parameters, behind those found; behind a comma there is one
unfoldable pub params_from : ℕ → List (List ℕ) → List EsToken → Outcome (List (List ℕ))
params_from zero found ts = Err ts
params_from (suc n) found ts =
    and_then (read_token (token_such token_code (a terminal.Name) (is_new found)) ts) (λ t rest.
    if next_in is_comma rest
    then and_then (read_token (token_in token_code (op mark.Comma)) rest) (λ c after. params_from n (found ++ name_of t ∷ []) after)
    else Ok (found ++ name_of t ∷ [], rest))

unfoldable pub some_params : List EsToken → Outcome (List (List ℕ))
some_params ts = if next_in (λ t. a terminal.Name (token_code t)) ts then params_from (length ts) [] ts else Ok ([], ts)

unfoldable pub parameters : List EsToken → Outcome (List (List ℕ))
parameters ts =
    and_then (read_token (token_in token_code (op mark.OpenParen)) ts) (λ c rest.
    and_then (some_params rest) (λ names after.
    and_then (read_token (token_in token_code (op mark.CloseParen)) after) (λ d last. Ok (names, last))))

-- the name of a function
unfoldable pub own_name : List EsToken → Outcome (Option (List ℕ))
own_name ts = if next_in (λ t. a terminal.Name (token_code t)) ts then and_then (read_token (token_in token_code (a terminal.Name)) ts) (λ t rest. Ok (Some (name_of t), rest)) else Ok (None, ts)

abbrev pub GivesName : Result (Option (List ℕ) × List EsToken) (List EsToken) → Result (Option (List ℕ)) Fail → List EsToken → Type 0
GivesName = Gives (λ name. name)
