-- The items of an array, read by a loop.
use Rattle.std.proofs.Common.{◌≡◌, ℕ, zero, suc, ◌≤◌, Bool, true, false, List, [], ◌∷◌, ◌++◌, length, Ok, Err, refl, sym, ap, ◌∙◌, arith, append_assoc, append-nil}
use Rattle.std.specs.Prelude.{if◌then◌else◌, nat_le, Some, None}
use Rattle.grammar.specs.FormReaders.{next_in, and_then, read_token, read_one_token}
use Rattle.grammar.specs.Readers.{read_named, read_rule}
use Rattle.grammar.specs.Rules.{named}
use Rattle.grammar.specs.Spelling.{token_in}
use Rattle.grammar.proofs.RuleReads.{left_of}
use Rattle.grammar.proofs.Stability.{read_named_is}
use Rattle.es5_tree.specs.declared.terminal.Level.TheVariants as level
use Rattle.es5_tree.specs.declared.token.EsMark.TheVariants as mark
use Rattle.es5_tree.specs.declared.token.EsToken.{EsToken}
use Rattle.es5_tree.specs.Grammar.Nodes.{Node}
use Rattle.es5_tree.specs.Grammar.Names.{expr, items}
use Rattle.es5_tree.specs.Grammar.Expressions.{item_list, more_items}
use Rattle.es5_tree.specs.Grammar.Terminals.{op, token_code}
use Rattle.es5_tree.specs.Grammar.Table.{table, begins_expression}
use Rattle.es5_tree.proofs.Grammar.TableMeets.{predictive}
use Rattle.es5_reading.specs.Loops.{Outcome, items_from}
use Rattle.es5_reading.proofs.Stopping.{keep}

-- no nodes are within any levels
none_within : (b : ℕ) → nat_le 0 b ≡ true
none_within b = search (arith)

module _ (b : ℕ) where
  abbrev item : List EsToken → Outcome Node
  item ts = read_named table b (expr level.Assignment) ts

  abbrev list_of : List EsToken → Outcome (List Node)
  list_of ts = read_rule table (read_named table) item_list b ts

  abbrev more_of : List EsToken → Outcome (List Node)
  more_of ts = read_named table b items ts

  abbrev comma : EsToken → Bool
  comma t = op mark.Comma (token_code t)

  abbrev behind : List Node → Node → Outcome (List Node) → Outcome (List Node)
  behind found e o = and_then {A = List Node} {B = List Node} (and_then {A = Node × List Node} {B = List Node} (and_then {A = List Node} {B = Node × List Node} o (λ xs r. Ok ((e, xs), r))) (λ x r. Ok (x.0 ∷ x.1, r))) (λ xs r. Ok (found ++ xs, r))

  added : (found : List Node) (e : Node) (o : Outcome (List Node)) → and_then o (λ xs r. Ok ((found ++ e ∷ []) ++ xs, r)) ≡ behind found e o
  added found e (Ok y) = ap (λ z. Ok (z, y.1)) (append_assoc found (e ∷ []) y.0)
  added found e (Err y) = refl

  -- the items behind a comma
  abbrev tail_of : Outcome EsToken → Outcome (List Node)
  tail_of o = and_then {A = EsToken × List Node} {B = List Node} (and_then {A = EsToken} {B = EsToken × List Node} o (λ c rest. and_then {A = List Node} {B = EsToken × List Node} (list_of rest) (λ xs after. Ok ((c, xs), after)))) (λ x r. Ok (x.1, r))

  more_is : (ts : List EsToken) → more_of ts ≡ (if next_in comma ts then tail_of (read_token (token_in token_code (op mark.Comma)) ts) else Ok ([], ts))
  unfolding table more_items
  more_is ts =
      read_named_is table predictive b items ts
      ∙ ap (λ c. if next_in comma ts then tail_of (read_token (token_in token_code (op mark.Comma)) ts) else (if c then Ok ([], ts) else Err ts)) (none_within b)

  -- an item and those behind it
  abbrev head_of : Outcome Node → Outcome (List Node)
  head_of o = and_then {A = Node × List Node} {B = List Node} (and_then {A = Node} {B = Node × List Node} o (λ e rest. and_then {A = List Node} {B = Node × List Node} (more_of rest) (λ xs r. Ok ((e, xs), r)))) (λ x r. Ok (x.0 ∷ x.1, r))

  list_is : (ts : List EsToken) → list_of ts ≡ (if next_in (λ t. begins_expression (token_code t)) ts then head_of (item ts) else Ok ([], ts))
  unfolding table item_list
  list_is ts = ap (λ c. if next_in (λ t. begins_expression (token_code t)) ts then head_of (item ts) else (if c then Ok ([], ts) else Err ts)) (none_within b)

  second : (c : EsToken) (o : Outcome (List Node)) → and_then {A = EsToken × List Node} {B = List Node} (and_then {A = List Node} {B = EsToken × List Node} o (λ xs after. Ok ((c, xs), after))) (λ x r. Ok (x.1, r)) ≡ o
  second c (Ok y) = refl
  second c (Err y) = refl

  behind_item : (n : ℕ) (found : List Node) (e : Node) (rest : List EsToken)
      → ((after : List EsToken) → length after ≤ n → items_from n b (found ++ e ∷ []) after ≡ and_then (list_of after) (λ xs r. Ok ((found ++ e ∷ []) ++ xs, r)))
      → length rest ≤ suc n
      → (if next_in comma rest then and_then (read_token (token_in token_code (op mark.Comma)) rest) (λ c after. items_from n b (found ++ e ∷ []) after) else Ok (found ++ e ∷ [], rest))
      ≡ behind found e (if next_in comma rest then tail_of (read_token (token_in token_code (op mark.Comma)) rest) else Ok ([], rest))
  behind_item n found e [] h le = refl
  behind_item n found e (t ∷ after) h le = by (comma t)
    where
      by : (c : Bool)
          → (if c then and_then (read_one_token (if c then Some t else None) t after) (λ c after. items_from n b (found ++ e ∷ []) after) else Ok (found ++ e ∷ [], t ∷ after))
          ≡ behind found e (if c then tail_of (read_one_token (if c then Some t else None) t after) else Ok ([], t ∷ after))
      by false = refl
      by true = h after (omega (arith, le)) ∙ added found e (list_of after) ∙ ap (behind found e) (sym (second t (list_of after)))

  pub items_are : (n : ℕ) (found : List Node) (ts : List EsToken) → length ts ≤ n → items_from n b found ts ≡ and_then (list_of ts) (λ xs r. Ok (found ++ xs, r))
  unfolding items_from
  items_are zero found [] lt = ap (λ z. Ok (z, [])) (sym (append-nil found)) ∙ ap (λ o. and_then {A = List Node} {B = List Node} o (λ xs r. Ok (found ++ xs, r))) (sym (list_is []))
  items_are zero found (t ∷ ts) lt = let no : ⊥ = omega (arith, lt) in absurd no
  items_are (suc n) found ts lt =
      by (λ more after less. items_are n more after less) (next_in (λ t. begins_expression (token_code t)) ts) (item ts) refl
      ∙ ap (λ o. and_then {A = List Node} {B = List Node} o (λ xs r. Ok (found ++ xs, r))) (sym (list_is ts))
    where
      by : ((more : List Node) (after : List EsToken) → length after ≤ n → items_from n b more after ≡ and_then (list_of after) (λ xs r. Ok (more ++ xs, r))) → (c : Bool) (o : Outcome Node) → item ts ≡ o
          → (if c then and_then o (λ e rest. if next_in comma rest then and_then (read_token (token_in token_code (op mark.Comma)) rest) (λ c after. items_from n b (found ++ e ∷ []) after) else Ok (found ++ e ∷ [], rest)) else Ok (found, ts))
          ≡ and_then {A = List Node} {B = List Node} (if c then head_of o else Ok ([], ts)) (λ xs r. Ok (found ++ xs, r))
      by h false o e = ap (λ z. Ok (z, ts)) (sym (append-nil found))
      by h true (Err y) e = refl
      by h true (Ok y) e =
          behind_item n found y.0 y.1 (h (found ++ y.0 ∷ [])) (omega (arith, lt, left_of table predictive (named (expr level.Assignment)) tt b ts y.0 y.1 e))
          ∙ ap (behind found y.0) (sym (more_is y.1))

-- all of them
pub items_all : (b : ℕ) (ts : List EsToken) → items_from (length ts) b [] ts ≡ read_rule table (read_named table) item_list b ts
items_all b ts = items_are b (length ts) [] ts (omega arith) ∙ keep (read_rule table (read_named table) item_list b ts)
