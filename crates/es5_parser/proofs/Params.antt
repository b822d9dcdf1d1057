-- The parameters of a function, read by a loop.
use Rattle.std.proofs.Common.{◌≡◌, ℕ, zero, suc, ◌≤◌, Bool, true, false, List, [], ◌∷◌, ◌++◌, length, Option, Some, None, Ok, Err, refl, sym, ap, ◌∙◌, arith, append_assoc, append-nil}
use Rattle.std.specs.Prelude.{if◌then◌else◌}
use Rattle.std.specs.Option.{option_map}
use Rattle.grammar.specs.CommonRules.{maybe}
use Rattle.grammar.specs.FormReaders.{next_in, and_then, read_token, read_one_token}
use Rattle.grammar.specs.Readers.{read_named, read_rule}
use Rattle.grammar.specs.Rules.{leaf, list, named, choice, absent, token}
use Rattle.grammar.specs.Spelling.{token_in, token_such}
use Rattle.grammar.proofs.Stability.{read_named_is}
use Rattle.es5_tree.specs.declared.terminal.Keyword.TheVariants as keyword
use Rattle.es5_tree.specs.declared.terminal.Terminal.TheVariants as terminal
use Rattle.es5_tree.specs.declared.token.EsMark.TheVariants as mark
use Rattle.es5_tree.specs.declared.token.EsToken.{EsToken}
use Rattle.es5_tree.specs.declared.tree.EsKind.TheVariants as kind
use Rattle.es5_tree.specs.Grammar.Expressions as g
use Rattle.es5_tree.specs.Grammar.Names.{R, params}
use Rattle.es5_tree.specs.Grammar.Nodes.{Node, is_new, name_of, names_of, made, stmts, function}
use Rattle.es5_tree.specs.Grammar.Terminals.{a, op, key, token_code}
use Rattle.es5_tree.specs.Grammar.Table.{table}
use Rattle.es5_tree.proofs.Grammar.TableMeets.{predictive}
use Rattle.es5_reading.specs.Loops.{Outcome}
use Rattle.es5_parser.specs.Lists.{is_comma, params_from, some_params, parameters, own_name}
use Rattle.es5_parser.proofs.Pairs.{Alike, alike_more, alike_read, none_within, token_left}

abbrev Names : Type 0
Names = List (List ℕ)

module _ (b : ℕ) where
  abbrev list_of : Names → List EsToken → Outcome (List EsToken)
  list_of seen ts = read_named table b (params seen) ts

  abbrev more_of : Names → List EsToken → Outcome (List EsToken)
  more_of seen ts = read_rule table (read_named table) (g.more_params seen) b ts

  abbrev comma : List EsToken → Outcome EsToken
  comma ts = read_token (token_in token_code (op mark.Comma)) ts

  abbrev name : Names → List EsToken → Outcome EsToken
  name seen ts = read_token (token_such token_code (a terminal.Name) (is_new seen)) ts

  -- the rule, by what its parts give
  abbrev name_behind : EsToken → Outcome (List EsToken) → Outcome (List EsToken)
  name_behind t o = and_then {A = EsToken × List EsToken} {B = List EsToken} (and_then {A = List EsToken} {B = EsToken × List EsToken} o (λ ps after. Ok ((t, ps), after))) (λ x r. Ok (x.0 ∷ x.1, r))

  abbrev names_read : Names → Outcome EsToken → Outcome (List EsToken)
  names_read seen o = and_then {A = EsToken × List EsToken} {B = List EsToken} (and_then {A = EsToken} {B = EsToken × List EsToken} o (λ t r. and_then {A = List EsToken} {B = EsToken × List EsToken} (more_of (name_of t ∷ seen) r) (λ ps after. Ok ((t, ps), after)))) (λ x r. Ok (x.0 ∷ x.1, r))

  abbrev tail_of : Names → Outcome EsToken → Outcome (List EsToken)
  tail_of seen o = and_then {A = EsToken × List EsToken} {B = List EsToken} (and_then {A = EsToken} {B = EsToken × List EsToken} o (λ c r. and_then {A = List EsToken} {B = EsToken × List EsToken} (list_of seen r) (λ ps after. Ok ((c, ps), after)))) (λ x r. Ok (x.1, r))

  list_is : (seen : Names) (ts : List EsToken) → list_of seen ts ≡ names_read seen (name seen ts)
  unfolding table g.param_list
  list_is seen ts = read_named_is table predictive b (params seen) ts

  more_is : (seen : Names) (ts : List EsToken) → more_of seen ts ≡ (if next_in is_comma ts then tail_of seen (comma ts) else Ok ([], ts))
  unfolding table g.more_params
  more_is seen ts = ap (λ c. if next_in is_comma ts then tail_of seen (comma ts) else (if c then Ok ([], ts) else Err ts)) (none_within b)

  -- the names behind those found
  abbrev split : Names → Outcome (List EsToken) → Outcome Names
  split found o = and_then {A = List EsToken} {B = Names} o (λ ps r. Ok (found ++ names_of ps, r))

  second : (c : EsToken) (o : Outcome (List EsToken)) → and_then {A = EsToken × List EsToken} {B = List EsToken} (and_then {A = List EsToken} {B = EsToken × List EsToken} o (λ ps after. Ok ((c, ps), after))) (λ x r. Ok (x.1, r)) ≡ o
  second c (Ok y) = refl
  second c (Err y) = refl

  none_more : (found : Names) (ts : List EsToken) → split found (Ok ([], ts)) ≡ Ok (found, ts)
  none_more found ts = ap (λ l. Ok (l, ts)) (append-nil found)

  added : (found : Names) (t : EsToken) (o : Outcome (List EsToken)) → split found (name_behind t o) ≡ split (found ++ name_of t ∷ []) o
  added found t (Err y) = refl
  added found t (Ok y) = ap (λ l. Ok (l, y.1)) (sym (append_assoc found (name_of t ∷ []) (names_of (y.0))))

  module _ (n : ℕ) where
    abbrev Goes : Type 0
    Goes = (seen found : Names) (after : List EsToken) → Alike seen found → length after ≤ n → split found (list_of seen after) ≡ params_from n found after

    abbrev behind_name : Names → List EsToken → Outcome Names
    behind_name found rest = if next_in is_comma rest then and_then {A = EsToken} {B = Names} (comma rest) (λ c after. params_from n found after) else Ok (found, rest)

    behind_is : Goes → (seen found : Names) (rest : List EsToken) → Alike seen found → length rest ≤ suc n
        → split found (if next_in is_comma rest then tail_of seen (comma rest) else Ok ([], rest)) ≡ behind_name found rest
    behind_is h seen found [] e le = none_more found []
    behind_is h seen found (t ∷ after) e le = by (is_comma t)
      where
        by : (c : Bool)
            → split found (if c then tail_of seen (read_one_token (if c then Some t else None) t after) else Ok ([], t ∷ after))
            ≡ (if c then and_then {A = EsToken} {B = Names} (read_one_token (if c then Some t else None) t after) (λ c after. params_from n found after) else Ok (found, t ∷ after))
        by false = none_more found (t ∷ after)
        by true = ap (split found) (second t (list_of seen after)) ∙ h seen found after e (omega (arith, le))

    abbrev found_of : Names → Outcome EsToken → Outcome Names
    found_of found o = and_then {A = EsToken} {B = Names} o (λ t rest. behind_name (found ++ name_of t ∷ []) rest)

    by_name : Goes → (seen found : Names) → Alike seen found → (o : Outcome EsToken) → ((y : EsToken × List EsToken) → o ≡ Ok y → length (y.1) ≤ suc n) → split found (names_read seen o) ≡ found_of found o
    by_name h seen found e (Err y) l = refl
    by_name h seen found e (Ok y) l =
        added found (y.0) (more_of (name_of y.0 ∷ seen) (y.1))
        ∙ ap (split (found ++ name_of y.0 ∷ [])) (more_is (name_of y.0 ∷ seen) (y.1))
        ∙ behind_is h (name_of y.0 ∷ seen) (found ++ name_of y.0 ∷ []) (y.1) (alike_more seen found (name_of y.0) e) (l y refl)

  params_are : (n : ℕ) (seen found : Names) (ts : List EsToken) → Alike seen found → length ts ≤ n → split found (list_of seen ts) ≡ params_from n found ts
  unfolding params_from
  params_are zero seen found [] e le = ap (split found) (list_is seen [])
  params_are zero seen found (t ∷ ts) e le = let no : ⊥ = omega (arith, le) in absurd no
  params_are (suc n) seen found ts e le =
      ap (split found) (list_is seen ts)
      ∙ ap (λ o. split found (names_read seen o)) (alike_read (a terminal.Name) seen found e ts)
      ∙ by_name n (λ s f l. params_are n s f l) seen found e (name found ts) (λ y h. omega (arith, le, token_left (token_such token_code (a terminal.Name) (is_new found)) ts y h))

  -- ---- parameters

  abbrev list_rule : R (list leaf)
  list_rule = choice (named (params [])) (absent [])

  abbrev some_of : List EsToken → Outcome (List EsToken)
  some_of ts = read_rule table (read_named table) list_rule b ts

  some_are : (ts : List EsToken) → split [] (some_of ts) ≡ some_params ts
  unfolding table some_params
  some_are ts =
      ap (λ c. split [] (if next_in (λ t. a terminal.Name (token_code t)) ts then list_of [] ts else (if c then Ok ([], ts) else Err ts))) (none_within b)
      ∙ by (next_in (λ t. a terminal.Name (token_code t)) ts)
    where
      by : (c : Bool) → split [] (if c then list_of [] ts else Ok ([], ts)) ≡ (if c then params_from (length ts) [] ts else Ok ([], ts))
      by true = params_are (length ts) [] [] ts (λ t. refl) (omega arith)
      by false = refl

  abbrev opening : List EsToken → Outcome EsToken
  opening ts = read_token (token_in token_code (op mark.OpenParen)) ts

  abbrev closing : List EsToken → Outcome EsToken
  closing ts = read_token (token_in token_code (op mark.CloseParen)) ts

  abbrev before_close : Outcome (List EsToken) → Outcome (List EsToken)
  before_close o = and_then {A = List EsToken × EsToken} {B = List EsToken} (and_then {A = List EsToken} {B = List EsToken × EsToken} o (λ ps r. and_then {A = EsToken} {B = List EsToken × EsToken} (closing r) (λ c after. Ok ((ps, c), after)))) (λ x r. Ok (x.0, r))

  abbrev closed_names : Outcome Names → Outcome Names
  closed_names o = and_then {A = Names} {B = Names} o (λ names after. and_then {A = EsToken} {B = Names} (closing after) (λ d last. Ok (names, last)))

  before_is : (o : Outcome (List EsToken)) → split [] (before_close o) ≡ closed_names (split [] o)
  before_is (Err y) = refl
  before_is (Ok y) = by (closing (y.1))
    where
      by : (z : Outcome EsToken)
          → split [] (and_then {A = List EsToken × EsToken} {B = List EsToken} (and_then {A = EsToken} {B = List EsToken × EsToken} z (λ c after. Ok ((y.0, c), after))) (λ x r. Ok (x.0, r)))
          ≡ and_then {A = EsToken} {B = Names} z (λ d last. Ok (names_of (y.0), last))
      by (Err z) = refl
      by (Ok z) = refl

  abbrev params_of : List EsToken → Outcome (List EsToken)
  params_of ts = read_rule table (read_named table) g.parameters b ts

  parameters_are : (ts : List EsToken) → split [] (params_of ts) ≡ parameters ts
  unfolding table g.parameters parameters
  parameters_are ts = by (opening ts)
    where
      by : (o : Outcome EsToken)
          → split [] (and_then {A = EsToken × List EsToken} {B = List EsToken} (and_then {A = EsToken} {B = EsToken × List EsToken} o (λ c r. and_then {A = List EsToken} {B = EsToken × List EsToken} (before_close (some_of r)) (λ ps after. Ok ((c, ps), after)))) (λ x r. Ok (x.1, r)))
          ≡ and_then {A = EsToken} {B = Names} o (λ c rest. closed_names (some_params rest))
      by (Err y) = refl
      by (Ok y) = ap (split []) (second (y.0) (before_close (some_of (y.1)))) ∙ before_is (some_of (y.1)) ∙ ap closed_names (some_are (y.1))

  -- ---- the expression

  abbrev own : List EsToken → Outcome (Option EsToken)
  own ts = read_rule table (read_named table) (maybe (token (a terminal.Name))) b ts

  abbrev own_names : Outcome (Option EsToken) → Outcome (Option (List ℕ))
  own_names o = and_then {A = Option EsToken} {B = Option (List ℕ)} o (λ x r. Ok (option_map name_of x, r))

  abbrev some_name : Outcome EsToken → Outcome (Option EsToken)
  some_name o = and_then {A = EsToken} {B = Option EsToken} o (λ t r. Ok (Some t, r))

  own_is : (ts : List EsToken) → own_names (own ts) ≡ own_name ts
  unfolding table own_name
  own_is ts =
      ap (λ c. own_names (if next_in (λ t. a terminal.Name (token_code t)) ts then some_name (read_token (token_in token_code (a terminal.Name)) ts) else (if c then Ok (None, ts) else Err ts))) (none_within b)
      ∙ by (next_in (λ t. a terminal.Name (token_code t)) ts) (read_token (token_in token_code (a terminal.Name)) ts)
    where
      by : (c : Bool) (o : Outcome EsToken) → own_names (if c then some_name o else Ok (None, ts)) ≡ (if c then and_then {A = EsToken} {B = Option (List ℕ)} o (λ t rest. Ok (Some (name_of t), rest)) else Ok (None, ts))
      by true (Ok y) = refl
      by true (Err y) = refl
      by false o = refl

  abbrev Body : Type 0
  Body = List Node

  abbrev body : List EsToken → Outcome Body
  body ts = read_rule table (read_named table) (g.block true false) b ts

  abbrev Whole : Type 0
  Whole = EsToken × (Option EsToken × (List EsToken × Body))

  abbrev shown : Whole → EsToken × Node
  shown x = (x.0, made x.0 (function (x.1.0) (x.1.1.0) (x.1.1.1)))

  abbrev with_body : EsToken → Option (List ℕ) → Names → Outcome Body → Outcome (EsToken × Node)
  with_body t o names z = and_then {A = Body} {B = EsToken × Node} z (λ ss r. Ok ((t, made t (kind.Function o names (stmts ss))), r))

  abbrev with_names : EsToken → Option (List ℕ) → Outcome Names → Outcome (EsToken × Node)
  with_names t o z = and_then {A = Names} {B = EsToken × Node} z (λ names r. with_body t o names (body r))

  abbrev with_own : EsToken → Outcome (Option (List ℕ)) → Outcome (EsToken × Node)
  with_own t z = and_then {A = Option (List ℕ)} {B = EsToken × Node} z (λ o r. with_names t o (parameters r))

  abbrev behind_params : Outcome (List EsToken) → Outcome (List EsToken × Body)
  behind_params z = and_then {A = List EsToken} {B = List EsToken × Body} z (λ ps r. and_then {A = Body} {B = List EsToken × Body} (body r) (λ ss after. Ok ((ps, ss), after)))

  abbrev behind_own : Outcome (Option EsToken) → Outcome (Option EsToken × (List EsToken × Body))
  behind_own z = and_then {A = Option EsToken} {B = Option EsToken × (List EsToken × Body)} z (λ o r. and_then {A = List EsToken × Body} {B = Option EsToken × (List EsToken × Body)} (behind_params (params_of r)) (λ x after. Ok ((o, x), after)))

  abbrev whole_of : EsToken → Outcome (Option EsToken × (List EsToken × Body)) → Outcome (EsToken × Node)
  whole_of t z = and_then {A = Whole} {B = EsToken × Node} (and_then {A = Option EsToken × (List EsToken × Body)} {B = Whole} z (λ x after. Ok ((t, x), after))) (λ x r. Ok (shown x, r))

  abbrev own_of : Option EsToken → Outcome (List EsToken × Body) → Outcome (Option EsToken × (List EsToken × Body))
  own_of o z = and_then {A = List EsToken × Body} {B = Option EsToken × (List EsToken × Body)} z (λ x after. Ok ((o, x), after))

  by_body : (t : EsToken) (o : Option EsToken) (ps : List EsToken) (z : Outcome Body)
      → whole_of t (own_of o (and_then {A = Body} {B = List EsToken × Body} z (λ ss after. Ok ((ps, ss), after)))) ≡ with_body t (option_map name_of o) (names_of ps) z
  by_body t o ps (Ok y) = refl
  by_body t o ps (Err y) = refl

  by_params : (t : EsToken) (o : Option EsToken) (z : Outcome (List EsToken)) → whole_of t (own_of o (behind_params z)) ≡ with_names t (option_map name_of o) (split [] z)
  by_params t o (Err y) = refl
  by_params t o (Ok y) = by_body t o (y.0) (body (y.1))

  by_own : (t : EsToken) (z : Outcome (Option EsToken)) → whole_of t (behind_own z) ≡ with_own t (own_names z)
  by_own t (Err y) = refl
  by_own t (Ok y) = by_params t (y.0) (params_of (y.1)) ∙ ap (with_names t (option_map name_of (y.0))) (parameters_are (y.1))

  pub function_is : (ts : List EsToken) → read_rule table (read_named table) g.function_expression (suc b) ts
      ≡ and_then {A = EsToken} {B = EsToken × Node} (read_token (token_in token_code (key keyword.Function)) ts) (λ t rest. with_own t (own_name rest))
  unfolding table g.function_expression
  function_is ts = by (read_token (token_in token_code (key keyword.Function)) ts)
    where
      by : (o : Outcome EsToken)
          → and_then {A = Whole} {B = EsToken × Node} (and_then {A = EsToken} {B = Whole} o (λ t r. and_then {A = Option EsToken × (List EsToken × Body)} {B = Whole} (behind_own (own r)) (λ x after. Ok ((t, x), after)))) (λ x r. Ok (shown x, r))
          ≡ and_then {A = EsToken} {B = EsToken × Node} o (λ t rest. with_own t (own_name rest))
      by (Err y) = refl
      by (Ok y) = by_own (y.0) (own (y.1)) ∙ ap (with_own (y.0)) (own_is (y.1))
