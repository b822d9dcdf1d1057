-- The pairs of an object, read by a loop.
use Rattle.std.proofs.Common.{◌≡◌, ℕ, zero, suc, ◌≤◌, Bool, true, false, not, ◌&&◌, List, [], ◌∷◌, ◌++◌, length, map, Option, Some, None, Ok, Err, refl, sym, ap, ap₂, ◌∙◌, arith, append_assoc, append-nil, bytes_eq}
use Rattle.std.specs.Prelude.{if◌then◌else◌, nat_le}
use Rattle.grammar.specs.FormReaders.{next_in, and_then, read_token, read_one_token}
use Rattle.grammar.specs.Readers.{read_named, read_rule}
use Rattle.grammar.specs.Rules.{leaf, tree, pair, list, named, choice, absent}
use Rattle.grammar.specs.Spelling.{token_in, token_such}
use Rattle.grammar.proofs.RuleReads.{left_of}
use Rattle.grammar.proofs.Stability.{read_named_is}
use Rattle.es5_tree.specs.declared.terminal.Level.TheVariants as level
use Rattle.es5_tree.specs.declared.token.EsMark.TheVariants as mark
use Rattle.es5_tree.specs.declared.token.EsToken.{EsToken}
use Rattle.es5_tree.specs.declared.tree.EsKind.TheVariants as kind
use Rattle.es5_tree.specs.Grammar.Expressions as g
use Rattle.es5_tree.specs.Grammar.Names.{R, expr, pairs}
use Rattle.es5_tree.specs.Grammar.Nodes.{Node, is_new, name_of, made, exprs, expr_of}
use Rattle.es5_tree.specs.Grammar.Terminals.{op, identifier, token_code}
use Rattle.es5_tree.specs.Grammar.Table.{table}
use Rattle.es5_tree.proofs.Grammar.TableMeets.{predictive}
use Rattle.es5_reading.specs.Loops.{Outcome}
use Rattle.es5_reading.proofs.NewNames.{one_more_name}
use Rattle.es5_parser.specs.Lists.{is_comma, next_pair, pairs_from}

pub none_within : (b : ℕ) → nat_le 0 b ≡ true
none_within b = search (arith)

pub token_left : {A : Type 0} (f : EsToken → Option A) (ts : List EsToken) (y : A × List EsToken) → read_token f ts ≡ Ok y → length (y.1) ≤ length ts
token_left f [] y e = let no : ⊥ = cc in absurd no
token_left {A} f (t ∷ ts) y e = by (f t) e
  where
    by : (o : Option A) → read_one_token o t ts ≡ Ok y → length (y.1) ≤ suc (length ts)
    by (Some a) e = let same : ts ≡ y.1 = cc in omega (arith, ap length same)
    by None e = let no : ⊥ = cc in absurd no

-- names that stand for one another
abbrev pub Alike : List (List ℕ) → List (List ℕ) → Type 0
Alike seen names = (t : EsToken) → is_new seen t ≡ is_new names t

pub alike_more : (seen names : List (List ℕ)) (name : List ℕ) → Alike seen names → Alike (name ∷ seen) (names ++ name ∷ [])
alike_more seen names name h t = ap (λ c. not (bytes_eq name (name_of t)) && c) (h t) ∙ sym (one_more_name names name t)

pub alike_read : (f : ℕ → Bool) (seen names : List (List ℕ)) → Alike seen names → (ts : List EsToken) → read_token (token_such token_code f (is_new seen)) ts ≡ read_token (token_such token_code f (is_new names)) ts
alike_read f seen names h [] = refl
alike_read f seen names h (t ∷ ts) = ap (λ c. read_one_token (if f (token_code t) && c then Some t else None) t ts) (h t)

abbrev P : Type 0
P = EsToken × Node

abbrev Split : Type 0
Split = List (List ℕ) × List Node

module _ (b : ℕ) where
  abbrev item : List EsToken → Outcome Node
  item ts = read_named table b (expr level.Assignment) ts

  abbrev list_rule : List (List ℕ) → R (list (pair leaf tree))
  list_rule seen = choice (named (pairs seen)) (absent [])

  abbrev list_of : List (List ℕ) → List EsToken → Outcome (List P)
  list_of seen ts = read_rule table (read_named table) (list_rule seen) b ts

  abbrev more_of : List (List ℕ) → List EsToken → Outcome (List P)
  more_of seen ts = read_rule table (read_named table) (g.more_pairs seen) b ts

  abbrev comma : List EsToken → Outcome EsToken
  comma ts = read_token (token_in token_code (op mark.Comma)) ts

  abbrev colon : List EsToken → Outcome EsToken
  colon ts = read_token (token_in token_code (op mark.Colon)) ts

  abbrev key : List (List ℕ) → List EsToken → Outcome EsToken
  key seen ts = read_token (token_such token_code identifier (is_new seen)) ts

  -- the rule, by what its parts give
  abbrev value_of : List (List ℕ) → Outcome Node → Outcome (Node × List P)
  value_of seen o = and_then {A = Node} {B = Node × List P} o (λ e r. and_then {A = List P} {B = Node × List P} (more_of seen r) (λ ps after. Ok ((e, ps), after)))

  abbrev behind_colon : EsToken → Outcome (Node × List P) → Outcome (Node × List P)
  behind_colon c o = and_then {A = EsToken × (Node × List P)} {B = Node × List P} (and_then {A = Node × List P} {B = EsToken × (Node × List P)} o (λ x after. Ok ((c, x), after))) (λ x r. Ok (x.1, r))

  abbrev colon_of : List (List ℕ) → Outcome EsToken → Outcome (Node × List P)
  colon_of seen o = and_then {A = EsToken × (Node × List P)} {B = Node × List P} (and_then {A = EsToken} {B = EsToken × (Node × List P)} o (λ c r. and_then {A = Node × List P} {B = EsToken × (Node × List P)} (value_of seen (item r)) (λ x after. Ok ((c, x), after)))) (λ x r. Ok (x.1, r))

  abbrev behind_key : EsToken → Outcome (Node × List P) → Outcome (List P)
  behind_key t o = and_then {A = EsToken × (Node × List P)} {B = List P} (and_then {A = Node × List P} {B = EsToken × (Node × List P)} o (λ x after. Ok ((t, x), after))) (λ x r. Ok ((x.0, x.1.0) ∷ x.1.1, r))

  abbrev key_of : List (List ℕ) → Outcome EsToken → Outcome (List P)
  key_of seen o = and_then {A = EsToken × (Node × List P)} {B = List P} (and_then {A = EsToken} {B = EsToken × (Node × List P)} o (λ t r. and_then {A = Node × List P} {B = EsToken × (Node × List P)} (colon_of (name_of t ∷ seen) (colon r)) (λ x after. Ok ((t, x), after)))) (λ x r. Ok ((x.0, x.1.0) ∷ x.1.1, r))

  abbrev tail_of : List (List ℕ) → Outcome EsToken → Outcome (List P)
  tail_of seen o = and_then {A = EsToken × List P} {B = List P} (and_then {A = EsToken} {B = EsToken × List P} o (λ c r. and_then {A = List P} {B = EsToken × List P} (list_of seen r) (λ ps after. Ok ((c, ps), after)))) (λ x r. Ok (x.1, r))

  list_is : (seen : List (List ℕ)) (ts : List EsToken) → list_of seen ts ≡ (if next_in (λ t. identifier (token_code t)) ts then key_of seen (key seen ts) else Ok ([], ts))
  unfolding table g.pair_list g.value_and_more
  list_is seen ts =
      ap (λ o. if next_in (λ t. identifier (token_code t)) ts then o else (if nat_le 0 b then Ok ([], ts) else Err ts)) (read_named_is table predictive b (pairs seen) ts)
      ∙ ap (λ c. if next_in (λ t. identifier (token_code t)) ts then key_of seen (key seen ts) else (if c then Ok ([], ts) else Err ts)) (none_within b)

  more_is : (seen : List (List ℕ)) (ts : List EsToken) → more_of seen ts ≡ (if next_in is_comma ts then tail_of seen (comma ts) else Ok ([], ts))
  unfolding table g.more_pairs
  more_is seen ts = ap (λ c. if next_in is_comma ts then tail_of seen (comma ts) else (if c then Ok ([], ts) else Err ts)) (none_within b)

  -- the keys and the values behind those found
  abbrev split : List (List ℕ) → List Node → Outcome (List P) → Outcome Split
  split keys values o = and_then {A = List P} {B = Split} o (λ ps r. Ok ((keys ++ map (λ p. name_of p.0) ps, values ++ map (λ p. p.1) ps), r))

  second : (c : EsToken) (o : Outcome (List P)) → and_then {A = EsToken × List P} {B = List P} (and_then {A = List P} {B = EsToken × List P} o (λ ps after. Ok ((c, ps), after))) (λ x r. Ok (x.1, r)) ≡ o
  second c (Ok y) = refl
  second c (Err y) = refl

  none_more : (keys : List (List ℕ)) (values : List Node) (ts : List EsToken) → split keys values (Ok ([], ts)) ≡ Ok ((keys, values), ts)
  none_more keys values ts = ap₂ (λ (k : List (List ℕ)) (v : List Node). Ok ((k, v), ts)) (append-nil keys) (append-nil values)

  added : (keys : List (List ℕ)) (values : List Node) (t c : EsToken) (e : Node) (o : Outcome (List P))
      → split keys values (behind_key t (behind_colon c (and_then {A = List P} {B = Node × List P} o (λ ps after. Ok ((e, ps), after))))) ≡ split (keys ++ name_of t ∷ []) (values ++ e ∷ []) o
  added keys values t c e (Err y) = refl
  added keys values t c e (Ok y) = ap₂ (λ (k : List (List ℕ)) (v : List Node). Ok ((k, v), y.1)) (sym (append_assoc keys (name_of t ∷ []) (map (λ p. name_of p.0) y.0))) (sym (append_assoc values (e ∷ []) (map (λ p. p.1) y.0)))

  module _ (n : ℕ) where
    abbrev Goes : Type 0
    Goes = (seen keys : List (List ℕ)) (values : List Node) (after : List EsToken) → Alike seen keys → length after ≤ n → split keys values (list_of seen after) ≡ pairs_from n b keys values after

    abbrev behind_pair : List (List ℕ) → List Node → List EsToken → Outcome Split
    behind_pair keys values rest = if next_in is_comma rest then and_then {A = EsToken} {B = Split} (comma rest) (λ c after. pairs_from n b keys values after) else Ok ((keys, values), rest)

    behind_is : Goes → (seen keys : List (List ℕ)) (values : List Node) (rest : List EsToken) → Alike seen keys → length rest ≤ suc n
        → split keys values (if next_in is_comma rest then tail_of seen (comma rest) else Ok ([], rest)) ≡ behind_pair keys values rest
    behind_is h seen keys values [] a le = none_more keys values []
    behind_is h seen keys values (t ∷ after) a le = by (is_comma t)
      where
        by : (c : Bool)
            → split keys values (if c then tail_of seen (read_one_token (if c then Some t else None) t after) else Ok ([], t ∷ after))
            ≡ (if c then and_then {A = EsToken} {B = Split} (read_one_token (if c then Some t else None) t after) (λ c after. pairs_from n b keys values after) else Ok ((keys, values), t ∷ after))
        by false = none_more keys values (t ∷ after)
        by true = ap (split keys values) (second t (list_of seen after)) ∙ h seen keys values after a (omega (arith, le))

    -- the loop, by what its parts give
    abbrev found_of : List (List ℕ) → List Node → Outcome (List ℕ × Node) → Outcome Split
    found_of keys values o = and_then {A = List ℕ × Node} {B = Split} o (λ p rest. behind_pair (keys ++ p.0 ∷ []) (values ++ p.1 ∷ []) rest)

    abbrev pair_value : EsToken → Outcome Node → Outcome (List ℕ × Node)
    pair_value t o = and_then {A = Node} {B = List ℕ × Node} o (λ e last. Ok ((name_of t, e), last))

    abbrev pair_colon : EsToken → Outcome EsToken → Outcome (List ℕ × Node)
    pair_colon t o = and_then {A = EsToken} {B = List ℕ × Node} o (λ c after. pair_value t (item after))

    abbrev pair_key : Outcome EsToken → Outcome (List ℕ × Node)
    pair_key o = and_then {A = EsToken} {B = List ℕ × Node} o (λ t rest. pair_colon t (colon rest))

    module _ (h : Goes) (seen keys : List (List ℕ)) (values : List Node) (a : Alike seen keys) where
      abbrev Left : {A : Type 0} → Outcome A → Type 0
      Left {A} o = (y : A × List EsToken) → o ≡ Ok y → length (y.1) ≤ suc n

      by_value : (t c : EsToken) (o : Outcome Node) → Left o → split keys values (behind_key t (behind_colon c (value_of (name_of t ∷ seen) o))) ≡ found_of keys values (pair_value t o)
      by_value t c (Err y) l = refl
      by_value t c (Ok y) l =
          added keys values t c (y.0) (more_of (name_of t ∷ seen) (y.1))
          ∙ ap (split (keys ++ name_of t ∷ []) (values ++ y.0 ∷ [])) (more_is (name_of t ∷ seen) (y.1))
          ∙ behind_is h (name_of t ∷ seen) (keys ++ name_of t ∷ []) (values ++ y.0 ∷ []) (y.1) (alike_more seen keys (name_of t) a) (l y refl)

      by_colon : (t : EsToken) (o : Outcome EsToken) → Left o → split keys values (behind_key t (colon_of (name_of t ∷ seen) o)) ≡ found_of keys values (pair_colon t o)
      by_colon t (Err y) l = refl
      by_colon t (Ok y) l = by_value t (y.0) (item (y.1)) (λ z e. omega (arith, l y refl, left_of table predictive (named (expr level.Assignment)) tt b (y.1) (z.0) (z.1) e))

      by_key : (o : Outcome EsToken) → Left o → split keys values (key_of seen o) ≡ found_of keys values (pair_key o)
      by_key (Err y) l = refl
      by_key (Ok y) l = by_colon (y.0) (colon (y.1)) (λ z e. omega (arith, l y refl, token_left (token_in token_code (op mark.Colon)) (y.1) z e))

  pairs_are : (n : ℕ) (seen keys : List (List ℕ)) (values : List Node) (ts : List EsToken) → Alike seen keys → length ts ≤ n → split keys values (list_of seen ts) ≡ pairs_from n b keys values ts
  unfolding pairs_from next_pair
  pairs_are zero seen keys values [] a le = ap (split keys values) (list_is seen []) ∙ none_more keys values []
  pairs_are zero seen keys values (t ∷ ts) a le = let no : ⊥ = omega (arith, le) in absurd no
  pairs_are (suc n) seen keys values ts a le =
      ap (split keys values) (list_is seen ts)
      ∙ by (ap (λ o. split keys values (key_of seen o)) (alike_read identifier seen keys a ts)
      ∙ by_key n (λ s k v l. pairs_are n s k v l) seen keys values a (key keys ts) (λ y e. omega (arith, le, token_left (token_such token_code identifier (is_new keys)) ts y e)))
      (next_in (λ t. identifier (token_code t)) ts)
    where
      by : split keys values (key_of seen (key seen ts)) ≡ found_of n keys values (pair_key n (key keys ts)) → (c : Bool)
          → split keys values (if c then key_of seen (key seen ts) else Ok ([], ts)) ≡ (if c then found_of n keys values (pair_key n (key keys ts)) else Ok ((keys, values), ts))
      by h true = h
      by h false = none_more keys values ts

  -- ---- the literal

  abbrev Whole : Type 0
  Whole = Outcome (EsToken × Node)

  abbrev close : List EsToken → Outcome EsToken
  close ts = read_token (token_in token_code (op mark.CloseBrace)) ts

  abbrev object_of : EsToken → Outcome Split → Whole
  object_of t o = and_then {A = Split} {B = EsToken × Node} o (λ s rest. and_then {A = EsToken} {B = EsToken × Node} (close rest) (λ c after. Ok ((t, made t (kind.Object (s.0) (exprs (s.1)))), after)))

  abbrev literal_of : EsToken → Outcome (List P) → Whole
  literal_of t o = and_then {A = EsToken × List P} {B = EsToken × Node}
      (and_then {A = List P} {B = EsToken × List P} (and_then {A = List P × EsToken} {B = List P} (and_then {A = List P} {B = List P × EsToken} o (λ ps r. and_then {A = EsToken} {B = List P × EsToken} (close r) (λ c after. Ok ((ps, c), after)))) (λ x r. Ok (x.0, r))) (λ ps after. Ok ((t, ps), after)))
      (λ x r. Ok ((x.0, made x.0 (kind.Object (map (λ p. name_of p.0) x.1) (map (λ p. expr_of p.1) x.1))), r))

  values_of : (ps : List P) → exprs (map (λ p. p.1) ps) ≡ map (λ p. expr_of p.1) ps
  values_of [] = refl
  values_of (p ∷ ps) = ap (λ l. expr_of p.1 ∷ l) (values_of ps)

  literal_is : (t : EsToken) (o : Outcome (List P)) → literal_of t o ≡ object_of t (split [] [] o)
  literal_is t (Err y) = refl
  literal_is t (Ok y) = by (close (y.1))
    where
      by : (z : Outcome EsToken)
          → and_then {A = EsToken × List P} {B = EsToken × Node} (and_then {A = List P} {B = EsToken × List P} (and_then {A = List P × EsToken} {B = List P} (and_then {A = EsToken} {B = List P × EsToken} z (λ c after. Ok ((y.0, c), after))) (λ x r. Ok (x.0, r))) (λ ps after. Ok ((t, ps), after))) (λ x r. Ok ((x.0, made x.0 (kind.Object (map (λ p. name_of p.0) x.1) (map (λ p. expr_of p.1) x.1))), r))
          ≡ and_then {A = EsToken} {B = EsToken × Node} z (λ c after. Ok ((t, made t (kind.Object (map (λ p. name_of p.0) (y.0)) (exprs (map (λ p. p.1) (y.0))))), after))
      by (Err z) = refl
      by (Ok z) = ap (λ l. Ok ((t, made t (kind.Object (map (λ p. name_of p.0) (y.0)) l)), z.1)) (sym (values_of (y.0)))

  pub object_is : (ts : List EsToken) → read_rule table (read_named table) g.object_literal (suc b) ts
      ≡ and_then {A = EsToken} {B = EsToken × Node} (read_token (token_in token_code (op mark.OpenBrace)) ts) (λ t rest. object_of t (pairs_from (length rest) b [] [] rest))
  unfolding table g.object_literal
  object_is ts = by (read_token (token_in token_code (op mark.OpenBrace)) ts)
    where
      by : (o : Outcome EsToken)
          → and_then {A = EsToken × List P} {B = EsToken × Node} (and_then {A = EsToken} {B = EsToken × List P} o (λ a rest. and_then {A = List P} {B = EsToken × List P} (and_then {A = List P × EsToken} {B = List P} (and_then {A = List P} {B = List P × EsToken} (list_of [] rest) (λ ps r. and_then {A = EsToken} {B = List P × EsToken} (close r) (λ c after. Ok ((ps, c), after)))) (λ x r. Ok (x.0, r))) (λ ps after. Ok ((a, ps), after)))) (λ x r. Ok ((x.0, made x.0 (kind.Object (map (λ p. name_of p.0) x.1) (map (λ p. expr_of p.1) x.1))), r))
          ≡ and_then {A = EsToken} {B = EsToken × Node} o (λ t rest. object_of t (pairs_from (length rest) b [] [] rest))
      by (Err y) = refl
      by (Ok y) = literal_is (y.0) (list_of [] (y.1)) ∙ ap (object_of (y.0)) (pairs_are (length (y.1)) [] [] [] (y.1) (λ t. refl) (omega arith))
