-- Lists in literals, read in loops.
use Rattle.std.proofs.Common.{◌≡◌, ℕ, zero, suc, Bool, true, false, List, [], ◌∷◌, ◌++◌, Result, Ok, Err, refl, sym, ap, subst, length, ◌∙◌, append_assoc, append-nil}
use Rattle.std.specs.Prelude.{◌||◌, if◌then◌else◌}
use Rattle.grammar.specs.Checks.{first as first_of_rule}
use Rattle.grammar.specs.FormReaders.{and_then, next_in, read_many, read_many_from}
use Rattle.grammar.specs.Readers.{read_named, read_rule}
use Rattle.grammar.proofs.Loops.{read_many_from_is}
use Rattle.ruby_meaning.specs.declared.tree.Node.{Node}
use Rattle.ruby_meaning.specs.declared.production.Sign.TheVariants as sign
use Rattle.ruby_meaning.specs.declared.token.Mark.TheVariants as mark
use Rattle.ruby_meaning.specs.Grammar.Classes.{a, op, marked_op}
use Rattle.ruby_meaning.specs.Grammar.Seen.{Seen}
use Rattle.ruby_meaning.specs.Grammar.Table.{table, begins_value, begins_splat, begins_argument}
use Rattle.descent.specs.declared.fail.Fail.{Fail}
use Rattle.descent.specs.declared.fail.Fail.TheVariants.{NoMemory, Refused}
use Rattle.ruby_primaries.specs.declared.primary.Pairs.{Pairs}
use Rattle.descent.specs.Gives.{Gives}
use Rattle.ruby_reading.specs.Ahead.{class_code}
use Rattle.ruby_primaries.specs.Literals.{begins_pair, read_pairs_from, Splits, firsts, seconds, shown_pairs, pairs_from, read_pairs, next_pair, GivesPairsBehind}

whole : {A : Type 0} (o : Result (A × List Seen) (List Seen)) → and_then o (λ ys r. Ok (ys, r)) ≡ o
whole (Ok y) = refl
whole (Err y) = refl

pub many_from_none : {A : Type 0} (first : Seen → Bool) (p : List Seen → Result (A × List Seen) (List Seen)) (n : ℕ) (ts : List Seen) → read_many first p n ts ≡ read_many_from first p n [] ts
many_from_none first p n ts = sym (read_many_from_is first p n [] ts ∙ whole (read_many first p n ts))

pub pair_seen : (ts : List Seen) → next_in begins_pair ts ≡ (next_in (λ t. a sign.Label (class_code t)) ts || next_in (λ t. begins_value (class_code t)) ts)
pair_seen [] = refl
pair_seen (t ∷ ts) = refl

abbrev Found : Type 0
Found = Result (List (Node × Node) × List Seen) (List Seen)

abbrev split : List Node → List Node → Found → Splits
split ks vs o = and_then o (λ xs r. Ok ((ks ++ firsts xs, vs ++ seconds xs), r))

module _ (first : Seen → Bool) (p : List Seen → Result ((Node × Node) × List Seen) (List Seen)) where
  split_again : (ks vs : List Node) (a : Node × Node) (o : Found) → split (ks ++ a.0 ∷ []) (vs ++ a.1 ∷ []) o ≡ split ks vs (and_then o (λ xs r. Ok (a ∷ xs, r)))
  split_again ks vs a (Ok y) =
      ap (λ z. Ok ((z, (vs ++ a.1 ∷ []) ++ seconds y.0), y.1)) (append_assoc ks (a.0 ∷ []) (firsts y.0))
      ∙ ap (λ z. Ok ((ks ++ a.0 ∷ firsts y.0, z), y.1)) (append_assoc vs (a.1 ∷ []) (seconds y.0))
  split_again ks vs a (Err y) = refl

  none_split : (ks vs : List Node) (ts : List Seen) → ◌≡◌ {A = Splits} (Ok ((ks, vs), ts)) (Ok ((ks ++ [], vs ++ []), ts))
  none_split ks vs ts = ap (λ z. Ok ((z, vs), ts)) (sym (append-nil ks)) ∙ ap (λ z. Ok ((ks ++ [], z), ts)) (sym (append-nil vs))

  pub pairs_from_is : (n : ℕ) (ks vs : List Node) (ts : List Seen) → read_pairs_from first p n ks vs ts ≡ split ks vs (read_many first p n ts)
  unfolding read_pairs_from
  pairs_from_is zero ks vs ts = none_split ks vs ts
  pairs_from_is (suc n) ks vs ts = by (λ a r. pairs_from_is n (ks ++ a.0 ∷ []) (vs ++ a.1 ∷ []) r) (next_in first ts) (p ts)
    where
      by : ((a : Node × Node) (r : List Seen) → read_pairs_from first p n (ks ++ a.0 ∷ []) (vs ++ a.1 ∷ []) r ≡ split (ks ++ a.0 ∷ []) (vs ++ a.1 ∷ []) (read_many first p n r)) → (c : Bool) (o : Result ((Node × Node) × List Seen) (List Seen))
          → (if c then and_then o (λ a rest. read_pairs_from first p n (ks ++ a.0 ∷ []) (vs ++ a.1 ∷ []) rest) else Ok ((ks, vs), ts))
          ≡ split ks vs (if c then and_then o (λ a rest. and_then (read_many first p n rest) (λ xs after. Ok (a ∷ xs, after))) else Ok ([], ts))
      by go true (Ok y) = go y.0 y.1 ∙ split_again ks vs y.0 (read_many first p n y.1)
      by go true (Err y) = refl
      by go false o = none_split ks vs ts

split_given : (k v : Node) (o : Found) (result : Result Pairs Fail) (rest : List Seen) → Gives shown_pairs (split (k ∷ []) (v ∷ []) o) result rest → GivesPairsBehind k v o result rest
split_given k v (Ok (xs, after)) (Ok found) rest h =
    let e : ◌≡◌ {A = (List Node × List Node) × List Seen} ((k ∷ firsts xs, v ∷ seconds xs), after) ((found.keys, found.values), rest) = cc in
    (xs, ap (λ z. Ok (xs, z.1)) e, ap (λ z. z.0.0) e, ap (λ z. z.0.1) e)
split_given k v (Ok (xs, after)) (Err NoMemory) rest h = tt
split_given k v (Ok (xs, after)) (Err Refused) rest h = cc
split_given k v (Err y) (Ok found) rest h = cc
split_given k v (Err y) (Err NoMemory) rest h = tt
split_given k v (Err y) (Err Refused) rest h = cc

pub pairs_given : (r : Bool) (b : ℕ) (ks vs : List Node) (k v : Node) (ts : List Seen) (result : Result Pairs Fail) (rest : List Seen) → ks ≡ k ∷ [] → vs ≡ v ∷ []
    → Gives shown_pairs (pairs_from r b (length ts) ks vs ts) result rest → GivesPairsBehind k v (read_pairs r b ts) result rest
pairs_given r b ks vs k v ts result rest e f h =
    let first : Seen → Bool = λ t. first_of_rule table (next_pair r) (table.code t) in
    let p : List Seen → Result ((Node × Node) × List Seen) (List Seen) = read_rule table (read_named table) (next_pair r) b in
    split_given k v (read_many first p (length ts) ts) result rest (subst (λ o. Gives shown_pairs o result rest) (ap (λ l. read_pairs_from first p (length ts) l vs ts) e ∙ ap (λ l. read_pairs_from first p (length ts) (k ∷ []) l ts) f ∙ pairs_from_is first p (length ts) (k ∷ []) (v ∷ []) ts) h)

pub argument_seen : (ts : List Seen) → next_in (λ t. begins_argument (class_code t)) ts
    ≡ ((((next_in (λ t. begins_value (class_code t)) ts || next_in (λ t. begins_splat (class_code t)) ts) || next_in (λ t. a sign.Label (class_code t)) ts) || next_in (λ t. op mark.Ampersand (class_code t)) ts) || next_in (λ t. marked_op mark.Ampersand (class_code t)) ts)
argument_seen [] = refl
argument_seen (t ∷ ts) = refl
