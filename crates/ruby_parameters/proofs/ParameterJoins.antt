-- Parameters that were read, and those behind them.
use Rattle.std.proofs.Common.{◌≡◌, ℕ, Bool, true, false, List, [], ◌∷◌, ◌++◌, map, Option, Some, None, Result, Ok, Err, refl, sym, ap, ◌∙◌, append_assoc, append-nil}
use Rattle.std.proofs.lemmas.List.{map-append}
use Rattle.grammar.specs.FormReaders.{and_then, read_token}
use Rattle.grammar.specs.Readers.{read_named, read_rule}
use Rattle.grammar.specs.Spelling.{token_in}
use Rattle.ruby_meaning.specs.declared.production.Stage.{Stage}
use Rattle.ruby_meaning.specs.declared.production.Stage.TheVariants as stage
use Rattle.ruby_meaning.specs.declared.token.Mark.TheVariants as mark
use Rattle.ruby_meaning.specs.declared.tree.Node.{Node}
use Rattle.ruby_meaning.specs.declared.tree.Rest.{Rest}
use Rattle.ruby_meaning.specs.declared.tree.Slot.{Slot}
use Rattle.ruby_meaning.specs.Grammar.Actions as act
use Rattle.ruby_meaning.specs.Grammar.Classes.{op}
use Rattle.ruby_meaning.specs.Grammar.Parameters as g
use Rattle.ruby_meaning.specs.Grammar.Seen.{Seen}
use Rattle.ruby_meaning.specs.Grammar.Table.{table}
use Rattle.ruby_parameters.specs.declared.parameters.Found.{Found}
use Rattle.ruby_reading.specs.Ahead.{class_code}
use Rattle.ruby_parameters.specs.Parameters.{Single, slot, default, rest, block, is_block, stage_behind, with_single, read_single, read_more, go_on, sees_op, found_of, with_found, first_rest, join}
use Rattle.ruby_parameters.proofs.ParameterTurns.{turn, more_behind, more_refused, none_behind}

or_else_none : {A : Type 0} (o : Option A) → act.or_else o None ≡ o
or_else_none None = refl
or_else_none (Some a) = refl

or_else_assoc : {A : Type 0} (o q s : Option A) → act.or_else (act.or_else o q) s ≡ act.or_else o (act.or_else q s)
or_else_assoc None q s = refl
or_else_assoc (Some a) q s = refl

abbrev tuple : List (List Seen) → List (Seen × Node) → Option (Option Seen) → List (List Seen) → Option Seen → act.Parameters
tuple a b c d e = (a, (b, (c, (d, e))))

same_tuple : (a a' : List (List Seen)) (b b' : List (Seen × Node)) (c c' : Option (Option Seen)) (d d' : List (List Seen)) (e e' : Option Seen)
    → a ≡ a' → b ≡ b' → c ≡ c' → d ≡ d' → e ≡ e' → tuple a b c d e ≡ tuple a' b' c' d' e'
same_tuple a a' b b' c c' d d' e e' p q r s t = ap (λ z. tuple z b c d e) p ∙ ap (λ z. tuple a' z c d e) q ∙ ap (λ z. tuple a' b' z d e) r ∙ ap (λ z. tuple a' b' c' z e) s ∙ ap (λ z. tuple a' b' c' d' z) t

join_assoc : (x y z : act.Parameters) → join (join x y) z ≡ join x (join y z)
join_assoc x y z = same_tuple _ _ _ _ _ _ _ _ _ _ (append_assoc x.0 y.0 z.0) (append_assoc (x.1.0) (y.1.0) (z.1.0)) (or_else_assoc (x.1.1.0) (y.1.1.0) (z.1.1.0)) (append_assoc (x.1.1.1.0) (y.1.1.1.0) (z.1.1.1.0)) (or_else_assoc (x.1.1.1.1) (y.1.1.1.1) (z.1.1.1.1))

-- one alone
abbrev alone : Stage → Single → act.Parameters
alone s y = with_single s y act.no_parameters

join_single : (s : Stage) (y : Single) (x : act.Parameters) → is_block y ≡ false → with_single s y x ≡ join (alone s y) x
join_single stage.Plain (slot names) x h = refl
join_single stage.Optional (slot names) x h = refl
join_single stage.Rest (slot names) x h = refl
join_single stage.After (slot names) x h = refl
join_single s (default t n) x h = refl
join_single s (rest o) x h = refl
join_single s (block t) x h = cc

joined_single : (seen : act.Parameters) (s : Stage) (y : Single) (x : act.Parameters) → is_block y ≡ false → join seen (with_single s y x) ≡ join (join seen (alone s y)) x
joined_single seen s y x h = ap (join seen) (join_single s y x h) ∙ sym (join_assoc seen (alone s y) x)

abbrev O : Type 0 → Type 0
O A = Result (A × List Seen) (List Seen)

-- those read before, with what stands behind them
abbrev pub behind_found : act.Parameters → O act.Parameters → O act.Parameters
behind_found seen o = and_then o (λ x k. Ok (join seen x, k))

behind_again : (seen : act.Parameters) (s : Stage) (y : Single) (o : O act.Parameters) → is_block y ≡ false
    → behind_found seen (and_then o (λ x k. Ok (with_single s y x, k))) ≡ behind_found (join seen (alone s y)) o
behind_again seen s y (Ok z) h = ap (λ x. Ok (x, z.1)) (joined_single seen s y z.0 h)
behind_again seen s y (Err z) h = refl

abbrev pub rule_here : Bool → Bool → ℕ → Stage → List Seen → O act.Parameters
rule_here r brackets b s ts = read_rule table (read_named table) (g.parameters r brackets s) b ts

module _ (r brackets : Bool) (b : ℕ) where
  abbrev Rule : Stage → List Seen → O act.Parameters
  Rule s ts = read_rule table (read_named table) (g.parameters r brackets s) b ts

  goes : (s : Stage) (y : Single) (k : List Seen) → is_block y ≡ false → go_on r brackets b s y k ≡ and_then (read_more r brackets b (stage_behind s y) k) (λ x j. Ok (with_single s y x, j))
  goes s (slot names) k h = refl
  goes s (default t n) k h = refl
  goes s (rest o) k h = refl
  goes s (block t) k h = cc

  turned : (s : Stage) (y : Single) (ts k : List Seen) → read_single r brackets b s ts ≡ Ok (y, k) → Rule s ts ≡ go_on r brackets b s y k
  turned s y ts k e = turn r brackets b s ts ∙ ap (λ o. and_then o (go_on r brackets b s)) e

  -- the first of all
  first_none : (o : O act.Parameters) → o ≡ behind_found act.no_parameters o
  first_none (Ok z) = refl
  first_none (Err z) = refl

  pub at_first : (ts : List Seen) → Rule stage.Plain ts ≡ behind_found act.no_parameters (Rule stage.Plain ts)
  at_first ts = first_none (Rule stage.Plain ts)

  pub one_more : (total : O act.Parameters) (seen : act.Parameters) (s : Stage) (y : Single) (ts k : List Seen) (t : Seen) (j : List Seen)
      → total ≡ behind_found seen (Rule s ts) → read_single r brackets b s ts ≡ Ok (y, k) → is_block y ≡ false
      → sees_op mark.Comma k ≡ true → read_token (token_in class_code (op mark.Comma)) k ≡ Ok (t, j)
      → total ≡ behind_found (join seen (with_single s y act.no_parameters)) (Rule (stage_behind s y) j)
  one_more total seen s y ts k t j whole e h c d =
      whole ∙ ap (behind_found seen) (turned s y ts k e ∙ goes s y k h) ∙ behind_again seen s y (read_more r brackets b (stage_behind s y) k) h
      ∙ ap (behind_found (join seen (alone s y))) (more_behind r brackets b (stage_behind s y) k t j c d)

  pub comma_refused : (total : O act.Parameters) (seen : act.Parameters) (s : Stage) (y : Single) (ts k j : List Seen)
      → total ≡ behind_found seen (Rule s ts) → read_single r brackets b s ts ≡ Ok (y, k) → is_block y ≡ false
      → sees_op mark.Comma k ≡ true → read_token (token_in class_code (op mark.Comma)) k ≡ Err j
      → total ≡ Err j
  comma_refused total seen s y ts k j whole e h c d =
      whole ∙ ap (behind_found seen) (turned s y ts k e ∙ goes s y k h ∙ ap (λ o. and_then o (λ x i. Ok (with_single s y x, i))) (more_refused r brackets b (stage_behind s y) k j c d))

  pub last_one : (total : O act.Parameters) (seen : act.Parameters) (s : Stage) (y : Single) (ts k : List Seen)
      → total ≡ behind_found seen (Rule s ts) → read_single r brackets b s ts ≡ Ok (y, k) → is_block y ≡ false
      → sees_op mark.Comma k ≡ false
      → total ≡ Ok (join seen (with_single s y act.no_parameters), k)
  last_one total seen s y ts k whole e h c =
      whole ∙ ap (behind_found seen) (turned s y ts k e ∙ goes s y k h ∙ ap (λ o. and_then o (λ x j. Ok (with_single s y x, j))) (none_behind r brackets b (stage_behind s y) k c))

  by_block : (s : Stage) (y : Single) (k : List Seen) → is_block y ≡ true → go_on r brackets b s y k ≡ Ok (with_single s y act.no_parameters, k)
  by_block s (slot names) k h = cc
  by_block s (default t n) k h = cc
  by_block s (rest o) k h = cc
  by_block s (block t) k h = refl

  pub block_last : (total : O act.Parameters) (seen : act.Parameters) (s : Stage) (y : Single) (ts k : List Seen)
      → total ≡ behind_found seen (Rule s ts) → read_single r brackets b s ts ≡ Ok (y, k) → is_block y ≡ true
      → total ≡ Ok (join seen (with_single s y act.no_parameters), k)
  block_last total seen s y ts k whole e h = whole ∙ ap (behind_found seen) (turned s y ts k e ∙ by_block s y k h)

  pub one_refused : (total : O act.Parameters) (seen : act.Parameters) (s : Stage) (ts k : List Seen)
      → total ≡ behind_found seen (Rule s ts) → read_single r brackets b s ts ≡ Err k → total ≡ Err k
  one_refused total seen s ts k whole e = whole ∙ ap (behind_found seen) (turn r brackets b s ts ∙ ap (λ o. and_then o (go_on r brackets b s)) e)

-- ---- what is kept of them

abbrev kept_as : List Slot → List (List ℕ) → List Node → Rest → List Slot → Option (List ℕ) → Found
kept_as p o d q a b = record { plain = p; optional = o; defaults = d; rest = q; after = a; block = b }

same_kept : (p p' : List Slot) (o o' : List (List ℕ)) (d d' : List Node) (q q' : Rest) (a a' : List Slot) (b b' : Option (List ℕ))
    → p ≡ p' → o ≡ o' → d ≡ d' → q ≡ q' → a ≡ a' → b ≡ b' → kept_as p o d q a b ≡ kept_as p' o' d' q' a' b'
same_kept p p' o o' d d' q q' a a' b b' e f g h i j =
    ap (λ z. kept_as z o d q a b) e ∙ ap (λ z. kept_as p' z d q a b) f ∙ ap (λ z. kept_as p' o' z q a b) g ∙ ap (λ z. kept_as p' o' d' z a b) h ∙ ap (λ z. kept_as p' o' d' q' z b) i ∙ ap (λ z. kept_as p' o' d' q' a' z) j

more_mapped : {A B : Type 0} (f : A → B) (xs : List A) (x : A) → map f xs ++ f x ∷ [] ≡ map f (xs ++ x ∷ [])
more_mapped f xs x = sym (map-append f xs (x ∷ []))

same_mapped : {A B : Type 0} (f : A → B) (xs : List A) → map f xs ≡ map f (xs ++ [])
same_mapped f xs = ap (map f) (sym (append-nil xs))

same_rest : (o : Option (Option Seen)) → act.rest_of o ≡ act.rest_of (act.or_else o None)
same_rest o = ap act.rest_of (sym (or_else_none o))

same_block : (o : Option Seen) → act.name_if o ≡ act.name_if (act.or_else o None)
same_block o = ap act.name_if (sym (or_else_none o))

rest_kept : (o : Option (Option Seen)) (x : Option Seen) → first_rest (act.rest_of o) (act.rest_of (Some x)) ≡ act.rest_of (act.or_else o (Some x))
rest_kept None x = refl
rest_kept (Some None) x = refl
rest_kept (Some (Some t)) x = refl

block_kept : (o : Option Seen) (t : Seen) → act.or_else (act.name_if o) (Some (act.units t)) ≡ act.name_if (act.or_else o (Some t))
block_kept None t = refl
block_kept (Some u) t = refl

slot_after : (x : act.Parameters) (names : List Seen) → kept_as (map act.slot_of x.0) (map (λ o. act.units o.0) (x.1.0)) (map (λ o. o.1) (x.1.0)) (act.rest_of (x.1.1.0)) (map act.slot_of (x.1.1.1.0) ++ act.slot_of names ∷ []) (act.name_if (x.1.1.1.1))
    ≡ found_of (join x ([], ([], (None, (names ∷ [], None)))))
slot_after x names = same_kept _ _ _ _ _ _ _ _ _ _ _ _ (same_mapped act.slot_of x.0) (same_mapped (λ o. act.units o.0) (x.1.0)) (same_mapped (λ o. o.1) (x.1.0)) (same_rest (x.1.1.0)) (more_mapped act.slot_of (x.1.1.1.0) names) (same_block (x.1.1.1.1))

pub found_more : (s : Stage) (y : Single) (x : act.Parameters) → with_found s y (found_of x) ≡ found_of (join x (with_single s y act.no_parameters))
found_more stage.Plain (slot names) x = same_kept _ _ _ _ _ _ _ _ _ _ _ _ (more_mapped act.slot_of x.0 names) (same_mapped (λ o. act.units o.0) (x.1.0)) (same_mapped (λ o. o.1) (x.1.0)) (same_rest (x.1.1.0)) (same_mapped act.slot_of (x.1.1.1.0)) (same_block (x.1.1.1.1))
found_more stage.Optional (slot names) x = slot_after x names
found_more stage.Rest (slot names) x = slot_after x names
found_more stage.After (slot names) x = slot_after x names
found_more s (default t n) x = same_kept _ _ _ _ _ _ _ _ _ _ _ _ (same_mapped act.slot_of x.0) (more_mapped (λ o. act.units o.0) (x.1.0) (t, n)) (more_mapped (λ o. o.1) (x.1.0) (t, n)) (same_rest (x.1.1.0)) (same_mapped act.slot_of (x.1.1.1.0)) (same_block (x.1.1.1.1))
found_more s (rest o) x = same_kept _ _ _ _ _ _ _ _ _ _ _ _ (same_mapped act.slot_of x.0) (same_mapped (λ o. act.units o.0) (x.1.0)) (same_mapped (λ o. o.1) (x.1.0)) (rest_kept (x.1.1.0) o) (same_mapped act.slot_of (x.1.1.1.0)) (same_block (x.1.1.1.1))
found_more s (block t) x = same_kept _ _ _ _ _ _ _ _ _ _ _ _ (same_mapped act.slot_of x.0) (same_mapped (λ o. act.units o.0) (x.1.0)) (same_mapped (λ o. o.1) (x.1.0)) (same_rest (x.1.1.0)) (same_mapped act.slot_of (x.1.1.1.0)) (block_kept (x.1.1.1.1) t)
