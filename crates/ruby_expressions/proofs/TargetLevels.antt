-- Targets where no level is left.
use Rattle.std.proofs.Common.{◌≡◌, ℕ, zero, suc, ◌≤◌, Bool, true, false, List, [], ◌∷◌, ◌++◌, Result, Ok, Err, refl, sym, ap, ◌∙◌, arith}
use Rattle.std.specs.Prelude.{if◌then◌else◌}
use Rattle.std.proofs.lemmas.Bool.Decides.{nat_tests}
use Rattle.grammar.specs.Checks.{Checks, first}
use Rattle.grammar.specs.FormReaders.{and_then, next_in}
use Rattle.grammar.specs.Readers.{read_named, read_rule}
use Rattle.grammar.specs.Spelling.{Spells, RuleFront, IsFront}
use Rattle.grammar.proofs.RuleReads.{rule_reads, value_within}
use Rattle.grammar.proofs.Stability.{read_named_is}
use Rattle.ruby_meaning.specs.declared.production.Production.TheVariants as p
use Rattle.ruby_meaning.specs.declared.token.Mark.TheVariants as mark
use Rattle.ruby_meaning.specs.declared.tree.Node.{Node}
use Rattle.ruby_meaning.specs.Depth.{depth_of}
use Rattle.ruby_meaning.specs.Grammar.Actions as act
use Rattle.ruby_meaning.specs.Grammar.Classes.{op}
use Rattle.ruby_meaning.specs.Grammar.Expressions as e
use Rattle.ruby_meaning.specs.Grammar.Names.{part}
use Rattle.ruby_meaning.specs.Grammar.Primaries.{post, prim, keyword_value, word_value, integer_value, text, ivar_value, gvar_value, top_constant, word_list, interpolated, parenthesized, array, hash_value, name_call, constant_value, super_value, yield_value, arrow_value}
use Rattle.ruby_meaning.specs.Grammar.Definitions.{keyword_form, if_value, unless_value, while_value, until_value, case_value, class_value, module_value, def_value, begin_value, body_behind}
use Rattle.ruby_meaning.specs.Grammar.Seen.{Seen}
use Rattle.ruby_meaning.specs.Grammar.Statements as s
use Rattle.ruby_meaning.specs.Grammar.Table.{table}
use Rattle.ruby_meaning.proofs.Grammar.Checks.{c_targets}
use Rattle.ruby_meaning.proofs.Grammar.Depths.{depth_made}
use Rattle.ruby_meaning.proofs.Grammar.TableMeets.{predictive}
use Rattle.ruby_reading.specs.declared.names.Tree.TheVariants as of_tree
use Rattle.ruby_reading.specs.Ahead.{class_code}
use Rattle.ruby_reading.specs.Named.{read_tree}

abbrev O : Type 0 → Type 0
O A = Result (A × List Seen) (List Seen)

abbrev seen_as : {A B : Type 0} → O A → (A → B) → O B
seen_as o f = and_then o (λ x k. Ok (f x, k))

no_less : (n : Node) → depth_of n ≤ 0 → ⊥
no_less n h = let e = depth_made n.kind n.span n.mark in omega (arith, h, e)

module _ (r : Bool) where
  checks_post : Checks table (post r true)
  unfolding s.more_targets s.next_target s.target
  checks_post = (c_targets r false).1.2.1.1.1.1

  abbrev P : List Seen → O (Node × ℕ)
  P ts = read_rule table (read_named table) (post r true) 0 ts

  never : (ts : List Seen) (a : Node × ℕ) (k : List Seen) → P ts ≡ Ok (a, k) → ⊥
  unfolding depth_of table
  never ts a k e = no_less a.0 (value_within table predictive (post r true) checks_post 0 ts a k e)

  no_bang : first table (post r true) 63 ≡ false
  unfolding table post prim keyword_value word_value integer_value text ivar_value gvar_value top_constant word_list interpolated parenthesized array hash_value name_call constant_value super_value yield_value arrow_value keyword_form if_value unless_value while_value until_value case_value class_value module_value def_value begin_value body_behind
  no_bang = refl

  is_bang : (c : ℕ) → op mark.Bang c ≡ true → c ≡ 63
  is_bang c h = grind (arith, nat_tests)

  at_bang : (t : Seen) → op mark.Bang (class_code t) ≡ true → first table (post r true) (class_code t) ≡ true → ⊥
  at_bang t h w = let c = ap (first table (post r true)) (is_bang (class_code t) h) ∙ no_bang in cc

  abbrev sees_bang : List Seen → Bool
  sees_bang ts = next_in (λ t. op mark.Bang (class_code t)) ts

  fronts : (ts k : List Seen) → P ts ≡ Err k → sees_bang ts ≡ true → ts ≡ k
  unfolding table
  fronts ts k e h =
      let f = rule_reads table predictive (post r true) checks_post 0 in
      let x = f.refusal ts k e in by x.0 x.1 (λ t u w. f.starts t u w) x.2
    where
      by : (u : List Seen) → ts ≡ u ++ k → ((t : Seen) (v : List Seen) → RuleFront table (Spells table) (IsFront table) (post r true) 0 (t ∷ v) → first table (post r true) (table.code t) ≡ true)
          → RuleFront table (Spells table) (IsFront table) (post r true) 0 u → ts ≡ k
      by [] g w x = g
      by (t ∷ v) g w x = absurd (at_bang t (ap sees_bang (sym g) ∙ h) (w t v x))

  refused_at : (ts : List Seen) → sees_bang ts ≡ true → Err ts ≡ P ts
  refused_at ts h = by (P ts) refl
    where
      by : (o : O (Node × ℕ)) → P ts ≡ o → Err ts ≡ o
      by (Ok y) e = absurd (never ts y.0 y.1 e)
      by (Err k) e = ap Err (fronts ts k e h)

  operand : (ts : List Seen) → seen_as (if sees_bang ts then Err ts else P ts) (λ x. x.0) ≡ seen_as (P ts) (λ x. x.0)
  operand ts = by (sees_bang ts) refl
    where
      by : (c : Bool) → sees_bang ts ≡ c → seen_as (if c then Err ts else P ts) (λ x. x.0) ≡ seen_as (P ts) (λ x. x.0)
      by true h = ap (λ o. seen_as o (λ x. x.0)) (refused_at ts h)
      by false h = refl

  named_operand : (ts : List Seen) → read_named table 0 (part p.NotOperand true r) ts ≡ seen_as (P ts) (λ x. x.0)
  unfolding table e.not_level
  named_operand ts = read_named_is table predictive 0 (part p.NotOperand true r) ts ∙ operand ts

  of_error : (o : O (Node × ℕ)) (k : List Seen) → seen_as o (λ x. x.0) ≡ Err k → o ≡ Err k
  of_error (Ok y) k h = cc
  of_error (Err j) k h = let f : ◌≡◌ {A = O Node} (Err j) (Err k) = h in let l : j ≡ k = cc in ap Err l

  abbrev placed : O (Node × ℕ) → O ((Node × ℕ) × ℕ)
  placed o = and_then o (λ a rest. and_then (read_rule table (read_named table) (s.placed r (act.is_place a)) 0 rest) (λ c after. Ok ((a, c), after)))

  target_error : (ts k : List Seen) → P ts ≡ Err k → read_rule table (read_named table) (s.target r) 0 ts ≡ Err k
  unfolding s.target
  target_error ts k e = ap (λ o. seen_as (placed o) (λ x. act.target_node x.0)) e

  no_value : (o : O (Node × ℕ)) (x : Node) (ts k : List Seen) → P ts ≡ o → seen_as o (λ x. x.0) ≡ Ok (x, k) → ⊥
  no_value (Ok y) x ts k e h = never ts y.0 y.1 e
  no_value (Err j) x ts k e h = cc

  pub target_refused : (n : ℕ) (ts k : List Seen) → n ≡ 0 → read_tree of_tree.NotOperand true r n ts ≡ Err k → read_rule table (read_named table) (s.target r) n ts ≡ Err k
  target_refused zero ts k h e = target_error ts k (of_error (P ts) k (sym (named_operand ts) ∙ e))
  target_refused (suc n) ts k h e = absurd (omega (arith, h))

  pub no_operand : (n : ℕ) (ts k : List Seen) (x : Node) → n ≡ 0 → read_tree of_tree.NotOperand true r n ts ≡ Ok (x, k) → read_rule table (read_named table) (s.target r) n ts ≡ Err k
  no_operand zero ts k x h e = absurd (no_value (P ts) x ts k refl (sym (named_operand ts) ∙ e))
  no_operand (suc n) ts k x h e = absurd (omega (arith, h))
