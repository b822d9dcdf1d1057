-- With no level left a part of Ruby's grammar stops at its first node.
use Rattle.std.proofs.Common.{◌≡◌, ◌⊎◌, inl, inr, ℕ, zero, suc, Bool, true, false, ◌||◌, List, [], ◌∷◌, Result, Ok, Err, refl, sym, ap, ◌∙◌, subst, arith}
use Rattle.std.specs.Prelude.{nat_eq, nat_le}
use Rattle.std.proofs.lemmas.Bool.Decides.{nat_tests}
use Rattle.grammar.specs.Readers.{read_named, read_rule}
use Rattle.grammar.specs.Rules.{Sort, tree, marked}
use Rattle.grammar.proofs.Stability.{read_named_is}
use Rattle.descent.specs.Sets.{behind_open}
use Rattle.descent.proofs.NoLevels.{Stops, Opens, stopped}
use Rattle.ruby_meaning.specs.declared.production.Production.{Production}
use Rattle.ruby_meaning.specs.declared.production.Production.TheVariants as p
use Rattle.ruby_meaning.specs.declared.token.Mark.TheVariants as mark
use Rattle.ruby_meaning.specs.declared.token.Word.TheVariants as word
use Rattle.ruby_meaning.specs.Depth.{depth_of}
use Rattle.ruby_meaning.specs.Grammar.Actions.{nothing}
use Rattle.ruby_meaning.specs.Grammar.Classes.{mark_code, marked_code, word_code}
use Rattle.ruby_meaning.specs.Grammar.Definitions.{keyword_form, if_value, unless_value, while_value, until_value, case_value, class_value, module_value, def_value, body_behind, begin_value, else_part, otherwise}
use Rattle.ruby_meaning.specs.Grammar.Expressions.{value_of, not_level, power_level, minus_level, product_level, sum_level, shift_level, comparison_level, equal_level, equality_level, and_level, or_level, range_level, ternary, argument, splat, splat_list, one_value, nested_value, right_side, jump, command_level, block_argument, label_pair, arrow_pair, arguments_from, commanding, arguments, cargs, more_pairs}
use Rattle.ruby_meaning.specs.Grammar.Names.{R, part}
use Rattle.ruby_meaning.specs.Grammar.Primaries.{keyword_value, word_value, integer_value, text, interpolated, word_list, ivar_value, gvar_value, top_constant, name_call, constant_value, parenthesized, array, label_key, hash_value, yield_value, super_value, arrow_value, prim, post}
use Rattle.ruby_meaning.specs.Grammar.Seen.{Seen}
use Rattle.ruby_meaning.specs.Grammar.Statements.{not_expression, expression, alias_statement, undef_statement, star_target, starred_set, several_set, simple, statement, statement_list}
use Rattle.ruby_meaning.specs.Grammar.Table.{table, rule_of}
use Rattle.ruby_meaning.proofs.Grammar.Depths.{depth_seq}
use Rattle.ruby_meaning.proofs.Grammar.TableMeets.{predictive}
use Rattle.ruby_reading.specs.Ahead.{class_code}
use Rattle.ruby_reading.specs.Named.{is_read}
use Rattle.ruby_parser.specs.NoLevel.{opens_value, opens_nothing, opens_of}

equal : (n c : ℕ) → nat_eq n c ≡ true → n ≡ c
equal n c h = grind (arith, nat_tests)

-- what holds of each of these classes
some_opener : (P : ℕ → Type 0) → P (mark_code mark.ParenOpen) → P (marked_code mark.ParenOpen) → P (word_code word.Begin) → (c : ℕ) → opens_value c ≡ true → P c
some_opener P x y z c h = by (nat_eq (mark_code mark.ParenOpen) c) (nat_eq (marked_code mark.ParenOpen) c) (nat_eq (word_code word.Begin) c) refl refl refl h
  where
    by : (a b d : Bool) → nat_eq (mark_code mark.ParenOpen) c ≡ a → nat_eq (marked_code mark.ParenOpen) c ≡ b → nat_eq (word_code word.Begin) c ≡ d → ((a || b) || d) ≡ true → P c
    by true b d e f g h = subst P (equal _ c e) x
    by false true d e f g h = subst P (equal _ c f) y
    by false false true e f g h = subst P (equal _ c g) z
    by false false false e f g h = let no : ⊥ = cc in absurd no

statements_stop : (d r : Bool) (ts : List Seen) → read_named table 0 (part p.Statements d r) ts ≡ Err ts
unfolding table statement_list
statements_stop d r ts = read_named_is table predictive 0 (part p.Statements d r) ts

-- The rule begins with a node, or with a token that opens a value and statements behind it.
abbrev Value : {s : Sort} → R s → Type 0
Value r = Stops table (read_named table) opens_value r
    × (Opens table (read_named table) (mark_code mark.ParenOpen) r × (Opens table (read_named table) (marked_code mark.ParenOpen) r × Opens table (read_named table) (word_code word.Begin) r))

paren_only : (n : ℕ) → opens_value n ≡ false → (nat_eq (mark_code mark.ParenOpen) n || nat_eq (marked_code mark.ParenOpen) n) ≡ false
paren_only n h = by (nat_eq (mark_code mark.ParenOpen) n) (nat_eq (marked_code mark.ParenOpen) n) h
  where
    by : (a b : Bool) → ((a || b) || nat_eq (word_code word.Begin) n) ≡ false → (a || b) ≡ false
    by true b h = let no : ⊥ = cc in absurd no
    by false true h = let no : ⊥ = cc in absurd no
    by false false h = refl

begin_only : (n : ℕ) → opens_value n ≡ false → nat_eq (word_code word.Begin) n ≡ false
begin_only n h = by (nat_eq (mark_code mark.ParenOpen) n || nat_eq (marked_code mark.ParenOpen) n) h
  where
    by : (a : Bool) → (a || nat_eq (word_code word.Begin) n) ≡ false → nat_eq (word_code word.Begin) n ≡ false
    by true h = let no : ⊥ = cc in absurd no
    by false h = h

module _ (d r : Bool) where
  form_stops : Stops table (read_named table) opens_value (keyword_form r)
  unfolding table keyword_form if_value unless_value while_value until_value case_value class_value module_value def_value begin_value body_behind
  form_stops = (tt, (tt, (tt, (refl, (tt, (tt, (tt, (tt, begin_only))))))))

  form_opens : Opens table (read_named table) (word_code word.Begin) (keyword_form r)
  unfolding table keyword_form if_value unless_value while_value until_value case_value class_value module_value def_value begin_value body_behind
  form_opens = inr (inl (refl, statements_stop true r))

  prim_value : Value (prim r d)
  unfolding table prim word_value keyword_value integer_value text interpolated word_list ivar_value gvar_value top_constant name_call constant_value parenthesized array hash_value yield_value super_value arrow_value keyword_form if_value unless_value while_value until_value case_value class_value module_value def_value begin_value body_behind
  prim_value = (
    ((tt, (tt, (tt, (tt, tt)))), (tt, (tt, (tt, (tt, (tt, (tt, (tt, (refl, (tt, (paren_only, (tt, (tt, (tt, (tt, (tt, form_stops)))))))))))))))),
    (inl (refl, statements_stop true r), (inl (refl, statements_stop true r), form_opens)),
  )

  post_value : Value (post r d)
  unfolding table post
  post_value = prim_value

module _ (d r : Bool) where
  not_value : Value (not_level d r)
  unfolding table not_level
  not_value = let h = post_value d r in ((tt, h.0), h.1)

  power_value : Value (power_level d r)
  unfolding table power_level
  power_value = not_value

  minus_value : Value (minus_level d r)
  unfolding table minus_level
  minus_value = ((tt, power_value.0), power_value.1)

  product_value : Value (product_level d r)
  unfolding table product_level
  product_value = minus_value

  sum_value : Value (sum_level d r)
  unfolding table sum_level
  sum_value = product_value

  shift_value : Value (shift_level d r)
  unfolding table shift_level
  shift_value = sum_value

  comparison_value : Value (comparison_level d r)
  unfolding table comparison_level
  comparison_value = shift_value

  equal_value : Value (equal_level d r)
  unfolding table equal_level
  equal_value = comparison_value

  equality_value : Value (equality_level d r)
  unfolding table equality_level
  equality_value = equal_value

  and_value : Value (and_level d r)
  unfolding table and_level
  and_value = equality_value

  or_value : Value (or_level d r)
  unfolding table or_level
  or_value = and_value

  range_value : Value (range_level d r)
  unfolding table range_level
  range_value = or_value

  ternary_value : Value (ternary d r)
  unfolding table ternary
  ternary_value = range_value

  argument_value : Value (argument d r)
  unfolding table argument
  argument_value = ternary_value

  one_value_is : Value (one_value d r)
  unfolding table one_value
  one_value_is = ternary_value

  nested_value_is : Value (nested_value d r)
  unfolding table nested_value splat_list splat
  nested_value_is = ((tt, one_value_is.0), one_value_is.1)

  right_value : Value (right_side d r)
  unfolding table right_side splat_list splat
  right_value = ((tt, one_value_is.0), one_value_is.1)

  command_value : Value (command_level d r)
  unfolding table command_level jump
  command_value = ((tt, ternary_value.0), ternary_value.1)

  not_expression_value : Value (not_expression d r)
  unfolding table not_expression
  not_expression_value = ((tt, command_value.0), command_value.1)

  expression_value : Value (expression d r)
  unfolding table expression
  expression_value = not_expression_value

  first_value : (value : R (marked tree)) (blocks : Bool) → Value value → Value (arguments_from d r value blocks)
  unfolding table arguments_from splat label_pair label_key
  first_value value blocks h = ((tt, (tt, h.0)), h.1)

  arguments_value : (blocks : Bool) → Value (arguments d r blocks)
  unfolding table arguments block_argument
  arguments_value true = let h = first_value (argument d r) true argument_value in ((tt, h.0), h.1)
  arguments_value false = first_value (argument d r) false argument_value

  cargs_value : (blocks : Bool) → Value (cargs d r blocks)
  unfolding table cargs block_argument
  cargs_value true = let h = first_value (commanding d r (argument d r)) true argument_value in ((tt, h.0), h.1)
  cargs_value false = first_value (commanding d r (argument d r)) false argument_value

  pairs_stop : (blocks : Bool) → Stops table (read_named table) opens_nothing (more_pairs d r blocks)
  unfolding table more_pairs label_pair arrow_pair block_argument
  pairs_stop true = (tt, (tt, tt))
  pairs_stop false = (tt, tt)

module _ (r : Bool) where
  simple_value : Value (simple r)
  unfolding table simple alias_statement undef_statement starred_set star_target several_set
  simple_value = let h = expression_value true r in ((tt, (tt, (tt, h.0))), h.1)

  statement_value : Value (statement r)
  unfolding table statement
  statement_value = simple_value

value_read : {s : Sort} (rule : R s) → Value rule → (ts : List Seen) → read_rule table (read_named table) rule 0 ts ≡ Err (behind_open class_code opens_value ts)
unfolding table
value_read rule h ts = stopped table (read_named table) opens_value rule h.0 (some_opener (λ c. Opens table (read_named table) c rule) h.1.0 h.1.1.0 h.1.1.1) ts

else_token : (P : ℕ → Type 0) → P (word_code word.Else) → (c : ℕ) → nat_eq (word_code word.Else) c ≡ true → P c
else_token P x c h = subst P (equal _ c h) x

nothing_stops : nat_le (depth_of nothing) 0 ≡ false
nothing_stops = let e : depth_of nothing ≡ 1 = depth_seq [] _ _ in rw e refl

otherwise_read : (r : Bool) (ts : List Seen) → read_rule table (read_named table) (otherwise r) 0 ts ≡ Err (behind_open class_code (opens_of p.Otherwise) ts)
unfolding table otherwise else_part
otherwise_read r ts = stopped table (read_named table) (opens_of p.Otherwise) (otherwise r) (tt, ((λ n h. h), nothing_stops))
    (else_token (λ c. Opens table (read_named table) c (otherwise r)) (inl (refl, statements_stop true r))) ts

nothing_opens : (P : ℕ → Type 0) (c : ℕ) → opens_nothing c ≡ true → P c
nothing_opens P c h = let no : ⊥ = cc in absurd no

module _ (d r : Bool) (ts : List Seen) where
  pub no_level : (k : Production) → is_read k ≡ true → read_named table 0 (part k d r) ts ≡ Err (behind_open class_code (opens_of k) ts)
  unfolding table otherwise else_part statement_list
  no_level k h = read_named_is table predictive 0 (part k d r) ts ∙ by k h
    where
      same : (ts : List Seen) → ts ≡ behind_open class_code opens_nothing ts
      same [] = refl
      same (t ∷ ts) = refl

      by : (k : Production) → is_read k ≡ true → read_rule table (read_named table) (rule_of k d r) 0 ts ≡ Err (behind_open class_code (opens_of k) ts)
      by p.Statements h = ap Err (same ts)
      by p.Statement h = value_read (value_of (statement r)) (statement_value r) ts
      by p.Expression h = value_read (value_of (expression d r)) (expression_value d r) ts
      by p.NotExpression h = value_read (value_of (not_expression d r)) (not_expression_value d r) ts
      by p.RightSide h = value_read (value_of (right_side d r)) (right_value d r) ts
      by p.NestedValue h = value_read (nested_value d r) (nested_value_is d r) ts
      by p.OneValue h = value_read (one_value d r) (one_value_is d r) ts
      by p.Argument h = value_read (value_of (argument d r)) (argument_value d r) ts
      by p.Ternary h = value_read (value_of (ternary d r)) (ternary_value d r) ts
      by p.RangeOperand h = value_read (value_of (or_level d r)) (or_value d r) ts
      by p.OrOperand h = value_read (value_of (and_level d r)) (and_value d r) ts
      by p.AndOperand h = value_read (value_of (equality_level d r)) (equality_value d r) ts
      by p.EqualityOperand h = value_read (value_of (comparison_level d r)) (comparison_value d r) ts
      by p.ComparisonOperand h = value_read (value_of (shift_level d r)) (shift_value d r) ts
      by p.ShiftOperand h = value_read (value_of (sum_level d r)) (sum_value d r) ts
      by p.SumOperand h = value_read (value_of (product_level d r)) (product_value d r) ts
      by p.ProductOperand h = value_read (value_of (minus_level d r)) (minus_value d r) ts
      by p.PowerOperand h = value_read (value_of (power_level d r)) (power_value d r) ts
      by p.NotOperand h = value_read (value_of (not_level d r)) (not_value d r) ts
      by p.Otherwise h = otherwise_read r ts
      by (p.CommandArguments blocks) h = value_read (cargs d r blocks) (cargs_value d r blocks) ts
      by (p.Arguments blocks) h = value_read (arguments d r blocks) (arguments_value d r blocks) ts
      by (p.MorePairs blocks) h = stopped table (read_named table) opens_nothing (more_pairs d r blocks) (pairs_stop d r blocks) (nothing_opens (λ c. Opens table (read_named table) c (more_pairs d r blocks))) ts
      by (p.MoreTargets starred) h = let no : ⊥ = cc in absurd no
      by (p.Parameters stage brackets) h = let no : ⊥ = cc in absurd no
