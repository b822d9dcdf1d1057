-- Names, constants and lambdas, with what stands behind them.
use Rattle.std.specs.Prelude.{ℕ, Bool, ◌||◌, ◌&&◌, if◌then◌else◌, codes, List, [], Option, Some, None, true, false}
use Rattle.grammar.specs.CommonRules.{behind, maybe}
use Rattle.grammar.specs.Rules.{leaf, tree, marked, pair, optional, sequence, choice, absent, token, view, named}
use Rattle.opal_base.specs.declared.place.Span.{Span}
use Rattle.ruby_meaning.specs.declared.production.Production.TheVariants as p
use Rattle.ruby_meaning.specs.declared.production.Sign.TheVariants as sign
use Rattle.ruby_meaning.specs.declared.token.Mark.TheVariants as mark
use Rattle.ruby_meaning.specs.declared.token.Word.TheVariants as word
use Rattle.ruby_meaning.specs.declared.tree.Kind.{Kind}
use Rattle.ruby_meaning.specs.declared.tree.Kind.TheVariants as kind
use Rattle.ruby_meaning.specs.declared.tree.Literal.TheVariants as literal
use Rattle.ruby_meaning.specs.declared.tree.Node.{Node}
use Rattle.ruby_meaning.specs.declared.tree.Params.{Params}
use Rattle.ruby_meaning.specs.Grammar.Actions as act
use Rattle.ruby_meaning.specs.Grammar.Calls.{paren, paren_tail, tail_sort}
use Rattle.ruby_meaning.specs.Grammar.Classes.{a, op, key}
use Rattle.ruby_meaning.specs.Grammar.Definitions.{keyword_form}
use Rattle.ruby_meaning.specs.Grammar.Names.{args_sort, R, part}
use Rattle.ruby_meaning.specs.Grammar.Parameters.{behind_newlines}
use Rattle.ruby_meaning.specs.Grammar.Primaries as g
use Rattle.ruby_meaning.specs.Grammar.Seen.{Seen}
use Rattle.ruby_operands.specs.declared.values.Bodied.{Bodied}
use Rattle.ruby_reading.specs.Ahead.{see, class_code}
use Rattle.ruby_reading.specs.Shown.{shown_body}

abbrev pub end_of_tail : Span → act.Tail → Span
end_of_tail s t = act.end_of s t.0 t.1

-- the arguments of a call, and its block or block pass
abbrev pub passed : act.Tail → List Node × Option Node
passed t = (act.argument_list t.0 t.1, act.or_else t.1 (act.block_pass t.0))

abbrev pub called_node : Seen → act.Tail → Node × ℕ
called_node t tail = (act.call_node None (act.units t) tail (act.to_end (act.span_of t) (end_of_tail (act.span_of t) tail)) (act.start t), act.other)

abbrev pub bare_kind : Bool → List ℕ → Kind
bare_kind in_rescue u =
    if act.is_name (codes "block_given?") u then kind.Lit literal.BlockGiven
    else (if in_rescue && act.is_name (codes "raise") u then kind.Reraise
    else kind.Call None u [] None None)

abbrev pub name_alone : Bool → Seen → Node × ℕ
name_alone in_rescue t = act.named_node in_rescue t (None, None)

abbrev pub name_closed : Bool → Seen → Seen → Node × ℕ
name_closed in_rescue t z = act.named_node in_rescue t (Some (act.no_args, z), None)

abbrev pub lambda_of : Params → Node × ℕ → Span → Node
lambda_of params body s = act.make (kind.Lambda params (act.filled s body)) s s.from

abbrev pub shown_bodied : Bodied → (Node × ℕ) × Seen
shown_bodied x = (shown_body x.body, see x.closing)

abbrev pub some_closed : Bool → R (pair args_sort leaf)
some_closed r = sequence (named (part (p.CommandArguments true) true r)) (behind_newlines (token (op mark.ParenClose)))

abbrev pub constant_tail : Bool → Bool → R tail_sort
constant_tail r d = choice (paren_tail r d) (absent (None, None))

abbrev pub yield_paren : Bool → R (optional (pair args_sort leaf))
yield_paren r = maybe (paren r false)

abbrev pub text_value : R (marked tree)
text_value = view {s = tree} (λ n. (n, act.other)) g.text

abbrev pub last_prim : Bool → Bool → R (marked tree)
last_prim r d = choice (g.hash_value r) (choice (g.yield_value r) (choice (g.super_value r d) (choice (g.arrow_value r d) (keyword_form r))))

abbrev pub more_prim : Bool → Bool → R (marked tree)
more_prim r d = choice g.gvar_value (choice g.top_constant (choice (g.name_call r d) (choice (g.constant_value r d) (choice (g.parenthesized r) (choice (g.array r) (last_prim r d))))))

abbrev pub begins_word : Seen → Bool
begins_word t = key word.Nil (class_code t) || (key word.True (class_code t) || (key word.False (class_code t) || (key word.Self_ (class_code t) || key word.Retry (class_code t))))

-- a block behind empty brackets, or none
abbrev pub behind_empty : Bool → Bool → Seen → Seen → R (marked tree)
behind_empty r d t z = choice (g.lambda_block r d t) (absent (name_closed r t z))

abbrev pub lambda_brackets : Bool → Bool → Seen → R (marked tree)
lambda_brackets r d t = choice (g.empty_brackets r d t) (g.full_brackets r d t)

abbrev pub behind_lambda : Bool → Bool → Seen → R (marked tree)
behind_lambda r d t = choice (behind (a sign.CallOpen) (lambda_brackets r d t)) (absent (name_alone r t))
