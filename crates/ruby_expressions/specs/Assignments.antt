-- Assignments: what stands behind a value that can be set.
use Rattle.std.specs.Prelude.{ℕ, suc, Bool, is_some, nat_eq, ◌&&◌, ◌||◌, if◌then◌else◌, List, Option, Some, None, Result, nat_le}
use Rattle.grammar.specs.FormReaders.{read_one_suffix}
use Rattle.grammar.specs.Checks.{first}
use Rattle.grammar.specs.Readers.{read_named, read_rule}
use Rattle.grammar.specs.Rules.{leaf, tree, marked, pair, under, suffix, named}
use Rattle.ruby_meaning.specs.declared.production.Production.TheVariants as p
use Rattle.ruby_meaning.specs.declared.tree.Kind.{Kind, out-Kind}
use Rattle.ruby_meaning.specs.declared.tree.Kind.TheVariants as kind
use Rattle.ruby_meaning.specs.declared.tree.Node.{Node}
use Rattle.ruby_meaning.specs.declared.tree.Operator.{Operator}
use Rattle.ruby_meaning.specs.Depth.{depth_of}
use Rattle.ruby_meaning.specs.Grammar.Actions as act
use Rattle.ruby_meaning.specs.Grammar.Expressions as g
use Rattle.ruby_meaning.specs.Grammar.Names.{R, part}
use Rattle.ruby_meaning.specs.Grammar.Seen.{Seen}
use Rattle.ruby_meaning.specs.Grammar.Table.{table}
use Rattle.ruby_expressions.specs.declared.assignment.Right.{Right}
use Rattle.ruby_expressions.specs.declared.assignment.Right.TheVariants as right

-- what may stand on the right
abbrev pub right_rule : Right → Bool → Bool → R (marked tree)
right_rule right.Argument d r = g.plain (named (part p.Argument d r))
right_rule right.Nested d r = named (part p.NestedValue d r)
right_rule right.One d r = named (part p.OneValue d r)
right_rule right.Side d r = g.plain (named (part p.RightSide d r))

abbrev pub read_right : Right → Bool → Bool → ℕ → List Seen → Result ((Node × ℕ) × List Seen) (List Seen)
read_right x d r b ts = read_rule table (read_named table) (right_rule x d r) b ts

-- a value, and what sets it with b levels below the node that it makes
abbrev pub set_behind : Right → Bool → Bool → ℕ → Node × ℕ → List Seen → Result ((Node × ℕ) × List Seen) (List Seen)
set_behind x d r b l ts =
    read_one_suffix (λ t. first table (g.set_part d r (right_rule x d r)) (table.code t)) (λ l. act.is_place l && nat_le (depth_of l.0) (suc b)) act.assigned
    (read_rule table (read_named table) (g.set_part d r (right_rule x d r)) (suc b)) l ts

-- a value, and an operator that is called behind it, with c levels two below
abbrev pub operator_behind : Right → Bool → Bool → ℕ → Node × ℕ → List Seen → Result ((Node × ℕ) × List Seen) (List Seen)
operator_behind x d r c l ts =
    read_one_suffix (λ t. first table (g.call_part d r (right_rule x d r)) (table.code t)) (λ l. act.sets_variable l && nat_le (depth_of l.0) c) act.operator_updated
    (read_rule table (read_named table) (g.call_part d r (right_rule x d r)) c) l ts

-- the assignments within those of other operators
abbrev pub set_rule : Right → Bool → Bool → R (marked tree)
set_rule x d r = suffix {r = under (marked tree)} 0 (g.ternary d r) act.is_place (g.set_part d r (right_rule x d r)) act.assigned

abbrev pub operator_rule : Right → Right → Bool → Bool → R (marked tree)
operator_rule x y d r = suffix {r = pair leaf (marked tree)} 2 (set_rule x d r) act.sets_variable (g.call_part d r (right_rule y d r)) act.operator_updated

abbrev pub variable_behind : Right → Bool → Bool → ℕ → Node × ℕ → List Seen → Result ((Node × ℕ) × List Seen) (List Seen)
variable_behind x d r b l ts =
    read_one_suffix (λ t. first table (g.two_nodes d r (right_rule x d r)) (table.code t)) (λ l. act.sets_variable l && nat_le (depth_of l.0) (suc b)) act.variable_updated
    (read_rule table (read_named table) (g.two_nodes d r (right_rule x d r)) (suc b)) l ts

abbrev pub attribute_behind : Right → Bool → Bool → ℕ → Node × ℕ → List Seen → Result ((Node × ℕ) × List Seen) (List Seen)
attribute_behind x d r b l ts =
    read_one_suffix (λ t. first table (g.update_part d r (right_rule x d r)) (table.code t)) (λ l. act.sets_attribute l && nat_le (depth_of l.0) (suc b)) act.attribute_updated
    (read_rule table (read_named table) (g.update_part d r (right_rule x d r)) (suc b)) l ts

abbrev pub can_be_set : Kind → Bool
can_be_set k = is_some (act.place_in (out-Kind k))

abbrev pub is_variable_kind : Kind → Bool
is_variable_kind k = act.takes act.is_variable (act.place_in (out-Kind k))

abbrev pub is_attribute_kind : Kind → Bool
is_attribute_kind k = act.takes act.is_attribute (act.place_in (out-Kind k))

-- how what can be set is written
abbrev pub may_be_set : ℕ → Bool
may_be_set n = nat_eq n act.variable || (nat_eq n act.attribute || nat_eq n act.indexed)

abbrev pub set_at : Option act.Place → Kind → Node → Kind
set_at None k value = k
set_at (Some place) k value = act.set_kind place value

abbrev pub set_kind : Kind → Node → Kind
set_kind k value = set_at (act.place_in (out-Kind k)) k value

abbrev pub operator : Seen → Operator
operator t = act.operator_of_kind t.token.kind

abbrev pub place_of : Kind → Option act.Place
place_of k = act.place_in (out-Kind k)

-- what can be set, as a target: a name is a local there
abbrev pub target_at : Option act.Place → Kind → Kind
target_at (Some (act.local name)) k = kind.LocalGet name
target_at _ k = k

abbrev pub target_kind : Kind → Kind
target_kind k = target_at (place_of k) k

abbrev pub as_target : Node → Node
as_target target = act.make (target_kind target.kind) target.span target.mark

abbrev pub short_kind : Bool → Node → Node → Kind
short_kind or target set = if or then kind.Or target set else kind.And target set

abbrev pub short_circuited : Node → Seen → Node × ℕ → Bool → Node × ℕ
short_circuited target sign value or =
    (act.make (short_kind or (as_target target) (act.make (set_kind target.kind value.0) (act.nodes target value.0) target.mark)) (act.nodes target value.0) (act.start sign), act.ended value.1)

abbrev pub combined : Node → Seen → Node × ℕ → Operator → Node × ℕ
combined target sign value op =
    (act.make (set_kind target.kind (act.combined op sign target value.0)) (act.nodes target value.0) target.mark, act.ended value.1)

abbrev pub variable_updated : Node × ℕ → Seen → Node × ℕ → Node × ℕ
variable_updated target sign value = act.variable_updated target (record { value = record { value = (sign, value) } })

abbrev pub attribute_updated : Node × ℕ → Seen → Node × ℕ → Node × ℕ
attribute_updated target sign value = act.attribute_updated target (record { value = (sign, value) })

abbrev pub attribute_at : Option act.Place → Kind → Operator → Node → Kind
attribute_at (Some (act.attribute_of receiver name args)) k op value = kind.AttrOpSet receiver name args op value
attribute_at _ k op value = k

abbrev pub attribute_kind : Kind → Operator → Node → Kind
attribute_kind k op value = attribute_at (place_of k) k op value
