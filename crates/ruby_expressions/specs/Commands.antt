-- Commands.
use Rattle.std.specs.Prelude.{ℕ, suc, Bool, true, false, ◌&&◌, is_some, nat_le, List, Option, Some, None, Result}
use Rattle.grammar.specs.Checks.{first}
use Rattle.grammar.specs.FormReaders.{read_one_suffix}
use Rattle.grammar.specs.Readers.{read_named, read_rule}
use Rattle.grammar.specs.Rules.{tree, marked, pair, optional, under, absent, node}
use Rattle.ruby_meaning.specs.declared.tree.Kind.{Kind, out-Kind}
use Rattle.opal_base.specs.declared.place.Pos.{Pos}
use Rattle.ruby_meaning.specs.declared.tree.Kind.TheVariants as kind
use Rattle.ruby_meaning.specs.declared.tree.Node.{Node}
use Rattle.ruby_meaning.specs.Depth.{depth_of}
use Rattle.ruby_meaning.specs.Grammar.Actions as act
use Rattle.ruby_meaning.specs.Grammar.Expressions as g
use Rattle.ruby_meaning.specs.Grammar.Names.{args_sort, R}
use Rattle.ruby_meaning.specs.Grammar.Seen.{Seen}
use Rattle.ruby_meaning.specs.Grammar.Table.{table}
use Rattle.ruby_expressions.specs.declared.command.Command.{Command}
use Rattle.ruby_expressions.specs.declared.command.CommandPart.{CommandPart}
use Rattle.ruby_reading.specs.Shown.{shown_args}

abbrev pub is_call : Kind → Bool
is_call k = is_some (act.callee_in (out-Kind k))

abbrev pub is_empty_yield : Kind → Bool
is_empty_yield k = act.yields_in (out-Kind k)

abbrev pub marked_code : Bool → ℕ
marked_code true = 1
marked_code false = 0

abbrev pub shown_command : Command → act.Args × ℕ
shown_command x = (shown_args x.args, marked_code x.marked)

abbrev pub called_with : Option act.Callee → Kind → List Node × Option Node → Option Pos → Kind
called_with None k passed place = k
called_with (Some (act.method_called receiver name)) k passed place = kind.Call receiver name passed.0 passed.1 place
called_with (Some act.super_called) k passed place = kind.Super (Some passed.0) passed.1

-- the call or `super` of arguments and a block
abbrev pub command_kind : Kind → List Node × Option Node → Option Pos → Kind
command_kind k passed place = called_with (act.callee_in (out-Kind k)) k passed place

abbrev pub command_value : Node × ℕ → act.Args × ℕ → Option Node → Node × ℕ
command_value callee x block = act.command_node callee (record { value = (x, block) })

abbrev pub yield_value : Node × ℕ → act.Args × ℕ → Node × ℕ
yield_value callee x = act.yield_command callee (record { value = x })

abbrev pub shown_part : CommandPart → (act.Args × ℕ) × Option Node
shown_part x = (shown_command x.command, x.block)

-- a `do` block behind arguments, where one may be taken
abbrev pub do_beside : Bool → Bool → Bool → R (optional tree)
do_beside true r passes = g.do_beside r passes
do_beside false r passes = absent None

-- what stands behind a callee, and behind `yield`, under the node that it makes
abbrev pub command_under : Bool → Bool → R (under (pair (marked args_sort) (optional tree)))
command_under d r = node {s = pair (marked args_sort) (optional tree)} {r = under (pair (marked args_sort) (optional tree))} (λ x. record { value = x }) (g.command_part d r)

abbrev pub yield_under : Bool → Bool → R (under (marked args_sort))
yield_under d r = node {s = marked args_sort} {r = under (marked args_sort)} (λ x. record { value = x }) (g.command_arguments d r false)

-- a value, and the arguments of a command with b levels below the node that it makes
abbrev pub command_behind : Bool → Bool → ℕ → Node × ℕ → List Seen → Result ((Node × ℕ) × List Seen) (List Seen)
command_behind d r b l ts =
    read_one_suffix (λ t. first table (command_under d r) (table.code t)) (λ l. is_some (act.callee l) && nat_le (depth_of l.0) (suc b)) act.command_node
    (read_rule table (read_named table) (command_under d r) (suc b)) l ts

abbrev pub yield_behind : Bool → Bool → ℕ → Node × ℕ → List Seen → Result ((Node × ℕ) × List Seen) (List Seen)
yield_behind d r b l ts =
    read_one_suffix (λ t. first table (yield_under d r) (table.code t)) (λ l. act.yields l && nat_le (depth_of l.0) (suc b)) act.yield_command
    (read_rule table (read_named table) (yield_under d r) (suc b)) l ts

-- the call of a method, which may have a receiver, with arguments and a block
abbrev pub call_of : Option Node → List ℕ → List Node × Option Node → Option Pos → Kind
call_of receiver name passed place = kind.Call receiver name passed.0 passed.1 place

abbrev pub super_of : List Node × Option Node → Kind
super_of passed = kind.Super (Some passed.0) passed.1
