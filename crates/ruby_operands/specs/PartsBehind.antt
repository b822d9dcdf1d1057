-- Parts behind a value.
use Rattle.std.specs.Prelude.{ℕ, Bool, ◌||◌, List, Result, nat_le}
use Rattle.grammar.specs.Checks.{first}
use Rattle.grammar.specs.FormReaders.{read_more_suffixes}
use Rattle.grammar.specs.Readers.{read_named, read_rule}
use Rattle.grammar.specs.Rules.{leaf, token, choice}
use Rattle.opal_base.specs.declared.place.Span.{Span}
use Rattle.ruby_meaning.specs.declared.token.Mark.TheVariants as mark
use Rattle.ruby_meaning.specs.declared.tree.Base.TheVariants as base
use Rattle.ruby_meaning.specs.declared.tree.Kind.TheVariants as kind
use Rattle.ruby_meaning.specs.declared.tree.Node.{Node}
use Rattle.ruby_meaning.specs.Depth.{depth_of}
use Rattle.ruby_meaning.specs.Grammar.Actions as act
use Rattle.ruby_meaning.specs.Grammar.Classes.{op}
use Rattle.ruby_meaning.specs.Grammar.Names.{R}
use Rattle.ruby_meaning.specs.Grammar.Primaries as g
use Rattle.ruby_meaning.specs.Grammar.Seen.{Seen}
use Rattle.ruby_meaning.specs.Grammar.Table.{table}
use Rattle.ruby_operands.specs.declared.suffixes.Form.{Form}
use Rattle.ruby_operands.specs.declared.suffixes.Form.TheVariants as form
use Rattle.ruby_operands.specs.declared.suffixes.Selected.{Selected}
use Rattle.ruby_reading.specs.Ahead.{see, class_code}
use Rattle.ruby_primaries.specs.CallParts.{shown_tail}

abbrev pub form_code : Form → ℕ
form_code form.Constant = act.constant_part
form_code form.Index = act.index_part
form_code form.Call = act.call_part
form_code form.Bracket = act.bracket_part

abbrev pub shown_selected : Selected → (Seen × act.Tail) × ℕ
shown_selected x = ((see x.token, shown_tail x.tail), form_code x.form)

abbrev pub begins_part : Seen → Bool
begins_part t = op mark.Dot (class_code t) || (op mark.ColonColon (class_code t) || op mark.BracketOpen (class_code t))

abbrev pub begins_method : Seen → Bool
begins_method t = g.methods (class_code t)

abbrev pub method_token : R leaf
method_token = token g.methods

abbrev pub selected : Seen → ℕ
selected t = act.selected t.token.kind

abbrev pub constant_in : Node → Seen → Span → Node
constant_in l t s = act.make (kind.ConstGet (base.In l) (act.units t)) s (act.start t)

abbrev pub part_rule : (r d : Bool) → R (g.part_sort r)
part_rule r d = choice (g.dot_part r d) (choice (g.scope_part r d) (g.bracket r))

-- such parts behind a value
abbrev pub parts_from : Bool → Bool → ℕ → ℕ → Node × ℕ → List Seen → Result ((Node × ℕ) × List Seen) (List Seen)
parts_from r d b n l ts =
    read_more_suffixes (λ t. first table (part_rule r d) (table.code t)) (λ l. nat_le (depth_of l.0) b) act.with_part (read_rule table (read_named table) (part_rule r d) b) n l ts
