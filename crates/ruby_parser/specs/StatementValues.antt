-- Statements: the nodes that they make, and lists of them.
use Rattle.std.specs.Prelude.{ℕ, zero, suc, Bool, false, ◌||◌, if◌then◌else◌, List, [], ◌∷◌, ◌++◌, map, Option, Some, None, Result, Ok, nat_eq, nat_le}
use Rattle.grammar.specs.Checks.{first}
use Rattle.grammar.specs.CommonRules.{behind, separated}
use Rattle.grammar.specs.FormReaders.{and_then, next_in, read_more_suffixes}
use Rattle.grammar.specs.Readers.{read_named, read_rule}
use Rattle.grammar.specs.Rules.{leaf, tree, marked, pair, list, optional, token, sequence, view, node, needs, named}
use Rattle.ruby_meaning.specs.declared.production.Production.TheVariants as p
use Rattle.ruby_meaning.specs.declared.token.Mark.TheVariants as mark
use Rattle.ruby_meaning.specs.declared.token.Word.{Word}
use Rattle.ruby_meaning.specs.declared.token.Word.TheVariants as word
use Rattle.ruby_meaning.specs.declared.tree.Kind.{Kind}
use Rattle.ruby_meaning.specs.declared.tree.Kind.TheVariants as kind
use Rattle.ruby_meaning.specs.declared.tree.Node.{Node}
use Rattle.ruby_meaning.specs.Depth.{depth_of}
use Rattle.ruby_meaning.specs.Grammar.Actions as act
use Rattle.ruby_meaning.specs.Grammar.Classes.{op, key}
use Rattle.ruby_meaning.specs.Grammar.Definitions.{separators, method_name}
use Rattle.ruby_meaning.specs.Grammar.Names.{R, part}
use Rattle.ruby_meaning.specs.Grammar.Seen.{Seen}
use Rattle.ruby_meaning.specs.Grammar.Statements as s
use Rattle.ruby_meaning.specs.Grammar.Table.{table}
use Rattle.ruby_forms.specs.declared.methods.MethodName.{MethodName}
use Rattle.ruby_parser.specs.declared.statements.Behind.{Behind}
use Rattle.ruby_parser.specs.declared.statements.Behind.TheVariants as by
use Rattle.ruby_parser.specs.declared.statements.Modifier.{Modifier}
use Rattle.ruby_reading.specs.Ahead.{class_code, see}
use Rattle.ruby_forms.specs.Definitions.{shown_method}
use Rattle.ruby_reading.specs.Named.{many_from}

-- ---- alias and undef

abbrev pub shown_methods : List MethodName → List (Seen × Option Seen)
shown_methods methods = map shown_method methods

abbrev pub alias_value : Seen → Seen × Option Seen → Seen × Option Seen → Node × ℕ
alias_value t name old = (act.make (kind.Alias (act.full_name name) (act.full_name old)) (act.to_end (act.span_of t) (act.name_span old)) (act.start name.0), act.other)

abbrev pub undef_value : Seen → List (Seen × Option Seen) → Node × ℕ
undef_value t names = (act.make (kind.Undef (act.full_names names)) (act.to_end (act.span_of t) (act.names_span (act.span_of t) names)) (act.start t), act.other)

abbrev pub next_method : R (pair leaf (optional leaf))
next_method = behind (op mark.Comma) method_name

abbrev pub methods : R (list (pair leaf (optional leaf)))
methods = separated method_name (op mark.Comma)

abbrev pub methods_from : ℕ → ℕ → List (Seen × Option Seen) → List Seen → Result (List (Seen × Option Seen) × List Seen) (List Seen)
methods_from b n found ts = many_from {s = pair leaf (optional leaf)} next_method b n found ts

-- ---- what stands behind a statement

abbrev pub if_kind : Node → Node → Node → Kind
if_kind cond first second = kind.If cond first second

abbrev pub while_kind : Node → Node → Bool → Kind
while_kind cond body body_first = kind.While cond body body_first

abbrev pub looped : Node → Node × ℕ → Kind
looped cond l = kind.While cond l.0 (nat_eq l.1 act.begun)

abbrev pub begins_modifier : Seen → Bool
begins_modifier t = key word.If (class_code t) || (key word.Unless (class_code t) || (key word.While (class_code t) || key word.Until (class_code t)))

abbrev pub behind_code : Behind → ℕ
behind_code by.If = act.if_behind
behind_code by.Unless = act.unless_behind
behind_code by.While = act.while_behind
behind_code by.Until = act.until_behind

abbrev pub shown_modifier : Modifier → (Seen × Node) × ℕ
shown_modifier m = ((see m.sign, m.cond), behind_code m.behind)

abbrev pub condition : Word → Bool → ℕ → Bool → R (marked (pair leaf tree))
condition w d n r = view {s = pair leaf tree} (λ x. (x, n)) (sequence (token (key w)) (named (part p.Expression d r)))

abbrev pub until_modifier : Bool → R (marked (pair leaf tree))
until_modifier r = view {s = pair leaf tree} (λ x. (x, act.until_behind)) (needs 1 (node {s = pair leaf tree} act.until_condition (sequence (token (key word.Until)) (named (part p.Expression false r)))))

abbrev pub modifiers_from : Bool → ℕ → ℕ → Node × ℕ → List Seen → Result ((Node × ℕ) × List Seen) (List Seen)
modifiers_from r b n l ts = read_more_suffixes (λ t. first table (s.modifier r) (table.code t)) (λ l. nat_le (depth_of l.0) b) act.modified (read_rule table (read_named table) (s.modifier r) b) n l ts

-- ---- lines

abbrev pub with_line : List Node → Option Node → List Node
with_line found None = found
with_line found (Some n) = found ++ n ∷ []

abbrev pub next_line : Bool → R (optional tree)
next_line r = behind separators (s.line r)

-- as `read_many`, with the statements of lines put behind those found so far
unfoldable pub read_lines_from : (Seen → Bool) → (List Seen → Result (Option Node × List Seen) (List Seen)) → ℕ → List Node → List Seen → Result (List Node × List Seen) (List Seen)
read_lines_from first p zero found ts = Ok (found, ts)
read_lines_from first p (suc n) found ts = if next_in first ts then and_then (p ts) (λ o rest. read_lines_from first p n (with_line found o) rest) else Ok (found, ts)

abbrev pub lines_from : Bool → ℕ → ℕ → List Node → List Seen → Result (List Node × List Seen) (List Seen)
lines_from r b n found ts = read_lines_from (λ t. first table (next_line r) (table.code t)) (read_rule table (read_named table) (next_line r) b) n found ts
