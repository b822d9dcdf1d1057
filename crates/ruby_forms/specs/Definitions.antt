-- Forms that begin with a keyword and end with "end": their parts and the nodes that they make.
use Rattle.std.specs.Prelude.{ℕ, Bool, true, false, List, [], ◌∷◌, Option, Some, None, length, Result, Ok, Err, ◌≡◌}
use Rattle.grammar.specs.Checks.{first}
use Rattle.grammar.specs.CommonRules.{behind, maybe, separated}
use Rattle.grammar.specs.FormReaders.{read_node, read_many}
use Rattle.grammar.specs.Readers.{read_named, read_rule}
use Rattle.grammar.specs.Rules.{Sort, leaf, tree, marked, pair, list, optional, named, sequence, token, token_where, choice, absent, view, many}
use Rattle.ruby_meaning.specs.declared.production.Production.TheVariants as p
use Rattle.ruby_meaning.specs.declared.token.Mark.TheVariants as mark
use Rattle.ruby_meaning.specs.declared.token.Word.TheVariants as word
use Rattle.ruby_meaning.specs.declared.tree.Kind.{Kind, out-Kind}
use Rattle.ruby_meaning.specs.declared.tree.Kind.TheVariants as kind
use Rattle.ruby_meaning.specs.declared.tree.Node.{Node}
use Rattle.ruby_meaning.specs.declared.tree.ModuleForm.{ModuleForm}
use Rattle.ruby_meaning.specs.declared.production.Sign.TheVariants as sign
use Rattle.ruby_meaning.specs.Grammar.Actions as act
use Rattle.ruby_meaning.specs.Grammar.Actions.{make, start, span_of, tokens, to_end, other, filled, last_of, elsif_span, replaced}
use Rattle.ruby_meaning.specs.Grammar.Classes.{a, op, key}
use Rattle.ruby_meaning.specs.Grammar.Definitions as g
use Rattle.ruby_meaning.specs.Grammar.Names.{R, part}
use Rattle.ruby_meaning.specs.Grammar.Seen.{Seen}
use Rattle.ruby_meaning.specs.Grammar.Table.{table}
use Rattle.ruby_forms.specs.declared.bodies.KeywordPart.{KeywordPart}
use Rattle.ruby_forms.specs.declared.bodies.Handlers.{Handlers}
use Rattle.ruby_forms.specs.declared.modules.ClassHead.{ClassHead}
use Rattle.ruby_forms.specs.declared.methods.MethodName.{MethodName}
use Rattle.ruby_forms.specs.declared.methods.DefName.{DefName}
use Rattle.ruby_forms.specs.declared.methods.DefRest.{DefRest}
use Rattle.ruby_meaning.specs.declared.tree.Params.{Params}
use Rattle.ruby_reading.specs.declared.value.Body.{Body}
use Rattle.descent.specs.declared.fail.Fail.{Fail}
use Rattle.ruby_parameters.specs.Parameters.{see_if}
use Rattle.descent.specs.declared.fail.Fail.TheVariants.{NoMemory, Refused}
use Rattle.ruby_reading.specs.Named.{many_from}
use Rattle.ruby_forms.specs.declared.conditionals.Branch.{Branch}
use Rattle.ruby_forms.specs.declared.clauses.Ended.{Ended}
use Rattle.ruby_forms.specs.declared.clauses.Guarded.{Guarded}
use Rattle.ruby_reading.specs.Ahead.{see}
use Rattle.ruby_reading.specs.Shown.{shown_body}

abbrev pub shown_branch : Branch → Node × (Seen × (Node × ℕ))
shown_branch b = (b.cond, (see b.then, shown_body b.body))

abbrev pub shown_guarded : Guarded → Seen × (Node × ℕ)
shown_guarded b = (see b.then, shown_body b.body)

abbrev pub shown_ended : Ended → (Node × ℕ) × Seen
shown_ended b = (shown_body b.body, see b.end)

abbrev pub shown_part : KeywordPart → Seen × (Node × ℕ)
shown_part x = (see x.word, shown_body x.body)

abbrev pub shown_part_if : Option KeywordPart → Option (Seen × (Node × ℕ))
shown_part_if None = None
shown_part_if (Some x) = Some (shown_part x)

abbrev pub shown_handlers : Handlers → act.Handlers
shown_handlers h = (h.clauses, (shown_part_if h.otherwise, shown_part_if h.ensure))

-- behind that token
abbrev pub shown_behind : Seen → Body → Seen × (Node × ℕ)
shown_behind t b = (t, shown_body b)

abbrev pub shown_class_head : ClassHead → Option Seen × Option Node
shown_class_head h = (see_if h.name, h.node)

abbrev pub if_node : Seen → Node → Node × ℕ → Node × ℕ → Seen → Node × ℕ
if_node sign cond first second end = (make (kind.If cond (filled (tokens sign end) first) (filled (tokens sign end) second)) (tokens sign end) (start sign), other)

abbrev pub elsif_node : Seen → Node × (Seen × (Node × ℕ)) → Node × ℕ → Node × ℕ
elsif_node sign branch last = (make (kind.If (branch.0) (filled (elsif_span sign branch last) (branch.1.1)) (filled (elsif_span sign branch last) last)) (elsif_span sign branch last) (start sign), 0)

abbrev pub while_node : Seen → Node → (Node × ℕ) × Seen → Node × ℕ
while_node sign cond x = (make (kind.While cond (filled (tokens sign x.1) x.0) false) (tokens sign x.1) (start sign), other)

abbrev pub not_node : Node → Node
not_node n = make (kind.Not n) n.span n.mark

abbrev pub until_node : Seen → Node → (Node × ℕ) × Seen → Node × ℕ
until_node sign cond x = while_node sign (replaced (tokens sign x.1) (start sign) cond) x

abbrev pub when_node : Seen → List Node → Seen × (Node × ℕ) → Node
when_node sign tests x = make (kind.When tests (filled (to_end (span_of sign) (last_of (x.0) (x.1))) (x.1))) (to_end (span_of sign) (last_of (x.0) (x.1))) (start sign)

abbrev pub case_node : Seen → Option Node → List Node → (Node × ℕ) × Seen → Node × ℕ
case_node sign subject whens x = (make (kind.Case subject whens (filled (tokens sign x.1) x.0)) (tokens sign x.1) (start sign), other)

abbrev pub rescue_node : Seen → List Node → Option Seen → Seen × (Node × ℕ) → Node
rescue_node t classes name x = make (kind.Rescue classes (act.name_if name) (filled (to_end (span_of t) (last_of (x.0) (x.1))) (x.1))) (to_end (span_of t) (last_of (x.0) (x.1))) (act.rescue_place t name)

-- statements with clauses
abbrev pub begin_body : Node × ℕ → act.Handlers → Node × ℕ
begin_body x h = (act.begin_node (act.body_span x h) x h, 0)

abbrev pub form_name : Option Seen → List ℕ
form_name None = []
form_name (Some t) = act.units t

abbrev pub module_node : Seen → ModuleForm → Option Seen → (Node × ℕ) × Seen → Node × ℕ
module_node t form name x = (make (kind.ModuleDef form (form_name name) (filled (tokens t x.1) x.0)) (tokens t x.1) (act.rescue_place t name), other)

-- ---- parts of rules

abbrev pub exception_name : R (optional leaf)
exception_name = maybe (behind (op mark.FatArrow) (token_where (a sign.Name) act.is_variable_name))

abbrev pub rescues_from : Bool → ℕ → ℕ → List Node → List Seen → Result (List Node × List Seen) (List Seen)
rescues_from r b n found ts = many_from {s = tree} (g.rescue_clause r) b n found ts

abbrev pub read_rescues : Bool → ℕ → List Seen → Result (List Node × List Seen) (List Seen)
read_rescues r b ts = read_many (λ t. first table (g.rescue_clause r) (table.code t)) (read_rule table (read_named table) (g.rescue_clause r) b) (length ts) ts

abbrev pub part_sort : Sort
part_sort = pair leaf (marked tree)

abbrev pub handlers_sort : Sort
handlers_sort = pair (list tree) (pair (optional part_sort) (optional part_sort))

abbrev pub maybe_else : Bool → R (optional part_sort)
maybe_else r = maybe {s = part_sort} (g.body_else r)

abbrev pub maybe_ensure : Bool → R (optional part_sort)
maybe_ensure r = maybe {s = part_sort} (g.body_ensure r)

abbrev pub rescue_handlers : Bool → R handlers_sort
rescue_handlers r = view {s = pair (pair tree (list tree)) (pair (optional part_sort) (optional part_sort))} (λ x. (x.0.0 ∷ x.0.1, x.1)) (sequence (sequence (g.rescue_clause r) (many (g.rescue_clause r))) (sequence (maybe_else r) (maybe_ensure r)))

abbrev pub else_handlers : Bool → R handlers_sort
else_handlers r = view {s = pair part_sort (optional part_sort)} (λ x. ([], (Some x.0, x.1))) (sequence (g.body_else r) (maybe_ensure r))

abbrev pub ensure_handlers : Bool → R handlers_sort
ensure_handlers r = view {s = part_sort} (λ x. ([], (None, Some x))) (g.body_ensure r)

abbrev pub superclass : Bool → R (optional tree)
superclass r = maybe (behind (op mark.Less) (named (part p.Expression true r)))

abbrev pub read_not : Bool → ℕ → List Seen → Result (Node × List Seen) (List Seen)
read_not r b ts = read_node not_node (λ c. λ rest. read_named table c (part p.Expression false r) rest) b ts

abbrev pub next_argument : Bool → R tree
next_argument r = behind (op mark.Comma) (named (part p.Argument true r))

abbrev pub some_arguments : Bool → R (list tree)
some_arguments r = separated (named (part p.Argument true r)) (op mark.Comma)

abbrev pub rescued : Bool → R (list tree)
rescued r = choice (some_arguments r) (absent [])

abbrev pub arguments_from : Bool → ℕ → ℕ → List Node → List Seen → Result (List Node × List Seen) (List Seen)
arguments_from r b n found ts = many_from {s = tree} (next_argument r) b n found ts

abbrev pub guarded : Bool → R (pair leaf (marked tree))
guarded r = sequence g.then_sign (named (part p.Statements true r))

abbrev pub subject : Bool → R (optional tree)
subject r = maybe (named (part p.Expression true r))

abbrev pub else_end : Bool → R (pair (marked tree) leaf)
else_end r = sequence (g.else_part r) (token (key word.End))

abbrev pub whens_from : Bool → ℕ → ℕ → List Node → List Seen → Result (List Node × List Seen) (List Seen)
whens_from r b n found ts = many_from {s = tree} (g.when_clause r) b n found ts

abbrev pub read_whens : Bool → ℕ → List Seen → Result (List Node × List Seen) (List Seen)
read_whens r b ts = read_many (λ t. first table (g.when_clause r) (table.code t)) (read_rule table (read_named table) (g.when_clause r) b) (length ts) ts

-- The nodes are the first and those that are read.
abbrev pub GivesMore : Node → Result (List Node × List Seen) (List Seen) → Result (List Node) Fail → List Seen → Type 0
GivesMore n outcome (Ok nodes) rest = (more : List Node) × (outcome ≡ Ok (more, rest)) × (nodes ≡ n ∷ more)
GivesMore n outcome (Err NoMemory) rest = Unit {0}
GivesMore n outcome (Err Refused) rest = outcome ≡ Err rest

-- ---- methods

abbrev pub shown_method : MethodName → Seen × Option Seen
shown_method m = (see m.name, see_if m.sign)

abbrev pub shown_def_name : DefName → act.DefName
shown_def_name x = (x.receiver, shown_method x.method)

-- the body behind a token, and the "end"
abbrev pub shown_def_end : DefRest → (Seen × (Node × ℕ)) × Seen
shown_def_end x = ((see x.opening, shown_body x.body), see x.end)

abbrev pub GivesDefRest : Result ((act.Parameters × ((Seen × (Node × ℕ)) × Seen)) × List Seen) (List Seen) → Result DefRest Fail → List Seen → Type 0
GivesDefRest outcome (Ok r) rest = (x : act.Parameters) × (outcome ≡ Ok ((x, shown_def_end r), rest)) × (act.params_of x ≡ r.params)
GivesDefRest outcome (Err NoMemory) rest = Unit {0}
GivesDefRest outcome (Err Refused) rest = outcome ≡ Err rest

abbrev pub def_value : Seen → act.DefName → Params → (Seen × (Node × ℕ)) × Seen → Node × ℕ
def_value t name params x = (make (kind.Def name.0 (act.full_name name.1) params (filled (tokens t x.1) x.0.1)) (tokens t x.1) (start (name.1.0)), other)

abbrev pub attached_sign : R (optional leaf)
attached_sign = maybe (token_where (op mark.Assign) act.is_attached)

abbrev pub selected : R (pair leaf (optional leaf))
selected = behind (op mark.Dot) g.method_name

abbrev pub def_rest : R g.def_rest
def_rest = choice g.def_in_brackets g.def_plain

-- whether a part of a body is one that the text doesn't have
abbrev pub is_empty_part : Kind → Bool
is_empty_part k = act.is_empty_in (out-Kind k)
