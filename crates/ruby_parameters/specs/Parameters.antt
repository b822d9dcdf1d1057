-- Tokens that are skipped, and parameters.
use Rattle.std.specs.Prelude.{ℕ, Bool, true, false, if◌then◌else◌, List, [], ◌∷◌, Option, Some, None, Result, Ok, Err, ◌≡◌, ◌++◌, map}
use Rattle.grammar.specs.CommonRules.{behind, maybe}
use Rattle.grammar.specs.FormReaders.{and_then, next_in, read_view}
use Rattle.grammar.specs.Readers.{read_named, read_rule}
use Rattle.grammar.specs.Rules.{leaf, tree, optional, named}
use Rattle.ruby_meaning.specs.declared.production.Production.TheVariants as p
use Rattle.ruby_meaning.specs.declared.production.Sign.TheVariants as sign
use Rattle.ruby_meaning.specs.declared.production.Stage.{Stage}
use Rattle.ruby_meaning.specs.declared.production.Stage.TheVariants as stage
use Rattle.ruby_meaning.specs.declared.token.Mark.{Mark}
use Rattle.ruby_meaning.specs.declared.token.Mark.TheVariants as mark
use Rattle.ruby_meaning.specs.declared.tree.Node.{Node}
use Rattle.ruby_meaning.specs.declared.tree.Params.{Params, roll-Params}
use Rattle.ruby_meaning.specs.declared.tree.Rest.{Rest}
use Rattle.ruby_meaning.specs.declared.tree.Rest.TheVariants as kept
use Rattle.ruby_meaning.specs.declared.tree.Slot.{Slot}
use Rattle.ruby_meaning.specs.Grammar.Actions as act
use Rattle.ruby_meaning.specs.Grammar.Classes.{a, op}
use Rattle.ruby_meaning.specs.Grammar.Names.{R, part}
use Rattle.ruby_meaning.specs.Grammar.Parameters as g
use Rattle.ruby_meaning.specs.Grammar.Seen.{Seen}
use Rattle.ruby_meaning.specs.Grammar.Table.{table}
use Rattle.ruby_reading.specs.declared.cursor.Sight.{Sight}
use Rattle.descent.specs.declared.fail.Fail.{Fail}
use Rattle.descent.specs.declared.fail.Fail.TheVariants.{NoMemory, Refused}
use Rattle.descent.specs.Gives.{Gives}
use Rattle.ruby_reading.specs.Ahead.{see, class_code}
use Rattle.ruby_reading.specs.Named.{many_from}
use Rattle.ruby_parameters.specs.declared.parameters.Before.{Before}
use Rattle.ruby_parameters.specs.declared.parameters.Before.TheVariants as before
use Rattle.ruby_parameters.specs.declared.parameters.Found.{Found}
use Rattle.ruby_parameters.specs.declared.parameters.Parameter.{Parameter}
use Rattle.ruby_parameters.specs.declared.parameters.Parameter.TheVariants as parameter

abbrev pub see_if : Option Sight → Option Seen
see_if None = None
see_if (Some s) = Some (see s)

-- the tokens of these classes that come next
abbrev pub those : (ℕ → Bool) → List Seen → List Seen
those f [] = []
those f (t ∷ ts) = if f (class_code t) then t ∷ those f ts else []

abbrev pub behind_those : (ℕ → Bool) → List Seen → List Seen
behind_those f [] = []
behind_those f (t ∷ ts) = if f (class_code t) then behind_those f ts else t ∷ ts

abbrev pub behind_one : (ℕ → Bool) → List Seen → List Seen
behind_one f [] = []
behind_one f (t ∷ ts) = if f (class_code t) then ts else t ∷ ts

abbrev pub GivesParams : Result (act.Parameters × List Seen) (List Seen) → Result Params Fail → List Seen → Type 0
GivesParams outcome (Ok params) rest = (x : act.Parameters) × (outcome ≡ Ok (x, rest)) × (act.params_of x ≡ params)
GivesParams outcome (Err NoMemory) rest = Unit {0}
GivesParams outcome (Err Refused) rest = outcome ≡ Err rest

-- ---- one parameter

pub data Single : Type 0 where
  slot : List Seen → Single
  default : Seen → Node → Single
  rest : Option Seen → Single
  block : Seen → Single

abbrev pub takes_default : Stage → Bool
takes_default stage.Plain = true
takes_default stage.Optional = true
takes_default _ = false

-- what stands before the next one
abbrev pub stage_behind : Stage → Single → Stage
stage_behind s (slot names) = g.behind_plain s
stage_behind s (default t n) = stage.Optional
stage_behind s (rest o) = stage.Rest
stage_behind s (block t) = s

abbrev pub with_single : Stage → Single → act.Parameters → act.Parameters
with_single s (slot names) x = act.with_slot s names x
with_single s (default t n) x = act.with_name s t (Some n) x
with_single s (rest o) x = act.with_rest o x
with_single s (block t) x = act.block_name t

abbrev pub Singles : Type 0
Singles = Result (Single × List Seen) (List Seen)

abbrev pub argument_behind : Bool → R tree
argument_behind r = behind (op mark.Assign) (named (part p.Argument true r))

abbrev pub starred : R (optional leaf)
starred = behind (op mark.Star) (maybe g.parameter_name)

abbrev pub ampersand : R leaf
ampersand = behind (op mark.Ampersand) g.parameter_name

abbrev pub sees_op : Mark → List Seen → Bool
sees_op m ts = next_in (λ t. op m (class_code t)) ts

abbrev pub read_value : Bool → ℕ → Seen → List Seen → Singles
read_value r b t ts = if sees_op mark.Assign ts then read_view (λ n. default t n) (λ rest. read_rule table (read_named table) (argument_behind r) b rest) ts else Ok (slot (t ∷ []), ts)

abbrev pub read_name : Bool → ℕ → Stage → List Seen → Singles
read_name r b s ts = and_then (read_rule table (read_named table) g.parameter_name b ts) (λ t after. if takes_default s then read_value r b t after else Ok (slot (t ∷ []), after))

abbrev pub read_brackets : ℕ → List Seen → Singles
read_brackets b ts = read_view (λ names. slot names) (λ rest. read_rule table (read_named table) g.bracketed_names b rest) ts

abbrev pub read_star : ℕ → List Seen → Singles
read_star b ts = read_view (λ o. rest o) (λ rest. read_rule table (read_named table) starred b rest) ts

abbrev pub read_block : ℕ → List Seen → Singles
read_block b ts = read_view (λ t. block t) (λ rest. read_rule table (read_named table) ampersand b rest) ts

abbrev pub read_sign : ℕ → Stage → List Seen → Singles
read_sign b s ts = if takes_default s then (if sees_op mark.Star ts then read_star b ts else read_block b ts) else read_block b ts

abbrev pub read_simple : Bool → ℕ → Stage → List Seen → Singles
read_simple r b s ts = if next_in (λ t. a sign.Name (class_code t)) ts then read_name r b s ts else read_sign b s ts

abbrev pub read_single : Bool → Bool → ℕ → Stage → List Seen → Singles
read_single r brackets b s ts = if brackets then (if sees_op mark.ParenOpen ts then read_brackets b ts else read_simple r b s ts) else read_simple r b s ts

abbrev pub read_more : Bool → Bool → ℕ → Stage → List Seen → Result (act.Parameters × List Seen) (List Seen)
read_more r brackets b s ts = read_rule table (read_named table) (g.more_parameters r brackets s) b ts

-- what stands behind one
abbrev pub go_on : Bool → Bool → ℕ → Stage → Single → List Seen → Result (act.Parameters × List Seen) (List Seen)
go_on r brackets b s (block t) ts = Ok (act.block_name t, ts)
go_on r brackets b s (slot names) ts = and_then (read_more r brackets b (g.behind_plain s) ts) (λ x after. Ok (act.with_slot s names x, after))
go_on r brackets b s (default t n) ts = and_then (read_more r brackets b stage.Optional ts) (λ x after. Ok (act.with_name s t (Some n) x, after))
go_on r brackets b s (rest o) ts = and_then (read_more r brackets b stage.Rest ts) (λ x after. Ok (act.with_rest o x, after))

-- ---- what the parser gives

abbrev pub shown_names : List Sight → List Seen
shown_names names = map see names

abbrev pub names_from : ℕ → ℕ → List Seen → List Seen → Result (List Seen × List Seen) (List Seen)
names_from b n found ts = many_from {s = leaf} (behind (op mark.Comma) g.parameter_name) b n found ts

abbrev pub next_name : R leaf
next_name = behind (op mark.Comma) g.parameter_name

abbrev pub single_of : Parameter → Single
single_of (parameter.Name t) = slot (see t ∷ [])
single_of (parameter.Names names) = slot (shown_names names)
single_of (parameter.Default t n) = default (see t) n
single_of (parameter.Rest o) = rest (see_if o)
single_of (parameter.Block t) = block (see t)

abbrev pub stage_of : Before → Stage
stage_of before.Names = stage.Plain
stage_of before.Default = stage.Optional
stage_of before.Rest = stage.Rest
stage_of before.After = stage.After

abbrev pub GivesSingle : Singles → Result Parameter Fail → List Seen → Type 0
GivesSingle = Gives single_of

abbrev pub is_block : Single → Bool
is_block (block t) = true
is_block _ = false

-- ---- the parameters that were read

abbrev pub found_of : act.Parameters → Found
found_of x = record {
  plain = map act.slot_of x.0;
  optional = map (λ o. act.units o.0) (x.1.0);
  defaults = map (λ o. o.1) (x.1.0);
  rest = act.rest_of (x.1.1.0);
  after = map act.slot_of (x.1.1.1.0);
  block = act.name_if (x.1.1.1.1);
}

abbrev pub params_from : Found → Params
params_from f = roll-Params (record { plain = f.plain; optional = f.optional; defaults = f.defaults; rest = f.rest; after = f.after; block = f.block })

abbrev pub with_slot_found : Stage → Slot → Found → Found
with_slot_found stage.Plain one f = record { plain = f.plain ++ one ∷ []; optional = f.optional; defaults = f.defaults; rest = f.rest; after = f.after; block = f.block }
with_slot_found _ one f = record { plain = f.plain; optional = f.optional; defaults = f.defaults; rest = f.rest; after = f.after ++ one ∷ []; block = f.block }

abbrev pub with_default_found : List ℕ → Node → Found → Found
with_default_found name n f = record { plain = f.plain; optional = f.optional ++ name ∷ []; defaults = f.defaults ++ n ∷ []; rest = f.rest; after = f.after; block = f.block }

abbrev pub first_rest : Rest → Rest → Rest
first_rest kept.None second = second
first_rest first second = first

abbrev pub with_rest_found : Rest → Found → Found
with_rest_found one f = record { plain = f.plain; optional = f.optional; defaults = f.defaults; rest = first_rest f.rest one; after = f.after; block = f.block }

abbrev pub with_block_found : List ℕ → Found → Found
with_block_found name f = record { plain = f.plain; optional = f.optional; defaults = f.defaults; rest = f.rest; after = f.after; block = act.or_else f.block (Some name) }

abbrev pub with_found : Stage → Single → Found → Found
with_found s (slot names) f = with_slot_found s (act.slot_of names) f
with_found s (default t n) f = with_default_found (act.units t) n f
with_found s (rest o) f = with_rest_found (act.rest_of (Some o)) f
with_found s (block t) f = with_block_found (act.units t) f

-- parameters behind others
abbrev pub join : act.Parameters → act.Parameters → act.Parameters
join x y = (x.0 ++ y.0, (x.1.0 ++ y.1.0, (act.or_else (x.1.1.0) (y.1.1.0), (x.1.1.1.0 ++ y.1.1.1.0, act.or_else (x.1.1.1.1) (y.1.1.1.1)))))
