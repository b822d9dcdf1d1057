-- A program that scope lets through is made of calls of `puts` with one text: any other node is noted as one whose form isn't built.
use Rattle.std.proofs.Common.{◌≡◌, ℕ, Bool, true, false, not, ◌&&◌, cond, List, [], ◌∷◌, map, Option, None, Some, refl, sym, ap, ◌∙◌, subst}
use Rattle.std.specs.Prelude.{codes, bytes_eq, is_none, is_some, ⊤}
use Rattle.std.specs.Option.{option_map}
use Rattle.std.proofs.lemmas.Bool.{false≢true}
use Rattle.std.proofs.lemmas.Slice.Eq.{bytes_eq-Decides}
use Rattle.opal_base.specs.declared.place.Pos.{Pos}
use Rattle.opal_base.specs.declared.place.Span.{Span}
use Rattle.ruby_meaning.specs.declared.construct.Construct.{Construct}
use Rattle.ruby_meaning.specs.declared.construct.Construct.TheVariants as construct
use Rattle.ruby_meaning.specs.declared.scope.Around.{Around}
use Rattle.ruby_meaning.specs.declared.scope.Refusal.{Refusal}
use Rattle.ruby_meaning.specs.declared.scope.Role.{Role}
use Rattle.ruby_meaning.specs.declared.scope.Role.TheVariants as role
use Rattle.ruby_meaning.specs.declared.scope.Seen.{Seen}
use Rattle.ruby_meaning.specs.declared.tree.Base.{Base}
use Rattle.ruby_meaning.specs.declared.tree.Base.TheFolds.{ind-Node, fold-roll-Base, fold-roll-Kind, fold-roll-ModuleForm, fold-roll-Node, fold-roll-Params, map-Base, map-Kind, map-ModuleForm, map-Params}
use Rattle.ruby_meaning.specs.declared.tree.Base.TheOpen.{Base-F, Kind-F, ModuleForm-F, Node-F, Params-F}
use Rattle.ruby_meaning.specs.declared.tree.Base.{roll-Base}
use Rattle.ruby_meaning.specs.declared.tree.Kind.{Kind, roll-Kind}
use Rattle.ruby_meaning.specs.declared.tree.Kind.TheVariants as kinds
use Rattle.ruby_meaning.specs.declared.tree.ModuleForm.{ModuleForm, roll-ModuleForm}
use Rattle.ruby_meaning.specs.declared.tree.Node.{Node, roll-Node}
use Rattle.ruby_meaning.specs.declared.tree.Params.{Params, roll-Params}
use Rattle.ruby_meaning.specs.declared.tree.Program.{Program}
use Rattle.ruby_meaning.specs.declared.tree.Rest.{Rest}
use Rattle.ruby_meaning.specs.declared.tree.Rest.TheVariants as rest
use Rattle.ruby_meaning.specs.declared.tree.Slot.{Slot}
use Rattle.ruby_meaning.specs.declared.tree.Slot.TheVariants as slot
use Rattle.ruby_meaning.specs.Scoping.Names.{Name, has}
use Rattle.ruby_meaning.specs.Scoping.Seen.{stands_before, earlier, earlier_place, outside, refuse_if, unbuilt_at, is_underscored, name_local, parameter, called, opened, block_closed, body_closed}
use Rattle.ruby_meaning.specs.Scoping.Walk.{Walked, walked, Walk, Part, FormPart, BasePart, plain, as_role, is_shown, is_target, is_condition, within_def, within_block, within_lambda, within_loop, within_rescue, no_targets, all, if_any, in_turn, names_in_turn, defaults_in_turn, guarded, guarded_two, branches, in_block, in_body, operator_name, setter, called_if_any, refuse_marked, is_require, is_relative, text_or_empty, is_shown_text, noted, noted_require, noted_call, only_name, resolved_call, call, bare_local, local_or, one_slot, slots, rest_name, block_name, rescued, whole_list, of_base, of_kind, of_form, of_node, of_params, part, form_part, base_part, module_part, params_part}
use Rattle.ruby_meaning.specs.Scoping.Scopes.{start, or_unbuilt, own_scope_fault}
use Rattle.ruby_meaning.specs.Scoping.Walk as walk
use Rattle.ruby_meaning.specs.Puts.{Putting, putting, kind_putting, other, only_text, all_put, all_texts}
use Rattle.ruby_meaning.specs.Puts as puts
use Rattle.ruby_meaning.specs.Laws.{OnlyPuts}

-- a node whose form isn't built was noted
abbrev Marked : Seen → Type 0
Marked s = is_some s.unbuilt ≡ true

-- ---- what is noted stays noted

same_mark : (s t : Seen) → t.unbuilt ≡ s.unbuilt → Marked s → Marked t
same_mark s t e m = ap is_some e ∙ m

marked_if : {A : Type 0} (b : Bool) (x y : Walked A) → Marked x.seen → Marked y.seen → Marked (cond b x y).seen
marked_if true x y m n = m
marked_if false x y m n = n

either : (b : Bool) (s t : Seen) → Marked s → Marked t → Marked (cond b s t)
either true s t m n = m
either false s t m n = n

refused : (b : Bool) (p : Pos) (c : Construct) (s : Seen) → Marked s → Marked (refuse_if b p c s)
unfolding refuse_if
refused b p c s m = either b (record s { refusal = earlier s.refusal p c }) s m m

noted_place : (o : Option Pos) (p : Pos) → is_some (earlier_place o p) ≡ true
noted_place None p = refl
noted_place (Some q) p = by (stands_before p q) where
  by : (b : Bool) → is_some (cond b (Some p) (Some q)) ≡ true
  by true = refl
  by false = refl

noted_at : (p : Pos) (s : Seen) → Marked (unbuilt_at p s)
unfolding unbuilt_at
noted_at p s = noted_place s.unbuilt p

local : (name : Name) (s : Seen) → Marked s → Marked (name_local name s)
unfolding name_local
local name s m = either (has s.own name) s _ m (either (outside s.outer name) _ _ m m)

of_parameter : (mark : Pos) (name : Name) (s : Seen) → Marked s → Marked (parameter mark name s)
unfolding parameter
of_parameter mark name s m = refused (not (is_underscored name) && has s.params name) mark _ s m

of_called : (name : Name) (s : Seen) → Marked s → Marked (called name s)
unfolding called
of_called name s m = m

of_called_if_any : (name : Option Name) (s : Seen) → Marked s → Marked (called_if_any name s)
unfolding called_if_any
of_called_if_any None s m = m
of_called_if_any (Some name) s m = of_called name s m

of_marked : (b : Bool) (marked : Option Pos) (s : Seen) → Marked s → Marked (refuse_marked b marked s)
unfolding refuse_marked
of_marked b None s m = m
of_marked b (Some pos) s m = refused b pos _ s m

of_noted : (below : Option ℕ) (receiver : Option Part) (name : Name) (args : List Part) (block : Option Part) (marked : Option Pos) (mark : Pos) (r : Role) (s : Seen) → Marked s → Marked (noted below receiver name args block marked mark r s)
unfolding noted noted_require noted_call
of_noted below receiver name args block marked mark r s m =
    either (is_none receiver && is_require name) _ _
    (of_marked _ marked _ (refused _ mark _ s m))
    (of_marked _ marked _ (refused _ mark _ _ (refused _ mark _ _ (of_called _ s m))))

-- ---- parts

abbrev Keeps : {A : Type 0} → (Seen → Walked A) → Type 0
Keeps f = (s : Seen) → Marked s → Marked (f s).seen

block_keeps : {A : Type 0} (body : Seen → Walked A) → Keeps body → Keeps (in_block body)
unfolding opened block_closed
block_keeps body k s m = k _ m

body_keeps : {A : Type 0} (body : Seen → Walked A) → Keeps body → Keeps (in_body body)
unfolding opened body_closed
body_keeps body k s m = k _ m

-- Marks stay; where none was made, what was made is such a call or sequence, unless it stands for the text of a call; and a text stays one.
record PartMeets (p : Part) : Type 0 where
  pub keeps : (c : Around) → Keeps (p.walk c)
  pub shown : (c : Around) (s : Seen) → is_shown c.role ≡ false → is_some (p.walk c s).seen.unbuilt ≡ false → (putting (p.walk c s).made).only_puts ≡ true
  pub quoted : (c : Around) (s : Seen) → is_some p.text ≡ true → is_some (putting (p.walk c s).made).text ≡ true

-- A form that is a bare name is no text, and isn't built.
record FormMeets (f : FormPart) : Type 0 where
  pub unnamed : is_some f.text ≡ true → f.name ≡ None
  pub bare : (r : Role) → f.built r ≡ true → f.name ≡ None
  pub keeps : (mark : Pos) (c : Around) → Keeps (f.walk mark c)
  pub shown : (mark : Pos) (c : Around) (s : Seen) → is_shown c.role ≡ false → f.built c.role ≡ true → is_some (f.walk mark c s).seen.unbuilt ≡ false → (kind_putting (f.walk mark c s).made).only_puts ≡ true
  pub quoted : (mark : Pos) (c : Around) (s : Seen) → is_some f.text ≡ true → is_some (kind_putting (f.walk mark c s).made).text ≡ true

abbrev BaseMeets : Base → Type 0
BaseMeets b = (c : Around) → Keeps ((base_part None b).walk c)

abbrev KindMeets : Kind → Type 0
KindMeets k = FormMeets (form_part None k)

abbrev ModuleMeets : ModuleForm → Type 0
ModuleMeets f = (c : Around) → Keeps (module_part None f c)

abbrev NodeMeets : Node → Type 0
NodeMeets n = PartMeets (part None n)

abbrev ParamsMeet : Params → Type 0
ParamsMeet p = (mark : Pos) (c : Around) → Keeps (params_part None p mark c)

abbrev Parts : Type 0
Parts = List ((n : Node) × NodeMeets n)

abbrev MayPart : Type 0
MayPart = Option ((n : Node) × NodeMeets n)

abbrev parts_of : Parts → List Part
parts_of ps = map (part None) (map (λ e. e.0) ps)

abbrev part_if : MayPart → Option Part
part_if o = option_map (part None) (option_map (λ e. e.0) o)

all_keep : (ps : Parts) (c : Around) → Keeps (all (parts_of ps) c)
all_keep [] c s m = m
all_keep (p ∷ ps) c s m = all_keep ps c _ (p.1.keeps c s m)

if_keeps : (o : MayPart) (c : Around) → Keeps (if_any (part_if o) c)
if_keeps None c s m = m
if_keeps (Some p) c s m = p.1.keeps c s m

pairs_keep : (ks vs : Parts) (c : Around) → Keeps (in_turn (parts_of ks) (parts_of vs) c)
pairs_keep [] vs c s m = m
pairs_keep (k ∷ ks) [] c s m = pairs_keep ks [] c _ (k.1.keeps c s m)
pairs_keep (k ∷ ks) (v ∷ vs) c s m = pairs_keep ks vs c _ (v.1.keeps c _ (k.1.keeps c s m))

names_keep : (mark : Pos) (names : List Name) (s : Seen) → Marked s → Marked (names_in_turn mark names s)
names_keep mark [] s m = m
names_keep mark (n ∷ ns) s m = names_keep mark ns _ (of_parameter mark n s m)

defaults_keep : (mark : Pos) (names : List Name) (ps : Parts) (c : Around) → Keeps (defaults_in_turn mark names (parts_of ps) c)
defaults_keep mark ns [] c s m = names_keep mark ns s m
defaults_keep mark [] (p ∷ ps) c s m = defaults_keep mark [] ps c _ (p.1.keeps c s m)
defaults_keep mark (n ∷ ns) (p ∷ ps) c s m = defaults_keep mark ns ps c _ (p.1.keeps c _ (of_parameter mark n s m))

slot_keeps : (mark : Pos) (p : Slot) (s : Seen) → Marked s → Marked (one_slot mark p s)
slot_keeps mark (slot.Name name) s m = of_parameter mark name s m
slot_keeps mark (slot.Names names) s m = names_keep mark names s m

slots_keep : (mark : Pos) (ps : List Slot) (s : Seen) → Marked s → Marked (slots mark ps s)
slots_keep mark [] s m = m
slots_keep mark (p ∷ ps) s m = slots_keep mark ps _ (slot_keeps mark p s m)

rest_keeps : (mark : Pos) (r : Rest) (s : Seen) → Marked s → Marked (rest_name mark r s)
rest_keeps mark rest.None s m = m
rest_keeps mark rest.Unnamed s m = m
rest_keeps mark (rest.Named name) s m = of_parameter mark name s m

taker_keeps : (mark : Pos) (o : Option Name) (s : Seen) → Marked s → Marked (block_name mark o s)
taker_keeps mark None s m = m
taker_keeps mark (Some name) s m = of_parameter mark name s m

rescued_keeps : (o : Option Name) (s : Seen) → Marked s → Marked (rescued o s)
unfolding rescued
rescued_keeps None s m = m
rescued_keeps (Some name) s m = local name s m

guarded_keeps : (cond_part body : Part) (c d : Around) → Keeps (cond_part.walk c) → Keeps (body.walk d) → Keeps (guarded cond_part body c d)
guarded_keeps q body c d k l s m = marked_if (stands_before body.from q.from) _ _ (k _ (l s m)) (l _ (k s m))

guarded_two_keeps : (q a b : Part) (c d : Around) → Keeps (q.walk c) → Keeps (a.walk d) → Keeps (b.walk d) → Keeps (guarded_two q a b c d)
guarded_two_keeps q a b c d k l n s m =
    marked_if (stands_before a.from q.from) _ _ (guarded_keeps q b c d k n _ (l s m)) (n _ (l _ (k s m)))

branches_keep : (q a b : Part) (c d : Around) → Keeps (q.walk c) → Keeps (a.walk d) → Keeps (b.walk d) → Keeps (branches q a b c d)
branches_keep q a b c d k l n s m =
    marked_if (stands_before b.from a.from) _ _ (guarded_two_keeps q b a c d k n l s m) (guarded_two_keeps q a b c d k l n s m)

-- ---- forms that aren't built

unbuilt_meets : (is_block : Bool) (walk : Pos → Walk Kind) → ((mark : Pos) (c : Around) → Keeps (walk mark c)) → FormMeets (record { name = None; text = None; is_block = is_block; built = λ r. false; walk = walk })
unbuilt_meets is_block walk k = record {
  unnamed = λ e. refl;
  bare = λ r e. refl;
  keeps = k;
  shown = λ mark c s r b e. absurd (false≢true b);
  quoted = λ mark c s e. absurd (false≢true e);
}

-- ---- the forms that are built

putting_kind : (l : Kind-F Base Kind ModuleForm Node Params) → kind_putting (roll-Kind l) ≡ puts.of_kind (map-Kind Base Kind ModuleForm Node Params ⊤ Putting ⊤ Putting ⊤ (λ b. tt) kind_putting (λ f. tt) putting (λ p. tt) l)
unfolding kind_putting putting
putting_kind l = fold-roll-Kind ⊤ Putting ⊤ Putting ⊤ (λ b. tt) puts.of_kind (λ f. tt) (λ n. n.kind) (λ p. tt) l

putting_str : (text : Name) → kind_putting (kinds.Str text) ≡ other (Some text)
putting_str text = ap kind_putting (sym (kinds.rolls-Str text)) ∙ putting_kind (Kind-F.Str text)

putting_seq : (nodes : List Node) → (kind_putting (kinds.Seq nodes)).only_puts ≡ all_put (map putting nodes)
putting_seq nodes = ap (λ k. (kind_putting k).only_puts) (sym (kinds.rolls-Seq nodes)) ∙ ap (λ p. p.only_puts) (putting_kind (Kind-F.Seq nodes))

putting_call : (name : Name) (arg : Node) (marked : Option Pos) → (kind_putting (kinds.Call None name (arg ∷ []) None marked)).only_puts ≡ (true && bytes_eq name (codes "puts") && is_some (putting arg).text && true)
putting_call name arg marked =
    ap (λ k. (kind_putting k).only_puts) (sym (kinds.rolls-Call None name (arg ∷ []) None marked)) ∙ ap (λ p. p.only_puts) (putting_kind (Kind-F.Call None name (arg ∷ []) None marked))

putting_made : (k : Kind) (s : Span) (m : Pos) → putting (record { kind = k; span = s; mark = m }) ≡ kind_putting k
unfolding kind_putting putting
putting_made k s m = fold-roll-Node ⊤ Putting ⊤ Putting ⊤ (λ b. tt) puts.of_kind (λ f. tt) (λ n. n.kind) (λ p. tt) (record { kind = k; span = s; mark = m })

str_meets : (text : Name) → FormMeets (record { name = None; text = Some text; is_block = false; built = is_shown; walk = λ mark c s. walked s (kinds.Str text) })
str_meets text = record {
  unnamed = λ e. refl;
  bare = λ r e. refl;
  keeps = λ mark c s m. m;
  shown = λ mark c s r b e. absurd (false≢true (sym r ∙ b));
  quoted = λ mark c s e. ap (λ p. is_some p.text) (putting_str text);
}

-- what no later node notes wasn't noted
unmarked : (s t : Seen) → (Marked s → Marked t) → is_some t.unbuilt ≡ false → is_some s.unbuilt ≡ false
unmarked s t k e = by (is_some s.unbuilt) refl where
  by : (b : Bool) → is_some s.unbuilt ≡ b → is_some s.unbuilt ≡ false
  by true h = absurd (false≢true (sym e ∙ k h))
  by false h = h

both_true : (a b : Bool) → a ≡ true → b ≡ true → (a && b) ≡ true
both_true a b e f = rw (e, f) refl

all_shown : (ps : Parts) (c : Around) (s : Seen) → is_shown c.role ≡ false → is_some (all (parts_of ps) c s).seen.unbuilt ≡ false → all_put (map putting (all (parts_of ps) c s).made) ≡ true
all_shown [] c s r e = refl
all_shown (p ∷ ps) c s r e =
    let here = (part None p.0).walk c s in
    both_true _ _ (p.1.shown c s r (unmarked here.seen (all (parts_of ps) c here.seen).seen (all_keep ps c here.seen) e)) (all_shown ps c here.seen r e)

seq_meets : (items : Parts) → FormMeets (record { name = None; text = None; is_block = false; built = λ r. true; walk = λ mark c. whole_list (λ ns. kinds.Seq ns) (parts_of items) (plain c) })
seq_meets items = record {
  unnamed = λ e. refl;
  bare = λ r e. refl;
  keeps = λ mark c s m. all_keep items (plain c) s m;
  shown = λ mark c s r b e. putting_seq (all (parts_of items) (plain c) s).made ∙ all_shown items (plain c) s refl e;
  quoted = λ mark c s e. absurd (false≢true e);
}

-- ---- a call

all_four : (a b c d : Bool) → (a && b && c && d) ≡ true → (b ≡ true) × (c ≡ true)
all_four true true true true e = (refl, refl)
all_four false b c d e = absurd (false≢true e)
all_four true false c d e = absurd (false≢true e)
all_four true true false d e = absurd (false≢true e)
all_four true true true false e = absurd (false≢true e)

last_of_four : (a b c d : Bool) → (a && b && c && d) ≡ true → d ≡ true
last_of_four true true true d e = e
last_of_four false b c d e = absurd (false≢true e)
last_of_four true false c d e = absurd (false≢true e)
last_of_four true true false d e = absurd (false≢true e)

named_puts : (name : Name) → bytes_eq name (codes "puts") ≡ true → name ≡ codes "puts"
named_puts name e = (bytes_eq-Decides name (codes "puts")).0 e

no_require : (name : Name) → bytes_eq name (codes "puts") ≡ true → is_require name ≡ false
no_require name e = subst (λ n. is_require n ≡ false) (sym (named_puts name e)) refl

true_four : (b c : Bool) → b ≡ true → c ≡ true → (true && b && c && true) ≡ true
true_four b c e f = rw (e, f) refl

module _ (arg : (n : Node) × NodeMeets n) (name : Name) (marked : Option Pos) (mark : Pos) (c : Around) (s : Seen) where
  abbrev shown_arg : Node
  shown_arg = ((part None arg.0).walk (as_role (cond (is_shown_text None name (part None arg.0 ∷ []) None) role.Shown role.Plain) c) (noted None None name (part None arg.0 ∷ []) None marked mark c.role s)).made

  one_call : bytes_eq name (codes "puts") ≡ true → is_some (part None arg.0).text ≡ true → (kind_putting (call None None name (part None arg.0 ∷ []) None marked mark c s).made).only_puts ≡ true
  unfolding call resolved_call
  one_call named some =
      ap (λ b. (kind_putting (resolved_call b name (part None arg.0).text marked None (shown_arg ∷ []) None)).only_puts) (no_require name named)
      ∙ putting_call name shown_arg marked
      ∙ true_four _ _ named (arg.1.quoted (as_role (cond (is_shown_text None name (part None arg.0 ∷ []) None) role.Shown role.Plain) c) (noted None None name (part None arg.0 ∷ []) None marked mark c.role s) some)

call_shown : (receiver block : MayPart) (name : Name) (args : Parts) (marked : Option Pos) (mark : Pos) (c : Around) (s : Seen)
    → is_shown_text (part_if receiver) name (parts_of args) (part_if block) ≡ true → (kind_putting (call None (part_if receiver) name (parts_of args) (part_if block) marked mark c s).made).only_puts ≡ true
call_shown None None name (arg ∷ []) marked mark c s e = let h = all_four true _ _ true e in one_call arg name marked mark c s h.0 h.1
call_shown None None name [] marked mark c s e = absurd (false≢true (all_four true _ false true e).1)
call_shown None None name (a ∷ b ∷ args) marked mark c s e = absurd (false≢true (all_four true _ false true e).1)
call_shown None (Some block) name args marked mark c s e = absurd (false≢true (last_of_four true (bytes_eq name (codes "puts")) (is_some (walk.only_text (parts_of args))) false e))
call_shown (Some receiver) block name args marked mark c s e = absurd (false≢true e)

-- a call with one text has more than its name
call_named : (receiver block : MayPart) (name : Name) (args : Parts)
    → is_shown_text (part_if receiver) name (parts_of args) (part_if block) ≡ true → only_name (part_if receiver) name (parts_of args) (part_if block) ≡ None
call_named None block name (arg ∷ args) e = refl
call_named None block name [] e = absurd (false≢true (all_four true (bytes_eq name (codes "puts")) false (is_none (part_if block)) e).1)
call_named (Some receiver) block name args e = refl

call_meets : (receiver block : MayPart) (name : Name) (args : Parts) (marked : Option Pos) → FormMeets (record {
  name = only_name (part_if receiver) name (parts_of args) (part_if block);
  text = None;
  is_block = false;
  built = λ r. is_shown_text (part_if receiver) name (parts_of args) (part_if block);
  walk = call None (part_if receiver) name (parts_of args) (part_if block) marked;
})
unfolding call
call_meets receiver block name args marked = record {
  unnamed = λ e. absurd (false≢true e);
  bare = λ r e. call_named receiver block name args e;
  keeps = λ mark c s m. if_keeps block (plain c) _ (all_keep args _ _ (if_keeps receiver (plain c) _ (of_noted _ _ _ _ _ _ _ _ s m)));
  shown = λ mark c s r b e. call_shown receiver block name args marked mark c s b;
  quoted = λ mark c s e. absurd (false≢true e);
}

-- ---- each form

abbrev Layer : Type 0
Layer = Kind-F ((b : Base) × BaseMeets b) ((k : Kind) × KindMeets k) ((f : ModuleForm) × ModuleMeets f) ((n : Node) × NodeMeets n) ((p : Params) × ParamsMeet p)

abbrev whole_of : Layer → Kind-F Base Kind ModuleForm Node Params
whole_of = map-Kind ((b : Base) × BaseMeets b) ((k : Kind) × KindMeets k) ((f : ModuleForm) × ModuleMeets f) ((n : Node) × NodeMeets n) ((p : Params) × ParamsMeet p) Base Kind ModuleForm Node Params (λ e. e.0) (λ e. e.0) (λ e. e.0) (λ e. e.0) (λ e. e.0)

abbrev folded : Layer → FormPart
folded l = of_kind None (map-Kind Base Kind ModuleForm Node Params BasePart FormPart (Walk ModuleForm) Part (Pos → Walk Params) (base_part None) (form_part None) (module_part None) (part None) (params_part None) (whole_of l))

abbrev inside : {A : Type 0} → (Params → Node → A) → Params → Node → Pos → Around → Seen → Walked A
inside g params body mark c = walk.two g (params_part None params mark c) ((part None body).walk c)

inside_keeps : {A : Type 0} (g : Params → Node → A) (params : (p : Params) × ParamsMeet p) (body : (n : Node) × NodeMeets n) (mark : Pos) (c : Around) → Keeps (inside g params.0 body.0 mark c)
inside_keeps g params body mark c s m = body.1.keeps c (params_part None params.0 mark c s).seen (params.1 mark c s m)

in_block_keeps : (g : Params → Node → Kind) (params : (p : Params) × ParamsMeet p) (body : (n : Node) × NodeMeets n) (mark : Pos) (c : Around) → Keeps (in_block (inside g params.0 body.0 mark c))
in_block_keeps g params body mark c = block_keeps (inside g params.0 body.0 mark c) (inside_keeps g params body mark c)

abbrev both_parts : Params → Node → Params × Node
both_parts p b = (p, b)

in_def_keeps : (params : (p : Params) × ParamsMeet p) (body : (n : Node) × NodeMeets n) (mark : Pos) → Keeps (in_body (inside both_parts params.0 body.0 mark within_def))
in_def_keeps params body mark = body_keeps (inside both_parts params.0 body.0 mark within_def) (inside_keeps both_parts params body mark within_def)

in_module_keeps : (body : (n : Node) × NodeMeets n) → Keeps (in_body ((part None body.0).walk no_targets))
in_module_keeps body = body_keeps ((part None body.0).walk no_targets) (body.1.keeps no_targets)

layer_meets : (l : Layer) → FormMeets (folded l)
layer_meets (Kind-F.Lit which) = unbuilt_meets false _ (λ mark c s m. m)
layer_meets Kind-F.SelfRef = unbuilt_meets false _ (λ mark c s m. m)
layer_meets (Kind-F.Int value) = unbuilt_meets false _ (λ mark c s m. m)
layer_meets (Kind-F.Str text) = str_meets text
layer_meets (Kind-F.Interp parts) = unbuilt_meets false _ (λ mark c s m. all_keep parts (plain c) s m)
layer_meets (Kind-F.ArrayLit items) = unbuilt_meets false _ (λ mark c s m. all_keep items (plain c) s m)
layer_meets (Kind-F.HashLit keys values) = unbuilt_meets false _ (λ mark c s m. pairs_keep keys values (plain c) s m)
layer_meets (Kind-F.RangeLit low high without_end) =
    unbuilt_meets false _ (λ mark c s m. high.1.keeps (plain c) _ (low.1.keeps (plain c) _ (refused _ mark _ s m)))
layer_meets (Kind-F.LocalGet name) = unbuilt_meets false _ (λ mark c s m. local name s m)
layer_meets (Kind-F.IvarGet name) = unbuilt_meets false _ (λ mark c s m. m)
layer_meets (Kind-F.GlobalGet name) = unbuilt_meets false _ (λ mark c s m. m)
layer_meets (Kind-F.ConstGet base name) = unbuilt_meets false _ (λ mark c s m. base.1 (plain c) _ (refused _ mark _ _ (refused _ mark _ s m)))
layer_meets (Kind-F.LocalSet name value) = unbuilt_meets false _ (λ mark c s m. value.1.keeps (plain c) _ (local name s m))
layer_meets (Kind-F.IvarSet name value) = unbuilt_meets false _ (λ mark c s m. value.1.keeps (plain c) s m)
layer_meets (Kind-F.GlobalSet name value) = unbuilt_meets false _ (λ mark c s m. value.1.keeps (plain c) s m)
layer_meets (Kind-F.ConstSet name value) = unbuilt_meets false _ (λ mark c s m. value.1.keeps (plain c) _ (refused _ mark _ s m))
layer_meets (Kind-F.MultiSet targets value) = unbuilt_meets false _ (λ mark c s m. value.1.keeps (plain c) _ (all_keep targets (as_role role.Target c) s m))
layer_meets (Kind-F.AttrSet receiver name args value) =
    unbuilt_meets false _ (λ mark c s m. value.1.keeps (plain c) _ (all_keep args (plain c) _ (receiver.1.keeps (plain c) _ (of_called _ s m))))
layer_meets (Kind-F.AttrOpSet receiver name args op value) =
    unbuilt_meets false _ (λ mark c s m. value.1.keeps (plain c) _ (all_keep args (plain c) _ (receiver.1.keeps (plain c) _
    (of_called_if_any (operator_name op) _ (of_called _ _ (of_called _ s m))))))
layer_meets (Kind-F.Call None name args None marked) = call_meets None None name args marked
layer_meets (Kind-F.Call None name args (Some block) marked) = call_meets None (Some block) name args marked
layer_meets (Kind-F.Call (Some receiver) name args None marked) = call_meets (Some receiver) None name args marked
layer_meets (Kind-F.Call (Some receiver) name args (Some block) marked) = call_meets (Some receiver) (Some block) name args marked
layer_meets (Kind-F.Super None None) = unbuilt_meets false _ (λ mark c s m. refused _ mark _ s m)
layer_meets (Kind-F.Super None (Some block)) = unbuilt_meets false _ (λ mark c s m. block.1.keeps (plain c) _ (refused _ mark _ s m))
layer_meets (Kind-F.Super (Some args) None) = unbuilt_meets false _ (λ mark c s m. all_keep args (plain c) _ (refused _ mark _ s m))
layer_meets (Kind-F.Super (Some args) (Some block)) = unbuilt_meets false _ (λ mark c s m. block.1.keeps (plain c) _ (all_keep args (plain c) _ (refused _ mark _ s m)))
layer_meets (Kind-F.Yield args) = unbuilt_meets false _ (λ mark c s m. all_keep args (plain c) _ (refused _ mark _ s m))
layer_meets (Kind-F.Block params body) =
    unbuilt_meets true _ (λ mark c. in_block_keeps (λ p b. kinds.Block p b) params body mark (within_block c))
layer_meets (Kind-F.BlockPass value) = unbuilt_meets false _ (λ mark c s m. value.1.keeps (plain c) s m)
layer_meets (Kind-F.Lambda params body) =
    unbuilt_meets false _ (λ mark c. in_block_keeps (λ p b. kinds.Lambda p b) params body mark (within_lambda c))
layer_meets (Kind-F.Splat value) = unbuilt_meets false _ (λ mark c s m. value.1.keeps _ s m)
layer_meets (Kind-F.Not value) = unbuilt_meets false _ (λ mark c s m. value.1.keeps _ s m)
layer_meets (Kind-F.And left right) = unbuilt_meets false _ (λ mark c s m. right.1.keeps (plain c) _ (left.1.keeps (plain c) s m))
layer_meets (Kind-F.Or left right) = unbuilt_meets false _ (λ mark c s m. right.1.keeps (plain c) _ (left.1.keeps (plain c) s m))
layer_meets (Kind-F.If test first second) =
    unbuilt_meets false _ (λ mark c s m. branches_keep (part None test.0) (part None first.0) (part None second.0) _ _ (test.1.keeps _) (first.1.keeps _) (second.1.keeps _) s m)
layer_meets (Kind-F.While test body body_first) =
    unbuilt_meets false _ (λ mark c s m. guarded_keeps (part None test.0) (part None body.0) _ _ (test.1.keeps _) (body.1.keeps _) s m)
layer_meets (Kind-F.Case None whens otherwise) =
    unbuilt_meets false _ (λ mark c s m. otherwise.1.keeps (plain c) _ (all_keep whens _ _ m))
layer_meets (Kind-F.Case (Some subject) whens otherwise) =
    unbuilt_meets false _ (λ mark c s m. otherwise.1.keeps (plain c) _ (all_keep whens _ _ (subject.1.keeps (plain c) s m)))
layer_meets (Kind-F.When tests body) = unbuilt_meets false _ (λ mark c s m. body.1.keeps (plain c) _ (all_keep tests _ s m))
layer_meets (Kind-F.Begin body clauses None None) =
    unbuilt_meets false _ (λ mark c s m. all_keep clauses (plain c) _ (body.1.keeps (plain c) s m))
layer_meets (Kind-F.Begin body clauses None (Some last)) =
    unbuilt_meets false _ (λ mark c s m. last.1.keeps (plain c) _ (all_keep clauses (plain c) _ (body.1.keeps (plain c) s m)))
layer_meets (Kind-F.Begin body clauses (Some next) None) =
    unbuilt_meets false _ (λ mark c s m. next.1.keeps (plain c) _ (all_keep clauses (plain c) _ (body.1.keeps (plain c) s m)))
layer_meets (Kind-F.Begin body clauses (Some next) (Some last)) =
    unbuilt_meets false _ (λ mark c s m. last.1.keeps (plain c) _ (next.1.keeps (plain c) _ (all_keep clauses (plain c) _ (body.1.keeps (plain c) s m))))
layer_meets (Kind-F.Rescue classes name body) =
    unbuilt_meets false _ (λ mark c s m. body.1.keeps (within_rescue c) _ (rescued_keeps name _ (all_keep classes (plain c) s m)))
layer_meets Kind-F.Retry = unbuilt_meets false _ (λ mark c s m. refused _ mark _ s m)
layer_meets Kind-F.Reraise = unbuilt_meets false _ (λ mark c s m. m)
layer_meets (Kind-F.Jump which value) = unbuilt_meets false _ (λ mark c s m. value.1.keeps (plain c) _ (refused _ mark _ s m))
layer_meets (Kind-F.Def None name params body) =
    unbuilt_meets false _ (λ mark c s m. in_def_keeps params body mark s m)
layer_meets (Kind-F.Def (Some on) name params body) =
    unbuilt_meets false _ (λ mark c s m. in_def_keeps params body mark ((part None on.0).walk (plain c) s).seen (on.1.keeps (plain c) s m))
layer_meets (Kind-F.ModuleDef form name body) =
    unbuilt_meets false _ (λ mark c s m.
    let t = refuse_if c.in_def mark construct.DynamicConstant s in
    in_module_keeps body (module_part None form.0 (plain c) t).seen (form.1 (plain c) t (refused c.in_def mark construct.DynamicConstant s m)))
layer_meets (Kind-F.Alias new old) = unbuilt_meets false _ (λ mark c s m. m)
layer_meets (Kind-F.Undef names) = unbuilt_meets false _ (λ mark c s m. m)
layer_meets (Kind-F.Seq items) = seq_meets items
layer_meets (Kind-F.Require name relative) = unbuilt_meets false _ (λ mark c s m. m)
layer_meets (Kind-F.Prim name args) = unbuilt_meets false _ (λ mark c s m. all_keep args (plain c) s m)

kind_meets : (l : Layer) → KindMeets (roll-Kind (whole_of l))
unfolding part form_part base_part module_part params_part
kind_meets l = subst FormMeets (sym (fold-roll-Kind BasePart FormPart (Walk ModuleForm) Part (Pos → Walk Params) of_base (of_kind None) of_form of_node of_params (whole_of l))) (layer_meets l)

-- ---- the other types of the tree

abbrev BaseLayer : Type 0
BaseLayer = Base-F ((b : Base) × BaseMeets b) ((k : Kind) × KindMeets k) ((f : ModuleForm) × ModuleMeets f) ((n : Node) × NodeMeets n) ((p : Params) × ParamsMeet p)

abbrev whole_base : BaseLayer → Base-F Base Kind ModuleForm Node Params
whole_base = map-Base ((b : Base) × BaseMeets b) ((k : Kind) × KindMeets k) ((f : ModuleForm) × ModuleMeets f) ((n : Node) × NodeMeets n) ((p : Params) × ParamsMeet p) Base Kind ModuleForm Node Params (λ e. e.0) (λ e. e.0) (λ e. e.0) (λ e. e.0) (λ e. e.0)

base_layer : (l : BaseLayer) (c : Around) → Keeps ((of_base (map-Base Base Kind ModuleForm Node Params BasePart FormPart (Walk ModuleForm) Part (Pos → Walk Params) (base_part None) (form_part None) (module_part None) (part None) (params_part None) (whole_base l))).walk c)
base_layer Base-F.Here c s m = m
base_layer Base-F.Top c s m = m
base_layer (Base-F.In node) c s m = node.1.keeps c s m

base_meets : (l : BaseLayer) → BaseMeets (roll-Base (whole_base l))
unfolding part form_part base_part module_part params_part
base_meets l = subst (λ b. (c : Around) → Keeps (b.walk c)) (sym (fold-roll-Base BasePart FormPart (Walk ModuleForm) Part (Pos → Walk Params) of_base (of_kind None) of_form of_node of_params (whole_base l))) (base_layer l)

abbrev ModuleLayer : Type 0
ModuleLayer = ModuleForm-F ((b : Base) × BaseMeets b) ((k : Kind) × KindMeets k) ((f : ModuleForm) × ModuleMeets f) ((n : Node) × NodeMeets n) ((p : Params) × ParamsMeet p)

abbrev whole_module : ModuleLayer → ModuleForm-F Base Kind ModuleForm Node Params
whole_module = map-ModuleForm ((b : Base) × BaseMeets b) ((k : Kind) × KindMeets k) ((f : ModuleForm) × ModuleMeets f) ((n : Node) × NodeMeets n) ((p : Params) × ParamsMeet p) Base Kind ModuleForm Node Params (λ e. e.0) (λ e. e.0) (λ e. e.0) (λ e. e.0) (λ e. e.0)

module_layer : (l : ModuleLayer) (c : Around) → Keeps (of_form (map-ModuleForm Base Kind ModuleForm Node Params BasePart FormPart (Walk ModuleForm) Part (Pos → Walk Params) (base_part None) (form_part None) (module_part None) (part None) (params_part None) (whole_module l)) c)
module_layer (ModuleForm-F.Class None) c s m = m
module_layer (ModuleForm-F.Class (Some node)) c s m = node.1.keeps c s m
module_layer ModuleForm-F.Module c s m = m
module_layer (ModuleForm-F.Singleton node) c s m = node.1.keeps c s m

module_meets : (l : ModuleLayer) → ModuleMeets (roll-ModuleForm (whole_module l))
unfolding part form_part base_part module_part params_part
module_meets l = subst (λ (w : Walk ModuleForm). (c : Around) → Keeps (w c)) (sym (fold-roll-ModuleForm BasePart FormPart (Walk ModuleForm) Part (Pos → Walk Params) of_base (of_kind None) of_form of_node of_params (whole_module l))) (module_layer l)

abbrev ParamsLayer : Type 0
ParamsLayer = Params-F ((b : Base) × BaseMeets b) ((k : Kind) × KindMeets k) ((f : ModuleForm) × ModuleMeets f) ((n : Node) × NodeMeets n) ((p : Params) × ParamsMeet p)

abbrev whole_params : ParamsLayer → Params-F Base Kind ModuleForm Node Params
whole_params = map-Params ((b : Base) × BaseMeets b) ((k : Kind) × KindMeets k) ((f : ModuleForm) × ModuleMeets f) ((n : Node) × NodeMeets n) ((p : Params) × ParamsMeet p) Base Kind ModuleForm Node Params (λ e. e.0) (λ e. e.0) (λ e. e.0) (λ e. e.0) (λ e. e.0)

params_layer : (l : ParamsLayer) (mark : Pos) (c : Around) → Keeps (of_params (map-Params Base Kind ModuleForm Node Params BasePart FormPart (Walk ModuleForm) Part (Pos → Walk Params) (base_part None) (form_part None) (module_part None) (part None) (params_part None) (whole_params l)) mark c)
params_layer l mark c s m =
    taker_keeps mark l.block _ (slots_keep mark l.after _ (rest_keeps mark l.rest _ (defaults_keep mark l.optional l.defaults c _ (slots_keep mark l.plain s m))))

params_meet : (l : ParamsLayer) → ParamsMeet (roll-Params (whole_params l))
unfolding part form_part base_part module_part params_part
params_meet l = subst (λ (w : Pos → Walk Params). (mark : Pos) (c : Around) → Keeps (w mark c)) (sym (fold-roll-Params BasePart FormPart (Walk ModuleForm) Part (Pos → Walk Params) of_base (of_kind None) of_form of_node of_params (whole_params l))) (params_layer l)

-- ---- a node

local_keeps : (o : Option Name) (walk : Seen → Walked Kind) → Keeps walk → Keeps (local_or o walk)
unfolding local_or
local_keeps None walk k s m = k s m
local_keeps (Some name) walk k s m = local name s m

-- a form without a name of its own is no local
no_local : (walk : Seen → Walked Kind) (name : Option Name) (span : Span) (s t : Seen) → name ≡ None → local_or (bare_local name span s) walk t ≡ walk t
unfolding local_or bare_local
no_local walk None span s t e = refl
no_local walk (Some name) span s t e = let f = e in absurd cc

module _ (f : FormPart) (h : FormMeets f) (span : Span) (mark : Pos) where
  abbrev node_of : Part
  node_of = of_node (record { kind = f; span = span; mark = mark })

  abbrev kind_walk : Around → Seen → Seen → Walked Kind
  kind_walk c s = local_or (bare_local f.name span s) (f.walk mark c)

  abbrev Shown : Walked Kind → Type 0
  Shown w = is_some w.seen.unbuilt ≡ false → (kind_putting w.made).only_puts ≡ true

  node_shown : (b : Bool) (c : Around) (s : Seen) → is_shown c.role ≡ false → f.built c.role ≡ b → Shown (kind_walk c s (cond b s (unbuilt_at span.from s)))
  node_shown true c s r built = subst Shown (sym (no_local (f.walk mark c) f.name span s s (h.bare c.role built))) (h.shown mark c s r built)
  node_shown false c s r built = λ e. absurd (false≢true (sym e ∙ local_keeps (bare_local f.name span s) (f.walk mark c) (h.keeps mark c) _ (noted_at span.from s)))

  of_node_meets : PartMeets node_of
  of_node_meets = record {
    keeps = λ c s m. local_keeps (bare_local f.name span s) (f.walk mark c) (h.keeps mark c) _ (either (f.built c.role) s _ m (noted_at span.from s));
    shown = λ c s r e. ap (λ p. p.only_puts) (putting_made _ span mark) ∙ node_shown (f.built c.role) c s r refl e;
    quoted = λ c s e. ap (λ p. is_some p.text) (putting_made _ span mark)
        ∙ ap (λ (w : Walked Kind). is_some (kind_putting w.made).text) (no_local (f.walk mark c) f.name span s _ (h.unnamed e))
        ∙ h.quoted mark c _ e;
  }

node_step : (x : Node-F Base Kind ModuleForm Node Params) → KindMeets x.kind → NodeMeets (roll-Node x)
unfolding part form_part base_part module_part params_part
node_step x h = subst PartMeets (sym (fold-roll-Node BasePart FormPart (Walk ModuleForm) Part (Pos → Walk Params) of_base (of_kind None) of_form of_node of_params x)) (of_node_meets (form_part None x.kind) h x.span x.mark)

node_meets : (node : Node) → NodeMeets node
node_meets = ind-Node BaseMeets KindMeets ModuleMeets NodeMeets ParamsMeet
    (λ x y is. subst (λ l. BaseMeets (roll-Base l)) is (base_meets y))
    (λ x y is. subst (λ l. KindMeets (roll-Kind l)) is (kind_meets y))
    (λ x y is. subst (λ l. ModuleMeets (roll-ModuleForm l)) is (module_meets y))
    (λ x y is. node_step x (subst KindMeets (ap (λ (n : Node-F Base Kind ModuleForm Node Params). n.kind) is) y.kind.1))
    (λ x y is. subst (λ l. ParamsMeet (roll-Params l)) is (params_meet y))

-- ---- a program

none_noted : (r : Option Refusal) (u : Option Pos) → or_unbuilt r u ≡ None → is_some u ≡ false
none_noted None None e = refl
none_noted None (Some pos) e = let f = e in absurd cc
none_noted (Some refusal) u e = let f = e in absurd cc

pub only_puts_is : OnlyPuts
unfolding own_scope_fault
only_puts_is bundle sound =
    let p = sound.1.resolves in
    let program = p.program in
    let s = ((part None program.body).walk no_targets start).seen in
    ap (λ (program : Program). (putting program.body).only_puts) p.scoped.program_is
    ∙ (node_meets program.body).shown no_targets start refl (none_noted s.refusal s.unbuilt p.scoped.taken)
