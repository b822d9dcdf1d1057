-- Scope's walk over a tree as it was parsed notes what the tree says, and what it makes says the same where nothing is refused.
use Rattle.std.proofs.Common.{◌≡◌, ℕ, zero, suc, Bool, true, false, not, ◌&&◌, ◌||◌, cond, List, [], ◌∷◌, ◌++◌, map, Option, None, Some, refl, sym, ap, ◌∙◌, subst, append-nil}
use Rattle.std.specs.Prelude.{is_none, is_some}
use Rattle.std.specs.Option.{option_map}
use Rattle.std.proofs.lemmas.Bool.{false≢true}
use Rattle.std.proofs.lemmas.Slice.Eq.{bytes_eq-Decides}
use Rattle.opal_base.specs.declared.place.Pos.{Pos}
use Rattle.opal_base.specs.declared.place.Span.{Span}
use Rattle.ruby_meaning.specs.declared.construct.Construct.TheVariants as construct
use Rattle.ruby_meaning.specs.declared.scope.Around.{Around}
use Rattle.ruby_meaning.specs.declared.construct.Construct.{Construct}
use Rattle.ruby_meaning.specs.declared.scope.Role.{Role}
use Rattle.ruby_meaning.specs.declared.scope.Role.TheVariants as role
use Rattle.ruby_meaning.specs.declared.scope.Seen.{Seen}
use Rattle.ruby_meaning.specs.declared.tree.Base.{Base, out-Base, roll-Base, out-roll-Base}
use Rattle.ruby_meaning.specs.declared.tree.Base.TheFolds.{ind-Node, fold-roll-Base, fold-roll-Kind, fold-roll-ModuleForm, fold-roll-Node, fold-roll-Params, map-Base, map-Kind, map-ModuleForm, map-Params}
use Rattle.ruby_meaning.specs.declared.tree.Base.TheOpen.{Base-F, Kind-F, ModuleForm-F, Node-F, Params-F}
use Rattle.ruby_meaning.specs.declared.tree.Base.TheVariants as bases
use Rattle.ruby_meaning.specs.declared.tree.Kind.{Kind, out-Kind, roll-Kind, out-roll-Kind}
use Rattle.ruby_meaning.specs.declared.tree.Kind.TheVariants as kinds
use Rattle.ruby_meaning.specs.declared.tree.ModuleForm.{ModuleForm, out-ModuleForm, roll-ModuleForm, out-roll-ModuleForm}
use Rattle.ruby_meaning.specs.declared.tree.ModuleForm.TheVariants as forms
use Rattle.ruby_meaning.specs.declared.tree.Node.{Node, roll-Node}
use Rattle.ruby_meaning.specs.declared.tree.Params.{Params, roll-Params, out-Params, out-roll-Params}
use Rattle.ruby_meaning.specs.declared.tree.Rest.{Rest}
use Rattle.ruby_meaning.specs.declared.tree.Rest.TheVariants as rest
use Rattle.ruby_meaning.specs.declared.tree.Slot.{Slot}
use Rattle.ruby_meaning.specs.declared.tree.Slot.TheVariants as slot
use Rattle.ruby_meaning.specs.Scoping.Names.{Name, has, with_name}
use Rattle.ruby_meaning.specs.Scoping.Seen.{stands_before, outside, refuse_if, unbuilt_at, is_local, name_local, parameter, opened}
use Rattle.ruby_meaning.specs.Scoping.Walk.{Walked, walked, Walk, Part, FormPart, BasePart, plain, as_role, is_shown, is_target, is_condition, within_def, within_block, within_lambda, within_loop, within_rescue, no_targets, all, if_any, all_if_any, in_turn, names_in_turn, defaults_in_turn, guarded, guarded_two, branches, operator_name, setter, called_if_any, refuse_marked, is_require, is_relative, text_or_empty, only_text, requires_file, noted, noted_require, noted_call, only_name, resolved_call, call, bare_local, local_or, one_slot, slots, rest_name, block_name, rescued, of_base, of_kind, of_form, of_node, of_params, part, form_part, base_part, module_part, params_part}
use Rattle.ruby_meaning.specs.Scoping.Walk as walk
use Rattle.ruby_evaluation.specs.Locals.{Declared, behind_all}
use Rattle.ruby_evaluation.specs.Calls as calls
use Rattle.ruby_own_locals.specs.Events.{Events, end, odd, takes, sets, opens, apart, chain, Read, only, Reading, all_of, all_targets, same_name, joined, names_at, slot_at, slots_at, rest_at, name_at, defaults_at, set_at, is_alone, read}
use Rattle.ruby_own_locals.specs.Events as events
use Rattle.ruby_own_locals.specs.Law.{is_whole}
use Rattle.ruby_own_locals.proofs.Lists.{left_true, right_true, whole_chain, set_name, owns_in, erase}
use Rattle.ruby_own_locals.proofs.Lists as lists
use Rattle.ruby_own_locals.proofs.Meeting.{has_with, same_self}
use Rattle.ruby_own_locals.proofs.Steps.{not_earlier, owns, Steps, Quiet, steps_then, quiet_then, quiet_self, quiet_quiet, stays, quiet_steps, never, refused, of_unbuilt, of_called, of_called_if_any, of_marked, local_quiet, names_one, takes_one, block_steps, body_steps}

-- ---- a node that is walked

record Meets (s t : Seen) (m e : Read) : Type 0 where
  pub names : Steps s t m.events e.events
  pub targets : Steps s t m.targets e.targets
  -- a local that is only read was noted
  pub reads : (x : Name) → e.reads ≡ Some x → (z : Seen) × Quiet s z × (t ≡ name_local x z) × (m.events ≡ end)
  pub sets : (x : Name) → e.sets ≡ Some x → (p : Pos) × (r : Events) × (e.events ≡ sets x p r)
  pub made : (x : Name) → m.reads ≡ Some x → m.events ≡ end

no_name : {A : Type 0} (x : Name) → None ≡ Some x → A
no_name x e = let f = e in absurd cc

met : {s t : Seen} {m e : Events} → Steps s t m e → Meets s t (only m) (only e)
met x = record { names = x; targets = x; reads = λ x e. no_name x e; sets = λ x e. no_name x e; made = λ x e. no_name x e }

quiet_meets : {s t u : Seen} {m e : Read} → Quiet s t → Meets t u m e → Meets s u m e
quiet_meets q x = record {
  names = quiet_then q x.names;
  targets = quiet_then q x.targets;
  reads = λ n e. let r = x.reads n e in (r.0, quiet_quiet q r.1, r.2, r.3);
  sets = x.sets;
  made = x.made;
}

record PartMeets (p : Part) (n : Node) : Type 0 where
  pub walks : (d : ℕ) (c : Around) (s : Seen) → Meets s (p.walk c s).seen (read end d (p.walk c s).made) (read odd d n)
  pub starts : p.from ≡ n.span.from
  pub span : (c : Around) (s : Seen) → (p.walk c s).made.span ≡ n.span
  pub quoted : is_some p.text ≡ true → (d : ℕ) → is_whole (read odd d n).events ≡ true → (read odd d n).events ≡ end

abbrev Layer : Type 0
Layer = Kind-F Base Kind ModuleForm Node Params

-- what a name alone says
abbrev name_alone : Read
name_alone = record { events = end; targets = odd; reads = None; sets = None }

record FormMeets (f : FormPart) (l : Layer) : Type 0 where
  pub walks : (d : ℕ) (start mark : Pos) (c : Around) (s : Seen) → Meets s (f.walk mark c s).seen (events.of_kind end (read end d) (out-Kind (f.walk mark c s).made) start mark) (events.of_kind odd (read odd d) l start mark)
  pub alone : (x : Name) → f.name ≡ Some x → (d : ℕ) (start mark : Pos) → events.of_kind odd (read odd d) l start mark ≡ name_alone
  pub quoted : is_some f.text ≡ true → (d : ℕ) (start mark : Pos) → (events.of_kind odd (read odd d) l start mark).events ≡ end

abbrev BaseMeets : Base → Type 0
BaseMeets b = (d : ℕ) (c : Around) (s : Seen) → Steps s ((base_part None b).walk c s).seen (events.of_base (read end d) (out-Base ((base_part None b).walk c s).made)) (events.of_base (read odd d) (out-Base b))

abbrev KindMeets : Kind → Type 0
KindMeets k = FormMeets (form_part None k) (out-Kind k)

abbrev ModuleMeets : ModuleForm → Type 0
ModuleMeets f = (d : ℕ) (c : Around) (s : Seen) → Steps s (module_part None f c s).seen (events.of_form (read end d) (out-ModuleForm (module_part None f c s).made)) (events.of_form (read odd d) (out-ModuleForm f))

abbrev NodeMeets : Node → Type 0
NodeMeets n = PartMeets (part None n) n

abbrev ParamsMeet : Params → Type 0
ParamsMeet p = (d : ℕ) (start mark : Pos) (c : Around) (s : Seen) → Steps s (params_part None p mark c s).seen (events.of_params (read end d) start (out-Params (params_part None p mark c s).made)) (events.of_params (read odd d) start (out-Params p))

abbrev Kid : Type 0
Kid = (n : Node) × NodeMeets n

abbrev Kids : Type 0
Kids = List Kid

abbrev nodes_of : Kids → List Node
nodes_of ps = map (λ e. e.0) ps

abbrev parts_of : Kids → List Part
parts_of ps = map (part None) (nodes_of ps)

abbrev MayKid : Type 0
MayKid = Option Kid

abbrev node_if : MayKid → Option Node
node_if o = option_map (λ e. e.0) o

abbrev part_if : MayKid → Option Part
part_if o = option_map (part None) (node_if o)

module _ (d : ℕ) where
  abbrev f : Reading
  f = read end d

  abbrev g : Reading
  g = read odd d

  one : (p : Kid) (c : Around) (s : Seen) → Steps s ((part None p.0).walk c s).seen (f ((part None p.0).walk c s).made).events (g p.0).events
  one p c s = (p.1.walks d c s).names

  all_steps : (ps : Kids) (c : Around) (s : Seen) → Steps s (all (parts_of ps) c s).seen (all_of f (all (parts_of ps) c s).made) (all_of g (nodes_of ps))
  all_steps [] c s = stays s
  all_steps (p ∷ ps) c s = steps_then (one p c s) (all_steps ps c _)

  targets_steps : (ps : Kids) (c : Around) (s : Seen) → Steps s (all (parts_of ps) c s).seen (all_targets f (all (parts_of ps) c s).made) (all_targets g (nodes_of ps))
  targets_steps [] c s = stays s
  targets_steps (p ∷ ps) c s = steps_then (p.1.walks d c s).targets (targets_steps ps c _)

  if_steps : (o : MayKid) (c : Around) (s : Seen) → Steps s (if_any (part_if o) c s).seen (events.if_any f (if_any (part_if o) c s).made) (events.if_any g (node_if o))
  if_steps None c s = stays s
  if_steps (Some p) c s = one p c s

  pairs_steps : (ks vs : Kids) (c : Around) (s : Seen) → Steps s (in_turn (parts_of ks) (parts_of vs) c s).seen
      (events.in_turn f (in_turn (parts_of ks) (parts_of vs) c s).made.0 (in_turn (parts_of ks) (parts_of vs) c s).made.1) (events.in_turn g (nodes_of ks) (nodes_of vs))
  pairs_steps [] [] c s = stays s
  pairs_steps [] (v ∷ vs) c s = never
  pairs_steps (k ∷ ks) [] c s = never
  pairs_steps (k ∷ ks) (v ∷ vs) c s = steps_then (one k c s) (steps_then (one v c _) (pairs_steps ks vs c _))

  -- ---- in the order of the text

  -- a condition and what it guards: the walk, and what it says of the two that were made
  abbrev guarded_walk : Kid → Kid → Around → Around → Seen → Bool → Walked (Node × Node)
  guarded_walk q b c e s x = cond x (walk.two (λ b t. (t, b)) ((part None b.0).walk e) ((part None q.0).walk c) s) (walk.two (λ t b. (t, b)) ((part None q.0).walk c) ((part None b.0).walk e) s)

  abbrev guarded_says : Reading → Bool → Node → Node → Events
  guarded_says h x t n = cond x (chain (h n).events (h t).events) (chain (h t).events (h n).events)

  guarded_by : (q b : Kid) (c e : Around) (s : Seen) (x : Bool) → Steps s (guarded_walk q b c e s x).seen (guarded_says f x (guarded_walk q b c e s x).made.0 (guarded_walk q b c e s x).made.1) (guarded_says g x q.0 b.0)
  guarded_by q b c e s true = steps_then (one b e s) (one q c _)
  guarded_by q b c e s false = steps_then (one q c s) (one b e _)

  first_span : (q b : Kid) (c e : Around) (s : Seen) (x : Bool) → (guarded_walk q b c e s x).made.0.span ≡ q.0.span
  first_span q b c e s true = q.1.span c _
  first_span q b c e s false = q.1.span c s

  second_span : (q b : Kid) (c e : Around) (s : Seen) (x : Bool) → (guarded_walk q b c e s x).made.1.span ≡ b.0.span
  second_span q b c e s true = b.1.span e s
  second_span q b c e s false = b.1.span e _

  -- the test of the walk is that of the nodes, and of those that are made
  same_test : (a b : Kid) (x y : Node) → x.span ≡ a.0.span → y.span ≡ b.0.span → stands_before (part None a.0).from (part None b.0).from ≡ stands_before x.span.from y.span.from
  same_test a b x y i j = rw (a.1.starts, b.1.starts, i, j) refl

  guarded_steps : (q b : Kid) (c e : Around) (s : Seen) → let w = guarded (part None q.0) (part None b.0) c e s in
      Steps s w.seen (events.guarded f w.made.0 w.made.1) (events.guarded g q.0 b.0)
  guarded_steps q b c e s =
      let x = stands_before (part None b.0).from (part None q.0).from in
      let w = guarded_walk q b c e s x in
      subst (λ y. Steps s w.seen (guarded_says f y w.made.0 w.made.1) (events.guarded g q.0 b.0)) (same_test b q w.made.1 w.made.0 (second_span q b c e s x) (first_span q b c e s x))
      (subst (λ y. Steps s w.seen (guarded_says f x w.made.0 w.made.1) (guarded_says g y q.0 b.0)) (same_test b q b.0 q.0 refl refl) (guarded_by q b c e s x))

  abbrev two_walk : Kid → Kid → Kid → Around → Around → Seen → Bool → Walked (Node × (Node × Node))
  two_walk q a b c e s x = cond x (walk.two (λ x r. (r.0, (x, r.1))) ((part None a.0).walk e) (guarded (part None q.0) (part None b.0) c e) s)
      (walk.three (λ t x y. (t, (x, y))) ((part None q.0).walk c) ((part None a.0).walk e) ((part None b.0).walk e) s)

  abbrev two_says : Reading → Bool → Node → Node → Node → Events
  two_says h x t a b = cond x (chain (h a).events (events.guarded h t b)) (chain (h t).events (chain (h a).events (h b).events))

  two_by : (q a b : Kid) (c e : Around) (s : Seen) (x : Bool) → let w = two_walk q a b c e s x in Steps s w.seen (two_says f x w.made.0 w.made.1.0 w.made.1.1) (two_says g x q.0 a.0 b.0)
  two_by q a b c e s true = steps_then (one a e s) (guarded_steps q b c e _)
  two_by q a b c e s false = steps_then (one q c s) (steps_then (one a e _) (one b e _))

  two_first : (q a b : Kid) (c e : Around) (s : Seen) (x : Bool) → (two_walk q a b c e s x).made.0.span ≡ q.0.span
  two_first q a b c e s true = first_span q b c e _ _
  two_first q a b c e s false = q.1.span c s

  two_second : (q a b : Kid) (c e : Around) (s : Seen) (x : Bool) → (two_walk q a b c e s x).made.1.0.span ≡ a.0.span
  two_second q a b c e s true = a.1.span e s
  two_second q a b c e s false = a.1.span e _

  two_third : (q a b : Kid) (c e : Around) (s : Seen) (x : Bool) → (two_walk q a b c e s x).made.1.1.span ≡ b.0.span
  two_third q a b c e s true = second_span q b c e _ _
  two_third q a b c e s false = b.1.span e _

  two_steps : (q a b : Kid) (c e : Around) (s : Seen) → let w = guarded_two (part None q.0) (part None a.0) (part None b.0) c e s in
      Steps s w.seen (events.guarded_two f w.made.0 w.made.1.0 w.made.1.1) (events.guarded_two g q.0 a.0 b.0)
  two_steps q a b c e s =
      let x = stands_before (part None a.0).from (part None q.0).from in
      let w = two_walk q a b c e s x in
      subst (λ y. Steps s w.seen (two_says f y w.made.0 w.made.1.0 w.made.1.1) (events.guarded_two g q.0 a.0 b.0)) (same_test a q w.made.1.0 w.made.0 (two_second q a b c e s x) (two_first q a b c e s x))
      (subst (λ y. Steps s w.seen (two_says f x w.made.0 w.made.1.0 w.made.1.1) (two_says g y q.0 a.0 b.0)) (same_test a q a.0 q.0 refl refl) (two_by q a b c e s x))

  abbrev branches_walk : Kid → Kid → Kid → Around → Around → Seen → Bool → Walked (Node × (Node × Node))
  branches_walk q a b c e s x = cond x (walk.onto (λ r. (r.0, ((r.1).1, (r.1).0))) (guarded_two (part None q.0) (part None b.0) (part None a.0) c e s))
      (guarded_two (part None q.0) (part None a.0) (part None b.0) c e s)

  abbrev branches_says : Reading → Bool → Node → Node → Node → Events
  branches_says h x t a b = cond x (events.guarded_two h t b a) (events.guarded_two h t a b)

  branches_by : (q a b : Kid) (c e : Around) (s : Seen) (x : Bool) → let w = branches_walk q a b c e s x in Steps s w.seen (branches_says f x w.made.0 w.made.1.0 w.made.1.1) (branches_says g x q.0 a.0 b.0)
  branches_by q a b c e s true = two_steps q b a c e s
  branches_by q a b c e s false = two_steps q a b c e s

  branches_second : (q a b : Kid) (c e : Around) (s : Seen) (x : Bool) → (branches_walk q a b c e s x).made.1.0.span ≡ a.0.span
  branches_second q a b c e s true = two_third q b a c e s _
  branches_second q a b c e s false = two_second q a b c e s _

  branches_third : (q a b : Kid) (c e : Around) (s : Seen) (x : Bool) → (branches_walk q a b c e s x).made.1.1.span ≡ b.0.span
  branches_third q a b c e s true = two_second q b a c e s _
  branches_third q a b c e s false = two_third q a b c e s _

  branches_steps : (q a b : Kid) (c e : Around) (s : Seen) → let w = branches (part None q.0) (part None a.0) (part None b.0) c e s in
      Steps s w.seen (events.branches f w.made.0 w.made.1.0 w.made.1.1) (events.branches g q.0 a.0 b.0)
  branches_steps q a b c e s =
      let x = stands_before (part None b.0).from (part None a.0).from in
      let w = branches_walk q a b c e s x in
      subst (λ y. Steps s w.seen (branches_says f y w.made.0 w.made.1.0 w.made.1.1) (events.branches g q.0 a.0 b.0)) (same_test b a w.made.1.1 w.made.1.0 (branches_third q a b c e s x) (branches_second q a b c e s x))
      (subst (λ y. Steps s w.seen (branches_says f x w.made.0 w.made.1.0 w.made.1.1) (branches_says g y q.0 a.0 b.0)) (same_test b a b.0 a.0 refl refl) (branches_by q a b c e s x))

  -- ---- parameters

  names_steps : (mark p : Pos) (ns : List Name) (s : Seen) → Steps s (names_in_turn mark ns s) (names_at p ns) (names_at p ns)
  names_steps mark p [] s = stays s
  names_steps mark p (n ∷ ns) s = steps_then (takes_one mark n p s) (names_steps mark p ns _)

  slot_steps : (mark p : Pos) (x : Slot) (s : Seen) → Steps s (one_slot mark x s) (slot_at p x) (slot_at p x)
  slot_steps mark p (slot.Name n) s = takes_one mark n p s
  slot_steps mark p (slot.Names ns) s = names_steps mark p ns s

  slots_steps : (mark p : Pos) (xs : List Slot) (s : Seen) → Steps s (slots mark xs s) (slots_at p xs) (slots_at p xs)
  slots_steps mark p [] s = stays s
  slots_steps mark p (x ∷ xs) s = steps_then (slot_steps mark p x s) (slots_steps mark p xs _)

  rest_steps : (mark p : Pos) (x : Rest) (s : Seen) → Steps s (rest_name mark x s) (rest_at p x) (rest_at p x)
  rest_steps mark p rest.None s = stays s
  rest_steps mark p rest.Unnamed s = stays s
  rest_steps mark p (rest.Named n) s = takes_one mark n p s

  name_steps : (mark p : Pos) (x : Option Name) (s : Seen) → Steps s (block_name mark x s) (name_at p x) (name_at p x)
  name_steps mark p None s = stays s
  name_steps mark p (Some n) s = takes_one mark n p s

  defaults_steps : (mark p : Pos) (ns : List Name) (ks : Kids) (c : Around) (s : Seen) → let w = defaults_in_turn mark ns (parts_of ks) c s in
      Steps s w.seen (defaults_at f p ns w.made) (defaults_at g p ns (nodes_of ks))
  defaults_steps mark p ns [] c s = names_steps mark p ns s
  defaults_steps mark p [] (k ∷ ks) c s = steps_then (one k c s) (defaults_steps mark p [] ks c _)
  defaults_steps mark p (n ∷ ns) (k ∷ ks) c s =
      let t = parameter mark n s in
      let here = (part None k.0).walk c t in
      let w = defaults_in_turn mark ns (parts_of ks) c here.seen in
      steps_then (takes_one mark n p s) (steps_then (one k c t)
      (subst (λ z. Steps here.seen w.seen (defaults_at f z.to ns w.made) (defaults_at g k.0.span.to ns (nodes_of ks))) (sym (k.1.span c t)) (defaults_steps mark k.0.span.to ns ks c here.seen)))

  behind_same : (mark p : Pos) (ns : List Name) (ks : Kids) (c : Around) (s : Seen) → behind_all p (defaults_in_turn mark ns (parts_of ks) c s).made ≡ behind_all p (nodes_of ks)
  behind_same mark p ns [] c s = refl
  behind_same mark p [] (k ∷ ks) c s =
      let here = (part None k.0).walk c s in
      ap (λ z. behind_all z.to (defaults_in_turn mark [] (parts_of ks) c here.seen).made) (k.1.span c s) ∙ behind_same mark k.0.span.to [] ks c here.seen
  behind_same mark p (n ∷ ns) (k ∷ ks) c s =
      let t = parameter mark n s in
      let here = (part None k.0).walk c t in
      ap (λ z. behind_all z.to (defaults_in_turn mark ns (parts_of ks) c here.seen).made) (k.1.span c t) ∙ behind_same mark k.0.span.to ns ks c here.seen

  -- ---- `x ||= v`

  a_name : (o p : Option Name) → same_name o p ≡ true → (x : Name) × (o ≡ Some x) × (p ≡ Some x)
  a_name None p e = absurd (false≢true e)
  a_name (Some x) None e = absurd (false≢true e)
  a_name (Some x) (Some y) e = (x, refl, ap (λ z. Some z) (sym ((bytes_eq-Decides x y).0 e)))

  made_joined : (a b : Read) → ((x : Name) → a.reads ≡ Some x → a.events ≡ end) → joined a b ≡ chain a.events b.events
  made_joined a b h = by (same_name a.reads b.sets) refl where
    by : (x : Bool) → same_name a.reads b.sets ≡ x → cond x b.events (chain a.events b.events) ≡ chain a.events b.events
    by true e = let n = a_name a.reads b.sets e in ap (λ z. chain z b.events) (sym (h n.0 n.1))
    by false e = refl

  has_self : (own : List Name) (x : Name) → has (with_name own x) x ≡ true
  has_self own x = has_with own x x ∙ ap (λ b. has own x || b) (same_self x) ∙ lists.or_swap (has own x) true

  set_twice : (outer : List (List Name)) (own : List Name) (x : Name) → set_name outer (set_name outer own x) x ≡ set_name outer own x
  set_twice outer own x = by (has own x) (outside outer x) refl refl where
    by : (b c : Bool) → has own x ≡ b → outside outer x ≡ c → set_name outer (cond b own (cond c own (with_name own x))) x ≡ cond b own (cond c own (with_name own x))
    by true c h i = ap (λ b. cond b own (cond (outside outer x) own (with_name own x))) h
    by false true h i = ap (λ b. cond b own (cond (outside outer x) own (with_name own x))) h ∙ ap (λ c. cond c own (with_name own x)) i
    by false false h i = ap (λ b. cond b (with_name own x) (cond (outside outer x) (with_name own x) (with_name (with_name own x) x))) (has_self own x)

  again : (z u : Seen) (x : Name) (p : Pos) (r ms : Events) → Steps (name_local x z) u ms (sets x p r) → Steps z u ms (sets x p r)
  again z u x p r ms y = record {
    by = λ w.
        let h = y.by w in
        let t = name_local x z in
        let n = (names_one x p z).by refl in
        record {
          own = h.own ∙ ap (λ o. lists.noted o (set_name o t.own x) r) n.outer ∙ ap (λ l. lists.noted z.outer (set_name z.outer l x) r) n.own ∙ ap (λ l. lists.noted z.outer l r) (set_twice z.outer z.own x);
          outer = h.outer ∙ n.outer;
          scopes = h.scopes ∙ ap (λ l. l ++ owns_in t.outer (set_name t.outer t.own x) r) (n.scopes ∙ append-nil (owns z.scopes)) ∙ ap (λ o. owns z.scopes ++ owns_in o (set_name o t.own x) r) n.outer
              ∙ ap (λ l. owns z.scopes ++ owns_in z.outer (set_name z.outer l x) r) n.own ∙ ap (λ l. owns z.scopes ++ owns_in z.outer l r) (set_twice z.outer z.own x);
          keeps = λ e. n.keeps (h.keeps e);
          same = h.same;
        };
  }

  joined_steps : (s t u : Seen) (ma mb a b : Read) → Meets s t ma a → Meets t u mb b → Steps s u (joined ma mb) (joined a b)
  joined_steps s t u ma mb a b x y = by (same_name a.reads b.sets) refl where
    by : (v : Bool) → same_name a.reads b.sets ≡ v → Steps s u (joined ma mb) (cond v b.events (chain a.events b.events))
    by false h = subst (λ z. Steps s u z (chain a.events b.events)) (sym (made_joined ma mb x.made)) (steps_then x.names y.names)
    by true h =
        let n = a_name a.reads b.sets h in
        let r = x.reads n.0 n.1 in
        let v = y.sets n.0 n.2 in
        subst (λ z. Steps s u z b.events) (sym (made_joined ma mb x.made ∙ ap (λ z. chain z mb.events) r.3))
        (quiet_then r.1 (subst (Steps r.0 u mb.events) (sym v.2)
        (again r.0 u n.0 v.0 v.1 mb.events (subst (λ z. Steps z u mb.events (sets n.0 v.0 v.1)) r.2 (subst (Steps t u mb.events) v.2 y.names)))))

-- ---- calls

noted_quiet : (receiver : Option Part) (name : Name) (args : List Part) (o : Option Part) (marked : Option Pos) (mark : Pos) (r : Role) (s : Seen) → Quiet s (noted None receiver name args o marked mark r s)
unfolding noted noted_require noted_call
noted_quiet receiver name args o marked mark r s = by (is_none receiver && is_require name) where
  by : (b : Bool) → Quiet s (cond b (noted_require None name args o marked mark s) (noted_call (is_none receiver) name args o marked mark r s))
  by true = quiet_quiet (refused _ mark _ s) (of_marked _ marked _)
  by false = quiet_quiet (of_called _ s) (quiet_quiet (refused _ mark _ _) (quiet_quiet (refused _ mark _ _) (of_marked _ marked _)))

not_refused : (b : Bool) (p : Pos) (c : Construct) (s : Seen) → (refuse_if b p c s).refusal ≡ None → b ≡ false
unfolding refuse_if
not_refused false p c s e = refl
not_refused true p c s e = not_earlier s.refusal p c e

steps_made : {s t : Seen} {ms es : Events} → Steps s t ms es → (is_whole es ≡ true → t.refusal ≡ None → es ≡ end) → Steps s t end es
steps_made x h = record { by = λ w. let y = x.by w in record { own = y.own; outer = y.outer; scopes = y.scopes; keeps = y.keeps; same = λ e. sym (ap erase (h w e)) } }

not_false : (b : Bool) → not b ≡ false → b ≡ true
not_false true e = refl
not_false false e = sym e

both_two : (a b : Bool) → (a && b) ≡ true → (a ≡ true) × (b ≡ true)
both_two true b e = (refl, e)
both_two false b e = absurd (false≢true e)

module _ (d : ℕ) (receiver o : MayKid) (name : Name) (args : Kids) (marked : Option Pos) (mark : Pos) (c : Around) (s : Seen) where
  abbrev before : Seen
  before = noted None (part_if receiver) name (parts_of args) (part_if o) marked mark c.role s

  abbrev receiver_walk : Walked (Option Node)
  receiver_walk = if_any (part_if receiver) (plain c) before

  abbrev args_walk : Walked (List Node)
  args_walk = all (parts_of args) (as_role (cond (walk.is_shown_text (part_if receiver) name (parts_of args) (part_if o)) role.Shown role.Plain) c) receiver_walk.seen

  abbrev block_walk : Walked (Option Node)
  block_walk = if_any (part_if o) (plain c) args_walk.seen

  abbrev call_says : Events
  call_says = chain (chain (events.if_any (read odd d) (node_if receiver)) (all_of (read odd d) (nodes_of args))) (events.if_any (read odd d) (node_if o))

  abbrev call_made : Events
  call_made = chain (chain (events.if_any (read end d) receiver_walk.made) (all_of (read end d) args_walk.made)) (events.if_any (read end d) block_walk.made)

  parts_steps : Steps before block_walk.seen call_made call_says
  parts_steps = steps_then (steps_then (if_steps d receiver (plain c) before) (all_steps d args _ receiver_walk.seen)) (if_steps d o (plain c) args_walk.seen)

  call_steps : Steps s block_walk.seen call_made call_says
  call_steps = quiet_then (noted_quiet (part_if receiver) name (parts_of args) (part_if o) marked mark c.role s) parts_steps

-- a `require` has one text alone
text_says : (d : ℕ) (p : Kid) (t : Option Name) → (part None p.0).text ≡ t → is_some t ≡ true → is_whole (read odd d p.0).events ≡ true → (read odd d p.0).events ≡ end
text_says d p t e h w = p.1.quoted (ap is_some e ∙ h) d w

require_says : (d : ℕ) (o : MayKid) (name : Name) (args : Kids) → requires_file None name (only_text (parts_of args)) (is_none (part_if o)) ≡ true
    → is_whole (chain (chain end (all_of (read odd d) (nodes_of args))) (events.if_any (read odd d) (node_if o))) ≡ true
    → chain (chain end (all_of (read odd d) (nodes_of args))) (events.if_any (read odd d) (node_if o)) ≡ end
require_says d o name [] r w = absurd (false≢true r)
require_says d o name (p ∷ (q ∷ qs)) r w = absurd (false≢true r)
require_says d None name (p ∷ []) r w = by (part None p.0).text refl r where
  e : Events
  e = (read odd d p.0).events

  by : (t : Option Name) → (part None p.0).text ≡ t → requires_file None name t true ≡ true → chain (chain (read odd d p.0).events end) end ≡ end
  by None f r = absurd (false≢true r)
  by (Some t) f r = ap (λ z. chain (chain z end) end) (text_says d p (Some t) f refl
      (left_true _ true (sym (whole_chain (read odd d p.0).events end) ∙ left_true _ true (sym (whole_chain (chain (read odd d p.0).events end) end) ∙ w))))
require_says d (Some b) name (p ∷ []) r w = by (part None p.0).text r where
  by : {A : Type 0} (t : Option Name) → requires_file None name t false ≡ true → A
  by None r = absurd (false≢true r)
  by (Some t) r = absurd (false≢true r)

require_made : (d : ℕ) (o : MayKid) (name : Name) (args : Kids) (marked : Option Pos) (mark : Pos) (c : Around) (s : Seen) → is_require name ≡ true
    → is_whole (call_says d None o name args marked mark c s) ≡ true → (block_walk d None o name args marked mark c s).seen.refusal ≡ None → call_says d None o name args marked mark c s ≡ end
unfolding noted noted_require
require_made d o name args marked mark c s r w e =
    let x = ((parts_steps d None o name args marked mark c s).by w).keeps e in
    let y = subst (λ b. (cond b (noted_require None name (parts_of args) (part_if o) marked mark s) (noted_call true name (parts_of args) (part_if o) marked mark c.role s)).refusal ≡ None) r x in
    let z = not_refused _ mark _ s ((of_marked (is_local s name) marked _).keeps y) in
    require_says d o name args (not_false _ z) w

same_alone : (receiver o : MayKid) (args : Kids) (c e : Around) (s t u : Seen) → is_alone (if_any (part_if receiver) c s).made (all (parts_of args) e t).made (if_any (part_if o) c u).made ≡ is_alone (node_if receiver) (nodes_of args) (node_if o)
same_alone None None [] c e s t u = refl
same_alone None (Some o) [] c e s t u = refl
same_alone None None (a ∷ more) c e s t u = refl
same_alone None (Some o) (a ∷ more) c e s t u = refl
same_alone (Some r) None [] c e s t u = refl
same_alone (Some r) (Some o) [] c e s t u = refl
same_alone (Some r) None (a ∷ more) c e s t u = refl
same_alone (Some r) (Some o) (a ∷ more) c e s t u = refl

unless_odd : {s t : Seen} {ms es : Events} (b : Bool) → Steps s t ms es → Steps s t (cond b odd ms) (cond b odd es)
unless_odd true x = never
unless_odd false x = x

call_required : (d : ℕ) (receiver o : MayKid) (name : Name) (args : Kids) (marked : Option Pos) (mark : Pos) (c : Around) (s : Seen) → (is_none (part_if receiver) && is_require name) ≡ true
    → is_whole (call_says d receiver o name args marked mark c s) ≡ true → (block_walk d receiver o name args marked mark c s).seen.refusal ≡ None → call_says d receiver o name args marked mark c s ≡ end
call_required d None o name args marked mark c s r w e = require_made d o name args marked mark c s r w e
call_required d (Some k) o name args marked mark c s r w e = absurd (false≢true r)

-- what is made of a layer
made_as : {s t : Seen} {e : Read} (l : Layer) (k : Kind) → roll-Kind l ≡ k → (d : ℕ) (start mark : Pos) → Meets s t (events.of_kind end (read end d) l start mark) e → Meets s t (events.of_kind end (read end d) (out-Kind k) start mark) e
made_as {s} {t} {e} l k r d start mark x = subst (λ z. Meets s t (events.of_kind end (read end d) z start mark) e) (sym (ap out-Kind (sym r) ∙ out-roll-Kind l)) x

odd_or_end : {s t : Seen} {ms es : Events} (b : Bool) → Steps s t ms es → (is_whole es ≡ true → t.refusal ≡ None → es ≡ end) → Steps s t end (cond b odd es)
odd_or_end true x h = never
odd_or_end false x h = steps_made x h

call_walks : (d : ℕ) (receiver o : MayKid) (name : Name) (args : Kids) (marked : Option Pos) (start mark : Pos) (c : Around) (s : Seen)
    → let w = call None (part_if receiver) name (parts_of args) (part_if o) marked mark c s in
    Meets s w.seen (events.of_kind end (read end d) (out-Kind w.made) start mark) (events.of_kind odd (read odd d) (Kind-F.Call (node_if receiver) name (nodes_of args) (node_if o) marked) start mark)
unfolding call resolved_call
call_walks d receiver o name args marked start mark c s = by (is_none (part_if receiver) && is_require name) refl where
  by : (b : Bool) → (is_none (part_if receiver) && is_require name) ≡ b
      → Meets s (block_walk d receiver o name args marked mark c s).seen
      (events.of_kind end (read end d) (out-Kind (resolved_call b name (only_text (parts_of args)) marked (receiver_walk d receiver o name args marked mark c s).made (args_walk d receiver o name args marked mark c s).made (block_walk d receiver o name args marked mark c s).made)) start mark)
      (events.of_kind odd (read odd d) (Kind-F.Call (node_if receiver) name (nodes_of args) (node_if o) marked) start mark)
  by true e = made_as _ _ (kinds.rolls-Require _ _) d start mark (record {
    names = steps_made (call_steps d receiver o name args marked mark c s) (call_required d receiver o name args marked mark c s e);
    targets = odd_or_end (is_alone (node_if receiver) (nodes_of args) (node_if o)) (call_steps d receiver o name args marked mark c s) (call_required d receiver o name args marked mark c s e);
    reads = λ x e. no_name x e;
    sets = λ x e. no_name x e;
    made = λ x e. no_name x e;
  })
  by false e = made_as _ _ (kinds.rolls-Call (receiver_walk d receiver o name args marked mark c s).made name (args_walk d receiver o name args marked mark c s).made (block_walk d receiver o name args marked mark c s).made marked) d start mark (record {
    names = call_steps d receiver o name args marked mark c s;
    targets = subst (λ z. Steps s (block_walk d receiver o name args marked mark c s).seen (cond z odd (call_made d receiver o name args marked mark c s)) (cond (is_alone (node_if receiver) (nodes_of args) (node_if o)) odd (call_says d receiver o name args marked mark c s)))
        (sym (same_alone receiver o args (plain c) (as_role (cond (walk.is_shown_text (part_if receiver) name (parts_of args) (part_if o)) role.Shown role.Plain) c) (before d receiver o name args marked mark c s) (receiver_walk d receiver o name args marked mark c s).seen (args_walk d receiver o name args marked mark c s).seen)) (unless_odd (is_alone (node_if receiver) (nodes_of args) (node_if o)) (call_steps d receiver o name args marked mark c s));
    reads = λ x e. no_name x e;
    sets = λ x e. no_name x e;
    made = λ x e. no_name x e;
  })

-- ---- each form

abbrev KidLayer : Type 0
KidLayer = Kind-F ((b : Base) × BaseMeets b) ((k : Kind) × KindMeets k) ((f : ModuleForm) × ModuleMeets f) Kid ((p : Params) × ParamsMeet p)

abbrev whole_of : KidLayer → Layer
whole_of = map-Kind ((b : Base) × BaseMeets b) ((k : Kind) × KindMeets k) ((f : ModuleForm) × ModuleMeets f) Kid ((p : Params) × ParamsMeet p) Base Kind ModuleForm Node Params (λ e. e.0) (λ e. e.0) (λ e. e.0) (λ e. e.0) (λ e. e.0)

abbrev folded : KidLayer → FormPart
folded l = of_kind None (map-Kind Base Kind ModuleForm Node Params BasePart FormPart (Walk ModuleForm) Part (Pos → Walk Params) (base_part None) (form_part None) (module_part None) (part None) (params_part None) (whole_of l))

form_meets : (f : FormPart) (l : Layer) → f.name ≡ None → f.text ≡ None
    → ((d : ℕ) (start mark : Pos) (c : Around) (s : Seen) → Meets s (f.walk mark c s).seen (events.of_kind end (read end d) (out-Kind (f.walk mark c s).made) start mark) (events.of_kind odd (read odd d) l start mark))
    → FormMeets f l
form_meets f l e t w = record {
  walks = w;
  alone = λ x h. no_name x (sym e ∙ h);
  quoted = λ h. absurd (false≢true (sym (ap is_some t) ∙ h));
}

abbrev ParamsKid : Type 0
ParamsKid = (p : Params) × ParamsMeet p

abbrev inside : {A : Type 0} → (Params → Node → A) → Params → Node → Pos → Around → Seen → Walked A
inside h params n mark c = walk.two h (params_part None params mark c) ((part None n).walk c)

inside_steps : (d : ℕ) (params : ParamsKid) (n : Kid) (start mark : Pos) (c : Around) (s : Seen) → let p = params_part None params.0 mark c s in
    Steps s ((part None n.0).walk c p.seen).seen (chain (events.of_params (read end d) start (out-Params p.made)) (read end d ((part None n.0).walk c p.seen).made).events)
    (chain (events.of_params (read odd d) start (out-Params params.0)) (read odd d n.0).events)
inside_steps d params n start mark c s = steps_then (params.1 d start mark c s) (one d n c _)

block_walks : (d : ℕ) (params : ParamsKid) (n : Kid) (h : Params → Node → Kind) (start mark : Pos) (c : Around) (s : Seen) →
    let s' = opened (s.outer ++ s.own ∷ []) s in
    let p = params_part None params.0 mark c s' in
    Steps s (walk.in_block (inside h params.0 n.0 mark c) s).seen (events.in_block (read end d) start p.made ((part None n.0).walk c p.seen).made) (events.in_block (read odd d) start params.0 n.0)
block_walks d params n h start mark c s = block_steps s _ start _ _ _ _ _ _ (inside_steps d params n start mark c (opened (s.outer ++ s.own ∷ []) s))

abbrev both_parts : Params → Node → Params × Node
both_parts p b = (p, b)

method_walks : (d : ℕ) (params : ParamsKid) (n : Kid) (mark : Pos) (s : Seen) →
    let w = walk.in_body (inside both_parts params.0 n.0 mark within_def) s in
    Steps s w.seen (events.in_method (read end d) w.made.0 w.made.1) (events.in_method (read odd d) params.0 n.0)
method_walks d params n mark s = body_steps s _ _ _ _ _ (inside_steps d params n calls.start mark within_def (opened [] s))

body_walks : (d : ℕ) (n : Kid) (s : Seen) (ds ds' : Declared) →
    let w = walk.in_body ((part None n.0).walk no_targets) s in
    Steps s w.seen (apart ds (read end d w.made).events end) (apart ds' (read odd d n.0).events end)
body_walks d n s ds ds' = body_steps s _ ds ds' _ _ (one d n no_targets (opened [] s))

all_if_steps : (d : ℕ) (o : Option Kids) (c : Around) (s : Seen) → let w = all_if_any (option_map (map (part None)) (option_map nodes_of o)) c s in
    Steps s w.seen (events.all_if_any (read end d) w.made) (events.all_if_any (read odd d) (option_map nodes_of o))
all_if_steps d None c s = stays s
all_if_steps d (Some ps) c s = all_steps d ps c s

rescued_steps : (p : Pos) (o : Option Name) (s : Seen) → Steps s (rescued o s) (set_at p o) (set_at p o)
unfolding rescued
rescued_steps p None s = stays s
rescued_steps p (Some n) s = names_one n p s

some_name : Name → Option Name → Name
some_name n None = n
some_name n (Some x) = x

same_some : (n x : Name) → Some n ≡ Some x → n ≡ x
unfolding some_name
same_some n x e = ap (some_name n) e

local_get : (name : Name) (d : ℕ) (start mark : Pos) (s : Seen) → Meets s (name_local name s) (events.of_kind end (read end d) (Kind-F.LocalGet name) start mark) (events.of_kind odd (read odd d) (Kind-F.LocalGet name) start mark)
local_get name d start mark s = record {
  names = never;
  targets = names_one name mark s;
  reads = λ x e. (s, quiet_self s, ap (λ z. name_local z s) (same_some name x e), refl);
  sets = λ x e. no_name x e;
  made = λ x e. refl;
}

local_set : (name : Name) (v : Kid) (d : ℕ) (start mark : Pos) (c : Around) (s : Seen) → let w = (part None v.0).walk c (name_local name s) in
    Meets s w.seen (events.of_kind end (read end d) (Kind-F.LocalSet name w.made) start mark) (events.of_kind odd (read odd d) (Kind-F.LocalSet name v.0) start mark)
local_set name v d start mark c s = record {
  names = steps_then (names_one name mark s) (one d v c (name_local name s));
  targets = steps_then (names_one name mark s) (one d v c (name_local name s));
  reads = λ x e. no_name x e;
  sets = λ x e. (mark, (read odd d v.0).events, ap (λ z. sets z mark (read odd d v.0).events) (same_some name x e));
  made = λ x e. no_name x e;
}

splat : (v : Kid) (d : ℕ) (start mark : Pos) (c : Around) (s : Seen) → let w = (part None v.0).walk c s in
    Meets s w.seen (events.of_kind end (read end d) (Kind-F.Splat w.made) start mark) (events.of_kind odd (read odd d) (Kind-F.Splat v.0) start mark)
splat v d start mark c s = record {
  names = one d v c s;
  targets = (v.1.walks d c s).targets;
  reads = λ x e. no_name x e;
  sets = λ x e. no_name x e;
  made = λ x e. no_name x e;
}

joined_walks : (d : ℕ) (a b : Kid) (c e : Around) (s : Seen) → let w = (part None a.0).walk c s in let v = (part None b.0).walk e w.seen in
    Steps s v.seen (joined (read end d w.made) (read end d v.made)) (joined (read odd d a.0) (read odd d b.0))
joined_walks d a b c e s = joined_steps d s _ _ _ _ _ _ (a.1.walks d c s) (b.1.walks d e _)

call_meets : (receiver o : MayKid) (name : Name) (args : Kids) (marked : Option Pos) → FormMeets (record {
  name = only_name (part_if receiver) name (parts_of args) (part_if o);
  text = None;
  is_block = false;
  built = λ r. walk.is_shown_text (part_if receiver) name (parts_of args) (part_if o);
  walk = call None (part_if receiver) name (parts_of args) (part_if o) marked;
}) (Kind-F.Call (node_if receiver) name (nodes_of args) (node_if o) marked)
call_meets receiver o name args marked = record {
  walks = λ d start mark c s. call_walks d receiver o name args marked start mark c s;
  alone = alone receiver o args;
  quoted = λ h. absurd (false≢true h);
} where
  alone : (receiver o : MayKid) (args : Kids) (x : Name) → only_name (part_if receiver) name (parts_of args) (part_if o) ≡ Some x → (d : ℕ) (start mark : Pos)
      → events.of_kind odd (read odd d) (Kind-F.Call (node_if receiver) name (nodes_of args) (node_if o) marked) start mark ≡ name_alone
  alone None None [] x e d start mark = refl
  alone None (Some b) [] x e d start mark = no_name x e
  alone None None (a ∷ more) x e d start mark = no_name x e
  alone None (Some b) (a ∷ more) x e d start mark = no_name x e
  alone (Some r) o args x e d start mark = no_name x e

str_meets : (units : Name) → FormMeets (record { name = None; text = Some units; is_block = false; built = is_shown; walk = λ mark c s. walked s (kinds.Str units) }) (Kind-F.Str units)
str_meets units = record {
  walks = λ d start mark c s. made_as _ _ (kinds.rolls-Str units) d start mark (met (stays s));
  alone = λ x h. no_name x h;
  quoted = λ h d start mark. refl;
}

-- the forms with parts that may be missing
super_walks : (d : ℕ) (args : Option Kids) (o : MayKid) (start mark : Pos) (c : Around) (s : Seen) →
    let w = walk.super (option_map (map (part None)) (option_map nodes_of args)) (part_if o) mark c s in
    Meets s w.seen (events.of_kind end (read end d) (out-Kind w.made) start mark) (events.of_kind odd (read odd d) (Kind-F.Super (option_map nodes_of args) (node_if o)) start mark)
super_walks d args o start mark c s =
    let t = refuse_if (not c.in_def) mark construct.JumpOutside s in
    let a = all_if_any (option_map (map (part None)) (option_map nodes_of args)) (plain c) t in
    let b = if_any (part_if o) (plain c) a.seen in
    made_as _ _ (kinds.rolls-Super a.made b.made) d start mark (met (quiet_then (refused (not c.in_def) mark construct.JumpOutside s) (steps_then (all_if_steps d args (plain c) t) (if_steps d o (plain c) a.seen))))

case_walks : (d : ℕ) (o : MayKid) (whens : Kids) (otherwise : Kid) (e : Around) (start mark : Pos) (c : Around) (s : Seen) →
    let a = if_any (part_if o) (plain c) s in
    let b = all (parts_of whens) e a.seen in
    let g = (part None otherwise.0).walk (plain c) b.seen in
    Meets s g.seen (events.of_kind end (read end d) (out-Kind (kinds.Case a.made b.made g.made)) start mark) (events.of_kind odd (read odd d) (Kind-F.Case (node_if o) (nodes_of whens) otherwise.0) start mark)
case_walks d o whens otherwise e start mark c s =
    let a = if_any (part_if o) (plain c) s in
    let b = all (parts_of whens) e a.seen in
    let g = (part None otherwise.0).walk (plain c) b.seen in
    made_as _ _ (kinds.rolls-Case a.made b.made g.made) d start mark (met (steps_then (steps_then (if_steps d o (plain c) s) (all_steps d whens e a.seen)) (one d otherwise (plain c) b.seen)))

begin_walks : (d : ℕ) (n : Kid) (clauses : Kids) (o p : MayKid) (start mark : Pos) (c : Around) (s : Seen) →
    let w = walk.begin_with (part None n.0) (parts_of clauses) (part_if o) (part_if p) c s in
    Meets s w.seen (events.of_kind end (read end d) (out-Kind w.made) start mark) (events.of_kind odd (read odd d) (Kind-F.Begin n.0 (nodes_of clauses) (node_if o) (node_if p)) start mark)
begin_walks d n clauses o p start mark c s =
    let a = (part None n.0).walk (plain c) s in
    let b = all (parts_of clauses) (plain c) a.seen in
    let g = if_any (part_if o) (plain c) b.seen in
    let h = if_any (part_if p) (plain c) g.seen in
    made_as _ _ (kinds.rolls-Begin a.made b.made g.made h.made) d start mark
    (met (steps_then (steps_then (steps_then (one d n (plain c) s) (all_steps d clauses (plain c) a.seen)) (if_steps d o (plain c) b.seen)) (if_steps d p (plain c) g.seen)))

def_walks : (d : ℕ) (o : MayKid) (name : Name) (params : ParamsKid) (n : Kid) (start mark : Pos) (c : Around) (s : Seen) →
    let w = walk.def (part_if o) name (params_part None params.0) (part None n.0) mark c s in
    Meets s w.seen (events.of_kind end (read end d) (out-Kind w.made) start mark) (events.of_kind odd (read odd d) (Kind-F.Def (node_if o) name params.0 n.0) start mark)
def_walks d o name params n start mark c s =
    let a = if_any (part_if o) (plain c) s in
    let w = walk.in_body (inside both_parts params.0 n.0 mark within_def) a.seen in
    made_as _ _ (kinds.rolls-Def a.made name w.made.0 w.made.1) d start mark (met (steps_then (if_steps d o (plain c) s) (method_walks d params n mark a.seen)))

layer_meets : (l : KidLayer) → FormMeets (folded l) (whole_of l)
layer_meets (Kind-F.Lit which) = form_meets _ _ refl refl (λ d start mark c s. made_as _ _ (kinds.rolls-Lit _) d start mark (met (stays s)))
layer_meets Kind-F.SelfRef = form_meets _ _ refl refl (λ d start mark c s. made_as _ _ kinds.rolls-SelfRef d start mark (met (stays s)))
layer_meets (Kind-F.Int value) = form_meets _ _ refl refl (λ d start mark c s. made_as _ _ (kinds.rolls-Int _) d start mark (met (stays s)))
layer_meets (Kind-F.Str text) = str_meets text
layer_meets (Kind-F.Interp parts) = form_meets _ _ refl refl (λ d start mark c s. made_as _ _ (kinds.rolls-Interp _) d start mark (met (all_steps d parts (plain c) s)))
layer_meets (Kind-F.ArrayLit items) = form_meets _ _ refl refl (λ d start mark c s. made_as _ _ (kinds.rolls-ArrayLit _) d start mark (met (all_steps d items (plain c) s)))
layer_meets (Kind-F.HashLit keys values) = form_meets _ _ refl refl (λ d start mark c s. made_as _ _ (kinds.rolls-HashLit _ _) d start mark (met (pairs_steps d keys values (plain c) s)))
layer_meets (Kind-F.RangeLit low high without_end) =
    form_meets _ _ refl refl (λ d start mark c s. made_as _ _ (kinds.rolls-RangeLit _ _ _) d start mark (met (quiet_then (refused (is_condition c.role) mark _ s) (steps_then (one d low (plain c) _) (one d high (plain c) _)))))
layer_meets (Kind-F.LocalGet name) = form_meets _ _ refl refl (λ d start mark c s. made_as _ _ (kinds.rolls-LocalGet _) d start mark (local_get name d start mark s))
layer_meets (Kind-F.IvarGet name) = form_meets _ _ refl refl (λ d start mark c s. made_as _ _ (kinds.rolls-IvarGet _) d start mark (met (stays s)))
layer_meets (Kind-F.GlobalGet name) = form_meets _ _ refl refl (λ d start mark c s. made_as _ _ (kinds.rolls-GlobalGet _) d start mark (met (stays s)))
layer_meets (Kind-F.ConstGet base name) =
    form_meets _ _ refl refl (λ d start mark c s. made_as _ _ (kinds.rolls-ConstGet _ _) d start mark (met (quiet_then (quiet_quiet (refused _ mark _ s) (refused _ mark _ _)) (base.1 d (plain c) _))))
layer_meets (Kind-F.LocalSet name value) = form_meets _ _ refl refl (λ d start mark c s. made_as _ _ (kinds.rolls-LocalSet _ _) d start mark (local_set name value d start mark (plain c) s))
layer_meets (Kind-F.IvarSet name value) = form_meets _ _ refl refl (λ d start mark c s. made_as _ _ (kinds.rolls-IvarSet _ _) d start mark (met (one d value (plain c) s)))
layer_meets (Kind-F.GlobalSet name value) = form_meets _ _ refl refl (λ d start mark c s. made_as _ _ (kinds.rolls-GlobalSet _ _) d start mark (met (one d value (plain c) s)))
layer_meets (Kind-F.ConstSet name value) =
    form_meets _ _ refl refl (λ d start mark c s. made_as _ _ (kinds.rolls-ConstSet _ _) d start mark (met (quiet_then (refused c.in_def mark _ s) (one d value (plain c) _))))
layer_meets (Kind-F.MultiSet targets value) =
    form_meets _ _ refl refl (λ d start mark c s. made_as _ _ (kinds.rolls-MultiSet _ _) d start mark (met (steps_then (targets_steps d targets (as_role role.Target c) s) (one d value (plain c) _))))
layer_meets (Kind-F.AttrSet receiver name args value) =
    form_meets _ _ refl refl (λ d start mark c s. made_as _ _ (kinds.rolls-AttrSet _ _ _ _) d start mark
    (met (quiet_then (of_called _ s) (steps_then (steps_then (one d receiver (plain c) _) (all_steps d args (plain c) _)) (one d value (plain c) _)))))
layer_meets (Kind-F.AttrOpSet receiver name args op value) =
    form_meets _ _ refl refl (λ d start mark c s. made_as _ _ (kinds.rolls-AttrOpSet _ _ _ _ _) d start mark
    (met (quiet_then (quiet_quiet (of_called name s) (quiet_quiet (of_called (setter name) _) (of_called_if_any (operator_name op) _)))
    (steps_then (steps_then (one d receiver (plain c) _) (all_steps d args (plain c) _)) (one d value (plain c) _)))))
layer_meets (Kind-F.Call None name args None marked) = call_meets None None name args marked
layer_meets (Kind-F.Call None name args (Some block) marked) = call_meets None (Some block) name args marked
layer_meets (Kind-F.Call (Some receiver) name args None marked) = call_meets (Some receiver) None name args marked
layer_meets (Kind-F.Call (Some receiver) name args (Some block) marked) = call_meets (Some receiver) (Some block) name args marked
layer_meets (Kind-F.Super None None) = form_meets _ _ refl refl (λ d start mark c s. super_walks d None None start mark c s)
layer_meets (Kind-F.Super None (Some block)) = form_meets _ _ refl refl (λ d start mark c s. super_walks d None (Some block) start mark c s)
layer_meets (Kind-F.Super (Some args) None) = form_meets _ _ refl refl (λ d start mark c s. super_walks d (Some args) None start mark c s)
layer_meets (Kind-F.Super (Some args) (Some block)) = form_meets _ _ refl refl (λ d start mark c s. super_walks d (Some args) (Some block) start mark c s)
layer_meets (Kind-F.Yield args) = form_meets _ _ refl refl (λ d start mark c s. made_as _ _ (kinds.rolls-Yield _) d start mark (met (quiet_then (refused _ mark _ s) (all_steps d args (plain c) _))))
layer_meets (Kind-F.Block params n) = form_meets _ _ refl refl (λ d start mark c s. made_as _ _ (kinds.rolls-Block _ _) d start mark (met (block_walks d params n (λ p b. kinds.Block p b) start mark (within_block c) s)))
layer_meets (Kind-F.BlockPass value) = form_meets _ _ refl refl (λ d start mark c s. made_as _ _ (kinds.rolls-BlockPass _) d start mark (met (one d value (plain c) s)))
layer_meets (Kind-F.Lambda params n) = form_meets _ _ refl refl (λ d start mark c s. made_as _ _ (kinds.rolls-Lambda _ _) d start mark (met (block_walks d params n (λ p b. kinds.Lambda p b) start mark (within_lambda c) s)))
layer_meets (Kind-F.Splat value) = form_meets _ _ refl refl (λ d start mark c s. made_as _ _ (kinds.rolls-Splat _) d start mark (splat value d start mark (cond (is_target c.role) c (plain c)) s))
layer_meets (Kind-F.Not value) = form_meets _ _ refl refl (λ d start mark c s. made_as _ _ (kinds.rolls-Not _) d start mark (met (one d value (cond (is_condition c.role) c (plain c)) s)))
layer_meets (Kind-F.And left right) = form_meets _ _ refl refl (λ d start mark c s. made_as _ _ (kinds.rolls-And _ _) d start mark (met (joined_walks d left right (plain c) (plain c) s)))
layer_meets (Kind-F.Or left right) = form_meets _ _ refl refl (λ d start mark c s. made_as _ _ (kinds.rolls-Or _ _) d start mark (met (joined_walks d left right (plain c) (plain c) s)))
layer_meets (Kind-F.If test first second) =
    form_meets _ _ refl refl (λ d start mark c s. made_as _ _ (kinds.rolls-If _ _ _) d start mark (met (branches_steps d test first second (as_role role.Condition c) (plain c) s)))
layer_meets (Kind-F.While test n body_first) =
    form_meets _ _ refl refl (λ d start mark c s. made_as _ _ (kinds.rolls-While _ _ _) d start mark (met (guarded_steps d test n (as_role role.Condition (within_loop c)) (within_loop c) s)))
layer_meets (Kind-F.Case None whens otherwise) = form_meets _ _ refl refl (λ d start mark c s. case_walks d None whens otherwise (as_role role.Condition c) start mark c s)
layer_meets (Kind-F.Case (Some subject) whens otherwise) = form_meets _ _ refl refl (λ d start mark c s. case_walks d (Some subject) whens otherwise (plain c) start mark c s)
layer_meets (Kind-F.When tests n) =
    form_meets _ _ refl refl (λ d start mark c s. made_as _ _ (kinds.rolls-When _ _) d start mark (met (steps_then (all_steps d tests (cond (is_condition c.role) c (plain c)) s) (one d n (plain c) _))))
layer_meets (Kind-F.Begin n clauses None None) = form_meets _ _ refl refl (λ d start mark c s. begin_walks d n clauses None None start mark c s)
layer_meets (Kind-F.Begin n clauses None (Some last)) = form_meets _ _ refl refl (λ d start mark c s. begin_walks d n clauses None (Some last) start mark c s)
layer_meets (Kind-F.Begin n clauses (Some next) None) = form_meets _ _ refl refl (λ d start mark c s. begin_walks d n clauses (Some next) None start mark c s)
layer_meets (Kind-F.Begin n clauses (Some next) (Some last)) = form_meets _ _ refl refl (λ d start mark c s. begin_walks d n clauses (Some next) (Some last) start mark c s)
layer_meets (Kind-F.Rescue classes name n) =
    form_meets _ _ refl refl (λ d start mark c s. made_as _ _ (kinds.rolls-Rescue _ _ _) d start mark (met (steps_then (steps_then (all_steps d classes (plain c) s) (rescued_steps mark name _)) (one d n (within_rescue c) _))))
layer_meets Kind-F.Retry = form_meets _ _ refl refl (λ d start mark c s. made_as _ _ kinds.rolls-Retry d start mark (met (quiet_steps (refused _ mark _ s))))
layer_meets Kind-F.Reraise = form_meets _ _ refl refl (λ d start mark c s. made_as _ _ kinds.rolls-Reraise d start mark (met (stays s)))
layer_meets (Kind-F.Jump which value) = form_meets _ _ refl refl (λ d start mark c s. made_as _ _ (kinds.rolls-Jump _ _) d start mark (met (quiet_then (refused _ mark _ s) (one d value (plain c) _))))
layer_meets (Kind-F.Def None name params n) = form_meets _ _ refl refl (λ d start mark c s. def_walks d None name params n start mark c s)
layer_meets (Kind-F.Def (Some on) name params n) = form_meets _ _ refl refl (λ d start mark c s. def_walks d (Some on) name params n start mark c s)
layer_meets (Kind-F.ModuleDef form name n) =
    form_meets _ _ refl refl (λ d start mark c s. made_as _ _ (kinds.rolls-ModuleDef _ _ _) d start mark (met (quiet_then (refused c.in_def mark _ s) (steps_then (form.1 d (plain c) _) (body_walks d n _ _ _)))))
layer_meets (Kind-F.Alias new old) = form_meets _ _ refl refl (λ d start mark c s. made_as _ _ (kinds.rolls-Alias _ _) d start mark (met (stays s)))
layer_meets (Kind-F.Undef names) = form_meets _ _ refl refl (λ d start mark c s. made_as _ _ (kinds.rolls-Undef _) d start mark (met (stays s)))
layer_meets (Kind-F.Seq items) = form_meets _ _ refl refl (λ d start mark c s. made_as _ _ (kinds.rolls-Seq _) d start mark (met (all_steps d items (plain c) s)))
layer_meets (Kind-F.Require name relative) = form_meets _ _ refl refl (λ d start mark c s. made_as _ _ (kinds.rolls-Require _ _) d start mark (met (stays s)))
layer_meets (Kind-F.Prim name args) = form_meets _ _ refl refl (λ d start mark c s. made_as _ _ (kinds.rolls-Prim _ _) d start mark (met (all_steps d args (plain c) s)))

kind_meets : (l : KidLayer) → KindMeets (roll-Kind (whole_of l))
unfolding part form_part base_part module_part params_part
kind_meets l = subst (FormMeets (form_part None (roll-Kind (whole_of l)))) (sym (out-roll-Kind (whole_of l)))
    (subst (λ f. FormMeets f (whole_of l)) (sym (fold-roll-Kind BasePart FormPart (Walk ModuleForm) Part (Pos → Walk Params) of_base (of_kind None) of_form of_node of_params (whole_of l))) (layer_meets l))

-- ---- the other types of the tree

abbrev BaseLayer : Type 0
BaseLayer = Base-F ((b : Base) × BaseMeets b) ((k : Kind) × KindMeets k) ((f : ModuleForm) × ModuleMeets f) Kid ParamsKid

abbrev whole_base : BaseLayer → Base-F Base Kind ModuleForm Node Params
whole_base = map-Base ((b : Base) × BaseMeets b) ((k : Kind) × KindMeets k) ((f : ModuleForm) × ModuleMeets f) Kid ParamsKid Base Kind ModuleForm Node Params (λ e. e.0) (λ e. e.0) (λ e. e.0) (λ e. e.0) (λ e. e.0)

abbrev BaseWalks : BasePart → Base-F Base Kind ModuleForm Node Params → Type 0
BaseWalks b o = (d : ℕ) (c : Around) (s : Seen) → Steps s (b.walk c s).seen (events.of_base (read end d) (out-Base (b.walk c s).made)) (events.of_base (read odd d) o)

base_as : {s t : Seen} {e : Events} (l : Base-F Base Kind ModuleForm Node Params) (k : Base) → roll-Base l ≡ k → (d : ℕ) → Steps s t (events.of_base (read end d) l) e → Steps s t (events.of_base (read end d) (out-Base k)) e
base_as {s} {t} {e} l k r d x = subst (λ z. Steps s t (events.of_base (read end d) z) e) (sym (ap out-Base (sym r) ∙ out-roll-Base l)) x

base_layer : (l : BaseLayer) → BaseWalks (of_base (map-Base Base Kind ModuleForm Node Params BasePart FormPart (Walk ModuleForm) Part (Pos → Walk Params) (base_part None) (form_part None) (module_part None) (part None) (params_part None) (whole_base l))) (whole_base l)
base_layer Base-F.Here d c s = base_as Base-F.Here _ bases.rolls-Here d (stays s)
base_layer Base-F.Top d c s = base_as Base-F.Top _ bases.rolls-Top d (stays s)
base_layer (Base-F.In n) d c s = base_as (Base-F.In ((part None n.0).walk c s).made) _ (bases.rolls-In ((part None n.0).walk c s).made) d (one d n c s)

base_meets : (l : BaseLayer) → BaseMeets (roll-Base (whole_base l))
unfolding part form_part base_part module_part params_part
base_meets l = subst (BaseWalks (base_part None (roll-Base (whole_base l)))) (sym (out-roll-Base (whole_base l)))
    (subst (λ b. BaseWalks b (whole_base l)) (sym (fold-roll-Base BasePart FormPart (Walk ModuleForm) Part (Pos → Walk Params) of_base (of_kind None) of_form of_node of_params (whole_base l))) (base_layer l))

abbrev ModuleLayer : Type 0
ModuleLayer = ModuleForm-F ((b : Base) × BaseMeets b) ((k : Kind) × KindMeets k) ((f : ModuleForm) × ModuleMeets f) Kid ParamsKid

abbrev whole_module : ModuleLayer → ModuleForm-F Base Kind ModuleForm Node Params
whole_module = map-ModuleForm ((b : Base) × BaseMeets b) ((k : Kind) × KindMeets k) ((f : ModuleForm) × ModuleMeets f) Kid ParamsKid Base Kind ModuleForm Node Params (λ e. e.0) (λ e. e.0) (λ e. e.0) (λ e. e.0) (λ e. e.0)

abbrev ModuleWalks : Walk ModuleForm → ModuleForm-F Base Kind ModuleForm Node Params → Type 0
ModuleWalks w o = (d : ℕ) (c : Around) (s : Seen) → Steps s (w c s).seen (events.of_form (read end d) (out-ModuleForm (w c s).made)) (events.of_form (read odd d) o)

module_as : {s t : Seen} {e : Events} (l : ModuleForm-F Base Kind ModuleForm Node Params) (k : ModuleForm) → roll-ModuleForm l ≡ k → (d : ℕ) → Steps s t (events.of_form (read end d) l) e → Steps s t (events.of_form (read end d) (out-ModuleForm k)) e
module_as {s} {t} {e} l k r d x = subst (λ z. Steps s t (events.of_form (read end d) z) e) (sym (ap out-ModuleForm (sym r) ∙ out-roll-ModuleForm l)) x

class_walks : (o : MayKid) → ModuleWalks (λ c s. walk.onto (λ n. forms.Class n) (if_any (part_if o) c s)) (ModuleForm-F.Class (node_if o))
class_walks o d c s = module_as (ModuleForm-F.Class (if_any (part_if o) c s).made) _ (forms.rolls-Class (if_any (part_if o) c s).made) d (if_steps d o c s)

module_layer : (l : ModuleLayer) → ModuleWalks (of_form (map-ModuleForm Base Kind ModuleForm Node Params BasePart FormPart (Walk ModuleForm) Part (Pos → Walk Params) (base_part None) (form_part None) (module_part None) (part None) (params_part None) (whole_module l))) (whole_module l)
module_layer (ModuleForm-F.Class None) d c s = class_walks None d c s
module_layer (ModuleForm-F.Class (Some n)) d c s = class_walks (Some n) d c s
module_layer ModuleForm-F.Module d c s = module_as ModuleForm-F.Module _ forms.rolls-Module d (stays s)
module_layer (ModuleForm-F.Singleton n) d c s = module_as (ModuleForm-F.Singleton ((part None n.0).walk c s).made) _ (forms.rolls-Singleton ((part None n.0).walk c s).made) d (one d n c s)

module_meets : (l : ModuleLayer) → ModuleMeets (roll-ModuleForm (whole_module l))
unfolding part form_part base_part module_part params_part
module_meets l = subst (ModuleWalks (module_part None (roll-ModuleForm (whole_module l)))) (sym (out-roll-ModuleForm (whole_module l)))
    (subst (λ w. ModuleWalks w (whole_module l)) (sym (fold-roll-ModuleForm BasePart FormPart (Walk ModuleForm) Part (Pos → Walk Params) of_base (of_kind None) of_form of_node of_params (whole_module l))) (module_layer l))

abbrev ParamsLayer : Type 0
ParamsLayer = Params-F ((b : Base) × BaseMeets b) ((k : Kind) × KindMeets k) ((f : ModuleForm) × ModuleMeets f) Kid ParamsKid

abbrev whole_params : ParamsLayer → Params-F Base Kind ModuleForm Node Params
whole_params = map-Params ((b : Base) × BaseMeets b) ((k : Kind) × KindMeets k) ((f : ModuleForm) × ModuleMeets f) Kid ParamsKid Base Kind ModuleForm Node Params (λ e. e.0) (λ e. e.0) (λ e. e.0) (λ e. e.0) (λ e. e.0)

abbrev ParamsWalks : (Pos → Walk Params) → Params-F Base Kind ModuleForm Node Params → Type 0
ParamsWalks w o = (d : ℕ) (start mark : Pos) (c : Around) (s : Seen) → Steps s (w mark c s).seen (events.of_params (read end d) start (out-Params (w mark c s).made)) (events.of_params (read odd d) start o)

params_layer : (l : ParamsLayer) → ParamsWalks (of_params (map-Params Base Kind ModuleForm Node Params BasePart FormPart (Walk ModuleForm) Part (Pos → Walk Params) (base_part None) (form_part None) (module_part None) (part None) (params_part None) (whole_params l))) (whole_params l)
params_layer l d start mark c s =
    let t = slots mark l.plain s in
    let w = defaults_in_turn mark l.optional (parts_of l.defaults) c t in
    let x : Params-F Base Kind ModuleForm Node Params = record { plain = l.plain; optional = l.optional; defaults = w.made; rest = l.rest; after = l.after; block = l.block } in
    let q = behind_all start (nodes_of l.defaults) in
    let r = rest_name mark l.rest w.seen in
    let a = slots mark l.after r in
    subst (λ z. Steps s (block_name mark l.block a) (events.of_params (read end d) start z) (events.of_params (read odd d) start (whole_params l))) (sym (out-roll-Params x))
    (subst (λ z. Steps s (block_name mark l.block a) (chain (chain (slots_at start l.plain) (defaults_at (read end d) start l.optional w.made)) (chain (chain (rest_at z l.rest) (slots_at z l.after)) (name_at z l.block))) (events.of_params (read odd d) start (whole_params l)))
    (sym (behind_same d mark start l.optional l.defaults c t))
    (steps_then (steps_then (slots_steps d mark start l.plain s) (defaults_steps d mark start l.optional l.defaults c t))
    (steps_then (steps_then (rest_steps d mark q l.rest w.seen) (slots_steps d mark q l.after r)) (name_steps d mark q l.block a))))

params_meet : (l : ParamsLayer) → ParamsMeet (roll-Params (whole_params l))
unfolding part form_part base_part module_part params_part
params_meet l = subst (ParamsWalks (params_part None (roll-Params (whole_params l)))) (sym (out-roll-Params (whole_params l)))
    (subst (λ (w : Pos → Walk Params). ParamsWalks w (whole_params l)) (sym (fold-roll-Params BasePart FormPart (Walk ModuleForm) Part (Pos → Walk Params) of_base (of_kind None) of_form of_node of_params (whole_params l))) (params_layer l))

-- ---- a node

is_bare : (o : Option Name) (span : Span) (s : Seen) (name : Name) → bare_local o span s ≡ Some name → (o ≡ Some name) × (is_local s name ≡ true)
unfolding bare_local
is_bare None span s name e = no_name name e
is_bare (Some x) span s name e = by (walk.spans_name span x) (is_local s x) refl e where
  by : (b c : Bool) → is_local s x ≡ c → cond (b && c) (Some x) None ≡ Some name → (Some x ≡ Some name) × (is_local s name ≡ true)
  by true true l e = (e, subst (λ z. is_local s z ≡ true) (same_some x name e) l)
  by true false l e = no_name name e
  by false c l e = no_name name e

local_after : (b : Bool) (p : Pos) (s : Seen) (name : Name) → is_local s name ≡ true → is_local (cond b s (unbuilt_at p s)) name ≡ true
unfolding is_local unbuilt_at
local_after true p s name e = e
local_after false p s name e = e

module _ (f : FormPart) (k : Kind) (h : FormMeets f (out-Kind k)) (span : Span) (mark : Pos) where
  abbrev node_of : Part
  node_of = of_node (record { kind = f; span = span; mark = mark })

  abbrev source : Node
  source = record { kind = k; span = span; mark = mark }

  abbrev made_node : Kind → Node
  made_node z = record { kind = z; span = span; mark = mark }

  nothing_met : {s t : Seen} → Meets s t (only odd) (only odd)
  nothing_met = met never

  node_walks : (o : Option Name) (d : ℕ) (c : Around) (s : Seen) → bare_local f.name span s ≡ o →
      let t = cond (f.built c.role) s (unbuilt_at span.from s) in
      let w = local_or o (f.walk mark c) t in
      Meets s w.seen (read end d (made_node w.made)) (read odd d source)
  unfolding local_or
  node_walks o zero c s e = nothing_met
  node_walks None (suc d) c s e = quiet_meets (of_unbuilt (f.built c.role) span.from s) (h.walks d span.from mark c _)
  node_walks (Some name) (suc d) c s e =
      let b = is_bare f.name span s name e in
      let t = cond (f.built c.role) s (unbuilt_at span.from s) in
      let q = quiet_quiet (of_unbuilt (f.built c.role) span.from s) (local_quiet name t (local_after (f.built c.role) span.from s name b.1)) in
      made_as _ _ (kinds.rolls-LocalGet name) d span.from mark
      (subst (λ z. Meets s (name_local name t) (events.of_kind end (read end d) (Kind-F.LocalGet name) span.from mark) z) (sym (h.alone name b.0 d span.from mark))
      (record { names = quiet_steps q; targets = never; reads = λ x e. no_name x e; sets = λ x e. no_name x e; made = λ x e. refl }))

  node_quoted : is_some f.text ≡ true → (d : ℕ) → is_whole (read odd d source).events ≡ true → (read odd d source).events ≡ end
  node_quoted e zero w = absurd (false≢true w)
  node_quoted e (suc d) w = h.quoted e d span.from mark

  of_node_meets : PartMeets node_of source
  of_node_meets = record {
    walks = λ d c s. node_walks (bare_local f.name span s) d c s refl;
    starts = refl;
    span = λ c s. refl;
    quoted = node_quoted;
  }

node_step : (x : Node-F Base Kind ModuleForm Node Params) → KindMeets x.kind → NodeMeets (roll-Node x)
unfolding part form_part base_part module_part params_part
node_step x h = subst (λ p. PartMeets p (roll-Node x)) (sym (fold-roll-Node BasePart FormPart (Walk ModuleForm) Part (Pos → Walk Params) of_base (of_kind None) of_form of_node of_params x)) (of_node_meets (form_part None x.kind) x.kind h x.span x.mark)

node_meets : (node : Node) → NodeMeets node
node_meets = ind-Node BaseMeets KindMeets ModuleMeets NodeMeets ParamsMeet
    (λ x y is. subst (λ l. BaseMeets (roll-Base l)) is (base_meets y))
    (λ x y is. subst (λ l. KindMeets (roll-Kind l)) is (kind_meets y))
    (λ x y is. subst (λ l. ModuleMeets (roll-ModuleForm l)) is (module_meets y))
    (λ x y is. node_step x (subst KindMeets (ap (λ (n : Node-F Base Kind ModuleForm Node Params). n.kind) is) y.kind.1))
    (λ x y is. subst (λ l. ParamsMeet (roll-Params l)) is (params_meet y))

-- from the start of a node to its end, at any depth
pub walk_steps : (node : Node) (d : ℕ) (c : Around) (s : Seen) → Steps s ((part None node).walk c s).seen (read end d ((part None node).walk c s).made).events (read odd d node).events
walk_steps node d c s = ((node_meets node).walks d c s).names
