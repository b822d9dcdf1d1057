-- The names that evaluation finds in a text are those that its events set.
use Rattle.std.proofs.Common.{◌≡◌, ℕ, zero, suc, ◌≤◌, Bool, true, false, cond, List, [], ◌∷◌, ◌++◌, Option, None, Some, refl, sym, ap, ◌∙◌, subst, append_assoc, append-nil, arith}
use Rattle.std.specs.List.{flat_map}
use Rattle.std.proofs.lemmas.Bool.{false≢true}
use Rattle.std.proofs.lemmas.List.{map-append}
use Rattle.std.proofs.lemmas.List.Folds.{list_any-append}
use Rattle.opal_base.specs.declared.place.Pos.{Pos}
use Rattle.ruby_meaning.specs.declared.tree.Base.{Base, out-Base}
use Rattle.ruby_meaning.specs.declared.tree.Base.TheOpen.{Base-F, Kind-F, ModuleForm-F}
use Rattle.ruby_meaning.specs.declared.tree.Kind.{Kind, out-Kind}
use Rattle.ruby_meaning.specs.declared.tree.ModuleForm.{ModuleForm, out-ModuleForm}
use Rattle.ruby_meaning.specs.declared.tree.Node.{Node}
use Rattle.ruby_meaning.specs.declared.tree.Params.{Params, out-Params}
use Rattle.ruby_meaning.specs.declared.tree.Rest.{Rest}
use Rattle.ruby_meaning.specs.declared.tree.Rest.TheVariants as rest
use Rattle.ruby_meaning.specs.declared.tree.Slot.{Slot}
use Rattle.ruby_meaning.specs.declared.tree.Slot.TheVariants as slot
use Rattle.ruby_meaning.specs.Scoping.Names.{Name}
use Rattle.ruby_meaning.specs.Scoping.Seen.{stands_before}
use Rattle.ruby_evaluation.specs.Locals.{Declared, Says, declared, declared_in_defaults, parameter_places, behind_all, says, deepest, all_names, all_targets, names_in, all_in, under, placed, slot_names, rest_names, in_list, optional_places}
use Rattle.ruby_evaluation.specs.Locals as locals
use Rattle.ruby_evaluation.specs.Calls.{own_of_method}
use Rattle.ruby_evaluation.specs.Calls as calls
use Rattle.ruby_own_locals.specs.Events.{Events, end, odd, takes, sets, opens, apart, chain, Read, Reading, all_of, if_any, all_if_any, in_turn, guarded, guarded_two, branches, same_name, joined, names_at, slot_at, slots_at, rest_at, name_at, defaults_at, of_params, set_at, in_block, in_method, read}
use Rattle.ruby_own_locals.specs.Events as events
use Rattle.ruby_own_locals.specs.Law.{is_whole}
use Rattle.ruby_own_locals.proofs.Lists.{or_swap, left_true, right_true, whole_chain}
use Rattle.ruby_own_locals.proofs.Meeting.{says_at, Alike, taken, settings, Sound}

-- ---- lists that are alike

pub alike_append : {a b c d : Declared} → Alike a c → Alike b d → Alike (a ++ b) (c ++ d)
alike_append {a} {b} {c} {d} x y = record { same = λ u us at. list_any-append _ a b ∙ rw (x.same u us at, y.same u us at) (sym (list_any-append _ c d)) }

pub alike_swap : (a b : Declared) → Alike (a ++ b) (b ++ a)
alike_swap a b = record { same = λ u us at. list_any-append _ a b ∙ or_swap (says_at (u ∷ us) at a) (says_at (u ∷ us) at b) ∙ sym (list_any-append _ b a) }

pub alike_trans : {a b c : Declared} → Alike a b → Alike b c → Alike a c
alike_trans x y = record { same = λ u us at. x.same u us at ∙ y.same u us at }

pub alike_same : {a b : Declared} → a ≡ b → Alike a b
alike_same e = record { same = λ u us at. ap (says_at (u ∷ us) at) e }

-- ---- events one after the other

taken_chain : (a b : Events) → is_whole a ≡ true → taken (chain a b) ≡ taken a ++ taken b
taken_chain end b w = refl
taken_chain odd b w = absurd (false≢true w)
taken_chain (takes n p r) b w = ap (λ l. (n, p) ∷ l) (taken_chain r b w)
taken_chain (sets n p r) b w = taken_chain r b w
taken_chain (opens p ps ds i r) b w = taken_chain r b (right_true (is_whole i) (is_whole r) w)
taken_chain (apart ds i r) b w = taken_chain r b (right_true (is_whole i) (is_whole r) w)

settings_chain : (a b : Events) → is_whole a ≡ true → settings (chain a b) ≡ settings a ++ settings b
settings_chain end b w = refl
settings_chain odd b w = absurd (false≢true w)
settings_chain (takes n p r) b w = settings_chain r b w
settings_chain (sets n p r) b w = ap (λ l. (n, p) ∷ l) (settings_chain r b w)
settings_chain (opens p ps ds i r) b w = settings_chain r b (right_true (is_whole i) (is_whole r) w)
settings_chain (apart ds i r) b w = settings_chain r b (right_true (is_whole i) (is_whole r) w)

sound_chain : (a b : Events) → Sound a → Sound b → Sound (chain a b)
sound_chain end b s t = t
sound_chain odd b s t = tt
sound_chain (takes n p r) b s t = sound_chain r b s t
sound_chain (sets n p r) b s t = sound_chain r b s t
sound_chain (opens p ps ds i r) b s t = (s.0, s.1, s.2, sound_chain r b s.3 t)
sound_chain (apart ds i r) b s t = (s.0, s.1, sound_chain r b s.2 t)

record Told (ps ds : Declared) (es : Events) : Type 0 where
  pub params : Alike ps (taken es)
  pub names : Alike ds (settings es)
  pub sound : Sound es

-- The events take these parameters and set these names, and hold what evaluation finds.
record Tells (ps ds : Declared) (es : Events) : Type 0 where
  pub told : is_whole es ≡ true → Told ps ds es

first_whole : (a b : Events) → is_whole (chain a b) ≡ true → is_whole a ≡ true
first_whole a b w = left_true (is_whole a) (is_whole b) (sym (whole_chain a b) ∙ w)

second_whole : (a b : Events) → is_whole (chain a b) ≡ true → is_whole b ≡ true
second_whole a b w = right_true (is_whole a) (is_whole b) (sym (whole_chain a b) ∙ w)

told_then : {ps ps' ds ds' : Declared} {a b : Events} → is_whole a ≡ true → Told ps ds a → Told ps' ds' b → Told (ps ++ ps') (ds ++ ds') (chain a b)
told_then {a = a} {b = b} u s t = record {
  params = alike_trans (alike_append s.params t.params) (alike_same (sym (taken_chain a b u)));
  names = alike_trans (alike_append s.names t.names) (alike_same (sym (settings_chain a b u)));
  sound = sound_chain a b s.sound t.sound;
}

tell_then : {ps ps' ds ds' : Declared} {a b : Events} → Tells ps ds a → Tells ps' ds' b → Tells (ps ++ ps') (ds ++ ds') (chain a b)
tell_then {a = a} {b = b} x y = record { told = λ w. told_then (first_whole a b w) (x.told (first_whole a b w)) (y.told (second_whole a b w)) }

-- names that are set alone
abbrev Sets : Declared → Events → Type 0
Sets ds es = Tells [] ds es

sets_alike : {a b : Declared} {es : Events} → Alike b a → Sets a es → Sets b es
sets_alike e x = record { told = λ w. record { params = (x.told w).params; names = alike_trans e (x.told w).names; sound = (x.told w).sound } }

sets_swap : {a b : Declared} {x y : Events} → Sets a x → Sets b y → Sets (b ++ a) (chain x y)
sets_swap {a} {b} s t = sets_alike (alike_swap b a) (tell_then s t)

none : Sets [] end
none = record { told = λ w. record { params = alike_same refl; names = alike_same refl; sound = tt } }

-- ---- nodes

record Tell (d e : ℕ) (n : Node) : Type 0 where
  pub names : Sets (says e n).names (read end d n).events
  pub targets : Sets (says e n).targets (read end d n).targets
  pub reads : (x : Name) → (read end d n).reads ≡ Some x → (says e n).names ≡ []

abbrev Below : ℕ → Type 0
Below d = (e : ℕ) → d ≤ e → (n : Node) → Tell d e n

record KindTells (a : Says) (b : Read) : Type 0 where
  pub names : Sets a.names b.events
  pub targets : Sets a.targets b.targets
  pub reads : (x : Name) → b.reads ≡ Some x → a.names ≡ []

no_name : {A : Type 0} (x : Name) → None ≡ Some x → A
no_name x e = let f = e in absurd cc

alone : {a : Declared} {es : Events} → Sets a es → KindTells (locals.only a) (events.only es)
alone s = record { names = s; targets = s; reads = λ x e. no_name x e }

module _ (d e : ℕ) (l : d ≤ e) (m : d ≤ deepest) (below : Below d) where
  abbrev f : Reading
  f = read end d

  abbrev g : locals.Saying
  g = says e

  of : (n : Node) → Sets (g n).names (f n).events
  of n = (below e l n).names

  all : (ns : List Node) → Sets (all_names g ns) (all_of f ns)
  all [] = none
  all (n ∷ ns) = tell_then (of n) (all ns)

  targets : (ns : List Node) → Sets (all_targets g ns) (events.all_targets f ns)
  targets [] = none
  targets (n ∷ ns) = tell_then (below e l n).targets (targets ns)

  may : (o : Option Node) → Sets (names_in g o) (if_any f o)
  may None = none
  may (Some n) = of n

  may_all : (o : Option (List Node)) → Sets (all_in g o) (all_if_any f o)
  may_all None = none
  may_all (Some ns) = all ns

  both : (a b : Node) → Sets ((g a).names ++ (g b).names) (chain (f a).events (f b).events)
  both a b = tell_then (of a) (of b)

  vacuous : {ps ds : Declared} → Tells ps ds odd
  vacuous = record { told = λ w. absurd (false≢true w) }

  -- three parts in other orders
  turned : (c a b : Declared) → Alike ((c ++ a) ++ b) (a ++ (c ++ b))
  turned c a b = alike_trans (alike_append (alike_swap c a) (alike_same refl)) (alike_same (append_assoc a c b))

  last_two : (c a b : Declared) → Alike ((c ++ a) ++ b) ((c ++ b) ++ a)
  last_two c a b = alike_trans (alike_same (append_assoc c a b)) (alike_trans (alike_append (alike_same refl) (alike_swap a b)) (alike_same (sym (append_assoc c b a))))

  middle : (k ks v vs : Declared) → Alike ((k ++ ks) ++ (v ++ vs)) (k ++ (v ++ (ks ++ vs)))
  middle k ks v vs =
      alike_trans (alike_same (append_assoc k ks (v ++ vs)))
      (alike_append (alike_same {a = k} refl) (alike_trans (alike_same (sym (append_assoc ks v vs))) (turned ks v vs)))

  pairs : (ks vs : List Node) → Sets (all_names g ks ++ all_names g vs) (in_turn f ks vs)
  pairs [] [] = none
  pairs [] (v ∷ vs) = vacuous
  pairs (k ∷ ks) [] = vacuous
  pairs (k ∷ ks) (v ∷ vs) = sets_alike (middle (g k).names (all_names g ks) (g v).names (all_names g vs)) (tell_then (of k) (tell_then (of v) (pairs ks vs)))

  guarded_sets : (c n : Node) → Sets ((g c).names ++ (g n).names) (guarded f c n)
  guarded_sets c n = by (stands_before n.span.from c.span.from) where
    by : (b : Bool) → Sets ((g c).names ++ (g n).names) (cond b (chain (f n).events (f c).events) (chain (f c).events (f n).events))
    by true = sets_swap (of n) (of c)
    by false = both c n

  two_sets : (c a b : Node) → Sets (((g c).names ++ (g a).names) ++ (g b).names) (guarded_two f c a b)
  two_sets c a b = by (stands_before a.span.from c.span.from) where
    by : (x : Bool) → Sets (((g c).names ++ (g a).names) ++ (g b).names) (cond x (chain (f a).events (guarded f c b)) (chain (f c).events (chain (f a).events (f b).events)))
    by true = sets_alike (turned (g c).names (g a).names (g b).names) (tell_then (of a) (guarded_sets c b))
    by false = sets_alike (alike_same (append_assoc (g c).names (g a).names (g b).names)) (tell_then (of c) (both a b))

  branches_sets : (c a b : Node) → Sets (((g c).names ++ (g a).names) ++ (g b).names) (branches f c a b)
  branches_sets c a b = by (stands_before b.span.from a.span.from) where
    by : (x : Bool) → Sets (((g c).names ++ (g a).names) ++ (g b).names) (cond x (guarded_two f c b a) (guarded_two f c a b))
    by true = sets_alike (last_two (g c).names (g a).names (g b).names) (two_sets c b a)
    by false = two_sets c a b

  a_name : (o p : Option Name) → same_name o p ≡ true → (x : Name) × (o ≡ Some x)
  a_name None p e = absurd (false≢true e)
  a_name (Some x) None e = absurd (false≢true e)
  a_name (Some x) (Some y) e = (x, refl)

  joined_sets : (a b : Node) → Sets ((g a).names ++ (g b).names) (joined (f a) (f b))
  joined_sets a b = by (same_name (f a).reads (f b).sets) refl where
    by : (x : Bool) → same_name (f a).reads (f b).sets ≡ x → Sets ((g a).names ++ (g b).names) (cond x (f b).events (chain (f a).events (f b).events))
    by true h = let n = a_name (f a).reads (f b).sets h in sets_alike (alike_same (ap (λ z. z ++ (g b).names) ((below e l a).reads n.0 n.1))) (of b)
    by false h = both a b

  set_then : {ds : Declared} {es : Events} (n : Name) (p : Pos) → Sets ds es → Sets ((n, p) ∷ ds) (sets n p es)
  set_then {ds} {es} n p s = record {
    told = λ w. record {
      params = (s.told w).params;
      names = alike_append {a = (n, p) ∷ []} (alike_same refl) (s.told w).names;
      sound = (s.told w).sound;
    };
  }

  rescued : (mark : Pos) (name : Option Name) → Sets (under mark name) (set_at mark name)
  rescued mark None = none
  rescued mark (Some name) = set_then name mark none

  base : (b : Base-F Base Kind ModuleForm Node Params) → Sets (locals.of_base g b) (events.of_base f b)
  base Base-F.Here = none
  base Base-F.Top = none
  base (Base-F.In n) = of n

  form : (b : ModuleForm-F Base Kind ModuleForm Node Params) → Sets (locals.of_form g b) (events.of_form f b)
  form (ModuleForm-F.Class o) = may o
  form ModuleForm-F.Module = none
  form (ModuleForm-F.Singleton n) = of n

  -- ---- scopes

  inner : (n : Node) → Sets (declared n) (f n).events
  inner n = (below deepest m n).names

  take_then : {ps ds : Declared} {es : Events} (n : Name) (p : Pos) → Tells ps ds es → Tells ((n, p) ∷ ps) ds (takes n p es)
  take_then n p s = record {
    told = λ w. record {
      params = alike_append {a = (n, p) ∷ []} (alike_same refl) (s.told w).params;
      names = (s.told w).names;
      sound = (s.told w).sound;
    };
  }

  tells_as : {ps ps' ds ds' : Declared} {es : Events} → ps' ≡ ps → ds' ≡ ds → Tells ps' ds' es → Tells ps ds es
  tells_as {ps} {ps'} {ds} {ds'} {es} p q t = subst (λ z. Tells z ds es) p (subst (λ z. Tells ps' z es) q t)

  names_tell : (p : Pos) (ns : List Name) → Tells (placed p ns) [] (names_at p ns)
  names_tell p [] = none
  names_tell p (n ∷ ns) = take_then n p (names_tell p ns)

  slot_tells : (p : Pos) (x : Slot) → Tells (placed p (slot_names x)) [] (slot_at p x)
  slot_tells p (slot.Name n) = take_then n p none
  slot_tells p (slot.Names ns) = names_tell p ns

  slots_tell : (p : Pos) (xs : List Slot) → Tells (placed p (flat_map slot_names xs)) [] (slots_at p xs)
  slots_tell p [] = none
  slots_tell p (x ∷ xs) = tells_as (sym (map-append _ (slot_names x) (flat_map slot_names xs))) refl (tell_then (slot_tells p x) (slots_tell p xs))

  rest_tells : (p : Pos) (x : Rest) → Tells (placed p (rest_names x)) [] (rest_at p x)
  rest_tells p rest.None = none
  rest_tells p rest.Unnamed = record { told = λ w. record { params = record { same = λ u us at. refl }; names = alike_same refl; sound = tt } }
  rest_tells p (rest.Named n) = take_then n p none

  name_tells : (p : Pos) (x : Option Name) → Tells (placed p (in_list x)) [] (name_at p x)
  name_tells p None = none
  name_tells p (Some n) = take_then n p none

  defaults_tell : (p : Pos) (ns : List Name) (ds : List Node) → Tells (optional_places p ns ds) (all_names (says deepest) ds) (defaults_at f p ns ds)
  defaults_tell p [] [] = none
  defaults_tell p (n ∷ ns) [] = take_then n p (defaults_tell p ns [])
  defaults_tell p [] (d ∷ ds) = tell_then (inner d) (defaults_tell p [] ds)
  defaults_tell p (n ∷ ns) (d ∷ ds) = take_then n p (tell_then (inner d) (defaults_tell d.span.to ns ds))

  placed_all : (p : Pos) (a b c : List Name) → placed p (a ++ b ++ c) ≡ placed p a ++ placed p b ++ placed p c
  placed_all p a b c = map-append _ (a ++ b) c ∙ ap (λ z. z ++ placed p c) (map-append _ a b)

  params_tell : (start : Pos) (params : Params) → Tells (parameter_places start params) (declared_in_defaults params) (of_params f start (out-Params params))
  params_tell start params =
      let x = out-Params params in
      let q = behind_all start x.defaults in
      tells_as (ap (λ z. placed start (flat_map slot_names x.plain) ++ optional_places start x.optional x.defaults ++ z) (sym (placed_all q (rest_names x.rest) (flat_map slot_names x.after) (in_list x.block))))
      (append-nil (declared_in_defaults params))
      (tell_then (tell_then (slots_tell start x.plain) (defaults_tell start x.optional x.defaults))
      (tell_then (tell_then (rest_tells q x.rest) (slots_tell q x.after)) (name_tells q x.block)))

  within : (start : Pos) (params : Params) (n : Node) → Tells (parameter_places start params) (declared_in_defaults params ++ declared n) (chain (of_params f start (out-Params params)) (f n).events)
  within start params n = tells_as (append-nil (parameter_places start params)) refl (tell_then (params_tell start params) (inner n))

  block_sets : (start : Pos) (params : Params) (n : Node) → Sets [] (in_block f start params n)
  block_sets start params n = record {
    told = λ w.
        let t = (within start params n).told (left_true _ true w) in
        record { params = alike_same refl; names = alike_same refl; sound = (t.params, t.names, t.sound, tt) };
  }

  method_sets : (params : Params) (n : Node) → Sets [] (in_method f params n)
  method_sets params n = record {
    told = λ w.
        let t = (within calls.start params n).told (left_true _ true w) in
        record {
          params = alike_same refl;
          names = alike_same refl;
          sound = (alike_trans (alike_same (append_assoc (parameter_places calls.start params) (declared_in_defaults params) (declared n))) (alike_append t.params t.names), t.sound, tt);
        };
  }

  body_sets : (n : Node) → Sets [] (apart (declared n) (f n).events end)
  body_sets n = record {
    told = λ w.
        let t = (inner n).told (left_true _ true w) in
        record { params = alike_same refl; names = alike_same refl; sound = (alike_append t.params t.names, t.sound, tt) };
  }

  called : (receiver : Option Node) (args : List Node) (o : Option Node) → Sets (names_in g receiver ++ all_names g args ++ names_in g o) (chain (chain (if_any f receiver) (all_of f args)) (if_any f o))
  called receiver args o = tell_then (tell_then (may receiver) (all args)) (may o)

  unless_odd : {ds : Declared} {es : Events} (b : Bool) → Sets ds es → Sets ds (cond b odd es)
  unless_odd true s = vacuous
  unless_odd false s = s

  kind : (k : Kind-F Base Kind ModuleForm Node Params) (start mark : Pos) → KindTells (locals.of_kind g k mark) (events.of_kind end f k start mark)
  kind (Kind-F.Lit which) start mark = alone none
  kind Kind-F.SelfRef start mark = alone none
  kind (Kind-F.Int n) start mark = alone none
  kind (Kind-F.Str units) start mark = alone none
  kind (Kind-F.Interp parts) start mark = alone (all parts)
  kind (Kind-F.ArrayLit items) start mark = alone (all items)
  kind (Kind-F.HashLit keys values) start mark = alone (pairs keys values)
  kind (Kind-F.RangeLit low high without_end) start mark = alone (both low high)
  kind (Kind-F.LocalGet name) start mark = record { names = none; targets = set_then name mark none; reads = λ x e. refl }
  kind (Kind-F.IvarGet name) start mark = alone none
  kind (Kind-F.GlobalGet name) start mark = alone none
  kind (Kind-F.ConstGet b name) start mark = alone (base (out-Base b))
  kind (Kind-F.LocalSet name v) start mark = record { names = set_then name mark (of v); targets = set_then name mark (of v); reads = λ x e. no_name x e }
  kind (Kind-F.IvarSet name v) start mark = alone (of v)
  kind (Kind-F.GlobalSet name v) start mark = alone (of v)
  kind (Kind-F.ConstSet name v) start mark = alone (of v)
  kind (Kind-F.MultiSet ts v) start mark = alone (tell_then (targets ts) (of v))
  kind (Kind-F.AttrSet receiver name args v) start mark = alone (tell_then (tell_then (of receiver) (all args)) (of v))
  kind (Kind-F.AttrOpSet receiver name args op v) start mark = alone (tell_then (tell_then (of receiver) (all args)) (of v))
  kind (Kind-F.Call receiver name args o marked) start mark =
      record { names = called receiver args o; targets = unless_odd (events.is_alone receiver args o) (called receiver args o); reads = λ x e. no_name x e }
  kind (Kind-F.Super args o) start mark = alone (tell_then (may_all args) (may o))
  kind (Kind-F.Yield args) start mark = alone (all args)
  kind (Kind-F.Block params n) start mark = alone (block_sets start params n)
  kind (Kind-F.BlockPass v) start mark = alone (of v)
  kind (Kind-F.Lambda params n) start mark = alone (block_sets start params n)
  kind (Kind-F.Splat v) start mark = record { names = of v; targets = (below e l v).targets; reads = λ x e. no_name x e }
  kind (Kind-F.Not v) start mark = alone (of v)
  kind (Kind-F.And left right) start mark = alone (joined_sets left right)
  kind (Kind-F.Or left right) start mark = alone (joined_sets left right)
  kind (Kind-F.If c first second) start mark = alone (branches_sets c first second)
  kind (Kind-F.While c n body_first) start mark = alone (guarded_sets c n)
  kind (Kind-F.Case subject whens otherwise) start mark = alone (tell_then (tell_then (may subject) (all whens)) (of otherwise))
  kind (Kind-F.When tests n) start mark = alone (tell_then (all tests) (of n))
  kind (Kind-F.Begin n clauses else_part ensure_part) start mark = alone (tell_then (tell_then (tell_then (of n) (all clauses)) (may else_part)) (may ensure_part))
  kind (Kind-F.Rescue classes name n) start mark = alone (tell_then (tell_then (all classes) (rescued mark name)) (of n))
  kind Kind-F.Retry start mark = alone none
  kind Kind-F.Reraise start mark = alone none
  kind (Kind-F.Jump which v) start mark = alone (of v)
  kind (Kind-F.Def on name params n) start mark = alone (tells_as refl (append-nil (names_in g on)) (tell_then (may on) (method_sets params n)))
  kind (Kind-F.ModuleDef b name n) start mark = alone (tells_as refl (append-nil (locals.of_form g (out-ModuleForm b))) (tell_then (form (out-ModuleForm b)) (body_sets n)))
  kind (Kind-F.Alias new old) start mark = alone none
  kind (Kind-F.Undef names) start mark = alone none
  kind (Kind-F.Seq items) start mark = alone (all items)
  kind (Kind-F.Require name relative) start mark = alone none
  kind (Kind-F.Prim name args) start mark = alone (all args)

node_tells : (d : ℕ) → d ≤ deepest → Below d
node_tells zero m e l n = record { names = record { told = λ w. absurd (false≢true w) }; targets = record { told = λ w. absurd (false≢true w) }; reads = λ x e. no_name x e }
node_tells (suc d) m zero l n = absurd (omega (arith, l))
node_tells (suc d) m (suc e) l n =
    let k = kind d e (omega (arith, l)) (omega (arith, m)) (node_tells d (omega (arith, m))) (out-Kind n.kind) n.span.from n.mark in
    record { names = k.names; targets = k.targets; reads = k.reads }

pub file_tells : (n : Node) → is_whole (read end deepest n).events ≡ true → Alike (declared n) (taken (read end deepest n).events ++ settings (read end deepest n).events) × Sound (read end deepest n).events
file_tells n w = let t = (node_tells deepest (omega arith) deepest (omega arith) n).names.told w in (alike_append t.params t.names, t.sound)
