-- A function that stands for a text of Ruby's, with one parameter: it follows the evaluation of the text in a frame of its own.
use Rattle.std.proofs.Common.{◌≡◌, ⊎_elim, ℕ, ◌+◌, ◌<◌, ◌≤◌, ◌||◌, Bool, true, false, List, [], ◌∷◌, ◌++◌, length, map, Option, Some, None, refl, sym, ap, ◌∙◌, subst, arith}
use Rattle.std.specs.Prelude.{⊤, bytes_eq, is_some, if◌then◌else◌}
use Rattle.std.proofs.lemmas.Slice.Eq.{bytes_eq-Decides}
use Rattle.std.proofs.lemmas.List.{length-append}
use Rattle.opal_base.specs.declared.place.Pos.{Pos}
use Rattle.ruby_meaning.specs.declared.tree.Node.{Node}
use Rattle.ruby_meaning.specs.declared.value.Value.{Value}
use Rattle.ruby_meaning.specs.declared.value.Value.TheVariants as value
use Rattle.es5_tree.specs.declared.tree.EsExpr.{EsExpr}
use Rattle.es5_tree.specs.declared.tree.EsKind.TheVariants as kind
use Rattle.es5_tree.specs.declared.tree.EsStmt.{EsStmt}
use Rattle.es5_tree.specs.declared.tree.EsStmt.TheVariants as stmt
use Rattle.es5_tree.specs.Values.{Text, Obj, find_own}
use Rattle.es5_tree.specs.Values as values
use Rattle.es5_evaluation.specs.State.{Code, Activation, record_at, value_in, with_variable, binding}
use Rattle.es5_evaluation.specs.State as es
use Rattle.es5_evaluation.specs.Task.{Scope, ◌>>=◌, with_record}
use Rattle.es5_evaluation.specs.Declared.{locals}
use Rattle.es5_evaluation.specs.Evaluate.{activation, all, own_name, bound_params, invoke, left, undefined_variables}
use Rattle.es5_rules.specs.Steps.{Gives}
use Rattle.es5_rules.proofs.Steps.{steps_trans, steps_from}
use Rattle.es5_rules.proofs.Expressions.{gives_name}
use Rattle.ruby_evaluation.specs.Tables.{Name, at, put_at}
use Rattle.ruby_evaluation.specs.State.{Frame, frame_at, with_new_frame, closed}
use Rattle.ruby_evaluation.specs.Locals.{Declared, all_nil}
use Rattle.ruby_evaluation.specs.Task.{Return, Raise, Break, Next, Result, Val, Leaves, Jump, Place, Evaluate, Task, Look, Change, State, changed, walk, run_node}
use Rattle.ruby_evaluation.specs.Task as ruby
use Rattle.ruby_evaluation.specs.Requires.{Files}
use Rattle.ruby_evaluation.specs.Run.{eval_to}
use Rattle.both_meanings.specs.Names.{temp, local, self_name, block_name, IsFrameName}
use Rattle.both_meanings.specs.World.{Shape, shape_of, stands, bound_in, Function, Framed, OfFrame, Token, World, Grows, IsValue, is_nil, Sees, SeesModules, FrameIs, Behind, SeesLocal, SeesHome, bound_here, bound_around}
use Rattle.both_meanings.specs.Carries.{Carries}
use Rattle.both_meanings.specs.Follows.{Follows}
use Rattle.both_meanings.specs.Holds.{Scheme, FrameHolds, Holds}
use Rattle.both_meanings.specs.Simulates.{Here, Called, Simulates}
use Rattle.both_meanings.specs.Code.{IsText}
use Rattle.both_meanings.proofs.Basics.{some_same, none_some, true_or_false, chosen}
use Rattle.both_meanings.proofs.Bind.{follows_quiet}
use Rattle.both_meanings.proofs.Growing.{value_grows, sees_grows, binds_grows}
use Rattle.both_meanings.proofs.NamesDiffer.{frame_name, no_local}
use Rattle.both_meanings.proofs.Records.{bound_is}
use Rattle.both_meanings.proofs.Holding.{NoToken}
use Rattle.both_meanings.proofs.Entering.{record_kept, frame_new, entered, entered_grows, entered_later, entered_holds, entered_shapes, sees_around}
use Rattle.both_meanings.proofs.Bodies.{Finishes, Began, body_follows}
use Rattle.both_meanings.proofs.Starting.{Prepared, prepares, enters_function, last_at}

-- ---- locals at first

abbrev AllNil : List (Name × Value) → Type 0
AllNil [] = ⊤
AllNil (p ∷ ps) = (p.1 ≡ value.Nil) × AllNil ps

put_nil : (n : Name) (vs : List (Name × Value)) → AllNil vs → AllNil (put_at n value.Nil vs)
put_nil n [] i = (refl, tt)
put_nil n (p ∷ vs) i = ⊎_elim (λ (e : bytes_eq n p.0 ≡ true). rw e (refl, i.1)) (λ (e : bytes_eq n p.0 ≡ false). rw e (i.0, put_nil n vs i.1)) (true_or_false (bytes_eq n p.0))

are_nil : (ds : Declared) (vs : List (Name × Value)) → AllNil vs → AllNil (all_nil ds vs)
are_nil [] vs i = i
are_nil (d ∷ ds) vs i = are_nil ds (put_at d.0 value.Nil vs) (put_nil d.0 vs i)

nil_at : (vs : List (Name × Value)) (y : Name) (v : Value) → AllNil vs → at y vs ≡ Some v → v ≡ value.Nil
nil_at [] y v i e = cc
nil_at (p ∷ vs) y v i e = ⊎_elim
    (λ (f : bytes_eq y p.0 ≡ true). some_same v value.Nil (sym e ∙ ap (λ b. if b then Some p.1 else at y vs) f ∙ ap Some i.0))
    (λ (f : bytes_eq y p.0 ≡ false). nil_at vs y v i.1 (sym (ap (λ b. if b then Some p.1 else at y vs) f) ∙ e))
    (true_or_false (bytes_eq y p.0))

-- ---- the record of the call

-- what names stand for in it
abbrev pub of_call : values.Val → Text → values.Val → Text → Option values.Val
of_call this first pu y = if bytes_eq y self_name then Some this else if bytes_eq y first then Some pu else None

of_undefined : (xs : List Text) → map (λ p. p.0) (undefined_variables xs) ≡ xs
of_undefined [] = refl
of_undefined (x ∷ xs) = ap (λ l. x ∷ l) (of_undefined xs)

names_of : (ps : List Text) (n : Text) (pu : values.Val) (ls : List Text) → ps ≡ n ∷ [] → map (λ p. p.0) (bound_params ps (pu ∷ []) ++ [] ++ undefined_variables ls) ≡ n ∷ ls
unfolding bound_params
names_of ps n pu ls e = ap (λ qs. map (λ p. p.0) (bound_params qs (pu ∷ []) ++ [] ++ undefined_variables ls)) e ∙ ap (λ l. n ∷ l) (of_undefined ls)

first_of_names : (ps : List Text) (n : Text) (pu : values.Val) (ls : List Text) → ps ≡ n ∷ [] → find_own (bound_params ps (pu ∷ []) ++ [] ++ undefined_variables ls) n ≡ Some pu
unfolding bound_params find_own
first_of_names ps n pu ls e = ap (λ qs. find_own (bound_params qs (pu ∷ []) ++ [] ++ undefined_variables ls) n) e ∙ ap (λ b. if b then Some pu else find_own (undefined_variables ls) n) ((bytes_eq-Decides n n).1 refl)

module _ {T : Scheme} {files : Files} {d : ℕ} (ih : Simulates T files d) {w : World} {st : State} {s : es.State} (h : Holds T w st s) (text : Node) (ds : Declared) (fn : Function) (is : IsText T.texts w text fn) (fo : ℕ) (there : w.function fo ≡ Some fn) (u pu : values.Val) (fr : Frame) (vu : IsValue w fr.me u) (locals_are : fr.locals ≡ all_nil ds []) (covers : (y : Name) → is_some (at y (all_nil ds [])) ≡ stands y is.own) where
  abbrev pub k : ℕ
  k = length st.ruby.frames

  abbrev pub r : ℕ
  r = length s.records

  abbrev pub a0 : Activation
  a0 = activation fn.code fo fn.scope (pu ∷ []) []

  abbrev pub sh : Shape
  sh = shape_of a0

  abbrev pub declared : List Text
  declared = is.first ∷ locals fn.code.params fn.code.body

  abbrev pub f : Framed
  f = record { record_at = r; names = is.own; outer = fr.outer }

  abbrev pub ρ : Scope
  ρ = record { this = u; innermost = r }

  abbrev pub behind : List EsStmt
  behind = is.code ++ (stmt.Return (Some is.result) ∷ is.rest)

  pub names_is : sh.names ≡ declared
  unfolding activation bound_params
  names_is = names_of fn.code.params is.first pu (locals fn.code.params fn.code.body) is.params

  pub constants_is : sh.constants ≡ []
  unfolding activation
  constants_is = ap (λ n. own_name n fo) is.nameless

  pub scope_below : fn.scope < r
  scope_below = (h.records.shapes.by fn.scope is.shape is.there).0

  pub stands_in : (y : Text) (c : Bool) → stands y declared ≡ c → stands y sh.names ≡ c
  stands_in y c e = ap (stands y) names_is ∙ e

  pub free_in : (y : Text) → stands y declared ≡ false → bound_in sh y ≡ false
  unfolding find_own
  free_in y e = ap (λ c. c || is_some (find_own sh.constants y)) (stands_in y false e) ∙ ap (λ l. is_some (find_own l y)) constants_is

  pub bound_own : (y : Text) → stands y declared ≡ true → bound_in sh y ≡ true
  bound_own y e = ap (λ c. c || is_some (find_own sh.constants y)) (stands_in y true e)

  -- with the world whose new record has that shape
  abbrev pub w1 : World
  w1 = entered w r sh (of_call u is.first pu) k f

  pub grows1 : Grows w w1
  grows1 = entered_grows h a0 (of_call u is.first pu) f fr

  pub shaped : w1.shape r ≡ Some sh
  shaped = chosen r r (Some sh) (w.shape r) refl

  pub outer_is : sh.outer ≡ Some fn.scope
  unfolding activation
  outer_is = refl

  pub through : (y : Text) (z : values.Val) → stands y declared ≡ false → Sees w fn.scope y z → Sees w1 r y z
  through y z e i = sees_around w1 r fn.scope sh y z shaped (free_in y e) outer_is scope_below (sees_grows grows1 fn.scope y z i)

  pub own_binds : (a : Activation) (y : Text) → shape_of a ≡ sh → stands y sh.names ≡ true → binding (with_record s a).records r y ≡ Some r
  own_binds a y e i = bound_is (entered_shapes h.records.shapes a sh (of_call u is.first pu) k f e) r r y (bound_here r y sh shaped (ap (λ c. c || is_some (find_own sh.constants y)) i))

  pub nil_gives : (a : Activation) (e : EsExpr) → shape_of a ≡ sh → e.kind ≡ kind.Name is.nil → Gives e ρ (with_record s a) 1 (Obj is.nil_object) (with_record s a) []
  nil_gives a e i named =
      let sees = is.sees is.nil (Obj is.nil_object) is.nil_name in
      let old = h.records.fixed sees.at is.nil (Obj is.nil_object) sees.is in
      gives_name e is.nil ρ (with_record s a) sees.at (Obj is.nil_object) named
      (bound_is (entered_shapes h.records.shapes a sh (of_call u is.first pu) k f i) r sees.at is.nil (bound_around r fn.scope sees.at is.nil sh shaped (free_in is.nil (is.free is.nil (Obj is.nil_object) is.nil_name)) outer_is scope_below (binds_grows grows1 fn.scope sees.at is.nil sees.binds)))
      (ap (λ c. value_in c is.nil) (record_kept s.records a sees.at old.0) ∙ old.2)

  pub ready : Prepared s ρ sh is.nil is.nil_object refl own_binds nil_gives a0 is.own is.begin behind
  ready = prepares s ρ sh is.nil is.nil_object refl own_binds nil_gives is.own is.begin behind is.begins (stands_in self_name true is.self) (λ y i. stands_in (local y) true (is.declares y ∙ i)) a0 refl

  pub first_there : value_in a0 is.first ≡ Some pu
  unfolding activation
  first_there = ap (λ o. values.first o (λ z. find_own (own_name fn.code.name fo) is.first)) (first_of_names fn.code.params is.first pu (locals fn.code.params fn.code.body) is.params)

  pub first_frame : IsFrameName is.first
  first_frame = frame_name is.first is.tail is.first_is

  pub fixed_there : (y : Text) (z : values.Val) → of_call u is.first pu y ≡ Some z → IsFrameName y × (value_in ready.a1 y ≡ Some z)
  fixed_there y z e = ⊎_elim
      (λ (i : bytes_eq y self_name ≡ true).
      let same : y ≡ self_name = (bytes_eq-Decides y self_name).0 i in
      let is_z : u ≡ z = some_same u z (sym (ap (λ c. if c then Some u else if bytes_eq y is.first then Some pu else None) i) ∙ e) in
      (subst IsFrameName (sym same) (frame_name self_name _ refl), ap (value_in ready.a1) same ∙ ready.self ∙ ap Some is_z))
      (λ (i : bytes_eq y self_name ≡ false).
      let more : (if bytes_eq y is.first then Some pu else None) ≡ Some z = sym (ap (λ c. if c then Some u else if bytes_eq y is.first then Some pu else None) i) ∙ e in
      ⊎_elim
      (λ (j : bytes_eq y is.first ≡ true).
      let same : y ≡ is.first = (bytes_eq-Decides y is.first).0 j in
      let is_z : pu ≡ z = some_same pu z (sym (ap (λ c. if c then Some pu else None) j) ∙ more) in
      (subst IsFrameName (sym same) first_frame, ap (value_in ready.a1) same ∙ ready.others is.first (λ n q. no_local first_frame n q) is.no_self ∙ first_there ∙ ap Some is_z))
      (λ (j : bytes_eq y is.first ≡ false). absurd (none_some z (sym (ap (λ c. if c then Some pu else None) j) ∙ more)))
      (true_or_false (bytes_eq y is.first)))
      (true_or_false (bytes_eq y self_name))

  -- ---- the frame, in the record as it is then

  abbrev pub a1 : Activation
  a1 = ready.a1

  abbrev pub sh1 : Shape
  sh1 = shape_of a1

  abbrev pub w2 : World
  w2 = entered w r sh1 (of_call u is.first pu) k f

  pub grows2 : Grows w w2
  grows2 = entered_grows h a1 (of_call u is.first pu) f fr

  pub shaped2 : w2.shape r ≡ Some sh1
  shaped2 = chosen r r (Some sh1) (w.shape r) refl

  pub outer2 : sh1.outer ≡ Some fn.scope
  outer2 = ap (λ z. z.outer) ready.shape ∙ outer_is

  pub stands2 : (y : Text) (c : Bool) → stands y declared ≡ c → stands y sh1.names ≡ c
  stands2 y c e = ap (λ z. stands y z.names) ready.shape ∙ stands_in y c e

  pub free2 : (y : Text) → stands y declared ≡ false → bound_in sh1 y ≡ false
  free2 y e = ap (λ z. bound_in z y) ready.shape ∙ free_in y e

  pub through2 : (y : Text) (z : values.Val) → stands y declared ≡ false → Sees w fn.scope y z → Sees w2 r y z
  through2 y z e i = sees_around w2 r fn.scope sh1 y z shaped2 (free2 y e) outer2 scope_below (sees_grows grows2 fn.scope y z i)

  pub own2 : (y : Text) (z : values.Val) → stands y declared ≡ true → of_call u is.first pu y ≡ Some z → Sees w2 r y z
  own2 y z e i = record { at = r; binds = bound_here r y sh1 shaped2 (ap (λ c. c || is_some (find_own sh1.constants y)) (stands2 y true e)); is = chosen r r (of_call u is.first pu y) (w.fixed r y) refl ∙ i }

  abbrev pub st2 : State
  st2 = changed (with_new_frame fr) st

  abbrev pub z2 : es.State
  z2 = with_record s a1

  -- self and the parameter
  pub sees_self : Sees w2 r self_name u
  sees_self = own2 self_name u is.self refl

  pub sees_first : Sees w2 r is.first pu
  sees_first = own2 is.first pu (ap (λ b. b || stands is.first (locals fn.code.params fn.code.body)) ((bytes_eq-Decides is.first is.first).1 refl))
      (ap (λ b. if b then Some u else if bytes_eq is.first is.first then Some pu else None) (differ is.first) ∙ ap (λ b. if b then Some pu else None) ((bytes_eq-Decides is.first is.first).1 refl))
    where
      differ : (n : Text) → bytes_eq is.first self_name ≡ false
      differ n = ⊎_elim (λ (e : bytes_eq is.first self_name ≡ true). absurd (is.no_self (sym ((bytes_eq-Decides is.first self_name).0 e)))) (λ e. e) (true_or_false (bytes_eq is.first self_name))

  -- what the frame says besides its locals and self, and how the text's result is that of the call
  pub record FrameRest (p : Place) (end : Result → Result) : Type 0 where
    pub outers : (j : ℕ) → fr.outer ≡ Some j → (g : Framed) × (w2.frame j ≡ Some g) × (j < k) × Behind w2 r g.record_at
    pub block : (z : values.Val) × Sees w2 r block_name z × IsValue w2 fr.block z
    pub modules : SeesModules w2 r fr.around.modules
    pub home : SeesHome w2 r fr.method
    pub opened : fr.is_open ≡ true
    pub returns : is.site.returns ≡ true → fr.returns ≡ k
    pub seen : (y : Name) → stands y is.site.names ≡ true → (j : ℕ) × SeesLocal w2 k y j
    pub place : p.frame ≡ k
    pub finishes : (y : World) → NoToken y p.frame → Finishes y p is.site end

  pub frame_is : ((j : ℕ) → fr.outer ≡ Some j → (g : Framed) × (w2.frame j ≡ Some g) × (j < k) × Behind w2 r g.record_at) → FrameIs w2 k f
  unfolding find_own
  frame_is outers = record {
    sh = sh1;
    shape = shaped2;
    own = λ y. ap (λ z. stands (local y) z.names) ready.shape ∙ ap (stands (local y)) names_is ∙ is.declares y;
    free = λ y. ap (λ z. find_own z.constants (local y)) ready.shape ∙ ap (λ l. find_own l (local y)) constants_is;
    outer = outers;
  }

  pub frame_holds : (p : Place) (end : Result → Result) → FrameRest p end → FrameHolds w2 (s.records ++ a1 ∷ []) k f fr
  frame_holds p end q = record {
    is = frame_is q.outers;
    outer = refl;
    names = λ y. ap (λ l. is_some (at y l)) locals_are ∙ covers y;
    values = λ y z e0.
        let e : at y (all_nil ds []) ≡ Some z = ap (at y) (sym locals_are) ∙ e0 in
        let n : z ≡ value.Nil = nil_at (all_nil ds []) y z (are_nil ds [] tt) e in
        let st : stands y is.own ≡ true = sym (covers y) ∙ ap is_some e in (
          Obj is.nil_object,
          ap (λ c. find_own c.variables (local y)) (last_at s.records a1) ∙ ready.values y st,
          subst (λ c. IsValue w2 c (Obj is.nil_object)) (sym n) (is_nil is.nil_object (grows2.object 0 is.nil_object is.nil_is)),
        );
    me = (u, sees_self, value_grows grows2 fr.me u vu);
    block = q.block;
    modules = q.modules;
    home = q.home;
  }

  pub here2 : (p : Place) (end : Result → Result) → FrameRest p end → Here T w2 st2.ruby p r is.site
  here2 p end q = record {
    frame = f;
    is = ap w2.frame q.place ∙ chosen k k (Some f) (w.frame k) refl;
    record_is = refl;
    opened = ap (λ j. (frame_at st2.ruby j).is_open) q.place ∙ ap (λ y. y.is_open) (frame_new st.ruby fr) ∙ q.opened;
    returns = λ e. ap (λ j. (frame_at st2.ruby j).returns) q.place ∙ ap (λ y. y.returns) (frame_new st.ruby fr) ∙ q.returns e ∙ sym q.place;
    locals = λ y e. let l = q.seen y e in (l.0, subst (λ j. SeesLocal w2 j y l.0) (sym q.place) l.1);
    temps = λ n l. record { sh = sh1; shape = shaped2; stands = stands2 (temp n) true (is.temps n l) };
    names = λ y z e. through2 y z (is.free y z e) (is.sees y z e);
    known = λ o g e. grows2.function o g (is.knows o g e);
  }

  pub began2 : Began w st s w2 st2 z2 k r
  began2 = record {
    later = entered_later h a1 (of_call u is.first pu) f fr;
    fresh = omega arith;
    there = let n = length-append st.ruby.frames (fr ∷ []) in omega (arith, n);
    kept = record { temps = λ q n l. ap (λ c. find_own c.variables (temp n)) (record_kept s.records a1 q l); lists = λ o q n e. refl };
    stay = record {
      more = let n = length-append s.records (a1 ∷ []) in omega (arith, n);
      shape = λ q l. ap shape_of (record_kept s.records a1 q l);
      plain = λ q x l n. ap (λ c. find_own c.variables x) (record_kept s.records a1 q l);
    };
    beyond = omega arith;
    none = λ o e. let i = (h.objects.roles o (Token (OfFrame k)) e).1.0 in absurd (omega (arith, i));
  }

  pub function_follows : (p : Place) (end : Result → Result) → FrameRest p end → (l : ℕ) → l ≤ d → (at : Pos) → Follows (Carries T.called) st.calls l 0 (walk (eval_to files d) (ruby.Ask (Evaluate text p) (λ x. Change (closed p.frame) (ruby.Done (end x)))) st2 l) (invoke at (Obj fo) u (pu ∷ [])) s (Called T w st s)
  function_follows p end q l le at =
      let fun = (h.objects.functions fo fn there).1 in
      let b = began2 in
      follows_quiet {l = l} {a2 = is.a + 120}
      (steps_trans (enters_function at fo fun.at fn.scope fn.code u (pu ∷ []) s fun.kind fun.code is.quiet)
      (steps_from (ap (λ ts. all ts ρ >>= left) is.body) ready.runs))
      (omega arith) (let c = is.small in let n = ready.some in omega (arith, c, n))
      (body_follows ih is.a is.small is.site is.loop is.room text is.code is.rest is.stands_for is.result is.named end p q.finishes w st s h w2 st2 z2 ρ l le (subst (λ j. Began w st s w2 st2 z2 j r) (sym q.place) began2) (here2 p end q)
      (entered_holds h a1 (of_call u is.first pu) f fr fixed_there refl (frame_holds p end q)))
