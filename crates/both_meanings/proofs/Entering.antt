-- A function is entered: the world grows by its record, and by the frame that Ruby's side has then.
use Rattle.std.proofs.Common.{◌≡◌, ⊎_elim, ℕ, suc, ◌<◌, false, if◌then◌else◌, List, [], ◌∷◌, ◌++◌, length, Option, Some, None, refl, sym, ap, ◌∙◌, subst, arith}
use Rattle.std.specs.Prelude.{◌==◌}
use Rattle.std.proofs.lemmas.List.{length-append, get_or_append_left, get_or_push}
use Rattle.es5_tree.specs.Values.{Text, Val, Truth, Obj, find_own}
use Rattle.es5_evaluation.specs.State.{Activation, record_at, value_in}
use Rattle.es5_evaluation.specs.State as es
use Rattle.es5_evaluation.specs.Task.{with_record}
use Rattle.ruby_evaluation.specs.State.{Method, Frame, Ruby, frame_at, with_new_frame, no_frame}
use Rattle.ruby_evaluation.specs.Task.{State, changed}
use Rattle.both_meanings.specs.Names.{local, home_name, module_name, IsFrameName}
use Rattle.both_meanings.specs.World.{Shape, shape_of, Framed, OfFrame, OfCall, Role, Token, Carrier, Listed, World, Grows, IsValue, bound_in, bound_around, Sees, SeesModule, SeesModules, SeesHome}
use Rattle.both_meanings.specs.Holds.{Scheme, Shapes, Serves, FrameHolds, ObjectsHold, Holds}
use Rattle.both_meanings.specs.Simulates.{Later}
use Rattle.both_meanings.proofs.Basics.{some_same, same_or_not, chosen, passed}
use Rattle.both_meanings.proofs.Growing.{grows_trans, value_grows, sees_grows, modules_grow, home_grows, frame_is_grows, is_entry_grows}
use Rattle.both_meanings.proofs.Holding.{carries_same}

-- ---- a new record and a new frame

pub record_kept : (rs : List Activation) (a : Activation) (q : ℕ) → q < length rs → record_at (rs ++ a ∷ []) q ≡ record_at rs q
unfolding record_at
record_kept rs a q l = get_or_append_left rs (a ∷ []) _ q l

pub record_new : (rs : List Activation) (a : Activation) → record_at (rs ++ a ∷ []) (length rs) ≡ a
unfolding record_at
record_new rs a = get_or_push rs a _ (length rs) refl

pub frame_kept : (r : Ruby) (fr : Frame) (k : ℕ) → k < length r.frames → frame_at (with_new_frame fr r) k ≡ frame_at r k
frame_kept r fr k l = get_or_append_left r.frames (fr ∷ []) no_frame k l

pub frame_new : (r : Ruby) (fr : Frame) → frame_at (with_new_frame fr r) (length r.frames) ≡ fr
frame_new r fr = get_or_push r.frames fr no_frame (length r.frames) refl

-- the world with a record of that shape, in which names stand for values, and a frame
abbrev pub entered : World → ℕ → Shape → (Text → Option Val) → ℕ → Framed → World
entered w r sh values k f = record {
  shape = λ q. if q == r then Some sh else w.shape q;
  fixed = λ q x. if q == r then values x else w.fixed q x;
  object = w.object;
  frame = λ j. if j == k then Some f else w.frame j;
  function = w.function;
  role = w.role;
}

-- whatever record of that shape stands there
pub entered_shapes : {w : World} {rs : List Activation} → Shapes w rs → (a : Activation) (sh : Shape) (values : Text → Option Val) (k : ℕ) (f : Framed) → shape_of a ≡ sh → Shapes (entered w (length rs) sh values k f) (rs ++ a ∷ [])
entered_shapes {w} {rs} h a sh values k f e = record { by = one }
  where
    longer : length (rs ++ a ∷ []) ≡ suc (length rs)
    longer = length-append rs (a ∷ []) ∙ omega arith

    one : (q : ℕ) (sh1 : Shape) → (entered w (length rs) sh values k f).shape q ≡ Some sh1 → (q < length (rs ++ a ∷ [])) × (shape_of (record_at (rs ++ a ∷ []) q) ≡ sh1)
    one q sh1 i = ⊎_elim
        (λ (j : q ≡ length rs). (omega (arith, j, longer), ap (λ n. shape_of (record_at (rs ++ a ∷ []) n)) j ∙ ap shape_of (record_new rs a) ∙ e ∙ some_same _ _ (sym (chosen q (length rs) (Some sh) (w.shape q) j) ∙ i)))
        (λ n. let o = h.by q sh1 (sym (passed q (length rs) (Some sh) (w.shape q) n) ∙ i) in (omega (arith, o.0, longer), ap shape_of (record_kept rs a q o.0) ∙ o.1))
        (same_or_not q (length rs))

-- a name that the new record doesn't bind is seen through it
pub sees_around : (w : World) (r o : ℕ) (sh : Shape) (x : Text) (u : Val) → w.shape r ≡ Some sh → bound_in sh x ≡ false → sh.outer ≡ Some o → o < r → Sees w o x u → Sees w r x u
sees_around w r o sh x u e free out less i = record { at = i.at; binds = bound_around r o i.at x sh e free out less i.binds; is = i.is }

pub module_around : (w : World) (r o : ℕ) (sh : Shape) (x : Text) (k : ℕ) → w.shape r ≡ Some sh → bound_in sh x ≡ false → sh.outer ≡ Some o → o < r → SeesModule w o x k → SeesModule w r x k
module_around w r o sh x k e free out less i = record { o = i.o; object = i.object; sees = sees_around w r o sh x (Obj i.o) e free out less i.sees }

pub home_around : (w : World) (r o : ℕ) (sh : Shape) (m : Option Method) → w.shape r ≡ Some sh → bound_in sh home_name ≡ false → sh.outer ≡ Some o → o < r → SeesHome w o m → SeesHome w r m
home_around w r o sh None e free out less i = tt
home_around w r o sh (Some m) e free out less i = module_around w r o sh home_name m.owner e free out less i

pub modules_around : (w : World) (r o : ℕ) (sh : Shape) (ks : List ℕ) → w.shape r ≡ Some sh → ((n : ℕ) → bound_in sh (module_name n) ≡ false) → sh.outer ≡ Some o → o < r → SeesModules w o ks → SeesModules w r ks
modules_around w r o sh [] e free out less i = tt
modules_around w r o sh (k ∷ ks) e free out less i = (module_around w r o sh (module_name (length (k ∷ ks))) k e (free (length (k ∷ ks))) out less i.0, modules_around w r o sh ks e free out less i.1)

module _ {T : Scheme} {w : World} {st : State} {s : es.State} (h : Holds T w st s) (a : Activation) (values : Text → Option Val) (f : Framed) (fr : Frame) where
  abbrev r : ℕ
  r = length s.records

  abbrev k : ℕ
  k = length st.ruby.frames

  abbrev w1 : World
  w1 = entered w r (shape_of a) values k f

  abbrev R1 : Ruby
  R1 = with_new_frame fr st.ruby

  abbrev rs1 : List Activation
  rs1 = s.records ++ a ∷ []

  longer : length rs1 ≡ suc r
  longer = length-append s.records (a ∷ []) ∙ omega arith

  more_frames : length R1.frames ≡ suc k
  more_frames = length-append st.ruby.frames (fr ∷ []) ∙ omega arith

  pub entered_grows : Grows w w1
  entered_grows = record {
    shape = λ q sh e. passed q r (Some (shape_of a)) (w.shape q) (λ i. let b = (h.records.shapes.by q sh e).0 in absurd (omega (arith, b, i))) ∙ e;
    fixed = λ q x u e. passed q r (values x) (w.fixed q x) (λ i. let b = (h.records.fixed q x u e).0 in absurd (omega (arith, b, i))) ∙ e;
    object = λ j o e. e;
    frame = λ j g e. passed j k (Some f) (w.frame j) (λ i. let b = (h.records.frames j g e).0 in absurd (omega (arith, b, i))) ∙ e;
    function = λ o g e. e;
    role = λ o x e. e;
  }

  pub entered_later : Later w st.ruby w1 R1
  entered_later = record {
    grows = entered_grows;
    frames = omega (arith, more_frames);
    calls = omega arith;
    opened = λ j l. ap (λ x. x.is_open) (frame_kept st.ruby fr j l);
    returns = λ j l. ap (λ x. x.returns) (frame_kept st.ruby fr j l);
    tokens = λ o t i e. e;
  }

  module _ (fixed : (x : Text) (u : Val) → values x ≡ Some u → IsFrameName x × (value_in a x ≡ Some u)) (place : f.record_at ≡ r) (frame : FrameHolds w1 rs1 k f fr) where
    fixed1 : (q : ℕ) (x : Text) (u : Val) → w1.fixed q x ≡ Some u → (q < length rs1) × IsFrameName x × (value_in (record_at rs1 q) x ≡ Some u)
    fixed1 q x u e = ⊎_elim
        (λ (i : q ≡ r). let p = fixed x u (sym (chosen q r (values x) (w.fixed q x) i) ∙ e) in (omega (arith, i, longer), p.0, ap (λ n. value_in (record_at rs1 n) x) i ∙ ap (λ b. value_in b x) (record_new s.records a) ∙ p.1))
        (λ n. let o = h.records.fixed q x u (sym (passed q r (values x) (w.fixed q x) n) ∙ e) in (omega (arith, o.0, longer), o.1, ap (λ b. value_in b x) (record_kept s.records a q o.0) ∙ o.2))
        (same_or_not q r)

    -- a frame that was there
    old_frame : (j : ℕ) (g : Framed) → w.frame j ≡ Some g → (j < length R1.frames) × FrameHolds w1 rs1 j g (frame_at R1 j)
    old_frame j g e =
        let o = h.records.frames j g e in
        let x = o.1 in
        let within : g.record_at < r = (h.records.shapes.by g.record_at x.is.sh x.is.shape).0 in
        let gr = entered_grows in (
          omega (arith, o.0, more_frames),
          subst (λ y. FrameHolds w1 rs1 j g y) (sym (frame_kept st.ruby fr j o.0)) (record {
            is = frame_is_grows gr j g x.is;
            outer = x.outer;
            names = x.names;
            values = λ y v i. let b = x.values y v i in (b.0, ap (λ z. find_own z.variables (local y)) (record_kept s.records a g.record_at within) ∙ b.1, value_grows gr v b.0 b.2);
            me = (x.me.0, sees_grows gr g.record_at _ x.me.0 x.me.1, value_grows gr _ x.me.0 x.me.2);
            block = (x.block.0, sees_grows gr g.record_at _ x.block.0 x.block.1, value_grows gr _ x.block.0 x.block.2);
            modules = modules_grow gr g.record_at _ x.modules;
            home = home_grows gr g.record_at _ x.home;
          }),
        )

    frames1 : (j : ℕ) (g : Framed) → w1.frame j ≡ Some g → (j < length R1.frames) × FrameHolds w1 rs1 j g (frame_at R1 j)
    frames1 j g e = ⊎_elim
        (λ (i : j ≡ k).
        let fg : f ≡ g = some_same f g (sym (chosen j k (Some f) (w.frame j) i) ∙ e) in (
          omega (arith, i, more_frames),
          subst (λ n. FrameHolds w1 rs1 n g (frame_at R1 n)) (sym i) (subst (λ y. FrameHolds w1 rs1 k y (frame_at R1 k)) fg (subst (λ y. FrameHolds w1 rs1 k f y) (sym (frame_new st.ruby fr)) frame)),
        ))
        (λ n. old_frame j g (sym (passed j k (Some f) (w.frame j) n) ∙ e))
        (same_or_not j k)

    within_old : (j : ℕ) (g : Framed) → w.frame j ≡ Some g → g.record_at < r
    within_old j g e = let x = (h.records.frames j g e).1 in (h.records.shapes.by g.record_at x.is.sh x.is.shape).0

    apart1 : (i j : ℕ) (g g1 : Framed) → w1.frame i ≡ Some g → w1.frame j ≡ Some g1 → g.record_at ≡ g1.record_at → i ≡ j
    apart1 i j g g1 e e1 same = ⊎_elim
        (λ (ik : i ≡ k).
        ⊎_elim
        (λ (jk : j ≡ k). ik ∙ sym jk)
        (λ nj.
        let fg : f ≡ g = some_same f g (sym (chosen i k (Some f) (w.frame i) ik) ∙ e) in
        let at : g.record_at ≡ r = ap (λ y. y.record_at) (sym fg) ∙ place in
        let b = within_old j g1 (sym (passed j k (Some f) (w.frame j) nj) ∙ e1) in
        absurd (omega (arith, b, at, same)))
        (same_or_not j k))
        (λ ni.
        ⊎_elim
        (λ (jk : j ≡ k).
        let fg : f ≡ g1 = some_same f g1 (sym (chosen j k (Some f) (w.frame j) jk) ∙ e1) in
        let at : g1.record_at ≡ r = ap (λ y. y.record_at) (sym fg) ∙ place in
        let b = within_old i g (sym (passed i k (Some f) (w.frame i) ni) ∙ e) in
        absurd (omega (arith, b, at, same)))
        (λ nj. h.records.apart i j g g1 (sym (passed i k (Some f) (w.frame i) ni) ∙ e) (sym (passed j k (Some f) (w.frame j) nj) ∙ e1) same)
        (same_or_not j k))
        (same_or_not i k)

    serves1 : (o : ℕ) (x : Role) → Serves st.ruby s.heap o x → Serves R1 s.heap o x
    serves1 o (Token (OfFrame j)) i = (omega (arith, i.0, more_frames), i.1, i.2 ∙ ap (λ y. Some (Truth y.is_open)) (sym (frame_kept st.ruby fr j i.0)))
    serves1 o (Token (OfCall n)) i = i
    serves1 o (Carrier p u) i = i
    serves1 o (Listed q n) i = i

    objects1 : ObjectsHold T w1 R1 s.heap s.codes
    objects1 =
        let ob = h.objects in
        let gr = entered_grows in
        record {
          carries = carries_same T.called st.ruby R1 s.heap refl ob.carries;
          objects = ob.objects;
          numbers = ob.numbers;
          functions = ob.functions;
          entries = λ M m e l o p i j y. is_entry_grows gr T e o (ob.entries M m e l o p i j y);
          procs = λ j o c i e.
              let p = ob.procs j o c i e in
              let q = p.1 in (
                omega (arith, p.0, more_frames),
                record {
                  function = q.function;
                  is = q.is;
                  since = q.since;
                  grown = grows_trans q.grown gr;
                  text = q.text;
                  self = q.self;
                  self_is = q.self_is;
                  self_value = subst (λ y. IsValue w1 y.me q.self) (sym (frame_kept st.ruby fr c.frame p.0)) (value_grows gr _ q.self q.self_value);
                },
              );
          roles = λ o x e. let z = ob.roles o x e in (z.0, serves1 o x z.1);
          clean = ob.clean;
          single = ob.single;
        }

    -- both sides are in the new frame
    pub entered_holds : Holds T w1 (changed (with_new_frame fr) st) (with_record s a)
    entered_holds = record { calls = h.calls; input = h.input; objects = objects1; records = record { shapes = entered_shapes h.records.shapes a (shape_of a) values k f refl; fixed = fixed1; frames = frames1; apart = apart1; lists = λ o q n e. let b = h.records.lists o q n e in omega (arith, b, longer) } }
