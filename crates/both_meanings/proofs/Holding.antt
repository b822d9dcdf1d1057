-- What the steps of both sides leave of how their states stand to each other.
use Rattle.std.proofs.Common.{◌≡◌, ⊎_elim, ℕ, ◌<◌, ◌≤◌, false, List, ◌∷◌, length, Some, refl, sym, ap, ◌∙◌, subst, arith}
use Rattle.std.proofs.lemmas.List.{length-set, get_or-set_same, get_or-set_other}
use Rattle.es5_tree.specs.Values.{Text, Val, Truth}
use Rattle.opal_base.specs.Shown.{Wrote}
use Rattle.es5_evaluation.specs.State.{Activation}
use Rattle.es5_evaluation.specs.State as es
use Rattle.es5_evaluation.specs.Task.{printed}
use Rattle.ruby_evaluation.specs.Tables.{Name}
use Rattle.ruby_evaluation.specs.State.{Thing, Ruby, Frame, frame_at, closed, no_frame}
use Rattle.ruby_evaluation.specs.Task.{State, changed, noted}
use Rattle.both_meanings.specs.Names.{temp, local}
use Rattle.both_meanings.specs.Carries.{Heap, CarriesHeap}
use Rattle.both_meanings.specs.World.{OfFrame, OfCall, Role, Token, Carrier, Listed, World, Var}
use Rattle.both_meanings.specs.Holds.{Scheme, Serves, FrameHolds, RecordsHold, IsProc, ObjectsHold, Holds}
use Rattle.both_meanings.specs.Simulates.{Kept}
use Rattle.both_meanings.proofs.Basics.{same_or_not}
use Rattle.both_meanings.proofs.NamesDiffer.{temps_differ, local_temp, no_temp}
use Rattle.both_meanings.proofs.Records.{wrote, var_within, shapes_wrote, length_wrote, value_other, value_elsewhere, in_other}

-- ---- only the heap of Ruby's side counts for what carries it

-- all else may be another
other : (called : List Name) (hs : List Thing) (x y : Ruby) (h : Heap) → CarriesHeap called (record x { heap = hs }) h → CarriesHeap called (record y { heap = hs }) h
other called hs x y h c = record {
  one = c.one;
  only = c.only;
  forms = c.forms;
  chains = c.chains;
  tables = λ M m p. let s = c.tables M m p in record { value = s.value; same = s.same; fits = s.fits };
  found = c.found;
  missed = c.missed;
  variables = c.variables;
}

pub carries_same : (called : List Name) (r r1 : Ruby) (h : Heap) → r1.heap ≡ r.heap → CarriesHeap called r h → CarriesHeap called r1 h
carries_same called r r1 h e c = subst (λ hs. CarriesHeap called (record r1 { heap = hs }) h) (sym e) (other called r.heap r r1 h c)

-- ---- a temporary is written

pub records_temp : (w : World) (r : Ruby) (s : es.State) (q n : ℕ) (v : Val) → RecordsHold w r s.records → Var w q (temp n) → RecordsHold w r (wrote s q (temp n) v).records
records_temp w r s q n v h i = record {
  shapes = shapes_wrote s q (temp n) v h.shapes i;
  fixed = λ b x u e.
      let f = h.fixed b x u e in (
        subst (λ m. b < m) (sym (length_wrote s q (temp n) v)) f.0,
        f.1,
        in_other s q b (temp n) v x (var_within h.shapes q (temp n) i) (no_temp f.1 n) ∙ f.2,
      );
  frames = λ k f e.
      let g = h.frames k f e in (
        g.0,
        record {
          is = g.1.is;
          outer = g.1.outer;
          names = g.1.names;
          values = λ x y j. let a = g.1.values x y j in (a.0, value_other s q f.record_at (temp n) v (local x) (var_within h.shapes q (temp n) i) (λ k. local_temp x n (sym k)) ∙ a.1, a.2);
          me = g.1.me;
          block = g.1.block;
          modules = g.1.modules;
          home = g.1.home;
        },
      );
  apart = h.apart;
  lists = λ o b m e. subst (λ j. b < j) (sym (length_wrote s q (temp n) v)) (h.lists o b m e);
}

pub holds_temp : (T : Scheme) (w : World) (st : State) (s : es.State) (q n : ℕ) (v : Val) → Holds T w st s → Var w q (temp n) → Holds T w st (wrote s q (temp n) v)
holds_temp T w st s q n v h i = record { calls = h.calls; input = h.input; objects = h.objects; records = records_temp w st.ruby s q n v h.records i }

pub kept_temp : (w : World) (s : es.State) (r n t : ℕ) (v : Val) → r < length s.records → t ≤ n → Kept w r t s (wrote s r (temp n) v)
kept_temp w s r n t v l o = record {
  temps = λ q k b c. ⊎_elim (λ far. value_elsewhere s r q (temp n) v (temp k) far) (λ near. value_other s r q (temp n) v (temp k) l (temps_differ n k (λ e. absurd (omega (arith, o, near, e))))) c;
  lists = λ p q k e c. refl;
}

pub kept_refl : (w : World) (s : es.State) (r t : ℕ) → Kept w r t s s
kept_refl w s r t = record { temps = λ q n b c. refl; lists = λ o q n e c. refl }

-- ---- a text is written by both

pub holds_printed : (T : Scheme) (w : World) (st : State) (s : es.State) (text : Text) → Holds T w st s → Holds T w (noted (Wrote text) st) (printed s text)
holds_printed T w st s text h = record { calls = ap (λ l. Wrote text ∷ l) h.calls; input = h.input; objects = h.objects; records = h.records }

-- ---- a frame is closed that has no token

-- no object is the token of the frame
abbrev pub NoToken : World → ℕ → Type 0
NoToken w k = (o : ℕ) → w.role o ≡ Some (Token (OfFrame k)) → ⊥

closed_at : (r : Ruby) (k : ℕ) → k < length r.frames → frame_at (closed k r) k ≡ record (frame_at r k) { is_open = false }
closed_at r k l = get_or-set_same r.frames k _ no_frame l

pub closed_other : (r : Ruby) (k j : ℕ) → (j ≡ k → ⊥) → frame_at (closed k r) j ≡ frame_at r j
closed_other r k j n = get_or-set_other r.frames k j _ no_frame n

pub closed_frames : (r : Ruby) (k : ℕ) → length (closed k r).frames ≡ length r.frames
closed_frames r k = length-set r.frames k _

-- but for being open a frame is as it was
by_frame : (X : Frame → Type 0) (r : Ruby) (k j : ℕ) → k < length r.frames → X (frame_at r j) → (X (frame_at r k) → X (record (frame_at r k) { is_open = false })) → X (frame_at (closed k r) j)
by_frame X r k j l x f = ⊎_elim
    (λ (e : j ≡ k). subst (λ n. X (frame_at (closed k r) n)) (sym e) (subst X (sym (closed_at r k l)) (f (subst (λ n. X (frame_at r n)) e x))))
    (λ n. subst X (sym (closed_other r k j n)) x)
    (same_or_not j k)

pub holds_closed : (T : Scheme) (w : World) (st : State) (s : es.State) (k : ℕ) → k < length st.ruby.frames → NoToken w k → Holds T w st s → Holds T w (changed (closed k) st) s
holds_closed T w st s k l none h = record {
  calls = h.calls;
  input = h.input;
  objects = record {
    carries = carries_same T.called st.ruby (closed k st.ruby) s.heap refl o.carries;
    objects = o.objects;
    numbers = o.numbers;
    functions = o.functions;
    entries = o.entries;
    procs = λ j p c i e.
        let a = o.procs j p c i e in (
          subst (λ n. c.frame < n) (sym same) a.0,
          by_frame (λ fr. IsProc T w fr.me s.heap c p) st.ruby k c.frame l a.1 (λ x. x),
        );
    roles = λ p x e. let a = o.roles p x e in (a.0, served p x e a.1);
    clean = o.clean;
    single = o.single;
  };
  records = record {
    shapes = h.records.shapes;
    fixed = h.records.fixed;
    frames = λ j f e.
        let a = h.records.frames j f e in (
          subst (λ n. j < n) (sym same) a.0,
          by_frame (λ fr. FrameHolds w s.records j f fr) st.ruby k j l a.1 (λ x. record { is = x.is; outer = x.outer; names = x.names; values = x.values; me = x.me; block = x.block; modules = x.modules; home = x.home }),
        );
    apart = h.records.apart;
    lists = h.records.lists;
  };
}
  where
    o : ObjectsHold T w st.ruby s.heap s.codes
    o = h.objects

    same : length (closed k st.ruby).frames ≡ length st.ruby.frames
    same = closed_frames st.ruby k

    served : (p : ℕ) (x : Role) → w.role p ≡ Some x → Serves st.ruby s.heap p x → Serves (closed k st.ruby) s.heap p x
    served p (Token (OfFrame j)) e i = (subst (λ n. j < n) (sym same) i.0, i.1, i.2 ∙ ap (λ y. Some (Truth y.is_open)) (sym (closed_other st.ruby k j (λ q. none p (e ∙ ap (λ n. Some (Token (OfFrame n))) q)))))
    served p (Token (OfCall n)) e i = i
    served p (Carrier q u) e i = i
    served p (Listed q n) e i = i
