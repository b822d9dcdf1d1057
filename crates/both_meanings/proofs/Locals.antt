-- Locals: the frame that holds one, the record that binds it, reading and setting.
use Rattle.std.proofs.Common.{◌≡◌, ⊎_elim, ℕ, zero, suc, ◌+◌, ◌/◌, ◌%◌, ◌<◌, ◌||◌, true, false, if◌then◌else◌, List, [], ◌∷◌, ◌++◌, length, flat_map, Option, Some, None, refl, sym, ap, ◌∙◌, subst, arith}
use Rattle.std.specs.Prelude.{is_some, bytes_eq, nat_lt}
use Rattle.std.proofs.lemmas.Bool.{ltb-true}
use Rattle.std.proofs.lemmas.Slice.Eq.{bytes_eq-Decides}
use Rattle.std.proofs.lemmas.List.{length-set, get_or-set_same, get_or-set_other}
use Rattle.ruby_meaning.specs.declared.value.Value.{Value}
use Rattle.es5_tree.specs.Values.{Val, Truth, find_own}
use Rattle.es5_evaluation.specs.State.{Activation, record_at}
use Rattle.es5_evaluation.specs.State as es
use Rattle.ruby_evaluation.specs.Tables.{Name, at, put_at}
use Rattle.ruby_evaluation.specs.State.{Ruby, Frame, frame_at, with_frame, no_frame}
use Rattle.ruby_evaluation.specs.Task.{State, changed}
use Rattle.ruby_evaluation.specs.Locals.{holder, local, local_in, or_nil, set_held, with_local}
use Rattle.both_meanings.specs.Names.{is_plain, hex, spelled}
use Rattle.both_meanings.specs.Names as names
use Rattle.both_meanings.specs.World.{Shape, stands, bound_in, Framed, OfFrame, OfCall, Role, Token, Carrier, Listed, World, IsValue, Binds, bound_here, bound_around, Var, Behind, next, over, SeesLocal, own_local, outer_local}
use Rattle.both_meanings.specs.Holds.{Scheme, Serves, variable_at, FrameHolds, RecordsHold, IsProc, Holds}
use Rattle.both_meanings.specs.Simulates.{RecordsStay, Kept, Later}
use Rattle.both_meanings.proofs.Basics.{some_same, true_or_false, same_or_not, head_is, tail_is, false_true}
use Rattle.both_meanings.proofs.Records.{wrote, length_wrote, value_wrote, value_other, value_elsewhere, in_other, shapes_wrote, shape_wrote, has_var, var_within}
use Rattle.both_meanings.proofs.NamesDiffer.{no_local, local_temp}
use Rattle.both_meanings.proofs.Growing.{grows_refl}
use Rattle.both_meanings.proofs.Holding.{carries_same}

-- ---- names of locals differ where the locals do

low_hex : (a : ℕ) → nat_lt a 10 ≡ true → hex a ≡ 48 + a
low_hex a i = ap (λ c. if c then 48 + a else 87 + a) i

high_hex : (a : ℕ) → nat_lt a 10 ≡ false → hex a ≡ 87 + a
high_hex a i = ap (λ c. if c then 48 + a else 87 + a) i

hex_same : (a b : ℕ) → hex a ≡ hex b → a ≡ b
hex_same a b e = ⊎_elim
    (λ (i : nat_lt a 10 ≡ true).
    ⊎_elim
    (λ (j : nat_lt b 10 ≡ true). let q : 48 + a ≡ 48 + b = sym (low_hex a i) ∙ e ∙ low_hex b j in omega (arith, q))
    (λ (j : nat_lt b 10 ≡ false). let q : 48 + a ≡ 87 + b = sym (low_hex a i) ∙ e ∙ high_hex b j in let l = ltb-true a 10 i in absurd (omega (arith, q, l)))
    (true_or_false (nat_lt b 10)))
    (λ (i : nat_lt a 10 ≡ false).
    ⊎_elim
    (λ (j : nat_lt b 10 ≡ true). let q : 87 + a ≡ 48 + b = sym (high_hex a i) ∙ e ∙ low_hex b j in let l = ltb-true b 10 j in absurd (omega (arith, q, l)))
    (λ (j : nat_lt b 10 ≡ false). let q : 87 + a ≡ 87 + b = sym (high_hex a i) ∙ e ∙ high_hex b j in omega (arith, q))
    (true_or_false (nat_lt b 10)))
    (true_or_false (nat_lt a 10))

digits_same : (u v : ℕ) → u / 4096 ≡ v / 4096 → u / 256 % 16 ≡ v / 256 % 16 → u / 16 % 16 ≡ v / 16 % 16 → u % 16 ≡ v % 16 → u ≡ v
digits_same u v a b c d = omega (arith, a, b, c, d)

not_empty : (a : ℕ) (x : List ℕ) → a ∷ x ≡ [] → ⊥
not_empty a x e = cc

plain_spelled : (u : ℕ) → is_plain u ≡ true → spelled u ≡ u ∷ []
plain_spelled u i = ap (λ c. if c then u ∷ [] else 36 ∷ hex (u / 4096) ∷ hex (u / 256 % 16) ∷ hex (u / 16 % 16) ∷ hex (u % 16) ∷ []) i

other_spelled : (u : ℕ) → is_plain u ≡ false → spelled u ≡ 36 ∷ hex (u / 4096) ∷ hex (u / 256 % 16) ∷ hex (u / 16 % 16) ∷ hex (u % 16) ∷ []
other_spelled u i = ap (λ c. if c then u ∷ [] else 36 ∷ hex (u / 4096) ∷ hex (u / 256 % 16) ∷ hex (u / 16 % 16) ∷ hex (u % 16) ∷ []) i

-- "$" is no plain unit
no_dollar : (u : ℕ) → is_plain u ≡ true → u ≡ 36 → ⊥
no_dollar u i e = let c : true ≡ false = sym i ∙ ap is_plain e in cc

spelled_same : (u v : ℕ) (a b : List ℕ) → spelled u ++ a ≡ spelled v ++ b → (u ≡ v) × (a ≡ b)
spelled_same u v a b e = ⊎_elim
    (λ (i : is_plain u ≡ true).
    ⊎_elim
    (λ (j : is_plain v ≡ true). let q : u ∷ a ≡ v ∷ b = sym (ap (λ l. l ++ a) (plain_spelled u i)) ∙ e ∙ ap (λ l. l ++ b) (plain_spelled v j) in (head_is u v a b q, tail_is u v a b q))
    (λ (j : is_plain v ≡ false). let q : u ∷ a ≡ 36 ∷ (hex (v / 4096) ∷ hex (v / 256 % 16) ∷ hex (v / 16 % 16) ∷ hex (v % 16) ∷ b) = sym (ap (λ l. l ++ a) (plain_spelled u i)) ∙ e ∙ ap (λ l. l ++ b) (other_spelled v j) in absurd (no_dollar u i (head_is u 36 a _ q)))
    (true_or_false (is_plain v)))
    (λ (i : is_plain u ≡ false).
    ⊎_elim
    (λ (j : is_plain v ≡ true). let q : 36 ∷ (hex (u / 4096) ∷ hex (u / 256 % 16) ∷ hex (u / 16 % 16) ∷ hex (u % 16) ∷ a) ≡ v ∷ b = sym (ap (λ l. l ++ a) (other_spelled u i)) ∙ e ∙ ap (λ l. l ++ b) (plain_spelled v j) in absurd (no_dollar v j (sym (head_is 36 v _ b q))))
    (λ (j : is_plain v ≡ false).
    let q : 36 ∷ (hex (u / 4096) ∷ hex (u / 256 % 16) ∷ hex (u / 16 % 16) ∷ hex (u % 16) ∷ a) ≡ 36 ∷ (hex (v / 4096) ∷ hex (v / 256 % 16) ∷ hex (v / 16 % 16) ∷ hex (v % 16) ∷ b) = sym (ap (λ l. l ++ a) (other_spelled u i)) ∙ e ∙ ap (λ l. l ++ b) (other_spelled v j) in
    let q1 = tail_is 36 36 _ _ q in
    let q2 = tail_is _ _ _ _ q1 in
    let q3 = tail_is _ _ _ _ q2 in
    let q4 = tail_is _ _ _ _ q3 in
    (digits_same u v (hex_same _ _ (head_is _ _ _ _ q1)) (hex_same _ _ (head_is _ _ _ _ q2)) (hex_same _ _ (head_is _ _ _ _ q3)) (hex_same _ _ (head_is _ _ _ _ q4)), tail_is _ _ _ _ q4))
    (true_or_false (is_plain v)))
    (true_or_false (is_plain u))

never_empty : (u : ℕ) (a : List ℕ) → spelled u ++ a ≡ [] → ⊥
never_empty u a e = ⊎_elim
    (λ (i : is_plain u ≡ true). not_empty u a (sym (ap (λ l. l ++ a) (plain_spelled u i)) ∙ e))
    (λ (i : is_plain u ≡ false). not_empty 36 _ (sym (ap (λ l. l ++ a) (other_spelled u i)) ∙ e))
    (true_or_false (is_plain u))

units_same : (x y : Name) → flat_map spelled x ≡ flat_map spelled y → x ≡ y
units_same [] [] e = refl
units_same [] (v ∷ y) e = absurd (never_empty v (flat_map spelled y) (sym e))
units_same (u ∷ x) [] e = absurd (never_empty u (flat_map spelled x) e)
units_same (u ∷ x) (v ∷ y) e = let q = spelled_same u v (flat_map spelled x) (flat_map spelled y) e in ap (λ n. n ∷ x) q.0 ∙ ap (λ l. v ∷ l) (units_same x y q.1)

pub locals_same : (x y : Name) → names.local x ≡ names.local y → x ≡ y
locals_same x y e = units_same x y (tail_is 36 36 _ _ (tail_is 108 108 _ _ e))

-- ---- the frame that holds a local

module _ {w : World} {r : Ruby} {rs : List Activation} (h : RecordsHold w r rs) where
  pub held : (n k j : ℕ) (x : Name) → k < n → SeesLocal w k x j → holder n r (Some k) x ≡ Some j
  held zero k j x l i = absurd (omega (arith, l))
  held (suc n) k _ x l (own_local _ _ f e i) =
      let fr = (h.frames k f e).1 in
      ap (λ b. if b then Some k else holder n r (frame_at r k).outer x) (fr.names x ∙ i)
  held (suc n) k j x l (outer_local _ o _ _ f e i out less more) =
      let fr = (h.frames k f e).1 in
      ap (λ b. if b then Some k else holder n r (frame_at r k).outer x) (fr.names x ∙ i)
      ∙ ap (λ q. holder n r q x) (fr.outer ∙ out)
      ∙ held n o j x (omega (arith, less, l)) more

  -- a name that no record between has is seen through them
  behind_binds : (q o b : ℕ) (x : Name) (sh : Shape) → w.shape q ≡ Some sh → bound_in sh (names.local x) ≡ false → Behind w q o → Binds w o (names.local x) b → Binds w q (names.local x) b
  behind_binds q o b x sh e free (next _ _ sh1 e1 out less) i =
      let same : sh ≡ sh1 = some_same sh sh1 (sym e ∙ e1) in
      bound_around q o b (names.local x) sh1 e1 (ap (λ z. bound_in z (names.local x)) (sym same) ∙ free) out less i
  behind_binds q o b x sh e free (over _ m _ sh1 sh2 e1 out less e2 none more) i =
      let same : sh ≡ sh1 = some_same sh sh1 (sym e ∙ e1) in
      bound_around q m b (names.local x) sh1 e1 (ap (λ z. bound_in z (names.local x)) (sym same) ∙ free) out less (behind_binds m o b x sh2 e2 (none x) more i)

  -- the frame of a local, and its record binds it
  pub record Seen (k j : ℕ) (x : Name) (f : Framed) : Type 0 where
    pub frame : Framed
    pub is : w.frame j ≡ Some frame
    pub has : stands x frame.names ≡ true
    pub binds : Binds w f.record_at (names.local x) frame.record_at
    pub var : Var w frame.record_at (names.local x)

  pub seen : (k j : ℕ) (x : Name) (f : Framed) → w.frame k ≡ Some f → SeesLocal w k x j → Seen k j x f
  seen k _ x f e (own_local _ _ f1 e1 i) =
      let same : f1 ≡ f = some_same f1 f (sym e1 ∙ e) in
      let is = (h.frames k f e).1.is in
      let there : stands (names.local x) is.sh.names ≡ true = is.own x ∙ ap (λ z. stands x z.names) (sym same) ∙ i in
      record {
        frame = f;
        is = e;
        has = ap (λ z. stands x z.names) (sym same) ∙ i;
        binds = bound_here f.record_at (names.local x) is.sh is.shape (ap (λ b. b || is_some (find_own is.sh.constants (names.local x))) there);
        var = record { sh = is.sh; shape = is.shape; stands = there };
      }
  seen k j x f e (outer_local _ o _ _ f1 e1 i out less more) =
      let same : f1 ≡ f = some_same f1 f (sym e1 ∙ e) in
      let is = (h.frames k f e).1.is in
      let free : bound_in is.sh (names.local x) ≡ false = ap (λ b. b || is_some (find_own is.sh.constants (names.local x))) (is.own x ∙ ap (λ z. stands x z.names) (sym same) ∙ i) ∙ ap is_some (is.free x) in
      let around = is.outer o (ap (λ z. z.outer) (sym same) ∙ out) in
      let s = seen o j x around.0 around.1 more in
      record { frame = s.frame; is = s.is; has = s.has; binds = behind_binds f.record_at around.0.record_at s.frame.record_at x is.sh is.shape free around.3 s.binds; var = s.var }

  -- its value on both sides
  pub record Read (k : ℕ) (x : Name) (f : Framed) : Type 0 where
    pub at : ℕ
    pub binds : Binds w f.record_at (names.local x) at
    pub value : Val
    pub is : variable_at rs at (names.local x) ≡ Some value
    pub same : IsValue w (local r k x) value

  pub reads : (k j : ℕ) (x : Name) (f : Framed) → w.frame k ≡ Some f → SeesLocal w k x j → Read k x f
  reads k j x f e i =
      let s = seen k j x f e i in
      let fr = (h.frames j s.frame s.is).1 in
      let inside = (h.frames k f e).0 in
      by s fr (at x (frame_at r j).locals) refl (ap (λ q. local_in r q x) (held (length r.frames) k j x inside i))
    where
      by : (s : Seen k j x f) → FrameHolds w rs j s.frame (frame_at r j) → (o : Option Value) → at x (frame_at r j).locals ≡ o → local r k x ≡ or_nil (at x (frame_at r j).locals) → Read k x f
      by s fr None q l = absurd (false_true (ap is_some (sym q) ∙ fr.names x ∙ s.has))
      by s fr (Some v) q l =
          let a = fr.values x v q in
          record { at = s.frame.record_at; binds = s.binds; value = a.0; is = a.1; same = subst (λ y. IsValue w y a.0) (sym (l ∙ ap or_nil q)) a.2 }

-- ---- a local is set

at_put_same : (x : Name) (v : Value) (ls : List (Name × Value)) → at x (put_at x v ls) ≡ Some v
at_put_same x v [] = ap (λ b. if b then Some v else None) ((bytes_eq-Decides x x).1 refl)
at_put_same x v (p ∷ ls) = ⊎_elim
    (λ (e : bytes_eq x p.0 ≡ true). ap (λ b. at x (if b then (x, v) ∷ ls else p ∷ put_at x v ls)) e ∙ ap (λ b. if b then Some v else at x ls) ((bytes_eq-Decides x x).1 refl))
    (λ (e : bytes_eq x p.0 ≡ false). ap (λ b. at x (if b then (x, v) ∷ ls else p ∷ put_at x v ls)) e ∙ ap (λ b. if b then Some p.1 else at x (put_at x v ls)) e ∙ at_put_same x v ls)
    (true_or_false (bytes_eq x p.0))

at_put_other : (x y : Name) (v : Value) (ls : List (Name × Value)) → bytes_eq y x ≡ false → at y (put_at x v ls) ≡ at y ls
at_put_other x y v [] n = ap (λ b. if b then Some v else None) n
at_put_other x y v (p ∷ ls) n = ⊎_elim
    (λ (e : bytes_eq x p.0 ≡ true).
    ap (λ b. at y (if b then (x, v) ∷ ls else p ∷ put_at x v ls)) e
    ∙ ap (λ b. if b then Some v else at y ls) n
    ∙ sym (ap (λ b. if b then Some p.1 else at y ls) (ap (bytes_eq y) (sym ((bytes_eq-Decides x p.0).0 e)) ∙ n)))
    (λ (e : bytes_eq x p.0 ≡ false).
    ap (λ b. at y (if b then (x, v) ∷ ls else p ∷ put_at x v ls)) e
    ∙ ap (λ o. if bytes_eq y p.0 then Some p.1 else o) (at_put_other x y v ls n))
    (true_or_false (bytes_eq x p.0))

module _ {T : Scheme} {w : World} {st : State} {s : es.State} (h : Holds T w st s) (k j : ℕ) (x : Name) (f : Framed) (e : w.frame k ≡ Some f) (sees : SeesLocal w k x j) (v : Value) (u : Val) (vu : IsValue w v u) where
  abbrev there : Seen h.records k j x f
  there = seen h.records k j x f e sees

  abbrev g : Framed
  g = there.frame

  abbrev s1 : es.State
  s1 = wrote s g.record_at (names.local x) u

  abbrev fr1 : Frame
  fr1 = record (frame_at st.ruby j) { locals = put_at x v (frame_at st.ruby j).locals }

  abbrev R1 : Ruby
  R1 = with_frame j fr1 st.ruby

  holds_g : (j < length st.ruby.frames) × FrameHolds w s.records j g (frame_at st.ruby j)
  holds_g = h.records.frames j g there.is

  inside : g.record_at < length s.records
  inside = var_within h.records.shapes g.record_at (names.local x) there.var

  now : frame_at R1 j ≡ fr1
  now = get_or-set_same st.ruby.frames j _ no_frame holds_g.0

  else_ : (i : ℕ) → (i ≡ j → ⊥) → frame_at R1 i ≡ frame_at st.ruby i
  else_ i n = get_or-set_other st.ruby.frames j i _ no_frame n

  count : length R1.frames ≡ length st.ruby.frames
  count = length-set st.ruby.frames j _

  -- what doesn't look at locals is the same
  by_set : (X : Frame → Type 0) (i : ℕ) → X (frame_at st.ruby i) → (X (frame_at st.ruby j) → X fr1) → X (frame_at R1 i)
  by_set X i a t = ⊎_elim
      (λ (q : i ≡ j). subst (λ n. X (frame_at R1 n)) (sym q) (subst X (sym now) (t (subst (λ n. X (frame_at st.ruby n)) q a))))
      (λ n. subst X (sym (else_ i n)) a)
      (same_or_not i j)

  set_names : (y : Name) → is_some (at y fr1.locals) ≡ stands y g.names
  set_names y = ⊎_elim
      (λ (q : bytes_eq y x ≡ true).
      let same : y ≡ x = (bytes_eq-Decides y x).0 q in
      subst (λ n. is_some (at n fr1.locals) ≡ stands n g.names) (sym same) (ap is_some (at_put_same x v (frame_at st.ruby j).locals) ∙ sym there.has))
      (λ (q : bytes_eq y x ≡ false). ap is_some (at_put_other x y v (frame_at st.ruby j).locals q) ∙ holds_g.1.names y)
      (true_or_false (bytes_eq y x))

  set_values : (y : Name) (v1 : Value) → at y fr1.locals ≡ Some v1 → (u1 : Val) × (variable_at s1.records g.record_at (names.local y) ≡ Some u1) × IsValue w v1 u1
  set_values y v1 i = ⊎_elim
      (λ (q : bytes_eq y x ≡ true).
      let same : y ≡ x = (bytes_eq-Decides y x).0 q in
      let is : v ≡ v1 = some_same v v1 (sym (at_put_same x v (frame_at st.ruby j).locals) ∙ ap (λ n. at n fr1.locals) (sym same) ∙ i) in
      (u, ap (λ n. variable_at s1.records g.record_at (names.local n)) same ∙ value_wrote s g.record_at (names.local x) u inside, subst (λ z. IsValue w z u) is vu))
      (λ (q : bytes_eq y x ≡ false).
      let a = holds_g.1.values y v1 (sym (at_put_other x y v (frame_at st.ruby j).locals q) ∙ i) in
      (a.0, value_other s g.record_at g.record_at (names.local x) u (names.local y) inside (λ z. differs y q z) ∙ a.1, a.2))
      (true_or_false (bytes_eq y x))
    where
      differs : (y : Name) → bytes_eq y x ≡ false → names.local x ≡ names.local y → ⊥
      differs y q z = false_true (sym q ∙ (bytes_eq-Decides y x).1 (sym (locals_same x y z)))

  frames1 : (i : ℕ) (f1 : Framed) → w.frame i ≡ Some f1 → (i < length R1.frames) × FrameHolds w s1.records i f1 (frame_at R1 i)
  frames1 i f1 q =
      let a = h.records.frames i f1 q in (
        subst (λ n. i < n) (sym count) a.0,
        ⊎_elim
            (λ (z : i ≡ j).
            let same : g ≡ f1 = some_same g f1 (sym there.is ∙ ap w.frame (sym z) ∙ q) in
            let b = holds_g.1 in
            subst (λ n. FrameHolds w s1.records n f1 (frame_at R1 n)) (sym z)
            (subst (λ y. FrameHolds w s1.records j y (frame_at R1 j)) same
            (subst (λ y. FrameHolds w s1.records j g y) (sym now)
            (record { is = b.is; outer = b.outer; names = set_names; values = set_values; me = b.me; block = b.block; modules = b.modules; home = b.home }))))
            (λ n.
            let b = a.1 in
            subst (λ y. FrameHolds w s1.records i f1 y) (sym (else_ i n))
            (record {
              is = b.is;
              outer = b.outer;
              names = b.names;
              values = λ y v1 o. let c = b.values y v1 o in (c.0, value_elsewhere s g.record_at f1.record_at (names.local x) u (names.local y) (λ z. n (h.records.apart i j f1 g q there.is z)) ∙ c.1, c.2);
              me = b.me;
              block = b.block;
              modules = b.modules;
              home = b.home;
            }))
            (same_or_not i j),
      )

  served : (o : ℕ) (y : Role) → Serves st.ruby s.heap o y → Serves R1 s.heap o y
  served o (Token (OfFrame i)) a = (subst (λ n. i < n) (sym count) a.0, a.1, a.2 ∙ ap (λ b. Some (Truth b)) (sym (by_set (λ y. y.is_open ≡ (frame_at st.ruby i).is_open) i refl (λ z. z))))
  served o (Token (OfCall n)) a = a
  served o (Carrier p z) a = a
  served o (Listed q n) a = a

  -- both sides have the value
  holds_set : Holds T w (changed (with_frame j fr1) st) s1
  holds_set = record {
    calls = h.calls;
    input = h.input;
    objects =
        let o = h.objects in
        record {
          carries = carries_same T.called st.ruby R1 s.heap refl o.carries;
          objects = o.objects;
          numbers = o.numbers;
          functions = o.functions;
          entries = o.entries;
          procs = λ n p c i q. let a = o.procs n p c i q in (subst (λ m. c.frame < m) (sym count) a.0, by_set (λ y. IsProc T w y.me s.heap c p) c.frame a.1 (λ z. z));
          roles = λ p y q. let a = o.roles p y q in (a.0, served p y a.1);
          clean = o.clean;
          single = o.single;
        };
    records = record {
      shapes = shapes_wrote s g.record_at (names.local x) u h.records.shapes there.var;
      fixed = λ b y z q.
          let a = h.records.fixed b y z q in (
            subst (λ n. b < n) (sym (length_wrote s g.record_at (names.local x) u)) a.0,
            a.1,
            in_other s g.record_at b (names.local x) u y inside (no_local a.1 x) ∙ a.2,
          );
      frames = frames1;
      apart = h.records.apart;
      lists = λ o q n i. subst (λ m. q < m) (sym (length_wrote s g.record_at (names.local x) u)) (h.records.lists o q n i);
    };
  }

  -- as setting a local does
  pub holds_local : Holds T w (changed (with_local k x v) st) s1
  holds_local = subst (λ q. Holds T w (changed (set_held q k x v) st) s1) (sym (held h.records (length st.ruby.frames) k j x (h.records.frames k f e).0 sees)) holds_set

  -- frames are as open as they were
  pub later_set : Later w st.ruby w (with_local k x v st.ruby)
  later_set = subst (λ q. Later w st.ruby w (set_held q k x v st.ruby)) (sym (held h.records (length st.ruby.frames) k j x (h.records.frames k f e).0 sees)) (record {
    grows = grows_refl w;
    frames = omega (arith, count);
    calls = omega arith;
    opened = λ i l. by_set (λ y. y.is_open ≡ (frame_at st.ruby i).is_open) i refl (λ z. z);
    returns = λ i l. by_set (λ y. y.returns ≡ (frame_at st.ruby i).returns) i refl (λ z. z);
    tokens = λ o t i q. q;
  })

  -- records stay, and so do temporaries
  pub stay_set : RecordsStay s.records s1.records
  stay_set = record {
    more = let n = length_wrote s g.record_at (names.local x) u in omega (arith, n);
    shape = λ q l. shape_wrote s g.record_at (names.local x) u q inside (has_var h.records.shapes g.record_at (names.local x) there.var);
    plain = λ q y l n. value_other s g.record_at q (names.local x) u y inside (λ i. n (subst names.Generated i (names.is_local x)));
  }

  pub temp_set : (q n : ℕ) → variable_at s1.records q (names.temp n) ≡ variable_at s.records q (names.temp n)
  temp_set q n = value_other s g.record_at q (names.local x) u (names.temp n) inside (local_temp x n)

  pub kept_set : (r t : ℕ) → Kept w r t s s1
  kept_set r t = record { temps = λ q n l c. temp_set q n; lists = λ o q n i c. refl }
