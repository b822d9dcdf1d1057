-- Records that are alike in what a translation names hold as well as those before.
use Rattle.std.proofs.Common.{◌≡◌, List, [], ◌∷◌, ◌++◌, Some, refl, sym, ap, ◌∙◌, subst, arith}
use Rattle.std.proofs.lemmas.List.{length-append}
use Rattle.es5_tree.specs.Values.{first, find_own}
use Rattle.es5_evaluation.specs.State.{Activation, record_at, value_in}
use Rattle.ruby_evaluation.specs.State.{Ruby}
use Rattle.both_meanings.specs.Names.{local, is_local, is_frame}
use Rattle.both_meanings.specs.World.{shape_of, World}
use Rattle.both_meanings.specs.Holds.{variable_at, RecordsHold}
use Rattle.both_meanings.specs.Code.{Alike}
use Rattle.both_meanings.proofs.Entering.{record_kept}

pub alike_refl : (rs : List Activation) → Alike rs rs
alike_refl rs = record { more = omega arith; shape = λ q l. refl; values = λ q x l g. refl }

pub alike_trans : {rs rs1 rs2 : List Activation} → Alike rs rs1 → Alike rs1 rs2 → Alike rs rs2
alike_trans a b = record {
  more = omega (arith, a.more, b.more);
  shape = λ q l. b.shape q (omega (arith, l, a.more)) ∙ a.shape q l;
  values = λ q x l g. b.values q x (omega (arith, l, a.more)) g ∙ a.values q x l g;
}

pub alike_new : (rs : List Activation) (a : Activation) → Alike rs (rs ++ a ∷ [])
alike_new rs a = record {
  more = let n = length-append rs (a ∷ []) in omega (arith, n);
  shape = λ q l. ap shape_of (record_kept rs a q l);
  values = λ q x l g. ap (λ b. find_own b.variables x) (record_kept rs a q l);
}

pub records_alike : {w : World} {r : Ruby} {rs rs1 : List Activation} → RecordsHold w r rs → Alike rs rs1 → RecordsHold w r rs1
records_alike {rs = rs} {rs1 = rs1} h a = record {
  shapes = record { by = λ q sh e. let o = h.shapes.by q sh e in (omega (arith, o.0, a.more), a.shape q o.0 ∙ o.1) };
  fixed = λ q x u e.
      let o = h.fixed q x u e in (
        omega (arith, o.0, a.more),
        o.1,
        subst (λ y. value_in (record_at rs1 q) y ≡ Some u) (sym o.1.is)
            (ap (λ z. first z (λ t. find_own (record_at rs1 q).constants (36 ∷ o.1.tail))) (a.values q (36 ∷ o.1.tail) o.0 (is_frame o.1.tail))
            ∙ ap (λ z. first (variable_at rs q (36 ∷ o.1.tail)) (λ t. find_own z.constants (36 ∷ o.1.tail))) (a.shape q o.0)
            ∙ subst (λ y. value_in (record_at rs q) y ≡ Some u) o.1.is o.2),
      );
  frames = λ k f e.
      let o = h.frames k f e in
      let x = o.1 in
      let within = (h.shapes.by f.record_at x.is.sh x.is.shape).0 in (
        o.0,
        record {
          is = x.is;
          outer = x.outer;
          names = x.names;
          values = λ y v i. let b = x.values y v i in (b.0, a.values f.record_at (local y) within (is_local y) ∙ b.1, b.2);
          me = x.me;
          block = x.block;
          modules = x.modules;
          home = x.home;
        },
      );
  apart = h.apart;
  lists = λ o q n e. let l = h.lists o q n e in omega (arith, l, a.more);
}
