-- What parts of a run leave, one after the other.
use Rattle.std.proofs.Common.{◌≡◌, ℕ, ◌<◌, ◌≤◌, length, Some, refl, ap, ◌∙◌, arith, List}
use Rattle.es5_evaluation.specs.State.{Activation}
use Rattle.es5_evaluation.specs.State as es
use Rattle.ruby_evaluation.specs.State.{Ruby, frame_at}
use Rattle.both_meanings.specs.World.{Target, OfFrame, OfCall, Listed, World}
use Rattle.both_meanings.specs.Holds.{IsTarget}
use Rattle.both_meanings.specs.Simulates.{RecordsStay, KeptAll, Later}
use Rattle.both_meanings.proofs.Growing.{grows_refl, grows_trans}

pub later_refl : (w : World) (r : Ruby) → Later w r w r
later_refl w r = record { grows = grows_refl w; frames = omega arith; calls = omega arith; opened = λ k l. refl; returns = λ k l. refl; tokens = λ o t i e. e }

target_later : {w w1 : World} {r r1 : Ruby} → Later w r w1 r1 → (t : Target) → IsTarget r t → IsTarget r1 t
target_later a (OfFrame k) i = omega (arith, i, a.frames)
target_later a (OfCall n) i = omega (arith, i, a.calls)

pub later_trans : {w w1 w2 : World} {r r1 r2 : Ruby} → Later w r w1 r1 → Later w1 r1 w2 r2 → Later w r w2 r2
later_trans a b = record {
  grows = grows_trans a.grows b.grows;
  frames = omega (arith, a.frames, b.frames);
  calls = omega (arith, a.calls, b.calls);
  opened = λ k l. b.opened k (omega (arith, l, a.frames)) ∙ a.opened k l;
  returns = λ k l. b.returns k (omega (arith, l, a.frames)) ∙ a.returns k l;
  tokens = λ o t i e. a.tokens o t i (b.tokens o t (target_later a t i) e);
}

-- Ruby's side changes so that frames and calls stay
pub later_ruby : {w w1 : World} {r r1 r2 : Ruby} → Later w r w1 r1 → length r1.frames ≤ length r2.frames → length r1.calls ≤ length r2.calls → ((k : ℕ) → k < length r.frames → frame_at r2 k ≡ frame_at r1 k) → Later w r w1 r2
later_ruby a f c same = record {
  grows = a.grows;
  frames = omega (arith, a.frames, f);
  calls = omega (arith, a.calls, c);
  opened = λ k l. ap (λ x. x.is_open) (same k l) ∙ a.opened k l;
  returns = λ k l. ap (λ x. x.returns) (same k l) ∙ a.returns k l;
  tokens = a.tokens;
}

pub kept_all_trans : {w w1 : World} {s y z : es.State} → KeptAll w s y → KeptAll w1 y z → length s.records ≤ length y.records → ((o q n : ℕ) → w.role o ≡ Some (Listed q n) → w1.role o ≡ Some (Listed q n)) → KeptAll w s z
kept_all_trans a b l g = record {
  temps = λ q n i. b.temps q n (omega (arith, i, l)) ∙ a.temps q n i;
  lists = λ o q n e. b.lists o q n (g o q n e) ∙ a.lists o q n e;
}

pub stay_refl : (rs : List Activation) → RecordsStay rs rs
stay_refl rs = record { more = omega arith; shape = λ q l. refl; plain = λ q x l n. refl }

pub stay_trans : {rs rs1 rs2 : List Activation} → RecordsStay rs rs1 → RecordsStay rs1 rs2 → RecordsStay rs rs2
stay_trans a b = record {
  more = omega (arith, a.more, b.more);
  shape = λ q l. b.shape q (omega (arith, l, a.more)) ∙ a.shape q l;
  plain = λ q x l n. b.plain q x (omega (arith, l, a.more)) n ∙ a.plain q x l n;
}
