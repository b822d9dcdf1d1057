-- A jump to the token of a call ends there, and any other result goes on; the token is closed.
use Rattle.std.proofs.Common.{◌≡◌, ⊎_elim, ℕ, zero, suc, ◌+◌, ◌<◌, false, length, Some, refl, sym, ap, ◌∙◌, subst, arith}
use Rattle.std.proofs.lemmas.List.{length-set}
use Rattle.es5_tree.specs.Values.{Text, Truth, Obj, first, find_own}
use Rattle.es5_tree.specs.Values as values
use Rattle.es5_tree.specs.Objects.Cells.{put}
use Rattle.es5_tree.specs.Objects.Links.{cell_at, link_at, first_of_chain, chain, first_own, get}
use Rattle.es5_evaluation.specs.State.{Activation, record_at}
use Rattle.es5_evaluation.specs.State as es
use Rattle.es5_evaluation.specs.Task.{Completion, Normal, Throw, Done, ◌>>=◌, with_object}
use Rattle.es5_evaluation.specs.Task as task
use Rattle.ruby_evaluation.specs.State.{call_closed}
use Rattle.ruby_evaluation.specs.Task.{Jump, Break, Return, Raise, Result, Val, Leaves, Task, Change, Eval, State, Outcome, Ends, andthen, changed, walk}
use Rattle.ruby_evaluation.specs.Task as ruby
use Rattle.ruby_evaluation.specs.Calls.{break_here, with_literal}
use Rattle.ruby_evaluation.proofs.Walks.{walk_then}
use Rattle.both_meanings.specs.Names.{temp}
use Rattle.both_meanings.specs.Carries.{Heap, Carries, own_of}
use Rattle.both_meanings.specs.World.{Target, OfFrame, OfCall, Token, Carrier, Listed, World}
use Rattle.both_meanings.specs.Follows.{Follows}
use Rattle.both_meanings.specs.Holds.{Scheme, open_name, token_name, value_name, Holds}
use Rattle.both_meanings.specs.Simulates.{RecordsStay, KeptAll, Later, Answers, a_value, a_raise, a_return, a_break, Called}
use Rattle.both_meanings.specs.Code.{closed_with, Since, Closes, Lands}
use Rattle.both_meanings.proofs.Basics.{none_some, same_or_not, chosen, passed}
use Rattle.both_meanings.proofs.Meeting.{met_none}
use Rattle.both_meanings.proofs.Bind.{after, follows_then, follows_end, follows_outcome}
use Rattle.both_meanings.proofs.Laters.{later_trans, later_ruby}
use Rattle.both_meanings.proofs.Alike.{records_alike}
use Rattle.both_meanings.proofs.Tokens.{holds_call_closed, cell_other}

-- an own property is found
pub get_own : (h : Heap) (o : ℕ) (x : Text) (v : values.Val) → o < length h → own_of h o x ≡ Some v → get h o x ≡ Some v
unfolding get chain first_own first_of_chain
get_own h o x v l e = by (length h) l
  where
    by : (n : ℕ) → o < n → first_own h (first_of_chain n h (Some o)) x ≡ Some v
    by zero i = absurd (omega (arith, i))
    by (suc n) i = ap (λ a. first a (λ u. first_own h (first_of_chain n h (link_at h o)) x)) e

-- ---- the whole

list_token : (q m : ℕ) (t : Target) → Some (Listed q m) ≡ Some (Token t) → ⊥
list_token q m t e = cc

token_is : (t u : Target) → Some (Token t) ≡ Some (Token u) → t ≡ u
token_is t u e = cc

frame_call : (k n : ℕ) → OfFrame k ≡ OfCall n → ⊥
frame_call k n e = cc

call_is : (m n : ℕ) → OfCall m ≡ OfCall n → m ≡ n
call_is m n e = cc

object_is : (a b : ℕ) → Some (Obj a) ≡ Some (Obj b) → a ≡ b
object_is a b e = cc

module _ {T : Scheme} {w0 : World} {before : State} {s0 : es.State} (h0 : Holds T w0 before s0) {w : World} {st : State} {s : es.State} (n o : ℕ) (is : w.role o ≡ Some (Token (OfCall n))) (later : Later w0 before.ruby w st.ruby) (stay : RecordsStay s0.records s.records) (kept : KeptAll w0 s0 s) where
  -- the state behind, where the token is closed
  module _ (kk : Completion → task.Task) (lands : Lands s (length s0.records) o kk) (x : Result) (st1 : State) (c : Completion) (z : es.State) (g : Called T w st s x st1 c z) where
    role1 : g.w1.role o ≡ Some (Token (OfCall n))
    role1 = g.later.grows.role o (Token (OfCall n)) is

    since : Since s z o
    since = let r = g.holds.objects.roles o (Token (OfCall n)) role1 in record { stay = g.stay; there = r.0; plain = r.1.1 }

    no_list : (p q m : ℕ) → w0.role p ≡ Some (Listed q m) → p ≡ o → ⊥
    no_list p q m i j = list_token q m (OfCall n) (sym (g.later.grows.role p (Listed q m) (later.grows.role p (Listed q m) i)) ∙ ap g.w1.role j ∙ role1)

    called : (y : Result) (t : task.Task) (answer : Completion) → (e : Closes (length s0.records) o z t answer) → Answers g.w1 y answer → Called T w0 before s0 y (changed (call_closed n) st1) answer (closed_with z o e.rs)
    called y t answer e a =
        let h = holds_call_closed g.holds n o role1 in
        record {
          w1 = g.w1;
          holds = record { calls = h.calls; input = h.input; objects = h.objects; records = records_alike h.records e.alike };
          stay = record {
            more = omega (arith, stay.more, g.stay.more, e.alike.more);
            shape = λ q l. e.alike.shape q (omega (arith, l, stay.more, g.stay.more)) ∙ g.stay.shape q (omega (arith, l, stay.more)) ∙ stay.shape q l;
            plain = λ q y l i. e.stays q y l ∙ g.stay.plain q y (omega (arith, l, stay.more)) i ∙ stay.plain q y l i;
          };
          kept = record {
            temps = λ q m l. e.stays q (temp m) l ∙ g.kept.temps q m (omega (arith, l, stay.more)) ∙ kept.temps q m l;
            lists = λ p q m i. cell_other z.heap o p (put (cell_at z.heap o) open_name (Truth false)) (no_list p q m i) ∙ g.kept.lists p q m (later.grows.role p (Listed q m) i) ∙ kept.lists p q m i;
          };
          later = later_ruby (later_trans later g.later) (omega arith) (let i = length-set st1.ruby.calls n false in omega (arith, i)) (λ j l. refl);
          is = a;
        }

    -- a carrier's token, and its value
    carries_token : (e p : ℕ) (u : values.Val) → g.w1.role e ≡ Some (Carrier p u) → (get z.heap e token_name ≡ Some (Obj p)) × (get z.heap e value_name ≡ Some u)
    carries_token e p u i = let a = g.holds.objects.roles e (Carrier p u) i in (get_own z.heap e token_name (Obj p) a.0 a.1.0, get_own z.heap e value_name u a.0 a.1.1)

    -- a token of another target is another object
    other_token : (p : ℕ) (t : Target) → g.w1.role p ≡ Some (Token t) → (t ≡ OfCall n → ⊥) → p ≡ o → ⊥
    other_token p t i d j = d (token_is t (OfCall n) (sym i ∙ ap g.w1.role j ∙ role1))

    goes_on : (e : ℕ) (j : Jump) → (get z.heap e token_name ≡ Some (Obj o) → ⊥) → break_here n (Leaves j) ≡ Leaves j → Answers g.w1 (Leaves j) (Throw (Obj e)) → (l : ℕ) → Follows (Carries T.called) st1.calls l 120 (Ends (break_here n (Leaves j)) (changed (call_closed n) st1) l) (kk (Throw (Obj e))) z (Called T w0 before s0)
    goes_on e j d same a l =
        let t = lands.thrown z e since d in
        subst (λ y. Follows (Carries T.called) st1.calls l 120 (Ends y (changed (call_closed n) st1) l) (kk (Throw (Obj e))) z (Called T w0 before s0)) (sym same)
        (follows_end (Throw (Obj e)) t.runs (met_none (Carries T.called) st1.calls) (called (Leaves j) (kk (Throw (Obj e))) (Throw (Obj e)) t a) (omega arith) (omega arith))

  -- what is left to do behind a result
  behind : (kk : Completion → task.Task) → Lands s (length s0.records) o kk → (x : Result) (st1 : State) (c : Completion) (z : es.State) → (g : Called T w st s x st1 c z) → (l : ℕ) → Answers g.w1 x c → Follows (Carries T.called) st1.calls l 120 (Ends (break_here n x) (changed (call_closed n) st1) l) (kk c) z (Called T w0 before s0)
  behind kk lands _ st1 _ z g l (a_value v u i) =
      let t = lands.value z u (since kk lands (Val v) st1 (Normal u) z g) in
      follows_end (Normal u) t.runs (met_none (Carries T.called) st1.calls) (called kk lands (Val v) st1 (Normal u) z g (Val v) (kk (Normal u)) (Normal u) t (a_value v u i)) (omega arith) (omega arith)
  behind kk lands _ st1 _ z g l (a_raise k e i) = goes_on kk lands (Leaves (Raise k)) st1 (Throw (Obj e)) z g e (Raise k) (λ q. none_some (Obj o) (sym (g.holds.objects.clean k e i) ∙ q)) refl (a_raise k e i) l
  behind kk lands _ st1 _ z g l (a_return k e p v u i j q) =
      let x : Result = Leaves (Return k v) in
      goes_on kk lands x st1 (Throw (Obj e)) z g e (Return k v) (λ y. other_token kk lands x st1 (Throw (Obj e)) z g p (OfFrame k) j (frame_call k n) (object_is p o (sym (carries_token kk lands x st1 (Throw (Obj e)) z g e p u i).0 ∙ y))) refl (a_return k e p v u i j q) l
  behind kk lands _ st1 _ z g l (a_break m e p v u i j q) =
      let x : Result = Leaves (Break m v) in
      let f = carries_token kk lands x st1 (Throw (Obj e)) z g e p u i in
      ⊎_elim
      (λ (y : m ≡ n).
      let at : p ≡ o = g.holds.objects.single p o (OfCall n) (j ∙ ap (λ a. Some (Token (OfCall a))) y) (role1 kk lands x st1 (Throw (Obj e)) z g) in
      let t = lands.landed z e u (since kk lands x st1 (Throw (Obj e)) z g) (f.0 ∙ ap (λ a. Some (Obj a)) at) f.1 in
      subst (λ a. Follows (Carries T.called) st1.calls l 120 (Ends a (changed (call_closed n) st1) l) (kk (Throw (Obj e))) z (Called T w0 before s0)) (sym (chosen m n (Val v) (Leaves (Break m v)) y))
      (follows_end (Normal u) t.runs (met_none (Carries T.called) st1.calls) (called kk lands x st1 (Throw (Obj e)) z g (Val v) (kk (Throw (Obj e))) (Normal u) t (a_value v u q)) (omega arith) (omega arith)))
      (λ d. goes_on kk lands x st1 (Throw (Obj e)) z g e (Break m v) (λ y. other_token kk lands x st1 (Throw (Obj e)) z g p (OfCall m) j (λ a. d (call_is m n a)) (object_is p o (sym f.0 ∙ y))) (passed m n (Val v) (Leaves (Break m v)) d) (a_break m e p v u i j q) l)
      (same_or_not m n)

  -- a call with a literal block ends: by its value, by a break of the block, or by what goes on
  pub landing_follows : (f : Eval) (tr : Task) (t : task.Task) (kk : Completion → task.Task) (a l : ℕ) → Lands s (length s0.records) o kk → Follows (Carries T.called) st.calls l a (walk f tr st l) t s (Called T w st s) → Follows (Carries T.called) st.calls l (a + 120) (walk f (with_literal (Some n) tr) st l) (t >>= kk) s (Called T w0 before s0)
  landing_follows f tr t kk a l lands inner =
      follows_outcome (walk_then f tr (λ x. Change (call_closed n) (ruby.Done (break_here n x))) st l)
      (follows_then {a1 = a} {av = 120} {aj = 120} (Called T w st s) (omega arith) (omega arith) inner
      (λ x st1 l1 c z g le. subst (λ b. Follows (Carries T.called) st1.calls l1 b (Ends (break_here n x) (changed (call_closed n) st1) l1) (kk c) z (Called T w0 before s0)) (after_same x) (behind kk lands x st1 c z g l1 g.is)))
    where
      after_same : (x : Result) → 120 ≡ after x 120 120
      after_same (Val v) = refl
      after_same (Leaves j) = refl
