-- Rows at arguments of some kinds, and answers to equal rows.
use Rattle.std.proofs.Common.{◌≡◌, ℕ, ◌<◌, List, length, Option, Some, None, sym, ap, subst, ◌∙◌, codes}
use Rattle.es5_tree.specs.Values.{Val, Undefined, Null, Truth, Num, Str, Obj}
use Rattle.es5_tree.specs.Objects.Cells.{Cell}
use Rattle.es5_tree.specs.Objects.Links.{Within}
use Rattle.es5_tree.specs.Intrinsics.Rows.{Row, Throws, covered, or_type_error, not_covered, link_of, object_of}
use Rattle.es5_tree.specs.Intrinsics.Valid.{Names}
use Rattle.es5_objects.specs.Heap.{Heap}
use Rattle.es5_host.specs.declared.answer.HostAnswer.{HostAnswer}
use Rattle.es5_host.specs.Answers.{Answered}

-- an answer to a row is one to an equal row
pub answered_as : (r s : Row) (a : HostAnswer) (h k : Heap) → r ≡ s → Answered r a h k → Answered s a h k
answered_as r s a h k e = subst (λ x. Answered x a h k) e

pub no_object : {A : Type 0} (o : Option A) (f : A → Row) → None ≡ o → Throws (codes "not an object") ≡ or_type_error o f
no_object o f e = ap (λ x. or_type_error x f) e

pub an_object : {A : Type 0} (o : Option A) (f : A → Row) (x : A) → Some x ≡ o → f x ≡ or_type_error o f
an_object o f x e = ap (λ y. or_type_error y f) e

pub uncovered : {A : Type 0} (o : Option A) (f : A → Row) → None ≡ o → not_covered ≡ covered o f
uncovered o f e = ap (λ x. covered x f) e

pub covers : {A : Type 0} (o : Option A) (f : A → Row) (x : A) → Some x ≡ o → f x ≡ covered o f
covers o f x e = ap (λ y. covered y f) e

-- what a value names
pub link_named : (n : ℕ) (cells : List Cell) (v : Val) (link : Option ℕ) → n ≡ length cells → Some link ≡ link_of v → Names n v → Within cells link
link_named n cells Undefined link l e h = cc
link_named n cells Null link l e h = let k : link ≡ None = cc in subst (Within cells) (sym k) tt
link_named n cells (Truth b) link l e h = cc
link_named n cells (Num z) link l e h = cc
link_named n cells (Str s) link l e h = cc
link_named n cells (Obj o) link l e h = let k : link ≡ Some o = cc in subst (Within cells) (sym k) (subst (λ m. o < m) l h)

pub object_named : (n : ℕ) (v : Val) (o : ℕ) → Some o ≡ object_of v → Names n v → o < n
object_named n Undefined o e h = cc
object_named n Null o e h = cc
object_named n (Truth b) o e h = cc
object_named n (Num z) o e h = cc
object_named n (Str s) o e h = cc
object_named n (Obj p) o e h = let k : o ≡ p = cc in subst (λ q. q < n) (sym k) h

-- a value of another kind
pub refused : {A : Type 0} (r o : Option A) (f : A → Row) (a : HostAnswer) (h : Heap) → r ≡ None → r ≡ o → ((k : Heap) → Answered (Throws (codes "not an object")) a k k) → Answered (or_type_error o f) a h h
refused r o f a h is e w = answered_as _ _ a h h (no_object o f (sym is ∙ e)) (w h)

pub accepted : {A : Type 0} (r o : Option A) (f : A → Row) (x : A) (a : HostAnswer) (h k : Heap) → r ≡ Some x → r ≡ o → Answered (f x) a h k → Answered (or_type_error o f) a h k
accepted r o f x a h k is e w = answered_as _ _ a h k (an_object o f x (sym is ∙ e)) w

-- arguments that no row covers
pub left_out : {A : Type 0} (r o : Option A) (f : A → Row) (a : HostAnswer) (h : Heap) → r ≡ None → r ≡ o → ((k : Heap) → Answered not_covered a k k) → Answered (covered o f) a h h
left_out r o f a h is e w = answered_as _ _ a h h (uncovered o f (sym is ∙ e)) (w h)

pub taken : {A : Type 0} (r o : Option A) (f : A → Row) (x : A) (a : HostAnswer) (h k : Heap) → r ≡ Some x → r ≡ o → Answered (f x) a h k → Answered (covered o f) a h k
taken r o f x a h k is e w = answered_as _ _ a h k (covers o f x (sym is ∙ e)) w

-- the heap as before, where it is the same
pub still : (r : Row) (a : HostAnswer) (h k : Heap) → k ≡ h → Answered r a h h → Answered r a h k
still r a h k e w = subst (λ x. Answered r a h x) (sym e) w
