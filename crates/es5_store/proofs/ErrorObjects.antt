-- Error objects, property by property.
use Rattle.std.proofs.Common.{◌≡◌, ℕ, ◌+◌, ◌<◌, List, [], ◌∷◌, ◌++◌, length, Some, refl, sym, ap, ◌∙◌, subst, arith, codes}
use Rattle.es5_tree.specs.Values.{Text, Str}
use Rattle.es5_tree.specs.Objects.Cells.{Cell, Object, new_cell, put, with_value, with_property}
use Rattle.es5_tree.specs.Objects.Links.{cell_at}
use Rattle.es5_tree.specs.Intrinsics.Made.{object_prototype}
use Rattle.es5_evaluation.specs.Evaluate.{error_object}
use Rattle.es5_objects.specs.Heap.{Heap, with_cell}
use Rattle.std.proofs.lemmas.List.{length-set}
use Rattle.es5_host.proofs.Elements.{put_in, only_this}
use Rattle.std.proofs.lemmas.List.Elements.{All-nil, All-cons}
use Rattle.es5_tree.specs.Intrinsics.Valid.{Names, NamesIn, Valid}
use Rattle.es5_host.proofs.Making.{stays_plain}
use Rattle.es5_host.proofs.Validity.{valid_push_new}

-- an error object is a new one with its name and its message
pub named_error : (name message : Text) → put (put (new_cell Object (Some object_prototype)) (codes "name") (Str name)) (codes "message") (Str message) ≡ error_object name message
unfolding put with_value with_property
named_error name message = refl

pub both_given : (h k m : Heap) (o : ℕ) (name message : Text) → o < length h.cells → cell_at h.cells o ≡ new_cell Object (Some object_prototype) → k ≡ with_cell h o (put (cell_at h.cells o) (codes "name") (Str name)) → m ≡ with_cell k o (put (cell_at k.cells o) (codes "message") (Str message)) → m ≡ with_cell h o (error_object name message)
both_given h k m o name message l f e d =
    let named = put (cell_at h.cells o) (codes "name") (Str name) in
    let here : o < length k.cells = subst (λ i. o < i) (sym (ap (λ (x : Heap). length x.cells) e ∙ length-set h.cells o named)) l in
    let whole = put (cell_at k.cells o) (codes "message") (Str message) in
    only_this h k m o named whole e d here
    ∙ ap (with_cell h o) (put_in k m o whole d here
    ∙ (ap (λ c. put c (codes "message") (Str message)) (put_in h k o named e l ∙ ap (λ c. put c (codes "name") (Str name)) f)
    ∙ named_error name message))

pub still_plain : (h k : Heap) (o : ℕ) (name : Text) → o < length h.cells → cell_at h.cells o ≡ new_cell Object (Some object_prototype) → k ≡ with_cell h o (put (cell_at h.cells o) (codes "name") (Str name)) → (cell_at k.cells o).kind ≡ Object
still_plain h k o name l f e = stays_plain h k o (codes "name") (Str name) e l (ap (λ (c : Cell). c.kind) f)

pub error_named : (n : ℕ) (name message : Text) → NamesIn n (error_object name message)
error_named n name message = All-cons (λ p. Names n p.1) (codes "name", Str name) ((codes "message", Str message) ∷ []) tt (All-cons (λ p. Names n p.1) (codes "message", Str message) [] tt (All-nil _))

pub valid_error : (cells : List Cell) (name message : Text) → Valid cells → Valid (cells ++ error_object name message ∷ [])
valid_error cells name message v = valid_push_new cells (error_object name message) (let e = v.enough in omega (arith, e)) (error_named (length cells + 1) name message) v
