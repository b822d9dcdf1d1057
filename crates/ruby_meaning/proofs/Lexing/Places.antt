-- The places that are carried along are those of the definition.
use Rattle.std.proofs.Common.{◌≡◌, ◌≤◌, ℕ, ◌+◌, List, [], ◌∷◌, ◌++◌, drop, length, refl, ap, sym, ◌∙◌, subst, arith, length-append, append_assoc, Option, Some, None, slice_index, suc}
use Rattle.std.specs.List.{AllByRecursion}
use Rattle.std.proofs.Math.Seq.{drop-append_seam}
use Rattle.ruby_meaning.specs.declared.form.Form.{Form}
use Rattle.ruby_meaning.specs.declared.spot.Spot.{Spot}
use Rattle.opal_base.specs.declared.place.Pos.{Pos}
use Rattle.ruby_meaning.specs.declared.token.Token.{Token}
use Rattle.ruby_meaning.specs.declared.token.TokenKind.{TokenKind}
use Rattle.ruby_meaning.specs.declared.token.TokenKind.TheVariants as kind
use Rattle.opal_base.specs.Laws.{place_behind}
use Rattle.opal_base.specs.Place.{place_at}
use Rattle.opal_base.proofs.Places.{places_begin_is, places_go_on_is}
use Rattle.ruby_meaning.specs.Lexing.Lexes.{Piece, Reaches, tokens_of, token_at, token_if, kind_of, after, start, place_from, first_place}
use Rattle.ruby_meaning.specs.Lexing.Laws.{IsPlaced, Placed}
use Rattle.ruby_meaning.proofs.Lexing.Steps.{after_at}

index_seam : (front : List ℕ) (u : ℕ) (rest : List ℕ) → slice_index (front ++ u ∷ rest) (length front) ≡ u
index_seam [] u rest = refl
index_seam (v ∷ front) u rest = index_seam front u rest

pub place_from-append : (p : Pos) (a b : List ℕ) → place_from p (a ++ b) ≡ place_from (place_from p a) b
place_from-append p [] b = refl
place_from-append p (u ∷ a) b = place_from-append (place_behind u p) a b

-- the spot is at its offset of the whole text, with its place
pub record At (whole : List ℕ) (s : Spot) (text : List ℕ) : Type 0 where
  pub within : s.at ≤ length whole
  pub front : List ℕ
  pub split : whole ≡ front ++ text
  pub size : length front ≡ s.at
  pub place : s.pos ≡ place_from first_place front

at_after : (whole : List ℕ) (s : Spot) (text : List ℕ) (f : Form) (slice rest : List ℕ) → At whole s text → text ≡ slice ++ rest → At whole (after s f slice) rest
unfolding after
at_after whole s text f slice rest h e =
    let whole_is : whole ≡ (h.front ++ slice) ++ rest = h.split ∙ ap (λ t. h.front ++ t) e ∙ sym (append_assoc h.front slice rest) in
    let lengths : length (h.front ++ slice) ≡ s.at + length slice = length-append h.front slice ∙ ap (λ n. n + length slice) h.size in
    record {
      within = omega (arith, lengths, ap length whole_is, length-append (h.front ++ slice) rest);
      front = h.front ++ slice;
      split = whole_is;
      size = lengths;
      place = ap (λ p. place_from p slice) h.place ∙ sym (place_from-append first_place h.front slice);
    }

-- a place is carried on over the units that follow it
place_on : (text front slice rest : List ℕ) → text ≡ front ++ (slice ++ rest) → place_from (place_at text (length front)) slice ≡ place_at text (length front + length slice)
place_on text front [] rest e = ap (place_at text) (omega arith)
place_on text front (u ∷ us) rest e =
    let sizes : length text ≡ length front + suc (length (us ++ rest)) = ap length e ∙ length-append front (u ∷ (us ++ rest)) in
    let here : slice_index text (length front) ≡ u = ap (λ t. slice_index t (length front)) e ∙ index_seam front u (us ++ rest) in
    let step : place_at text (length front + 1) ≡ place_behind u (place_at text (length front)) =
    places_go_on_is text (length front) (omega (arith, sizes)) ∙ ap (λ v. place_behind v (place_at text (length front))) here in
    let longer : length (front ++ u ∷ []) ≡ length front + 1 = length-append front (u ∷ []) in
    let more = place_on text (front ++ u ∷ []) us rest (e ∙ sym (append_assoc front (u ∷ []) (us ++ rest))) in
    ap (λ p. place_from p us) (sym step) ∙ ap (λ n. place_from (place_at text n) us) (sym longer) ∙ more
    ∙ ap (place_at text) (omega (arith, longer))

at_place : (whole : List ℕ) (s : Spot) (text : List ℕ) → At whole s text → s.pos ≡ place_at whole s.at
at_place whole s text h =
    h.place ∙ ap (λ p. place_from p h.front) (sym (places_begin_is whole)) ∙ place_on whole [] h.front text h.split ∙ ap (place_at whole) (omega (arith, h.size))

all_if : (whole : List ℕ) (s : Spot) (slice rest : List ℕ) (k : Option TokenKind) (ts : List Token)
    → ((k : TokenKind) → IsPlaced whole (token_at s slice rest k)) → AllByRecursion (IsPlaced whole) ts → AllByRecursion (IsPlaced whole) (token_if s slice rest k ++ ts)
all_if whole s slice rest None ts one all = all
all_if whole s slice rest (Some k) ts one all = (one k, all)

placed_from : (whole : List ℕ) (s : Spot) (text : List ℕ) (ps : List Piece) (e : Spot) (rest : List ℕ) (tail : List Token)
    → Reaches s text ps e rest → At whole s text → (At whole e rest → AllByRecursion (IsPlaced whole) tail)
    → AllByRecursion (IsPlaced whole) (tokens_of s text ps ++ tail)
unfolding after
placed_from whole s text [] e rest tail h at last = last (subst (λ t. At whole e t) h.1 (subst (λ v. At whole v text) h.0 at))
placed_from whole s text (p ∷ ps) e rest tail h at last =
    let behind : drop (length p.slice) text ≡ h.0 = ap (drop (length p.slice)) h.1 ∙ drop-append_seam p.slice h.0 in
    let next = at_after whole s text p.form p.slice (drop (length p.slice) text) at (h.1 ∙ ap (λ r. p.slice ++ r) (sym behind)) in
    let tails = placed_from whole (after s p.form p.slice) (drop (length p.slice) text) ps e rest tail (subst (λ t. Reaches (after s p.form p.slice) t ps e rest) (sym behind) h.3) next last in
    subst (AllByRecursion (IsPlaced whole)) (sym (append_assoc (token_if s p.slice (drop (length p.slice) text) (kind_of p.form p.slice)) _ tail))
    (all_if whole s p.slice (drop (length p.slice) text) (kind_of p.form p.slice) _
    (λ k. record {
      order = omega arith;
      within = subst (λ n. n ≤ length whole) (after_at s p.form p.slice) next.within;
      place = at_place whole s text at;
      end = at_place whole (after s p.form p.slice) (drop (length p.slice) text) next ∙ ap (place_at whole) (after_at s p.form p.slice);
    }) tails)

pub placed : Placed
placed text tokens h =
    subst (AllByRecursion (IsPlaced text)) (sym h.same)
    (placed_from text start text h.pieces h.end h.rest (token_at h.end [] [] kind.Eof ∷ []) h.reaches
    (record { within = omega arith; front = []; split = refl; size = refl; place = refl })
    (λ at. (record { order = omega arith; within = omega (arith, at.within); place = at_place text h.end h.rest at; end = at_place text h.end h.rest at ∙ ap (place_at text) (omega arith) }, tt)))
