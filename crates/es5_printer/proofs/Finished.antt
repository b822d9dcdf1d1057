-- A whole text: what was written, or that it is too long.
use Rattle.std.proofs.Common.{◌≡◌, ◌⊎◌, inl, inr, ℕ, ◌+◌, ◌<◌, ◌≤◌, Bool, true, false, List, [], ◌∷◌, ◌++◌, length, Option, Some, None, refl, sym, ap, ◌∙◌, true≢false, is_some, arith}
use Rattle.std.specs.Prelude.{nat_le, if◌then◌else◌}
use Rattle.std.proofs.lemmas.Bool.Decides.{nat_tests}
use Rattle.std.proofs.lemmas.List.{append_assoc, append-nil, length-append}
use Rattle.opal_base.specs.declared.place.Pos.{Pos}
use Rattle.es5_tree.specs.declared.tree.Script.{Script}
use Rattle.es5_printer.specs.declared.place.Place.{Place}
use Rattle.es5_printer.specs.Answer.{page_of}
use Rattle.es5_printer.specs.Page.{Shown, finished, limit, with_piece, written}
use Rattle.es5_printer.specs.Pieces.{Piece, text, site, behind_bytes, bytes_of, place_of, places_from}
use Rattle.es5_printer.specs.Text.{places_of, script_pieces, text_of}

abbrev going : List ℕ → Pos → List Place → Shown
going b p ps = record { bytes = b; at = p; places = ps; full = false }

abbrev Whole : List Piece → List ℕ → Pos → List Place → Shown → Type 0
Whole pieces b p ps w =
    ((w.full ≡ false) × (w.bytes ≡ b ++ bytes_of pieces) × (w.places ≡ ps ++ places_from p pieces) × (length b + length (bytes_of pieces) < limit))
    ⊎ ((w.full ≡ true) × (limit ≤ length b + length (bytes_of pieces)))

full_stays : (pieces : List Piece) (b : List ℕ) (p : Pos) (ps : List Place) → (written pieces (record { bytes = b; at = p; places = ps; full = true })).full ≡ true
full_stays [] b p ps = refl
full_stays (text t ∷ pieces) b p ps = full_stays pieces b p ps
full_stays (site o ∷ pieces) b p ps = full_stays pieces b p ps

le_from : (a b : ℕ) → nat_le a b ≡ true → a ≤ b
le_from a b h = grind (arith, nat_tests)

lt_from : (a b : ℕ) → nat_le a b ≡ false → b < a
lt_from a b h = grind (arith, nat_tests)

more_text : (t : List ℕ) (pieces : List Piece) (b : List ℕ) (p : Pos) (ps : List Place) (w : Shown) → Whole pieces (b ++ t) (behind_bytes p t) ps w → Whole (text t ∷ pieces) b p ps w
more_text t pieces b p ps w (inl (f, bs, qs, short)) = inl (f, bs ∙ append_assoc b t (bytes_of pieces), qs, omega (arith, short, length-append b t, length-append t (bytes_of pieces)))
more_text t pieces b p ps w (inr (f, long)) = inr (f, omega (arith, long, length-append b t, length-append t (bytes_of pieces)))

more_site : (o : ℕ) (pieces : List Piece) (b : List ℕ) (p : Pos) (ps : List Place) (w : Shown) → Whole pieces b p (ps ++ place_of p o ∷ []) w → Whole (site o ∷ pieces) b p ps w
more_site o pieces b p ps w (inl (f, bs, qs, short)) = inl (f, bs, qs ∙ append_assoc ps (place_of p o ∷ []) (places_from p pieces), short)
more_site o pieces b p ps w (inr (f, long)) = inr (f, long)

-- with the rest of the pieces written, where they fit
text_or_full : (t : List ℕ) (pieces : List Piece) (b : List ℕ) (p : Pos) (ps : List Place) (c : Bool) → nat_le limit (length b + length t) ≡ c → (length (b ++ t) < limit → Whole pieces (b ++ t) (behind_bytes p t) ps (written pieces (going (b ++ t) (behind_bytes p t) ps)))
    → Whole (text t ∷ pieces) b p ps (written pieces (if c then record { bytes = b; at = p; places = ps; full = true } else going (b ++ t) (behind_bytes p t) ps))
text_or_full t pieces b p ps true e rest = inr (full_stays pieces b p ps, omega (arith, le_from limit (length b + length t) e, length-append t (bytes_of pieces)))
text_or_full t pieces b p ps false e rest = more_text t pieces b p ps (written pieces (going (b ++ t) (behind_bytes p t) ps)) (rest (omega (arith, lt_from limit (length b + length t) e, length-append b t)))

whole : (pieces : List Piece) (b : List ℕ) (p : Pos) (ps : List Place) → length b < limit → Whole pieces b p ps (written pieces (going b p ps))
whole [] b p ps h = inl (refl, sym (append-nil b), sym (append-nil ps), omega (arith, h))
whole (text t ∷ pieces) b p ps h = text_or_full t pieces b p ps (nat_le limit (length b + length t)) refl (λ short. whole pieces (b ++ t) (behind_bytes p t) ps short)
whole (site o ∷ pieces) b p ps h = more_site o pieces b p ps (written pieces (going b p (ps ++ place_of p o ∷ []))) (whole pieces b p (ps ++ place_of p o ∷ []) h)

of_script : (script : Script) → Whole (script_pieces script) [] (record { line = 0; col = 0 }) [] (page_of script)
of_script script = whole (script_pieces script) [] (record { line = 0; col = 0 }) [] (omega arith)

-- what a text gives at its end
abbrev end_of : Bool → List ℕ → List Place → Option (List ℕ × List Place)
end_of true b ps = None
end_of false b ps = Some (b, ps)

finished_is : (w : Shown) → finished w ≡ end_of w.full w.bytes w.places
finished_is w = by w.full w.bytes w.places
  where
    by : (f : Bool) (b : List ℕ) (ps : List Place) → finished (record { bytes = b; at = record { line = 0; col = 0 }; places = ps; full = f }) ≡ end_of f b ps
    by true b ps = refl
    by false b ps = refl

same : {A : Type 0} (x y : A) → Some x ≡ Some y → x ≡ y
same x y h = cc

open_end : (f : Bool) (b : List ℕ) (ps : List Place) (x : List ℕ × List Place) → f ≡ false → Some x ≡ end_of f b ps → (x.0 ≡ b) × (x.1 ≡ ps)
open_end false b ps x e h = let s : x ≡ (b, ps) = same x (b, ps) h in (ap (λ y. y.0) s, ap (λ y. y.1) s)
open_end true b ps x e h = absurd (true≢false e)

no_end : (f : Bool) (b : List ℕ) (ps : List Place) (x : List ℕ × List Place) → f ≡ true → Some x ≡ end_of f b ps → ⊥
no_end true b ps x e h = true≢false (ap is_some h)
no_end false b ps x e h = true≢false (sym e)

some_end : (f : Bool) (b : List ℕ) (ps : List Place) → f ≡ false → None ≡ end_of f b ps → ⊥
some_end false b ps e h = true≢false (sym (ap is_some h))
some_end true b ps e h = true≢false e

pub finished_some : (script : Script) (w : Shown) (x : List ℕ × List Place) → w ≡ page_of script → Some x ≡ finished w → (x.0 ≡ text_of script) × (x.1 ≡ places_of script) × (length (text_of script) < limit)
finished_some script w x e h = by (of_script script)
  where
    h' : Some x ≡ end_of (page_of script).full (page_of script).bytes (page_of script).places
    h' = h ∙ (ap finished e ∙ finished_is (page_of script))

    by : Whole (script_pieces script) [] (record { line = 0; col = 0 }) [] (page_of script) → (x.0 ≡ text_of script) × (x.1 ≡ places_of script) × (length (text_of script) < limit)
    by (inl (f, bs, qs, short)) =
        let both = open_end (page_of script).full (page_of script).bytes (page_of script).places x f h' in
        (both.0 ∙ bs, both.1 ∙ qs, omega (arith, short))
    by (inr (f, long)) = absurd (no_end (page_of script).full (page_of script).bytes (page_of script).places x f h')

pub finished_none : (script : Script) (w : Shown) → w ≡ page_of script → None ≡ finished w → limit ≤ length (text_of script)
finished_none script w e h = by (of_script script)
  where
    by : Whole (script_pieces script) [] (record { line = 0; col = 0 }) [] (page_of script) → limit ≤ length (text_of script)
    by (inl (f, bs, qs, short)) = absurd (some_end (page_of script).full (page_of script).bytes (page_of script).places f (h ∙ (ap finished e ∙ finished_is (page_of script))))
    by (inr (f, long)) = omega (arith, long)
