-- The characters of a text, one after the other.
use Rattle.std.proofs.Common.{◌≡◌, ◌≤◌, ℕ, zero, suc, ◌+◌, ◌-◌, false, List, [], ◌∷◌, ◌++◌, slice_index, take, drop, length, refl, ap, sym, ◌∙◌, arith, rules, length-drop, append_assoc}
use Rattle.std.proofs.lemmas.Grind.{common_steps}
use Rattle.std.proofs.lemmas.List.{take_rest, drop-drop, append-nil}
use Rattle.ruby_meaning.specs.Lexing.Characters.{is_simple_escape, newline_len}
use Rattle.ruby_meaning.specs.Lexing.Texts.{escape, with_rest, content_from}

-- a newline behind a backslash stands for nothing
pub escape_newline : (z : List ℕ) → is_simple_escape (slice_index z 1) ≡ false → (slice_index z 1 ≡ 117 → ⊥) → (slice_index z 1 ≡ 120 → ⊥) → (newline_len z 1 ≡ 0 → ⊥) → escape z ≡ []
unfolding escape
escape_newline z plain u x some = first_of (search rules, grind (arith, common_steps))

pub content_left : (f : List ℕ → ℕ) (g : List ℕ → List ℕ) (n : ℕ) (z : List ℕ) → n ≤ length z → content_from f g n z ≡ content_from f g 0 (drop n z)
content_left f g zero z h = refl
content_left f g (suc n) [] h = absurd (omega arith)
content_left f g (suc n) (u ∷ us) h = content_left f g n us (omega arith)

pub content_goes : (f : List ℕ → ℕ) (g : List ℕ → List ℕ) (n : ℕ) (z : List ℕ) → f z ≡ n → (n ≡ 0 → ⊥) → n ≤ length z → content_from f g 0 z ≡ g z ++ content_from f g 0 (drop n z)
content_goes f g zero z e h k = absurd (h refl)
content_goes f g (suc n) [] e h k = absurd (omega arith)
content_goes f g (suc n) (u ∷ us) e h k =
    ap (λ m. with_rest (g (u ∷ us)) m (λ n. content_from f g n us)) e ∙ ap (λ r. g (u ∷ us) ++ r) (content_left f g n us (omega arith))

-- The code's loop goes on at `i` with a character of m units.
pub content_on : (f : List ℕ → ℕ) (g : List ℕ → List ℕ) (z : List ℕ) (i m : ℕ) (out more : List ℕ) (r : List ℕ)
    → m ≡ f (take (length z - i) (drop i z)) → (m ≡ 0 → ⊥) → m ≤ length (take (length z - i) (drop i z)) → i ≤ length z
    → more ≡ out ++ g (take (length z - i) (drop i z))
    → out ++ content_from f g 0 (drop i z) ≡ r → (more ++ content_from f g 0 (drop (i + m) z) ≡ r) × (i + m ≤ length z)
content_on f g z i m out more r value some within h new before =
    let here : f (drop i z) ≡ m = ap f (sym (take_rest z i)) ∙ sym value in
    let fits : m ≤ length (drop i z) = rw take_rest at within in
    let new2 : more ≡ out ++ g (drop i z) = rw take_rest at new in
    let goes : content_from f g 0 (drop i z) ≡ g (drop i z) ++ content_from f g 0 (drop m (drop i z)) = content_goes f g m (drop i z) here some fits in
    let goes2 : content_from f g 0 (drop i z) ≡ g (drop i z) ++ content_from f g 0 (drop (i + m) z) = rw drop-drop at goes in
    (ap (λ x. x ++ content_from f g 0 (drop (i + m) z)) new2 ∙ append_assoc out (g (drop i z)) _ ∙ ap (λ x. out ++ x) (sym goes2) ∙ before, omega (arith, length-drop i z))

content_stops : (f : List ℕ → ℕ) (g : List ℕ → List ℕ) (z : List ℕ) → f z ≡ 0 → content_from f g 0 z ≡ []
content_stops f g [] e = refl
content_stops f g (u ∷ us) e = ap (λ m. with_rest (g (u ∷ us)) m (λ n. content_from f g n us)) e

content_end : (f : List ℕ → ℕ) (g : List ℕ → List ℕ) (z : List ℕ) → length z ≡ 0 → content_from f g 0 z ≡ []
content_end f g [] e = refl
content_end f g (u ∷ us) e = absurd (omega arith)

-- It ends where no character stands, or at the end.
pub content_over : (f : List ℕ → ℕ) (g : List ℕ → List ℕ) (z : List ℕ) (i m : ℕ) (out r : List ℕ)
    → m ≡ f (take (length z - i) (drop i z)) → m ≡ 0 → out ++ content_from f g 0 (drop i z) ≡ r → out ≡ r
content_over f g z i m out r value none before =
    let here : f (drop i z) ≡ 0 = ap f (sym (take_rest z i)) ∙ sym value ∙ none in
    sym (append-nil out) ∙ ap (λ x. out ++ x) (sym (content_stops f g (drop i z) here)) ∙ before

pub content_out : (f : List ℕ → ℕ) (g : List ℕ → List ℕ) (z : List ℕ) (i : ℕ) (out r : List ℕ) → length z ≤ i → out ++ content_from f g 0 (drop i z) ≡ r → out ≡ r
content_out f g z i out r h before = sym (append-nil out) ∙ ap (λ x. out ++ x) (sym (content_end f g (drop i z) (omega (arith, length-drop i z)))) ∙ before
