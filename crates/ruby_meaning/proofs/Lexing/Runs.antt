-- Runs, member by member.
use Rattle.std.proofs.Common.{◌≡◌, ◌<◌, ◌≤◌, ℕ, zero, suc, ◌+◌, ◌-◌, List, [], ◌∷◌, take, drop, length, refl, ap, sym, ◌∙◌, arith, length-drop}
use Rattle.std.proofs.lemmas.List.{take_rest, drop-drop}
use Rattle.ruby_meaning.specs.Lexing.Runs.{turn, run_from}

pub run_left : (f : List ℕ → ℕ) (n : ℕ) (z : List ℕ) → n ≤ length z → run_from f n z ≡ n + run_from f 0 (drop n z)
run_left f zero [] h = refl
run_left f zero (u ∷ us) h = omega arith
run_left f (suc n) [] h = absurd (omega arith)
run_left f (suc n) (u ∷ us) h = let more : run_from f n us ≡ n + run_from f 0 (drop n us) = run_left f n us (omega arith) in omega arith

-- the first member, and the run behind it
pub run_goes : (f : List ℕ → ℕ) (n : ℕ) (z : List ℕ) → f z ≡ n → 0 < n → n ≤ length z → run_from f 0 z ≡ n + run_from f 0 (drop n z)
run_goes f zero z e h k = absurd (omega arith)
run_goes f (suc n) [] e h k = absurd (omega arith)
run_goes f (suc n) (u ∷ us) e h k =
    let more : run_from f n us ≡ n + run_from f 0 (drop n us) = run_left f n us (omega arith) in
    ap (λ m. turn m (λ n. suc (run_from f n us))) e ∙ (omega arith)

pub run_stops : (f : List ℕ → ℕ) (z : List ℕ) → f z ≡ 0 → run_from f 0 z ≡ 0
run_stops f [] e = refl
run_stops f (u ∷ us) e = ap (λ m. turn m (λ n. suc (run_from f n us))) e

pub run_end : (f : List ℕ → ℕ) (z : List ℕ) → length z ≡ 0 → run_from f 0 z ≡ 0
run_end f [] e = refl
run_end f (u ∷ us) e = absurd (omega arith)

turn_within : (n m : ℕ) (k : ℕ → ℕ) → ((i : ℕ) → k i ≤ m) → turn n k ≤ m
turn_within zero m k h = omega arith
turn_within (suc n) m k h = h n

pub run_within : (f : List ℕ → ℕ) (n : ℕ) (z : List ℕ) → run_from f n z ≤ length z
run_within f n [] = omega arith
run_within f zero (u ∷ us) = turn_within (f (u ∷ us)) (suc (length us)) (λ n. suc (run_from f n us)) (λ i. let more : run_from f i us ≤ length us = run_within f i us in omega arith)
run_within f (suc n) (u ∷ us) = let more : run_from f n us ≤ length us = run_within f n us in omega arith

-- The code's loop goes on at `i` with a member of m units.
pub run_on : (f : List ℕ → ℕ) (z : List ℕ) (i m r : ℕ)
    → m ≡ f (take (length z - i) (drop i z)) → (m ≡ 0 → ⊥) → m ≤ length (take (length z - i) (drop i z)) → i ≤ length z
    → i + run_from f 0 (drop i z) ≡ r → (i + m + run_from f 0 (drop (i + m) z) ≡ r) × (i + m ≤ length z)
run_on f z i m r value some within h before =
    let here : f (drop i z) ≡ m = ap f (sym (take_rest z i)) ∙ sym value in
    let fits : m ≤ length (drop i z) = rw take_rest at within in
    let goes : run_from f 0 (drop i z) ≡ m + run_from f 0 (drop m (drop i z)) = run_goes f m (drop i z) here (omega arith) fits in
    let goes2 : run_from f 0 (drop i z) ≡ m + run_from f 0 (drop (i + m) z) = rw drop-drop at goes in
    (omega arith, omega (arith, length-drop i z))

-- It ends where no member stands, or at the end.
pub run_over : (f : List ℕ → ℕ) (z : List ℕ) (i m r : ℕ)
    → m ≡ f (take (length z - i) (drop i z)) → m ≡ 0 → i + run_from f 0 (drop i z) ≡ r → i ≡ r
run_over f z i m r value none before =
    let here : f (drop i z) ≡ 0 = ap f (sym (take_rest z i)) ∙ sym value ∙ none in
    omega (arith, run_stops f (drop i z) here)

pub run_out : (f : List ℕ → ℕ) (z : List ℕ) (i r : ℕ) → length z ≤ i → i + run_from f 0 (drop i z) ≡ r → i ≡ r
run_out f z i r h before = omega (arith, run_end f (drop i z) (omega (arith, length-drop i z)))

turn_moves : (n : ℕ) (k : ℕ → ℕ) → (n ≡ 0 → ⊥) → ((i : ℕ) → 0 < k i) → 0 < turn n k
turn_moves zero k h each = absurd (h refl)
turn_moves (suc n) k h each = each n

pub run_moves : (f : List ℕ → ℕ) (z : List ℕ) → 0 < length z → (f z ≡ 0 → ⊥) → 0 < run_from f 0 z
run_moves f [] h some = absurd (omega arith)
run_moves f (u ∷ us) h some = turn_moves (f (u ∷ us)) (λ n. suc (run_from f n us)) some (λ i. omega arith)
