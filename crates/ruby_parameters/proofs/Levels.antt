-- Levels of a grammar's readers.
use Rattle.std.proofs.Common.{◌≡◌, ℕ, zero, suc, ◌-◌, ◌<◌, ◌≤◌, true, false, List, Result, Err, Option, Some, None, refl, sym, ap, arith}
use Rattle.std.specs.Prelude.{nat_le, if◌then◌else◌}
use Rattle.grammar.specs.FormReaders.{under, read_node, read_view, read_needs}

pub two_levels : (n : ℕ) → 0 < n → under 1 n ≡ Some (n - 1)
two_levels zero h = let no : ⊥ = omega (arith, h) in absurd no
two_levels (suc n) h = ap Some (omega arith)

pub one_level : (n : ℕ) → n ≡ 0 → under 1 n ≡ None
one_level zero h = refl
one_level (suc n) h = let no : ⊥ = omega (arith, h) in absurd no

-- a node with a level or none
pub node_some : {T A B : Type 0} (f : A → B) (p : ℕ → List T → Result (A × List T) (List T)) (n : ℕ) (ts : List T) → 0 < n → read_node f p n ts ≡ read_view f (p (n - 1)) ts
node_some f p zero ts h = let no : ⊥ = omega (arith, h) in absurd no
node_some f p (suc n) ts h = ap (λ k. read_view f (p k) ts) (omega arith)

pub node_none : {T A B : Type 0} (f : A → B) (p : ℕ → List T → Result (A × List T) (List T)) (n : ℕ) (ts : List T) → n ≡ 0 → read_node f p n ts ≡ Err ts
node_none f p zero ts h = refl
node_none f p (suc n) ts h = let no : ⊥ = omega (arith, h) in absurd no

most : (m n : ℕ) → m ≤ n → nat_le m n ≡ true
most m n h = search (arith, h)

least : (m n : ℕ) → n < m → nat_le m n ≡ false
least m n h = search (arith, h)

pub needs_some : {T A : Type 0} (p : List T → Result (A × List T) (List T)) (n : ℕ) (ts : List T) → 0 < n → read_needs 2 (suc n) p ts ≡ p ts
needs_some p n ts h = ap (λ c. if c then p ts else Err ts) (most 2 (suc n) (omega (arith, h)))

pub needs_none : {T A : Type 0} (p : List T → Result (A × List T) (List T)) (n : ℕ) (ts : List T) → n ≡ 0 → read_needs 2 (suc n) p ts ≡ Err ts
needs_none p n ts h = ap (λ c. if c then p ts else Err ts) (least 2 (suc n) (omega (arith, h)))
