-- The sign of the last token.
use Rattle.std.proofs.Common.{◌≡◌, ℕ, suc, ◌-◌, ◌≤◌, List, [], ◌∷◌, length, map, Some, refl, sym, ap, ◌∙◌, arith}
use Rattle.std.specs.Prelude.{get_or}
use Rattle.ruby_meaning.specs.Grammar.Refusals.{last_seen}
use Rattle.ruby_reading.specs.declared.cursor.Sight.{Sight}
use Rattle.ruby_reading.specs.Ahead.{see}
use Rattle.ruby_parser.specs.Refusing.{sign_of}

pub last_is : (xs : List Sight) (d : Sight) → 1 ≤ length xs → sign_of (last_seen (map see xs)) ≡ Some (get_or xs (length xs - 1) d).sign
last_is [] d h = let no : ⊥ = omega (arith, h) in absurd no
last_is (x ∷ []) d h = refl
last_is (x ∷ y ∷ ys) d h =
    let e : length (x ∷ y ∷ ys) - 1 ≡ suc (length (y ∷ ys) - 1) = omega arith in
    last_is (y ∷ ys) d (omega arith) ∙ ap (λ k. Some (get_or (x ∷ y ∷ ys) k d).sign) (sym e)
