use Rattle.std.proofs.Common.{◌≡◌, ◌≤◌, ℕ, ◌-◌, eqb, List, [], ◌∷◌, length, get_or, refl, ◌∙◌, ap, sym, arith}
use Rattle.ruby_meaning.specs.Puts.{ends_line}
use Rattle.opal_cli.proofs.translate.ends_line.Goals as goal

last_is : (unit : ℕ) (text : List ℕ) → ends_line (unit ∷ text) ≡ eqb (get_or (unit ∷ text) (length text) 0) 10
last_is unit [] = refl
last_is unit (more ∷ text) = last_is more text

last_of : (text : List ℕ) → 1 ≤ length text → eqb (get_or text (length text - 1) 0) 10 ≡ ends_line text
last_of [] some = absurd (omega arith)
last_of (unit ∷ text) some = ap (λ n. eqb (get_or (unit ∷ text) n 0) 10) (omega arith) ∙ sym (last_is unit text)

pub returns-in-len1-up : goal.returns-in-len1-up
returns-in-len1-up c = last_of c.args.text.now (omega arith)
