-- Texts in double quotes as a writer spells them.
use Rattle.std.specs.Prelude.{◌≡◌, ℕ, ◌+◌, if◌then◌else◌, ◌==◌, List, [], ◌∷◌, ◌++◌, length}
use Rattle.ruby_meaning.specs.declared.form.Form.TheVariants as form
use Rattle.ruby_meaning.specs.declared.form.Spelling.TheVariants as spelling
use Rattle.ruby_meaning.specs.declared.form.Stand.TheVariants as stand
use Rattle.ruby_meaning.specs.Lexing.Texts.{content, quoted}

-- one unit: a quote, a backslash and a `#` stand behind a backslash, and the two of a newline are `\n` and `\r`
abbrev pub written_unit : ℕ → List ℕ
written_unit v =
    if v == 34 then 92 ∷ 34 ∷ [] else (if v == 92 then 92 ∷ 92 ∷ [] else (if v == 35 then 92 ∷ 35 ∷ []
    else (if v == 10 then 92 ∷ 110 ∷ [] else (if v == 13 then 92 ∷ 114 ∷ [] else v ∷ []))))

abbrev pub written : List ℕ → List ℕ
written [] = []
written (v ∷ vs) = written_unit v ++ written vs

-- What is written in quotes is one text, whatever follows, and stands for the units that were written.
abbrev pub WrittenReads : Type 0
WrittenReads = (units rest : List ℕ) →
    (quoted form.Text 0 (34 ∷ written units ++ 34 ∷ rest) ≡ stand.Form form.Text (length (written units) + 2)) × (content spelling.Double (written units) ≡ units)
