-- What the forms answer.
use Rattle.std.specs.Prelude.{◌≡◌, ◌<◌, ◌≤◌, ℕ, true, List, length}
use Rattle.ruby_meaning.specs.declared.form.Ending.{Ending}
use Rattle.ruby_meaning.specs.declared.form.Ending.TheVariants as ending_
use Rattle.ruby_meaning.specs.declared.form.Stand.{Stand}
use Rattle.ruby_meaning.specs.declared.form.Stand.TheVariants as stand
use Rattle.ruby_meaning.specs.Lexing.Stands.{is_over}

-- what stands is a part of the text, a form isn't empty, and the end is the end
abbrev pub Fits : Stand → List ℕ → Type 0
Fits (stand.Form f n) z = (0 < n) × (n ≤ length z)
Fits (stand.Refused c n) z = n ≤ length z
Fits stand.Endless z = Unit {0}
Fits stand.Cut z = Unit {0}
Fits stand.End z = is_over z ≡ true

abbrev pub EndsWithin : Ending → List ℕ → Type 0
EndsWithin ending_.Quote z = 1 ≤ length z
EndsWithin ending_.Part z = 2 ≤ length z
EndsWithin ending_.Cut z = Unit {0}
EndsWithin ending_.Bad z = Unit {0}
