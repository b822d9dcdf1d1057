-- The stack of open texts, and of the braces in their embedded parts, the innermost first.
use Rattle.std.specs.Prelude.{Bool, true, false, List, [], ◌∷◌}
use Rattle.ruby_meaning.specs.declared.form.Form.{Form}
use Rattle.ruby_meaning.specs.declared.form.Form.TheVariants as form
use Rattle.ruby_meaning.specs.declared.token.Mark.TheVariants as mark_
use Rattle.ruby_meaning.specs.declared.form.Opener.{Opener}
use Rattle.ruby_meaning.specs.declared.form.Opener.TheVariants.{Text, Brace}

abbrev pub top_is_none : List Opener → Bool
top_is_none [] = true
top_is_none (o ∷ os) = false

-- a `}` ends an embedded part
abbrev pub closes : List Opener → Bool
closes [] = false
closes (Text ∷ os) = true
closes (Brace ∷ os) = false

abbrev pub leave : List Opener → List Opener
leave [] = []
leave (o ∷ os) = os

-- a brace counts in an embedded part alone
abbrev pub enter_brace : List Opener → List Opener
enter_brace [] = []
enter_brace (o ∷ os) = Brace ∷ o ∷ os

unfoldable pub open_after : Form → List Opener → List Opener
open_after form.TextBegin os = Text ∷ os
open_after form.TextEnd os = leave os
open_after (form.Op mark_.BraceOpen) os = enter_brace os
open_after (form.Op mark_.BraceClose) os = leave os
open_after _ os = os
