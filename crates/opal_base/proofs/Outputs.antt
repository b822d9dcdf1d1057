-- What a run wrote, by earlier and by later calls of the host.
use Rattle.std.proofs.Common.{◌≡◌, ℕ, List, [], ◌∷◌, ◌++◌, sym, ap, ◌∙◌, append_assoc, append-nil}
use Rattle.opal_base.specs.Shown.{HostCall, Wrote, Asked, output_of}
use Rattle.opal_base.specs.Text.{utf8_of}

-- the output of earlier calls, and then that of later ones
pub output_both : (more calls : List HostCall) → output_of (more ++ calls) ≡ output_of calls ++ output_of more
output_both [] calls = sym (append-nil (output_of calls))
output_both (Wrote text ∷ more) calls = ap (λ l. l ++ utf8_of text) (output_both more calls) ∙ append_assoc (output_of calls) (output_of more) (utf8_of text)
output_both (Asked ∷ more) calls = output_both more calls
