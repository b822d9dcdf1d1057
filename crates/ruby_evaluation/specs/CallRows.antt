-- Primitives that call, raise, or call the host.
use Rattle.std.specs.Prelude.{Bool, true, false, if◌then◌else◌, ◌==◌, List, [], ◌∷◌, Some, None, codes}
use Rattle.ruby_meaning.specs.declared.value.Value.{Value}
use Rattle.ruby_meaning.specs.declared.value.Value.TheVariants as value
use Rattle.opal_base.specs.Shown.{Wrote, Asked}
use Rattle.ruby_evaluation.specs.Tables.{Name, Text}
use Rattle.ruby_evaluation.specs.State.{Ending, EndsItself, EndsCall, Form, Block, Ruby, thing_at}
use Rattle.ruby_evaluation.specs.Task.{Raise, Look, Change, Host, gives, jumps}
use Rattle.ruby_evaluation.specs.Texts.{truth}
use Rattle.ruby_evaluation.specs.Pairs.{same}
use Rattle.ruby_evaluation.specs.Calls.{call_method, call_proc}
use Rattle.ruby_evaluation.specs.Kinds.{Row, nothing, string, array, proc, block, exception}

abbrev pub is_itself : Ending → Bool
is_itself (EndsCall n) = false
is_itself EndsItself = true

abbrev pub is_lambda : Form → Bool
is_lambda (Block c) = is_itself c.ending
is_lambda _ = false

abbrev pub form_of : Ruby → Value → Bool
form_of r (value.Ref k) = is_lambda (thing_at r k).form
form_of r v = false

abbrev pub call_row : Row
call_row (f ∷ a ∷ y ∷ []) = proc f (array a (λ vs. block y (call_proc f None vs y)))
call_row _ = nothing

-- the call of f with another self
abbrev pub exec_row : Row
exec_row (f ∷ x ∷ a ∷ []) = proc f (array a (λ vs. call_proc f (Some x) vs value.Nil))
exec_row _ = nothing

abbrev pub lambda_row : Row
lambda_row (f ∷ []) = proc f (Look (λ r. gives (truth (form_of r f))))
lambda_row _ = nothing

abbrev pub send_row : Row
send_row (x ∷ s ∷ a ∷ y ∷ []) = string s (λ name. array a (λ vs. block y (call_method x name vs y)))
send_row _ = nothing

abbrev pub raise_row : Row
raise_row (e ∷ []) = exception e (λ k. jumps (Raise k))
raise_row _ = nothing

abbrev pub same_row : Row
same_row (x ∷ y ∷ []) = gives (truth (same x y))
same_row _ = nothing

-- ---- the host

abbrev pub write_row : Row
write_row (x ∷ []) = string x (λ s. Host (Wrote s) nothing)
write_row _ = nothing

-- the next line with its newline, and what stands behind it
abbrev pub line_of : Text → Text
line_of [] = []
line_of (u ∷ us) = if u == 10 then u ∷ [] else u ∷ line_of us

abbrev pub behind_line : Text → Text
behind_line [] = []
behind_line (u ∷ us) = if u == 10 then us else behind_line us

abbrev pub read_on : Ruby → Ruby
read_on r = record r { input = behind_line r.input }

-- nil at the end
abbrev pub line_or_nil : Text → Value
line_or_nil [] = value.Nil
line_or_nil (u ∷ us) = value.Text (u ∷ us)

abbrev pub line_row : Row
line_row vs = Look (λ r. Host Asked (Change read_on (gives (line_or_nil (line_of r.input)))))

abbrev pub call_rows : List (Name × Row)
call_rows =
    (codes "call", call_row)
    ∷ (codes "exec", exec_row)
    ∷ (codes "lambda", lambda_row)
    ∷ (codes "write", write_row)
    ∷ (codes "line", line_row)
    ∷ (codes "raise", raise_row)
    ∷ (codes "same", same_row)
    ∷ (codes "send", send_row)
    ∷ []
