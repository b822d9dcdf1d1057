-- Calls: methods, readers and writers, procs, `super`, `yield`, and what is called where nothing is found.
use Rattle.std.specs.Prelude.{ℕ, Bool, true, false, if◌then◌else◌, nat_eq, List, [], ◌∷◌, ◌++◌, length, Option, Some, None, bytes_eq, codes}
use Rattle.opal_base.specs.Shown.{Wrote}
use Rattle.opal_base.specs.declared.place.Pos.{Pos}
use Rattle.ruby_meaning.specs.declared.tree.Node.{Node}
use Rattle.ruby_meaning.specs.declared.tree.Params.{Params, out-Params}
use Rattle.ruby_meaning.specs.declared.value.Value.{Value}
use Rattle.ruby_meaning.specs.declared.value.Value.TheVariants as value
use Rattle.ruby_meaning.specs.Puts.{puts_text}
use Rattle.ruby_evaluation.specs.Tables.{Name, at}
use Rattle.ruby_evaluation.specs.State.{Method, Entry, Def, Reader, Writer, Undefined, Ending, EndsCall, EndsItself, Closure, Form, Block, Sends, Frame, Ruby, thing_at, frame_at, with_variable, with_new_frame, closed, call_closed}
use Rattle.ruby_evaluation.specs.Ancestors.{find, find_behind}
use Rattle.ruby_evaluation.specs.Task.{BreakLoop, Break, Next, Return, Raise, Again, Result, Val, Leaves, Place, Task, Done, Look, Change, Host, ◌>>=◌, gives, run_node}
use Rattle.ruby_evaluation.specs.Texts.{wrong_kind, frozen, jump_error, no_method}
use Rattle.ruby_evaluation.specs.Locals.{Declared, declared, declared_in_defaults, parameter_places, all_nil, own_of_block, or_nil}
use Rattle.ruby_evaluation.specs.Parameters.{first_of, others, takes, expected, wrong_number, is_wide, spread_one, bind}

-- ---- instance variables

-- the number of the heap value that has a value's instance variables: nil has those of number 0
abbrev pub holds_variables : Value → Option ℕ
holds_variables value.Nil = Some 0
holds_variables (value.Ref k) = Some k
holds_variables _ = None

abbrev pub variable_in : Ruby → Option ℕ → Name → Value
variable_in r None name = value.Nil
variable_in r (Some k) name = or_nil (at name (thing_at r k).variables)

abbrev pub variable : Ruby → Value → Name → Value
variable r v name = variable_in r (holds_variables v) name

abbrev pub set_in_holder : Option ℕ → Value → Name → Value → Task
set_in_holder None v name w = frozen v
set_in_holder (Some k) v name w = Change (with_variable k name w) (gives w)

-- integers, texts and truth values take none
abbrev pub set_variable : Value → Name → Value → Task
set_variable v name w = set_in_holder (holds_variables v) v name w

-- ---- methods

abbrev pub in_frame : ℕ → Place
in_frame k = record { frame = k; in_loop = false; clause = None }

-- before every place of a text
abbrev pub start : Pos
start = record { line = 0; col = 0 }

abbrev pub own_of_method : Params → Node → Declared
own_of_method params body = parameter_places start params ++ declared_in_defaults params ++ declared body

abbrev pub method_frame : Method → Value → Value → ℕ → Frame
method_frame m v block k =
    let own = own_of_method m.params m.body in
    record { me = v; locals = all_nil own []; places = own; outer = None; method = Some m; block = block; around = m.around; returns = k; ending = EndsItself; caught = []; is_open = true }

-- a return of the frame is the value of the whole
abbrev pub method_end : ℕ → Result → Result
method_end k (Val v) = Val v
method_end k (Leaves (Return j v)) = if nat_eq j k then Val v else Leaves (Return j v)
method_end k (Leaves (BreakLoop v)) = Leaves (BreakLoop v)
method_end k (Leaves (Break c v)) = Leaves (Break c v)
method_end k (Leaves (Next v)) = Leaves (Next v)
method_end k (Leaves (Raise e)) = Leaves (Raise e)
method_end k (Leaves Again) = Leaves Again

-- the frame is open while t runs
abbrev pub in_method : ℕ → Task → Task
in_method k t = t >>= (λ x. Change (closed k) (Done (method_end k x)))

abbrev pub enter_new : Method → Value → List Value → Value → ℕ → Task
enter_new m v args block k =
    Change (with_new_frame (method_frame m v block k))
    (in_method k (bind (in_frame k) (out-Params m.params) args block (run_node m.body (in_frame k))))

abbrev pub enter : Method → Value → List Value → Value → Task
enter m v args block =
    if takes (out-Params m.params) (length args) then Look (λ r. enter_new m v args block (length r.frames))
    else wrong_number (length args) (expected (out-Params m.params))

abbrev pub read_variable : Value → Name → List Value → Task
read_variable v name [] = Look (λ r. gives (variable r v name))
read_variable v name (a ∷ more) = wrong_number (length (a ∷ more)) (codes "0")

abbrev pub write_variable : Value → Name → List Value → Task
write_variable v name (a ∷ []) = set_variable v name a
write_variable v name vs = wrong_number (length vs) (codes "1")

abbrev pub invoke : Entry → Value → List Value → Value → Task
invoke (Def m) v args block = enter m v args block
invoke (Reader m n name) v args block = read_variable v name args
invoke (Writer m n name) v args block = write_variable v name args
invoke Undefined v args block = gives value.Nil

-- ---- the call of a name

abbrev pub missing_name : Name
missing_name = codes "method_missing"

-- While no text of the core library counts there is no method `puts`, and `puts` of one text writes it as one text. This
-- case goes when the text that counts has the method.
abbrev pub puts_or_none : Bool → Value → Name → List Value → Task
puts_or_none true v name (value.Text t ∷ []) = Host (Wrote (puts_text t)) (gives value.Nil)
puts_or_none _ v name args = no_method name v

abbrev pub missed : Option Entry → Value → Name → List Value → Value → Task
missed None v name args block = puts_or_none (bytes_eq name (codes "puts")) v name args
missed (Some e) v name args block = invoke e v (value.Text name ∷ args) block

-- where nothing is found `method_missing` is called with the name
abbrev pub found : Option Entry → Value → Name → List Value → Value → Task
found (Some e) v name args block = invoke e v args block
found None v name args block = Look (λ r. missed (find r v missing_name) v name args block)

abbrev pub call_method : Value → Name → List Value → Value → Task
call_method v name args block = Look (λ r. found (find r v name) v name args block)

-- ---- procs

abbrev pub with_outer : Option Value → Value → Value
with_outer None v = v
with_outer (Some me) v = me

-- `me` is another self, where one is given
abbrev pub block_frame : Ruby → Closure → Option Value → ℕ → Ending → Frame
block_frame r c me returns ending =
    let f = frame_at r c.frame in
    let own = own_of_block r c.frame c.start c.params c.body in
    record { me = with_outer me f.me; locals = all_nil own []; places = own; outer = Some c.frame; method = f.method; block = f.block; around = f.around; returns = returns; ending = ending; caught = []; is_open = true }

abbrev pub in_block : ℕ → Closure → Place
in_block k c = record { frame = k; in_loop = false; clause = c.clause }

-- `next` ends one call of a block
abbrev pub block_end : Result → Result
block_end (Val v) = Val v
block_end (Leaves (Next v)) = Val v
block_end (Leaves (BreakLoop v)) = Leaves (BreakLoop v)
block_end (Leaves (Break c v)) = Leaves (Break c v)
block_end (Leaves (Return k v)) = Leaves (Return k v)
block_end (Leaves (Raise e)) = Leaves (Raise e)
block_end (Leaves Again) = Leaves Again

abbrev pub in_call : ℕ → Closure → List Value → Value → (Result → Result) → Task
in_call k c args block end =
    bind (in_block k c) (out-Params c.params) args block (run_node c.body (in_block k c))
    >>= (λ x. Change (closed k) (Done (end x)))

abbrev pub run_block : Closure → Option Value → List Value → Value → ℕ → Task
run_block c me args block k =
    Look (λ r. Change (with_new_frame (block_frame r c me (frame_at r c.frame).returns c.ending))
    (in_call k c (spread_one r (is_wide (out-Params c.params)) args) block block_end))

abbrev pub run_lambda : Closure → Option Value → List Value → Value → ℕ → Task
run_lambda c me args block k =
    if takes (out-Params c.params) (length args)
    then Look (λ r. Change (with_new_frame (block_frame r c me k EndsItself)) (in_call k c args block (λ x. method_end k (block_end x))))
    else wrong_number (length args) (expected (out-Params c.params))

abbrev pub run_closure : Ending → Closure → Option Value → List Value → Value → ℕ → Task
run_closure (EndsCall n) c me args block k = run_block c me args block k
run_closure EndsItself c me args block k = run_lambda c me args block k

-- the call of what a proc is; of another value the kind is wrong
abbrev pub call_form : Form → Value → Option Value → List Value → Value → Task
call_form (Block c) f me args block = Look (λ r. run_closure c.ending c me args block (length r.frames))
call_form (Sends name) f me args block = call_method (first_of args) name (others args) block
call_form _ f me args block = wrong_kind f

abbrev pub call_proc : Value → Option Value → List Value → Value → Task
call_proc (value.Ref k) me args block = Look (λ r. call_form (thing_at r k).form (value.Ref k) me args block)
call_proc f me args block = wrong_kind f

abbrev pub yield_to : Value → List Value → Task
yield_to value.Nil args = jump_error (codes "no block given (yield)")
yield_to block args = call_proc block None args value.Nil

-- ---- calls with a literal block: `break` ends them while they are open

abbrev pub ended_call : Ending → Option ℕ
ended_call (EndsCall n) = Some n
ended_call EndsItself = None

-- the call that the break of a literal block ends
abbrev pub call_of : Form → Option ℕ
call_of (Block c) = ended_call c.ending
call_of _ = None

abbrev pub break_here : ℕ → Result → Result
break_here n (Val v) = Val v
break_here n (Leaves (Break c v)) = if nat_eq c n then Val v else Leaves (Break c v)
break_here n (Leaves (BreakLoop v)) = Leaves (BreakLoop v)
break_here n (Leaves (Next v)) = Leaves (Next v)
break_here n (Leaves (Return k v)) = Leaves (Return k v)
break_here n (Leaves (Raise e)) = Leaves (Raise e)
break_here n (Leaves Again) = Leaves Again

abbrev pub with_literal : Option ℕ → Task → Task
with_literal None t = t
with_literal (Some n) t = t >>= (λ x. Change (call_closed n) (Done (break_here n x)))

-- ---- `super`

abbrev pub super_from : Option Method → Value → List Value → Value → Task
super_from None v args block = gives value.Nil
super_from (Some m) v args block = Look (λ r. found (find_behind r v m.owner 0 m.name) v m.name args block)
