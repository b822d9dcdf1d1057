-- Calls, by the kind of what is called.
use Rattle.std.proofs.Common.{◌≡◌, ◌↔◌, ℕ, zero, suc, List, [], map, slice_get, Option, None, Some, Result, Ok, refl, sym, ap, subst, ◌∙◌}
use Rattle.std.specs.Bool.{⊤}
use Rattle.opal_base.specs.declared.place.Pos.{Pos}
use Rattle.opal_base.specs.Shown.{HostCall}
use Rattle.es5_tree.specs.Values.{Val, Undefined, Null, Truth, Num, Str, Obj}
use Rattle.es5_tree.specs.Ends.{Host}
use Rattle.es5_tree.specs.Objects.Cells.{Kind}
use Rattle.es5_tree.specs.Objects.Cells as kind
use Rattle.es5_tree.specs.Objects.Links.{cell_at}
use Rattle.es5_tree.specs.Intrinsics.Calls.{HostFn}
use Rattle.es5_tree.specs.Intrinsics.Rows.{row}
use Rattle.es5_objects.specs.declared.value.EsValue.{EsValue}
use Rattle.es5_objects.specs.Values.{value_of}
use Rattle.es5_evaluation.specs.State.{code_at}
use Rattle.es5_evaluation.specs.Task.{Scope, Task, Leaves, walk, ◌>>=◌}
use Rattle.es5_evaluation.specs.Evaluate.{Call, enter, host_functions, host_task, invoke, invoke_by, invoke_kind, not_a_function, passed, row_task}
use Rattle.es5_host.specs.declared.answer.HostFn.{HostFn as Which}
use Rattle.es5_host.specs.declared.answer.HostFn.TheVariants.{Create, GetPrototypeOf, SetPrototypeOf, Keys, HasOwnProperty, Call as CallFn, Apply, IsArray, Push, Slice, CharCodeAt, Substring, IndexOf, FromCharCode, Write, Line}
use Rattle.es5_host.specs.Values.{fn_of, number_of}
use Rattle.es5_host.specs.declared.answer.OutKind.TheVariants as out
use Rattle.es5_code.specs.declared.node.Node.{Node}
use Rattle.es5_code.specs.Trees.{code_in}
use Rattle.es5_store.specs.declared.effect.Effect.{Effect}
use Rattle.es5_store.specs.declared.effect.Effect.TheVariants as effect
use Rattle.es5_store.specs.declared.effect.Halt.{Halt}
use Rattle.es5_store.specs.declared.store.Store.{Store}
use Rattle.es5_store.specs.Store.{state_in}
use Rattle.es5_store.specs.Steps.{Acted, Quiet, Steps}
use Rattle.es5_making.specs.declared.invocations.Invoked.{Invoked}
use Rattle.es5_making.specs.declared.invocations.Invoked.TheVariants as invoked
use Rattle.es5_making.specs.Invocations.{ActedBy}
use Rattle.es5_making.proofs.HostSteps.{acted_after, by_after, quiet_acted, told_nothing}

-- ---- the intrinsic functions by their numbers

at_number : (which : Which) → slice_get host_functions (number_of which) ≡ Some (fn_of which)
at_number Create = refl
at_number GetPrototypeOf = refl
at_number SetPrototypeOf = refl
at_number Keys = refl
at_number HasOwnProperty = refl
at_number CallFn = refl
at_number Apply = refl
at_number IsArray = refl
at_number Push = refl
at_number Slice = refl
at_number CharCodeAt = refl
at_number Substring = refl
at_number IndexOf = refl
at_number FromCharCode = refl
at_number Write = refl
at_number Line = refl

abbrev IsNumber : Option Which → ℕ → Type 0
IsNumber o n = (which : Which) → (o ≡ Some which) ↔ (n ≡ number_of which)

function_there : (o : Option Which) (n : ℕ) (which : Which) → IsNumber o n → o ≡ Some which → slice_get host_functions n ≡ Some (fn_of which)
function_there o n which h e = ap (slice_get host_functions) ((h which).0 e) ∙ at_number which

other : (o : Option Which) (n : ℕ) (which : Which) → IsNumber o n → o ≡ None → n ≡ number_of which → ⊥
other o n which h e is = (let some : o ≡ Some which = (h which).1 is in cc)

no_function_there : (o : Option Which) (n : ℕ) → IsNumber o n → o ≡ None → slice_get host_functions n ≡ None
no_function_there o zero h e = absurd (other o _ Create h e refl)
no_function_there o (suc zero) h e = absurd (other o _ GetPrototypeOf h e refl)
no_function_there o (suc (suc zero)) h e = absurd (other o _ SetPrototypeOf h e refl)
no_function_there o (suc (suc (suc zero))) h e = absurd (other o _ Keys h e refl)
no_function_there o (suc (suc (suc (suc zero)))) h e = absurd (other o _ HasOwnProperty h e refl)
no_function_there o (suc (suc (suc (suc (suc zero))))) h e = absurd (other o _ CallFn h e refl)
no_function_there o (suc (suc (suc (suc (suc (suc zero)))))) h e = absurd (other o _ Apply h e refl)
no_function_there o (suc (suc (suc (suc (suc (suc (suc zero))))))) h e = absurd (other o _ IsArray h e refl)
no_function_there o (suc (suc (suc (suc (suc (suc (suc (suc zero)))))))) h e = absurd (other o _ Push h e refl)
no_function_there o (suc (suc (suc (suc (suc (suc (suc (suc (suc zero))))))))) h e = absurd (other o _ Slice h e refl)
no_function_there o (suc (suc (suc (suc (suc (suc (suc (suc (suc (suc zero)))))))))) h e = absurd (other o _ CharCodeAt h e refl)
no_function_there o (suc (suc (suc (suc (suc (suc (suc (suc (suc (suc (suc zero))))))))))) h e = absurd (other o _ Substring h e refl)
no_function_there o (suc (suc (suc (suc (suc (suc (suc (suc (suc (suc (suc (suc zero)))))))))))) h e = absurd (other o _ IndexOf h e refl)
no_function_there o (suc (suc (suc (suc (suc (suc (suc (suc (suc (suc (suc (suc (suc zero))))))))))))) h e = absurd (other o _ FromCharCode h e refl)
no_function_there o (suc (suc (suc (suc (suc (suc (suc (suc (suc (suc (suc (suc (suc (suc zero)))))))))))))) h e = absurd (other o _ Write h e refl)
no_function_there o (suc (suc (suc (suc (suc (suc (suc (suc (suc (suc (suc (suc (suc (suc (suc zero))))))))))))))) h e = absurd (other o _ Line h e refl)
no_function_there o (suc (suc (suc (suc (suc (suc (suc (suc (suc (suc (suc (suc (suc (suc (suc (suc n)))))))))))))))) h e = refl

-- ---- a call, by the kind of the object

abbrev kind_at : Store → ℕ → Kind
kind_at s f = (cell_at s.heap.cells f).kind

-- a kind that is called so
abbrev IsCalled : Kind → Call → Pos → List Node → Store → ℕ → Val → List Val → Task → Type 0
IsCalled k call p T s f this vs u = (calls : List HostCall) → invoke_kind call p k (state_in T s calls) f this vs ≡ u

called : (k : Kind) (call : Call) (p : Pos) (T : List Node) (s : Store) (f : ℕ) (this : Val) (vs : List Val) (u : Task) → kind_at s f ≡ k → IsCalled k call p T s f this vs u → Steps T (invoke_by call p f this vs) s u s []
unfolding walk ◌>>=◌
called k call p T s f this vs u e h = λ A g q calls. ap (λ t. walk A g (t >>= q) (state_in T s calls)) (ap (λ x. invoke_kind call p x (state_in T s calls) f this vs) e ∙ h calls)

-- a kind that is no function's
abbrev pub IsRefused : Kind → Type 0
IsRefused kind.Object = ⊤
IsRefused kind.Array = ⊤
IsRefused kind.Arguments = ⊤
IsRefused (kind.Function code outer) = ⊥
IsRefused (kind.Host which) = ⊥
IsRefused (kind.Record outer) = ⊤

refuses : (k : Kind) (call : Call) (p : Pos) (T : List Node) (s : Store) (f : ℕ) (this : Val) (vs : List Val) → IsRefused k → IsCalled k call p T s f this vs not_a_function
refuses kind.Object call p T s f this vs h = λ calls. refl
refuses kind.Array call p T s f this vs h = λ calls. refl
refuses kind.Arguments call p T s f this vs h = λ calls. refl
refuses (kind.Function code outer) call p T s f this vs h = absurd h
refuses (kind.Host which) call p T s f this vs h = absurd h
refuses (kind.Record outer) call p T s f this vs h = λ calls. refl

pub refused_by : (k : Kind) (r : Result Invoked Halt) (call : Call) (p : Pos) (T : List Node) (ρ : Scope) (s new : Store) (f : ℕ) (this : Val) (vs : List Val) (told now : Option (List ℕ)) → kind_at s f ≡ k → IsRefused k → ActedBy r call T ρ not_a_function s new told now → ActedBy r call T ρ (invoke_by call p f this vs) s new told now
refused_by k r call p T ρ s new f this vs told now e h q = by_after r call T ρ (invoke_by call p f this vs) not_a_function s new told now (called k call p T s f this vs not_a_function e (refuses k call p T s f this vs h)) q

-- ---- a function of the script

abbrev pub enter_task : List Node → Store → ℕ → ℕ → ℕ → Val → List Val → Task
enter_task T s f code outer this vs = enter (code_at (map (code_in T) s.codes.items) code) f outer this vs

-- some scope
abbrev pub nowhere : Scope
nowhere = record { this = Undefined; innermost = 0 }

pub entered_by : (x : Result Effect Halt) (call : Call) (p : Pos) (T : List Node) (ρ : Scope) (s new : Store) (f code outer : ℕ) (this : Val) (vs : List Val) (told : Option (List ℕ)) → kind_at s f ≡ kind.Function code outer
    → Quiet x T ρ (enter (code_at (map (code_in T) s.codes.items) code) f outer this vs) s new → Acted x T ρ (invoke_by call p f this vs) s new told told
entered_by x call p T ρ s new f code outer this vs told e q =
    let u = enter (code_at (map (code_in T) s.codes.items) code) f outer this vs in
    acted_after x T ρ (invoke_by call p f this vs) u s s new told told refl (called (kind.Function code outer) call p T s f this vs u e (λ calls. refl)) (quiet_acted x T ρ u s new told q)

-- ---- an intrinsic function

host_called : (o : Option HostFn) (n : ℕ) (call : Call) (p : Pos) (T : List Node) (s : Store) (f : ℕ) (this : Val) (vs : List Val) (u : Task) → slice_get host_functions n ≡ o → ((calls : List HostCall) → host_task call p o (state_in T s calls) this vs ≡ u) → IsCalled (kind.Host n) call p T s f this vs u
host_called o n call p T s f this vs u e h = λ calls. ap (λ x. host_task call p x (state_in T s calls) this vs) e ∙ h calls

pub host_by : (r : Result Invoked Halt) (o : Option Which) (n : ℕ) (which : Which) (call : Call) (p : Pos) (T : List Node) (ρ : Scope) (s new : Store) (f : ℕ) (this : Val) (vs : List Val) (told now : Option (List ℕ)) → kind_at s f ≡ kind.Host n → IsNumber o n → o ≡ Some which
    → ActedBy r call T ρ (row_task call p (row (fn_of which) s.heap.cells s.lines this vs)) s new told now → ActedBy r call T ρ (invoke_by call p f this vs) s new told now
host_by r o n which call p T ρ s new f this vs told now e h is q =
    let u = row_task call p (row (fn_of which) s.heap.cells s.lines this vs) in
    by_after r call T ρ (invoke_by call p f this vs) u s new told now (called (kind.Host n) call p T s f this vs u e (host_called (Some (fn_of which)) n call p T s f this vs u (function_there o n which h is) (λ calls. refl))) q

pub no_host_by : (r : Result Invoked Halt) (o : Option Which) (n : ℕ) (call : Call) (p : Pos) (T : List Node) (ρ : Scope) (s new : Store) (f : ℕ) (this : Val) (vs : List Val) (told now : Option (List ℕ)) → kind_at s f ≡ kind.Host n → IsNumber o n → o ≡ None
    → ActedBy r call T ρ not_a_function s new told now → ActedBy r call T ρ (invoke_by call p f this vs) s new told now
no_host_by r o n call p T ρ s new f this vs told now e h is q =
    by_after r call T ρ (invoke_by call p f this vs) not_a_function s new told now (called (kind.Host n) call p T s f this vs not_a_function e (host_called None n call p T s f this vs not_a_function (no_function_there o n h is) (λ calls. refl))) q

-- ---- calls that come to another one

-- what is done with a function that a further call comes to
abbrev pub no_further : Pos → Call
no_further p = λ g that ws. Leaves Host p

pub passed_is : (r : Result Effect Halt) (p : Pos) (T : List Node) (ρ : Scope) (s new : Store) (f : ℕ) (this : Val) (vs : List Val) (told now : Option (List ℕ)) → Acted r T ρ (invoke_by (no_further p) p f this vs) s new told now → Acted r T ρ (passed p f this vs) s new told now
unfolding passed
passed_is r p T ρ s new f this vs told now q = q

pub invoke_is : (r : Result Effect Halt) (p : Pos) (T : List Node) (ρ : Scope) (s new : Store) (f : ℕ) (this : Val) (vs : List Val) (told now : Option (List ℕ)) → Acted r T ρ (invoke_by (passed p) p f this vs) s new told now → Acted r T ρ (invoke p (Obj f) this vs) s new told now
unfolding invoke
invoke_is r p T ρ s new f this vs told now q = q

-- a call that is done, and one that comes to another one
done_of : (i : Invoked) (e : Effect) (call : Call) (T : List Node) (ρ : Scope) (t : Task) (s new : Store) (told now : Option (List ℕ)) → i ≡ invoked.Done e → ActedBy (Ok i) call T ρ t s new told now → Acted (Ok e) T ρ t s new told now
done_of i e call T ρ t s new told now is q = subst (λ x. ActedBy (Ok x) call T ρ t s new told now) is q

abbrev Further : Call → List Node → Task → Store → Store → ℕ → EsValue → List Val → Option (List ℕ) → Option (List ℕ) → Type 0
Further call T t s new f this vs told now = (now ≡ told) × (new.limit ≡ s.limit) × Steps T t s (call f (value_of this) vs) new []

further_of : (i : Invoked) (f : ℕ) (this : EsValue) (vs : List Val) (call : Call) (T : List Node) (ρ : Scope) (t : Task) (s new : Store) (told now : Option (List ℕ)) → i ≡ invoked.Passed f this vs → ActedBy (Ok i) call T ρ t s new told now → Further call T t s new f this vs told now
further_of i f this vs call T ρ t s new told now is q = subst (λ x. ActedBy (Ok x) call T ρ t s new told now) is q

-- the profile is left at a further call
pub left_further : (i : Invoked) (g : ℕ) (that : EsValue) (ws : List Val) (p : Pos) (T : List Node) (ρ : Scope) (s new : Store) (f : ℕ) (this : Val) (vs : List Val) (told now : Option (List ℕ)) → i ≡ invoked.Passed g that ws
    → ActedBy (Ok i) (no_further p) T ρ (invoke_by (no_further p) p f this vs) s new told now → Acted (Ok (effect.Left out.Host p)) T ρ (passed p f this vs) s new told now
left_further i g that ws p T ρ s new f this vs told now is q =
    let t = invoke_by (no_further p) p f this vs in
    let h = further_of i g that ws (no_further p) T ρ t s new told now is q in
    passed_is (Ok (effect.Left out.Host p)) p T ρ s new f this vs told now ([], h.0 ∙ told_nothing told, h.2)

pub done_passed : (i : Invoked) (e : Effect) (p : Pos) (T : List Node) (ρ : Scope) (s new : Store) (f : ℕ) (this : Val) (vs : List Val) (told now : Option (List ℕ)) → i ≡ invoked.Done e
    → ActedBy (Ok i) (no_further p) T ρ (invoke_by (no_further p) p f this vs) s new told now → Acted (Ok e) T ρ (passed p f this vs) s new told now
done_passed i e p T ρ s new f this vs told now is q = passed_is (Ok e) p T ρ s new f this vs told now (done_of i e (no_further p) T ρ (invoke_by (no_further p) p f this vs) s new told now is q)

pub done_invoked : (i : Invoked) (e : Effect) (p : Pos) (T : List Node) (ρ : Scope) (s new : Store) (f : ℕ) (this : Val) (vs : List Val) (told now : Option (List ℕ)) → i ≡ invoked.Done e
    → ActedBy (Ok i) (passed p) T ρ (invoke_by (passed p) p f this vs) s new told now → Acted (Ok e) T ρ (invoke p (Obj f) this vs) s new told now
done_invoked i e p T ρ s new f this vs told now is q = invoke_is (Ok e) p T ρ s new f this vs told now (done_of i e (passed p) T ρ (invoke_by (passed p) p f this vs) s new told now is q)

-- one call after another
pub invoked_further : (r : Result Effect Halt) (i : Invoked) (g : ℕ) (that : EsValue) (ws : List Val) (p : Pos) (T : List Node) (ρ : Scope) (s mid new : Store) (f : ℕ) (this : Val) (vs : List Val) (told between now : Option (List ℕ)) → i ≡ invoked.Passed g that ws
    → ActedBy (Ok i) (passed p) T ρ (invoke_by (passed p) p f this vs) s mid told between → Acted r T ρ (passed p g (value_of that) ws) mid new between now → Acted r T ρ (invoke p (Obj f) this vs) s new told now
invoked_further r i g that ws p T ρ s mid new f this vs told between now is q m =
    let t = invoke_by (passed p) p f this vs in
    let h = further_of i g that ws (passed p) T ρ t s mid told between is q in
    invoke_is r p T ρ s new f this vs told now
    (subst (λ x. Acted r T ρ t s new x now) h.0 (acted_after r T ρ t (passed p g (value_of that) ws) s mid new between now h.1 h.2 m))

-- a value that is no object
abbrev pub IsNoObject : Val → Type 0
IsNoObject Undefined = ⊤
IsNoObject Null = ⊤
IsNoObject (Truth b) = ⊤
IsNoObject (Num n) = ⊤
IsNoObject (Str text) = ⊤
IsNoObject (Obj o) = ⊥

invoke_none : (v : Val) (p : Pos) (this : Val) (vs : List Val) → IsNoObject v → invoke p v this vs ≡ not_a_function
unfolding invoke
invoke_none Undefined p this vs h = refl
invoke_none Null p this vs h = refl
invoke_none (Truth b) p this vs h = refl
invoke_none (Num n) p this vs h = refl
invoke_none (Str text) p this vs h = refl
invoke_none (Obj o) p this vs h = absurd h

pub invoked_none : (r : Result Effect Halt) (v : Val) (p : Pos) (T : List Node) (ρ : Scope) (s new : Store) (this : Val) (vs : List Val) (told now : Option (List ℕ)) → IsNoObject v → Acted r T ρ not_a_function s new told now → Acted r T ρ (invoke p v this vs) s new told now
invoked_none r v p T ρ s new this vs told now h q = subst (λ t. Acted r T ρ t s new told now) (sym (invoke_none v p this vs h)) q
