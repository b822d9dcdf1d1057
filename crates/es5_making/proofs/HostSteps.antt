-- What calls of intrinsic functions do, step by step.
use Rattle.std.proofs.Common.{◌≡◌, ℕ, ◌+◌, ◌<◌, ◌≤◌, List, [], ◌∷◌, ◌++◌, length, map, take, drop, Option, None, Some, Result, Ok, Err, IfErr, refl, sym, ap, ap₂, subst, ◌∙◌, arith, append-nil, append_assoc}
use Rattle.std.proofs.lemmas.List.{length-append, length-set, take-append-drop}
use Rattle.opal_base.specs.declared.place.Pos.{Pos}
use Rattle.opal_base.specs.Outside.{TookFront, appended}
use Rattle.opal_base.specs.Shown.{HostCall, Wrote, Asked, output_of}
use Rattle.opal_base.specs.Text.{utf8_of}
use Rattle.es5_tree.specs.Values.{Text, Val, Undefined, Obj}
use Rattle.es5_tree.specs.Intrinsics.Rows.{Row, Gives, Sets, Makes, Throws, Invokes, Leaves, Writes, Reads}
use Rattle.es5_evaluation.specs.State.{State}
use Rattle.es5_evaluation.specs.Task.{Completion, Normal, Scope, Task, Answers, walk, ◌>>=◌, with_object, with_new as with_new_object, printed, has_read}
use Rattle.es5_evaluation.specs.Evaluate.{Call, gives, row_task, type_error}
use Rattle.es5_evaluation.specs.Run.{at_first}
use Rattle.es5_objects.specs.declared.value.EsValue.{EsValue}
use Rattle.es5_objects.specs.Values.{value_of}
use Rattle.es5_objects.specs.Heap.{Heap}
use Rattle.es5_host.specs.declared.answer.HostAnswer.{HostAnswer}
use Rattle.es5_host.specs.declared.answer.HostAnswer.TheVariants as answer
use Rattle.es5_host.specs.declared.answer.OutKind.{OutKind as Kind}
use Rattle.es5_host.specs.Answers.{Gave, HasRead, MakesObject, Took, WritesText}
use Rattle.es5_host.specs.Values.{out_of}
use Rattle.es5_code.specs.declared.node.Node.{Node}
use Rattle.es5_code.specs.Trees.{code_in}
use Rattle.es5_pending.specs.declared.frame.Completion.TheVariants as completion
use Rattle.es5_store.specs.declared.effect.Effect.{Effect}
use Rattle.es5_store.specs.declared.effect.Effect.TheVariants as effect
use Rattle.es5_store.specs.declared.effect.Halt.{Halt}
use Rattle.es5_store.specs.declared.effect.Halt.TheVariants as halt
use Rattle.es5_store.specs.declared.store.Store.{Store}
use Rattle.es5_store.specs.Store.{state_in, records_of, IsFull, Sound}
use Rattle.es5_store.specs.Steps.{Acted, Fills, HaltCaused, Quiet, Steps, Stopped, WritesFront}
use Rattle.es5_making.specs.declared.invocations.Invoked.{Invoked}
use Rattle.es5_making.specs.declared.invocations.Invoked.TheVariants as invoked
use Rattle.es5_making.specs.Invocations.{ActedBy}
use Rattle.es5_making.proofs.Growth.{state_is}
use Rattle.es5_making.proofs.NewObjects.{object_full}

-- ---- acts that call no host

pub told_nothing : (told : Option (List ℕ)) → told ≡ appended told []
told_nothing None = refl
told_nothing (Some bytes) = ap Some (sym (append-nil bytes))

-- nothing was written
front_here : (T : List Node) (t : Task) (s : Store) → WritesFront T t s []
front_here T t s = λ A g k calls. record { task = t >>= k; state = state_in T s calls; rest = []; front = sym (append-nil (output_of calls ++ []) ∙ append-nil (output_of calls)); comes = refl }

pub stopped_here : (T : List Node) (t : Task) (s : Store) (told now : Option (List ℕ)) → now ≡ told → Stopped T t s told now
stopped_here T t s told now e = ([], e ∙ told_nothing told, front_here T t s)

pub quiet_acted : (r : Result Effect Halt) (T : List Node) (ρ : Scope) (t : Task) (s new : Store) (told : Option (List ℕ)) → Quiet r T ρ t s new → Acted r T ρ t s new told told
quiet_acted (Ok e) T ρ t s new told q = ([], told_nothing told, q)
quiet_acted (Err halt.CellsFull) T ρ t s new told q = (refl, q)
quiet_acted (Err halt.WriteFault) T ρ t s new told q = absurd q
quiet_acted (Err halt.NoMemory) T ρ t s new told q = stopped_here T t s told told refl

pub quiet_caused : (h : Halt) (T : List Node) (ρ : Scope) (t : Task) (s new : Store) (n m : ℕ) → Quiet (Err h) T ρ t s new → HaltCaused h n m
quiet_caused halt.CellsFull T ρ t s new n m q = tt
quiet_caused halt.WriteFault T ρ t s new n m q = absurd q
quiet_caused halt.NoMemory T ρ t s new n m q = tt

-- ---- one thing after another

full_after : (T : List Node) (t u : Task) (s mid : Store) → mid.limit ≡ s.limit → Steps T t s u mid [] → Fills T u mid → Fills T t s
full_after T t u s mid l h q = λ A g k calls. (let m = q A g k calls in record { task = m.task; state = m.state; makes = m.makes; full = subst (λ n. n + at_first ≤ length m.state.heap + length m.state.records) l m.full; quiet = m.quiet; comes = h A g k calls ∙ m.comes })

stopped_after : (T : List Node) (t u : Task) (s mid : Store) (told now : Option (List ℕ)) → Steps T t s u mid [] → Stopped T u mid told now → Stopped T t s told now
stopped_after T t u s mid told now h q = (q.0, q.1, λ A g k calls. (let m = q.2 A g k calls in record { task = m.task; state = m.state; rest = m.rest; front = m.front; comes = h A g k calls ∙ m.comes }))

pub acted_after : (r : Result Effect Halt) (T : List Node) (ρ : Scope) (t u : Task) (s mid new : Store) (told now : Option (List ℕ)) → mid.limit ≡ s.limit → Steps T t s u mid [] → Acted r T ρ u mid new told now → Acted r T ρ t s new told now
acted_after (Ok e) T ρ t u s mid new told now l h q = (q.0, q.1, λ A g k calls. h A g k calls ∙ q.2 A g k calls)
acted_after (Err halt.CellsFull) T ρ t u s mid new told now l h q = (q.0, full_after T t u s mid l h q.1)
acted_after (Err halt.WriteFault) T ρ t u s mid new told now l h q = stopped_after T t u s mid told now h q
acted_after (Err halt.NoMemory) T ρ t u s mid new told now l h q = stopped_after T t u s mid told now h q

pub by_after : (r : Result Invoked Halt) (call : Call) (T : List Node) (ρ : Scope) (t u : Task) (s new : Store) (told now : Option (List ℕ)) → Steps T t s u s [] → ActedBy r call T ρ u s new told now → ActedBy r call T ρ t s new told now
by_after (Ok (invoked.Done e)) call T ρ t u s new told now h q = acted_after (Ok e) T ρ t u s s new told now refl h q
by_after (Ok (invoked.Passed f this vs)) call T ρ t u s new told now h q = (q.0, q.1, λ A g k calls. h A g k calls ∙ q.2 A g k calls)
by_after (Err x) call T ρ t u s new told now h q = acted_after (Err x) T ρ t u s s new told now refl h q

-- ---- the value of a row

-- a task that ends with this value over this state
ends_in : (T : List Node) (new : Store) (v : EsValue) (w : Val) (o : State) (calls : List HostCall) (A : Answers) (g : ℕ) (k : Completion → Task) → value_of v ≡ w → state_in T new calls ≡ o → walk A g (k (Normal w)) o ≡ walk A g (k (Normal (value_of v))) (state_in T new calls)
ends_in T new v w o calls A g k e f = ap₂ (λ x y. walk A g (k (Normal x)) y) (sym e) (sym f)

pub value_acted : (r : Row) (call : Call) (p : Pos) (T : List Node) (ρ : Scope) (s new : Store) (v : EsValue) (told now : Option (List ℕ)) → new.codes.items ≡ s.codes.items → new.records.items ≡ s.records.items → Gave r (value_of v) s.heap new.heap → Took r (answer.Value v) told now → HasRead r (answer.Value v) s.lines new.lines
    → Acted (Ok (effect.Ended (completion.Normal v))) T ρ (row_task call p r) s new told now
unfolding row_task ◌>>=◌ walk
value_acted (Gives w) call p T ρ s new v told now codes records gave took read =
    ([], took ∙ told_nothing told, λ A g k calls. ends_in T new v w (state_in T s calls) calls A g k gave.0 (state_is T new calls _ _ _ _ (ap (λ h. h.cells) gave.1) (ap (map (code_in T)) codes) (ap records_of records) read))
value_acted (Sets w o c) call p T ρ s new v told now codes records gave took read =
    ([], took ∙ told_nothing told, λ A g k calls. ends_in T new v w (with_object (state_in T s calls) o c) calls A g k gave.0 (state_is T new calls _ _ _ _ (ap (λ h. h.cells) gave.1) (ap (map (code_in T)) codes) (ap records_of records) read))
value_acted (Makes c) call p T ρ s new v told now codes records gave took read =
    ([], took ∙ told_nothing told, λ A g k calls. ends_in T new v (Obj (length s.heap.cells)) (with_new_object (state_in T s calls) c) calls A g k gave.0 (state_is T new calls _ _ _ _ (ap (λ h. h.cells) gave.2) (ap (map (code_in T)) codes) (ap records_of records) read))
value_acted (Throws message) call p T ρ s new v told now codes records gave took read = absurd gave
value_acted (Invokes f this vs) call p T ρ s new v told now codes records gave took read = absurd gave
value_acted (Leaves kind) call p T ρ s new v told now codes records gave took read = absurd gave
value_acted (Writes text) call p T ρ s new v told now codes records gave took read =
    (Wrote text ∷ [], took, λ A g k calls. ends_in T new v Undefined (printed (state_in T s calls) text) (Wrote text ∷ calls) A g k gave.0 (state_is T new (Wrote text ∷ calls) _ _ _ _ (ap (λ h. h.cells) gave.1) (ap (map (code_in T)) codes) (ap records_of records) read))
value_acted (Reads w n) call p T ρ s new v told now codes records gave took read =
    (Asked ∷ [], took ∙ told_nothing told, λ A g k calls. ends_in T new v w (has_read (state_in T s calls) n) (Asked ∷ calls) A g k gave.0 (state_is T new (Asked ∷ calls) _ _ _ _ (ap (λ h. h.cells) gave.1) (ap (map (code_in T)) codes) (ap records_of records) read))

-- a value comes with at most one object more, and with none where no object is made
pub grows : (r : Row) (w : Val) (old new : Heap) → Gave r w old new → (new.capacity ≡ old.capacity) × (length old.cells ≤ length new.cells) × (length new.cells ≤ length old.cells + 1)
grows (Gives v) w old new gave = (let n = ap (λ h. length h.cells) gave.1 in (ap (λ h. h.capacity) gave.1, omega (arith, n), omega (arith, n)))
grows (Sets v o c) w old new gave = (let n = ap (λ h. length h.cells) gave.1 ∙ length-set old.cells o c in (ap (λ h. h.capacity) gave.1, omega (arith, n), omega (arith, n)))
grows (Makes c) w old new gave = (let n = ap (λ h. length h.cells) gave.2 ∙ length-append old.cells (c ∷ []) in (ap (λ h. h.capacity) gave.2, omega (arith, n), omega (arith, n)))
grows (Throws message) w old new gave = absurd gave
grows (Invokes f this vs) w old new gave = absurd gave
grows (Leaves kind) w old new gave = absurd gave
grows (Writes text) w old new gave = (let n = ap (λ h. length h.cells) gave.1 in (ap (λ h. h.capacity) gave.1, omega (arith, n), omega (arith, n)))
grows (Reads v k) w old new gave = (let n = ap (λ h. length h.cells) gave.1 in (ap (λ h. h.capacity) gave.1, omega (arith, n), omega (arith, n)))

pub over_full : (r : Row) (call : Call) (p : Pos) (T : List Node) (s : Store) (new : Heap) (w : Val) (a : HostAnswer) (told now : Option (List ℕ)) → Gave r w s.heap new → Took r a told now → length s.heap.cells < length new.cells → IsFull s → (now ≡ told) × Fills T (row_task call p r) s
unfolding row_task
over_full (Gives v) call p T s new w a told now gave took more full = absurd (let n = ap (λ h. length h.cells) gave.1 in omega (arith, n, more))
over_full (Sets v o c) call p T s new w a told now gave took more full = absurd (let n = ap (λ h. length h.cells) gave.1 ∙ length-set s.heap.cells o c in omega (arith, n, more))
over_full (Makes c) call p T s new w a told now gave took more full = (took, object_full T s c (λ o. gives (Obj o)) full)
over_full (Throws message) call p T s new w a told now gave took more full = absurd gave
over_full (Invokes f this vs) call p T s new w a told now gave took more full = absurd gave
over_full (Leaves kind) call p T s new w a told now gave took more full = absurd gave
over_full (Writes text) call p T s new w a told now gave took more full = absurd (let n = ap (λ h. length h.cells) gave.1 in omega (arith, n, more))
over_full (Reads v k) call p T s new w a told now gave took more full = absurd (let n = ap (λ h. length h.cells) gave.1 in omega (arith, n, more))

-- ---- the other answers

-- a front of a text was taken
front_of : (T : List Node) (call : Call) (p : Pos) (s : Store) (text : Text) (count : ℕ) → WritesFront T (row_task call p (Writes text)) s (take count (utf8_of text))
unfolding row_task ◌>>=◌ walk
front_of T call p s text count = λ A g k calls. record {
  task = gives Undefined >>= k;
  state = printed (state_in T s calls) text;
  rest = drop count (utf8_of text);
  front = sym (append_assoc (output_of calls) (take count (utf8_of text)) (drop count (utf8_of text)) ∙ ap (λ bytes. output_of calls ++ bytes) (take-append-drop count (utf8_of text)));
  comes = refl;
}

stopped_in : (T : List Node) (call : Call) (p : Pos) (s : Store) (text : Text) (told now : Option (List ℕ)) → TookFront told now (utf8_of text) → Stopped T (row_task call p (Writes text)) s told now
stopped_in T call p s text told now front = (take front.0 (utf8_of text), front.2, front_of T call p s text front.0)

pub fault_stopped : (r : Row) (call : Call) (p : Pos) (T : List Node) (s : Store) (told now : Option (List ℕ)) → WritesText r → Took r answer.WriteFault told now → Stopped T (row_task call p r) s told now
fault_stopped (Gives v) call p T s told now is took = cc (is.1)
fault_stopped (Sets v o c) call p T s told now is took = cc (is.1)
fault_stopped (Makes c) call p T s told now is took = cc (is.1)
fault_stopped (Throws message) call p T s told now is took = cc (is.1)
fault_stopped (Invokes f this vs) call p T s told now is took = cc (is.1)
fault_stopped (Leaves kind) call p T s told now is took = cc (is.1)
fault_stopped (Writes text) call p T s told now is took = stopped_in T call p s text told now took
fault_stopped (Reads v n) call p T s told now is took = cc (is.1)

pub memory_stopped : (r : Row) (call : Call) (p : Pos) (T : List Node) (s : Store) (told now : Option (List ℕ)) → Took r answer.NoMemory told now → Stopped T (row_task call p r) s told now
memory_stopped (Gives v) call p T s told now took = stopped_here T (row_task call p (Gives v)) s told now took
memory_stopped (Sets v o c) call p T s told now took = stopped_here T (row_task call p (Sets v o c)) s told now took
memory_stopped (Makes c) call p T s told now took = stopped_here T (row_task call p (Makes c)) s told now took
memory_stopped (Throws message) call p T s told now took = stopped_here T (row_task call p (Throws message)) s told now took
memory_stopped (Invokes f this vs) call p T s told now took = stopped_here T (row_task call p (Invokes f this vs)) s told now took
memory_stopped (Leaves kind) call p T s told now took = stopped_here T (row_task call p (Leaves kind)) s told now took
memory_stopped (Writes text) call p T s told now took = stopped_in T call p s text told now took
memory_stopped (Reads v n) call p T s told now took = stopped_here T (row_task call p (Reads v n)) s told now took

-- no cell was left in the heap
pub makes_full : (r : Row) (call : Call) (p : Pos) (T : List Node) (s : Store) (a : HostAnswer) (told now : Option (List ℕ)) → MakesObject r → s.heap.capacity ≤ length s.heap.cells → Sound s → Took r a told now → (now ≡ told) × Fills T (row_task call p r) s
unfolding row_task
makes_full (Gives v) call p T s a told now is le d took = cc (is.1)
makes_full (Sets v o c) call p T s a told now is le d took = cc (is.1)
makes_full (Makes c) call p T s a told now is le d took = (took, object_full T s c (λ o. gives (Obj o)) (let room = d.room in let records = d.records in omega (arith, room, records, le)))
makes_full (Throws message) call p T s a told now is le d took = cc (is.1)
makes_full (Invokes f this vs) call p T s a told now is le d took = cc (is.1)
makes_full (Leaves kind) call p T s a told now is le d took = cc (is.1)
makes_full (Writes text) call p T s a told now is le d took = cc (is.1)
makes_full (Reads v n) call p T s a told now is le d took = cc (is.1)

-- ---- answers that leave the state as it was

same_state : (T : List Node) (s mid : Store) (calls : List HostCall) → mid.heap ≡ s.heap → mid.codes.items ≡ s.codes.items → mid.records.items ≡ s.records.items → mid.lines ≡ s.lines → state_in T s calls ≡ state_in T mid calls
same_state T s mid calls heap codes records lines = sym (state_is T mid calls _ _ _ _ (ap (λ h. h.cells) heap) (ap (map (code_in T)) codes) (ap records_of records) lines)

row_steps : (r q : Row) (call : Call) (p : Pos) (T : List Node) (s mid : Store) → r ≡ q → mid.heap ≡ s.heap → mid.codes.items ≡ s.codes.items → mid.records.items ≡ s.records.items → mid.lines ≡ s.lines → Steps T (row_task call p r) s (row_task call p q) mid []
row_steps r q call p T s mid e heap codes records lines = λ A g k calls. ap₂ (λ x y. walk A g (row_task call p x >>= k) y) e (same_state T s mid calls heap codes records lines)

pub thrown_acted : (r : Row) (call : Call) (p : Pos) (T : List Node) (ρ : Scope) (s mid new : Store) (x : Result Effect Halt) (name message : Text) (told now : Option (List ℕ)) → r ≡ Throws message → mid.heap ≡ s.heap → mid.codes.items ≡ s.codes.items → mid.records.items ≡ s.records.items → mid.limit ≡ s.limit
    → HasRead r (answer.Throw name message) s.lines mid.lines → Took r (answer.Throw name message) told now → Quiet x T ρ (type_error message) mid new → Acted x T ρ (row_task call p r) s new told now
unfolding row_task
thrown_acted r call p T ρ s mid new x name message told now is heap codes records limit read took q =
    let lines : mid.lines ≡ s.lines = subst (λ y. HasRead y (answer.Throw name message) s.lines mid.lines) is read in
    let same : now ≡ told = subst (λ y. Took y (answer.Throw name message) told now) is took in
    subst (λ y. Acted x T ρ (row_task call p r) s new told y) (sym same)
    (acted_after x T ρ (row_task call p r) (type_error message) s mid new told told limit (row_steps r (Throws message) call p T s mid is heap codes records lines) (quiet_acted x T ρ (type_error message) mid new told q))

pub passed_by : (r : Row) (call : Call) (p : Pos) (T : List Node) (s new : Store) (f : ℕ) (this : EsValue) (args : List Val) (told now : Option (List ℕ)) → r ≡ Invokes f (value_of this) args → new.heap ≡ s.heap → new.codes.items ≡ s.codes.items → new.records.items ≡ s.records.items
    → HasRead r (answer.Invoke f this args) s.lines new.lines → Took r (answer.Invoke f this args) told now → (now ≡ told) × Steps T (row_task call p r) s (call f (value_of this) args) new []
unfolding row_task
passed_by r call p T s new f this args told now is heap codes records read took =
    let lines : new.lines ≡ s.lines = subst (λ y. HasRead y (answer.Invoke f this args) s.lines new.lines) is read in
    (subst (λ y. Took y (answer.Invoke f this args) told now) is took, row_steps r (Invokes f (value_of this) args) call p T s new is heap codes records lines)

pub left_acted : (r : Row) (call : Call) (p : Pos) (T : List Node) (ρ : Scope) (s new : Store) (kind : Kind) (told now : Option (List ℕ)) → r ≡ Leaves (out_of kind) → new.heap ≡ s.heap → new.codes.items ≡ s.codes.items → new.records.items ≡ s.records.items
    → HasRead r (answer.Outside kind) s.lines new.lines → Took r (answer.Outside kind) told now → Acted (Ok (effect.Left kind p)) T ρ (row_task call p r) s new told now
unfolding row_task
left_acted r call p T ρ s new kind told now is heap codes records read took =
    let lines : new.lines ≡ s.lines = subst (λ y. HasRead y (answer.Outside kind) s.lines new.lines) is read in
    let same : now ≡ told = subst (λ y. Took y (answer.Outside kind) told now) is took in
    ([], same ∙ told_nothing told, row_steps r (Leaves (out_of kind)) call p T s new is heap codes records lines)

-- a value over the limit
pub over_acted : (r : Row) (call : Call) (p : Pos) (T : List Node) (s : Store) (new : Heap) (w : Val) (a : HostAnswer) (told now : Option (List ℕ)) → Sound s → s.limit + at_first < length new.cells + length s.records.items → Gave r w s.heap new → Took r a told now → (now ≡ told) × Fills T (row_task call p r) s
over_acted r call p T s new w a told now d over gave took =
    let within = d.within in
    let most = (grows r w s.heap new gave).2 in
    over_full r call p T s new w a told now gave took (omega (arith, within, over)) (omega (arith, within, over, most))

pub quiet_cause : (r : Result Effect Halt) (T : List Node) (ρ : Scope) (t : Task) (s new : Store) (n m : ℕ) → Quiet r T ρ t s new → IfErr r (λ h. HaltCaused h n m)
quiet_cause (Ok e) T ρ t s new n m q = tt
quiet_cause (Err h) T ρ t s new n m q = quiet_caused h T ρ t s new n m q
