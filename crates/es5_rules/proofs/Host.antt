-- Calls of the intrinsic functions, by what their rows say (ECMA-262 5.1, section 15, profile).
use Rattle.std.proofs.Common.{◌≡◌, ℕ, ◌+◌, List, [], ◌∷◌, length, Some, codes, refl, ap, ◌∙◌, arith, sym}
use Rattle.opal_base.specs.declared.place.Pos.{Pos}
use Rattle.std.specs.Prelude.{slice_get}
use Rattle.es5_tree.specs.Values.{Text, Val, Undefined, Str, Obj}
use Rattle.es5_tree.specs.Objects.Cells.{Cell}
use Rattle.es5_tree.specs.Objects.Cells as cells
use Rattle.es5_tree.specs.Objects.Links.{cell_at}
use Rattle.es5_tree.specs.Intrinsics.Calls.{HostFn}
use Rattle.es5_tree.specs.Intrinsics.Calls as call
use Rattle.es5_tree.specs.Intrinsics.Rows.{Row, row}
use Rattle.es5_tree.specs.Intrinsics.Rows as row_kind
use Rattle.es5_tree.specs.Ends as Ends
use Rattle.es5_evaluation.specs.State.{State}
use Rattle.es5_evaluation.specs.Task.{Completion, Normal, Throw, Task, Leaves, ◌>>=◌, with_object, with_new, printed, has_read}
use Rattle.es5_evaluation.specs.Evaluate.{error_object, host_functions, host_task, invoke, invoke_kind, passed, raise, row_task}
use Rattle.es5_evaluation.specs.Run.{run}
use Rattle.es5_evaluation.proofs.TaskRuns.{run_looks}
use Rattle.es5_rules.specs.Moments.{moments}
use Rattle.es5_rules.specs.Steps.{Steps, Invoked}
use Rattle.es5_rules.proofs.Moments.{moments_looks}
use Rattle.es5_rules.proofs.Steps.{steps_trans, steps_count, steps_to, steps_look, steps_set, steps_make, steps_print, steps_read, steps_none}

-- an intrinsic function stands at a place
pub record Intrinsic (s : State) (f : ℕ) (which : HostFn) : Type 0 where
  pub at : ℕ
  pub stands : (cell_at s.heap f).kind ≡ cells.Host at
  pub listed : slice_get host_functions at ≡ Some which

-- what its row says is done
pub steps_row : (p : Pos) (f : ℕ) (which : HostFn) (this : Val) (us : List Val) (r : Row) (s : State) (k : Completion → Task) → Intrinsic s f which → row which s.heap s.lines this us ≡ r → Steps (invoke p (Obj f) this us >>= k) s 0 (row_task (passed p) p r >>= k) s []
unfolding invoke ◌>>=◌
steps_row p f which this us r s k i e =
    steps_to
    (ap (λ q. invoke_kind (passed p) p q s f this us >>= k) i.stands
    ∙ ap (λ o. host_task (passed p) p o s this us >>= k) i.listed
    ∙ ap (λ x. row_task (passed p) p x >>= k) e)
    (steps_look (λ y. invoke_kind (passed p) p (cell_at y.heap f).kind y f this us >>= k) s)

-- a value
pub row_gives : (p : Pos) (f : ℕ) (which : HostFn) (this : Val) (us : List Val) (v : Val) (s : State) → Intrinsic s f which → row which s.heap s.lines this us ≡ row_kind.Gives v → Invoked p (Obj f) this us s 0 (Normal v) s []
unfolding row_task ◌>>=◌
row_gives p f which this us v s i e = record { by = λ k. steps_row p f which this us (row_kind.Gives v) s k i e }

-- an object is changed
pub row_sets : (p : Pos) (f : ℕ) (which : HostFn) (this : Val) (us : List Val) (v : Val) (o : ℕ) (c : Cell) (s : State) → Intrinsic s f which → row which s.heap s.lines this us ≡ row_kind.Sets v o c → Invoked p (Obj f) this us s 0 (Normal v) (with_object s o c) []
unfolding row_task ◌>>=◌
row_sets p f which this us v o c s i e = record {
  by = λ k. steps_count (0 + 0) 0 (omega arith) (steps_trans (steps_row p f which this us (row_kind.Sets v o c) s k i e) (steps_set o c (k (Normal v)) s));
}

-- a new object
pub row_makes : (p : Pos) (f : ℕ) (which : HostFn) (this : Val) (us : List Val) (c : Cell) (s : State) → Intrinsic s f which → row which s.heap s.lines this us ≡ row_kind.Makes c → Invoked p (Obj f) this us s 0 (Normal (Obj (length s.heap))) (with_new s c) []
unfolding row_task ◌>>=◌
row_makes p f which this us c s i e = record {
  by = λ k. steps_count (0 + 0) 0 (omega arith) (steps_trans (steps_row p f which this us (row_kind.Makes c) s k i e) (steps_make c (λ o. k (Normal (Obj o))) s));
}

-- a TypeError is thrown
pub row_throws : (p : Pos) (f : ℕ) (which : HostFn) (this : Val) (us : List Val) (message : Text) (s : State) → Intrinsic s f which → row which s.heap s.lines this us ≡ row_kind.Throws message → Invoked p (Obj f) this us s 0 (Throw (Obj (length s.heap))) (with_new s (error_object (codes "TypeError") message)) []
unfolding row_task raise ◌>>=◌
row_throws p f which this us message s i e = record {
  by = λ k. steps_count (0 + 0) 0 (omega arith) (steps_trans (steps_row p f which this us (row_kind.Throws message) s k i e) (steps_make (error_object (codes "TypeError") message) (λ o. k (Throw (Obj o))) s));
}

-- a text is written
pub row_writes : (p : Pos) (f : ℕ) (which : HostFn) (this : Val) (us : List Val) (text : Text) (s : State) → Intrinsic s f which → row which s.heap s.lines this us ≡ row_kind.Writes text → Invoked p (Obj f) this us s 0 (Normal Undefined) (printed s text) (s ∷ [])
unfolding row_task ◌>>=◌
row_writes p f which this us text s i e = record {
  by = λ k. steps_count (0 + 0) 0 (omega arith) (steps_trans (steps_row p f which this us (row_kind.Writes text) s k i e) (steps_print text (k (Normal Undefined)) s));
}

-- a line of the input is read
pub row_reads : (p : Pos) (f : ℕ) (which : HostFn) (this : Val) (us : List Val) (v : Val) (n : ℕ) (s : State) → Intrinsic s f which → row which s.heap s.lines this us ≡ row_kind.Reads v n → Invoked p (Obj f) this us s 0 (Normal v) (has_read s n) (s ∷ [])
unfolding row_task ◌>>=◌
row_reads p f which this us v n s i e = record {
  by = λ k. steps_count (0 + 0) 0 (omega arith) (steps_trans (steps_row p f which this us (row_kind.Reads v n) s k i e) (steps_read n (k (Normal v)) s));
}

-- a write of a text
pub calls_write : (p : Pos) (f : ℕ) (this : Val) (text : Text) (s : State) → Intrinsic s f call.Write → Invoked p (Obj f) this (Str text ∷ []) s 0 (Normal Undefined) (printed s text) (s ∷ [])
calls_write p f this text s i = row_writes p f call.Write this (Str text ∷ []) text s i refl

-- ---- `call` and `apply`, which pass on to a function of the script

-- what these two pass on to passes on to nothing
abbrev stopped : Pos → ℕ → Val → List Val → Task
stopped p f this us = Leaves Ends.Host p

-- a function of the script does the same, by whatever intrinsic function it is called
steps_passed : (p : Pos) (g code outer : ℕ) (that : Val) (ws : List Val) (s z : State) (m : ℕ) (u : Task) (vs : List State) (k : Completion → Task) → (cell_at s.heap g).kind ≡ cells.Function code outer → Steps (invoke p (Obj g) that ws >>= k) s m u z vs → Steps (passed p g that ws >>= k) s m u z vs
unfolding invoke passed ◌>>=◌
steps_passed p g code outer that ws s z m u vs k h a =
    steps_count (0 + m) m (omega arith)
    (steps_trans {vs = []}
    (steps_none
    (λ n. run_looks n (λ y. invoke_kind (stopped p) p (cell_at y.heap g).kind y g that ws >>= k) s ∙ ap (λ q. run n (invoke_kind (stopped p) p q s g that ws >>= k) s) h ∙ ap (λ q. run n (invoke_kind (passed p) p q s g that ws >>= k) s) (sym h) ∙ sym (run_looks n (λ y. invoke_kind (passed p) p (cell_at y.heap g).kind y g that ws >>= k) s))
    (λ n. moments_looks n (λ y. invoke_kind (stopped p) p (cell_at y.heap g).kind y g that ws >>= k) s ∙ ap (λ q. moments n (invoke_kind (stopped p) p q s g that ws >>= k) s) h ∙ ap (λ q. moments n (invoke_kind (passed p) p q s g that ws >>= k) s) (sym h) ∙ sym (moments_looks n (λ y. invoke_kind (passed p) p (cell_at y.heap g).kind y g that ws >>= k) s)))
    a)

pub row_invokes : (p : Pos) (f : ℕ) (which : HostFn) (this : Val) (us : List Val) (g code outer : ℕ) (that : Val) (ws : List Val) (s z : State) (m : ℕ) (c : Completion) (vs : List State) → Intrinsic s f which → row which s.heap s.lines this us ≡ row_kind.Invokes g that ws → (cell_at s.heap g).kind ≡ cells.Function code outer → Invoked p (Obj g) that ws s m c z vs → Invoked p (Obj f) this us s m c z vs
unfolding row_task
row_invokes p f which this us g code outer that ws s z m c vs i e h a = record {
  by = λ k.
      steps_count (0 + m) m (omega arith)
      (steps_trans (steps_row p f which this us (row_kind.Invokes g that ws) s k i e) (steps_passed p g code outer that ws s z m (k c) vs k h (a.by k)));
}
