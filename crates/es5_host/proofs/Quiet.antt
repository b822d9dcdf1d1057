-- Rows that write nothing, and so have no fault of the sink.
use Rattle.std.proofs.Common.{ℕ, List, [], ◌∷◌, Bool, true, false, Option, Some, None, subst, ◌&&◌, nat_le, nat_lt, length, drop, pos}
use Rattle.std.specs.Prelude.{slice_index, slice_range}
use Rattle.std.specs.Bool.{⊤}
use Rattle.es5_tree.specs.Values.{Val, Num, Str}
use Rattle.es5_tree.specs.Intrinsics.Lines.{Reading}
use Rattle.es5_tree.specs.Intrinsics.Rows.{Row, Gives, Sets, Makes, Throws, Invokes, Leaves, Writes, Reads, covered, where_true, one_of, two_of, natural_of, text_of, char_code_at, substring, index_of, from_char_code, first_place, place_value, line}
use Rattle.es5_objects.specs.Heap.{Heap}
use Rattle.es5_host.specs.declared.answer.HostAnswer.{HostAnswer}
use Rattle.es5_host.specs.declared.answer.HostAnswer.TheVariants.{Value, Throw, Invoke, Outside, CellsFull, WriteFault, NoMemory}
use Rattle.es5_host.specs.Answers.{Answered, Caused}

-- the row writes nothing
abbrev pub IsQuiet : Row → Type 0
IsQuiet (Gives v) = ⊤
IsQuiet (Sets v o c) = ⊤
IsQuiet (Makes c) = ⊤
IsQuiet (Throws message) = ⊤
IsQuiet (Invokes f this args) = ⊤
IsQuiet (Leaves kind) = ⊤
IsQuiet (Writes s) = ⊥
IsQuiet (Reads v n) = ⊤

pub no_fault : (row : Row) (a : HostAnswer) (h k : Heap) (n m : ℕ) → IsQuiet row → Answered row a h k → Caused a n m
no_fault row (Value v) h k n m q w = tt
no_fault row (Throw name message) h k n m q w = tt
no_fault row (Invoke f this args) h k n m q w = tt
no_fault row (Outside kind) h k n m q w = tt
no_fault row CellsFull h k n m q w = tt
no_fault row WriteFault h k n m q w = absurd (let r : IsQuiet (Writes w.0.0) = subst IsQuiet w.0.1 q in r)
no_fault row NoMemory h k n m q w = tt

covered_quiet : {A : Type 0} (o : Option A) (f : A → Row) → ((a : A) → IsQuiet (f a)) → IsQuiet (covered o f)
covered_quiet None f h = tt
covered_quiet (Some a) f h = h a

where_quiet : (b : Bool) (v : Val) → IsQuiet (where_true b (Gives v))
where_quiet true v = tt
where_quiet false v = tt

unit_quiet : (this v : Val) → IsQuiet (char_code_at this v)
unit_quiet this v = covered_quiet (text_of this) _ (λ s. covered_quiet (natural_of v) _ (λ i. where_quiet (nat_lt i (length s)) (Num (pos (slice_index s i)))))

pub char_code_at_quiet : (this : Val) (args : List Val) → IsQuiet (covered (one_of args) (char_code_at this))
char_code_at_quiet this args = covered_quiet (one_of args) (char_code_at this) (unit_quiet this)

part_quiet : (this v w : Val) → IsQuiet (substring this v w)
part_quiet this v w = covered_quiet (text_of this) _ (λ s. covered_quiet (natural_of v) _ (λ i. covered_quiet (natural_of w) _ (λ j. where_quiet (nat_le i j && nat_le j (length s)) (Str (slice_range s i j)))))

pub substring_quiet : (this : Val) (args : List Val) → IsQuiet (covered (two_of args) (λ vs. substring this vs.0 vs.1))
substring_quiet this args = covered_quiet (two_of args) (λ vs. substring this vs.0 vs.1) (λ vs. part_quiet this vs.0 vs.1)

place_quiet : (this v w : Val) → IsQuiet (index_of this v w)
place_quiet this v w = covered_quiet (text_of this) _ (λ s. covered_quiet (text_of v) _ (λ part. covered_quiet (natural_of w) _ (λ i. where_quiet (nat_le i (length s)) (place_value (first_place part i (drop i s))))))

pub index_of_quiet : (this : Val) (args : List Val) → IsQuiet (covered (two_of args) (λ vs. index_of this vs.0 vs.1))
index_of_quiet this args = covered_quiet (two_of args) (λ vs. index_of this vs.0 vs.1) (λ vs. place_quiet this vs.0 vs.1)

text_quiet : (v : Val) → IsQuiet (from_char_code v)
text_quiet v = covered_quiet (natural_of v) _ (λ i. where_quiet (nat_le i 65535) (Str (i ∷ [])))

pub from_char_code_quiet : (args : List Val) → IsQuiet (covered (one_of args) from_char_code)
from_char_code_quiet args = covered_quiet (one_of args) from_char_code text_quiet

pub line_quiet : (lines : Reading) (args : List Val) → IsQuiet (line lines args)
line_quiet lines [] = tt
line_quiet lines (v ∷ vs) = tt
