-- Rows of functions that neither write nor read.
use Rattle.std.proofs.Common.{◌≡◌, ℕ, List, [], ◌∷◌, Bool, true, false, Option, Some, None, ◌&&◌, nat_le, nat_lt, length}
use Rattle.std.specs.Bool.{⊤}
use Rattle.es5_tree.specs.Values.{Val, Undefined, Null, Truth, Num, Str, Obj}
use Rattle.es5_tree.specs.Objects.Cells.{Cell}
use Rattle.es5_tree.specs.Objects.Links.{cell_at, in_chain}
use Rattle.es5_tree.specs.Intrinsics.Calls.{HostFn}
use Rattle.es5_tree.specs.Intrinsics.Calls as call
use Rattle.es5_tree.specs.Intrinsics.Lines.{Reading}
use Rattle.es5_tree.specs.Intrinsics.Rows.{Row, Gives, Sets, Makes, Throws, Invokes, Leaves, Writes, Reads, covered, or_type_error, where_true, linked, passed_on, one_of, two_of, object_of, link_of, natural_of, text_of, callee_of, array_at, listed_length, row, create, get_prototype_of, set_prototype_of, names_of, has_own_property, apply_row, is_array_row, push, slice, char_code_at, substring, index_of, from_char_code, write, line}
use Rattle.es5_tree.specs.Objects.Names.{index_end}
use Rattle.es5_host.specs.declared.answer.HostAnswer.{HostAnswer}
use Rattle.es5_host.specs.Answers.{HasRead, ReadBy, Took, TookBy}

-- the row neither writes nor reads
abbrev IsPlain : Row → Type 0
IsPlain (Gives v) = ⊤
IsPlain (Sets v o c) = ⊤
IsPlain (Makes c) = ⊤
IsPlain (Throws message) = ⊤
IsPlain (Invokes f this args) = ⊤
IsPlain (Leaves kind) = ⊤
IsPlain (Writes s) = ⊥
IsPlain (Reads v n) = ⊥

on_cover : {A : Type 0} (o : Option A) (f : A → Row) → ((a : A) → IsPlain (f a)) → IsPlain (covered o f)
on_cover None f h = tt
on_cover (Some a) f h = h a

on_kind : {A : Type 0} (o : Option A) (f : A → Row) → ((a : A) → IsPlain (f a)) → IsPlain (or_type_error o f)
on_kind None f h = tt
on_kind (Some a) f h = h a

on_truth : (b : Bool) (r : Row) → IsPlain r → IsPlain (where_true b r)
on_truth true r h = h
on_truth false r h = tt

on_link : (b : Bool) (cells : List Cell) (o : ℕ) (link : Option ℕ) → IsPlain (linked b cells o link)
on_link true cells o link = tt
on_link false cells o link = tt

on_passing : (f : ℕ) (args : List Val) → IsPlain (passed_on f args)
on_passing f [] = tt
on_passing f (this ∷ args) = tt

set_plain : (cells : List Cell) (v p : Val) → IsPlain (set_prototype_of cells v p)
set_plain cells v p = on_kind (object_of v) _ (λ o. on_kind (link_of p) _ (λ link. on_link (in_chain cells o link) cells o link))

own_plain : (cells : List Cell) (this v : Val) → IsPlain (has_own_property cells this v)
own_plain cells this v = on_cover (object_of this) _ (λ o. on_cover (text_of v) _ (λ name. tt))

apply_plain : (cells : List Cell) (this first list : Val) → IsPlain (apply_row cells this first list)
apply_plain cells this first list = on_cover (callee_of cells this) _ (λ f. on_cover (object_of list) _ (λ o. on_cover (listed_length (cell_at cells o)) _ (λ n. tt)))

push_plain : (cells : List Cell) (this v : Val) → IsPlain (push cells this v)
push_plain cells this v = on_cover (array_at cells this) _ (λ o. on_cover (listed_length (cell_at cells o)) _ (λ n. on_truth (nat_lt n index_end) _ tt))

slice_plain : (cells : List Cell) (this v w : Val) → IsPlain (slice cells this v w)
slice_plain cells this v w = on_cover (array_at cells this) _ (λ o. on_cover (listed_length (cell_at cells o)) _ (λ n. on_cover (natural_of v) _ (λ i. on_cover (natural_of w) _ (λ j. on_truth (nat_le i j && nat_le j n) _ tt))))

unit_plain : (this v : Val) → IsPlain (char_code_at this v)
unit_plain this v = on_cover (text_of this) _ (λ s. on_cover (natural_of v) _ (λ i. on_truth (nat_lt i (length s)) _ tt))

part_plain : (this v w : Val) → IsPlain (substring this v w)
part_plain this v w = on_cover (text_of this) _ (λ s. on_cover (natural_of v) _ (λ i. on_cover (natural_of w) _ (λ j. on_truth (nat_le i j && nat_le j (length s)) _ tt)))

place_plain : (this v w : Val) → IsPlain (index_of this v w)
place_plain this v w = on_cover (text_of this) _ (λ s. on_cover (text_of v) _ (λ part. on_cover (natural_of w) _ (λ i. on_truth (nat_le i (length s)) _ tt)))

text_plain : (v : Val) → IsPlain (from_char_code v)
text_plain v = on_cover (natural_of v) _ (λ i. on_truth (nat_le i 65535) _ tt)

-- ---- what was taken and read, by the row alone

took_plain : (r : Row) (a : HostAnswer) (old new : Option (List ℕ)) → IsPlain r → new ≡ old → Took r a old new
took_plain (Gives v) a old new h e = e
took_plain (Sets v o c) a old new h e = e
took_plain (Makes c) a old new h e = e
took_plain (Throws message) a old new h e = e
took_plain (Invokes f this args) a old new h e = e
took_plain (Leaves kind) a old new h e = e
took_plain (Writes s) a old new h e = absurd h
took_plain (Reads v n) a old new h e = absurd h

read_plain : (r : Row) (a : HostAnswer) (old new : Reading) → IsPlain r → new ≡ old → HasRead r a old new
read_plain (Gives v) a old new h e = e
read_plain (Sets v o c) a old new h e = e
read_plain (Makes c) a old new h e = e
read_plain (Throws message) a old new h e = e
read_plain (Invokes f this args) a old new h e = e
read_plain (Leaves kind) a old new h e = e
read_plain (Writes s) a old new h e = absurd h
read_plain (Reads v n) a old new h e = absurd h

took_line : (lines : Reading) (args : List Val) (a : HostAnswer) (old new : Option (List ℕ)) → new ≡ old → Took (line lines args) a old new
took_line lines [] a old new e = e
took_line lines (v ∷ vs) a old new e = e

written : (v : Val) (a : HostAnswer) (old new : Reading) → new ≡ old → HasRead (write v) a old new
written Undefined a old new e = e
written Null a old new e = e
written (Truth b) a old new e = e
written (Num n) a old new e = e
written (Str s) a old new e = e
written (Obj o) a old new e = e

read_write : (args : List Val) (a : HostAnswer) (old new : Reading) → new ≡ old → HasRead (covered (one_of args) write) a old new
read_write [] a old new e = e
read_write (v ∷ w ∷ vs) a old new e = e
read_write (v ∷ []) a old new e = written v a old new e

pub took : (which : HostFn) (cells : List Cell) (lines : Reading) (this : Val) (args : List Val) (a : HostAnswer) (old new : Option (List ℕ)) → TookBy which (row which cells lines this args) a old new → Took (row which cells lines this args) a old new
took call.Create cells lines this args a old new e = took_plain _ a old new (on_cover (one_of args) create (λ p. on_kind (link_of p) _ (λ link. tt))) e
took call.GetPrototypeOf cells lines this args a old new e = took_plain _ a old new (on_cover (one_of args) (get_prototype_of cells) (λ v. on_kind (object_of v) _ (λ o. tt))) e
took call.SetPrototypeOf cells lines this args a old new e = took_plain _ a old new (on_cover (two_of args) _ (λ vs. set_plain cells vs.0 vs.1)) e
took call.Keys cells lines this args a old new e = took_plain _ a old new (on_cover (one_of args) (names_of cells) (λ v. on_cover (object_of v) _ (λ o. tt))) e
took call.HasOwnProperty cells lines this args a old new e = took_plain _ a old new (on_cover (one_of args) (has_own_property cells this) (own_plain cells this)) e
took call.Call cells lines this args a old new e = took_plain _ a old new (on_cover (callee_of cells this) _ (λ f. on_passing f args)) e
took call.Apply cells lines this args a old new e = took_plain _ a old new (on_cover (two_of args) _ (λ vs. apply_plain cells this vs.0 vs.1)) e
took call.IsArray cells lines this args a old new e = took_plain _ a old new (on_cover (one_of args) (is_array_row cells) (λ v. tt)) e
took call.Push cells lines this args a old new e = took_plain _ a old new (on_cover (one_of args) (push cells this) (push_plain cells this)) e
took call.Slice cells lines this args a old new e = took_plain _ a old new (on_cover (two_of args) _ (λ vs. slice_plain cells this vs.0 vs.1)) e
took call.CharCodeAt cells lines this args a old new e = took_plain _ a old new (on_cover (one_of args) (char_code_at this) (unit_plain this)) e
took call.Substring cells lines this args a old new e = took_plain _ a old new (on_cover (two_of args) _ (λ vs. part_plain this vs.0 vs.1)) e
took call.IndexOf cells lines this args a old new e = took_plain _ a old new (on_cover (two_of args) _ (λ vs. place_plain this vs.0 vs.1)) e
took call.FromCharCode cells lines this args a old new e = took_plain _ a old new (on_cover (one_of args) from_char_code text_plain) e
took call.Write cells lines this args a old new e = e
took call.Line cells lines this args a old new e = took_line lines args a old new e

pub read : (which : HostFn) (cells : List Cell) (lines : Reading) (this : Val) (args : List Val) (a : HostAnswer) (old new : Reading) → ReadBy which (row which cells lines this args) a old new → HasRead (row which cells lines this args) a old new
read call.Create cells lines this args a old new e = read_plain _ a old new (on_cover (one_of args) create (λ p. on_kind (link_of p) _ (λ link. tt))) e
read call.GetPrototypeOf cells lines this args a old new e = read_plain _ a old new (on_cover (one_of args) (get_prototype_of cells) (λ v. on_kind (object_of v) _ (λ o. tt))) e
read call.SetPrototypeOf cells lines this args a old new e = read_plain _ a old new (on_cover (two_of args) _ (λ vs. set_plain cells vs.0 vs.1)) e
read call.Keys cells lines this args a old new e = read_plain _ a old new (on_cover (one_of args) (names_of cells) (λ v. on_cover (object_of v) _ (λ o. tt))) e
read call.HasOwnProperty cells lines this args a old new e = read_plain _ a old new (on_cover (one_of args) (has_own_property cells this) (own_plain cells this)) e
read call.Call cells lines this args a old new e = read_plain _ a old new (on_cover (callee_of cells this) _ (λ f. on_passing f args)) e
read call.Apply cells lines this args a old new e = read_plain _ a old new (on_cover (two_of args) _ (λ vs. apply_plain cells this vs.0 vs.1)) e
read call.IsArray cells lines this args a old new e = read_plain _ a old new (on_cover (one_of args) (is_array_row cells) (λ v. tt)) e
read call.Push cells lines this args a old new e = read_plain _ a old new (on_cover (one_of args) (push cells this) (push_plain cells this)) e
read call.Slice cells lines this args a old new e = read_plain _ a old new (on_cover (two_of args) _ (λ vs. slice_plain cells this vs.0 vs.1)) e
read call.CharCodeAt cells lines this args a old new e = read_plain _ a old new (on_cover (one_of args) (char_code_at this) (unit_plain this)) e
read call.Substring cells lines this args a old new e = read_plain _ a old new (on_cover (two_of args) _ (λ vs. part_plain this vs.0 vs.1)) e
read call.IndexOf cells lines this args a old new e = read_plain _ a old new (on_cover (two_of args) _ (λ vs. place_plain this vs.0 vs.1)) e
read call.FromCharCode cells lines this args a old new e = read_plain _ a old new (on_cover (one_of args) from_char_code text_plain) e
read call.Write cells lines this args a old new e = read_write args a old new e
read call.Line cells lines this args a old new e = e
