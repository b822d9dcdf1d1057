-- The runs of a walk along links, and of a look-up in a list.
use Rattle.std.proofs.Common.{◌≡◌, ℕ, suc, ◌+◌, ◌<◌, Bool, true, false, if◌then◌else◌, nat_eq, List, [], ◌∷◌, ◌++◌, length, Some, pos, refl, sym, subst, arith, codes, length-append}
use Rattle.es5_tree.specs.declared.tree.EsExpr.{EsExpr}
use Rattle.es5_tree.specs.declared.tree.EsStmt.{EsStmt}
use Rattle.es5_tree.specs.declared.tree.EsStmt.TheVariants as stmt
use Rattle.es5_tree.specs.declared.tree.Operator.TheVariants as operator
use Rattle.es5_tree.specs.Values.{Val, Undefined, Null, Truth, Num, Obj}
use Rattle.es5_tree.specs.Objects.Names.{decimal}
use Rattle.opal_base.specs.declared.place.Pos.{Pos}
use Rattle.es5_evaluation.specs.Evaluate.{invoke}
use Rattle.es5_evaluation.specs.State.{State}
use Rattle.es5_evaluation.specs.Task.{Normal, Return, Evaluate, Execute}
use Rattle.es5_evaluation.specs.Declared.{own_code}
use Rattle.es5_executor.specs.Builders.{name, at, binary, null, truth, assign, when, return}
use Rattle.es5_executor.specs.Runs.{End, Gave, Takes, Does}
use Rattle.es5_executor.specs.Memory.{Frame, IsFunction, has}
use Rattle.es5_executor.specs.Walking.{among_code, Roll, among, stops_at, walk_units, units_behind, among_frame, Among, item_code, item_frame, ItemReads, ItemMisses}
use Rattle.es5_executor.proofs.Memory
use Rattle.es5_executor.proofs.Sym.{ByRun, Own, Ev, Do, act}
use Rattle.es5_executor.proofs.Calls.{by_call, by_node, seam, rest_of}
use Rattle.es5_executor.proofs.Codes.{code_is}
use Rattle.es5_executor.proofs.Loops.{Quiet, loop_end, loop_ends, loop_goes, loop_stops}
use Rattle.es5_executor.proofs.Stepping.{stepping}

among_own : own_code among_code.body ≡ record { names = []; arguments = false }
unfolding stepping
among_own = code_is 20 among_code.body _ refl

abbrev test : EsExpr
test = binary operator.Different (name (codes "l")) null

abbrev body : EsStmt
body = stmt.Block (when (binary operator.Same (at (name (codes "l")) (codes "$$mod")) (name (codes "m"))) (return truth ∷ []) ∷ assign (name (codes "l")) (at (name (codes "l")) (codes "$$next")) ∷ [])

abbrev at_link : State → ℕ → ℕ → Val → State
at_link s o m v = record s { records = s.records ++ act o (among_frame v m) ∷ [] }

-- how the loop ends
unfoldable ends_so : Bool → End
ends_so true = Gave (Return (Truth true))
ends_so false = Gave (Normal Undefined)

-- the link of the module
finds : (s : State) (o m a k : ℕ) (this : Val) → o < length s.records → has s.heap a (codes "$$mod") ≡ Some (Obj k) → nat_eq k m ≡ true → Does (Execute body (record { this = this; innermost = length s.records })) (at_link s o m (Obj a)) 10 (Gave (Return (Truth true))) (at_link s o m (Obj a))
unfolding stepping
finds s o m a k this below kept e =
    let ps : Frame = among_frame (Obj a) m in
    let long = length-append s.records (act o ps ∷ []) in
    by_node {seen = []} (length s.records) o this (Do body) (at_link s o m (Obj a)) ps 20 [] (Own a (codes "$$mod") (Obj k) ∷ []) (0 ∷ 1 ∷ []) [] 10 (Gave (Return (Truth true))) (at_link s o m (Obj a)) (Memory.record_new s.records (act o ps)) (omega (arith, long)) below tt tt (kept, tt)
    (assumption (e, seam s.records (act o ps) (act o ps)))

-- and another one
goes_on : (s : State) (o m a k : ℕ) (this w : Val) → o < length s.records → has s.heap a (codes "$$mod") ≡ Some (Obj k) → has s.heap a (codes "$$next") ≡ Some w → nat_eq k m ≡ false → Does (Execute body (record { this = this; innermost = length s.records })) (at_link s o m (Obj a)) 13 (Gave (Normal Undefined)) (at_link s o m w)
unfolding stepping
goes_on s o m a k this w below kept next e =
    let ps : Frame = among_frame (Obj a) m in
    let long = length-append s.records (act o ps ∷ []) in
    by_node {seen = []} (length s.records) o this (Do body) (at_link s o m (Obj a)) ps 20 [] (Own a (codes "$$mod") (Obj k) ∷ Own a (codes "$$next") w ∷ []) (0 ∷ 0 ∷ 1 ∷ []) [] 13 (Gave (Normal Undefined)) (at_link s o m w) (Memory.record_new s.records (act o ps)) (omega (arith, long)) below tt tt (kept, (next, tt))
    (assumption (e, seam s.records (act o ps) (act o (among_frame w m))))

no_link : (s : State) (o m : ℕ) (this : Val) → o < length s.records → Does (Evaluate test (record { this = this; innermost = length s.records })) (at_link s o m Null) 3 (Gave (Normal (Truth false))) (at_link s o m Null)
unfolding stepping
no_link s o m this below =
    let ps : Frame = among_frame Null m in
    let long = length-append s.records (act o ps ∷ []) in
    by_node {seen = []} (length s.records) o this (Ev test) (at_link s o m Null) ps 20 [] [] [] [] 3 (Gave (Normal (Truth false))) (at_link s o m Null) (Memory.record_new s.records (act o ps)) (omega (arith, long)) below tt tt tt
    (assumption (seam s.records (act o ps) (act o ps)))

a_link : (s : State) (o m a : ℕ) (this : Val) → o < length s.records → Does (Evaluate test (record { this = this; innermost = length s.records })) (at_link s o m (Obj a)) 3 (Gave (Normal (Truth true))) (at_link s o m (Obj a))
unfolding stepping
a_link s o m a this below =
    let ps : Frame = among_frame (Obj a) m in
    let long = length-append s.records (act o ps ∷ []) in
    by_node {seen = []} (length s.records) o this (Ev test) (at_link s o m (Obj a)) ps 20 [] [] [] [] 3 (Gave (Normal (Truth true))) (at_link s o m (Obj a)) (Memory.record_new s.records (act o ps)) (omega (arith, long)) below tt tt tt
    (assumption (seam s.records (act o ps) (act o ps)))

-- one link, and the others
one_link : (s : State) (o m : ℕ) (this w : Val) (p : ℕ × ℕ) (ps : List (ℕ × ℕ)) → o < length s.records → has s.heap p.0 (codes "$$mod") ≡ Some (Obj p.1) → has s.heap p.0 (codes "$$next") ≡ Some w →
    Quiet test body (record { this = this; innermost = length s.records }) (at_link s o m w) (walk_units m ps) (ends_so (among m ps)) (at_link s o m (stops_at m ps)) → (b : Bool) → nat_eq p.1 m ≡ b →
    Quiet test body (record { this = this; innermost = length s.records }) (at_link s o m (Obj p.0)) (if b then 13 else 16 + walk_units m ps) (ends_so (if b then true else among m ps)) (at_link s o m (if b then Obj p.0 else stops_at m ps))
unfolding ends_so loop_end
one_link s o m this w p ps below kept next rest true e =
    loop_stops test body (record { this = this; innermost = length s.records }) _ _ _ 3 10 (Truth true) (Gave (Return (Truth true))) (Gave (Return (Truth true))) (a_link s o m p.0 this below) refl (finds s o m p.0 p.1 this below kept e) refl
one_link s o m this w p ps below kept next rest false e =
    let whole = loop_goes test body (record { this = this; innermost = length s.records }) _ _ _ _ 3 13 (walk_units m ps) (Truth true) Undefined (ends_so (among m ps)) (a_link s o m p.0 this below) refl (goes_on s o m p.0 p.1 this w below kept next e) rest in
    subst (λ j. Quiet test body (record { this = this; innermost = length s.records }) (at_link s o m (Obj p.0)) j (ends_so (among m ps)) (at_link s o m (stops_at m ps))) {x = 3 + (13 + walk_units m ps)} {y = 16 + walk_units m ps} (omega arith) whole

loops : (ps : List (ℕ × ℕ)) (s : State) (o m : ℕ) (this v : Val) → o < length s.records → Roll s.heap v ps → Quiet test body (record { this = this; innermost = length s.records }) (at_link s o m v) (walk_units m ps) (ends_so (among m ps)) (at_link s o m (stops_at m ps))
unfolding walk_units among stops_at ends_so
loops [] s o m this v below c =
    subst (λ z. Quiet test body (record { this = this; innermost = length s.records }) (at_link s o m z) 3 (Gave (Normal Undefined)) (at_link s o m Null)) (sym c)
    (loop_ends test body (record { this = this; innermost = length s.records }) _ _ 3 (Truth false) (no_link s o m this below) refl)
loops (p ∷ ps) s o m this v below (q, w, kept, next, r) =
    subst (λ z. Quiet test body (record { this = this; innermost = length s.records }) (at_link s o m z) (walk_units m (p ∷ ps)) (ends_so (among m (p ∷ ps))) (at_link s o m (stops_at m (p ∷ ps)))) (sym q)
    (one_link s o m this w p ps below kept next (loops ps s o m this w below r) (nat_eq p.1 m) refl)

whole : (p : Pos) (f o m j : ℕ) (v z this : Val) (s : State) → IsFunction s.heap s.codes f among_code o → o < length s.records → (b : Bool) → Quiet test body (record { this = this; innermost = length s.records }) (at_link s o m v) j (ends_so b) (at_link s o m z) →
    Takes (invoke p (Obj f) this (v ∷ Obj m ∷ [])) s (j + units_behind b) (Gave (Normal (Truth b))) (at_link s o m z)
unfolding stepping ends_so
whole p f o m j v z this s fn below true loop =
    let ps : Frame = among_frame v m in
    let qs : Frame = among_frame z m in
    let long = length-append s.records (act o qs ∷ []) in
    let l : length s.records < length (s.records ++ act o qs ∷ []) = omega (arith, long) in
    let u : 1 + j ≡ j + 1 = omega arith in
    let run = subst (λ Z. Quiet test body (record { this = this; innermost = length s.records }) (record s { records = Z }) j (Gave (Return (Truth true))) (at_link s o m z)) (sym (seam s.records (act o ps) (act o ps))) loop in
    by_call p f o among_code this (v ∷ Obj m ∷ []) [] s 20 [] [] [] (ByRun (record { units = j; end = Gave (Return (Truth true)); heap = s.heap; records = s.records ++ act o qs ∷ []; frame = qs; facts = []; values = []; rest = rest_of s; seen = [] }) ∷ [])
    (j + 1) (Gave (Normal (Truth true))) (at_link s o m z) fn refl among_own below tt tt
    (assumption (run, Memory.record_new s.records (act o qs), l, u, seam s.records (act o qs) (act o qs)))
whole p f o m j v z this s fn below false loop =
    let ps : Frame = among_frame v m in
    let qs : Frame = among_frame z m in
    let long = length-append s.records (act o qs ∷ []) in
    let l : length s.records < length (s.records ++ act o qs ∷ []) = omega (arith, long) in
    let u : suc (suc (1 + j)) ≡ j + 3 = omega arith in
    let run = subst (λ Z. Quiet test body (record { this = this; innermost = length s.records }) (record s { records = Z }) j (Gave (Normal Undefined)) (at_link s o m z)) (sym (seam s.records (act o ps) (act o ps))) loop in
    by_call p f o among_code this (v ∷ Obj m ∷ []) [] s 20 [] [] [] (ByRun (record { units = j; end = Gave (Normal Undefined); heap = s.heap; records = s.records ++ act o qs ∷ []; frame = qs; facts = []; values = []; rest = rest_of s; seen = [] }) ∷ [])
    (j + 3) (Gave (Normal (Truth false))) (at_link s o m z) fn refl among_own below tt tt
    (assumption (run, Memory.record_new s.records (act o qs), l, u, seam s.records (act o qs) (act o qs)))

pub among_runs : Among
among_runs p f o m v this ps s fn below c = whole p f o m (walk_units m ps) v (stops_at m ps) this s fn below (among m ps) (loops ps s o m this v below c)

item_own : own_code item_code.body ≡ record { names = []; arguments = false }
unfolding stepping
item_own = code_is 20 item_code.body _ refl

pub item_reads : ItemReads
unfolding stepping
item_reads p f o a i n v this s fn below len e t =
    by_call p f o item_code this (Obj a ∷ Num (pos i) ∷ []) [] s 20 [] (Own a (codes "length") (Num (pos n)) ∷ Own a (decimal i) v ∷ []) (0 ∷ 1 ∷ 1 ∷ []) [] 11 (Gave (Normal v)) _ fn refl item_own below tt (len, (e, tt))
    (assumption (t, seam s.records (act o (item_frame a i)) (act o (item_frame a i))))

pub item_misses : ItemMisses
unfolding stepping
item_misses p f o b a i n nil this s fn below out len t =
    by_call p f o item_code this (Obj a ∷ Num (pos i) ∷ []) [] s 20 (record { name = codes "$$nil"; at = b; val = nil; free = true } ∷ []) (Own a (codes "length") (Num (pos n)) ∷ []) (0 ∷ 0 ∷ []) [] 8 (Gave (Normal nil)) _ fn refl item_own below (out, tt) (len, tt)
    (assumption (t, seam s.records (act o (item_frame a i)) (act o (item_frame a i))))
