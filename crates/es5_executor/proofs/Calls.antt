-- Calls of functions, by what their statements do.
use Rattle.std.proofs.Common.{Option, is_some, if◌then◌else◌, ◌||◌, append_assoc, codes, ◌≡◌, ℕ, suc, ◌<◌, Bool, true, false, List, [], ◌∷◌, ◌++◌, length, Some, None, refl, sym, ap, subst, ◌∙◌, arith, ⊎_elim, length-append, append-nil, slice_get}
use Rattle.std.proofs.Math.Seq.{set-append_seam}
use Rattle.std.proofs.lemmas.List.{get_or_append_left, set-append_left, set-get_or}
use Rattle.std.proofs.lemmas.Bool.{cases_lt}
use Rattle.opal_base.specs.declared.place.Pos.{Pos}
use Rattle.opal_base.specs.Shown.{HostCall}
use Rattle.es5_tree.specs.Intrinsics.Lines.{Reading}
use Rattle.es5_tree.specs.Intrinsics.Calls.{HostFn}
use Rattle.es5_tree.specs.Ends.{OutKind}
use Rattle.es5_tree.specs.Ends as leave
use Rattle.es5_tree.specs.Intrinsics.Rows.{row, Gives, Makes, Sets, Throws, Invokes, Writes, Reads}
use Rattle.es5_tree.specs.Intrinsics.Rows as row_kind
use Rattle.es5_tree.specs.declared.tree.EsStmt.{EsStmt}
use Rattle.es5_tree.specs.declared.tree.Catch.{Catch, out-Catch}
use Rattle.es5_tree.specs.Values.{Text, Val, Undefined, Obj, find_own}
use Rattle.es5_tree.specs.Objects.Links.{cell_at, set_cell}
use Rattle.es5_tree.specs.Objects.Cells.{Cell, Function, with_property}
use Rattle.es5_evaluation.specs.State.{Code, Activation, State, binding_by, record_at, set_record, with_variable}
use Rattle.es5_evaluation.specs.Task.{Completion, Normal, Refers, Return, Throw, Break, Continue, Task, Leaves, Ask, ◌>>=◌, walk, has_read, printed}
use Rattle.es5_evaluation.specs.Declared.{own_code, new_names, arguments_name}
use Rattle.es5_evaluation.specs.Evaluate.{all, caught_by, left, invoke, invoke_kind, passed, enter, entered, run_body, activation, bound_params, undefined_variables, own_name, arguments_object, error_object, host_functions, row_task}
use Rattle.es5_evaluation.specs.Run.{run}
use Rattle.es5_rules.specs.Moments.{moments, moments_by}
use Rattle.es5_rules.proofs.Host.{Intrinsic, row_gives, row_makes, row_reads, row_sets, row_throws, row_writes, steps_row}
use Rattle.es5_rules.proofs.Steps.{steps_count, steps_seen}
use Rattle.es5_executor.specs.Runs.{End, Gave, Outside, after, Leads, look, Takes, TakesSeen, DoesSeen}
use Rattle.es5_executor.specs.Memory.{Heap, Records, Frame, Outer, IsFunction, IsHost, IsOuter, assign, bound_from, value_by}
use Rattle.es5_executor.proofs.Runs.{silent, silently, associates}
use Rattle.es5_executor.proofs.Memory
use Rattle.es5_executor.proofs.Sym
use Rattle.es5_executor.proofs.Sym.{Node, Fact, Facts, Outers, Away, Known, Here, Cont, Rest, act, here}
use Rattle.es5_executor.proofs.Right
use Rattle.es5_executor.proofs.Right.{Sit, Valid, Reached}
use Rattle.es5_executor.proofs.Whole

-- how a call ends, by how its body did
unfoldable pub answer : End → End
answer (Gave (Normal v)) = Gave (Normal Undefined)
answer (Gave (Refers p)) = Gave (Normal Undefined)
answer (Gave (Return v)) = Gave (Normal v)
answer (Gave (Throw v)) = Gave (Throw v)
answer (Gave Break) = Gave (Normal Undefined)
answer (Gave Continue) = Gave (Normal Undefined)
answer (Outside o p) = Outside o p

answer_is : (e : End) (k : Completion → Task) → after e (λ c. left c >>= k) ≡ after (answer e) k
unfolding answer ◌>>=◌
answer_is (Gave (Normal v)) k = refl
answer_is (Gave (Refers p)) k = refl
answer_is (Gave (Return v)) k = refl
answer_is (Gave (Throw v)) k = refl
answer_is (Gave Break) k = refl
answer_is (Gave Continue) k = refl
answer_is (Outside o p) k = refl

-- what is to hold at the end of the body of a call
unfoldable pub Ends : ℕ → ℕ → End → State → ℕ → List State → Cont
Ends r o e s' m vs f hs cs h R ps ks fs w n =
    (answer f ≡ e) × (h ≡ s'.heap) × (set_record R r (act o ps) ≡ s'.records) × (w.codes ≡ s'.codes) × (w.lines ≡ s'.lines) × (w.calls ≡ s'.calls) × (n ≡ m) × (w.seen ≡ vs)

-- what is to hold at the end of statements that are no body
unfoldable pub Stops : ℕ → ℕ → End → State → ℕ → List State → Cont
Stops r o e s' m vs f hs cs h R ps ks fs w n =
    (f ≡ e) × (h ≡ s'.heap) × (set_record R r (act o ps) ≡ s'.records) × (w.codes ≡ s'.codes) × (w.lines ≡ s'.lines) × (w.calls ≡ s'.calls) × (n ≡ m) × (w.seen ≡ vs)

abbrev pub rest_of : State → Rest
rest_of s = record { codes = s.codes; lines = s.lines; calls = s.calls; seen = [] }

-- the variables of a call
abbrev pub frame : Code → List Val → List Text → Frame
frame c vs names = bound_params c.params vs ++ undefined_variables (new_names c.params names)

-- ---- records around a new one

inside_value : (free : Bool) (R : Records) (b : ℕ) (x : Text) (v : Val) → value_by free (record_at R b) x ≡ Some v → b < length R
unfolding find_own
inside_value free R b x v e = ⊎_elim (λ l. l) (λ l. absurd (no free (sym (ap (λ a. value_by free a x) (Memory.inside_record R b l)) ∙ e))) (cases_lt b (length R))
  where
    no : (free : Bool) → value_by free (record { variables = []; constants = []; outer = None }) x ≡ Some v → ⊥
    no true f = cc
    no false f = cc

pub outers_old : (R : Records) (a : Activation) (o : ℕ) (us : List Outer) → Outers R o us → Outers (R ++ a ∷ []) o us
unfolding bound_from
outers_old R a o [] k = tt
outers_old R a o (u ∷ us) k = ((Memory.binding_old (suc o) R a (Some o) u.name u.at k.0.0, ap (λ z. value_by u.free z u.name) (Memory.record_old R a u.at (inside_value u.free R u.at u.name u.val k.0.1)) ∙ k.0.1), outers_old R a o us k.1)

away_new : (R : Records) (o : ℕ) (us : List Outer) → Outers R o us → Away (length R) us
away_new R o [] k = tt
away_new R o (u ∷ us) k = ((λ e. let l = inside_value u.free R u.at u.name u.val k.0.1 in omega (arith, l, e)), away_new R o us k.1)

pub seam : (R : Records) (a b : Activation) → set_record (R ++ a ∷ []) (length R) b ≡ R ++ b ∷ []
seam R a b = set-append_seam R a [] b

-- ---- a call

called : (p : Pos) (f o : ℕ) (c : Code) (this : Val) (vs : List Val) (s : State) → IsFunction s.heap s.codes f c o → (k : Completion → Task) (g : ℕ) → look g (invoke p (Obj f) this vs >>= k) s ≡ look g (enter c f o this vs >>= k) s
unfolding invoke run walk moments moments_by ◌>>=◌
called p f o c this vs s (n, e, d) k g = ap (λ z. look g (invoke_kind (passed p) p z s f this vs >>= k) s) e ∙ ap (λ z. look g (enter z f o this vs >>= k) s) d

body_run : (body : List EsStmt) (this : Val) (a : Activation) (s : State) (k : Completion → Task) (g : ℕ) → look g (run_body body this a >>= k) s ≡ look g ((all body (record { this = this; innermost = length s.records }) >>= left) >>= k) (record s { records = s.records ++ a ∷ [] })
unfolding run walk moments moments_by run_body ◌>>=◌
body_run body this a s k g = refl

entered_plain : (f o : ℕ) (c : Code) (this : Val) (vs : List Val) (names : List Text) (s : State) → c.name ≡ None → own_code c.body ≡ record { names = names; arguments = false } → activation c f o vs [] ≡ act o (frame c vs names)
unfolding activation
entered_plain f o c this vs names s e d = ap (λ z. record { variables = z ++ undefined_variables (new_names c.params (own_code c.body).names); constants = own_name c.name f; outer = Some o }) (append-nil (bound_params c.params vs)) ∙ (ap (λ z. record { variables = bound_params c.params vs ++ undefined_variables (new_names c.params z.names); constants = own_name c.name f; outer = Some o }) d ∙ ap (λ z. record { variables = bound_params c.params vs ++ undefined_variables (new_names c.params names); constants = own_name z f; outer = Some o }) e)

plain : (f o : ℕ) (c : Code) (this : Val) (vs : List Val) (names : List Text) (s : State) → c.name ≡ None → own_code c.body ≡ record { names = names; arguments = false } → (k : Completion → Task) (g : ℕ) →
    look g (enter c f o this vs >>= k) s ≡ look g ((all c.body (record { this = this; innermost = length s.records }) >>= left) >>= k) (record s { records = s.records ++ act o (frame c vs names) ∷ [] })
unfolding enter run
plain f o c this vs names s e d k g =
    ap (λ z. look g (entered z c f o this vs >>= k) s) (ap (λ z. z.arguments) d) ∙ (ap (λ a. look g (run_body c.body this a >>= k) s) (entered_plain f o c this vs names s e d) ∙ body_run c.body this (act o (frame c vs names)) s k g)

-- the state in which a body begins
abbrev pub inside : State → ℕ → Frame → State
inside s o ps = record s { records = s.records ++ act o ps ∷ [] }

same_state : (s' : State) {h : Heap} {R : Records} {c : List Code} {i : Reading} {w : List HostCall} → h ≡ s'.heap → R ≡ s'.records → c ≡ s'.codes → i ≡ s'.lines → w ≡ s'.calls → record { heap = h; codes = c; records = R; lines = i; calls = w } ≡ s'
same_state s' {h} {R} {c} {i} {w} a b d f g =
    ap (λ z. record { heap = z; codes = c; records = R; lines = i; calls = w }) a ∙ (ap (λ z. record { heap = s'.heap; codes = c; records = z; lines = i; calls = w }) b ∙ (ap (λ z. record { heap = s'.heap; codes = z; records = s'.records; lines = i; calls = w }) d ∙ (ap (λ z. record { heap = s'.heap; codes = s'.codes; records = s'.records; lines = z; calls = w }) f ∙ ap (λ z. record { heap = s'.heap; codes = s'.codes; records = s'.records; lines = s'.lines; calls = z }) g)))

finished : {t u : Task} {s z z' : State} {m n : ℕ} {vs ws : List State} → m ≡ n → z ≡ z' → vs ≡ ws → Leads m t s u z vs → Leads n t s u z' ws
finished {t} {u} {s} {m = m} {n = n} {vs = vs} e f g a = steps_count m n e (steps_seen g (subst (λ x. Leads m t s u x vs) f a))

pub by_body : {seen : List State} → (ts : List EsStmt) (s : State) (o : ℕ) (this : Val) (ps : Frame) (d : ℕ) (us : List Outer) (ks : List Fact) (hs : List ℕ) (cs : List Known) (n : ℕ) (e : End) (s' : State) →
    o < length s.records → Outers s.records o us → Facts s.heap ks →
    Sym.alls (length s.records) o this (Sym.go (length s.records) o this d) ts (Ends (length s.records) o e s' n seen) hs cs s.heap (s.records ++ act o ps ∷ []) ps ks us (rest_of s) 0 →
    TakesSeen (all ts (record { this = this; innermost = length s.records }) >>= left) (inside s o ps) n e s' seen
unfolding Ends
by_body {seen} ts s o this ps d us ks hs cs n e s' below outer facts x =
    let r = length s.records in
    let R = s.records ++ act o ps ∷ [] in
    let σ : Sit = record { hints = hs; subs = cs; heap = s.heap; records = R; frame = ps; facts = ks; fars = us; rest = rest_of s; units = 0 } in
    let same : set_record R r (act o ps) ≡ R = seam s.records (act o ps) (act o ps) in
    let long = length-append s.records (act o ps ∷ []) in
    let valid : Valid r o σ = record { within = omega (arith, long); below = below; facts = facts; outers = subst (λ Z. Outers Z o us) (sym same) (outers_old s.records (act o ps) o us outer); away = away_new s.records o us outer } in
    let a = Whole.all_go_right r o this d ts (Ends r o e s' n seen) σ valid x in
    finish a same
  where
    finish : (a : Reached (length s.records) o (λ k. all ts (record { this = this; innermost = length s.records }) >>= k) (Ends (length s.records) o e s' n seen) (record { hints = hs; subs = cs; heap = s.heap; records = s.records ++ act o ps ∷ []; frame = ps; facts = ks; fars = us; rest = rest_of s; units = 0 })) →
        set_record (s.records ++ act o ps ∷ []) (length s.records) (act o ps) ≡ s.records ++ act o ps ∷ [] → TakesSeen (all ts (record { this = this; innermost = length s.records }) >>= left) (inside s o ps) n e s' seen
    finish a same k =
        let t = all ts (record { this = this; innermost = length s.records }) in
        let l1 = a.leads (λ c. left c >>= k) in
        let l2 = subst (λ z. Leads a.units z (Right.real (length s.records) o (record { hints = hs; subs = cs; heap = s.heap; records = s.records ++ act o ps ∷ []; frame = ps; facts = ks; fars = us; rest = rest_of s; units = 0 })) (after a.end (λ c. left c >>= k)) (Right.real (length s.records) o a.sit) a.seen) (sym (associates t left k)) l1 in
        let l3 = subst (λ z. Leads a.units ((t >>= left) >>= k) z (after a.end (λ c. left c >>= k)) (Right.real (length s.records) o a.sit) a.seen) {x = record s { records = set_record (s.records ++ act o ps ∷ []) (length s.records) (act o ps) }} {y = inside s o ps} (ap (λ Z. record s { records = Z }) same) l2 in
        let l4 = subst (λ z. Leads a.units ((t >>= left) >>= k) (inside s o ps) z (Right.real (length s.records) o a.sit) a.seen) (answer_is a.end k ∙ ap (λ z. after z k) a.so.0) l3 in
        let q = a.count in let m = a.so.6 in
        finished (omega (arith, q, m)) (same_state s' a.so.1 a.so.2 a.so.3 a.so.4 a.so.5) (sym a.sees ∙ a.so.7) l4

-- a call of a function whose code names no `arguments`, by the executor
pub by_call : {seen : List State} → (p : Pos) (f o : ℕ) (c : Code) (this : Val) (vs : List Val) (names : List Text) (s : State) (d : ℕ) (us : List Outer) (ks : List Fact) (hs : List ℕ) (cs : List Known) (n : ℕ) (e : End) (s' : State) →
    IsFunction s.heap s.codes f c o → c.name ≡ None → own_code c.body ≡ record { names = names; arguments = false } → o < length s.records → Outers s.records o us → Facts s.heap ks →
    Sym.alls (length s.records) o this (Sym.go (length s.records) o this d) c.body (Ends (length s.records) o e s' n seen) hs cs s.heap (s.records ++ act o (frame c vs names) ∷ []) (frame c vs names) ks us (rest_of s) 0 →
    TakesSeen (invoke p (Obj f) this vs) s n e s' seen
by_call {seen} p f o c this vs names s d us ks hs cs n e s' fn nm own below outer facts x k =
    let b = by_body c.body s o this (frame c vs names) d us ks hs cs n e s' below outer facts x k in
    let first = silent (invoke p (Obj f) this vs >>= k) ((all c.body (record { this = this; innermost = length s.records }) >>= left) >>= k) s (inside s o (frame c vs names)) (λ g. called p f o c this vs s fn k g ∙ plain f o c this vs names s nm own k g) in
    silently first b

-- the variables of a call with `arguments`
abbrev pub list_frame : Code → List Val → List Text → ℕ → Frame
list_frame c vs names a = (bound_params c.params vs ++ (arguments_name, Obj a) ∷ []) ++ undefined_variables (new_names c.params names)

listed_frame : (f o a : ℕ) (c : Code) (vs : List Val) (names : List Text) → c.name ≡ None → own_code c.body ≡ record { names = names; arguments = true } → activation c f o vs ((arguments_name, Obj a) ∷ []) ≡ act o (list_frame c vs names a)
unfolding activation
listed_frame f o a c vs names e d = ap (λ z. record { variables = (bound_params c.params vs ++ (arguments_name, Obj a) ∷ []) ++ undefined_variables (new_names c.params z.names); constants = own_name c.name f; outer = Some o }) d ∙ ap (λ z. record { variables = (bound_params c.params vs ++ (arguments_name, Obj a) ∷ []) ++ undefined_variables (new_names c.params names); constants = own_name z f; outer = Some o }) e

listed : (f o : ℕ) (c : Code) (this : Val) (vs : List Val) (names : List Text) (s : State) → c.name ≡ None → own_code c.body ≡ record { names = names; arguments = true } → (k : Completion → Task) (g : ℕ) →
    look g (enter c f o this vs >>= k) s ≡ look g ((all c.body (record { this = this; innermost = length s.records }) >>= left) >>= k) (record s { heap = s.heap ++ arguments_object vs ∷ []; records = s.records ++ act o (list_frame c vs names (length s.heap)) ∷ [] })
unfolding enter run walk moments moments_by ◌>>=◌
listed f o c this vs names s e d k g =
    ap (λ z. look g (entered z c f o this vs >>= k) s) (ap (λ z. z.arguments) d) ∙ (ap (λ a. look g (run_body c.body this a >>= k) (record s { heap = s.heap ++ arguments_object vs ∷ [] })) (listed_frame f o (length s.heap) c vs names e d) ∙ body_run c.body this (act o (list_frame c vs names (length s.heap))) (record s { heap = s.heap ++ arguments_object vs ∷ [] }) k g)

-- ---- what a simple call leaves: one record more behind one's own

pub frame_stays : (R : Records) (a b : Activation) → record_at ((R ++ a ∷ []) ++ b ∷ []) (length R) ≡ a
frame_stays R a b = let l = length-append R (a ∷ []) in Memory.record_old (R ++ a ∷ []) b (length R) (omega (arith, l)) ∙ Memory.record_new R a

pub frame_inside : (R : Records) (a b : Activation) → length R < length ((R ++ a ∷ []) ++ b ∷ [])
frame_inside R a b = let l = length-append R (a ∷ []) in let m = length-append (R ++ a ∷ []) (b ∷ []) in omega (arith, l, m)

pub seam_behind : (R : Records) (a b c : Activation) → set_record ((R ++ a ∷ []) ++ b ∷ []) (length R) c ≡ (R ++ c ∷ []) ++ b ∷ []
seam_behind R a b c = let l = length-append R (a ∷ []) in set-append_left (R ++ a ∷ []) (b ∷ []) (length R) c (omega (arith, l)) ∙ ap (λ Z. Z ++ b ∷ []) (seam R a c)

-- and what any call leaves that adds records behind one's own

pub frame_stays_on : (R : Records) (a : Activation) (more : Records) → record_at ((R ++ a ∷ []) ++ more) (length R) ≡ a
unfolding record_at
frame_stays_on R a more = let l = length-append R (a ∷ []) in get_or_append_left (R ++ a ∷ []) more _ (length R) (omega (arith, l)) ∙ Memory.record_new R a

pub frame_inside_on : (R : Records) (a : Activation) (more : Records) → length R < length ((R ++ a ∷ []) ++ more)
frame_inside_on R a more = let l = length-append R (a ∷ []) in let m = length-append (R ++ a ∷ []) more in omega (arith, l, m)

pub seam_behind_on : (R : Records) (a c : Activation) (more : Records) → set_record ((R ++ a ∷ []) ++ more) (length R) c ≡ (R ++ c ∷ []) ++ more
seam_behind_on R a c more = let l = length-append R (a ∷ []) in set-append_left (R ++ a ∷ []) more (length R) c (omega (arith, l)) ∙ ap (λ Z. Z ++ more) (seam R a c)

pub outers_old_on : (R more : Records) (o : ℕ) (us : List Outer) → Outers R o us → Outers (R ++ more) o us
outers_old_on R [] o us k = subst (λ Z. Outers Z o us) (sym (append-nil R)) k
outers_old_on R (a ∷ more) o us k = subst (λ Z. Outers Z o us) (append_assoc R (a ∷ []) more) (outers_old_on (R ++ a ∷ []) more o us (outers_old R a o us k))

-- a run from a state within a call, where only one's own record was added
pub from_here : {seen : List State} → (t : Task) (s : State) (o : ℕ) (ps0 ps : Frame) (h : Heap) (w : Rest) (n : ℕ) (e : End) (s' : State) →
    TakesSeen t (record { heap = h; codes = w.codes; records = s.records ++ act o ps ∷ []; lines = w.lines; calls = w.calls }) n e s' seen → TakesSeen t (here (length s.records) o h (s.records ++ act o ps0 ∷ []) ps w) n e s' seen
from_here {seen} t s o ps0 ps h w n e s' x = subst (λ Z. TakesSeen t (record { heap = h; codes = w.codes; records = Z; lines = w.lines; calls = w.calls }) n e s' seen) (sym (seam s.records (act o ps0) (act o ps))) x

-- ---- code in a record that is there: a node, and statements

pub by_node : {seen : List State} → (r o : ℕ) (this : Val) (q : Node) (s : State) (ps : Frame) (d : ℕ) (us : List Outer) (ks : List Fact) (hs : List ℕ) (cs : List Known) (n : ℕ) (e : End) (s' : State) →
    record_at s.records r ≡ act o ps → r < length s.records → o < r → Outers s.records o us → Away r us → Facts s.heap ks →
    Sym.go r o this d q (Stops r o e s' n seen) hs cs s.heap s.records ps ks us (rest_of s) 0 →
    DoesSeen (Sym.request r o this q) s n e s' seen
unfolding Stops record_at
by_node {seen} r o this q s ps d us ks hs cs n e s' top within below outer away facts x =
    let σ : Sit = record { hints = hs; subs = cs; heap = s.heap; records = s.records; frame = ps; facts = ks; fars = us; rest = rest_of s; units = 0 } in
    let same : set_record s.records r (act o ps) ≡ s.records = ap (λ a. set_record s.records r a) (sym top) ∙ set-get_or s.records r (record { variables = []; constants = []; outer = None }) in
    let valid : Valid r o σ = record { within = within; below = below; facts = facts; outers = subst (λ Z. Outers Z o us) (sym same) outer; away = away } in
    let a = Whole.go_right r o this d q (Stops r o e s' n seen) σ valid x in
    λ k.
    let l1 = subst (λ z. Leads a.units (Ask (Sym.request r o this q) k) z (after a.end k) (Right.real r o a.sit) a.seen) {x = record s { records = set_record s.records r (act o ps) }} {y = s} (ap (λ Z. record s { records = Z }) same) (a.leads k) in
    let l2 = subst (λ z. Leads a.units (Ask (Sym.request r o this q) k) s (after z k) (Right.real r o a.sit) a.seen) a.so.0 l1 in
    let c = a.count in let m = a.so.6 in
    finished (omega (arith, c, m)) (same_state s' a.so.1 a.so.2 a.so.3 a.so.4 a.so.5) (sym a.sees ∙ a.so.7) l2

-- ---- intrinsic functions, by what their rows say

intrinsic : (f n : ℕ) (which : HostFn) (s : State) → IsHost s.heap f n → slice_get host_functions n ≡ Some which → Intrinsic s f which
intrinsic f n which s e d = record { at = n; stands = e; listed = d }

-- a value
pub host_gives : (p : Pos) (f n : ℕ) (which : HostFn) (this : Val) (vs : List Val) (v : Val) (s : State) → IsHost s.heap f n → slice_get host_functions n ≡ Some which → row which s.heap s.lines this vs ≡ Gives v → Takes (invoke p (Obj f) this vs) s 0 (Gave (Normal v)) s
host_gives p f n which this vs v s e d r = (row_gives p f which this vs v s (intrinsic f n which s e d) r).by

-- an object is made
pub host_makes : (p : Pos) (f n : ℕ) (which : HostFn) (this : Val) (vs : List Val) (c : Cell) (s : State) → IsHost s.heap f n → slice_get host_functions n ≡ Some which → row which s.heap s.lines this vs ≡ Makes c → Takes (invoke p (Obj f) this vs) s 0 (Gave (Normal (Obj (length s.heap)))) (record s { heap = s.heap ++ c ∷ [] })
host_makes p f n which this vs c s e d r = (row_makes p f which this vs c s (intrinsic f n which s e d) r).by

-- an object is changed
pub host_sets : (p : Pos) (f n : ℕ) (which : HostFn) (this v : Val) (vs : List Val) (o : ℕ) (c : Cell) (s : State) → IsHost s.heap f n → slice_get host_functions n ≡ Some which → row which s.heap s.lines this vs ≡ Sets v o c → Takes (invoke p (Obj f) this vs) s 0 (Gave (Normal v)) (record s { heap = set_cell s.heap o c })
host_sets p f n which this v vs o c s e d r = (row_sets p f which this vs v o c s (intrinsic f n which s e d) r).by

-- a TypeError is thrown
pub host_throws : (p : Pos) (f n : ℕ) (which : HostFn) (this : Val) (vs : List Val) (message : Text) (s : State) → IsHost s.heap f n → slice_get host_functions n ≡ Some which → row which s.heap s.lines this vs ≡ Throws message → Takes (invoke p (Obj f) this vs) s 0 (Gave (Throw (Obj (length s.heap)))) (record s { heap = s.heap ++ error_object (codes "TypeError") message ∷ [] })
host_throws p f n which this vs message s e d r = (row_throws p f which this vs message s (intrinsic f n which s e d) r).by

-- the call leaves the profile
pub host_leaves : (p : Pos) (f n : ℕ) (which : HostFn) (this : Val) (vs : List Val) (o : OutKind) (s : State) → IsHost s.heap f n → slice_get host_functions n ≡ Some which → row which s.heap s.lines this vs ≡ row_kind.Leaves o → Takes (invoke p (Obj f) this vs) s 0 (Outside o p) s
unfolding row_task ◌>>=◌
host_leaves p f n which this vs o s e d r k = steps_row p f which this vs (row_kind.Leaves o) s k (intrinsic f n which s e d) r

-- a text is written
pub host_writes : (p : Pos) (f n : ℕ) (which : HostFn) (this : Val) (vs : List Val) (text : Text) (s : State) → IsHost s.heap f n → slice_get host_functions n ≡ Some which → row which s.heap s.lines this vs ≡ Writes text → TakesSeen (invoke p (Obj f) this vs) s 0 (Gave (Normal Undefined)) (printed s text) (s ∷ [])
host_writes p f n which this vs text s e d r = (row_writes p f which this vs text s (intrinsic f n which s e d) r).by

-- a line is read
pub host_reads : (p : Pos) (f n : ℕ) (which : HostFn) (this : Val) (vs : List Val) (v : Val) (j : ℕ) (s : State) → IsHost s.heap f n → slice_get host_functions n ≡ Some which → row which s.heap s.lines this vs ≡ Reads v j → TakesSeen (invoke p (Obj f) this vs) s 0 (Gave (Normal v)) (has_read s j) (s ∷ [])
host_reads p f n which this vs v j s e d r = (row_reads p f which this vs v j s (intrinsic f n which s e d) r).by

-- `call` and `apply` pass on to a function of the script, which does what it does when it is called by itself
pub host_invokes : {seen : List State} → (p : Pos) (f n : ℕ) (which : HostFn) (this : Val) (vs : List Val) (g code outer : ℕ) (that : Val) (ws : List Val) (s : State) (m : ℕ) (e : End) (s' : State) → IsHost s.heap f n → slice_get host_functions n ≡ Some which → row which s.heap s.lines this vs ≡ Invokes g that ws → (cell_at s.heap g).kind ≡ Function code outer →
    TakesSeen (invoke p (Obj g) that ws) s m e s' seen → TakesSeen (invoke p (Obj f) this vs) s m e s' seen
unfolding row_task invoke passed run walk moments moments_by ◌>>=◌
host_invokes p f n which this vs g code outer that ws s m e s' i d r h a k =
    silently
    (steps_row p f which this vs (Invokes g that ws) s k (intrinsic f n which s i d) r)
    (silently
    (silent (passed p g that ws >>= k) (invoke p (Obj g) that ws >>= k) s s (λ j.
    ap (λ z. look j (invoke_kind (λ g that ws. Leaves leave.Host p) p z s g that ws >>= k) s) h ∙ sym (ap (λ z. look j (invoke_kind (passed p) p z s g that ws >>= k) s) h)))
    (a k))

-- ---- a call of a function whose code names `arguments`

pub by_list : {seen : List State} → (p : Pos) (f o : ℕ) (c : Code) (this : Val) (vs : List Val) (names : List Text) (s : State) (ks : List Fact) (d : ℕ) (us : List Outer) (hs : List ℕ) (cs : List Known) (n : ℕ) (e : End) (s' : State) →
    IsFunction s.heap s.codes f c o → c.name ≡ None → own_code c.body ≡ record { names = names; arguments = true } → o < length s.records → Outers s.records o us → Facts (s.heap ++ arguments_object vs ∷ []) ks →
    Sym.alls (length s.records) o this (Sym.go (length s.records) o this d) c.body (Ends (length s.records) o e s' n seen) hs cs (s.heap ++ arguments_object vs ∷ []) (s.records ++ act o (list_frame c vs names (length s.heap)) ∷ []) (list_frame c vs names (length s.heap)) ks us (rest_of s) 0 →
    TakesSeen (invoke p (Obj f) this vs) s n e s' seen
by_list {seen} p f o c this vs names s ks d us hs cs n e s' fn nm own below outer facts x k =
    let s1 : State = record s { heap = s.heap ++ arguments_object vs ∷ [] } in
    let b = by_body c.body s1 o this (list_frame c vs names (length s.heap)) d us ks hs cs n e s' below outer facts x k in
    let first = silent (invoke p (Obj f) this vs >>= k) ((all c.body (record { this = this; innermost = length s.records }) >>= left) >>= k) s (inside s1 o (list_frame c vs names (length s.heap))) (λ g. called p f o c this vs s fn k g ∙ listed f o c this vs names s nm own k g) in
    silently first b

-- ---- writes to variables further out

pub assign_under : (R : Records) (a b : Activation) (c : ℕ) (x : Text) (v : Val) → c < length R → set_record (assign (R ++ a ∷ []) c x v) (length R) b ≡ assign R c x v ++ b ∷ []
unfolding assign
assign_under R a b c x v l =
    let inner : assign (R ++ a ∷ []) c x v ≡ assign R c x v ++ a ∷ [] = ap (λ z. set_record (R ++ a ∷ []) c (with_variable z x v)) (Memory.record_old R a c l) ∙ set-append_left R (a ∷ []) c (with_variable (record_at R c) x v) l in
    ap (λ Z. set_record Z (length R) b) inner ∙ (ap (λ n. set_record (assign R c x v ++ a ∷ []) n b) (sym (Memory.assign_length R c x v)) ∙ seam (assign R c x v) a b)

-- ---- the part of a `try` that takes what was thrown, in a record of its own

-- one's own variables, seen from there
pub own_outer : (R : Records) (r o : ℕ) (ps : Frame) (x : Text) (v : Val) → record_at R r ≡ act o ps → find_own ps x ≡ Some v → IsOuter R r (record { name = x; at = r; val = v; free = true })
unfolding bound_from binding_by
own_outer R r o ps x v e f = (
  ap (λ (a : Activation). if is_some (find_own a.variables x) || is_some (find_own a.constants x) then Some r else binding_by r R a.outer x) e ∙ ap (λ (q : Option Val). if is_some q || is_some (find_own [] x) then Some r else binding_by r R (Some o) x) f,
  ap (λ (a : Activation). find_own a.variables x) e ∙ f,
)

-- one's own record after a write to one of them from there
pub own_assigned : (R : Records) (b : Activation) (r o : ℕ) (ps : Frame) (x : Text) (v : Val) → record_at R r ≡ act o ps → r < length R → record_at (assign R r x v ++ b ∷ []) r ≡ act o (with_property ps x v)
unfolding assign
own_assigned R b r o ps x v e l =
    let n = Memory.assign_length R r x v in
    Memory.record_old (set_record R r (with_variable (record_at R r) x v)) b r (long n) ∙ (Memory.record_set R r (with_variable (record_at R r) x v) l ∙ ap (λ (a : Activation). with_variable a x v) e)
  where
    long : length (set_record R r (with_variable (record_at R r) x v)) ≡ length R → r < length (set_record R r (with_variable (record_at R r) x v))
    long m = omega (arith, m, l)

pub by_caught : {seen : List State} → (part : Catch) (r : ℕ) (this v : Val) (s : State) (d : ℕ) (us : List Outer) (ks : List Fact) (hs : List ℕ) (cs : List Known) (n : ℕ) (e : End) (s' : State) →
    r < length s.records → Outers s.records r us → Facts s.heap ks →
    Sym.alls (length s.records) r this (Sym.go (length s.records) r this d) (out-Catch part).body (Stops (length s.records) r e s' n seen) hs cs s.heap (s.records ++ act r (((out-Catch part).name, v) ∷ []) ∷ []) (((out-Catch part).name, v) ∷ []) ks us (rest_of s) 0 →
    TakesSeen (caught_by part (record { this = this; innermost = r }) v) s n e s' seen
unfolding Stops run walk moments moments_by ◌>>=◌
by_caught {seen} part r this v s d us ks hs cs n e s' below outer facts x k =
    let ps : Frame = ((out-Catch part).name, v) ∷ [] in
    let ts = (out-Catch part).body in
    let q = length s.records in
    let R = s.records ++ act r ps ∷ [] in
    let σ : Sit = record { hints = hs; subs = cs; heap = s.heap; records = R; frame = ps; facts = ks; fars = us; rest = rest_of s; units = 0 } in
    let same : set_record R q (act r ps) ≡ R = seam s.records (act r ps) (act r ps) in
    let long = length-append s.records (act r ps ∷ []) in
    let valid : Valid q r σ = record { within = omega (arith, long); below = below; facts = facts; outers = subst (λ Z. Outers Z r us) (sym same) (outers_old s.records (act r ps) r us outer); away = away_new s.records r us outer } in
    let a = Whole.all_go_right q r this d ts (Stops q r e s' n seen) σ valid x in
    let t = all ts (record { this = this; innermost = q }) in
    let l1 = subst (λ z. Leads a.units (t >>= k) z (after a.end k) (Right.real q r a.sit) a.seen) {x = record s { records = set_record R q (act r ps) }} {y = inside s r ps} (ap (λ Z. record s { records = Z }) same) (a.leads k) in
    let l2 = subst (λ z. Leads a.units (t >>= k) (inside s r ps) (after z k) (Right.real q r a.sit) a.seen) a.so.0 l1 in
    let c = a.count in let m = a.so.6 in
    let l3 = finished (omega (arith, c, m)) (same_state s' a.so.1 a.so.2 a.so.3 a.so.4 a.so.5) (sym a.sees ∙ a.so.7) l2 in
    let first = silent (caught_by part (record { this = this; innermost = r }) v >>= k) (t >>= k) s (inside s r ps) (λ g. refl) in
    silently first l3
