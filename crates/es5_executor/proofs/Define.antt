-- The run of `define`.
use Rattle.std.proofs.Common.{◌≡◌, ◌≢◌, ℕ, ◌+◌, ◌*◌, ◌<◌, Bool, true, false, List, [], ◌∷◌, ◌++◌, length, Some, refl, sym, ap, ◌∙◌, subst, arith, ⊎_elim, codes, length-append}
use Rattle.es5_tree.specs.declared.tree.EsExpr.{EsExpr}
use Rattle.es5_tree.specs.declared.tree.EsStmt.{EsStmt}
use Rattle.es5_tree.specs.declared.tree.EsStmt.TheVariants as stmt
use Rattle.es5_tree.specs.declared.tree.Operator.TheVariants as operator
use Rattle.es5_tree.specs.Values.{Text, Val, Undefined, Null, Truth, Str, Obj}
use Rattle.es5_tree.specs.Objects.Names.{is_length}
use Rattle.es5_tree.specs.Objects.Cells.{own}
use Rattle.es5_evaluation.specs.State.{State}
use Rattle.es5_evaluation.specs.Task.{Normal}
use Rattle.es5_evaluation.specs.Declared.{own_code}
use Rattle.es5_executor.specs.Builders.{name, at, index, binary, null, assign}
use Rattle.es5_executor.specs.Runs.{Gave}
use Rattle.es5_executor.specs.Memory.{Heap, has, write}
use Rattle.es5_executor.specs.Define.{define_code, next_name, Links, write_all, frame_of, IsMethod, Defines, In, DefineWrites}
use Rattle.es5_executor.proofs.Memory
use Rattle.es5_executor.proofs.Sym.{ByRun, Own, Ev, Do, act, Unless}
use Rattle.es5_executor.proofs.Calls.{by_call, by_node, seam, rest_of}
use Rattle.es5_executor.proofs.Codes.{code_is}
use Rattle.es5_executor.proofs.Loops.{Quiet, loop_ends, loop_goes}
use Rattle.es5_executor.proofs.Stepping.{stepping}

define_own : own_code define_code.body ≡ record { names = codes "l" ∷ []; arguments = false }
unfolding stepping
define_own = code_is 20 define_code.body _ refl

-- ---- the objects

links_written : (ls : List ℕ) (h : Heap) (v : Val) (l : ℕ) (n : Text) (f : Val) → IsMethod n → Links h v ls → Links (write h l n f) v ls
links_written [] h v l n f a c = c
links_written (x ∷ ls) h v l n f a (p, w, q, r) = (p, w, Memory.has_other_name h l x n next_name f a.0 (Memory.clash_apart n next_name a.1 refl) ∙ q, links_written ls h w l n f a r)

-- a value that stands there already stays
still_one : (h : Heap) (l : ℕ) (n : Text) (f : Val) (x : ℕ) → is_length n ≡ false → has h x n ≡ Some f → has (write h l n f) x n ≡ Some f
still_one h l n f x a e = ⊎_elim
    (λ (d : l ≡ x). subst (λ z. has (write h l n f) z n ≡ Some f) d (Memory.has_written h l n f a (Memory.has_inside h l n f (subst (λ z. has h z n ≡ Some f) (sym d) e))))
    (λ (d : l ≢ x). ap (λ z. own z n) (Memory.write_other h l x n f d) ∙ e)
    (Memory.same_or_not l x)

still_all : (h : Heap) (ls : List ℕ) (n : Text) (f : Val) (x : ℕ) → is_length n ≡ false → has h x n ≡ Some f → has (write_all h ls n f) x n ≡ Some f
still_all h [] n f x a e = e
still_all h (l ∷ ls) n f x a e = still_all (write h l n f) ls n f x a (still_one h l n f x a e)

-- ---- the loop

abbrev test : EsExpr
test = binary operator.Different (name (codes "l")) null

abbrev body : EsStmt
body = stmt.Block (assign (index (name (codes "l")) (name (codes "n"))) (name (codes "f")) ∷ assign (name (codes "l")) (at (name (codes "l")) next_name) ∷ [])

abbrev at_turn : State → ℕ → Heap → Val → Text → Val → Val → State
at_turn s o h m n f l = record s { heap = h; records = s.records ++ act o (frame_of m n f l) ∷ [] }

unless : (b : Bool) (P : Type 0) → b ≡ false → Unless b P
unfolding Unless
unless true P e = absurd (let f : true ≡ false = e in cc)
unless false P e = tt

loops : (ls : List ℕ) (s : State) (o : ℕ) (h : Heap) (this m : Val) (n : Text) (f v : Val) → o < length s.records → IsMethod n → Links h v ls →
    Quiet test body (record { this = this; innermost = length s.records }) (at_turn s o h m n f v) (3 + 16 * length ls) (Gave (Normal Undefined)) (at_turn s o (write_all h ls n f) m n f Null)
unfolding stepping
loops [] s o h this m n f v below a c =
    let long = length-append s.records (act o (frame_of m n f Null) ∷ []) in
    let top = Memory.record_new s.records (act o (frame_of m n f Null)) in
    let end = by_node {seen = []} (length s.records) o this (Ev test) (at_turn s o h m n f Null) (frame_of m n f Null) 20 [] [] [] [] 3 (Gave (Normal (Truth false))) _ top (omega (arith, long)) below tt tt tt (assumption (seam s.records (act o (frame_of m n f Null)) (act o (frame_of m n f Null)))) in
    subst (λ z. Quiet test body (record { this = this; innermost = length s.records }) (at_turn s o h m n f z) 3 (Gave (Normal Undefined)) (at_turn s o h m n f Null)) (sym c)
    (loop_ends test body (record { this = this; innermost = length s.records }) _ _ 3 (Truth false) end refl)
loops (l ∷ ls) s o h this m n f v below a (p, w, q, r) =
    let ps = frame_of m n f (Obj l) in
    let long = length-append s.records (act o ps ∷ []) in
    let top = Memory.record_new s.records (act o ps) in
    let apart = unless (Memory.clash n next_name) (l ≢ l) (Memory.clash_apart n next_name a.1 refl) in
    let tested = by_node {seen = []} (length s.records) o this (Ev test) (at_turn s o h m n f (Obj l)) ps 20 [] [] [] [] 3 (Gave (Normal (Truth true))) _ top (omega (arith, long)) below tt tt tt (assumption (seam s.records (act o ps) (act o ps))) in
    let done = by_node {seen = []} (length s.records) o this (Do body) (at_turn s o h m n f (Obj l)) ps 20 [] (Own l next_name w ∷ []) (99 ∷ 0 ∷ []) [] 13 (Gave (Normal Undefined)) (at_turn s o (write h l n f) m n f w) top (omega (arith, long)) below tt tt (q, tt) (assumption (a.0, apart, seam s.records (act o ps) (act o (frame_of m n f w)))) in
    let rest = loops ls s o (write h l n f) this m n f w below a (links_written ls h w l n f a r) in
    let whole = loop_goes test body (record { this = this; innermost = length s.records }) _ _ _ _ 3 13 (3 + 16 * length ls) (Truth true) Undefined (Gave (Normal Undefined)) tested refl done rest in
    subst (λ z. Quiet test body (record { this = this; innermost = length s.records }) (at_turn s o h m n f z) (3 + 16 * length (l ∷ ls)) (Gave (Normal Undefined)) (at_turn s o (write_all h (l ∷ ls) n f) m n f Null)) (sym p)
    (subst (λ j. Quiet test body (record { this = this; innermost = length s.records }) (at_turn s o h m n f (Obj l)) j (Gave (Normal Undefined)) (at_turn s o (write_all h (l ∷ ls) n f) m n f Null)) {x = 3 + (13 + (3 + 16 * length ls))} {y = 3 + 16 * length (l ∷ ls)} (omega arith) whole)

pub defines : Defines
unfolding stepping
defines p d o m n f first ls this s fn below a own c =
    let ps = frame_of (Obj m) n f first in
    let qs = frame_of (Obj m) n f Null in
    let start = frame_of (Obj m) n f Undefined in
    let long = length-append s.records (act o qs ∷ []) in
    let loop = loops ls s o s.heap this (Obj m) n f first below a c in
    let top = Memory.record_new s.records (act o qs) in
    let l : length s.records < length (s.records ++ act o qs ∷ []) = omega (arith, long) in
    let u : 5 + (3 + 16 * length ls) ≡ 8 + 16 * length ls = omega arith in
    let here_loop = subst (λ Z. Quiet test body (record { this = this; innermost = length s.records }) (record s { records = Z }) (3 + 16 * length ls) (Gave (Normal Undefined)) (at_turn s o (write_all s.heap ls n f) (Obj m) n f Null)) (sym (seam s.records (act o start) (act o ps))) loop in
    by_call p d o define_code this (Obj m ∷ Str n ∷ f ∷ []) (codes "l" ∷ []) s 20 [] (Own m (codes "$$own") first ∷ []) (0 ∷ [])
    (ByRun (record { units = 3 + 16 * length ls; end = Gave (Normal Undefined); heap = write_all s.heap ls n f; records = s.records ++ act o qs ∷ []; frame = qs; facts = []; values = []; rest = rest_of s; seen = [] }) ∷ [])
    (8 + 16 * length ls) (Gave (Normal Undefined)) _ fn refl define_own below tt (own, tt)
    (assumption (here_loop, top, l, u, seam s.records (act o qs) (act o qs)))

-- ---- what the new objects have

pub define_writes : DefineWrites
define_writes h [] n f first a c = record { size = refl; kinds = λ x. refl; links = λ x. refl; there = λ x e. absurd e; others = λ x e q. refl; names = λ x q e l. refl }
define_writes h (l ∷ ls) n f first a (p, w, q, r) =
    let rest = define_writes (write h l n f) ls n f w a (links_written ls h w l n f a r) in
    record {
      size = rest.size ∙ Memory.write_length h l n f;
      kinds = λ x. rest.kinds x ∙ Memory.kind_kept h l x n f;
      links = λ x. rest.links x ∙ Memory.link_kept h l x n f;
      there = λ x e. at_one x e.0 e (still_all (write h l n f) ls n f x a.0) rest.there;
      others = λ x e k. rest.others x e.1 k ∙ ap (λ z. own z k) (Memory.write_other h l x n f (λ d. e.0 (sym d)));
      names = λ x k e d. rest.names x k e d ∙ Memory.has_other_name h l x n k f a.0 (Memory.clash_apart n k e d);
    }
  where
    at_one : (x : ℕ) (b : Bool) → ((b : Bool) × (b ≡ true → x ≡ l) × (b ≡ false → In x ls)) → (has (write h l n f) x n ≡ Some f → has (write_all (write h l n f) ls n f) x n ≡ Some f) → ((y : ℕ) → In y ls → has (write_all (write h l n f) ls n f) y n ≡ Some f) → has (write_all (write h l n f) ls n f) x n ≡ Some f
    at_one x b (true, e, g) still there = still (subst (λ z. has (write h l n f) z n ≡ Some f) (sym (e refl)) (Memory.has_written h l n f a.0 (Memory.has_inside h l next_name w q)))
    at_one x b (false, e, g) still there = there x (g refl)
