-- The runs of the function that calls one with a token.
use Rattle.std.proofs.Common.{◌≡◌, ℕ, suc, ◌+◌, ◌<◌, true, false, List, [], ◌∷◌, ◌++◌, length, refl, sym, subst, arith, append-nil, eq-eqb, codes, length-append}
use Rattle.es5_tree.specs.Tree.{start}
use Rattle.es5_tree.specs.Values.{Val, Undefined, Null, Obj}
use Rattle.es5_evaluation.specs.State.{State, record_at}
use Rattle.es5_evaluation.specs.Task.{Completion, Normal, Throw}
use Rattle.es5_evaluation.specs.Declared.{own_code}
use Rattle.es5_evaluation.specs.Evaluate.{caught_by, invoke}
use Rattle.es5_executor.specs.Runs.{Gave, Takes, TakesSeen}
use Rattle.es5_executor.specs.Memory as memory
use Rattle.es5_executor.specs.Memory.{Frame, Records}
use Rattle.es5_executor.specs.Catching.{taking, catching_code, token, catching_frame, Called, closed, taken, CatchAnswers, CatchLands, CatchThrows}
use Rattle.es5_executor.proofs.Memory
use Rattle.es5_executor.proofs.Sym.{ByRun, Own, Absent, act, here}
use Rattle.es5_executor.proofs.Calls.{assign_under, by_call, by_caught, from_here, own_assigned, own_outer, rest_of}
use Rattle.es5_executor.proofs.Bridge.{record_same}
use Rattle.es5_executor.proofs.Codes.{code_is}
use Rattle.es5_executor.proofs.Stepping.{stepping}

catching_own : own_code catching_code.body ≡ record { names = codes "k" ∷ codes "x" ∷ []; arguments = false }
unfolding stepping
catching_own = code_is 20 catching_code.body _ refl

-- the call of the function, from the place where it stands
called : (s z : State) (o g n : ℕ) (c : Completion) (vs : List State) → Called s o g n c z vs → TakesSeen (invoke start (Obj g) Undefined (Obj (length s.heap) ∷ [])) (here (length s.records) o (s.heap ++ token ∷ []) (s.records ++ act o ((codes "f", Obj g) ∷ (codes "k", Undefined) ∷ (codes "x", Undefined) ∷ []) ∷ []) (catching_frame g (length s.heap) Null) (rest_of s)) n (Gave c) z vs
called s z o g n c vs a = from_here (invoke start (Obj g) Undefined (Obj (length s.heap) ∷ [])) s o ((codes "f", Obj g) ∷ (codes "k", Undefined) ∷ (codes "x", Undefined) ∷ []) (catching_frame g (length s.heap) Null) (s.heap ++ token ∷ []) (rest_of s) n (Gave c) z a.run

-- what was thrown is taken
takes : (s z : State) (o g n e : ℕ) (c : Completion) (this : Val) (vs : List State) → Called s o g n c z vs → Takes (caught_by taking (record { this = this; innermost = length s.records }) (Obj e)) (here (length s.records) o z.heap z.records (catching_frame g (length s.heap) Null) (rest_of z)) 4 (Gave (Normal Undefined)) (taken z (length s.records) e)
unfolding stepping
takes s z o g n e c this vs a =
    let r = length s.records in
    let ps : Frame = catching_frame g (length s.heap) Null in
    let qs : Frame = (codes "$$x", Obj e) ∷ [] in
    let t : Takes (caught_by taking (record { this = this; innermost = r }) (Obj e)) z 4 (Gave (Normal Undefined)) (taken z r e) =
    by_caught taking r this (Obj e) z 20 (record { name = codes "x"; at = r; val = Null; free = true } ∷ []) [] [] [] 4 (Gave (Normal Undefined)) (taken z r e) a.inside (own_outer z.records r o ps (codes "x") Null a.stands refl, tt) tt
    (assumption (assign_under z.records (act r qs) (act r qs) r (codes "x") (Obj e) a.inside)) in
    subst (λ (Z : Records). Takes (caught_by taking (record { this = this; innermost = r }) (Obj e)) (record z { records = Z }) 4 (Gave (Normal Undefined)) (taken z r e)) (sym (record_same z.records r o ps a.stands)) t

behind : (s z : State) (o g n e : ℕ) (c : Completion) (vs : List State) → Called s o g n c z vs → record_at (taken z (length s.records) e).records (length s.records) ≡ act o (catching_frame g (length s.heap) (Obj e))
unfolding stepping
behind s z o g n e c vs a = own_assigned z.records (act (length s.records) ((codes "$$x", Obj e) ∷ [])) (length s.records) o (catching_frame g (length s.heap) Null) (codes "x") (Obj e) a.stands a.inside

longer : (s z : State) (o g n e : ℕ) (c : Completion) (vs : List State) → Called s o g n c z vs → length s.records < length (taken z (length s.records) e).records
longer s z o g n e c vs a =
    let l = length-append (memory.assign z.records (length s.records) (codes "x") (Obj e)) (act (length s.records) ((codes "$$x", Obj e) ∷ []) ∷ []) in
    let m = Memory.assign_length z.records (length s.records) (codes "x") (Obj e) in
    let i = a.inside in
    omega (arith, l, m, i)

pub catch_answers : CatchAnswers
unfolding stepping
catch_answers p f o g n a this s z vs fn below c =
    let u : suc (suc (suc (suc (suc (suc (10 + n)))))) ≡ 16 + n = omega arith in
    by_call p f o catching_code this (Obj g ∷ []) (codes "k" ∷ codes "x" ∷ []) s 20 [] [] (99 ∷ [])
    (ByRun (record { units = n; end = Gave (Normal a); heap = z.heap; records = z.records; frame = catching_frame g (length s.heap) Null; facts = []; values = []; rest = rest_of z; seen = vs }) ∷ []) (16 + n) (Gave (Normal a)) (closed z (length s.heap)) fn refl catching_own below tt tt
    (assumption (called s z o g n (Normal a) vs c, u, c.stands, c.inside, record_same z.records (length s.records) o (catching_frame g (length s.heap) Null) c.stands))

pub catch_lands : CatchLands
unfolding stepping
catch_lands p f o g n e v this s z vs fn below c t w =
    let u : suc (suc (suc (suc (suc (suc (suc (suc (suc (suc (suc (suc (suc (suc (suc (suc (suc (10 + n + 4))))))))))))))))) ≡ 31 + n = omega arith in
    by_call p f o catching_code this (Obj g ∷ []) (codes "k" ∷ codes "x" ∷ []) s 20 [] [] (99 ∷ 0 ∷ 1 ∷ 1 ∷ [])
    (ByRun (record { units = n; end = Gave (Throw (Obj e)); heap = z.heap; records = z.records; frame = catching_frame g (length s.heap) Null; facts = []; values = []; rest = rest_of z; seen = vs })
    ∷ ByRun (record { units = 4; end = Gave (Normal Undefined); heap = z.heap; records = (taken z (length s.records) e).records; frame = catching_frame g (length s.heap) (Obj e); facts = Own e (codes "$$token") (Obj (length s.heap)) ∷ Own e (codes "$$value") v ∷ []; values = []; rest = rest_of z; seen = [] })
    ∷ []) (31 + n) (Gave (Normal v)) (closed (taken z (length s.records) e) (length s.heap)) fn refl catching_own below tt tt
    (assumption (
      called s z o g n (Throw (Obj e)) vs c,
      u,
      c.stands,
      c.inside,
      takes s z o g n e (Throw (Obj e)) this vs c,
      behind s z o g n e (Throw (Obj e)) vs c,
      longer s z o g n e (Throw (Obj e)) vs c,
      append-nil vs,
      t,
      w,
      eq-eqb (length s.heap) (length s.heap) refl,
      record_same (taken z (length s.records) e).records (length s.records) o (catching_frame g (length s.heap) (Obj e)) (behind s z o g n e (Throw (Obj e)) vs c),
    ))

pub catch_throws : CatchThrows
unfolding stepping
catch_throws p f o g n e this s z vs fn below c t =
    let u : suc (suc (suc (suc (suc (suc (suc (suc (suc (suc (suc (suc (suc (suc (10 + n + 4)))))))))))))) ≡ 28 + n = omega arith in
    by_call p f o catching_code this (Obj g ∷ []) (codes "k" ∷ codes "x" ∷ []) s 20 [] [] (99 ∷ 0 ∷ 0 ∷ [])
    (ByRun (record { units = n; end = Gave (Throw (Obj e)); heap = z.heap; records = z.records; frame = catching_frame g (length s.heap) Null; facts = []; values = []; rest = rest_of z; seen = vs })
    ∷ ByRun (record { units = 4; end = Gave (Normal Undefined); heap = z.heap; records = (taken z (length s.records) e).records; frame = catching_frame g (length s.heap) (Obj e); facts = Absent e (codes "$$token") ∷ []; values = []; rest = rest_of z; seen = [] })
    ∷ []) (28 + n) (Gave (Throw (Obj e))) (closed (taken z (length s.records) e) (length s.heap)) fn refl catching_own below tt tt
    (assumption (
      called s z o g n (Throw (Obj e)) vs c,
      u,
      c.stands,
      c.inside,
      takes s z o g n e (Throw (Obj e)) this vs c,
      behind s z o g n e (Throw (Obj e)) vs c,
      longer s z o g n e (Throw (Obj e)) vs c,
      append-nil vs,
      t,
      record_same (taken z (length s.records) e).records (length s.records) o (catching_frame g (length s.heap) (Obj e)) (behind s z o g n e (Throw (Obj e)) vs c),
    ))
