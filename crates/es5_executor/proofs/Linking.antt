-- The runs of functions that give a new object its link, and that throw an error of the machine.
use Rattle.std.proofs.Common.{◌≡◌, ℕ, zero, suc, ◌<◌, true, false, ◌||◌, List, [], ◌∷◌, ◌++◌, length, Option, Some, None, nat_eq, refl, ap, ◌∙◌, arith, ⊎_elim, eqb-true, codes}
use Rattle.std.specs.List.{list_any}
use Rattle.es5_tree.specs.Values.{Undefined, Null, Obj}
use Rattle.es5_tree.specs.Objects.Cells.{Cell, Object, Host, new_cell}
use Rattle.es5_tree.specs.Objects.Links.{link_at, chain, first_of_chain, in_chain, Within, LinksWithin}
use Rattle.es5_evaluation.specs.Task.{Normal, Throw}
use Rattle.es5_evaluation.specs.Declared.{own_code}
use Rattle.es5_executor.specs.Runs.{Gave}
use Rattle.es5_executor.specs.Memory.{Heap, Outer}
use Rattle.es5_executor.specs.Linking.{thing_code, thing_frame, Links, read_code, ReadThrows, invoke_code, CallOfNull}
use Rattle.es5_executor.proofs.Memory
use Rattle.es5_executor.proofs.Sym.{ByRow, Fact, Own, IsKind, act}
use Rattle.es5_executor.proofs.Calls.{by_call, seam}
use Rattle.es5_executor.proofs.Codes.{code_is}
use Rattle.es5_executor.proofs.Stepping.{stepping}

-- ---- a new object stands in no chain of the others

not_this : (n o : ℕ) → o < n → nat_eq n o ≡ false
not_this n o l = ⊎_elim (λ (t : nat_eq n o ≡ true). absurd (let e = eqb-true n o t in omega (arith, e, l))) (λ f. f) (Memory.either (nat_eq n o))

chain_fresh : (k : ℕ) (h : Heap) (c : Cell) (at : Option ℕ) → LinksWithin h → Within h at → list_any (nat_eq (length h)) (first_of_chain k (h ++ c ∷ []) at) ≡ false
unfolding first_of_chain LinksWithin
chain_fresh zero h c at links inside = refl
chain_fresh (suc k) h c None links inside = refl
chain_fresh (suc k) h c (Some o) links inside =
    ap (λ b. b || list_any (nat_eq (length h)) (first_of_chain k (h ++ c ∷ []) (link_at (h ++ c ∷ []) o))) (not_this (length h) o inside)
    ∙ (ap (λ x. list_any (nat_eq (length h)) (first_of_chain k (h ++ c ∷ []) x.link)) (Memory.old_cell h c o inside) ∙ chain_fresh k h c (link_at h o) links (links o))

pub fresh_out : (h : Heap) (c : Cell) (at : Option ℕ) → LinksWithin h → Within h at → in_chain (h ++ c ∷ []) (length h) at ≡ false
unfolding in_chain chain
fresh_out h c at links inside = chain_fresh (length (h ++ c ∷ [])) h c at links inside

-- ---- the functions

thing_own : own_code thing_code.body ≡ record { names = codes "o" ∷ []; arguments = false }
unfolding stepping
thing_own = code_is 20 thing_code.body _ refl

abbrev thing_facts : List Fact
thing_facts = Own 6 (codes "create") (Obj 13) ∷ Own 6 (codes "getPrototypeOf") (Obj 14) ∷ Own 6 (codes "setPrototypeOf") (Obj 15) ∷ Own 8 (codes "isArray") (Obj 20)
    ∷ IsKind 13 (Host 0) ∷ IsKind 14 (Host 1) ∷ IsKind 15 (Host 2) ∷ IsKind 20 (Host 7) ∷ []

abbrev thing_outers : List Outer
thing_outers = record { name = codes "Object"; at = 0; val = Obj 6; free = false } ∷ record { name = codes "Array"; at = 0; val = Obj 8; free = false } ∷ []

-- behind these facts stand the kind, the link and the names of the new object
pub links : Links
unfolding stepping
links p f o h this s fn below t within inside =
    by_call p f o thing_code this (Obj h ∷ []) (codes "o" ∷ []) s 20 thing_outers thing_facts (0 ∷ 2 ∷ 9 ∷ 10 ∷ 3 ∷ 8 ∷ 0 ∷ 1 ∷ 9 ∷ []) (ByRow 4 ∷ ByRow 6 ∷ ByRow 7 ∷ ByRow 5 ∷ []) 27 (Gave (Normal (Obj h))) _ fn refl thing_own below (t.object, (t.array, tt))
    (t.create, (t.get, (t.set, (t.test, (Memory.host_inside s.heap 13 0 t.is_create, (Memory.host_inside s.heap 14 1 t.is_get, (Memory.host_inside s.heap 15 2 t.is_set, (Memory.host_inside s.heap 20 7 t.is_test, tt))))))))
    (assumption (fresh_out s.heap (new_cell Object None) (Some h) within inside, seam s.records (act o (thing_frame h Undefined)) (act o (thing_frame h (Obj (length s.heap))))))

read_own : own_code read_code.body ≡ record { names = []; arguments = false }
unfolding stepping
read_own = code_is 20 read_code.body _ refl

pub read_throws : ReadThrows
unfolding stepping
read_throws p f o this s fn below =
    by_call p f o read_code this (Null ∷ []) [] s 20 [] [] [] [] 4 (Gave (Throw (Obj (length s.heap)))) _ fn refl read_own below tt tt (assumption (seam s.records (act o ((codes "x", Null) ∷ [])) (act o ((codes "x", Null) ∷ []))))

invoke_own : own_code invoke_code.body ≡ record { names = []; arguments = false }
unfolding stepping
invoke_own = code_is 20 invoke_code.body _ refl

pub call_of_null : CallOfNull
unfolding stepping
call_of_null p f o this s fn below =
    by_call p f o invoke_code this (Null ∷ []) [] s 20 [] [] [] [] 3 (Gave (Throw (Obj (length s.heap)))) _ fn refl invoke_own below tt tt (assumption (seam s.records (act o ((codes "f", Null) ∷ [])) (act o ((codes "f", Null) ∷ []))))
