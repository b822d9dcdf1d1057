-- Lists of clauses, read in loops.
use Rattle.std.proofs.Common.{◌≡◌, ℕ, List, [], ◌∷◌, Bool, Result, Ok, Err, sym, ap}
use Rattle.grammar.specs.FormReaders.{and_then, read_many, read_many_from}
use Rattle.grammar.proofs.Loops.{read_many_from_is}
use Rattle.ruby_meaning.specs.declared.tree.Node.{Node}
use Rattle.ruby_meaning.specs.Grammar.Seen.{Seen}
use Rattle.descent.specs.declared.fail.Fail.{Fail}
use Rattle.descent.specs.declared.fail.Fail.TheVariants.{NoMemory, Refused}
use Rattle.descent.specs.Gives.{Gives}
use Rattle.ruby_forms.specs.Definitions.{GivesMore}

by_outcome : (n : Node) (o : Result (List Node × List Seen) (List Seen)) (result : Result (List Node) Fail) (rest : List Seen)
    → Gives (λ (x : List Node). x) (and_then o (λ ys r. Ok (n ∷ ys, r))) result rest → GivesMore n o result rest
by_outcome n (Ok (ys, after)) (Ok nodes) rest h =
    let e : ◌≡◌ {A = List Node × List Seen} (n ∷ ys, after) (nodes, rest) = cc in
    (ys, ap (λ z. Ok (ys, z.1)) e, sym (ap (λ z. z.0) e))
by_outcome n (Ok (ys, after)) (Err NoMemory) rest h = tt
by_outcome n (Ok (ys, after)) (Err Refused) rest h = cc
by_outcome n (Err y) (Ok nodes) rest h = cc
by_outcome n (Err y) (Err NoMemory) rest h = tt
by_outcome n (Err y) (Err Refused) rest h = cc

pub more_given : (first : Seen → Bool) (p : List Seen → Result (Node × List Seen) (List Seen)) (k : ℕ) (n : Node) (ts : List Seen) (result : Result (List Node) Fail) (rest : List Seen)
    → Gives (λ (x : List Node). x) (read_many_from first p k (n ∷ []) ts) result rest → GivesMore n (read_many first p k ts) result rest
more_given first p k n ts result rest h = by_outcome n (read_many first p k ts) result rest (rw (read_many_from_is first p k (n ∷ []) ts) at h)
