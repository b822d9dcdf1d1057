-- Functions of scripts with all that they do: the value, the units and the state that they leave.
use Rattle.std.proofs.Common.{◌≡◌, ℕ, false, List, [], ◌∷◌, length, Some, refl, sym, subst}
use Rattle.std.specs.Prelude.{ℤ}
use Rattle.opal_base.specs.declared.place.Pos.{Pos}
use Rattle.es5_tree.specs.declared.tree.EsExpr.{EsExpr}
use Rattle.es5_tree.specs.declared.tree.EsKind.TheVariants as kind
use Rattle.es5_tree.specs.declared.tree.EsStmt.TheVariants as stmt
use Rattle.es5_tree.specs.Values.{Val, Obj, Num}
use Rattle.es5_tree.specs.Objects.Cells as cells
use Rattle.es5_tree.specs.Objects.Links.{cell_at}
use Rattle.es5_evaluation.specs.State.{State, code_at}
use Rattle.es5_evaluation.specs.Task.{Normal, Return, Throw, Scope, ◌>>=◌, with_record}
use Rattle.es5_evaluation.specs.Declared.{own_code}
use Rattle.es5_evaluation.specs.Evaluate.{activation}
use Rattle.es5_rules.specs.Steps.{DoesAll, Invoked}
use Rattle.es5_rules.proofs.Expressions.{gives_this, gives_num}
use Rattle.es5_rules.proofs.Statements.{all_stop, does_return, does_throw}
use Rattle.es5_rules.proofs.Calls.{invoked_function}

-- the function with the statement `return this;`
pub returns_this : (p : Pos) (f code outer : ℕ) (this : Val) (us : List Val) (s : State) (e : EsExpr) → e.kind ≡ kind.This → (cell_at s.heap f).kind ≡ cells.Function code outer → (own_code (code_at s.codes code).body).arguments ≡ false → (code_at s.codes code).body ≡ stmt.Return (Some e) ∷ []
    → Invoked p (Obj f) this us s 2 (Normal this) (with_record s (activation (code_at s.codes code) f outer us [])) []
unfolding ◌>>=◌
returns_this p f code outer this us s e h i j b =
    let ρ : Scope = record { this = this; innermost = length s.records } in
    let y : State = with_record s (activation (code_at s.codes code) f outer us []) in
    let t = does_return e ρ y y 1 this [] (gives_this e ρ y h) in
    let all : DoesAll (stmt.Return (Some e) ∷ []) ρ y 2 (Return this) y [] = all_stop (stmt.Return (Some e)) [] ρ y y 2 (Return this) [] (λ k. refl) t in
    invoked_function p f code outer this us s y 2 (Return this) (Normal this) [] i j (subst (λ l. DoesAll l ρ y 2 (Return this) y []) (sym b) all) refl

-- the function with the statement `throw n;`
pub throws_number : (p : Pos) (f code outer : ℕ) (this : Val) (us : List Val) (s : State) (e : EsExpr) (n : ℤ) → e.kind ≡ kind.Num n → (cell_at s.heap f).kind ≡ cells.Function code outer → (own_code (code_at s.codes code).body).arguments ≡ false → (code_at s.codes code).body ≡ stmt.Throw e ∷ []
    → Invoked p (Obj f) this us s 2 (Throw (Num n)) (with_record s (activation (code_at s.codes code) f outer us [])) []
unfolding ◌>>=◌
throws_number p f code outer this us s e n h i j b =
    let ρ : Scope = record { this = this; innermost = length s.records } in
    let y : State = with_record s (activation (code_at s.codes code) f outer us []) in
    let t = does_throw e ρ y y 1 (Num n) [] (gives_num e n ρ y h) in
    let all : DoesAll (stmt.Throw e ∷ []) ρ y 2 (Throw (Num n)) y [] = all_stop (stmt.Throw e) [] ρ y y 2 (Throw (Num n)) [] (λ k. refl) t in
    invoked_function p f code outer this us s y 2 (Throw (Num n)) (Throw (Num n)) [] i j (subst (λ l. DoesAll l ρ y 2 (Throw (Num n)) y []) (sym b) all) refl
