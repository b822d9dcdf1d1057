-- The law: the locals that evaluation finds in a program's text are those of its scopes.
use Rattle.std.specs.Prelude.{◌≡◌, ℕ, zero, suc, Bool, true, false, not, ◌&&◌, List, [], ◌∷◌, ◌++◌, filter, length, Option, Some, None, bytes_eq, ⊤}
use Rattle.std.specs.List.{list_any}
use Rattle.opal_base.specs.declared.place.Pos.{Pos}
use Rattle.ruby_meaning.specs.declared.scope.Resolved.{Resolved}
use Rattle.ruby_meaning.specs.declared.scope.Scope.{Scope}
use Rattle.ruby_meaning.specs.declared.tree.Node.{Node}
use Rattle.ruby_meaning.specs.declared.tree.Params.{Params}
use Rattle.ruby_meaning.specs.declared.tree.Program.{Program}
use Rattle.ruby_meaning.specs.Scoping.Names.{Name, has}
use Rattle.ruby_meaning.specs.Scoping.Seen.{stands_before}
use Rattle.ruby_meaning.specs.Scoping.Scopes.{Scoped, resolved_program, scopes_of, seen}
use Rattle.ruby_evaluation.specs.State.{Ruby, frame_at}
use Rattle.ruby_evaluation.specs.Locals.{Declared, deepest, declared, declared_in_defaults, declares_before, own_of_block, parameter_places}
use Rattle.ruby_own_locals.specs.Events.{Events, end, odd, takes, sets, opens, apart, read}

-- ---- what evaluation finds

-- one of these lists, innermost first, has the name before the place
abbrev pub visible : List Declared → Pos → Name → Bool
visible around start name = list_any (λ ds. declares_before start name ds) around

-- what a block that begins there has of its own
abbrev pub own_in : List Declared → Pos → Declared → Declared → Declared
own_in around start ps ds = ps ++ filter (λ d. not (visible around start d.0)) ds

-- the own locals of each scope, in the order of the text
abbrev pub found : List Declared → Events → List Declared
found around end = []
found around odd = []
found around (takes n p r) = found around r
found around (sets n p r) = found around r
found around (opens start ps ds inner r) =
    let own = own_in around start ps ds in
    (own ∷ found (own ∷ around) inner) ++ found around r
found around (apart own inner r) = (own ∷ found (own ∷ []) inner) ++ found around r

-- what the text of a file says
unfoldable pub said : Events → Program → Events
said stray program = (read stray deepest program.body).events

-- those of the file first; in a resolved program a local may be read by itself
abbrev pub found_in : Program → List Declared
found_in program = declared program.body ∷ found (declared program.body ∷ []) (said end program)

-- ---- the tie

-- The same names, apart from the empty one, under which evaluation keeps an unnamed rest. Either list may have its own order.
abbrev pub SameNames : Declared → List Name → Type 0
SameNames ds names = (u : ℕ) (us : Name) → list_any (λ d. bytes_eq (u ∷ us) d.0) ds ≡ has names (u ∷ us)

abbrev pub SameScopes : List Declared → List Scope → Type 0
SameScopes [] [] = ⊤
SameScopes [] (s ∷ ss) = ⊥
SameScopes (d ∷ ds) [] = ⊥
SameScopes (d ∷ ds) (s ∷ ss) = SameNames d s.own × SameScopes ds ss

-- ---- what is asked of the places in a program

-- the starts of the blocks, also of those in blocks
abbrev pub starts : Events → List Pos
starts end = []
starts odd = []
starts (takes n p r) = starts r
starts (sets n p r) = starts r
starts (opens start ps ds inner r) = (start ∷ starts inner) ++ starts r
starts (apart own inner r) = starts r

-- the places of the scope's own names
abbrev pub places : Events → List Pos
places end = []
places odd = []
places (takes n p r) = p ∷ places r
places (sets n p r) = p ∷ places r
places (opens start ps ds inner r) = places r
places (apart own inner r) = places r

abbrev pub Each : (Pos → Type 0) → List Pos → Type 0
Each holds [] = ⊤
Each holds (p ∷ ps) = holds p × Each holds ps

-- A name stands before each block that follows it, and none that follows a block stands before it or before a block in it.
abbrev pub InOrder : Events → Type 0
InOrder end = ⊤
InOrder odd = ⊤
InOrder (takes n p r) = Each (λ q. stands_before p q ≡ true) (starts r) × InOrder r
InOrder (sets n p r) = Each (λ q. stands_before p q ≡ true) (starts r) × InOrder r
InOrder (opens start ps ds inner r) =
    Each (λ q. Each (λ p. stands_before p q ≡ false) (places r)) (start ∷ starts inner) × InOrder inner × InOrder r
InOrder (apart own inner r) = InOrder inner × InOrder r

abbrev pub is_whole : Events → Bool
is_whole end = true
is_whole odd = false
is_whole (takes n p r) = is_whole r
is_whole (sets n p r) = is_whole r
is_whole (opens start ps ds inner r) = is_whole inner && is_whole r
is_whole (apart own inner r) = is_whole inner && is_whole r

-- A program as it was parsed: no node is deeper than evaluation looks, no name alone is a target, a local is read by itself
-- only in `x ||= v` and `x &&= v`, and places follow the order of the text.
pub record Written (program : Program) : Type 0 where
  pub whole : is_whole (said odd program) ≡ true
  pub in_order : InOrder (said odd program)

-- Where scope refuses nothing, be each form built or not, the locals that evaluation finds in the resolved program are, scope by
-- scope, those of the scopes.
abbrev pub OwnLocals : Type 0
OwnLocals = (program : Program) → Written program → (seen None program).refusal ≡ None
    → SameScopes (found_in (resolved_program program)) (scopes_of (seen None program))

abbrev pub ScopedLocals : Type 0
ScopedLocals = (program : Program) (resolved : Resolved) → Written program → Scoped program resolved
    → SameScopes (found_in resolved.program) resolved.scopes

-- ---- a block as it is called

-- the places of the frames from this one outwards
abbrev pub frames_around : ℕ → Ruby → Option ℕ → List Declared
frames_around zero r at_frame = []
frames_around (suc n) r None = []
frames_around (suc n) r (Some k) = (frame_at r k).places ∷ frames_around n r (frame_at r k).outer

-- what a block has of its own depends on the lists of the frames around it alone
abbrev pub BlockLocals : Type 0
BlockLocals = (r : Ruby) (k : ℕ) (start : Pos) (params : Params) (node : Node)
    → own_of_block r k start params node
    ≡ own_in (frames_around (length r.frames) r (Some k)) start (parameter_places start params) (declared_in_defaults params ++ declared node)
