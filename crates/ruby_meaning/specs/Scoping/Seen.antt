-- What the text before a place says there: the locals, the scopes and called names so far, the first refusal.
use Rattle.std.specs.Prelude.{Bool, false, not, ◌&&◌, ◌||◌, if◌then◌else◌, ◌==◌, nat_lt, List, [], ◌∷◌, ◌++◌, Option, Some, None}
use Rattle.std.specs.List.{list_any}
use Rattle.opal_base.specs.declared.place.Pos.{Pos}
use Rattle.ruby_meaning.specs.declared.construct.Construct.{Construct}
use Rattle.ruby_meaning.specs.declared.construct.Construct.TheVariants as construct
use Rattle.ruby_meaning.specs.declared.scope.Refusal.{Refusal}
use Rattle.ruby_meaning.specs.declared.scope.Scope.{Scope}
use Rattle.ruby_meaning.specs.declared.scope.Seen.{Seen}
use Rattle.ruby_meaning.specs.Scoping.Names.{Name, has, with_name}

-- ---- places

abbrev pub stands_before : Pos → Pos → Bool
stands_before p q = nat_lt p.line q.line || ((p.line == q.line) && nat_lt p.col q.col)

-- Of two refusals the one that stands first counts, of two at one place the one that was noted first.
abbrev pub earlier : Option Refusal → Pos → Construct → Option Refusal
earlier None p c = Some (record { pos = p; construct = c })
earlier (Some r) p c = if stands_before p r.pos then Some (record { pos = p; construct = c }) else Some r

unfoldable pub refuse_if : Bool → Pos → Construct → Seen → Seen
refuse_if b p c s = if b then record s { refusal = earlier s.refusal p c } else s

abbrev pub earlier_place : Option Pos → Pos → Option Pos
earlier_place None p = Some p
earlier_place (Some q) p = if stands_before p q then Some p else Some q

-- a node that starts here has a form that isn't built yet
unfoldable pub unbuilt_at : Pos → Seen → Seen
unbuilt_at p s = record s { unbuilt = earlier_place s.unbuilt p }

-- ---- locals

abbrev pub outside : List (List Name) → Name → Bool
outside outer name = list_any (λ names. has names name) outer

-- an assignment or a parameter of this name stands before the place, in its scope or in one that it sees
unfoldable pub is_local : Seen → Name → Bool
is_local s name = has s.own name || outside s.outer name

-- The text names a local: one of the scope's own, or one of an outer scope, or a new one of the scope's own.
unfoldable pub name_local : Name → Seen → Seen
name_local name s =
    if has s.own name then s
    else (if outside s.outer name then record s { named = with_name s.named name }
    else record s { own = with_name s.own name })

abbrev pub is_underscored : Name → Bool
is_underscored [] = false
is_underscored (u ∷ us) = u == 95

-- A parameter is the scope's own. A second one of its name is refused, unless it begins with `_`.
unfoldable pub parameter : Pos → Name → Seen → Seen
parameter mark name s =
    let t = refuse_if (not (is_underscored name) && has s.params name) mark construct.Syntax s in
    record t { own = with_name t.own name; params = with_name t.params name }

-- ---- called names

unfoldable pub called : Name → Seen → Seen
called name s = record s { calls = with_name s.calls name }

-- ---- scopes

-- the start of a scope that sees these outer ones
unfoldable pub opened : List (List Name) → Seen → Seen
opened outer s = record s { own = []; params = []; named = []; outer = outer; scopes = [] }

-- the innermost of the outer scopes that a block sees, and the others
abbrev pub innermost : List (List Name) → List Name
innermost [] = []
innermost (x ∷ []) = x
innermost (x ∷ (y ∷ ys)) = innermost (y ∷ ys)

abbrev pub outer_ones : List (List Name) → List (List Name)
outer_ones [] = []
outer_ones (x ∷ []) = []
outer_ones (x ∷ (y ∷ ys)) = x ∷ outer_ones (y ∷ ys)

-- Behind a block the innermost scope that it saw is the scope again. The block and those within it stand behind the
-- scopes before it.
unfoldable pub block_closed : List Name → List Name → List Scope → Seen → Seen
block_closed params named scopes inner = record inner {
  own = innermost inner.outer;
  params = params;
  named = named;
  outer = outer_ones inner.outer;
  scopes = scopes ++ record { own = inner.own; outer = inner.named } ∷ inner.scopes;
}

-- Behind a body that sees no scope around it, the scope around it is as it was.
unfoldable pub body_closed : List Name → List Name → List Name → List (List Name) → List Scope → Seen → Seen
body_closed own params named outer scopes inner = record inner {
  own = own;
  params = params;
  named = named;
  outer = outer;
  scopes = scopes ++ record { own = inner.own; outer = inner.named } ∷ inner.scopes;
}
