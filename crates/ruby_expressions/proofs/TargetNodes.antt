-- The node of a target.
use Rattle.std.proofs.Common.{◌≡◌, ℕ, Bool, true, false, Option, Some, None, refl}
use Rattle.std.specs.Prelude.{is_some, if◌then◌else◌}
use Rattle.ruby_meaning.specs.declared.tree.Node.{Node}
use Rattle.ruby_meaning.specs.Grammar.Actions as act
use Rattle.ruby_expressions.specs.Assignments.{may_be_set, place_of, target_at, target_kind}

by_place : (q : Option act.Place) (n : Node) → act.make (target_at q n.kind) n.span n.mark ≡ act.name_target q n
by_place None n = refl
by_place (Some (act.local name)) n = refl
by_place (Some (act.ivar name)) n = refl
by_place (Some (act.global name)) n = refl
by_place (Some (act.constant name)) n = refl
by_place (Some (act.attribute_of receiver name args)) n = refl

by_mark : (c : Bool) (q : Option act.Place) (n : Node) → is_some (if c then q else None) ≡ true → act.make (target_at q n.kind) n.span n.mark ≡ act.name_target (if c then q else None) n
by_mark true q n h = by_place q n
by_mark false q n h = cc

pub target_is : (n : Node) (w : ℕ) → act.is_place (n, w) ≡ true → act.make (target_kind n.kind) n.span n.mark ≡ act.target_node (n, w)
target_is n w h = by_mark (may_be_set w) (place_of n.kind) n h
