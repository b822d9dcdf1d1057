-- A program that is written in order, and what evaluation finds in it, computed: `x = 1; f { |a| x = 2; y = 3 }`.
use denote.Hole.Carrier
use Rattle.std.specs.Prelude.{◌≡◌, ℕ, pos, [], ◌∷◌, map, Some, None, codes, refl}
use Rattle.opal_base.specs.declared.place.Pos.{Pos}
use Rattle.ruby_meaning.specs.declared.tree.Base.TheBlock
use Rattle.ruby_meaning.specs.declared.tree.Kind.{Kind, out-Kind}
use Rattle.ruby_meaning.specs.declared.tree.Kind.TheVariants as kinds
use Rattle.ruby_meaning.specs.declared.tree.Node.{Node}
use Rattle.ruby_meaning.specs.declared.tree.Params.{roll-Params, out-Params}
use Rattle.ruby_meaning.specs.declared.tree.Program.{Program}
use Rattle.ruby_meaning.specs.declared.tree.Rest.TheVariants as rest
use Rattle.ruby_meaning.specs.declared.tree.Slot.TheVariants as slot
use Rattle.ruby_own_locals.specs.Law.{found_in, said, Written}

abbrev column : ℕ → Pos
column n = record { line = 0; col = n }

abbrev node : ℕ → ℕ → Kind → Node
node a z k = record { kind = k; span = record { from = column a; to = column z }; mark = column a }

abbrev inner : Node
inner = node 16 28 (kinds.Seq (node 16 21 (kinds.LocalSet (codes "x") (node 20 21 (kinds.Int (pos 2)))) ∷ node 23 28 (kinds.LocalSet (codes "y") (node 27 28 (kinds.Int (pos 3)))) ∷ []))

abbrev program : Program
program = record {
  body = node 0 30 (kinds.Seq (node 0 5 (kinds.LocalSet (codes "x") (node 4 5 (kinds.Int (pos 1))))
      ∷ node 7 30 (kinds.Call None (codes "f") [] (Some (node 9 30 (kinds.Block (roll-Params (record { plain = slot.Name (codes "a") ∷ []; optional = []; defaults = []; rest = rest.None; after = []; block = None })) inner))) None)
      ∷ []));
}

written : Written program
unfolding said out-Kind out-Params Carrier.out Carrier.shown Carrier.hidden TheBlock.shown-the_row-Node-2 roll-Params Carrier.roll
written = record { whole = refl; in_order = ((refl, tt), ((tt, tt), (tt, (tt, (tt, tt))), tt)) }

-- the file has `x`; the block has its parameter and `y`, and shares `x`
finds : map (λ own. map (λ d. d.0) own) (found_in program) ≡ (codes "x" ∷ []) ∷ (codes "a" ∷ codes "y" ∷ []) ∷ []
unfolding said out-Kind out-Params Carrier.out Carrier.shown Carrier.hidden TheBlock.shown-the_row-Node-2 roll-Params Carrier.roll
finds = refl
