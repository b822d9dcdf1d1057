-- Worked programs with the whole core library, computed.
use Rattle.std.specs.Prelude.{◌≡◌, [], ◌∷◌, codes, refl, Some, None, false, pos, negsuc}
use denote.Hole.Carrier
use Rattle.ruby_meaning.specs.declared.tree.Base.TheBlock
use Rattle.ruby_evaluation.specs.Ends.{Finished, Uncaught, NumberOutside}
use Rattle.ruby_meaning.specs.declared.tree.Kind.{out-Kind}
use Rattle.ruby_meaning.specs.declared.tree.Kind.TheVariants as kinds
use Rattle.ruby_meaning.specs.declared.tree.ModuleForm.TheVariants as forms
use Rattle.ruby_meaning.specs.declared.tree.ModuleForm.{out-ModuleForm}
use Rattle.ruby_meaning.specs.declared.tree.Base.TheVariants as bases
use Rattle.ruby_meaning.specs.declared.tree.Base.{out-Base}
use Rattle.ruby_meaning.specs.declared.tree.JumpKind.TheVariants as jump_kind
use Rattle.ruby_meaning.specs.declared.tree.Literal.TheVariants as literal
use Rattle.ruby_meaning.specs.declared.tree.Operator.TheVariants as operator
use Rattle.ruby_meaning.specs.declared.tree.Params.{roll-Params, out-Params}
use Rattle.ruby_meaning.specs.declared.tree.Rest.TheVariants as rest
use Rattle.ruby_evaluation.specs.Tables.{decimal}
use Rattle.ruby_evaluation.proofs.Trees.{seq}
use Rattle.ruby_evaluation.specs.Run.{outcome, eval_to}
use Rattle.ruby_evaluation.proofs.WholeCore.{nd, whole_core}
use Rattle.ruby_evaluation.proofs.Running.{Ended, Going, told, runs}
use Rattle.ruby_meaning.specs.declared.tree.Slot.TheVariants as slot

-- one text
text_written : runs whole_core ((nd 0 0 (kinds.Call None (codes "puts") ((nd 0 5 (kinds.Str (codes "hi"))) ∷ []) None None)) ∷ []) 3000 ≡ Ended ((104 ∷ 105 ∷ 10 ∷ []) ∷ []) Finished
unfolding outcome eval_to out-Kind out-Params out-Base out-ModuleForm Carrier.out Carrier.shown Carrier.hidden TheBlock.shown-the_row-Node-2 roll-Params Carrier.roll decimal
text_written = refl

-- `super` goes along the ancestors
super_along_modules : runs whole_core ((nd 0 0 (kinds.ModuleDef forms.Module (codes "P") (nd 0 10 (kinds.Seq ((nd 0 10 (kinds.Def None (codes "f") (roll-Params (record { plain = ([]); optional = ([]); defaults = ([]); rest = rest.None; after = ([]); block = None })) (nd 0 17 (kinds.Seq ((nd 0 17 (kinds.Call (Some (nd 0 17 (kinds.Str (codes "P")))) (codes "+") ((nd 0 23 (kinds.Super None None)) ∷ []) None None)) ∷ []))))) ∷ []))))) ∷ (nd 1 0 (kinds.ModuleDef forms.Module (codes "Q") (nd 1 10 (kinds.Seq ((nd 1 10 (kinds.Def None (codes "f") (roll-Params (record { plain = ([]); optional = ([]); defaults = ([]); rest = rest.None; after = ([]); block = None })) (nd 1 17 (kinds.Seq ((nd 1 17 (kinds.Call (Some (nd 1 17 (kinds.Str (codes "Q")))) (codes "+") ((nd 1 23 (kinds.Super None None)) ∷ []) None None)) ∷ []))))) ∷ []))))) ∷ (nd 2 0 (kinds.ModuleDef (forms.Class None) (codes "B") (nd 2 9 (kinds.Seq ((nd 2 9 (kinds.Def None (codes "f") (roll-Params (record { plain = ([]); optional = ([]); defaults = ([]); rest = rest.None; after = ([]); block = None })) (nd 2 16 (kinds.Seq ((nd 2 16 (kinds.Str (codes "B"))) ∷ []))))) ∷ []))))) ∷ (nd 3 0 (kinds.ModuleDef (forms.Class (Some (nd 3 10 (kinds.ConstGet bases.Here (codes "B"))))) (codes "C") (nd 3 13 (kinds.Seq ((nd 3 13 (kinds.Call None (codes "include") ((nd 3 21 (kinds.ConstGet bases.Here (codes "P"))) ∷ []) None None)) ∷ (nd 3 24 (kinds.Call None (codes "include") ((nd 3 32 (kinds.ConstGet bases.Here (codes "Q"))) ∷ []) None None)) ∷ (nd 3 35 (kinds.Def None (codes "f") (roll-Params (record { plain = ([]); optional = ([]); defaults = ([]); rest = rest.None; after = ([]); block = None })) (nd 3 42 (kinds.Seq ((nd 3 42 (kinds.Call (Some (nd 3 42 (kinds.Str (codes "C")))) (codes "+") ((nd 3 48 (kinds.Super None None)) ∷ []) None None)) ∷ []))))) ∷ []))))) ∷ (nd 4 0 (kinds.Call None (codes "puts") ((nd 4 5 (kinds.Call (Some (nd 4 5 (kinds.Call (Some (nd 4 5 (kinds.ConstGet bases.Here (codes "C")))) (codes "new") ([]) None None))) (codes "f") ([]) None None)) ∷ []) None None)) ∷ (nd 5 0 (kinds.Call None (codes "p") ((nd 5 2 (kinds.Call (Some (nd 5 2 (kinds.ConstGet bases.Here (codes "C")))) (codes "ancestors") ([]) None None)) ∷ []) None None)) ∷ []) 6000 ≡ Ended ((91 ∷ 67 ∷ 44 ∷ 32 ∷ 81 ∷ 44 ∷ 32 ∷ 80 ∷ 44 ∷ 32 ∷ 66 ∷ 44 ∷ 32 ∷ 79 ∷ 98 ∷ 106 ∷ 101 ∷ 99 ∷ 116 ∷ 44 ∷ 32 ∷ 75 ∷ 101 ∷ 114 ∷ 110 ∷ 101 ∷ 108 ∷ 93 ∷ 10 ∷ []) ∷ (67 ∷ 81 ∷ 80 ∷ 66 ∷ 10 ∷ []) ∷ []) Finished
unfolding outcome eval_to out-Kind out-Params out-Base out-ModuleForm Carrier.out Carrier.shown Carrier.hidden TheBlock.shown-the_row-Node-2 roll-Params Carrier.roll decimal
super_along_modules = refl

-- `method_missing` answers, and `respond_to?` does not count it
missing_method_answered : runs whole_core ((nd 0 0 (kinds.ModuleDef (forms.Class None) (codes "A") (nd 1 2 (kinds.Seq ((nd 1 2 (kinds.Def None (codes "method_missing") (roll-Params (record { plain = ((slot.Name (codes "name")) ∷ []); optional = ([]); defaults = ([]); rest = rest.Named (codes "args"); after = ([]); block = None })) (nd 1 35 (kinds.Seq ((nd 1 35 (kinds.Call (Some (nd 1 35 (kinds.Call (Some (nd 1 35 (kinds.LocalGet (codes "name")))) (codes "+") ((nd 1 42 (kinds.Str (codes ":"))) ∷ []) None None))) (codes "+") ((nd 1 48 (kinds.Call (Some (nd 1 48 (kinds.Call (Some (nd 1 48 (kinds.LocalGet (codes "args")))) (codes "size") ([]) None None))) (codes "to_s") ([]) None None)) ∷ []) None None)) ∷ []))))) ∷ []))))) ∷ (nd 3 0 (kinds.LocalSet (codes "a") (nd 3 4 (kinds.Call (Some (nd 3 4 (kinds.ConstGet bases.Here (codes "A")))) (codes "new") ([]) None None)))) ∷ (nd 4 0 (kinds.Call None (codes "puts") ((nd 4 5 (kinds.Call (Some (nd 4 5 (kinds.LocalGet (codes "a")))) (codes "zip_up") ((nd 4 14 (kinds.Int (pos 1))) ∷ (nd 4 17 (kinds.Int (pos 2))) ∷ []) None None)) ∷ []) None None)) ∷ (nd 5 0 (kinds.Call None (codes "puts") ((nd 5 5 (kinds.Call (Some (nd 5 5 (kinds.LocalGet (codes "a")))) (codes "respond_to?") ((nd 5 19 (kinds.Str (codes "zip_up"))) ∷ []) None None)) ∷ []) None None)) ∷ []) 6000 ≡ Ended ((102 ∷ 97 ∷ 108 ∷ 115 ∷ 101 ∷ 10 ∷ []) ∷ (122 ∷ 105 ∷ 112 ∷ 95 ∷ 117 ∷ 112 ∷ 58 ∷ 50 ∷ 10 ∷ []) ∷ []) Finished
unfolding outcome eval_to out-Kind out-Params out-Base out-ModuleForm Carrier.out Carrier.shown Carrier.hidden TheBlock.shown-the_row-Node-2 roll-Params Carrier.roll decimal
missing_method_answered = refl

-- a break leaves through an ensure part and no rescue
break_through_ensure : runs whole_core ((nd 0 0 (kinds.LocalSet (codes "v") (nd 0 4 (kinds.Call (Some (nd 0 4 (kinds.ArrayLit ((nd 0 5 (kinds.Int (pos 1))) ∷ (nd 0 8 (kinds.Int (pos 2))) ∷ (nd 0 11 (kinds.Int (pos 3))) ∷ [])))) (codes "each") ([]) (Some (nd 0 19 (kinds.Block (roll-Params (record { plain = ((slot.Name (codes "x")) ∷ []); optional = ([]); defaults = ([]); rest = rest.None; after = ([]); block = None })) (nd 1 2 (kinds.Seq ((nd 1 2 (kinds.Begin (nd 2 4 (kinds.Seq ((nd 2 4 (kinds.If (nd 2 20 (kinds.Call (Some (nd 2 20 (kinds.LocalGet (codes "x")))) (codes "==") ((nd 2 25 (kinds.Int (pos 2))) ∷ []) None None)) (nd 2 4 (kinds.Jump jump_kind.Break (nd 2 10 (kinds.Call (Some (nd 2 10 (kinds.LocalGet (codes "x")))) (codes "*") ((nd 2 14 (kinds.Int (pos 10))) ∷ []) None None)))) (nd 2 4 (kinds.Seq ([]))))) ∷ []))) ((nd 3 2 (kinds.Rescue ([]) None (nd 4 4 (kinds.Seq ((nd 4 4 (kinds.Call None (codes "puts") ((nd 4 9 (kinds.Str (codes "r"))) ∷ []) None None)) ∷ []))))) ∷ []) None (Some (nd 6 4 (kinds.Seq ((nd 6 4 (kinds.Call None (codes "puts") ((nd 6 9 (kinds.LocalGet (codes "x"))) ∷ []) None None)) ∷ [])))))) ∷ [])))))) None)))) ∷ (nd 9 0 (kinds.Call None (codes "puts") ((nd 9 5 (kinds.LocalGet (codes "v"))) ∷ []) None None)) ∷ []) 6000 ≡ Ended ((50 ∷ 48 ∷ 10 ∷ []) ∷ (50 ∷ 10 ∷ []) ∷ (49 ∷ 10 ∷ []) ∷ []) Finished
unfolding outcome eval_to out-Kind out-Params out-Base out-ModuleForm Carrier.out Carrier.shown Carrier.hidden TheBlock.shown-the_row-Node-2 roll-Params Carrier.roll decimal
break_through_ensure = refl

-- a break whose call is over, then a method of nil that is missing
orphan_break_then_missing_method : runs whole_core ((nd 0 0 (kinds.LocalSet (codes "pr") (nd 0 5 (kinds.Call None (codes "proc") ([]) (Some (nd 0 10 (kinds.Block (roll-Params (record { plain = ([]); optional = ([]); defaults = ([]); rest = rest.None; after = ([]); block = None })) (nd 0 12 (kinds.Seq ((nd 0 12 (kinds.Jump jump_kind.Break (nd 0 18 (kinds.Int (pos 1))))) ∷ [])))))) None)))) ∷ (nd 1 0 (kinds.Begin (nd 1 7 (kinds.Seq ((nd 1 7 (kinds.Call (Some (nd 1 7 (kinds.LocalGet (codes "pr")))) (codes "call") ([]) None None)) ∷ []))) ((nd 1 16 (kinds.Rescue ((nd 1 23 (kinds.ConstGet bases.Here (codes "LocalJumpError"))) ∷ []) None (nd 1 39 (kinds.Seq ((nd 1 39 (kinds.Call None (codes "puts") ((nd 1 44 (kinds.Str (codes "gone"))) ∷ []) None None)) ∷ []))))) ∷ []) None None)) ∷ (nd 2 0 (kinds.Call (Some (nd 2 0 (kinds.Lit literal.Nil))) (codes "foo") ([]) None None)) ∷ []) 6000 ≡ Ended ((103 ∷ 111 ∷ 110 ∷ 101 ∷ 10 ∷ []) ∷ []) (Uncaught (codes "NoMethodError") (codes "undefined method 'foo' for NilClass"))
unfolding outcome eval_to out-Kind out-Params out-Base out-ModuleForm Carrier.out Carrier.shown Carrier.hidden TheBlock.shown-the_row-Node-2 roll-Params Carrier.roll decimal
orphan_break_then_missing_method = refl

-- a hash shown, a quotient with its rest, texts split and replaced
library_calls : runs whole_core ((nd 0 0 (kinds.Call None (codes "p") ((nd 0 2 (kinds.HashLit ((nd 0 3 (kinds.Int (pos 1))) ∷ (nd 0 13 (kinds.Str (codes "b"))) ∷ []) ((nd 0 8 (kinds.Str (codes "a"))) ∷ (nd 0 19 (kinds.Lit literal.Nil)) ∷ []))) ∷ []) None None)) ∷ (nd 1 0 (kinds.Call None (codes "p") ((nd 1 2 (kinds.Call (Some (nd 1 2 (kinds.Int (pos 10)))) (codes "divmod") ((nd 1 12 (kinds.Int (negsuc 2))) ∷ []) None None)) ∷ []) None None)) ∷ (nd 2 0 (kinds.Call None (codes "puts") ((nd 2 5 (kinds.Call (Some (nd 2 5 (kinds.Call (Some (nd 2 5 (kinds.Str (codes "a,b,,")))) (codes "split") ((nd 2 19 (kinds.Str (codes ","))) ∷ []) None None))) (codes "size") ([]) None None)) ∷ []) None None)) ∷ (nd 3 0 (kinds.Call None (codes "puts") ((nd 3 5 (kinds.Call (Some (nd 3 5 (kinds.Str (codes "a b c")))) (codes "gsub") ((nd 3 18 (kinds.Str (codes " "))) ∷ (nd 3 23 (kinds.Str (codes "_"))) ∷ []) None None)) ∷ []) None None)) ∷ []) 20000 ≡ Ended ((97 ∷ 95 ∷ 98 ∷ 95 ∷ 99 ∷ 10 ∷ []) ∷ (50 ∷ 10 ∷ []) ∷ (91 ∷ 45 ∷ 52 ∷ 44 ∷ 32 ∷ 45 ∷ 50 ∷ 93 ∷ 10 ∷ []) ∷ (123 ∷ 49 ∷ 61 ∷ 62 ∷ 34 ∷ 97 ∷ 34 ∷ 44 ∷ 32 ∷ 34 ∷ 98 ∷ 34 ∷ 61 ∷ 62 ∷ 110 ∷ 105 ∷ 108 ∷ 125 ∷ 10 ∷ []) ∷ []) Finished
unfolding outcome eval_to out-Kind out-Params out-Base out-ModuleForm Carrier.out Carrier.shown Carrier.hidden TheBlock.shown-the_row-Node-2 roll-Params Carrier.roll decimal
library_calls = refl

-- an ordinary program
cart : runs whole_core ((nd 0 0 (kinds.Require [] false)) ∷ (nd 1 0 (kinds.ModuleDef (forms.Class None) (codes "Item") (nd 2 2 (kinds.Seq ((nd 2 2 (kinds.Call None (codes "include") ((nd 2 10 (kinds.ConstGet bases.Here (codes "Comparable"))) ∷ []) None None)) ∷ (nd 3 2 (kinds.Call None (codes "attr_reader") ((nd 3 14 (kinds.Str (codes "name"))) ∷ (nd 3 21 (kinds.Str (codes "price"))) ∷ []) None None)) ∷ (nd 4 2 (kinds.Def None (codes "initialize") (roll-Params (record { plain = ((slot.Name (codes "name")) ∷ (slot.Name (codes "price")) ∷ []); optional = ([]); defaults = ([]); rest = rest.None; after = ([]); block = None })) (nd 5 4 (kinds.Seq ((nd 5 4 (kinds.IvarSet (codes "@name") (nd 5 12 (kinds.LocalGet (codes "name"))))) ∷ (nd 6 4 (kinds.IvarSet (codes "@price") (nd 6 13 (kinds.LocalGet (codes "price"))))) ∷ []))))) ∷ (nd 8 2 (kinds.Def None (codes "<=>") (roll-Params (record { plain = ((slot.Name (codes "other")) ∷ []); optional = ([]); defaults = ([]); rest = rest.None; after = ([]); block = None })) (nd 9 4 (kinds.Seq ((nd 9 4 (kinds.Call (Some (nd 9 4 (kinds.Call None (codes "price") ([]) None None))) (codes "<=>") ((nd 9 14 (kinds.Call (Some (nd 9 14 (kinds.LocalGet (codes "other")))) (codes "price") ([]) None None)) ∷ []) None None)) ∷ []))))) ∷ (nd 11 2 (kinds.Def None (codes "to_s") (roll-Params (record { plain = ([]); optional = ([]); defaults = ([]); rest = rest.None; after = ([]); block = None })) (nd 12 4 (kinds.Seq ((nd 12 4 (kinds.Interp ((nd 12 7 (kinds.Seq ((nd 12 7 (kinds.Call None (codes "name") ([]) None None)) ∷ []))) ∷ (nd 12 12 (kinds.Str (codes " ("))) ∷ (nd 12 16 (kinds.Seq ((nd 12 16 (kinds.Call None (codes "price") ([]) None None)) ∷ []))) ∷ (nd 12 22 (kinds.Str (codes ")"))) ∷ []))) ∷ []))))) ∷ []))))) ∷ (nd 15 0 (kinds.ModuleDef (forms.Class None) (codes "Cart") (nd 16 2 (kinds.Seq ((nd 16 2 (kinds.Call None (codes "include") ((nd 16 10 (kinds.ConstGet bases.Here (codes "Enumerable"))) ∷ []) None None)) ∷ (nd 17 2 (kinds.Def None (codes "initialize") (roll-Params (record { plain = ([]); optional = ([]); defaults = ([]); rest = rest.None; after = ([]); block = None })) (nd 18 4 (kinds.Seq ((nd 18 4 (kinds.IvarSet (codes "@items") (nd 18 13 (kinds.ArrayLit ([]))))) ∷ []))))) ∷ (nd 20 2 (kinds.Def None (codes "add") (roll-Params (record { plain = ((slot.Name (codes "name")) ∷ (slot.Name (codes "price")) ∷ []); optional = ([]); defaults = ([]); rest = rest.None; after = ([]); block = None })) (nd 21 4 (kinds.Seq ((nd 21 4 (kinds.If (nd 21 50 (kinds.Call (Some (nd 21 50 (kinds.LocalGet (codes "price")))) (codes "<") ((nd 21 58 (kinds.Int (pos 0))) ∷ []) None None)) (nd 21 4 (kinds.Call None (codes "raise") ((nd 21 10 (kinds.ConstGet bases.Here (codes "ArgumentError"))) ∷ (nd 21 25 (kinds.Interp ((nd 21 26 (kinds.Str (codes "bad price: "))) ∷ (nd 21 39 (kinds.Seq ((nd 21 39 (kinds.LocalGet (codes "price"))) ∷ []))) ∷ []))) ∷ []) None None)) (nd 21 4 (kinds.Seq ([]))))) ∷ (nd 22 4 (kinds.Call (Some (nd 22 4 (kinds.IvarGet (codes "@items")))) (codes "<<") ((nd 22 14 (kinds.Call (Some (nd 22 14 (kinds.ConstGet bases.Here (codes "Item")))) (codes "new") ((nd 22 23 (kinds.LocalGet (codes "name"))) ∷ (nd 22 29 (kinds.LocalGet (codes "price"))) ∷ []) None None)) ∷ []) None None)) ∷ (nd 23 4 (kinds.SelfRef)) ∷ []))))) ∷ (nd 25 2 (kinds.Def None (codes "each") (roll-Params (record { plain = ([]); optional = ([]); defaults = ([]); rest = rest.None; after = ([]); block = (Some (codes "block")) })) (nd 26 4 (kinds.Seq ((nd 26 4 (kinds.Call (Some (nd 26 4 (kinds.IvarGet (codes "@items")))) (codes "each") ([]) (Some (nd 26 16 (kinds.BlockPass (nd 26 17 (kinds.LocalGet (codes "block")))))) None)) ∷ []))))) ∷ []))))) ∷ (nd 29 0 (kinds.LocalSet (codes "cart") (nd 29 7 (kinds.Call (Some (nd 29 7 (kinds.Call (Some (nd 29 7 (kinds.Call (Some (nd 29 7 (kinds.Call (Some (nd 29 7 (kinds.ConstGet bases.Here (codes "Cart")))) (codes "new") ([]) None None))) (codes "add") ((nd 29 20 (kinds.Str (codes "tea"))) ∷ (nd 29 27 (kinds.Int (pos 350))) ∷ []) None None))) (codes "add") ((nd 29 36 (kinds.Str (codes "jam"))) ∷ (nd 29 43 (kinds.Int (pos 420))) ∷ []) None None))) (codes "add") ((nd 29 52 (kinds.Str (codes "tea"))) ∷ (nd 29 59 (kinds.Int (pos 360))) ∷ []) None None)))) ∷ (nd 30 0 (kinds.Call (Some (nd 30 0 (kinds.LocalGet (codes "cart")))) (codes "each_with_index") ([]) (Some (nd 30 21 (kinds.Block (roll-Params (record { plain = ((slot.Name (codes "item")) ∷ (slot.Name (codes "i")) ∷ []); optional = ([]); defaults = ([]); rest = rest.None; after = ([]); block = None })) (nd 31 2 (kinds.Seq ((nd 31 2 (kinds.Call None (codes "puts") ((nd 31 7 (kinds.Interp ((nd 31 10 (kinds.Seq ((nd 31 10 (kinds.Call (Some (nd 31 10 (kinds.LocalGet (codes "i")))) (codes "+") ((nd 31 14 (kinds.Int (pos 1))) ∷ []) None None)) ∷ []))) ∷ (nd 31 16 (kinds.Str (codes ". "))) ∷ (nd 31 20 (kinds.Seq ((nd 31 20 (kinds.LocalGet (codes "item"))) ∷ []))) ∷ []))) ∷ []) None None)) ∷ [])))))) None)) ∷ (nd 33 0 (kinds.LocalSet (codes "counts") (nd 33 9 (kinds.Call (Some (nd 33 9 (kinds.ConstGet bases.Here (codes "Hash")))) (codes "new") ((nd 33 18 (kinds.Int (pos 0))) ∷ []) None None)))) ∷ (nd 34 0 (kinds.Call (Some (nd 34 0 (kinds.LocalGet (codes "cart")))) (codes "each") ([]) (Some (nd 34 10 (kinds.Block (roll-Params (record { plain = ((slot.Name (codes "item")) ∷ []); optional = ([]); defaults = ([]); rest = rest.None; after = ([]); block = None })) (nd 34 19 (kinds.Seq ((nd 34 19 (kinds.AttrOpSet (nd 34 19 (kinds.LocalGet (codes "counts"))) (codes "[]") ((nd 34 26 (kinds.Call (Some (nd 34 26 (kinds.LocalGet (codes "item")))) (codes "name") ([]) None None)) ∷ []) operator.Add (nd 34 40 (kinds.Int (pos 1))))) ∷ [])))))) None)) ∷ (nd 35 0 (kinds.Call (Some (nd 35 0 (kinds.LocalGet (codes "counts")))) (codes "each") ([]) (Some (nd 35 12 (kinds.Block (roll-Params (record { plain = ((slot.Name (codes "name")) ∷ (slot.Name (codes "n")) ∷ []); optional = ([]); defaults = ([]); rest = rest.None; after = ([]); block = None })) (nd 35 24 (kinds.Seq ((nd 35 24 (kinds.Call None (codes "puts") ((nd 35 29 (kinds.Interp ((nd 35 32 (kinds.Seq ((nd 35 32 (kinds.LocalGet (codes "name"))) ∷ []))) ∷ (nd 35 37 (kinds.Str (codes ": "))) ∷ (nd 35 41 (kinds.Seq ((nd 35 41 (kinds.LocalGet (codes "n"))) ∷ []))) ∷ []))) ∷ []) None None)) ∷ [])))))) None)) ∷ (nd 36 0 (kinds.Call None (codes "puts") ((nd 36 5 (kinds.Interp ((nd 36 6 (kinds.Str (codes "most: "))) ∷ (nd 36 14 (kinds.Seq ((nd 36 14 (kinds.Call (Some (nd 36 14 (kinds.LocalGet (codes "cart")))) (codes "max") ([]) None None)) ∷ []))) ∷ []))) ∷ []) None None)) ∷ (nd 37 0 (kinds.Call None (codes "puts") ((nd 37 5 (kinds.Call (Some (nd 37 5 (kinds.Call (Some (nd 37 5 (kinds.LocalGet (codes "cart")))) (codes "map") ([]) (Some (nd 37 14 (kinds.BlockPass (nd 37 15 (kinds.Str (codes "price")))))) None))) (codes "sum") ([]) None None)) ∷ []) None None)) ∷ (nd 38 0 (kinds.Begin (nd 39 2 (kinds.Seq ((nd 39 2 (kinds.Call (Some (nd 39 2 (kinds.LocalGet (codes "cart")))) (codes "add") ((nd 39 11 (kinds.Str (codes "x"))) ∷ (nd 39 16 (kinds.Int (negsuc 0))) ∷ []) None None)) ∷ []))) ((nd 40 0 (kinds.Rescue ((nd 40 7 (kinds.ConstGet bases.Here (codes "ArgumentError"))) ∷ []) (Some (codes "e")) (nd 41 2 (kinds.Seq ((nd 41 2 (kinds.Call None (codes "puts") ((nd 41 7 (kinds.Interp ((nd 41 8 (kinds.Str (codes "refused: "))) ∷ (nd 41 19 (kinds.Seq ((nd 41 19 (kinds.Call (Some (nd 41 19 (kinds.LocalGet (codes "e")))) (codes "message") ([]) None None)) ∷ []))) ∷ []))) ∷ []) None None)) ∷ []))))) ∷ []) None None)) ∷ (nd 43 0 (kinds.Call None (codes "p") ((nd 43 2 (kinds.Call (Some (nd 43 2 (kinds.Call (Some (nd 43 2 (kinds.LocalGet (codes "cart")))) (codes "select") ([]) (Some (nd 43 14 (kinds.Block (roll-Params (record { plain = ((slot.Name (codes "item")) ∷ []); optional = ([]); defaults = ([]); rest = rest.None; after = ([]); block = None })) (nd 43 23 (kinds.Seq ((nd 43 23 (kinds.Call (Some (nd 43 23 (kinds.LocalGet (codes "item")))) (codes ">") ((nd 43 30 (kinds.Call (Some (nd 43 30 (kinds.LocalGet (codes "cart")))) (codes "first") ([]) None None)) ∷ []) None None)) ∷ [])))))) None))) (codes "map") ([]) (Some (nd 43 47 (kinds.BlockPass (nd 43 48 (kinds.Str (codes "name")))))) None)) ∷ []) None None)) ∷ []) 60000 ≡ Ended ((91 ∷ 34 ∷ 106 ∷ 97 ∷ 109 ∷ 34 ∷ 44 ∷ 32 ∷ 34 ∷ 116 ∷ 101 ∷ 97 ∷ 34 ∷ 93 ∷ 10 ∷ []) ∷ (114 ∷ 101 ∷ 102 ∷ 117 ∷ 115 ∷ 101 ∷ 100 ∷ 58 ∷ 32 ∷ 98 ∷ 97 ∷ 100 ∷ 32 ∷ 112 ∷ 114 ∷ 105 ∷ 99 ∷ 101 ∷ 58 ∷ 32 ∷ 45 ∷ 49 ∷ 10 ∷ []) ∷ (49 ∷ 49 ∷ 51 ∷ 48 ∷ 10 ∷ []) ∷ (109 ∷ 111 ∷ 115 ∷ 116 ∷ 58 ∷ 32 ∷ 106 ∷ 97 ∷ 109 ∷ 32 ∷ 40 ∷ 52 ∷ 50 ∷ 48 ∷ 41 ∷ 10 ∷ []) ∷ (106 ∷ 97 ∷ 109 ∷ 58 ∷ 32 ∷ 49 ∷ 10 ∷ []) ∷ (116 ∷ 101 ∷ 97 ∷ 58 ∷ 32 ∷ 50 ∷ 10 ∷ []) ∷ (51 ∷ 46 ∷ 32 ∷ 116 ∷ 101 ∷ 97 ∷ 32 ∷ 40 ∷ 51 ∷ 54 ∷ 48 ∷ 41 ∷ 10 ∷ []) ∷ (50 ∷ 46 ∷ 32 ∷ 106 ∷ 97 ∷ 109 ∷ 32 ∷ 40 ∷ 52 ∷ 50 ∷ 48 ∷ 41 ∷ 10 ∷ []) ∷ (49 ∷ 46 ∷ 32 ∷ 116 ∷ 101 ∷ 97 ∷ 32 ∷ 40 ∷ 51 ∷ 53 ∷ 48 ∷ 41 ∷ 10 ∷ []) ∷ []) Finished
unfolding outcome eval_to out-Kind out-Params out-Base out-ModuleForm Carrier.out Carrier.shown Carrier.hidden TheBlock.shown-the_row-Node-2 roll-Params Carrier.roll decimal
cart = refl

-- an include and a definition reach instances that exist
include_reaches_instances : runs whole_core ((nd 0 0 (kinds.ModuleDef forms.Module (codes "M") (nd 0 10 (kinds.Seq ((nd 0 10 (kinds.Def None (codes "m") (roll-Params (record { plain = ([]); optional = ([]); defaults = ([]); rest = rest.None; after = ([]); block = None })) (nd 0 17 (kinds.Seq ((nd 0 17 (kinds.Str (codes "m"))) ∷ []))))) ∷ []))))) ∷ (nd 1 0 (kinds.ModuleDef (forms.Class None) (codes "A") (nd 1 0 (kinds.Seq ([]))))) ∷ (nd 2 0 (kinds.LocalSet (codes "a") (nd 2 4 (kinds.Call (Some (nd 2 4 (kinds.ConstGet bases.Here (codes "A")))) (codes "new") ([]) None None)))) ∷ (nd 3 0 (kinds.ModuleDef (forms.Class None) (codes "A") (nd 3 9 (kinds.Seq ((nd 3 9 (kinds.Call None (codes "include") ((nd 3 17 (kinds.ConstGet bases.Here (codes "M"))) ∷ []) None None)) ∷ []))))) ∷ (nd 4 0 (kinds.Call None (codes "puts") ((nd 4 5 (kinds.Call (Some (nd 4 5 (kinds.LocalGet (codes "a")))) (codes "m") ([]) None None)) ∷ []) None None)) ∷ (nd 5 0 (kinds.ModuleDef forms.Module (codes "M") (nd 5 10 (kinds.Seq ((nd 5 10 (kinds.Def None (codes "m") (roll-Params (record { plain = ([]); optional = ([]); defaults = ([]); rest = rest.None; after = ([]); block = None })) (nd 5 17 (kinds.Seq ((nd 5 17 (kinds.Str (codes "n"))) ∷ []))))) ∷ []))))) ∷ (nd 6 0 (kinds.Call None (codes "puts") ((nd 6 5 (kinds.Call (Some (nd 6 5 (kinds.LocalGet (codes "a")))) (codes "m") ([]) None None)) ∷ []) None None)) ∷ []) 8000 ≡ Ended ((110 ∷ 10 ∷ []) ∷ (109 ∷ 10 ∷ []) ∷ []) Finished
unfolding outcome eval_to out-Kind out-Params out-Base out-ModuleForm Carrier.out Carrier.shown Carrier.hidden TheBlock.shown-the_row-Node-2 roll-Params Carrier.roll decimal
include_reaches_instances = refl

-- a redefinition is found at once
redefined_at_once : runs whole_core ((nd 0 0 (kinds.ModuleDef (forms.Class None) (codes "A") (nd 0 9 (kinds.Seq ((nd 0 9 (kinds.Def None (codes "f") (roll-Params (record { plain = ((slot.Name (codes "n")) ∷ []); optional = ([]); defaults = ([]); rest = rest.None; after = ([]); block = None })) (nd 0 19 (kinds.Seq ((nd 0 19 (kinds.Call (Some (nd 0 19 (kinds.LocalGet (codes "n")))) (codes "+") ((nd 0 23 (kinds.Call None (codes "g") ([]) None None)) ∷ []) None None)) ∷ []))))) ∷ (nd 0 31 (kinds.Def None (codes "g") (roll-Params (record { plain = ([]); optional = ([]); defaults = ([]); rest = rest.None; after = ([]); block = None })) (nd 0 38 (kinds.Seq ((nd 0 38 (kinds.Int (pos 1))) ∷ []))))) ∷ []))))) ∷ (nd 1 0 (kinds.ModuleDef (forms.Class (Some (nd 1 10 (kinds.ConstGet bases.Here (codes "A"))))) (codes "B") (nd 1 13 (kinds.Seq ((nd 1 13 (kinds.Def None (codes "g") (roll-Params (record { plain = ([]); optional = ([]); defaults = ([]); rest = rest.None; after = ([]); block = None })) (nd 1 20 (kinds.Seq ((nd 1 20 (kinds.Int (pos 10))) ∷ []))))) ∷ []))))) ∷ (nd 2 0 (kinds.Call None (codes "puts") ((nd 2 5 (kinds.Call (Some (nd 2 5 (kinds.Call (Some (nd 2 5 (kinds.ConstGet bases.Here (codes "B")))) (codes "new") ([]) None None))) (codes "f") ((nd 2 13 (kinds.Int (pos 5))) ∷ []) None None)) ∷ []) None None)) ∷ (nd 3 0 (kinds.ModuleDef (forms.Class None) (codes "A") (nd 3 9 (kinds.Seq ((nd 3 9 (kinds.Def None (codes "f") (roll-Params (record { plain = ((slot.Name (codes "n")) ∷ []); optional = ([]); defaults = ([]); rest = rest.None; after = ([]); block = None })) (nd 3 19 (kinds.Seq ((nd 3 19 (kinds.Call (Some (nd 3 19 (kinds.LocalGet (codes "n")))) (codes "*") ((nd 3 23 (kinds.Call None (codes "g") ([]) None None)) ∷ []) None None)) ∷ []))))) ∷ []))))) ∷ (nd 4 0 (kinds.Call None (codes "puts") ((nd 4 5 (kinds.Call (Some (nd 4 5 (kinds.Call (Some (nd 4 5 (kinds.ConstGet bases.Here (codes "B")))) (codes "new") ([]) None None))) (codes "f") ((nd 4 13 (kinds.Int (pos 5))) ∷ []) None None)) ∷ []) None None)) ∷ []) 8000 ≡ Ended ((53 ∷ 48 ∷ 10 ∷ []) ∷ (49 ∷ 53 ∷ 10 ∷ []) ∷ []) Finished
unfolding outcome eval_to out-Kind out-Params out-Base out-ModuleForm Carrier.out Carrier.shown Carrier.hidden TheBlock.shown-the_row-Node-2 roll-Params Carrier.roll decimal
redefined_at_once = refl

-- retry runs the body again, and ensure at the end
retried : runs whole_core ((nd 0 0 (kinds.LocalSet (codes "n") (nd 0 4 (kinds.Int (pos 0))))) ∷ (nd 1 0 (kinds.Begin (nd 2 2 (kinds.Seq ((nd 2 2 (kinds.LocalSet (codes "n") (nd 2 2 (kinds.Call (Some (nd 2 2 (kinds.LocalGet (codes "n")))) (codes "+") ((nd 2 7 (kinds.Int (pos 1))) ∷ []) None None)))) ∷ (nd 3 2 (kinds.If (nd 3 16 (kinds.Call (Some (nd 3 16 (kinds.LocalGet (codes "n")))) (codes "<") ((nd 3 20 (kinds.Int (pos 3))) ∷ []) None None)) (nd 3 2 (kinds.Call None (codes "raise") ((nd 3 8 (kinds.Str (codes "no"))) ∷ []) None None)) (nd 3 2 (kinds.Seq ([]))))) ∷ (nd 4 2 (kinds.Call None (codes "puts") ((nd 4 7 (kinds.LocalGet (codes "n"))) ∷ []) None None)) ∷ []))) ((nd 5 0 (kinds.Rescue ([]) None (nd 6 2 (kinds.Seq ((nd 6 2 (kinds.Retry)) ∷ []))))) ∷ []) None (Some (nd 8 2 (kinds.Seq ((nd 8 2 (kinds.Call None (codes "puts") ((nd 8 7 (kinds.Str (codes "end"))) ∷ []) None None)) ∷ [])))))) ∷ []) 8000 ≡ Ended ((101 ∷ 110 ∷ 100 ∷ 10 ∷ []) ∷ (51 ∷ 10 ∷ []) ∷ []) Finished
unfolding outcome eval_to out-Kind out-Params out-Base out-ModuleForm Carrier.out Carrier.shown Carrier.hidden TheBlock.shown-the_row-Node-2 roll-Params Carrier.roll decimal
retried = refl

-- the last place of a module that stands twice counts
last_place_counts : runs whole_core ((nd 0 0 (kinds.ModuleDef (forms.Class None) (codes "Object") (nd 0 14 (kinds.Seq ((nd 0 14 (kinds.Def None (codes "f") (roll-Params (record { plain = ([]); optional = ([]); defaults = ([]); rest = rest.None; after = ([]); block = None })) (nd 0 21 (kinds.Seq ((nd 0 21 (kinds.Str (codes "O"))) ∷ []))))) ∷ []))))) ∷ (nd 1 0 (kinds.ModuleDef forms.Module (codes "M") (nd 1 10 (kinds.Seq ((nd 1 10 (kinds.Def None (codes "f") (roll-Params (record { plain = ([]); optional = ([]); defaults = ([]); rest = rest.None; after = ([]); block = None })) (nd 1 17 (kinds.Seq ((nd 1 17 (kinds.Call (Some (nd 1 17 (kinds.Str (codes "M")))) (codes "+") ((nd 1 23 (kinds.Super None None)) ∷ []) None None)) ∷ []))))) ∷ []))))) ∷ (nd 2 0 (kinds.ModuleDef (forms.Class None) (codes "B") (nd 2 9 (kinds.Seq ((nd 2 9 (kinds.Def None (codes "f") (roll-Params (record { plain = ([]); optional = ([]); defaults = ([]); rest = rest.None; after = ([]); block = None })) (nd 2 16 (kinds.Seq ((nd 2 16 (kinds.Str (codes "B"))) ∷ []))))) ∷ []))))) ∷ (nd 3 0 (kinds.ModuleDef (forms.Class (Some (nd 3 10 (kinds.ConstGet bases.Here (codes "B"))))) (codes "C") (nd 3 13 (kinds.Seq ((nd 3 13 (kinds.Call None (codes "include") ((nd 3 21 (kinds.ConstGet bases.Here (codes "M"))) ∷ []) None None)) ∷ []))))) ∷ (nd 4 0 (kinds.ModuleDef (forms.Class None) (codes "B") (nd 4 9 (kinds.Seq ((nd 4 9 (kinds.Call None (codes "include") ((nd 4 17 (kinds.ConstGet bases.Here (codes "M"))) ∷ []) None None)) ∷ []))))) ∷ (nd 5 0 (kinds.Call None (codes "puts") ((nd 5 5 (kinds.Call (Some (nd 5 5 (kinds.Call (Some (nd 5 5 (kinds.ConstGet bases.Here (codes "C")))) (codes "new") ([]) None None))) (codes "f") ([]) None None)) ∷ []) None None)) ∷ []) 8000 ≡ Ended ((77 ∷ 79 ∷ 10 ∷ []) ∷ []) Finished
unfolding outcome eval_to out-Kind out-Params out-Base out-ModuleForm Carrier.out Carrier.shown Carrier.hidden TheBlock.shown-the_row-Node-2 roll-Params Carrier.roll decimal
last_place_counts = refl

-- a later include into a module reaches no earlier includer
later_include : runs whole_core ((nd 0 0 (kinds.ModuleDef forms.Module (codes "M") (nd 0 0 (kinds.Seq ([]))))) ∷ (nd 1 0 (kinds.ModuleDef forms.Module (codes "N") (nd 1 0 (kinds.Seq ([]))))) ∷ (nd 2 0 (kinds.ModuleDef (forms.Class None) (codes "A") (nd 2 9 (kinds.Seq ((nd 2 9 (kinds.Call None (codes "include") ((nd 2 17 (kinds.ConstGet bases.Here (codes "M"))) ∷ []) None None)) ∷ []))))) ∷ (nd 3 0 (kinds.ModuleDef forms.Module (codes "M") (nd 3 10 (kinds.Seq ((nd 3 10 (kinds.Call None (codes "include") ((nd 3 18 (kinds.ConstGet bases.Here (codes "N"))) ∷ []) None None)) ∷ []))))) ∷ (nd 4 0 (kinds.Call None (codes "p") ((nd 4 2 (kinds.Call (Some (nd 4 2 (kinds.ConstGet bases.Here (codes "A")))) (codes "ancestors") ([]) None None)) ∷ []) None None)) ∷ (nd 5 0 (kinds.ModuleDef (forms.Class None) (codes "B") (nd 5 9 (kinds.Seq ((nd 5 9 (kinds.Call None (codes "include") ((nd 5 17 (kinds.ConstGet bases.Here (codes "M"))) ∷ []) None None)) ∷ []))))) ∷ (nd 6 0 (kinds.Call None (codes "p") ((nd 6 2 (kinds.Call (Some (nd 6 2 (kinds.ConstGet bases.Here (codes "B")))) (codes "ancestors") ([]) None None)) ∷ []) None None)) ∷ []) 8000 ≡ Ended ((91 ∷ 66 ∷ 44 ∷ 32 ∷ 77 ∷ 44 ∷ 32 ∷ 78 ∷ 44 ∷ 32 ∷ 79 ∷ 98 ∷ 106 ∷ 101 ∷ 99 ∷ 116 ∷ 44 ∷ 32 ∷ 75 ∷ 101 ∷ 114 ∷ 110 ∷ 101 ∷ 108 ∷ 93 ∷ 10 ∷ []) ∷ (91 ∷ 65 ∷ 44 ∷ 32 ∷ 77 ∷ 44 ∷ 32 ∷ 79 ∷ 98 ∷ 106 ∷ 101 ∷ 99 ∷ 116 ∷ 44 ∷ 32 ∷ 75 ∷ 101 ∷ 114 ∷ 110 ∷ 101 ∷ 108 ∷ 93 ∷ 10 ∷ []) ∷ []) Finished
unfolding outcome eval_to out-Kind out-Params out-Base out-ModuleForm Carrier.out Carrier.shown Carrier.hidden TheBlock.shown-the_row-Node-2 roll-Params Carrier.roll decimal
later_include = refl

-- operators are methods
operators_as_methods : runs whole_core ((nd 0 0 (kinds.ModuleDef (forms.Class None) (codes "V") (nd 1 2 (kinds.Seq ((nd 1 2 (kinds.Def None (codes "-@") (roll-Params (record { plain = ([]); optional = ([]); defaults = ([]); rest = rest.None; after = ([]); block = None })) (nd 2 4 (kinds.Seq ((nd 2 4 (kinds.Str (codes "neg"))) ∷ []))))) ∷ (nd 4 2 (kinds.Def None (codes "/") (roll-Params (record { plain = ((slot.Name (codes "o")) ∷ []); optional = ([]); defaults = ([]); rest = rest.None; after = ([]); block = None })) (nd 5 4 (kinds.Seq ((nd 5 4 (kinds.Str (codes "div"))) ∷ []))))) ∷ []))))) ∷ (nd 8 0 (kinds.LocalSet (codes "v") (nd 8 4 (kinds.Call (Some (nd 8 4 (kinds.ConstGet bases.Here (codes "V")))) (codes "new") ([]) None None)))) ∷ (nd 9 0 (kinds.Call None (codes "puts") ((nd 9 5 (kinds.Call (Some (nd 9 6 (kinds.LocalGet (codes "v")))) (codes "-@") ([]) None None)) ∷ []) None None)) ∷ (nd 10 0 (kinds.Call None (codes "puts") ((nd 10 5 (kinds.Call (Some (nd 10 5 (kinds.LocalGet (codes "v")))) (codes "/") ((nd 10 9 (kinds.LocalGet (codes "v"))) ∷ []) None None)) ∷ []) None None)) ∷ []) 8000 ≡ Ended ((100 ∷ 105 ∷ 118 ∷ 10 ∷ []) ∷ (110 ∷ 101 ∷ 103 ∷ 10 ∷ []) ∷ []) Finished
unfolding outcome eval_to out-Kind out-Params out-Base out-ModuleForm Carrier.out Carrier.shown Carrier.hidden TheBlock.shown-the_row-Node-2 roll-Params Carrier.roll decimal
operators_as_methods = refl

-- quotients round towards minus infinity
quotients : runs whole_core ((nd 0 0 (kinds.Call None (codes "puts") ((nd 0 5 (kinds.Call (Some (nd 0 5 (kinds.Int (negsuc 6)))) (codes "/") ((nd 0 10 (kinds.Int (pos 2))) ∷ []) None None)) ∷ []) None None)) ∷ (nd 0 14 (kinds.Call None (codes "puts") ((nd 0 19 (kinds.Call (Some (nd 0 19 (kinds.Int (negsuc 6)))) (codes "%") ((nd 0 24 (kinds.Int (pos 2))) ∷ []) None None)) ∷ []) None None)) ∷ (nd 0 28 (kinds.Call None (codes "puts") ((nd 0 33 (kinds.Call (Some (nd 0 33 (kinds.Int (negsuc 9007199254740990)))) (codes "/") ((nd 0 53 (kinds.Int (pos 2))) ∷ []) None None)) ∷ []) None None)) ∷ []) 8000 ≡ Ended ((45 ∷ 52 ∷ 53 ∷ 48 ∷ 51 ∷ 53 ∷ 57 ∷ 57 ∷ 54 ∷ 50 ∷ 55 ∷ 51 ∷ 55 ∷ 48 ∷ 52 ∷ 57 ∷ 54 ∷ 10 ∷ []) ∷ (49 ∷ 10 ∷ []) ∷ (45 ∷ 52 ∷ 10 ∷ []) ∷ []) Finished
unfolding outcome eval_to out-Kind out-Params out-Base out-ModuleForm Carrier.out Carrier.shown Carrier.hidden TheBlock.shown-the_row-Node-2 roll-Params Carrier.roll decimal
quotients = refl

-- a sum outside the range ends the run
sum_outside : runs whole_core ((nd 0 0 (kinds.LocalSet (codes "a") (nd 0 4 (kinds.Int (pos 9007199254740991))))) ∷ (nd 0 22 (kinds.Call None (codes "puts") ((nd 0 27 (kinds.LocalGet (codes "a"))) ∷ []) None None)) ∷ (nd 0 30 (kinds.Call None (codes "puts") ((nd 0 35 (kinds.Call (Some (nd 0 35 (kinds.LocalGet (codes "a")))) (codes "+") ((nd 0 39 (kinds.Int (pos 1))) ∷ []) None None)) ∷ []) None None)) ∷ []) 8000 ≡ Ended ((57 ∷ 48 ∷ 48 ∷ 55 ∷ 49 ∷ 57 ∷ 57 ∷ 50 ∷ 53 ∷ 52 ∷ 55 ∷ 52 ∷ 48 ∷ 57 ∷ 57 ∷ 49 ∷ 10 ∷ []) ∷ []) NumberOutside
unfolding outcome eval_to out-Kind out-Params out-Base out-ModuleForm Carrier.out Carrier.shown Carrier.hidden TheBlock.shown-the_row-Node-2 roll-Params Carrier.roll decimal
sum_outside = refl

-- a line of the input
line_of_input : told (outcome whole_core (record { main = codes "main.rb"; files = (codes "main.rb", seq ((nd 0 0 (kinds.Call None (codes "puts") ((nd 0 5 (kinds.Call (Some (nd 0 5 (kinds.Call None (codes "gets") ([]) None None))) (codes "length") ([]) None None)) ∷ []) None None)) ∷ [])) ∷ [] }) (55357 ∷ 56832 ∷ 10 ∷ []) 8000) ≡ Ended ((51 ∷ 10 ∷ []) ∷ []) Finished
unfolding outcome eval_to out-Kind out-Params out-Base out-ModuleForm Carrier.out Carrier.shown Carrier.hidden TheBlock.shown-the_row-Node-2 roll-Params Carrier.roll decimal
line_of_input = refl

-- a break gives the value of the call
break_of_each : runs whole_core ((nd 0 0 (kinds.Call None (codes "puts") ((nd 0 5 (kinds.Call (Some (nd 0 5 (kinds.ArrayLit ((nd 0 6 (kinds.Int (pos 1))) ∷ (nd 0 9 (kinds.Int (pos 2))) ∷ (nd 0 12 (kinds.Int (pos 3))) ∷ [])))) (codes "each") ([]) (Some (nd 0 20 (kinds.Block (roll-Params (record { plain = ((slot.Name (codes "x")) ∷ []); optional = ([]); defaults = ([]); rest = rest.None; after = ([]); block = None })) (nd 0 26 (kinds.Seq ((nd 0 26 (kinds.If (nd 0 42 (kinds.Call (Some (nd 0 42 (kinds.LocalGet (codes "x")))) (codes "==") ((nd 0 47 (kinds.Int (pos 2))) ∷ []) None None)) (nd 0 26 (kinds.Jump jump_kind.Break (nd 0 32 (kinds.Call (Some (nd 0 32 (kinds.LocalGet (codes "x")))) (codes "*") ((nd 0 36 (kinds.Int (pos 10))) ∷ []) None None)))) (nd 0 26 (kinds.Seq ([]))))) ∷ [])))))) None)) ∷ []) None None)) ∷ []) 8000 ≡ Ended ((50 ∷ 48 ∷ 10 ∷ []) ∷ []) Finished
unfolding outcome eval_to out-Kind out-Params out-Base out-ModuleForm Carrier.out Carrier.shown Carrier.hidden TheBlock.shown-the_row-Node-2 roll-Params Carrier.roll decimal
break_of_each = refl

-- a block takes fewer and more values
block_parameters : runs whole_core ((nd 0 0 (kinds.Def None (codes "m") (roll-Params (record { plain = ([]); optional = ([]); defaults = ([]); rest = rest.None; after = ([]); block = None })) (nd 0 7 (kinds.Seq ((nd 0 7 (kinds.Yield ((nd 0 13 (kinds.Int (pos 1))) ∷ (nd 0 16 (kinds.Int (pos 2))) ∷ []))) ∷ []))))) ∷ (nd 1 0 (kinds.Call None (codes "m") ([]) (Some (nd 1 2 (kinds.Block (roll-Params (record { plain = ((slot.Name (codes "a")) ∷ (slot.Name (codes "b")) ∷ (slot.Name (codes "c")) ∷ []); optional = ([]); defaults = ([]); rest = rest.None; after = ([]); block = None })) (nd 1 14 (kinds.Seq ((nd 1 14 (kinds.Call None (codes "puts") ((nd 1 19 (kinds.Call (Some (nd 1 19 (kinds.LocalGet (codes "c")))) (codes "nil?") ([]) None None)) ∷ []) None None)) ∷ [])))))) None)) ∷ (nd 2 0 (kinds.Call None (codes "m") ([]) (Some (nd 2 2 (kinds.Block (roll-Params (record { plain = ((slot.Name (codes "a")) ∷ []); optional = ([]); defaults = ([]); rest = rest.None; after = ([]); block = None })) (nd 2 8 (kinds.Seq ((nd 2 8 (kinds.Call None (codes "puts") ((nd 2 13 (kinds.LocalGet (codes "a"))) ∷ []) None None)) ∷ [])))))) None)) ∷ []) 8000 ≡ Ended ((49 ∷ 10 ∷ []) ∷ (116 ∷ 114 ∷ 117 ∷ 101 ∷ 10 ∷ []) ∷ []) Finished
unfolding outcome eval_to out-Kind out-Params out-Base out-ModuleForm Carrier.out Carrier.shown Carrier.hidden TheBlock.shown-the_row-Node-2 roll-Params Carrier.roll decimal
block_parameters = refl

-- a lambda counts its arguments
lambda_arguments : runs whole_core ((nd 0 0 (kinds.LocalSet (codes "f") (nd 0 4 (kinds.Lambda (roll-Params (record { plain = ((slot.Name (codes "x")) ∷ []); optional = ([]); defaults = ([]); rest = rest.None; after = ([]); block = None })) (nd 0 17 (kinds.Seq ((nd 0 17 (kinds.Jump jump_kind.Return (nd 0 24 (kinds.Call (Some (nd 0 24 (kinds.LocalGet (codes "x")))) (codes "+") ((nd 0 28 (kinds.Int (pos 1))) ∷ []) None None)))) ∷ []))))))) ∷ (nd 1 0 (kinds.Call None (codes "puts") ((nd 1 5 (kinds.Call (Some (nd 1 5 (kinds.LocalGet (codes "f")))) (codes "call") ((nd 1 12 (kinds.Int (pos 4))) ∷ []) None None)) ∷ []) None None)) ∷ (nd 2 0 (kinds.Call (Some (nd 2 0 (kinds.LocalGet (codes "f")))) (codes "call") ([]) None None)) ∷ []) 8000 ≡ Ended ((53 ∷ 10 ∷ []) ∷ []) (Uncaught (codes "ArgumentError") (codes "wrong number of arguments (given 0, expected 1)"))
unfolding outcome eval_to out-Kind out-Params out-Base out-ModuleForm Carrier.out Carrier.shown Carrier.hidden TheBlock.shown-the_row-Node-2 roll-Params Carrier.roll decimal
lambda_arguments = refl

-- a cyclic include
cyclic_include : runs whole_core ((nd 0 0 (kinds.ModuleDef forms.Module (codes "M") (nd 0 0 (kinds.Seq ([]))))) ∷ (nd 1 0 (kinds.ModuleDef forms.Module (codes "N") (nd 1 10 (kinds.Seq ((nd 1 10 (kinds.Call None (codes "include") ((nd 1 18 (kinds.ConstGet bases.Here (codes "M"))) ∷ []) None None)) ∷ []))))) ∷ (nd 2 0 (kinds.ModuleDef forms.Module (codes "M") (nd 2 10 (kinds.Seq ((nd 2 10 (kinds.Call None (codes "include") ((nd 2 18 (kinds.ConstGet bases.Here (codes "N"))) ∷ []) None None)) ∷ []))))) ∷ []) 8000 ≡ Ended ([]) (Uncaught (codes "ArgumentError") (codes "cyclic include"))
unfolding outcome eval_to out-Kind out-Params out-Base out-ModuleForm Carrier.out Carrier.shown Carrier.hidden TheBlock.shown-the_row-Node-2 roll-Params Carrier.roll decimal
cyclic_include = refl

-- a singleton class
singleton_class : runs whole_core ((nd 0 0 (kinds.LocalSet (codes "a") (nd 0 4 (kinds.Call (Some (nd 0 4 (kinds.ConstGet bases.Here (codes "Object")))) (codes "new") ([]) None None)))) ∷ (nd 1 0 (kinds.ModuleDef (forms.Singleton (nd 1 9 (kinds.LocalGet (codes "a")))) (codes "''") (nd 1 12 (kinds.Seq ((nd 1 12 (kinds.Def None (codes "f") (roll-Params (record { plain = ([]); optional = ([]); defaults = ([]); rest = rest.None; after = ([]); block = None })) (nd 1 19 (kinds.Seq ((nd 1 19 (kinds.Str (codes "one"))) ∷ []))))) ∷ []))))) ∷ (nd 2 0 (kinds.Call None (codes "puts") ((nd 2 5 (kinds.Call (Some (nd 2 5 (kinds.LocalGet (codes "a")))) (codes "f") ([]) None None)) ∷ []) None None)) ∷ (nd 3 0 (kinds.Call None (codes "puts") ((nd 3 5 (kinds.Call (Some (nd 3 5 (kinds.LocalGet (codes "a")))) (codes "singleton_class") ([]) None None)) ∷ []) None None)) ∷ []) 8000 ≡ Ended ((35 ∷ 60 ∷ 67 ∷ 108 ∷ 97 ∷ 115 ∷ 115 ∷ 58 ∷ 35 ∷ 60 ∷ 79 ∷ 98 ∷ 106 ∷ 101 ∷ 99 ∷ 116 ∷ 62 ∷ 62 ∷ 10 ∷ []) ∷ (111 ∷ 110 ∷ 101 ∷ 10 ∷ []) ∷ []) Finished
unfolding outcome eval_to out-Kind out-Params out-Base out-ModuleForm Carrier.out Carrier.shown Carrier.hidden TheBlock.shown-the_row-Node-2 roll-Params Carrier.roll decimal
singleton_class = refl

-- undef and a later definition
undefined_method : runs whole_core ((nd 0 0 (kinds.ModuleDef (forms.Class None) (codes "A") (nd 0 9 (kinds.Seq ((nd 0 9 (kinds.Def None (codes "f") (roll-Params (record { plain = ([]); optional = ([]); defaults = ([]); rest = rest.None; after = ([]); block = None })) (nd 0 16 (kinds.Seq ((nd 0 16 (kinds.Str (codes "A"))) ∷ []))))) ∷ []))))) ∷ (nd 1 0 (kinds.ModuleDef (forms.Class (Some (nd 1 10 (kinds.ConstGet bases.Here (codes "A"))))) (codes "B") (nd 1 13 (kinds.Seq ((nd 1 13 (kinds.Undef ((codes "f") ∷ []))) ∷ []))))) ∷ (nd 2 0 (kinds.LocalSet (codes "b") (nd 2 4 (kinds.Call (Some (nd 2 4 (kinds.ConstGet bases.Here (codes "B")))) (codes "new") ([]) None None)))) ∷ (nd 3 0 (kinds.Call None (codes "puts") ((nd 3 5 (kinds.Call (Some (nd 3 5 (kinds.LocalGet (codes "b")))) (codes "respond_to?") ((nd 3 19 (kinds.Str (codes "f"))) ∷ []) None None)) ∷ []) None None)) ∷ (nd 4 0 (kinds.ModuleDef (forms.Class None) (codes "B") (nd 4 9 (kinds.Seq ((nd 4 9 (kinds.Def None (codes "f") (roll-Params (record { plain = ([]); optional = ([]); defaults = ([]); rest = rest.None; after = ([]); block = None })) (nd 4 16 (kinds.Seq ((nd 4 16 (kinds.Str (codes "B"))) ∷ []))))) ∷ []))))) ∷ (nd 5 0 (kinds.Call None (codes "puts") ((nd 5 5 (kinds.Call (Some (nd 5 5 (kinds.LocalGet (codes "b")))) (codes "f") ([]) None None)) ∷ []) None None)) ∷ []) 8000 ≡ Ended ((66 ∷ 10 ∷ []) ∷ (102 ∷ 97 ∷ 108 ∷ 115 ∷ 101 ∷ 10 ∷ []) ∷ []) Finished
unfolding outcome eval_to out-Kind out-Params out-Base out-ModuleForm Carrier.out Carrier.shown Carrier.hidden TheBlock.shown-the_row-Node-2 roll-Params Carrier.roll decimal
undefined_method = refl

-- a text has no singleton class
no_singleton : runs whole_core ((nd 0 0 (kinds.Call (Some (nd 0 0 (kinds.Str (codes "x")))) (codes "extend") ((nd 0 11 (kinds.ConstGet bases.Here (codes "Kernel"))) ∷ []) None None)) ∷ []) 8000 ≡ Ended ([]) (Uncaught (codes "TypeError") (codes "no singleton: String"))
unfolding outcome eval_to out-Kind out-Params out-Base out-ModuleForm Carrier.out Carrier.shown Carrier.hidden TheBlock.shown-the_row-Node-2 roll-Params Carrier.roll decimal
no_singleton = refl

-- the method is looked up behind its arguments
alias_before_the_call : runs whole_core ((nd 0 0 (kinds.ModuleDef (forms.Class None) (codes "A") (nd 1 2 (kinds.Seq ((nd 1 2 (kinds.Def None (codes "f") (roll-Params (record { plain = ((slot.Name (codes "x")) ∷ []); optional = ([]); defaults = ([]); rest = rest.None; after = ([]); block = None })) (nd 1 12 (kinds.Seq ((nd 1 12 (kinds.Call (Some (nd 1 12 (kinds.Str (codes "old ")))) (codes "+") ((nd 1 21 (kinds.LocalGet (codes "x"))) ∷ []) None None)) ∷ []))))) ∷ (nd 2 2 (kinds.Def None (codes "g") (roll-Params (record { plain = ((slot.Name (codes "x")) ∷ []); optional = ([]); defaults = ([]); rest = rest.None; after = ([]); block = None })) (nd 2 12 (kinds.Seq ((nd 2 12 (kinds.Call (Some (nd 2 12 (kinds.Str (codes "new ")))) (codes "+") ((nd 2 21 (kinds.LocalGet (codes "x"))) ∷ []) None None)) ∷ []))))) ∷ (nd 3 2 (kinds.Def None (codes "change") (roll-Params (record { plain = ([]); optional = ([]); defaults = ([]); rest = rest.None; after = ([]); block = None })) (nd 3 14 (kinds.Seq ((nd 3 14 (kinds.Call (Some (nd 3 14 (kinds.ConstGet bases.Here (codes "A")))) (codes "alias_method") ((nd 3 29 (kinds.Str (codes "f"))) ∷ (nd 3 34 (kinds.Str (codes "g"))) ∷ []) None None)) ∷ (nd 3 40 (kinds.Str (codes "x"))) ∷ []))))) ∷ []))))) ∷ (nd 5 0 (kinds.LocalSet (codes "a") (nd 5 4 (kinds.Call (Some (nd 5 4 (kinds.ConstGet bases.Here (codes "A")))) (codes "new") ([]) None None)))) ∷ (nd 6 0 (kinds.Call None (codes "puts") ((nd 6 5 (kinds.Call (Some (nd 6 5 (kinds.LocalGet (codes "a")))) (codes "f") ((nd 6 9 (kinds.Call (Some (nd 6 9 (kinds.LocalGet (codes "a")))) (codes "change") ([]) None None)) ∷ []) None None)) ∷ []) None None)) ∷ []) 8000 ≡ Ended ((110 ∷ 101 ∷ 119 ∷ 32 ∷ 120 ∷ 10 ∷ []) ∷ []) Finished
unfolding outcome eval_to out-Kind out-Params out-Base out-ModuleForm Carrier.out Carrier.shown Carrier.hidden TheBlock.shown-the_row-Node-2 roll-Params Carrier.roll decimal
alias_before_the_call = refl

-- a return leaves through an ensure part
return_through_ensure : runs whole_core ((nd 0 0 (kinds.Def None (codes "f") (roll-Params (record { plain = ([]); optional = ([]); defaults = ([]); rest = rest.None; after = ([]); block = None })) (nd 0 7 (kinds.Begin (nd 0 7 (kinds.Seq ((nd 0 7 (kinds.Call (Some (nd 0 7 (kinds.ArrayLit ((nd 0 8 (kinds.Int (pos 1))) ∷ (nd 0 11 (kinds.Int (pos 2))) ∷ [])))) (codes "each") ([]) (Some (nd 0 19 (kinds.Block (roll-Params (record { plain = ((slot.Name (codes "x")) ∷ []); optional = ([]); defaults = ([]); rest = rest.None; after = ([]); block = None })) (nd 0 25 (kinds.Seq ((nd 0 25 (kinds.Jump jump_kind.Return (nd 0 32 (kinds.LocalGet (codes "x"))))) ∷ [])))))) None)) ∷ []))) ([]) None (Some (nd 0 45 (kinds.Seq ((nd 0 45 (kinds.Call None (codes "puts") ((nd 0 50 (kinds.Str (codes "e"))) ∷ []) None None)) ∷ [])))))))) ∷ (nd 1 0 (kinds.Call None (codes "puts") ((nd 1 5 (kinds.Call None (codes "f") ([]) None None)) ∷ []) None None)) ∷ []) 8000 ≡ Ended ((49 ∷ 10 ∷ []) ∷ (101 ∷ 10 ∷ []) ∷ []) Finished
unfolding outcome eval_to out-Kind out-Params out-Base out-ModuleForm Carrier.out Carrier.shown Carrier.hidden TheBlock.shown-the_row-Node-2 roll-Params Carrier.roll decimal
return_through_ensure = refl

-- the empty file writes nothing
empty_file : runs whole_core ([]) 3000 ≡ Ended ([]) Finished
unfolding outcome eval_to out-Kind out-Params out-Base out-ModuleForm Carrier.out Carrier.shown Carrier.hidden TheBlock.shown-the_row-Node-2 roll-Params Carrier.roll decimal
empty_file = refl

-- a local is read before a later argument changes it
read_before_change : runs whole_core ((nd 0 0 (kinds.LocalSet (codes "a") (nd 0 4 (kinds.Int (pos 1))))) ∷ (nd 0 7 (kinds.Call None (codes "puts") ((nd 0 12 (kinds.Call (Some (nd 0 12 (kinds.LocalGet (codes "a")))) (codes "+") ((nd 0 16 (kinds.Seq ((nd 0 17 (kinds.LocalSet (codes "a") (nd 0 21 (kinds.Int (pos 2))))) ∷ []))) ∷ []) None None)) ∷ []) None None)) ∷ []) 3000 ≡ Ended ((51 ∷ 10 ∷ []) ∷ []) Finished
unfolding outcome eval_to out-Kind out-Params out-Base out-ModuleForm Carrier.out Carrier.shown Carrier.hidden TheBlock.shown-the_row-Node-2 roll-Params Carrier.roll decimal
read_before_change = refl

-- a method that calls itself for ever
no_end : runs whole_core ((nd 0 0 (kinds.Def None (codes "f") (roll-Params (record { plain = ([]); optional = ([]); defaults = ([]); rest = rest.None; after = ([]); block = None })) (nd 0 7 (kinds.Seq ((nd 0 7 (kinds.Call None (codes "f") ([]) None None)) ∷ []))))) ∷ (nd 0 15 (kinds.Call None (codes "f") ([]) None None)) ∷ []) 3000 ≡ Going []
unfolding outcome eval_to out-Kind out-Params out-Base out-ModuleForm Carrier.out Carrier.shown Carrier.hidden TheBlock.shown-the_row-Node-2 roll-Params Carrier.roll decimal
no_end = refl

-- names that scripts reserve
odd_names : runs whole_core ((nd 0 0 (kinds.LocalSet (codes "var") (nd 0 6 (kinds.Int (pos 1))))) ∷ (nd 0 9 (kinds.LocalSet (codes "arguments") (nd 0 21 (kinds.Int (pos 2))))) ∷ (nd 0 24 (kinds.LocalSet (codes "this") (nd 0 31 (kinds.Int (pos 3))))) ∷ (nd 0 34 (kinds.Call None (codes "puts") ((nd 0 39 (kinds.Call (Some (nd 0 39 (kinds.Call (Some (nd 0 39 (kinds.LocalGet (codes "var")))) (codes "+") ((nd 0 45 (kinds.LocalGet (codes "arguments"))) ∷ []) None None))) (codes "+") ((nd 0 57 (kinds.LocalGet (codes "this"))) ∷ []) None None)) ∷ []) None None)) ∷ []) 3000 ≡ Ended ((54 ∷ 10 ∷ []) ∷ []) Finished
unfolding outcome eval_to out-Kind out-Params out-Base out-ModuleForm Carrier.out Carrier.shown Carrier.hidden TheBlock.shown-the_row-Node-2 roll-Params Carrier.roll decimal
odd_names = refl

-- a method of nil that is missing
missing_for_nil : runs whole_core ((nd 0 0 (kinds.Call (Some (nd 0 0 (kinds.Lit literal.Nil))) (codes "foo") ([]) None None)) ∷ []) 3000 ≡ Ended ([]) (Uncaught (codes "NoMethodError") (codes "undefined method 'foo' for NilClass"))
unfolding outcome eval_to out-Kind out-Params out-Base out-ModuleForm Carrier.out Carrier.shown Carrier.hidden TheBlock.shown-the_row-Node-2 roll-Params Carrier.roll decimal
missing_for_nil = refl

-- a loop that makes arrays for ever
growing_for_ever : runs whole_core ((nd 0 0 (kinds.LocalSet (codes "a") (nd 0 4 (kinds.ArrayLit ([]))))) ∷ (nd 0 8 (kinds.While (nd 0 14 (kinds.Lit literal.True)) (nd 0 20 (kinds.Seq ((nd 0 20 (kinds.LocalSet (codes "a") (nd 0 24 (kinds.ArrayLit ((nd 0 25 (kinds.LocalGet (codes "a"))) ∷ []))))) ∷ []))) false)) ∷ []) 3000 ≡ Going []
unfolding outcome eval_to out-Kind out-Params out-Base out-ModuleForm Carrier.out Carrier.shown Carrier.hidden TheBlock.shown-the_row-Node-2 roll-Params Carrier.roll decimal
growing_for_ever = refl

-- two texts in turn
two_lines : runs whole_core ((nd 0 0 (kinds.Call None (codes "puts") ((nd 0 5 (kinds.Str (codes "a"))) ∷ []) None None)) ∷ (nd 0 10 (kinds.Call None (codes "puts") ((nd 0 15 (kinds.Str (codes "b"))) ∷ []) None None)) ∷ []) 3000 ≡ Ended ((98 ∷ 10 ∷ []) ∷ (97 ∷ 10 ∷ []) ∷ []) Finished
unfolding outcome eval_to out-Kind out-Params out-Base out-ModuleForm Carrier.out Carrier.shown Carrier.hidden TheBlock.shown-the_row-Node-2 roll-Params Carrier.roll decimal
two_lines = refl

-- a number
one_number : runs whole_core ((nd 0 0 (kinds.Call None (codes "puts") ((nd 0 5 (kinds.Int (pos 1))) ∷ []) None None)) ∷ []) 3000 ≡ Ended ((49 ∷ 10 ∷ []) ∷ []) Finished
unfolding outcome eval_to out-Kind out-Params out-Base out-ModuleForm Carrier.out Carrier.shown Carrier.hidden TheBlock.shown-the_row-Node-2 roll-Params Carrier.roll decimal
one_number = refl

-- a text beyond ASCII
beyond_ascii : runs whole_core ((nd 0 0 (kinds.Call None (codes "puts") ((nd 0 5 (kinds.Str (233 ∷ []))) ∷ []) None None)) ∷ []) 3000 ≡ Ended ((233 ∷ 10 ∷ []) ∷ []) Finished
unfolding outcome eval_to out-Kind out-Params out-Base out-ModuleForm Carrier.out Carrier.shown Carrier.hidden TheBlock.shown-the_row-Node-2 roll-Params Carrier.roll decimal
beyond_ascii = refl

-- the sample program of no classes
no_classes : runs whole_core ((nd 0 0 (kinds.ModuleDef (forms.Class None) (codes "Base") (nd 1 2 (kinds.Seq ((nd 1 2 (kinds.Def None (codes "tick") (roll-Params (record { plain = ((slot.Name (codes "n")) ∷ []); optional = ([]); defaults = ([]); rest = rest.None; after = ([]); block = None })) (nd 2 4 (kinds.Seq ((nd 2 4 (kinds.Call (Some (nd 2 4 (kinds.LocalGet (codes "n")))) (codes "+") ((nd 2 8 (kinds.Call None (codes "step") ([]) None None)) ∷ []) None None)) ∷ []))))) ∷ []))))) ∷ (nd 5 0 (kinds.LocalSet (codes "t") (nd 5 4 (kinds.Int (pos 0))))) ∷ (nd 6 0 (kinds.Call None (codes "puts") ((nd 6 5 (kinds.LocalGet (codes "t"))) ∷ []) None None)) ∷ []) 3000 ≡ Ended ((48 ∷ 10 ∷ []) ∷ []) Finished
unfolding outcome eval_to out-Kind out-Params out-Base out-ModuleForm Carrier.out Carrier.shown Carrier.hidden TheBlock.shown-the_row-Node-2 roll-Params Carrier.roll decimal
no_classes = refl

-- the sample program of three classes
three_classes : runs whole_core ((nd 0 0 (kinds.ModuleDef (forms.Class None) (codes "Base") (nd 1 2 (kinds.Seq ((nd 1 2 (kinds.Def None (codes "tick") (roll-Params (record { plain = ((slot.Name (codes "n")) ∷ []); optional = ([]); defaults = ([]); rest = rest.None; after = ([]); block = None })) (nd 2 4 (kinds.Seq ((nd 2 4 (kinds.Call (Some (nd 2 4 (kinds.LocalGet (codes "n")))) (codes "+") ((nd 2 8 (kinds.Call None (codes "step") ([]) None None)) ∷ []) None None)) ∷ []))))) ∷ []))))) ∷ (nd 5 0 (kinds.ModuleDef (forms.Class (Some (nd 5 11 (kinds.ConstGet bases.Here (codes "Base"))))) (codes "C0") (nd 6 2 (kinds.Seq ((nd 6 2 (kinds.Def None (codes "step") (roll-Params (record { plain = ([]); optional = ([]); defaults = ([]); rest = rest.None; after = ([]); block = None })) (nd 7 4 (kinds.Seq ((nd 7 4 (kinds.Int (pos 0))) ∷ []))))) ∷ []))))) ∷ (nd 10 0 (kinds.ModuleDef (forms.Class (Some (nd 10 11 (kinds.ConstGet bases.Here (codes "Base"))))) (codes "C1") (nd 11 2 (kinds.Seq ((nd 11 2 (kinds.Def None (codes "step") (roll-Params (record { plain = ([]); optional = ([]); defaults = ([]); rest = rest.None; after = ([]); block = None })) (nd 12 4 (kinds.Seq ((nd 12 4 (kinds.Int (pos 1))) ∷ []))))) ∷ []))))) ∷ (nd 15 0 (kinds.ModuleDef (forms.Class (Some (nd 15 11 (kinds.ConstGet bases.Here (codes "Base"))))) (codes "C2") (nd 16 2 (kinds.Seq ((nd 16 2 (kinds.Def None (codes "step") (roll-Params (record { plain = ([]); optional = ([]); defaults = ([]); rest = rest.None; after = ([]); block = None })) (nd 17 4 (kinds.Seq ((nd 17 4 (kinds.Int (pos 2))) ∷ []))))) ∷ []))))) ∷ (nd 20 0 (kinds.LocalSet (codes "t") (nd 20 4 (kinds.Int (pos 0))))) ∷ (nd 21 0 (kinds.LocalSet (codes "t") (nd 21 4 (kinds.Call (Some (nd 21 4 (kinds.Call (Some (nd 21 4 (kinds.ConstGet bases.Here (codes "C0")))) (codes "new") ([]) None None))) (codes "tick") ((nd 21 16 (kinds.LocalGet (codes "t"))) ∷ []) None None)))) ∷ (nd 22 0 (kinds.LocalSet (codes "t") (nd 22 4 (kinds.Call (Some (nd 22 4 (kinds.Call (Some (nd 22 4 (kinds.ConstGet bases.Here (codes "C1")))) (codes "new") ([]) None None))) (codes "tick") ((nd 22 16 (kinds.LocalGet (codes "t"))) ∷ []) None None)))) ∷ (nd 23 0 (kinds.LocalSet (codes "t") (nd 23 4 (kinds.Call (Some (nd 23 4 (kinds.Call (Some (nd 23 4 (kinds.ConstGet bases.Here (codes "C2")))) (codes "new") ([]) None None))) (codes "tick") ((nd 23 16 (kinds.LocalGet (codes "t"))) ∷ []) None None)))) ∷ (nd 24 0 (kinds.Call None (codes "puts") ((nd 24 5 (kinds.LocalGet (codes "t"))) ∷ []) None None)) ∷ []) 5000 ≡ Ended ((51 ∷ 10 ∷ []) ∷ []) Finished
unfolding outcome eval_to out-Kind out-Params out-Base out-ModuleForm Carrier.out Carrier.shown Carrier.hidden TheBlock.shown-the_row-Node-2 roll-Params Carrier.roll decimal
three_classes = refl

-- the last line of the input has no newline, and behind it is none
line_without_end : told (outcome whole_core (record { main = codes "main.rb"; files = (codes "main.rb", seq ((nd 0 0 (kinds.Call None (codes "puts") ((nd 0 5 (kinds.Call None (codes "gets") ([]) None None)) ∷ []) None None)) ∷ (nd 0 11 (kinds.Call None (codes "p") ((nd 0 13 (kinds.Call None (codes "gets") ([]) None None)) ∷ []) None None)) ∷ [])) ∷ [] }) (codes "ab") 5000) ≡ Ended ((110 ∷ 105 ∷ 108 ∷ 10 ∷ []) ∷ (97 ∷ 98 ∷ 10 ∷ []) ∷ []) Finished
unfolding outcome eval_to out-Kind out-Params out-Base out-ModuleForm Carrier.out Carrier.shown Carrier.hidden TheBlock.shown-the_row-Node-2 roll-Params Carrier.roll decimal
line_without_end = refl

-- a break whose call is over
orphan_break : runs whole_core ((nd 0 0 (kinds.LocalSet (codes "pr") (nd 0 5 (kinds.Call None (codes "proc") ([]) (Some (nd 0 10 (kinds.Block (roll-Params (record { plain = ([]); optional = ([]); defaults = ([]); rest = rest.None; after = ([]); block = None })) (nd 0 12 (kinds.Seq ((nd 0 12 (kinds.Jump jump_kind.Break (nd 0 18 (kinds.Int (pos 1))))) ∷ [])))))) None)))) ∷ (nd 1 0 (kinds.Begin (nd 1 7 (kinds.Seq ((nd 1 7 (kinds.Call (Some (nd 1 7 (kinds.LocalGet (codes "pr")))) (codes "call") ([]) None None)) ∷ []))) ((nd 1 16 (kinds.Rescue ((nd 1 23 (kinds.ConstGet bases.Here (codes "LocalJumpError"))) ∷ []) None (nd 1 39 (kinds.Seq ((nd 1 39 (kinds.Call None (codes "puts") ((nd 1 44 (kinds.Str (codes "gone"))) ∷ []) None None)) ∷ []))))) ∷ []) None None)) ∷ []) 5000 ≡ Ended ((103 ∷ 111 ∷ 110 ∷ 101 ∷ 10 ∷ []) ∷ []) Finished
unfolding outcome eval_to out-Kind out-Params out-Base out-ModuleForm Carrier.out Carrier.shown Carrier.hidden TheBlock.shown-the_row-Node-2 roll-Params Carrier.roll decimal
orphan_break = refl

-- a name with brackets is a call, also where it is a local's
call_with_brackets : runs whole_core ((nd 0 0 (kinds.Def None (codes "v") (roll-Params (record { plain = ([]); optional = ([]); defaults = ([]); rest = rest.None; after = ([]); block = None })) (nd 0 7 (kinds.Seq ((nd 0 7 (kinds.Str (codes "m"))) ∷ []))))) ∷ (nd 1 0 (kinds.LocalSet (codes "v") (nd 1 4 (kinds.Call (Some (nd 1 4 (kinds.Call None (codes "v") ([]) None None))) (codes "+") ((nd 1 10 (kinds.Str (codes "!"))) ∷ []) None None)))) ∷ (nd 2 0 (kinds.Call None (codes "puts") ((nd 2 5 (kinds.LocalGet (codes "v"))) ∷ []) None None)) ∷ (nd 3 0 (kinds.Call None (codes "puts") ((nd 3 5 (kinds.Call None (codes "v") ([]) None None)) ∷ []) None None)) ∷ []) 5000 ≡ Ended ((109 ∷ 10 ∷ []) ∷ (109 ∷ 33 ∷ 10 ∷ []) ∷ []) Finished
unfolding outcome eval_to out-Kind out-Params out-Base out-ModuleForm Carrier.out Carrier.shown Carrier.hidden TheBlock.shown-the_row-Node-2 roll-Params Carrier.roll decimal
call_with_brackets = refl

-- a call of a proc by its dot
proc_called_by_dot : runs whole_core ((nd 0 0 (kinds.LocalSet (codes "f") (nd 0 4 (kinds.Call None (codes "proc") ([]) (Some (nd 0 9 (kinds.Block (roll-Params (record { plain = ((slot.Name (codes "x")) ∷ []); optional = ([]); defaults = ([]); rest = rest.None; after = ([]); block = None })) (nd 0 15 (kinds.Seq ((nd 0 15 (kinds.Call (Some (nd 0 15 (kinds.LocalGet (codes "x")))) (codes "+") ((nd 0 19 (kinds.Int (pos 1))) ∷ []) None None)) ∷ [])))))) None)))) ∷ (nd 1 0 (kinds.Call None (codes "puts") ((nd 1 5 (kinds.Call (Some (nd 1 5 (kinds.LocalGet (codes "f")))) (codes "call") ((nd 1 8 (kinds.Seq ((nd 1 9 (kinds.Int (pos 1))) ∷ []))) ∷ []) None None)) ∷ []) None None)) ∷ (nd 2 0 (kinds.Call None (codes "puts") ((nd 2 5 (kinds.Call (Some (nd 2 5 (kinds.LocalGet (codes "f")))) (codes "call") ((nd 2 8 (kinds.Int (negsuc 0))) ∷ []) None None)) ∷ []) None None)) ∷ []) 5000 ≡ Ended ((48 ∷ 10 ∷ []) ∷ (50 ∷ 10 ∷ []) ∷ []) Finished
unfolding outcome eval_to out-Kind out-Params out-Base out-ModuleForm Carrier.out Carrier.shown Carrier.hidden TheBlock.shown-the_row-Node-2 roll-Params Carrier.roll decimal
proc_called_by_dot = refl

-- attributes, and their updates
reader_and_writer : runs whole_core ((nd 0 0 (kinds.ModuleDef (forms.Class None) (codes "A") (nd 0 9 (kinds.Seq ((nd 0 9 (kinds.Call None (codes "attr_accessor") ((nd 0 23 (kinds.Str (codes "n"))) ∷ []) None None)) ∷ []))))) ∷ (nd 1 0 (kinds.LocalSet (codes "a") (nd 1 4 (kinds.Call (Some (nd 1 4 (kinds.ConstGet bases.Here (codes "A")))) (codes "new") ([]) None None)))) ∷ (nd 2 0 (kinds.AttrSet (nd 2 0 (kinds.LocalGet (codes "a"))) (codes "n") ([]) (nd 2 6 (kinds.Int (pos 1))))) ∷ (nd 3 0 (kinds.AttrOpSet (nd 3 0 (kinds.LocalGet (codes "a"))) (codes "n") ([]) operator.Add (nd 3 7 (kinds.Int (pos 4))))) ∷ (nd 4 0 (kinds.Call None (codes "puts") ((nd 4 5 (kinds.Call (Some (nd 4 5 (kinds.LocalGet (codes "a")))) (codes "n") ([]) None None)) ∷ []) None None)) ∷ []) 6000 ≡ Ended ((53 ∷ 10 ∷ []) ∷ []) Finished
unfolding outcome eval_to out-Kind out-Params out-Base out-ModuleForm Carrier.out Carrier.shown Carrier.hidden TheBlock.shown-the_row-Node-2 roll-Params Carrier.roll decimal
reader_and_writer = refl

-- an exception that nothing takes
message_of_error : runs whole_core ((nd 0 0 (kinds.ModuleDef (forms.Class (Some (nd 0 10 (kinds.ConstGet bases.Here (codes "StandardError"))))) (codes "E") (nd 0 0 (kinds.Seq ([]))))) ∷ (nd 1 0 (kinds.Call None (codes "puts") ((nd 1 5 (kinds.Str (codes "a"))) ∷ []) None None)) ∷ (nd 2 0 (kinds.Call None (codes "raise") ((nd 2 6 (kinds.ConstGet bases.Here (codes "E"))) ∷ (nd 2 9 (kinds.Str (codes "no"))) ∷ []) None None)) ∷ []) 6000 ≡ Ended ((97 ∷ 10 ∷ []) ∷ []) (Uncaught (codes "E") (codes "no"))
unfolding outcome eval_to out-Kind out-Params out-Base out-ModuleForm Carrier.out Carrier.shown Carrier.hidden TheBlock.shown-the_row-Node-2 roll-Params Carrier.roll decimal
message_of_error = refl

-- the first clause that takes it, and what else stands around
order_of_clauses : runs whole_core ((nd 0 0 (kinds.Begin (nd 1 2 (kinds.Seq ((nd 1 2 (kinds.Call None (codes "raise") ((nd 1 8 (kinds.ConstGet bases.Here (codes "ArgumentError"))) ∷ (nd 1 23 (kinds.Str (codes "x"))) ∷ []) None None)) ∷ []))) ((nd 2 0 (kinds.Rescue ((nd 2 7 (kinds.ConstGet bases.Here (codes "TypeError"))) ∷ []) None (nd 3 2 (kinds.Seq ((nd 3 2 (kinds.Call None (codes "puts") ((nd 3 7 (kinds.Str (codes "t"))) ∷ []) None None)) ∷ []))))) ∷ (nd 4 0 (kinds.Rescue ((nd 4 7 (kinds.ConstGet bases.Here (codes "ArgumentError"))) ∷ []) (Some (codes "e")) (nd 5 2 (kinds.Seq ((nd 5 2 (kinds.Call None (codes "puts") ((nd 5 7 (kinds.Call (Some (nd 5 7 (kinds.LocalGet (codes "e")))) (codes "message") ([]) None None)) ∷ []) None None)) ∷ []))))) ∷ []) (Some (nd 7 2 (kinds.Seq ((nd 7 2 (kinds.Call None (codes "puts") ((nd 7 7 (kinds.Str (codes "l"))) ∷ []) None None)) ∷ [])))) (Some (nd 9 2 (kinds.Seq ((nd 9 2 (kinds.Call None (codes "puts") ((nd 9 7 (kinds.Str (codes "e"))) ∷ []) None None)) ∷ [])))))) ∷ []) 8000 ≡ Ended ((101 ∷ 10 ∷ []) ∷ (120 ∷ 10 ∷ []) ∷ []) Finished
unfolding outcome eval_to out-Kind out-Params out-Base out-ModuleForm Carrier.out Carrier.shown Carrier.hidden TheBlock.shown-the_row-Node-2 roll-Params Carrier.roll decimal
order_of_clauses = refl

-- a hash keeps the order of insertion
hash_in_order : runs whole_core ((nd 0 0 (kinds.LocalSet (codes "h") (nd 0 4 (kinds.HashLit ((nd 0 5 (kinds.Str (codes "a"))) ∷ []) ((nd 0 12 (kinds.Int (pos 1))) ∷ []))))) ∷ (nd 1 0 (kinds.AttrSet (nd 1 0 (kinds.LocalGet (codes "h"))) (codes "[]") ((nd 1 2 (kinds.Str (codes "b"))) ∷ []) (nd 1 9 (kinds.Int (pos 2))))) ∷ (nd 2 0 (kinds.AttrSet (nd 2 0 (kinds.LocalGet (codes "h"))) (codes "[]") ((nd 2 2 (kinds.Str (codes "a"))) ∷ []) (nd 2 9 (kinds.Int (pos 3))))) ∷ (nd 3 0 (kinds.Call (Some (nd 3 0 (kinds.LocalGet (codes "h")))) (codes "each") ([]) (Some (nd 3 7 (kinds.Block (roll-Params (record { plain = ((slot.Name (codes "k")) ∷ (slot.Name (codes "v")) ∷ []); optional = ([]); defaults = ([]); rest = rest.None; after = ([]); block = None })) (nd 3 16 (kinds.Seq ((nd 3 16 (kinds.Call None (codes "puts") ((nd 3 21 (kinds.Interp ((nd 3 24 (kinds.Seq ((nd 3 24 (kinds.LocalGet (codes "k"))) ∷ []))) ∷ (nd 3 28 (kinds.Seq ((nd 3 28 (kinds.LocalGet (codes "v"))) ∷ []))) ∷ []))) ∷ []) None None)) ∷ [])))))) None)) ∷ []) 9000 ≡ Ended ((98 ∷ 50 ∷ 10 ∷ []) ∷ (97 ∷ 51 ∷ 10 ∷ []) ∷ []) Finished
unfolding outcome eval_to out-Kind out-Params out-Base out-ModuleForm Carrier.out Carrier.shown Carrier.hidden TheBlock.shown-the_row-Node-2 roll-Params Carrier.roll decimal
hash_in_order = refl

-- a case by class
case_by_class : runs whole_core ((nd 0 0 (kinds.Def None (codes "k") (roll-Params (record { plain = ((slot.Name (codes "x")) ∷ []); optional = ([]); defaults = ([]); rest = rest.None; after = ([]); block = None })) (nd 1 2 (kinds.Seq ((nd 1 2 (kinds.Case (Some (nd 1 7 (kinds.LocalGet (codes "x")))) ((nd 2 2 (kinds.When ((nd 2 7 (kinds.ConstGet bases.Here (codes "Integer"))) ∷ []) (nd 2 20 (kinds.Seq ((nd 2 20 (kinds.Str (codes "i"))) ∷ []))))) ∷ (nd 3 2 (kinds.When ((nd 3 7 (kinds.ConstGet bases.Here (codes "String"))) ∷ (nd 3 15 (kinds.Lit literal.Nil)) ∷ []) (nd 3 24 (kinds.Seq ((nd 3 24 (kinds.Str (codes "s"))) ∷ []))))) ∷ []) (nd 4 7 (kinds.Seq ((nd 4 7 (kinds.Str (codes "o"))) ∷ []))))) ∷ []))))) ∷ (nd 7 0 (kinds.Call None (codes "puts") ((nd 7 5 (kinds.Call (Some (nd 7 5 (kinds.Call (Some (nd 7 5 (kinds.Call (Some (nd 7 5 (kinds.Call None (codes "k") ((nd 7 7 (kinds.Int (pos 1))) ∷ []) None None))) (codes "+") ((nd 7 12 (kinds.Call None (codes "k") ((nd 7 14 (kinds.Str (codes "a"))) ∷ []) None None)) ∷ []) None None))) (codes "+") ((nd 7 21 (kinds.Call None (codes "k") ((nd 7 23 (kinds.Lit literal.Nil)) ∷ []) None None)) ∷ []) None None))) (codes "+") ((nd 7 30 (kinds.Call None (codes "k") ((nd 7 32 (kinds.ArrayLit ([]))) ∷ []) None None)) ∷ []) None None)) ∷ []) None None)) ∷ []) 9000 ≡ Ended ((105 ∷ 115 ∷ 115 ∷ 111 ∷ 10 ∷ []) ∷ []) Finished
unfolding outcome eval_to out-Kind out-Params out-Base out-ModuleForm Carrier.out Carrier.shown Carrier.hidden TheBlock.shown-the_row-Node-2 roll-Params Carrier.roll decimal
case_by_class = refl
