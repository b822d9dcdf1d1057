-- Worked rows, computed: cut down to methods defined by nodes.
use Rattle.std.specs.Prelude.{◌≡◌, [], ◌∷◌, ◌++◌, codes, refl, Some, None}
use denote.Hole.Carrier
use Rattle.ruby_meaning.specs.declared.tree.Base.TheBlock
use Rattle.ruby_evaluation.specs.Ends.{Finished, Uncaught, NumberOutside}
use Rattle.ruby_meaning.specs.declared.tree.Kind.{out-Kind}
use Rattle.ruby_meaning.specs.declared.tree.Kind.TheVariants as kinds
use Rattle.ruby_meaning.specs.declared.tree.ModuleForm.TheVariants as forms
use Rattle.ruby_meaning.specs.declared.tree.ModuleForm.{out-ModuleForm}
use Rattle.ruby_meaning.specs.declared.tree.Base.{out-Base}
use Rattle.ruby_meaning.specs.declared.tree.Params.{roll-Params, out-Params}
use Rattle.ruby_evaluation.specs.Tables.{decimal}
use Rattle.ruby_evaluation.proofs.Trees.{node, node_at, nil, int, str, seq, get, set, const, prim, write, write_int, add, join, call, own_call, call_with, plain, with_rest, def, class, module_, block_at, break_, return_, if_}
use Rattle.ruby_evaluation.specs.Run.{outcome, eval_to}
use Rattle.ruby_evaluation.proofs.Running.{Ended, Going, runs, mul, same, yields, super_, include, begin_, rescue, new_, core}

-- one text
hello : runs core (write (str (codes "hi")) ∷ []) 300 ≡ Ended (codes "hi" ∷ []) Finished
unfolding outcome eval_to out-Kind out-Params out-Base out-ModuleForm Carrier.out Carrier.shown Carrier.hidden TheBlock.shown-the_row-Node-2 roll-Params Carrier.roll decimal
hello = refl

-- a redefinition is found at once
redefined_at_once : runs core (class (codes "A") None (seq (def (codes "f") (codes "n" ∷ []) (add (get (codes "n")) (own_call (codes "g") ([]))) ∷ def (codes "g") ([]) (int 1) ∷ []))
    ∷ class (codes "B") (Some (const (codes "A"))) (seq (def (codes "g") ([]) (int 10) ∷ []))
    ∷ write_int (call (new_ (codes "B")) (codes "f") (int 5 ∷ []))
    ∷ class (codes "A") None (seq (def (codes "f") (codes "n" ∷ []) (mul (get (codes "n")) (own_call (codes "g") ([]))) ∷ []))
    ∷ write_int (call (new_ (codes "B")) (codes "f") (int 5 ∷ [])) ∷ []) 600 ≡ Ended (codes "50" ∷ codes "15" ∷ []) Finished
unfolding outcome eval_to out-Kind out-Params out-Base out-ModuleForm Carrier.out Carrier.shown Carrier.hidden TheBlock.shown-the_row-Node-2 roll-Params Carrier.roll decimal
redefined_at_once = refl

-- break through rescue and ensure
break_through_ensure : runs core (set 0 (codes "v") (call_with None (codes "each") ([]) (block_at 1 (codes "x" ∷ []) (begin_ (if_ (same (get (codes "x")) (int 2)) (break_ (mul (get (codes "x")) (int 10))) nil) (rescue [] (write (str (codes "r"))) ∷ []) (Some (write_int (get (codes "x")))))))
    ∷ write_int (get (codes "v")) ∷ []) 600 ≡ Ended (codes "20" ∷ codes "2" ∷ codes "1" ∷ []) Finished
unfolding outcome eval_to out-Kind out-Params out-Base out-ModuleForm Carrier.out Carrier.shown Carrier.hidden TheBlock.shown-the_row-Node-2 roll-Params Carrier.roll decimal
break_through_ensure = refl

-- a break whose call is over
orphan_break : runs core (set 0 (codes "pr") (call_with None (codes "proc") ([]) (block_at 1 ([]) (break_ (int 1))))
    ∷ begin_ (call (get (codes "pr")) (codes "call") ([])) (rescue (const (codes "LocalJumpError") ∷ []) (write (str (codes "gone"))) ∷ []) None ∷ []) 600 ≡ Ended (codes "gone" ∷ []) Finished
unfolding outcome eval_to out-Kind out-Params out-Base out-ModuleForm Carrier.out Carrier.shown Carrier.hidden TheBlock.shown-the_row-Node-2 roll-Params Carrier.roll decimal
orphan_break = refl

-- return out of a block, with an ensure part
return_through_ensure : runs core (def (codes "f") [] (begin_ (call_with None (codes "each") ([]) (block_at 1 (codes "x" ∷ []) (return_ (get (codes "x"))))) [] (Some (write (str (codes "e")))))
    ∷ write_int (own_call (codes "f") ([])) ∷ []) 600 ≡ Ended (codes "1" ∷ codes "e" ∷ []) Finished
unfolding outcome eval_to out-Kind out-Params out-Base out-ModuleForm Carrier.out Carrier.shown Carrier.hidden TheBlock.shown-the_row-Node-2 roll-Params Carrier.roll decimal
return_through_ensure = refl

-- parameters of blocks
block_parameters : runs core (def (codes "m") ([]) (yields (int 1 ∷ int 2 ∷ []))
    ∷ call_with None (codes "m") ([]) (block_at 1 (codes "a" ∷ codes "b" ∷ codes "c" ∷ []) (if_ (same (get (codes "c")) nil) (write (str (codes "t"))) nil))
    ∷ call_with None (codes "m") ([]) (block_at 2 (codes "a" ∷ []) (write_int (get (codes "a")))) ∷ []) 600 ≡ Ended (codes "1" ∷ codes "t" ∷ []) Finished
unfolding outcome eval_to out-Kind out-Params out-Base out-ModuleForm Carrier.out Carrier.shown Carrier.hidden TheBlock.shown-the_row-Node-2 roll-Params Carrier.roll decimal
block_parameters = refl

-- retry and ensure
retried : runs core (set 0 (codes "n") (int 0)
    ∷ begin_ (seq (set 0 (codes "n") (add (get (codes "n")) (int 1)) ∷ if_ (prim (codes "i_lt") (get (codes "n") ∷ int 3 ∷ [])) (prim (codes "raise") (new_ (codes "StandardError") ∷ [])) nil ∷ write_int (get (codes "n")) ∷ [])) (rescue [] (node kinds.Retry) ∷ []) (Some (write (str (codes "end")))) ∷ []) 800 ≡ Ended (codes "end" ∷ codes "3" ∷ []) Finished
unfolding outcome eval_to out-Kind out-Params out-Base out-ModuleForm Carrier.out Carrier.shown Carrier.hidden TheBlock.shown-the_row-Node-2 roll-Params Carrier.roll decimal
retried = refl

-- an include and a definition reach instances that exist
include_reaches_instances : runs core (module_ (codes "M") (seq (def (codes "m") ([]) (str (codes "m")) ∷ []))
    ∷ class (codes "A") None (seq ([]))
    ∷ set 0 (codes "a") (new_ (codes "A"))
    ∷ class (codes "A") None (seq (include (codes "M") ∷ []))
    ∷ write (call (get (codes "a")) (codes "m") ([]))
    ∷ module_ (codes "M") (seq (def (codes "m") ([]) (str (codes "n")) ∷ []))
    ∷ write (call (get (codes "a")) (codes "m") ([])) ∷ []) 600 ≡ Ended (codes "n" ∷ codes "m" ∷ []) Finished
unfolding outcome eval_to out-Kind out-Params out-Base out-ModuleForm Carrier.out Carrier.shown Carrier.hidden TheBlock.shown-the_row-Node-2 roll-Params Carrier.roll decimal
include_reaches_instances = refl

-- super along modules and classes
super_along_modules : runs core (module_ (codes "P") (seq (def (codes "f") ([]) (join (str (codes "P")) super_) ∷ []))
    ∷ module_ (codes "Q") (seq (def (codes "f") ([]) (join (str (codes "Q")) super_) ∷ []))
    ∷ class (codes "B") None (seq (def (codes "f") ([]) (str (codes "B")) ∷ []))
    ∷ class (codes "C") (Some (const (codes "B"))) (seq (include (codes "P") ∷ include (codes "Q") ∷ def (codes "f") ([]) (join (str (codes "C")) super_) ∷ []))
    ∷ write (call (new_ (codes "C")) (codes "f") ([])) ∷ []) 600 ≡ Ended (codes "CQPB" ∷ []) Finished
unfolding outcome eval_to out-Kind out-Params out-Base out-ModuleForm Carrier.out Carrier.shown Carrier.hidden TheBlock.shown-the_row-Node-2 roll-Params Carrier.roll decimal
super_along_modules = refl

-- the last place of a module that stands twice counts
last_place_counts : runs core (class (codes "Object") None (seq (def (codes "f") ([]) (str (codes "O")) ∷ []))
    ∷ module_ (codes "M") (seq (def (codes "f") ([]) (join (str (codes "M")) super_) ∷ []))
    ∷ class (codes "B") None (seq (def (codes "f") ([]) (str (codes "B")) ∷ []))
    ∷ class (codes "C") (Some (const (codes "B"))) (seq (include (codes "M") ∷ []))
    ∷ class (codes "B") None (seq (include (codes "M") ∷ []))
    ∷ write (call (new_ (codes "C")) (codes "f") ([])) ∷ []) 600 ≡ Ended (codes "MO" ∷ []) Finished
unfolding outcome eval_to out-Kind out-Params out-Base out-ModuleForm Carrier.out Carrier.shown Carrier.hidden TheBlock.shown-the_row-Node-2 roll-Params Carrier.roll decimal
last_place_counts = refl

-- a later include into a module reaches no earlier includer
later_include : runs core (module_ (codes "M") (seq ([]))
    ∷ module_ (codes "N") (seq ([]))
    ∷ class (codes "A") None (seq (include (codes "M") ∷ []))
    ∷ module_ (codes "M") (seq (include (codes "N") ∷ []))
    ∷ class (codes "B") None (seq (include (codes "M") ∷ []))
    ∷ write (prim (codes "mod_name") (prim (codes "a_get") (prim (codes "ancestors") (const (codes "A") ∷ []) ∷ int 0 ∷ []) ∷ []))
    ∷ write (prim (codes "mod_name") (prim (codes "a_get") (prim (codes "ancestors") (const (codes "A") ∷ []) ∷ int 1 ∷ []) ∷ []))
    ∷ write (prim (codes "mod_name") (prim (codes "a_get") (prim (codes "ancestors") (const (codes "A") ∷ []) ∷ int 2 ∷ []) ∷ []))
    ∷ write (prim (codes "mod_name") (prim (codes "a_get") (prim (codes "ancestors") (const (codes "A") ∷ []) ∷ int 3 ∷ []) ∷ []))
    ∷ write (prim (codes "mod_name") (prim (codes "a_get") (prim (codes "ancestors") (const (codes "B") ∷ []) ∷ int 0 ∷ []) ∷ []))
    ∷ write (prim (codes "mod_name") (prim (codes "a_get") (prim (codes "ancestors") (const (codes "B") ∷ []) ∷ int 1 ∷ []) ∷ []))
    ∷ write (prim (codes "mod_name") (prim (codes "a_get") (prim (codes "ancestors") (const (codes "B") ∷ []) ∷ int 2 ∷ []) ∷ []))
    ∷ write (prim (codes "mod_name") (prim (codes "a_get") (prim (codes "ancestors") (const (codes "B") ∷ []) ∷ int 3 ∷ []) ∷ []))
    ∷ write (prim (codes "mod_name") (prim (codes "a_get") (prim (codes "ancestors") (const (codes "B") ∷ []) ∷ int 4 ∷ []) ∷ [])) ∷ []) 900 ≡ Ended (codes "Kernel" ∷ codes "Object" ∷ codes "N" ∷ codes "M" ∷ codes "B" ∷ codes "Kernel" ∷ codes "Object" ∷ codes "M" ∷ codes "A" ∷ []) Finished
unfolding outcome eval_to out-Kind out-Params out-Base out-ModuleForm Carrier.out Carrier.shown Carrier.hidden TheBlock.shown-the_row-Node-2 roll-Params Carrier.roll decimal
later_include = refl

-- method_missing
missing_method_answered : runs core (class (codes "A") None (seq (node (kinds.Def None (codes "method_missing") (with_rest (codes "name" ∷ []) (codes "args")) (join (get (codes "name")) (prim (codes "i_to_s") (prim (codes "a_len") (get (codes "args") ∷ []) ∷ [])))) ∷ []))
    ∷ set 0 (codes "a") (new_ (codes "A"))
    ∷ write (call (get (codes "a")) (codes "zip_up") (int 1 ∷ int 2 ∷ []))
    ∷ if_ (prim (codes "responds") (get (codes "a") ∷ str (codes "zip_up") ∷ [])) (write (str (codes "true"))) (write (str (codes "false"))) ∷ []) 600 ≡ Ended (codes "false" ∷ (codes "zip_up" ++ codes "2") ∷ []) Finished
unfolding outcome eval_to out-Kind out-Params out-Base out-ModuleForm Carrier.out Carrier.shown Carrier.hidden TheBlock.shown-the_row-Node-2 roll-Params Carrier.roll decimal
missing_method_answered = refl

-- a singleton class
singleton_class : runs core (set 0 (codes "a") (new_ (codes "Object"))
    ∷ node (kinds.ModuleDef (forms.Singleton (get (codes "a"))) [] (def (codes "f") ([]) (str (codes "one"))))
    ∷ write (call (get (codes "a")) (codes "f") ([]))
    ∷ write (prim (codes "mod_name") (prim (codes "singleton") (get (codes "a") ∷ []) ∷ [])) ∷ []) 600 ≡ Ended (codes "#<Class:#<Object>>" ∷ codes "one" ∷ []) Finished
unfolding outcome eval_to out-Kind out-Params out-Base out-ModuleForm Carrier.out Carrier.shown Carrier.hidden TheBlock.shown-the_row-Node-2 roll-Params Carrier.roll decimal
singleton_class = refl

-- undef
undefined_method : runs core (class (codes "A") None (seq (def (codes "f") ([]) (str (codes "A")) ∷ []))
    ∷ class (codes "B") (Some (const (codes "A"))) (seq (node (kinds.Undef (codes "f" ∷ [])) ∷ []))
    ∷ set 0 (codes "b") (new_ (codes "B"))
    ∷ if_ (prim (codes "responds") (get (codes "b") ∷ str (codes "f") ∷ [])) (write (str (codes "true"))) (write (str (codes "false")))
    ∷ class (codes "B") None (seq (def (codes "f") ([]) (str (codes "B")) ∷ []))
    ∷ write (call (get (codes "b")) (codes "f") ([])) ∷ []) 600 ≡ Ended (codes "B" ∷ codes "false" ∷ []) Finished
unfolding outcome eval_to out-Kind out-Params out-Base out-ModuleForm Carrier.out Carrier.shown Carrier.hidden TheBlock.shown-the_row-Node-2 roll-Params Carrier.roll decimal
undefined_method = refl

-- a method of nil that is missing
missing_for_nil : runs core (call (nil) (codes "foo") ([]) ∷ []) 400 ≡ Ended ([]) (Uncaught (codes "NoMethodError") (codes "undefined method 'foo' for NilClass"))
unfolding outcome eval_to out-Kind out-Params out-Base out-ModuleForm Carrier.out Carrier.shown Carrier.hidden TheBlock.shown-the_row-Node-2 roll-Params Carrier.roll decimal
missing_for_nil = refl

-- a sum outside the range
sum_outside : runs core (write (str (codes "a"))
    ∷ add (int 9007199254740991) (int 1)
    ∷ write (str (codes "b")) ∷ []) 400 ≡ Ended (codes "a" ∷ []) NumberOutside
unfolding outcome eval_to out-Kind out-Params out-Base out-ModuleForm Carrier.out Carrier.shown Carrier.hidden TheBlock.shown-the_row-Node-2 roll-Params Carrier.roll decimal
sum_outside = refl

-- a local is read before a later argument changes it
read_before_change : runs core (set 0 (codes "a") (int 1)
    ∷ write_int (add (get (codes "a")) (set 0 (codes "a") (int 2))) ∷ []) 400 ≡ Ended (codes "3" ∷ []) Finished
unfolding outcome eval_to out-Kind out-Params out-Base out-ModuleForm Carrier.out Carrier.shown Carrier.hidden TheBlock.shown-the_row-Node-2 roll-Params Carrier.roll decimal
read_before_change = refl

-- a lambda counts its arguments
lambda_arguments : runs core (set 0 (codes "f") (node_at 1 (kinds.Lambda (plain (codes "x" ∷ [])) (return_ (add (get (codes "x")) (int 1)))))
    ∷ write_int (call (get (codes "f")) (codes "call") (int 4 ∷ []))
    ∷ call (get (codes "f")) (codes "call") ([]) ∷ []) 600 ≡ Ended (codes "5" ∷ []) (Uncaught (codes "ArgumentError") (codes "wrong number of arguments (given " ++ codes "0" ++ codes ", expected " ++ codes "1" ++ codes ")"))
unfolding outcome eval_to out-Kind out-Params out-Base out-ModuleForm Carrier.out Carrier.shown Carrier.hidden TheBlock.shown-the_row-Node-2 roll-Params Carrier.roll decimal
lambda_arguments = refl

-- a run without end
no_end : runs core (def (codes "f") ([]) (own_call (codes "f") ([]))
    ∷ own_call (codes "f") ([]) ∷ []) 500 ≡ Going ([])
unfolding outcome eval_to out-Kind out-Params out-Base out-ModuleForm Carrier.out Carrier.shown Carrier.hidden TheBlock.shown-the_row-Node-2 roll-Params Carrier.roll decimal
no_end = refl

-- a block sets the local that stands before it, and has one of its own that only text behind it names
block_sees : runs core (set 1 (codes "x") (int 0)
    ∷ set 2 (codes "b") (call_with None (codes "proc") ([]) (block_at 3 ([]) (seq (set 4 (codes "y") (int 7) ∷ set 5 (codes "x") (int 5) ∷ []))))
    ∷ set 8 (codes "y") (int 1)
    ∷ call (get (codes "b")) (codes "call") ([])
    ∷ write_int (get (codes "x"))
    ∷ write_int (get (codes "y")) ∷ []) 600 ≡ Ended (codes "1" ∷ codes "5" ∷ []) Finished
unfolding outcome eval_to out-Kind out-Params out-Base out-ModuleForm Carrier.out Carrier.shown Carrier.hidden TheBlock.shown-the_row-Node-2 roll-Params Carrier.roll decimal
block_sees = refl
