-- Further programs, computed: what the rules say of one thing each.
use Rattle.std.specs.Prelude.{◌≡◌, [], ◌∷◌, codes, refl, Some, None, true, false, pos, negsuc}
use denote.Hole.Carrier
use Rattle.ruby_meaning.specs.declared.tree.Base.TheBlock
use Rattle.ruby_evaluation.specs.Ends.{Finished, Uncaught}
use Rattle.ruby_meaning.specs.declared.tree.Kind.{out-Kind}
use Rattle.ruby_meaning.specs.declared.tree.Kind.TheVariants as kinds
use Rattle.ruby_meaning.specs.declared.tree.ModuleForm.{out-ModuleForm}
use Rattle.ruby_meaning.specs.declared.tree.Base.TheVariants as bases
use Rattle.ruby_meaning.specs.declared.tree.Base.{out-Base}
use Rattle.ruby_meaning.specs.declared.tree.JumpKind.TheVariants as jump_kind
use Rattle.ruby_meaning.specs.declared.tree.Operator.TheVariants as operator
use Rattle.ruby_meaning.specs.declared.tree.Params.{roll-Params, out-Params}
use Rattle.ruby_meaning.specs.declared.tree.Rest.TheVariants as rest
use Rattle.ruby_evaluation.specs.Tables.{decimal}
use Rattle.ruby_evaluation.proofs.Trees.{node, node_at, nil, yes_lit, int, str, seq, get, set, const, prim, write, write_int, add, join, call, own_call, call_with, names, plain, def, class, module_, block_at, break_, return_, if_}
use Rattle.ruby_evaluation.specs.Run.{outcome, eval_to}
use Rattle.ruby_evaluation.proofs.Running.{Ended, Going, told, runs, me, mul, same, yields, super_, include, begin_, rescue, new_, core}

-- a text takes five units: two sequences, the primitive, its argument, and the call of the host
units : runs (seq []) (write (str (codes "hi")) ∷ []) 5 ≡ Ended (codes "hi" ∷ []) Finished
unfolding outcome eval_to out-Kind out-Params out-Base out-ModuleForm Carrier.out Carrier.shown Carrier.hidden TheBlock.shown-the_row-Node-2 roll-Params Carrier.roll decimal
units = refl

-- with four the text is not written yet
units_less : runs (seq []) (write (str (codes "hi")) ∷ []) 4 ≡ Going ([])
unfolding outcome eval_to out-Kind out-Params out-Base out-ModuleForm Carrier.out Carrier.shown Carrier.hidden TheBlock.shown-the_row-Node-2 roll-Params Carrier.roll decimal
units_less = refl

-- next and break in a loop
loops : runs core (set 0 (codes "i") (int 0)
    ∷ set 0 (codes "v") (node (kinds.While yes_lit (seq (set 0 (codes "i") (add (get (codes "i")) (int 1)) ∷ if_ (prim (codes "i_lt") (get (codes "i") ∷ int 3 ∷ [])) (node (kinds.Jump jump_kind.Next nil)) nil ∷ break_ (mul (get (codes "i")) (int 10)) ∷ [])) false))
    ∷ write_int (get (codes "v"))
    ∷ []) 700 ≡ Ended (codes "30" ∷ []) Finished
unfolding outcome eval_to out-Kind out-Params out-Base out-ModuleForm Carrier.out Carrier.shown Carrier.hidden TheBlock.shown-the_row-Node-2 roll-Params Carrier.roll decimal
loops = refl

-- a jump in an ensure part replaces what was under way
replaced : runs core (def (codes "f") ([]) (begin_ (return_ (int 1)) [] (Some (return_ (int 2))))
    ∷ write_int (own_call (codes "f") ([]))
    ∷ []) 700 ≡ Ended (codes "2" ∷ []) Finished
unfolding outcome eval_to out-Kind out-Params out-Base out-ModuleForm Carrier.out Carrier.shown Carrier.hidden TheBlock.shown-the_row-Node-2 roll-Params Carrier.roll decimal
replaced = refl

-- a clause raises its exception again
reraised : runs core (begin_ (begin_ (prim (codes "raise") (new_ (codes "StandardError") ∷ [])) (rescue [] (node kinds.Reraise) ∷ []) (Some (write (str (codes "e"))))) (node_at 91 (kinds.Rescue [] (Some (codes "x")) (write (prim (codes "mod_name") (prim (codes "class") (get (codes "x") ∷ []) ∷ [])))) ∷ []) None ∷ []) 700 ≡ Ended (codes "StandardError" ∷ codes "e" ∷ []) Finished
unfolding outcome eval_to out-Kind out-Params out-Base out-ModuleForm Carrier.out Carrier.shown Carrier.hidden TheBlock.shown-the_row-Node-2 roll-Params Carrier.roll decimal
reraised = refl

-- a multiple assignment with a splat
targets : runs core (node (kinds.MultiSet (get (codes "a") ∷ node (kinds.Splat (get (codes "b"))) ∷ get (codes "d") ∷ []) (node (kinds.ArrayLit (int 1 ∷ int 2 ∷ int 3 ∷ int 4 ∷ []))))
    ∷ write_int (get (codes "a"))
    ∷ write_int (prim (codes "a_len") (get (codes "b") ∷ []))
    ∷ write_int (get (codes "d"))
    ∷ []) 700 ≡ Ended (codes "4" ∷ codes "2" ∷ codes "1" ∷ []) Finished
unfolding outcome eval_to out-Kind out-Params out-Base out-ModuleForm Carrier.out Carrier.shown Carrier.hidden TheBlock.shown-the_row-Node-2 roll-Params Carrier.roll decimal
targets = refl

-- an optional parameter, one with a star, and one behind it
parameters : runs core (node (kinds.Def None (codes "f") (roll-Params (record { plain = names (codes "a" ∷ []); optional = codes "b" ∷ []; defaults = int 5 ∷ []; rest = rest.Named (codes "r"); after = names (codes "d" ∷ []); block = None })) (seq (write_int (get (codes "a")) ∷ write_int (get (codes "b")) ∷ write_int (prim (codes "a_len") (get (codes "r") ∷ [])) ∷ write_int (get (codes "d")) ∷ [])))
    ∷ own_call (codes "f") (int 1 ∷ int 9 ∷ [])
    ∷ own_call (codes "f") (int 1 ∷ int 2 ∷ node (kinds.Splat (node (kinds.ArrayLit (int 3 ∷ int 4 ∷ [])))) ∷ [])
    ∷ []) 700 ≡ Ended (codes "4" ∷ codes "1" ∷ codes "2" ∷ codes "1" ∷ codes "9" ∷ codes "0" ∷ codes "5" ∷ codes "1" ∷ []) Finished
unfolding outcome eval_to out-Kind out-Params out-Base out-ModuleForm Carrier.out Carrier.shown Carrier.hidden TheBlock.shown-the_row-Node-2 roll-Params Carrier.roll decimal
parameters = refl

-- a text as a block sends its name
sends : runs core (class (codes "Integer") None (seq (def (codes "w") ([]) (write_int (me)) ∷ []))
    ∷ call_with None (codes "each") [] (node (kinds.BlockPass (str (codes "w"))))
    ∷ []) 700 ≡ Ended (codes "3" ∷ codes "2" ∷ codes "1" ∷ []) Finished
unfolding outcome eval_to out-Kind out-Params out-Base out-ModuleForm Carrier.out Carrier.shown Carrier.hidden TheBlock.shown-the_row-Node-2 roll-Params Carrier.roll decimal
sends = refl

-- a case asks each test
cases : runs core (class (codes "Object") None (seq (def (codes "===") (codes "x" ∷ []) (same me (get (codes "x"))) ∷ []))
    ∷ write (node (kinds.Case (Some (int 2)) (node (kinds.When (int 1 ∷ []) (str (codes "a"))) ∷ node (kinds.When (int 3 ∷ int 2 ∷ []) (str (codes "b"))) ∷ []) (str (codes "c"))))
    ∷ []) 700 ≡ Ended (codes "b" ∷ []) Finished
unfolding outcome eval_to out-Kind out-Params out-Base out-ModuleForm Carrier.out Carrier.shown Carrier.hidden TheBlock.shown-the_row-Node-2 roll-Params Carrier.roll decimal
cases = refl

-- a constant of a module body around the text, and one under a base
constants : runs core (module_ (codes "M") (seq (node (kinds.ConstSet (codes "X") (str (codes "x"))) ∷ class (codes "A") None (seq (def (codes "f") ([]) (const (codes "X")) ∷ [])) ∷ []))
    ∷ write (call (call (node (kinds.ConstGet (bases.In (const (codes "M"))) (codes "A"))) (codes "new") ([])) (codes "f") ([]))
    ∷ write (prim (codes "mod_name") (node (kinds.ConstGet (bases.In (const (codes "M"))) (codes "A")) ∷ []))
    ∷ const (codes "Nope")
    ∷ []) 900 ≡ Ended (codes "M::A" ∷ codes "x" ∷ []) (Uncaught (codes "Exception") (codes "uninitialized constant Nope"))
unfolding outcome eval_to out-Kind out-Params out-Base out-ModuleForm Carrier.out Carrier.shown Carrier.hidden TheBlock.shown-the_row-Node-2 roll-Params Carrier.roll decimal
constants = refl

-- another superclass
mismatch : runs core (class (codes "A") None (seq ([]))
    ∷ class (codes "B") None (seq ([]))
    ∷ class (codes "C") (Some (const (codes "A"))) (seq ([]))
    ∷ class (codes "C") (Some (const (codes "B"))) (seq ([]))
    ∷ []) 700 ≡ Ended ([]) (Uncaught (codes "Exception") (codes "superclass mismatch: C"))
unfolding outcome eval_to out-Kind out-Params out-Base out-ModuleForm Carrier.out Carrier.shown Carrier.hidden TheBlock.shown-the_row-Node-2 roll-Params Carrier.roll decimal
mismatch = refl

-- a class that can not be subclassed
closed : runs core (class (codes "A") (Some (const (codes "Integer"))) (seq ([])) ∷ []) 700 ≡ Ended ([]) (Uncaught (codes "Exception") (codes "closed class: Integer"))
unfolding outcome eval_to out-Kind out-Params out-Base out-ModuleForm Carrier.out Carrier.shown Carrier.hidden TheBlock.shown-the_row-Node-2 roll-Params Carrier.roll decimal
closed = refl

-- a method of a class is found by its subclasses, and super goes on there
metaclasses : runs core (class (codes "A") None (seq (node (kinds.Def (Some me) (codes "f") (plain []) (str (codes "s"))) ∷ []))
    ∷ class (codes "B") (Some (const (codes "A"))) (seq (node (kinds.Def (Some me) (codes "f") (plain []) (join (str (codes "b")) super_)) ∷ []))
    ∷ write (call (const (codes "B")) (codes "f") ([]))
    ∷ []) 700 ≡ Ended (codes "bs" ∷ []) Finished
unfolding outcome eval_to out-Kind out-Params out-Base out-ModuleForm Carrier.out Carrier.shown Carrier.hidden TheBlock.shown-the_row-Node-2 roll-Params Carrier.roll decimal
metaclasses = refl

-- a reader, a writer, and an assignment with an operator
attributes : runs core (class (codes "Integer") None (seq (def (codes "+") (codes "o" ∷ []) (add me (get (codes "o"))) ∷ []))
    ∷ class (codes "A") None (seq (prim (codes "attr") (me ∷ str (codes "x") ∷ nil ∷ []) ∷ prim (codes "attr") (me ∷ str (codes "x") ∷ yes_lit ∷ []) ∷ []))
    ∷ set 0 (codes "a") (new_ (codes "A"))
    ∷ node (kinds.AttrSet (get (codes "a")) (codes "x") [] (int 5))
    ∷ node (kinds.AttrOpSet (get (codes "a")) (codes "x") [] operator.Add (int 1))
    ∷ write_int (call (get (codes "a")) (codes "x") ([]))
    ∷ node (kinds.AttrOpSet (get (codes "a")) (codes "x") [] operator.Or (write (str (codes "no"))))
    ∷ []) 700 ≡ Ended (codes "6" ∷ []) Finished
unfolding outcome eval_to out-Kind out-Params out-Base out-ModuleForm Carrier.out Carrier.shown Carrier.hidden TheBlock.shown-the_row-Node-2 roll-Params Carrier.roll decimal
attributes = refl

-- a cyclic include
cyclic_include : runs core (module_ (codes "M") (seq ([]))
    ∷ module_ (codes "N") (seq (include (codes "M") ∷ []))
    ∷ module_ (codes "M") (seq (include (codes "N") ∷ []))
    ∷ []) 700 ≡ Ended ([]) (Uncaught (codes "ArgumentError") (codes "cyclic include"))
unfolding outcome eval_to out-Kind out-Params out-Base out-ModuleForm Carrier.out Carrier.shown Carrier.hidden TheBlock.shown-the_row-Node-2 roll-Params Carrier.roll decimal
cyclic_include = refl

-- a key that is set again keeps its place
hashes : runs core (set 0 (codes "h") (node (kinds.HashLit (int 1 ∷ int 2 ∷ int 1 ∷ []) (str (codes "a") ∷ str (codes "b") ∷ str (codes "d") ∷ [])))
    ∷ write_int (prim (codes "h_len") (get (codes "h") ∷ []))
    ∷ write (prim (codes "h_get") (get (codes "h") ∷ int 1 ∷ []))
    ∷ write_int (prim (codes "a_get") (prim (codes "h_keys") (get (codes "h") ∷ []) ∷ int 0 ∷ []))
    ∷ []) 700 ≡ Ended (codes "1" ∷ codes "d" ∷ codes "2" ∷ []) Finished
unfolding outcome eval_to out-Kind out-Params out-Base out-ModuleForm Carrier.out Carrier.shown Carrier.hidden TheBlock.shown-the_row-Node-2 roll-Params Carrier.roll decimal
hashes = refl

-- an interpolation calls to_s of each part
texts : runs core (class (codes "Integer") None (seq (def (codes "to_s") ([]) (prim (codes "i_to_s") (me ∷ [])) ∷ []))
    ∷ class (codes "String") None (seq (def (codes "to_s") ([]) (me) ∷ []))
    ∷ write (node (kinds.Interp (str (codes "a") ∷ int 12 ∷ str (codes "b") ∷ [])))
    ∷ []) 700 ≡ Ended (codes "a12b" ∷ []) Finished
unfolding outcome eval_to out-Kind out-Params out-Base out-ModuleForm Carrier.out Carrier.shown Carrier.hidden TheBlock.shown-the_row-Node-2 roll-Params Carrier.roll decimal
texts = refl

-- an alias keeps the old entry
aliases : runs core (class (codes "A") None (seq (def (codes "f") ([]) (str (codes "f")) ∷ node (kinds.Alias (codes "g") (codes "f")) ∷ def (codes "f") ([]) (str (codes "n")) ∷ []))
    ∷ write (call (new_ (codes "A")) (codes "g") ([]))
    ∷ []) 700 ≡ Ended (codes "f" ∷ []) Finished
unfolding outcome eval_to out-Kind out-Params out-Base out-ModuleForm Carrier.out Carrier.shown Carrier.hidden TheBlock.shown-the_row-Node-2 roll-Params Carrier.roll decimal
aliases = refl

-- yield without a block
no_block : runs core (def (codes "f") ([]) (yields [])
    ∷ own_call (codes "f") ([])
    ∷ []) 700 ≡ Ended ([]) (Uncaught (codes "LocalJumpError") (codes "no block given (yield)"))
unfolding outcome eval_to out-Kind out-Params out-Base out-ModuleForm Carrier.out Carrier.shown Carrier.hidden TheBlock.shown-the_row-Node-2 roll-Params Carrier.roll decimal
no_block = refl

-- an integer takes no instance variable
frozen : runs core (prim (codes "ivar_set") (int 5 ∷ str (codes "@x") ∷ nil ∷ []) ∷ []) 700 ≡ Ended ([]) (Uncaught (codes "Exception") (codes "frozen: Integer"))
unfolding outcome eval_to out-Kind out-Params out-Base out-ModuleForm Carrier.out Carrier.shown Carrier.hidden TheBlock.shown-the_row-Node-2 roll-Params Carrier.roll decimal
frozen = refl

-- super passes the current values of the parameters
implicit : runs core (class (codes "A") None (seq (def (codes "f") (codes "x" ∷ []) (write (get (codes "x"))) ∷ []))
    ∷ class (codes "B") (Some (const (codes "A"))) (seq (def (codes "f") (codes "x" ∷ []) (seq (set 0 (codes "x") (str (codes "c")) ∷ super_ ∷ [])) ∷ []))
    ∷ call (new_ (codes "B")) (codes "f") (str (codes "a") ∷ [])
    ∷ []) 700 ≡ Ended (codes "c" ∷ []) Finished
unfolding outcome eval_to out-Kind out-Params out-Base out-ModuleForm Carrier.out Carrier.shown Carrier.hidden TheBlock.shown-the_row-Node-2 roll-Params Carrier.roll decimal
implicit = refl

-- quotients round towards minus infinity
quotients : runs core (write_int (prim (codes "i_div") (node (kinds.Int (negsuc 6)) ∷ int 2 ∷ []))
    ∷ write_int (prim (codes "i_mod") (node (kinds.Int (negsuc 6)) ∷ int 2 ∷ []))
    ∷ write_int (prim (codes "i_div") (node (kinds.Int (negsuc 9007199254740990)) ∷ int 2 ∷ []))
    ∷ []) 700 ≡ Ended (codes "-4503599627370496" ∷ codes "1" ∷ codes "-4" ∷ []) Finished
unfolding outcome eval_to out-Kind out-Params out-Base out-ModuleForm Carrier.out Carrier.shown Carrier.hidden TheBlock.shown-the_row-Node-2 roll-Params Carrier.roll decimal
quotients = refl

-- break and return in a block of a lambda
lambdas : runs core (set 0 (codes "f") (node_at 1 (kinds.Lambda (plain []) (seq (call_with None (codes "each") [] (block_at 3 (codes "x" ∷ []) (return_ (get (codes "x")))) ∷ write (str (codes "no")) ∷ []))))
    ∷ write_int (call (get (codes "f")) (codes "call") ([]))
    ∷ set 0 (codes "g") (node_at 5 (kinds.Lambda (plain []) (break_ (int 9))))
    ∷ write_int (call (get (codes "g")) (codes "call") ([]))
    ∷ []) 700 ≡ Ended (codes "9" ∷ codes "1" ∷ []) Finished
unfolding outcome eval_to out-Kind out-Params out-Base out-ModuleForm Carrier.out Carrier.shown Carrier.hidden TheBlock.shown-the_row-Node-2 roll-Params Carrier.roll decimal
lambdas = refl

-- requires that go round
required_once : told (outcome (seq []) (record { main = codes "main.rb"; files = (codes "main.rb", seq (node (kinds.Require (codes "a.rb") false) ∷ node (kinds.Require (codes "b.rb") false) ∷ write (str (codes "m")) ∷ [])) ∷ (codes "a.rb", seq (node (kinds.Require (codes "b.rb") false) ∷ write (str (codes "a")) ∷ [])) ∷ (codes "b.rb", seq (node (kinds.Require (codes "a.rb") false) ∷ write (str (codes "b")) ∷ [])) ∷ [] }) ([]) 700) ≡ Ended (codes "m" ∷ codes "a" ∷ codes "b" ∷ []) Finished
unfolding outcome eval_to out-Kind out-Params out-Base out-ModuleForm Carrier.out Carrier.shown Carrier.hidden TheBlock.shown-the_row-Node-2 roll-Params Carrier.roll decimal
required_once = refl

-- a relative require starts at the directory of its file
relative : told (outcome (seq []) (record { main = codes "main.rb"; files = (codes "main.rb", seq (node (kinds.Require (codes "d/a.rb") false) ∷ [])) ∷ (codes "d/a.rb", seq (node (kinds.Require (codes "../d/./b.rb") true) ∷ [])) ∷ (codes "d/b.rb", seq (write (str (codes "b")) ∷ [])) ∷ [] }) ([]) 700) ≡ Ended (codes "b" ∷ []) Finished
unfolding outcome eval_to out-Kind out-Params out-Base out-ModuleForm Carrier.out Carrier.shown Carrier.hidden TheBlock.shown-the_row-Node-2 roll-Params Carrier.roll decimal
relative = refl

-- lines of the input
input : told (outcome (seq []) (record { main = codes "main.rb"; files = (codes "main.rb", seq (write_int (prim (codes "s_len") (prim (codes "line") ([]) ∷ [])) ∷ write (prim (codes "line") ([])) ∷ if_ (prim (codes "line") ([])) (write (str (codes "more"))) (write (str (codes "end"))) ∷ [])) ∷ [] }) (codes "ab\ncd") 700) ≡ Ended (codes "end" ∷ codes "cd" ∷ codes "3" ∷ []) Finished
unfolding outcome eval_to out-Kind out-Params out-Base out-ModuleForm Carrier.out Carrier.shown Carrier.hidden TheBlock.shown-the_row-Node-2 roll-Params Carrier.roll decimal
input = refl

-- a block in the default of a parameter doesn't see the parameters behind it: `def f(a = proc { b = 1 }, b = 2)`
in_default : runs core (node (kinds.Def None (codes "f") (roll-Params (record { plain = []; optional = codes "a" ∷ codes "b" ∷ []; defaults = node_at 5 (kinds.Call None (codes "proc") [] (Some (block_at 4 [] (set 4 (codes "b") (int 1)))) None) ∷ int 2 ∷ []; rest = rest.None; after = []; block = None })) (seq (call (get (codes "a")) (codes "call") [] ∷ write_int (get (codes "b")) ∷ [])))
    ∷ own_call (codes "f") []
    ∷ []) 700 ≡ Ended (codes "2" ∷ []) Finished
unfolding outcome eval_to out-Kind out-Params out-Base out-ModuleForm Carrier.out Carrier.shown Carrier.hidden TheBlock.shown-the_row-Node-2 roll-Params Carrier.roll decimal
in_default = refl

-- and one in a later default sees those before: `def f(b = 2, a = proc { b = 1 })`
in_later_default : runs core (node (kinds.Def None (codes "f") (roll-Params (record { plain = []; optional = codes "b" ∷ codes "a" ∷ []; defaults = node_at 1 (kinds.Int (pos 2)) ∷ node_at 5 (kinds.Call None (codes "proc") [] (Some (block_at 4 [] (set 4 (codes "b") (int 1)))) None) ∷ []; rest = rest.None; after = []; block = None })) (seq (call (get (codes "a")) (codes "call") [] ∷ write_int (get (codes "b")) ∷ [])))
    ∷ own_call (codes "f") []
    ∷ []) 700 ≡ Ended (codes "1" ∷ []) Finished
unfolding outcome eval_to out-Kind out-Params out-Base out-ModuleForm Carrier.out Carrier.shown Carrier.hidden TheBlock.shown-the_row-Node-2 roll-Params Carrier.roll decimal
in_later_default = refl
