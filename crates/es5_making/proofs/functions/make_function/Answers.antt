use Rattle.std.proofs.Common.{◌≡◌, length, refl, arith}
use Rattle.es5_making.proofs.NewFunctions.{function_full, function_made}
use Rattle.es5_making.proofs.functions.make_function.Goals as goal

pub returns-then-is_full-clause-does : goal.returns-then-is_full-clause-does
returns-then-is_full-clause-does c = λ T ρ. function_full T c.args.store.now c.args.node c.args.r (c.if-is_full.ensures.0 refl)

pub returns-in-Ok-new_object-clause-does : goal.returns-in-Ok-new_object-clause-does
returns-in-Ok-new_object-clause-does c = λ T ρ.
    let e = c.len-code.ensures in
    let l = c.args.store.now.codes.ok.0 in
    let number : c.len-code.result ≡ length c.args.store.now.codes.items = omega (arith, e, l) in
    function_made T c.args.store.now (record c.args.store.now { heap = c.new_object.new.heap; codes = c.keep.new.codes }) c.args.node c.args.r c.len-code.result c.in-Ok-new_object.o
    number c.in-Ok-new_object.ensures.number c.in-Ok.ensures c.in-Ok-new_object.ensures.made refl refl
