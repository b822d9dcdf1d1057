use Rattle.std.proofs.Common.{◌++◌, length, length-drop, ap, sym, ◌∙◌, subst, arith}
use Rattle.std.proofs.lemmas.List.{take_rest}
use Rattle.es5_tree.specs.Literals.{Characters}
use Rattle.es5_lexer.proofs.Steps.{quote_closes, no_text_here, no_text_at_end, so_far_more, none_more}
use Rattle.es5_lexer.proofs.literal.literal.Goals as goal

pub returns-then-bytes-end : goal.returns-then-bytes-end
returns-then-bytes-end c = (quote_closes c.args.quote c.characters.text c.args.bytes.now c.characters.end c.characters.invariant.so_far c.characters-test.true c.if-bytes-end.true, omega arith)

pub returns-in_default : goal.returns-in_default
returns-in_default c = c.characters.invariant.none (no_text_here c.args.quote c.args.bytes.now c.characters.end c.characters-test.true c.if-bytes-end.false (sym c.character.ensures.value ∙ c.in_default.is))

pub characters-preserved : goal.characters-preserved
characters-preserved c =
    let is = sym c.character.ensures.value ∙ c.in-Some.is in
    record {
      so_far = λ more rest h. subst (λ t. Characters c.args.quote (t ++ more) c.args.bytes.now rest) (sym c.in_ok-push.ensures.ok) (so_far_more c.args.quote c.in-Some.unit c.in-Some.size c.characters.text c.args.bytes.now c.characters.end c.characters.invariant.so_far is more rest h);
      none = λ none. c.characters.invariant.none (none_more c.args.quote c.in-Some.unit c.in-Some.size c.args.bytes.now c.characters.end c.characters-test.true c.if-bytes-end.false is none);
      within = omega (arith, ap length (take_rest c.args.bytes.now c.characters.end), length-drop c.characters.end c.args.bytes.now, c.in-Some.ensures.within);
    }

pub returns : goal.returns
returns c = c.characters.invariant.none (no_text_at_end c.args.quote c.args.bytes.now c.characters.end c.characters-test.false)
