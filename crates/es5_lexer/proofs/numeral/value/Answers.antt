use Rattle.std.proofs.Common.{arith}
use Rattle.es5_lexer.proofs.Steps.{too_large}
use Rattle.es5_lexer.proofs.numeral.value.Goals as goal

pub returns-then-value-gt-MAX_SAFE-clause-is : goal.returns-then-value-gt-MAX_SAFE-clause-is
returns-then-value-gt-MAX_SAFE-clause-is c =
    too_large c.digits.rest.now c.digits.value _ c.in-len1-up.len_at_least c.digits.invariant.is (omega (arith, c.if-value-gt-MAX_SAFE.true, c.from.ensures, c.saturating_sub.ensures))
