use Rattle.std.proofs.Common.{◌≡◌, ◌<◌, ◌≤◌, List, [], ◌∷◌, length, map, None, refl, arith, String, Global}
use Rattle.std.specs.String.{string_bytes}
use Rattle.opal_cli.specs.Words.{budget_of}
use Rattle.opal_cli.proofs.words.budget_of.Goals as goal

one_word : (words : List (String Global)) → 1 ≤ length words → length words < 2 → None ≡ budget_of (map string_bytes words)
one_word [] some few = absurd (omega arith)
one_word (word ∷ []) some few = refl
one_word (word ∷ other ∷ words) some few = absurd (omega arith)

pub returns-in_default-clause-is : goal.returns-in_default-clause-is
returns-in_default-clause-is c = one_word c.args.options.now c.in_default.len_at_least c.in_default.len_below
