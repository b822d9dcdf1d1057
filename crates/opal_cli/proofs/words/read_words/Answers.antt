use Rattle.std.proofs.Common.{◌≡◌, ◌<◌, List, [], ◌∷◌, length, None, refl, arith, subst, String, Global}
use Rattle.opal_cli.specs.Words.{asked_by}
use Rattle.opal_cli.proofs.words.read_words.Goals as goal

few_words : (words : List (String Global)) → length words < 2 → None ≡ asked_by words
few_words [] few = refl
few_words (word ∷ []) few = refl
few_words (word ∷ other ∷ words) few = absurd (omega arith)

pub returns-in_default-clause-is : goal.returns-in_default-clause-is
returns-in_default-clause-is c = few_words c.args.words.now.items (subst (λ words. length words < 2) c.as_slice.ensures.value c.in_default.len_below)
