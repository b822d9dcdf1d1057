-- Levels of the forms that end with "end".
use Rattle.std.proofs.Common.{◌≡◌, ℕ, zero, suc, ◌-◌, ◌<◌, ◌≤◌, Bool, true, false, List, [], Result, Err, refl, ap, arith}
use Rattle.std.specs.Prelude.{nat_le}
use Rattle.std.proofs.lemmas.Bool.Decides.{nat_tests}
use Rattle.grammar.specs.Readers.{read_named, read_rule}
use Rattle.ruby_meaning.specs.Depth.{depth_of}
use Rattle.ruby_meaning.specs.Grammar.Actions as act
use Rattle.ruby_meaning.specs.Grammar.Definitions as g
use Rattle.ruby_meaning.specs.Grammar.Seen.{Seen}
use Rattle.ruby_meaning.specs.Grammar.Table.{table}
use Rattle.ruby_meaning.proofs.Grammar.Depths.{depth_seq}

le_true : (a b : ℕ) → a ≤ b → nat_le a b ≡ true
le_true a b h = grind (arith, nat_tests)

le_false : (a b : ℕ) → b < a → nat_le a b ≡ false
le_false a b h = grind (arith, nat_tests)

pub nothing_fits : (n : ℕ) → nat_le (depth_of act.nothing) (suc n) ≡ true
nothing_fits n = let e : depth_of act.nothing ≡ 1 = depth_seq [] _ _ in le_true (depth_of act.nothing) (suc n) (omega arith)

pub level_below : (n : ℕ) → 0 < n → suc (n - 1) ≡ n
level_below n h = omega arith

pub two_fit : (n : ℕ) → 0 < n → nat_le 2 (suc n) ≡ true
two_fit n h = le_true 2 (suc n) (omega (arith, h))

pub two_do_not : (n : ℕ) → n ≡ 0 → nat_le 2 (suc n) ≡ false
two_do_not n h = le_false 2 (suc n) (omega (arith, h))

pub when_none : (r : Bool) (n : ℕ) (ts : List Seen) → n ≡ 0 → read_rule table (read_named table) (g.when_clause r) n ts ≡ Err ts
unfolding g.when_clause
when_none r zero ts h = refl
when_none r (suc n) ts h = absurd (omega (arith, h))

pub rescue_none : (r : Bool) (n : ℕ) (ts : List Seen) → n ≡ 0 → read_rule table (read_named table) (g.rescue_clause r) n ts ≡ Err ts
unfolding g.rescue_clause
rescue_none r zero ts h = refl
rescue_none r (suc n) ts h = absurd (omega (arith, h))
