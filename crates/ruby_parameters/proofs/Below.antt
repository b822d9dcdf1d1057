-- A node one level below, and lists of items.
use Rattle.std.proofs.Common.{◌≡◌, ℕ, zero, suc, ◌-◌, ◌<◌, List, Result, ap, sym, arith}
use Rattle.grammar.specs.Readers.{read_named, read_rule}
use Rattle.grammar.specs.Rules.{Sort, El}
use Rattle.ruby_meaning.specs.Grammar.Names.{R}
use Rattle.ruby_meaning.specs.Grammar.Seen.{Seen}
use Rattle.ruby_meaning.specs.Grammar.Table.{table}

pub one_below : {s : Sort} (r : R s) (n : ℕ) (ts : List Seen) → 0 < n → read_rule table (read_named table) r n ts ≡ read_rule table (read_named table) r (suc (n - 1)) ts
one_below r n ts h = ap (λ k. read_rule table (read_named table) r k ts) (omega (arith, h))
