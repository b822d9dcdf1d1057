-- What begins a block.
use Rattle.std.proofs.Common.{◌≡◌, ℕ, Bool, true, false, refl}
use Rattle.grammar.specs.Checks.{first}
use Rattle.ruby_meaning.specs.Grammar.Calls.{block, brace_block, do_block, brace_parts, do_parts, begins_block}
use Rattle.ruby_meaning.specs.Grammar.Table.{table}

pub block_seen : (r d : Bool) (c : ℕ) → first table (block r d) c ≡ begins_block r d c
unfolding table block brace_block do_block brace_parts do_parts
block_seen r true c = refl
block_seen r false c = refl
