-- The program that tokens spell, and the place of a refusal.
use Rattle.std.proofs.Common.{◌≡◌, ℕ, ◌≤◌, List, ◌++◌, ◌⊎◌, inl, inr, ap}
use Rattle.grammar.specs.Rules.{El, deep}
use Rattle.grammar.specs.Spelling.{Spells, IsFront}
use Rattle.grammar.specs.Reading.{SpellsWithin}
use Rattle.grammar.proofs.OneAnswer as answer
use Rattle.grammar.proofs.Theorem.{one_tree}
use Rattle.ruby_meaning.specs.declared.production.Part.{Part}
use Rattle.ruby_meaning.specs.declared.token.Token.{Token}
use Rattle.ruby_meaning.specs.declared.tree.Node.{Node}
use Rattle.ruby_meaning.specs.declared.tree.Program.{Program}
use Rattle.ruby_meaning.specs.Depth.{depth_of}
use Rattle.ruby_meaning.specs.Grammar.Laws.{whole_file, sight, SpellsProgram, SpellsInLimit, limit, GrammarFault}
use Rattle.ruby_meaning.specs.Grammar.Names.{sorts}
use Rattle.ruby_meaning.specs.Grammar.Seen.{Seen}
use Rattle.ruby_meaning.specs.Grammar.Table.{table}
use Rattle.ruby_meaning.proofs.Grammar.TableMeets.{predictive}

abbrev file : Node × ℕ → Program
file x = record { body = x.0 }

pub one_program : (tokens : List Token) (p q : Program) → SpellsProgram p tokens → SpellsProgram q tokens → p ≡ q
one_program tokens p q h g = ap file (one_tree table predictive whole_file (p.body, h.written) (q.body, g.written) (sight tokens) h.spells g.spells)

within : (tokens : List Token) (p : Program) → SpellsInLimit p tokens → (n : ℕ) × SpellsWithin table whole_file limit (p.body, n) (sight tokens)
unfolding table
within tokens p h = (h.spelled.written, record { spells = h.spelled.spells; shallow = h.shallow })

in_limit : (tokens : List Token) (x : Node × ℕ) → SpellsWithin table whole_file limit x (sight tokens) → SpellsInLimit (file x) tokens
unfolding table
in_limit tokens x h = record { spelled = record { written = x.1; spells = h.spells }; shallow = h.shallow }

pub some_answer : (tokens : List Token) → ((p : Program) × SpellsInLimit p tokens) ⊎ ((at : ℕ) × GrammarFault tokens at)
some_answer tokens = elim (answer.some_answer table predictive whole_file limit (sight tokens)) [
  | inl x ↦ inl (file x.0, in_limit tokens x.0 x.1)
  | inr x ↦ inr x
]

pub never_both : (tokens : List Token) (p : Program) (at : ℕ) → SpellsInLimit p tokens → GrammarFault tokens at → ⊥
never_both tokens p at h g = let w = within tokens p h in answer.never_both table predictive whole_file limit (sight tokens) (p.body, w.0) at w.1 g

pub one_place : (tokens : List Token) (at other : ℕ) → GrammarFault tokens at → GrammarFault tokens other → at ≡ other
one_place tokens at other h g = answer.one_place table predictive whole_file limit (sight tokens) at other h g

pub beginnings : (k : Part) (levels : ℕ) (u v : List Seen) (x : El Seen Node (sorts k)) → Spells table k x (u ++ v) → deep Seen depth_of (sorts k) x ≤ levels → IsFront table k levels u
unfolding table
beginnings k levels u v x h le = answer.beginning table predictive k levels u x v h le
