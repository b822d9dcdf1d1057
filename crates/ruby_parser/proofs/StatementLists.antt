-- Lines of statements, read in a loop.
use Rattle.std.proofs.Common.{◌≡◌, ℕ, zero, suc, Bool, true, false, List, [], ◌∷◌, ◌++◌, Option, Some, None, Result, Ok, Err, refl, sym, ap, ◌∙◌, append_assoc, append-nil}
use Rattle.std.specs.Prelude.{◌||◌, if◌then◌else◌}
use Rattle.grammar.specs.FormReaders.{and_then, next_in, read_many}
use Rattle.ruby_meaning.specs.declared.tree.Node.{Node}
use Rattle.ruby_meaning.specs.declared.token.Word.TheVariants as word
use Rattle.ruby_meaning.specs.Grammar.Actions as act
use Rattle.ruby_meaning.specs.Grammar.Classes.{key}
use Rattle.ruby_meaning.specs.Grammar.Seen.{Seen}
use Rattle.ruby_reading.specs.Ahead.{class_code}
use Rattle.ruby_parser.specs.StatementValues.{read_lines_from, with_line, begins_modifier}

abbrev Lines : Type 0
Lines = Result (List (Option Node) × List Seen) (List Seen)

abbrev Found : Type 0
Found = Result (List Node × List Seen) (List Seen)

abbrev behind : List Node → Lines → Found
behind found o = and_then o (λ xs r. Ok (found ++ act.statements xs, r))

again : (found : List Node) (a : Option Node) (o : Lines) → behind (with_line found a) o ≡ behind found (and_then o (λ xs r. Ok (a ∷ xs, r)))
again found None (Ok y) = refl
again found (Some n) (Ok y) = ap (λ z. Ok (z, y.1)) (append_assoc found (n ∷ []) (act.statements y.0))
again found a (Err y) = refl

none : (found : List Node) (ts : List Seen) → ◌≡◌ {A = Found} (Ok (found, ts)) (Ok (found ++ [], ts))
none found ts = ap (λ z. Ok (z, ts)) (sym (append-nil found))

pub lines_from_is : (first : Seen → Bool) (p : List Seen → Result (Option Node × List Seen) (List Seen)) (n : ℕ) (found : List Node) (ts : List Seen)
    → read_lines_from first p n found ts ≡ and_then (read_many first p n ts) (λ xs r. Ok (found ++ act.statements xs, r))
unfolding read_lines_from
lines_from_is first p zero found ts = none found ts
lines_from_is first p (suc n) found ts = by (λ a r. lines_from_is first p n (with_line found a) r) (next_in first ts) (p ts)
  where
    by : ((a : Option Node) (r : List Seen) → read_lines_from first p n (with_line found a) r ≡ behind (with_line found a) (read_many first p n r)) → (c : Bool) (o : Result (Option Node × List Seen) (List Seen))
        → (if c then and_then o (λ a rest. read_lines_from first p n (with_line found a) rest) else Ok (found, ts))
        ≡ behind found (if c then and_then o (λ a rest. and_then (read_many first p n rest) (λ xs after. Ok (a ∷ xs, after))) else Ok ([], ts))
    by go true (Ok y) = go y.0 y.1 ∙ again found y.0 (read_many first p n y.1)
    by go true (Err y) = refl
    by go false o = none found ts

-- the statement of a first line, and others
pub first_line : (o : Option Node) (os : List (Option Node)) → with_line [] o ++ act.statements os ≡ act.statements (o ∷ os)
first_line None os = refl
first_line (Some n) os = refl

pub modifier_seen : (ts : List Seen) → next_in begins_modifier ts
    ≡ (next_in (λ t. key word.If (class_code t)) ts || (next_in (λ t. key word.Unless (class_code t)) ts || (next_in (λ t. key word.While (class_code t)) ts || next_in (λ t. key word.Until (class_code t)) ts)))
modifier_seen [] = refl
modifier_seen (t ∷ ts) = refl
