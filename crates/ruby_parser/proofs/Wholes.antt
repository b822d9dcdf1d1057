-- What the reading of a whole list tells.
use Rattle.std.proofs.Common.{◌≡◌, ℕ, suc, ◌-◌, ◌≤◌, ◌<◌, true, false, List, [], ◌∷◌, length, map, take, Bool, Result, Ok, Err, inl, inr, refl, sym, ap, ◌∙◌, subst, arith}
use Rattle.std.specs.Prelude.{nat_eq}
use Rattle.std.proofs.lemmas.Bool.Decides.{nat_tests}
use Rattle.descent.specs.declared.fail.Fail.{Fail}
use Rattle.descent.specs.declared.fail.Fail.TheVariants as fail
use Rattle.grammar.specs.FormReaders.{remaining}
use Rattle.grammar.specs.Readers.{read_named}
use Rattle.grammar.specs.Reading.{FrontUpTo, RefusedAt, SpellsWithin, read_all, whole_list}
use Rattle.grammar.specs.Spelling.{IsFront}
use Rattle.grammar.proofs.FrontTests.{is_front, front_is}
use Rattle.grammar.proofs.OneAnswer as answer
use Rattle.grammar.proofs.Theorem.{read_ok, read_refusal}
use Rattle.opal_base.specs.declared.fault.NoMemory.{NoMemory}
use Rattle.ruby_meaning.specs.Grammar.Laws.{whole_file}
use Rattle.ruby_meaning.specs.Grammar.Refusals.{most_levels}
use Rattle.ruby_meaning.specs.Grammar.Seen.{Seen}
use Rattle.ruby_meaning.specs.Grammar.Table.{table}
use Rattle.ruby_meaning.proofs.Grammar.TableMeets.{predictive}
use Rattle.ruby_parser.specs.declared.read.Halt.{Halt}
use Rattle.ruby_parser.specs.declared.read.Halt.TheVariants as halt
use Rattle.ruby_reading.specs.declared.value.Body.{Body}
use Rattle.ruby_reading.specs.declared.value.Reading.{Reading}
use Rattle.ruby_reading.specs.declared.value.Reading.TheVariants as reading
use Rattle.ruby_parser.specs.Endings.{ended, spelled, whole, whole_body}
use Rattle.ruby_reading.specs.Named.{GivesPart}
use Rattle.ruby_parser.specs.Refusing.{ReadsAll, Tells, TellsIf}
use Rattle.ruby_reading.specs.Shown.{shown_body}

not_zero : (n : ℕ) → nat_eq (suc n) 0 ≡ false
not_zero n = grind (arith, nat_tests)

pub whole_told : (b : ℕ) (ts rest : List Seen) (r : Result Reading Fail) → GivesPart whole_file (read_named table b whole_file ts) r rest → ReadsAll b ts (whole r (length ts) (length rest))
unfolding read_all
whole_told b ts [] (Ok (reading.Body body)) h = ap (whole_list table whole_file b (length ts)) h.1 ∙ ap Ok h.2
whole_told b ts (t ∷ rest) (Ok (reading.Body body)) h =
    subst (λ c. ReadsAll b ts (whole_body c body (length ts) (length (t ∷ rest)))) (sym (not_zero (length rest))) (ap (whole_list table whole_file b (length ts)) h.1)
whole_told b ts rest (Ok (reading.Tree n)) h = absurd h.2
whole_told b ts rest (Ok (reading.Value v)) h = absurd h.2
whole_told b ts rest (Ok (reading.Args a)) h = absurd h.2
whole_told b ts rest (Err fail.NoMemory) h = tt
whole_told b ts rest (Err fail.Refused) h = ap (whole_list table whole_file b (length ts)) h

module _ (ts : List Seen) where
  left_told : (rest : List Seen) → remaining (read_named table most_levels whole_file ts) ≡ length rest → TellsIf (IsFront table whole_file most_levels ts) (Ok (nat_eq (length rest) 0))
  left_told [] e = is_front table predictive whole_file most_levels ts e
  left_told (t ∷ rest) e = subst (λ c. TellsIf (IsFront table whole_file most_levels ts) (Ok c)) (sym (not_zero (length rest))) (λ f. omega (arith, e, front_is table predictive whole_file most_levels ts f))

  pub front_told : (rest : List Seen) (r : Result Reading Fail) → GivesPart whole_file (read_named table most_levels whole_file ts) r rest → TellsIf (IsFront table whole_file most_levels ts) (ended r (length rest))
  front_told rest (Ok r) h = left_told rest (ap remaining h.1)
  front_told rest (Err fail.NoMemory) h = tt
  front_told rest (Err fail.Refused) h = left_told rest (ap remaining h)

pub within_told : (ts : List Seen) (at : ℕ) → at < length ts → (r : Result Bool NoMemory) → TellsIf (IsFront table whole_file most_levels (take (suc at) ts)) r → TellsIf (FrontUpTo table whole_file most_levels ts (suc at)) r
within_told ts at less (Ok true) h = inl (omega (arith, less), h)
within_told ts at less (Ok false) h = by
  where
    by : FrontUpTo table whole_file most_levels ts (suc at) → ⊥
    by (inl f) = h f.1
    by (inr f) = omega (arith, less, f.0)
within_told ts at less (Err e) h = tt

pub end_told : (ts : List Seen) (at : ℕ) → at ≡ length ts → (r : Result Body Halt) → ReadsAll most_levels ts r → TellsIf (FrontUpTo table whole_file most_levels ts (suc at)) (spelled r)
end_told ts at e (Ok body) h =
    let s = read_ok table predictive whole_file most_levels ts (shown_body body) h in
    inr (ap suc e, (shown_body body, s.spells, s.shallow))
end_told ts at e (Err (halt.At stop)) h = by
  where
    by : FrontUpTo table whole_file most_levels ts (suc at) → ⊥
    by (inl f) = omega (arith, e, f.0)
    by (inr f) = answer.never_both table predictive whole_file most_levels ts (f.1.0) stop (record { spells = f.1.1; shallow = f.1.2 }) (read_refusal table predictive whole_file most_levels ts stop h)
end_told ts at e (Err halt.NoMemory) h = tt
