-- What more units change in what a run shows.
use Rattle.std.proofs.Common.{◌≡◌, inl, inr, ℕ, ◌+◌, ◌-◌, ◌≤◌, List, ◌++◌, map, refl, sym, ap, ◌∙◌, subst, arith}
use Rattle.std.proofs.lemmas.Bool.{cases_lt}
use Rattle.std.proofs.lemmas.List.{map-append}
use Rattle.opal_base.specs.Shown.{output_of, Ended, Going, Shows}
use Rattle.opal_base.proofs.Outputs.{output_both}
use Rattle.ruby_meaning.specs.declared.tree.Node.{Node}
use Rattle.ruby_evaluation.specs.Tables.{Text}
use Rattle.ruby_evaluation.specs.Ends.{RubyEnd, NumberOutside}
use Rattle.ruby_evaluation.specs.Task.{Moment, Outcome, Ends, Left, Starved}
use Rattle.ruby_evaluation.specs.Run.{Bundled, outcome, end_of, shown, ruby_run}
use Rattle.ruby_evaluation.specs.Laws.{calls_of, HasEnded, with_left, EndStays, OneEnd, OutputGrows}
use Rattle.ruby_evaluation.proofs.Next.{more_units, calls_grow}

-- what the calls wrote
abbrev pub written : List Moment → List ℕ
written calls = output_of (map (λ m. m.call) calls)

written_both : (later calls : List Moment) → written (later ++ calls) ≡ written calls ++ written later
written_both later calls = ap output_of (map-append (λ m. m.call) later calls) ∙ output_both (map (λ m. m.call) later) (map (λ m. m.call) calls)

-- ---- outcomes

has_ended : (o : Outcome) (output : List ℕ) (end : RubyEnd) → shown o ≡ Ended output end → HasEnded o
has_ended (Ends r s l) output end e = tt
has_ended (Left s l) output end e = tt
has_ended (Starved s) output end e = cc

same_shown : (k : ℕ) (o : Outcome) → shown (with_left k o) ≡ shown o
same_shown k (Ends r s l) = refl
same_shown k (Left s l) = refl
same_shown k (Starved s) = refl

shows_all : (o : Outcome) (output : List ℕ) → written (calls_of o) ≡ output → Shows (shown o) output
shows_all (Ends r s l) output e = inr (end_of r s.ruby, ap (λ w. Ended w (end_of r s.ruby)) e)
shows_all (Left s l) output e = inr (NumberOutside, ap (λ w. Ended w NumberOutside) e)
shows_all (Starved s) output e = inl (ap Going e)

shown_all : (o : Outcome) (output : List ℕ) → Shows (shown o) output → written (calls_of o) ≡ output
shown_all (Ends r s l) output (inl e) = cc
shown_all (Ends r s l) output (inr e) = let f = e.1 in cc
shown_all (Left s l) output (inl e) = cc
shown_all (Left s l) output (inr e) = let f = e.1 in cc
shown_all (Starved s) output (inl e) = cc
shown_all (Starved s) output (inr e) = let f = e.1 in cc

more_shown : (o longer : Outcome) (later : List Moment) (output : List ℕ) → calls_of longer ≡ later ++ calls_of o → Shows (shown o) output → Shows (shown longer) (output ++ written later)
more_shown o longer later output e shows =
    shows_all longer _ (ap written e ∙ written_both later (calls_of o) ∙ ap (λ w. w ++ written later) (shown_all o output shows))

-- ---- the laws

pub end_stays : EndStays
unfolding ruby_run
end_stays core b input n k output end e =
    ap shown (more_units core b input n k (has_ended (outcome core b input n) output end e)) ∙ same_shown k (outcome core b input n) ∙ e

-- with m units, which are no fewer than n
no_fewer : (core : Node) (b : Bundled) (input : Text) (n m : ℕ) (output other : List ℕ) (end last : RubyEnd) → n ≤ m → ruby_run core b input n ≡ Ended output end → ruby_run core b input m ≡ Ended other last → (output ≡ other) × (end ≡ last)
no_fewer core b input n m output other end last l e f =
    let same : n + (m - n) ≡ m = omega arith in
    let later : ruby_run core b input m ≡ Ended output end = subst (λ k. ruby_run core b input k ≡ Ended output end) same (end_stays core b input n (m - n) output end e) in
    (cc, cc)

pub one_end : OneEnd
one_end core b input n m output other end last e f =
    elim (cases_lt n m) [
      | inl l ↦ no_fewer core b input n m output other end last (omega arith) e f
      | inr l ↦ let r = no_fewer core b input m n other output last end l f e in (sym r.0, sym r.1)
    ]

pub output_grows : OutputGrows
unfolding ruby_run
output_grows core b input n k output e =
    let later = calls_grow core b input n k in
    (written later.0, more_shown (outcome core b input n) (outcome core b input (n + k)) later.0 output later.1 e)
