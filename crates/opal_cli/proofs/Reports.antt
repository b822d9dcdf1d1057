-- What err took.
use Rattle.std.proofs.Common.{◌≡◌, ◌≢◌, ◌⊎◌, ◌∙◌, ℕ, List, take, Some, refl, ap, sym, subst, arith, rules}
use mathlib.Core.Logic.{inl, inr}
use Rattle.std.specs.declared.option.Option.{Option}
use Rattle.opal_base.specs.Outside.{appended, Rose, TookFront, FileMap, Missed}
use Rattle.opal_base.proofs.Took.{appended_none}
use Rattle.opal_cli.specs.Ends.{End, status_of, line_of, WriteFailed, OutOfMemory, MissingFile, IsAnswer}
use Rattle.opal_cli.specs.Words.{Asked}
use Rattle.opal_cli.specs.Answers.{TookFronts, SaidLine, CutLine, Reported, Answers, AnswersWith, AnswersAs, IsNamed, Says, SaysCut, IsRun}
use Rattle.opal_cli.specs.declared.status.Status.{Status}
use Rattle.opal_cli.specs.declared.status.Status.TheVariants.{Done, Uncaught, Usage, Refused, Missing, ReadFault, WriteFault, Outside, OutOfSteps, CellsFull, NotScript, BadInput, NoMemory, TooLong}

-- one line was tried, and where that failed the line of the fault
pub tried : (old new : Option (List ℕ)) (before now : ℕ) (end said : End) (wanted status : Status) (line : List ℕ)
    → (said ≡ end) ⊎ (said ≡ OutOfMemory) → wanted ≡ status_of said → line ≡ line_of said → wanted ≢ WriteFault
    → (status ≡ wanted) ⊎ (status ≡ WriteFault)
    → (status ≢ WriteFault → new ≡ appended old line)
    → (wanted ≢ WriteFault → status ≡ WriteFault → TookFronts old new line (line_of WriteFailed))
    → (wanted ≢ WriteFault → status ≡ WriteFault → Rose before now)
    → Reported old new before now end status
tried old new before now end said wanted status line from w l ne (inl e) said_it cut rose = record {
  said = said;
  from = from;
  told = inl (record {
    is = e ∙ w;
    line = said_it (λ f. ne (sym e ∙ f)) ∙ ap (appended old) l;
    not_cut = λ f. ne (sym e ∙ f);
  });
}
tried old new before now end said wanted status line from w l ne (inr e) said_it cut rose = record {
  said = said;
  from = from;
  told = inr (record {
    is = e;
    cut = subst (λ x. TookFronts old new x (line_of WriteFailed)) l (cut ne e);
    cause = inr (rose ne e);
  });
}

-- the line of the fault alone was tried
pub fault_line : (old new : Option (List ℕ)) (before now : ℕ) (end : End) → status_of end ≡ WriteFault
    → TookFront old new (line_of WriteFailed) → Reported old new before now end WriteFault
fault_line old new before now end e f = record {
  said = end;
  from = inl refl;
  told = inr (record {
    is = refl;
    cut = (0, f.0, omega arith, f.1, f.2 ∙ ap (λ x. appended x (take f.0 (line_of WriteFailed))) (sym (appended_none old)));
    cause = inl e;
  });
}

pub memory_is_no_fault : NoMemory ≢ WriteFault
memory_is_no_fault e = search rules

-- where the call is done the outcome was
pub done_was : (old new : Option (List ℕ)) (before now : ℕ) (end : End) (status : Status) → Reported old new before now end status → status ≡ Done → status_of end ≡ Done
done_was old new before now end status r d = told_done r.told
  where
    from_said : (said : End) → (said ≡ end) ⊎ (said ≡ OutOfMemory) → status_of said ≡ Done → status_of end ≡ Done
    from_said said (inl e) s = ap status_of (sym e) ∙ s
    from_said said (inr e) s = let f : status_of OutOfMemory ≡ Done = ap status_of (sym e) ∙ s in cc

    told_done : SaidLine old new r.said status ⊎ CutLine old new before now r.said status → status_of end ≡ Done
    told_done (inl line) = from_said r.said r.from (sym line.is ∙ d)
    told_done (inr line) = let f : WriteFault ≡ Done = sym line.is ∙ d in cc

-- ---- what the status says of the outcome

-- a status of a run that began is an answer
pub is_answer : (status : Status) → IsRun status → IsAnswer status
is_answer Done r = tt
is_answer Uncaught r = tt
is_answer Usage r = absurd r
is_answer Refused r = absurd r
is_answer Missing r = absurd r
is_answer ReadFault r = absurd r
is_answer WriteFault r = absurd r
is_answer Outside r = tt
is_answer OutOfSteps r = tt
is_answer CellsFull r = tt
is_answer NotScript r = absurd r
is_answer BadInput r = absurd r
is_answer NoMemory r = absurd r
is_answer TooLong r = absurd r

-- an answer that was told is that of the outcome
pub answers_as : (files : FileMap) (input : Option (List ℕ)) (words : Option Asked) (out_old out_new old new : Option (List ℕ)) (before now : ℕ) (end : End) (status : Status)
    → Reported old new before now end status → IsAnswer status → (IsAnswer (status_of end) → AnswersWith files input words end out_old out_new)
    → AnswersAs files input words status out_old out_new
answers_as files input words out_old out_new old new before now end status r a with_end = from_told r.told
  where
    from_said : (said : End) → (said ≡ end) ⊎ (said ≡ OutOfMemory) → status ≡ status_of said → AnswersAs files input words status out_old out_new
    from_said said (inl e) s = let is : status ≡ status_of end = s ∙ ap status_of e in (end, with_end (subst IsAnswer is a), is)
    from_said said (inr e) s = absurd (subst IsAnswer (s ∙ ap status_of e) a)

    from_told : SaidLine old new r.said status ⊎ CutLine old new before now r.said status → AnswersAs files input words status out_old out_new
    from_told (inl line) = from_said r.said r.from line.is
    from_told (inr line) = absurd (subst IsAnswer line.is a)

-- what was said is the outcome, or want of memory, and names what is answered
named : (files : Option FileMap) (input : Option (List ℕ)) (words : Option Asked) (missed : List ℕ) (out_old out_new : Option (List ℕ)) (tally_old tally_new : ℕ) (end said : End)
    → ((map : FileMap) → files ≡ Some map → IsAnswer (status_of end) → AnswersWith map input words end out_old out_new)
    → ((name : List ℕ) → end ≡ MissingFile name → Missed tally_old tally_new missed name)
    → (said ≡ end) ⊎ (said ≡ OutOfMemory) → IsNamed files input words missed said
named files input words missed out_old out_new tally_old tally_new end said answers missing (inl e) = record {
  answer = λ map told a. let w = answers map told (subst (λ x. IsAnswer (status_of x)) e a) in (w.0, subst (λ x. Answers map input words x w.0) (sym e) w.1);
  missing = λ name is. (missing name (sym e ∙ is)).is_kept;
}
named files input words missed out_old out_new tally_old tally_new end said answers missing (inr e) = record {
  answer = λ map told a. absurd (subst (λ x. IsAnswer (status_of x)) e a);
  missing = λ name is. let f : OutOfMemory ≡ MissingFile name = sym e ∙ is in cc;
}

-- the line that was told names what is answered
pub says : (files : Option FileMap) (input : Option (List ℕ)) (words : Option Asked) (missed : List ℕ) (out_old out_new old new : Option (List ℕ)) (before now tally_old tally_new : ℕ) (end : End) (status : Status)
    → Reported old new before now end status
    → ((map : FileMap) → files ≡ Some map → IsAnswer (status_of end) → AnswersWith map input words end out_old out_new)
    → ((name : List ℕ) → end ≡ MissingFile name → Missed tally_old tally_new missed name)
    → status ≢ WriteFault → Says files input words missed old new status
says files input words missed out_old out_new old new before now tally_old tally_new end status r answers missing not_cut = from_told r.told
  where
    from_told : SaidLine old new r.said status ⊎ CutLine old new before now r.said status → Says files input words missed old new status
    from_told (inl line) = record {
      end = r.said;
      is = line.is;
      names = named files input words missed out_old out_new tally_old tally_new end r.said answers missing r.from;
      line = line.line;
    }
    from_told (inr line) = absurd (not_cut line.is)

-- and so does the line that was cut
pub says_cut : (files : Option FileMap) (input : Option (List ℕ)) (words : Option Asked) (missed : List ℕ) (out_old out_new old new : Option (List ℕ)) (before now tally_old tally_new : ℕ) (end : End) (status : Status)
    → Reported old new before now end status
    → ((map : FileMap) → files ≡ Some map → IsAnswer (status_of end) → AnswersWith map input words end out_old out_new)
    → ((name : List ℕ) → end ≡ MissingFile name → Missed tally_old tally_new missed name)
    → status ≡ WriteFault → SaysCut files input words missed old new
says_cut files input words missed out_old out_new old new before now tally_old tally_new end status r answers missing cut = from_told r.told
  where
    from_told : SaidLine old new r.said status ⊎ CutLine old new before now r.said status → SaysCut files input words missed old new
    from_told (inl line) = absurd (line.not_cut cut)
    from_told (inr line) = record {
      end = r.said;
      names = named files input words missed out_old out_new tally_old tally_new end r.said answers missing r.from;
      cut = line.cut;
    }
