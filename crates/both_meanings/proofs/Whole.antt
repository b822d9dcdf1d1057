-- The law of agreement.
use Rattle.std.proofs.Common.{◌≡◌, [], refl}
use Rattle.ruby_meaning.specs.declared.tree.Node.{Node}
use Rattle.ruby_evaluation.specs.Tables.{Text}
use Rattle.ruby_evaluation.specs.Run.{Bundled, eval_to, program, outcome, ruby_run, ruby_at}
use Rattle.ruby_evaluation.specs.Laws.{calls_of, OneUnitMore}
use Rattle.es5_evaluation.specs.Evaluate.{all}
use Rattle.es5_evaluation.specs.Run.{es_run, es_at, script_scope}
use Rattle.es5_evaluation.specs.Run as script
use Rattle.both_meanings.specs.Law.{Law}
use Rattle.both_meanings.specs.Carries.{Carries}
use Rattle.both_meanings.specs.Law.{Alike}
use Rattle.both_meanings.proofs.Agreeing.{agree, carries}

-- without units no call of the host is made
quiet_at_first : (core : Node) (b : Bundled) (input : Text) → calls_of (outcome core b input 0) ≡ []
unfolding outcome eval_to
quiet_at_first core b input = refl

pub law_by : OneUnitMore → Law
unfolding ruby_run ruby_at es_run es_at script.outcome
law_by more called core b program input a f =
    let t = all program.body script_scope in
    let s = script.first_state program input in
    let o = outcome core b input in
    let C = Carries called in
    record {
      runs = agree t s C a o (Alike C) f (λ r st c z p. p) (more core b input) (quiet_at_first core b input);
      states = carries t s C a o (Alike C) f (λ r st c z p. p) (more core b input) (quiet_at_first core b input);
    }
