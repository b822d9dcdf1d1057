use Rattle.std.proofs.Common.{◌≡◌, ◌≤◌, ap, map, sym, ◌∙◌, length, subst}
use Rattle.ruby_meaning.specs.Grammar.Laws.{sight}
use Rattle.ruby_reading.specs.Ahead.{see}
use Rattle.ruby_parser.specs.Refusing.{ConstructIs}
use Rattle.ruby_parser.proofs.Constructs.{program_told, refusal_told, stop_before, stop_within}
use Rattle.ruby_parser.proofs.pass.parse.Goals as goal

pub returns-in-Ok-clause-spelled : goal.returns-in-Ok-clause-spelled
returns-in-Ok-clause-spelled c =
    program_told c.args.tokens.now (map see c.deref.result.now) c.in-Ok.body (ap (map see) c.deref.ensures.value ∙ c.in_ok-sights.ensures) c.in-Ok.ensures

pub construct_at-requires-clause-within : goal.construct_at-requires-clause-within
construct_at-requires-clause-within c =
    subst (λ n. c.in-Err-At.at ≤ n) (ap length (c.deref.ensures.value ∙ sym c.deref-in-Err-At.ensures.value)) (stop_within c.deref.result.now c.in-Err-At.at (rw c.in-Err-At.field-0-is at c.in-Err-At.ensures))

pub at-requires : goal.at-requires
at-requires c =
    stop_before c.args.tokens.now (map see c.deref.result.now) c.in-Err-At.at c.requires.ended (ap (map see) c.deref.ensures.value ∙ c.in_ok-sights.ensures) (rw c.in-Err-At.field-0-is at c.in-Err-At.ensures)

pub returns-clause-refused : goal.returns-clause-refused
returns-clause-refused c =
    let same = ap (map see) c.deref.ensures.value ∙ c.in_ok-sights.ensures in
    let read = ap (map see) (c.deref-in-Err-At.ensures.value ∙ sym c.deref.ensures.value) in
    refusal_told c.args.tokens.now (map see c.deref.result.now) c.in-Err-At.at c.in_ok-construct-in-Err-At.construct c.at.result.now same (rw c.in-Err-At.field-0-is at c.in-Err-At.ensures)
    (subst (λ l. ConstructIs l c.in-Err-At.at c.in_ok-construct-in-Err-At.construct) read c.in_ok-construct-in-Err-At.ensures) c.at.ensures
