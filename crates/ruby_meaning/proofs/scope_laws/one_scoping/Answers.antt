use Rattle.ruby_meaning.proofs.Scoping.Once.{scoped_or_refused, one_scoping, one_refusal, not_both}
use Rattle.ruby_meaning.proofs.scope_laws.one_scoping.Goals as goal

pub returns-clause-scoped_or_refused : goal.returns-clause-scoped_or_refused
returns-clause-scoped_or_refused c = scoped_or_refused

pub returns-clause-one_scoping : goal.returns-clause-one_scoping
returns-clause-one_scoping c = one_scoping

pub returns-clause-one_refusal : goal.returns-clause-one_refusal
returns-clause-one_refusal c = one_refusal

pub returns-clause-not_both : goal.returns-clause-not_both
returns-clause-not_both c = not_both
