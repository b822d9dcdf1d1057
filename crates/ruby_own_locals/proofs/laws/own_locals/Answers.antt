use Rattle.ruby_own_locals.proofs.OwnScopes
use Rattle.ruby_own_locals.proofs.laws.own_locals.Goals as goal

pub returns-clause-own_locals : goal.returns-clause-own_locals
returns-clause-own_locals c = OwnScopes.own_locals

pub returns-clause-scoped_locals : goal.returns-clause-scoped_locals
returns-clause-scoped_locals c = OwnScopes.scoped_locals

pub returns-clause-block_locals : goal.returns-clause-block_locals
returns-clause-block_locals c = OwnScopes.block_locals
