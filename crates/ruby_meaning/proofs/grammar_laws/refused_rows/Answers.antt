use Rattle.ruby_meaning.proofs.Grammar.Rows.{refused_rows}
use Rattle.ruby_meaning.proofs.grammar_laws.refused_rows.Goals as goal

pub returns : goal.returns
returns c = refused_rows
