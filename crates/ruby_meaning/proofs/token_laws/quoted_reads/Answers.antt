use Rattle.ruby_meaning.proofs.Lexing.Written.{written_reads}
use Rattle.ruby_meaning.proofs.token_laws.quoted_reads.Goals as goal

pub returns : goal.returns
returns c = written_reads
