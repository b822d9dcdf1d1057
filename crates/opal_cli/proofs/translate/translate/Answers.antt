use Rattle.std.proofs.Common.{map}
use Rattle.ruby_meaning.specs.Puts.{puts_text}
use Rattle.ruby_meaning.specs.Puts.{putting}
use Rattle.opal_cli.specs.Translation.{script_of}
use Rattle.opal_cli.proofs.Spellings.{writes_spellable}
use Rattle.opal_cli.proofs.translate.translate.Goals as goal

pub returns-clause-spellable : goal.returns-clause-spellable
returns-clause-spellable c =
    c.printed_is_spelled.ensures (script_of c.args.bundle.now)
    (writes_spellable (map puts_text (putting c.args.bundle.now.main.program.body).texts) c.in_ok-add_statements.ensures.small)
