use Rattle.opal_cli.proofs.OneAnswer.{one_answer_is}
use Rattle.opal_cli.proofs.laws.one_answer.Goals as goal

pub returns : goal.returns
returns c =
    one_answer_is c.cells_grow.ensures c.decoded_or_not.ensures c.one_offset.ensures c.one_text.ensures c.script_or_place.ensures.one_place c.script_or_place.ensures.never_both
    c.bytes_spell_one.ensures.one_read c.one_load.ensures.one_load
