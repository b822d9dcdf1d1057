use Rattle.std.proofs.Common.{◌∙◌, ◌<◌, ◌^◌, length, Err, sym, ap, subst}
use Rattle.es5_tree.specs.Grammar.Spelling.{EsSpells}
use Rattle.opal_cli.specs.Translation.{script_of}
use Rattle.opal_cli.specs.Answers.{script_text}
use Rattle.opal_cli.proofs.Compiling.{compiled, front_of_load, nothing_compiled, nothing_printed, script_written}
use Rattle.opal_cli.proofs.compile.compile.Goals as goal

pub returns-in-Err-clause-answer : goal.returns-in-Err-clause-answer
returns-in-Err-clause-answer g c map e a = nothing_compiled map c.args.file.now c.in-Err.fault _ _ (c.in-Err.ensures.loads map e) c.unloaded.ensures a

pub returns-in-Ok-write_all-clause-headline : goal.returns-in-Ok-write_all-clause-headline
returns-in-Ok-write_all-clause-headline g c map e d =
    compiled map c.args.file.now c.in-Ok.bundle c.as_slice.result.now _ _ (c.in-Ok.ensures.loads map e)
    (c.as_slice.ensures ∙ c.in-Ok-script_text.ensures.text) c.in-Ok-script_text.ensures.agrees
    (subst (EsSpells (script_of c.in-Ok.bundle)) (sym c.as_slice.ensures) c.in-Ok-script_text.ensures.spells)
    c.in-Ok-write_all.ensures.took

pub returns-in-Ok-write_all-clause-answer : goal.returns-in-Ok-write_all-clause-answer
returns-in-Ok-write_all-clause-answer g c map e a =
    script_written map c.args.file.now c.in-Ok.bundle c.as_slice.result.now _ _ (c.in-Ok.ensures.loads map e)
    (c.as_slice.ensures ∙ c.in-Ok-script_text.ensures.text) (subst (λ text. length text < 2 ^ 31) (sym c.as_slice.ensures) c.in-Ok-script_text.ensures.short) c.in-Ok-write_all.ensures.took

pub returns-in-Err-script_text-clause-answer : goal.returns-in-Err-script_text-clause-answer
returns-in-Err-script_text-clause-answer g c map e a =
    nothing_printed map c.args.file.now c.in-Ok.bundle c.in-Err-script_text.stop _ _ (c.in-Ok.ensures.loads map e) (λ is. c.in-Err-script_text.ensures.long (ap Err is)) c.unprinted.ensures a

pub returns-in-Ok-write_all-clause-front : goal.returns-in-Ok-write_all-clause-front
returns-in-Ok-write_all-clause-front g c map e loaded l =
    front_of_load script_text map c.args.file.now c.in-Ok.bundle c.as_slice.result.now loaded _ _ c.one_load.ensures.one_load (c.in-Ok.ensures.loads map e)
    (c.as_slice.ensures ∙ c.in-Ok-script_text.ensures.text) l c.write_all.ensures.front

pub returns-clause-front : goal.returns-clause-front
returns-clause-front g c map e loaded l =
    front_of_load script_text map c.args.file.now c.in-Ok.bundle c.as_slice.result.now loaded _ _ c.one_load.ensures.one_load (c.in-Ok.ensures.loads map e)
    (c.as_slice.ensures ∙ c.in-Ok-script_text.ensures.text) l c.write_all.ensures.front
