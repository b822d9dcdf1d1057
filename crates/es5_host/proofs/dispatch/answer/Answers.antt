use Rattle.es5_objects.specs.Values.{value_of}
use Rattle.es5_host.proofs.Quiet.{no_fault, char_code_at_quiet, substring_quiet, index_of_quiet, from_char_code_quiet, line_quiet}
use Rattle.es5_host.proofs.dispatch.answer.Goals as goal

pub returns-in-CharCodeAt-clause-cause : goal.returns-in-CharCodeAt-clause-cause
returns-in-CharCodeAt-clause-cause g c = no_fault _ c.char_code_at.result _ _ _ _ (char_code_at_quiet (value_of c.args.this.now) c.args.args.now) (c.char_code_at.ensures c.args.heap.now)

pub returns-in-Substring-clause-cause : goal.returns-in-Substring-clause-cause
returns-in-Substring-clause-cause g c = no_fault _ c.substring.result _ _ _ _ (substring_quiet (value_of c.args.this.now) c.args.args.now) (c.substring.ensures c.args.heap.now)

pub returns-in-IndexOf-clause-cause : goal.returns-in-IndexOf-clause-cause
returns-in-IndexOf-clause-cause g c = no_fault _ c.index_of.result _ _ _ _ (index_of_quiet (value_of c.args.this.now) c.args.args.now) (c.index_of.ensures c.args.heap.now)

pub returns-in-FromCharCode-clause-cause : goal.returns-in-FromCharCode-clause-cause
returns-in-FromCharCode-clause-cause g c = no_fault _ c.from_char_code.result _ _ _ _ (from_char_code_quiet c.args.args.now) (c.from_char_code.ensures c.args.heap.now)

pub returns-in-Line-clause-cause : goal.returns-in-Line-clause-cause
returns-in-Line-clause-cause g c = no_fault _ c.line.result _ _ _ _ (line_quiet c.args.input.now c.args.args.now) (c.line.ensures.answer c.args.heap.now)
