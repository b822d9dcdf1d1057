use Rattle.es5_calls.proofs.words.value.Goals as goal

pub returns : goal.returns
returns c = c.named_value.ensures c.args.objects
