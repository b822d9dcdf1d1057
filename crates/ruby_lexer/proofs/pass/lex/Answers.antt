use Rattle.std.proofs.Common.{◌≡◌, ◌+◌, length, ap, sym, ◌∙◌, subst, arith}
use Rattle.ruby_meaning.specs.declared.form.Stand.TheVariants as stand
use Rattle.ruby_meaning.specs.Lexing.Stands.{stands}
use Rattle.ruby_meaning.proofs.Lexing.Steps.{Progress, progress_more, after_at}
use Rattle.ruby_lexer.proofs.pass.lex.Goals as goal

pub pieces-preserved : goal.pieces-preserved
pieces-preserved c =
    let slice = c.split_at.result.0.now in
    let more = c.split_at.result.1.now in
    let spot = c.pieces.spot in
    let passed = c.in_ok-go_on-in-Form.ensures.ok in
    let here = sym (c.in-Form.ensures.value ∙ ap (λ p. stands p c.pieces.rest.now) c.place.ensures) ∙ ap (stand.Form c.in-Form.form) (sym c.split_at.ensures.front_len) in
    let at = ap (λ s. s.at) passed ∙ after_at spot c.in-Form.form slice in
    let back : length more + c.in-Form.n ≡ length c.pieces.rest.now = c.split_at.ensures.back_len in
    let front : length slice ≡ c.in-Form.n = c.split_at.ensures.front_len in
    record {
      progress = subst (λ s. Progress c.args.text.now s more c.emit.new.tokens) (sym passed)
          (progress_more c.args.text.now spot c.pieces.rest.now c.pieces.tokens c.emit.new.tokens c.in-Form.form slice more
          c.pieces.invariant.progress c.split_at.ensures.by_index.0 here c.in_ok-emit-in-Form.ensures.ok);
      length = ap (λ n. n + length more) at ∙ omega (arith, c.pieces.invariant.length, front, back);
      line = c.in_ok-go_on-in-Form.ensures.line;
      col = c.in_ok-go_on-in-Form.ensures.col;
    }
