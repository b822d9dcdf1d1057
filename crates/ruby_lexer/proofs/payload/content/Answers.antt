use Rattle.ruby_meaning.specs.Lexing.Characters.{char_len}
use Rattle.ruby_meaning.specs.Lexing.Texts.{means}
use Rattle.ruby_meaning.proofs.Lexing.Chars.{content_on, content_over, content_out}
use Rattle.ruby_lexer.proofs.payload.content.Goals as goal
use Rattle.ruby_lexer.proofs.payload.content.Goals.{else-chars-test, then-chars-test+then-n-eq0}

pub chars-preserved : goal.chars-preserved
chars-preserved c = content_on (char_len c.args.spelling) (means c.args.spelling) c.args.z.now c.chars.end c.char_len-n.result c.chars.out c.push_char.new.out _ c.char_len-n.ensures.value c.if-n-eq0.false c.char_len-n.ensures.within c.chars.invariant.1 c.in_ok-push_char.ensures.ok c.chars.invariant.0

pub returns : goal.returns
returns c =
    let f = char_len c.args.spelling in
    let g = means c.args.spelling in
    elim c.chars-test.branch [
      | else-chars-test w ↦ content_out f g c.args.z.now c.chars.end c.chars.out _ w.chars-test.false c.chars.invariant.0
      | then-chars-test+then-n-eq0 w ↦ content_over f g c.args.z.now c.chars.end w.char_len-n.result c.chars.out _ w.char_len-n.ensures.value w.if-n-eq0.true c.chars.invariant.0
    ]
