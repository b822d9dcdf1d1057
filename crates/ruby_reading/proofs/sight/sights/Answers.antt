use Rattle.std.proofs.Common.{◌≡◌, ◌-◌, [], ap, refl, sym, ◌∙◌, map, length, take, arith}
use Rattle.ruby_meaning.specs.Grammar.Seen.{seen_behind}
use Rattle.ruby_reading.specs.Ahead.{see}
use Rattle.ruby_reading.specs.Sights.{behind}
use Rattle.ruby_reading.proofs.SightsRead.{sights_on, past_on, all_sights}
use Rattle.ruby_reading.proofs.sight.sights.Goals as goal

pub loop-i-preserved : goal.loop-i-preserved
loop-i-preserved c = record {
  sights = ap (map see) c.in_ok-push.ensures.items
      ∙ sights_on c.args.tokens.now c.loop-i.i c.at-token.result.now _ _ c.loop-i.sights.items _ c.loop-i.invariant.sights c.loop-i.invariant.past c.at-token.ensures c.sign_of-sign.ensures refl;
  past = c.behind-before.ensures ∙ ap (behind c.at-token.result.now) c.loop-i.invariant.past ∙ sym (past_on c.args.tokens.now c.loop-i.i c.at-token.result.now c.at-token.ensures);
}

pub loop-i-init : goal.loop-i-init
loop-i-init c = record { sights = ap (map see) c.new-sights.ensures.items; past = c.start-before.ensures }

pub returns : goal.returns
returns c =
    let n : c.loop-i.i ≡ length c.args.tokens.now - 1 = omega (arith, c.loop-i-test.false, c.loop-i.auto.i-end, c.saturating_sub-i-end.ensures, c.len.ensures) in
    c.loop-i.invariant.sights ∙ ap (λ k. seen_behind [] (take k c.args.tokens.now)) n ∙ all_sights c.args.tokens.now c.requires
