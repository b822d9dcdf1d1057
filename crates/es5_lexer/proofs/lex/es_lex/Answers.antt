use Rattle.std.proofs.Common.{ap, length, subst, arith, length-append}
use Rattle.es5_tree.proofs.Slices.{lexed_ended}
use Rattle.es5_tree.proofs.Slices.{slices_ascend_is, numerals_safe_is}
use Rattle.es5_lexer.specs.Pieces.{AllowedOrNot, token_here}
use Rattle.es5_lexer.proofs.Steps.{from}
use Rattle.es5_lexer.proofs.Passing.{one_at_most, piece_fits, progress_more, slice_is, all_lexed}
use Rattle.es5_lexer.proofs.lex.es_lex.Goals as goal

pub pieces-preserved : goal.pieces-preserved
pieces-preserved c =
    let bytes = c.args.bytes.now in
    let piece = c.in-Some.piece in
    let found = subst (AllowedOrNot c.pieces.restriction (from bytes c.pieces.at)) c.in-Some.is c.in_ok-piece.ensures in
    let new = c.in_ok-emit.ensures in
    let within = piece_fits bytes c.pieces.restriction c.pieces.at piece.size piece.kind found c.pieces.invariant.within in
    record {
      progress = progress_more bytes c.pieces.at piece.size c.pieces.restriction c.after-restriction.result c.pieces.tokens c.emit.new.tokens piece.kind c.pieces.pos c.pieces.invariant.progress c.pieces.invariant.place found c.pieces.invariant.within (slice_is bytes c.pieces.at piece.size c.pieces.restriction c.after-restriction.result piece.kind within c.after-restriction.ensures) new;
      place = c.place_from-pos.ensures.is;
      bound = c.place_from-pos.ensures.bound;
      within = within;
      few = omega (arith, ap length new, length-append c.pieces.tokens (token_here c.pieces.pos c.pieces.at piece.size piece.kind), one_at_most c.pieces.pos c.pieces.at piece.size piece.kind, found.some, c.pieces.invariant.few);
    }

pub returns-clause-ended : goal.returns-clause-ended
returns-clause-ended c = lexed_ended c.args.bytes.now _ (all_lexed c.args.bytes.now c.pieces.at c.pieces.restriction c.pieces.tokens c.emit-2.new.tokens c.pieces.pos c.pieces.invariant.progress c.pieces.invariant.place c.pieces.invariant.within c.pieces-test.false c.in_ok-emit-2.ensures)

pub returns-clause-ascend : goal.returns-clause-ascend
returns-clause-ascend c = slices_ascend_is c.args.bytes.now _ (all_lexed c.args.bytes.now c.pieces.at c.pieces.restriction c.pieces.tokens c.emit-2.new.tokens c.pieces.pos c.pieces.invariant.progress c.pieces.invariant.place c.pieces.invariant.within c.pieces-test.false c.in_ok-emit-2.ensures)

pub returns-clause-safe : goal.returns-clause-safe
returns-clause-safe c = numerals_safe_is c.args.bytes.now _ (all_lexed c.args.bytes.now c.pieces.at c.pieces.restriction c.pieces.tokens c.emit-2.new.tokens c.pieces.pos c.pieces.invariant.progress c.pieces.invariant.place c.pieces.invariant.within c.pieces-test.false c.in_ok-emit-2.ensures)
