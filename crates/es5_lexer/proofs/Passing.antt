-- From the pieces so far to one more.
use Rattle.std.proofs.Common.{◌≡◌, ℕ, ◌+◌, ◌-◌, ◌≤◌, List, [], ◌∷◌, ◌++◌, Option, Some, None, take, drop, length, refl, sym, ap, ◌∙◌, subst, arith, length-append, length-drop, append_assoc}
use Rattle.std.proofs.lemmas.List.{take_rest, drop-drop, append-nil, take-append-drop, drop_all}
use Rattle.opal_base.specs.declared.place.Pos.{Pos}
use Rattle.opal_base.specs.Place.{place_at}
use Rattle.es5_tree.specs.declared.token.EsToken.{EsToken}
use Rattle.es5_tree.specs.declared.token.EsTokenKind.{EsTokenKind}
use Rattle.es5_tree.specs.declared.token.EsTokenKind.TheVariants.{End}
use Rattle.es5_tree.specs.declared.lexing.Restriction.{Restriction}
use Rattle.es5_tree.specs.declared.lexing.Restriction.TheVariants.{Free}
use Rattle.es5_tree.specs.Tokens.{kind_of, StandsAt, after, after_piece, after_all, Piece, Reaches}
use Rattle.es5_tree.specs.Lexed.{LexesTo, token_at, token_if, tokens_from}
use Rattle.es5_lexer.specs.Pieces.{AllowedAt, Progress, token_here}
use Rattle.es5_lexer.proofs.Steps.{from}

reaches_more : (pieces : List Piece) (restriction : Restriction) (bytes rest more : List ℕ) (piece : Piece) → Reaches restriction bytes pieces rest → rest ≡ piece.slice ++ more → StandsAt (after_all restriction pieces) piece.form rest more → Reaches restriction bytes (pieces ++ piece ∷ []) more
reaches_more [] restriction bytes rest more piece h e s = (more, h ∙ e, subst (λ b. StandsAt restriction piece.form b more) (sym h) s, refl)
reaches_more (first ∷ pieces) restriction bytes rest more piece (mid, r, st, l) e s = (mid, r, st, reaches_more pieces (after_piece restriction first) mid rest more piece l e s)

after_more : (pieces : List Piece) (restriction : Restriction) (piece : Piece) → after_all restriction (pieces ++ piece ∷ []) ≡ after_piece (after_all restriction pieces) piece
after_more [] restriction piece = refl
after_more (first ∷ pieces) restriction piece = after_more pieces (after_piece restriction first) piece

tokens_more : (pieces : List Piece) (bytes : List ℕ) (piece : Piece) (restriction : Restriction) (begin at : ℕ) (text rest : List ℕ) → Reaches restriction text pieces rest → begin + length text ≡ at + length rest → tokens_from bytes begin (pieces ++ piece ∷ []) ≡ tokens_from bytes begin pieces ++ token_if bytes at (length piece.slice) (kind_of piece.form)
tokens_more [] bytes piece restriction begin at text rest h e =
    let here : begin ≡ at = omega (arith, e, ap length h) in
    append-nil _ ∙ ap (λ n. token_if bytes n (length piece.slice) (kind_of piece.form)) here
tokens_more (first ∷ pieces) bytes piece restriction begin at text rest (mid, r, st, l) e =
    let behind : begin + length first.slice + length mid ≡ at + length rest = omega (arith, e, ap length r, length-append first.slice mid) in
    ap (λ ts. token_if bytes begin (length first.slice) (kind_of first.form) ++ ts) (tokens_more pieces bytes piece (after_piece restriction first) (begin + length first.slice) at mid rest l behind)
    ∙ sym (append_assoc (token_if bytes begin (length first.slice) (kind_of first.form)) _ _)

here_is : (bytes : List ℕ) (at size : ℕ) (kind : Option EsTokenKind) → token_here (place_at bytes at) at size kind ≡ token_if bytes at size kind
here_is bytes at size None = refl
here_is bytes at size (Some kind) = refl

pub one_at_most : (pos : Pos) (at size : ℕ) (kind : Option EsTokenKind) → length (token_here pos at size kind) ≤ 1
one_at_most pos at size None = omega arith
one_at_most pos at size (Some kind) = omega arith

pub piece_fits : (bytes : List ℕ) (restriction : Restriction) (at size : ℕ) (kind : Option EsTokenKind) → AllowedAt restriction (from bytes at) kind size → at ≤ length bytes → at + size ≤ length bytes
piece_fits bytes restriction at size kind h l = omega (arith, h.within, ap length (take_rest bytes at), length-drop at bytes)

pub slice_is : (bytes : List ℕ) (at size : ℕ) (restriction next : Restriction) (kind : Option EsTokenKind) → at + size ≤ length bytes → next ≡ after restriction kind (take (at + size - at) (drop at bytes)) → next ≡ after restriction kind (take size (drop at bytes))
slice_is bytes at size restriction next kind l e = let same : at + size - at ≡ size = omega arith in e ∙ ap (λ n. after restriction kind (take n (drop at bytes))) same

pub progress_more : (bytes : List ℕ) (at size : ℕ) (restriction next : Restriction) (tokens new : List EsToken) (kind : Option EsTokenKind) (pos : Pos) → Progress bytes at restriction tokens → pos ≡ place_at bytes at → AllowedAt restriction (from bytes at) kind size → at ≤ length bytes → next ≡ after restriction kind (take size (drop at bytes)) → new ≡ tokens ++ token_here pos at size kind → Progress bytes (at + size) next new
progress_more bytes at size restriction next tokens new kind pos h p found l n e =
    let rest = drop at bytes in
    let slice = take size rest in
    let here : from bytes at ≡ rest = take_rest bytes at in
    let split : rest ≡ slice ++ drop (at + size) bytes = sym (take-append-drop size rest) ∙ ap (λ r. slice ++ r) (drop-drop size at bytes) in
    let moved : StandsAt restriction found.form rest (drop (at + size) bytes) = subst (λ r. StandsAt restriction found.form rest r) (drop-drop size at bytes) (subst (λ b. StandsAt restriction found.form b (drop size b)) here found.stands) in
    let stands = subst (λ r. StandsAt r found.form rest (drop (at + size) bytes)) h.restricted moved in
    let counted : length slice ≡ size = omega (arith, ap length split, length-append slice (drop (at + size) bytes), length-drop (at + size) bytes, length-drop at bytes, piece_fits bytes restriction at size kind found l) in
    let piece : Piece = record { form = found.form; slice = slice } in
    let whole : 0 + length bytes ≡ at + length rest = omega (arith, length-drop at bytes, l) in
    record {
      pieces = h.pieces ++ piece ∷ [];
      reached = reaches_more h.pieces Free bytes rest (drop (at + size) bytes) piece h.reached split stands;
      restricted = n ∙ ap (λ k. after restriction k slice) found.is ∙ ap (λ r. after r (kind_of found.form) slice) h.restricted ∙ sym (after_more h.pieces Free piece);
      same =
          e
          ∙ ap (λ ts. ts ++ token_here pos at size kind) h.same
          ∙ ap (λ p. tokens_from bytes 0 h.pieces ++ token_here p at size kind) p
          ∙ ap (λ ts. tokens_from bytes 0 h.pieces ++ ts) (here_is bytes at size kind)
          ∙ ap (λ k. tokens_from bytes 0 h.pieces ++ token_if bytes at size k) found.is
          ∙ ap (λ n. tokens_from bytes 0 h.pieces ++ token_if bytes at n (kind_of found.form)) (sym counted)
          ∙ sym (tokens_more h.pieces bytes piece Free 0 at bytes rest h.reached whole);
    }

-- at the end of the bytes
pub all_lexed : (bytes : List ℕ) (at : ℕ) (restriction : Restriction) (tokens new : List EsToken) (pos : Pos) → Progress bytes at restriction tokens → pos ≡ place_at bytes at → at ≤ length bytes → length bytes ≤ at → new ≡ tokens ++ token_here pos at 0 (Some End) → LexesTo bytes new
all_lexed bytes at restriction tokens new pos h p l m e =
    let end : at ≡ length bytes = omega arith in
    record {
      pieces = h.pieces;
      lexed = subst (λ r. Reaches Free bytes h.pieces r) (drop_all at bytes m) h.reached;
      same = e ∙ ap (λ ts. ts ++ token_here pos at 0 (Some End)) h.same ∙ ap (λ p. tokens_from bytes 0 h.pieces ++ token_here p at 0 (Some End)) p ∙ ap (λ a. tokens_from bytes 0 h.pieces ++ token_at bytes a 0 End ∷ []) end;
    }
