-- What bytes spell is spellable.
use Rattle.std.proofs.Common.{◌≡◌, ℕ, suc, ◌+◌, ◌≤◌, List, [], ◌∷◌, length, Option, None, Some, refl, sym, ap, ◌∙◌, subst, arith, length-append}
use Rattle.grammar.specs.Spelling.{Spells}
use Rattle.es5_tree.specs.declared.lexing.Restriction.TheVariants.{Free}
use Rattle.es5_tree.specs.declared.token.EsToken.{EsToken}
use Rattle.es5_tree.specs.declared.token.EsTokenKind.TheVariants as token
use Rattle.es5_tree.specs.Grammar.Names as rule
use Rattle.es5_tree.specs.Grammar.Spelling.{before_end, up_to_end}
use Rattle.es5_tree.specs.Lexed.{IsEnded, token_at, token_if, tokens_from}
use Rattle.es5_tree.specs.Grammar.Table.{table}
use Rattle.es5_tree.specs.Tokens.{after_piece, kind_of, Piece, Reaches}
use Rattle.es5_tree.specs.declared.token.EsTokenKind.{EsTokenKind}
use Rattle.es5_tree.specs.declared.lexing.Restriction.{Restriction}
use Rattle.es5_tree.proofs.Cutting.{stands_part}
use Rattle.es5_spelling.specs.Laws.{NodesWithinBytes, NodesWithinTokens, ReadIsSpellable}
use Rattle.es5_spelling.specs.Spellable.{Spellable}
use Rattle.es5_spelling.specs.Nodes.{script_nodes}
use Rattle.es5_spelling.proofs.Bounds.{bound}
use Rattle.es5_spelling.proofs.Derived.{derived}
use Rattle.es5_spelling.proofs.Printed.{before_is}
use Rattle.es5_spelling.proofs.Sound.{pieces_sound}

pub read_is_spellable_is : ReadIsSpellable
read_is_spellable_is bytes script r =
    let cut = r.lexed in
    let ts : List EsToken = tokens_from bytes 0 cut.pieces in
    let last : EsToken = token_at bytes (length bytes) 0 token.End in
    let all : before_end r.tokens ≡ ts = ap before_end cut.same ∙ before_is bytes last cut.pieces 0 refl in
    let spelled : Spells table rule.script r.spells.body ts = subst (Spells table rule.script r.spells.body) all r.spells.spells in
    subst Spellable (sym r.spells.tree) ((derived spelled.0 rule.script).good r.spells.body ts spelled.1 (pieces_sound cut.pieces Free bytes [] bytes 0 cut.lexed))

-- ---- nodes and bytes

token_few : (all : List ℕ) (from size : ℕ) (k : Option EsTokenKind) → length (token_if all from size k) ≤ 1
token_few all from size None = omega arith
token_few all from size (Some k) = omega arith

-- each token has a byte
tokens_few : (pieces : List Piece) (start : Restriction) (bytes behind all : List ℕ) (from : ℕ) → Reaches start bytes pieces behind → length (tokens_from all from pieces) ≤ length bytes
tokens_few [] start bytes behind all from h = omega arith
tokens_few (x ∷ pieces) start bytes behind all from (rest, e, s, h) =
    let part = stands_part x.form bytes rest s.stands in
    let fewer = tokens_few pieces (after_piece start x) rest behind all (from + length x.slice) h in
    let one = token_few all from (length x.slice) (kind_of x.form) in
    omega (arith, fewer, one, part.2, ap length part.1, length-append part.0 rest, length-append (token_if all from (length x.slice) (kind_of x.form)) (tokens_from all (from + length x.slice) pieces))

pub nodes_within_bytes_is : NodesWithinBytes
nodes_within_bytes_is bytes script r =
    let cut = r.lexed in
    let ts : List EsToken = tokens_from bytes 0 cut.pieces in
    let last : EsToken = token_at bytes (length bytes) 0 token.End in
    let all : before_end r.tokens ≡ ts = ap before_end cut.same ∙ before_is bytes last cut.pieces 0 refl in
    let spelled : Spells table rule.script r.spells.body ts = subst (Spells table rule.script r.spells.body) all r.spells.spells in
    let nodes = (bound spelled.0 rule.script).bounded r.spells.body ts spelled.1 in
    let few = tokens_few cut.pieces Free bytes [] bytes 0 cut.lexed in
    omega (arith, nodes, few, ap script_nodes r.spells.tree)

-- ---- nodes and tokens

one_more : (k : EsTokenKind) (rest : List EsToken) (t : EsToken) → length (up_to_end k rest t) ≤ suc (length rest)
one_more (token.Word name) rest t = omega arith
one_more (token.Num value) rest t = omega arith
one_more (token.Str text) rest t = omega arith
one_more (token.Mark mark) rest t = omega arith
one_more token.End rest t = omega arith

-- the end token is one more
end_apart : (tokens : List EsToken) → IsEnded tokens → suc (length (before_end tokens)) ≤ length tokens
end_apart [] h = elim h [ ]
end_apart (t ∷ []) h = let e = ap (λ k. length (up_to_end k [] t)) h in omega (arith, e)
end_apart (t ∷ next ∷ tokens) h =
    let rest = end_apart (next ∷ tokens) h.1 in
    let one = one_more t.kind (before_end (next ∷ tokens)) t in
    omega (arith, rest, one)

pub nodes_within_tokens_is : NodesWithinTokens
nodes_within_tokens_is tokens script h s =
    let nodes = (bound s.spells.0 rule.script).bounded s.body (before_end tokens) s.spells.1 in
    omega (arith, nodes, end_apart tokens h, ap script_nodes s.tree)
