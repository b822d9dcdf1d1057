-- The tokens of a text stand in order, and the end token stands last alone.
use Rattle.std.proofs.Common.{◌≡◌, ◌≤◌, ℕ, ◌+◌, false, List, [], ◌∷◌, ◌++◌, drop, length, refl, ap, sym, ◌∙◌, subst, arith, append_assoc, Option, Some, None}
use Rattle.std.specs.List.{AllByRecursion}
use Rattle.std.proofs.Math.Seq.{drop-append_seam}
use Rattle.ruby_meaning.specs.declared.form.Form.{Form}
use Rattle.ruby_meaning.specs.declared.form.Form.TheVariants as form
use Rattle.ruby_meaning.specs.declared.spot.Spot.{Spot}
use Rattle.ruby_meaning.specs.declared.token.Token.{Token}
use Rattle.ruby_meaning.specs.declared.token.TokenKind.{TokenKind}
use Rattle.ruby_meaning.specs.declared.token.TokenKind.TheVariants as kind
use Rattle.ruby_meaning.specs.Lexing.Laws.{Ascending, InOrder, is_eof, OneEof}
use Rattle.ruby_meaning.specs.Lexing.Lexes.{Piece, Reaches, tokens_of, token_at, token_if, kind_of, after, start}
use Rattle.ruby_meaning.proofs.Lexing.Steps.{after_at}

ascending_if : (k : Option TokenKind) (n : ℕ) (s : Spot) (slice rest : List ℕ) (ts : List Token)
    → n ≤ s.at → ((m : ℕ) → m ≤ s.at + length slice → Ascending m ts) → Ascending n (token_if s slice rest k ++ ts)
ascending_if None n s slice rest ts h more = more n (omega (arith, h))
ascending_if (Some k) n s slice rest ts h more = (h, omega arith, more (s.at + length slice) (omega arith))

ascending_from : (n : ℕ) (s : Spot) (text : List ℕ) (ps : List Piece) (e : Spot) (rest : List ℕ)
    → Reaches s text ps e rest → n ≤ s.at → Ascending n (tokens_of s text ps ++ token_at e [] [] kind.Eof ∷ [])
ascending_from n s text [] e rest h within = (subst (λ v. n ≤ v.at) h.0 within, omega arith, tt)
ascending_from n s text (p ∷ ps) e rest h within =
    let behind : drop (length p.slice) text ≡ h.0 = ap (drop (length p.slice)) h.1 ∙ drop-append_seam p.slice h.0 in
    let reaches = subst (λ t. Reaches (after s p.form p.slice) t ps e rest) (sym behind) h.3 in
    subst (Ascending n) (sym (append_assoc (token_if s p.slice (drop (length p.slice) text) (kind_of p.form p.slice)) _ (token_at e [] [] kind.Eof ∷ [])))
    (ascending_if (kind_of p.form p.slice) n s p.slice (drop (length p.slice) text) _ within
    (λ m h2. ascending_from m (after s p.form p.slice) (drop (length p.slice) text) ps e rest reaches (subst (λ v. m ≤ v) (sym (after_at s p.form p.slice)) h2)))

pub in_order : InOrder
in_order text tokens h = subst (Ascending 0) (sym h.same) (ascending_from 0 start text h.pieces h.end h.rest h.reaches (omega arith))

-- ---- the end token

abbrev pub IsNotEof : Option TokenKind → Type 0
IsNotEof None = Unit {0}
IsNotEof (Some k) = is_eof k ≡ false

kind_is_not_eof : (f : Form) (slice : List ℕ) → IsNotEof (kind_of f slice)
unfolding kind_of
kind_is_not_eof form.Bom slice = tt
kind_is_not_eof form.Blank slice = tt
kind_is_not_eof form.Comment slice = tt
kind_is_not_eof form.Block slice = tt
kind_is_not_eof form.Joint slice = tt
kind_is_not_eof form.Separator slice = tt
kind_is_not_eof form.Newline slice = refl
kind_is_not_eof form.Name slice = refl
kind_is_not_eof form.Const slice = refl
kind_is_not_eof form.Ivar slice = refl
kind_is_not_eof form.Gvar slice = refl
kind_is_not_eof form.Label slice = refl
kind_is_not_eof (form.MethodName p) slice = refl
kind_is_not_eof (form.MethodConst p) slice = refl
kind_is_not_eof (form.MethodOp p m) slice = refl
kind_is_not_eof (form.MethodSet p) slice = refl
kind_is_not_eof form.DefDot slice = refl
kind_is_not_eof form.UndefComma slice = refl
kind_is_not_eof form.PipeOpen slice = refl
kind_is_not_eof (form.Keyword w) slice = refl
kind_is_not_eof (form.Op m) slice = refl
kind_is_not_eof form.Int slice = refl
kind_is_not_eof form.Text slice = refl
kind_is_not_eof form.RawText slice = refl
kind_is_not_eof form.Symbol slice = refl
kind_is_not_eof form.QuotedSymbol slice = refl
kind_is_not_eof form.TextBegin slice = refl
kind_is_not_eof form.Chunk slice = refl
kind_is_not_eof form.PartBegin slice = refl
kind_is_not_eof form.PartEnd slice = refl
kind_is_not_eof form.TextEnd slice = refl
kind_is_not_eof (form.WordsBegin b n) slice = refl
kind_is_not_eof (form.SymbolsBegin b n) slice = refl
kind_is_not_eof (form.ListWord b) slice = refl
kind_is_not_eof (form.ListEnd b) slice = refl

others_if : (k : Option TokenKind) (s : Spot) (slice rest : List ℕ) (ts : List Token)
    → IsNotEof k → AllByRecursion (λ t. is_eof t.kind ≡ false) ts → AllByRecursion (λ t. is_eof t.kind ≡ false) (token_if s slice rest k ++ ts)
others_if None s slice rest ts one all = all
others_if (Some k) s slice rest ts one all = (one, all)

others_of : (s : Spot) (text : List ℕ) (ps : List Piece) → AllByRecursion (λ t. is_eof t.kind ≡ false) (tokens_of s text ps)
others_of s text [] = tt
others_of s text (p ∷ ps) =
    others_if (kind_of p.form p.slice) s p.slice (drop (length p.slice) text) _ (kind_is_not_eof p.form p.slice) (others_of (after s p.form p.slice) (drop (length p.slice) text) ps)

pub one_eof : OneEof
one_eof text tokens h = record {
  front = tokens_of start text h.pieces;
  eof = token_at h.end [] [] kind.Eof;
  split = h.same;
  last = refl;
  others = others_of start text h.pieces;
}
