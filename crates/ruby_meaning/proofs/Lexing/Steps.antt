-- From the pieces so far to one more.
use Rattle.std.proofs.Common.{◌≡◌, ℕ, List, [], ◌∷◌, ◌++◌, ◌+◌, drop, length, refl, ap, sym, ◌∙◌, subst, append_assoc}
use Rattle.std.proofs.lemmas.List.{append-nil}
use Rattle.std.proofs.Math.Seq.{drop-append_seam}
use Rattle.ruby_meaning.specs.declared.form.Form.{Form}
use Rattle.ruby_meaning.specs.declared.form.Stand.TheVariants as stand
use Rattle.ruby_meaning.specs.declared.spot.Spot.{Spot}
use Rattle.ruby_meaning.specs.Lexing.Stands.{stands}
use Rattle.ruby_meaning.specs.declared.token.Token.{Token}
use Rattle.ruby_meaning.specs.Lexing.Lexes.{start, Piece, Reaches, tokens_of, token_if, kind_of, place_of, after}

abbrev pub piece : Form → List ℕ → Piece
piece f slice = record { form = f; slice = slice }

pub reaches_more : (s : Spot) (text : List ℕ) (ps : List Piece) (e : Spot) (rest : List ℕ) (f : Form) (slice more : List ℕ)
    → Reaches s text ps e rest → rest ≡ slice ++ more → stands (place_of e) rest ≡ stand.Form f (length slice)
    → Reaches s text (ps ++ (piece f slice ∷ [])) (after e f slice) more
reaches_more s text [] e rest f slice more h split here =
    (more, h.1 ∙ split, ap (λ v. stands (place_of v) text) h.0 ∙ ap (λ t. stands (place_of e) t) h.1 ∙ here, (ap (λ v. after v f slice) h.0, refl))
reaches_more s text (p ∷ ps) e rest f slice more h split here =
    (h.0, h.1, h.2, reaches_more (after s p.form p.slice) h.0 ps e rest f slice more h.3 split here)

pub tokens_more : (s : Spot) (text : List ℕ) (ps : List Piece) (e : Spot) (rest : List ℕ) (f : Form) (slice more : List ℕ)
    → Reaches s text ps e rest → rest ≡ slice ++ more
    → tokens_of s text (ps ++ (piece f slice ∷ [])) ≡ tokens_of s text ps ++ token_if e slice more (kind_of f slice)
tokens_more s text [] e rest f slice more h split =
    let behind : drop (length slice) text ≡ more = ap (drop (length slice)) (h.1 ∙ split) ∙ drop-append_seam slice more in
    append-nil _ ∙ ap (λ v. token_if v slice (drop (length slice) text) (kind_of f slice)) h.0 ∙ ap (λ r. token_if e slice r (kind_of f slice)) behind
tokens_more s text (p ∷ ps) e rest f slice more h split =
    let behind : drop (length p.slice) text ≡ h.0 = ap (drop (length p.slice)) h.1 ∙ drop-append_seam p.slice h.0 in
    let next : tokens_of (after s p.form p.slice) (drop (length p.slice) text) (ps ++ (piece f slice ∷ [])) ≡ tokens_of (after s p.form p.slice) (drop (length p.slice) text) ps ++ token_if e slice more (kind_of f slice)
    = tokens_more (after s p.form p.slice) (drop (length p.slice) text) ps e rest f slice more (subst (λ t. Reaches (after s p.form p.slice) t ps e rest) (sym behind) h.3) split in
    ap (λ ts. token_if s p.slice (drop (length p.slice) text) (kind_of p.form p.slice) ++ ts) next
    ∙ sym (append_assoc (token_if s p.slice (drop (length p.slice) text) (kind_of p.form p.slice)) _ _)

-- What a lexer keeps: the pieces up to a place, and their tokens.
pub record Progress (text : List ℕ) (spot : Spot) (rest : List ℕ) (tokens : List Token) : Type 0 where
  pub pieces : List Piece
  pub reaches : Reaches start text pieces spot rest
  pub same : tokens ≡ tokens_of start text pieces

pub progress_more : (text : List ℕ) (e : Spot) (rest : List ℕ) (ts ts2 : List Token) (f : Form) (slice more : List ℕ)
    → Progress text e rest ts → rest ≡ slice ++ more → stands (place_of e) rest ≡ stand.Form f (length slice)
    → ts2 ≡ ts ++ token_if e slice more (kind_of f slice)
    → Progress text (after e f slice) more ts2
progress_more text e rest ts ts2 f slice more h split here new = record {
  pieces = h.pieces ++ (piece f slice ∷ []);
  reaches = reaches_more start text h.pieces e rest f slice more h.reaches split here;
  same = new ∙ ap (λ x. x ++ token_if e slice more (kind_of f slice)) h.same ∙ sym (tokens_more start text h.pieces e rest f slice more h.reaches split);
}

pub after_at : (s : Spot) (f : Form) (slice : List ℕ) → (after s f slice).at ≡ s.at + length slice
unfolding after
after_at s f slice = refl
