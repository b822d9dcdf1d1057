-- Bytes that are cut into tokens in front of what stands behind them, with what is said of the tokens, wherever they stand.
use Rattle.std.proofs.Common.{◌≡◌, ℕ, ◌+◌, List, [], ◌∷◌, ◌++◌, length, refl, sym, ap, ◌∙◌, subst, append_assoc}
use Rattle.es5_tree.specs.declared.lexing.Restriction.{Restriction}
use Rattle.es5_tree.specs.declared.lexing.Restriction.TheVariants.{Free, SameLine}
use Rattle.es5_tree.specs.declared.token.EsToken.{EsToken}
use Rattle.es5_tree.specs.declared.token.EsTokenKind.{EsTokenKind}
use Rattle.es5_tree.specs.Lexed.{token_if, tokens_from}
use Rattle.es5_tree.specs.Tokens.{kind_of, after_piece, after_all, Piece, Reaches}

-- a token may come
pub data Ready : Restriction → Type 0 where
  free : Ready Free
  same_line : Ready SameLine

pub record Cut (start : Restriction) (bytes rest : List ℕ) (behind : Restriction) (P : List EsToken → Type 0) : Type 0 where
  pub pieces : List Piece
  pub reached : Reaches start (bytes ++ rest) pieces rest
  pub last : after_all start pieces ≡ behind
  pub spelled : (all : List ℕ) (from : ℕ) → P (tokens_from all from pieces)

-- one list of tokens and then another
pub data Then (P Q : List EsToken → Type 0) : List EsToken → Type 0 where
  both : (v w : List EsToken) → P v → Q w → Then P Q (v ++ w)

-- tokens of these kinds
pub data AreTokens : List EsTokenKind → List EsToken → Type 0 where
  end : AreTokens [] []
  next : {k : EsTokenKind} {ks : List EsTokenKind} {v : List EsToken} (t : EsToken) → t.kind ≡ k → AreTokens ks v → AreTokens (k ∷ ks) (t ∷ v)

pub are_joined : {ks ls : List EsTokenKind} {v w : List EsToken} → AreTokens ks v → AreTokens ls w → AreTokens (ks ++ ls) (v ++ w)
are_joined end b = b
are_joined (next t e a) b = next t e (are_joined a b)

pub reaches_joined : (p q : List Piece) (start : Restriction) (bytes mid rest : List ℕ) → Reaches start bytes p mid → Reaches (after_all start p) mid q rest → Reaches start bytes (p ++ q) rest
reaches_joined [] q start bytes mid rest e r = subst (λ b. Reaches start b q rest) (sym e) r
reaches_joined (x ∷ p) q start bytes mid rest (more, e, s, h) r = (more, e, s, reaches_joined p q (after_piece start x) more mid rest h r)

pub after_joined : (p q : List Piece) (start : Restriction) → after_all start (p ++ q) ≡ after_all (after_all start p) q
after_joined [] q start = refl
after_joined (x ∷ p) q start = after_joined p q (after_piece start x)

-- the byte behind pieces
abbrev pub behind_pieces : ℕ → List Piece → ℕ
behind_pieces from [] = from
behind_pieces from (x ∷ p) = behind_pieces (from + length x.slice) p

pub tokens_joined : (all : List ℕ) (p q : List Piece) (from : ℕ) → tokens_from all from (p ++ q) ≡ tokens_from all from p ++ tokens_from all (behind_pieces from p) q
tokens_joined all [] q from = refl
tokens_joined all (x ∷ p) q from =
    let here : List EsToken = token_if all from (length x.slice) (kind_of x.form) in
    ap (λ l. here ++ l) (tokens_joined all p q (from + length x.slice)) ∙ sym (append_assoc here (tokens_from all (from + length x.slice) p) (tokens_from all (behind_pieces from (x ∷ p)) q))

module _ {P Q : List EsToken → Type 0} where
  pub cut_as : {start behind : Restriction} {bytes rest : List ℕ} → ((u : List EsToken) → P u → Q u) → Cut start bytes rest behind P → Cut start bytes rest behind Q
  cut_as f c = record { pieces = c.pieces; reached = c.reached; last = c.last; spelled = λ all from. f (tokens_from all from c.pieces) (c.spelled all from) }

  pub join : {start mid behind : Restriction} (a b rest : List ℕ) → Cut start a (b ++ rest) mid P → Cut mid b rest behind Q → Cut start (a ++ b) rest behind (Then P Q)
  join {start} {mid} {behind} a b rest c d =
      let next : Reaches (after_all start c.pieces) (b ++ rest) d.pieces rest = subst (λ r. Reaches r (b ++ rest) d.pieces rest) (sym c.last) d.reached in
      record {
        pieces = c.pieces ++ d.pieces;
        reached = subst (λ l. Reaches start l (c.pieces ++ d.pieces) rest) (sym (append_assoc a b rest)) (reaches_joined c.pieces d.pieces start (a ++ (b ++ rest)) (b ++ rest) rest c.reached next);
        last = after_joined c.pieces d.pieces start ∙ (ap (λ r. after_all r d.pieces) c.last ∙ d.last);
        spelled = λ all from.
            subst (Then P Q) (sym (tokens_joined all c.pieces d.pieces from))
            (both (tokens_from all from c.pieces) (tokens_from all (behind_pieces from c.pieces) d.pieces) (c.spelled all from) (d.spelled all (behind_pieces from c.pieces)));
      }
