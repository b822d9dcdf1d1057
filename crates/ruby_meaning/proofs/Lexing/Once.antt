-- The pieces of a text are determined.
use Rattle.std.proofs.Common.{◌≡◌, ℕ, true, false, List, [], ◌∷◌, ◌++◌, length, refl, ap, sym, ◌∙◌, subst, arith, append_assoc, flat_map}
use Rattle.ruby_meaning.specs.declared.construct.Construct.{Construct}
use Rattle.ruby_meaning.specs.declared.form.Stand.{Stand}
use Rattle.ruby_meaning.specs.declared.form.Stand.TheVariants as stand
use Rattle.ruby_meaning.specs.declared.spot.Spot.{Spot}
use Rattle.opal_base.specs.declared.place.Pos.{Pos}
use Rattle.ruby_meaning.specs.declared.token.Token.{Token}
use Rattle.ruby_meaning.specs.declared.token.TokenKind.TheVariants as kind
use Rattle.ruby_meaning.specs.Lexing.Stands.{stands}
use Rattle.ruby_meaning.specs.Lexing.OpenTexts.{top_is_none}
use Rattle.ruby_meaning.specs.Lexing.Lexes.{Piece, Reaches, Lexes, FaultAt, tokens_of, token_at, place_of, after, start}
use Rattle.ruby_meaning.specs.Lexing.Laws.{OneList, NeverBoth, OneFault, Joined}

-- no form stands
abbrev pub IsEnd : Stand → Type 0
IsEnd (stand.Form f n) = ⊥
IsEnd (stand.Refused c n) = Unit {0}
IsEnd stand.Endless = Unit {0}
IsEnd stand.Cut = Unit {0}
IsEnd stand.End = Unit {0}

-- two cuts of one text, each up to where no form stands
pub record Same (ps : List Piece) (e : Spot) (x : List ℕ) (qs : List Piece) (f : Spot) (y : List ℕ) : Type 0 where
  pub pieces : ps ≡ qs
  pub end : e ≡ f
  pub rest : x ≡ y

seam : (a b x y : List ℕ) → length a ≡ length b → a ++ x ≡ b ++ y → (a ≡ b) × (x ≡ y)
seam [] [] x y e h = (refl, h)
seam [] (v ∷ b) x y e h = absurd (omega arith)
seam (u ∷ a) [] x y e h = absurd (omega arith)
seam (u ∷ a) (v ∷ b) x y e h =
    let tails : a ++ x ≡ b ++ y = cc in
    let heads : u ≡ v = cc in
    let more = seam a b x y (omega arith) tails in
    (ap (λ w. w ∷ a) heads ∙ ap (λ w. v ∷ w) more.0, more.1)

pub same_pieces : (s : Spot) (text : List ℕ) (ps qs : List Piece) (e f : Spot) (rest more : List ℕ)
    → Reaches s text ps e rest → IsEnd (stands (place_of e) rest) → Reaches s text qs f more → IsEnd (stands (place_of f) more)
    → Same ps e rest qs f more
same_pieces s text [] [] e f rest more h over k done = record { pieces = refl; end = sym h.0 ∙ k.0; rest = sym h.1 ∙ k.1 }
same_pieces s text [] (q ∷ qs) e f rest more h over k done =
    absurd (subst IsEnd (ap (λ v. stands (place_of e) v) (sym h.1) ∙ ap (λ v. stands (place_of v) text) (sym h.0) ∙ k.2) over)
same_pieces s text (p ∷ ps) [] e f rest more h over k done =
    absurd (subst IsEnd (ap (λ v. stands (place_of f) v) (sym k.1) ∙ ap (λ v. stands (place_of v) text) (sym k.0) ∙ h.2) done)
same_pieces s text (p ∷ ps) (q ∷ qs) e f rest more h over k done =
    let both : stand.Form p.form (length p.slice) ≡ stand.Form q.form (length q.slice) = sym h.2 ∙ k.2 in
    let forms : p.form ≡ q.form = cc both in
    let lengths : length p.slice ≡ length q.slice = cc both in
    let cut = seam p.slice q.slice h.0 k.0 lengths (sym h.1 ∙ k.1) in
    let piece : p ≡ q = ap (λ x. record { form = x; slice = p.slice }) forms ∙ ap (λ x. record { form = q.form; slice = x }) cut.0 in
    let spot : after s q.form q.slice ≡ after s p.form p.slice = ap (λ x. after s x.form x.slice) (sym piece) in
    let tail = same_pieces (after s p.form p.slice) h.0 ps qs e f rest more h.3 over
    (subst (λ t. Reaches (after s p.form p.slice) t qs f more) (sym cut.1) (subst (λ v. Reaches v k.0 qs f more) spot k.3)) done in
    record { pieces = ap (λ x. x ∷ ps) piece ∙ ap (λ x. q ∷ x) tail.pieces; end = tail.end; rest = tail.rest }

lexes_end : (text : List ℕ) (ts : List Token) (h : Lexes text ts) → IsEnd (stands (place_of h.end) h.rest)
lexes_end text ts h = subst IsEnd (sym h.stops) tt

fault_end : (s : Spot) (text : List ℕ) (found : Stand) (p : Pos) (c : Construct) → FaultAt s text found p c → IsEnd found
fault_end s text (stand.Form f n) p c h = h
fault_end s text (stand.Refused d n) p c h = tt
fault_end s text stand.Endless p c h = tt
fault_end s text stand.Cut p c h = tt
fault_end s text stand.End p c h = tt

pub one_list : OneList
one_list text a b h k =
    let same = same_pieces start text h.pieces k.pieces h.end k.end h.rest k.rest h.reaches (lexes_end text a h) k.reaches (lexes_end text b k) in
    h.same
    ∙ ap (λ ps. tokens_of start text ps ++ token_at h.end [] [] kind.Eof ∷ []) same.pieces
    ∙ ap (λ e. tokens_of start text k.pieces ++ token_at e [] [] kind.Eof ∷ []) same.end
    ∙ sym k.same

not_both : (s : Spot) (text : List ℕ) (found : Stand) (p : Pos) (c : Construct) → found ≡ stand.End → top_is_none s.nesting ≡ true → FaultAt s text found p c → ⊥
not_both s text (stand.Form f n) p c e closed h = h
not_both s text (stand.Refused d n) p c e closed h = cc
not_both s text stand.Endless p c e closed h = cc
not_both s text stand.Cut p c e closed h = cc
not_both s text stand.End p c e closed h = let both : true ≡ false = sym closed ∙ h.0 in cc

pub never_both : NeverBoth
never_both text a p c h k =
    let same = same_pieces start text h.pieces k.pieces h.end k.end h.rest k.rest h.reaches (lexes_end text a h) k.reaches (fault_end k.end k.rest _ p c k.fault) in
    not_both k.end k.rest (stands (place_of k.end) k.rest) p c
    (ap (λ e. stands (place_of e) k.rest) (sym same.end) ∙ ap (λ r. stands (place_of h.end) r) (sym same.rest) ∙ h.stops)
    (ap (λ e. top_is_none e.nesting) (sym same.end) ∙ h.closed) k.fault

one_place : (s : Spot) (text : List ℕ) (found : Stand) (p q : Pos) (c d : Construct) → FaultAt s text found p c → FaultAt s text found q d → (p ≡ q) × (c ≡ d)
one_place s text (stand.Form f n) p q c d h k = absurd h
one_place s text (stand.Refused x n) p q c d h k = (h.0 ∙ sym k.0, h.1 ∙ sym k.1)
one_place s text stand.Endless p q c d h k = (h.0 ∙ sym k.0, h.1 ∙ sym k.1)
one_place s text stand.Cut p q c d h k = (h.0 ∙ sym k.0, h.1 ∙ sym k.1)
one_place s text stand.End p q c d h k = (h.1 ∙ sym k.1, h.2 ∙ sym k.2)

pub one_fault : OneFault
one_fault text p q c d h k =
    let same = same_pieces start text h.pieces k.pieces h.end k.end h.rest k.rest h.reaches (fault_end h.end h.rest _ p c h.fault) k.reaches (fault_end k.end k.rest _ q d k.fault) in
    one_place k.end k.rest (stands (place_of k.end) k.rest) p q c d
    (subst (λ r. FaultAt k.end r (stands (place_of k.end) r) p c) same.rest (subst (λ e. FaultAt e h.rest (stands (place_of e) h.rest) p c) same.end h.fault))
    k.fault

pub reaches_join : (s : Spot) (text : List ℕ) (ps : List Piece) (e : Spot) (rest : List ℕ) → Reaches s text ps e rest → text ≡ flat_map (λ p. p.slice) ps ++ rest
reaches_join s text [] e rest h = h.1
reaches_join s text (p ∷ ps) e rest h = h.1 ∙ ap (λ r. p.slice ++ r) (reaches_join (after s p.form p.slice) h.0 ps e rest h.3) ∙ sym (append_assoc p.slice _ rest)

pub joined : Joined
joined text tokens h = (reaches_join start text h.pieces h.end h.rest h.reaches, h.over)
