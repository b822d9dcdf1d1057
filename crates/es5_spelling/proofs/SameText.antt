-- Pieces with the same bytes, from parts with the same bytes.
use Rattle.std.proofs.Common.{◌≡◌, ℕ, Bool, true, false, ◌&&◌, nat_eq, List, [], ◌∷◌, ◌++◌, map, Option, Some, None, codes, refl, sym, ap, ◌∙◌}
use Rattle.std.specs.Prelude.{if◌then◌else◌, nat_le}
use Rattle.std.proofs.lemmas.Grind.{flat_map-append}
use Rattle.opal_base.specs.Text.{utf8_of}
use Rattle.es5_printer.specs.declared.level.Level.{Level}
use Rattle.es5_printer.specs.declared.level.Level.TheVariants as level
use Rattle.es5_printer.specs.Forms.{at_level, bracketed, block, Form, infixed, lines, minus_before, operand_behind, opens_at, pair, pairs, Part, pieces, prefixed, value_behind}
use Rattle.es5_printer.specs.Levels.{tightness}
use Rattle.es5_printer.specs.Pieces.{bytes_of, listed, marked, more_listed, Piece, piece_bytes, plain, text}

pub record SamePart (p q : Part) : Type 0 where
  pub level : p.0 ≡ q.0
  pub opens : p.1.0 ≡ q.1.0
  pub bytes : bytes_of (pieces p) ≡ bytes_of (pieces q)

pub record SameForm (f g : Form) : Type 0 where
  pub level : f.0 ≡ g.0
  pub opens : f.1.0 ≡ g.1.0
  pub bytes : (o i : Option ℕ) → bytes_of (f.1.1 o) ≡ bytes_of (g.1.1 i)

abbrev pub SameBytes : List Piece → List Piece → Type 0
SameBytes a b = bytes_of a ≡ bytes_of b

pub same_joined : (a b c d : List Piece) → SameBytes a b → SameBytes c d → SameBytes (a ++ c) (b ++ d)
same_joined a b c d h i =
    flat_map-append piece_bytes a c
    ∙ (ap (λ x. x ++ bytes_of c) h ∙ (ap (λ x. bytes_of b ++ x) i ∙ sym (flat_map-append piece_bytes b d)))

pub same_behind : (t s : List ℕ) (c d : List Piece) → t ≡ s → SameBytes c d → SameBytes (text t ∷ c) (text s ∷ d)
same_behind t s c d h i = ap (λ x. x ++ bytes_of c) h ∙ ap (λ x. s ++ x) i

pub same_marked : (o i : Option ℕ) (a b : List Piece) → SameBytes a b → SameBytes (marked o ++ a) (marked i ++ b)
same_marked None None a b h = h
same_marked None (Some i) a b h = h
same_marked (Some o) None a b h = h
same_marked (Some o) (Some i) a b h = h

same_brackets : (a b : List Piece) → SameBytes a b → SameBytes (bracketed a) (bracketed b)
same_brackets a b h = same_behind (codes "(") (codes "(") (a ++ plain (codes ")")) (b ++ plain (codes ")")) refl (same_joined a b (plain (codes ")")) (plain (codes ")")) h refl)

same_if : (c : Bool) (a b : List Piece) → SameBytes a b → SameBytes (if c then a else bracketed a) (if c then b else bracketed b)
same_if true a b h = h
same_if false a b h = same_brackets a b h

pub same_at : (w : Level) (p q : Part) → SamePart p q → SameBytes (at_level w p) (at_level w q)
same_at w p q h =
    ap (λ l. bytes_of (if nat_le (tightness w) (tightness l) then p.1.1 else bracketed (p.1.1))) h.level
    ∙ same_if (nat_le (tightness w) (tightness q.0)) p.1.1 q.1.1 h.bytes

pub same_opens : (w : Level) (p q : Part) → SamePart p q → opens_at w p ≡ opens_at w q
same_opens w p q h = ap (λ l. nat_le (tightness w) (tightness l) && p.1.0) h.level ∙ ap (λ b. nat_le (tightness w) (tightness q.0) && b) h.opens

pub same_infixed : (tight on_left on_right : Level) (sign : List ℕ) (p q l r : Part) → SamePart p q → SamePart l r → SameForm (infixed tight on_left p sign on_right l) (infixed tight on_left q sign on_right r)
same_infixed tight on_left on_right sign p q l r h i = record {
  level = refl;
  opens = same_opens on_left p q h;
  bytes = λ o j.
      same_marked o j (at_level on_left p ++ operand_behind sign on_right l) (at_level on_left q ++ operand_behind sign on_right r)
      (same_joined (at_level on_left p) (at_level on_left q) (operand_behind sign on_right l) (operand_behind sign on_right r) (same_at on_left p q h)
      (same_behind sign sign (at_level on_right l) (at_level on_right r) refl (same_at on_right l r i)));
}

pub same_prefixed : (tight wanted : Level) (s t : List ℕ) (p q : Part) → s ≡ t → SamePart p q → SameForm (prefixed tight s wanted p) (prefixed tight t wanted q)
same_prefixed tight wanted s t p q e h = record {
  level = refl;
  opens = refl;
  bytes = λ o j. same_marked o j (text s ∷ at_level wanted p) (text t ∷ at_level wanted q) (same_behind s t (at_level wanted p) (at_level wanted q) e (same_at wanted p q h));
}

pub same_minus : (p q : Part) → SamePart p q → minus_before p ≡ minus_before q
same_minus p q h = ap (λ l. if nat_eq (tightness l) (tightness level.Negation) then codes "- " else codes "-") h.level

-- a value behind a text
pub same_value : (sign : List ℕ) (p q : Part) → SamePart p q → SameBytes (value_behind sign p) (value_behind sign q)
same_value sign p q h = same_behind sign sign (pieces p) (pieces q) refl h.bytes

-- ---- lists

pub data SameParts : List Part → List Part → Type 0 where
  no_parts : SameParts [] []
  more_parts : {ps qs : List Part} (p q : Part) → SamePart p q → SameParts ps qs → SameParts (p ∷ ps) (q ∷ qs)

same_more : (ps qs : List Part) → SameParts ps qs → SameBytes (more_listed (map pieces ps)) (more_listed (map pieces qs))
same_more _ _ no_parts = refl
same_more _ _ (more_parts {ps} {qs} p q h i) =
    same_behind (codes ", ") (codes ", ") (pieces p ++ more_listed (map pieces ps)) (pieces q ++ more_listed (map pieces qs)) refl
    (same_joined (pieces p) (pieces q) (more_listed (map pieces ps)) (more_listed (map pieces qs)) h.bytes (same_more ps qs i))

pub same_listed : (ps qs : List Part) → SameParts ps qs → SameBytes (listed (map pieces ps)) (listed (map pieces qs))
same_listed _ _ no_parts = refl
same_listed _ _ (more_parts {ps} {qs} p q h i) = same_joined (pieces p) (pieces q) (more_listed (map pieces ps)) (more_listed (map pieces qs)) h.bytes (same_more ps qs i)

same_pair : (key : List ℕ) (p q : Part) → SamePart p q → SameBytes (pair key p) (pair key q)
same_pair key p q h = same_behind (utf8_of key) (utf8_of key) (text (codes ": ") ∷ pieces p) (text (codes ": ") ∷ pieces q) refl (same_behind (codes ": ") (codes ": ") (pieces p) (pieces q) refl h.bytes)

same_more_pairs : (keys : List (List ℕ)) (ps qs : List Part) → SameParts ps qs → SameBytes (more_listed (pairs keys ps)) (more_listed (pairs keys qs))
same_more_pairs [] _ _ h = refl
same_more_pairs (key ∷ keys) _ _ no_parts = refl
same_more_pairs (key ∷ keys) _ _ (more_parts {ps} {qs} p q h i) =
    same_behind (codes ", ") (codes ", ") (pair key p ++ more_listed (pairs keys ps)) (pair key q ++ more_listed (pairs keys qs)) refl
    (same_joined (pair key p) (pair key q) (more_listed (pairs keys ps)) (more_listed (pairs keys qs)) (same_pair key p q h) (same_more_pairs keys ps qs i))

pub same_pairs : (keys : List (List ℕ)) (ps qs : List Part) → SameParts ps qs → SameBytes (listed (pairs keys ps)) (listed (pairs keys qs))
same_pairs [] _ _ h = refl
same_pairs (key ∷ keys) _ _ no_parts = refl
same_pairs (key ∷ keys) _ _ (more_parts {ps} {qs} p q h i) = same_joined (pair key p) (pair key q) (more_listed (pairs keys ps)) (more_listed (pairs keys qs)) (same_pair key p q h) (same_more_pairs keys ps qs i)

pub data SameLines : List (List Piece) → List (List Piece) → Type 0 where
  no_lines : SameLines [] []
  more_lines : {ls rs : List (List Piece)} (a b : List Piece) → SameBytes a b → SameLines ls rs → SameLines (a ∷ ls) (b ∷ rs)

pub same_lines : (ls rs : List (List Piece)) → SameLines ls rs → SameBytes (lines ls) (lines rs)
same_lines _ _ no_lines = refl
same_lines _ _ (more_lines {ls} {rs} a b h i) = same_joined (a ++ plain (codes "\n")) (b ++ plain (codes "\n")) (lines ls) (lines rs) (same_joined a b (plain (codes "\n")) (plain (codes "\n")) h refl) (same_lines ls rs i)

pub same_block : (ls rs : List (List Piece)) → SameLines ls rs → SameBytes (block ls) (block rs)
same_block ls rs h =
    same_behind (codes "{\n") (codes "{\n") (lines ls ++ plain (codes "}")) (lines rs ++ plain (codes "}")) refl (same_joined (lines ls) (lines rs) (plain (codes "}")) (plain (codes "}")) (same_lines ls rs h) refl)
