-- What holds of the tokens of a text, apart from any lexer.
use Rattle.std.specs.Prelude.{◌≡◌, ℕ, ◌≤◌, Bool, List, [], ◌∷◌, ◌++◌, length, take, flat_map, true, false, Some, None, ◌⊎◌}
use Rattle.std.specs.List.{AllByRecursion}
use Rattle.opal_base.specs.Place.{place_at}
use Rattle.opal_base.specs.declared.place.Pos.{Pos}
use Rattle.ruby_meaning.specs.declared.construct.Construct.{Construct}
use Rattle.ruby_meaning.specs.declared.token.Mark.{Mark}
use Rattle.ruby_meaning.specs.declared.token.Token.{Token}
use Rattle.ruby_meaning.specs.declared.token.TokenKind.{TokenKind}
use Rattle.ruby_meaning.specs.declared.token.TokenKind.TheVariants as kind
use Rattle.ruby_meaning.specs.Lexing.Characters.{begins}
use Rattle.ruby_meaning.specs.Lexing.Lexes.{Lexes, LexFault}
use Rattle.ruby_meaning.specs.Lexing.Signs.{signs, sign, method_signs, method_sign}
use Rattle.ruby_meaning.specs.Lexing.Stands.{is_over}

-- A text has at most one list of tokens.
abbrev pub OneList : Type 0
OneList = (text : List ℕ) (a b : List Token) → Lexes text a → Lexes text b → a ≡ b

-- A text that is refused has none.
abbrev pub NeverBoth : Type 0
NeverBoth = (text : List ℕ) (a : List Token) (place : Pos) (c : Construct) → Lexes text a → LexFault text place c → ⊥

-- A text has at most one refusal.
abbrev pub OneFault : Type 0
OneFault = (text : List ℕ) (p q : Pos) (c d : Construct) → LexFault text p c → LexFault text q d → (p ≡ q) × (c ≡ d)

-- A text has tokens or a refusal.
abbrev pub SomeLexing : Type 0
SomeLexing = (text : List ℕ) → ((tokens : List Token) × Lexes text tokens) ⊎ ((place : Pos) × (c : Construct) × LexFault text place c)

-- The text is the join of the slices of its pieces, up to its end or the line that ends it.
abbrev pub Joined : Type 0
Joined = (text : List ℕ) (tokens : List Token) (h : Lexes text tokens) → (text ≡ flat_map (λ p. p.slice) h.pieces ++ h.rest) × (is_over h.rest ≡ true)

-- A token's span lies in the text, and its places are those of its first unit and of what stands behind its last.
pub record IsPlaced (text : List ℕ) (token : Token) : Type 0 where
  pub order : token.from ≤ token.to
  pub within : token.to ≤ length text
  pub place : token.pos ≡ place_at text token.from
  pub end : token.end ≡ place_at text token.to

abbrev pub Placed : Type 0
Placed = (text : List ℕ) (tokens : List Token) → Lexes text tokens → AllByRecursion (IsPlaced text) tokens

-- The tokens stand one after the other, from an offset on.
abbrev pub Ascending : ℕ → List Token → Type 0
Ascending n [] = Unit {0}
Ascending n (t ∷ ts) = (n ≤ t.from) × (t.from ≤ t.to) × Ascending t.to ts

abbrev pub InOrder : Type 0
InOrder = (text : List ℕ) (tokens : List Token) → Lexes text tokens → Ascending 0 tokens

abbrev pub is_eof : TokenKind → Bool
is_eof kind.Eof = true
is_eof _ = false

-- The list has one end token and ends with it.
pub record HasOneEof (tokens : List Token) : Type 0 where
  pub front : List Token
  pub eof : Token
  pub split : tokens ≡ front ++ eof ∷ []
  pub last : is_eof eof.kind ≡ true
  pub others : AllByRecursion (λ t. is_eof t.kind ≡ false) front

abbrev pub OneEof : Type 0
OneEof = (text : List ℕ) (tokens : List Token) → Lexes text tokens → HasOneEof tokens

-- ---- the longest sign

-- an entry is one of a table's
abbrev pub IsEntry : List (List ℕ × Mark) → List ℕ → Mark → Type 0
IsEntry [] word m = ⊥
IsEntry (e ∷ es) word m = ((e.0 ≡ word) × (e.1 ≡ m)) ⊎ IsEntry es word m

-- The sign at a place is an entry of the table that begins the text, and no longer entry does.
abbrev pub LongestSign : Type 0
LongestSign = (z : List ℕ) (m : Mark) (n : ℕ) → sign z ≡ Some (m, n)
    → IsEntry signs (take n z) m × ((word : List ℕ) (k : Mark) → IsEntry signs word k → begins word z ≡ true → length word ≤ n)

-- The same of the operators that name a method.
abbrev pub LongestMethodSign : Type 0
LongestMethodSign = (z : List ℕ) (m : Mark) (n : ℕ) → method_sign z ≡ Some (m, n)
    → IsEntry method_signs (take n z) m × ((word : List ℕ) (k : Mark) → IsEntry method_signs word k → begins word z ≡ true → length word ≤ n)

-- Where no sign stands, no entry begins the text.
abbrev pub NoSign : Type 0
NoSign = (z word : List ℕ) (k : Mark) → sign z ≡ None → IsEntry signs word k → begins word z ≡ true → ⊥
