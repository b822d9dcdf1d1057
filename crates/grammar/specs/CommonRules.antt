-- Classes of tokens, and rules that most grammars have.
use Rattle.std.specs.Prelude.{ℕ, Bool, ◌||◌, nat_eq, ◌∷◌, Some, None}
use Rattle.grammar.specs.Rules.{Sort, leaf, pair, list, optional, Rule, token, absent, sequence, choice, view, many}

abbrev pub class : ℕ → ℕ → Bool
class n k = nat_eq n k

infixl 40 ◌or◌
abbrev pub ◌or◌ : (ℕ → Bool) → (ℕ → Bool) → ℕ → Bool
f or g = λ k. f k || g k

module _ {T N K : Type 0} {sorts : K → Sort} where
  -- behind a token that only separates
  abbrev pub behind : {s : Sort} → (ℕ → Bool) → Rule T N K sorts s → Rule T N K sorts s
  behind {s} f r = view {s = pair leaf s} (λ x. x.1) (sequence (token f) r)

  -- before such a token
  abbrev pub before : {s : Sort} → Rule T N K sorts s → (ℕ → Bool) → Rule T N K sorts s
  before {s} r f = view {s = pair s leaf} (λ x. x.0) (sequence r (token f))

  abbrev pub between : {s : Sort} → (ℕ → Bool) → Rule T N K sorts s → (ℕ → Bool) → Rule T N K sorts s
  between f r g = behind f (before r g)

  abbrev pub maybe : {s : Sort} → Rule T N K sorts s → Rule T N K sorts (optional s)
  maybe {s} r = choice (view {s = s} (λ x. Some x) r) (absent None)

  -- one, and others that each stand behind a token of the class
  abbrev pub separated : {s : Sort} → Rule T N K sorts s → (ℕ → Bool) → Rule T N K sorts (list s)
  separated {s} r f = view {s = pair s (list s)} (λ x. x.0 ∷ x.1) (sequence r (many (behind f r)))
