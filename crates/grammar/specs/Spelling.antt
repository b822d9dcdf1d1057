-- What a list of tokens spells by a grammar, and which lists are fronts.
use Rattle.std.specs.Prelude.{◌≡◌, ℕ, zero, suc, Bool, ◌&&◌, List, [], Option, Some, None, if◌then◌else◌}
use Rattle.grammar.specs.Forms.{TokenSpells, TokenFront, AbsentSpells, AbsentFront, SequenceSpells, SequenceFront, ChoiceSpells, ChoiceFront, ViewSpells, NodeFront, ManySpells, ManyFront, SuffixesSpell, SuffixesFront, SuffixSpells, SuffixFront, StartingSpells, StartingFront, BindSpells, BindFront, NeedsFront}
use Rattle.grammar.specs.Rules.{Sort, El, deep, Rule, token, token_where, absent, sequence, choice, view, node, many, suffixes, suffix, starting, bind, needs, named, Grammar}

abbrev pub token_in : {T : Type 0} → (T → ℕ) → (ℕ → Bool) → T → Option T
token_in code f t = if f (code t) then Some t else None

abbrev pub token_such : {T : Type 0} → (T → ℕ) → (ℕ → Bool) → (T → Bool) → T → Option T
token_such code f ok t = if f (code t) && ok t then Some t else None

module _ {T N K : Type 0} {sorts : K → Sort} (G : Grammar T N K sorts) where
  -- the rule spells the value, where `names` tells what names spell
  abbrev pub RuleSpells : {s : Sort} → ((k : K) → El T N (sorts k) → List T → Type 0) → Rule T N K sorts s → El T N s → List T → Type 0
  RuleSpells names (token f) = TokenSpells (token_in G.code f)
  RuleSpells names (token_where f ok) = TokenSpells (token_such G.code f ok)
  RuleSpells names (absent a) = AbsentSpells a
  RuleSpells names (sequence r q) = SequenceSpells (RuleSpells names r) (RuleSpells names q)
  RuleSpells names (choice r q) = ChoiceSpells (RuleSpells names r) (RuleSpells names q)
  RuleSpells names (view f r) = ViewSpells f (RuleSpells names r)
  RuleSpells names (node f r) = ViewSpells f (RuleSpells names r)
  RuleSpells names (many r) = ManySpells (RuleSpells names r)
  RuleSpells names (suffixes levels r q f) = SuffixesSpell (RuleSpells names r) (RuleSpells names q) f
  RuleSpells names (suffix levels r ok q f) = SuffixSpells (RuleSpells names r) ok (RuleSpells names q) f
  RuleSpells names (starting g r) = StartingSpells (λ t. g (G.code t)) (RuleSpells names r)
  RuleSpells names (bind r null begins goes_on q) = BindSpells (RuleSpells names r) (λ a. RuleSpells names (q a))
  RuleSpells names (needs n r) = RuleSpells names r
  RuleSpells names (named k) = names k

  -- the number bounds how deep the derivation is
  unfoldable pub Derives : ℕ → (k : K) → El T N (sorts k) → List T → Type 0
  Derives zero k a u = ⊥
  Derives (suc n) k a u = RuleSpells (Derives n) (G.production k) a u

  abbrev pub Spells : (k : K) → El T N (sorts k) → List T → Type 0
  Spells k a u = (n : ℕ) × Derives n k a u

  -- ---- fronts

  -- the list is a front of the rule within `b` levels, where `names` and `fronts` tell what names spell and their fronts
  abbrev pub RuleFront : {s : Sort} → ((k : K) → El T N (sorts k) → List T → Type 0) → (K → ℕ → List T → Type 0) → Rule T N K sorts s → ℕ → List T → Type 0
  RuleFront names fronts (token f) b = TokenFront (token_in G.code f)
  RuleFront names fronts (token_where f ok) b = TokenFront (token_such G.code f ok)
  RuleFront names fronts (absent a) b = AbsentFront
  RuleFront names fronts (sequence {s = s} r q) b = SequenceFront (RuleSpells names r) (deep T G.depth s) b (RuleFront names fronts r b) (RuleFront names fronts q b)
  RuleFront names fronts (choice r q) b = ChoiceFront (RuleFront names fronts r b) (RuleFront names fronts q b)
  RuleFront names fronts (view f r) b = RuleFront names fronts r b
  RuleFront names fronts (node f r) b = NodeFront (λ c. RuleFront names fronts r c) b
  RuleFront names fronts (many {s = s} r) b = ManyFront (RuleSpells names r) (deep T G.depth s) b (RuleFront names fronts r b)
  RuleFront names fronts (suffixes {s = s} levels r q f) b = SuffixesFront (RuleSpells names r) (RuleSpells names q) f (deep T G.depth s) levels b (RuleFront names fronts r b) (λ c. RuleFront names fronts q c)
  RuleFront names fronts (suffix {s = s} levels r ok q f) b = SuffixFront (RuleSpells names r) ok (deep T G.depth s) levels b (RuleFront names fronts r b) (λ c. RuleFront names fronts q c)
  RuleFront names fronts (starting g r) b = StartingFront (λ t. g (G.code t)) (RuleFront names fronts r b)
  RuleFront names fronts (bind {s = s} r null begins goes_on q) b = BindFront (RuleSpells names r) (deep T G.depth s) b (RuleFront names fronts r b) (λ a. RuleFront names fronts (q a) b)
  RuleFront names fronts (needs n r) b = NeedsFront n b (RuleFront names fronts r b)
  RuleFront names fronts (named k) b = fronts k b

  unfoldable pub DerivesFront : ℕ → K → ℕ → List T → Type 0
  DerivesFront zero k b u = u ≡ []
  DerivesFront (suc n) k b u = RuleFront (Derives n) (DerivesFront n) (G.production k) b u

  abbrev pub IsFront : K → ℕ → List T → Type 0
  IsFront k b u = (n : ℕ) × DerivesFront n k b u
