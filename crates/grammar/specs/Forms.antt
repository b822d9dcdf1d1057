-- The ways to put rules of a grammar together, and for each which values a list of tokens spells (`W a u`: the list `u` spells
-- `a`) and which lists are fronts (`F u`): beginnings of what is spelled, whose nodes so far are within a number of levels.
-- `d` is the depth of a value, and `b` the levels.
use Rattle.std.specs.Prelude.{◌≡◌, ℕ, zero, suc, ◌+◌, ◌≤◌, max, Bool, true, List, [], ◌∷◌, ◌++◌, Option, Some, ◌⊎◌}

-- one token, of which the function makes the value
abbrev pub TokenSpells : {T A : Type 0} → (T → Option A) → A → List T → Type 0
TokenSpells {T} f a u = (t : T) × (u ≡ t ∷ []) × (f t ≡ Some a)

abbrev pub TokenFront : {T A : Type 0} → (T → Option A) → List T → Type 0
TokenFront {T} {A} f u = (u ≡ []) ⊎ ((t : T) × (a : A) × (u ≡ t ∷ []) × (f t ≡ Some a))

-- no token, for a value
abbrev pub AbsentSpells : {T A : Type 0} → A → A → List T → Type 0
AbsentSpells a x u = (x ≡ a) × (u ≡ [])

abbrev pub AbsentFront : {T : Type 0} → List T → Type 0
AbsentFront u = u ≡ []

-- one rule after the other; a front stops in the first, or in the second behind a whole first within the levels
abbrev pub SequenceSpells : {T A B : Type 0} → (A → List T → Type 0) → (B → List T → Type 0) → A × B → List T → Type 0
SequenceSpells {T} W V x u = (v : List T) × (w : List T) × (u ≡ v ++ w) × W (x.0) v × V (x.1) w

abbrev pub SequenceFront : {T A : Type 0} → (A → List T → Type 0) → (A → ℕ) → ℕ → (List T → Type 0) → (List T → Type 0) → List T → Type 0
SequenceFront {T} {A} W d b F G u = F u ⊎ ((a : A) × (v : List T) × (w : List T) × (u ≡ v ++ w) × W a v × (d a ≤ b) × G w)

-- one rule or the other
abbrev pub ChoiceSpells : {T A : Type 0} → (A → List T → Type 0) → (A → List T → Type 0) → A → List T → Type 0
ChoiceSpells W V a u = W a u ⊎ V a u

abbrev pub ChoiceFront : {T : Type 0} → (List T → Type 0) → (List T → Type 0) → List T → Type 0
ChoiceFront F G u = F u ⊎ G u

-- another value for the same tokens
abbrev pub ViewSpells : {T A B : Type 0} → (A → B) → (A → List T → Type 0) → B → List T → Type 0
ViewSpells {T} {A} f W x u = (a : A) × (x ≡ f a) × W a u

-- a node over parts, which have one level less
abbrev pub NodeFront : {T : Type 0} → (ℕ → List T → Type 0) → ℕ → List T → Type 0
NodeFront F zero u = u ≡ []
NodeFront F (suc b) u = F b u

-- any number of times
abbrev pub ManySpells : {T A : Type 0} → (A → List T → Type 0) → List A → List T → Type 0
ManySpells W [] u = u ≡ []
ManySpells {T} W (a ∷ xs) u = (v : List T) × (w : List T) × (u ≡ v ++ w) × W a v × ManySpells W xs w

abbrev pub deepest : {A : Type 0} → (A → ℕ) → List A → ℕ
deepest d [] = 0
deepest d (a ∷ xs) = max (d a) (deepest d xs)

abbrev pub ManyFront : {T A : Type 0} → (A → List T → Type 0) → (A → ℕ) → ℕ → (List T → Type 0) → List T → Type 0
ManyFront {T} {A} W d b F u = (xs : List A) × (v : List T) × (w : List T) × (u ≡ v ++ w) × ManySpells W xs v × (deepest d xs ≤ b) × F w

-- a rule and then any number of parts behind it, each of which makes a value with all before it
abbrev pub ChainSpells : {T A S : Type 0} → (A → List T → Type 0) → (S → List T → Type 0) → (A → S → A) → ℕ → A → List T → Type 0
ChainSpells W V f zero x u = W x u
ChainSpells {T} {A} {S} W V f (suc k) x u = (l : A) × (s : S) × (v : List T) × (w : List T) × (x ≡ f l s) × (u ≡ v ++ w) × ChainSpells W V f k l v × V s w

abbrev pub SuffixesSpell : {T A S : Type 0} → (A → List T → Type 0) → (S → List T → Type 0) → (A → S → A) → A → List T → Type 0
SuffixesSpell W V f x u = (k : ℕ) × ChainSpells W V f k x u

-- a part behind, with the levels `c`, stands behind a whole within them
abbrev pub BehindSuffixes : {T A S : Type 0} → (A → List T → Type 0) → (S → List T → Type 0) → (A → S → A) → (A → ℕ) → ℕ → (List T → Type 0) → List T → Type 0
BehindSuffixes {T} {A} W V f d c G u = (l : A) × (v : List T) × (w : List T) × (u ≡ v ++ w) × SuffixesSpell W V f l v × (d l ≤ c) × G w

-- each part behind makes `levels` levels over all before it
abbrev pub SuffixesFront : {T A S : Type 0} → (A → List T → Type 0) → (S → List T → Type 0) → (A → S → A) → (A → ℕ) → ℕ → ℕ → (List T → Type 0) → (ℕ → List T → Type 0) → List T → Type 0
SuffixesFront W V f d levels b F G u = F u ⊎ ((c : ℕ) × (b ≡ levels + c) × BehindSuffixes W V f d c (G c) u)

-- a rule and then at most one part behind it, which makes a value with it, where the value before it may have one
abbrev pub SuffixSpells : {T A S : Type 0} → (A → List T → Type 0) → (A → Bool) → (S → List T → Type 0) → (A → S → A) → A → List T → Type 0
SuffixSpells {T} {A} {S} W ok V f x u = W x u ⊎ ((l : A) × (s : S) × (v : List T) × (w : List T) × (x ≡ f l s) × (u ≡ v ++ w) × (ok l ≡ true) × W l v × V s w)

abbrev pub BehindSuffix : {T A : Type 0} → (A → List T → Type 0) → (A → Bool) → (A → ℕ) → ℕ → (List T → Type 0) → List T → Type 0
BehindSuffix {T} {A} W ok d c G u = (l : A) × (v : List T) × (w : List T) × (u ≡ v ++ w) × (ok l ≡ true) × W l v × (d l ≤ c) × G w

abbrev pub SuffixFront : {T A : Type 0} → (A → List T → Type 0) → (A → Bool) → (A → ℕ) → ℕ → ℕ → (List T → Type 0) → (ℕ → List T → Type 0) → List T → Type 0
SuffixFront W ok d levels b F G u = F u ⊎ ((c : ℕ) × (b ≡ levels + c) × BehindSuffix W ok d c (G c) u)

-- a rule that begins with a token of a class
abbrev pub StartsIn : {T : Type 0} → (T → Bool) → List T → Type 0
StartsIn g [] = ⊥
StartsIn g (t ∷ r) = g t ≡ true

abbrev pub StartingSpells : {T A : Type 0} → (T → Bool) → (A → List T → Type 0) → A → List T → Type 0
StartingSpells g W a u = StartsIn g u × W a u

abbrev pub StartingFront : {T : Type 0} → (T → Bool) → (List T → Type 0) → List T → Type 0
StartingFront g F u = (u ≡ []) ⊎ (StartsIn g u × F u)

-- A rule whose nodes take so many levels as soon as it begins: nothing, or there are so many.
abbrev pub NeedsFront : {T : Type 0} → ℕ → ℕ → (List T → Type 0) → List T → Type 0
NeedsFront n b F u = (u ≡ []) ⊎ ((n ≤ b) × F u)

-- one rule after the other, where the second hangs on what the first spells
abbrev pub BindSpells : {T A B : Type 0} → (A → List T → Type 0) → (A → B → List T → Type 0) → A × B → List T → Type 0
BindSpells {T} W V x u = (v : List T) × (w : List T) × (u ≡ v ++ w) × W (x.0) v × V (x.0) (x.1) w

abbrev pub BindFront : {T A : Type 0} → (A → List T → Type 0) → (A → ℕ) → ℕ → (List T → Type 0) → (A → List T → Type 0) → List T → Type 0
BindFront {T} {A} W d b F G u = F u ⊎ ((a : A) × (v : List T) × (w : List T) × (u ≡ v ++ w) × W a v × (d a ≤ b) × G a w)
