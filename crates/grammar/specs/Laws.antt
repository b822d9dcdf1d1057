-- Laws of every grammar in which one token tells how to go on.
use Rattle.std.specs.Prelude.{◌≡◌, ℕ, ◌≤◌, Bool, true, false, List, [], ◌∷◌, ◌++◌, Result, Ok, Err, ◌⊎◌}
use Rattle.grammar.specs.Rules.{Sort, El, deep, Grammar}
use Rattle.grammar.specs.Spelling.{Spells, IsFront}
use Rattle.grammar.specs.Checks.{Predictive}
use Rattle.grammar.specs.FormReaders.{remaining, and_then, next_in, openings, behind_openings, close_all}
use Rattle.grammar.specs.Readers.{read_named, read_rule}
use Rattle.grammar.specs.Reading.{SpellsWithin, RefusedAt, read_all}
use Rattle.grammar.specs.Productive.{NoDeadEnds}
use Rattle.grammar.specs.Statements.{table, word, not_, equal, when, either, name, if_, else_, until, different, comma, open_fields, close_fields, stmt}

module _ (T N K : Type 0) where
  -- tokens spell one value at most
  abbrev pub OneValue : Type 0
  OneValue = (sorts : K → Sort) (G : Grammar T N K sorts) → Predictive G → (k : K) (p q : El T N (sorts k)) (ts : List T) → Spells G k p ts → Spells G k q ts → p ≡ q

  -- tokens spell a value within the levels or have a place of a refusal, never both, and one place at most
  abbrev pub SomeAnswer : Type 0
  SomeAnswer = (sorts : K → Sort) (G : Grammar T N K sorts) → Predictive G → (k : K) (b : ℕ) (ts : List T)
      → ((p : El T N (sorts k)) × SpellsWithin G k b p ts) ⊎ ((at : ℕ) × RefusedAt G k b ts at)

  abbrev pub NeverBoth : Type 0
  NeverBoth = (sorts : K → Sort) (G : Grammar T N K sorts) → Predictive G → (k : K) (b : ℕ) (ts : List T) (p : El T N (sorts k)) (at : ℕ) → SpellsWithin G k b p ts → RefusedAt G k b ts at → ⊥

  abbrev pub OnePlace : Type 0
  OnePlace = (sorts : K → Sort) (G : Grammar T N K sorts) → Predictive G → (k : K) (b : ℕ) (ts : List T) (at other : ℕ) → RefusedAt G k b ts at → RefusedAt G k b ts other → at ≡ other

  -- each beginning of what is spelled within the levels is a front
  abbrev pub BeginningsAreFronts : Type 0
  BeginningsAreFronts = (sorts : K → Sort) (G : Grammar T N K sorts) → Predictive G → (k : K) (b : ℕ) (u v : List T) (p : El T N (sorts k)) → Spells G k p (u ++ v) → deep T G.depth (sorts k) p ≤ b → IsFront G k b u

  -- each front is the beginning of something spelled, at some depth
  abbrev pub FrontsAreBeginnings : Type 0
  FrontsAreBeginnings = (sorts : K → Sort) (G : Grammar T N K sorts) → Predictive G → NoDeadEnds G → (k : K) (b : ℕ) (u : List T) → IsFront G k b u → (v : List T) × (p : El T N (sorts k)) × Spells G k p (u ++ v)

  -- with more levels there are more fronts
  abbrev pub MoreFronts : Type 0
  MoreFronts = (sorts : K → Sort) (G : Grammar T N K sorts) → (k : K) (b more : ℕ) (u : List T) → b ≤ more → IsFront G k b u → IsFront G k more u

  -- what the reader gives is spelled within the levels
  abbrev pub GivesWhatIsSpelled : Type 0
  GivesWhatIsSpelled = (sorts : K → Sort) (G : Grammar T N K sorts) → Predictive G → (k : K) (b : ℕ) (ts : List T) (p : El T N (sorts k)) → read_all G k b ts ≡ Ok p → SpellsWithin G k b p ts

  -- the reader gives what is spelled within the levels
  abbrev pub ReadsWhatIsSpelled : Type 0
  ReadsWhatIsSpelled = (sorts : K → Sort) (G : Grammar T N K sorts) → Predictive G → (k : K) (b : ℕ) (ts : List T) (p : El T N (sorts k)) → SpellsWithin G k b p ts → read_all G k b ts ≡ Ok p

  -- it refuses at the first token that ends no front
  abbrev pub RefusesAtOnce : Type 0
  RefusesAtOnce = (sorts : K → Sort) (G : Grammar T N K sorts) → Predictive G → (k : K) (b : ℕ) (ts : List T) (at : ℕ) → read_all G k b ts ≡ Err at → RefusedAt G k b ts at

  -- the reader of a name is that of its production
  abbrev pub ReadsByProduction : Type 0
  ReadsByProduction = (sorts : K → Sort) (G : Grammar T N K sorts) → Predictive G → (b : ℕ) (k : K) (ts : List T) → read_named G b k ts ≡ read_rule G (read_named G) (G.production k) b ts

  -- it leaves nothing of a list exactly where that is a front
  pub record TellsFronts : Type 0 where
    pub front : (sorts : K → Sort) (G : Grammar T N K sorts) → Predictive G → (k : K) (b : ℕ) (ts : List T) → remaining (read_named G b k ts) ≡ 0 → IsFront G k b ts
    pub nothing_left : (sorts : K → Sort) (G : Grammar T N K sorts) → Predictive G → (k : K) (b : ℕ) (ts : List T) → IsFront G k b ts → remaining (read_named G b k ts) ≡ 0

-- parentheses that make no node, read without recursion
abbrev pub WithoutRecursion : (T A B : Type 0) → Type 0
WithoutRecursion T A B = (opens : T → Bool) (atom primary : List T → Result (A × List T) (List T)) (expression : List T → Result (B × List T) (List T))
    (resume : A → List T → Result (B × List T) (List T)) (close : B → List T → Result (A × List T) (List T))
    → ((ts : List T) → expression ts ≡ and_then (primary ts) resume)
    → ((t : T) (ts : List T) → opens t ≡ true → primary (t ∷ ts) ≡ and_then (expression ts) close)
    → ((ts : List T) → next_in opens ts ≡ false → primary ts ≡ atom ts)
    → (ts : List T) → primary ts ≡ and_then (atom (behind_openings opens ts)) (λ a rest. close_all resume close (openings opens ts) a rest)

-- there are such grammars, with a production of each form
pub record SmallGrammar : Type 0 where
  pub predictive : Predictive table
  pub no_dead_ends : NoDeadEnds table

-- the "else" belongs to the nearest "if" that takes one
abbrev pub NearestIf : Type 0
NearestIf = read_all table stmt 9 (if_ ∷ name 1 ∷ if_ ∷ name 2 ∷ name 3 ∷ else_ ∷ name 4 ∷ []) ≡ Ok (when (word 1) (either (word 2) (word 3) (word 4)), 1)

-- the second of two words that are the same is refused
abbrev pub NoWordTwice : Type 0
NoWordTwice = read_all table stmt 9 (open_fields ∷ name 1 ∷ comma ∷ name 1 ∷ close_fields ∷ []) ≡ Err 3

-- a sign whose two nodes don't fit is refused, and so is a word that begins two
pub record Levels : Type 0 where
  pub enough : read_all table stmt 3 (name 1 ∷ different ∷ name 2 ∷ []) ≡ Ok (not_ (equal (word 1) (word 2)), 0)
  pub one_short : read_all table stmt 2 (name 1 ∷ different ∷ name 2 ∷ []) ≡ Err 1
  pub none_left : read_all table stmt 1 (until ∷ name 1 ∷ name 2 ∷ []) ≡ Err 0
