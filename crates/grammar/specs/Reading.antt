-- What is asked of a reader of a whole list of tokens. The list's end is a token of its own, which stands behind it.
use Rattle.std.specs.Prelude.{◌≡◌, ℕ, suc, ◌-◌, ◌≤◌, List, [], ◌∷◌, length, take, Result, Ok, Err, ◌⊎◌}
use Rattle.grammar.specs.Rules.{Sort, El, deep, Grammar}
use Rattle.grammar.specs.Spelling.{Spells, IsFront}
use Rattle.grammar.specs.Readers.{read_named}

module _ {T N K : Type 0} {sorts : K → Sort} (G : Grammar T N K sorts) (k : K) (b : ℕ) where
  -- the tokens spell the value, which is within the levels
  pub record SpellsWithin (p : El T N (sorts k)) (ts : List T) : Type 0 where
    pub spells : Spells G k p ts
    pub shallow : deep T G.depth (sorts k) p ≤ b

  -- the first n tokens are a front; with the end they are so only where they are whole
  abbrev pub FrontUpTo : List T → ℕ → Type 0
  FrontUpTo ts n = ((n ≤ length ts) × IsFront G k b (take n ts)) ⊎ ((n ≡ suc (length ts)) × ((p : El T N (sorts k)) × Spells G k p ts × (deep T G.depth (sorts k) p ≤ b)))

  -- the first token such that the tokens up to and with it are no front
  pub record RefusedAt (ts : List T) (at : ℕ) : Type 0 where
    pub within : at ≤ length ts
    pub before : (n : ℕ) → n ≤ at → IsFront G k b (take n ts)
    pub no_front : FrontUpTo ts (suc at) → ⊥

  -- the whole list's value, or the place of the refusal
  abbrev pub whole_list : ℕ → Result (El T N (sorts k) × List T) (List T) → Result (El T N (sorts k)) ℕ
  whole_list len (Ok (p, [])) = Ok p
  whole_list len (Ok (p, t ∷ r)) = Err (len - length (t ∷ r))
  whole_list len (Err r) = Err (len - length r)

  unfoldable pub read_all : List T → Result (El T N (sorts k)) ℕ
  read_all ts = whole_list (length ts) (read_named G b k ts)
