-- What a grammar has to meet so that one token tells how to go on.
use Rattle.std.specs.Prelude.{◌≡◌, ℕ, zero, suc, ◌+◌, ◌-◌, ◌≤◌, ◌<◌, max, Bool, true, false, ◌&&◌, ◌||◌, ◌⊎◌, List, [], ◌∷◌, if◌then◌else◌}
use Rattle.grammar.specs.Rules.{Sort, El, deep, Rule, token, token_where, absent, sequence, choice, view, node, many, suffixes, suffix, starting, bind, needs, named, Grammar}

-- The classes below `n` in the set. What a check asks is that a list of classes is empty, so the goal of a failing one
-- shows them.
abbrev pub classes_in : ℕ → (ℕ → Bool) → List ℕ
classes_in zero f = []
classes_in (suc n) f = if f n then n ∷ classes_in n f else classes_in n f

module _ {T N K : Type 0} {sorts : K → Sort} (G : Grammar T N K sorts) where
  -- whether no token can spell the rule
  abbrev pub nullable : {s : Sort} → Rule T N K sorts s → Bool
  nullable (token f) = false
  nullable (token_where f ok) = false
  nullable (absent a) = true
  nullable (sequence r q) = nullable r && nullable q
  nullable (choice r q) = nullable q
  nullable (view f r) = nullable r
  nullable (node f r) = nullable r
  nullable (many r) = true
  nullable (suffixes levels r q f) = false
  nullable (suffix levels r ok q f) = false
  nullable (starting g r) = false
  nullable (bind r null begins goes_on q) = nullable r && null
  nullable (needs n r) = nullable r
  nullable (named k) = G.name_nullable k

  -- the classes of tokens that begin it
  abbrev pub first : {s : Sort} → Rule T N K sorts s → ℕ → Bool
  first (token f) t = f t
  first (token_where f ok) t = f t
  first (absent a) t = false
  first (sequence r q) t = if nullable r then first r t || first q t else first r t
  first (choice r q) t = first r t || first q t
  first (view f r) t = first r t
  first (node f r) t = first r t
  first (many r) t = first r t
  first (suffixes levels r q f) t = first r t
  first (suffix levels r ok q f) t = first r t
  first (starting g r) t = g t && first r t
  first (bind r null begins goes_on q) t = if nullable r then first r t || begins t else first r t
  first (needs n r) t = first r t
  first (named k) t = G.name_first k t

  -- the classes of tokens that can go on behind a whole one
  abbrev pub continues : {s : Sort} → Rule T N K sorts s → ℕ → Bool
  continues (token f) t = false
  continues (token_where f ok) t = false
  continues (absent a) t = false
  continues (sequence r q) t = continues q t || (nullable q && continues r t)
  continues (choice r q) t = continues r t || (continues q t || (nullable q && first r t))
  continues (view f r) t = continues r t
  continues (node f r) t = continues r t
  continues (many r) t = continues r t || first r t
  continues (suffixes levels r q f) t = continues r t || (continues q t || first q t)
  continues (suffix levels r ok q f) t = continues r t || (continues q t || first q t)
  continues (starting g r) t = continues r t
  continues (bind r null begins goes_on q) t = goes_on t || (null && continues r t)
  continues (needs n r) t = continues r t
  continues (named k) t = G.name_continues k t

  -- the classes of tokens that can go on behind a whole one of that value, as far as the value tells
  abbrev pub GoesOn : {s : Sort} → Rule T N K sorts s → El T N s → ℕ → Type 0
  GoesOn (sequence r q) x t = GoesOn q (x.1) t ⊎ ((nullable q ≡ true) × GoesOn r (x.0) t)
  GoesOn (choice r q) x t = GoesOn r x t ⊎ (GoesOn q x t ⊎ ((nullable q ≡ true) × (first r t ≡ true)))
  GoesOn (view {s = s} f r) x t = (a : El T N s) × (x ≡ f a) × GoesOn r a t
  GoesOn (node {s = s} f r) x t = (a : El T N s) × (x ≡ f a) × GoesOn r a t
  GoesOn (suffixes {s = s} {r = r'} levels r q f) x t = GoesOn r x t ⊎ (((l : El T N s) × (y : El T N r') × (x ≡ f l y) × GoesOn q y t) ⊎ (first q t ≡ true))
  GoesOn (suffix {s = s} {r = r'} levels r ok q f) x t =
      GoesOn r x t ⊎ (((l : El T N s) × (y : El T N r') × (x ≡ f l y) × (ok l ≡ true) × GoesOn q y t) ⊎ ((ok x ≡ true) × (first q t ≡ true)))
  GoesOn (starting g r) x t = GoesOn r x t
  GoesOn (needs n r) x t = GoesOn r x t
  GoesOn (named k) x t = G.name_goes_on k x t ≡ true
  GoesOn r x t = continues r t ≡ true

  -- no class is in both
  abbrev pub Disjoint : (ℕ → Bool) → (ℕ → Bool) → Type 0
  Disjoint c f = classes_in (G.size) (λ n. c n && f n) ≡ []

  -- no class is in the first alone
  abbrev pub Included : (ℕ → Bool) → (ℕ → Bool) → Type 0
  Included f g = classes_in (G.size) (λ n. if g n then false else f n) ≡ []

  -- what the rule spells has so many levels
  abbrev pub AtLeast : {s : Sort} → Rule T N K sorts s → ℕ → Type 0
  AtLeast (sequence r q) n = AtLeast r n ⊎ AtLeast q n
  AtLeast (choice r q) n = AtLeast r n × AtLeast q n
  AtLeast (view f r) n = AtLeast r n
  AtLeast (node f r) n = AtLeast r (n - 1)
  AtLeast (starting g r) n = AtLeast r n
  AtLeast (needs m r) n = AtLeast r n
  AtLeast {s} r n = (a : El T N s) → n ≤ deep T G.depth s a

  -- where the value may have a part behind, no token that begins the part goes on with the value itself: by classes, or by
  -- what the value tells
  abbrev pub Separate : {s r : Sort} → Rule T N K sorts s → (El T N s → Bool) → Rule T N K sorts r → Type 0
  Separate {s} r ok q = Disjoint (continues r) (first q) ⊎ ((l : El T N s) (t : ℕ) → t < G.size → ok l ≡ true → GoesOn r l t → first q t ≡ true → ⊥)

  -- one token tells how to go on in the rule, and nodes are as deep as the grammar says
  abbrev pub Checks : {s : Sort} → Rule T N K sorts s → Type 0
  Checks (token f) = Unit {0}
  Checks (token_where f ok) = Unit {0}
  Checks (absent a) = Unit {0}
  Checks (sequence r q) = Disjoint (continues r) (first q) × Checks r × Checks q
  Checks (choice r q) = Disjoint (first r) (first q) × (nullable r ≡ false) × Checks r × Checks q
  Checks (view {s = s} {r = r'} f r) = ((a : El T N s) → deep T G.depth r' (f a) ≡ deep T G.depth s a) × Checks r
  Checks (node {s = s} {r = r'} f r) = ((a : El T N s) → deep T G.depth r' (f a) ≡ suc (deep T G.depth s a)) × Checks r
  Checks (many r) = Disjoint (continues r) (first r) × (nullable r ≡ false) × Checks r
  Checks (suffixes {s = s} {r = r'} levels r q f) = Disjoint (continues r) (first q) × Disjoint (continues q) (first q) × (nullable r ≡ false) × (nullable q ≡ false)
      × ((l : El T N s) (x : El T N r') → deep T G.depth s (f l x) ≡ levels + max (deep T G.depth s l) (deep T G.depth r' x)) × Checks r × Checks q
  Checks (suffix {s = s} {r = r'} levels r ok q f) = Separate r ok q × (nullable r ≡ false) × (nullable q ≡ false)
      × ((l : El T N s) (x : El T N r') → ok l ≡ true → deep T G.depth s (f l x) ≡ levels + max (deep T G.depth s l) (deep T G.depth r' x)) × Checks r × Checks q
  Checks (starting g r) = (nullable r ≡ false) × Checks r
  Checks (bind {s = s} r null begins goes_on q) = Disjoint (continues r) begins × Checks r
      × ((a : El T N s) → Included (first (q a)) begins × Included (continues (q a)) goes_on × (nullable (q a) ≡ true → null ≡ true) × Checks (q a))
  Checks (needs n r) = AtLeast r n × Checks r
  Checks (named k) = Unit {0}

  -- each name in it stands under a node of it, or behind a token of it, so that reading it ends
  abbrev pub Guarded : {s : Sort} → Rule T N K sorts s → Type 0
  Guarded (token f) = Unit {0}
  Guarded (token_where f ok) = Unit {0}
  Guarded (absent a) = Unit {0}
  Guarded (sequence r q) = Guarded r × (Guarded q ⊎ (nullable r ≡ false))
  Guarded (choice r q) = Guarded r × Guarded q
  Guarded (view f r) = Guarded r
  Guarded (node f r) = Unit {0}
  Guarded (many r) = Guarded r
  Guarded (suffixes levels r q f) = Guarded r
  Guarded (suffix levels r ok q f) = Guarded r
  Guarded (starting g r) = Guarded r
  Guarded (bind {s = s} r null begins goes_on q) = Guarded r × (((a : El T N s) → Guarded (q a)) ⊎ (nullable r ≡ false))
  Guarded (needs n r) = Guarded r
  Guarded (named k) = ⊥

  pub record Predictive : Type 0 where
    -- the productions
    pub checks : (k : K) → Checks (G.production k)
    pub guarded : (k : K) → Guarded (G.production k)
    -- the tokens
    pub within : (t : T) → G.code t < G.size
    -- what is said of names covers their productions
    pub begins : (k : K) → Included (first (G.production k)) (G.name_first k)
    pub goes_on : (k : K) → Included (continues (G.production k)) (G.name_continues k)
    pub by_value : (k : K) (a : El T N (sorts k)) (t : ℕ) → t < G.size → GoesOn (G.production k) a t → G.name_goes_on k a t ≡ true
    pub bounded : (k : K) (a : El T N (sorts k)) (t : ℕ) → G.name_goes_on k a t ≡ true → G.name_continues k t ≡ true
    pub empties : (k : K) → nullable (G.production k) ≡ true → G.name_nullable k ≡ true
