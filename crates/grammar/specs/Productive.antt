-- Grammars without dead ends, in which each part of a rule is spelled by some tokens.
use Rattle.std.specs.Prelude.{◌≡◌, true, List}
use Rattle.grammar.specs.Forms.{StartsIn}
use Rattle.grammar.specs.Rules.{Sort, El, Rule, token, token_where, absent, sequence, choice, view, node, many, suffixes, suffix, starting, bind, needs, named, Grammar}
use Rattle.grammar.specs.Spelling.{RuleSpells, Spells}

module _ {T N K : Type 0} {sorts : K → Sort} (G : Grammar T N K sorts) where
  abbrev pub Productive : {s : Sort} → Rule T N K sorts s → Type 0
  Productive (token f) = (t : T) × (f (G.code t) ≡ true)
  Productive (token_where f ok) = (t : T) × (f (G.code t) ≡ true) × (ok t ≡ true)
  Productive (absent a) = Unit {0}
  Productive (sequence r q) = Productive r × Productive q
  Productive (choice r q) = Productive r × Productive q
  Productive (view f r) = Productive r
  Productive (node f r) = Productive r
  Productive (many r) = Productive r
  Productive (suffixes levels r q f) = Productive r × Productive q
  Productive (suffix levels r ok q f) = Productive r × Productive q
  Productive (starting {s = s} g r) = Productive r × ((a : El T N s) × (u : List T) × StartsIn (λ t. g (G.code t)) u × RuleSpells G (Spells G) r a u)
  Productive (bind {s = s} r null begins goes_on q) = Productive r × ((a : El T N s) → Productive (q a))
  Productive (needs n r) = Productive r
  Productive (named k) = Unit {0}

  pub record NoDeadEnds : Type 0 where
    pub names : (k : K) → (p : El T N (sorts k)) × (u : List T) × Spells G k p u
    pub productions : (k : K) → Productive (G.production k)
