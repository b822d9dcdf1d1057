-- The reader of a rule, where names are read as they are: for users that reason on one production.
use Rattle.std.proofs.Common.{◌≡◌, ℕ, ◌≤◌, Bool, true, false, ◌&&◌, List, length, Result, Ok, Err, refl, ap, ◌∙◌, length-append, arith}
use Rattle.std.specs.Prelude.{nat_le, if◌then◌else◌}
use Rattle.grammar.specs.FormReaders.{Reads, and_then, next_in, read_suffix}
use Rattle.grammar.specs.Rules.{Sort, El, deep, Rule, suffix, Grammar}
use Rattle.grammar.specs.Spelling.{RuleSpells, Spells, RuleFront, IsFront}
use Rattle.grammar.specs.Checks.{nullable, first, GoesOn, Checks, Predictive}
use Rattle.grammar.specs.Readers.{read_rule, read_named}
use Rattle.grammar.proofs.ReadsRules.{reads, derives_nullable}
use Rattle.grammar.proofs.FrontHeights.{read_named_reads}

is_if : (a c d : Bool) → d ≡ true → (a && (c && d)) ≡ (a && c)
is_if false c d h = refl
is_if true false d h = refl
is_if true true d h = h

within_is : (m n : ℕ) → m ≤ n → nat_le m n ≡ true
within_is m n h = search (arith, h)

module _ {T N K : Type 0} {sorts : K → Sort} (G : Grammar T N K sorts) (S : Predictive G) where
  pub rule_reads : {s : Sort} (r : Rule T N K sorts s) → Checks G r → (b : ℕ)
      → Reads (RuleSpells G (Spells G) r) (RuleFront G (Spells G) (IsFront G) r b) (deep T G.depth s) b (λ t. first G r (G.code t)) (λ a t. GoesOn G r a (G.code t)) (nullable G r) (read_rule G (read_named G) r b)
  rule_reads r c b = reads G S (Spells G) (IsFront G) (read_named G) (λ k a h. derives_nullable G S h.0 k a h.1) (λ d k. read_named_reads G S d k) r b c

  -- what is read is within the levels, and what is left is no longer
  pub value_within : {s : Sort} (r : Rule T N K sorts s) → Checks G r → (b : ℕ) (ts : List T) (a : El T N s) (rest : List T) → read_rule G (read_named G) r b ts ≡ Ok (a, rest) → deep T G.depth s a ≤ b
  value_within r c b ts a rest e = ((rule_reads r c b).sound ts a rest e).3

  pub left_of : {s : Sort} (r : Rule T N K sorts s) → Checks G r → (b : ℕ) (ts : List T) (a : El T N s) (rest : List T) → read_rule G (read_named G) r b ts ≡ Ok (a, rest) → length rest ≤ length ts
  left_of r c b ts a rest e = let s = (rule_reads r c b).sound ts a rest e in omega (arith, ap length s.1 ∙ length-append s.0 rest)

  -- a part behind that takes no level fits wherever its value may have one
  pub suffix_of_no_level : {s s' : Sort} (r : Rule T N K sorts s) (ok : El T N s → Bool) (q : Rule T N K sorts s') (f : El T N s → El T N s' → El T N s) → Checks G r → (b : ℕ) (ts : List T)
      → read_rule G (read_named G) (suffix 0 r ok q f) b ts ≡ read_suffix (λ t. first G q (G.code t)) ok f (read_rule G (read_named G) r b) (read_rule G (read_named G) q b) ts
  suffix_of_no_level {s} {s'} r ok q f c b ts = by (read_rule G (read_named G) r b ts) refl
    where
      by : (o : Result (El T N s × List T) (List T)) → read_rule G (read_named G) r b ts ≡ o
          → and_then o (λ l rest. if next_in (λ t. first G q (G.code t)) rest && (ok l && nat_le (deep T G.depth s l) b) then and_then (read_rule G (read_named G) q b rest) (λ x after. Ok (f l x, after)) else Ok (l, rest))
          ≡ and_then o (λ l rest. if next_in (λ t. first G q (G.code t)) rest && ok l then and_then (read_rule G (read_named G) q b rest) (λ x after. Ok (f l x, after)) else Ok (l, rest))
      by (Ok y) e =
          ap (λ z. if z then and_then (read_rule G (read_named G) q b y.1) (λ x after. Ok (f y.0 x, after)) else Ok (y.0, y.1))
          (is_if (next_in (λ t. first G q (G.code t)) y.1) (ok y.0) (nat_le (deep T G.depth s y.0) b) (within_is _ _ (value_within r c b ts y.0 y.1 e)))
      by (Err y) e = refl
