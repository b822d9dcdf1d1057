-- What the productions spell, each from its parts.
use Rattle.std.proofs.Common.{◌≡◌, ℕ, zero, suc, ◌+◌, ◌≤◌, ◌⊎◌, Bool, true, List, [], ◌∷◌, ◌++◌, length, Some, None, inl, inr, refl, ap, ◌∙◌, subst, arith, le_refl}
use Rattle.std.specs.Prelude.{if◌then◌else◌}
use Rattle.grammar.specs.Rules.{Sort, El, deep, token, suffixes}
use Rattle.grammar.specs.Spelling.{RuleSpells, Derives, Spells, token_in}
use Rattle.grammar.proofs.Heights.{weak, height}
use Rattle.grammar.proofs.ReadsRules.{derives_nullable}
use Rattle.es5_tree.specs.declared.terminal.Level.{Level}
use Rattle.es5_tree.specs.declared.token.EsToken.{EsToken}
use Rattle.es5_tree.specs.declared.token.EsTokenKind.{EsTokenKind}
use Rattle.es5_tree.specs.Grammar.Nodes.{Node}
use Rattle.es5_tree.specs.Grammar.Names.{Name, sorts, R, expr, expr_sort}
use Rattle.es5_tree.specs.Grammar.Expressions.{primary, call_level, unary_level, product_level, sum_level, relation_level, equality_level, and_level, or_level, conditional_level, assignment_level}
use Rattle.es5_tree.specs.Grammar.Table.{table, level_rule}
use Rattle.es5_tree.specs.Grammar.Terminals.{code_of, terminal_of, token_code}
use Rattle.es5_tree.proofs.Grammar.TableMeets.{predictive}

-- a rule spells a value
abbrev pub Rules : {s : Sort} → R s → El EsToken Node s → List EsToken → Type 0
Rules r a u = RuleSpells table (Spells table) r a u

-- what a production spells, its name spells
pub by_production : (k : Name) (a : El EsToken Node (sorts k)) (u : List EsToken) → Rules (table.production k) a u → Spells table k a u
unfolding Derives
by_production k a u x =
    let L : ℕ = length u + deep EsToken table.depth (sorts k) a in (
      suc (suc L),
      weak table (Spells table) (Derives table (suc L)) (λ j p h. derives_nullable table predictive h.0 j p h.1) (table.production k) (predictive.checks k) a u L (le_refl _)
          (λ j p v le y. height table predictive (suc L) y.0 j p v (omega (arith, le)) y.1) x,
    )

-- an expression of a level stands where a name asks for one
pub as_expr : (l : Level) (x : EsToken × Node) (u : List EsToken) → Rules (level_rule l) x u → Spells table (expr l) x.1 u
unfolding table
as_expr l x u h = by_production (expr l) x.1 u (x, refl, h)

-- a token of a kind
pub token_is : (f : ℕ → Bool) (k : EsTokenKind) (t : EsToken) → t.kind ≡ k → f (code_of (terminal_of k)) ≡ true → token_in token_code f t ≡ Some t
token_is f k t e h = ap (λ o. token_in (λ x. code_of (terminal_of o)) f t) e ∙ ap (λ b. if b then Some t else None) h

pub a_token : (f : ℕ → Bool) (k : EsTokenKind) (t : EsToken) → t.kind ≡ k → f (code_of (terminal_of k)) ≡ true → Rules (token f) t (t ∷ [])
unfolding table
a_token f k t e h = (t, refl, token_is f k t e h)

-- one more part behind
pub one_more : {s r : Sort} (n : ℕ) (base : R s) (part : R r) (f : El EsToken Node s → El EsToken Node r → El EsToken Node s) (x : El EsToken Node s) (y : El EsToken Node r) (v w : List EsToken)
    → Rules (suffixes n base part f) x v → Rules part y w → Rules (suffixes n base part f) (f x y) (v ++ w)
one_more n base part f x y v w (k, c) p = (suc k, (x, y, v, w, refl, refl, c, p))

-- ---- levels of expressions, from the tightest on

abbrev pub rule_at : ℕ → R expr_sort
rule_at zero = primary
rule_at (suc zero) = call_level
rule_at (suc (suc zero)) = call_level
rule_at (suc (suc (suc zero))) = unary_level
rule_at (suc (suc (suc (suc zero)))) = unary_level
rule_at (suc (suc (suc (suc (suc zero))))) = product_level
rule_at (suc (suc (suc (suc (suc (suc zero)))))) = sum_level
rule_at (suc (suc (suc (suc (suc (suc (suc zero))))))) = relation_level
rule_at (suc (suc (suc (suc (suc (suc (suc (suc zero)))))))) = equality_level
rule_at (suc (suc (suc (suc (suc (suc (suc (suc (suc zero))))))))) = and_level
rule_at (suc (suc (suc (suc (suc (suc (suc (suc (suc (suc zero)))))))))) = or_level
rule_at (suc (suc (suc (suc (suc (suc (suc (suc (suc (suc (suc zero))))))))))) = conditional_level
rule_at (suc (suc (suc (suc (suc (suc (suc (suc (suc (suc (suc (suc n)))))))))))) = assignment_level

-- what a level spells the next one spells
climb : (n : ℕ) (x : EsToken × Node) (u : List EsToken) → Rules (rule_at n) x u → Rules (rule_at (suc n)) x u
unfolding call_level unary_level product_level sum_level relation_level equality_level and_level or_level conditional_level assignment_level
climb zero x u h = (0, h)
climb (suc zero) x u h = h
climb (suc (suc zero)) x u h = inr (inr h)
climb (suc (suc (suc zero))) x u h = h
climb (suc (suc (suc (suc zero)))) x u h = (0, h)
climb (suc (suc (suc (suc (suc zero))))) x u h = (0, h)
climb (suc (suc (suc (suc (suc (suc zero)))))) x u h = (0, h)
climb (suc (suc (suc (suc (suc (suc (suc zero))))))) x u h = (0, h)
climb (suc (suc (suc (suc (suc (suc (suc (suc zero)))))))) x u h = (0, h)
climb (suc (suc (suc (suc (suc (suc (suc (suc (suc zero))))))))) x u h = (0, h)
climb (suc (suc (suc (suc (suc (suc (suc (suc (suc (suc zero)))))))))) x u h = inl h
climb (suc (suc (suc (suc (suc (suc (suc (suc (suc (suc (suc zero))))))))))) x u h = inl h
climb (suc (suc (suc (suc (suc (suc (suc (suc (suc (suc (suc (suc n)))))))))))) x u h = h

pub climbs : (m n : ℕ) (x : EsToken × Node) (u : List EsToken) → m ≤ n → Rules (rule_at m) x u → Rules (rule_at n) x u
climbs m zero x u le h = subst (λ k. Rules (rule_at k) x u) {x = m} {y = 0} (omega (arith, le)) h
climbs m (suc n) x u le h = by (cases m n le) (λ l. climbs m n x u l h)
  where
    cases : (m n : ℕ) → m ≤ suc n → (m ≤ n) ⊎ (m ≡ suc n)
    cases m n le = grind arith

    by : (m ≤ n) ⊎ (m ≡ suc n) → (m ≤ n → Rules (rule_at n) x u) → Rules (rule_at (suc n)) x u
    by (inl l) less = climb n x u (less l)
    by (inr e) less = subst (λ k. Rules (rule_at k) x u) e h
