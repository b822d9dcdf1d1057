-- What a rule spells has no more nodes than tokens, from what holds of its parts.
use Rattle.std.proofs.Common.{◌≡◌, ℕ, zero, suc, ◌+◌, ◌≤◌, Bool, List, [], ◌∷◌, ◌++◌, length, map, Option, Some, None, inl, inr, refl, ap, arith, length-append}
use Rattle.grammar.specs.Forms.{ChainSpells, ManySpells}
use Rattle.grammar.specs.Rules.{Sort, El, leaf, list, optional, pair, token, token_where, absent, sequence, choice, view, node, many, suffixes, suffix, starting, bind}
use Rattle.grammar.specs.Spelling.{RuleSpells}
use Rattle.grammar.specs.CommonRules.{before, behind, between, maybe, separated}
use Rattle.es5_tree.specs.declared.token.EsToken.{EsToken}
use Rattle.es5_tree.specs.Grammar.Names.{R}
use Rattle.es5_tree.specs.Grammar.Nodes.{Node}
use Rattle.es5_tree.specs.Grammar.Table.{table}
use Rattle.es5_spelling.specs.Nodes.{total}
use Rattle.es5_spelling.proofs.Good.{Env}

pub record Bounded (env : Env) {s : Sort} (r : R s) (c : El EsToken Node s → ℕ) : Type 0 where
  pub bounded : (x : El EsToken Node s) (u : List EsToken) → RuleSpells table env r x u → c x ≤ length u

abbrev pub if_some : {A : Type 0} → (A → ℕ) → Option A → ℕ
if_some c None = 0
if_some c (Some x) = c x

-- two lists of tokens in a row
two : (m n : ℕ) (u v w : List EsToken) → u ≡ v ++ w → m ≤ length v → n ≤ length w → m + n ≤ length u
two m n u v w e h i = omega (arith, h, i, ap length e, length-append v w)

module _ (env : Env) where
  pub b_token : (f : ℕ → Bool) → Bounded env (token f) (λ t. 1)
  b_token f = record { bounded = λ t u x. omega (arith, ap length x.1) }

  pub b_token_where : (f : ℕ → Bool) (ok : EsToken → Bool) → Bounded env (token_where f ok) (λ t. 1)
  b_token_where f ok = record { bounded = λ t u x. omega (arith, ap length x.1) }

  pub b_absent : {s : Sort} (a : El EsToken Node s) (c : El EsToken Node s → ℕ) → c a ≡ 0 → Bounded env (absent a) c
  b_absent a c h = record { bounded = λ x u e. omega (arith, h, ap c e.0) }

  pub b_sequence : {s q : Sort} {r : R s} {p : R q} {c : El EsToken Node s → ℕ} {d : El EsToken Node q → ℕ} → Bounded env r c → Bounded env p d → Bounded env (sequence r p) (λ x. c x.0 + d x.1)
  b_sequence {c = c} {d = d} g h = record { bounded = λ x u e. two (c x.0) (d x.1) u e.0 e.1 e.2 (g.bounded x.0 e.0 e.3) (h.bounded x.1 e.1 e.4) }

  pub b_choice : {s : Sort} {r p : R s} {c : El EsToken Node s → ℕ} → Bounded env r c → Bounded env p c → Bounded env (choice r p) c
  b_choice {s} {r} {p} {c} g h = record { bounded = λ x u e. by x u e }
    where
      by : (x : El EsToken Node s) (u : List EsToken) → RuleSpells table env (choice r p) x u → c x ≤ length u
      by x u (inl e) = g.bounded x u e
      by x u (inr e) = h.bounded x u e

  pub b_view : {s q : Sort} {r : R s} {d : El EsToken Node s → ℕ} (f : El EsToken Node s → El EsToken Node q) (c : El EsToken Node q → ℕ) → ((a : El EsToken Node s) → c (f a) ≤ d a) → Bounded env r d → Bounded env (view f r) c
  b_view {d = d} f c h g = record { bounded = λ x u e. let a = h e.0 in let b = g.bounded e.0 u e.2 in omega (arith, a, b, ap c e.1) }

  pub b_node : {s q : Sort} {r : R s} {d : El EsToken Node s → ℕ} (f : El EsToken Node s → El EsToken Node q) (c : El EsToken Node q → ℕ) → ((a : El EsToken Node s) → c (f a) ≤ d a) → Bounded env r d → Bounded env (node f r) c
  b_node {d = d} f c h g = record { bounded = λ x u e. let a = h e.0 in let b = g.bounded e.0 u e.2 in omega (arith, a, b, ap c e.1) }

  pub b_many : {s : Sort} {r : R s} {c : El EsToken Node s → ℕ} → Bounded env r c → Bounded env (many r) (λ xs. total (map c xs))
  b_many {s} {r} {c} g = record { bounded = λ xs u e. by xs u e }
    where
      by : (xs : List (El EsToken Node s)) (u : List EsToken) → ManySpells (RuleSpells table env r) xs u → total (map c xs) ≤ length u
      by [] u e = omega (arith, ap length e)
      by (x ∷ xs) u (v, w, e, y, m) = two (c x) (total (map c xs)) u v w e (g.bounded x v y) (by xs w m)

  pub b_suffixes : {s q : Sort} {r : R s} {p : R q} {c : El EsToken Node s → ℕ} {d : El EsToken Node q → ℕ} (n : ℕ) (f : El EsToken Node s → El EsToken Node q → El EsToken Node s)
      → ((l : El EsToken Node s) (x : El EsToken Node q) → c (f l x) ≤ c l + d x) → Bounded env r c → Bounded env p d → Bounded env (suffixes n r p f) c
  b_suffixes {s} {q} {r} {p} {c} {d} n f over g h = record { bounded = λ x u e. by e.0 x u e.1 }
    where
      by : (k : ℕ) (x : El EsToken Node s) (u : List EsToken) → ChainSpells (RuleSpells table env r) (RuleSpells table env p) f k x u → c x ≤ length u
      by zero x u e = g.bounded x u e
      by (suc k) x u (l, y, v, w, e, i, m, z) = let both = two (c l) (d y) u v w i (by k l v m) (h.bounded y w z) in let more = over l y in omega (arith, both, more, ap c e)

  pub b_suffix : {s q : Sort} {r : R s} {p : R q} {c : El EsToken Node s → ℕ} {d : El EsToken Node q → ℕ} (n : ℕ) (ok : El EsToken Node s → Bool) (f : El EsToken Node s → El EsToken Node q → El EsToken Node s)
      → ((l : El EsToken Node s) (x : El EsToken Node q) → c (f l x) ≤ c l + d x) → Bounded env r c → Bounded env p d → Bounded env (suffix n r ok p f) c
  b_suffix {s} {q} {r} {p} {c} {d} n ok f over g h = record { bounded = λ x u e. by x u e }
    where
      by : (x : El EsToken Node s) (u : List EsToken) → RuleSpells table env (suffix n r ok p f) x u → c x ≤ length u
      by x u (inl e) = g.bounded x u e
      by x u (inr (l, y, v, w, e, i, o, m, z)) = let both = two (c l) (d y) u v w i (g.bounded l v m) (h.bounded y w z) in let more = over l y in omega (arith, both, more, ap c e)

  pub b_starting : {s : Sort} {r : R s} {c : El EsToken Node s → ℕ} (f : ℕ → Bool) → Bounded env r c → Bounded env (starting f r) c
  b_starting f g = record { bounded = λ x u e. g.bounded x u e.1 }

  pub b_bind : {s q : Sort} {r : R s} {c : El EsToken Node s → ℕ} (null : Bool) (begins goes_on : ℕ → Bool) (p : El EsToken Node s → R q) (d : El EsToken Node q → ℕ) → Bounded env r c → ((a : El EsToken Node s) → Bounded env (p a) d)
      → Bounded env (bind r null begins goes_on p) (λ x. c x.0 + d x.1)
  b_bind {c = c} null begins goes_on p d g h = record { bounded = λ x u e. two (c x.0) (d x.1) u e.0 e.1 e.2 (g.bounded x.0 e.0 e.3) ((h x.0).bounded x.1 e.1 e.4) }

  pub b_behind : {s : Sort} {r : R s} {c : El EsToken Node s → ℕ} (f : ℕ → Bool) → Bounded env r c → Bounded env (behind f r) (λ x. suc (c x))
  b_behind {s} {r} {c} f g = b_view {s = pair leaf s} {q = s} (λ x. x.1) (λ x. suc (c x)) (λ a. omega arith) (b_sequence (b_token f) g)

  pub b_before : {s : Sort} {r : R s} {c : El EsToken Node s → ℕ} (f : ℕ → Bool) → Bounded env r c → Bounded env (before r f) (λ x. suc (c x))
  b_before {s} {r} {c} f g = b_view {s = pair s leaf} {q = s} (λ x. x.0) (λ x. suc (c x)) (λ a. omega arith) (b_sequence g (b_token f))

  pub b_less : {s : Sort} {r : R s} (c d : El EsToken Node s → ℕ) → ((x : El EsToken Node s) → c x ≤ d x) → Bounded env r d → Bounded env r c
  b_less c d h g = record { bounded = λ x u e. let a = h x in let b = g.bounded x u e in omega (arith, a, b) }

module _ (env : Env) where
  pub b_between : {s : Sort} {r : R s} {c : El EsToken Node s → ℕ} (f g : ℕ → Bool) → Bounded env r c → Bounded env (between f r g) (λ x. suc (suc (c x)))
  b_between f g h = b_behind env f (b_before env g h)

  pub b_maybe : {s : Sort} {r : R s} {c : El EsToken Node s → ℕ} → Bounded env r c → Bounded env (maybe r) (if_some c)
  b_maybe {s} {r} {c} g = b_choice env (b_view env {s = s} {q = optional s} (λ x. Some x) (if_some c) (λ a. omega arith) g) (b_absent env {s = optional s} None (if_some c) refl)

  pub b_separated : {s : Sort} {r : R s} {c : El EsToken Node s → ℕ} (f : ℕ → Bool) → Bounded env r c → Bounded env (separated r f) (λ xs. total (map c xs))
  b_separated {s} {r} {c} f g =
      b_view env {s = pair s (list s)} {q = list s} (λ x. x.0 ∷ x.1) (λ xs. total (map c xs)) (λ a. omega arith)
      (b_sequence env g (b_many env (b_less env c (λ x. suc (c x)) (λ x. omega arith) (b_behind env f g))))
