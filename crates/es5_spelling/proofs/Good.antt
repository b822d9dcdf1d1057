-- What holds of all that a rule spells over sound tokens, from what holds of its parts.
use Rattle.std.proofs.Common.{◌≡◌, ℕ, zero, suc, Bool, true, false, ◌&&◌, List, [], ◌∷◌, Option, Some, None, inl, inr, refl, sym, subst}
use Rattle.std.specs.Prelude.{if◌then◌else◌}
use Rattle.std.specs.List.{AllByRecursion}
use Rattle.grammar.specs.Forms.{ChainSpells, ManySpells}
use Rattle.grammar.specs.Rules.{Sort, El, leaf, list, optional, pair, token, token_where, absent, sequence, choice, view, node, many, suffixes, suffix, starting, bind}
use Rattle.grammar.specs.Spelling.{RuleSpells}
use Rattle.grammar.specs.CommonRules.{before, behind, between, maybe, separated}
use Rattle.grammar.proofs.Lists.{and_split, none_some, some_inj}
use Rattle.es5_tree.specs.declared.token.EsToken.{EsToken}
use Rattle.es5_tree.specs.Grammar.Names.{Name, sorts, R}
use Rattle.es5_tree.specs.Grammar.Nodes.{Node}
use Rattle.es5_tree.specs.Grammar.Table.{table}
use Rattle.es5_tree.specs.Grammar.Terminals.{token_code}
use Rattle.es5_spelling.proofs.Sound.{IsSoundKind, Sound, sound_parts}

abbrev pub Env : Type 1
Env = (k : Name) → El EsToken Node (sorts k) → List EsToken → Type 0

pub record Good (env : Env) {s : Sort} (r : R s) (H : El EsToken Node s → Type 0) : Type 0 where
  pub good : (x : El EsToken Node s) (u : List EsToken) → RuleSpells table env r x u → Sound u → H x

-- a sound token of a class
abbrev pub OfClass : (ℕ → Bool) → EsToken → Type 0
OfClass f t = IsSoundKind t.kind × (f (token_code t) ≡ true)

module _ (env : Env) where
  taken : (f : ℕ → Bool) (t t' : EsToken) (c : Bool) → f (token_code t') ≡ c → (if c then Some t' else None) ≡ Some t → IsSoundKind t'.kind → OfClass f t
  taken f t t' true e h s = subst (OfClass f) (some_inj h) (s, e)
  taken f t t' false e h s = none_some h

  pub good_token : (f : ℕ → Bool) → Good env (token f) (OfClass f)
  unfolding table
  good_token f = record { good = λ t u x s. taken f t x.0 (f (token_code x.0)) refl x.2 (subst Sound x.1 s).0 }

  taken_where : (f : ℕ → Bool) (ok : EsToken → Bool) (t t' : EsToken) (c : Bool) → (f (token_code t') && ok t') ≡ c → (if c then Some t' else None) ≡ Some t → IsSoundKind t'.kind → OfClass f t × (ok t ≡ true)
  taken_where f ok t t' true e h s = let both = and_split (f (token_code t')) (ok t') e in subst (λ t. OfClass f t × (ok t ≡ true)) (some_inj h) ((s, both.0), both.1)
  taken_where f ok t t' false e h s = none_some h

  pub good_token_where : (f : ℕ → Bool) (ok : EsToken → Bool) → Good env (token_where f ok) (λ t. OfClass f t × (ok t ≡ true))
  unfolding table
  good_token_where f ok = record { good = λ t u x s. taken_where f ok t x.0 (f (token_code x.0) && ok x.0) refl x.2 (subst Sound x.1 s).0 }

  pub good_absent : {s : Sort} (a : El EsToken Node s) (H : El EsToken Node s → Type 0) → H a → Good env (absent a) H
  good_absent a H h = record { good = λ x u e s. subst H (sym e.0) h }

  pub good_sequence : {s q : Sort} {r : R s} {p : R q} {H : El EsToken Node s → Type 0} {K : El EsToken Node q → Type 0} → Good env r H → Good env p K → Good env (sequence r p) (λ x. H x.0 × K x.1)
  good_sequence g h = record { good = λ x u e s. let parts = sound_parts u e.0 e.1 e.2 s in (g.good x.0 e.0 e.3 parts.0, h.good x.1 e.1 e.4 parts.1) }

  pub good_choice : {s : Sort} {r p : R s} {H : El EsToken Node s → Type 0} → Good env r H → Good env p H → Good env (choice r p) H
  good_choice {s} {r} {p} {H} g h = record { good = λ x u e s. by x u e s }
    where
      by : (x : El EsToken Node s) (u : List EsToken) → RuleSpells table env (choice r p) x u → Sound u → H x
      by x u (inl e) s = g.good x u e s
      by x u (inr e) s = h.good x u e s

  pub good_view : {s q : Sort} {r : R s} {H : El EsToken Node s → Type 0} (f : El EsToken Node s → El EsToken Node q) (K : El EsToken Node q → Type 0) → ((a : El EsToken Node s) → H a → K (f a)) → Good env r H → Good env (view f r) K
  good_view f K h g = record { good = λ x u e s. subst K (sym e.1) (h e.0 (g.good e.0 u e.2 s)) }

  pub good_node : {s q : Sort} {r : R s} {H : El EsToken Node s → Type 0} (f : El EsToken Node s → El EsToken Node q) (K : El EsToken Node q → Type 0) → ((a : El EsToken Node s) → H a → K (f a)) → Good env r H → Good env (node f r) K
  good_node f K h g = record { good = λ x u e s. subst K (sym e.1) (h e.0 (g.good e.0 u e.2 s)) }

  pub good_many : {s : Sort} {r : R s} {H : El EsToken Node s → Type 0} → Good env r H → Good env (many r) (λ xs. AllByRecursion H xs)
  good_many {s} {r} {H} g = record { good = λ xs u e s. by xs u e s }
    where
      by : (xs : List (El EsToken Node s)) (u : List EsToken) → ManySpells (RuleSpells table env r) xs u → Sound u → AllByRecursion H xs
      by [] u e s = tt
      by (x ∷ xs) u (v, w, e, y, m) s = let parts = sound_parts u v w e s in (g.good x v y parts.0, by xs w m parts.1)

  pub good_suffixes : {s q : Sort} {r : R s} {p : R q} {H : El EsToken Node s → Type 0} {K : El EsToken Node q → Type 0} (n : ℕ) (f : El EsToken Node s → El EsToken Node q → El EsToken Node s)
      → ((l : El EsToken Node s) (x : El EsToken Node q) → H l → K x → H (f l x)) → Good env r H → Good env p K → Good env (suffixes n r p f) H
  good_suffixes {s} {q} {r} {p} {H} n f over g h = record { good = λ x u e s. by e.0 x u e.1 s }
    where
      by : (k : ℕ) (x : El EsToken Node s) (u : List EsToken) → ChainSpells (RuleSpells table env r) (RuleSpells table env p) f k x u → Sound u → H x
      by zero x u e s = g.good x u e s
      by (suc k) x u (l, y, v, w, e, i, m, z) s = let parts = sound_parts u v w i s in subst H (sym e) (over l y (by k l v m parts.0) (h.good y w z parts.1))

  pub good_suffix : {s q : Sort} {r : R s} {p : R q} {H : El EsToken Node s → Type 0} {K : El EsToken Node q → Type 0} (n : ℕ) (ok : El EsToken Node s → Bool) (f : El EsToken Node s → El EsToken Node q → El EsToken Node s)
      → ((l : El EsToken Node s) (x : El EsToken Node q) → ok l ≡ true → H l → K x → H (f l x)) → Good env r H → Good env p K → Good env (suffix n r ok p f) H
  good_suffix {s} {q} {r} {p} {H} n ok f over g h = record { good = λ x u e s. by x u e s }
    where
      by : (x : El EsToken Node s) (u : List EsToken) → RuleSpells table env (suffix n r ok p f) x u → Sound u → H x
      by x u (inl e) s = g.good x u e s
      by x u (inr (l, y, v, w, e, i, o, m, z)) s = let parts = sound_parts u v w i s in subst H (sym e) (over l y o (g.good l v m parts.0) (h.good y w z parts.1))

  pub good_starting : {s : Sort} {r : R s} {H : El EsToken Node s → Type 0} (c : ℕ → Bool) → Good env r H → Good env (starting c r) H
  good_starting c g = record { good = λ x u e s. g.good x u e.1 s }

  pub good_bind : {s q : Sort} {r : R s} {H : El EsToken Node s → Type 0} (null : Bool) (begins goes_on : ℕ → Bool) (p : El EsToken Node s → R q) (K : El EsToken Node s → El EsToken Node q → Type 0)
      → Good env r H → ((a : El EsToken Node s) → H a → Good env (p a) (K a)) → Good env (bind r null begins goes_on p) (λ x. H x.0 × K x.0 x.1)
  good_bind null begins goes_on p K g h = record {
    good = λ x u e s.
        let parts = sound_parts u e.0 e.1 e.2 s in
        let first = g.good x.0 e.0 e.3 parts.0 in
        (first, (h x.0 first).good x.1 e.1 e.4 parts.1);
  }

  -- ---- what most rules are made of

  pub good_behind : {s : Sort} {r : R s} {H : El EsToken Node s → Type 0} (f : ℕ → Bool) → Good env r H → Good env (behind f r) H
  good_behind {s} {r} {H} f g = good_view {s = pair leaf s} {q = s} (λ x. x.1) H (λ a h. h.1) (good_sequence (good_token f) g)

  pub good_before : {s : Sort} {r : R s} {H : El EsToken Node s → Type 0} (f : ℕ → Bool) → Good env r H → Good env (before r f) H
  good_before {s} {r} {H} f g = good_view {s = pair s leaf} {q = s} (λ x. x.0) H (λ a h. h.0) (good_sequence g (good_token f))

  pub good_between : {s : Sort} {r : R s} {H : El EsToken Node s → Type 0} (f g : ℕ → Bool) → Good env r H → Good env (between f r g) H
  good_between f g h = good_behind f (good_before g h)

abbrev pub IfSome : {A : Type 0} → (A → Type 0) → Option A → Type 0
IfSome H None = Unit {0}
IfSome H (Some x) = H x

module _ (env : Env) where
  pub good_maybe : {s : Sort} {r : R s} {H : El EsToken Node s → Type 0} → Good env r H → Good env (maybe r) (IfSome H)
  good_maybe {s} {r} {H} g = good_choice env (good_view env {s = s} {q = optional s} (λ x. Some x) (IfSome H) (λ a h. h) g) (good_absent env {s = optional s} None (IfSome H) tt)

  pub good_separated : {s : Sort} {r : R s} {H : El EsToken Node s → Type 0} (f : ℕ → Bool) → Good env r H → Good env (separated r f) (λ xs. AllByRecursion H xs)
  good_separated {s} {r} {H} f g = good_view env {s = pair s (list s)} {q = list s} (λ x. x.0 ∷ x.1) (λ xs. AllByRecursion H xs) (λ a h. (h.0, h.1)) (good_sequence env g (good_many env (good_behind env f g)))
