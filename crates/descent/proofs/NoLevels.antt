-- With no level left a rule stops at its first node, behind the tokens that stand before that.
use Rattle.std.proofs.Common.{◌≡◌, ◌⊎◌, inl, inr, ℕ, zero, suc, Bool, true, false, List, [], ◌∷◌, Result, Ok, Err, refl, sym, ap, ◌∙◌, subst}
use Rattle.std.specs.Prelude.{nat_le, if◌then◌else◌}
use Rattle.grammar.specs.Checks.{first}
use Rattle.grammar.specs.FormReaders.{and_then, next_in}
use Rattle.grammar.specs.Readers.{read_rule}
use Rattle.grammar.specs.Rules.{Sort, El, deep, Rule, Grammar, token, token_where, absent, sequence, choice, view, node, many, suffixes, suffix, starting, bind, needs, named}
use Rattle.descent.specs.Sets.{behind_open}

err_then : {T A B : Type 0} (o : Result (A × List T) (List T)) (k : A → List T → Result (B × List T) (List T)) (ts : List T) → o ≡ Err ts → and_then o k ≡ Err ts
err_then o k ts h = ap (λ z. and_then z k) h

both : {A : Type 0} (c : Bool) (p q o : A) → p ≡ o → q ≡ o → (if c then p else q) ≡ o
both true p q o h g = h
both false p q o h g = g

else_of : {A : Type 0} (c : Bool) (p q : A) → c ≡ false → (if c then p else q) ≡ q
else_of false p q h = refl
else_of true p q h = let no : ⊥ = cc in absurd no

if_of : {A : Type 0} (c : Bool) (p q : A) → c ≡ true → (if c then p else q) ≡ p
if_of true p q h = refl
if_of false p q h = let no : ⊥ = cc in absurd no

abbrev pub pick : Bool → Type 0 → Type 0 → Type 0
pick true p q = p
pick false p q = q

picked : {A : Type 0} {P Q : Type 0} (b : Bool) (c : Bool) (p q o : A) → c ≡ b → pick b P Q → (P → p ≡ o) → (Q → q ≡ o) → (if c then p else q) ≡ o
picked true c p q o e h f g = if_of c p q e ∙ f h
picked false c p q o e h f g = else_of c p q e ∙ g h

module _ {T N K : Type 0} {sorts : K → Sort} (G : Grammar T N K sorts) (names : ℕ → (k : K) → List T → Result (El T N (sorts k) × List T) (List T)) where
  abbrev read : {s : Sort} → Rule T N K sorts s → List T → Result (El T N s × List T) (List T)
  read r ts = read_rule G names r 0 ts

  -- The rule begins with a node, or with a token of these classes.
  abbrev pub Stops : (ℕ → Bool) → {s : Sort} → Rule T N K sorts s → Type 0
  Stops opens (token f) = (n : ℕ) → opens n ≡ false → f n ≡ false
  Stops opens (absent {s = s} a) = nat_le (deep T G.depth s a) 0 ≡ false
  Stops opens (sequence r q) = Stops opens r
  Stops opens (choice r q) = Stops opens r × Stops opens q
  Stops opens (view f r) = Stops opens r
  Stops opens (node f r) = Unit {0}
  Stops opens (suffixes levels r q f) = Stops opens r
  Stops opens (suffix levels r ok q f) = Stops opens r
  Stops opens (starting g r) = Stops opens r
  Stops opens (bind r null begins goes_on q) = Stops opens r
  Stops opens (needs n r) = nat_le n 0 ≡ false
  Stops opens _ = ⊥

  pub stops : (opens : ℕ → Bool) {s : Sort} (r : Rule T N K sorts s) → Stops opens r → (ts : List T) → next_in (λ t. opens (G.code t)) ts ≡ false → read r ts ≡ Err ts
  stops opens (token f) h [] e = refl
  stops opens (token f) h (t ∷ ts) e = rw (h (G.code t) e) refl
  stops opens (token_where f ok) h ts e = absurd h
  stops opens (absent a) h ts e = else_of _ _ _ h
  stops opens (sequence r q) h ts e = err_then (read r ts) _ ts (stops opens r h ts e)
  stops opens (choice r q) h ts e = both _ _ _ _ (stops opens r h.0 ts e) (stops opens q h.1 ts e)
  stops opens (view f r) h ts e = err_then (read r ts) _ ts (stops opens r h ts e)
  stops opens (node f r) h ts e = refl
  stops opens (many r) h ts e = absurd h
  stops opens (suffixes zero r q f) h ts e = err_then (read r ts) _ ts (stops opens r h ts e)
  stops opens (suffixes (suc n) r q f) h ts e = stops opens r h ts e
  stops opens (suffix zero r ok q f) h ts e = err_then (read r ts) _ ts (stops opens r h ts e)
  stops opens (suffix (suc n) r ok q f) h ts e = stops opens r h ts e
  stops opens (starting g r) h ts e = both _ _ _ _ (stops opens r h ts e) refl
  stops opens (bind r null begins goes_on q) h ts e = err_then (read r ts) _ ts (stops opens r h ts e)
  stops opens (needs n r) h ts e = else_of _ _ _ h
  stops opens (named k) h ts e = absurd h

  -- The rule stops at once, whatever stands next.
  abbrev pub Halts : {s : Sort} → Rule T N K sorts s → Type 0
  Halts (sequence r q) = Halts r
  Halts (named k) = (ts : List T) → names 0 k ts ≡ Err ts
  Halts _ = ⊥

  halts : {s : Sort} (r : Rule T N K sorts s) → Halts r → (ts : List T) → read r ts ≡ Err ts
  halts (sequence r q) h ts = err_then (read r ts) _ ts (halts r h ts)
  halts (named k) h ts = h ts
  halts (token f) h ts = absurd h
  halts (token_where f ok) h ts = absurd h
  halts (absent a) h ts = absurd h
  halts (choice r q) h ts = absurd h
  halts (view f r) h ts = absurd h
  halts (node f r) h ts = absurd h
  halts (many r) h ts = absurd h
  halts (suffixes levels r q f) h ts = absurd h
  halts (suffix levels r ok q f) h ts = absurd h
  halts (starting g r) h ts = absurd h
  halts (bind r null begins goes_on q) h ts = absurd h
  halts (needs n r) h ts = absurd h

  abbrev pub Takes : ℕ → {s : Sort} → Rule T N K sorts s → Type 0
  Takes c (token f) = f c ≡ true
  Takes c _ = ⊥

  -- The rule takes a token of this class, and stops behind it.
  abbrev pub Opens : ℕ → {s : Sort} → Rule T N K sorts s → Type 0
  Opens c (sequence r q) = (Takes c r × Halts q) ⊎ Opens c r
  Opens c (choice r q) = pick (first G r c) (Opens c r) (Opens c q)
  Opens c (view f r) = Opens c r
  Opens c (suffixes levels r q f) = Opens c r
  Opens c (suffix levels r ok q f) = Opens c r
  Opens c _ = ⊥

  taken : (c : ℕ) {s : Sort} (r : Rule T N K sorts s) → Takes c r → (t : T) (ts : List T) → G.code t ≡ c → (x : El T N s) × (read r (t ∷ ts) ≡ Ok (x, ts))
  taken c (token f) h t ts e = (t, rw (ap f e ∙ h) refl)
  taken c (token_where f ok) h t ts e = absurd h
  taken c (absent a) h t ts e = absurd h
  taken c (sequence r q) h t ts e = absurd h
  taken c (choice r q) h t ts e = absurd h
  taken c (view f r) h t ts e = absurd h
  taken c (node f r) h t ts e = absurd h
  taken c (many r) h t ts e = absurd h
  taken c (suffixes levels r q f) h t ts e = absurd h
  taken c (suffix levels r ok q f) h t ts e = absurd h
  taken c (starting g r) h t ts e = absurd h
  taken c (bind r null begins goes_on q) h t ts e = absurd h
  taken c (needs n r) h t ts e = absurd h
  taken c (named k) h t ts e = absurd h

  pub opened : (c : ℕ) {s : Sort} (r : Rule T N K sorts s) → Opens c r → (t : T) (ts : List T) → G.code t ≡ c → read r (t ∷ ts) ≡ Err ts
  opened c (sequence r q) (inl x) t ts e =
      let y = taken c r x.0 t ts e in
      ap (λ o. and_then o (λ a rest. and_then (read q rest) (λ b after. Ok ((a, b), after)))) y.1 ∙ err_then (read q ts) _ ts (halts q x.1 ts)
  opened c (sequence r q) (inr h) t ts e = err_then (read r (t ∷ ts)) _ ts (opened c r h t ts e)
  opened c (choice r q) h t ts e = picked (first G r c) _ _ _ _ (ap (first G r) e) h (λ h. opened c r h t ts e) (λ h. opened c q h t ts e)
  opened c (view f r) h t ts e = err_then (read r (t ∷ ts)) _ ts (opened c r h t ts e)
  opened c (suffixes zero r q f) h t ts e = err_then (read r (t ∷ ts)) _ ts (opened c r h t ts e)
  opened c (suffixes (suc n) r q f) h t ts e = opened c r h t ts e
  opened c (suffix zero r ok q f) h t ts e = err_then (read r (t ∷ ts)) _ ts (opened c r h t ts e)
  opened c (suffix (suc n) r ok q f) h t ts e = opened c r h t ts e
  opened c (token f) h t ts e = absurd h
  opened c (token_where f ok) h t ts e = absurd h
  opened c (absent a) h t ts e = absurd h
  opened c (node f r) h t ts e = absurd h
  opened c (many r) h t ts e = absurd h
  opened c (starting g r) h t ts e = absurd h
  opened c (bind r null begins goes_on q) h t ts e = absurd h
  opened c (needs n r) h t ts e = absurd h
  opened c (named k) h t ts e = absurd h

module _ {T N K : Type 0} {sorts : K → Sort} (G : Grammar T N K sorts) (names : ℕ → (k : K) → List T → Result (El T N (sorts k) × List T) (List T)) where
  pub stopped : (opens : ℕ → Bool) {s : Sort} (r : Rule T N K sorts s) → Stops G names opens r → ((c : ℕ) → opens c ≡ true → Opens G names c r) → (ts : List T) → read_rule G names r 0 ts ≡ Err (behind_open G.code opens ts)
  stopped opens r h g [] = stops G names opens r h [] refl
  stopped opens r h g (t ∷ ts) = by (opens (G.code t)) refl
    where
      by : (b : Bool) → opens (G.code t) ≡ b → read_rule G names r 0 (t ∷ ts) ≡ Err (if b then ts else t ∷ ts)
      by true e = opened G names (G.code t) r (g (G.code t) e) t ts refl
      by false e = stops G names opens r h (t ∷ ts) e
