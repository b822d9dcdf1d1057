-- One token tells how to go on in the small grammar.
use Rattle.std.proofs.Common.{◌∙◌, le_refl, false, ◌≡◌, ℕ, suc, ◌≤◌, ◌<◌, max, true, ◌&&◌, List, [], ◌∷◌, Option, Some, None, inl, inr, refl, sym, ap, subst, arith, true≢false}
use Rattle.std.specs.Prelude.{nat_eq}
use Rattle.grammar.specs.Rules.{deep_if, tree, marked, El, token, named}
use Rattle.grammar.specs.Checks.{Included, nullable, first, continues, GoesOn, Checks, Guarded, Predictive}
use Rattle.grammar.specs.Spelling.{Spells, Derives}
use Rattle.grammar.specs.Productive.{Productive, NoDeadEnds}
use Rattle.grammar.proofs.Lists.{if_false, if_true, or_split, or_left, or_right, and_split, and_both}
use Rattle.grammar.proofs.Classes.{by_class}
use Rattle.grammar.proofs.Depths.{deepest_flat}
use Rattle.grammar.proofs.CommonChecks.{behind_checks, between_checks, separated_checks}
use Rattle.grammar.specs.CommonRules.{class, behind, separated}
use Rattle.grammar.specs.Statements.{is_new, Tree, word, words, not_, equal, when, either, loop, depth, Token, name, if_, else_, until, different, comma, open_, close, open_list, close_list, open_fields, close_fields, code, number, numbers, Name, stmt, expr, fields, sort, next_fields, some_fields, word_list, prim, compared, plain, branches, is_none, is_closed, then_part, parts, branched, conditional, looped, production, begins, statement_goes_on, goes_on, table}
use Rattle.grammar.specs.Statements as small

c_next : (seen : List ℕ) → Checks table (next_fields seen)
c_next seen = (refl, refl, behind_checks table (named (fields seen)) tt (class 5), tt)

c_fields : (seen : List ℕ) → Checks table (some_fields seen)
c_fields seen = (λ x. omega arith, (refl, tt, λ t. (refl, refl, λ h. refl, c_next (number t ∷ seen))))

c_word_list : Checks table word_list
c_word_list = (
  refl,
  refl,
  between_checks table (separated (token (class 0)) (class 5)) (separated_checks table (token (class 0)) tt (class 5) refl) (class 8) (class 9) refl,
  between_checks table (named (fields [])) tt (class 10) (class 11) refl,
)

c_prim : Checks table prim
c_prim = (refl, refl, (λ a. refl, tt), (refl, refl, between_checks table (named expr) tt (class 6) (class 7) refl, (λ a. omega (arith, deepest_flat a), c_word_list)))

c_compared : Checks table compared
c_compared = (refl, refl, refl, refl, λ a b. omega arith, c_prim, (λ x. omega arith, (refl, tt, (refl, c_prim))))

none_deep : (o : Option (Tree × ℕ)) → is_none o ≡ true → deep_if (λ x. depth x.0) o ≡ 0
none_deep None k = refl
none_deep (Some x) k = absurd (true≢false (sym k))

branch_deep : (c a : Tree) (o : Option (Tree × ℕ)) → depth (branched c a o).0 ≡ suc (max (max (depth c) (depth a)) (deep_if (λ x. depth x.0) o))
branch_deep c a None = omega arith
branch_deep c a (Some b) = omega arith

equal_by : (m n : ℕ) → nat_eq m n ≡ true → m ≡ n
equal_by m n h = search (arith, h)

clash : (m t : ℕ) → nat_eq 0 m ≡ true → class 2 t ≡ true → statement_goes_on m t ≡ true → ⊥
clash m t k h g = elim (or_split (class 4 t) (class 2 t && nat_eq 1 m) g) [
  | inl a ↦ omega (arith, equal_by 2 t h, equal_by 4 t a)
  | inr a ↦ omega (arith, equal_by 0 m k, equal_by 1 m ((and_split (class 2 t) (nat_eq 1 m) a).1))
]

-- what goes on behind the last statement in it
then_goes_on : (x : El Token Tree branches) (t : ℕ) → GoesOn table then_part x t → statement_goes_on (x.0.1.1) t ≡ true
then_goes_on x t (a, e, (b, e', inl (inl h))) = subst (λ z. statement_goes_on (z.0.1.1) t ≡ true) (sym e) (subst (λ z. statement_goes_on (z.1.1) t ≡ true) (sym e') h)
then_goes_on x t (a, e, (b, e', inl (inr h))) = absurd (true≢false (sym h.0))
then_goes_on x t (a, e, (b, e', inr h)) = absurd (true≢false (sym h.0))

c_parts : Checks table parts
c_parts = (
  inr (λ x t less k g h. clash (x.0.1.1) t ((and_split (nat_eq 0 (x.0.1.1)) (is_none (x.1)) k).0) h (then_goes_on x t g)),
  refl,
  refl,
  λ x y k. omega (arith, none_deep (x.1) ((and_split (nat_eq 0 (x.0.1.1)) (is_none (x.1)) k).1)),
  (λ x. omega arith, (λ x. omega arith, (refl, tt, (refl, tt, tt)))),
  (λ x. omega arith, (refl, tt, tt)),
)

c_conditional : Checks table conditional
c_conditional = (λ x. branch_deep (x.0.0) (x.0.1.0) (x.1), c_parts)

c_looped : Checks table looped
c_looped = (inr (inl (λ x. omega arith)), (λ x. omega arith, (λ x. omega arith, (refl, tt, (refl, (λ x. omega arith, tt), tt)))))

c_all : (k : Name) → Checks table (production k)
c_all stmt = (refl, refl, (λ x. omega arith, c_compared), (refl, refl, c_conditional, c_looped))
c_all expr = c_compared
c_all (fields seen) = c_fields seen

within : (t : Token) → code t < 12
within (name n) = omega arith
within if_ = omega arith
within else_ = omega arith
within until = omega arith
within different = omega arith
within comma = omega arith
within open_ = omega arith
within close = omega arith
within open_list = omega arith
within close_list = omega arith
within open_fields = omega arith
within close_fields = omega arith

open_after : (m t : ℕ) → statement_goes_on m t ≡ true → statement_goes_on 1 t ≡ true
open_after m t g = elim (or_split (class 4 t) (class 2 t && nat_eq 1 m) g) [
  | inl a ↦ or_left (class 4 t) _ a
  | inr a ↦ or_right (class 4 t) _ (and_both (class 2 t) _ ((and_split (class 2 t) (nat_eq 1 m) a).0) refl)
]

branched_goes_on : (c a : Tree) (m t : ℕ) (o : Option (Tree × ℕ)) → is_none o ≡ true → statement_goes_on m t ≡ true → statement_goes_on ((branched c a o).1) t ≡ true
branched_goes_on c a m t None k g = open_after m t g
branched_goes_on c a m t (Some b) k g = absurd (true≢false (sym k))

last : (n : ℕ) (s : El Token Tree (marked tree)) (t : ℕ) → GoesOn table (behind (class n) (named stmt)) s t → statement_goes_on (s.1) t ≡ true
last n s t (b, e, inl h) = subst (λ z. statement_goes_on (z.1) t ≡ true) (sym e) h
last n s t (b, e, inr h) = absurd (true≢false (sym h.0))

parts_go_on : (y : El Token Tree branches) (t : ℕ) → GoesOn table parts y t → statement_goes_on ((branched (y.0.0) (y.0.1.0) (y.1)).1) t ≡ true
parts_go_on y t (inl g) = branched_goes_on (y.0.0) (y.0.1.0) (y.0.1.1) t (y.1) (ap (λ z. is_none (z.1)) (g.1)) (then_goes_on y t g)
parts_go_on y t (inr (inl (l, s, e, k, g))) = subst (λ z. statement_goes_on ((branched (z.0.0) (z.0.1.0) (z.1)).1) t ≡ true) (sym e) (last 2 s t g)
parts_go_on y t (inr (inr (k, h))) =
    branched_goes_on (y.0.0) (y.0.1.0) 1 t (y.1) ((and_split (nat_eq 0 (y.0.1.1)) (is_none (y.1)) k).1) (or_right (class 4 t) _ (and_both (class 2 t) _ h refl))

bounded : (k : Name) (a : El Token Tree (sort k)) (t : ℕ) → goes_on k a t ≡ true → small.continues k t ≡ true
bounded stmt x t g = elim (or_split (class 4 t) (class 2 t && nat_eq 1 x.1) g) [
  | inl a ↦ or_left (class 4 t) _ a
  | inr a ↦ or_right (class 4 t) _ ((and_split (class 2 t) (nat_eq 1 x.1) a).0)
]
bounded expr x t g = g
bounded (fields seen) x t g = g

by_value : (k : Name) (a : El Token Tree (sort k)) (t : ℕ) → t < 12 → GoesOn table (production k) a t → goes_on k a t ≡ true
by_value stmt x t less (inl (a, e, g)) = or_left (class 4 t) _ (by_class table bounded expr refl a t less g)
by_value stmt x t less (inr (inl (inl (y, e, g)))) = subst (λ z. statement_goes_on (z.1) t ≡ true) (sym e) (parts_go_on y t g)
by_value stmt x t less (inr (inl (inr (inl (y, e, (b, e', inl (inl g))))))) =
    subst (λ z. statement_goes_on (z.1) t ≡ true) (sym e) (subst (λ z. statement_goes_on (z.1.1) t ≡ true) (sym e') g)
by_value stmt x t less (inr (inl (inr (inl (y, e, (b, e', inl (inr g))))))) = absurd (true≢false (sym g.0))
by_value stmt x t less (inr (inl (inr (inl (y, e, (b, e', inr g)))))) = absurd (true≢false (sym g.0))
by_value stmt x t less (inr (inl (inr (inr g)))) = absurd (true≢false (sym g.0))
by_value stmt x t less (inr (inr g)) = absurd (true≢false (sym g.0))
by_value expr x t less g = by_class table bounded expr refl x t less g
by_value (fields seen) x t less g = by_class table bounded (fields seen) refl x t less g

guards : (k : Name) → Guarded table (production k)
guards stmt = ((tt, ((tt, inr refl), tt)), (tt, tt))
guards expr = (tt, ((tt, inr refl), tt))
guards (fields seen) = (tt, inr refl)

pub predictive : Predictive table
predictive = record {
  checks = c_all;
  guarded = guards;
  within = within;
  begins = λ x. elim x as (λ x. Included table (first table (production x)) (table.name_first x)) [ stmt ↦ refl | expr ↦ refl | fields seen ↦ refl ];
  goes_on = λ x. elim x as (λ x. Included table (continues table (production x)) (table.name_continues x)) [ stmt ↦ refl | expr ↦ refl | fields seen ↦ refl ];
  by_value = by_value;
  bounded = bounded;
  empties = λ x. elim x as (λ x. nullable table (production x) ≡ true → table.name_nullable x ≡ true) [ stmt ↦ λ h. h | expr ↦ λ h. h | fields seen ↦ λ h. h ];
}

-- a number above all of them
above : List ℕ → ℕ
above [] = 0
above (n ∷ ns) = max (suc n) (above ns)

new_above : (seen : List ℕ) (m : ℕ) → above seen ≤ m → is_new seen (name m) ≡ true
unfolding above
new_above [] m h = refl
new_above (n ∷ ns) m h = if_false (nat_eq n m) false (is_new ns (name m)) (λ e. let no : ⊥ = omega (arith, h, equal_by n m e) in no) ∙ new_above ns m (omega (arith, h))

some_names : (k : Name) → (p : El Token Tree (sort k)) × (u : List Token) × Spells table k p u
unfolding Derives
some_names stmt = ((word 0, 0), name 0 ∷ [], (1, inl (word 0, refl, (0, inl (name 0, refl, (name 0, refl, refl))))))
some_names expr = (word 0, name 0 ∷ [], (1, (0, inl (name 0, refl, (name 0, refl, refl)))))
some_names (fields seen) =
    let m = above seen in
    let t = name m in
    let new = new_above seen m (le_refl m) in
    (t ∷ [], t ∷ [], (1, ((t, []), refl, (t ∷ [], [], refl, (t, refl, if_true (is_new seen t) (Some t) None new), inr (refl, refl)))))

p_prim : Productive table prim
p_prim = ((name 0, refl), (((open_, refl), (tt, (close, refl))), (((open_list, refl), (((name 0, refl), ((comma, refl), (name 0, refl))), (close_list, refl))), ((open_fields, refl), (tt, (close_fields, refl))))))

p_compared : Productive table compared
p_compared = (p_prim, ((different, refl), (p_prim, (word 0, name 0 ∷ [], refl, inl (name 0, refl, (name 0, refl, refl))))))

productive : (k : Name) → Productive table (production k)
productive stmt = (p_compared, ((((if_, refl), (tt, tt)), ((else_, refl), tt)), ((until, refl), (tt, tt))))
productive expr = p_compared
productive (fields seen) = let m = above seen in ((name m, refl, new_above seen m (le_refl m)), λ t. (((comma, refl), tt), tt))

pub no_dead_ends : NoDeadEnds table
no_dead_ends = record { names = some_names; productions = productive }
