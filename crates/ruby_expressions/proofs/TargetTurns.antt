-- Targets, one after the other.
use Rattle.std.proofs.Common.{◌≡◌, ℕ, suc, ◌≤◌, Bool, true, false, List, [], ◌∷◌, ◌++◌, length, Result, Ok, Err, refl, sym, ap, ◌∙◌, append_assoc, append-nil, arith}
use Rattle.std.specs.Prelude.{if◌then◌else◌}
use Rattle.grammar.specs.Checks.{Checks}
use Rattle.grammar.specs.FormReaders.{and_then, read_token}
use Rattle.grammar.specs.Readers.{read_named, read_rule}
use Rattle.grammar.specs.Spelling.{token_in}
use Rattle.grammar.proofs.RuleReads.{left_of}
use Rattle.grammar.proofs.Stability.{read_named_is}
use Rattle.ruby_meaning.specs.declared.production.Production.TheVariants as p
use Rattle.ruby_meaning.specs.declared.token.Mark.TheVariants as mark
use Rattle.ruby_meaning.specs.declared.tree.Node.{Node}
use Rattle.ruby_meaning.specs.Grammar.Classes.{op}
use Rattle.ruby_meaning.specs.Grammar.Names.{part}
use Rattle.ruby_meaning.specs.Grammar.Seen.{Seen}
use Rattle.ruby_meaning.specs.Grammar.Statements as s
use Rattle.ruby_meaning.specs.Grammar.Table.{table}
use Rattle.ruby_meaning.proofs.Grammar.Checks.{c_targets}
use Rattle.ruby_meaning.proofs.Grammar.TableMeets.{predictive}
use Rattle.ruby_reading.specs.Ahead.{class_code}
use Rattle.ruby_expressions.specs.TargetSteps.{read_plain, read_starred, read_one, read_next, read_targets, set_value, behind_found, sees_comma, sees_star, Several}
use Rattle.ruby_parameters.proofs.Skipped.{one_fewer_taken}

abbrev O : Type 0 → Type 0
O A = Result (A × List Seen) (List Seen)

abbrev with_first : {A B : Type 0} → A → O B → O (A × B)
with_first a m = and_then m (λ c k. Ok ((a, c), k))

abbrev seq : {A B : Type 0} → O A → (List Seen → O B) → O (A × B)
seq o m = and_then o (λ a k. with_first a (m k))

abbrev seen_as : {A B : Type 0} → O A → (A → B) → O B
seen_as o f = and_then o (λ x k. Ok (f x, k))

-- a target before others
abbrev before : Node → Several → Several
before n o = seen_as o (λ x. (n ∷ x.0, x.1))

abbrev joined : Node × (List Node × Node) → List Node × Node
joined x = (x.0 ∷ x.1.0, x.1.1)

first_of_all : (n : Node) (o : Several) → seen_as (with_first n o) joined ≡ before n o
first_of_all n (Ok y) = refl
first_of_all n (Err y) = refl

-- a target and what stands behind it
one_behind : (starred : Bool) (o : O Node) (more : Bool → List Seen → Several)
    → seen_as (seq o (more starred)) joined ≡ and_then {A = Node × Bool} (seen_as {B = Node × Bool} o (λ n. (n, starred))) (λ y k. before y.0 (more y.1 k))
one_behind starred (Ok y) more = first_of_all y.0 (more starred y.1)
one_behind starred (Err y) more = refl

either : {A B : Type 0} (c : Bool) (f : A → List Seen → O B) (x y : O B) (u v : O A) → x ≡ and_then u f → y ≡ and_then v f → (if c then x else y) ≡ and_then (if c then u else v) f
either true f x y u v d e = d
either false f x y u v d e = e

seen_either : {A B : Type 0} (c : Bool) (x y : O A) (f : A → B) → seen_as (if c then x else y) f ≡ (if c then seen_as x f else seen_as y f)
seen_either true x y f = refl
seen_either false x y f = refl

second_of : (t : Seen) (o : Several) → seen_as (with_first t o) (λ x. x.1) ≡ o
second_of t (Ok y) = refl
second_of t (Err y) = refl

-- a comma, and what is read by a turn behind it
behind_comma : {A : Type 0} (o : O Seen) (next : List Seen → Several) (one : List Seen → O A) (go : A → List Seen → Several) → ((k : List Seen) → next k ≡ and_then (one k) go)
    → seen_as (seq o next) (λ x. x.1) ≡ and_then (and_then o (λ t k. one k)) go
behind_comma (Ok y) next one go h = second_of y.0 (next y.1) ∙ h y.1
behind_comma (Err y) next one go h = refl

module _ (r : Bool) (b : ℕ) where
  abbrev More : Bool → List Seen → Several
  More starred ts = read_rule table (read_named table) (s.more_targets r starred) b ts

  abbrev Behind : Bool → List Seen → Several
  Behind starred ts = read_rule table (read_named table) (s.behind_target r starred) b ts

  abbrev Target : List Seen → O Node
  Target ts = read_rule table (read_named table) (s.target r) b ts

  abbrev Starred : List Seen → O Node
  Starred ts = read_rule table (read_named table) (s.star_target r) b ts

  abbrev Comma : List Seen → O Seen
  Comma ts = read_token (token_in class_code (op mark.Comma)) ts

  -- a target and what stands behind it
  abbrev go : Node × Bool → List Seen → Several
  go y k = before y.0 (Behind y.1 k)

  abbrev Next : Bool → List Seen → O (Node × (List Node × Node))
  Next starred ts = read_rule table (read_named table) (s.next_target r starred) b ts

  next_turn : (starred : Bool) (ts : List Seen) → seen_as (Next starred ts) joined ≡ and_then (read_one r b starred ts) go
  unfolding table s.next_target s.star_target
  next_turn true ts = seen_either (sees_star ts) (seq (Starred ts) (Behind false)) (seq (Target ts) (Behind true)) joined
      ∙ either (sees_star ts) go _ _ (read_starred r b ts) (read_plain r b true ts) (one_behind false (Starred ts) Behind) (one_behind true (Target ts) Behind)
  next_turn false ts = one_behind false (Target ts) Behind

  pub turn : (starred : Bool) (ts : List Seen) → More starred ts ≡ and_then (read_next r b starred ts) go
  unfolding table s.more_targets
  turn starred ts = behind_comma (Comma ts) (λ k. seen_as (Next starred k) joined) (read_one r b starred) go (next_turn starred)

  pub named_turn : (starred : Bool) (ts : List Seen) → read_targets r b starred ts ≡ More starred ts
  unfolding table
  named_turn starred ts = read_named_is table predictive b (part (p.MoreTargets starred) true r) ts

  -- ---- those found before

  found_again : (seen : List Node) (n : Node) (o : Several) → behind_found seen (before n o) ≡ behind_found (seen ++ n ∷ []) o
  found_again seen n (Ok y) = ap (λ z. Ok ((z, y.0.1), y.1)) (sym (append_assoc seen (n ∷ []) y.0.0))
  found_again seen n (Err y) = refl

  turned : (total : Several) (seen : List Node) (starred : Bool) (ts k : List Seen) (y : Node × Bool) → total ≡ behind_found seen (More starred ts) → read_next r b starred ts ≡ Ok (y, k)
      → total ≡ behind_found (seen ++ y.0 ∷ []) (Behind y.1 k)
  turned total seen starred ts k y whole e = whole ∙ ap (behind_found seen) (turn starred ts ∙ ap (λ o. and_then o go) e) ∙ found_again seen y.0 (Behind y.1 k)

  if_true : {A : Type 0} (c : Bool) (x y : A) → c ≡ true → (if c then x else y) ≡ x
  if_true true x y h = refl
  if_true false x y h = cc

  if_false : {A : Type 0} (c : Bool) (x y : A) → c ≡ false → (if c then x else y) ≡ y
  if_false false x y h = refl
  if_false true x y h = cc

  abbrev Value : List Seen → O Node
  Value ts = read_rule table (read_named table) (set_value r) b ts

  more_behind : (starred : Bool) (ts : List Seen) → sees_comma ts ≡ true → Behind starred ts ≡ More starred ts
  unfolding table s.behind_target
  more_behind starred ts h = if_true (sees_comma ts) _ _ h ∙ named_turn starred ts

  value_behind : (starred : Bool) (ts : List Seen) → sees_comma ts ≡ false → Behind starred ts ≡ seen_as {B = List Node × Node} (Value ts) (λ n. ([], n))
  unfolding table s.behind_target
  value_behind starred ts h = if_false (sees_comma ts) _ _ h

  last_value : (seen : List Node) (n : Node) (k : List Seen) → behind_found seen (Ok (([], n), k)) ≡ Ok ((seen, n), k)
  last_value seen n k = ap (λ z. Ok ((z, n), k)) (append-nil seen)

  pub one_more : (total : Several) (seen : List Node) (starred : Bool) (ts k : List Seen) (y : Node × Bool) → total ≡ behind_found seen (More starred ts) → read_next r b starred ts ≡ Ok (y, k)
      → sees_comma k ≡ true → total ≡ behind_found (seen ++ y.0 ∷ []) (More y.1 k)
  one_more total seen starred ts k y whole e h = turned total seen starred ts k y whole e ∙ ap (behind_found (seen ++ y.0 ∷ [])) (more_behind y.1 k h)

  pub last_one : (total : Several) (seen : List Node) (starred : Bool) (ts k : List Seen) (y : Node × Bool) (n : Node) (j : List Seen) → total ≡ behind_found seen (More starred ts) → read_next r b starred ts ≡ Ok (y, k)
      → sees_comma k ≡ false → Value k ≡ Ok (n, j) → total ≡ Ok ((seen ++ y.0 ∷ [], n), j)
  last_one total seen starred ts k y n j whole e h v = turned total seen starred ts k y whole e
      ∙ ap (behind_found (seen ++ y.0 ∷ [])) (value_behind y.1 k h ∙ ap (λ o. seen_as {B = List Node × Node} o (λ n. ([], n))) v) ∙ last_value (seen ++ y.0 ∷ []) n j

  pub value_refused : (total : Several) (seen : List Node) (starred : Bool) (ts k : List Seen) (y : Node × Bool) (j : List Seen) → total ≡ behind_found seen (More starred ts) → read_next r b starred ts ≡ Ok (y, k)
      → sees_comma k ≡ false → Value k ≡ Err j → total ≡ Err j
  value_refused total seen starred ts k y j whole e h v = turned total seen starred ts k y whole e ∙ ap (behind_found (seen ++ y.0 ∷ [])) (value_behind y.1 k h ∙ ap (λ o. seen_as {B = List Node × Node} o (λ n. ([], n))) v)

  pub next_refused : (total : Several) (seen : List Node) (starred : Bool) (ts k : List Seen) → total ≡ behind_found seen (More starred ts) → read_next r b starred ts ≡ Err k → total ≡ Err k
  next_refused total seen starred ts k whole e = whole ∙ ap (behind_found seen) (turn starred ts ∙ ap (λ o. and_then o go) e)

  pub at_end : (total : Several) (seen : List Node) (starred : Bool) (ts : List Seen) → total ≡ behind_found seen (More starred ts) → length ts ≤ 0 → total ≡ Err ts
  at_end total seen starred [] whole h = next_refused total seen starred [] [] whole refl
  at_end total seen starred (t ∷ ts) whole h = absurd (omega (arith, h))

  pub at_first : (found : List Node) (n : Node) (starred : Bool) (ts : List Seen) → found ≡ n ∷ [] → behind_found (n ∷ []) (read_targets r b starred ts) ≡ behind_found found (More starred ts)
  at_first found n starred ts e = ap (behind_found (n ∷ [])) (named_turn starred ts) ∙ ap (λ l. behind_found l (More starred ts)) (sym e)

  -- ---- with a target there are fewer tokens left

  checks_target : Checks table (s.target r)
  unfolding s.more_targets s.next_target
  checks_target = (c_targets r false).1.2.1.1

  checks_star : Checks table (s.star_target r)
  unfolding s.more_targets s.next_target
  checks_star = (c_targets r true).1.2.1.2.1

  abbrev Short : {A : Type 0} → ℕ → O A → Type 0
  Short {A} n o = (a : A) (k : List Seen) → o ≡ Ok (a, k) → length k ≤ n

  short_view : {A B : Type 0} (o : O A) (f : A → B) (n : ℕ) → Short n o → Short n (seen_as o f)
  short_view {A} {B} (Ok y) f n h a k e =
      let m = h y.0 y.1 refl in
      let d : ◌≡◌ {A = B × List Seen} (f y.0, y.1) (a, k) = cc in
      let l : length y.1 ≡ length k = ap (λ z. length z.1) d in
      omega (arith, m, l)
  short_view (Err y) f n h a k e = cc

  short_if : {A : Type 0} (c : Bool) (x y : O A) (n : ℕ) → Short n x → Short n y → Short n (if c then x else y)
  short_if true x y n h w = h
  short_if false x y n h w = w

  short_plain : (starred : Bool) (ts : List Seen) → Short (length ts) (read_plain r b starred ts)
  short_plain starred ts = short_view {B = Node × Bool} (Target ts) (λ n. (n, starred)) (length ts) (left_of table predictive (s.target r) checks_target b ts)

  short_one : (starred : Bool) (ts : List Seen) → Short (length ts) (read_one r b starred ts)
  short_one true ts = short_if (sees_star ts) (read_starred r b ts) (read_plain r b true ts) (length ts)
      (short_view {B = Node × Bool} (Starred ts) (λ n. (n, false)) (length ts) (left_of table predictive (s.star_target r) checks_star b ts)) (short_plain true ts)
  short_one false ts = short_plain false ts

  pub next_left : (starred : Bool) (ts k : List Seen) (y : Node × Bool) → read_next r b starred ts ≡ Ok (y, k) → suc (length k) ≤ length ts
  next_left starred ts k y e = by (Comma ts) refl e
    where
      by : (o : O Seen) → Comma ts ≡ o → and_then o (λ t j. read_one r b starred j) ≡ Ok (y, k) → suc (length k) ≤ length ts
      by (Ok z) c e = let l = one_fewer_taken (op mark.Comma) ts z.1 z.0 c in let m = short_one starred z.1 y k e in omega (arith, l, m)
      by (Err z) c e = cc
