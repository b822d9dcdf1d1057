-- Parameters, one after the other.
use Rattle.std.proofs.Common.{◌≡◌, ℕ, Bool, true, false, List, [], ◌∷◌, Option, Some, None, Result, Ok, Err, refl, sym, ap, ◌∙◌, arith}
use Rattle.std.specs.Prelude.{if◌then◌else◌, nat_le}
use Rattle.grammar.specs.CommonRules.{maybe}
use Rattle.grammar.specs.FormReaders.{and_then, next_in, read_token}
use Rattle.grammar.specs.Readers.{read_named, read_rule}
use Rattle.grammar.proofs.Stability.{read_named_is}
use Rattle.grammar.specs.Rules.{token}
use Rattle.grammar.specs.Spelling.{token_in}
use Rattle.std.proofs.lemmas.Bool.Decides.{nat_tests}
use Rattle.ruby_meaning.specs.declared.production.Production.TheVariants as p
use Rattle.ruby_meaning.specs.declared.production.Sign.TheVariants as sign
use Rattle.ruby_meaning.specs.declared.production.Stage.{Stage}
use Rattle.ruby_meaning.specs.declared.production.Stage.TheVariants as stage
use Rattle.ruby_meaning.specs.declared.token.Mark.TheVariants as mark
use Rattle.ruby_meaning.specs.declared.tree.Node.{Node}
use Rattle.ruby_meaning.specs.Grammar.Actions as act
use Rattle.ruby_meaning.specs.Grammar.Classes.{a, op}
use Rattle.ruby_meaning.specs.Grammar.Names.{part}
use Rattle.ruby_reading.specs.Ahead.{class_code}
use Rattle.ruby_meaning.specs.Grammar.Parameters as g
use Rattle.ruby_meaning.specs.Grammar.Seen.{Seen}
use Rattle.ruby_meaning.specs.Grammar.Table.{table}
use Rattle.ruby_meaning.proofs.Grammar.TableMeets.{predictive}
use Rattle.ruby_parameters.specs.Parameters.{Single, slot, default, rest, block, Singles, read_name, read_brackets, read_star, read_block, read_sign, read_simple, read_single, read_more, go_on, sees_op, argument_behind, ampersand}

abbrev O : Type 0 → Type 0
O A = Result (A × List Seen) (List Seen)

abbrev with_first : {A B : Type 0} → A → O B → O (A × B)
with_first a m = and_then m (λ c k. Ok ((a, c), k))

abbrev seq : {A B : Type 0} → O A → (List Seen → O B) → O (A × B)
seq o m = and_then o (λ a k. with_first a (m k))

abbrev seen_as : {A B : Type 0} → O A → (A → B) → O B
seen_as o f = and_then o (λ x k. Ok (f x, k))

-- a part and what stands behind it
both_behind : {A B C D : Type 0} (o : O A) (more : List Seen → O B) (f : A → B → C) (y : A → D) (go : D → List Seen → O C)
    → ((a : A) (k : List Seen) → go (y a) k ≡ seen_as (more k) (f a))
    → seen_as (seq o more) (λ x. f x.0 x.1) ≡ and_then (seen_as o y) go
both_behind {A} {B} {C} (Ok z) more f y go h = by (more z.1) ∙ sym (h z.0 z.1)
  where
    by : (m : O B) → seen_as (with_first z.0 m) (λ x. f x.0 x.1) ≡ seen_as m (f z.0)
    by (Ok w) = refl
    by (Err w) = refl
both_behind (Err z) more f y go h = refl

-- a name, and a default and parameters behind it
name_behind : (s : Stage) (o : O Seen) (n : List Seen → O (Option Node × act.Parameters)) (v : Seen → List Seen → Singles) (go : Single → List Seen → O act.Parameters)
    → ((t : Seen) (k : List Seen) → seen_as (n k) (λ c. act.with_name s t c.0 c.1) ≡ and_then (v t k) go)
    → seen_as (seq o n) (λ x. act.with_name s x.0 (x.1.0) (x.1.1)) ≡ and_then (and_then o v) go
name_behind s (Ok z) n v go h = by (n z.1) ∙ h z.0 z.1
  where
    by : (m : O (Option Node × act.Parameters)) → seen_as (with_first z.0 m) (λ x. act.with_name s x.0 (x.1.0) (x.1.1)) ≡ seen_as m (λ c. act.with_name s z.0 c.0 c.1)
    by (Ok w) = refl
    by (Err w) = refl
name_behind s (Err z) n v go h = refl

star_last : (t : Seen) (x : Option Seen) (m : O act.Parameters) → seen_as (with_first t (with_first x m)) (λ x. act.with_rest (x.1.0) (x.1.1)) ≡ seen_as m (act.with_rest x)
star_last t x (Ok w) = refl
star_last t x (Err w) = refl

star_name : (t : Seen) (m : O (Option Seen)) (more : List Seen → O act.Parameters) (go : Single → List Seen → O act.Parameters)
    → ((x : Option Seen) (k : List Seen) → go (rest x) k ≡ seen_as (more k) (act.with_rest x))
    → seen_as (with_first t (seq m more)) (λ x. act.with_rest (x.1.0) (x.1.1)) ≡ and_then (seen_as (seen_as (with_first t m) (λ x. x.1)) (λ x. rest x)) go
star_name t (Ok w) more go h = star_last t w.0 (more w.1) ∙ sym (h w.0 w.1)
star_name t (Err w) more go h = refl

star_behind : (o : O Seen) (name : List Seen → O (Option Seen)) (more : List Seen → O act.Parameters) (go : Single → List Seen → O act.Parameters)
    → ((x : Option Seen) (k : List Seen) → go (rest x) k ≡ seen_as (more k) (act.with_rest x))
    → seen_as (seq o (λ k. seq (name k) more)) (λ x. act.with_rest (x.1.0) (x.1.1)) ≡ and_then (seen_as (seen_as (seq o name) (λ x. x.1)) (λ x. rest x)) go
star_behind (Err z) name more go h = refl
star_behind (Ok z) name more go h = star_name z.0 (name z.1) more go h

block_behind : (o : O Seen) (go : Single → List Seen → O act.Parameters) → ((t : Seen) (k : List Seen) → go (block t) k ≡ Ok (act.block_name t, k))
    → and_then o (λ t k. Ok (act.block_name t, k)) ≡ and_then (and_then o (λ t k. Ok (block t, k))) go
block_behind (Ok z) go h = sym (h z.0 z.1)
block_behind (Err z) go h = refl

either : {A B : Type 0} (c : Bool) (x y : O B) (u v : O A) (go : A → List Seen → O B) → x ≡ and_then u go → y ≡ and_then v go → (if c then x else y) ≡ and_then (if c then u else v) go
either true x y u v go e f = e
either false x y u v go e f = f

module _ (r brackets : Bool) (b : ℕ) where
  abbrev More : Stage → List Seen → O act.Parameters
  More s ts = read_more r brackets b s ts

  abbrev Go : Stage → Single → List Seen → O act.Parameters
  Go s y ts = go_on r brackets b s y ts

  turn_brackets : (s : Stage) (ts : List Seen) → read_rule table (read_named table) (g.bracketed_parameter r brackets s) b ts ≡ and_then (read_brackets b ts) (Go s)
  unfolding g.bracketed_parameter
  turn_brackets s ts = both_behind (read_rule table (read_named table) g.bracketed_names b ts) (More (g.behind_plain s)) (λ names x. act.with_slot s names x) (λ names. slot names) (Go s) (λ names k. refl)

  -- with a default or none
  with_default : (s : Stage) (t : Seen) (n : Node) (m : O act.Parameters) → seen_as (with_first (Some n) m) (λ x. act.with_name s t x.0 x.1) ≡ seen_as m (act.with_name s t (Some n))
  with_default s t n (Ok v) = refl
  with_default s t n (Err v) = refl

  without : (s : Stage) (t : Seen) (m : O act.Parameters) → seen_as (seen_as {B = Option Node × act.Parameters} m (λ x. (None, x))) (λ x. act.with_name s t x.0 x.1) ≡ seen_as m (act.with_slot s (t ∷ []))
  without s t (Ok v) = refl
  without s t (Err v) = refl

  valued : (s : Stage) (c : Bool) (e : O Node) (t : Seen) (k : List Seen)
      → seen_as (if c then seq (seen_as e (λ n. Some n)) (More stage.Optional) else seen_as {B = Option Node × act.Parameters} (More (g.behind_plain s) k) (λ x. (None, x))) (λ x. act.with_name s t x.0 x.1)
      ≡ and_then (if c then seen_as e (λ n. default t n) else Ok (slot (t ∷ []), k)) (Go s)
  valued s true (Ok w) t k = with_default s t w.0 (More stage.Optional w.1)
  valued s true (Err w) t k = refl
  valued s false e t k = without s t (More (g.behind_plain s) k)

  turn_name : (s : Stage) (ts : List Seen) → read_rule table (read_named table) (g.named_parameter r brackets s) b ts ≡ and_then (read_name r b s ts) (Go s)
  unfolding table g.named_parameter g.behind_name g.default_value g.no_default
  turn_name stage.Plain ts = name_behind stage.Plain (read_rule table (read_named table) g.parameter_name b ts) _ _ (Go stage.Plain) (λ t k. valued stage.Plain (sees_op mark.Assign k) (read_rule table (read_named table) (argument_behind r) b k) t k)
  turn_name stage.Optional ts = name_behind stage.Optional (read_rule table (read_named table) g.parameter_name b ts) _ _ (Go stage.Optional) (λ t k. valued stage.Optional (sees_op mark.Assign k) (read_rule table (read_named table) (argument_behind r) b k) t k)
  turn_name stage.Rest ts = name_behind stage.Rest (read_rule table (read_named table) g.parameter_name b ts) _ _ (Go stage.Rest) (λ t k. valued stage.Rest false (Err k) t k)
  turn_name stage.After ts = name_behind stage.After (read_rule table (read_named table) g.parameter_name b ts) _ _ (Go stage.After) (λ t k. valued stage.After false (Err k) t k)

  turn_star : (s : Stage) (ts : List Seen) → read_rule table (read_named table) (g.rest_parameter r brackets) b ts ≡ and_then (read_star b ts) (Go s)
  unfolding table g.rest_parameter
  turn_star s ts = star_behind (read_rule table (read_named table) (token (op mark.Star)) b ts) (λ k. read_rule table (read_named table) (maybe g.parameter_name) b k) (More stage.Rest) (Go s) (λ x k. refl)

  turn_block : (s : Stage) (ts : List Seen) → read_rule table (read_named table) (g.block_parameter r brackets) b ts ≡ and_then (read_block b ts) (Go s)
  unfolding g.block_parameter
  turn_block s ts = block_behind (read_rule table (read_named table) ampersand b ts) (Go s) (λ t k. refl)

  turn_sign : (s : Stage) (ts : List Seen) → read_rule table (read_named table) (g.sign_parameter r brackets s) b ts ≡ and_then (read_sign b s ts) (Go s)
  unfolding table g.sign_parameter g.rest_parameter
  turn_sign stage.Plain ts = either (sees_op mark.Star ts) _ _ (read_star b ts) (read_block b ts) (Go stage.Plain) (turn_star stage.Plain ts) (turn_block stage.Plain ts)
  turn_sign stage.Optional ts = either (sees_op mark.Star ts) _ _ (read_star b ts) (read_block b ts) (Go stage.Optional) (turn_star stage.Optional ts) (turn_block stage.Optional ts)
  turn_sign stage.Rest ts = turn_block stage.Rest ts
  turn_sign stage.After ts = turn_block stage.After ts

  turn_simple : (s : Stage) (ts : List Seen) → read_rule table (read_named table) (g.simple_parameters r brackets s) b ts ≡ and_then (read_simple r b s ts) (Go s)
  unfolding table g.simple_parameters g.named_parameter g.parameter_name
  turn_simple s ts = either (next_in (λ t. a sign.Name (class_code t)) ts) _ _ (read_name r b s ts) (read_sign b s ts) (Go s) (turn_name s ts) (turn_sign s ts)

pub turn : (r brackets : Bool) (b : ℕ) (s : Stage) (ts : List Seen) → read_rule table (read_named table) (g.parameters r brackets s) b ts ≡ and_then (read_single r brackets b s ts) (go_on r brackets b s)
unfolding table g.parameters g.bracketed_parameter g.bracketed_names
turn r true b s ts = either (sees_op mark.ParenOpen ts) _ _ (read_brackets b ts) (read_simple r b s ts) (go_on r true b s) (turn_brackets r true b s ts) (turn_simple r true b s ts)
turn r false b s ts = turn_simple r false b s ts

named_turn : (r brackets : Bool) (b : ℕ) (s : Stage) (ts : List Seen) → read_named table b (part (p.Parameters s brackets) true r) ts ≡ read_rule table (read_named table) (g.parameters r brackets s) b ts
unfolding table
named_turn r brackets b s ts = read_named_is table predictive b (part (p.Parameters s brackets) true r) ts

-- the first one
pub first_named : (r brackets : Bool) (b : ℕ) (ts : List Seen) → read_named table b (part (p.Parameters stage.Plain brackets) true r) ts ≡ read_rule table (read_named table) (g.parameters r brackets stage.Plain) b ts
first_named r brackets b ts = named_turn r brackets b stage.Plain ts

first_dropped : (t : Seen) (m : O act.Parameters) → seen_as (with_first t m) (λ x. x.1) ≡ m
first_dropped t (Ok v) = refl
first_dropped t (Err v) = refl

behind_comma : (o : O Seen) (n : List Seen → O act.Parameters) (t : Seen) (k : List Seen) → o ≡ Ok (t, k) → seen_as (seq o n) (λ x. x.1) ≡ n k
behind_comma o n t k e = ap (λ z. seen_as (seq z n) (λ x. x.1)) e ∙ first_dropped t (n k)

first_if : {A : Type 0} (c : Bool) (x y : A) → c ≡ true → (if c then x else y) ≡ x
first_if true x y e = refl
first_if false x y e = cc

second_if : {A : Type 0} (c d : Bool) (x y z : A) → c ≡ false → d ≡ true → (if c then x else (if d then y else z)) ≡ y
second_if false true x y z e f = refl
second_if true d x y z e f = cc
second_if c false x y z e f = cc

fits_any : (n : ℕ) → nat_le 0 n ≡ true
fits_any n = grind (arith, nat_tests)

pub more_behind : (r brackets : Bool) (b : ℕ) (s : Stage) (ts : List Seen) (t : Seen) (k : List Seen) → sees_op mark.Comma ts ≡ true → read_token (token_in class_code (op mark.Comma)) ts ≡ Ok (t, k)
    → read_more r brackets b s ts ≡ read_rule table (read_named table) (g.parameters r brackets s) b k
unfolding table g.more_parameters
more_behind r brackets b s ts t k c e = first_if (sees_op mark.Comma ts) _ _ c ∙ behind_comma (read_token (token_in class_code (op mark.Comma)) ts) (λ j. read_named table b (part (p.Parameters s brackets) true r) j) t k e ∙ named_turn r brackets b s k

refused_comma : (o : O Seen) (n : List Seen → O act.Parameters) (k : List Seen) → o ≡ Err k → seen_as (seq o n) (λ x. x.1) ≡ Err k
refused_comma o n k e = ap (λ z. seen_as (seq z n) (λ x. x.1)) e

pub more_refused : (r brackets : Bool) (b : ℕ) (s : Stage) (ts k : List Seen) → sees_op mark.Comma ts ≡ true → read_token (token_in class_code (op mark.Comma)) ts ≡ Err k
    → read_more r brackets b s ts ≡ Err k
unfolding table g.more_parameters
more_refused r brackets b s ts k c e = first_if (sees_op mark.Comma ts) _ _ c ∙ refused_comma (read_token (token_in class_code (op mark.Comma)) ts) (λ j. read_named table b (part (p.Parameters s brackets) true r) j) k e

pub none_behind : (r brackets : Bool) (b : ℕ) (s : Stage) (ts : List Seen) → sees_op mark.Comma ts ≡ false → read_more r brackets b s ts ≡ Ok (act.no_parameters, ts)
unfolding table g.more_parameters
none_behind r brackets b s ts c = second_if (sees_op mark.Comma ts) (nat_le 0 b) _ _ _ c (fits_any b)
