-- Where a loop over the parts behind a value ends.
use Rattle.std.proofs.Common.{arith, ◌≡◌, ℕ, suc, Bool, true, false, ◌&&◌, List, [], Result, Ok, Err, refl, ap, ◌∙◌}
use Rattle.std.specs.Prelude.{if◌then◌else◌, nat_le, max}
use Rattle.grammar.specs.FormReaders.{next_in, and_then, read_many, read_many_from, read_more_suffixes}
use Rattle.grammar.proofs.Loops.{read_many_from_is}

both_false : (c d : Bool) → d ≡ false → (c && d) ≡ false
both_false true d e = e
both_false false d e = refl

module _ {T A S : Type 0} (first : T → Bool) (fits : A → Bool) (f : A → S → A) (q : List T → Result (S × List T) (List T)) (n : ℕ) (l : A) (ts : List T) where
  abbrev goes_on : Result (A × List T) (List T)
  goes_on = and_then (q ts) (λ s rest. read_more_suffixes first fits f q n (f l s) rest)

  -- no part begins there
  pub none_begins : next_in first ts ≡ false → read_more_suffixes first fits f q (suc n) l ts ≡ Ok (l, ts)
  none_begins e = ap (λ c. if c && fits l then goes_on else Ok (l, ts)) e

  -- the value has no room for one
  pub none_fits : fits l ≡ false → read_more_suffixes first fits f q (suc n) l ts ≡ Ok (l, ts)
  none_fits e = ap (λ c. if c then goes_on else Ok (l, ts)) (both_false (next_in first ts) (fits l) e)

pub keep : {T A : Type 0} (o : Result (A × List T) (List T)) → and_then o (λ ys r. Ok (ys, r)) ≡ o
keep (Ok y) = refl
keep (Err y) = refl

-- any number of parts, from none on
pub many_is : {T A : Type 0} (first : T → Bool) (p : List T → Result (A × List T) (List T)) (n : ℕ) (ts : List T) → read_many_from first p n [] ts ≡ read_many first p n ts
many_is first p n ts = read_many_from_is first p n [] ts ∙ keep (read_many first p n ts)

-- the test and the statement of an `if` are within some levels
pub most_fits : (a b n : ℕ) → nat_le (max (max a (b)) 0) n ≡ (nat_le a n && nat_le b n)
most_fits a b n = search (arith)
