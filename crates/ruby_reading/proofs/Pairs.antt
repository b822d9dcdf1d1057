-- Pairs as two lists.
use Rattle.std.proofs.Common.{◌≡◌, ◌&&◌, List, [], ◌∷◌, ◌++◌, Option, Some, None, length, refl, ap, arith}
use Rattle.ruby_meaning.specs.declared.tree.Node.{Node}
use Rattle.ruby_meaning.specs.Grammar.Actions as act
use Rattle.std.specs.Prelude.{not}
use Rattle.ruby_reading.specs.Nodes.{is_none, has_items, has_one, first_span, hash_at}
use Rattle.ruby_reading.specs.Nodes.{is_no_args}
use Rattle.ruby_reading.specs.Shown.{pairs_of}

pub pairs_append : (ks vs more other : List Node) → length ks ≡ length vs → pairs_of (ks ++ more) (vs ++ other) ≡ pairs_of ks vs ++ pairs_of more other
pairs_append [] [] more other h = refl
pairs_append [] (v ∷ vs) more other h = let no : ⊥ = omega (arith, h) in absurd no
pairs_append (k ∷ ks) [] more other h = let no : ⊥ = omega (arith, h) in absurd no
pairs_append (k ∷ ks) (v ∷ vs) more other h = ap (λ l. act.key_held k v ∷ l) (pairs_append ks vs more other (omega (arith, h)))

pub keys_of : (ks vs : List Node) → length ks ≡ length vs → act.keys (pairs_of ks vs) ≡ ks
keys_of [] [] h = refl
keys_of [] (v ∷ vs) h = let no : ⊥ = omega (arith, h) in absurd no
keys_of (k ∷ ks) [] h = let no : ⊥ = omega (arith, h) in absurd no
keys_of (k ∷ ks) (v ∷ vs) h = ap (λ l. k ∷ l) (keys_of ks vs (omega (arith, h)))

pub values_of : (ks vs : List Node) → length ks ≡ length vs → act.values (pairs_of ks vs) ≡ vs
values_of [] [] h = refl
values_of [] (v ∷ vs) h = let no : ⊥ = omega (arith, h) in absurd no
values_of (k ∷ ks) [] h = let no : ⊥ = omega (arith, h) in absurd no
values_of (k ∷ ks) (v ∷ vs) h = ap (λ l. v ∷ l) (values_of ks vs (omega (arith, h)))

pub has_pair_is : (items ks vs : List Node) (block : Option Node) → length ks ≡ length vs → act.has_pair (items, (pairs_of ks vs, block)) ≡ (has_items ks && is_none block)
has_pair_is items [] [] block h = refl
has_pair_is items [] (v ∷ vs) block h = let no : ⊥ = omega (arith, h) in absurd no
has_pair_is items (k ∷ ks) [] block h = let no : ⊥ = omega (arith, h) in absurd no
has_pair_is items (k ∷ ks) (v ∷ vs) (Some n) h = refl
has_pair_is items (k ∷ ks) (v ∷ vs) None h = refl

pub is_single_is : (items ks vs : List Node) (block : Option Node) → length ks ≡ length vs → act.is_single (items, (pairs_of ks vs, block)) ≡ (has_one items && (not (has_items ks) && is_none block))
is_single_is [] ks vs block h = refl
is_single_is (n ∷ m ∷ ns) ks vs block h = refl
is_single_is (n ∷ []) [] [] (Some b) h = refl
is_single_is (n ∷ []) [] [] None h = refl
is_single_is (n ∷ []) [] (v ∷ vs) block h = let no : ⊥ = omega (arith, h) in absurd no
is_single_is (n ∷ []) (k ∷ ks) [] block h = let no : ⊥ = omega (arith, h) in absurd no
is_single_is (n ∷ []) (k ∷ ks) (v ∷ vs) block h = refl

pub hash_is : (ks vs : List Node) → length ks ≡ length vs → act.hash (pairs_of ks vs) ≡ hash_at (first_span ks) ks vs
hash_is [] [] h = refl
hash_is [] (v ∷ vs) h = let no : ⊥ = omega (arith, h) in absurd no
hash_is (k ∷ ks) [] h = let no : ⊥ = omega (arith, h) in absurd no
hash_is (k ∷ ks) (v ∷ vs) h =
    let same : length ks ≡ length vs = omega (arith, h) in
    cc (keys_of ks vs same, values_of ks vs same)

pub is_empty_is : (items ks vs : List Node) (block : Option Node) → length ks ≡ length vs → is_no_args (items, (pairs_of ks vs, block)) ≡ (not (has_items items) && (not (has_items ks) && is_none block))
is_empty_is (n ∷ ns) ks vs block h = refl
is_empty_is [] [] [] (Some b) h = refl
is_empty_is [] [] [] None h = refl
is_empty_is [] [] (v ∷ vs) block h = let no : ⊥ = omega (arith, h) in absurd no
is_empty_is [] (k ∷ ks) [] block h = let no : ⊥ = omega (arith, h) in absurd no
is_empty_is [] (k ∷ ks) (v ∷ vs) block h = refl
