-- The step of the loop over the defaults of parameters.
use Rattle.std.proofs.Common.{◌≡◌, ℕ, ◌+◌, ◌<◌, ◌≤◌, List, [], ◌∷◌, ◌++◌, length, get_or, drop, map, None, refl, sym, ap, ◌∙◌, arith, suc, drop-cons, drop_of_length-le}
use Rattle.std.proofs.lemmas.List.{append_assoc}
use Rattle.opal_base.specs.declared.place.Pos.{Pos}
use Rattle.ruby_meaning.specs.declared.scope.Around.{Around}
use Rattle.ruby_meaning.specs.declared.scope.Seen.{Seen}
use Rattle.ruby_meaning.specs.declared.tree.Node.{Node}
use Rattle.ruby_meaning.specs.Scoping.Names.{Name}
use Rattle.ruby_meaning.specs.Scoping.Seen.{parameter}
use Rattle.ruby_meaning.specs.Scoping.Walk.{Walked, part, defaults_in_turn}

one_more : (i : ℕ) → suc i ≡ i + 1
one_more i = omega arith

pub at_step : {A : Type 0} (xs : List A) (i : ℕ) (x : A) → i < length xs → x ≡ get_or xs i x → drop i xs ≡ x ∷ drop (i + 1) xs
at_step xs i x h e = drop-cons xs i x h ∙ (ap (λ y. y ∷ drop (suc i) xs) (sym e) ∙ ap (λ n. x ∷ drop n xs) (one_more i))

pub past_end : {A : Type 0} (xs : List A) (i : ℕ) → length xs ≤ i → drop i xs ≡ []
past_end xs i h = drop_of_length-le xs h

abbrev pub rest : Pos → Around → List Name → List Node → Seen → Walked (List Node)
rest mark c ns xs s = defaults_in_turn mark ns (map (part None) xs) c s

-- a default whose parameter comes before it
pub named_seen : (mark : Pos) (c : Around) (ns ys : List Name) (name : Name) (xs zs : List Node) (x : Node) (s u t : Seen)
    → ns ≡ name ∷ ys → xs ≡ x ∷ zs → u ≡ parameter mark name s → t ≡ ((part None x).walk c u).seen
    → (rest mark c ys zs t).seen ≡ (rest mark c ns xs s).seen
named_seen mark c ns ys name xs zs x s u t hn hx hu ht = rw (hn, hx, ht, hu) refl

pub named_made : (mark : Pos) (c : Around) (ns ys : List Name) (name : Name) (xs zs : List Node) (x : Node) (s u t : Seen) (made after : List Node) (n : Node)
    → ns ≡ name ∷ ys → xs ≡ x ∷ zs → u ≡ parameter mark name s → t ≡ ((part None x).walk c u).seen
    → n ≡ ((part None x).walk c u).made → after ≡ made ++ n ∷ []
    → after ++ (rest mark c ys zs t).made ≡ made ++ (rest mark c ns xs s).made
named_made mark c ns ys name xs zs x s u t made after n hn hx hu ht hm ha =
    rw (hn, hx, ha, hm, ht, hu)
    (append_assoc made (((part None x).walk c (parameter mark name s)).made ∷ []) (rest mark c ys zs ((part None x).walk c (parameter mark name s)).seen).made)

-- a default behind the last parameter
pub unnamed_seen : (mark : Pos) (c : Around) (ns : List Name) (xs zs : List Node) (x : Node) (s t : Seen)
    → ns ≡ [] → xs ≡ x ∷ zs → t ≡ ((part None x).walk c s).seen
    → (rest mark c ns zs t).seen ≡ (rest mark c ns xs s).seen
unnamed_seen mark c ns xs zs x s t hn hx ht = rw (hn, hx, ht) refl

pub unnamed_made : (mark : Pos) (c : Around) (ns : List Name) (xs zs : List Node) (x : Node) (s t : Seen) (made after : List Node) (n : Node)
    → ns ≡ [] → xs ≡ x ∷ zs → t ≡ ((part None x).walk c s).seen
    → n ≡ ((part None x).walk c s).made → after ≡ made ++ n ∷ []
    → after ++ (rest mark c ns zs t).made ≡ made ++ (rest mark c ns xs s).made
unnamed_made mark c ns xs zs x s t made after n hn hx ht hm ha =
    rw (hn, hx, ha, hm, ht)
    (append_assoc made (((part None x).walk c s).made ∷ []) (rest mark c [] zs ((part None x).walk c s).seen).made)
