-- Names that are none of others.
use Rattle.std.proofs.Common.{◌≡◌, Bool, true, false, not, ◌&&◌, ◌||◌, List, [], ◌∷◌, ◌++◌, bytes_eq, refl, ap, ◌∙◌, ℕ}
use Rattle.std.proofs.lemmas.Cmp.{nat_list_eq_equiv}
use Rattle.name_set.specs.Names.{has}
use Rattle.es5_tree.specs.declared.token.EsToken.{EsToken}
use Rattle.es5_tree.specs.Grammar.Nodes.{is_new, name_of}

not_either : (a b : Bool) → not (a || b) ≡ (not a && not b)
not_either true b = refl
not_either false b = refl

-- a token spells a new name where its name isn't among them
pub none_of : (names : List (List ℕ)) (t : EsToken) → not (has names (name_of t)) ≡ is_new names t
none_of [] t = refl
none_of (name ∷ names) t =
    not_either (bytes_eq (name_of t) name) (has names (name_of t))
    ∙ (ap (λ b. not b && not (has names (name_of t))) (nat_list_eq_equiv.symm (name_of t) name) ∙ ap (λ c. not (bytes_eq name (name_of t)) && c) (none_of names t))

and_later : (c d e : Bool) → (c && (d && e)) ≡ (d && (c && e))
and_later true d e = refl
and_later false true e = refl
and_later false false e = refl

-- the order of the names plays no part
pub one_more_name : (names : List (List ℕ)) (name : List ℕ) (t : EsToken) → is_new (names ++ name ∷ []) t ≡ is_new (name ∷ names) t
one_more_name [] name t = refl
one_more_name (other ∷ names) name t = ap (λ c. not (bytes_eq other (name_of t)) && c) (one_more_name names name t) ∙ and_later (not (bytes_eq other (name_of t))) (not (bytes_eq name (name_of t))) (is_new names t)
