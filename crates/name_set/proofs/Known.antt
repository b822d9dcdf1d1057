-- What a set of names holds.
use Rattle.std.proofs.Common.{◌≡◌, ℕ, suc, ◌+◌, Bool, true, false, ◌||◌, if◌then◌else◌, List, [], ◌∷◌, ◌++◌, drop, not, cond, length, nat_lt, Some, None, slice_get, bytes_eq, refl, sym, ap, ◌∙◌, arith, Vec, Global}
use Rattle.std.proofs.lemmas.List.{map-append, length-map}
use Rattle.std.specs.List.{list_any, position, position_or_len}
use Rattle.std.proofs.Math.Seq.{drop-cons}
use Rattle.std.proofs.lemmas.List.Folds.{list_any-append}
use Rattle.std.proofs.lemmas.Slice.Eq.{bytes_eq-Decides}
use Rattle.std.proofs.lemmas.Option.{slice_get_within, get_or_from_slice_get}
use Rattle.indexmap.specs.IndexSet.{insert_key}
use Rattle.name_set.specs.Names.{Name, name_of, names, with_new}

abbrev Key : Type 0
Key = Vec ℕ Global

pub dropped : {A : Type 0} (xs : List A) (i : ℕ) (x : A) → slice_get xs i ≡ Some x → drop i xs ≡ x ∷ drop (i + 1) xs
dropped xs i x e =
    drop-cons xs i x (slice_get_within xs i x e) ∙ ap (λ z. z ∷ drop (suc i) xs) (get_or_from_slice_get xs i x x e)
    ∙ (let e : suc i ≡ i + 1 = omega arith in ap (λ n. x ∷ drop n xs) e)

-- ---- the index

-- a key is found where its name is among the names
pub found : (name : Name) (keys : List Key) → list_any (λ k. bytes_eq name (name_of k)) keys ≡ list_any (bytes_eq name) (names keys)
found name [] = refl
found name (k ∷ ks) = ap (λ b. bytes_eq name (name_of k) || b) (found name ks)

by_same_test : (key : Key) (keys : List Key) (b c : Bool) → b ≡ c → names (if b then keys else keys ++ key ∷ []) ≡ (if c then names keys else names keys ++ name_of key ∷ [])
by_same_test key keys true true e = refl
by_same_test key keys false false e = map-append name_of keys (key ∷ [])
by_same_test key keys true false e = absurd cc
by_same_test key keys false true e = absurd cc

pub inserted : (key : Key) (keys : List Key) (name : Name) → name_of key ≡ name → names (insert_key (λ j k. bytes_eq (name_of j) (name_of k)) keys key) ≡ with_new (names keys) name (names keys)
inserted key keys name e =
    by_same_test key keys _ _ (found (name_of key) keys)
    ∙ ap (λ n. with_new (names keys) n (names keys)) e

pub told : (key : Key) (keys : List Key) (name : Name) → name_of key ≡ name → not (list_any (λ k. bytes_eq (name_of key) (name_of k)) keys) ≡ not (list_any (bytes_eq name) (names keys))
told key keys name e = ap not (found (name_of key) keys ∙ ap (λ n. list_any (bytes_eq n) (names keys)) e)

same_front : (name : Name) (keys : List Key) → position_or_len (λ k. bytes_eq name (name_of k)) keys ≡ position_or_len (bytes_eq name) (names keys)
same_front name [] = refl
same_front name (k ∷ ks) = ap (λ n. if not (bytes_eq name (name_of k)) then 1 + n else 0) (same_front name ks)

-- and at the same place
pub placed : (name : Name) (keys : List Key) → position (λ k. bytes_eq name (name_of k)) keys ≡ position (bytes_eq name) (names keys)
placed name keys =
    ap (λ n. cond (nat_lt n (length keys)) (Some n) None) (same_front name keys)
    ∙ ap (λ m. cond (nat_lt (position_or_len (bytes_eq name) (names keys)) m) (Some (position_or_len (bytes_eq name) (names keys))) None) (sym (length-map keys name_of))

-- ---- known names

or_false : (b : Bool) → (b || false) ≡ b
or_false true = refl
or_false false = refl

or_assoc : (a b c : Bool) → (a || (b || c)) ≡ ((a || b) || c)
or_assoc true b c = refl
or_assoc false b c = refl

-- a name behind the known ones is known
pub known_behind : (known : List Name) (name x : Name) → list_any (bytes_eq x) (known ++ name ∷ []) ≡ (list_any (bytes_eq x) known || bytes_eq x name)
known_behind known name x = list_any-append (bytes_eq x) known (name ∷ []) ∙ ap (λ b. list_any (bytes_eq x) known || b) (or_false (bytes_eq x name))

absorbed : (known : List Name) (name x : Name) (r b : Bool) → list_any (bytes_eq name) known ≡ true → bytes_eq x name ≡ b → (list_any (bytes_eq x) known || r) ≡ (list_any (bytes_eq x) known || (b || r))
absorbed known name x r false h e = refl
absorbed known name x r true h e = rw (ap (λ n. list_any (bytes_eq n) known) ((bytes_eq-Decides x name).0 e) ∙ h) refl

known_by_test : (known : List Name) (name x : Name) (r b : Bool) → list_any (bytes_eq name) known ≡ b
    → (list_any (bytes_eq x) (if b then known else known ++ name ∷ []) || r) ≡ (list_any (bytes_eq x) known || (bytes_eq x name || r))
known_by_test known name x r true h = absorbed known name x r (bytes_eq x name) h refl
known_by_test known name x r false h = ap (λ b. b || r) (known_behind known name x) ∙ sym (or_assoc (list_any (bytes_eq x) known) (bytes_eq x name) r)

pub next_known : (names known more : List Name) (i : ℕ) (name : Name) → slice_get names i ≡ Some name → more ≡ with_new known name known
    → ((x : Name) → (list_any (bytes_eq x) known || list_any (bytes_eq x) (drop i names)) ≡ list_any (bytes_eq x) names)
    → (x : Name) → (list_any (bytes_eq x) more || list_any (bytes_eq x) (drop (i + 1) names)) ≡ list_any (bytes_eq x) names
next_known names known more i name g e h x =
    ap (λ m. list_any (bytes_eq x) m || list_any (bytes_eq x) (drop (i + 1) names)) e
    ∙ known_by_test known name x (list_any (bytes_eq x) (drop (i + 1) names)) (list_any (bytes_eq name) known) refl
    ∙ (ap (λ ns. list_any (bytes_eq x) known || list_any (bytes_eq x) ns) (sym (dropped names i name g)) ∙ h x)
