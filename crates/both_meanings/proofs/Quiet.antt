-- A heap in which another property was written than those by which it carries a state of Ruby carries it too.
use Rattle.std.proofs.Common.{◌≡◌, ℕ, zero, suc, Bool, true, false, if◌then◌else◌, List, [], ◌∷◌, length, Option, Some, None, refl, sym, ap, ◌∙◌, subst}
use Rattle.std.specs.Prelude.{bytes_eq, ◌&&◌, pos}
use Rattle.std.specs.List.{filter_map, cons_option, list_any, slice_get}
use Rattle.ruby_meaning.specs.declared.value.Value.{Value}
use Rattle.ruby_meaning.specs.declared.value.Value.TheVariants as value
use Rattle.es5_tree.specs.Values.{Text, Val, Truth, Num, Str, Obj, first, find_own}
use Rattle.es5_tree.specs.Objects.Names.{decimal, is_length}
use Rattle.es5_tree.specs.Objects.Cells.{Cell, is_array_length, own}
use Rattle.es5_tree.specs.Objects.Cells as cell
use Rattle.es5_tree.specs.Objects.Links.{cell_at, link_at, first_of_chain, chain, first_own, get}
use Rattle.es5_evaluation.specs.Values.{holder_of}
use Rattle.ruby_evaluation.specs.Tables.{Name, at}
use Rattle.ruby_evaluation.specs.State.{Entry, Def, Reader, Writer, Form, Plain, Module, Array, Hash, Range, Block, Sends, Ruby, thing_at}
use Rattle.ruby_evaluation.specs.State as entry
use Rattle.ruby_evaluation.specs.Ancestors.{entry_at}
use Rattle.both_meanings.specs.Carries.{Heap, id_name, mod_name, stub_name, method_name, IsPlain, IsVariable, own_of, number_in, object_in, id_of, id_in, mod_of, has_some, is_stub, bases, get_from, CarriesValue, CarriesOption, FitsForm, IsFunction, IsStub, Matches, Missed, CarriesHeap}

-- names by which a heap carries nothing
pub record IsPrivate (y : Text) : Type 0 where
  pub id : y ≡ id_name → ⊥
  pub modules : y ≡ mod_name → ⊥
  pub stub : y ≡ stub_name → ⊥
  pub method : (m : Name) → IsPlain m → y ≡ method_name m → ⊥
  pub variable : (x : Name) → IsVariable x → y ≡ x → ⊥
  pub index : (i : ℕ) → y ≡ decimal i → ⊥

-- the same objects but for one property of one name
pub record SameBut (y : Text) (h h1 : Heap) : Type 0 where
  pub size : length h1 ≡ length h
  pub kind : (p : ℕ) → (cell_at h1 p).kind ≡ (cell_at h p).kind
  pub link : (p : ℕ) → link_at h1 p ≡ link_at h p
  pub array_length : (p : ℕ) → (cell_at h1 p).array_length ≡ (cell_at h p).array_length
  pub found : (p : ℕ) (x : Text) → (y ≡ x → ⊥) → find_own (cell_at h1 p).properties x ≡ find_own (cell_at h p).properties x

module _ {y : Text} {h h1 : Heap} (k : SameBut y h h1) where
  pub own_same : (p : ℕ) (x : Text) → (y ≡ x → ⊥) → own_of h1 p x ≡ own_of h p x
  unfolding own
  own_same p x n = ap (λ q. if cell.is_array q && is_length x then Some (Num (pos (cell_at h1 p).array_length)) else find_own (cell_at h1 p).properties x) (k.kind p)
      ∙ ap (λ l. if cell.is_array (cell_at h p).kind && is_length x then Some (Num (pos l)) else find_own (cell_at h1 p).properties x) (k.array_length p)
      ∙ ap (λ o. if cell.is_array (cell_at h p).kind && is_length x then Some (Num (pos (cell_at h p).array_length)) else o) (k.found p x n)

  links_same : (n : ℕ) (o : Option ℕ) → first_of_chain n h1 o ≡ first_of_chain n h o
  unfolding first_of_chain
  links_same zero o = refl
  links_same (suc n) None = refl
  links_same (suc n) (Some o) = ap (λ l. o ∷ first_of_chain n h1 l) (k.link o) ∙ ap (λ l. o ∷ l) (links_same n (link_at h o))

  pub chain_same : (o : Option ℕ) → chain h1 o ≡ chain h o
  unfolding chain
  chain_same o = ap (λ n. first_of_chain n h1 o) k.size ∙ links_same (length h) o

  firsts_same : (os : List ℕ) (x : Text) → (y ≡ x → ⊥) → first_own h1 os x ≡ first_own h os x
  unfolding first_own
  firsts_same [] x n = refl
  firsts_same (o ∷ os) x n = ap (λ a. first a (λ u. first_own h1 os x)) (own_same o x n) ∙ ap (λ b. first (own_of h o x) (λ u. b)) (firsts_same os x n)

  pub get_same : (o : ℕ) (x : Text) → (y ≡ x → ⊥) → get h1 o x ≡ get h o x
  unfolding get
  get_same o x n = ap (λ os. first_own h1 os x) (chain_same (Some o)) ∙ firsts_same (chain h (Some o)) x n

  get_from_same : (o : Option ℕ) (x : Text) → (y ≡ x → ⊥) → get_from h1 o x ≡ get_from h o x
  get_from_same None x n = refl
  get_from_same (Some o) x n = get_same o x n

  module _ (private : IsPrivate y) where
    pub id_same : (o : ℕ) → id_of h1 o ≡ id_of h o
    id_same o = ap number_in (own_same o id_name private.id)

    ids_same : (o : Option ℕ) → id_in h1 o ≡ id_in h o
    ids_same None = refl
    ids_same (Some o) = id_same o

    pub mod_same : (l : ℕ) → mod_of h1 l ≡ mod_of h l
    mod_same l = ap (λ o. id_in h1 (object_in o)) (own_same l mod_name private.modules) ∙ ids_same (object_in (own_of h l mod_name))

    stub_same : (f : ℕ) → is_stub h1 f ≡ is_stub h f
    stub_same f = ap has_some (own_same f stub_name private.stub)

    mods_same : (os : List ℕ) → filter_map (mod_of h1) os ≡ filter_map (mod_of h) os
    mods_same [] = refl
    mods_same (o ∷ os) = ap (λ a. cons_option a (filter_map (mod_of h1) os)) (mod_same o) ∙ ap (λ l. cons_option (mod_of h o) l) (mods_same os)

    bases_same : (o : Option ℕ) → bases h1 o ≡ bases h o
    bases_same o = ap (filter_map (mod_of h1)) (chain_same o) ∙ mods_same (chain h o)

    value_back : (v : Value) (w : Val) → CarriesValue h1 v w → CarriesValue h v w
    value_back value.Nil (Obj o) i = sym (id_same o) ∙ i
    value_back value.True (Truth b) i = i
    value_back value.False (Truth b) i = i
    value_back (value.Int n) (Num m) i = i
    value_back (value.Text s) (Str t) i = i
    value_back (value.Ref n) (Obj o) i = sym (id_same o) ∙ i
    value_back _ _ i = absurd i

    value_on : (v : Value) (w : Val) → CarriesValue h v w → CarriesValue h1 v w
    value_on value.Nil (Obj o) i = id_same o ∙ i
    value_on value.True (Truth b) i = i
    value_on value.False (Truth b) i = i
    value_on (value.Int n) (Num m) i = i
    value_on (value.Text s) (Str t) i = i
    value_on (value.Ref n) (Obj o) i = id_same o ∙ i
    value_on _ _ i = absurd i

    option_on : (v : Option Value) (w : Option Val) → CarriesOption h v w → CarriesOption h1 v w
    option_on None None i = tt
    option_on (Some v) (Some w) i = value_on v w i
    option_on _ _ i = absurd i

    form_on : (o : ℕ) (f : Form) → FitsForm h (cell_at h o) f → FitsForm h1 (cell_at h1 o) f
    form_on o Plain i = k.kind o ∙ i
    form_on o (Module m) i = k.kind o ∙ i
    form_on o (Array items) i = (k.kind o ∙ i.0, k.array_length o ∙ i.1, λ n. subst (λ a. CarriesOption h1 (slice_get items n) a) (sym (k.found o (decimal n) (private.index n))) (option_on (slice_get items n) _ (i.2 n)))
    form_on o (Hash ps) i = k.kind o ∙ i
    form_on o (Range a b c) i = k.kind o ∙ i
    form_on o (Block c) i = subst IsFunction (sym (k.kind o)) i
    form_on o (Sends n) i = subst IsFunction (sym (k.kind o)) i

    stub_on : (v : Option Val) → IsStub h v → IsStub h1 v
    stub_on v i = (i.0, i.1, stub_same i.0 ∙ i.2)

    written_on : (v : Option Val) (f : ℕ) → (v ≡ Some (Obj f)) × IsFunction (cell_at h f).kind × (is_stub h f ≡ false) → (g : ℕ) × (v ≡ Some (Obj g)) × IsFunction (cell_at h1 g).kind × (is_stub h1 g ≡ false)
    written_on v f i = (f, i.0, subst IsFunction (sym (k.kind f)) i.1, stub_same f ∙ i.2)

    matches_on : (e : Option Entry) (v : Option Val) → Matches h e v → Matches h1 e v
    matches_on None v i = i
    matches_on (Some entry.Undefined) v i = stub_on v i
    matches_on (Some (Def m)) v i = written_on v i.0 (i.1, i.2, i.3)
    matches_on (Some (Reader n a b)) v i = written_on v i.0 (i.1, i.2, i.3)
    matches_on (Some (Writer n a b)) v i = written_on v i.0 (i.1, i.2, i.3)

    missed_on : (b : Bool) (v : Option Val) → Missed h b v → Missed h1 b v
    missed_on true v i = stub_on v i
    missed_on false v i = i

    pub carries_but : (called : List Name) (r : Ruby) → CarriesHeap called r h → CarriesHeap called r h1
    carries_but called r c = record {
      one = λ n l. let a = c.one n l in (a.0, id_same a.0 ∙ a.1, λ p e. a.2 p (sym (id_same p) ∙ e));
      only = λ o n e. c.only o n (sym (id_same o) ∙ e);
      forms = λ o n e. form_on o (thing_at r n).form (c.forms o n (sym (id_same o) ∙ e));
      chains = λ v w i. bases_same (holder_of w) ∙ c.chains v w (value_back v w i);
      tables = λ M m p.
          let t = c.tables M m p in
          record { value = t.value; same = λ l e. own_same l (method_name m) (private.method m p) ∙ t.same l (sym (mod_same l) ∙ e); fits = matches_on (entry_at r m M) t.value t.fits };
      found = λ v w M m p i q l e. get_from_same (holder_of w) (method_name m) (private.method m p) ∙ c.found v w M m p (value_back v w i) q l (sym (mod_same l) ∙ e) ∙ sym (own_same l (method_name m) (private.method m p));
      missed = λ v w m p i q. subst (Missed h1 (list_any (bytes_eq m) called)) (sym (get_from_same (holder_of w) (method_name m) (private.method m p))) (missed_on _ _ (c.missed v w m p (value_back v w i) q));
      variables = λ o n x p e. subst (λ a. CarriesOption h1 (at x (thing_at r n).variables) a) (sym (own_same o x (private.variable x p))) (option_on (at x (thing_at r n).variables) _ (c.variables o n x p (sym (id_same o) ∙ e)));
    }
