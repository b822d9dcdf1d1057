-- What is found under a method's name along the links of a value is the function of the entry that Ruby's search finds.
use Rattle.std.proofs.Common.{◌≡◌, ℕ, List, [], ◌∷◌, Option, Some, None, refl, sym, ap, ◌∙◌, subst}
use Rattle.std.specs.List.{filter_map, cons_option}
use Rattle.ruby_meaning.specs.declared.value.Value.{Value}
use Rattle.es5_tree.specs.Values.{Val, Obj}
use Rattle.es5_tree.specs.Objects.Links.{chain}
use Rattle.es5_evaluation.specs.State as es
use Rattle.es5_evaluation.specs.Values.{holder_of}
use Rattle.ruby_evaluation.specs.Tables.{Name, or_else}
use Rattle.ruby_evaluation.specs.State.{Method, Entry, Def, Reader, Writer, Undefined, Ruby}
use Rattle.ruby_evaluation.specs.Ancestors.{class_of, ancestors, entry_at, search_in, unless_undefined, find}
use Rattle.ruby_evaluation.specs.Task.{State}
use Rattle.both_meanings.specs.Carries.{Heap, CarriesValue, IsPlain, method_name, mod_of, own_of, bases, get_from, holder, holder_at, Matches}
use Rattle.both_meanings.specs.World.{World, IsValue, is_nil, is_true, is_false, is_int, is_text, is_ref}
use Rattle.both_meanings.specs.Holds.{Scheme, IsEntry, Holds}

pub carries_value : {T : Scheme} {w : World} {st : State} {s : es.State} → Holds T w st s → (v : Value) (u : Val) → IsValue w v u → CarriesValue s.heap v u
carries_value h _ _ (is_nil o e) = h.objects.objects 0 o e
carries_value h _ _ is_true = refl
carries_value h _ _ is_false = refl
carries_value h _ _ (is_int n) = refl
carries_value h _ _ (is_text t) = refl
carries_value h _ _ (is_ref k o n e) = h.objects.objects k o e

-- the module in which an entry is found, among those of some links
record In (R : Ruby) (m : Name) (f : ℕ → Option ℕ) (xs : List ℕ) (e : Entry) : Type 0 where
  M : ℕ
  held : holder R m (filter_map f xs) ≡ Some M
  is : entry_at R m M ≡ Some e
  l : ℕ
  link : f l ≡ Some M

module _ (R : Ruby) (m : Name) (f : ℕ → Option ℕ) (x : ℕ) (xs : List ℕ) (e : Entry) (rec : search_in R m (filter_map f xs) ≡ Some e → In R m f xs e) where
  -- the link stands for no module
  by_none : f x ≡ None → search_in R m (filter_map f (x ∷ xs)) ≡ Some e → In R m f (x ∷ xs) e
  by_none i q =
      let same : filter_map f (x ∷ xs) ≡ filter_map f xs = ap (λ o. cons_option o (filter_map f xs)) i in
      let a = rec (ap (search_in R m) (sym same) ∙ q) in
      record { M = a.M; held = ap (holder R m) same ∙ a.held; is = a.is; l = a.l; link = a.link }

  -- for a module without an entry, or with one
  by_entry : (k : ℕ) (o : Option Entry) → f x ≡ Some k → entry_at R m k ≡ o → or_else o (search_in R m (filter_map f xs)) ≡ Some e → filter_map f (x ∷ xs) ≡ k ∷ filter_map f xs → In R m f (x ∷ xs) e
  by_entry k None i j q same = let a = rec q in record { M = a.M; held = ap (holder R m) same ∙ ap (λ o. holder_at o k (holder R m (filter_map f xs))) j ∙ a.held; is = a.is; l = a.l; link = a.link }
  by_entry k (Some e1) i j q same = record { M = k; held = ap (holder R m) same ∙ ap (λ o. holder_at o k (holder R m (filter_map f xs))) j; is = j ∙ q; l = x; link = i }

  by_link : (o : Option ℕ) → f x ≡ o → search_in R m (filter_map f (x ∷ xs)) ≡ Some e → In R m f (x ∷ xs) e
  by_link None i q = by_none i q
  by_link (Some k) i q =
      let same : filter_map f (x ∷ xs) ≡ k ∷ filter_map f xs = ap (λ o. cons_option o (filter_map f xs)) i in
      by_entry k (entry_at R m k) i refl (ap (search_in R m) (sym same) ∙ q) same

in_links : (R : Ruby) (m : Name) (f : ℕ → Option ℕ) (xs : List ℕ) (e : Entry) → search_in R m (filter_map f xs) ≡ Some e → In R m f xs e
in_links R m f [] e q = cc
in_links R m f (x ∷ xs) e q = by_link R m f x xs e (in_links R m f xs e) (f x) refl q

-- a mark is no entry that is found
searched : (o : Option Entry) (e : Entry) → unless_undefined o ≡ Some e → o ≡ Some e
searched None e q = cc
searched (Some (Def x)) e q = q
searched (Some (Reader k n x)) e q = q
searched (Some (Writer k n x)) e q = q
searched (Some Undefined) e q = cc

-- what stands in a link for a method that `def` wrote
defined : (h : Heap) (x : Method) (v : Option Val) → Matches h (Some (Def x)) v → (f : ℕ) × (v ≡ Some (Obj f))
defined h x v i = (i.0, i.1)

-- the function that is found, and the entry that it stands for
pub record Found (T : Scheme) (w : World) (h : Heap) (u : Val) (m : Name) (e : Entry) : Type 0 where
  pub function : ℕ
  pub gets : get_from h (holder_of u) (method_name m) ≡ Some (Obj function)
  pub is : IsEntry T w e function

pub found_method : {T : Scheme} {w : World} {st : State} {s : es.State} → Holds T w st s → (v : Value) (u : Val) (m : Name) (x : Method) → IsValue w v u → IsPlain m → find st.ruby v m ≡ Some (Def x) → Found T w s.heap u m (Def x)
found_method {T} {w} {st} {s} h v u m x i plain q =
    let c = h.objects.carries in
    let cv = carries_value h v u i in
    let same : bases s.heap (holder_of u) ≡ ancestors st.ruby (class_of st.ruby v) = c.chains v u cv in
    let a = in_links st.ruby m (mod_of s.heap) (chain s.heap (holder_of u)) (Def x) (ap (search_in st.ruby m) same ∙ searched _ (Def x) q) in
    let slot = c.tables a.M m plain in
    let d = defined s.heap x slot.value (subst (λ o. Matches s.heap o slot.value) a.is slot.fits) in
    let here : own_of s.heap a.l (method_name m) ≡ Some (Obj d.0) = slot.same a.l a.link ∙ d.1 in
    record {
      function = d.0;
      gets = c.found v u a.M m plain cv (sym (ap (holder st.ruby m) same) ∙ a.held) a.l a.link ∙ here;
      is = h.objects.entries a.M m (Def x) a.l d.0 plain a.is a.link here;
    }
