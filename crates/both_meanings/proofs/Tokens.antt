-- The token of a call is closed on both sides.
use Rattle.std.proofs.Common.{◌≡◌, ⊎_elim, ℕ, zero, suc, ◌+◌, ◌<◌, true, false, List, [], ◌∷◌, length, map, Some, refl, sym, ap, ◌∙◌, subst, arith, codes}
use Rattle.std.specs.Prelude.{bytes_eq}
use Rattle.std.specs.Int.Digits.{digits_of}
use Rattle.std.proofs.lemmas.Bool.{eq-eqb}
use Rattle.std.proofs.lemmas.Slice.Eq.{bytes_eq-Decides}
use Rattle.std.proofs.lemmas.List.{length-set, get_or-set_same, get_or-set_other}
use Rattle.es5_tree.specs.Values.{Text, Val, Truth, find_own}
use Rattle.es5_tree.specs.Objects.Names.{decimal}
use Rattle.es5_tree.specs.Objects.Cells.{Cell, put, with_value, with_property, own, is_array_length}
use Rattle.es5_tree.specs.Objects.Cells as cell
use Rattle.es5_tree.specs.Objects.Links.{cell_at, set_cell}
use Rattle.es5_tree.proofs.ObjectProperties.{find_written, find_other}
use Rattle.es5_evaluation.specs.State as es
use Rattle.es5_evaluation.specs.Task.{with_object}
use Rattle.ruby_evaluation.specs.Tables.{Name}
use Rattle.ruby_evaluation.specs.State.{Ruby, call_closed, is_call_open}
use Rattle.ruby_evaluation.specs.Task.{State, changed}
use Rattle.both_meanings.specs.Names.{self_name}
use Rattle.both_meanings.specs.Carries.{Heap, id_name, mod_name, stub_name, method_name, IsPlain, IsVariable, own_of}
use Rattle.both_meanings.specs.World.{Target, OfFrame, OfCall, Role, Token, Carrier, Listed, World}
use Rattle.both_meanings.specs.Holds.{Scheme, open_name, token_name, value_name, Serves, Holds}
use Rattle.both_meanings.proofs.Basics.{same_or_not, head_is}
use Rattle.both_meanings.proofs.Holding.{carries_same}
use Rattle.both_meanings.proofs.Quiet.{IsPrivate, SameBut, own_same, get_same, id_same, mod_same, carries_but}

-- ---- names

pub names_apart : (a b : Text) → bytes_eq a b ≡ false → a ≡ b → ⊥
names_apart a b e i = let d : bytes_eq a b ≡ true = (bytes_eq-Decides a b).1 i in absurd (true_false (sym d ∙ e))
  where
    true_false : true ≡ false → ⊥
    true_false q = cc

no_item : (a : ℕ) (x : List ℕ) → a ∷ x ≡ [] → ⊥
no_item a x e = cc

second_is : (a b c : ℕ) (x y : List ℕ) → a ∷ b ∷ x ≡ a ∷ c ∷ y → b ≡ c
second_is a b c x y e = cc

second_none : (a b : ℕ) (x : List ℕ) → a ∷ b ∷ x ≡ a ∷ [] → ⊥
second_none a b x e = cc

-- a name that begins with "$$" is none of a method, and one that begins with "$" is none of a variable or an index
pub no_method : (x : Text) (m : Name) → IsPlain m → 36 ∷ 36 ∷ x ≡ method_name m → ⊥
no_method x [] p e = second_none 36 36 x e
no_method x (u ∷ us) p e = absurd (false_true (sym p ∙ eq-eqb u 36 (sym (second_is 36 36 u x us e))))
  where
    false_true : false ≡ true → ⊥
    false_true q = cc

pub no_variable : (x : Text) (y : Name) → IsVariable y → 36 ∷ x ≡ y → ⊥
no_variable x [] v e = absurd v
no_variable x (u ∷ us) v e = let i : 36 ≡ u = head_is 36 u x us e in absurd (omega (arith, i, v))

pub no_index : (x : Text) (i : ℕ) → 36 ∷ x ≡ decimal i → ⊥
unfolding decimal
no_index x zero e = let i : 36 ≡ 48 = head_is 36 48 x [] e in absurd (omega (arith, i))
no_index x (suc n) e = digits (digits_of 10 (suc n)) e
  where
    digits : (ds : List ℕ) → 36 ∷ x ≡ map (λ d. 48 + d) ds → ⊥
    digits [] q = no_item 36 x q
    digits (d ∷ ds) q = let i : 36 ≡ 48 + d = head_is 36 (48 + d) x _ q in absurd (omega (arith, i))

open_private : IsPrivate open_name
open_private = record {
  id = names_apart open_name id_name refl;
  modules = names_apart open_name mod_name refl;
  stub = names_apart open_name stub_name refl;
  method = λ m p e. no_method (codes "open") m p e;
  variable = λ x v e. no_variable (codes "$open") x v e;
  index = λ i e. no_index (codes "$open") i e;
}

-- ---- a property of a plain object is written

put_plain : (c : Cell) (y : Text) (v : Val) → c.kind ≡ cell.Object → put c y v ≡ record { kind = c.kind; link = c.link; array_length = c.array_length; properties = with_property c.properties y v }
unfolding put with_value
put_plain c y v e = rw e refl

pub cell_written : (h : Heap) (o : ℕ) (c : Cell) → o < length h → cell_at (set_cell h o c) o ≡ c
unfolding cell_at
cell_written h o c l = get_or-set_same h o c _ l

pub cell_other : (h : Heap) (o p : ℕ) (c : Cell) → (p ≡ o → ⊥) → cell_at (set_cell h o c) p ≡ cell_at h p
unfolding cell_at
cell_other h o p c n = get_or-set_other h o p c _ n

module _ (h : Heap) (o : ℕ) (y : Text) (v : Val) (l : o < length h) (plain : (cell_at h o).kind ≡ cell.Object) where
  abbrev pub h1 : Heap
  h1 = set_cell h o (put (cell_at h o) y v)

  here : cell_at h1 o ≡ record { kind = (cell_at h o).kind; link = (cell_at h o).link; array_length = (cell_at h o).array_length; properties = with_property (cell_at h o).properties y v }
  here = cell_written h o (put (cell_at h o) y v) l ∙ put_plain (cell_at h o) y v plain

  -- what a cell has is the same where it is the same in the one that was written
  as_before : {X : Type 0} (f : Cell → X) (p : ℕ) → f (record { kind = (cell_at h o).kind; link = (cell_at h o).link; array_length = (cell_at h o).array_length; properties = with_property (cell_at h o).properties y v }) ≡ f (cell_at h o) → f (cell_at h1 p) ≡ f (cell_at h p)
  as_before f p e = ⊎_elim
      (λ (i : p ≡ o). subst (λ q. f (cell_at h1 q) ≡ f (cell_at h q)) (sym i) (ap f here ∙ e))
      (λ n. ap f (cell_other h o p (put (cell_at h o) y v) n))
      (same_or_not p o)

  pub same_but : SameBut y h h1
  same_but = record {
    size = length-set h o _;
    kind = λ p. as_before (λ c. c.kind) p refl;
    link = λ p. as_before (λ c. c.link) p refl;
    array_length = λ p. as_before (λ c. c.array_length) p refl;
    found = λ p x n. as_before (λ c. find_own c.properties x) p (find_other (cell_at h o).properties y x v n);
  }

  pub now : own_of h1 o y ≡ Some v
  unfolding own
  now = ap (λ c. own c y) here ∙ rw plain (find_written (cell_at h o).properties y v)

-- ---- the call is over, and its token is marked so

module _ {T : Scheme} {w : World} {st : State} {s : es.State} (h : Holds T w st s) (n o : ℕ) (is : w.role o ≡ Some (Token (OfCall n))) where
  abbrev token : Serves st.ruby s.heap o (Token (OfCall n))
  token = (h.objects.roles o (Token (OfCall n)) is).1

  inside : o < length s.heap
  inside = (h.objects.roles o (Token (OfCall n)) is).0

  abbrev h2 : Heap
  h2 = set_cell s.heap o (put (cell_at s.heap o) open_name (Truth false))

  abbrev R2 : Ruby
  R2 = call_closed n st.ruby

  same : SameBut open_name s.heap h2
  same = same_but s.heap o open_name (Truth false) inside token.1

  closed_now : is_call_open R2 n ≡ false
  closed_now = get_or-set_same st.ruby.calls n false false token.0

  closed_else : (m : ℕ) → (m ≡ n → ⊥) → is_call_open R2 m ≡ is_call_open st.ruby m
  closed_else m i = get_or-set_other st.ruby.calls n m false false i

  other_object : (p : ℕ) (t : Target) → w.role p ≡ Some (Token t) → (t ≡ OfCall n → ⊥) → p ≡ o → ⊥
  other_object p t e d i = d (role_is t (OfCall n) (sym e ∙ ap w.role i ∙ is))
    where
      role_is : (t q : Target) → Some (Token t) ≡ Some (Token q) → t ≡ q
      role_is t q e = cc

  call_is : (m n : ℕ) → OfCall m ≡ OfCall n → m ≡ n
  call_is m n e = cc

  frame_no_call : (k n : ℕ) → OfFrame k ≡ OfCall n → ⊥
  frame_no_call k n e = cc

  kept : (p : ℕ) → (p ≡ o → ⊥) → (x : Text) → own_of h2 p x ≡ own_of s.heap p x
  kept p i x = ap (λ c. own c x) (cell_other s.heap o p (put (cell_at s.heap o) open_name (Truth false)) i)

  kinds : (p : ℕ) → (cell_at h2 p).kind ≡ (cell_at s.heap p).kind
  kinds p = same.kind p

  served : (p : ℕ) (x : Role) → w.role p ≡ Some x → Serves st.ruby s.heap p x → Serves R2 h2 p x
  served p (Token (OfFrame k)) e i = (i.0, kinds p ∙ i.1, kept p (other_object p (OfFrame k) e (frame_no_call k n)) open_name ∙ i.2)
  served p (Token (OfCall m)) e i = ⊎_elim
      (λ (q : m ≡ n).
      let at : p ≡ o = h.objects.single p o (OfCall n) (e ∙ ap (λ a. Some (Token (OfCall a))) q) is in (
        subst (λ a. m < a) (sym (length-set st.ruby.calls n false)) i.0,
        kinds p ∙ i.1,
        ap (λ a. own_of h2 a open_name) at ∙ now s.heap o open_name (Truth false) inside token.1 ∙ ap (λ b. Some (Truth b)) (sym closed_now ∙ ap (is_call_open R2) (sym q)),
      ))
      (λ d. (
        subst (λ a. m < a) (sym (length-set st.ruby.calls n false)) i.0,
        kinds p ∙ i.1,
        kept p (other_object p (OfCall m) e (λ q. d (call_is m n q))) open_name ∙ i.2 ∙ ap (λ b. Some (Truth b)) (sym (closed_else m d)),
      ))
      (same_or_not m n)
  served p (Carrier q u) e i = (own_same same p token_name (names_apart open_name token_name refl) ∙ i.0, own_same same p value_name (names_apart open_name value_name refl) ∙ i.1)
  served p (Listed q m) e i = i

  pub holds_call_closed : Holds T w (changed (call_closed n) st) (with_object s o (put (cell_at s.heap o) open_name (Truth false)))
  holds_call_closed = record {
    calls = h.calls;
    input = h.input;
    records = record { shapes = h.records.shapes; fixed = h.records.fixed; frames = h.records.frames; apart = h.records.apart; lists = h.records.lists };
    objects =
        let a = h.objects in
        record {
          carries = carries_same T.called st.ruby R2 h2 refl (carries_but same open_private T.called st.ruby a.carries);
          objects = λ k p e. id_same same open_private p ∙ a.objects k p e;
          numbers = λ p k e. a.numbers p k (sym (id_same same open_private p) ∙ e);
          functions = λ p f e.
              let i = a.functions p f e in (
                subst (λ m. p < m) (sym same.size) i.0,
                record { at = i.1.at; kind = kinds p ∙ i.1.kind; there = i.1.there; code = i.1.code },
              );
          entries = λ M m e l p i j k q. a.entries M m e l p i j (sym (mod_same same open_private l) ∙ k) (sym (own_same same l (method_name m) (λ z. no_method (codes "open") m i z)) ∙ q);
          procs = λ k p c e i.
              let b = a.procs k p c e i in
              let q = b.1 in (
                b.0,
                record { function = q.function; is = q.is; since = q.since; grown = q.grown; text = q.text; self = q.self; self_is = own_same same p self_name (names_apart open_name self_name refl) ∙ q.self_is; self_value = q.self_value },
              );
          roles = λ p x e. let i = a.roles p x e in (subst (λ m. p < m) (sym same.size) i.0, served p x e i.1);
          clean = λ k p e. get_same same p token_name (names_apart open_name token_name refl) ∙ a.clean k p e;
          single = a.single;
        };
  }
