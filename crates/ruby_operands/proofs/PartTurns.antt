-- What begins a part behind a value, and the nodes of parts.
use Rattle.std.proofs.Common.{◌≡◌, ℕ, Bool, true, false, ◌&&◌, ◌||◌, List, [], ◌∷◌, Some, None, refl}
use Rattle.std.specs.Prelude.{nat_eq, if◌then◌else◌}
use Rattle.grammar.specs.CommonRules.{◌or◌}
use Rattle.grammar.specs.FormReaders.{next_in, read_one_token, read_token}
use Rattle.grammar.specs.Spelling.{token_in}
use Rattle.opal_base.specs.declared.place.Span.{Span}
use Rattle.ruby_meaning.specs.declared.production.Sign.TheVariants as sign
use Rattle.ruby_meaning.specs.declared.token.Mark.TheVariants as mark
use Rattle.ruby_meaning.specs.declared.tree.Node.{Node}
use Rattle.ruby_meaning.specs.Grammar.Actions as act
use Rattle.ruby_meaning.specs.Grammar.Classes.{a, op}
use Rattle.ruby_meaning.specs.Grammar.Definitions.{operator_names}
use Rattle.ruby_meaning.specs.Grammar.Seen.{Seen}
use Rattle.ruby_reading.specs.Ahead.{class_code}
use Rattle.ruby_operands.specs.PartsBehind.{begins_method, begins_part, constant_in}

pub part_seen : (ts : List Seen) → next_in begins_part ts
    ≡ (next_in (λ t. op mark.Dot (class_code t)) ts || (next_in (λ t. op mark.ColonColon (class_code t)) ts || next_in (λ t. op mark.BracketOpen (class_code t)) ts))
part_seen [] = refl
part_seen (t ∷ ts) = refl

pub method_seen : (ts : List Seen) → next_in begins_method ts ≡ (next_in (λ t. (a sign.Name or a sign.Const) (class_code t)) ts || next_in (λ t. operator_names (class_code t)) ts)
method_seen [] = refl
method_seen (t ∷ ts) = refl

-- a token of the one set or the other
pub taken_first : (f h : ℕ → Bool) (ts : List Seen) → next_in (λ t. f (class_code t)) ts ≡ true → read_token (token_in class_code (f or h)) ts ≡ read_token (token_in class_code f) ts
taken_first f h [] e = refl
taken_first f h (t ∷ ts) e = by (f (class_code t)) (h (class_code t)) e
  where
    by : (c k : Bool) → c ≡ true → read_one_token (if c || k then Some t else None) t ts ≡ read_one_token (if c then Some t else None) t ts
    by true k e = refl
    by false k e = cc

pub taken_second : (f h : ℕ → Bool) (ts : List Seen) → next_in (λ t. f (class_code t)) ts ≡ false → read_token (token_in class_code (f or h)) ts ≡ read_token (token_in class_code h) ts
taken_second f h [] e = refl
taken_second f h (t ∷ ts) e = by (f (class_code t)) (h (class_code t)) e
  where
    by : (c k : Bool) → c ≡ false → read_one_token (if c || k then Some t else None) t ts ≡ read_one_token (if k then Some t else None) t ts
    by false k e = refl
    by true k e = cc

pub part_constant : (l : Node) (n : ℕ) (t : Seen) (tail : act.Tail) (s : Span) → nat_eq n act.constant_part ≡ true → act.is_empty tail ≡ true → act.part_node l n t tail s ≡ constant_in l t s
part_constant l n t (None, None) s e h = by (nat_eq n act.constant_part) e
  where
    by : (c : Bool) → c ≡ true → (if c then constant_in l t s else act.call_node (Some l) (act.part_name n t) (None, None) s (act.start t)) ≡ constant_in l t s
    by true e = refl
    by false e = cc
part_constant l n t (None, Some b) s e h = cc
part_constant l n t (Some x, b) s e h = cc

pub part_called : (l : Node) (n : ℕ) (t : Seen) (tail : act.Tail) (s : Span) → (nat_eq n act.constant_part && act.is_empty tail) ≡ false → act.part_node l n t tail s ≡ act.call_node (Some l) (act.part_name n t) tail s (act.start t)
part_called l n t (None, None) s e = by (nat_eq n act.constant_part) e
  where
    by : (c : Bool) → (c && true) ≡ false → (if c then constant_in l t s else act.call_node (Some l) (act.part_name n t) (None, None) s (act.start t)) ≡ act.call_node (Some l) (act.part_name n t) (None, None) s (act.start t)
    by false e = refl
    by true e = cc
part_called l n t (None, Some b) s e = refl
part_called l n t (Some x, None) s e = refl
part_called l n t (Some x, Some b) s e = refl
