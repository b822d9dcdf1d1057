-- How deep the nodes are that the productions make.
use Rattle.std.proofs.Common.{◌≡◌, ℕ, zero, suc, ◌+◌, ◌≤◌, max, Bool, true, false, List, [], ◌∷◌, map, Option, Some, None, refl, sym, ap, ◌∙◌, arith, true≢false}
use Rattle.std.specs.Prelude.{if◌then◌else◌, ◌||◌, nat_eq, is_some}
use Rattle.std.specs.Option.{option_map}
use Rattle.opal_base.specs.declared.place.Pos.{Pos}
use Rattle.opal_base.specs.declared.place.Span.{Span}
use Rattle.grammar.specs.Forms.{deepest}
use Rattle.grammar.specs.Rules.{Held, deep_if}
use Rattle.grammar.proofs.Depths.{deepest_append, deepest_flat}
use Rattle.ruby_meaning.specs.declared.tree.Base.{Base, Base-F, out-Base, map-Base}
use Rattle.ruby_meaning.specs.declared.tree.Base.TheVariants as base
use Rattle.ruby_meaning.specs.declared.tree.Kind.{Kind, Kind-F, map-Kind}
use Rattle.ruby_meaning.specs.declared.tree.Kind.TheVariants as kind
use Rattle.ruby_meaning.specs.declared.tree.Literal.TheVariants as literal
use Rattle.ruby_meaning.specs.declared.tree.ModuleForm.{ModuleForm}
use Rattle.ruby_meaning.specs.declared.tree.Operator.{Operator}
use Rattle.ruby_meaning.specs.declared.tree.Operator.TheVariants as operator
use Rattle.ruby_meaning.specs.declared.tree.Params.{Params}
use Rattle.ruby_meaning.specs.declared.tree.Node.{Node}
use Rattle.ruby_meaning.specs.declared.production.Stage.{Stage}
use Rattle.ruby_meaning.specs.declared.production.Stage.TheVariants as stage
use Rattle.ruby_meaning.specs.Depth.{of_kind, of_base, depth_of, kind_depth, base_depth, form_depth, params_depth}
use Rattle.ruby_meaning.specs.Grammar.Seen.{Seen}
use Rattle.ruby_meaning.specs.Grammar.Actions as act
use Rattle.ruby_meaning.specs.Grammar.Actions.{make, Args, Pairs, Tail}
use Rattle.ruby_meaning.proofs.Grammar.Depths.{depth_layer, depth_out_base}
use Rattle.ruby_meaning.proofs.Grammar.Depths as d
use Rattle.grammar.proofs.Lists.{and_split}

pub if_same : {A : Type 0} (f : A → ℕ) (n : ℕ) (c : Bool) (x y : A) → f x ≡ n → f y ≡ n → f (if c then x else y) ≡ n
if_same f n true x y p q = p
if_same f n false x y p q = q

-- ---- pairs and arguments

abbrev pub pair_depth : Held (Node × Node) → ℕ
pair_depth p = suc (max (depth_of (p.value.0)) (depth_of (p.value.1)))

abbrev pub args_depth : Args → ℕ
args_depth x = max (deepest depth_of x.0) (max (deepest pair_depth (x.1.0)) (deep_if depth_of (x.1.1)))

pairs_deep : (p : Held (Node × Node)) (ps : Pairs) → suc (max (deepest depth_of (act.keys (p ∷ ps))) (deepest depth_of (act.values (p ∷ ps)))) ≡ deepest pair_depth (p ∷ ps)
pairs_deep p [] = omega arith
pairs_deep p (q ∷ ps) = omega (arith, pairs_deep q ps)

hash_deep : (ps : Pairs) → deepest depth_of (act.hash ps) ≡ deepest pair_depth ps
hash_deep [] = refl
hash_deep (p ∷ ps) = omega (arith, pairs_deep p ps, d.depth_hash_lit (act.keys (p ∷ ps)) (act.values (p ∷ ps)) (act.to_end (p.value.0).span (act.last_span (p.value.1).span (act.values ps))) ((p.value.0).span).from)

pub arguments_deep : (x : Args) → deepest depth_of (act.arguments_of x) ≡ max (deepest depth_of x.0) (deepest pair_depth (x.1.0))
arguments_deep x = omega (arith, deepest_append depth_of x.0 (act.hash (x.1.0)), hash_deep (x.1.0))

list_deep : (o : Option Node) → deepest depth_of (act.list_of o) ≡ deep_if depth_of o
list_deep None = refl
list_deep (Some n) = omega arith

pub items_deep : (x : Args) → deepest depth_of (act.items_of x) ≡ args_depth x
items_deep x = omega (arith, deepest_append depth_of (act.arguments_of x) (act.list_of (x.1.1)), arguments_deep x, list_deep (x.1.1))

-- arguments and a block, with or without a block pass
pub with_deep : (x : Args) (block : Option Node) → max (deepest depth_of (act.arguments_with x block)) (deep_if depth_of (act.or_else block (x.1.1))) ≡ max (args_depth x) (deep_if depth_of block)
with_deep x None = omega (arith, arguments_deep x)
with_deep x (Some b) = omega (arith, items_deep x)

abbrev pub paren_depth : Option (Args × Seen) → ℕ
paren_depth o = deep_if (λ x. max (args_depth x.0) 0) o

abbrev pub tail_depth : Tail → ℕ
tail_depth x = max (paren_depth x.0) (deep_if depth_of x.1)

pub call_deep : (receiver : Option Node) (name : List ℕ) (tail : Tail) (s : Span) (m : Pos) → depth_of (act.call_node receiver name tail s m) ≡ suc (max (deep_if depth_of receiver) (tail_depth tail))
call_deep receiver name (None, None) s m = omega (arith, d.depth_call receiver name [] None None s m)
call_deep receiver name (None, Some b) s m = omega (arith, d.depth_call receiver name [] (Some b) None s m)
call_deep receiver name (Some x, block) s m = omega (arith, d.depth_call receiver name (act.arguments_with x.0 block) (act.or_else block (x.0.1.1)) None s m, with_deep x.0 block)

pub bare_deep : (r : Bool) (u : List ℕ) (s : Span) (m : Pos) → depth_of (act.bare_node r u s m) ≡ 1
bare_deep r u s m =
    let plain : depth_of (act.call_node None u (None, None) s m) ≡ 1 = omega (arith, call_deep None u (None, None) s m) in
    if_same depth_of 1 _ _ _ (d.depth_lit _ s m) (if_same depth_of 1 _ _ _ (d.depth_reraise s m) plain)

pub named_deep : (r : Bool) (t : Seen) (tail : Tail) → depth_of ((act.named_node r t tail).0) ≡ suc (tail_depth tail)
named_deep r t tail = by tail
  where
    call : (tail : Tail) → depth_of (act.call_node None (act.units t) tail (act.to_end (act.span_of t) (act.end_of (act.span_of t) tail.0 tail.1)) (act.start t)) ≡ suc (tail_depth tail)
    call tail = omega (arith, call_deep None (act.units t) tail (act.to_end (act.span_of t) (act.end_of (act.span_of t) tail.0 tail.1)) (act.start t))

    by : (tail : Tail) → depth_of ((act.named_node r t tail).0) ≡ suc (tail_depth tail)
    by (None, None) = omega (arith, bare_deep r (act.units t) (act.span_of t) (act.start t))
    by (None, Some b) = call (None, Some b)
    by (Some (([], ([], None)), z), None) = omega (arith, bare_deep r (act.units t) (act.tokens t z) (act.start t))
    by (Some (([], ([], None)), z), Some b) = call (Some (([], ([], None)), z), Some b)
    by (Some (([], ([], Some o)), z), block) = call (Some (([], ([], Some o)), z), block)
    by (Some (([], (p ∷ ps, o)), z), block) = call (Some (([], (p ∷ ps, o)), z), block)
    by (Some ((n ∷ ns, more), z), block) = call (Some ((n ∷ ns, more), z), block)

pub constant_deep : (t : Seen) (tail : Tail) → depth_of ((act.constant_node t tail).0) ≡ suc (tail_depth tail)
constant_deep t (None, None) = omega (arith, d.depth_const_get base.Here (act.units t) (act.span_of t) (act.start t), d.depth_here)
constant_deep t (None, Some b) = omega (arith, call_deep None (act.units t) (None, Some b) (act.to_end (act.span_of t) b.span) (act.start t))
constant_deep t (Some x, block) = omega (arith, call_deep None (act.units t) (Some x, block) (act.to_end (act.span_of t) (act.end_of (act.span_of t) (Some x) block)) (act.start t))

pub super_deep : (t : Seen) (tail : Tail) → depth_of ((act.super_node t tail).0) ≡ suc (tail_depth tail)
super_deep t (None, block) = omega (arith, d.depth_super None block (act.to_end (act.span_of t) (act.end_of (act.span_of t) None block)) (act.start t))
super_deep t (Some x, block) = omega (arith, d.depth_super (Some (act.arguments_with x.0 block)) (act.or_else block (x.0.1.1)) (act.to_end (act.span_of t) (act.end_of (act.span_of t) (Some x) block)) (act.start t), with_deep x.0 block)

pub yield_deep : (t : Seen) (x : Option (Args × Seen)) → depth_of ((act.yield_node t x).0) ≡ suc (paren_depth x)
yield_deep t None = omega (arith, d.depth_yield [] (act.span_of t) (act.start t))
yield_deep t (Some x) = omega (arith, d.depth_yield (act.items_of x.0) (act.tokens t x.1) (act.start t), items_deep x.0)

pub replaced_deep : (s : Span) (m : Pos) (n : Node) → depth_of (act.replaced s m n) ≡ depth_of n
replaced_deep s m n = d.depth_made n.kind s m ∙ sym (d.depth_made n.kind n.span n.mark)

pub filled_deep : (s : Span) (x : Node × ℕ) → depth_of (act.filled s x) ≡ depth_of x.0
filled_deep s (n, zero) = refl
filled_deep s (n, suc k) = replaced_deep s s.from n

-- ---- parameters

pub flat_option : {A : Type 0} (o : Option A) → deep_if (λ x. 0) o ≡ 0
flat_option None = refl
flat_option (Some x) = refl

abbrev pub parameters_depth : act.Parameters → ℕ
parameters_depth x =
    max (deepest (deepest (λ t. 0)) x.0) (max (deepest (λ p. max 0 (depth_of p.1)) (x.1.0))
    (max (deep_if (deep_if (λ t. 0)) (x.1.1.0)) (max (deepest (deepest (λ t. 0)) (x.1.1.1.0)) (deep_if (λ t. 0) (x.1.1.1.1)))))

swapped : (n a b : ℕ) → max a (max n b) ≡ max n (max a b)
swapped n a b = omega arith

joined_first : (n a b : ℕ) → max (max n a) b ≡ max n (max a b)
joined_first n a b = omega arith

fourth : (n a b c e f : ℕ) → max a (max b (max c (max (max n e) f))) ≡ max n (max a (max b (max c (max e f))))
fourth n a b c e f = ap (λ z. max a (max b (max c z))) (joined_first n e f) ∙ ap (λ z. max a (max b z)) (swapped n c (max e f)) ∙ ap (max a) (swapped n b (max c (max e f))) ∙ swapped n a (max b (max c (max e f)))

after_deep : (names : List Seen) (x : act.Parameters) → parameters_depth (x.0, (x.1.0, (x.1.1.0, (names ∷ x.1.1.1.0, x.1.1.1.1)))) ≡ max (deepest (λ t. 0) names) (parameters_depth x)
after_deep names x = fourth (deepest (λ t. 0) names) (deepest (deepest (λ t. 0)) x.0) (deepest (λ p. max 0 (depth_of p.1)) (x.1.0)) (deep_if (deep_if (λ t. 0)) (x.1.1.0)) (deepest (deepest (λ t. 0)) (x.1.1.1.0)) (deep_if (λ t. 0) (x.1.1.1.1))

pub slot_deep : (s : Stage) (names : List Seen) (x : act.Parameters) → parameters_depth (act.with_slot s names x) ≡ max (deepest (λ t. 0) names) (parameters_depth x)
slot_deep stage.Plain names x = joined_first (deepest (λ t. 0) names) (deepest (deepest (λ t. 0)) x.0) _
slot_deep stage.Optional names x = after_deep names x
slot_deep stage.Rest names x = after_deep names x
slot_deep stage.After names x = after_deep names x

pub name_deep : (s : Stage) (t : Seen) (o : Option Node) (x : act.Parameters) → parameters_depth (act.with_name s t o x) ≡ max (deep_if depth_of o) (parameters_depth x)
name_deep s t None x = omega (arith, slot_deep s (t ∷ []) x)
name_deep s t (Some n) x = omega arith

flat_slots : (xs : List (List Seen)) → deepest (deepest (λ t. 0)) xs ≡ 0
flat_slots [] = refl
flat_slots (x ∷ xs) = omega (arith, deepest_flat x, flat_slots xs)

flat_rest : (o : Option (Option Seen)) → deep_if (deep_if (λ t. 0)) o ≡ 0
flat_rest None = refl
flat_rest (Some o) = flat_option o

pub rest_deep : (name : Option Seen) (x : act.Parameters) → parameters_depth (act.with_rest name x) ≡ parameters_depth x
rest_deep name x =
    ap (λ z. max (deepest (deepest (λ t. 0)) x.0) (max (deepest (λ p. max 0 (depth_of p.1)) (x.1.0)) (max z (max (deepest (deepest (λ t. 0)) (x.1.1.1.0)) (deep_if (λ t. 0) (x.1.1.1.1))))))
    (flat_option name ∙ sym (flat_rest (x.1.1.0)))

defaults_deep : (xs : List (Seen × Node)) → deepest depth_of (map (λ p. p.1) xs) ≡ deepest (λ p. max 0 (depth_of p.1)) xs
defaults_deep [] = refl
defaults_deep (x ∷ xs) = omega (arith, defaults_deep xs)

made_deep : (x : act.Parameters) → params_depth (act.params_of x) ≡ deepest depth_of (map (λ p. p.1) (x.1.0))
made_deep x = d.depth_params _

pub parameters_deep : (x : act.Parameters) → params_depth (act.params_of x) ≡ parameters_depth x
parameters_deep x = omega (arith, made_deep x, defaults_deep (x.1.0), flat_slots x.0, flat_rest (x.1.1.0), flat_slots (x.1.1.1.0), flat_option (x.1.1.1.1))

pub lambda_deep : (params : act.Parameters) (body : Node × ℕ) (s : Span) → depth_of (act.lambda_of params body s) ≡ suc (max (parameters_depth params) (depth_of body.0))
lambda_deep params body s = omega (arith, d.depth_lambda (act.params_of params) (act.filled s body) s s.from, parameters_deep params, filled_deep s body)

-- ---- bodies and methods

part_deep_if : (s : Span) (o : Option (Seen × (Node × ℕ))) → deep_if depth_of (act.part_if s o) ≡ deep_if (λ y. max 0 (depth_of (y.1.0))) o
part_deep_if s None = refl
part_deep_if s (Some x) = omega (arith, filled_deep s x.1)

pub handlers_deep : (l : Seen × (Node × ℕ)) (h : act.Handlers) → depth_of ((act.with_handlers l h).1.0) ≡ suc (max (depth_of (l.1.0)) (max (deepest depth_of h.0) (max (deep_if (λ y. max 0 (depth_of (y.1.0))) (h.1.0)) (deep_if (λ y. max 0 (depth_of (y.1.0))) (h.1.1)))))
handlers_deep l h =
    let s = act.body_span l.1 h in
    omega (arith, d.depth_begin (act.filled s l.1) h.0 (act.part_if s (h.1.0)) (act.part_if s (h.1.1)) s s.from, filled_deep s l.1, part_deep_if s (h.1.0), part_deep_if s (h.1.1))

receiver_deep : (t : Seen) → depth_of (act.receiver_node t) ≡ 1
receiver_deep t = by (act.is_constant t.token.kind)
  where
    by : (c : Bool) → depth_of (make (if c then kind.ConstGet base.Here (act.units t) else kind.SelfRef) (act.span_of t) (act.start t)) ≡ 1
    by true = omega (arith, d.depth_const_get base.Here (act.units t) (act.span_of t) (act.start t), d.depth_here)
    by false = d.depth_self_ref (act.span_of t) (act.start t)

abbrev pub name_depth : act.DefName → ℕ
name_depth x = max (deep_if depth_of x.0) (max 0 (deep_if (λ t. 0) (x.1.1)))

pub on_deep : (l : act.DefName) (x : Seen × Option Seen) → act.is_receiver l ≡ true → name_depth (act.on_receiver l x) ≡ 1 + max (name_depth l) (max 0 (deep_if (λ t. 0) x.1))
on_deep (None, (t, None)) x h = omega (arith, receiver_deep t, flat_option x.1)
on_deep (None, (t, Some e)) x h = absurd (true≢false (sym h))
on_deep (Some n, y) x h = absurd (true≢false (sym h))

pub def_deep : (x : act.DefName) (params : act.Parameters) (body : Node × ℕ) (s : Span) → depth_of (act.def_node x params body s) ≡ suc (max (deep_if depth_of x.0) (max (parameters_depth params) (depth_of body.0)))
def_deep x params body s = omega (arith, d.depth_def x.0 (act.full_name x.1) (act.params_of params) (act.filled s body) s (act.start (x.1.0)), parameters_deep params, filled_deep s body)

-- ---- parts behind a value

pub part_deep : (l : Node) (n : ℕ) (t : Seen) (tail : Tail) (s : Span) → depth_of (act.part_node l n t tail s) ≡ suc (max (depth_of l) (tail_depth tail))
part_deep l n t (None, None) s =
    if_same depth_of (suc (max (depth_of l) 0)) (nat_eq n act.constant_part) _ _ (omega (arith, d.depth_const_get (base.In l) (act.units t) s (act.start t), d.depth_in l)) (omega (arith, call_deep (Some l) (act.part_name n t) (None, None) s (act.start t)))
part_deep l n t (None, Some b) s = call_deep (Some l) (act.part_name n t) (None, Some b) s (act.start t)
part_deep l n t (Some x, block) s = call_deep (Some l) (act.part_name n t) (Some x, block) s (act.start t)

pub selector_deep : (dot : Seen) (o : Option Seen) (tail : Tail) → tail_depth ((act.by_selector dot o tail).0.1) ≡ tail_depth tail
selector_deep dot None tail = refl
selector_deep dot (Some t) tail = refl

-- ---- operators and statements

pub some_level : (n : Node) → 1 ≤ depth_of n
some_level n = omega (arith, d.depth_made n.kind n.span n.mark)

pub joined_deep : (l : Node × ℕ) (x : Seen × Node) → depth_of ((act.joined l x).0) ≡ suc (max (depth_of l.0) (depth_of x.1))
joined_deep l x = by (act.is_word_or x.0.token.kind)
  where
    by : (c : Bool) → depth_of (make (if c then kind.Or l.0 x.1 else kind.And l.0 x.1) (act.nodes l.0 x.1) (act.start x.0)) ≡ suc (max (depth_of l.0) (depth_of x.1))
    by true = d.depth_or l.0 x.1 (act.nodes l.0 x.1) (act.start x.0)
    by false = d.depth_and l.0 x.1 (act.nodes l.0 x.1) (act.start x.0)

pub statements_deep : (xs : List (Option Node)) → deepest depth_of (act.statements xs) ≡ deepest (deep_if depth_of) xs
statements_deep [] = refl
statements_deep (None ∷ xs) = omega (arith, statements_deep xs)
statements_deep (Some n ∷ xs) = omega (arith, statements_deep xs)

pub sequence_deep : (xs : List Node) → depth_of ((act.sequence_of xs).0) ≡ suc (deepest depth_of xs)
sequence_deep [] = d.depth_seq [] _ _
sequence_deep (n ∷ ns) = d.depth_seq (n ∷ ns) _ _

pub jump_deep : (t : Seen) (x : Node × ℕ) → depth_of (act.jump_node t x) ≡ suc (depth_of x.0)
jump_deep t (n, zero) = d.depth_jump _ n _ _
jump_deep t (n, suc k) = d.depth_jump _ _ _ _ ∙ ap suc (replaced_deep _ _ n)

pub array_deep : (n : Node) (ns : List Node) → depth_of (act.array_of n ns) ≡ suc (max (depth_of n) (deepest depth_of ns))
array_deep n ns = d.depth_array_lit (n ∷ ns) _ _

-- ---- what a value calls, and what can be set, by one layer

abbrev layer_depth : act.Layer → ℕ
layer_depth l = of_kind (map-Kind Base Kind ModuleForm Node Params ℕ ℕ ℕ ℕ ℕ base_depth kind_depth form_depth depth_of params_depth l)

abbrev pub callee_depth : Option act.Callee → ℕ
callee_depth (Some (act.method_called receiver name)) = deep_if depth_of receiver
callee_depth (Some act.super_called) = 0
callee_depth None = 0

callee_layer : (l : act.Layer) → is_some (act.callee_in l) ≡ true → layer_depth l ≡ callee_depth (act.callee_in l)
callee_layer (Kind-F.Lit literal.BlockGiven) h = refl
callee_layer (Kind-F.Lit literal.Nil) h = absurd (true≢false (sym h))
callee_layer (Kind-F.Lit literal.True) h = absurd (true≢false (sym h))
callee_layer (Kind-F.Lit literal.False) h = absurd (true≢false (sym h))
callee_layer Kind-F.SelfRef h = absurd (true≢false (sym h))
callee_layer (Kind-F.Int value) h = absurd (true≢false (sym h))
callee_layer (Kind-F.Str units) h = absurd (true≢false (sym h))
callee_layer (Kind-F.Interp parts) h = absurd (true≢false (sym h))
callee_layer (Kind-F.ArrayLit items) h = absurd (true≢false (sym h))
callee_layer (Kind-F.HashLit keys values) h = absurd (true≢false (sym h))
callee_layer (Kind-F.RangeLit low high without_end) h = absurd (true≢false (sym h))
callee_layer (Kind-F.IvarGet name) h = absurd (true≢false (sym h))
callee_layer (Kind-F.GlobalGet name) h = absurd (true≢false (sym h))
callee_layer (Kind-F.LocalGet name) h = absurd (true≢false (sym h))
callee_layer (Kind-F.ConstGet base name) h = absurd (true≢false (sym h))
callee_layer (Kind-F.LocalSet name value) h = absurd (true≢false (sym h))
callee_layer (Kind-F.IvarSet name value) h = absurd (true≢false (sym h))
callee_layer (Kind-F.GlobalSet name value) h = absurd (true≢false (sym h))
callee_layer (Kind-F.ConstSet name value) h = absurd (true≢false (sym h))
callee_layer (Kind-F.MultiSet targets value) h = absurd (true≢false (sym h))
callee_layer (Kind-F.AttrSet receiver name args value) h = absurd (true≢false (sym h))
callee_layer (Kind-F.AttrOpSet receiver name args op value) h = absurd (true≢false (sym h))
callee_layer (Kind-F.Call None name [] None marked) h = refl
callee_layer (Kind-F.Call (Some r) name [] None marked) h = omega arith
callee_layer (Kind-F.Call receiver name (x ∷ xs) block marked) h = absurd (true≢false (sym h))
callee_layer (Kind-F.Call receiver name [] (Some b) marked) h = absurd (true≢false (sym h))
callee_layer (Kind-F.Super None None) h = refl
callee_layer (Kind-F.Super None (Some b)) h = absurd (true≢false (sym h))
callee_layer (Kind-F.Super (Some xs) block) h = absurd (true≢false (sym h))
callee_layer (Kind-F.Yield args) h = absurd (true≢false (sym h))
callee_layer (Kind-F.Block params body) h = absurd (true≢false (sym h))
callee_layer (Kind-F.BlockPass value) h = absurd (true≢false (sym h))
callee_layer (Kind-F.Lambda params body) h = absurd (true≢false (sym h))
callee_layer (Kind-F.Splat value) h = absurd (true≢false (sym h))
callee_layer (Kind-F.Not value) h = absurd (true≢false (sym h))
callee_layer (Kind-F.And left right) h = absurd (true≢false (sym h))
callee_layer (Kind-F.Or left right) h = absurd (true≢false (sym h))
callee_layer (Kind-F.If cond first second) h = absurd (true≢false (sym h))
callee_layer (Kind-F.While cond body body_first) h = absurd (true≢false (sym h))
callee_layer (Kind-F.Case subject whens otherwise) h = absurd (true≢false (sym h))
callee_layer (Kind-F.When tests body) h = absurd (true≢false (sym h))
callee_layer (Kind-F.Begin body clauses else_part ensure_part) h = absurd (true≢false (sym h))
callee_layer (Kind-F.Rescue classes name body) h = absurd (true≢false (sym h))
callee_layer Kind-F.Retry h = absurd (true≢false (sym h))
callee_layer Kind-F.Reraise h = refl
callee_layer (Kind-F.Jump which value) h = absurd (true≢false (sym h))
callee_layer (Kind-F.Def on name params body) h = absurd (true≢false (sym h))
callee_layer (Kind-F.ModuleDef form name body) h = absurd (true≢false (sym h))
callee_layer (Kind-F.Alias new old) h = absurd (true≢false (sym h))
callee_layer (Kind-F.Undef names) h = absurd (true≢false (sym h))
callee_layer (Kind-F.Seq items) h = absurd (true≢false (sym h))
callee_layer (Kind-F.Require name relative) h = absurd (true≢false (sym h))
callee_layer (Kind-F.Prim name args) h = absurd (true≢false (sym h))

yield_layer : (l : act.Layer) → act.yields_in l ≡ true → layer_depth l ≡ 0
yield_layer (Kind-F.Lit which) h = absurd (true≢false (sym h))
yield_layer Kind-F.SelfRef h = absurd (true≢false (sym h))
yield_layer (Kind-F.Int value) h = absurd (true≢false (sym h))
yield_layer (Kind-F.Str units) h = absurd (true≢false (sym h))
yield_layer (Kind-F.Interp parts) h = absurd (true≢false (sym h))
yield_layer (Kind-F.ArrayLit items) h = absurd (true≢false (sym h))
yield_layer (Kind-F.HashLit keys values) h = absurd (true≢false (sym h))
yield_layer (Kind-F.RangeLit low high without_end) h = absurd (true≢false (sym h))
yield_layer (Kind-F.IvarGet name) h = absurd (true≢false (sym h))
yield_layer (Kind-F.GlobalGet name) h = absurd (true≢false (sym h))
yield_layer (Kind-F.LocalGet name) h = absurd (true≢false (sym h))
yield_layer (Kind-F.ConstGet base name) h = absurd (true≢false (sym h))
yield_layer (Kind-F.LocalSet name value) h = absurd (true≢false (sym h))
yield_layer (Kind-F.IvarSet name value) h = absurd (true≢false (sym h))
yield_layer (Kind-F.GlobalSet name value) h = absurd (true≢false (sym h))
yield_layer (Kind-F.ConstSet name value) h = absurd (true≢false (sym h))
yield_layer (Kind-F.MultiSet targets value) h = absurd (true≢false (sym h))
yield_layer (Kind-F.AttrSet receiver name args value) h = absurd (true≢false (sym h))
yield_layer (Kind-F.AttrOpSet receiver name args op value) h = absurd (true≢false (sym h))
yield_layer (Kind-F.Call receiver name args block marked) h = absurd (true≢false (sym h))
yield_layer (Kind-F.Super args block) h = absurd (true≢false (sym h))
yield_layer (Kind-F.Yield []) h = refl
yield_layer (Kind-F.Yield (x ∷ xs)) h = absurd (true≢false (sym h))
yield_layer (Kind-F.Block params body) h = absurd (true≢false (sym h))
yield_layer (Kind-F.BlockPass value) h = absurd (true≢false (sym h))
yield_layer (Kind-F.Lambda params body) h = absurd (true≢false (sym h))
yield_layer (Kind-F.Splat value) h = absurd (true≢false (sym h))
yield_layer (Kind-F.Not value) h = absurd (true≢false (sym h))
yield_layer (Kind-F.And left right) h = absurd (true≢false (sym h))
yield_layer (Kind-F.Or left right) h = absurd (true≢false (sym h))
yield_layer (Kind-F.If cond first second) h = absurd (true≢false (sym h))
yield_layer (Kind-F.While cond body body_first) h = absurd (true≢false (sym h))
yield_layer (Kind-F.Case subject whens otherwise) h = absurd (true≢false (sym h))
yield_layer (Kind-F.When tests body) h = absurd (true≢false (sym h))
yield_layer (Kind-F.Begin body clauses else_part ensure_part) h = absurd (true≢false (sym h))
yield_layer (Kind-F.Rescue classes name body) h = absurd (true≢false (sym h))
yield_layer Kind-F.Retry h = absurd (true≢false (sym h))
yield_layer Kind-F.Reraise h = absurd (true≢false (sym h))
yield_layer (Kind-F.Jump which value) h = absurd (true≢false (sym h))
yield_layer (Kind-F.Def on name params body) h = absurd (true≢false (sym h))
yield_layer (Kind-F.ModuleDef form name body) h = absurd (true≢false (sym h))
yield_layer (Kind-F.Alias new old) h = absurd (true≢false (sym h))
yield_layer (Kind-F.Undef names) h = absurd (true≢false (sym h))
yield_layer (Kind-F.Seq items) h = absurd (true≢false (sym h))
yield_layer (Kind-F.Require name relative) h = absurd (true≢false (sym h))
yield_layer (Kind-F.Prim name args) h = absurd (true≢false (sym h))

abbrev pub place_depth : Option act.Place → ℕ
place_depth (Some (act.attribute_of receiver name args)) = max (depth_of receiver) (deepest depth_of args)
place_depth _ = 0

constant_layer : (l : Base-F Base Kind ModuleForm Node Params) (name : List ℕ) (x : Base) → base_depth x ≡ of_base (map-Base Base Kind ModuleForm Node Params ℕ ℕ ℕ ℕ ℕ base_depth kind_depth form_depth depth_of params_depth l)
    → is_some (act.constant_in l name) ≡ true → base_depth x ≡ place_depth (act.constant_in l name)
constant_layer Base-F.Here name x e h = e
constant_layer Base-F.Top name x e h = absurd (true≢false (sym h))
constant_layer (Base-F.In n) name x e h = absurd (true≢false (sym h))

place_layer : (l : act.Layer) → is_some (act.place_in l) ≡ true → layer_depth l ≡ place_depth (act.place_in l)
place_layer (Kind-F.Lit which) h = absurd (true≢false (sym h))
place_layer Kind-F.SelfRef h = absurd (true≢false (sym h))
place_layer (Kind-F.Int value) h = absurd (true≢false (sym h))
place_layer (Kind-F.Str units) h = absurd (true≢false (sym h))
place_layer (Kind-F.Interp parts) h = absurd (true≢false (sym h))
place_layer (Kind-F.ArrayLit items) h = absurd (true≢false (sym h))
place_layer (Kind-F.HashLit keys values) h = absurd (true≢false (sym h))
place_layer (Kind-F.RangeLit low high without_end) h = absurd (true≢false (sym h))
place_layer (Kind-F.IvarGet name) h = refl
place_layer (Kind-F.GlobalGet name) h = refl
place_layer (Kind-F.LocalGet name) h = absurd (true≢false (sym h))
place_layer (Kind-F.ConstGet base name) h = constant_layer (out-Base base) name base (depth_out_base base) h
place_layer (Kind-F.LocalSet name value) h = absurd (true≢false (sym h))
place_layer (Kind-F.IvarSet name value) h = absurd (true≢false (sym h))
place_layer (Kind-F.GlobalSet name value) h = absurd (true≢false (sym h))
place_layer (Kind-F.ConstSet name value) h = absurd (true≢false (sym h))
place_layer (Kind-F.MultiSet targets value) h = absurd (true≢false (sym h))
place_layer (Kind-F.AttrSet receiver name args value) h = absurd (true≢false (sym h))
place_layer (Kind-F.AttrOpSet receiver name args op value) h = absurd (true≢false (sym h))
place_layer (Kind-F.Call (Some r) name args None marked) h = omega (arith, d.highest_of_all args)
place_layer (Kind-F.Call (Some r) name args (Some b) marked) h = absurd (true≢false (sym h))
place_layer (Kind-F.Call None name [] None marked) h = refl
place_layer (Kind-F.Call None name (x ∷ xs) block marked) h = absurd (true≢false (sym h))
place_layer (Kind-F.Call None name [] (Some b) marked) h = absurd (true≢false (sym h))
place_layer (Kind-F.Super args block) h = absurd (true≢false (sym h))
place_layer (Kind-F.Yield args) h = absurd (true≢false (sym h))
place_layer (Kind-F.Block params body) h = absurd (true≢false (sym h))
place_layer (Kind-F.BlockPass value) h = absurd (true≢false (sym h))
place_layer (Kind-F.Lambda params body) h = absurd (true≢false (sym h))
place_layer (Kind-F.Splat value) h = absurd (true≢false (sym h))
place_layer (Kind-F.Not value) h = absurd (true≢false (sym h))
place_layer (Kind-F.And left right) h = absurd (true≢false (sym h))
place_layer (Kind-F.Or left right) h = absurd (true≢false (sym h))
place_layer (Kind-F.If cond first second) h = absurd (true≢false (sym h))
place_layer (Kind-F.While cond body body_first) h = absurd (true≢false (sym h))
place_layer (Kind-F.Case subject whens otherwise) h = absurd (true≢false (sym h))
place_layer (Kind-F.When tests body) h = absurd (true≢false (sym h))
place_layer (Kind-F.Begin body clauses else_part ensure_part) h = absurd (true≢false (sym h))
place_layer (Kind-F.Rescue classes name body) h = absurd (true≢false (sym h))
place_layer Kind-F.Retry h = absurd (true≢false (sym h))
place_layer Kind-F.Reraise h = refl
place_layer (Kind-F.Jump which value) h = absurd (true≢false (sym h))
place_layer (Kind-F.Def on name params body) h = absurd (true≢false (sym h))
place_layer (Kind-F.ModuleDef form name body) h = absurd (true≢false (sym h))
place_layer (Kind-F.Alias new old) h = absurd (true≢false (sym h))
place_layer (Kind-F.Undef names) h = absurd (true≢false (sym h))
place_layer (Kind-F.Seq items) h = absurd (true≢false (sym h))
place_layer (Kind-F.Require name relative) h = absurd (true≢false (sym h))
place_layer (Kind-F.Prim name args) h = absurd (true≢false (sym h))

-- ---- a body with clauses

abbrev pub body_depth : Option (Node × (List Node × (Option Node × Option Node))) → ℕ
body_depth None = 0
body_depth (Some x) = max (depth_of x.0) (max (deepest depth_of (x.1.0)) (max (deep_if depth_of (x.1.1.0)) (deep_if depth_of (x.1.1.1))))

body_layer : (l : act.Layer) → is_some (act.body_in l) ≡ true → layer_depth l ≡ body_depth (act.body_in l)
body_layer (Kind-F.Lit which) h = absurd (true≢false (sym h))
body_layer Kind-F.SelfRef h = absurd (true≢false (sym h))
body_layer (Kind-F.Int value) h = absurd (true≢false (sym h))
body_layer (Kind-F.Str units) h = absurd (true≢false (sym h))
body_layer (Kind-F.Interp parts) h = absurd (true≢false (sym h))
body_layer (Kind-F.ArrayLit items) h = absurd (true≢false (sym h))
body_layer (Kind-F.HashLit keys values) h = absurd (true≢false (sym h))
body_layer (Kind-F.RangeLit low high without_end) h = absurd (true≢false (sym h))
body_layer (Kind-F.IvarGet name) h = absurd (true≢false (sym h))
body_layer (Kind-F.GlobalGet name) h = absurd (true≢false (sym h))
body_layer (Kind-F.LocalGet name) h = absurd (true≢false (sym h))
body_layer (Kind-F.ConstGet base name) h = absurd (true≢false (sym h))
body_layer (Kind-F.LocalSet name value) h = absurd (true≢false (sym h))
body_layer (Kind-F.IvarSet name value) h = absurd (true≢false (sym h))
body_layer (Kind-F.GlobalSet name value) h = absurd (true≢false (sym h))
body_layer (Kind-F.ConstSet name value) h = absurd (true≢false (sym h))
body_layer (Kind-F.MultiSet targets value) h = absurd (true≢false (sym h))
body_layer (Kind-F.AttrSet receiver name args value) h = absurd (true≢false (sym h))
body_layer (Kind-F.AttrOpSet receiver name args op value) h = absurd (true≢false (sym h))
body_layer (Kind-F.Call receiver name args block marked) h = absurd (true≢false (sym h))
body_layer (Kind-F.Super args block) h = absurd (true≢false (sym h))
body_layer (Kind-F.Yield args) h = absurd (true≢false (sym h))
body_layer (Kind-F.Block params body) h = absurd (true≢false (sym h))
body_layer (Kind-F.BlockPass value) h = absurd (true≢false (sym h))
body_layer (Kind-F.Lambda params body) h = absurd (true≢false (sym h))
body_layer (Kind-F.Splat value) h = absurd (true≢false (sym h))
body_layer (Kind-F.Not value) h = absurd (true≢false (sym h))
body_layer (Kind-F.And left right) h = absurd (true≢false (sym h))
body_layer (Kind-F.Or left right) h = absurd (true≢false (sym h))
body_layer (Kind-F.If cond first second) h = absurd (true≢false (sym h))
body_layer (Kind-F.While cond body body_first) h = absurd (true≢false (sym h))
body_layer (Kind-F.Case subject whens otherwise) h = absurd (true≢false (sym h))
body_layer (Kind-F.When tests body) h = absurd (true≢false (sym h))
body_layer (Kind-F.Begin body clauses None None) h = omega (arith, d.highest_of_all clauses)
body_layer (Kind-F.Begin body clauses None (Some y)) h = omega (arith, d.highest_of_all clauses)
body_layer (Kind-F.Begin body clauses (Some x) None) h = omega (arith, d.highest_of_all clauses)
body_layer (Kind-F.Begin body clauses (Some x) (Some y)) h = omega (arith, d.highest_of_all clauses)
body_layer (Kind-F.Rescue classes name body) h = absurd (true≢false (sym h))
body_layer Kind-F.Retry h = absurd (true≢false (sym h))
body_layer Kind-F.Reraise h = absurd (true≢false (sym h))
body_layer (Kind-F.Jump which value) h = absurd (true≢false (sym h))
body_layer (Kind-F.Def on name params body) h = absurd (true≢false (sym h))
body_layer (Kind-F.ModuleDef form name body) h = absurd (true≢false (sym h))
body_layer (Kind-F.Alias new old) h = absurd (true≢false (sym h))
body_layer (Kind-F.Undef names) h = absurd (true≢false (sym h))
body_layer (Kind-F.Seq items) h = absurd (true≢false (sym h))
body_layer (Kind-F.Require name relative) h = absurd (true≢false (sym h))
body_layer (Kind-F.Prim name args) h = absurd (true≢false (sym h))

refilled_deep : (s : Span) (n : Node) → depth_of (act.refilled s n) ≡ depth_of n
refilled_deep s n = if_same depth_of (depth_of n) (act.is_empty_in (act.layer n)) (act.replaced s s.from n) n (replaced_deep s s.from n) refl

refilled_part : (s : Span) (o : Option Node) → deep_if depth_of (option_map (act.refilled s) o) ≡ deep_if depth_of o
refilled_part s None = refl
refilled_part s (Some n) = refilled_deep s n

pub spread_deep : (s : Span) (n : Node) → depth_of (act.spread s n) ≡ depth_of n
spread_deep s n = by (act.body_in (act.layer n)) (λ h. depth_layer n ∙ ap suc (body_layer (act.layer n) h))
  where
    by : (o : Option (Node × (List Node × (Option Node × Option Node)))) → (is_some o ≡ true → depth_of n ≡ suc (body_depth o)) → depth_of (act.spread_over s o n) ≡ depth_of n
    by None h = replaced_deep s s.from n
    by (Some x) h = omega (
      arith,
      h refl,
      d.depth_begin (act.refilled s x.0) (x.1.0) (option_map (act.refilled s) (x.1.1.0)) (option_map (act.refilled s) (x.1.1.1)) s s.from,
      refilled_deep s x.0,
      refilled_part s (x.1.1.0),
      refilled_part s (x.1.1.1),
    )

pub callee_is : (l : Node × ℕ) → is_some (act.callee l) ≡ true → depth_of l.0 ≡ suc (callee_depth (act.callee l))
callee_is l h = by (act.is_bare l.1) h
  where
    by : (c : Bool) → is_some (if c then act.callee_in (act.layer l.0) else None) ≡ true → depth_of l.0 ≡ suc (callee_depth (if c then act.callee_in (act.layer l.0) else None))
    by true h = depth_layer l.0 ∙ ap suc (callee_layer (act.layer l.0) h)
    by false h = absurd (true≢false (sym h))

pub yields_is : (l : Node × ℕ) → act.yields l ≡ true → depth_of l.0 ≡ 1
yields_is l h = depth_layer l.0 ∙ ap suc (yield_layer (act.layer l.0) ((and_split (nat_eq l.1 act.yielding) (act.yields_in (act.layer l.0)) h).1))

pub place_is : (l : Node × ℕ) → act.is_place l ≡ true → depth_of l.0 ≡ suc (place_depth (act.place_of l))
place_is l h = by (nat_eq l.1 act.variable || (nat_eq l.1 act.attribute || nat_eq l.1 act.indexed)) h
  where
    by : (c : Bool) → is_some (if c then act.place_in (act.layer l.0) else None) ≡ true → depth_of l.0 ≡ suc (place_depth (if c then act.place_in (act.layer l.0) else None))
    by true h = depth_layer l.0 ∙ ap suc (place_layer (act.layer l.0) h)
    by false h = absurd (true≢false (sym h))

pub target_deep : (l : Node × ℕ) → depth_of (act.target_node l) ≡ depth_of l.0
target_deep l = by (act.place_of l) (λ h. place_is l h)
  where
    by : (o : Option act.Place) → (is_some o ≡ true → depth_of l.0 ≡ suc (place_depth o)) → depth_of (act.name_target o l.0) ≡ depth_of l.0
    by None h = refl
    by (Some (act.local name)) h = omega (arith, h refl, d.depth_local_get name (l.0).span (l.0).mark)
    by (Some (act.ivar name)) h = refl
    by (Some (act.global name)) h = refl
    by (Some (act.constant name)) h = refl
    by (Some (act.attribute_of receiver name args)) h = refl

-- ---- assignments

set_deep : (place : Option act.Place) (target value : Node) → is_some place ≡ true → depth_of target ≡ suc (place_depth place) → depth_of (act.set_place place target value) ≡ max (depth_of target) (suc (depth_of value))
set_deep None target value h e = absurd (true≢false (sym h))
set_deep (Some (act.local name)) target value h e = omega (arith, e, d.depth_local_set name value (act.nodes target value) target.mark)
set_deep (Some (act.ivar name)) target value h e = omega (arith, e, d.depth_ivar_set name value (act.nodes target value) target.mark)
set_deep (Some (act.global name)) target value h e = omega (arith, e, d.depth_global_set name value (act.nodes target value) target.mark)
set_deep (Some (act.constant name)) target value h e = omega (arith, e, d.depth_const_set name value (act.nodes target value) target.mark)
set_deep (Some (act.attribute_of receiver name args)) target value h e = omega (arith, e, d.depth_attr_set receiver name args value (act.nodes target value) target.mark)

pub assigned_deep : (l : Node × ℕ) (x : Held (Node × ℕ)) → act.is_place l ≡ true → depth_of ((act.assigned l x).0) ≡ max (depth_of l.0) (suc (depth_of (x.value.0)))
assigned_deep l x h = set_deep (act.place_of l) l.0 (x.value.0) h (place_is l h)

update_deep : (op : Operator) (t : Seen) (place : act.Place) (target value : Node) → act.is_variable place ≡ true → depth_of target ≡ 1 → depth_of (act.combined_set op t place target value) ≡ suc (suc (depth_of value))
update_deep op t place target value h e = by op
  where
    set_is : (place : act.Place) → act.is_variable place ≡ true → (v w : Node) → depth_of (act.set_to place target v w) ≡ suc (depth_of v)
    set_is (act.local name) h v w = d.depth_local_set name v (act.nodes target w) target.mark
    set_is (act.ivar name) h v w = d.depth_ivar_set name v (act.nodes target w) target.mark
    set_is (act.global name) h v w = d.depth_global_set name v (act.nodes target w) target.mark
    set_is (act.constant name) h v w = absurd (true≢false (sym h))
    set_is (act.attribute_of receiver name args) h v w = absurd (true≢false (sym h))

    named : (place : act.Place) → depth_of (act.name_target (Some place) target) ≡ 1
    named (act.local name) = d.depth_local_get name target.span target.mark
    named (act.ivar name) = e
    named (act.global name) = e
    named (act.constant name) = e
    named (act.attribute_of receiver name args) = e

    call : (o : Operator) → depth_of (act.set_to place target (act.combined o t target value) value) ≡ suc (suc (depth_of value))
    call o = omega (arith, set_is place h (act.combined o t target value) value, d.depth_call (Some target) (act.method_of_operator o) (value ∷ []) None None (act.nodes target value) (act.start t), e, some_level value)

    by : (o : Operator) → depth_of (act.combined_set o t place target value) ≡ suc (suc (depth_of value))
    by operator.Or = omega (arith, named place, set_is place h value value, d.depth_or (act.name_target (Some place) target) (act.set_to place target value value) (act.nodes target value) (act.start t))
    by operator.And = omega (arith, named place, set_is place h value value, d.depth_and (act.name_target (Some place) target) (act.set_to place target value value) (act.nodes target value) (act.start t))
    by operator.Add = call operator.Add
    by operator.Sub = call operator.Sub
    by operator.Mul = call operator.Mul
    by operator.Div = call operator.Div
    by operator.Mod = call operator.Mod
    by operator.Pow = call operator.Pow
    by operator.ShiftLeft = call operator.ShiftLeft

-- what is set can be set
pub taken : (f : act.Place → Bool) (o : Option act.Place) → act.takes f o ≡ true → is_some o ≡ true
taken f None h = absurd (true≢false (sym h))
taken f (Some place) h = refl

updated_deep : (l : Node × ℕ) (x : Seen × (Node × ℕ)) → act.sets_variable l ≡ true → depth_of ((act.operator_updated l x).0) ≡ max (depth_of l.0) (suc (suc (depth_of (x.1.0))))
updated_deep l x h = by (act.place_of l) h (place_is l (taken act.is_variable (act.place_of l) h))
  where
    value : Node
    value = x.1.0

    t : Seen
    t = x.0

    by : (o : Option act.Place) → act.takes act.is_variable o ≡ true → depth_of l.0 ≡ suc (place_depth o) → depth_of (act.combined_place o t l.0 value) ≡ max (depth_of l.0) (suc (suc (depth_of value)))
    by None h e = absurd (true≢false (sym h))
    by (Some (act.local name)) h e = omega (arith, e, update_deep (act.operator_of_kind t.token.kind) t (act.local name) l.0 value h e)
    by (Some (act.ivar name)) h e = omega (arith, e, update_deep (act.operator_of_kind t.token.kind) t (act.ivar name) l.0 value h e)
    by (Some (act.global name)) h e = omega (arith, e, update_deep (act.operator_of_kind t.token.kind) t (act.global name) l.0 value h e)
    by (Some (act.constant name)) h e = absurd (true≢false (sym h))
    by (Some (act.attribute_of receiver name args)) h e = absurd (true≢false (sym h))

variable_level : (l : Node × ℕ) → act.sets_variable l ≡ true → depth_of l.0 ≡ 1
variable_level l h = by (act.place_of l) h (place_is l (taken act.is_variable (act.place_of l) h))
  where
    by : (o : Option act.Place) → act.takes act.is_variable o ≡ true → depth_of l.0 ≡ suc (place_depth o) → depth_of l.0 ≡ 1
    by None h e = absurd (true≢false (sym h))
    by (Some (act.local name)) h e = e
    by (Some (act.ivar name)) h e = e
    by (Some (act.global name)) h e = e
    by (Some (act.constant name)) h e = absurd (true≢false (sym h))
    by (Some (act.attribute_of receiver name args)) h e = absurd (true≢false (sym h))

pub variable_deep : (l : Node × ℕ) (x : Held (Held (Seen × (Node × ℕ)))) → act.sets_variable l ≡ true → depth_of ((act.variable_updated l x).0) ≡ max (depth_of l.0) (suc (suc (depth_of (x.value.value.1.0))))
variable_deep l x h = updated_deep l x.value.value h

-- where the variable is two nodes below
pub operator_deep : (l : Node × ℕ) (x : Seen × (Node × ℕ)) → act.sets_variable l ≡ true → depth_of ((act.operator_updated l x).0) ≡ suc (suc (max (depth_of l.0) (depth_of (x.1.0))))
operator_deep l x h = omega (arith, updated_deep l x h, variable_level l h, some_level (x.1.0))

pub attribute_deep : (l : Node × ℕ) (x : Held (Seen × (Node × ℕ))) → act.sets_attribute l ≡ true → depth_of ((act.attribute_updated l x).0) ≡ max (depth_of l.0) (suc (depth_of (x.value.1.0)))
attribute_deep l x h = by (act.place_of l) h (place_is l (taken act.is_attribute (act.place_of l) h))
  where
    value : Node
    value = x.value.1.0

    t : Seen
    t = x.value.0

    by : (o : Option act.Place) → act.takes act.is_attribute o ≡ true → depth_of l.0 ≡ suc (place_depth o) → depth_of (act.attribute_place o t l.0 value) ≡ max (depth_of l.0) (suc (depth_of value))
    by None h e = absurd (true≢false (sym h))
    by (Some (act.local name)) h e = absurd (true≢false (sym h))
    by (Some (act.ivar name)) h e = absurd (true≢false (sym h))
    by (Some (act.global name)) h e = absurd (true≢false (sym h))
    by (Some (act.constant name)) h e = absurd (true≢false (sym h))
    by (Some (act.attribute_of receiver name args)) h e = omega (arith, e, d.depth_attr_op_set receiver name args (act.operator_of_kind t.token.kind) value (act.nodes l.0 value) (l.0).mark)

-- ---- commands

pub command_deep : (l : Node × ℕ) (x : Held ((Args × ℕ) × Option Node)) → is_some (act.callee l) ≡ true → depth_of ((act.command_node l x).0) ≡ max (depth_of l.0) (suc (max (args_depth (x.value.0.0)) (deep_if depth_of (x.value.1))))
command_deep l x h = by (act.callee l) h (callee_is l h)
  where
    args : Args
    args = x.value.0.0

    block : Option Node
    block = x.value.1

    by : (o : Option act.Callee) → is_some o ≡ true → depth_of l.0 ≡ suc (callee_depth o) → depth_of (act.command_call l.0 o (x.value.0) block) ≡ max (depth_of l.0) (suc (max (args_depth args) (deep_if depth_of block)))
    by None h e = absurd (true≢false (sym h))
    by (Some (act.method_called receiver name)) h e = omega (arith, e, with_deep args block, d.depth_call receiver name (act.arguments_with args block) (act.or_else block (args.1.1)) (act.marked_place (x.value.0)) (act.command_span l.0 args block) (l.0).mark)
    by (Some act.super_called) h e = omega (arith, e, with_deep args block, d.depth_super (Some (act.arguments_with args block)) (act.or_else block (args.1.1)) (act.command_span l.0 args block) (l.0).mark)

pub yield_command_deep : (l : Node × ℕ) (x : Held (Args × ℕ)) → act.yields l ≡ true → depth_of ((act.yield_command l x).0) ≡ max (depth_of l.0) (suc (args_depth (x.value.0)))
yield_command_deep l x h = omega (arith, yields_is l h, items_deep (x.value.0), d.depth_yield (act.items_of (x.value.0)) (act.command_span l.0 (x.value.0) None) (l.0).mark)

-- ---- arguments

pub key_deep : (x : Args) (v : Node) → act.is_single x ≡ true → args_depth (act.key_first x v) ≡ suc (max (args_depth x) (depth_of v))
key_deep (k ∷ [], ([], None)) v h = omega arith
key_deep ([], more) v h = absurd (true≢false (sym h))
key_deep (k ∷ j ∷ ns, more) v h = absurd (true≢false (sym h))
key_deep (k ∷ [], (p ∷ ps, block)) v h = absurd (true≢false (sym h))
key_deep (k ∷ [], ([], Some b)) v h = absurd (true≢false (sym h))

-- behind what has no block pass
pub more_deep : (x y : Args) → x.1.1 ≡ None → args_depth (act.with_more x y) ≡ max (args_depth x) (args_depth y)
more_deep x y e = omega (arith, deepest_append depth_of x.0 y.0, deepest_append pair_depth (x.1.0) (y.1.0), ap (λ o. deep_if depth_of (act.or_else o (y.1.1))) e, ap (deep_if depth_of) e)

pub single_open : (x : Args) → act.is_single x ≡ true → x.1.1 ≡ None
single_open (k ∷ [], ([], None)) h = refl
single_open ([], more) h = absurd (true≢false (sym h))
single_open (k ∷ j ∷ ns, more) h = absurd (true≢false (sym h))
single_open (k ∷ [], (p ∷ ps, block)) h = absurd (true≢false (sym h))
single_open (k ∷ [], ([], Some b)) h = absurd (true≢false (sym h))

pub pair_open : (x : Args) → act.has_pair x ≡ true → x.1.1 ≡ None
pair_open (ns, (p ∷ ps, None)) h = refl
pair_open (ns, (p ∷ ps, Some b)) h = absurd (true≢false (sym h))
pair_open (ns, ([], block)) h = absurd (true≢false (sym h))
