-- In the small setting calls of methods and blocks and jumps to tokens follow Ruby's.
use Rattle.std.proofs.Common.{◌≡◌, inl, inr, ⊎_elim, ℕ, zero, suc, not, List, [], ◌++◌, length, filter, flat_map, Some, refl, sym, ap, ◌∙◌, subst}
use Rattle.std.specs.Prelude.{is_some}
use Rattle.ruby_meaning.specs.declared.tree.Node.{Node}
use Rattle.ruby_meaning.specs.declared.tree.Params.{out-Params}
use Rattle.es5_tree.specs.declared.tree.EsStmt.{EsStmt}
use Rattle.es5_tree.specs.Values.{Obj}
use Rattle.ruby_evaluation.specs.Tables.{Name, at}
use Rattle.ruby_evaluation.specs.State.{Ruby, Method, Def, Closure}
use Rattle.ruby_evaluation.specs.Parameters.{Parts}
use Rattle.ruby_evaluation.specs.Locals.{Declared, only, of_kind, says, deepest, all_nil, own_of_block, is_visible, placed, optional_places, behind_all, slot_names, rest_names, in_list, all_names}
use Rattle.both_meanings.specs.World.{World, Grows, Function, stands}
use Rattle.both_meanings.specs.Holds.{Site, Texts}
use Rattle.both_meanings.specs.Code.{IsText, no_parts, IsMethod, IsBlock}
use Rattle.both_meanings.specs.Small.{CodeOf, of_int, of_self, of_next, of_return, small_texts, MethodOf, BlockOf, MethodCall, BlockCall, TokenJump}
use Rattle.both_meanings.proofs.Growing.{sees_grows, module_grows, modules_grow, sees_local_grows}
use Rattle.both_meanings.proofs.Finding.{found_method}
use Rattle.both_meanings.proofs.Methods.{method_follows}
use Rattle.both_meanings.proofs.Blocks.{block_follows}
use Rattle.both_meanings.proofs.Landing.{landing_follows}
use Rattle.both_meanings.proofs.Setting.{simulates}

-- ---- what stands for a text stands for it in a later world

module _ {X : Texts} {w w1 : World} (g : Grows w w1) where
  pub text_grows : {text : Node} {f : Function} → IsText X w text f → IsText X w1 text f
  text_grows {f = f} i = record {
    a = i.a;
    small = i.small;
    site = i.site;
    loop = i.loop;
    room = i.room;
    own = i.own;
    nil = i.nil;
    begin = i.begin;
    begins = i.begins;
    code = i.code;
    stands_for = i.stands_for;
    result = i.result;
    named = i.named;
    rest = i.rest;
    body = i.body;
    nameless = i.nameless;
    first = i.first;
    tail = i.tail;
    first_is = i.first_is;
    no_self = i.no_self;
    params = i.params;
    quiet = i.quiet;
    self = i.self;
    temps = i.temps;
    declares = i.declares;
    free = i.free;
    free_home = i.free_home;
    free_modules = i.free_modules;
    shape = i.shape;
    there = g.shape f.scope i.shape i.there;
    sees = λ y u e. sees_grows g f.scope y u (i.sees y u e);
    knows = λ o h e. g.function o h (i.knows o h e);
    nil_object = i.nil_object;
    nil_is = g.object 0 i.nil_object i.nil_is;
    nil_name = i.nil_name;
  }

  pub method_grows : {x : Method} {f : Function} → IsMethod X w x f → IsMethod X w1 x f
  unfolding text_grows
  method_grows {x} {f} i = record { no_parameters = i.no_parameters; text = text_grows i.text; covers = i.covers; nexts = i.nexts; takes_block = i.takes_block; names = i.names; home = module_grows g f.scope _ x.owner i.home; modules = modules_grow g f.scope x.around.modules i.modules }

  pub block_grows : {c : Closure} {f : Function} → IsBlock X w c f → IsBlock X w1 c f
  unfolding text_grows
  block_grows {c} {f} i = record {
    call = i.call;
    ends = i.ends;
    no_parameters = i.no_parameters;
    text = text_grows i.text;
    returns = i.returns;
    frame = i.frame;
    around = g.frame c.frame i.frame i.around;
    made = i.made;
    free_block = i.free_block;
    names = λ y e. ⊎_elim inl (λ q. inr (q.0, (q.1.0, sees_local_grows g c.frame q.1.0 y q.1.1))) (i.names y e);
  }

-- ---- texts of the small setting have no locals

says_none : (n a : ℕ) (site : Site) (t : ℕ) (node : Node) (code : List EsStmt) → CodeOf a site t node code → says n node ≡ only []
says_none zero a site t node code c = refl
says_none (suc n) _ site t node _ (of_int a _ _ _ i ts e k l x y) = ap (λ q. of_kind (says n) q node.mark) k
says_none (suc n) _ site t node _ (of_self a _ _ _ ts e k l x y) = ap (λ q. of_kind (says n) q node.mark) k
says_none (suc n) _ site t node _ (of_next a _ _ _ q t0 ts e k x y l c j) = ap (λ z. of_kind (says n) z node.mark) k ∙ ap (λ z. only z.names) (says_none n a site t q _ c)
says_none (suc n) _ site t node _ (of_return a _ _ _ q t0 ts e k y l c j) = ap (λ z. of_kind (says n) z node.mark) k ∙ ap (λ z. only z.names) (says_none n a site t q _ c)

own_none : (r : Ruby) (c : Closure) (a : ℕ) (site : Site) (code : List EsStmt) → out-Params c.params ≡ no_parts → CodeOf a site 0 c.body code → own_of_block r c.frame c.start c.params c.body ≡ []
own_none r c a site code e of =
    ap (λ ds. parameters (out-Params c.params) ++ filter (λ d. not (is_visible (length r.frames) r (Some c.frame) c.start d.0)) (all_names (says deepest) (out-Params c.params).defaults ++ ds)) (ap (λ s. s.names) (says_none deepest a site 0 c.body code of))
    ∙ ap (λ P. parameters P ++ filter (λ d. not (is_visible (length r.frames) r (Some c.frame) c.start d.0)) (all_names (says deepest) P.defaults ++ [])) e
  where
    parameters : Parts → Declared
    parameters p = placed c.start (flat_map slot_names p.plain) ++ optional_places c.start p.optional p.defaults ++ placed (behind_all c.start p.defaults) (rest_names p.rest ++ flat_map slot_names p.after ++ in_list p.block)

-- ---- the laws

pub method_call : MethodCall
method_call nil called files d w st s h v b u bu vu bv m x plain e l le p =
    let f = found_method h v u m x vu plain e in
    let i = f.is in
    let t : MethodOf (small_texts nil) i.since (Def x) i.function = i.text in
    let same : x ≡ t.method = def_is x t.method t.is in
    let stood : IsMethod (small_texts nil) w x i.function = method_grows i.grown (subst (λ y. IsMethod (small_texts nil) i.since y i.function) (sym same) t.stands) in
    (f.function, f.gets, method_follows (simulates nil called files d) h x i.function stood f.function i.is v b u bu vu bv m l le e p)
  where
    def_is : (x y : Method) → Def x ≡ Def y → x ≡ y
    def_is x y e = cc

pub block_call : BlockCall
unfolding block_grows
block_call nil called files d w st s h k o c form e b l le p =
    let i = (h.objects.procs k o c form e).1 in
    let t : BlockOf (small_texts nil) i.since c i.function = i.text in
    let stood : IsBlock (small_texts nil) w c i.function = block_grows i.grown t.stands in
    (i.self, i.self_value, block_follows (simulates nil called files d) h c i.function stood (covers t) o i.is i.self (Obj nil) i.self_value k b form l le p)
  where
    covers : (t : BlockOf (small_texts nil) (h.objects.procs k o c form e).1.since c (h.objects.procs k o c form e).1.function) → (y : Name) → is_some (at y (all_nil (own_of_block st.ruby c.frame c.start c.params c.body) [])) ≡ stands y t.stands.text.own
    covers t y = ap (λ ds. is_some (at y (all_nil ds []))) (own_none st.ruby c t.depth t.site t.code t.stands.no_parameters t.of) ∙ ap (stands y) (sym t.none)

pub token_jump : TokenJump
token_jump nil called w0 w before st s0 s h0 n o is later stay kept f tr t kk a l lands inner = landing_follows h0 n o is later stay kept f tr t kk a l lands inner
