-- The run of a program of calls of `puts`: a unit for each file and sequence, and for each call three, the call, its text, and what the host writes.
use denote.Hole.Carrier
use Rattle.std.proofs.Common.{◌≡◌, inl, inr, ⊎_elim, ℕ, zero, suc, ◌+◌, ◌-◌, ◌<◌, ◌≤◌, Bool, true, false, ◌&&◌, List, [], ◌∷◌, ◌++◌, length, map, take, refl, sym, ap, ◌∙◌, subst, arith, append_assoc, append-nil, Option, None, Some}
use Rattle.std.specs.Prelude.{codes, bytes_eq, is_some, option_to_list, ⊤}
use Rattle.std.specs.List.{flat_map}
use Rattle.std.proofs.lemmas.List.{take-map, take_all, length-map, length-append, take-append-le}
use Rattle.std.proofs.lemmas.Slice.Eq.{bytes_eq-Decides}
use Rattle.std.proofs.Math.Seq.{take-append-add}
use Rattle.std.proofs.lemmas.Bool.{cases_lt, false≢true}
use Rattle.opal_base.specs.Shown.{Wrote, Shown, Ended, Going, Shows, ShowsInTurn}
use Rattle.opal_base.specs.Text.{utf8_of}
use Rattle.opal_base.specs.declared.place.Pos.{Pos}
use Rattle.ruby_meaning.specs.declared.bundle.Bundle.{Bundle}
use Rattle.ruby_meaning.specs.declared.value.Value.{Value}
use Rattle.ruby_meaning.specs.declared.value.Value.TheVariants as value
use Rattle.ruby_meaning.specs.declared.tree.Base.{Base}
use Rattle.ruby_meaning.specs.declared.tree.Base.TheFolds.{ind-Node, fold-roll-Kind, fold-roll-Node, map-Kind}
use Rattle.ruby_meaning.specs.declared.tree.Base.TheOpen.{Kind-F, Node-F}
use Rattle.ruby_meaning.specs.declared.tree.Kind.{Kind, out-Kind, roll-Kind, out-roll-Kind}
use Rattle.ruby_meaning.specs.declared.tree.ModuleForm.{ModuleForm}
use Rattle.ruby_meaning.specs.declared.tree.Node.{Node, roll-Node}
use Rattle.ruby_meaning.specs.declared.tree.Params.{Params}
use Rattle.ruby_meaning.specs.Puts.{Putting, putting, kind_putting, puts_text, only_text, all_put, all_texts, of_kind}
use Rattle.ruby_evaluation.specs.Tables.{Name, Text}
use Rattle.ruby_evaluation.specs.Ends.{RubyEnd, Finished}
use Rattle.ruby_evaluation.specs.State.{Frame, Ruby, with_new_frame, closed}
use Rattle.ruby_evaluation.specs.Ancestors.{find, main_object}
use Rattle.ruby_evaluation.specs.Task.{Evaluate, Val, Task, Done, Change, Host, ◌>>=◌, Place, Moment, State, Outcome, Ends, Starved, andthen, onval, gives, walk}
use Rattle.ruby_evaluation.specs.Lists.{in_order, values, most_arguments, is_splat, splat_in, items_of_part, within}
use Rattle.ruby_evaluation.specs.Calls.{call_method, found, missed, missing_name, puts_or_none, in_frame}
use Rattle.ruby_evaluation.specs.Definitions.{body_frame}
use Rattle.ruby_evaluation.specs.Requires.{Files, marked, run_reached}
use Rattle.ruby_evaluation.specs.Nodes.{act, me, with_block}
use Rattle.ruby_evaluation.specs.Run.{boot, eval_to, outcome, shown, ruby_run}
use Rattle.ruby_evaluation.specs.Core.{IsEmpty, bundled}
use Rattle.ruby_evaluation.specs.Laws.{PutsInTurn}
use Rattle.ruby_evaluation.proofs.Longer.{written}

-- where a program runs: the files, the place of its nodes, and the state, in which nothing is found by `puts`
record Setting : Type 0 where
  pub files : Files
  pub place : Place
  pub ruby : Ruby
  pub no_puts : find ruby (me ruby place) (codes "puts") ≡ None
  pub no_missing : find ruby (me ruby place) missing_name ≡ None

-- the state after these calls
abbrev state : Setting → List Moment → State
state w calls = record { ruby = w.ruby; calls = calls }

-- a text was written
abbrev wrote : Setting → Text → Moment
wrote w text = record { call = Wrote (puts_text text); before = w.ruby }

-- the calls after the texts were written
abbrev after : Setting → List Text → List Moment → List Moment
after w [] c = c
after w (text ∷ texts) c = after w texts (wrote w text ∷ c)

after_both : (w : Setting) (a b : List Text) (c : List Moment) → after w (a ++ b) c ≡ after w b (after w a c)
after_both w [] b c = refl
after_both w (text ∷ a) b c = after_both w a b _

-- an evaluation: the nodes that may be nested, the calls before, the units
abbrev Run : Type 0
Run = ℕ → List Moment → ℕ → Outcome

-- With the units of all its texts a run writes them; with fewer it runs out behind some of them, and behind each with some number.
record Turns (w : Setting) (run : Run) (texts : List Text) : Type 0 where
  pub cost : ℕ
  pub ends : (d : ℕ) (c : List Moment) (g rest : ℕ) → g ≡ cost + rest → g ≤ d → run d c g ≡ Ends (Val value.Nil) (state w (after w texts c)) rest
  pub starves : (d : ℕ) (c : List Moment) (g : ℕ) → g < cost → g ≤ d → (j : ℕ) × (j ≤ length texts) × (run d c g ≡ Starved (state w (after w (take j texts) c)))
  pub shows : (j : ℕ) → j < length texts → (g : ℕ) × (g < cost) × ((d : ℕ) (c : List Moment) → g ≤ d → run d c g ≡ Starved (state w (after w (take j texts) c)))

-- ---- nodes in order

abbrev sequence : Setting → List Node → Run
sequence w nodes d c g = walk (eval_to w.files d) (in_order value.Nil nodes w.place) (state w c) g

abbrev alone : Setting → Node → Run
alone w node d c g = eval_to w.files d (Evaluate node w.place) (state w c) g

-- what comes behind the first node
abbrev behind : Setting → ℕ → List Node → Outcome → Outcome
behind w d nodes o = andthen o (λ x t l. walk (eval_to w.files d) (onval (λ v. in_order v nodes w.place) x) t l)

no_turns : (w : Setting) → Turns w (sequence w []) []
no_turns w = record {
  cost = 0;
  ends = λ d c g rest e l. ap (Ends (Val value.Nil) (state w c)) (omega (arith, e));
  starves = λ d c g l b. absurd (omega (arith, l));
  shows = λ j l. absurd (omega (arith, l));
}

module _ (w : Setting) (node : Node) (nodes : List Node) (a b : List Text) (x : Turns w (alone w node) a) (y : Turns w (sequence w nodes) b) where
  ends : (d : ℕ) (c : List Moment) (g rest : ℕ) → g ≡ (x.cost + y.cost) + rest → g ≤ d → sequence w (node ∷ nodes) d c g ≡ Ends (Val value.Nil) (state w (after w (a ++ b) c)) rest
  ends d c g rest e l =
      ap (behind w d nodes) (x.ends d c g (y.cost + rest) (omega (arith, e)) l)
      ∙ y.ends d (after w a c) (y.cost + rest) rest refl (omega (arith, e, l))
      ∙ ap (λ t. Ends (Val value.Nil) (state w t) rest) (sym (after_both w a b c))

  abbrev Stops : (d : ℕ) → List Moment → ℕ → ℕ → Type 0
  Stops d c g j = sequence w (node ∷ nodes) d c g ≡ Starved (state w (after w (take j (a ++ b)) c))

  in_first : (d : ℕ) (c : List Moment) (g j : ℕ) → j ≤ length a → alone w node d c g ≡ Starved (state w (after w (take j a) c)) → Stops d c g j
  in_first d c g j l e = ap (behind w d nodes) e ∙ ap (λ t. Starved (state w (after w t c))) (sym (take-append-le j a b l))

  in_rest : (d : ℕ) (c : List Moment) (g r j : ℕ) → g ≡ x.cost + r → g ≤ d → sequence w nodes d (after w a c) r ≡ Starved (state w (after w (take j b) (after w a c))) → Stops d c g (length a + j)
  in_rest d c g r j e l h =
      ap (behind w d nodes) (x.ends d c g r e l) ∙ h
      ∙ ap (λ t. Starved (state w t)) (sym (after_both w a (take j b) c))
      ∙ ap (λ t. Starved (state w (after w t c))) (sym (take-append-add a b j))

  starves : (d : ℕ) (c : List Moment) (g : ℕ) → g < x.cost + y.cost → g ≤ d → (j : ℕ) × (j ≤ length (a ++ b)) × Stops d c g j
  starves d c g l m = ⊎_elim
      (λ first. let r = x.starves d c g first m in (r.0, omega (arith, r.1, length-append a b), in_first d c g r.0 r.1 r.2))
      (λ rest. let r = y.starves d (after w a c) (g - x.cost) (omega (arith, l, rest)) (omega (arith, m)) in
      (length a + r.0, omega (arith, r.1, length-append a b), in_rest d c g (g - x.cost) r.0 (omega (arith, rest)) m r.2))
      (cases_lt g x.cost)

  shows : (j : ℕ) → j < length (a ++ b) → (g : ℕ) × (g < x.cost + y.cost) × ((d : ℕ) (c : List Moment) → g ≤ d → Stops d c g j)
  shows j l = ⊎_elim
      (λ first. let r = x.shows j first in (r.0, omega (arith, r.1), λ d c m. in_first d c r.0 j (omega (arith, first)) (r.2 d c m)))
      (λ rest. let k = j - length a in let r = y.shows k (omega (arith, l, rest, length-append a b)) in
      let e : length a + k ≡ j = omega (arith, rest) in
      (x.cost + r.0, omega (arith, r.1), λ d c m. subst (Stops d c (x.cost + r.0)) e (in_rest d c (x.cost + r.0) r.0 k refl m (r.2 d (after w a c) (omega (arith, m))))))
      (cases_lt j (length a))

  more_turns : Turns w (sequence w (node ∷ nodes)) (a ++ b)
  more_turns = record { cost = x.cost + y.cost; ends = ends; starves = starves; shows = shows }

-- ---- a sequence

module _ (w : Setting) (node : Node) (nodes : List Node) (texts : List Text) (is : out-Kind node.kind ≡ Kind-F.Seq nodes) (x : Turns w (sequence w nodes) texts) where
  seq_opens : (d : ℕ) (c : List Moment) (g : ℕ) → alone w node (suc d) c (suc g) ≡ sequence w nodes d c g
  unfolding eval_to
  seq_opens d c g = ap (λ layer. walk (eval_to w.files d) (act w.files node.span.from layer w.place) (state w c) g) is

  seq_ends : (d : ℕ) (c : List Moment) (g rest : ℕ) → g ≡ suc x.cost + rest → g ≤ d → alone w node d c g ≡ Ends (Val value.Nil) (state w (after w texts c)) rest
  seq_ends d c zero rest e l = absurd (omega (arith, e))
  seq_ends zero c (suc g) rest e l = absurd (omega (arith, l))
  seq_ends (suc d) c (suc g) rest e l = seq_opens d c g ∙ x.ends d c g rest (omega (arith, e)) (omega (arith, l))

  seq_starves : (d : ℕ) (c : List Moment) (g : ℕ) → g < suc x.cost → g ≤ d → (j : ℕ) × (j ≤ length texts) × (alone w node d c g ≡ Starved (state w (after w (take j texts) c)))
  unfolding eval_to
  seq_starves zero c zero l m = (0, omega arith, refl)
  seq_starves (suc d) c zero l m = (0, omega arith, refl)
  seq_starves zero c (suc g) l m = absurd (omega (arith, m))
  seq_starves (suc d) c (suc g) l m = let r = x.starves d c g (omega (arith, l)) (omega (arith, m)) in (r.0, r.1, seq_opens d c g ∙ r.2)

  seq_stops : (g j : ℕ) → ((d : ℕ) (c : List Moment) → g ≤ d → sequence w nodes d c g ≡ Starved (state w (after w (take j texts) c))) → (d : ℕ) (c : List Moment) → suc g ≤ d → alone w node d c (suc g) ≡ Starved (state w (after w (take j texts) c))
  seq_stops g j h zero c l = absurd (omega (arith, l))
  seq_stops g j h (suc d) c l = seq_opens d c g ∙ h d c (omega (arith, l))

  seq_turns : Turns w (alone w node) texts
  seq_turns = record {
    cost = suc x.cost;
    ends = seq_ends;
    starves = seq_starves;
    shows = λ j l. let r = x.shows j l in (suc r.0, omega (arith, r.1), seq_stops r.0 j r.2);
  }

-- ---- a call

-- the node is the text
record IsText (w : Setting) (node : Node) (text : Text) : Type 0 where
  pub gives_text : (d : ℕ) (c : List Moment) (g : ℕ) → alone w node (suc d) c (suc g) ≡ Ends (Val (value.Text text)) (state w c) g
  pub no_splat : is_splat node ≡ false

module _ (w : Setting) (node arg : Node) (name text : Text) (mark : Option Pos)
    (is : out-Kind node.kind ≡ Kind-F.Call None name (arg ∷ []) None mark) (named : name ≡ codes "puts") (quoted : IsText w arg text) where
  abbrev receiver : Value
  receiver = me w.ruby w.place

  -- what follows the arguments
  abbrev called : List Value → Task
  called vs = with_block None w.place (λ b. call_method receiver name vs b)

  -- what follows the text
  abbrev taken : Value → Task
  taken v = items_of_part (is_splat arg) v (λ vs. within most_arguments ([] ++ vs) (λ all. values most_arguments [] w.place all called))

  abbrev behind_text : ℕ → Outcome → Outcome
  behind_text d o = andthen o (λ x t l. walk (eval_to w.files d) (onval taken x) t l)

  call_opens : (d : ℕ) (c : List Moment) (g : ℕ) → alone w node (suc d) c (suc g) ≡ behind_text d (alone w arg d c g)
  unfolding eval_to
  call_opens d c g = ap (λ layer. walk (eval_to w.files d) (act w.files node.span.from layer w.place) (state w c) g) is

  no_puts_found : find w.ruby receiver name ≡ None
  no_puts_found = ap (find w.ruby receiver) named ∙ w.no_puts

  is_puts : bytes_eq name (codes "puts") ≡ true
  is_puts = ap (λ z. bytes_eq z (codes "puts")) named

  writes : (d : ℕ) (c : List Moment) (g : ℕ) → walk (eval_to w.files d) (taken (value.Text text)) (state w c) g ≡ walk (eval_to w.files d) (Host (Wrote (puts_text text)) (gives value.Nil)) (state w c) g
  writes d c g =
      ap (λ b. walk (eval_to w.files d) (items_of_part b (value.Text text) (λ vs. within most_arguments ([] ++ vs) (λ all. values most_arguments [] w.place all called))) (state w c) g) quoted.no_splat
      ∙ ap (λ e. walk (eval_to w.files d) (found e receiver name (value.Text text ∷ []) value.Nil) (state w c) g) no_puts_found
      ∙ ap (λ e. walk (eval_to w.files d) (missed e receiver name (value.Text text ∷ []) value.Nil) (state w c) g) w.no_missing
      ∙ ap (λ b. walk (eval_to w.files d) (puts_or_none b receiver name (value.Text text ∷ [])) (state w c) g) is_puts

  call_ends : (d : ℕ) (c : List Moment) (g : ℕ) → alone w node (suc (suc d)) c (suc (suc (suc g))) ≡ Ends (Val value.Nil) (state w (wrote w text ∷ c)) g
  call_ends d c g = call_opens (suc d) c (suc (suc g)) ∙ ap (behind_text (suc d)) (quoted.gives_text d c (suc g)) ∙ writes (suc d) c (suc g)

  call_starves : (d : ℕ) (c : List Moment) (g : ℕ) → g < 3 → g ≤ d → alone w node d c g ≡ Starved (state w c)
  unfolding eval_to
  call_starves zero c zero l m = refl
  call_starves (suc d) c zero l m = refl
  call_starves zero c (suc g) l m = absurd (omega (arith, m))
  call_starves (suc zero) c (suc zero) l m = call_opens zero c zero
  call_starves (suc (suc d)) c (suc zero) l m = call_opens (suc d) c zero
  call_starves (suc zero) c (suc (suc g)) l m = absurd (omega (arith, m))
  call_starves (suc (suc d)) c (suc (suc zero)) l m =
      call_opens (suc d) c (suc zero) ∙ ap (behind_text (suc d)) (quoted.gives_text d c zero) ∙ writes (suc d) c zero
  call_starves (suc (suc d)) c (suc (suc (suc g))) l m = absurd (omega (arith, l))

  all_ends : (d : ℕ) (c : List Moment) (g rest : ℕ) → g ≡ 3 + rest → g ≤ d → alone w node d c g ≡ Ends (Val value.Nil) (state w (after w (text ∷ []) c)) rest
  all_ends (suc (suc d)) c (suc (suc (suc g))) rest e l = call_ends d c g ∙ ap (Ends (Val value.Nil) (state w (after w (text ∷ []) c))) (omega (arith, e))
  all_ends d c zero rest e l = absurd (omega (arith, e))
  all_ends d c (suc zero) rest e l = absurd (omega (arith, e))
  all_ends d c (suc (suc zero)) rest e l = absurd (omega (arith, e))
  all_ends zero c (suc (suc (suc g))) rest e l = absurd (omega (arith, l))
  all_ends (suc zero) c (suc (suc (suc g))) rest e l = absurd (omega (arith, l))

  shows_none : (j : ℕ) → j < 1 → (g : ℕ) × (g < 3) × ((d : ℕ) (c : List Moment) → g ≤ d → alone w node d c g ≡ Starved (state w (after w (take j (text ∷ [])) c)))
  shows_none zero l = (0, omega arith, λ d c m. call_starves d c 0 (omega arith) m)
  shows_none (suc j) l = absurd (omega (arith, l))

  call_turns : Turns w (alone w node) (text ∷ [])
  call_turns = record {
    cost = 3;
    ends = all_ends;
    starves = λ d c g l m. (0, omega arith, call_starves d c g l m);
    shows = shows_none;
  }

-- ---- any node

-- what the fold says of a node
record Meets (node : Node) (p : Putting) : Type 0 where
  pub is_text : (text : Text) → p.text ≡ Some text → (w : Setting) → IsText w node text
  pub turns : p.only_puts ≡ true → (w : Setting) → Turns w (alone w node) p.texts

abbrev KindMeets : Kind → Type 0
KindMeets k = (node : Node) → node.kind ≡ k → Meets node (kind_putting k)

abbrev NodeMeets : Node → Type 0
NodeMeets node = Meets node (putting node)

abbrev Parts : Type 0
Parts = List ((node : Node) × NodeMeets node)

abbrev nodes_of : Parts → List Node
nodes_of parts = map (λ e. e.0) parts

neither : (node : Node) → Meets node (record { text = None; only_puts = false; texts = [] })
neither node = record { is_text = λ text e. let f = e in absurd cc; turns = λ e. absurd (false≢true e) }

quotes : (node : Node) (text : Text) → out-Kind node.kind ≡ Kind-F.Str text → (w : Setting) → IsText w node text
unfolding eval_to
quotes node text is w = record {
  gives_text = λ d c g. ap (λ layer. walk (eval_to w.files d) (act w.files node.span.from layer w.place) (state w c) g) is;
  no_splat = ap splat_in is;
}

all_four : (a b c d : Bool) → (a && b && c && d) ≡ true → (a ≡ true) × (b ≡ true) × (c ≡ true) × (d ≡ true)
all_four true true true true e = (refl, refl, refl, refl)
all_four true true true false e = absurd (false≢true e)
all_four false b c d e = absurd (false≢true e)
all_four true false c d e = absurd (false≢true e)
all_four true true false d e = absurd (false≢true e)

both : (a b : Bool) → (a && b) ≡ true → (a ≡ true) × (b ≡ true)
both true true e = (refl, refl)
both false b e = absurd (false≢true e)
both true false e = absurd (false≢true e)

all_turns : (parts : Parts) → all_put (map putting (nodes_of parts)) ≡ true → (w : Setting) → Turns w (sequence w (nodes_of parts)) (all_texts (map putting (nodes_of parts)))
all_turns [] e w = no_turns w
all_turns (part ∷ parts) e w =
    let h = both (putting part.0).only_puts (all_put (map putting (nodes_of parts))) e in
    more_turns w part.0 (nodes_of parts) (putting part.0).texts (all_texts (map putting (nodes_of parts))) (part.1.turns h.0 w) (all_turns parts h.1 w)

abbrev CallOf : Node → Option Node → Name → List Node → Option Node → Option Pos → Type 0
CallOf node receiver name args block mark = out-Kind node.kind ≡ Kind-F.Call receiver name args block mark

-- a call with its one argument
one_argument : (node : Node) (name : Text) (mark : Option Pos) (part : (n : Node) × NodeMeets n) (text : Option Text)
    → CallOf node None name (part.0 ∷ []) None mark → name ≡ codes "puts"
    → (putting part.0).text ≡ text → is_some text ≡ true → (w : Setting) → Turns w (alone w node) (option_to_list text)
one_argument node name mark part (Some text) is named e some w = call_turns w node part.0 name text mark is named (part.1.is_text text e w)
one_argument node name mark part None is named e some w = absurd (false≢true some)

argument_turns : (node : Node) (name : Text) (mark : Option Pos) (parts : Parts)
    → CallOf node None name (nodes_of parts) None mark → name ≡ codes "puts"
    → is_some (only_text (map putting (nodes_of parts))) ≡ true → (w : Setting) → Turns w (alone w node) (option_to_list (only_text (map putting (nodes_of parts))))
argument_turns node name mark (part ∷ []) is named some = one_argument node name mark part _ is named refl some
argument_turns node name mark [] is named some = absurd (false≢true some)
argument_turns node name mark (a ∷ b ∷ parts) is named some = absurd (false≢true some)

-- a layer whose parts meet what the fold says of them
abbrev Layer : Type 0
Layer = Kind-F ((b : Base) × ⊤) ((k : Kind) × KindMeets k) ((f : ModuleForm) × ⊤) ((n : Node) × NodeMeets n) ((p : Params) × ⊤)

abbrev parts_of : Layer → Kind-F Base Kind ModuleForm Node Params
parts_of = map-Kind ((b : Base) × ⊤) ((k : Kind) × KindMeets k) ((f : ModuleForm) × ⊤) ((n : Node) × NodeMeets n) ((p : Params) × ⊤) Base Kind ModuleForm Node Params (λ e. e.0) (λ e. e.0) (λ e. e.0) (λ e. e.0) (λ e. e.0)

abbrev folded : Layer → Kind-F ⊤ Putting ⊤ Putting ⊤
folded layer = map-Kind Base Kind ModuleForm Node Params ⊤ Putting ⊤ Putting ⊤ (λ b. tt) kind_putting (λ f. tt) putting (λ p. tt) (parts_of layer)

abbrev seen : Layer → Putting
seen layer = of_kind (folded layer)

by_name : (name : Text) → bytes_eq name (codes "puts") ≡ true → name ≡ codes "puts"
by_name name e = (bytes_eq-Decides name (codes "puts")).0 e

layer_meets : (layer : Layer) (node : Node) → out-Kind node.kind ≡ parts_of layer → Meets node (seen layer)
layer_meets (Kind-F.Str text) node is = record { is_text = λ other e. let f : text ≡ other = cc in subst (λ z. (w : Setting) → IsText w node z) f (quotes node text is); turns = λ e. absurd (false≢true e) }
layer_meets (Kind-F.Call None name args None mark) node is = record {
  is_text = λ text e. let f = e in absurd cc;
  turns = λ e. let h = all_four true (bytes_eq name (codes "puts")) (is_some (only_text (map putting (nodes_of args)))) true e in argument_turns node name mark args is (by_name name h.1) h.2;
}
layer_meets (Kind-F.Call (Some r) name args block mark) node is = record { is_text = λ text e. let f = e in absurd cc; turns = λ e. absurd (false≢true e) }
layer_meets (Kind-F.Call None name args (Some b) mark) node is = record { is_text = λ text e. let f = e in absurd cc; turns = λ e. absurd (false≢true (all_four true (bytes_eq name (codes "puts")) (is_some (only_text (map putting (nodes_of args)))) false e).3) }
layer_meets (Kind-F.Seq items) node is = record {
  is_text = λ text e. let f = e in absurd cc;
  turns = λ e w. seq_turns w node (nodes_of items) (all_texts (map putting (nodes_of items))) is (all_turns items e w);
}
layer_meets _ node is = neither node

kind_meets : (layer : Layer) → KindMeets (roll-Kind (parts_of layer))
unfolding kind_putting putting
kind_meets layer node is =
    subst (Meets node) (sym (fold-roll-Kind ⊤ Putting ⊤ Putting ⊤ (λ b. tt) of_kind (λ f. tt) (λ n. n.kind) (λ p. tt) (parts_of layer)))
    (layer_meets layer node (ap out-Kind is ∙ out-roll-Kind (parts_of layer)))

node_step : (x : Node-F Base Kind ModuleForm Node Params) → KindMeets x.kind → NodeMeets (roll-Node x)
unfolding kind_putting putting
node_step x h =
    subst (Meets (roll-Node x)) (sym (fold-roll-Node ⊤ Putting ⊤ Putting ⊤ (λ b. tt) of_kind (λ f. tt) (λ n. n.kind) (λ p. tt) x)) (h (roll-Node x) refl)

node_meets : (node : Node) → NodeMeets node
unfolding kind_putting putting
node_meets = ind-Node (λ b. ⊤) KindMeets (λ f. ⊤) NodeMeets (λ p. ⊤)
    (λ x y is. tt)
    (λ x y is. subst (λ l. KindMeets (roll-Kind l)) is (kind_meets y))
    (λ x y is. tt)
    (λ x y is. node_step x (subst KindMeets (ap (λ (n : Node-F Base Kind ModuleForm Node Params). n.kind) is) y.kind.1))
    (λ x y is. tt)

-- ---- the program

written_after : (w : Setting) (texts : List Text) (c : List Moment) → written (after w texts c) ≡ written c ++ flat_map utf8_of (map puts_text texts)
written_after w [] c = sym (append-nil _)
written_after w (text ∷ texts) c = written_after w texts _ ∙ append_assoc (written c) (utf8_of (puts_text text)) _

-- the output of the first texts
written_first : (w : Setting) (texts : List Text) (j : ℕ) → written (after w (take j texts) []) ≡ flat_map utf8_of (take j (map puts_text texts))
written_first w texts j = written_after w (take j texts) [] ∙ ap (flat_map utf8_of) (sym (take-map puts_text j texts))

abbrev frame_of : Option Name → Node → ℕ → Frame
frame_of file body k = body_frame (value.Ref main_object) (record { modules = []; file = file }) body k

-- while the core library's program runs, behind it, and while the main file does
abbrev in_core : Node → Text → Ruby
in_core core input = with_new_frame (frame_of None core 0) (boot input)

abbrev in_main : Node → Node → Text → Ruby
in_main core body input = with_new_frame (frame_of (Some []) body 1) (marked [] (closed 0 (in_core core input)))

abbrev main_of : Bundle → Node
main_of bundle = bundle.main.program.body

abbrev main_setting : Node → Bundle → Text → Setting
main_setting core bundle input = record { files = (bundled bundle).files; place = in_frame 1; ruby = in_main core (main_of bundle) input; no_puts = refl; no_missing = refl }

-- behind the core library's program, and behind the main file
abbrev behind_core : Bundle → ℕ → Outcome → Outcome
behind_core bundle n o = andthen o (λ x t l. walk (eval_to (bundled bundle).files n) ((Change (closed 0) (Done x)) >>= onval (λ v. run_reached (Some (main_of bundle)) [])) t l)

abbrev behind_main : Bundle → ℕ → Outcome → Outcome
behind_main bundle n o = andthen o (λ x t l. walk (eval_to (bundled bundle).files n) ((Change (closed 1) (Done x)) >>= onval (λ v. gives value.True)) t l)

core_ends : (files : Files) (core : Node) (p : Place) (d : ℕ) (s : State) (g : ℕ) → IsEmpty core → eval_to files (suc d) (Evaluate core p) s (suc g) ≡ Ends (Val value.Nil) s g
unfolding eval_to roll-Kind out-Kind Carrier.roll
core_ends files core p d s g empty = ap (λ layer. walk (eval_to files d) (act files core.span.from layer p) s g) (ap out-Kind empty ∙ out-roll-Kind (Kind-F.Seq []))

core_opens : (core : Node) (bundle : Bundle) (input : Text) (n : ℕ) → outcome core (bundled bundle) input n ≡ behind_core bundle n (eval_to (bundled bundle).files n (Evaluate core (in_frame 0)) (record { ruby = in_core core input; calls = [] }) n)
unfolding outcome
core_opens core bundle input n = refl

no_units : (core : Node) (bundle : Bundle) (input : Text) → ruby_run core (bundled bundle) input 0 ≡ Going []
unfolding ruby_run outcome eval_to
no_units core bundle input = refl

main_opens : (core : Node) (bundle : Bundle) (input : Text) (n : ℕ) → IsEmpty core → outcome core (bundled bundle) input (suc n) ≡ behind_main bundle (suc n) (alone (main_setting core bundle input) (main_of bundle) (suc n) [] n)
main_opens core bundle input n empty =
    core_opens core bundle input (suc n)
    ∙ ap (behind_core bundle (suc n)) (core_ends (bundled bundle).files core (in_frame 0) n (record { ruby = in_core core input; calls = [] }) n empty)

take_none : (texts : List Text) → flat_map utf8_of (take 0 texts) ≡ []
take_none [] = refl
take_none (text ∷ texts) = refl

module _ (core : Node) (bundle : Bundle) (input : Text) (empty : IsEmpty core) (texts : List Text) (t : Turns (main_setting core bundle input) (alone (main_setting core bundle input) (main_of bundle)) texts) where
  abbrev w : Setting
  w = main_setting core bundle input

  abbrev run : ℕ → Shown RubyEnd
  run n = ruby_run core (bundled bundle) input n

  run_ends : (n : ℕ) → suc t.cost ≤ n → run n ≡ Ended (flat_map utf8_of (map puts_text texts)) Finished
  unfolding ruby_run
  run_ends zero l = absurd (omega (arith, l))
  run_ends (suc n) l =
      ap shown (main_opens core bundle input n empty ∙ ap (behind_main bundle (suc n)) (t.ends (suc n) [] n (n - t.cost) (omega (arith, l)) (omega arith)))
      ∙ ap (λ o. Ended o Finished) (written_after w texts [])

  run_goes : (n j : ℕ) → alone w (main_of bundle) (suc n) [] n ≡ Starved (state w (after w (take j texts) [])) → run (suc n) ≡ Going (flat_map utf8_of (take j (map puts_text texts)))
  unfolding ruby_run
  run_goes n j e = ap shown (main_opens core bundle input n empty ∙ ap (behind_main bundle (suc n)) e) ∙ ap Going (written_first w texts j)

  goes_on : (n : ℕ) → n < suc t.cost → (j : ℕ) × (j ≤ length (map puts_text texts)) × (run n ≡ Going (flat_map utf8_of (take j (map puts_text texts))))
  goes_on zero l = (0, omega arith, no_units core bundle input ∙ ap Going (sym (take_none (map puts_text texts))))
  goes_on (suc n) l = let r = t.starves (suc n) [] n (omega (arith, l)) (omega arith) in (r.0, omega (arith, r.1, length-map texts puts_text), run_goes n r.0 r.2)

  each_shown : (j : ℕ) → j ≤ length (map puts_text texts) → (n : ℕ) × Shows (run n) (flat_map utf8_of (take j (map puts_text texts)))
  each_shown j l = ⊎_elim
      (λ fewer. let r = t.shows j fewer in (suc r.0, inl (run_goes r.0 j (r.2 (suc r.0) [] (omega arith)))))
      (λ all. (suc t.cost, inr (Finished, run_ends (suc t.cost) (omega arith) ∙ ap (λ l. Ended (flat_map utf8_of l) Finished) (sym (take_all j (map puts_text texts) (omega (arith, all, length-map texts puts_text)))))))
      (cases_lt j (length texts))

  in_turn : ShowsInTurn run (map puts_text texts) Finished
  in_turn = record { enough = suc t.cost; ends = run_ends; goes = goes_on; shows = each_shown }

pub puts_in_turn : PutsInTurn
puts_in_turn core bundle input empty only =
    in_turn core bundle input empty (putting (main_of bundle)).texts ((node_meets (main_of bundle)).turns only (main_setting core bundle input))
