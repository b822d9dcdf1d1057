-- Programs to be computed: what a run tells, and a few methods of the core library.
use Rattle.std.specs.Prelude.{ℕ, List, [], ◌∷◌, ◌++◌, codes, Option, Some, None}
use Rattle.opal_base.specs.Shown.{HostCall, Wrote, Asked}
use Rattle.ruby_evaluation.specs.Ends.{RubyEnd, NumberOutside}
use Rattle.ruby_meaning.specs.declared.tree.Node.{Node}
use Rattle.ruby_meaning.specs.declared.tree.Kind.TheVariants as kinds
use Rattle.ruby_meaning.specs.declared.tree.Params.{roll-Params}
use Rattle.ruby_meaning.specs.declared.tree.Rest.TheVariants as rest
use Rattle.ruby_evaluation.proofs.Trees.{node_at, with_rest, node, nil, int, seq, get, const, prim, call, def, class}
use Rattle.ruby_evaluation.specs.Tables.{Text}
use Rattle.ruby_evaluation.specs.Task.{Moment, Outcome, Ends, Left, Starved}
use Rattle.ruby_evaluation.specs.Run.{outcome, end_of}

-- the texts that were written, the newest first, and the end
pub data Told : Type 0 where
  Ended : List Text → RubyEnd → Told
  Going : List Text → Told

abbrev pub text_of : HostCall → List Text
text_of (Wrote t) = t ∷ []
text_of Asked = []

abbrev pub texts : List Moment → List Text
texts [] = []
texts (m ∷ ms) = text_of m.call ++ texts ms

abbrev pub told : Outcome → Told
told (Ends x s g) = Ended (texts s.calls) (end_of x s.ruby)
told (Left s g) = Ended (texts s.calls) NumberOutside
told (Starved s) = Going (texts s.calls)

abbrev pub runs : Node → List Node → ℕ → Told
runs core main n = told (outcome core (record { main = codes "main.rb"; files = (codes "main.rb", seq main) ∷ [] }) [] n)

abbrev pub me : Node
me = node kinds.SelfRef

abbrev pub mul : Node → Node → Node
mul a b = prim (codes "i_mul") (a ∷ b ∷ [])

abbrev pub same : Node → Node → Node
same a b = prim (codes "same") (a ∷ b ∷ [])

abbrev pub yields : List Node → Node
yields vs = node (kinds.Yield vs)

abbrev pub super_ : Node
super_ = node (kinds.Super None None)

abbrev pub include : List ℕ → Node
include m = prim (codes "include") (me ∷ const m ∷ [])

abbrev pub begin_ : Node → List Node → Option Node → Node
begin_ body clauses ensure_part = node (kinds.Begin body clauses None ensure_part)

abbrev pub rescue : List Node → Node → Node
rescue classes body = node_at 90 (kinds.Rescue classes None body)

abbrev pub new_ : List ℕ → Node
new_ c = call (const c) (codes "new") []

-- a few methods of the core library
abbrev pub core : Node
core = seq (
    class (codes "Class") None (seq (def (codes "new") [] (prim (codes "allocate") (me ∷ [])) ∷ def (codes "inherited") (codes "c" ∷ []) nil ∷ []))
    ∷ class (codes "Module") None (seq (def (codes "===") (codes "x" ∷ []) (prim (codes "is_a") (get (codes "x") ∷ me ∷ [])) ∷ []))
    ∷ class (codes "Proc") None (seq (node (kinds.Def None (codes "call") (with_rest [] (codes "a")) (prim (codes "call") (me ∷ get (codes "a") ∷ nil ∷ []))) ∷ []))
    ∷ class (codes "Object") None (seq (
    node (kinds.Def None (codes "proc") (roll-Params (record { plain = []; optional = []; defaults = []; rest = rest.None; after = []; block = Some (codes "b") })) (get (codes "b")))
    ∷ def (codes "each") [] (seq (yields (int 1 ∷ []) ∷ yields (int 2 ∷ []) ∷ yields (int 3 ∷ []) ∷ me ∷ [])) ∷ []))
    ∷ class (codes "StandardError") (Some (const (codes "Exception"))) (seq [])
    ∷ class (codes "NoMethodError") (Some (const (codes "StandardError"))) (seq [])
    ∷ class (codes "LocalJumpError") (Some (const (codes "StandardError"))) (seq [])
    ∷ class (codes "ArgumentError") (Some (const (codes "StandardError"))) (seq []) ∷ [])
