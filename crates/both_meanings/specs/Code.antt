-- What the code of functions and statements comes to: texts with their first statements and their end, methods and blocks that
-- take no parameters, and what stands behind a call that may jump to a token.
use Rattle.std.specs.Prelude.{◌≡◌, ◌⊎◌, ℕ, ◌<◌, ◌≤◌, true, false, List, [], ◌∷◌, ◌++◌, length, Some, None, is_some}
use Rattle.ruby_meaning.specs.declared.tree.Node.{Node}
use Rattle.ruby_meaning.specs.declared.tree.Params.{out-Params}
use Rattle.ruby_meaning.specs.declared.tree.Rest.TheVariants as rest
use Rattle.es5_tree.specs.declared.tree.EsExpr.{EsExpr}
use Rattle.es5_tree.specs.declared.tree.EsKind.TheVariants as kind
use Rattle.es5_tree.specs.declared.tree.EsStmt.{EsStmt}
use Rattle.es5_tree.specs.declared.tree.EsStmt.TheVariants as stmt
use Rattle.es5_tree.specs.declared.tree.Operator.TheVariants as operator
use Rattle.es5_tree.specs.Values.{Text, Val, Truth, Obj}
use Rattle.es5_tree.specs.Objects.Cells.{put}
use Rattle.es5_tree.specs.Objects.Cells as cell
use Rattle.es5_tree.specs.Objects.Links.{cell_at, get}
use Rattle.es5_evaluation.specs.State.{Activation, record_at}
use Rattle.es5_evaluation.specs.State as es
use Rattle.es5_evaluation.specs.Task.{Completion, Normal, Throw, Scope, Done, with_object}
use Rattle.es5_evaluation.specs.Task as task
use Rattle.es5_evaluation.specs.Declared.{own_code, locals}
use Rattle.es5_evaluation.specs.Evaluate.{all}
use Rattle.es5_rules.specs.Steps.{Steps}
use Rattle.ruby_evaluation.specs.Tables.{Name, at}
use Rattle.ruby_evaluation.specs.State.{Method, EndsCall, Closure}
use Rattle.ruby_evaluation.specs.Locals.{all_nil}
use Rattle.ruby_evaluation.specs.Parameters.{Parts}
use Rattle.ruby_evaluation.specs.Calls.{own_of_method}
use Rattle.ruby_evaluation.specs.Task.{Place, Evaluate}
use Rattle.both_meanings.specs.Names.{temp, local, module_name, self_name, block_name, home_name, Generated}
use Rattle.both_meanings.specs.World.{Shape, shape_of, stands, Function, Framed, World, SeesLocal, Sees, SeesModule, SeesModules}
use Rattle.both_meanings.specs.Holds.{Site, Texts, open_name, token_name, value_name, variable_at}
use Rattle.both_meanings.specs.Simulates.{RecordsStay}

-- ---- statements

-- `t = a;`
pub record Sets (ts : EsStmt) (t : ℕ) (a : EsExpr) : Type 0 where
  pub whole : EsExpr
  pub target : EsExpr
  pub is : ts ≡ stmt.Expr whole
  pub assigns : whole.kind ≡ kind.Assign target a
  pub named : target.kind ≡ kind.Name (temp t)

-- `l$x = t;`
pub record SetsLocal (ts : EsStmt) (x : Name) (t : ℕ) : Type 0 where
  pub whole : EsExpr
  pub target : EsExpr
  pub from : EsExpr
  pub is : ts ≡ stmt.Expr whole
  pub assigns : whole.kind ≡ kind.Assign target from
  pub named : target.kind ≡ kind.Name (local x)
  pub from_is : from.kind ≡ kind.Name (temp t)

-- `t === false || t === $$nil`
pub record TestsFalse (e : EsExpr) (t : ℕ) (nil : Text) : Type 0 where
  pub a : EsExpr
  pub b : EsExpr
  pub is : e.kind ≡ kind.Or a b
  pub x : EsExpr
  pub y : EsExpr
  pub first : a.kind ≡ kind.Binary operator.Same x y
  pub x_is : x.kind ≡ kind.Name (temp t)
  pub y_is : y.kind ≡ kind.False
  pub v : EsExpr
  pub z : EsExpr
  pub second : b.kind ≡ kind.Binary operator.Same v z
  pub v_is : v.kind ≡ kind.Name (temp t)
  pub z_is : z.kind ≡ kind.Name nil

-- ---- functions

-- `var l$x = $$nil;` for each of these names
pub data Inits (nil : Text) : List Name → List EsStmt → Type 0 where
  inits_none : Inits nil [] []
  inits_more : (y : Name) (ys : List Name) (e : EsExpr) (ts : List EsStmt) → e.kind ≡ kind.Name nil → Inits nil ys ts → Inits nil (y ∷ ys) (stmt.Var (local y) (Some e) ∷ ts)

-- `var $$self = this;`, and these
pub data Prelude (nil : Text) : List Name → List EsStmt → Type 0 where
  prelude : (ys : List Name) (e : EsExpr) (ts : List EsStmt) → e.kind ≡ kind.This → Inits nil ys ts → Prelude nil ys (stmt.Var self_name (Some e) ∷ ts)

-- What stands for a text, with the names of its own locals, where a function of that code and scope is.
pub record IsText (X : Texts) (w : World) (text : Node) (fn : Function) : Type 0 where
  pub a : ℕ
  pub small : a ≤ 120
  pub site : Site
  pub loop : site.loop ≡ None
  pub room : 0 < site.top
  -- its statements: the first values, the text's, `return t$0;` and the declarations of the temporaries
  pub own : List Name
  pub nil : Text
  pub begin : List EsStmt
  pub begins : Prelude nil own begin
  pub code : List EsStmt
  pub stands_for : (p : Place) → X.stands a site 0 (Evaluate text p) (λ ρ. all code ρ)
  pub result : EsExpr
  pub named : result.kind ≡ kind.Name (temp 0)
  pub rest : List EsStmt
  pub body : fn.code.body ≡ begin ++ (code ++ (stmt.Return (Some result) ∷ rest))
  -- its parameter, a name of frames
  pub nameless : fn.code.name ≡ None
  pub first : Text
  pub tail : Text
  pub first_is : first ≡ 36 ∷ tail
  pub no_self : self_name ≡ first → ⊥
  pub params : fn.code.params ≡ first ∷ []
  -- the names that it declares
  pub quiet : (own_code fn.code.body).arguments ≡ false
  pub self : stands self_name (first ∷ locals fn.code.params fn.code.body) ≡ true
  pub temps : (n : ℕ) → n < site.top → stands (temp n) (first ∷ locals fn.code.params fn.code.body) ≡ true
  pub declares : (y : Name) → stands (local y) (first ∷ locals fn.code.params fn.code.body) ≡ stands y own
  pub free : (y : Text) (u : Val) → X.names y u → stands y (first ∷ locals fn.code.params fn.code.body) ≡ false
  pub free_home : stands home_name (first ∷ locals fn.code.params fn.code.body) ≡ false
  pub free_modules : (n : ℕ) → stands (module_name n) (first ∷ locals fn.code.params fn.code.body) ≡ false
  -- what is seen from where it was made
  pub shape : Shape
  pub there : w.shape fn.scope ≡ Some shape
  pub sees : (y : Text) (u : Val) → X.names y u → Sees w fn.scope y u
  pub knows : (o : ℕ) (f : Function) → X.known o f → w.function o ≡ Some f
  pub nil_object : ℕ
  pub nil_is : w.object 0 ≡ Some nil_object
  pub nil_name : X.names nil (Obj nil_object)

-- ---- methods

-- no parameters
abbrev pub no_parts : Parts
no_parts = record { plain = []; optional = []; defaults = []; rest = rest.None; after = []; block = None }

-- what stands for a method that takes no parameters, where a function of that code and scope is
pub record IsMethod (X : Texts) (w : World) (x : Method) (fn : Function) : Type 0 where
  pub no_parameters : out-Params x.params ≡ no_parts
  pub text : IsText X w x.body fn
  pub covers : (y : Name) → is_some (at y (all_nil (own_of_method x.params x.body) [])) ≡ stands y text.own
  pub nexts : text.site.nexts ≡ false
  pub takes_block : text.first ≡ block_name
  pub names : (y : Name) → stands y text.site.names ≡ true → stands y text.own ≡ true
  pub home : SeesModule w fn.scope home_name x.owner
  pub modules : SeesModules w fn.scope x.around.modules

-- ---- blocks

-- What stands for a block that takes no parameters, where a function of that code and scope is: it was made in the record of the
-- frame around the block's text.
pub record IsBlock (X : Texts) (w : World) (c : Closure) (fn : Function) : Type 0 where
  pub call : ℕ
  pub ends : c.ending ≡ EndsCall call
  pub no_parameters : out-Params c.params ≡ no_parts
  pub text : IsText X w c.body fn
  pub returns : text.site.returns ≡ false
  pub frame : Framed
  pub around : w.frame c.frame ≡ Some frame
  pub made : fn.scope ≡ frame.record_at
  pub free_block : stands block_name (text.first ∷ locals fn.code.params fn.code.body) ≡ false
  -- a local that it names is one of its own, or is seen from the frame around
  pub names : (y : Name) → stands y text.site.names ≡ true → (stands y text.own ≡ true) ⊎ ((stands y text.own ≡ false) × ((j : ℕ) × SeesLocal w c.frame y j))

-- ---- behind a call that may jump to a token

-- The records that were there have their shapes, and generated names in them their values.
pub record Alike (rs rs1 : List Activation) : Type 0 where
  pub more : length rs ≤ length rs1
  pub shape : (q : ℕ) → q < length rs → shape_of (record_at rs1 q) ≡ shape_of (record_at rs q)
  pub values : (q : ℕ) (x : Text) → q < length rs → Generated x → variable_at rs1 q x ≡ variable_at rs q x

-- the state in which the token is closed, with these records
abbrev pub closed_with : es.State → ℕ → List Activation → es.State
closed_with z o rs = record (with_object z o (put (cell_at z.heap o) open_name (Truth false))) { records = rs }

-- where it has come since the state s
pub record Since (s z : es.State) (o : ℕ) : Type 0 where
  pub stay : RecordsStay s.records z.records
  pub there : o < length z.heap
  pub plain : (cell_at z.heap o).kind ≡ cell.Object

-- the task closes the token and ends so; the first b records are left as they are
pub record Closes (b o : ℕ) (z : es.State) (t : task.Task) (c : Completion) : Type 0 where
  pub m : ℕ
  pub rs : List Activation
  pub runs : Steps t z m (Done c) (closed_with z o rs) []
  pub alike : Alike z.records rs
  pub stays : (q : ℕ) (x : Text) → q < b → variable_at rs q x ≡ variable_at z.records q x

-- a value goes on, a jump to the token gives its value, and what else is thrown goes on
pub record Lands (s : es.State) (b o : ℕ) (kk : Completion → task.Task) : Type 0 where
  pub value : (z : es.State) (u : Val) → Since s z o → Closes b o z (kk (Normal u)) (Normal u)
  pub landed : (z : es.State) (e : ℕ) (u : Val) → Since s z o → get z.heap e token_name ≡ Some (Obj o) → get z.heap e value_name ≡ Some u → Closes b o z (kk (Throw (Obj e))) (Normal u)
  pub thrown : (z : es.State) (e : ℕ) → Since s z o → (get z.heap e token_name ≡ Some (Obj o) → ⊥) → Closes b o z (kk (Throw (Obj e))) (Throw (Obj e))
