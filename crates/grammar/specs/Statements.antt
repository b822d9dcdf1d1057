-- A small grammar with a production of each form:
--   stmt   : expr | "if" expr stmt ["else" stmt] | "until" expr stmt
--   expr   : prim ("!=" prim)*                            a "not" over an "equal"; no list behind the sign
--   prim   : word | "(" expr ")" | "[" word ("," word)* "]" | "{" fields "}"
--   fields : word ("," word)*                             no word twice
use Rattle.std.specs.Prelude.{ℕ, suc, max, Bool, true, false, ◌&&◌, ◌||◌, nat_eq, if◌then◌else◌, List, [], ◌∷◌, Option, Some, None}
use Rattle.grammar.specs.Rules.{Sort, leaf, tree, marked, pair, list, optional, El, Rule, token, token_where, absent, sequence, choice, view, node, suffixes, suffix, starting, bind, needs, named, Grammar}
use Rattle.grammar.specs.CommonRules.{class, ◌or◌, behind, between, separated}

pub data Tree : Type 0 where
  word : ℕ → Tree
  words : List ℕ → Tree
  not_ : Tree → Tree
  equal : Tree → Tree → Tree
  when : Tree → Tree → Tree
  either : Tree → Tree → Tree → Tree
  loop : Tree → Tree → Tree

abbrev pub depth : Tree → ℕ
depth (word n) = 1
depth (words ns) = 1
depth (not_ a) = suc (depth a)
depth (equal a b) = suc (max (depth a) (depth b))
depth (when a b) = suc (max (depth a) (depth b))
depth (either a b c) = suc (max (max (depth a) (depth b)) (depth c))
depth (loop a b) = suc (max (depth a) (depth b))

pub data Token : Type 0 where
  name : ℕ → Token
  if_ : Token
  else_ : Token
  until : Token
  different : Token
  comma : Token
  open_ : Token
  close : Token
  open_list : Token
  close_list : Token
  open_fields : Token
  close_fields : Token

abbrev pub code : Token → ℕ
code (name n) = 0
code if_ = 1
code else_ = 2
code until = 3
code different = 4
code comma = 5
code open_ = 6
code close = 7
code open_list = 8
code close_list = 9
code open_fields = 10
code close_fields = 11

abbrev pub number : Token → ℕ
number (name n) = n
number _ = 0

abbrev pub numbers : List Token → List ℕ
numbers [] = []
numbers (t ∷ r) = number t ∷ numbers r

-- The fields after some others have a name of their own.
pub data Name : Type 0 where
  stmt : Name
  expr : Name
  fields : List ℕ → Name

-- A statement has a number: 1 where an "else" may go on with it, else 0.
abbrev pub sort : Name → Sort
sort stmt = marked tree
sort expr = tree
sort (fields seen) = list leaf

abbrev pub R : Sort → Type 0
R = Rule Token Tree Name sort

-- ---- fields : word ("," word)*, where no word stands before

abbrev pub is_new : List ℕ → Token → Bool
is_new [] t = true
is_new (n ∷ seen) t = if nat_eq n (number t) then false else is_new seen t

abbrev pub next_fields : List ℕ → R (list leaf)
next_fields seen = choice (behind (class 5) (named (fields seen))) (absent [])

abbrev pub some_fields : List ℕ → R (list leaf)
some_fields seen = view {s = pair leaf (list leaf)} (λ x. x.0 ∷ x.1) (bind (token_where (class 0) (is_new seen)) true (class 5) (class 5) (λ t. next_fields (number t ∷ seen)))

-- ---- prim : word | "(" expr ")" | "[" word ("," word)* "]" | "{" fields "}"

abbrev pub word_list : R (list leaf)
word_list = choice (between (class 8) (separated (token (class 0)) (class 5)) (class 9)) (between (class 10) (named (fields [])) (class 11))

abbrev pub prim : R tree
prim = choice (node {s = leaf} (λ t. word (number t)) (token (class 0))) (choice (between (class 6) (named expr) (class 7)) (node {s = list leaf} (λ ts. words (numbers ts)) word_list))

-- ---- expr : prim ("!=" prim)*, two levels for each

abbrev pub compared : R tree
compared = suffixes {r = tree} 2 prim (behind (class 4) (starting (class 0 or class 6) prim)) (λ a b. not_ (equal a b))

-- ---- stmt : expr | "if" expr stmt ["else" stmt] | "until" expr stmt

abbrev pub plain : R (marked tree)
plain = view {s = tree} (λ e. (e, 0)) compared

-- a condition, a statement and maybe another
abbrev pub branches : Sort
branches = pair (pair tree (marked tree)) (optional (marked tree))

abbrev pub is_none : {A : Type 0} → Option A → Bool
is_none (Some a) = false
is_none None = true

-- the statement takes no "else", so the "if" may
abbrev pub is_closed : El Token Tree branches → Bool
is_closed x = nat_eq 0 (x.0.1.1) && is_none (x.1)

abbrev pub then_part : R branches
then_part = view {s = pair tree (marked tree)} (λ x. (x, None)) (behind (class 1) (sequence (named expr) (named stmt)))

abbrev pub parts : R branches
parts = suffix {r = marked tree} 0 then_part is_closed (behind (class 2) (named stmt)) (λ x y. (x.0, Some y))

abbrev pub branched : Tree → Tree → Option (Tree × ℕ) → Tree × ℕ
branched c a None = (when c a, 1)
branched c a (Some b) = (either c a (b.0), b.1)

abbrev pub conditional : R (marked tree)
conditional = node {s = branches} (λ x. branched (x.0.0) (x.0.1.0) (x.1)) parts

-- both nodes are there as soon as it begins
abbrev pub looped : R (marked tree)
looped = needs 2 (node {s = pair tree (marked tree)} (λ x. (loop (x.0) (x.1.0), x.1.1)) (behind (class 3) (sequence (node {s = tree} not_ (named expr)) (named stmt))))

abbrev pub production : (k : Name) → R (sort k)
production stmt = choice plain (choice conditional looped)
production expr = compared
production (fields seen) = some_fields seen

abbrev pub begins_expr : ℕ → Bool
begins_expr = class 0 or class 6 or class 8 or class 10

abbrev pub begins : Name → ℕ → Bool
begins stmt = class 1 or class 3 or begins_expr
begins expr = begins_expr
begins (fields seen) = class 0

abbrev pub continues : Name → ℕ → Bool
continues stmt = class 4 or class 2
continues expr = class 4
continues (fields seen) = class 5

-- an "else" goes on with a statement that has the number 1
abbrev pub statement_goes_on : ℕ → ℕ → Bool
statement_goes_on m n = class 4 n || (class 2 n && nat_eq 1 m)

abbrev pub goes_on : (k : Name) → El Token Tree (sort k) → ℕ → Bool
goes_on stmt x n = statement_goes_on (x.1) n
goes_on expr x n = continues expr n
goes_on (fields seen) x n = continues (fields seen) n

abbrev pub table : Grammar Token Tree Name sort
table = record { code = code; size = 12; depth = depth; production = production; name_nullable = λ k. false; name_first = begins; name_continues = continues; name_goes_on = goes_on }
