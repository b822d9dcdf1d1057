-- The rules of a grammar, as data.
use Rattle.std.specs.Prelude.{ℕ, suc, max, Bool, List, Option, Some, None}
use Rattle.grammar.specs.Forms.{deepest}

-- what a rule gives: a token, a node, a number, a value with a number that tells how it was written, a pair, a list, a value
-- or none, a value under a node that is still to be made
pub data Sort : Type 0 where
  leaf : Sort
  tree : Sort
  flag : Sort
  marked : Sort → Sort
  pair : Sort → Sort → Sort
  list : Sort → Sort
  optional : Sort → Sort
  under : Sort → Sort

pub record Held (A : Type 0) : Type 0 where
  pub value : A

abbrev pub El : Type 0 → Type 0 → Sort → Type 0
El T N leaf = T
El T N tree = N
El T N flag = ℕ
El T N (marked s) = El T N s × ℕ
El T N (pair s r) = El T N s × El T N r
El T N (list s) = List (El T N s)
El T N (optional s) = Option (El T N s)
El T N (under s) = Held (El T N s)

abbrev pub deep_if : {A : Type 0} → (A → ℕ) → Option A → ℕ
deep_if d None = 0
deep_if d (Some a) = d a

-- the nodes on the longest path
abbrev pub deep : {N : Type 0} → (T : Type 0) → (N → ℕ) → (s : Sort) → El T N s → ℕ
deep T depth leaf a = 0
deep T depth tree a = depth a
deep T depth flag a = 0
deep T depth (marked s) a = deep T depth s (a.0)
deep T depth (pair s r) a = max (deep T depth s (a.0)) (deep T depth r (a.1))
deep T depth (list s) a = deepest (deep T depth s) a
deep T depth (optional s) a = deep_if (deep T depth s) a
deep T depth (under s) a = suc (deep T depth s a.value)

-- T is the tokens, N the nodes, K the names of productions, of which each has its sort.
pub data Rule (T N K : Type 0) (sorts : K → Sort) : Sort → Type 0 where
  -- one token of a class, which is a set of codes
  token : (ℕ → Bool) → Rule T N K sorts leaf
  -- one token of a class that meets a condition
  token_where : (ℕ → Bool) → (T → Bool) → Rule T N K sorts leaf
  -- no token
  absent : {s : Sort} → El T N s → Rule T N K sorts s
  sequence : {s r : Sort} → Rule T N K sorts s → Rule T N K sorts r → Rule T N K sorts (pair s r)
  choice : {s : Sort} → Rule T N K sorts s → Rule T N K sorts s → Rule T N K sorts s
  -- the same parts, seen as another value
  view : {s r : Sort} → (El T N s → El T N r) → Rule T N K sorts s → Rule T N K sorts r
  -- a node over the parts
  node : {s r : Sort} → (El T N s → El T N r) → Rule T N K sorts s → Rule T N K sorts r
  many : {s : Sort} → Rule T N K sorts s → Rule T N K sorts (list s)
  -- a rule and any number of parts behind it, each of which makes a value with all before it, so many levels above them
  suffixes : {s r : Sort} → ℕ → Rule T N K sorts s → Rule T N K sorts r → (El T N s → El T N r → El T N s) → Rule T N K sorts s
  -- a rule and at most one part behind it, which makes a value with it, so many levels above, where its value may have one
  suffix : {s r : Sort} → ℕ → Rule T N K sorts s → (El T N s → Bool) → Rule T N K sorts r → (El T N s → El T N r → El T N s) → Rule T N K sorts s
  -- a rule that begins with a token of a class
  starting : {s : Sort} → (ℕ → Bool) → Rule T N K sorts s → Rule T N K sorts s
  -- The second hangs on what the first spells. Whatever that is, these tell whether no token can spell the second, which
  -- classes begin it, and which can go on behind it.
  bind : {s r : Sort} → Rule T N K sorts s → Bool → (ℕ → Bool) → (ℕ → Bool) → (El T N s → Rule T N K sorts r) → Rule T N K sorts (pair s r)
  -- a rule that begins only where there are so many levels, as its nodes have
  needs : {s : Sort} → ℕ → Rule T N K sorts s → Rule T N K sorts s
  -- the production of that name
  named : (k : K) → Rule T N K sorts (sorts k)

pub record Grammar (T N K : Type 0) (sorts : K → Sort) : Type 0 where
  -- the class of a token, below `size`
  pub code : T → ℕ
  pub size : ℕ
  -- how deep a node is
  pub depth : N → ℕ
  pub production : (k : K) → Rule T N K sorts (sorts k)
  -- whether no token can spell a name, the classes that begin it, and those that can go on behind a whole one
  pub name_nullable : K → Bool
  pub name_first : K → ℕ → Bool
  pub name_continues : K → ℕ → Bool
  -- which of the last can go on behind a whole one of that value
  pub name_goes_on : (k : K) → El T N (sorts k) → ℕ → Bool
