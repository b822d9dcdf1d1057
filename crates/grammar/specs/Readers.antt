-- The reader of a grammar.
use Rattle.std.specs.Prelude.{ℕ, zero, suc, ◌+◌, List, length, Result, Err, nat_le}
use Rattle.grammar.specs.Rules.{Sort, El, deep, Rule, token, token_where, absent, sequence, choice, view, node, many, suffixes, suffix, starting, bind, needs, named, Grammar}
use Rattle.grammar.specs.FormReaders.{read_token, read_absent, read_sequence, read_choice, read_view, read_node, read_many, under, read_suffixes_at, read_suffix_at, read_starting, read_bind, read_needs}
use Rattle.grammar.specs.Spelling.{token_in, token_such}
use Rattle.grammar.specs.Checks.{first}

module _ {T N K : Type 0} {sorts : K → Sort} (G : Grammar T N K sorts) where
  abbrev pub Reader : Type 0 → Type 0
  Reader A = List T → Result (A × List T) (List T)

  abbrev pub read_rule : {s : Sort} → (ℕ → (k : K) → Reader (El T N (sorts k))) → Rule T N K sorts s → ℕ → Reader (El T N s)
  read_rule names (token f) b ts = read_token (token_in G.code f) ts
  read_rule names (token_where f ok) b ts = read_token (token_such G.code f ok) ts
  read_rule names (absent {s = s} a) b ts = read_absent (nat_le (deep T G.depth s a) b) a ts
  read_rule names (sequence r q) b ts = read_sequence (read_rule names r b) (read_rule names q b) ts
  read_rule names (choice r q) b ts = read_choice (λ t. first G r (G.code t)) (read_rule names r b) (read_rule names q b) ts
  read_rule names (view f r) b ts = read_view f (read_rule names r b) ts
  read_rule names (node f r) b ts = read_node f (λ c. read_rule names r c) b ts
  read_rule names (many r) b ts = read_many (λ t. first G r (G.code t)) (read_rule names r b) (length ts) ts
  read_rule names (suffixes {s = s} levels r q f) b ts = read_suffixes_at (λ t. first G q (G.code t)) (deep T G.depth s) f (read_rule names r b) (λ c. read_rule names q c) (under levels b) ts
  read_rule names (suffix {s = s} levels r ok q f) b ts = read_suffix_at (λ t. first G q (G.code t)) (deep T G.depth s) ok f (read_rule names r b) (λ c. read_rule names q c) (under levels b) ts
  read_rule names (starting g r) b ts = read_starting (λ t. g (G.code t)) (read_rule names r b) ts
  read_rule names (bind r null begins goes_on q) b ts = read_bind (read_rule names r b) (λ a. read_rule names (q a) b) ts
  read_rule names (needs n r) b ts = read_needs n b (read_rule names r b) ts
  read_rule names (named k) b ts = names b k ts

  -- in so many steps of names at most
  unfoldable pub read_within : ℕ → ℕ → (k : K) → Reader (El T N (sorts k))
  read_within zero b k ts = Err ts
  read_within (suc n) b k ts = read_rule (read_within n) (G.production k) b ts

  -- the value of a name within so many levels; each name stands under a node or behind a token, so these steps do
  unfoldable pub read_named : ℕ → (k : K) → Reader (El T N (sorts k))
  unfolding read_within
  read_named b k ts = read_within (suc (length ts + b)) b k ts
