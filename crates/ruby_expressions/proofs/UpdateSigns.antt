-- The signs of assignments with an operator: those that are called, and the others.
use Rattle.std.proofs.Common.{◌≡◌, ℕ, Bool, true, false, ◌||◌, List, [], ◌∷◌, Option, Some, None, Result, refl}
use Rattle.std.specs.Prelude.{if◌then◌else◌}
use Rattle.grammar.specs.FormReaders.{next_in, read_token, read_one_token}
use Rattle.grammar.specs.Spelling.{token_in}
use Rattle.ruby_meaning.specs.Grammar.Expressions as g
use Rattle.ruby_meaning.specs.Grammar.Seen.{Seen}
use Rattle.ruby_reading.specs.Ahead.{class_code}

of_either : (b c : Bool) (t : Seen) (ts : List Seen) → b ≡ true → read_one_token (if b then Some t else None) t ts ≡ read_one_token (if b || c then Some t else None) t ts
of_either true c t ts h = refl
of_either false c t ts h = cc

of_other : (b c : Bool) (t : Seen) (ts : List Seen) → b ≡ false → read_one_token (if c then Some t else None) t ts ≡ read_one_token (if b || c then Some t else None) t ts
of_other false c t ts h = refl
of_other true c t ts h = cc

pub call_taken : (ts : List Seen) → next_in (λ t. g.calling (class_code t)) ts ≡ true → read_token (token_in class_code g.calling) ts ≡ read_token (token_in class_code g.updates) ts
call_taken [] h = refl
call_taken (t ∷ ts) h = of_either _ _ t ts h

pub guard_taken : (ts : List Seen) → next_in (λ t. g.calling (class_code t)) ts ≡ false → read_token (token_in class_code g.guarding) ts ≡ read_token (token_in class_code g.updates) ts
guard_taken [] h = refl
guard_taken (t ∷ ts) h = of_other _ _ t ts h
