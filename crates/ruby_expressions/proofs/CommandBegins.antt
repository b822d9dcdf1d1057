-- What begins the arguments of a command.
use Rattle.std.proofs.Common.{◌≡◌, Bool, true, false, ◌&&◌, ◌||◌, List, [], ◌∷◌, refl}
use Rattle.grammar.specs.Checks.{first}
use Rattle.grammar.specs.FormReaders.{next_in}
use Rattle.grammar.proofs.Classes.{included_at}
use Rattle.ruby_meaning.specs.Grammar.Expressions.{begins_marked, begins_plain, command_arguments, command_part}
use Rattle.ruby_meaning.specs.Grammar.Seen.{Seen}
use Rattle.ruby_meaning.specs.Grammar.Table.{table, begins_argument, begins_command}
use Rattle.ruby_meaning.proofs.Grammar.Codes.{code_within}
use Rattle.ruby_reading.specs.Ahead.{class_code}
use Rattle.ruby_expressions.specs.Commands.{command_under, yield_under}

both : (a b : Bool) → (a ≡ true → b ≡ true) → (a && b) ≡ a
both true b h = h refl
both false b h = refl

pub marked_begins : (ts : List Seen) → next_in (λ t. begins_marked (class_code t) && begins_argument (class_code t)) ts ≡ next_in (λ t. begins_marked (class_code t)) ts
unfolding table
marked_begins [] = refl
marked_begins (t ∷ ts) = both (begins_marked (class_code t)) (begins_argument (class_code t)) (λ h. included_at table begins_marked begins_argument (class_code t) refl (code_within t.sign) h)

pub plain_begins : (ts : List Seen) → next_in (λ t. begins_plain (class_code t) && begins_argument (class_code t)) ts ≡ next_in (λ t. begins_plain (class_code t)) ts
unfolding table
plain_begins [] = refl
plain_begins (t ∷ ts) = both (begins_plain (class_code t)) (begins_argument (class_code t)) (λ h. included_at table begins_plain begins_argument (class_code t) refl (code_within t.sign) h)

both_begin : (a b c e : Bool) → (a && b) ≡ a → (c && e) ≡ c → ((a && b) || (c && e)) ≡ (a || c)
both_begin a b c e h k = cc

-- of one token
begins : (t : Seen) → (begins_marked (class_code t) && begins_argument (class_code t) || begins_plain (class_code t) && begins_argument (class_code t)) ≡ begins_command (class_code t)
begins t = both_begin _ _ _ _ (marked_begins (t ∷ [])) (plain_begins (t ∷ []))

pub command_seen : (d r : Bool) (ts : List Seen) → next_in (λ t. first table (command_under d r) (table.code t)) ts ≡ next_in (λ t. begins_command (class_code t)) ts
unfolding table command_part command_arguments
command_seen d r [] = refl
command_seen true r (t ∷ ts) = begins t
command_seen false r (t ∷ ts) = begins t

pub yield_seen : (d r : Bool) (ts : List Seen) → next_in (λ t. first table (yield_under d r) (table.code t)) ts ≡ next_in (λ t. begins_command (class_code t)) ts
unfolding table command_arguments
yield_seen d r [] = refl
yield_seen d r (t ∷ ts) = begins t
