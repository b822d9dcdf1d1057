-- The values of names.
use Rattle.std.proofs.Common.{◌≡◌, ℕ, suc, ◌<◌, length, map, Bool, true, false, ◌&&◌, ◌||◌, List, [], ◌∷◌, Option, Some, None, Result, Ok, Err, refl, sym, ap, ◌∙◌, arith}
use Rattle.std.specs.Prelude.{nat_le, codes, if◌then◌else◌}
use Rattle.std.proofs.lemmas.Bool.Decides.{nat_tests}
use Rattle.grammar.specs.Checks.{first}
use Rattle.grammar.specs.FormReaders.{next_in}
use Rattle.grammar.specs.Readers.{read_named, read_rule}
use Rattle.grammar.specs.Rules.{Held}
use Rattle.opal_base.specs.declared.place.Pos.{Pos}
use Rattle.opal_base.specs.declared.place.Span.{Span}
use Rattle.ruby_meaning.proofs.Grammar.Depths.{depth_lit, depth_reraise, depth_call}
use Rattle.ruby_meaning.specs.declared.production.Sign.TheVariants as sign
use Rattle.ruby_meaning.specs.declared.token.Word.TheVariants as word
use Rattle.ruby_meaning.specs.declared.tree.Kind.TheVariants as kind
use Rattle.ruby_meaning.specs.declared.tree.Literal.TheVariants as literal
use Rattle.ruby_meaning.specs.declared.tree.Node.{Node}
use Rattle.ruby_meaning.specs.Depth.{depth_of}
use Rattle.ruby_meaning.specs.Grammar.Actions as act
use Rattle.ruby_meaning.specs.Grammar.Calls.{brace_parts, do_parts, begins_block}
use Rattle.ruby_meaning.specs.Grammar.Classes.{a, key}
use Rattle.ruby_meaning.specs.Grammar.Primaries.{lambda_block}
use Rattle.ruby_meaning.specs.Grammar.Seen.{Seen}
use Rattle.ruby_meaning.specs.Grammar.Table.{table}
use Rattle.descent.specs.declared.fail.Fail.{Fail}
use Rattle.descent.specs.declared.fail.Fail.TheVariants.{NoMemory, Refused}
use Rattle.ruby_reading.specs.declared.value.Value.{Value}
use Rattle.ruby_reading.specs.Ahead.{class_code, MakesAs}
use Rattle.ruby_reading.specs.Named.{GivesValue}
use Rattle.ruby_reading.specs.Shown.{shown_value}
use Rattle.ruby_operands.specs.CallValues.{bare_kind, behind_empty, behind_lambda, begins_word, called_node, name_alone, name_closed}
use Rattle.ruby_reading.specs.Nodes.{is_no_args}

pub lambda_seen : (r d : Bool) (name : Seen) (c : ℕ) → first table (lambda_block r d name) c ≡ begins_block r d c
unfolding table lambda_block brace_parts do_parts
lambda_seen r true name c = refl
lambda_seen r false name c = refl

pub word_seen : (ts : List Seen) → next_in begins_word ts
    ≡ (next_in (λ t. key word.Nil (class_code t)) ts || (next_in (λ t. key word.True (class_code t)) ts || (next_in (λ t. key word.False (class_code t)) ts || (next_in (λ t. key word.Self_ (class_code t)) ts || next_in (λ t. key word.Retry (class_code t)) ts))))
word_seen [] = refl
word_seen (t ∷ ts) = refl

pub bare_made : (r : Bool) (u : List ℕ) (s : Span) (m : Pos) → act.bare_node r u s m ≡ act.make (bare_kind r u) s m
bare_made r u s m = by (act.is_name (codes "block_given?") u) (r && act.is_name (codes "raise") u)
  where
    by : (b c : Bool) → (if b then act.make (kind.Lit literal.BlockGiven) s m else (if c then act.make kind.Reraise s m else act.make (kind.Call None u [] None None) s m))
        ≡ act.make (if b then kind.Lit literal.BlockGiven else (if c then kind.Reraise else kind.Call None u [] None None)) s m
    by true c = refl
    by false true = refl
    by false false = refl

bare_depth : (r : Bool) (u : List ℕ) (s : Span) (m : Pos) → depth_of (act.bare_node r u s m) ≡ 1
bare_depth r u s m = by (act.is_name (codes "block_given?") u) (r && act.is_name (codes "raise") u)
  where
    by : (b c : Bool) → depth_of (if b then act.make (kind.Lit literal.BlockGiven) s m else (if c then act.make kind.Reraise s m else act.make (kind.Call None u [] None None) s m)) ≡ 1
    by true c = depth_lit literal.BlockGiven s m
    by false true = depth_reraise s m
    by false false = depth_call None u [] None None s m

one_fits : (a n : ℕ) → a ≡ 1 → nat_le a (suc n) ≡ true
one_fits a n h = grind (arith, nat_tests)

pub alone_fits : (r : Bool) (t : Seen) (n : ℕ) → nat_le (depth_of (name_alone r t).0) (suc n) ≡ true
alone_fits r t n = one_fits _ n (bare_depth r (act.units t) (act.span_of t) (act.start t))

pub closed_fits : (r : Bool) (t z : Seen) (n : ℕ) → nat_le (depth_of (name_closed r t z).0) (suc n) ≡ true
closed_fits r t z n = one_fits _ n (bare_depth r (act.units t) (act.tokens t z) (act.start t))

pub name_with_none : (r : Bool) (t : Seen) (x : act.Args) (z : Seen) → is_no_args x ≡ true → act.named_node r t (Some (x, z), None) ≡ name_closed r t z
name_with_none r t ([], ([], None)) z h = refl
name_with_none r t ([], ([], Some n)) z h = cc
name_with_none r t ([], (q ∷ qs, b)) z h = cc
name_with_none r t (n ∷ ns, y) z h = cc

pub name_with_some : (r : Bool) (t : Seen) (x : act.Args) (z : Seen) → is_no_args x ≡ false → act.named_node r t (Some (x, z), None) ≡ called_node t (Some (x, z), None)
name_with_some r t ([], ([], None)) z h = cc
name_with_some r t ([], ([], Some n)) z h = refl
name_with_some r t ([], (q ∷ qs, b)) z h = refl
name_with_some r t (n ∷ ns, y) z h = refl

-- whether pairs are shown
-- a name where no block stands behind it
alone_read : (c f : Bool) (o : Result ((Node × ℕ) × List Seen) (List Seen)) (x : Node × ℕ) (ts : List Seen) → c ≡ false → f ≡ true → (if c then o else (if f then Ok (x, ts) else Err ts)) ≡ Ok (x, ts)
alone_read false true o x ts h k = refl
alone_read true f o x ts h k = cc
alone_read false false o x ts h k = cc

given : (o : Result ((Node × ℕ) × List Seen) (List Seen)) (x : Node × ℕ) (ts : List Seen) (result : Result Value Fail) → o ≡ Ok (x, ts) → MakesAs shown_value x result → GivesValue o result ts
given o x ts (Ok v) e m = e ∙ ap (λ y. Ok (y, ts)) (sym m)
given o x ts (Err NoMemory) e m = tt
given o x ts (Err Refused) e m = cc

no_block : (r d : Bool) (name : Seen) (ts : List Seen) → next_in (λ t. begins_block r d (class_code t)) ts ≡ false → next_in (λ t. first table (lambda_block r d name) (table.code t)) ts ≡ false
unfolding table lambda_block brace_parts do_parts
no_block r true name ts h = h
no_block r false name ts h = h

pub empty_given : (r d : Bool) (n : ℕ) (t z : Seen) (ts : List Seen) (result : Result Value Fail) → next_in (λ x. begins_block r d (class_code x)) ts ≡ false → MakesAs shown_value (name_closed r t z) result
    → GivesValue (read_rule table (read_named table) (behind_empty r d t z) (suc n) ts) result ts
unfolding table
empty_given r d n t z ts result h m = given (read_rule table (read_named table) (behind_empty r d t z) (suc n) ts) (name_closed r t z) ts result (alone_read _ _ _ _ ts (no_block r d t ts h) (closed_fits r t z n)) m

pub alone_given : (r d : Bool) (n : ℕ) (t : Seen) (ts : List Seen) (result : Result Value Fail) → next_in (λ x. a sign.CallOpen (class_code x)) ts ≡ false → MakesAs shown_value (name_alone r t) result
    → GivesValue (read_rule table (read_named table) (behind_lambda r d t) (suc n) ts) result ts
unfolding table
alone_given r d n t ts result h m = given (read_rule table (read_named table) (behind_lambda r d t) (suc n) ts) (name_alone r t) ts result (alone_read _ _ _ _ ts h (alone_fits r t n)) m
