-- The construct of a refusal, and the program that a list spells.
use Rattle.std.proofs.Common.{◌≡◌, ℕ, suc, ◌+◌, ◌-◌, ◌≤◌, ◌<◌, Bool, true, false, List, [], ◌∷◌, ◌++◌, length, map, take, None, Some, Option, ◌⊎◌, Result, Ok, Err, inl, inr, refl, sym, ap, ◌∙◌, subst, arith}
use Rattle.std.specs.Prelude.{slice_get, IfOk}
use Rattle.std.proofs.lemmas.List.{length-map, take-map}
use Rattle.grammar.specs.Reading.{FrontUpTo, RefusedAt, read_all}
use Rattle.grammar.proofs.Theorem.{read_ok, read_refusal}
use Rattle.opal_base.specs.declared.fault.NoMemory.{NoMemory}
use Rattle.ruby_meaning.specs.declared.construct.Construct.{Construct}
use Rattle.ruby_meaning.specs.declared.construct.Construct.TheVariants as construct
use Rattle.ruby_meaning.specs.declared.production.Sign.{Sign}
use Rattle.ruby_meaning.specs.declared.token.Token.{Token}
use Rattle.ruby_meaning.specs.Grammar.Laws.{SpellsInLimit, before_end, sight, whole_file}
use Rattle.ruby_meaning.specs.Grammar.Refusals.{most_levels, Cases, ConstructAt, RefusedTokens, has_sign, is_arrow, is_in, is_keyword_sign, is_marked}
use Rattle.ruby_meaning.specs.Grammar.Seen.{Seen}
use Rattle.ruby_meaning.specs.Grammar.Table.{table}
use Rattle.ruby_meaning.specs.Lexing.Laws.{HasOneEof}
use Rattle.ruby_meaning.proofs.Grammar.TableMeets.{predictive}
use Rattle.ruby_reading.specs.declared.cursor.Sight.{Sight}
use Rattle.ruby_parser.specs.declared.read.Halt.TheVariants as halt
use Rattle.ruby_reading.specs.declared.value.Body.{Body}
use Rattle.ruby_reading.specs.Ahead.{see}
use Rattle.ruby_parser.specs.Refusing.{BehindStatement, BehindSubject, ConstructIs, Names, ReadsAll, Starts, Tells, sign_of}
use Rattle.ruby_reading.specs.Shown.{shown_body}
use Rattle.ruby_reading.proofs.SightsRead.{end_behind}
use Rattle.ruby_parser.proofs.Told.{untold}

-- a refusal that isn't too deep
pub named_told : (sights : List Sight) (at : ℕ) (deep : Bool) → deep ≡ false → Tells (FrontUpTo table whole_file most_levels (map see sights) (suc at)) deep
    → (next : Option Sign) → next ≡ sign_of (slice_get (map see sights) at) → (r : Result Construct NoMemory) → IfOk r (λ c. Names next (map see (take at sights)) c) → IfOk r (λ c. ConstructIs (map see sights) at c)
named_told sights at deep e t next f (Ok c) h =
    inr (untold _ deep e t, subst (λ n. Names n (take at (map see sights)) c) f (subst (λ l. Names next l c) (sym (take-map see at sights)) h))
named_told sights at deep e t next f (Err x) h = tt

-- the program that a file's tokens spell
pub program_told : (tokens : List Token) (ts : List Seen) (body : Body) → ts ≡ sight tokens → ReadsAll 120 ts (Ok body) → SpellsInLimit (record { body = body.node }) tokens
unfolding table
program_told tokens ts body e h =
    let s = read_ok table predictive whole_file 120 (sight tokens) (shown_body body) (subst (λ l. ReadsAll 120 l (Ok body)) e h) in
    record { spelled = record { written = (shown_body body).1; spells = s.spells }; shallow = s.shallow }

refused_at : (ts : List Seen) (at : ℕ) → ReadsAll 120 ts (Err (halt.At at)) → RefusedAt table whole_file 120 ts at
refused_at ts at h = read_refusal table predictive whole_file 120 ts at h

pub stop_within : (sights : List Sight) (at : ℕ) → ReadsAll 120 (map see sights) (Err (halt.At at)) → at ≤ length sights
stop_within sights at h = omega (arith, (refused_at (map see sights) at h).within, length-map sights see)

pub stop_before : (tokens : List Token) (ts : List Seen) (at : ℕ) → HasOneEof tokens → ts ≡ sight tokens → ReadsAll 120 ts (Err (halt.At at)) → at < length tokens
stop_before tokens ts at o e h = omega (arith, (refused_at ts at h).within, ap length e, end_behind tokens o)

-- the same by the token that stands there
abbrev NamesBy : Option Seen → List Seen → Construct → Type 0
NamesBy o front c =
    Cases (has_sign is_marked o ≡ true) (c ≡ construct.AmbiguousArgument)
    (Cases ((has_sign is_keyword_sign o ≡ true) × Starts front) (c ≡ construct.KeywordParameter)
    (Cases (((has_sign is_in o ≡ true) × BehindSubject front) ⊎ ((has_sign is_arrow o ≡ true) × BehindStatement front)) (c ≡ construct.PatternMatch) (c ≡ construct.Syntax)))

names_by : (o : Option Seen) (front : List Seen) (c : Construct) → Names (sign_of o) front c → NamesBy o front c
names_by None front c h = h
names_by (Some t) front c h = h

named_at : (tokens : List Token) (at : ℕ) (c : Construct) → ConstructIs (sight tokens) at c → ConstructAt tokens at c
named_at tokens at c (inl x) = inl x
named_at tokens at c (inr x) = inr (x.0, names_by (slice_get (sight tokens) at) (take at (sight tokens)) c x.1)

-- the refusal of a file's tokens
pub refusal_told : (tokens : List Token) (ts : List Seen) (at : ℕ) (c : Construct) (token : Token) → ts ≡ sight tokens → ReadsAll 120 ts (Err (halt.At at)) → ConstructIs ts at c → slice_get tokens at ≡ Some token
    → RefusedTokens tokens token.pos c
refusal_told tokens ts at c token e h k g = record {
  at = at;
  refusal = record { fault = subst (λ l. RefusedAt table whole_file 120 l at) e (refused_at ts at h); named = named_at tokens at c (subst (λ l. ConstructIs l at c) e k) };
  token = token;
  stands = g;
  place = refl;
}
