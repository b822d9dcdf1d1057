-- What is asked of the place of a refusal, by what stands before it and by the sign that stands there.
use Rattle.std.specs.Prelude.{◌≡◌, ℕ, suc, Bool, true, false, if◌then◌else◌, List, [], ◌∷◌, ◌++◌, map, take, slice_get, Option, Some, None, ◌⊎◌, Result, Ok, Err, IfOk}
use Rattle.std.specs.Option.{option_map}
use Rattle.grammar.specs.Reading.{FrontUpTo, read_all}
use Rattle.grammar.specs.Spelling.{IsFront}
use Rattle.std.specs.Global.{Vec}
use Rattle.opal_base.specs.declared.fault.NoMemory.{NoMemory}
use Rattle.ruby_meaning.specs.declared.construct.Construct.{Construct}
use Rattle.ruby_meaning.specs.declared.construct.Construct.TheVariants as construct
use Rattle.ruby_meaning.specs.declared.production.Sign.{Sign}
use Rattle.ruby_meaning.specs.declared.production.Sign.TheVariants as sign
use Rattle.ruby_meaning.specs.declared.token.Mark.TheVariants as mark
use Rattle.ruby_meaning.specs.declared.token.Word.TheVariants as word
use Rattle.ruby_meaning.specs.declared.token.Token.{Token}
use Rattle.ruby_meaning.specs.declared.token.TokenKind.TheVariants as kind
use Rattle.ruby_meaning.specs.Grammar.Actions.{no_place}
use Rattle.ruby_meaning.specs.Grammar.Laws.{whole_file}
use Rattle.ruby_meaning.specs.Grammar.Refusals.{most_levels, stand_ins, is_marked, is_keyword_sign, is_in, is_arrow, is_case, is_jump, is_separator, has_sign, last_seen, last_from, Cases}
use Rattle.ruby_meaning.specs.Grammar.Seen.{Seen}
use Rattle.ruby_meaning.specs.Grammar.Table.{table}
use Rattle.ruby_parser.specs.declared.read.Halt.{Halt}
use Rattle.ruby_parser.specs.declared.read.Halt.TheVariants as halt
use Rattle.ruby_reading.specs.declared.value.Body.{Body}
use Rattle.ruby_reading.specs.declared.cursor.Sight.{Sight}
use Rattle.ruby_reading.specs.Ahead.{see}
use Rattle.ruby_reading.specs.Shown.{shown_body}

-- A test tells whether it holds.
abbrev pub Tells : Type 0 → Bool → Type 0
Tells p true = p
Tells p false = p → ⊥

abbrev pub TellsIf : Type 0 → Result Bool NoMemory → Type 0
TellsIf p result = IfOk result (λ told. Tells p told)

-- ---- what could stand behind a list

abbrev pub Follows : List Seen → List Sign → Type 0
Follows front signs = IsFront table whole_file most_levels (front ++ stand_ins signs)

abbrev pub Starts : List Seen → Type 0
Starts front = Follows front (sign.Op mark.Ampersand ∷ []) ⊎ ((Follows front (sign.Marked mark.Star ∷ []) × Follows front (sign.Label ∷ [])) ⊎ (has_sign is_jump (last_seen front) ≡ true))

abbrev pub BehindSubject : List Seen → Type 0
BehindSubject front = Follows front (sign.Keyword word.When ∷ []) × (Follows front (sign.Keyword word.End ∷ []) → ⊥) × (has_sign is_case (last_from None front) ≡ false)

abbrev pub BehindStatement : List Seen → Type 0
BehindStatement front = Follows front (sign.Keyword word.Unless ∷ []) × Follows front (sign.Op mark.Semicolon ∷ sign.Keyword word.Alias ∷ []) × (Follows front (sign.Keyword word.Alias ∷ []) → ⊥)

-- ---- the sign that stands there

abbrev pub holds : (Sign → Bool) → Option Sign → Bool
holds f None = false
holds f (Some s) = f s

abbrev pub sign_of : Option Seen → Option Sign
sign_of o = option_map (λ t. t.sign) o

-- whether the last token that is no separator is `case`, behind one found so far
abbrev pub case_from : Bool → List Seen → Bool
case_from found [] = found
case_from found (t ∷ ts) = case_from (if is_separator t.sign then found else is_case t.sign) ts

-- ---- the constructs

abbrev pub KeywordParameter : Option Sign → List Seen → Type 0
KeywordParameter next front = (holds is_keyword_sign next ≡ true) × Starts front

abbrev pub PatternMatch : Option Sign → List Seen → Type 0
PatternMatch next front = ((holds is_in next ≡ true) × BehindSubject front) ⊎ ((holds is_arrow next ≡ true) × BehindStatement front)

-- but for depth
abbrev pub Names : Option Sign → List Seen → Construct → Type 0
Names next front c =
    Cases (holds is_marked next ≡ true) (c ≡ construct.AmbiguousArgument)
    (Cases (KeywordParameter next front) (c ≡ construct.KeywordParameter)
    (Cases (PatternMatch next front) (c ≡ construct.PatternMatch) (c ≡ construct.Syntax)))

-- ---- whole lists

abbrev pub ReadsAll : ℕ → List Seen → Result Body Halt → Type 0
ReadsAll levels ts (Ok body) = read_all table whole_file levels ts ≡ Ok (shown_body body)
ReadsAll levels ts (Err halt.NoMemory) = Unit {0}
ReadsAll levels ts (Err (halt.At at)) = read_all table whole_file levels ts ≡ Err at

-- ---- tokens that stand in

abbrev pub stand_in : Token
stand_in = record { kind = kind.Eof; from = 0; to = 0; pos = no_place; end = no_place; blank_before = true; blank_after = true }

abbrev pub Extends : List Sign → Vec Sight → Vec Sight → Result (Unit {0}) NoMemory → Type 0
Extends signs old new (Ok u) = map see new.items ≡ map see old.items ++ stand_ins signs
Extends signs old new (Err e) = Unit {0}

-- the construct at a place
abbrev pub ConstructIs : List Seen → ℕ → Construct → Type 0
ConstructIs ts at c = Cases (FrontUpTo table whole_file most_levels ts (suc at)) (c ≡ construct.TooDeep) (Names (sign_of (slice_get ts at)) (take at ts) c)
