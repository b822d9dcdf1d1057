-- Which construct the refusal of a list of tokens names: the first of these that applies.
use Rattle.std.specs.Prelude.{◌≡◌, ℕ, suc, Bool, true, false, if◌then◌else◌, List, [], ◌∷◌, ◌++◌, take, slice_get, Option, Some, None, ◌⊎◌}
use Rattle.opal_base.specs.declared.place.Pos.{Pos}
use Rattle.grammar.specs.Spelling.{IsFront}
use Rattle.grammar.specs.Reading.{FrontUpTo}
use Rattle.ruby_meaning.specs.declared.construct.Construct.{Construct}
use Rattle.ruby_meaning.specs.declared.construct.Construct.TheVariants as construct
use Rattle.ruby_meaning.specs.declared.production.Sign.{Sign}
use Rattle.ruby_meaning.specs.declared.production.Sign.TheVariants as sign
use Rattle.ruby_meaning.specs.declared.token.Mark.TheVariants as mark
use Rattle.ruby_meaning.specs.declared.token.Token.{Token}
use Rattle.ruby_meaning.specs.declared.token.TokenKind.{TokenKind}
use Rattle.ruby_meaning.specs.declared.token.TokenKind.TheVariants as kind
use Rattle.ruby_meaning.specs.declared.token.Word.TheVariants as word
use Rattle.ruby_meaning.specs.Grammar.Seen.{Seen}
use Rattle.ruby_meaning.specs.Grammar.Actions.{no_place}
use Rattle.ruby_meaning.specs.Grammar.Table.{table}
use Rattle.ruby_meaning.specs.Grammar.Laws.{whole_file, sight, GrammarFault}

-- more levels than a front has which is within the limit but for its last token
abbrev pub most_levels : ℕ
most_levels = 4294967294

-- ---- what could stand at the place

-- a token of that kind and that sign, which has no place in the text
abbrev pub stand_in : TokenKind → Sign → Seen
stand_in k s = record { token = record { kind = k; from = 0; to = 0; pos = no_place; end = no_place; blank_before = true; blank_after = true }; sign = s }

abbrev pub stand_ins : List Sign → List Seen
stand_ins [] = []
stand_ins (s ∷ ss) = stand_in kind.Eof s ∷ stand_ins ss

-- the tokens before the place, with these in place of those from there on, are a front of a program
abbrev pub MayFollow : List Token → ℕ → List Sign → Type 0
MayFollow tokens at signs = IsFront table whole_file most_levels (take at (sight tokens) ++ stand_ins signs)

-- ---- what stands there

abbrev pub has_sign : (Sign → Bool) → Option Seen → Bool
has_sign f None = false
has_sign f (Some t) = f t.sign

-- the token at the place has such a sign; the end token has none
abbrev pub sign_at : (Sign → Bool) → List Token → ℕ → Bool
sign_at f tokens at = has_sign f (slice_get (sight tokens) at)

abbrev pub is_marked : Sign → Bool
is_marked (sign.Marked m) = true
is_marked _ = false

-- a label or `**`
abbrev pub is_keyword_sign : Sign → Bool
is_keyword_sign sign.Label = true
is_keyword_sign (sign.Op mark.Power) = true
is_keyword_sign _ = false

abbrev pub is_in : Sign → Bool
is_in (sign.Keyword word.In) = true
is_in _ = false

abbrev pub is_arrow : Sign → Bool
is_arrow (sign.Op mark.FatArrow) = true
is_arrow _ = false

abbrev pub is_case : Sign → Bool
is_case (sign.Keyword word.Case) = true
is_case _ = false

abbrev pub is_jump : Sign → Bool
is_jump (sign.Keyword word.Return) = true
is_jump (sign.Keyword word.Break) = true
is_jump (sign.Keyword word.Next) = true
is_jump _ = false

abbrev pub is_separator : Sign → Bool
is_separator sign.Newline = true
is_separator (sign.Op mark.Semicolon) = true
is_separator _ = false

-- the last token that is no separator, behind the one found so far
abbrev pub last_from : Option Seen → List Seen → Option Seen
last_from found [] = found
last_from found (t ∷ ts) = last_from (if is_separator t.sign then found else Some t) ts

abbrev pub last_seen : List Seen → Option Seen
last_seen [] = None
last_seen (t ∷ []) = Some t
last_seen (t ∷ u ∷ us) = last_seen (u ∷ us)

-- ---- the constructs

-- The tokens up to and with it are a front of a program of a greater depth.
abbrev pub IsTooDeep : List Token → ℕ → Type 0
IsTooDeep tokens at = FrontUpTo table whole_file most_levels (sight tokens) (suc at)

-- It is a sign that begins an argument, where no command call may stand.
abbrev pub IsAmbiguous : List Token → ℕ → Type 0
IsAmbiguous tokens at = sign_at is_marked tokens at ≡ true

-- A parameter or an argument of a call may start there, as `&` could stand there; or another argument, as both `*` and a
-- label could; or it stands directly behind `return`, `break` or `next`.
abbrev pub ArgumentMayStart : List Token → ℕ → Type 0
ArgumentMayStart tokens at =
    MayFollow tokens at (sign.Op mark.Ampersand ∷ []) ⊎ ((MayFollow tokens at (sign.Marked mark.Star ∷ []) × MayFollow tokens at (sign.Label ∷ []))
    ⊎ (has_sign is_jump (last_seen (take at (sight tokens))) ≡ true))

abbrev pub IsKeywordParameter : List Token → ℕ → Type 0
IsKeywordParameter tokens at = (sign_at is_keyword_sign tokens at ≡ true) × ArgumentMayStart tokens at

-- Behind the subject of a `case` its first `when` may stand, and no `end` yet.
abbrev pub IsBehindSubject : List Token → ℕ → Type 0
IsBehindSubject tokens at =
    MayFollow tokens at (sign.Keyword word.When ∷ []) × (MayFollow tokens at (sign.Keyword word.End ∷ []) → ⊥) × (has_sign is_case (last_from None (take at (sight tokens))) ≡ false)

-- Behind a statement an `unless` may stand, and a `;` and another one, but none begins there.
abbrev pub IsBehindStatement : List Token → ℕ → Type 0
IsBehindStatement tokens at =
    MayFollow tokens at (sign.Keyword word.Unless ∷ []) × MayFollow tokens at (sign.Op mark.Semicolon ∷ sign.Keyword word.Alias ∷ [])
    × (MayFollow tokens at (sign.Keyword word.Alias ∷ []) → ⊥)

abbrev pub IsPatternMatch : List Token → ℕ → Type 0
IsPatternMatch tokens at = ((sign_at is_in tokens at ≡ true) × IsBehindSubject tokens at) ⊎ ((sign_at is_arrow tokens at ≡ true) × IsBehindStatement tokens at)

-- the second where the condition holds, else the third
abbrev pub Cases : Type 0 → Type 0 → Type 0 → Type 0
Cases condition now later = (condition × now) ⊎ ((condition → ⊥) × later)

abbrev pub ConstructAt : List Token → ℕ → Construct → Type 0
ConstructAt tokens at c =
    Cases (IsTooDeep tokens at) (c ≡ construct.TooDeep)
    (Cases (IsAmbiguous tokens at) (c ≡ construct.AmbiguousArgument)
    (Cases (IsKeywordParameter tokens at) (c ≡ construct.KeywordParameter)
    (Cases (IsPatternMatch tokens at) (c ≡ construct.PatternMatch) (c ≡ construct.Syntax))))

-- The tokens are refused at the place, with the construct.
pub record GrammarRefusal (tokens : List Token) (at : ℕ) (c : Construct) : Type 0 where
  pub fault : GrammarFault tokens at
  pub named : ConstructAt tokens at c

-- The same with the place of the token at which they are refused, which may be the end token.
pub record RefusedTokens (tokens : List Token) (pos : Pos) (c : Construct) : Type 0 where
  pub at : ℕ
  pub refusal : GrammarRefusal tokens at c
  pub token : Token
  pub stands : slice_get tokens at ≡ Some token
  pub place : pos ≡ token.pos

-- ---- laws

-- A refusal names one construct.
abbrev pub OneConstruct : Type 0
OneConstruct = (tokens : List Token) (at other : ℕ) (c d : Construct) → GrammarRefusal tokens at c → GrammarRefusal tokens other d → (at ≡ other) × (c ≡ d)

abbrev pub SomeConstruct : Type 0
SomeConstruct = (tokens : List Token) (at : ℕ) → GrammarFault tokens at → (c : Construct) × GrammarRefusal tokens at c
