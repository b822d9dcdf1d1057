-- A refusal names one construct.
use Rattle.std.proofs.Common.{◌≡◌, ℕ, zero, suc, ◌≤◌, ◌<◌, Bool, true, false, List, [], ◌∷◌, ◌++◌, take, length, None, ◌⊎◌, inl, inr, refl, sym, ap, ◌∙◌, subst, arith, true≢false, eq-or-lt_of_le}
use Rattle.grammar.specs.Spelling.{IsFront}
use Rattle.grammar.specs.FormReaders.{remaining}
use Rattle.grammar.specs.Readers.{read_named}
use Rattle.grammar.specs.Reading.{RefusedAt, FrontUpTo}
use Rattle.grammar.proofs.FrontTests.{is_front, front_is}
use Rattle.grammar.proofs.OneAnswer as answer
use Rattle.ruby_meaning.specs.declared.construct.Construct.{Construct}
use Rattle.ruby_meaning.specs.declared.construct.Construct.TheVariants as construct
use Rattle.ruby_meaning.specs.declared.production.Sign.{Sign}
use Rattle.ruby_meaning.specs.declared.production.Sign.TheVariants as sign
use Rattle.ruby_meaning.specs.declared.token.Mark.TheVariants as mark
use Rattle.ruby_meaning.specs.declared.token.Token.{Token}
use Rattle.ruby_meaning.specs.declared.token.Word.TheVariants as word
use Rattle.ruby_meaning.specs.Grammar.Seen.{Seen}
use Rattle.ruby_meaning.specs.Grammar.Laws.{whole_file, sight, GrammarFault}
use Rattle.ruby_meaning.specs.Grammar.Refusals.{most_levels, stand_ins, has_sign, sign_at, is_marked, is_keyword_sign, is_in, is_arrow, is_case, is_jump, last_from, last_seen, IsPatternMatch, IsBehindSubject, IsBehindStatement, ArgumentMayStart, MayFollow, Cases, ConstructAt, GrammarRefusal}
use Rattle.ruby_meaning.specs.Grammar.Table.{table}
use Rattle.ruby_meaning.proofs.Grammar.Programs.{one_place}
use Rattle.ruby_meaning.proofs.Grammar.TableMeets.{predictive}

abbrev Decided : Type 0 → Type 0
Decided p = p ⊎ (p → ⊥)

both : {p q : Type 0} → Decided p → Decided q → Decided (p × q)
both (inl x) (inl y) = inl (x, y)
both (inl x) (inr never) = inr (λ z. never z.1)
both (inr never) d = inr (λ z. never z.0)

all_three : {p q r : Type 0} → Decided p → Decided q → Decided r → Decided (p × q × r)
all_three (inl x) (inl y) (inl z) = inl (x, y, z)
all_three (inl x) (inl y) (inr never) = inr (λ t. never t.2)
all_three (inl x) (inr never) d = inr (λ t. never t.1)
all_three (inr never) d e = inr (λ t. never t.0)

one_or_other : {p q : Type 0} → Decided p → Decided q → Decided (p ⊎ q)
one_or_other (inl x) d = inl (inl x)
one_or_other (inr never) (inl y) = inl (inr y)
one_or_other {p} {q} (inr never) (inr none) = inr by
  where
    by : p ⊎ q → ⊥
    by (inl x) = never x
    by (inr y) = none y

denied : {p : Type 0} → Decided p → Decided (p → ⊥)
denied (inl x) = inr (λ never. never x)
denied (inr never) = inl never

decide_true : (c : Bool) → Decided (c ≡ true)
decide_true true = inl refl
decide_true false = inr (λ h. true≢false (sym h))

decide_false : (c : Bool) → Decided (c ≡ false)
decide_false true = inr (λ h. true≢false h)
decide_false false = inl refl

decide_front : (ts : List Seen) → Decided (IsFront table whole_file most_levels ts)
decide_front ts = by (remaining (read_named table most_levels whole_file ts)) refl
  where
    by : (n : ℕ) → remaining (read_named table most_levels whole_file ts) ≡ n → Decided (IsFront table whole_file most_levels ts)
    by zero e = inl (is_front table predictive whole_file most_levels ts e)
    by (suc n) e = inr (λ f. let no : ⊥ = omega (arith, e, front_is table predictive whole_file most_levels ts f) in no)

decide_whole : (ts : List Seen) (at : ℕ) → at ≡ length ts → Decided (FrontUpTo table whole_file most_levels ts (suc at))
decide_whole ts at e = elim (answer.some_answer table predictive whole_file most_levels ts) [
  | inl x ↦ inl (inr (ap suc e, (x.0, x.1.spells, x.1.shallow)))
  | inr x ↦ inr (no x.0 x.1)
]
  where
    no : (stop : ℕ) → RefusedAt table whole_file most_levels ts stop → FrontUpTo table whole_file most_levels ts (suc at) → ⊥
    no stop h (inl f) = omega (arith, e, f.0)
    no stop h (inr f) = answer.never_both table predictive whole_file most_levels ts (f.1.0) stop (record { spells = f.1.1; shallow = f.1.2 }) h

decide_within : (ts : List Seen) (at : ℕ) → at < length ts → Decided (FrontUpTo table whole_file most_levels ts (suc at))
decide_within ts at less = elim (decide_front (take (suc at) ts)) [
  | inl f ↦ inl (inl (omega (arith, less), f))
  | inr none ↦ inr (no none)
]
  where
    no : (IsFront table whole_file most_levels (take (suc at) ts) → ⊥) → FrontUpTo table whole_file most_levels ts (suc at) → ⊥
    no none (inl f) = none f.1
    no none (inr f) = omega (arith, less, f.0)

decide_deep : (ts : List Seen) (at : ℕ) → at ≤ length ts → Decided (FrontUpTo table whole_file most_levels ts (suc at))
decide_deep ts at le = elim (eq-or-lt_of_le le) [
  | inl e ↦ decide_whole ts at e
  | inr less ↦ decide_within ts at less
]

decide_follow : (tokens : List Token) (at : ℕ) (signs : List Sign) → Decided (MayFollow tokens at signs)
decide_follow tokens at signs = decide_front (take at (sight tokens) ++ stand_ins signs)

decide_start : (tokens : List Token) (at : ℕ) → Decided (ArgumentMayStart tokens at)
decide_start tokens at =
    one_or_other (decide_follow tokens at (sign.Op mark.Ampersand ∷ []))
    (one_or_other (both (decide_follow tokens at (sign.Marked mark.Star ∷ [])) (decide_follow tokens at (sign.Label ∷ []))) (decide_true (has_sign is_jump (last_seen (take at (sight tokens))))))

decide_subject : (tokens : List Token) (at : ℕ) → Decided (IsBehindSubject tokens at)
decide_subject tokens at =
    all_three (decide_follow tokens at (sign.Keyword word.When ∷ [])) (denied (decide_follow tokens at (sign.Keyword word.End ∷ []))) (decide_false (has_sign is_case (last_from None (take at (sight tokens)))))

decide_statement : (tokens : List Token) (at : ℕ) → Decided (IsBehindStatement tokens at)
decide_statement tokens at =
    all_three (decide_follow tokens at (sign.Keyword word.Unless ∷ [])) (decide_follow tokens at (sign.Op mark.Semicolon ∷ sign.Keyword word.Alias ∷ [])) (denied (decide_follow tokens at (sign.Keyword word.Alias ∷ [])))

decide_pattern : (tokens : List Token) (at : ℕ) → Decided (IsPatternMatch tokens at)
decide_pattern tokens at = one_or_other (both (decide_true (sign_at is_in tokens at)) (decide_subject tokens at)) (both (decide_true (sign_at is_arrow tokens at)) (decide_statement tokens at))

-- the case that applies
chosen : {condition : Type 0} (later : Construct → Type 0) (k : Construct) → Decided condition → ((c : Construct) × later c) → (c : Construct) × Cases condition (c ≡ k) (later c)
chosen later k (inl h) rest = (k, inl (h, refl))
chosen later k (inr never) rest = (rest.0, inr (never, rest.1))

one_case : {condition now later now' later' result : Type 0} → (now → now' → result) → (later → later' → result) → Cases condition now later → Cases condition now' later' → result
one_case f g (inl x) (inl y) = f x.1 y.1
one_case f g (inl x) (inr y) = absurd (y.0 x.0)
one_case f g (inr x) (inl y) = absurd (x.0 y.0)
one_case f g (inr x) (inr y) = g x.1 y.1

same_named : (tokens : List Token) (at : ℕ) (c d : Construct) → ConstructAt tokens at c → ConstructAt tokens at d → c ≡ d
same_named tokens at c d = one_case same (one_case same (one_case same (one_case same same)))
  where
    same : {k : Construct} → c ≡ k → d ≡ k → c ≡ d
    same e e' = e ∙ sym e'

pub one_construct : (tokens : List Token) (at other : ℕ) (c d : Construct) → GrammarRefusal tokens at c → GrammarRefusal tokens other d → (at ≡ other) × (c ≡ d)
one_construct tokens at other c d h g =
    let e = one_place tokens at other h.fault g.fault in
    (e, same_named tokens other c d (subst (λ n. ConstructAt tokens n c) e h.named) g.named)

last_named : (tokens : List Token) (at : ℕ) → (c : Construct) × Cases (IsPatternMatch tokens at) (c ≡ construct.PatternMatch) (c ≡ construct.Syntax)
last_named tokens at = chosen (λ c. c ≡ construct.Syntax) construct.PatternMatch (decide_pattern tokens at) (construct.Syntax, refl)

some_named : (tokens : List Token) (at : ℕ) → at ≤ length (sight tokens) → (c : Construct) × ConstructAt tokens at c
some_named tokens at le =
    chosen _ construct.TooDeep (decide_deep (sight tokens) at le)
    (chosen _ construct.AmbiguousArgument (decide_true (sign_at is_marked tokens at))
    (chosen _ construct.KeywordParameter (both (decide_true (sign_at is_keyword_sign tokens at)) (decide_start tokens at)) (last_named tokens at)))

pub some_construct : (tokens : List Token) (at : ℕ) → GrammarFault tokens at → (c : Construct) × GrammarRefusal tokens at c
some_construct tokens at h = let x = some_named tokens at h.within in (x.0, record { fault = h; named = x.1 })
