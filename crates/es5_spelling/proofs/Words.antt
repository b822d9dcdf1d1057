-- What the terminal of a token tells of it.
use Rattle.std.proofs.Common.{◌≡◌, ℕ, Bool, true, false, not, ◌&&◌, ◌||◌, List, Option, Some, None, codes, refl, sym, ap, ◌∙◌, subst, true≢false}
use Rattle.std.specs.Prelude.{if◌then◌else◌, bytes_eq}
use Rattle.std.specs.List.{list_all}
use Rattle.std.proofs.lemmas.Slice.Eq.{bytes_eq-Decides}
use Rattle.es5_tree.specs.declared.terminal.Keyword.{Keyword}
use Rattle.es5_tree.specs.declared.terminal.Keyword.TheVariants as keyword
use Rattle.es5_tree.specs.declared.terminal.Terminal.{Terminal}
use Rattle.es5_tree.specs.declared.terminal.Terminal.TheVariants as terminal
use Rattle.es5_tree.specs.declared.token.EsMark.{EsMark}
use Rattle.es5_tree.specs.declared.token.EsMark.TheVariants as mark
use Rattle.es5_tree.specs.declared.token.EsTokenKind.{EsTokenKind}
use Rattle.es5_tree.specs.declared.token.EsTokenKind.TheVariants as token
use Rattle.es5_tree.specs.declared.tree.EsKind.TheVariants as kind
use Rattle.es5_tree.specs.Characters.{begins, is_letter, is_name_part}
use Rattle.es5_tree.specs.Grammar.Nodes.{name_in, token_kind, word_kind}
use Rattle.es5_tree.specs.Grammar.Terminals.{a, code_of, identifier, keyword_code, keyword_in, keyword_or, keywords, mark_code, terminal_of, terminal_of_word}
use Rattle.es5_tree.specs.Reserved.{is_reserved}
use Rattle.es5_spelling.specs.Spellable.{false_, is_binding, is_identifier, IsBinding, IsForm, IsIdentifier, name as a_name, null, num, str, this, true_}
use Rattle.es5_spelling.proofs.Primaries.{or_none, simple_class}
use Rattle.es5_spelling.proofs.Sound.{IsSoundKind}

-- what a word is, by its terminal
data View (name : List ℕ) : Terminal → Type 0 where
  a_keyword : (k : Keyword) → View name (terminal.Keyword k)
  arguments : bytes_eq (codes "arguments") name ≡ true → View name terminal.Arguments
  refused : View name terminal.Refused
  plain : bytes_eq (codes "arguments") name ≡ false → (bytes_eq (codes "eval") name || is_reserved name) ≡ false → View name terminal.Name

view : (name : List ℕ) → View name (terminal_of_word name)
unfolding terminal_of_word
view name = by (keyword_in keywords name) (bytes_eq (codes "arguments") name) (bytes_eq (codes "eval") name || is_reserved name) refl refl
  where
    by : (k : Option Keyword) (c r : Bool) → bytes_eq (codes "arguments") name ≡ c → (bytes_eq (codes "eval") name || is_reserved name) ≡ r → View name (keyword_or k (if c then terminal.Arguments else (if r then terminal.Refused else terminal.Name)))
    by (Some k) c r e f = a_keyword k
    by None true r e f = arguments e
    by None false true e f = refused
    by None false false e f = plain e f

abbrev IsWordy : List ℕ → Type 0
IsWordy name = (begins is_letter name && list_all is_name_part name) ≡ true

plain_identifier : (name : List ℕ) → IsWordy name → (bytes_eq (codes "eval") name || is_reserved name) ≡ false → IsIdentifier name
unfolding is_identifier
plain_identifier name w e =
    let none = or_none (bytes_eq (codes "eval") name) (is_reserved name) e in
    ap (λ b. b && not (is_reserved name) && not (bytes_eq (codes "eval") name)) w
    ∙ (ap (λ b. not b && not (bytes_eq (codes "eval") name)) none.1 ∙ ap (λ b. not b) none.0)

arguments_identifier : is_identifier (codes "arguments") ≡ true
unfolding is_identifier is_reserved
arguments_identifier = refl

arguments_are : (name : List ℕ) → bytes_eq (codes "arguments") name ≡ true → IsIdentifier name
arguments_are name e = subst IsIdentifier ((bytes_eq-Decides (codes "arguments") name).0 e) arguments_identifier

no_identifier : (k : Keyword) → identifier (keyword_code k) ≡ false
no_identifier keyword.Break = refl
no_identifier _ = refl

no_name : (k : Keyword) → a terminal.Name (keyword_code k) ≡ false
no_name keyword.Break = refl
no_name _ = refl

identifier_by : (name : List ℕ) (t : Terminal) → IsWordy name → View name t → identifier (code_of t) ≡ true → IsIdentifier name
identifier_by name _ w (a_keyword k) h = absurd (true≢false (sym h ∙ no_identifier k))
identifier_by name _ w (arguments e) h = arguments_are name e
identifier_by name _ w refused h = absurd (true≢false (sym h))
identifier_by name _ w (plain e f) h = plain_identifier name w f

binding_by : (name : List ℕ) (t : Terminal) → IsWordy name → View name t → a terminal.Name (code_of t) ≡ true → IsBinding name
unfolding is_binding
binding_by name _ w (a_keyword k) h = absurd (true≢false (sym h ∙ no_name k))
binding_by name _ w (arguments e) h = absurd (true≢false (sym h))
binding_by name _ w refused h = absurd (true≢false (sym h))
binding_by name _ w (plain e f) h = ap (λ b. b && not (bytes_eq (codes "arguments") name)) (plain_identifier name w f) ∙ ap (λ b. not b) e

-- ---- tokens

no_mark_identifier : (m : EsMark) → identifier (mark_code m) ≡ false
no_mark_identifier mark.OpenBrace = refl
no_mark_identifier _ = refl

no_mark_name : (m : EsMark) → a terminal.Name (mark_code m) ≡ false
no_mark_name mark.OpenBrace = refl
no_mark_name _ = refl

no_mark_simple : (m : EsMark) → simple_class (mark_code m) ≡ false
no_mark_simple mark.OpenBrace = refl
no_mark_simple _ = refl

pub identifier_kind : (k : EsTokenKind) → IsSoundKind k → identifier (code_of (terminal_of k)) ≡ true → IsIdentifier (name_in k)
identifier_kind (token.Word name) s h = identifier_by name (terminal_of_word name) s (view name) h
identifier_kind (token.Num v) s h = absurd (true≢false (sym h))
identifier_kind (token.Str t) s h = absurd (true≢false (sym h))
identifier_kind (token.Mark m) s h = absurd (true≢false (sym h ∙ no_mark_identifier m))
identifier_kind token.End s h = absurd (true≢false (sym h))

pub binding_kind : (k : EsTokenKind) → IsSoundKind k → a terminal.Name (code_of (terminal_of k)) ≡ true → IsBinding (name_in k)
binding_kind (token.Word name) s h = binding_by name (terminal_of_word name) s (view name) h
binding_kind (token.Num v) s h = absurd (true≢false (sym h))
binding_kind (token.Str t) s h = absurd (true≢false (sym h))
binding_kind (token.Mark m) s h = absurd (true≢false (sym h ∙ no_mark_name m))
binding_kind token.End s h = absurd (true≢false (sym h))

word_form : (n : List ℕ) (t : Terminal) → IsWordy n → View n t → simple_class (code_of t) ≡ true → IsForm (word_kind t n)
word_form n _ w (a_keyword k) h = by k h
  where
    by : (k : Keyword) → simple_class (keyword_code k) ≡ true → IsForm (word_kind (terminal.Keyword k) n)
    by keyword.This h = this
    by keyword.Null h = null
    by keyword.True h = true_
    by keyword.False h = false_
    by _ h = absurd (true≢false (sym h))
word_form n _ w (arguments e) h = a_name n (arguments_are n e)
word_form n _ w refused h = absurd (true≢false (sym h))
word_form n _ w (plain e f) h = a_name n (plain_identifier n w f)

pub simple_form : (k : EsTokenKind) → IsSoundKind k → simple_class (code_of (terminal_of k)) ≡ true → IsForm (token_kind k)
unfolding token_kind
simple_form (token.Word n) s h = word_form n (terminal_of_word n) s (view n) h
simple_form (token.Num v) s h = subst (λ z. IsForm (kind.Num z)) (sym s.1) (num s.0 s.2)
simple_form (token.Str t) s h = str t s
simple_form (token.Mark m) s h = absurd (true≢false (sym h ∙ no_mark_simple m))
simple_form token.End s h = absurd (true≢false (sym h))
