-- Opening brackets, the innermost first.
use Rattle.std.proofs.Common.{◌≡◌, ℕ, suc, ◌-◌, ◌<◌, ◌≤◌, Bool, true, false, ◌==◌, List, [], ◌∷◌, ◌++◌, length, take, drop, get_or, reverse, Ok, refl, sym, ap, ap₂, ◌∙◌, arith}
use Rattle.std.proofs.Math.Seq.{drop-cons}
use Rattle.std.proofs.Math.ListN.{drop_of_length-le}
use Rattle.std.proofs.lemmas.Bool.Decides.{nat_tests}
use Rattle.std.proofs.lemmas.List.{take-append-drop, reverse-append, nil_from_length}
use Rattle.grammar.specs.FormReaders.{and_then, behind_openings}
use Rattle.es5_tree.specs.declared.terminal.Level.{Level}
use Rattle.es5_tree.specs.declared.token.EsToken.{EsToken}
use Rattle.es5_tree.specs.Grammar.Expressions as g
use Rattle.es5_parser.specs.Levels.{Begun, closed, closed_once, first_operand, first_of, opens, openings_ahead, unbracketed}
use Rattle.es5_parser.proofs.BracketsRead.{start_opened, start_unopened}

last_drop : {A : Type 0} (xs : List A) (x : A) → 1 ≤ length xs → x ≡ get_or xs (length xs - 1) x → drop (length xs - 1) xs ≡ x ∷ []
last_drop {A} xs x le e =
    let past : length xs ≤ suc (length xs - 1) = omega (arith, le) in
    drop-cons xs (length xs - 1) x (omega (arith, le)) ∙ ap₂ (λ (a : A) (l : List A). a ∷ l) (sym e) (drop_of_length-le xs past)

turned : {A : Type 0} (xs : List A) (x : A) → 1 ≤ length xs → x ≡ get_or xs (length xs - 1) x → reverse xs ≡ x ∷ reverse (take (length xs - 1) xs)
turned xs x le e =
    ap reverse (sym (take-append-drop (length xs - 1) xs) ∙ ap (λ l. take (length xs - 1) xs ++ l) (last_drop xs x le e))
    ∙ reverse-append (take (length xs - 1) xs) (x ∷ [])

none : {A : Type 0} (xs : List A) → length xs < 1 → xs ≡ []
none xs h = nil_from_length xs (omega (arith, h))

module _ (b : ℕ) (s : Begun) (ts : List EsToken) where
  pub one_closed : (xs : List EsToken) (x : EsToken) → 1 ≤ length xs → x ≡ get_or xs (length xs - 1) x
      → closed b (reverse xs) s ts ≡ and_then (closed_once b x s ts) (λ y after. closed b (reverse (take (length xs - 1) xs)) y after)
  unfolding closed
  one_closed xs x le e = ap (λ l. closed b l s ts) (turned xs x le e)

  pub all_closed : (xs : List EsToken) → length xs < 1 → closed b (reverse xs) s ts ≡ Ok (s, ts)
  unfolding closed
  all_closed xs h = ap (λ l. closed b (reverse l) s ts) (none xs h)

is_none : {A : Type 0} (xs : List A) (c : Bool) → c ≡ (length xs == 0) → c ≡ true → xs ≡ []
is_none [] c e h = refl
is_none (x ∷ xs) c e h = let no : ⊥ = grind (arith, nat_tests) in absurd no

is_some : {A : Type 0} (xs : List A) (c : Bool) → c ≡ (length xs == 0) → c ≡ false → xs ≡ [] → ⊥
is_some [] c e h f = cc
is_some (x ∷ xs) c e h f = cc

module _ (b : ℕ) (l : Level) (ts opened rest : List EsToken) (taken : opened ≡ openings_ahead ts) (passed : rest ≡ behind_openings opens ts) (c : Bool) (e : c ≡ (length opened == 0)) where
  pub not_bracketed : c ≡ true → first_of unbracketed l b rest ≡ first_of g.primary l b ts
  not_bracketed h = ap (first_of unbracketed l b) passed ∙ sym (start_unopened b l ts (sym taken ∙ is_none opened c e h))

  pub bracketed : c ≡ false → and_then (first_operand unbracketed b rest) (λ s after. closed b (reverse opened) s after) ≡ first_of g.primary l b ts
  bracketed h =
      ap₂ (λ (r o : List EsToken). and_then (first_operand unbracketed b r) (λ s after. closed b (reverse o) s after)) passed taken
      ∙ sym (start_opened b l ts (λ f. is_some opened c e h (taken ∙ f)))
