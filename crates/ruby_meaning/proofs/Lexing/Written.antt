-- What is written is read again.
use Rattle.std.proofs.Common.{◌≡◌, ◌<◌, ℕ, suc, ◌+◌, Bool, true, false, cond, ◌==◌, List, [], ◌∷◌, ◌++◌, drop, length, refl, ap, sym, ◌∙◌, subst, arith, append_assoc, length-append}
use Rattle.std.proofs.lemmas.Grind.{common_steps}
use Rattle.std.proofs.Math.Seq.{drop-append_seam}
use Rattle.ruby_meaning.specs.declared.form.Ending.TheVariants as ending_
use Rattle.ruby_meaning.specs.declared.form.Class.TheVariants as class
use Rattle.ruby_meaning.specs.declared.form.Form.TheVariants as form
use Rattle.ruby_meaning.specs.declared.form.Spelling.TheVariants as spelling
use Rattle.ruby_meaning.specs.Lexing.Characters.{newline_len, escape_len, double_len}
use Rattle.ruby_meaning.specs.Lexing.Runs.{step, run_from, run}
use Rattle.ruby_meaning.specs.Lexing.Texts.{plain, escape, means, content, ending, of_quoted, quoted}
use Rattle.ruby_meaning.specs.Lexing.Written.{written_unit, written, WrittenReads}
use Rattle.ruby_meaning.proofs.Lexing.Runs.{run_goes, run_stops}
use Rattle.ruby_meaning.proofs.Lexing.Chars.{content_goes}

same_unit : (a b : ℕ) → (a == b) ≡ true → a ≡ b
same_unit a b h = grind (arith, common_steps)

-- w is one character, whatever follows, and means v
pub record Good (v : ℕ) (w : List ℕ) : Type 0 where
  pub some : length w ≡ 0 → ⊥
  pub len : (more : List ℕ) → double_len (w ++ more) ≡ length w
  pub is : (more : List ℕ) → means spelling.Double (w ++ more) ≡ v ∷ []

good_if : (v k : ℕ) (w r : List ℕ) (t : Bool) → (v == k) ≡ t → ((v ≡ k) → Good v w) → ((v == k) ≡ false → Good v r) → Good v (cond t w r)
good_if v k w r true e same other = same (same_unit v k e)
good_if v k w r false e same other = other e

good_34 : Good 34 (92 ∷ 34 ∷ [])
unfolding newline_len escape_len double_len escape means plain
good_34 = record { some = λ h. omega arith; len = λ more. refl; is = λ more. refl }

good_92 : Good 92 (92 ∷ 92 ∷ [])
unfolding newline_len escape_len double_len escape means plain
good_92 = record { some = λ h. omega arith; len = λ more. refl; is = λ more. refl }

good_35 : Good 35 (92 ∷ 35 ∷ [])
unfolding newline_len escape_len double_len escape means plain
good_35 = record { some = λ h. omega arith; len = λ more. refl; is = λ more. refl }

good_10 : Good 10 (92 ∷ 110 ∷ [])
unfolding newline_len escape_len double_len escape means plain
good_10 = record { some = λ h. omega arith; len = λ more. refl; is = λ more. refl }

good_13 : Good 13 (92 ∷ 114 ∷ [])
unfolding newline_len escape_len double_len escape means plain
good_13 = record { some = λ h. omega arith; len = λ more. refl; is = λ more. refl }

good_plain : (v : ℕ) → (v == 34) ≡ false → (v == 92) ≡ false → (v == 35) ≡ false → (v == 10) ≡ false → (v == 13) ≡ false → Good v (v ∷ [])
unfolding newline_len double_len means plain
good_plain v q b s n r = record { some = λ h. omega arith; len = λ more. rw (q, s, b, n, r) refl; is = λ more. rw (b, n, r) refl }

good : (v : ℕ) → Good v (written_unit v)
good v =
    good_if v 34 _ _ (v == 34) refl (λ e. subst (λ x. Good x (92 ∷ 34 ∷ [])) (sym e) good_34) (λ q.
    good_if v 92 _ _ (v == 92) refl (λ e. subst (λ x. Good x (92 ∷ 92 ∷ [])) (sym e) good_92) (λ b.
    good_if v 35 _ _ (v == 35) refl (λ e. subst (λ x. Good x (92 ∷ 35 ∷ [])) (sym e) good_35) (λ s.
    good_if v 10 _ _ (v == 10) refl (λ e. subst (λ x. Good x (92 ∷ 110 ∷ [])) (sym e) good_10) (λ n.
    good_if v 13 _ _ (v == 13) refl (λ e. subst (λ x. Good x (92 ∷ 114 ∷ [])) (sym e) good_13) (λ r. good_plain v q b s n r)))))

quote_stops : (rest : List ℕ) → double_len (34 ∷ rest) ≡ 0
unfolding double_len
quote_stops rest = refl

run_written : (vs rest : List ℕ) → run_from (step (class.Char spelling.Double)) 0 (written vs ++ 34 ∷ rest) ≡ length (written vs)
run_written [] rest = run_stops (step (class.Char spelling.Double)) (34 ∷ rest) (quote_stops rest)
run_written (v ∷ vs) rest =
    let w = written_unit v in
    let whole : (w ++ written vs) ++ 34 ∷ rest ≡ w ++ (written vs ++ 34 ∷ rest) = append_assoc w (written vs) (34 ∷ rest) in
    let some : 0 < length w = omega (arith, (good v).some) in
    let goes = run_goes (step (class.Char spelling.Double)) (length w) (w ++ (written vs ++ 34 ∷ rest)) ((good v).len _) some (omega (arith, length-append w (written vs ++ 34 ∷ rest))) in
    ap (λ z. run_from (step (class.Char spelling.Double)) 0 z) whole ∙ goes
    ∙ ap (λ z. length w + run_from (step (class.Char spelling.Double)) 0 z) (drop-append_seam w (written vs ++ 34 ∷ rest))
    ∙ ap (λ n. length w + n) (run_written vs rest) ∙ sym (length-append w (written vs))

content_written : (vs : List ℕ) → content spelling.Double (written vs) ≡ vs
content_written [] = refl
content_written (v ∷ vs) =
    let w = written_unit v in
    let goes = content_goes double_len (means spelling.Double) (length w) (w ++ written vs) ((good v).len (written vs)) (good v).some (omega (arith, length-append w (written vs))) in
    goes ∙ ap (λ x. x ++ content spelling.Double (drop (length w) (w ++ written vs))) ((good v).is (written vs))
    ∙ ap (λ z. (v ∷ []) ++ content spelling.Double z) (drop-append_seam w (written vs)) ∙ ap (λ z. v ∷ z) (content_written vs)

ending_quote : (rest : List ℕ) → ending (34 ∷ rest) ≡ ending_.Quote
unfolding ending
ending_quote rest = refl

pub written_reads : WrittenReads
unfolding quoted
written_reads vs rest =
    let n : run (class.Char spelling.Double) (written vs ++ 34 ∷ rest) ≡ length (written vs) = run_written vs rest in
    let behind : drop (length (written vs)) (written vs ++ 34 ∷ rest) ≡ 34 ∷ rest = drop-append_seam (written vs) (34 ∷ rest) in
    let plus : length (written vs) + 1 ≡ suc (length (written vs)) = omega arith in
    let there : ending (drop (length (written vs) + 1) (34 ∷ written vs ++ 34 ∷ rest)) ≡ ending_.Quote =
    ap (λ k. ending (drop k (34 ∷ written vs ++ 34 ∷ rest))) plus ∙ ap ending behind ∙ ending_quote rest in
    (ap (λ k. of_quoted form.Text 0 (ending (drop (k + 1) (34 ∷ written vs ++ 34 ∷ rest))) k) n ∙ ap (λ e. of_quoted form.Text 0 e (length (written vs))) there, content_written vs)
