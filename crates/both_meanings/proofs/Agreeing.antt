-- From a task that follows an evaluation with any number of units to agreement in all four directions, and of the states that both sides show.
use Rattle.std.proofs.Common.{◌≡◌, inl, inr, ⊎_elim, ℕ, zero, suc, ◌+◌, ◌-◌, ◌*◌, ◌<◌, ◌≤◌, List, [], ◌∷◌, ◌++◌, length, Some, refl, sym, ap, ◌∙◌, subst, arith, append_assoc, append-nil}
use Rattle.std.specs.List.{slice_get}
use Rattle.std.proofs.lemmas.Bool.{cases_lt}
use Rattle.std.proofs.lemmas.List.{length-append}
use Rattle.opal_base.specs.declared.place.Pos.{Pos}
use Rattle.opal_base.specs.Shown.{HostCall, Shown, Ended, Going, Shows, output_of}
use Rattle.es5_tree.specs.Ends.{EsEnd, OutKind, Number}
use Rattle.es5_tree.specs.Ends as ends
use Rattle.es5_evaluation.specs.State as es
use Rattle.es5_evaluation.specs.Task.{Completion, Task, Outcome}
use Rattle.es5_evaluation.specs.Task as task
use Rattle.es5_evaluation.specs.Run.{run, shown_by, state_of, seen, seen_with}
use Rattle.es5_evaluation.specs.Run as script
use Rattle.es5_evaluation.proofs.Growing.{GoesOn, run_more}
use Rattle.es5_evaluation.proofs.TaskRuns.{run_done}
use Rattle.es5_rules.specs.Moments.{moments, last_of}
use Rattle.es5_rules.proofs.Moments.{SeenOn, moments_more, moments_done, seen_parts}
use Rattle.ruby_evaluation.specs.Ends.{RubyEnd}
use Rattle.ruby_evaluation.specs.Ends as ruby_end
use Rattle.ruby_evaluation.specs.Task.{Result, Moment, State, Ends, Left, Starved}
use Rattle.ruby_evaluation.specs.Task as ruby
use Rattle.ruby_evaluation.specs.Run.{befores, shown, end_of}
use Rattle.ruby_evaluation.specs.Run as evaluation
use Rattle.ruby_evaluation.specs.Laws.{OneMore, Next}
use Rattle.ruby_evaluation.specs.Laws as laws
use Rattle.both_meanings.specs.Agree.{Relation, SameEnd, AgreeRuns, CarriedRuns}
use Rattle.both_meanings.specs.Follows.{calls_of, Carried, Post, EndsAt, LeftAt, Followed, Follows}
use Rattle.both_meanings.specs.Law.{Alike}
use Rattle.both_meanings.proofs.Meeting.{carried_both, carried_length, carried_at, at_front}
use Rattle.both_meanings.proofs.Bind.{follows_outcome}

-- the calls of the host that an outcome shows
abbrev pub hosts : ruby.Outcome → List HostCall
hosts y = calls_of (laws.calls_of y)

-- earlier calls, the newest first
abbrev Front : List HostCall → List HostCall → Type 0
Front a b = (more : List HostCall) × (b ≡ more ++ a)

-- a list begins with another one
abbrev Begins : {A : Type 0} → List A → List A → Type 0
Begins {A} xs ys = (more : List A) × (ys ≡ xs ++ more)

begins_trans : {A : Type 0} (xs ys zs : List A) → Begins xs ys → Begins ys zs → Begins xs zs
begins_trans xs ys zs a b = (a.0 ++ b.0, b.1 ∙ ap (λ l. l ++ b.0) a.1 ∙ append_assoc xs a.0 b.0)

begins_at : {A : Type 0} (xs ys : List A) (k : ℕ) (x : A) → Begins xs ys → slice_get xs k ≡ Some x → slice_get ys k ≡ Some x
begins_at xs ys k x b e = ap (λ l. slice_get l k) b.1 ∙ at_front xs b.0 k x e

begins_length : {A : Type 0} (xs ys : List A) → Begins xs ys → length xs ≤ length ys
begins_length xs ys b = let e = ap length b.1 ∙ length-append xs b.0 in omega (arith, e)

going_ended : {End : Type 0} (out other : List ℕ) (e : End) → Going out ≡ Ended other e → ⊥
going_ended out other e x = cc

-- ---- runs of the script

module _ (t : Task) (s : es.State) where
  abbrev G : ℕ → Shown EsEnd
  G m = shown_by (run m t s)

  -- the states that it shows
  abbrev V : ℕ → List es.State
  V m = seen (seen_with m) t s

  more_ended : (k : ℕ) (o later : Outcome) (out : List ℕ) (e : EsEnd) → GoesOn k o later → shown_by o ≡ Ended out e → shown_by later ≡ Ended out e
  more_ended k (task.Ended c z g) later out e h x = ap shown_by h ∙ x
  more_ended k (task.Left kind p z) later out e h x = ap shown_by h ∙ x
  more_ended k (task.Going z) later out e h x = absurd (going_ended _ _ _ x)

  stays_ended : (m n : ℕ) (out : List ℕ) (e : EsEnd) → m ≤ n → G m ≡ Ended out e → G n ≡ Ended out e
  stays_ended m n out e l x = subst (λ k. G k ≡ Ended out e) {x = m + (n - m)} {y = n} (omega (arith, l)) (more_ended (n - m) (run m t s) (run (m + (n - m)) t s) out e (run_more (n - m) m t s) x)

  one_end : (m n : ℕ) (out other : List ℕ) (e f : EsEnd) → G m ≡ Ended out e → G n ≡ Ended other f → (out ≡ other) × (e ≡ f)
  one_end m n out other e f x y = ⊎_elim (λ l. same (sym (stays_ended m n out e (omega (arith, l)) x) ∙ y)) (λ l. same (sym x ∙ stays_ended n m other f l y)) (cases_lt m n)
    where
      same : Ended out e ≡ Ended other f → (out ≡ other) × (e ≡ f)
      same z = (cc, cc)

  later_calls : (m n : ℕ) (z : es.State) → m ≤ n → run m t s ≡ task.Going z → Front z.calls (state_of (run n t s)).calls
  later_calls m n z l x =
      let h = subst (λ o. GoesOn (n - m) o (run (m + (n - m)) t s)) x (run_more (n - m) m t s) in
      subst (λ k. Front z.calls (state_of (run k t s)).calls) {x = m + (n - m)} {y = n} (omega (arith, l)) h.calls

  -- with more units the states shown are those before, and later ones
  shown_behind : (m n : ℕ) (o later : Outcome) → m ≤ n → GoesOn (n - m) o later → SeenOn o (moments m t s) (moments n t s) → Begins (moments m t s ++ last_of o) (moments n t s ++ last_of later)
  shown_behind m n (task.Ended c z g) later l h x = ([], ap (λ l. l ++ last_of later) x ∙ ap (λ l. moments m t s ++ last_of l) h ∙ sym (append-nil (moments m t s ++ z ∷ [])))
  shown_behind m n (task.Left kind p z) later l h x = ([], ap (λ l. l ++ last_of later) x ∙ ap (λ l. moments m t s ++ last_of l) h ∙ sym (append-nil (moments m t s ++ [])))
  shown_behind m n (task.Going z) later l h x = (
    x.0 ++ last_of later,
    ap (λ l. l ++ last_of later) x.1 ∙ append_assoc (moments m t s) x.0 (last_of later) ∙ ap (λ l. l ++ (x.0 ++ last_of later)) (sym (append-nil (moments m t s))),
  )

  shown_more : (m n : ℕ) → m ≤ n → Begins (V m) (V n)
  shown_more m n l =
      let h = subst (λ k. GoesOn (n - m) (run m t s) (run k t s)) {x = m + (n - m)} {y = n} (omega (arith, l)) (run_more (n - m) m t s) in
      subst (λ a. Begins a (V n)) (sym (seen_parts m t s))
      (subst (λ b. Begins (moments m t s ++ last_of (run m t s)) b) (sym (seen_parts n t s))
      (shown_behind m n (run m t s) (run n t s) l h (moments_more m n l t s)))

  -- ---- beside an evaluation

  module _ (C : Relation) (a : ℕ) (o : ℕ → ruby.Outcome) (P : Post) (F : (n : ℕ) → Follows C [] n a (o n) t s P) (same : (r : Result) (st : State) (c : Completion) (z : es.State) → P r st c z → Alike C r st c z) (N : (n : ℕ) → Next n (o n) (o (suc n))) (start : laws.calls_of (o 0) ≡ []) where
    followed : (n : ℕ) (y : ruby.Outcome) → o n ≡ y → Followed C [] n a y t s P
    followed n y e = (follows_outcome (sym e) (F n)).by

    -- where Ruby's side has ended with an end, the script has ended with the same
    record Same (y : ruby.Outcome) (end : RubyEnd) : Type 0 where
      pub m : ℕ
      pub other : EsEnd
      pub is : G m ≡ Ended (output_of (hosts y)) other
      pub same_end : SameEnd end other
      pub state : (state_of (run m t s)).calls ≡ hosts y

    ends_same : (n : ℕ) (r : Result) (st : State) (l : ℕ) → EndsAt C [] n a r st l t s P → Same (Ends r st l) (end_of r st.ruby)
    ends_same n r st l f =
        let e : run f.m t s ≡ task.Ended f.c f.z 0 = f.runs.runs f.m 0 (omega arith) ∙ run_done 0 f.c f.z in
        let p = same r st f.c f.z f.post in
        record { m = f.m; other = script.end_of f.c f.z.heap; is = ap shown_by e ∙ ap (λ c. Ended (output_of c) (script.end_of f.c f.z.heap)) (sym p.calls); same_end = p.end; state = ap (λ x. (state_of x).calls) e ∙ sym p.calls }

    left_same : (n : ℕ) (st : State) (l : ℕ) → LeftAt C [] n a st l t s → Same (Left st l) ruby_end.NumberOutside
    left_same n st l f =
        let e : run f.m t s ≡ task.Left Number f.place f.z = f.leaves f.m 0 (omega arith) in
        record { m = f.m; other = ends.Outside Number f.place; is = ap shown_by e ∙ ap (λ c. Ended (output_of c) (ends.Outside Number f.place)) (sym f.same); same_end = refl; state = ap (λ x. (state_of x).calls) e ∙ sym f.same }

    -- ---- from Ruby to the script

    law_ends : (n : ℕ) (y : ruby.Outcome) → o n ≡ y → (out : List ℕ) (end : RubyEnd) → shown y ≡ Ended out end → (m : ℕ) × (other : EsEnd) × (G m ≡ Ended out other) × SameEnd end other
    law_ends n (Ends r st l) i out end x =
        let f = ends_same n r st l (followed n (Ends r st l) i) in
        let p : output_of (calls_of st.calls) ≡ out = cc in
        let q : end_of r st.ruby ≡ end = cc in
        (f.m, f.other, f.is ∙ ap (λ l. Ended l f.other) p, subst (λ e. SameEnd e f.other) q f.same_end)
    law_ends n (Left st l) i out end x =
        let f = left_same n st l (followed n (Left st l) i) in
        let p : output_of (calls_of st.calls) ≡ out = cc in
        let q : ruby_end.NumberOutside ≡ end = cc in
        (f.m, f.other, f.is ∙ ap (λ l. Ended l f.other) p, subst (λ e. SameEnd e f.other) q f.same_end)
    law_ends n (Starved st) i out end x = absurd (going_ended _ _ _ x)

    law_goes : (n : ℕ) (y : ruby.Outcome) → o n ≡ y → (out : List ℕ) → shown y ≡ Going out → (m : ℕ) × Shows (G m) out
    law_goes n (Ends r st l) i out x = absurd (going_ended _ _ _ (sym x))
    law_goes n (Left st l) i out x = absurd (going_ended _ _ _ (sym x))
    law_goes n (Starved st) i out x =
        let f = followed n (Starved st) i in
        let p : output_of (calls_of st.calls) ≡ out = cc in
        (f.m, inl (ap shown_by f.stops ∙ ap (λ c. Going (output_of c)) (sym f.same) ∙ ap (λ l. Going l) p))

    -- ---- from the script to Ruby

    not_both : (m n : ℕ) (z : es.State) (out : List ℕ) (e : EsEnd) → m ≤ n → G m ≡ Ended out e → run n t s ≡ task.Going z → ⊥
    not_both m n z out e l x y = going_ended _ _ _ (sym (ap shown_by y) ∙ stays_ended m n out e l x)

    by_end : (m : ℕ) (out : List ℕ) (e : EsEnd) (n : ℕ) (y : ruby.Outcome) (end : RubyEnd) → G m ≡ Ended out e → Same y end → shown y ≡ Ended (output_of (hosts y)) end → o n ≡ y → (end : RubyEnd) × (shown (o n) ≡ Ended out end) × SameEnd end e
    by_end m out e n y end x f sh i =
        let h = one_end m f.m out (output_of (hosts y)) e f.other x f.is in
        (end, ap shown i ∙ sh ∙ ap (λ l. Ended l end) (sym h.0), subst (λ z. SameEnd end z) (sym h.1) f.same_end)

    back : (m : ℕ) (out : List ℕ) (e : EsEnd) → G m ≡ Ended out e → (n : ℕ) → n ≡ 1000 * m + a + 1 → (y : ruby.Outcome) → o n ≡ y → (end : RubyEnd) × (shown (o n) ≡ Ended out end) × SameEnd end e
    back m out e x n j (Ends r st l) i = by_end m out e n (Ends r st l) (end_of r st.ruby) x (ends_same n r st l (followed n (Ends r st l) i)) refl i
    back m out e x n j (Left st l) i = by_end m out e n (Left st l) ruby_end.NumberOutside x (left_same n st l (followed n (Left st l) i)) refl i
    back m out e x n j (Starved st) i = let f = followed n (Starved st) i in absurd (not_both m f.m f.z out e (omega (arith, j, f.steps)) x f.stops)

    law_ends_only : (m : ℕ) (out : List ℕ) (e : EsEnd) → G m ≡ Ended out e → (n : ℕ) × (end : RubyEnd) × (shown (o n) ≡ Ended out end) × SameEnd end e
    law_ends_only m out e x = let r = back m out e x (1000 * m + a + 1) refl (o (1000 * m + a + 1)) refl in (1000 * m + a + 1, r.0, r.1, r.2)

    -- each front of the calls that a run shows was shown by an earlier one
    one_more : (n : ℕ) (y z : ruby.Outcome) → Next n y z → OneMore (laws.calls_of y) (laws.calls_of z)
    one_more n (Ends r st l) z x = inl (ap laws.calls_of x.1)
    one_more n (Left st l) z x = inl (ap laws.calls_of x.1)
    one_more n (Starved st) (Ends r st1 l) x = x.1
    one_more n (Starved st) (Left st1 l) x = x.1
    one_more n (Starved st) (Starved st1) x = x

    no_front : (w c : List HostCall) → [] ≡ w ++ c → c ≡ []
    no_front [] c e = sym e
    no_front (x ∷ w) c e = absurd (let z : [] ≡ x ∷ (w ++ c) = e in none_some x (w ++ c) z)
      where
        none_some : (x : HostCall) (l : List HostCall) → [] ≡ x ∷ l → ⊥
        none_some x l e = cc

    earlier : (n : ℕ) (c : List HostCall) → Front c (hosts (o n)) → (k : ℕ) × (hosts (o k) ≡ c)
    earlier zero c p = (0, ap calls_of start ∙ sym (no_front p.0 c (sym (ap calls_of start) ∙ p.1)))
    earlier (suc n) c p = ⊎_elim
        (λ e. earlier n c (p.0, sym (ap calls_of e) ∙ p.1))
        (λ e. by_front p.0 (e.0).call (ap calls_of e.1) p.1 (λ q. earlier n c q))
        (one_more n (o n) (o (suc n)) (N n))
      where
        by_front : (w : List HostCall) (x : HostCall) → hosts (o (suc n)) ≡ x ∷ hosts (o n) → hosts (o (suc n)) ≡ w ++ c → (Front c (hosts (o n)) → (k : ℕ) × (hosts (o k) ≡ c)) → (k : ℕ) × (hosts (o k) ≡ c)
        by_front [] x e1 e2 next = (suc n, e2)
        by_front (y ∷ w) x e1 e2 next = next (w, tails x y (hosts (o n)) (w ++ c) (sym e1 ∙ e2))
          where
            tails : (x y : HostCall) (k l : List HostCall) → x ∷ k ≡ y ∷ l → k ≡ l
            tails x y k l i = cc

    front_of : (m : ℕ) (z : es.State) → run m t s ≡ task.Going z → (n : ℕ) → n ≡ 1000 * m + a + 1 → (y : ruby.Outcome) → o n ≡ y → Front z.calls (hosts y)
    front_of m z e n j (Starved st) i =
        let f = followed n (Starved st) i in
        let h = later_calls m f.m z (omega (arith, j, f.steps)) e in
        subst (λ c. Front z.calls c) (ap (λ x. (state_of x).calls) f.stops ∙ sym f.same) h
    front_of m z e n j (Ends r st l) i = by_same (Ends r st l) (end_of r st.ruby) (ends_same n r st l (followed n (Ends r st l) i))
      where
        by_same : (y : ruby.Outcome) (end : RubyEnd) → Same y end → Front z.calls (hosts y)
        by_same y end f = ⊎_elim
            (λ (lt : m < f.m). subst (λ c. Front z.calls c) f.state (later_calls m f.m z (omega (arith, lt)) e))
            (λ (le : f.m ≤ m). absurd (not_both f.m m z _ _ le f.is e))
            (cases_lt m f.m)
    front_of m z e n j (Left st l) i = by_same (Left st l) ruby_end.NumberOutside (left_same n st l (followed n (Left st l) i))
      where
        by_same : (y : ruby.Outcome) (end : RubyEnd) → Same y end → Front z.calls (hosts y)
        by_same y end f = ⊎_elim
            (λ (lt : m < f.m). subst (λ c. Front z.calls c) f.state (later_calls m f.m z (omega (arith, lt)) e))
            (λ (le : f.m ≤ m). absurd (not_both f.m m z _ _ le f.is e))
            (cases_lt m f.m)

    shows_own : (y : ruby.Outcome) (c : List HostCall) → hosts y ≡ c → Shows (shown y) (output_of c)
    shows_own (Ends r st l) c e = inr (end_of r st.ruby, ap (λ x. Ended (output_of x) (end_of r st.ruby)) e)
    shows_own (Left st l) c e = inr (ruby_end.NumberOutside, ap (λ x. Ended (output_of x) ruby_end.NumberOutside) e)
    shows_own (Starved st) c e = inl (ap (λ x. Going (output_of x)) e)

    law_goes_only : (m : ℕ) (x : Outcome) → run m t s ≡ x → (out : List ℕ) → shown_by x ≡ Going out → (n : ℕ) × Shows (shown (o n)) out
    law_goes_only m (task.Ended c z l) i out e = absurd (going_ended _ _ _ (sym e))
    law_goes_only m (task.Left kind p z) i out e = absurd (going_ended _ _ _ (sym e))
    law_goes_only m (task.Going z) i out e =
        let n = 1000 * m + a + 1 in
        let r = earlier n z.calls (front_of m z i n refl (o n) refl) in
        let same : output_of z.calls ≡ out = cc in
        (r.0, subst (λ l. Shows (shown (o r.0)) l) same (shows_own (o r.0) z.calls r.1))

    only_number : (end : RubyEnd) (kind : OutKind) (place : Pos) → SameEnd end (ends.Outside kind place) → kind ≡ Number
    only_number ruby_end.Finished kind place x = absurd x
    only_number (ruby_end.Uncaught n m) kind place x = absurd x
    only_number ruby_end.NumberOutside kind place x = x

    pub agree : AgreeRuns (λ n. shown (o n)) G
    agree = record {
      ends = λ n out end x. law_ends n (o n) refl out end x;
      ends_only = law_ends_only;
      goes = λ n out x. law_goes n (o n) refl out x;
      goes_only = λ m out x. law_goes_only m (run m t s) refl out x;
      outside = λ m out kind place x. let r = law_ends_only m out (ends.Outside kind place) x in only_number r.1 kind place r.3;
    }

    -- ---- the states that both sides show

    grown_step : (n : ℕ) (y z : ruby.Outcome) → Next n y z → Begins (evaluation.moments y) (evaluation.moments z)
    grown_step n (Ends r st l) z x = ([], ap evaluation.moments x.1 ∙ sym (append-nil (befores st.calls ++ st.ruby ∷ [])))
    grown_step n (Left st l) z x = ([], ap evaluation.moments x.1 ∙ sym (append-nil (befores st.calls)))
    grown_step n (Starved st) (Ends r st1 l) x = begins_trans (befores st.calls) (befores st1.calls) (befores st1.calls ++ st1.ruby ∷ []) (one_before st.calls st1.calls x.1) (st1.ruby ∷ [], refl)
      where
        one_before : (c d : List Moment) → OneMore c d → Begins (befores c) (befores d)
        one_before c d (inl e) = ([], ap befores e ∙ sym (append-nil (befores c)))
        one_before c d (inr e) = ((e.0).before ∷ [], ap befores e.1)
    grown_step n (Starved st) (Left st1 l) x = one_before st.calls st1.calls x.1
      where
        one_before : (c d : List Moment) → OneMore c d → Begins (befores c) (befores d)
        one_before c d (inl e) = ([], ap befores e ∙ sym (append-nil (befores c)))
        one_before c d (inr e) = ((e.0).before ∷ [], ap befores e.1)
    grown_step n (Starved st) (Starved st1) x = one_before st.calls st1.calls x
      where
        one_before : (c d : List Moment) → OneMore c d → Begins (befores c) (befores d)
        one_before c d (inl e) = ([], ap befores e ∙ sym (append-nil (befores c)))
        one_before c d (inr e) = ((e.0).before ∷ [], ap befores e.1)

    grown : (n k m : ℕ) → m ≡ k + n → Begins (evaluation.moments (o n)) (evaluation.moments (o m))
    grown n zero m e = ([], ap (λ i. evaluation.moments (o i)) {x = m} {y = n} (omega (arith, e)) ∙ sym (append-nil (evaluation.moments (o n))))
    grown n (suc k) m e = begins_trans _ _ _ (grown n k (k + n) refl) (subst (λ i. Begins (evaluation.moments (o (k + n))) (evaluation.moments (o i))) {x = suc (k + n)} {y = m} (omega (arith, e)) (grown_step (k + n) (o (k + n)) (o (suc (k + n))) (N (k + n))))

    since_none : (l c : List Moment) → c ≡ l ++ [] → l ≡ c
    since_none l c e = sym (append-nil l) ∙ sym e

    -- what a run of the script shows once it has come so far
    shown_at : (m : ℕ) (x : Outcome) (ws : List es.State) → run m t s ≡ x → moments m t s ≡ ws → V m ≡ ws ++ last_of x
    shown_at m x ws e f = seen_parts m t s ∙ ap (λ l. l ++ last_of (run m t s)) f ∙ ap (λ y. ws ++ last_of y) e

    -- with enough units on Ruby's side all states that m units of the script show are among those that stand in the relation
    meet : (m n : ℕ) → 1000 * m + a < n → (y : ruby.Outcome) → o n ≡ y → (k : ℕ) × (m ≤ k) × Carried C (evaluation.moments y) (V k)
    meet m n j (Ends r st l) i =
        let f = followed n (Ends r st l) i in
        let p = same r st f.c f.z f.post in
        let e : run (f.m + m) t s ≡ task.Ended f.c f.z m = f.runs.runs (f.m + m) m refl ∙ run_done m f.c f.z in
        let w : moments (f.m + m) t s ≡ f.vs = f.runs.sees (f.m + m) m refl ∙ ap (λ l. f.vs ++ l) (moments_done m f.c f.z) ∙ append-nil f.vs in (
          f.m + m,
          omega arith,
          subst (λ v. Carried C (befores st.calls ++ st.ruby ∷ []) v) (sym (shown_at (f.m + m) (task.Ended f.c f.z m) f.vs e w))
              (carried_both C (befores st.calls) (st.ruby ∷ []) f.vs (f.z ∷ []) (subst (λ c. Carried C (befores c) f.vs) (since_none f.met.later st.calls f.met.is) f.met.carried) (p.states, tt)),
        )
    meet m n j (Left st l) i =
        let f = followed n (Left st l) i in
        let e : run (f.m + m) t s ≡ task.Left Number f.place f.z = f.leaves (f.m + m) m refl in
        let w : moments (f.m + m) t s ≡ f.vs = f.sees (f.m + m) m refl in (
          f.m + m,
          omega arith,
          subst (λ v. Carried C (befores st.calls) v) (sym (append-nil f.vs) ∙ sym (shown_at (f.m + m) (task.Left Number f.place f.z) f.vs e w))
              (subst (λ c. Carried C (befores c) f.vs) (since_none f.met.later st.calls f.met.is) f.met.carried),
        )
    meet m n j (Starved st) i =
        let f = followed n (Starved st) i in (
          f.m,
          omega (arith, j, f.steps),
          subst (λ v. Carried C (befores st.calls) v) (sym (append-nil f.vs) ∙ sym (shown_at f.m (task.Going f.z) f.vs f.stops f.sees))
              (subst (λ c. Carried C (befores c) f.vs) (since_none f.met.later st.calls f.met.is) f.met.carried),
        )

    met_at : (m n : ℕ) → (k : ℕ) × (m ≤ k) × Carried C (evaluation.moments (o ((1000 * m + a + 1) + n))) (V k)
    met_at m n = meet m ((1000 * m + a + 1) + n) (omega arith) (o ((1000 * m + a + 1) + n)) refl

    pub carries : CarriedRuns C (λ n. evaluation.moments (o n)) V
    carries = record {
      carried = λ n m k r z e f. let x = met_at m n in
          carried_at C (evaluation.moments (o ((1000 * m + a + 1) + n))) (V x.0) k r z x.2
          (begins_at (evaluation.moments (o n)) _ k r (grown n (1000 * m + a + 1) _ refl) e)
          (begins_at (V m) (V x.0) k z (shown_more m x.0 x.1) f);
      reached = λ n k e. let x = met_at 0 n in
          (x.0, let le = begins_length (evaluation.moments (o n)) _ (grown n (1000 * 0 + a + 1) _ refl) in let q = carried_length C _ (V x.0) x.2 in omega (arith, e, le, q));
      reached_only = λ m k e. let x = met_at m 0 in
          ((1000 * m + a + 1) + 0, let le = begins_length (V m) (V x.0) (shown_more m x.0 x.1) in let q = carried_length C _ (V x.0) x.2 in omega (arith, e, le, q));
    }
