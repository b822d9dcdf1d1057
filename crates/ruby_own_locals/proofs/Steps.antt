-- One step of scope's walk after another, with what the text says in it: of the tree as it was parsed, and as scope makes it.
use Rattle.std.proofs.Common.{◌≡◌, Bool, true, false, not, ◌&&◌, ◌||◌, cond, List, [], ◌∷◌, ◌++◌, map, Option, None, Some, refl, sym, ap, ◌∙◌, append_assoc, append-nil}
use Rattle.std.proofs.lemmas.Bool.{false≢true}
use Rattle.std.proofs.lemmas.List.{map-append}
use Rattle.opal_base.specs.declared.place.Pos.{Pos}
use Rattle.ruby_meaning.specs.declared.construct.Construct.{Construct}
use Rattle.ruby_meaning.specs.declared.scope.Refusal.{Refusal}
use Rattle.ruby_meaning.specs.declared.scope.Scope.{Scope}
use Rattle.ruby_meaning.specs.declared.scope.Seen.{Seen}
use Rattle.ruby_meaning.specs.Scoping.Names.{Name, has, with_name}
use Rattle.ruby_meaning.specs.Scoping.Seen.{stands_before, earlier, outside, refuse_if, unbuilt_at, is_underscored, is_local, name_local, parameter, called, opened, innermost, outer_ones, block_closed, body_closed}
use Rattle.ruby_meaning.specs.Scoping.Walk.{called_if_any, refuse_marked}
use Rattle.ruby_evaluation.specs.Locals.{Declared}
use Rattle.ruby_own_locals.specs.Events.{Events, end, odd, takes, sets, opens, apart, chain}
use Rattle.ruby_own_locals.specs.Law.{is_whole}
use Rattle.ruby_own_locals.proofs.Lists.{left_true, right_true, whole_chain, noted, owns_in, noted_chain, owns_chain, erase, erase_chain}

abbrev pub owns : List Scope → List (List Name)
owns l = map (λ s. s.own) l

pub record Stepped (s t : Seen) (ms es : Events) : Type 0 where
  pub own : t.own ≡ noted s.outer s.own es
  pub outer : t.outer ≡ s.outer
  pub scopes : owns t.scopes ≡ owns s.scopes ++ owns_in s.outer s.own es
  pub keeps : t.refusal ≡ None → s.refusal ≡ None
  pub same : t.refusal ≡ None → erase ms ≡ erase es

-- From one state to the other the walk notes what these events say; where nothing is refused, what it makes says the same.
pub record Steps (s t : Seen) (ms es : Events) : Type 0 where
  pub by : is_whole es ≡ true → Stepped s t ms es

-- what changes no list
pub record Quiet (s t : Seen) : Type 0 where
  pub own : t.own ≡ s.own
  pub outer : t.outer ≡ s.outer
  pub scopes : t.scopes ≡ s.scopes
  pub keeps : t.refusal ≡ None → s.refusal ≡ None

stepped_then : {s t u : Seen} {ma mb a b : Events} → is_whole a ≡ true → Stepped s t ma a → Stepped t u mb b → Stepped s u (chain ma mb) (chain a b)
stepped_then {s} {t} {u} {ma} {mb} {a} {b} w x y = record {
  own = y.own ∙ ap (λ o. noted o t.own b) x.outer ∙ ap (λ l. noted s.outer l b) x.own ∙ sym (noted_chain s.outer s.own a b w);
  outer = y.outer ∙ x.outer;
  scopes = y.scopes ∙ ap (λ l. l ++ owns_in t.outer t.own b) x.scopes
      ∙ ap (λ o. (owns s.scopes ++ owns_in s.outer s.own a) ++ owns_in o t.own b) x.outer
      ∙ ap (λ l. (owns s.scopes ++ owns_in s.outer s.own a) ++ owns_in s.outer l b) x.own
      ∙ append_assoc (owns s.scopes) (owns_in s.outer s.own a) (owns_in s.outer (noted s.outer s.own a) b)
      ∙ ap (λ l. owns s.scopes ++ l) (sym (owns_chain s.outer s.own a b w));
  keeps = λ e. x.keeps (y.keeps e);
  same = λ e. erase_chain ma mb ∙ ap (λ l. chain l (erase mb)) (x.same (y.keeps e)) ∙ ap (chain (erase a)) (y.same e) ∙ sym (erase_chain a b);
}

pub steps_then : {s t u : Seen} {ma mb a b : Events} → Steps s t ma a → Steps t u mb b → Steps s u (chain ma mb) (chain a b)
steps_then {a = a} {b = b} x y = record {
  by = λ w.
      let h = sym (whole_chain a b) ∙ w in
      stepped_then (left_true (is_whole a) (is_whole b) h) (x.by (left_true (is_whole a) (is_whole b) h)) (y.by (right_true (is_whole a) (is_whole b) h));
}

pub quiet_then : {s t u : Seen} {ms es : Events} → Quiet s t → Steps t u ms es → Steps s u ms es
quiet_then {s} {t} {u} {ms} {es} q x = record {
  by = λ w.
      let y = x.by w in
      record {
        own = y.own ∙ ap (λ o. noted o t.own es) q.outer ∙ ap (λ l. noted s.outer l es) q.own;
        outer = y.outer ∙ q.outer;
        scopes = y.scopes ∙ ap (λ l. owns l ++ owns_in t.outer t.own es) q.scopes ∙ ap (λ o. owns s.scopes ++ owns_in o t.own es) q.outer ∙ ap (λ l. owns s.scopes ++ owns_in s.outer l es) q.own;
        keeps = λ e. q.keeps (y.keeps e);
        same = y.same;
      };
}

pub quiet_self : (s : Seen) → Quiet s s
quiet_self s = record { own = refl; outer = refl; scopes = refl; keeps = λ e. e }

pub quiet_quiet : {s t u : Seen} → Quiet s t → Quiet t u → Quiet s u
quiet_quiet q r = record { own = r.own ∙ q.own; outer = r.outer ∙ q.outer; scopes = r.scopes ∙ q.scopes; keeps = λ e. q.keeps (r.keeps e) }

pub stays : (s : Seen) → Steps s s end end
stays s = record { by = λ w. record { own = refl; outer = refl; scopes = sym (append-nil (owns s.scopes)); keeps = λ e. e; same = λ e. refl } }

pub quiet_steps : {s t : Seen} → Quiet s t → Steps s t end end
quiet_steps {s} {t} q = quiet_then q (stays t)

pub never : {s t : Seen} {ms : Events} → Steps s t ms odd
never = record { by = λ w. absurd (false≢true w) }

-- ---- single steps

some_none : {A B : Type 0} (a : A) → Some a ≡ None → B
some_none a e = let f = e in absurd cc

pub not_earlier : {B : Type 0} (o : Option Refusal) (p : Pos) (c : Construct) → earlier o p c ≡ None → B
not_earlier {B} None p c e = some_none _ e
not_earlier {B} (Some r) p c e = by (stands_before p r.pos) e where
  by : (b : Bool) → cond b (Some (record { pos = p; construct = c })) (Some r) ≡ None → B
  by true e = some_none _ e
  by false e = some_none _ e

pub refused : (b : Bool) (p : Pos) (c : Construct) (s : Seen) → Quiet s (refuse_if b p c s)
unfolding refuse_if
refused true p c s = record { own = refl; outer = refl; scopes = refl; keeps = λ e. not_earlier s.refusal p c e }
refused false p c s = quiet_self s

pub of_unbuilt : (b : Bool) (p : Pos) (s : Seen) → Quiet s (cond b s (unbuilt_at p s))
unfolding unbuilt_at
of_unbuilt true p s = quiet_self s
of_unbuilt false p s = record { own = refl; outer = refl; scopes = refl; keeps = λ e. e }

pub of_called : (name : Name) (s : Seen) → Quiet s (called name s)
unfolding called
of_called name s = record { own = refl; outer = refl; scopes = refl; keeps = λ e. e }

pub of_called_if_any : (o : Option Name) (s : Seen) → Quiet s (called_if_any o s)
unfolding called_if_any
of_called_if_any None s = quiet_self s
of_called_if_any (Some name) s = of_called name s

pub of_marked : (b : Bool) (o : Option Pos) (s : Seen) → Quiet s (refuse_marked b o s)
unfolding refuse_marked
of_marked b None s = quiet_self s
of_marked b (Some p) s = refused b p _ s

-- a name that is local is noted already
pub local_quiet : (name : Name) (s : Seen) → is_local s name ≡ true → Quiet s (name_local name s)
unfolding name_local is_local
local_quiet name s e = by (has s.own name) (outside s.outer name) e where
  by : (b c : Bool) → (b || c) ≡ true → Quiet s (cond b s (cond c (record s { named = with_name s.named name }) (record s { own = with_name s.own name })))
  by true c e = quiet_self s
  by false true e = record { own = refl; outer = refl; scopes = refl; keeps = λ e. e }
  by false false e = absurd (false≢true e)

pub names_one : (name : Name) (p : Pos) (s : Seen) → Steps s (name_local name s) (sets name p end) (sets name p end)
unfolding name_local
names_one name p s = record { by = λ w. made (has s.own name) (outside s.outer name) refl refl } where
  made : (b c : Bool) → has s.own name ≡ b → outside s.outer name ≡ c
      → Stepped s (cond b s (cond c (record s { named = with_name s.named name }) (record s { own = with_name s.own name }))) (sets name p end) (sets name p end)
  made true c e f = record { own = sym (ap (λ b. cond b s.own (cond (outside s.outer name) s.own (with_name s.own name))) e); outer = refl; scopes = sym (append-nil (owns s.scopes)); keeps = λ e. e; same = λ e. refl }
  made false true e f = record { own = sym (ap (λ b. cond b s.own (cond (outside s.outer name) s.own (with_name s.own name))) e ∙ ap (λ b. cond b s.own (with_name s.own name)) f); outer = refl; scopes = sym (append-nil (owns s.scopes)); keeps = λ e. e; same = λ e. refl }
  made false false e f = record { own = sym (ap (λ b. cond b s.own (cond (outside s.outer name) s.own (with_name s.own name))) e ∙ ap (λ b. cond b s.own (with_name s.own name)) f); outer = refl; scopes = sym (append-nil (owns s.scopes)); keeps = λ e. e; same = λ e. refl }

pub takes_one : (mark : Pos) (name : Name) (p : Pos) (s : Seen) → Steps s (parameter mark name s) (takes name p end) (takes name p end)
unfolding parameter
takes_one mark name p s = record {
  by = λ w.
      let q = refused (not (is_underscored name) && has s.params name) mark _ s in
      record { own = ap (λ l. with_name l name) q.own; outer = q.outer; scopes = ap owns q.scopes ∙ sym (append-nil (owns s.scopes)); keeps = q.keeps; same = λ e. refl };
}

-- ---- scopes

innermost_is : (outer : List (List Name)) (own : List Name) → innermost (outer ++ own ∷ []) ≡ own
innermost_is [] own = refl
innermost_is (x ∷ []) own = refl
innermost_is (x ∷ (y ∷ ys)) own = innermost_is (y ∷ ys) own

outer_is : (outer : List (List Name)) (own : List Name) → outer_ones (outer ++ own ∷ []) ≡ outer
outer_is [] own = refl
outer_is (x ∷ []) own = refl
outer_is (x ∷ (y ∷ ys)) own = ap (λ l. x ∷ l) (outer_is (y ∷ ys) own)

behind_scope : (before : List Scope) (s : Seen) (own : List Name) (l : List (List Name)) → s.own ≡ own → owns s.scopes ≡ l → owns (before ++ record { own = s.own; outer = s.named } ∷ s.scopes) ≡ owns before ++ ((own ∷ l) ++ [])
behind_scope before s own l e f = map-append _ before _ ∙ ap (λ l. owns before ++ l) (ap (λ o. o ∷ owns s.scopes) e ∙ ap (λ m. own ∷ m) (f ∙ sym (append-nil l)))

pub block_steps : (s u : Seen) (p : Pos) (ps ds ps' ds' : Declared) (ms es : Events) → Steps (opened (s.outer ++ s.own ∷ []) s) u ms es
    → Steps s (block_closed s.params s.named s.scopes u) (opens p ps ds ms end) (opens p ps' ds' es end)
unfolding opened block_closed
block_steps s u p ps ds ps' ds' ms es x = record {
  by = λ w.
      let y = x.by (left_true (is_whole es) true w) in
      record {
        own = ap innermost y.outer ∙ innermost_is s.outer s.own;
        outer = ap outer_ones y.outer ∙ outer_is s.outer s.own;
        scopes = behind_scope s.scopes u _ _ y.own y.scopes;
        keeps = y.keeps;
        same = λ e. ap (λ i. opens p [] [] i end) (y.same e);
      };
}

pub body_steps : (s u : Seen) (ds ds' : Declared) (ms es : Events) → Steps (opened [] s) u ms es
    → Steps s (body_closed s.own s.params s.named s.outer s.scopes u) (apart ds ms end) (apart ds' es end)
unfolding opened body_closed
body_steps s u ds ds' ms es x = record {
  by = λ w.
      let y = x.by (left_true (is_whole es) true w) in
      record {
        own = refl;
        outer = refl;
        scopes = behind_scope s.scopes u _ _ y.own y.scopes;
        keeps = y.keeps;
        same = λ e. ap (λ i. apart [] i end) (y.same e);
      };
}
