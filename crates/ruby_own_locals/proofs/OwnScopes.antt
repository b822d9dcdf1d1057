-- The law, from what scope's walk notes, what evaluation finds, and the order of places.
use Rattle.std.proofs.Common.{◌≡◌, ℕ, zero, suc, Bool, true, not, ◌||◌, cond, List, [], ◌∷◌, ◌++◌, length, Option, None, Some, refl, sym, ap, ◌∙◌, subst}
use Rattle.std.specs.Prelude.{filter}
use Rattle.opal_base.specs.declared.place.Pos.{Pos}
use Rattle.ruby_meaning.specs.declared.scope.Refusal.{Refusal}
use Rattle.ruby_meaning.specs.declared.scope.Scope.{Scope}
use Rattle.ruby_meaning.specs.declared.scope.Seen.{Seen}
use Rattle.ruby_meaning.specs.declared.tree.Program.{Program}
use Rattle.ruby_meaning.specs.Scoping.Names.{Name, has}
use Rattle.ruby_meaning.specs.Scoping.Seen.{stands_before}
use Rattle.ruby_meaning.specs.Scoping.Walk.{no_targets}
use Rattle.ruby_meaning.specs.Scoping.Scopes.{start, or_unbuilt, own_scope_fault, resolved_program, scopes_of, seen}
use Rattle.ruby_evaluation.specs.State.{Ruby, frame_at}
use Rattle.ruby_evaluation.specs.Locals.{Declared, deepest, declared, declared_in_defaults, declares_before, is_visible, parameter_places}
use Rattle.ruby_own_locals.specs.Events.{Events, end, odd}
use Rattle.ruby_own_locals.specs.Law.{visible, found, found_in, said, SameNames, SameScopes, starts, InOrder, is_whole, OwnLocals, ScopedLocals, BlockLocals, frames_around}
use Rattle.ruby_own_locals.proofs.Lists.{noted, owns_in, erase, noted_erase, owns_erase, whole_erase, order_erased, order_from_erased}
use Rattle.ruby_own_locals.proofs.Meeting.{Alike, SameLists, taken, settings, Sound, each_all, body_says, whole_body, meets}
use Rattle.ruby_own_locals.proofs.Telling.{file_tells}
use Rattle.ruby_own_locals.proofs.Steps.{owns, Stepped}
use Rattle.ruby_own_locals.proofs.Walking.{walk_steps}

same_scopes : (ds : List Declared) (ss : List Scope) → SameLists ds (owns ss) → SameScopes ds ss
same_scopes [] [] h = tt
same_scopes [] (s ∷ ss) h = absurd h
same_scopes (d ∷ ds) [] h = absurd h
same_scopes (d ∷ ds) (s ∷ ss) h = (h.0, same_scopes ds ss h.1)

-- the lists that evaluation finds in a file, and those of the events
file_lists : (frame : Declared) (es : Events) → Alike frame (taken es ++ settings es) → Sound es → InOrder es → SameLists (found (frame ∷ []) es) (owns_in [] [] es)
unfolding has
file_lists frame es a s o = meets [] [] [] frame es s o (each_all (λ q u us. refl) (starts es)) (each_all (λ q u us. body_says frame es a u us (λ p. stands_before p q)) (starts es))

module _ (program : Program) (whole : is_whole (said odd program) ≡ true) (order : InOrder (said odd program)) (taken_in : (seen None program).refusal ≡ None) where
  abbrev after : Seen
  after = seen None program

  abbrev says : Events
  says = said odd program

  abbrev made : Events
  made = said end (resolved_program program)

  stepped : Stepped start after made says
  unfolding said
  stepped = (walk_steps program.body deepest no_targets start).by whole

  same : erase made ≡ erase says
  same = stepped.same taken_in

  made_whole : is_whole made ≡ true
  made_whole = sym (whole_erase made) ∙ ap is_whole same ∙ whole_erase says ∙ whole

  made_order : InOrder made
  made_order = order_from_erased made (subst InOrder (sym same) (order_erased says order))

  abbrev frame : Declared
  frame = declared (resolved_program program).body

  told : Alike frame (taken made ++ settings made) × Sound made
  unfolding said
  told = file_tells (resolved_program program).body made_whole

  -- what scope notes of the text is what it notes of the resolved program
  own_is : noted [] [] made ≡ after.own
  own_is = sym (noted_erase [] [] made) ∙ ap (noted [] []) same ∙ noted_erase [] [] says ∙ sym stepped.own

  scopes_are : owns_in [] [] made ≡ owns after.scopes
  scopes_are = sym (owns_erase [] [] made) ∙ ap (owns_in [] []) same ∙ owns_erase [] [] says ∙ sym stepped.scopes

  lists : SameLists (found_in (resolved_program program)) (after.own ∷ owns after.scopes)
  lists = (subst (SameNames frame) own_is (whole_body frame made told.0), subst (SameLists (found (frame ∷ []) made)) scopes_are (file_lists frame made told.0 told.1 made_order))

  own_scopes : SameScopes (found_in (resolved_program program)) (scopes_of after)
  own_scopes = same_scopes (found_in (resolved_program program)) (scopes_of after) lists

pub own_locals : OwnLocals
own_locals program w r = own_scopes program w.whole w.in_order r

none_refused : (r : Option Refusal) (u : Option Pos) → or_unbuilt r u ≡ None → r ≡ None
none_refused None u e = refl
none_refused (Some r) u e = let f = e in absurd cc

pub scoped_locals : ScopedLocals
unfolding own_scope_fault
scoped_locals program resolved w s =
    let r = none_refused (seen None program).refusal (seen None program).unbuilt s.taken in
    subst (SameScopes (found_in resolved.program)) (sym s.scopes_are) (subst (λ p. SameScopes (found_in p) (scopes_of (seen None program))) (sym s.program_is) (own_locals program w r))

-- ---- a block as it is called

visible_is : (n : ℕ) (r : Ruby) (at_frame : Option ℕ) (place : Pos) (name : Name) → is_visible n r at_frame place name ≡ visible (frames_around n r at_frame) place name
visible_is zero r at_frame place name = refl
visible_is (suc n) r None place name = refl
visible_is (suc n) r (Some k) place name = ap (λ b. declares_before place name (frame_at r k).places || b) (visible_is n r (frame_at r k).outer place name)

filter_same : {A : Type 0} (p q : A → Bool) → ((a : A) → p a ≡ q a) → (l : List A) → filter p l ≡ filter q l
filter_same p q h [] = refl
filter_same p q h (a ∷ l) = ap (λ b. cond b (a ∷ filter p l) (filter p l)) (h a) ∙ ap (λ m. cond (q a) (a ∷ m) m) (filter_same p q h l)

pub block_locals : BlockLocals
block_locals r k place params node =
    ap (λ l. parameter_places place params ++ l)
    (filter_same _ _ (λ d. ap not (visible_is (length r.frames) r (Some k) place d.0)) (declared_in_defaults params ++ declared node))
