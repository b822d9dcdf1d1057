-- A program has one scoping or one refusal.
use Rattle.std.proofs.Common.{◌≡◌, refl, sym, ap, ◌∙◌, inl, inr}
use Rattle.std.specs.Prelude.{Option, Some, None, List, [], ◌⊎◌}
use Rattle.ruby_meaning.specs.declared.scope.Refusal.{Refusal}
use Rattle.ruby_meaning.specs.declared.scope.Resolved.{Resolved}
use Rattle.ruby_meaning.specs.declared.scope.Scope.{Scope}
use Rattle.ruby_meaning.specs.declared.scope.Site.{Site}
use Rattle.ruby_meaning.specs.declared.tree.Program.{Program}
use Rattle.ruby_meaning.specs.Scoping.Names.{Name}
use Rattle.ruby_meaning.specs.Scoping.Laws.{OneScoping, OneRefusal, NotBoth, ScopedOrRefused}
use Rattle.ruby_meaning.specs.Scoping.Scopes.{own_scope_fault, seen, resolved_program, scopes_of, Scoped, OwnScopeFault}

abbrev resolution : Program → List Scope → List Name → List Site → Resolved
resolution program scopes calls sites = record { program = program; scopes = scopes; calls = calls; sites = sites }

pub one_scoping : OneScoping
one_scoping program a b h k =
    ap (λ p. resolution p a.scopes a.calls a.sites) (h.program_is ∙ sym k.program_is)
    ∙ ap (λ s. resolution b.program s a.calls a.sites) (h.scopes_are ∙ sym k.scopes_are)
    ∙ ap (λ c. resolution b.program b.scopes c a.sites) (h.calls_are ∙ sym k.calls_are)
    ∙ ap (λ s. resolution b.program b.scopes b.calls s) (h.sites_are ∙ sym k.sites_are)

pub one_refusal : OneRefusal
one_refusal program p q c d h k =
    let one : Refusal = record { pos = p; construct = c } in
    let other : Refusal = record { pos = q; construct = d } in
    let e : one ≡ other = cc in
    (ap (λ (r : Refusal). r.pos) e, ap (λ (r : Refusal). r.construct) e)

pub not_both : NotBoth
not_both program a p c h k = let e = h.taken in cc

answered : (program : Program) (o : Option Refusal) → own_scope_fault program ≡ o → ((a : Resolved) × Scoped program a) ⊎ ((p : _) × (c : _) × OwnScopeFault program p c)
answered program None e = inl (
  record { program = resolved_program program; scopes = scopes_of (seen None program); calls = (seen None program).calls; sites = [] },
  record { taken = e; program_is = refl; scopes_are = refl; calls_are = refl; sites_are = refl },
)
answered program (Some r) e = inr (r.pos, r.construct, e)

pub scoped_or_refused : ScopedOrRefused
scoped_or_refused program = answered program (own_scope_fault program) refl
