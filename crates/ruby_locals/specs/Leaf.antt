-- The forms that hold no node.
use Rattle.std.specs.Prelude.{Bool, true, false}
use Rattle.ruby_meaning.specs.declared.tree.Base.TheOpen.{Kind-F}
use Rattle.ruby_meaning.specs.declared.tree.Base.TheFolds.{fold-Kind}
use Rattle.ruby_meaning.specs.declared.tree.Kind.{Kind}

-- a test of the form alone
abbrev pub by_form : (Kind-F Bool Bool Bool Bool Bool → Bool) → Kind → Bool
by_form test = fold-Kind Bool Bool Bool Bool Bool (λ b. false) test (λ m. false) (λ n. false) (λ p. false)

abbrev pub leaf_form : Kind-F Bool Bool Bool Bool Bool → Bool
leaf_form (Kind-F.Lit a) = true
leaf_form Kind-F.SelfRef = true
leaf_form (Kind-F.Int a) = true
leaf_form (Kind-F.Str a) = true
leaf_form (Kind-F.LocalGet a) = true
leaf_form (Kind-F.IvarGet a) = true
leaf_form (Kind-F.GlobalGet a) = true
leaf_form Kind-F.Retry = true
leaf_form Kind-F.Reraise = true
leaf_form (Kind-F.Alias a b) = true
leaf_form (Kind-F.Undef a) = true
leaf_form (Kind-F.Require a b) = true
leaf_form _ = false

unfoldable pub is_leaf : Kind → Bool
is_leaf = by_form leaf_form
