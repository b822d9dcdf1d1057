-- Programs that write texts one after the other: calls of `puts` with one text, and such nodes in sequence. The front end
-- lets no other program through yet.
use Rattle.std.specs.Prelude.{ℕ, ◌==◌, if◌then◌else◌, ◌++◌, Bool, true, false, ◌&&◌, is_some, is_none, List, [], ◌∷◌, Option, Some, None, codes, bytes_eq, option_to_list, ⊤}
use Rattle.std.specs.List.{flat_map}
use Rattle.ruby_meaning.specs.declared.tree.Base.TheOpen.{Kind-F}
use Rattle.ruby_meaning.specs.declared.tree.Base.TheFolds.{fold-Kind, fold-Node}
use Rattle.ruby_meaning.specs.declared.tree.Kind.{Kind}
use Rattle.ruby_meaning.specs.declared.tree.Node.{Node}

-- a text: its units
abbrev pub Text : Type 0
Text = List ℕ

abbrev pub ends_line : Text → Bool
ends_line [] = false
ends_line (unit ∷ []) = unit == 10
ends_line (unit ∷ more ∷ text) = ends_line (more ∷ text)

-- what `puts` writes of a text: it ends with a line feed
abbrev pub puts_text : Text → Text
puts_text text = if ends_line text then text else text ++ 10 ∷ []

-- The text that a node is; whether it is such a call or sequence; and the texts that it then writes.
pub record Putting : Type 0 where
  pub text : Option Text
  pub only_puts : Bool
  pub texts : List Text

-- the one argument of a call, where it is a text
abbrev pub only_text : List Putting → Option Text
only_text (p ∷ []) = p.text
only_text _ = None

abbrev pub all_put : List Putting → Bool
all_put [] = true
all_put (p ∷ ps) = p.only_puts && all_put ps

abbrev pub all_texts : List Putting → List Text
all_texts = flat_map (λ p. p.texts)

abbrev pub other : Option Text → Putting
other text = record { text = text; only_puts = false; texts = [] }

abbrev pub of_kind : Kind-F ⊤ Putting ⊤ Putting ⊤ → Putting
of_kind (Kind-F.Str units) = other (Some units)
of_kind (Kind-F.Call receiver name args block marked) = record {
  text = None;
  only_puts = is_none receiver && bytes_eq name (codes "puts") && is_some (only_text args) && is_none block;
  texts = option_to_list (only_text args);
}
of_kind (Kind-F.Seq items) = record { text = None; only_puts = all_put items; texts = all_texts items }
of_kind _ = other None

-- The same fold at the forms.
unfoldable pub putting : Node → Putting
putting = fold-Node ⊤ Putting ⊤ Putting ⊤ (λ b. tt) of_kind (λ f. tt) (λ n. n.kind) (λ p. tt)

unfoldable pub kind_putting : Kind → Putting
kind_putting = fold-Kind ⊤ Putting ⊤ Putting ⊤ (λ b. tt) of_kind (λ f. tt) (λ n. n.kind) (λ p. tt)
