-- Primitives of classes and modules.
use Rattle.std.specs.Prelude.{ℕ, Bool, true, false, if◌then◌else◌, ◌||◌, is_some, ◌==◌, nat_lt, List, [], ◌∷◌, ◌++◌, length, map, Option, Some, None, codes}
use Rattle.ruby_meaning.specs.declared.value.Value.{Value}
use Rattle.ruby_meaning.specs.declared.value.Value.TheVariants as value
use Rattle.ruby_evaluation.specs.Tables.{Name, at, drop_at}
use Rattle.ruby_evaluation.specs.State.{Entry, Reader, Writer, Ruby, module_at, with_module, with_entry}
use Rattle.ruby_evaluation.specs.Ancestors.{ancestors, is_among, find_for, unless_undefined, included_into}
use Rattle.ruby_evaluation.specs.Task.{Task, Look, Change, gives}
use Rattle.ruby_evaluation.specs.Texts.{truth, text, fails, wrong_kind, bad_name, not_defined_in, new_array}
use Rattle.ruby_evaluation.specs.Definitions.{alias_in, undefine}
use Rattle.ruby_evaluation.specs.Exceptions.{truthy}
use Rattle.ruby_evaluation.specs.Kinds.{Row, nothing, string, module_of, class}

abbrev pub ref_or_nil : Option ℕ → Value
ref_or_nil None = value.Nil
ref_or_nil (Some k) = value.Ref k

abbrev pub superclass_row : Row
superclass_row (c ∷ []) = class c (λ n m. gives (ref_or_nil m.superclass))
superclass_row _ = nothing

abbrev pub name_row : Row
name_row (x ∷ []) = module_of x (λ n m. text m.name)
name_row _ = nothing

abbrev pub ancestors_row : Row
ancestors_row (x ∷ []) = module_of x (λ n m. Look (λ r. new_array (map (λ k. value.Ref k) (ancestors r n))))
ancestors_row _ = nothing

-- n into m
abbrev pub include_in : Ruby → ℕ → ℕ → Task
include_in r m n =
    if is_among m (ancestors r n) then fails (codes "ArgumentError") (codes "cyclic include")
    else Change (included_into m n) nothing

abbrev pub include_row : Row
include_row (x ∷ y ∷ []) =
    module_of x (λ m a. module_of y (λ n b. if b.is_class then wrong_kind y else Look (λ r. include_in r m n)))
include_row _ = nothing

abbrev pub defines_row : Row
defines_row (x ∷ s ∷ []) = module_of x (λ m a. string s (λ name. Look (λ r. gives (truth (is_some (find_for r m name))))))
defines_row _ = nothing

-- no new method's name begins with a dollar sign or is too long
abbrev pub is_bad_name : Name → Bool
is_bad_name [] = false
is_bad_name (u ∷ us) = (u == 36) || nat_lt 2147483648 (length (u ∷ us))

abbrev pub put_entry : ℕ → Name → Entry → Task
put_entry m name e = if is_bad_name name then bad_name else Change (with_entry m name e) nothing

abbrev pub variable_name : Name → Name
variable_name s = 64 ∷ s

abbrev pub attribute_of : ℕ → Name → Bool → Task
attribute_of m s true = put_entry m (s ++ codes "=") (Writer m (s ++ codes "=") (variable_name s))
attribute_of m s false = put_entry m s (Reader m s (variable_name s))

abbrev pub attr_row : Row
attr_row (x ∷ s ∷ w ∷ []) = module_of x (λ m a. string s (λ name. attribute_of m name (truthy w)))
attr_row _ = nothing

abbrev pub alias_row : Row
alias_row (x ∷ s ∷ t ∷ []) = module_of x (λ m a. string s (λ new. string t (λ old. if is_bad_name new then bad_name else alias_in m new old)))
alias_row _ = nothing

abbrev pub undef_row : Row
undef_row (x ∷ s ∷ []) = module_of x (λ m a. string s (λ name. undefine m name))
undef_row _ = nothing

abbrev pub without_entry : ℕ → Name → Ruby → Ruby
without_entry k name r = let m = module_at r k in with_module k (record m { table = drop_at name m.table }) r

abbrev pub removed : Option Entry → ℕ → Name → Task
removed None m name = not_defined_in name m
removed (Some e) m name = Change (without_entry m name) nothing

-- its own entry, other than a mark
abbrev pub remove_row : Row
remove_row (x ∷ s ∷ []) = module_of x (λ m a. string s (λ name. Look (λ r. removed (unless_undefined (at name (module_at r m).table)) m name)))
remove_row _ = nothing

abbrev pub module_rows : List (Name × Row)
module_rows =
    (codes "superclass", superclass_row)
    ∷ (codes "mod_name", name_row)
    ∷ (codes "ancestors", ancestors_row)
    ∷ (codes "include", include_row)
    ∷ (codes "defines", defines_row)
    ∷ (codes "attr", attr_row)
    ∷ (codes "alias", alias_row)
    ∷ (codes "undef", undef_row)
    ∷ (codes "remove", remove_row)
    ∷ []
