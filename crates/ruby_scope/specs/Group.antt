-- The forms with several parts, which the walk takes apart each in a function of its own.
use Rattle.std.specs.Prelude.{Bool, true, false}
use Rattle.ruby_locals.specs.Leaf.{by_form}
use Rattle.ruby_meaning.specs.declared.tree.Base.TheOpen.{Kind-F}
use Rattle.ruby_meaning.specs.declared.tree.Kind.{Kind}

abbrev pub if_form : Kind-F Bool Bool Bool Bool Bool → Bool
if_form (Kind-F.If a b c) = true
if_form _ = false

unfoldable pub is_if : Kind → Bool
is_if = by_form if_form

abbrev pub loop_form : Kind-F Bool Bool Bool Bool Bool → Bool
loop_form (Kind-F.While a b c) = true
loop_form _ = false

unfoldable pub is_loop : Kind → Bool
is_loop = by_form loop_form

abbrev pub case_form : Kind-F Bool Bool Bool Bool Bool → Bool
case_form (Kind-F.Case a b c) = true
case_form _ = false

unfoldable pub is_case : Kind → Bool
is_case = by_form case_form

abbrev pub begin_form : Kind-F Bool Bool Bool Bool Bool → Bool
begin_form (Kind-F.Begin a b c d) = true
begin_form _ = false

unfoldable pub is_begin : Kind → Bool
is_begin = by_form begin_form

abbrev pub rescue_form : Kind-F Bool Bool Bool Bool Bool → Bool
rescue_form (Kind-F.Rescue a b c) = true
rescue_form _ = false

unfoldable pub is_rescue : Kind → Bool
is_rescue = by_form rescue_form

abbrev pub attr_form : Kind-F Bool Bool Bool Bool Bool → Bool
attr_form (Kind-F.AttrSet a b c d) = true
attr_form (Kind-F.AttrOpSet a b c d e) = true
attr_form _ = false

unfoldable pub is_attr : Kind → Bool
is_attr = by_form attr_form

abbrev pub call_form : Kind-F Bool Bool Bool Bool Bool → Bool
call_form (Kind-F.Call a b c d e) = true
call_form _ = false

unfoldable pub is_call : Kind → Bool
is_call = by_form call_form

abbrev pub super_form : Kind-F Bool Bool Bool Bool Bool → Bool
super_form (Kind-F.Super a b) = true
super_form _ = false

unfoldable pub is_super : Kind → Bool
is_super = by_form super_form

abbrev pub block_form : Kind-F Bool Bool Bool Bool Bool → Bool
block_form (Kind-F.Block a b) = true
block_form (Kind-F.Lambda a b) = true
block_form _ = false

unfoldable pub is_block : Kind → Bool
is_block = by_form block_form

abbrev pub def_form : Kind-F Bool Bool Bool Bool Bool → Bool
def_form (Kind-F.Def a b c d) = true
def_form _ = false

unfoldable pub is_def : Kind → Bool
is_def = by_form def_form

abbrev pub module_form : Kind-F Bool Bool Bool Bool Bool → Bool
module_form (Kind-F.ModuleDef a b c) = true
module_form _ = false

unfoldable pub is_module : Kind → Bool
is_module = by_form module_form

abbrev pub pairs_form : Kind-F Bool Bool Bool Bool Bool → Bool
pairs_form (Kind-F.HashLit a b) = true
pairs_form _ = false

unfoldable pub is_pairs : Kind → Bool
is_pairs = by_form pairs_form
