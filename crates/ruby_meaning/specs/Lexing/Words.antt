-- Words, labels, symbols and variables.
use Rattle.std.specs.Prelude.{ℕ, ◌+◌, ◌-◌, Bool, true, false, not, ◌&&◌, ◌||◌, if◌then◌else◌, ◌==◌, nat_le, List, [], ◌∷◌, map, take, drop, slice_index, Option, Some, None}
use Rattle.ruby_meaning.specs.declared.construct.Construct.TheVariants as construct
use Rattle.ruby_meaning.specs.declared.form.Class.TheVariants as class
use Rattle.ruby_meaning.specs.declared.form.Form.{Form}
use Rattle.ruby_meaning.specs.declared.form.Form.TheVariants as form
use Rattle.ruby_meaning.specs.declared.form.MethodPlace.{MethodPlace}
use Rattle.ruby_meaning.specs.declared.form.Reserved.{Reserved}
use Rattle.ruby_meaning.specs.declared.form.Reserved.TheVariants as reserved_
use Rattle.ruby_meaning.specs.declared.form.Stand.{Stand}
use Rattle.ruby_meaning.specs.declared.form.Stand.TheVariants as stand
use Rattle.ruby_meaning.specs.declared.table.TheConstants.{RESERVED}
use Rattle.ruby_meaning.specs.Lexing.Before.{allows_label, method_place}
use Rattle.ruby_meaning.specs.Lexing.Characters.{starts_name}
use Rattle.ruby_meaning.specs.Lexing.Runs.{run}

-- ---- the table

-- the two are one list
abbrev pub same_units : List ℕ → List ℕ → Bool
same_units [] [] = true
same_units [] (u ∷ us) = false
same_units (k ∷ ks) [] = false
same_units (k ∷ ks) (u ∷ us) = (k == u) && same_units ks us

abbrev pub word_of_table : List (List ℕ × Reserved) → List ℕ → Option Reserved
word_of_table [] z = None
word_of_table (e ∷ es) z = if same_units e.0 z then Some e.1 else word_of_table es z

-- what a word is in the table of keywords and refused words
unfoldable pub reserved : List ℕ → Option Reserved
reserved = word_of_table (map (λ e. (e.0.now, e.1)) RESERVED)

-- ---- words

-- a `?` or `!` that `=` doesn't follow
abbrev pub is_suffix : List ℕ → ℕ → Bool
is_suffix z at = (slice_index z at == 63 || slice_index z at == 33) && not (slice_index z (at + 1) == 61)

-- the characters of a name, and one suffix
unfoldable pub word_end : List ℕ → ℕ
word_end z = let n = run class.Name z in if is_suffix z n then n + 1 else n

-- whether the word of n units begins with A to Z and has no suffix
unfoldable pub is_const : List ℕ → ℕ → Bool
is_const z n =
    let end = (if n == 0 then 0 else slice_index z (n - 1)) in
    nat_le 65 (slice_index z 0) && nat_le (slice_index z 0) 90 && not (end == 63) && not (end == 33)

abbrev pub name_form : Bool → Form
name_form false = form.Name
name_form true = form.Const

abbrev pub method_form : Bool → MethodPlace → Form
method_form false place = form.MethodName place
method_form true place = form.MethodConst place

-- a word by what it is in the table
abbrev pub of_reserved : Option Reserved → Bool → ℕ → Stand
of_reserved None const n = stand.Form (name_form const) n
of_reserved (Some (reserved_.Keyword w)) const n = stand.Form (form.Keyword w) n
of_reserved (Some (reserved_.Refused c)) const n = stand.Refused c 0

-- a word that is no label: the name of a method where one stands
abbrev pub of_word : Option MethodPlace → List ℕ → ℕ → Stand
of_word (Some place) z n = stand.Form (method_form (is_const z n) place) n
of_word None z n = of_reserved (reserved (take n z)) (is_const z n) n

-- one `:` stands at an offset
abbrev pub is_label_end : List ℕ → ℕ → Bool
is_label_end z at = slice_index z at == 58 && not (slice_index z (at + 1) == 58)

-- a word at the front, behind the token `last`
unfoldable pub word : Form → List ℕ → Stand
word last z =
    let n = word_end z in
    if allows_label last && is_label_end z n then stand.Form form.Label (n + 1) else of_word (method_place last) z n

-- ---- variables

-- an instance variable: `@` and a name
unfoldable pub ivar : List ℕ → Stand
ivar z =
    if slice_index z 1 == 64 then stand.Refused construct.ClassVariable 0
    else (if starts_name (drop 1 z) then stand.Form form.Ivar (1 + run class.Name (drop 1 z))
    else stand.Refused construct.BadCharacter 0)

abbrev pub of_global : Option Reserved → ℕ → Stand
of_global (Some (reserved_.Refused c)) n = stand.Refused c 0
of_global (Some (reserved_.Keyword w)) n = stand.Form form.Gvar n
of_global None n = stand.Form form.Gvar n

-- a global variable: `$` and a name
unfoldable pub gvar : List ℕ → Stand
gvar z =
    let n = 1 + run class.Name (drop 1 z) in
    if starts_name (drop 1 z) then of_global (reserved (take n z)) n else stand.Refused construct.SpecialGlobal 0
