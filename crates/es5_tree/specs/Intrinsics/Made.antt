-- The objects that stand before a script begins, and the globals (ECMA-262 5.1, section 15, profile).
use Rattle.std.specs.Prelude.{ℕ, ◌+◌, List, [], ◌∷◌, ◌++◌, map, Option, Some, None, codes}
use Rattle.es5_tree.specs.Values.{Text, Val, Undefined, Obj}
use Rattle.es5_tree.specs.Objects.Cells.{Cell, Object, Host}
use Rattle.es5_tree.specs.Intrinsics.Calls.{HostFn, Create, GetPrototypeOf, SetPrototypeOf, Keys, HasOwnProperty, Call, Apply, IsArray, Push, Slice, CharCodeAt, Substring, IndexOf, FromCharCode, Write, Line, number}

-- ---- the numbers of the objects

abbrev pub object_prototype : ℕ
object_prototype = 0

abbrev pub function_prototype : ℕ
function_prototype = 1

abbrev pub array_prototype : ℕ
array_prototype = 2

abbrev pub text_prototype : ℕ
text_prototype = 3

abbrev pub number_prototype : ℕ
number_prototype = 4

abbrev pub truth_prototype : ℕ
truth_prototype = 5

-- the constructors `Object`, `Function`, `Array`, `String`, `Number` and `Boolean` have 6 to 11, `$host` has 12, and the functions begin at 13
abbrev pub function_object : HostFn → Val
function_object which = Obj (13 + number which)

-- how many they are
abbrev pub count : ℕ
count = 29

-- ---- the objects

-- an object with these own properties
abbrev pub holder : Option ℕ → List (Text × Val) → Cell
holder link properties = record { kind = Object; link = link; array_length = 0; properties = properties }

-- a function, which has no own properties
abbrev pub function : HostFn → Cell
function which = record { kind = Host (number which); link = Some function_prototype; array_length = 0; properties = [] }

abbrev pub prototypes : List Cell
prototypes =
    holder None ((codes "hasOwnProperty", function_object HasOwnProperty) ∷ [])
    ∷ holder (Some object_prototype) ((codes "call", function_object Call) ∷ (codes "apply", function_object Apply) ∷ [])
    ∷ holder (Some object_prototype) ((codes "push", function_object Push) ∷ (codes "slice", function_object Slice) ∷ [])
    ∷ holder (Some object_prototype) ((codes "charCodeAt", function_object CharCodeAt) ∷ (codes "substring", function_object Substring) ∷ (codes "indexOf", function_object IndexOf) ∷ [])
    ∷ holder (Some object_prototype) []
    ∷ holder (Some object_prototype) []
    ∷ []

abbrev pub constructors : List Cell
constructors =
    holder (Some function_prototype) (
    (codes "prototype", Obj object_prototype)
    ∷ (codes "create", function_object Create)
    ∷ (codes "getPrototypeOf", function_object GetPrototypeOf)
    ∷ (codes "setPrototypeOf", function_object SetPrototypeOf)
    ∷ (codes "keys", function_object Keys)
    ∷ [])
    ∷ holder (Some function_prototype) ((codes "prototype", Obj function_prototype) ∷ [])
    ∷ holder (Some function_prototype) ((codes "prototype", Obj array_prototype) ∷ (codes "isArray", function_object IsArray) ∷ [])
    ∷ holder (Some function_prototype) ((codes "prototype", Obj text_prototype) ∷ (codes "fromCharCode", function_object FromCharCode) ∷ [])
    ∷ holder (Some function_prototype) ((codes "prototype", Obj number_prototype) ∷ [])
    ∷ holder (Some function_prototype) ((codes "prototype", Obj truth_prototype) ∷ [])
    ∷ []

abbrev pub host : Cell
host = holder (Some object_prototype) ((codes "write", function_object Write) ∷ (codes "line", function_object Line) ∷ [])

abbrev pub functions : List Cell
functions = map function (Create ∷ GetPrototypeOf ∷ SetPrototypeOf ∷ Keys ∷ HasOwnProperty ∷ Call ∷ Apply ∷ IsArray ∷ Push ∷ Slice ∷ CharCodeAt ∷ Substring ∷ IndexOf ∷ FromCharCode ∷ Write ∷ Line ∷ [])

-- all of them, in the order of their numbers
unfoldable pub cells : List Cell
cells = prototypes ++ (constructors ++ (host ∷ functions))

abbrev pub globals : List (Text × Val)
globals =
    (codes "undefined", Undefined)
    ∷ (codes "Object", Obj 6)
    ∷ (codes "Function", Obj 7)
    ∷ (codes "Array", Obj 8)
    ∷ (codes "String", Obj 9)
    ∷ (codes "Number", Obj 10)
    ∷ (codes "Boolean", Obj 11)
    ∷ (codes "$host", Obj 12)
    ∷ []
