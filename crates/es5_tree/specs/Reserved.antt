-- Reserved words (ECMA-262 5.1, 7.6.1).
use Rattle.std.specs.Prelude.{ℕ, Bool, List, [], ◌∷◌, ◌++◌, codes, bytes_eq}
use Rattle.std.specs.List.{list_any}

-- keywords (7.6.1.1)
abbrev pub keywords : List (List ℕ)
keywords =
    codes "break" ∷ codes "do" ∷ codes "instanceof" ∷ codes "typeof" ∷ codes "case" ∷ codes "else" ∷ codes "new" ∷ codes "var" ∷ codes "catch" ∷
    codes "finally" ∷ codes "return" ∷ codes "void" ∷ codes "continue" ∷ codes "for" ∷ codes "switch" ∷ codes "while" ∷ codes "debugger" ∷
    codes "function" ∷ codes "this" ∷ codes "with" ∷ codes "default" ∷ codes "if" ∷ codes "throw" ∷ codes "delete" ∷ codes "in" ∷ codes "try" ∷ []

-- words for later editions (7.6.1.2)
abbrev pub future_words : List (List ℕ)
future_words = codes "class" ∷ codes "enum" ∷ codes "extends" ∷ codes "super" ∷ codes "const" ∷ codes "export" ∷ codes "import" ∷ []

-- the same in strict code alone (7.6.1.2)
abbrev pub strict_words : List (List ℕ)
strict_words =
    codes "implements" ∷ codes "let" ∷ codes "private" ∷ codes "public" ∷ codes "yield" ∷ codes "interface" ∷ codes "package" ∷ codes "protected" ∷
    codes "static" ∷ []

-- literals (7.8.1, 7.8.2)
abbrev pub literal_words : List (List ℕ)
literal_words = codes "null" ∷ codes "true" ∷ codes "false" ∷ []

abbrev pub reserved_words : List (List ℕ)
reserved_words = keywords ++ future_words ++ strict_words ++ literal_words

unfoldable pub is_reserved : List ℕ → Bool
is_reserved name = list_any (λ word. bytes_eq word name) reserved_words
