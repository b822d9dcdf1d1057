-- The texts between the names, numbers and strings of a printed script, each with its tokens.
use Rattle.es5_printer.specs.Forms.{question_sign}
use Rattle.std.proofs.Common.{◌≡◌, ℕ, true, false, List, [], ◌∷◌, ◌++◌, length, drop, Option, Some, None, codes, refl, sym, ap, subst, append-nil}
use Rattle.std.specs.List.{list_all}
use Rattle.std.proofs.lemmas.Grind.{flat_map-append}
use Rattle.es5_tree.specs.declared.lexing.Restriction.{Restriction}
use Rattle.es5_tree.specs.declared.lexing.Restriction.TheVariants.{Free, SameLine, NextLine}
use Rattle.es5_tree.specs.declared.sign.Sign.TheVariants as sign
use Rattle.es5_tree.specs.declared.token.EsMark.{EsMark}
use Rattle.es5_tree.specs.declared.token.EsMark.TheVariants as mark
use Rattle.es5_tree.specs.declared.token.EsToken.{EsToken}
use Rattle.es5_tree.specs.declared.token.EsTokenKind.{EsTokenKind}
use Rattle.es5_tree.specs.declared.token.EsTokenKind.TheVariants as token
use Rattle.es5_tree.specs.Characters.{is_letter, is_name_part, begins}
use Rattle.es5_tree.specs.Signs.{sign_at}
use Rattle.es5_tree.specs.Lexed.{token_at, token_if}
use Rattle.es5_tree.specs.Tokens.{Form, Space, Word, Mark, Stands, kind_of, allows, after}
use Rattle.es5_tree.proofs.Written.{word_stands_is}
use Rattle.es5_printer.specs.Pieces.{bytes_of, marked, piece_bytes, plain, text, Piece as Printed}
use Rattle.es5_spelling.proofs.Cuts.{AreTokens, are_joined, Cut, cut_as, end, free, join, next, Ready, same_line, Then, both}

-- ---- one token

allowed_ready : (start : Restriction) (k : Option EsTokenKind) → Ready start → allows start k ≡ true
allowed_ready Free k free = refl
allowed_ready SameLine k same_line = refl
allowed_ready NextLine k ready = elim ready [ ]

pub one_token : (start : Restriction) (form : Form) (k : EsTokenKind) (slice rest : List ℕ) → Ready start → kind_of form ≡ Some k → Stands form (slice ++ rest) rest → Cut start slice rest (after start (Some k) slice) (AreTokens (k ∷ []))
one_token start form k slice rest ready e stands = record {
  pieces = record { form = form; slice = slice } ∷ [];
  reached = (rest, refl, record { stands = stands; allowed = allowed_ready start (kind_of form) ready }, refl);
  last = ap (λ o. after start o slice) e;
  spelled = λ all from.
      subst (λ o. AreTokens (k ∷ []) (token_if all from (length slice) o ++ [])) (sym e) (next (token_at all from (length slice) k) refl end);
}

pub a_word : (start : Restriction) (first : ℕ) (more rest : List ℕ) → Ready start → is_letter first ≡ true → list_all is_name_part more ≡ true → begins is_name_part rest ≡ false
    → Cut start (first ∷ more) rest (after start (Some (token.Word (first ∷ more))) (first ∷ more)) (AreTokens (token.Word (first ∷ more) ∷ []))
a_word start first more rest ready l a e = one_token start (Word (first ∷ more)) (token.Word (first ∷ more)) (first ∷ more) rest ready refl (word_stands_is first more rest l a e)

pub a_mark : (start : Restriction) (m : EsMark) (n : ℕ) (slice rest : List ℕ) → Ready start → sign_at (slice ++ rest) ≡ Some (sign.Mark m, n) → rest ≡ drop n (slice ++ rest) → Cut start slice rest Free (AreTokens (token.Mark m ∷ []))
a_mark start m n slice rest ready e d = one_token start (Mark m) (token.Mark m) slice rest ready refl (n, e, d)

-- ---- blanks

pub a_space : (start : Restriction) (rest : List ℕ) → Ready start → Cut start (codes " ") rest start (AreTokens [])
a_space Free rest free = record { pieces = record { form = Space; slice = codes " " } ∷ []; reached = (rest, refl, record { stands = (32, refl, refl); allowed = refl }, refl); last = refl; spelled = λ all from. end }
a_space SameLine rest same_line = record { pieces = record { form = Space; slice = codes " " } ∷ []; reached = (rest, refl, record { stands = (32, refl, refl); allowed = refl }, refl); last = refl; spelled = λ all from. end }
a_space NextLine rest ready = elim ready [ ]

pub a_newline : (rest : List ℕ) → Cut Free (codes "\n") rest Free (AreTokens [])
a_newline rest = record { pieces = record { form = Space; slice = codes "\n" } ∷ []; reached = (rest, refl, record { stands = (10, refl, refl); allowed = refl }, refl); last = refl; spelled = λ all from. end }

-- ---- one behind the other

pub nothing : (start : Restriction) (rest : List ℕ) → Cut start [] rest start (AreTokens [])
nothing start rest = record { pieces = []; reached = refl; last = refl; spelled = λ all from. end }

pub behind : {start mid behind : Restriction} (a b rest : List ℕ) (ks ls : List EsTokenKind) → Cut start a (b ++ rest) mid (AreTokens ks) → Cut mid b rest behind (AreTokens ls) → Cut start (a ++ b) rest behind (AreTokens (ks ++ ls))
behind a b rest ks ls c d = cut_as tokens (join a b rest c d)
  where
    tokens : (u : List EsToken) → Then (AreTokens ks) (AreTokens ls) u → AreTokens (ks ++ ls) u
    tokens u (both v w x y) = are_joined x y

-- ---- printed pieces

module _ {P : List EsToken → Type 0} {start behind : Restriction} {rest : List ℕ} where
  pub marked_cut : (o : Option ℕ) (ps : List Printed) → Cut start (bytes_of ps) rest behind P → Cut start (bytes_of (marked o ++ ps)) rest behind P
  marked_cut None ps c = c
  marked_cut (Some o) ps c = c

  pub plain_cut : (t : List ℕ) → Cut start t rest behind P → Cut start (bytes_of (plain t)) rest behind P
  plain_cut t c = subst (λ b. Cut start b rest behind P) (sym (append-nil t)) c

module _ {P Q : List EsToken → Type 0} {start mid behind : Restriction} where
  pub text_cut : (t : List ℕ) (qs : List Printed) (rest : List ℕ) → Cut start t (bytes_of qs ++ rest) mid P → Cut mid (bytes_of qs) rest behind Q → Cut start (bytes_of (text t ∷ qs)) rest behind (Then P Q)
  text_cut t qs rest c d = join t (bytes_of qs) rest c d

  pub join_cut : (ps qs : List Printed) (rest : List ℕ) → Cut start (bytes_of ps) (bytes_of qs ++ rest) mid P → Cut mid (bytes_of qs) rest behind Q → Cut start (bytes_of (ps ++ qs)) rest behind (Then P Q)
  join_cut ps qs rest c d = subst (λ b. Cut start b rest behind (Then P Q)) (sym (flat_map-append piece_bytes ps qs)) (join (bytes_of ps) (bytes_of qs) rest c d)

-- ---- the texts

abbrev pub Signed : List ℕ → EsMark → Type 0
Signed slice m = (start : Restriction) (rest : List ℕ) → Ready start → Cut start slice rest Free (AreTokens (token.Mark m ∷ []))

pub open_paren : Signed (codes "(") mark.OpenParen
unfolding sign_at
open_paren start rest ready = a_mark start mark.OpenParen 1 (codes "(") rest ready refl refl

pub close_paren : Signed (codes ")") mark.CloseParen
unfolding sign_at
close_paren start rest ready = a_mark start mark.CloseParen 1 (codes ")") rest ready refl refl

pub open_bracket : Signed (codes "[") mark.OpenBracket
unfolding sign_at
open_bracket start rest ready = a_mark start mark.OpenBracket 1 (codes "[") rest ready refl refl

pub close_bracket : Signed (codes "]") mark.CloseBracket
unfolding sign_at
close_bracket start rest ready = a_mark start mark.CloseBracket 1 (codes "]") rest ready refl refl

pub open_brace : Signed (codes "{") mark.OpenBrace
unfolding sign_at
open_brace start rest ready = a_mark start mark.OpenBrace 1 (codes "{") rest ready refl refl

pub close_brace : Signed (codes "}") mark.CloseBrace
unfolding sign_at
close_brace start rest ready = a_mark start mark.CloseBrace 1 (codes "}") rest ready refl refl

pub dot : Signed (codes ".") mark.Dot
unfolding sign_at
dot start rest ready = a_mark start mark.Dot 1 (codes ".") rest ready refl refl

pub semicolon : Signed (codes ";") mark.Semicolon
unfolding sign_at
semicolon start rest ready = a_mark start mark.Semicolon 1 (codes ";") rest ready refl refl

pub comma : Signed (codes ", ") mark.Comma
unfolding sign_at
comma start rest ready = behind (codes ",") (codes " ") rest (token.Mark mark.Comma ∷ []) [] (a_mark start mark.Comma 1 (codes ",") (codes " " ++ rest) ready refl refl) (a_space Free rest free)

pub colon : Signed (codes ": ") mark.Colon
unfolding sign_at
colon start rest ready = behind (codes ":") (codes " ") rest (token.Mark mark.Colon ∷ []) [] (a_mark start mark.Colon 1 (codes ":") (codes " " ++ rest) ready refl refl) (a_space Free rest free)

pub minus_space : Signed (codes "- ") mark.Minus
unfolding sign_at
minus_space start rest ready = behind (codes "-") (codes " ") rest (token.Mark mark.Minus ∷ []) [] (a_mark start mark.Minus 1 (codes "-") (codes " " ++ rest) ready refl refl) (a_space Free rest free)

-- a sign between blanks
between_blanks : (m : EsMark) (n : ℕ) (slice rest : List ℕ) → sign_at (slice ++ (codes " " ++ rest)) ≡ Some (sign.Mark m, n) → codes " " ++ rest ≡ drop n (slice ++ (codes " " ++ rest)) → Cut Free (codes " " ++ (slice ++ codes " ")) rest Free (AreTokens (token.Mark m ∷ []))
between_blanks m n slice rest e d =
    behind (codes " ") (slice ++ codes " ") rest [] (token.Mark m ∷ []) (a_space Free _ free)
    (behind slice (codes " ") rest (token.Mark m ∷ []) [] (a_mark Free m n slice (codes " " ++ rest) free e d) (a_space Free rest free))

abbrev pub Spaced : List ℕ → EsMark → Type 0
Spaced slice m = (rest : List ℕ) → Cut Free slice rest Free (AreTokens (token.Mark m ∷ []))

pub same : Spaced (codes " === ") mark.Same
unfolding sign_at
same rest = between_blanks mark.Same 3 (codes "===") rest refl refl

pub different : Spaced (codes " !== ") mark.Different
unfolding sign_at
different rest = between_blanks mark.Different 3 (codes "!==") rest refl refl

pub less : Spaced (codes " < ") mark.Less
unfolding sign_at
less rest = between_blanks mark.Less 1 (codes "<") rest refl refl

pub greater : Spaced (codes " > ") mark.Greater
unfolding sign_at
greater rest = between_blanks mark.Greater 1 (codes ">") rest refl refl

pub less_or_equal : Spaced (codes " <= ") mark.LessOrEqual
unfolding sign_at
less_or_equal rest = between_blanks mark.LessOrEqual 2 (codes "<=") rest refl refl

pub greater_or_equal : Spaced (codes " >= ") mark.GreaterOrEqual
unfolding sign_at
greater_or_equal rest = between_blanks mark.GreaterOrEqual 2 (codes ">=") rest refl refl

pub plus : Spaced (codes " + ") mark.Plus
unfolding sign_at
plus rest = between_blanks mark.Plus 1 (codes "+") rest refl refl

pub minus : Spaced (codes " - ") mark.Minus
unfolding sign_at
minus rest = between_blanks mark.Minus 1 (codes "-") rest refl refl

pub times : Spaced (codes " * ") mark.Times
unfolding sign_at
times rest = between_blanks mark.Times 1 (codes "*") rest refl refl

pub divide : Spaced (codes " / ") mark.Divide
unfolding sign_at
divide rest = between_blanks mark.Divide 1 (codes "/") rest refl refl

pub remainder : Spaced (codes " % ") mark.Remainder
unfolding sign_at
remainder rest = between_blanks mark.Remainder 1 (codes "%") rest refl refl

pub and : Spaced (codes " && ") mark.And
unfolding sign_at
and rest = between_blanks mark.And 2 (codes "&&") rest refl refl

pub or : Spaced (codes " || ") mark.Or
unfolding sign_at
or rest = between_blanks mark.Or 2 (codes "||") rest refl refl

pub question : Spaced question_sign mark.Question
unfolding sign_at
question rest = between_blanks mark.Question 1 (codes "?") rest refl refl

pub spaced_colon : Spaced (codes " : ") mark.Colon
unfolding sign_at
spaced_colon rest = between_blanks mark.Colon 1 (codes ":") rest refl refl

pub assign : Spaced (codes " = ") mark.Assign
unfolding sign_at
assign rest = between_blanks mark.Assign 1 (codes "=") rest refl refl

-- ---- words and what stands beside them

abbrev pub Said : List ℕ → List EsTokenKind → Type 0
Said slice kinds = (rest : List ℕ) → Cut Free slice rest Free (AreTokens kinds)

-- a word with a blank behind it
word_space : (start : Restriction) (first : ℕ) (more rest : List ℕ) → Ready start → is_letter first ≡ true → list_all is_name_part more ≡ true → after start (Some (token.Word (first ∷ more))) (first ∷ more) ≡ Free
    → Cut start ((first ∷ more) ++ codes " ") rest Free (AreTokens (token.Word (first ∷ more) ∷ []))
word_space start first more rest ready l a e =
    behind (first ∷ more) (codes " ") rest (token.Word (first ∷ more) ∷ []) []
    (subst (λ r. Cut start (first ∷ more) (codes " " ++ rest) r (AreTokens (token.Word (first ∷ more) ∷ []))) e (a_word start first more (codes " " ++ rest) ready l a refl))
    (a_space Free rest free)

pub typeof : (start : Restriction) (rest : List ℕ) → Ready start → Cut start (codes "typeof ") rest Free (AreTokens (token.Word (codes "typeof") ∷ []))
typeof start rest ready = word_space start 116 (codes "ypeof") rest ready refl refl refl

pub delete : (start : Restriction) (rest : List ℕ) → Ready start → Cut start (codes "delete ") rest Free (AreTokens (token.Word (codes "delete") ∷ []))
delete start rest ready = word_space start 100 (codes "elete") rest ready refl refl refl

pub var : Said (codes "var ") (token.Word (codes "var") ∷ [])
var rest = word_space Free 118 (codes "ar") rest free refl refl refl

pub else : Said (codes " else ") (token.Word (codes "else") ∷ [])
else rest = behind (codes " ") (codes "else ") rest [] (token.Word (codes "else") ∷ []) (a_space Free _ free) (word_space Free 101 (codes "lse") rest free refl refl refl)

pub finally : Said (codes " finally ") (token.Word (codes "finally") ∷ [])
finally rest = behind (codes " ") (codes "finally ") rest [] (token.Word (codes "finally") ∷ []) (a_space Free _ free) (word_space Free 102 (codes "inally") rest free refl refl refl)

pub try : Said (codes "try ") (token.Word (codes "try") ∷ [])
try rest = word_space Free 116 (codes "ry") rest free refl refl refl

pub catch : Said (codes " catch (") (token.Word (codes "catch") ∷ token.Mark mark.OpenParen ∷ [])
catch rest =
    behind (codes " catch ") (codes "(") rest (token.Word (codes "catch") ∷ []) (token.Mark mark.OpenParen ∷ [])
    (behind (codes " ") (codes "catch ") (codes "(" ++ rest) [] (token.Word (codes "catch") ∷ []) (a_space Free _ free) (word_space Free 99 (codes "atch") (codes "(" ++ rest) free refl refl refl))
    (open_paren Free rest free)

pub if_ : Said (codes "if (") (token.Word (codes "if") ∷ token.Mark mark.OpenParen ∷ [])
if_ rest =
    behind (codes "if ") (codes "(") rest (token.Word (codes "if") ∷ []) (token.Mark mark.OpenParen ∷ [])
    (word_space Free 105 (codes "f") (codes "(" ++ rest) free refl refl refl) (open_paren Free rest free)

pub while : Said (codes "while (") (token.Word (codes "while") ∷ token.Mark mark.OpenParen ∷ [])
while rest =
    behind (codes "while ") (codes "(") rest (token.Word (codes "while") ∷ []) (token.Mark mark.OpenParen ∷ [])
    (word_space Free 119 (codes "hile") (codes "(" ++ rest) free refl refl refl) (open_paren Free rest free)

pub break : Said (codes "break;") (token.Word (codes "break") ∷ token.Mark mark.Semicolon ∷ [])
break rest =
    behind (codes "break") (codes ";") rest (token.Word (codes "break") ∷ []) (token.Mark mark.Semicolon ∷ [])
    (a_word Free 98 (codes "reak") (codes ";" ++ rest) free refl refl refl) (semicolon Free rest free)

pub continue : Said (codes "continue;") (token.Word (codes "continue") ∷ token.Mark mark.Semicolon ∷ [])
continue rest =
    behind (codes "continue") (codes ";") rest (token.Word (codes "continue") ∷ []) (token.Mark mark.Semicolon ∷ [])
    (a_word Free 99 (codes "ontinue") (codes ";" ++ rest) free refl refl refl) (semicolon Free rest free)

-- a line terminator behind the word would end the statement
pub return : (rest : List ℕ) → begins is_name_part rest ≡ false → Cut Free (codes "return") rest SameLine (AreTokens (token.Word (codes "return") ∷ []))
return rest e = a_word Free 114 (codes "eturn") rest free refl refl e

pub throw : (rest : List ℕ) → Cut Free (codes "throw ") rest SameLine (AreTokens (token.Word (codes "throw") ∷ []))
throw rest =
    behind (codes "throw") (codes " ") rest (token.Word (codes "throw") ∷ []) []
    (a_word Free 116 (codes "hrow") (codes " " ++ rest) free refl refl refl) (a_space SameLine rest same_line)

pub close_paren_space : Said (codes ") ") (token.Mark mark.CloseParen ∷ [])
close_paren_space rest = behind (codes ")") (codes " ") rest (token.Mark mark.CloseParen ∷ []) [] (close_paren Free _ free) (a_space Free rest free)

pub open_brace_line : Said (codes "{\n") (token.Mark mark.OpenBrace ∷ [])
open_brace_line rest = behind (codes "{") (codes "\n") rest (token.Mark mark.OpenBrace ∷ []) [] (open_brace Free _ free) (a_newline rest)

pub semicolon_line : Said (codes ";\n") (token.Mark mark.Semicolon ∷ [])
semicolon_line rest = behind (codes ";") (codes "\n") rest (token.Mark mark.Semicolon ∷ []) [] (semicolon Free _ free) (a_newline rest)
