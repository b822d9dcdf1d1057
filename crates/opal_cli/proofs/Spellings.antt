-- A script that writes texts of 16-bit units has a spelling.
use Rattle.std.proofs.Common.{ℕ, ◌<◌, ◌^◌, false, List, [], ◌∷◌, map, codes, refl}
use Rattle.std.specs.List.{AllByRecursion}
use Rattle.es5_tree.specs.Reserved.{is_reserved}
use Rattle.es5_tree.specs.Tree.{start}
use Rattle.es5_laws.specs.Writes.{expr, write, writes}
use Rattle.es5_tree.specs.declared.tree.EsKind.TheVariants as kind
use Rattle.es5_spelling.specs.Spellable as form
use Rattle.es5_spelling.specs.Spellable.{AreStatements, IsIdentifier, IsStatement, IsText, Spellable, is_identifier}

host_is : IsIdentifier (codes "$host")
unfolding is_identifier is_reserved
host_is = refl

write_is : IsIdentifier (codes "write")
unfolding is_identifier is_reserved
write_is = refl

statement_is : (text : List ℕ) → IsText text → IsStatement false false false (write text)
statement_is text h =
    let host = expr (kind.Name (codes "$host")) in
    let callee = expr (kind.Member host (codes "write") start) in
    let literal = expr (kind.Str text) in
    form.expr false false (expr (kind.Call callee (literal ∷ [])))
    (form.call callee (literal ∷ []) (form.member host (codes "write") start (form.name (codes "$host") host_is) write_is)
    (form.more literal [] (form.str text h) form.none))

statements_are : (texts : List (List ℕ)) → AllByRecursion (AllByRecursion (λ unit. unit < 2 ^ 16)) texts → AreStatements false false (map write texts)
statements_are [] h = form.no_statement false false
statements_are (text ∷ texts) h = form.statement false false false (write text) (map write texts) (statement_is text h.0) (statements_are texts h.1)

pub writes_spellable : (texts : List (List ℕ)) → AllByRecursion (AllByRecursion (λ unit. unit < 2 ^ 16)) texts → Spellable (writes texts)
writes_spellable texts h = statements_are texts h
