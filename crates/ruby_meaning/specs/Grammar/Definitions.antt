-- Forms that begin with a keyword and end with "end".
use Rattle.std.specs.Prelude.{ℕ, Bool, true, false, [], ◌∷◌, Some, None}
use Rattle.grammar.specs.Rules.{Sort, leaf, tree, marked, pair, list, optional, token, absent, sequence, choice, view, node, many, suffix, needs, named, token_where}
use Rattle.grammar.specs.CommonRules.{◌or◌, behind, maybe, separated}
use Rattle.ruby_meaning.specs.declared.production.Production.TheVariants as p
use Rattle.ruby_meaning.specs.declared.production.Sign.TheVariants as sign
use Rattle.ruby_meaning.specs.declared.token.Mark.TheVariants as mark
use Rattle.ruby_meaning.specs.declared.token.Word.TheVariants as word
use Rattle.ruby_meaning.specs.declared.tree.Kind.TheVariants as kind
use Rattle.ruby_meaning.specs.declared.tree.ModuleForm.TheVariants as form
use Rattle.ruby_meaning.specs.Grammar.Classes.{a, op, key}
use Rattle.ruby_meaning.specs.Grammar.Names.{params_sort, R, part}
use Rattle.ruby_meaning.specs.Grammar.Actions.{make, start, span_of, tokens, to_end, other, filled, nothing, last_of, last_then, elsif_span, replaced, spread, form_of, form_name, form_place, units, name_if, rescue_place, is_variable_name, is_attached, with_handlers, begun, is_receiver, on_receiver, def_node}
use Rattle.ruby_meaning.specs.Grammar.Parameters.{behind_newlines, some_parameters}

abbrev pub separators : ℕ → Bool
separators = a sign.Newline or op mark.Semicolon

-- the operators that name methods
abbrev pub operator_names : ℕ → Bool
operator_names = op mark.Plus or op mark.Minus or op mark.Star or op mark.Slash or op mark.Percent or op mark.Power
    or op mark.Negate or op mark.Equal or op mark.Less or op mark.LessEqual or op mark.Greater or op mark.GreaterEqual
    or op mark.Compare or op mark.TripleEqual or op mark.ShiftLeft or op mark.Index or op mark.IndexSet

-- mname : a name, which a `=` may follow directly, or an operator
unfoldable pub method_name : R (pair leaf (optional leaf))
method_name = choice (sequence (token (a sign.Name or a sign.Const)) (maybe (token_where (op mark.Assign) is_attached))) (sequence (token operator_names) (absent None))

-- then : sep, "then" or both; its last token
unfoldable pub then_sign : R leaf
then_sign = choice (view {s = pair leaf (optional leaf)} last_then (sequence (token separators) (maybe (token (key word.Then))))) (token (key word.Then))

module _ (in_rescue : Bool) where
  abbrev pub statements_here : R (marked tree)
  statements_here = named (part p.Statements true in_rescue)

  -- ["else" stmts]
  unfoldable pub else_part : R (marked tree)
  else_part = choice (behind (key word.Else) statements_here) (absent (nothing, 1))

  -- expr then stmts
  abbrev pub branch_sort : Sort
  branch_sort = pair tree (pair leaf (marked tree))

  unfoldable pub branch : R branch_sort
  branch = sequence (named (part p.Expression true in_rescue)) (sequence then_sign statements_here)

  -- ("elsif" expr then stmts)* ["else" stmts]; each "elsif" is an If in the last part of the one before
  unfoldable pub otherwise : R (marked tree)
  otherwise = choice
      (node {s = pair leaf (pair branch_sort (marked tree))} (λ x. (make (kind.If (x.1.0.0) (filled (elsif_span x.0 (x.1.0) x.1.1) (x.1.0.1.1)) (filled (elsif_span x.0 (x.1.0) x.1.1) x.1.1)) (elsif_span x.0 (x.1.0) x.1.1) (start x.0), 0))
      (sequence (token (key word.Elsif)) (sequence branch (named (part p.Otherwise true in_rescue)))))
      else_part

  -- "if" expr then stmts ("elsif" expr then stmts)* ["else" stmts] "end"
  unfoldable pub if_value : R (marked tree)
  if_value = node {s = pair leaf (pair branch_sort (pair (marked tree) leaf))}
      (λ x. (make (kind.If (x.1.0.0) (filled (tokens x.0 (x.1.1.1)) (x.1.0.1.1)) (filled (tokens x.0 (x.1.1.1)) (x.1.1.0))) (tokens x.0 (x.1.1.1)) (start x.0), other))
      (sequence (token (key word.If)) (sequence branch (sequence (named (part p.Otherwise true in_rescue)) (token (key word.End)))))

  -- "unless" expr then stmts ["else" stmts] "end": an If with its two parts exchanged
  unfoldable pub unless_value : R (marked tree)
  unless_value = node {s = pair leaf (pair branch_sort (pair (marked tree) leaf))}
      (λ x. (make (kind.If (x.1.0.0) (filled (tokens x.0 (x.1.1.1)) (x.1.1.0)) (filled (tokens x.0 (x.1.1.1)) (x.1.0.1.1))) (tokens x.0 (x.1.1.1)) (start x.0), other))
      (sequence (token (key word.Unless)) (sequence branch (sequence else_part (token (key word.End)))))

  -- (sep|"do") stmts "end"
  unfoldable pub loop_body : R (pair (marked tree) leaf)
  loop_body = behind (separators or key word.Do) (sequence statements_here (token (key word.End)))

  -- "while" expr (sep|"do") stmts "end"
  unfoldable pub while_value : R (marked tree)
  while_value = node {s = pair leaf (pair tree (pair (marked tree) leaf))} (λ x. (make (kind.While (x.1.0) (filled (tokens x.0 (x.1.1.1)) (x.1.1.0)) false) (tokens x.0 (x.1.1.1)) (start x.0), other))
      (sequence (token (key word.While)) (sequence (named (part p.Expression false in_rescue)) loop_body))

  -- "until" expr (sep|"do") stmts "end": a While of Not, two nodes
  unfoldable pub until_value : R (marked tree)
  until_value = needs 2 (node {s = pair leaf (pair tree (pair (marked tree) leaf))}
      (λ x. (make (kind.While (replaced (tokens x.0 (x.1.1.1)) (start x.0) (x.1.0)) (filled (tokens x.0 (x.1.1.1)) (x.1.1.0)) false) (tokens x.0 (x.1.1.1)) (start x.0), other))
      (sequence (token (key word.Until)) (sequence (node {s = tree} (λ n. make (kind.Not n) n.span n.mark) (named (part p.Expression false in_rescue))) loop_body)))

  -- "when" arg ("," arg)* then stmts
  unfoldable pub when_clause : R tree
  when_clause = node {s = pair leaf (pair (list tree) (pair leaf (marked tree)))}
      (λ x. make (kind.When (x.1.0) (filled (to_end (span_of x.0) (last_of (x.1.1.0) (x.1.1.1))) (x.1.1.1))) (to_end (span_of x.0) (last_of (x.1.1.0) (x.1.1.1))) (start x.0))
      (sequence (token (key word.When)) (sequence (separated (named (part p.Argument true in_rescue)) (op mark.Comma)) (sequence then_sign statements_here)))

  -- "case" [expr] sep* ("when" arg ("," arg)* then stmts)+ ["else" stmts] "end"
  unfoldable pub case_value : R (marked tree)
  case_value = node {s = pair leaf (pair (optional tree) (pair (list leaf) (pair (pair tree (list tree)) (pair (marked tree) leaf))))}
      (λ x. (make (kind.Case (x.1.0) (x.1.1.1.0.0 ∷ x.1.1.1.0.1) (filled (tokens x.0 (x.1.1.1.1.1)) (x.1.1.1.1.0))) (tokens x.0 (x.1.1.1.1.1)) (start x.0), other))
      (sequence (token (key word.Case)) (sequence (maybe (named (part p.Expression true in_rescue))) (sequence (many (token separators))
      (sequence (sequence when_clause (many when_clause)) (sequence else_part (token (key word.End)))))))

  -- CONST ["<" expr] | "<<" expr
  abbrev pub class_head : Sort
  class_head = pair (optional leaf) (optional tree)

  unfoldable pub class_header : R class_head
  class_header = choice (sequence (view {s = leaf} (λ t. Some t) (token (a sign.Const))) (maybe (behind (op mark.Less) (named (part p.Expression true in_rescue)))))
      (view {s = tree} (λ n. (None, Some n)) (behind (op mark.ShiftLeft) (named (part p.Expression true in_rescue))))

  -- "rescue" [arg ("," arg)*] ["=>" name] then stmts
  unfoldable pub rescue_clause : R tree
  rescue_clause = node {s = pair leaf (pair (list tree) (pair (optional leaf) (pair leaf (marked tree))))}
      (λ x. make (kind.Rescue (x.1.0) (name_if (x.1.1.0)) (filled (to_end (span_of x.0) (last_of (x.1.1.1.0) (x.1.1.1.1))) (x.1.1.1.1))) (to_end (span_of x.0) (last_of (x.1.1.1.0) (x.1.1.1.1))) (rescue_place x.0 (x.1.1.0)))
      (sequence (token (key word.Rescue)) (sequence (choice (separated (named (part p.Argument true in_rescue)) (op mark.Comma)) (absent []))
      (sequence (maybe (behind (op mark.FatArrow) (token_where (a sign.Name) is_variable_name)))
      (sequence then_sign (named (part p.Statements true true))))))

  -- a keyword and the statements behind it
  abbrev pub keyword_part : Sort
  keyword_part = pair leaf (marked tree)

  unfoldable pub body_else : R keyword_part
  body_else = sequence (token (key word.Else)) statements_here

  unfoldable pub body_ensure : R keyword_part
  body_ensure = sequence (token (key word.Ensure)) statements_here

  abbrev pub handlers_sort : Sort
  handlers_sort = pair (list tree) (pair (optional keyword_part) (optional keyword_part))

  -- what stands behind the first statements of a body: one part at least
  unfoldable pub handlers : R handlers_sort
  handlers = choice (view {s = pair (pair tree (list tree)) (pair (optional keyword_part) (optional keyword_part))} (λ x. (x.0.0 ∷ x.0.1, x.1)) (sequence (sequence rescue_clause (many rescue_clause)) (sequence (maybe body_else) (maybe body_ensure))))
      (choice (view {s = pair keyword_part (optional keyword_part)} (λ x. ([], (Some x.0, x.1))) (sequence body_else (maybe body_ensure)))
      (view {s = keyword_part} (λ x. ([], (None, Some x))) body_ensure))

  -- body : stmts ("rescue" .. then stmts)* ["else" stmts] ["ensure" stmts], behind a token
  unfoldable pub body_behind : R leaf → R (pair leaf (marked tree))
  body_behind opening = suffix {s = pair leaf (marked tree)} {r = handlers_sort} 1 (sequence opening statements_here) (λ l. true) handlers with_handlers

  -- "begin" body "end"
  unfoldable pub begin_value : R (marked tree)
  begin_value = view {s = pair (pair leaf (marked tree)) leaf} (λ x. (spread (tokens (x.0.0) x.1) (x.0.1.0), begun))
      (sequence (body_behind (token (key word.Begin))) (token (key word.End)))

-- sep stmts "end"
unfoldable pub module_body : R (pair (marked tree) leaf)
module_body = behind separators (sequence (named (part p.Statements true false)) (token (key word.End)))

-- "class" CONST ["<" expr] sep stmts "end" | "class" "<<" expr sep stmts "end"
unfoldable pub class_value : Bool → R (marked tree)
class_value in_rescue = node {s = pair leaf (pair (class_head in_rescue) (pair (marked tree) leaf))}
    (λ x. (make (kind.ModuleDef (form_of (x.1.0)) (form_name (x.1.0)) (filled (tokens x.0 (x.1.1.1)) (x.1.1.0))) (tokens x.0 (x.1.1.1)) (form_place x.0 (x.1.0)), other))
    (sequence (token (key word.Class)) (sequence (class_header in_rescue) module_body))

-- "module" CONST sep stmts "end"
unfoldable pub module_value : R (marked tree)
module_value = node {s = pair leaf (pair leaf (pair (marked tree) leaf))}
    (λ x. (make (kind.ModuleDef form.Module (units (x.1.0)) (filled (tokens x.0 (x.1.1.1)) (x.1.1.0))) (tokens x.0 (x.1.1.1)) (start (x.1.0)), other))
    (sequence (token (key word.Module)) (sequence (token (a sign.Const)) module_body))

-- [("self"|CONST) "."] mname
abbrev pub def_name_sort : Sort
def_name_sort = pair (optional tree) (pair leaf (optional leaf))

unfoldable pub def_name : R def_name_sort
def_name = suffix {s = def_name_sort} {r = pair leaf (optional leaf)} 1 (view {s = pair leaf (optional leaf)} (λ x. (None, x)) method_name) is_receiver (behind (op mark.Dot) method_name) on_receiver

-- parameters, the body behind a token, and "end"
abbrev pub def_rest : Sort
def_rest = pair params_sort (pair (pair leaf (marked tree)) leaf)

-- "(" [params] ")" body "end"
unfoldable pub def_in_brackets : R def_rest
def_in_brackets = behind (a sign.CallOpen or op mark.ParenOpen) (sequence (some_parameters false false) (sequence (body_behind false (behind_newlines (token (op mark.ParenClose)))) (token (key word.End))))

-- [params] sep body "end"
unfoldable pub def_plain : R def_rest
def_plain = sequence (some_parameters false false) (sequence (body_behind false (token separators)) (token (key word.End)))

-- "def" [("self"|CONST) "."] mname "(" [params] ")" body "end" | "def" [("self"|CONST) "."] mname [params] sep body "end"
unfoldable pub def_value : R (marked tree)
def_value = node {s = pair leaf (pair def_name_sort def_rest)} (λ x. (def_node (x.1.0) (x.1.1.0) (x.1.1.1.0.1) (tokens x.0 (x.1.1.1.1)), other))
    (sequence (token (key word.Def)) (sequence def_name (choice def_in_brackets def_plain)))

-- a form from a keyword to its "end"
unfoldable pub keyword_form : Bool → R (marked tree)
keyword_form in_rescue = choice (if_value in_rescue) (choice (unless_value in_rescue) (choice (while_value in_rescue) (choice (until_value in_rescue) (choice (case_value in_rescue) (choice (class_value in_rescue) (choice module_value (choice def_value (begin_value in_rescue))))))))
