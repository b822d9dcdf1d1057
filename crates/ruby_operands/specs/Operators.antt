-- Operators behind a value, and the nodes that they make.
use Rattle.std.specs.Prelude.{ℕ, Bool, if◌then◌else◌, List, [], ◌∷◌, Some, None, Result, nat_le}
use Rattle.grammar.specs.FormReaders.{read_more_suffixes, read_sequence, read_token}
use Rattle.grammar.specs.Spelling.{token_in}
use Rattle.ruby_meaning.specs.declared.tree.Kind.{Kind}
use Rattle.ruby_meaning.specs.declared.tree.Kind.TheVariants as kind
use Rattle.ruby_meaning.specs.declared.tree.Node.{Node}
use Rattle.ruby_meaning.specs.Depth.{depth_of}
use Rattle.ruby_meaning.specs.Grammar.Actions.{make, start, nodes, other, method_name, is_word_or, without_end}
use Rattle.ruby_meaning.specs.Grammar.Seen.{Seen}
use Rattle.ruby_reading.specs.declared.names.Tree.{Tree}
use Rattle.ruby_operands.specs.declared.levels.Joint.{Joint}
use Rattle.ruby_operands.specs.declared.levels.Joint.TheVariants as joint
use Rattle.ruby_reading.specs.Ahead.{class_code}
use Rattle.ruby_reading.specs.Named.{read_tree}

abbrev pub call_kind : Node → Seen → Node → Kind
call_kind left sign right = kind.Call (Some left) (method_name sign) (right ∷ []) None None

abbrev pub and_kind : Node → Node → Kind
and_kind left right = kind.And left right

abbrev pub or_kind : Node → Node → Kind
or_kind left right = kind.Or left right

abbrev pub is_or : Seen → Bool
is_or sign = is_word_or sign.token.kind

abbrev pub joint_kind : Joint → Node → Seen → Node → Kind
joint_kind joint.Call left sign right = call_kind left sign right
joint_kind joint.And left sign right = kind.And left right
joint_kind joint.Or left sign right = kind.Or left right
joint_kind joint.Word left sign right = if is_or sign then kind.Or left right else kind.And left right

abbrev pub joint_value : Joint → Node × ℕ → Seen × Node → Node × ℕ
joint_value j l x = (make (joint_kind j l.0 x.0 x.1) (nodes l.0 x.1) (start x.0), other)

-- an operator and the operand behind it
abbrev pub operator_part : (ℕ → Bool) → Tree → Bool → Bool → ℕ → List Seen → Result ((Seen × Node) × List Seen) (List Seen)
operator_part signs operand d r levels ts = read_sequence (read_token (token_in class_code signs)) (read_tree operand d r levels) ts

-- such parts behind a value
abbrev pub operators_from : (ℕ → Bool) → Tree → Joint → Bool → Bool → ℕ → ℕ → Node × ℕ → List Seen → Result ((Node × ℕ) × List Seen) (List Seen)
operators_from signs operand j d r levels n l ts =
    read_more_suffixes (λ t. signs (class_code t)) (λ l. nat_le (depth_of l.0) levels) (joint_value j) (operator_part signs operand d r levels) n l ts

abbrev pub range_value : Node → Seen → Node → Node × ℕ
range_value low sign high = (make (kind.RangeLit low high (without_end sign)) (nodes low high) (start sign), other)

abbrev pub conditional_value : Node → Seen → Node → Node → Node × ℕ
conditional_value cond sign first second = (make (kind.If cond first second) (nodes cond second) (start sign), other)
