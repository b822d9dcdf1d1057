-- Expressions at a level: what their pieces are cut into, and what the tokens spell.
use Rattle.std.proofs.Common.{◌≡◌, ℕ, ◌+◌, ◌≤◌, Bool, true, false, ◌&&◌, List, [], ◌∷◌, ◌++◌, Option, codes, refl, sym, ap, ◌∙◌, subst, arith, true≢false, inl, inr}
use Rattle.std.specs.Prelude.{if◌then◌else◌, nat_le}
use Rattle.std.proofs.lemmas.Bool.{leb-true, le-leb}
use Rattle.grammar.specs.Forms.{StartsIn}
use Rattle.es5_tree.specs.declared.lexing.Restriction.{Restriction}
use Rattle.es5_tree.specs.declared.lexing.Restriction.TheVariants.{Free}
use Rattle.es5_tree.specs.declared.terminal.Level.TheVariants as wanted
use Rattle.es5_tree.specs.declared.token.EsMark.TheVariants as mark
use Rattle.es5_tree.specs.declared.token.EsToken.{EsToken}
use Rattle.es5_tree.specs.declared.token.EsTokenKind.{EsTokenKind}
use Rattle.es5_tree.specs.declared.token.EsTokenKind.TheVariants as token
use Rattle.es5_tree.specs.declared.tree.EsExpr.{EsExpr}
use Rattle.es5_tree.specs.declared.tree.EsKind.{EsKind}
use Rattle.es5_tree.specs.Characters.{is_digit, is_name_part, begins}
use Rattle.es5_tree.specs.Grammar.Expressions.{parenthesized, primary}
use Rattle.es5_tree.specs.Grammar.Nodes.{Node, expr_of}
use Rattle.es5_tree.specs.Grammar.Statements.{begins_no_other}
use Rattle.es5_tree.specs.Grammar.Table.{table}
use Rattle.es5_tree.specs.Grammar.Terminals.{code_of, op, terminal_of, token_code}
use Rattle.es5_tree.specs.Numerals.{goes_on}
use Rattle.es5_printer.specs.declared.level.Level.{Level}
use Rattle.es5_printer.specs.declared.level.Level.TheVariants as level
use Rattle.es5_printer.specs.Forms.{Form, Part, at_level, bracketed, opens_at, pieces}
use Rattle.es5_printer.specs.Levels.{tightness}
use Rattle.es5_printer.specs.Pieces.{bytes_of, plain, Piece}
use Rattle.es5_printer.specs.Text.{expr_part, kind_form}
use Rattle.es5_printer.proofs.Equations.{expr_layer}
use Rattle.es5_spelling.proofs.Bare.{Same}
use Rattle.es5_spelling.proofs.Cuts.{AreTokens, Cut, cut_as, end, free, next, Ready, Then, both}
use Rattle.es5_spelling.proofs.Rules.{as_expr, climbs, rule_at, Rules, token_is}
use Rattle.es5_spelling.proofs.Texts.{join_cut, plain_cut, text_cut}
use Rattle.es5_spelling.proofs.Texts as piece

-- ---- what stands behind an expression; a point only where it isn't a numeral

pub data Follows : Bool → List ℕ → Type 0 where
  space : (dotted : Bool) (rest : List ℕ) → Follows dotted (32 ∷ rest)
  open_paren : (dotted : Bool) (rest : List ℕ) → Follows dotted (40 ∷ rest)
  close_paren : (dotted : Bool) (rest : List ℕ) → Follows dotted (41 ∷ rest)
  open_bracket : (dotted : Bool) (rest : List ℕ) → Follows dotted (91 ∷ rest)
  close_bracket : (dotted : Bool) (rest : List ℕ) → Follows dotted (93 ∷ rest)
  close_brace : (dotted : Bool) (rest : List ℕ) → Follows dotted (125 ∷ rest)
  comma : (dotted : Bool) (rest : List ℕ) → Follows dotted (44 ∷ rest)
  colon : (dotted : Bool) (rest : List ℕ) → Follows dotted (58 ∷ rest)
  semicolon : (dotted : Bool) (rest : List ℕ) → Follows dotted (59 ∷ rest)
  dot : (rest : List ℕ) → Follows true (46 ∷ rest)

pub no_name_part : (d : Bool) (rest : List ℕ) → Follows d rest → begins is_name_part rest ≡ false
no_name_part _ _ (space d r) = refl
no_name_part _ _ (open_paren d r) = refl
no_name_part _ _ (close_paren d r) = refl
no_name_part _ _ (open_bracket d r) = refl
no_name_part _ _ (close_bracket d r) = refl
no_name_part _ _ (close_brace d r) = refl
no_name_part _ _ (comma d r) = refl
no_name_part _ _ (colon d r) = refl
no_name_part _ _ (semicolon d r) = refl
no_name_part _ _ (dot r) = refl

pub no_digit : (d : Bool) (rest : List ℕ) → Follows d rest → begins is_digit rest ≡ false
no_digit _ _ (space d r) = refl
no_digit _ _ (open_paren d r) = refl
no_digit _ _ (close_paren d r) = refl
no_digit _ _ (open_bracket d r) = refl
no_digit _ _ (close_bracket d r) = refl
no_digit _ _ (close_brace d r) = refl
no_digit _ _ (comma d r) = refl
no_digit _ _ (colon d r) = refl
no_digit _ _ (semicolon d r) = refl
no_digit _ _ (dot r) = refl

pub no_point : (rest : List ℕ) → Follows false rest → goes_on rest ≡ false
no_point _ (space d r) = refl
no_point _ (open_paren d r) = refl
no_point _ (close_paren d r) = refl
no_point _ (open_bracket d r) = refl
no_point _ (close_bracket d r) = refl
no_point _ (close_brace d r) = refl
no_point _ (comma d r) = refl
no_point _ (colon d r) = refl
no_point _ (semicolon d r) = refl

follows_more : (d e : Bool) (rest : List ℕ) → (d ≡ true → e ≡ true) → Follows d rest → Follows e rest
follows_more _ e _ h (space d r) = space e r
follows_more _ e _ h (open_paren d r) = open_paren e r
follows_more _ e _ h (close_paren d r) = close_paren e r
follows_more _ e _ h (open_bracket d r) = open_bracket e r
follows_more _ e _ h (close_bracket d r) = close_bracket e r
follows_more _ e _ h (close_brace d r) = close_brace e r
follows_more _ e _ h (comma d r) = comma e r
follows_more _ e _ h (colon d r) = colon e r
follows_more _ e _ h (semicolon d r) = semicolon e r
follows_more _ e _ h (dot r) = subst (λ b. Follows b (46 ∷ r)) (sym (h refl)) (dot r)

pub follows_dotted : (rest : List ℕ) → Follows false rest → Follows true rest
follows_dotted rest f = follows_more false true rest (λ e. refl) f

abbrev pub dotted : Level → Bool
dotted l = nat_le 11 (tightness l)

-- ---- levels

abbrev pub looseness : Level → ℕ
looseness level.Primary = 0
looseness level.Call = 1
looseness level.Numeral = 2
looseness level.Negation = 3
looseness level.Unary = 4
looseness level.Multiplicative = 5
looseness level.Additive = 6
looseness level.Relational = 7
looseness level.Equality = 8
looseness level.And = 9
looseness level.Or = 10
looseness level.Conditional = 11
looseness level.Assignment = 12

loose_tight : (l : Level) → looseness l + tightness l ≡ 12
loose_tight level.Primary = refl
loose_tight level.Call = refl
loose_tight level.Numeral = refl
loose_tight level.Negation = refl
loose_tight level.Unary = refl
loose_tight level.Multiplicative = refl
loose_tight level.Additive = refl
loose_tight level.Relational = refl
loose_tight level.Equality = refl
loose_tight level.And = refl
loose_tight level.Or = refl
loose_tight level.Conditional = refl
loose_tight level.Assignment = refl

looser : (w l : Level) → nat_le (tightness w) (tightness l) ≡ true → looseness l ≤ looseness w
looser w l e = let le : tightness w ≤ tightness l = leb-true (tightness w) (tightness l) e in omega (arith, le, loose_tight w, loose_tight l)

dotted_too : (w l : Level) → nat_le (tightness w) (tightness l) ≡ true → dotted w ≡ true → dotted l ≡ true
dotted_too w l e d =
    let le : tightness w ≤ tightness l = leb-true (tightness w) (tightness l) e in
    let high : 11 ≤ tightness w = leb-true 11 (tightness w) d in
    le-leb 11 (tightness l) (omega (arith, le, high))

-- ---- what the tokens of an expression spell

abbrev pub Begins : List EsToken → Type 0
Begins u = StartsIn (λ t. begins_no_other (token_code t)) u

pub record Spelled (n : ℕ) (opens : Bool) (k : EsKind) (u : List EsToken) : Type 0 where
  pub x : EsToken × Node
  pub spells : Rules (rule_at n) x u
  pub same : Same (expr_of x.1).kind k
  pub starts : opens ≡ false → Begins u

pub starts_more : (u v : List EsToken) → Begins u → Begins (u ++ v)
starts_more [] v h = absurd h
starts_more (t ∷ u) v h = h

pub starts_token : (t : EsToken) (k : EsTokenKind) (u : List EsToken) → t.kind ≡ k → begins_no_other (code_of (terminal_of k)) ≡ true → Begins (t ∷ u)
starts_token t k u e h = ap (λ k. begins_no_other (code_of (terminal_of k))) e ∙ h

-- the pieces of a form
abbrev pub Own : Form → EsKind → Type 0
Own f k = (o : Option ℕ) (start : Restriction) (rest : List ℕ) → Ready start → Follows (dotted f.0) rest → Cut start (bytes_of (f.1.1 o)) rest Free (Spelled (looseness f.0) f.1.0 k)

abbrev At : Level → Part → EsKind → Type 0
At w part k = (start : Restriction) (rest : List ℕ) → Ready start → Follows (dotted w) rest → Cut start (bytes_of (at_level w part)) rest Free (Spelled (looseness w) (opens_at w part) k)

-- the pieces of an expression where one of a level is wanted
abbrev pub AtLevel : Level → EsExpr → Type 0
AtLevel w e = At w (expr_part e) e.kind

-- the same where any expression may stand
abbrev pub Whole : EsExpr → Type 0
Whole e = (start : Restriction) (rest : List ℕ) → Ready start → Follows false rest → Cut start (bytes_of (pieces (expr_part e))) rest Free (Spelled 12 (expr_part e).1.0 e.kind)

-- ---- brackets

in_brackets : (n : ℕ) (opens : Bool) (k : EsKind) (u : List EsToken) → n ≤ 12 → Then (AreTokens (token.Mark mark.OpenParen ∷ [])) (Then (Spelled n opens k) (AreTokens (token.Mark mark.CloseParen ∷ []))) u → Spelled 0 false k u
unfolding primary parenthesized table
in_brackets n opens k u le (both v w (next t e end) (both inner z s (next c f end))) = record {
  x = (t, s.x.1);
  spells = inr (inl (
    (t, (s.x.1, c)),
    refl,
    (
      t ∷ [],
      inner ++ c ∷ [],
      refl,
      (t, refl, token_is (op mark.OpenParen) (token.Mark mark.OpenParen) t e refl),
      (inner, c ∷ [], refl, as_expr wanted.Assignment s.x inner (climbs n 12 s.x inner le s.spells), (c, refl, token_is (op mark.CloseParen) (token.Mark mark.CloseParen) c f refl)),
    ),
  ));
  same = s.same;
  starts = λ h. starts_token t (token.Mark mark.OpenParen) (inner ++ c ∷ []) e refl;
}

bracketed_cut : (n : ℕ) (opens : Bool) (k : EsKind) (ps : List Piece) (start : Restriction) (rest : List ℕ) → n ≤ 12 → Ready start
    → ((rest : List ℕ) → Follows false rest → Cut Free (bytes_of ps) rest Free (Spelled n opens k)) → Cut start (bytes_of (bracketed ps)) rest Free (Spelled 0 false k)
bracketed_cut n opens k ps start rest le ready inner =
    cut_as (λ u x. in_brackets n opens k u le x)
    (text_cut (codes "(") (ps ++ plain (codes ")")) rest (piece.open_paren start _ ready)
    (join_cut ps (plain (codes ")")) rest (inner (41 ∷ rest) (close_paren false rest)) (plain_cut (codes ")") (piece.close_paren Free rest free))))

loose_most : (l : Level) → looseness l ≤ 12
loose_most l = omega (arith, loose_tight l)

-- ---- from the form's own level to the level that is wanted

pub raised : (m n : ℕ) (opens : Bool) (k : EsKind) (u : List EsToken) → m ≤ n → Spelled m opens k u → Spelled n opens k u
raised m n opens k u le s = record { x = s.x; spells = climbs m n s.x u le s.spells; same = s.same; starts = s.starts }

at_by : (w l : Level) (opens : Bool) (ps : List Piece) (k : EsKind) (start : Restriction) (rest : List ℕ) (c : Bool) → nat_le (tightness w) (tightness l) ≡ c → Ready start → Follows (dotted w) rest
    → ((start : Restriction) (rest : List ℕ) → Ready start → Follows (dotted l) rest → Cut start (bytes_of ps) rest Free (Spelled (looseness l) opens k))
    → Cut start (bytes_of (if c then ps else bracketed ps)) rest Free (Spelled (looseness w) (c && opens) k)
at_by w l opens ps k start rest true e ready follows own =
    cut_as (λ u s. raised (looseness l) (looseness w) opens k u (looser w l e) s) (own start rest ready (follows_more (dotted w) (dotted l) rest (dotted_too w l e) follows))
at_by w l opens ps k start rest false e ready follows own =
    cut_as (λ u s. raised 0 (looseness w) false k u (omega arith) s)
    (bracketed_cut (looseness l) opens k ps start rest (loose_most l) ready (λ r f. own Free r free (follows_more false (dotted l) r (λ n. absurd (true≢false (sym n))) f)))

pub at_wanted : (w : Level) (e : EsExpr) → Own (kind_form e.kind) e.kind → AtLevel w e
at_wanted w e own =
    let f : Form = kind_form e.kind in
    subst (λ p. At w p e.kind) (sym (expr_layer e)) (λ start rest ready follows. at_by w f.0 f.1.0 (f.1.1 e.origin) e.kind start rest (nat_le (tightness w) (tightness f.0)) refl ready follows (λ s r g h. own e.origin s r g h))

abbrev WholePart : Part → EsKind → Type 0
WholePart p k = (start : Restriction) (rest : List ℕ) → Ready start → Follows false rest → Cut start (bytes_of (pieces p)) rest Free (Spelled 12 p.1.0 k)

pub at_all : (e : EsExpr) → Own (kind_form e.kind) e.kind → Whole e
at_all e own =
    let f : Form = kind_form e.kind in
    subst (λ p. WholePart p e.kind) (sym (expr_layer e))
    (λ start rest ready follows. cut_as (λ u s. raised (looseness f.0) 12 f.1.0 e.kind u (loose_most f.0) s) (own e.origin start rest ready (follows_more false (dotted f.0) rest (λ n. absurd (true≢false (sym n))) follows)))

-- in brackets, where an expression statement would begin with `{` or `function`
pub in_all_brackets : (e : EsExpr) (start : Restriction) (rest : List ℕ) → Ready start → Whole e → Cut start (bytes_of (bracketed (pieces (expr_part e)))) rest Free (Spelled 12 false e.kind)
in_all_brackets e start rest ready whole =
    cut_as (λ u s. raised 0 12 false e.kind u (omega arith) s)
    (bracketed_cut 12 (expr_part e).1.0 e.kind (pieces (expr_part e)) start rest (omega arith) ready (λ r f. whole Free r free f))
