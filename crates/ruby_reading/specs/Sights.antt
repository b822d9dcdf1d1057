-- The sign of a token by the four tokens before it.
use Rattle.std.specs.Prelude.{Bool, true, false, not, ◌&&◌, ◌||◌, if◌then◌else◌, List, [], ◌∷◌, Option, Some, None}
use Rattle.std.specs.Option.{option_copied}
use Rattle.ruby_meaning.specs.declared.production.Sign.{Sign}
use Rattle.ruby_meaning.specs.declared.production.Sign.TheVariants as sign
use Rattle.ruby_meaning.specs.declared.token.Mark.{Mark}
use Rattle.ruby_meaning.specs.declared.token.Token.{Token}
use Rattle.ruby_meaning.specs.declared.token.TokenKind.{TokenKind}
use Rattle.ruby_meaning.specs.declared.token.TokenKind.TheVariants as kind
use Rattle.ruby_meaning.specs.Grammar.Seen.{is_dot, is_def, is_alias, is_name, is_callee, is_open, is_argument_mark, is_paren}
use Rattle.ruby_reading.specs.declared.sight.Before.{Before}

-- the last four, from the last one back
abbrev pub Window : Type 0
Window = Option Token × (Option Token × (Option Token × Option Token))

abbrev pub first_of : List Token → Option Token
first_of [] = None
first_of (t ∷ ts) = Some t

abbrev pub rest_of : List Token → List Token
rest_of [] = []
rest_of (t ∷ ts) = ts

abbrev pub window : List Token → Window
window past = (first_of past, (first_of (rest_of past), (first_of (rest_of (rest_of past)), first_of (rest_of (rest_of (rest_of past))))))

abbrev pub shown_before : Before → Window
shown_before b = (option_copied b.last, (option_copied b.second, (option_copied b.third, option_copied b.fourth)))

abbrev pub behind : Token → Window → Window
behind t w = (Some t, (w.0, (w.1.0, w.1.1.0)))

abbrev pub holds : (TokenKind → Bool) → Option Token → Bool
holds f None = false
holds f (Some t) = f t.kind

abbrev pub gives : Option Token → Option Token → Bool
gives last third = (holds is_dot last && holds is_def third) || (holds is_def last || holds is_alias last)

abbrev pub takes : Window → Bool
takes w = holds is_name w.0 && not (gives (w.1.0) (w.1.1.1))

abbrev pub opens : Window → Bool
opens w = holds is_callee w.0 || (holds is_dot (w.1.0) && not (holds is_open w.0))

-- whether it opens the arguments of a call or begins an argument hangs on these two
abbrev pub sign_of_op : Bool → Bool → Token → Mark → Sign
sign_of_op call argument t m =
    if (is_paren m && not t.blank_before) && call then sign.CallOpen
    else (if (is_argument_mark m && (t.blank_before && not t.blank_after)) && argument then sign.Marked m
    else sign.Op m)

abbrev pub sign_of_kind : Bool → Bool → Token → TokenKind → Sign
sign_of_kind call argument t (kind.Name n) = sign.Name
sign_of_kind call argument t (kind.Const n) = sign.Const
sign_of_kind call argument t (kind.Ivar n) = sign.Ivar
sign_of_kind call argument t (kind.Gvar n) = sign.Gvar
sign_of_kind call argument t (kind.Keyword w) = sign.Keyword w
sign_of_kind call argument t (kind.Op m) = sign_of_op call argument t m
sign_of_kind call argument t (kind.Label n) = sign.Label
sign_of_kind call argument t (kind.Int i) = sign.Int
sign_of_kind call argument t (kind.Text u) = sign.Text
sign_of_kind call argument t kind.TextBegin = sign.TextBegin
sign_of_kind call argument t kind.TextEnd = sign.TextEnd
sign_of_kind call argument t kind.PartBegin = sign.PartBegin
sign_of_kind call argument t kind.PartEnd = sign.PartEnd
sign_of_kind call argument t kind.Newline = sign.Newline
sign_of_kind call argument t kind.Eof = sign.Eof

abbrev pub sign_from : Window → Token → Sign
sign_from w t = sign_of_kind (opens w) (takes w) t t.kind
