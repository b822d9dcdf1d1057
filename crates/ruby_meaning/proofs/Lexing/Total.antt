-- A text has tokens or a refusal.
use Rattle.std.proofs.Common.{◌≡◌, ◌<◌, ℕ, zero, suc, Bool, true, false, List, [], ◌∷◌, ◌++◌, take, drop, length, refl, ap, sym, ◌∙◌, subst, arith, length-drop, ◌⊎◌, inl, inr}
use Rattle.std.proofs.lemmas.List.{length-take-le, take-append-drop}
use Rattle.opal_base.specs.declared.place.Pos.{Pos}
use Rattle.ruby_meaning.specs.declared.construct.Construct.{Construct}
use Rattle.ruby_meaning.specs.declared.form.Stand.{Stand}
use Rattle.ruby_meaning.specs.declared.form.Stand.TheVariants as stand
use Rattle.ruby_meaning.specs.declared.spot.Spot.{Spot}
use Rattle.ruby_meaning.specs.declared.token.Token.{Token}
use Rattle.ruby_meaning.specs.declared.token.TokenKind.TheVariants as kind
use Rattle.ruby_meaning.specs.Lexing.Laws.{SomeLexing}
use Rattle.ruby_meaning.specs.Lexing.Lexes.{Piece, Reaches, Lexes, LexFault, FaultAt, tokens_of, token_at, place_of, after, start}
use Rattle.ruby_meaning.specs.Lexing.OpenTexts.{top_is_none}
use Rattle.ruby_meaning.specs.Lexing.Stands.{stands}
use Rattle.ruby_meaning.proofs.Lexing.Fits.{Fits, stands_fits}
use Rattle.ruby_meaning.proofs.Lexing.Steps.{piece, reaches_more}

abbrev pub Lexing : List ℕ → Type 0
Lexing text = ((tokens : List Token) × Lexes text tokens) ⊎ ((place : Pos) × (c : Construct) × LexFault text place c)

refused : (text : List ℕ) (ps : List Piece) (s : Spot) (rest : List ℕ) (found : Stand) (place : Pos) (c : Construct)
    → Reaches start text ps s rest → stands (place_of s) rest ≡ found → FaultAt s rest found place c → Lexing text
refused text ps s rest found place c h e fault =
    inr (place, c, record { pieces = ps; end = s; rest = rest; reaches = h; fault = subst (λ f. FaultAt s rest f place c) (sym e) fault })

at_end : (text : List ℕ) (ps : List Piece) (s : Spot) (rest : List ℕ) (closed : Bool)
    → Reaches start text ps s rest → stands (place_of s) rest ≡ stand.End → Fits stand.End rest → top_is_none s.nesting ≡ closed → Lexing text
at_end text ps s rest true h e over c =
    inl (tokens_of start text ps ++ token_at s [] [] kind.Eof ∷ [], record { pieces = ps; end = s; rest = rest; reaches = h; stops = e; over = over; closed = c; same = refl })
at_end text ps s rest false h e over c = refused text ps s rest stand.End _ _ h e (c, refl, refl)

-- one step, and then what goes on with less text
lexing_by : (n : ℕ) (text : List ℕ) (ps : List Piece) (s : Spot) (rest : List ℕ) (found : Stand)
    → ((ps : List Piece) (s : Spot) (rest : List ℕ) → Reaches start text ps s rest → length rest < n → Lexing text)
    → Reaches start text ps s rest → length rest < suc n → stands (place_of s) rest ≡ found → Fits found rest → Lexing text
lexing_by n text ps s rest (stand.Form f k) go h less e fits =
    let size : length (take k rest) ≡ k = length-take-le k rest fits.1 in
    go (ps ++ (piece f (take k rest) ∷ [])) (after s f (take k rest)) (drop k rest)
    (reaches_more start text ps s rest f (take k rest) (drop k rest) h (sym (take-append-drop k rest)) (e ∙ ap (stand.Form f) (sym size)))
    (omega (arith, less, fits.0, fits.1, length-drop k rest))
lexing_by n text ps s rest (stand.Refused c k) go h less e fits = refused text ps s rest (stand.Refused c k) _ _ h e (refl, refl)
lexing_by n text ps s rest stand.Endless go h less e fits = refused text ps s rest stand.Endless _ _ h e (refl, refl)
lexing_by n text ps s rest stand.Cut go h less e fits = refused text ps s rest stand.Cut _ _ h e (refl, refl)
lexing_by n text ps s rest stand.End go h less e fits = at_end text ps s rest (top_is_none s.nesting) h e fits refl

lexing_from : (n : ℕ) (text : List ℕ) (ps : List Piece) (s : Spot) (rest : List ℕ) → Reaches start text ps s rest → length rest < n → Lexing text
lexing_from zero text ps s rest h less = absurd (omega (arith, less))
lexing_from (suc n) text ps s rest h less =
    lexing_by n text ps s rest (stands (place_of s) rest) (λ qs t more k l. lexing_from n text qs t more k l) h less refl (stands_fits (place_of s) rest)

pub some_lexing : SomeLexing
some_lexing text = lexing_from (suc (length text)) text [] start text (refl, refl) (omega arith)
