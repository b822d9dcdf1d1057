-- The script that tokens and bytes spell, and the place where they spell none.
use Rattle.std.proofs.Common.{◌≡◌, ℕ, zero, suc, ◌≤◌, List, [], ◌∷◌, length, Some, ◌⊎◌, inl, inr, ⊎_elim, refl, sym, ap, ◌∙◌, subst, arith}
use Rattle.std.specs.Prelude.{slice_get}
use Rattle.grammar.specs.Forms.{deepest}
use Rattle.grammar.specs.Reading.{SpellsWithin}
use Rattle.grammar.proofs.OneAnswer as answer
use Rattle.grammar.proofs.Theorem.{one_tree}
use Rattle.opal_base.specs.Place.{place_at}
use Rattle.opal_base.specs.declared.place.Pos.{Pos}
use Rattle.es5_tree.specs.declared.token.EsToken.{EsToken}
use Rattle.es5_tree.specs.declared.token.EsTokenKind.{EsTokenKind}
use Rattle.es5_tree.specs.declared.token.EsTokenKind.TheVariants as kind
use Rattle.es5_tree.specs.declared.tree.Script.{Script}
use Rattle.es5_tree.specs.Depth.{script_depth, stmt_depth}
use Rattle.es5_tree.specs.Lexed.{LexesTo, NoTokenPlace, IsEnded}
use Rattle.es5_tree.specs.Grammar.Nodes.{Node, depth, stmts}
use Rattle.es5_tree.specs.Grammar.Names.{script as whole}
use Rattle.es5_tree.specs.Grammar.Spelling.{up_to_end, before_end, SpellsScript, SpellsInLimit, limit, NoFrontAt, NoFrontPos, Reads, bare, NoFrontPlace, IsNotScript}
use Rattle.es5_tree.specs.Grammar.Laws.{OneScript, SpelledOrRefused, NeverBoth, OneStop, StopsAtToken, BeginningsAreFronts, OneRead, ReadSpells, OneSpelled, ScriptOrPlace, NotScriptOrRead, OnePlace}
use Rattle.es5_tree.specs.Grammar.Table.{table}
use Rattle.es5_tree.proofs.Cutting.{tokens_or_none_is, lexed_once_is}
use Rattle.es5_tree.proofs.Slices.{lexed_ended}
use Rattle.es5_tree.proofs.Grammar.Depths.{highest_of_all, stmts_depth}
use Rattle.es5_tree.proofs.Grammar.TableMeets.{predictive}

-- ---- tokens

abbrev script_of : List Node → Script
script_of body = record { body = stmts body }

pub one_script_is : OneScript
one_script_is tokens script other a b = a.tree ∙ ap script_of (one_tree table predictive whole a.body b.body (before_end tokens) a.spells b.spells) ∙ sym b.tree

-- the script is as deep as its statements
deep_body : (body : List Node) → script_depth (script_of body) ≡ deepest depth body
deep_body body = highest_of_all stmt_depth (stmts body) ∙ stmts_depth body

within : (tokens : List EsToken) (script : Script) → SpellsInLimit script tokens → (body : List Node) × SpellsWithin table whole limit body (before_end tokens)
unfolding table
within tokens script h =
    let s = h.spelled in
    (s.body, record { spells = s.spells; shallow = subst (λ n. n ≤ limit) (ap script_depth s.tree ∙ deep_body s.body) h.shallow })

in_limit : (tokens : List EsToken) (body : List Node) → SpellsWithin table whole limit body (before_end tokens) → SpellsInLimit (script_of body) tokens
unfolding table
in_limit tokens body h = record { spelled = record { body = body; spells = h.spells; tree = refl }; shallow = subst (λ n. n ≤ limit) (sym (deep_body body)) h.shallow }

pub spelled_or_refused_is : SpelledOrRefused
spelled_or_refused_is tokens =
    ⊎_elim (λ x. inl (script_of x.0, in_limit tokens x.0 x.1)) (λ x. inr x) (answer.some_answer table predictive whole limit (before_end tokens))

pub never_both_is : NeverBoth
never_both_is tokens script at h g = let w = within tokens script h in answer.never_both table predictive whole limit (before_end tokens) w.0 at w.1 g

pub one_stop_is : OneStop
one_stop_is tokens at other h g = answer.one_place table predictive whole limit (before_end tokens) at other h g

pub beginnings : BeginningsAreFronts
unfolding table
beginnings k levels u v x h le = answer.beginning table predictive k levels u x v h le

-- ---- the token at a stop

not_longer : (tokens : List EsToken) (token : EsToken) (k : EsTokenKind) → length (up_to_end k tokens token) ≤ suc (length tokens)
not_longer tokens token kind.End = omega arith
not_longer tokens token (kind.Word name) = omega arith
not_longer tokens token (kind.Num value) = omega arith
not_longer tokens token (kind.Str text) = omega arith
not_longer tokens token (kind.Mark mark) = omega arith

end_alone : (tokens : List EsToken) (token : EsToken) (k : EsTokenKind) → k ≡ kind.End → up_to_end k tokens token ≡ []
end_alone tokens token k e = ap (λ z. up_to_end z tokens token) e

before_shorter : (tokens : List EsToken) → IsEnded tokens → suc (length (before_end tokens)) ≤ length tokens
before_shorter (token ∷ []) e = omega (arith, ap length (end_alone [] token token.kind e))
before_shorter (token ∷ next ∷ tokens) e = omega (arith, not_longer (before_end (next ∷ tokens)) token token.kind, before_shorter (next ∷ tokens) e.1)
before_shorter [] e = absurd e

token_at : (tokens : List EsToken) (at : ℕ) → suc at ≤ length tokens → (token : EsToken) × (slice_get tokens at ≡ Some token)
token_at (token ∷ tokens) zero h = (token, refl)
token_at (token ∷ tokens) (suc n) h = token_at tokens n (omega (arith, h))
token_at [] at h = let no : ⊥ = omega (arith, h) in absurd no

pub stops_at_token_is : StopsAtToken
stops_at_token_is tokens at ended stop =
    let t = token_at tokens at (omega (arith, stop.within, before_shorter tokens ended)) in
    (t.0.pos, record { at = at; token = t.0; none = stop; there = t.1; place = refl })

same_some : (token other : EsToken) → Some token ≡ Some other → token ≡ other
same_some token other e = cc

stop_once : (tokens : List EsToken) (pos other : Pos) → NoFrontPos tokens pos → NoFrontPos tokens other → pos ≡ other
stop_once tokens pos other a b =
    let same = one_stop_is tokens a.at b.at a.none b.none in
    a.place ∙ ap (λ (t : EsToken). t.pos) (same_some a.token b.token (sym a.there ∙ ap (slice_get tokens) same ∙ b.there)) ∙ sym b.place

-- ---- bytes

pub one_read_is : OneRead
one_read_is bytes script other a b =
    let same = lexed_once_is.tokens bytes a.tokens b.tokens a.lexed b.lexed in
    one_script_is b.tokens script other (subst (λ ts. SpellsScript script ts) same a.spells) b.spells

pub read_spells_is : ReadSpells
read_spells_is bytes script h = record { read = script; reads = h; same = refl }

pub one_spelled_is : OneSpelled
one_spelled_is bytes script other a b = a.same ∙ ap bare (one_read_is bytes a.read b.read a.reads b.reads) ∙ sym b.same

pub script_or_place_is : ScriptOrPlace
script_or_place_is bytes = ⊎_elim by_tokens (λ t. inr (place_at bytes t.0, inl (t.0, t.1, refl))) (tokens_or_none_is bytes)
  where
    by_tokens : (tokens : List EsToken) × LexesTo bytes tokens → ((script : Script) × Reads bytes script × (script_depth script ≤ limit)) ⊎ ((pos : Pos) × IsNotScript bytes pos)
    by_tokens (tokens, lexed) =
        ⊎_elim
        (λ x. inl (x.0, record { tokens = tokens; lexed = lexed; spells = x.1.spelled }, x.1.shallow))
        (λ x. let s = stops_at_token_is tokens x.0 (lexed_ended bytes tokens lexed) x.1 in inr (s.0, inr (record { tokens = tokens; lexed = lexed; stops = s.1 })))
        (spelled_or_refused_is tokens)

pub not_script_or_read_is : NotScriptOrRead
not_script_or_read_is bytes script pos r shallow n =
    ⊎_elim
    (λ t. lexed_once_is.apart bytes r.tokens t.0 r.lexed t.1)
    (λ t. never_both_is r.tokens script t.stops.at (record { spelled = r.spells; shallow = shallow }) (subst (λ ts. NoFrontAt ts t.stops.at) (lexed_once_is.tokens bytes t.tokens r.tokens t.lexed r.lexed) t.stops.none))
    n

pub one_place_is : OnePlace
one_place_is bytes pos other a b =
    ⊎_elim
    (λ t. ⊎_elim (λ u. bytes_once t u) (λ u. absurd (lexed_once_is.apart bytes u.tokens t.0 u.lexed t.1)) b)
    (λ t. ⊎_elim (λ u. absurd (lexed_once_is.apart bytes t.tokens u.0 t.lexed u.1)) (λ u. tokens_once t u) b)
    a
  where
    bytes_once : NoTokenPlace bytes pos → NoTokenPlace bytes other → pos ≡ other
    bytes_once t u = t.2 ∙ ap (place_at bytes) (lexed_once_is.offset bytes t.0 u.0 t.1 u.1) ∙ sym u.2

    tokens_once : NoFrontPlace bytes pos → NoFrontPlace bytes other → pos ≡ other
    tokens_once t u = stop_once u.tokens pos other (subst (λ ts. NoFrontPos ts pos) (lexed_once_is.tokens bytes t.tokens u.tokens t.lexed u.lexed) t.stops) u.stops
