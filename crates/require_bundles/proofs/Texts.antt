-- A text is taken or refused step by step.
use Rattle.std.proofs.Common.{◌≡◌, ℕ, ◌≤◌, List, length, Ok, Err, Result, IfOk, IfErr, subst}
use Rattle.opal_base.specs.declared.place.Pos.{Pos}
use Rattle.opal_base.specs.Text.{IsDecoded}
use Rattle.ruby_meaning.specs.declared.construct.Construct.{Construct}
use Rattle.ruby_meaning.specs.declared.construct.Stop.{Stop}
use Rattle.ruby_meaning.specs.declared.construct.Stop.TheVariants as stop
use Rattle.ruby_meaning.specs.declared.scope.Resolved.{Resolved}
use Rattle.ruby_meaning.specs.declared.token.Token.{Token}
use Rattle.ruby_meaning.specs.declared.tree.Program.{Program}
use Rattle.ruby_meaning.specs.Lexing.Lexes.{Lexes}
use Rattle.ruby_meaning.specs.Grammar.Laws.{SpellsInLimit}
use Rattle.ruby_meaning.specs.Load.{TextResolves, NoProgram, NoScopes, IsRefused, BadText}
use Rattle.ruby_meaning.specs.Scoping.Scopes.{Scoped}
use Rattle.ruby_parser.specs.Answer.{StopsAt}
use Rattle.ruby_scope.specs.Answer.{Stops}
use Rattle.require_bundles.specs.Loading.{TextStops}

pub misspelled : (text : List ℕ) (tokens : List Token) (s : Stop) → Lexes text tokens → StopsAt tokens s → TextStops text s
misspelled text tokens stop.NoMemory h r = tt
misspelled text tokens (stop.Refused pos c) h r = NoProgram tokens h r

pub resolved : (text : List ℕ) (tokens : List Token) (program : Program) (r : Result Resolved Stop) → Lexes text tokens → SpellsInLimit program tokens
    → IfOk r (λ x. Scoped program x) → IfOk r (λ x. TextResolves text x)
resolved text tokens program (Ok x) h s k = record { program = program; spelled = record { tokens = tokens; lexes = h; spells = s }; scoped = k }
resolved text tokens program (Err e) h s k = tt

pub unresolved : (text : List ℕ) (tokens : List Token) (program : Program) (r : Result Resolved Stop) → Lexes text tokens → SpellsInLimit program tokens
    → IfErr r (λ e. Stops program e) → IfErr r (λ e. TextStops text e)
unresolved text tokens program (Ok x) h s k = tt
unresolved text tokens program (Err stop.NoMemory) h s k = tt
unresolved text tokens program (Err (stop.Refused pos c)) h s k = NoScopes program (record { tokens = tokens; lexes = h; spells = s }) k

pub bad_text : (bytes text : List ℕ) (s : Stop) (pos : Pos) (c : Construct) → length bytes ≤ 1048576 → IsDecoded bytes text → TextStops text s → s ≡ stop.Refused pos c → IsRefused bytes pos c
bad_text bytes text s pos c short decoded h e = BadText text (record { short = short; decoded = decoded }) (subst (TextStops text) e h)
