-- Laws of spelling.
use Rattle.std.specs.Prelude.{◌≡◌, ℕ, ◌<◌, ◌≤◌, List, length}
use Rattle.es5_tree.specs.declared.tree.Script.{Script}
use Rattle.es5_tree.specs.Grammar.Spelling.{EsSpells, Reads, SpellsScript}
use Rattle.es5_tree.specs.Lexed.{IsEnded}
use Rattle.es5_tree.specs.declared.token.EsToken.{EsToken}
use Rattle.es5_printer.specs.Text.{text_of}
use Rattle.es5_spelling.specs.Nodes.{script_nodes}
use Rattle.es5_spelling.specs.Spellable.{Spellable}

-- the printed text of a spellable script spells it
abbrev pub PrintedIsSpelled : Type 0
PrintedIsSpelled = (script : Script) → Spellable script → EsSpells script (text_of script)

-- the script that bytes spell, with its places, is spellable
abbrev pub ReadIsSpellable : Type 0
ReadIsSpellable = (bytes : List ℕ) (script : Script) → Reads bytes script → Spellable script

-- but for sites and places too
abbrev pub SpelledIsSpellable : Type 0
SpelledIsSpellable = (script : Script) (bytes : List ℕ) → EsSpells script bytes → Spellable script

-- scripts that the same bytes spell print the same text
abbrev pub SameBytesSameText : Type 0
SameBytesSameText = (script other : Script) (bytes : List ℕ) → EsSpells script bytes → EsSpells other bytes → text_of script ≡ text_of other

-- a script has fewer nodes than the list of tokens that spells it, whose last one is the end token
abbrev pub NodesWithinTokens : Type 0
NodesWithinTokens = (tokens : List EsToken) (script : Script) → IsEnded tokens → SpellsScript script tokens → script_nodes script < length tokens

-- a script has no more nodes than the bytes that spell it
abbrev pub NodesWithinBytes : Type 0
NodesWithinBytes = (bytes : List ℕ) (script : Script) → Reads bytes script → script_nodes script ≤ length bytes
