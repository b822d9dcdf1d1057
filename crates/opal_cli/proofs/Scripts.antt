-- What was read of a script's file, one byte more than the longest at the most, stands for the file.
use Rattle.std.proofs.Common.{◌≡◌, ℕ, ◌≤◌, List, length, take, None, Some, Ok, Err, Result, sym, ap, ◌∙◌, subst, arith, length-take}
use mathlib.Core.Logic.{inl, inr}
use Rattle.std.proofs.lemmas.List.{take_all}
use Rattle.std.specs.Option.{option_map}
use Rattle.std.specs.declared.option.Option.{Option}
use Rattle.opal_base.specs.declared.place.Pos.{Pos}
use Rattle.opal_base.specs.Outside.{FileMap}
use Rattle.es5_tree.specs.declared.tree.Script.{Script}
use Rattle.opal_cli.specs.declared.script.ScriptFault.{ScriptFault}
use Rattle.opal_cli.specs.declared.script.ScriptFault.TheVariants as fault
use Rattle.opal_cli.specs.Execution.{IsScript, IsNoScript, ReadsScript, ScriptIn}

-- what was read is the file where it isn't too long
same : (bytes read : List ℕ) → take 67108865 bytes ≡ read → length read ≤ 67108864 → read ≡ bytes
same bytes read e l =
    let n = sym (ap length e) ∙ length-take 67108865 bytes in
    sym e ∙ take_all 67108865 bytes (omega (arith, n, l))

longer : (bytes read : List ℕ) → take 67108865 bytes ≡ read → length read ≤ length bytes
longer bytes read e = let n = sym (ap length e) ∙ length-take 67108865 bytes in omega (arith, n)

no_script : (bytes read : List ℕ) (pos : Pos) → take 67108865 bytes ≡ read → IsNoScript read pos → IsNoScript bytes pos
no_script bytes read pos e (inl r) = subst (λ x. IsNoScript x pos) (same bytes read e r.0) (inl r)
no_script bytes read pos e (inr r) = inr (omega (arith, r.0, longer bytes read e), r.1)

pub script_in : (map : FileMap) (file read : List ℕ) (o : Option (List ℕ)) (result : Result Script ScriptFault) → map file ≡ o → option_map (take 67108865) o ≡ Some read → ReadsScript read result → ScriptIn map file result
script_in map file read None result e h r = cc
script_in map file read (Some bytes) (Ok script) e h r =
    let t : take 67108865 bytes ≡ read = cc in
    record { bytes = bytes; content = e; is = subst (λ x. IsScript x script) (same bytes read t r.short) r }
script_in map file read (Some bytes) (Err fault.NoMemory) e h r = tt
script_in map file read (Some bytes) (Err fault.ReadFault) e h r = tt
script_in map file read (Some bytes) (Err fault.Missing) e h r = absurd r
script_in map file read (Some bytes) (Err (fault.NotScript pos)) e h r =
    let t : take 67108865 bytes ≡ read = cc in
    (bytes, e, no_script bytes read pos t r)
