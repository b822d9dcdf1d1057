-- What was read of a file, one byte more than the longest at the most, stands for the file.
use Rattle.std.proofs.Common.{◌≡◌, ℕ, ◌≤◌, List, length, take, None, Some, Ok, Err, Result, refl, sym, ap, ◌∙◌, subst, arith, length-take}
use Rattle.std.proofs.lemmas.List.{take_all}
use Rattle.std.specs.Option.{option_map}
use Rattle.std.specs.declared.option.Option.{Option}
use Rattle.opal_base.specs.declared.place.Pos.{Pos}
use Rattle.opal_base.specs.Outside.{FileMap, HasContent}
use Rattle.ruby_meaning.specs.declared.construct.Construct.{Construct}
use Rattle.ruby_meaning.specs.declared.bundle.Bundle.{Bundle}
use Rattle.ruby_meaning.specs.Load.{IsProgram, IsRefused, TooLong, NoText, BadText}
use Rattle.require_bundles.specs.declared.bundle.LoadFault.{LoadFault}
use Rattle.require_bundles.specs.declared.bundle.LoadFault.TheVariants as fault
use Rattle.require_bundles.specs.Loading.{ReadsTo, LoadsTo}

-- what was read is the file where it isn't too long
same : (bytes read : List ℕ) → take 1048577 bytes ≡ read → length read ≤ 1048576 → read ≡ bytes
same bytes read e l =
    let n = sym (ap length e) ∙ length-take 1048577 bytes in
    sym e ∙ take_all 1048577 bytes (omega (arith, n, l))

longer : (bytes read : List ℕ) → take 1048577 bytes ≡ read → length read ≤ length bytes
longer bytes read e = let n = sym (ap length e) ∙ length-take 1048577 bytes in omega (arith, n)

refused_whole : (bytes read : List ℕ) (pos : Pos) (c : Construct) → take 1048577 bytes ≡ read → IsRefused read pos c → IsRefused bytes pos c
refused_whole bytes read pos c e (TooLong l at is) = TooLong (omega (arith, l, longer bytes read e)) at is
refused_whole bytes read pos c e (NoText b is) = subst (λ x. IsRefused x pos c) (same bytes read e b.short) (NoText b is)
refused_whole bytes read pos c e (BadText text h f) = subst (λ x. IsRefused x pos c) (same bytes read e h.short) (BadText text h f)

-- what loading answers is the answer over the told files
pub loads_to : (map : FileMap) (main read : List ℕ) (o : Option (List ℕ)) (result : Result Bundle LoadFault) → map main ≡ o → option_map (take 1048577) o ≡ Some read → ReadsTo read result → LoadsTo map main result
loads_to map main read None result e h r = cc
loads_to map main read (Some bytes) (Ok bundle) e h r =
    let t : take 1048577 bytes ≡ read = cc in
    (bytes, e, subst (λ x. IsProgram x bundle.main) (same bytes read t r.holds.short) r)
loads_to map main read (Some bytes) (Err fault.NoMemory) e h r = tt
loads_to map main read (Some bytes) (Err fault.ReadFault) e h r = tt
loads_to map main read (Some bytes) (Err fault.Missing) e h r = absurd r
loads_to map main read (Some bytes) (Err (fault.Refused pos construct)) e h r =
    let t : take 1048577 bytes ≡ read = cc in
    (refl, bytes, e, refused_whole bytes read pos construct t r)

pub told_content : (told : Option FileMap) (map : FileMap) (name : List ℕ) (most : ℕ) (read : List ℕ) → told ≡ Some map → HasContent told name most read → option_map (take most) (map name) ≡ Some read
told_content told map name most read e h = subst (λ t. HasContent t name most read) e h
