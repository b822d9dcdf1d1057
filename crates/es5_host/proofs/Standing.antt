-- The intrinsic objects are a valid heap.
use Rattle.std.proofs.Common.{◌≡◌, ℕ, ◌+◌, ◌<◌, ◌≤◌, Bool, true, nat_lt, ltb-true, List, length, get_or, Option, Some, None, refl, sym, subst, ⊎_elim, arith}
use Rattle.std.specs.List.{All, list_all}
use Rattle.std.proofs.lemmas.Bool.{cases_lt}
use Rattle.std.proofs.lemmas.List.Sums.{AllPass-from_list_all}
use Rattle.std.proofs.lemmas.List.{get_or_past}
use Rattle.es5_tree.specs.Values.{Text, Val, Undefined, Null, Truth, Num, Str, Obj}
use Rattle.es5_tree.specs.Objects.Cells.{Cell, Object, Host, new_cell}
use Rattle.es5_tree.specs.Objects.Links.{cell_at, Within, LinksWithin}
use Rattle.es5_tree.specs.Intrinsics.Calls.{HostFn, number}
use Rattle.es5_tree.specs.Intrinsics.Calls as call
use Rattle.es5_tree.specs.Intrinsics.Made.{cells, count, globals}
use Rattle.es5_tree.specs.Intrinsics.Valid.{Names, NamesIn, Valid}

-- ---- tests that compute

abbrev named : ℕ → Val → Bool
named n Undefined = true
named n Null = true
named n (Truth b) = true
named n (Num z) = true
named n (Str s) = true
named n (Obj o) = nat_lt o n

abbrev linked : ℕ → Option ℕ → Bool
linked n None = true
linked n (Some o) = nat_lt o n

abbrev all_named : ℕ → List (Text × Val) → Bool
all_named n ps = list_all (λ p. named n p.1) ps

is_named : (n : ℕ) (v : Val) → named n v ≡ true → Names n v
is_named n Undefined e = tt
is_named n Null e = tt
is_named n (Truth b) e = tt
is_named n (Num z) e = tt
is_named n (Str s) e = tt
is_named n (Obj o) e = ltb-true o n e

are_named : (n : ℕ) (ps : List (Text × Val)) → all_named n ps ≡ true → All (λ p. Names n p.1) ps
are_named n ps e = λ k d lt. is_named n (get_or ps k d).1 (AllPass-from_list_all (λ p. named n p.1) ps e k d lt)

is_linked : (heap : List Cell) (link : Option ℕ) → linked (length heap) link ≡ true → Within heap link
is_linked heap None e = tt
is_linked heap (Some o) e = ltb-true o (length heap) e

-- ---- the intrinsic objects

pub counted : length cells ≡ count
unfolding cells
counted = refl

links_pass : list_all (λ c. linked (length cells) c.link) cells ≡ true
unfolding cells
links_pass = refl

values_pass : list_all (λ c. all_named (length cells) c.properties) cells ≡ true
unfolding cells
values_pass = refl

links : LinksWithin cells
unfolding LinksWithin cell_at
links o =
    ⊎_elim
    (λ (lt : o < length cells). is_linked cells (get_or cells o (new_cell Object None)).link (AllPass-from_list_all (λ c. linked (length cells) c.link) cells links_pass o (new_cell Object None) lt))
    (λ (le : length cells ≤ o). subst (λ c. Within cells c.link) (sym (get_or_past cells o (new_cell Object None) le)) tt)
    (cases_lt o (length cells))

values : All (NamesIn (length cells)) cells
values = λ k d lt. are_named (length cells) (get_or cells k d).properties (AllPass-from_list_all (λ c. all_named (length cells) c.properties) cells values_pass k d lt)

pub made_valid : Valid cells
made_valid = record {
  enough = omega (arith, counted);
  intrinsic = λ o lt. refl;
  links = links;
  values = values;
}

globals_pass : all_named count globals ≡ true
globals_pass = refl

pub globals_named : All (λ g. Names count g.1) globals
globals_named = are_named count globals globals_pass

pub functions_in_order : (which : HostFn) → (cell_at cells (13 + number which)).kind ≡ Host (number which)
unfolding cell_at cells
functions_in_order call.Create = refl
functions_in_order call.GetPrototypeOf = refl
functions_in_order call.SetPrototypeOf = refl
functions_in_order call.Keys = refl
functions_in_order call.HasOwnProperty = refl
functions_in_order call.Call = refl
functions_in_order call.Apply = refl
functions_in_order call.IsArray = refl
functions_in_order call.Push = refl
functions_in_order call.Slice = refl
functions_in_order call.CharCodeAt = refl
functions_in_order call.Substring = refl
functions_in_order call.IndexOf = refl
functions_in_order call.FromCharCode = refl
functions_in_order call.Write = refl
functions_in_order call.Line = refl
