-- The functions by their numbers.
use Rattle.std.proofs.Common.{◌≡◌, ◌↔◌, ℕ, zero, suc, List, [], ◌∷◌, Option, Some, refl, sym, ap, ◌∙◌}
use Rattle.std.specs.List.{slice_get}
use Rattle.es5_host.specs.declared.answer.HostFn.{HostFn}
use Rattle.es5_host.specs.declared.answer.HostFn.TheVariants.{Create, GetPrototypeOf, SetPrototypeOf, Keys, HasOwnProperty, Call, Apply, IsArray, Push, Slice, CharCodeAt, Substring, IndexOf, FromCharCode, Write, Line}
use Rattle.es5_host.specs.Values.{number_of}

abbrev pub in_order : List HostFn
in_order = Create ∷ GetPrototypeOf ∷ SetPrototypeOf ∷ Keys ∷ HasOwnProperty ∷ Call ∷ Apply ∷ IsArray ∷ Push ∷ Slice ∷ CharCodeAt ∷ Substring ∷ IndexOf ∷ FromCharCode ∷ Write ∷ Line ∷ []

at_number : (which : HostFn) → slice_get in_order (number_of which) ≡ Some which
at_number Create = refl
at_number GetPrototypeOf = refl
at_number SetPrototypeOf = refl
at_number Keys = refl
at_number HasOwnProperty = refl
at_number Call = refl
at_number Apply = refl
at_number IsArray = refl
at_number Push = refl
at_number Slice = refl
at_number CharCodeAt = refl
at_number Substring = refl
at_number IndexOf = refl
at_number FromCharCode = refl
at_number Write = refl
at_number Line = refl

only : (a b : HostFn) (n : ℕ) → n ≡ number_of a → Some a ≡ Some b → n ≡ number_of b
only a b n e same = e ∙ ap number_of (let s : a ≡ b = cc in s)

of_number : (n : ℕ) (which : HostFn) → slice_get in_order n ≡ Some which → n ≡ number_of which
of_number zero w e = only Create w _ refl e
of_number (suc zero) w e = only GetPrototypeOf w _ refl e
of_number (suc (suc zero)) w e = only SetPrototypeOf w _ refl e
of_number (suc (suc (suc zero))) w e = only Keys w _ refl e
of_number (suc (suc (suc (suc zero)))) w e = only HasOwnProperty w _ refl e
of_number (suc (suc (suc (suc (suc zero))))) w e = only Call w _ refl e
of_number (suc (suc (suc (suc (suc (suc zero)))))) w e = only Apply w _ refl e
of_number (suc (suc (suc (suc (suc (suc (suc zero))))))) w e = only IsArray w _ refl e
of_number (suc (suc (suc (suc (suc (suc (suc (suc zero)))))))) w e = only Push w _ refl e
of_number (suc (suc (suc (suc (suc (suc (suc (suc (suc zero))))))))) w e = only Slice w _ refl e
of_number (suc (suc (suc (suc (suc (suc (suc (suc (suc (suc zero)))))))))) w e = only CharCodeAt w _ refl e
of_number (suc (suc (suc (suc (suc (suc (suc (suc (suc (suc (suc zero))))))))))) w e = only Substring w _ refl e
of_number (suc (suc (suc (suc (suc (suc (suc (suc (suc (suc (suc (suc zero)))))))))))) w e = only IndexOf w _ refl e
of_number (suc (suc (suc (suc (suc (suc (suc (suc (suc (suc (suc (suc (suc zero))))))))))))) w e = only FromCharCode w _ refl e
of_number (suc (suc (suc (suc (suc (suc (suc (suc (suc (suc (suc (suc (suc (suc zero)))))))))))))) w e = only Write w _ refl e
of_number (suc (suc (suc (suc (suc (suc (suc (suc (suc (suc (suc (suc (suc (suc (suc zero))))))))))))))) w e = only Line w _ refl e
of_number (suc (suc (suc (suc (suc (suc (suc (suc (suc (suc (suc (suc (suc (suc (suc (suc n)))))))))))))))) w e = cc

pub by_number : (result : Option HostFn) (n : ℕ) → result ≡ slice_get in_order n → (which : HostFn) → ((result ≡ Some which) ↔ (n ≡ number_of which))
by_number result n is which = (
  (λ e. of_number n which (sym is ∙ e)),
  (λ e. is ∙ (ap (slice_get in_order) e ∙ at_number which)),
)
