-- The records of calls, name by name.
use Rattle.std.proofs.Common.{◌≡◌, ℕ, suc, ◌+◌, ◌<◌, ◌≤◌, Bool, true, false, List, [], ◌∷◌, ◌++◌, length, drop, get_or, slice_get, Option, None, Some, ⊎_elim, refl, sym, ap, ap₂, ◌∙◌, arith, append_assoc, append-nil, drop_of_length-le, is_some}
use Rattle.std.proofs.lemmas.List.{length-append}
use Rattle.std.proofs.lemmas.Option.{slice_get_past, slice_get-get_or}
use Rattle.std.proofs.Math.Seq.{drop-append_seam}
use Rattle.std.proofs.lemmas.Bool.{cases_lt}
use Rattle.es5_tree.specs.Values.{Text, Val, Undefined, Obj}
use Rattle.es5_evaluation.specs.Values.{or_undefined}
use Rattle.es5_evaluation.specs.Declared.{arguments_name, locals, own_code}
use Rattle.es5_evaluation.specs.Evaluate.{activation, bound_params, own_name, undefined_variables}
use Rattle.es5_code.specs.declared.node.Node.{Node}
use Rattle.es5_code.specs.declared.node.FunctionForm.{FunctionForm}
use Rattle.es5_code.specs.Sound.{Declares}
use Rattle.es5_code.specs.Trees.{arguments_if, code_of}
use Rattle.es5_store.specs.declared.store.Record.{Record}
use Rattle.es5_store.specs.Store.{record_of}
use Rattle.es5_making.specs.Calls.{argument_at, arguments_bound}
use Rattle.es5_making.proofs.Holding.{at_index}

-- ---- parameters

bound_one : (name : Text) (names : List Text) (v : Val) (vs : List Val) → bound_params (name ∷ names) (v ∷ vs) ≡ (name, v) ∷ bound_params names vs
unfolding bound_params
bound_one name names v vs = refl

bound_without : (name : Text) (names : List Text) → bound_params (name ∷ names) [] ≡ (name, Undefined) ∷ bound_params names []
unfolding bound_params
bound_without name names = refl

-- with an argument, or without one
one_given : (name : Text) (names : List Text) (i : ℕ) (vs : List Val) → i < length vs → bound_params (name ∷ names) (drop i vs) ≡ (name, argument_at vs i) ∷ bound_params names (drop (i + 1) vs)
one_given name names i vs lt =
    let at : slice_get vs i ≡ Some (get_or vs i Undefined) = slice_get-get_or vs i Undefined lt in
    ap (bound_params (name ∷ names)) (at_index vs i (get_or vs i Undefined) at lt)
    ∙ (bound_one name names (get_or vs i Undefined) (drop (i + 1) vs) ∙ ap (λ o. (name, or_undefined o) ∷ bound_params names (drop (i + 1) vs)) (sym at))

one_missing : (name : Text) (names : List Text) (i : ℕ) (vs : List Val) → length vs ≤ i → bound_params (name ∷ names) (drop i vs) ≡ (name, argument_at vs i) ∷ bound_params names (drop (i + 1) vs)
one_missing name names i vs le =
    ap (bound_params (name ∷ names)) (drop_of_length-le vs le)
    ∙ (bound_without name names
    ∙ ap₂ (λ o ws. (name, or_undefined o) ∷ bound_params names ws) (sym (slice_get_past vs i le)) (sym (drop_of_length-le vs {i = i + 1} (omega (arith, le)))))

one_bound : (name : Text) (names : List Text) (i : ℕ) (vs : List Val) → bound_params (name ∷ names) (drop i vs) ≡ (name, argument_at vs i) ∷ bound_params names (drop (i + 1) vs)
one_bound name names i vs = ⊎_elim (one_given name names i vs) (one_missing name names i vs) (cases_lt i (length vs))

pub bound_more : (params : List Text) (args : List Val) (i : ℕ) (name : Text) (v : Val) (xs ys whole : List (Text × Val)) → slice_get params i ≡ Some name → i < length params → v ≡ argument_at args i → ys ≡ xs ++ (name, v) ∷ [] → xs ++ bound_params (drop i params) (drop i args) ≡ whole → ys ++ bound_params (drop (i + 1) params) (drop (i + 1) args) ≡ whole
bound_more params args i name v xs ys whole at lt e f h =
    let rest = bound_params (drop (i + 1) params) (drop (i + 1) args) in
    ap (λ zs. zs ++ rest) f
    ∙ (append_assoc xs ((name, v) ∷ []) rest
    ∙ (ap (λ w. xs ++ (name, w) ∷ rest) e
    ∙ (ap (λ zs. xs ++ zs) (sym (one_bound name (drop (i + 1) params) i args))
    ∙ (ap (λ names. xs ++ bound_params names (drop i args)) (sym (at_index params i name at lt)) ∙ h))))

none_bound : (vs : List Val) → bound_params [] vs ≡ []
unfolding bound_params
none_bound vs = refl

pub bound_all : (params : List Text) (args : List Val) (i : ℕ) (xs whole : List (Text × Val)) → length params ≤ i → xs ++ bound_params (drop i params) (drop i args) ≡ whole → xs ≡ whole
bound_all params args i xs whole le h =
    sym (ap (λ names. xs ++ bound_params names (drop i args)) (drop_of_length-le params le) ∙ (ap (λ zs. xs ++ zs) (none_bound (drop i args)) ∙ append-nil xs)) ∙ h

pub as_many : (params : List Text) (args : List Val) → length (bound_params params args) ≡ length params
unfolding bound_params
as_many [] vs = refl
as_many (name ∷ names) [] = ap suc (as_many names [])
as_many (name ∷ names) (v ∷ vs) = ap suc (as_many names vs)

-- ---- the other variables

pub declared_more : (names : List Text) (i : ℕ) (name : Text) (xs ys whole : List (Text × Val)) → slice_get names i ≡ Some name → i < length names → ys ≡ xs ++ (name, Undefined) ∷ [] → xs ++ undefined_variables (drop i names) ≡ whole → ys ++ undefined_variables (drop (i + 1) names) ≡ whole
declared_more names i name xs ys whole at lt f h =
    let rest = undefined_variables (drop (i + 1) names) in
    ap (λ zs. zs ++ rest) f ∙ (append_assoc xs ((name, Undefined) ∷ []) rest ∙ (ap (λ more. xs ++ undefined_variables more) (sym (at_index names i name at lt)) ∙ h))

pub declared_all : (names : List Text) (i : ℕ) (xs whole : List (Text × Val)) → length names ≤ i → xs ++ undefined_variables (drop i names) ≡ whole → xs ≡ whole
declared_all names i xs whole le h = sym (ap (λ more. xs ++ undefined_variables more) (drop_of_length-le names le) ∙ append-nil xs) ∙ h

-- ---- the whole record

-- as many names are bound as stand before the other variables
as_listed : (b : Bool) (arguments : Option ℕ) → b ≡ is_some arguments → length (arguments_bound arguments) ≡ length (arguments_if b)
as_listed true None e = cc
as_listed false (Some o) e = cc
as_listed false None e = refl
as_listed true (Some o) e = refl

left_of : (front : List (Text × Val)) (names others : List Text) (k : ℕ) → k ≡ length front → length front ≡ length names → drop k (names ++ others) ≡ others
left_of front names others k n e = ap (λ i. drop i (names ++ others)) (n ∙ e) ∙ drop-append_seam names others

pub whole_record : (T : List Node) (f : FunctionForm) (x : Record) (o outer : ℕ) (args : List Val) (arguments : Option ℕ) (bound : List (Text × Val)) (known : ℕ) → Declares T f → f.names_arguments ≡ is_some arguments
    → bound ≡ bound_params f.params args ++ arguments_bound arguments → known ≡ length bound → x.variables ≡ bound ++ undefined_variables (drop known f.variables) → x.constants ≡ own_name f.name o → x.outer ≡ Some outer
    → record_of x ≡ activation (code_of T f) o outer args (arguments_bound arguments)
unfolding activation
whole_record T f x o outer args arguments bound known d names e n vars consts out =
    let b = (own_code (code_of T f).body).arguments in
    let front : List (Text × Val) = bound_params f.params args ++ arguments_bound arguments in
    let listed : List Text = f.params ++ arguments_if b in
    let others : List Text = locals f.params (code_of T f).body in
    let extra : length (arguments_bound arguments) ≡ length (arguments_if b) = as_listed b arguments (sym d.arguments ∙ names) in
    let same : length front ≡ length listed = omega (arith, length-append (bound_params f.params args) (arguments_bound arguments), as_many f.params args, length-append f.params (arguments_if b), extra) in
    let left : drop known f.variables ≡ others = ap (drop known) d.variables ∙ left_of front listed others known (n ∙ ap length e) same in
    let variables : x.variables ≡ front ++ undefined_variables others = vars ∙ ap₂ (λ a c. a ++ undefined_variables c) e left in
    rw (variables, consts, out) refl

pub bound_object : (xs ys : List (Text × Val)) (name : Text) (o : ℕ) (arguments : Option ℕ) → arguments ≡ Some o → name ≡ arguments_name → ys ≡ xs ++ (name, Obj o) ∷ [] → ys ≡ xs ++ arguments_bound arguments
bound_object xs ys name o arguments is e f = f ∙ (ap (λ n. xs ++ (n, Obj o) ∷ []) e ∙ ap (λ a. xs ++ arguments_bound a) (sym is))
