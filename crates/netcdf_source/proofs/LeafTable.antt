-- The variable of a leaf, by the table of the leaves.
use Rattle.std.proofs.Common.{◌≡◌, ℕ, zero, suc, ◌<◌, length, get_or, arith, Bool, true, false, cond, List, [], ◌∷◌, map, Option, Some, None, refl, sym, ap, ◌∙◌}
use Rattle.std.specs.Prelude.{option_map, option_and_then, slice_get}
use Rattle.std.specs.Option.{option_map_or}
use Rattle.std.proofs.lemmas.Option.{slice_get-map}
use Rattle.dap_types.specs.declared.slabs.Layout.{Layout}
use Rattle.netcdf_source.specs.Layouts.{layout_of}
use Rattle.netcdf_source.specs.Mapping.{base_of, is_offered, leaf_in, leaves_from, leaf_variable}
use Rattle.dap_types.specs.declared.declarations.BaseType.{BaseType}
use Rattle.netcdf_source.specs.inner.Told.{no_layout, told_layout}
use Rattle.netcdf_source.specs.declared.header.Contents.{Contents}
use Rattle.netcdf_source.specs.declared.header.Variable.{Variable}

variable_is : (c : Contents) (leaves : List (Option ℕ)) (leaf : ℕ) (found : Option ℕ) → leaves ≡ leaves_from c 0 c.variables → leaf_in leaves leaf ≡ found → leaf_variable c leaf ≡ option_and_then (slice_get c.variables) found
unfolding leaf_variable
variable_is c leaves leaf found e is = ap (option_and_then (slice_get c.variables)) (ap (λ ls. leaf_in ls leaf) (sym e) ∙ is)

-- a header's layout of a variable that is offered is that of the variable
told_is : (c : Contents) (o : Option Variable) → ((v : Variable) → o ≡ Some v → is_offered c v ≡ true) → option_map (told_layout c) o ≡ option_map (layout_of c) o
unfolding told_layout
told_is c None told = refl
told_is c (Some v) told = ap Some (is (is_offered c v) (told v refl))
  where
    is : (b : Bool) → b ≡ true → cond b (layout_of c v) no_layout ≡ layout_of c v
    is true e = refl
    is false e = absurd cc

pub layout_found : (c : Contents) (leaves : List (Option ℕ)) (layouts : List Layout) (leaf number : ℕ) (r : Option Layout) → ((v : Variable) → slice_get c.variables number ≡ Some v → is_offered c v ≡ true)
    → leaves ≡ leaves_from c 0 c.variables → layouts ≡ map (told_layout c) c.variables → leaf_in leaves leaf ≡ Some number → r ≡ slice_get layouts number → r ≡ option_map (layout_of c) (leaf_variable c leaf)
layout_found c leaves layouts leaf number r told e l is at =
    at ∙ ap (λ ls. slice_get ls number) l ∙ slice_get-map (told_layout c) c.variables number ∙ told_is c (slice_get c.variables number) told
    ∙ ap (option_map (layout_of c)) (sym (variable_is c leaves leaf (Some number) e is))

pub layout_none : (c : Contents) (leaves : List (Option ℕ)) (leaf : ℕ) → leaves ≡ leaves_from c 0 c.variables → leaf_in leaves leaf ≡ None → option_map (layout_of c) (leaf_variable c leaf) ≡ None
layout_none c leaves leaf e is = ap (option_map (layout_of c)) (variable_is c leaves leaf None e is)

-- a test of a leaf's variable
pub test_found : (p : Variable → Bool) (c : Contents) (leaves : List (Option ℕ)) (leaf number : ℕ) (r : Bool)
    → leaves ≡ leaves_from c 0 c.variables → leaf_in leaves leaf ≡ Some number → r ≡ option_map_or p (slice_get c.variables number) false → r ≡ option_map_or p (leaf_variable c leaf) false
test_found p c leaves leaf number r e is at = at ∙ ap (λ o. option_map_or p o false) (sym (variable_is c leaves leaf (Some number) e is))

pub test_none : (p : Variable → Bool) (c : Contents) (leaves : List (Option ℕ)) (leaf : ℕ) → leaves ≡ leaves_from c 0 c.variables → leaf_in leaves leaf ≡ None → option_map_or p (leaf_variable c leaf) false ≡ false
test_none p c leaves leaf e is = ap (λ o. option_map_or p o false) (variable_is c leaves leaf None e is)

pub base_found : (c : Contents) (leaves : List (Option ℕ)) (leaf number : ℕ) (r : Option BaseType)
    → leaves ≡ leaves_from c 0 c.variables → leaf_in leaves leaf ≡ Some number → r ≡ option_map (λ v. base_of v.external_type) (slice_get c.variables number) → r ≡ option_map (λ v. base_of v.external_type) (leaf_variable c leaf)
base_found c leaves leaf number r e is at = at ∙ ap (option_map (λ v. base_of v.external_type)) (sym (variable_is c leaves leaf (Some number) e is))

pub base_none : (c : Contents) (leaves : List (Option ℕ)) (leaf : ℕ) → leaves ≡ leaves_from c 0 c.variables → leaf_in leaves leaf ≡ None → ◌≡◌ {A = Option BaseType} (option_map (λ v. base_of v.external_type) (leaf_variable c leaf)) None
base_none c leaves leaf e is = ap (option_map (λ v. base_of v.external_type)) (variable_is c leaves leaf None e is)

-- what stands at an index of a list that is mapped
pub mapped_at : {X Y : Type 0} (f : X → Y) (xs : List X) (ys : List Y) (i : ℕ) (x : X) (y : Y) → ys ≡ map f xs → i < length xs → get_or ys i y ≡ f (get_or xs i x)
mapped_at {X = X} {Y = Y} f xs ys i x y e lt = ap (λ zs. get_or zs i y) e ∙ go xs i lt
  where
    go : (zs : List X) (n : ℕ) → n < length zs → get_or (map f zs) n y ≡ f (get_or zs n x)
    go [] n l = absurd (omega arith)
    go (z ∷ zs) zero l = refl
    go (z ∷ zs) (suc n) l = go zs n (omega arith)
