-- The values of a cut variable stand at the picked places.
use Rattle.std.proofs.Common.{◌≡◌, ℕ, false, List, [], ◌∷◌, map, take, drop, refl, sym, ap, ◌∙◌}
use Rattle.std.specs.List.{range_with_len}
use Rattle.dap_model.specs.Cutting.{cut}
use Rattle.dap_model.specs.Fits.{values_in}
use Rattle.hyperslab_plan.proofs.LawLemmas.{cuts_are_placed as placed}
use Rattle.hyperslab_plan.specs.Plans.{place_of, places, size_in, total_of}
use Rattle.netcdf_source.proofs.Fitting.{values_are_placed}
use Rattle.netcdf_source.proofs.Offered.{offered}
use Rattle.netcdf_source.proofs.Shaped.{leaf_offered}
use Rattle.netcdf_source.specs.Layouts.{element_sizes, steps_of}
use Rattle.netcdf_source.specs.Mapping.{base_of, is_long, element_size}
use Rattle.netcdf_source.specs.Values.{value_of}
use Rattle.netcdf_source.specs.declared.external_type.ExternalType.{ExternalType}
use Rattle.netcdf_source.specs.declared.external_type.ExternalType.TheVariants.{Byte, Char, Short, Int, Float, Double, UByte, UShort, UInt, Int64, UInt64}
use Rattle.xdr_encode.proofs.Inside.{slab_steps}
use Rattle.xdr_encode.specs.Elements.{element_value, value_in}
use Rattle.xdr_encode.specs.Placed.{value_at, CutsArePlaced, PlansCut}

pub cuts_are_placed : CutsArePlaced
cuts_are_placed c file leaf v slabs h is within =
    ap (λ t. values_in (cut slabs t)) (values_are_placed c file leaf v h.1 is)
    ∙ placed slabs (element_sizes c v) (steps_of c v) v.begin (value_at c file v) within (slab_steps c v slabs within)

-- an element's value is that of its base type, where DAP 2.0 has its type
base-value : (t : ExternalType) (bytes : List ℕ) → is_long t ≡ false → value_of t bytes ≡ element_value (base_of t) bytes
base-value Byte bytes told = refl
base-value Char bytes told = refl
base-value Short bytes told = refl
base-value Int bytes told = refl
base-value Float bytes told = refl
base-value Double bytes told = refl
base-value UByte bytes told = refl
base-value UShort bytes told = refl
base-value UInt bytes told = refl
base-value Int64 bytes told = absurd cc
base-value UInt64 bytes told = absurd cc

same-made : {X Y : Type 0} (f : ℕ → Y) (g : X → Y) (h : ℕ → X) → ((k : ℕ) → f k ≡ g (h k)) → (ks : List ℕ) → map f ks ≡ map g (map h ks)
same-made f g h same [] = refl
same-made f g h same (k ∷ ks) = ap (λ y. y ∷ map f ks) (same k) ∙ ap (λ ys. g (h k) ∷ ys) (same-made f g h same ks)

pub plans_cut : PlansCut
unfolding places
plans_cut c file leaf v slabs plan h is within of_plan =
    same-made (value_in plan file) (value_at c file v) (place_of plan) here (range_with_len 0 (total_of plan))
    ∙ ap (map (value_at c file v)) of_plan.places ∙ sym (cuts_are_placed c file leaf v slabs h is within)
  where
    here : (p : ℕ) → value_in plan file p ≡ value_at c file v (place_of plan p)
    here p =
        ap (λ b. element_value b (take (size_in plan) (drop (place_of plan p) file))) of_plan.base
        ∙ ap (λ n. element_value (base_of v.external_type) (take n (drop (place_of plan p) file))) of_plan.size
        ∙ sym (base-value v.external_type (take (element_size c v) (drop (place_of plan p) file)) (offered c v (leaf_offered c leaf v is)).short)
