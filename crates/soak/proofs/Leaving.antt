-- The dataset of the generated file, and what the constraint leaves of it.
use Rattle.std.proofs.Common.{◌≡◌, ℕ, ◌-◌, ◌/◌, ◌≤◌, true, false, refl, arith, leb, ltb, None}
use Rattle.std.proofs.lemmas.Bool.Decides.{nat_tests}
use Rattle.dap_model.specs.Filter.{constrained}
use Rattle.file_names.specs.Names.{segment}
use Rattle.grid_projection.specs.Marks.{marks}
use Rattle.grid_projection.specs.Resolved.{cause}
use Rattle.netcdf_source.specs.Mapping.{are_small, coordinate_at, dataset_of, differ, element_dimensions, element_size, has_texts, is_grid, is_offered, member_of, name_at, own_dimension}
use Rattle.netcdf_source.specs.Parts.{length_at}
use Rattle.soak.specs.Asked.{file_name, soak_constraint}
use Rattle.soak.specs.Header.{soak_contents}
use Rattle.soak.specs.Datasets.{soak_dataset, soak_left}

pub dataset-is : (records : ℕ) → records ≤ 4096 → dataset_of (soak_contents records) file_name ≡ soak_dataset records
unfolding are_small coordinate_at differ element_dimensions element_size has_texts is_grid is_offered member_of name_at own_dimension length_at segment
dataset-is records few =
    let small : leb records 2147483647 ≡ true = grind (arith, nat_tests) in
    simp (small) refl

pub left-is : (records : ℕ) → constrained (marks (soak_dataset records) (soak_constraint (records - 1))) (soak_dataset records) ≡ soak_left (records - 1)
left-is records = let none : records - 1 - 0 ≡ records - 1 = omega arith in
    let whole : (records - 1) / 1 ≡ records - 1 = omega arith in
    simp (none, whole) refl

pub no-cause : (records : ℕ) → 1 ≤ records → records ≤ 4096 → cause (soak_dataset records) (soak_constraint (records - 1)) ≡ None
no-cause records some few =
    let up : ltb (records - 1) 0 ≡ false = grind (arith, nat_tests) in
    let below : leb records (records - 1) ≡ false = grind (arith, nat_tests) in
    simp (up, below) refl
