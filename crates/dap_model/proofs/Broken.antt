-- One broken dataset for each rule.
use Rattle.std.proofs.Common.{◌≡◌, ◌<◌, nat_lt, true, length, ◌∙◌, arith, ℕ, zero, suc, [], ◌∷◌, replicate, Some, None, codes, refl}
use Rattle.std.proofs.lemmas.Bool.Decides.{nat_tests}
use Rattle.dap_types.proofs.Faults.{length-places}
use Rattle.dap_types.specs.Model.{Member, scalar, array, structure, grid, sequence, members_of, count_all, Dataset}
use Rattle.dap_types.specs.WellFormed.{places_of, fault}
use Rattle.dap_types.specs.declared.declarations.BaseType.TheVariants.{Int32}
use Rattle.dap_types.specs.declared.unfit.Unfit.TheVariants.{Repeated, TooDeep, TooMany, BadGrid, BadSize}
use Rattle.dap_model.proofs.Files.{dataset, dim, array_of, column, lat, buoys, v, g, c}

well_formed : (fault buoys ≡ None) × (fault v ≡ None) × (fault g ≡ None) × (fault c ≡ None)
unfolding fault
well_formed = (refl, refl, refl, refl)

-- two members a
repeated : fault (dataset (codes "f") (scalar (column Int32 (codes "a")) ∷ scalar (column Int32 (codes "a")) ∷ [])) ≡ Some (Repeated 2)
unfolding fault
repeated = refl

-- a map with the name of the array
repeated_map : fault (dataset (codes "f") (grid (codes "g") (array_of Int32 (codes "lat") (dim (codes "lat") 2 ∷ [])) (lat ∷ []) ∷ [])) ≡ Some (Repeated 3)
unfolding fault
repeated_map = refl

-- two columns a of a Sequence, and two parts a of a Structure
repeated_column : fault (dataset (codes "f") (sequence (codes "s") (column Int32 (codes "a") ∷ column Int32 (codes "a") ∷ []) ∷ [])) ≡ Some (Repeated 3)
unfolding fault
repeated_column = refl

repeated_part : fault (dataset (codes "f") (structure (codes "s") (members_of (scalar (column Int32 (codes "a")) ∷ array lat ∷ scalar (column Int32 (codes "a")) ∷ [])) ∷ [])) ≡ Some (Repeated 4)
unfolding fault
repeated_part = refl

-- a map of two dimensions, a map too few, and a map of another size
long_map : fault (dataset (codes "f") (grid (codes "g") (array_of Int32 (codes "g") (dim (codes "lat") 2 ∷ [])) (array_of Int32 (codes "lat") (dim (codes "lat") 2 ∷ dim (codes "lon") 3 ∷ []) ∷ []) ∷ [])) ≡ Some (BadGrid 1)
unfolding fault
long_map = refl

few_maps : fault (dataset (codes "f") (grid (codes "g") (array_of Int32 (codes "g") (dim (codes "lat") 2 ∷ dim (codes "lon") 3 ∷ [])) (lat ∷ []) ∷ [])) ≡ Some (BadGrid 1)
unfolding fault
few_maps = refl

other_size : fault (dataset (codes "f") (grid (codes "g") (array_of Int32 (codes "g") (dim (codes "lat") 9 ∷ [])) (lat ∷ []) ∷ [])) ≡ Some (BadGrid 1)
unfolding fault
other_size = refl

-- no dimension, 33 of them, and one too large
no_dims : fault (dataset (codes "f") (array (array_of Int32 (codes "a") []) ∷ [])) ≡ Some (BadSize 1)
unfolding fault
no_dims = refl

many_dims : fault (dataset (codes "f") (array (array_of Int32 (codes "a") (replicate 33 (dim (codes "x") 1))) ∷ [])) ≡ Some (BadSize 1)
unfolding fault
many_dims = refl

large : fault (dataset (codes "f") (array (array_of Int32 (codes "a") (dim (codes "x") 2147483648 ∷ [])) ∷ [])) ≡ Some (BadSize 1)
unfolding fault
large = refl

-- a scalar inside so many structures
abbrev nested : ℕ → Member
nested zero = scalar (column Int32 (codes "a"))
nested (suc n) = structure (codes "s") (members_of (nested n ∷ []))

deep_enough : fault (dataset (codes "f") (nested 15 ∷ [])) ≡ None
unfolding fault
deep_enough = refl

too_deep : fault (dataset (codes "f") (nested 16 ∷ [])) ≡ Some (TooDeep 17)
unfolding fault
too_deep = refl

-- more than a million members
abbrev same : ℕ → Dataset
same n = dataset (codes "f") (replicate n (scalar (column Int32 (codes "a"))))

count-same : (n : ℕ) → count_all (members_of (replicate n (scalar (column Int32 (codes "a"))))) ≡ n
count-same zero = refl
count-same (suc n) = omega (arith, count-same n)

too_many : (n : ℕ) → 1000000 < n → fault (same n) ≡ Some TooMany
unfolding fault
too_many n more =
    let test : nat_lt 1000000 (length (places_of (same n))) ≡ true = rw (length-places (same n).members 1 [] ∙ count-same n) (grind (arith, nat_tests)) in rw test
