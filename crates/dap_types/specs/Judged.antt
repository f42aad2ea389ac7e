-- What a walk over members answers: their first fault, or the number behind the last.
use Rattle.std.specs.Prelude.{◌≡◌, ℕ, ◌+◌, ◌⊎◌, Bool, List, [], ◌∷◌, length, nat_eq, Some, None, Result, Ok, Err}
use Rattle.std.specs.Cmp.Lexicographic.{pointwise}
use Rattle.dap_types.specs.Model.{Member, scalar, array, structure, grid, sequence, Members, no_members, name_of, sizes}
use Rattle.dap_types.specs.NameSet.{HasAlso}
use Rattle.dap_types.specs.WellFormed.{Place, place, fault_at, first_fault}
use Rattle.dap_types.specs.declared.declarations.ArrayDecl.{ArrayDecl}
use Rattle.dap_types.specs.declared.unfit.Unfit.{Unfit}
use Rattle.dap_types.specs.declared.unfit.Unfit.TheVariants.{Memory}

-- places of which the first has number n
abbrev pub Judges : List Place → ℕ → Result ℕ Unfit → Type 0
Judges ps n (Ok next) = (next ≡ n + length ps) × (first_fault n ps ≡ None)
Judges ps n (Err e) = (e ≡ Memory) ⊎ (first_fault n ps ≡ Some e)

-- one member, given the names before it on its level, in any order; its name is then one of them
abbrev pub JudgesOne : ℕ → ℕ → List (List ℕ) → Member → List (List ℕ) → Result (Unit {0}) Unfit → Type 0
JudgesOne n depth earlier m later (Ok u) = HasAlso earlier (name_of m) later × (fault_at n (place depth earlier m) ≡ None)
JudgesOne n depth earlier m later (Err e) = (e ≡ Memory) ⊎ (fault_at n (place depth earlier m) ≡ Some e)

-- a map for a dimension of a size, and for each dimension
abbrev pub is_mapped : ArrayDecl → ℕ → Bool
is_mapped m n = pointwise nat_eq (sizes m) (n ∷ [])

abbrev pub are_mapped : List ArrayDecl → List ℕ → Bool
are_mapped maps ns = pointwise is_mapped maps ns

-- the parts of a Structure, and none of any other member
abbrev pub inner : Member → Members
inner (structure name parts) = parts
inner (scalar column) = no_members
inner (array a) = no_members
inner (grid name a maps) = no_members
inner (sequence name columns) = no_members
