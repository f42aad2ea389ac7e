-- What numbering the members of a dataset by place, by path and by counting promise of one another.
use Rattle.std.specs.Prelude.{◌≡◌, ℕ, ◌+◌, ◌⊎◌, List, [], ◌∷◌, length, map, Some, None, slice_get}
use Rattle.std.specs.List.{last_or}
use Rattle.dap_types.specs.Model.{Member, scalar, array, structure, grid, sequence, Members, no_members, member, members_of, Dataset, name_of, count_all}
use Rattle.dap_types.specs.WellFormed.{IsWellFormed, places_of, paths, member_at, number_of}

-- the parts of a member: a Grid's array comes before its maps
abbrev pub parts_of : Member → Members
parts_of (structure name parts) = parts
parts_of (grid name a maps) = members_of (map array (a ∷ maps))
parts_of (sequence name columns) = members_of (map scalar columns)
parts_of m = no_members

-- one of some members
abbrev pub IsAmong : Member → Members → Type 0
IsAmong m no_members = ⊥
IsAmong m (member x xs) = (m ≡ x) ⊎ IsAmong m xs

-- a path names a member among these or below one of them: each name is that of a part of the one before
abbrev pub Names : List (List ℕ) → Members → Member → Type 0
Names [] ms m = ⊥
Names (name ∷ []) ms m = IsAmong m ms × (name_of m ≡ name)
Names (name ∷ next ∷ rest) ms m = (whole : Member) × IsAmong whole ms × (name_of whole ≡ name) × Names (next ∷ rest) (parts_of whole) m

-- the path of n is that of member n: it ends with its name
abbrev pub PathsNameMembers : Type 0
PathsNameMembers = (d : Dataset) → map (last_or None) (paths d.members) ≡ map (λ p. Some (name_of p.variable)) (places_of d)

-- there are as many members as counting gives
abbrev pub MembersAreCounted : Type 0
MembersAreCounted = (d : Dataset) → length (places_of d) ≡ count_all d.members

-- the number of a path is that of a member that the path names
abbrev pub NumbersAreOfNamed : Type 0
NumbersAreOfNamed = (d : Dataset) (path : List (List ℕ)) (n : ℕ) → number_of d path ≡ Some n → (m : Member) × (member_at d n ≡ Some m) × Names path d.members m

-- in a well-formed dataset a path names no other
abbrev pub NamedHaveNumbers : Type 0
NamedHaveNumbers = (d : Dataset) (path : List (List ℕ)) (m : Member) → IsWellFormed d → Names path d.members m → (n : ℕ) × (number_of d path ≡ Some n) × (member_at d n ≡ Some m)

-- in a well-formed dataset the path of each member has its number
abbrev pub PathsHaveNumbers : Type 0
PathsHaveNumbers = (d : Dataset) (k : ℕ) (path : List (List ℕ)) → IsWellFormed d → slice_get (paths d.members) k ≡ Some path → number_of d path ≡ Some (k + 1)
