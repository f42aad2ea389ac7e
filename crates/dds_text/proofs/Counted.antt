-- The number of members that have begun, from state to state.
use Rattle.std.proofs.Common.{◌≡◌, ℕ, ◌+◌, List, [], ◌∷◌, ◌++◌, arith, length-append}
use Rattle.dap_types.specs.Model.{Member, count, count_all, members_of}
use Rattle.dap_types.specs.declared.declarations.ArrayDecl.{ArrayDecl}
use Rattle.dap_types.specs.declared.declarations.Column.{Column}
use Rattle.dds_text.specs.inner.Held.{IsCounted, own_number}
use Rattle.dds_text.specs.inner.States.{Levels, top, within, variable, column, grid_map, add, next_number, behind_level}

count_all-last : (ms : List Member) (m : Member) → count_all (members_of (ms ++ m ∷ [])) ≡ count_all (members_of ms) + count m
count_all-last [] m = omega arith
count_all-last (l ∷ ms) m = omega (arith, count_all-last ms m)

pub next_number-add : (l : Levels) (m : Member) → next_number (add l m) ≡ next_number l + count m
next_number-add (top ms) m = omega (arith, count_all-last ms m)
next_number-add (within outer ms) m = omega (arith, count_all-last ms m)

pub column_number : (l : Levels) (cs : List Column) (c : Column) → own_number l (column (cs ++ c ∷ [])) ≡ own_number l (column cs) + 1
column_number l cs c = omega (arith, length-append cs (c ∷ []))

pub map_number : (l : Levels) (a : ArrayDecl) (maps : List ArrayDecl) (m : ArrayDecl) → own_number l (grid_map a (maps ++ m ∷ [])) ≡ own_number l (grid_map a maps) + 1
map_number l a maps m = omega (arith, length-append maps (m ∷ []))

-- behind the `}` of a level
pub left_counted : (l : Levels) (n : ℕ) → n + 1 ≡ own_number l variable → IsCounted n (behind_level l)
left_counted (top ms) n e = tt
left_counted (within outer ms) n e = omega (arith, e)

pub ruleset counts = (next_number-add, column_number, map_number, left_counted)
