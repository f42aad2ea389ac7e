-- The names of the files that are joined (this project's): those that a target may have, of netCDF files.
use Rattle.std.specs.Prelude.{ℕ, Bool, ◌&&◌, List, length, nat_eq, nat_lt, codes}
use Rattle.std.specs.List.{ends_with}
use Rattle.target_names.specs.Names.{is_name}
use Rattle.file_names.specs.Names.{segment}

-- the last segment ends with `.nc` behind at least one byte
unfoldable pub is_netcdf : List ℕ → Bool
is_netcdf name = nat_lt 3 (length (segment name)) && ends_with nat_eq (segment name) (codes ".nc")

unfoldable pub is_member_name : List ℕ → Bool
is_member_name name = is_name name && is_netcdf name
