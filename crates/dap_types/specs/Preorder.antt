-- The members of a dataset in preorder: a member comes before its parts (DAP 2.0, variables).
use Rattle.std.specs.Prelude.{List, [], ◌∷◌, ◌++◌, map}
use Rattle.dap_types.specs.Model.{Member, scalar, array, structure, grid, sequence, Members, no_members, member}

-- a member and its parts: a Grid's array comes before its maps
abbrev mutual
  pub preorder : Member → List Member
  preorder (scalar column) = scalar column ∷ []
  preorder (array a) = array a ∷ []
  preorder (structure name parts) = structure name parts ∷ preorder_all parts
  preorder (grid name a maps) = grid name a maps ∷ array a ∷ map array maps
  preorder (sequence name columns) = sequence name columns ∷ map scalar columns

  pub preorder_all : Members → List Member
  preorder_all no_members = []
  preorder_all (member m ms) = preorder m ++ preorder_all ms
