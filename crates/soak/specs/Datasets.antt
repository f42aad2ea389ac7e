-- The dataset of the generated file, and what the constraint leaves of it, written out.
use Rattle.std.specs.Prelude.{ℕ, ◌+◌, ◌/◌, List, [], ◌∷◌, Some, codes}
use Rattle.dap_types.specs.Model.{Dataset, array, member, no_members}
use Rattle.dap_types.specs.declared.declarations.ArrayDecl.{ArrayDecl}
use Rattle.dap_types.specs.declared.declarations.BaseType.{BaseType}
use Rattle.dap_types.specs.declared.declarations.BaseType.TheVariants.{Int16, Int32}
use Rattle.dap_types.specs.declared.declarations.Dim.{Dim}
use Rattle.soak.specs.Asked.{file_name}

abbrev pub dim : List ℕ → ℕ → Dim
dim name size = record { name = Some name; size = size }

abbrev pub over : List ℕ → BaseType → ℕ → ℕ → ℕ → ArrayDecl
over name base t y x = record { name = name; base = base; dims = dim (codes "t") t ∷ dim (codes "y") y ∷ dim (codes "x") x ∷ [] }

-- the dataset of the file
abbrev pub soak_dataset : ℕ → Dataset
soak_dataset records = record {
  name = file_name;
  members = member (array (over (codes "s") Int16 records 32 32)) (member (array (over (codes "i") Int32 records 32 32)) no_members);
}

-- every other record of s, and of i all records; so much of each
abbrev pub soak_left : ℕ → Dataset
soak_left last = record {
  name = file_name;
  members = member (array (over (codes "s") Int16 (last / 2 + 1) 32 11)) (member (array (over (codes "i") Int32 (last + 1) 1 32)) no_members);
}
