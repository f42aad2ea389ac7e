-- The slabs that a constraint can have.
use Rattle.std.specs.Prelude.{pos, negsuc, Bool, true, false, ◌&&◌, Option, Some, None}
use Rattle.std.specs.List.{list_all}
use Rattle.constraint_parse.specs.declared.constraint.Number.{Number}
use Rattle.constraint_parse.specs.declared.constraint.Number.TheVariants.{Small, Big}
use Rattle.constraint_parse.specs.declared.constraint.RawSlab.{RawSlab}
use Rattle.constraint_parse.specs.declared.constraint.Item.{Item}
use Rattle.constraint_parse.specs.declared.constraint.Item.TheVariants.{Path, Call}

-- a number that is not negative
abbrev pub is_index : Number → Bool
is_index (Small (pos n)) = true
is_index (Small (negsuc n)) = false
is_index Big = true

-- one in the middle stands only beside a last one
abbrev pub ends_fit : Option Number → Option Number → Bool
ends_fit None None = true
ends_fit None (Some last) = is_index last
ends_fit (Some middle) None = false
ends_fit (Some middle) (Some last) = is_index middle && is_index last

-- the numbers are not negative
abbrev pub slab_fits : RawSlab → Bool
slab_fits s = is_index s.first && ends_fit s.middle s.last

-- the slabs of an item are such
abbrev pub has_slabs : Item → Bool
has_slabs (Path steps) = list_all (λ s. list_all slab_fits s.slabs) steps
has_slabs Call = true
