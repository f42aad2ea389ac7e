-- Rows of equally spaced elements.
use Rattle.std.specs.Prelude.{ℕ, ◌+◌, ◌-◌, ◌*◌, ◌/◌, ◌%◌, max}
use Rattle.hyperslab_plan.specs.Axes.{rows_of, row_at}
use Rattle.hyperslab_plan.specs.declared.shape.Shape.{Shape}

-- how many elements there are
abbrev pub elements : Shape → ℕ
elements s = rows_of s.outer.items * s.per_row

-- where the element at p stands, counted from the first one
abbrev pub rel_at : Shape → ℕ → ℕ
rel_at s p = row_at s.outer.items (p / s.per_row) + p % s.per_row * s.jump

-- what reading each row from its first to its last element takes at most
abbrev pub row_cost : Shape → ℕ → ℕ
row_cost s size = rows_of s.outer.items * ((s.per_row - 1) * max s.jump size + size)
