-- The layouts that a header holds: of a variable that is not offered none is told.
use Rattle.std.specs.Prelude.{ℕ, ◌≤◌, All, List, [], if◌then◌else◌}
use Rattle.dap_types.specs.Limits.{most_elements}
use Rattle.dap_types.specs.declared.slabs.Layout.{Layout}
use Rattle.netcdf_source.specs.Layouts.{layout_of}
use Rattle.netcdf_source.specs.Mapping.{is_offered, size_at}
use Rattle.netcdf_source.specs.declared.header.Contents.{Contents}
use Rattle.netcdf_source.specs.declared.header.Variable.{Variable}

abbrev pub no_layout : Layout
no_layout = record { base = 0; steps = []; size = 0 }

unfoldable pub told_layout : Contents → Variable → Layout
told_layout c v = if is_offered c v then layout_of c v else no_layout

-- the sizes of these dimensions are those of an array
unfoldable pub AreSmall : Contents → List ℕ → Type 0
AreSmall c ids = All (λ i. size_at c i ≤ most_elements) ids
