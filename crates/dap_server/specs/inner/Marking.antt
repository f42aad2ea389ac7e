-- Why a query is refused on a dataset, by its text or by what it names.
use Rattle.std.specs.Prelude.{◌≡◌, ◌⊎◌, ℕ, List, Some, Err}
use Rattle.dap_types.specs.Model.{Dataset}
use Rattle.dap_errors.specs.declared.cause.Cause.{Cause}
use Rattle.constraint_parse.specs.Values.{Spells}
use Rattle.constraint_parse.specs.declared.constraint.Constraint.{Constraint}
use Rattle.grid_projection.specs.Resolved.{cause}
use Rattle.dap_server.specs.Results.{Reads}

abbrev pub IsRefusedOn : Dataset → List ℕ → Cause → Type 0
IsRefusedOn d query why = Reads query (Err why) ⊎ ((c : Constraint) × Spells query c × (cause d c ≡ Some why))
