-- A dataset without a fault is well formed.
use Rattle.std.proofs.Common.{◌≡◌, Option, Some, None, IsTrue, refl, ap}
use Rattle.std.specs.Prelude.{is_none}
use Rattle.dap_types.proofs.Rules.{no_fault_where_well_formed, well_formed_without_fault}
use Rattle.dap_types.specs.Model.{Dataset}
use Rattle.dap_types.specs.WellFormed.{IsWellFormed, fault}

no_some : {V : Type 0} (o : Option V) → IsTrue (is_none o) → o ≡ None
no_some None none = refl
no_some (Some v) none = cc none

pub well_formed : (d : Dataset) → IsTrue (is_none (fault d)) → IsWellFormed d
well_formed d none = well_formed_without_fault d (no_some (fault d) none)

pub faultless : (d : Dataset) → IsWellFormed d → IsTrue (is_none (fault d))
faultless d is = ap is_none (no_fault_where_well_formed d is)
