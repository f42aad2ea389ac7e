use Rattle.std.proofs.Common.{◌≡◌, ℕ, List, Result, Ok, Err, IfOk, sym, subst}
use Rattle.dap_types.specs.View.{dataset_view}
use Rattle.dap_types.specs.WellFormed.{IsWellFormed}
use Rattle.dap_types.specs.declared.declarations.Dataset.{Dataset}
use Rattle.dap_types.specs.declared.memory.Memory.{Memory}
use Rattle.netcdf_source.specs.Mapping.{dataset_of}
use Rattle.netcdf_source.specs.inner.Sound.{IsSound}
use Rattle.netcdf_source.specs.declared.header.Contents.{Contents}
use Rattle.netcdf_source.proofs.Joined.{joined_sound}
use Rattle.netcdf_source.proofs.WellFormed.{dataset_well_formed}
use Rattle.netcdf_source.proofs.file.Header.dataset_with.Goals as goal

well_formed : (c : Contents) (file_name : List ℕ) (r : Result Dataset Memory) → IsSound c → IfOk r (λ d. dataset_view d ≡ dataset_of c file_name) → IfOk r (λ d. IsWellFormed (dataset_view d))
well_formed c file_name (Ok d) sound mapped = subst IsWellFormed (sym mapped) (dataset_well_formed c file_name sound)
well_formed c file_name (Err e) sound mapped = tt

pub returns-clause-well_formed : goal.returns-clause-well_formed
returns-clause-well_formed c = well_formed c.in_ok-contents.contents c.args.file_name.now c.dataset_of.result (rw c.in_ok-contents.ensures (joined_sound c.args.records c.self.inside.contents c.self.invariant.0)) c.dataset_of.ensures
