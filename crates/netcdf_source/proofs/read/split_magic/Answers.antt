use Rattle.std.proofs.Common.{◌∙◌, sym}
use Rattle.netcdf_source.proofs.Verdict.{no_magic}
use Rattle.netcdf_source.proofs.read.split_magic.Goals as goal

pub returns-in_err-version-clause-none : goal.returns-in_err-version-clause-none
returns-in_err-version-clause-none c = rw c.from_residual.ensures (no_magic c.args.front.now (sym c.magic_version.ensures ∙ c.in_err-version.was))
