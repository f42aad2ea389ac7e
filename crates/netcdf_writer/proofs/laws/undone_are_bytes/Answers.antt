use Rattle.std.proofs.Common.{}
use Rattle.netcdf_writer.proofs.Naming.{undone_told}
use Rattle.netcdf_writer.proofs.laws.undone_are_bytes.Goals as goal

pub returns : goal.returns
returns c = record { law = λ name bytes e. (undone_told name bytes e).1 }
