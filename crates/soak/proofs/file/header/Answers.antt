use Rattle.std.proofs.Common.{rules}
use Rattle.soak.specs.File.{header}
use Rattle.soak.proofs.file.header.Goals as goal

pub returns : goal.returns
unfolding header
returns c = search (rules, c.in_ok-bytes.ensures, c.extend_from_slice.ensures, c.extend_from_slice-2.ensures, c.extend_from_slice-3.ensures)
