-- The causes as the program has them: each number is one that its type holds.
use Rattle.std.specs.Prelude.{◌^◌, ◌<◌, ⊤}
use Rattle.dap_errors.specs.declared.spot.Spot.{Spot}
use Rattle.dap_errors.specs.declared.spot.Spot.TheVariants as spots
use Rattle.dap_errors.specs.declared.file_cause.FileCause.{FileCause}
use Rattle.dap_errors.specs.declared.file_cause.FileCause.TheVariants as files
use Rattle.dap_errors.specs.declared.cause.Cause.{Cause}
use Rattle.dap_errors.specs.declared.cause.Cause.TheVariants as causes

abbrev pub IsSpot : Spot → Type 0
IsSpot (spots.Item n) = n < 2 ^ 32
IsSpot (spots.Clause n) = n < 2 ^ 32

abbrev pub IsFileCause : FileCause → Type 0
IsFileCause (files.BadField place) = place < 2 ^ 64
IsFileCause (files.PastEnd var) = var < 2 ^ 32
IsFileCause (files.RepeatedColumn column) = column < 2 ^ 32
IsFileCause (files.Ragged row) = row < 2 ^ 32
IsFileCause (files.BadCell row column) = (row < 2 ^ 32) × (column < 2 ^ 32)
IsFileCause (files.BadBody place) = place < 2 ^ 64
IsFileCause (files.RepeatedName member) = member < 2 ^ 32
IsFileCause (files.BadLine line) = line < 2 ^ 32
IsFileCause (files.NoMember line) = line < 2 ^ 32
IsFileCause (files.BadMember line) = line < 2 ^ 32
IsFileCause (files.Differs line) = line < 2 ^ 32
IsFileCause cause = ⊤

abbrev pub IsCause : Cause → Type 0
IsCause (causes.Syntax place) = place < 2 ^ 64
IsCause (causes.UnknownName spot) = IsSpot spot
IsCause (causes.NotArray spot) = IsSpot spot
IsCause (causes.SlabCount spot) = IsSpot spot
IsCause (causes.BadSlab spot) = IsSpot spot
IsCause (causes.TwoSlabs spot) = IsSpot spot
IsCause (causes.TooMany spot) = IsSpot spot
IsCause (causes.NotColumn spot) = IsSpot spot
IsCause (causes.TypeMismatch spot) = IsSpot spot
IsCause (causes.FloatCompared spot) = IsSpot spot
IsCause (causes.Unsupported spot) = IsSpot spot
IsCause (causes.BigNumber spot) = IsSpot spot
IsCause (causes.TooLarge leaf) = leaf < 2 ^ 32
IsCause (causes.Damaged cause) = IsFileCause cause
IsCause (causes.UpstreamBad place) = place < 2 ^ 64
IsCause cause = ⊤
