use Rattle.std.proofs.Common.{All, take}
use Rattle.netcdf_source.specs.Mapping.{HaveSameShape}
use Rattle.join_source.specs.Members.{contents_of, first_of}
use Rattle.join_source.proofs.joining.first_to_differ.Given as goal

abbrev pub invariant-loop-k : goal.invariant-loop-k
invariant-loop-k l = All (HaveSameShape (first_of (contents_of l.headers))) (contents_of (take l.k l.headers))
