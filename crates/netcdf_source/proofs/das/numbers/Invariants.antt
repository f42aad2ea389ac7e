use Rattle.std.proofs.Common.{◌≡◌, ◌++◌, map}
use Rattle.std.specs.Slice.Iter.{chunks_exact_rest, chunks_exact_size}
use Rattle.netcdf_source.specs.Attributes.{pieces, word_of}
use Rattle.netcdf_source.specs.Types.{size_of}
use Rattle.netcdf_source.proofs.das.numbers.Given as goal

abbrev pub invariant-loop-piece : goal.invariant-loop-piece
invariant-loop-piece l = record {
  size : chunks_exact_size l.piece-iterator ≡ size_of l.external_type;
  words : l.words ++ map (word_of l.external_type) (pieces (size_of l.external_type) (chunks_exact_rest l.piece-iterator)) ≡ map (word_of l.external_type) (pieces (size_of l.external_type) l.bytes);
}
