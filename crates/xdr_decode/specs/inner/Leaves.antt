-- Which variable the code lends.
use Rattle.std.specs.Prelude.{◌≡◌}
use Rattle.dap_types.specs.Model.{Member, scalar, array, sequence}
use Rattle.xdr_decode.specs.declared.path.Leaf.{Leaf}
use Rattle.xdr_decode.specs.declared.path.Leaf.TheVariants as leaf

abbrev pub IsLeaf : Leaf → Member → Type 0
IsLeaf (leaf.Scalar c) (scalar column) = c.now ≡ column
IsLeaf (leaf.Array a) (array b) = a.now ≡ b
IsLeaf (leaf.Sequence own cs) (sequence name columns) = (own.now ≡ name) × (cs.now ≡ columns)
IsLeaf l m = ⊥
