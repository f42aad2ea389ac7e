use Rattle.std.proofs.Common.{◌≡◌, List, ◌∷◌, ◌++◌, drop}
use Rattle.dap_types.specs.declared.slabs.Slab.{Slab}
use Rattle.join_source.specs.Wanted.{AreOverOwn, AreRecords}
use Rattle.join_source.specs.declared.piece.Piece.{Piece}
use Rattle.join_source.proofs.pieces.push_each.Given as goal

abbrev pub invariant-loop-k : goal.invariant-loop-k
invariant-loop-k l = (first : Slab) × (rest : List Slab) × (own : List Piece) × (l.fn.slabs ≡ first ∷ rest) × (l.pieces ≡ l.fn.pieces ++ own)
    × ((more : List Piece) → AreRecords l.k (drop l.k l.headers) l.leaf l.left rest more → AreRecords 0 l.headers l.leaf first rest (own ++ more))
    × AreOverOwn (drop l.k l.headers) l.leaf l.left rest
