-- What contracts see of the body of joined files: the text that it is over files with some bytes, its DDS, which
-- files it fits, and what it asks of them.
use Rattle.std.specs.Prelude.{ℕ, List, ◌++◌, All, length, take}
use Rattle.join_source.specs.Begun.{HaveBegun}
use Rattle.join_source.specs.Pieces.{IsInside, pieces_cost, pieces_xdr}
use Rattle.join_source.specs.declared.body.JoinBody.{JoinBody}
use Rattle.join_source.specs.declared.piece.Piece.{Piece}

abbrev pub head_in : JoinBody → List ℕ
head_in b = b.head

abbrev pub pieces_in : JoinBody → List Piece
pieces_in b = b.pieces

-- all of it
unfoldable pub text_in : JoinBody → List (List ℕ) → List ℕ
text_in b files = head_in b ++ pieces_xdr (pieces_in b) files

-- its DDS
unfoldable pub dds_in : JoinBody → List ℕ
dds_in b = take b.dds_len b.head

-- all that it reads stands within files of so many bytes
unfoldable pub FitsFiles : JoinBody → List ℕ → Type 0
FitsFiles b sizes = All (IsInside sizes) (pieces_in b)

-- the bytes that it may ask
unfoldable pub cost_in : JoinBody → ℕ
cost_in b = pieces_cost (pieces_in b)

-- so many bytes may have been asked where so many of it were put
unfoldable pub MayAsk : JoinBody → List (List ℕ) → ℕ → ℕ → Type 0
MayAsk b files put asked = HaveBegun (pieces_in b) files (length (head_in b)) put asked
