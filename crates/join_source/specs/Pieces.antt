-- The pieces of a body, one after the other: a text, or the XDR forms of elements of one of the files
-- (RFC 4506; DAP 2.0, arrays).
use Rattle.std.specs.Prelude.{◌≡◌, ℕ, ⊤, ◌<◌, ◌≤◌, List, [], Option, length, map, get_or, Some}
use Rattle.std.specs.List.{flat_map, sum_by}
use Rattle.dap_outside.specs.Streams.{AppendsFront}
use Rattle.hyperslab_plan.specs.Batches.{spent}
use Rattle.hyperslab_plan.specs.Plans.{total_of}
use Rattle.xdr_encode.specs.Elements.{AreInside, AsksUpTo, StopsAt, forms_from}
use Rattle.join_source.specs.declared.piece.Piece.{Piece}
use Rattle.join_source.specs.declared.piece.Piece.TheVariants.{Text, Elements}

-- the bytes of file number `member`, from 0
abbrev pub file_in : List (List ℕ) → ℕ → List ℕ
file_in files member = get_or files member []

unfoldable pub piece_xdr : Piece → List (List ℕ) → List ℕ
piece_xdr (Text text) files = text
piece_xdr (Elements member plan) files = forms_from plan (file_in files member) 0 (total_of plan)

unfoldable pub pieces_xdr : List Piece → List (List ℕ) → List ℕ
pieces_xdr pieces files = flat_map (λ piece. piece_xdr piece files) pieces

-- the bytes that reading them may cost
unfoldable pub piece_cost : Piece → ℕ
piece_cost (Text text) = 0
piece_cost (Elements member plan) = spent plan (total_of plan)

unfoldable pub pieces_cost : List Piece → ℕ
pieces_cost pieces = sum_by piece_cost pieces

-- the elements stand within one of the files, which have so many bytes each
unfoldable pub IsInside : List ℕ → Piece → Type 0
IsInside sizes (Text text) = ⊤
IsInside sizes (Elements member plan) = (member < length sizes) × AreInside plan (get_or sizes member 0)

-- what was asked by a step that put the whole piece
unfoldable pub PieceAsks : Piece → ℕ → ℕ → Type 0
PieceAsks (Text text) asked asked' = asked' ≤ asked
PieceAsks (Elements member plan) asked asked' = AsksUpTo plan (total_of plan) asked asked'

-- how far it was put where a step stopped, and what was asked until then
unfoldable pub PieceStops : Piece → List (List ℕ) → Option (List ℕ) → Option (List ℕ) → ℕ → ℕ → Type 0
PieceStops (Text text) files old new asked asked' = AppendsFront old new text × (asked' ≤ asked)
PieceStops (Elements member plan) files old new asked asked' = StopsAt plan (file_in files member) old new asked asked'

-- these are the bytes of all files, where each is told
abbrev pub AreTold : List (Option (List ℕ)) → List (List ℕ) → Type 0
AreTold told files = told ≡ map Some files
