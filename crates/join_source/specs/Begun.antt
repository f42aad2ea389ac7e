-- What may have been asked of joined files where their body was put in part: the batches of the pieces' plans in
-- order, as far as each begins in the body at or before the end of what was put (this project's).
use Rattle.std.specs.Prelude.{◌≡◌, ℕ, ◌+◌, ◌≤◌, List, [], ◌∷◌, All, length}
use Rattle.hyperslab_plan.specs.Batches.{InTurn, read_by}
use Rattle.hyperslab_plan.specs.declared.batch.Batch.{Batch}
use Rattle.hyperslab_plan.specs.declared.plan.Plan.{Plan}
use Rattle.xdr_encode.specs.Elements.{forms_from}
use Rattle.join_source.specs.Pieces.{file_in, piece_xdr}
use Rattle.join_source.specs.declared.piece.Piece.{Piece}
use Rattle.join_source.specs.declared.piece.Piece.TheVariants.{Text, Elements}

-- the first batches of a plan whose forms begin at a place
pub record HasBegun (plan : Plan) (file : List ℕ) (at put asked : ℕ) : Type 0 where
  pub batches : List Batch
  pub upto : ℕ
  pub in_turn : InTurn plan batches 0 upto
  pub begun : All (λ b. at + length (forms_from plan file 0 b.first) ≤ put) batches
  pub read : asked ≡ read_by plan batches

unfoldable pub PieceHasBegun : Piece → List (List ℕ) → ℕ → ℕ → ℕ → Type 0
PieceHasBegun (Text text) files at put asked = asked ≡ 0
PieceHasBegun (Elements member plan) files at put asked = HasBegun plan (file_in files member) at put asked

abbrev pub HaveBegun : List Piece → List (List ℕ) → ℕ → ℕ → ℕ → Type 0
HaveBegun [] files at put asked = asked ≡ 0
HaveBegun (piece ∷ pieces) files at put asked =
    (own : ℕ) × (others : ℕ) × PieceHasBegun piece files at put own × HaveBegun pieces files (at + length (piece_xdr piece files)) put others × (asked ≡ own + others)
