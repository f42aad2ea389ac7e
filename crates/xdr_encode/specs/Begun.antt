-- The same of the leaves that a body has: what may have been asked for them where the body was put in part.
use Rattle.std.specs.Prelude.{◌≡◌, ℕ, ◌+◌, ◌≤◌, List, [], ◌∷◌, All, length}
use Rattle.hyperslab_plan.specs.Batches.{InTurn, read_by}
use Rattle.hyperslab_plan.specs.declared.batch.Batch.{Batch}
use Rattle.xdr_encode.specs.Sent.{leaf_begins, leaf_xdr}
use Rattle.xdr_encode.specs.declared.leaf.Leaf.{Leaf}

-- the first batches of a leaf whose XDR begins at a place, as far as they begin at or before the end of
-- what was put
pub record HasBegun (leaf : Leaf) (file : List ℕ) (at put asked : ℕ) : Type 0 where
  pub batches : List Batch
  pub upto : ℕ
  pub in_turn : InTurn leaf.plan batches 0 upto
  pub begun : All (λ b. at + leaf_begins leaf file b.first ≤ put) batches
  pub read : asked ≡ read_by leaf.plan batches

abbrev pub HaveBegun : List Leaf → List ℕ → ℕ → ℕ → ℕ → Type 0
HaveBegun [] file at put asked = asked ≡ 0
HaveBegun (leaf ∷ leaves) file at put asked =
    (own : ℕ) × (others : ℕ) × HasBegun leaf file at put own × HaveBegun leaves file (at + length (leaf_xdr leaf file)) put others × (asked ≡ own + others)
