-- What the bytes of a data response promise to the one who reads them.
use Rattle.std.specs.Prelude.{◌≡◌, ℕ, ◌<◌, ◌≤◌, List, ◌++◌, All, length, None}
use Rattle.dap_types.specs.Limits.{body_limit, most_elements, most_text}
use Rattle.dap_types.specs.Model.{Dataset, Tree}
use Rattle.dap_types.specs.WellFormed.{IsWellFormed, elements_of, places_of}
use Rattle.dap_model.specs.Body.{IsBody, IsHead, body, too_large}
use Rattle.dap_model.specs.Dds.{dds}
use Rattle.dap_model.specs.Filter.{Keeps, Marks, SuitsAll, constrained, constrained_trees}
use Rattle.dap_model.specs.Fits.{FitsAll}
use Rattle.dap_model.specs.Grammar.{HasWords}

-- bytes have one head, and it is that of one dataset
abbrev pub OneHead : Type 0
OneHead = (h k vs ws : List ℕ) (d e : Dataset) → IsHead h d → IsHead k e → h ++ vs ≡ k ++ ws → (h ≡ k) × (d ≡ e) × (vs ≡ ws)

-- bytes are the body of one dataset and one list of values
abbrev pub OneBody : Type 0
OneBody = (bs : List ℕ) (d e : Dataset) (ts us : List Tree) → IsBody bs d ts → IsBody bs e us → (d ≡ e) × (ts ≡ us)

-- a dataset is not too large exactly where its text keeps the limit and each member has at most so many
-- elements
abbrev pub TooLargeByLimits : Type 0
TooLargeByLimits = (d : Dataset) →
    (too_large d ≡ None → (length (dds d) ≤ most_text) × All (λ p. elements_of p.variable ≤ most_elements) (places_of d))
    × (length (dds d) ≤ most_text → All (λ p. elements_of p.variable ≤ most_elements) (places_of d) → too_large d ≡ None)

-- what is sent of a dataset that is not too large is read back
abbrev pub SentIsRead : Type 0
SentIsRead = (d : Dataset) (ts : List Tree) → HasWords d → IsWellFormed d → FitsAll d.members ts → too_large d ≡ None → length (body d ts) < body_limit → IsBody (body d ts) d ts

-- and so is what is sent of what a constraint leaves
abbrev pub ConstrainedIsRead : Type 0
ConstrainedIsRead = (marks : Marks) (keeps : Keeps) (d : Dataset) (ts : List Tree) → HasWords d → IsWellFormed d → SuitsAll marks 1 d.members → FitsAll d.members ts
    → too_large (constrained marks d) ≡ None → length (body (constrained marks d) (constrained_trees marks keeps d ts)) < body_limit
    → IsBody (body (constrained marks d) (constrained_trees marks keeps d ts)) (constrained marks d) (constrained_trees marks keeps d ts)
