-- What may be shown of a body that was refused, or of which no more was read or put (this project's).
use Rattle.std.specs.Prelude.{◌≡◌, ◌⊎◌, ℕ, List, [], ◌++◌}
use Rattle.dap_types.specs.Model.{Dataset}
use Rattle.dap_model.specs.Body.{IsHead}
use Rattle.dap_model.specs.Dds.{dds}
use Rattle.dap_model.specs.Received.{HasHead, IsFront, IsPrefix, MayShow}

-- any front of what may be shown of a good front of a body with a good `Data:` line
pub record MayShowPart (good out : List ℕ) : Type 0 where
  pub head : List ℕ
  pub dataset : Dataset
  pub values : List ℕ
  pub whole : List ℕ
  pub more : List ℕ
  pub parts : good ≡ head ++ values
  pub is_head : IsHead head dataset
  pub is_front : IsFront dataset values whole more
  pub within : IsPrefix out (dds dataset ++ whole ++ more)

-- nothing is shown of a front without one
abbrev pub ShowsNothing : List ℕ → List ℕ → Type 0
ShowsNothing good out = (¬ HasHead good) × (out ≡ [])

-- what is shown of the good bytes of a body that is refused: the lines of all elements that they hold
-- whole, and of the open element's line any front
abbrev pub ShowsLines : List ℕ → List ℕ → Type 0
ShowsLines good out = MayShow good out ⊎ ShowsNothing good out

-- what is shown of them where a read or a put failed: any front of that
abbrev pub ShowsPart : List ℕ → List ℕ → Type 0
ShowsPart good out = MayShowPart good out ⊎ ShowsNothing good out

-- what is shown where a read or a put failed is a front of what is shown of a refused body
abbrev pub PartIsOfLines : Type 0
PartIsOfLines = (good out : List ℕ) →
    (ShowsPart good out → (text : List ℕ) × ShowsLines good text × IsPrefix out text)
    × ((text : List ℕ) → ShowsLines good text → IsPrefix out text → ShowsPart good out)

-- and there is no third way: with a good `Data:` line the one, without it the other
abbrev pub NothingWithoutHead : Type 0
NothingWithoutHead = (good out : List ℕ) → (MayShow good out → HasHead good) × (MayShowPart good out → HasHead good)
