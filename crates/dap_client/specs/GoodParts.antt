-- The good part of the bytes that were taken of a data response, however many they are, and what it says of the text
-- that was put of them (this project's).
use Rattle.std.specs.Prelude.{◌≡◌, ◌↔◌, ℕ, ◌<◌, List, All}
use Rattle.dap_model.specs.Partly.{ShowsPart}
use Rattle.dap_client.specs.Answered.{good_part}
use Rattle.dap_client.specs.Shows.{StopsWithin}
use Rattle.dap_client.specs.Verdict.{Verdict, Judges, dods_form}

-- the bytes before the first thing that is wrong, or all of them
abbrev pub IsGoodPart : List ℕ → List ℕ → Type 0
IsGoodPart bytes part = (v : Verdict) × Judges dods_form bytes v × (part ≡ good_part v bytes)

-- what may be put of some front of the bytes is what may be put of their good part
abbrev pub StopsInGoodPart : Type 0
StopsInGoodPart = (bytes part text : List ℕ) → IsGoodPart bytes part → StopsWithin bytes text ↔ ShowsPart part text

-- all bytes have one
abbrev pub EachHasGoodPart : Type 0
EachHasGoodPart = (bytes : List ℕ) → All (λ b. b < 256) bytes → (part : List ℕ) × IsGoodPart bytes part
