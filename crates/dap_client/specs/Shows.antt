-- What the client puts out of a data response (DAP 2.0, DODS; the shown text is this project's).
use Rattle.std.specs.Prelude.{◌≡◌, ℕ, ◌≤◌, ◌⊎◌, List, ◌++◌, length, codes, Option}
use Rattle.std.specs.Io.KnownBytes.{Appends, Consumes}
use Rattle.dap_types.specs.Model.{Dataset, Tree}
use Rattle.dap_model.specs.Partly.{ShowsPart}
use Rattle.dap_model.specs.Received.{IsPrefix}
use Rattle.dap_model.specs.Shown.{shown}
use Rattle.xdr_decode.specs.Verdict.{HasHeadOf}
use Rattle.reply_faults.specs.declared.bad.BadField.{BadField}
use Rattle.dap_client.specs.Verdict.{IsVerdict, bad, dods_form, good}

-- the sink gained a text that is so
abbrev pub Gains : Option (List ℕ) → Option (List ℕ) → (List ℕ → Type 0) → Type 0
Gains before now P = (text : List ℕ) × Appends before now text × P text

-- of some front of these bytes, a front was put of what may be shown
abbrev pub StopsWithin : List ℕ → List ℕ → Type 0
StopsWithin bytes text = (good : List ℕ) × (rest : List ℕ) × (bytes ≡ good ++ rest) × ShowsPart good text

-- or they are a whole good body, and a front was put of all that is shown of it, without its last line feed
abbrev pub StopsWithinShown : List ℕ → List ℕ → Type 0
StopsWithinShown bytes text =
    (d : Dataset) × (ts : List Tree) × (front : List ℕ) × IsVerdict dods_form bytes (good d ts) × (shown d ts (length bytes) ≡ front ++ codes "\n") × IsPrefix text front

abbrev pub BreaksOff : List ℕ → List ℕ → Type 0
BreaksOff bytes text = StopsWithin bytes text ⊎ StopsWithinShown bytes text

-- behind a good `Data:` line came at most so many bytes
abbrev pub HasFewValues : ℕ → List ℕ → Type 0
HasFewValues most bytes = (d : Dataset) (head values : List ℕ) → HasHeadOf bytes d head values → length values ≤ most

-- the bytes that were taken are all, or what is wrong stays so, whatever follows them
abbrev pub IsWrongTaken : Type 0 → Type 0 → BadField → List ℕ → Type 0
IsWrongTaken Ended AtEnd field taken =
    (Ended × AtEnd × IsVerdict dods_form taken (bad field.kind field.place)) ⊎ ((more : List ℕ) → IsVerdict dods_form (taken ++ more) (bad field.kind field.place))

-- some bytes were taken of a source, and are so
abbrev pub Takes : Option (List ℕ) → Option (List ℕ) → (List ℕ → Type 0) → Type 0
Takes before now P = (taken : List ℕ) × Consumes before now taken × P taken
