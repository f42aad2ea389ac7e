-- The verdict on the body of a reply of any kind. Where its first word is `Error` it is an Error object
-- (DAP 2.0, Error objects), whatever it was asked for. Else it is read by its kind. The first thing that
-- is wrong decides, with its place. The kinds of faults, the places and the limits are this project's.
use Rattle.std.specs.Prelude.{◌≡◌, ◌↔◌, ℕ, ◌+◌, ◌<◌, ◌≤◌, ◌⊎◌, Bool, true, false, not, List, [], ◌∷◌, ◌++◌, length, take, IsTrue}
use Rattle.std.specs.List.{AllPass}
use Rattle.dap_types.specs.Model.{Dataset, Tree}
use Rattle.dap_model.specs.Body.{IsBody}
use Rattle.dap_model.specs.Tokens.{Token, is_white, tokens_of}
use Rattle.dap_errors.specs.Reading as errors
use Rattle.dap_errors.specs.declared.object.ErrorObject.{ErrorObject}
use Rattle.das_text.specs.Model.{Attributes}
use Rattle.das_text.specs.Reading as das
use Rattle.dds_text.specs.Reading.{IsBadText, IsUnfinished}
use Rattle.error_word.specs.Saying.{says_error}
use Rattle.xdr_decode.specs.Verdict.{budget}
use Rattle.reply_faults.specs.declared.bad.Bad.{Bad}
use Rattle.reply_faults.specs.declared.bad.Bad.TheVariants.{BadDds, BadDas, BadError, Cut, Trailing, TooLong}
use Rattle.xdr_decode.specs.Verdict.{HasText, IsGood, IsWrongIn}

-- what a body was asked for: a data response, a DDS or a DAS
pub data Form : Type 0 where
  dods_form dds_form das_form : Form

pub data Verdict : Type 0 where
  -- a data response of the dataset and its values
  good : Dataset → List Tree → Verdict
  good_dds : Dataset → Verdict
  good_das : Attributes → Verdict
  -- an Error object
  server_error : ErrorObject → Verdict
  -- what is wrong, and the number of bytes before it
  bad : Bad → ℕ → Verdict

-- of an Error object
abbrev pub JudgesError : List ℕ → Verdict → Type 0
JudgesError bytes (server_error e) = errors.ErrorOf bytes e
JudgesError bytes (bad kind place) = (errors.IsBad bytes place × (kind ≡ BadError)) ⊎ (errors.IsCut bytes × (place ≡ length bytes) × (kind ≡ Cut))
JudgesError bytes v = ⊥

-- of a data response
abbrev pub JudgesDods : List ℕ → Verdict → Type 0
JudgesDods bytes (good d ts) = IsGood bytes d ts
JudgesDods bytes (bad kind place) = IsWrongIn bytes kind place
JudgesDods bytes v = ⊥

-- behind a text stands another byte than white space, first at this place
pub record HasStray (bytes : List ℕ) (place : ℕ) : Type 0 where
  pub dataset : Dataset
  pub text : List ℕ
  pub white : List ℕ
  pub next : ℕ
  pub rest : List ℕ
  pub has_text : HasText bytes dataset text (white ++ next ∷ rest)
  pub all_white : AllPass is_white white
  pub other : IsTrue (not (is_white next))
  pub is_place : place ≡ length text + length white

-- of a DDS, behind which white space may stand
abbrev pub JudgesDds : List ℕ → Verdict → Type 0
JudgesDds bytes (good_dds d) = (text : List ℕ) × (white : List ℕ) × HasText bytes d text white × AllPass is_white white
JudgesDds bytes (bad kind place) =
    (IsBadText bytes place × (kind ≡ BadDds))
    ⊎ (HasStray bytes place × (kind ≡ Trailing))
    ⊎ (IsUnfinished bytes × (place ≡ length bytes) × (kind ≡ Cut))
JudgesDds bytes v = ⊥

-- of a DAS, whatever its first word is
abbrev pub JudgesDasText : List ℕ → Verdict → Type 0
JudgesDasText bytes (good_das a) = das.DasOf bytes a
JudgesDasText bytes (bad kind place) =
    (das.IsBad bytes place × (kind ≡ BadDas))
    ⊎ (das.IsTrailing bytes place × (kind ≡ Trailing))
    ⊎ (das.IsCut bytes × (place ≡ length bytes) × (kind ≡ Cut))
JudgesDasText bytes v = ⊥

-- of a DAS. Before its first word, as that of a DDS, is whole it is not known to be no Error object: within the limit
-- of a DAS it is cut
abbrev pub JudgesDas : List Token → List ℕ → Verdict → Type 0
JudgesDas [] bytes v = ((length bytes < das.limit) × (v ≡ bad Cut (length bytes))) ⊎ ((das.limit ≤ length bytes) × JudgesDasText bytes v)
JudgesDas (t ∷ ts) bytes v = JudgesDasText bytes v

abbrev pub JudgesForm : Form → List ℕ → Verdict → Type 0
JudgesForm dods_form bytes v = JudgesDods bytes v
JudgesForm dds_form bytes v = JudgesDds bytes v
JudgesForm das_form bytes v = JudgesDas (tokens_of bytes) bytes v

-- the verdict on bytes, however many they are
abbrev pub Judges : Form → List ℕ → Verdict → Type 0
Judges form bytes v = ((says_error bytes ≡ true) × JudgesError bytes v) ⊎ ((says_error bytes ≡ false) × JudgesForm form bytes v)

-- something is wrong other than that the bytes end: it stays, whatever follows
abbrev pub is_fault : Bad → Bool
is_fault Cut = false
is_fault kind = true

abbrev pub is_final : Verdict → Bool
is_final (bad kind place) = is_fault kind
is_final v = false

-- The verdict on a body. Of one that is too long only the first bytes are looked at
abbrev pub IsVerdict : Form → List ℕ → Verdict → Type 0
IsVerdict form bytes v =
    ((length bytes < budget) × Judges form bytes v)
    ⊎ ((budget ≤ length bytes) × (front : Verdict) × Judges form (take budget bytes) front
    × (((is_final front ≡ true) × (v ≡ front)) ⊎ ((is_final front ≡ false) × (v ≡ bad TooLong budget))))

-- bytes have one verdict at most
abbrev pub OneVerdict : Type 0
OneVerdict = (form : Form) (bytes : List ℕ) (v w : Verdict) → IsVerdict form bytes v → IsVerdict form bytes w → v ≡ w

-- the good data responses are the bodies that the model defines
abbrev pub GoodIsBody : Type 0
GoodIsBody = (bytes : List ℕ) (d : Dataset) (ts : List Tree) → IsVerdict dods_form bytes (good d ts) ↔ IsBody bytes d ts
