-- Why a file holds no response that is served (this project's), in this order: it is too long, it is no
-- data response (DAP 2.0, DODS), or two members of a level have one name.
use Rattle.std.specs.Prelude.{◌≡◌, ℕ, ◌<◌, ◌≤◌, ◌⊎◌, ⊤, true, false, List, length, Some}
use Rattle.dap_types.specs.Limits.{most_saved, most_text}
use Rattle.dap_types.specs.Model.{Dataset, Tree}
use Rattle.dap_model.specs.Body.{IsBody}
use Rattle.dap_model.specs.Dds.{dds}
use Rattle.dap_errors.specs.Reading.{ErrorOf, IsBad, IsCut}
use Rattle.dap_errors.specs.declared.object.ErrorObject.{ErrorObject}
use Rattle.error_word.specs.Saying.{begins_at, says_error}
use Rattle.xdr_decode.specs.Verdict.{IsVerdict, wrong}
use Rattle.reply_faults.specs.declared.bad.Bad.{Bad}
use Rattle.saved_source.specs.Responses.{first_repeated, saved_dataset}
use Rattle.saved_source.specs.declared.refusal.SavedRefusal.{SavedRefusal}
use Rattle.saved_source.specs.declared.refusal.SavedRefusal.TheVariants.{TooLong, BadBody, RepeatedName, Memory}
use Rattle.saved_source.specs.declared.refusal.SavedBodyRefusal.{SavedBodyRefusal}
use Rattle.saved_source.specs.declared.refusal.SavedBodyRefusal.TheVariants as body

-- where an Error object is told (DAP 2.0, Error objects): a whole one at its first word, another where it
-- is bad or where it ends
abbrev pub IsObjectAt : List ℕ → ℕ → Type 0
IsObjectAt bytes place =
    ((error : ErrorObject) × ErrorOf bytes error × (place ≡ begins_at bytes))
    ⊎ IsBad bytes place
    ⊎ (IsCut bytes × (place ≡ length bytes))

-- the verdict on a body is not a good one, and this is its place
abbrev pub IsBadAt : List ℕ → ℕ → Type 0
IsBadAt bytes place =
    ((says_error bytes ≡ true) × IsObjectAt bytes place)
    ⊎ ((says_error bytes ≡ false) × ((kind : Bad) × IsVerdict bytes (wrong kind place)))

-- the response of this file has a member with the name of an earlier one of its level, first this one
pub record HasRepeated (bytes file_name : List ℕ) (n : ℕ) : Type 0 where
  pub response : Dataset
  pub values : List Tree
  pub is_body : IsBody bytes response values
  pub is_first : first_repeated (saved_dataset file_name response) ≡ Some n

-- a refusal says what is wrong first. Want of memory says nothing
abbrev pub IsRefusal : List ℕ → List ℕ → SavedRefusal → Type 0
IsRefusal bytes file_name TooLong = most_saved < length bytes
IsRefusal bytes file_name (BadBody place) = (length bytes ≤ most_saved) × IsBadAt bytes place
IsRefusal bytes file_name (RepeatedName n) = (length bytes ≤ most_saved) × HasRepeated bytes file_name n
IsRefusal bytes file_name Memory = ⊤

-- what is left of a dataset has too long a DDS
abbrev pub IsBodyRefusal : Dataset → SavedBodyRefusal → Type 0
IsBodyRefusal d body.TooLarge = most_text < length (dds d)
IsBodyRefusal d body.Memory = ⊤
