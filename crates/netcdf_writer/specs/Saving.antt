-- What becomes of a body that is saved (DAP 2.0, DODS; the limit is this project's).
use Rattle.std.specs.Prelude.{◌≡◌, ◌<◌, ◌≤◌, ◌⊎◌, ℕ, ◌+◌, List, true, length, take, Option}
use Rattle.std.specs.Io.KnownBytes.{Consumes, IsAtEnd}
use Rattle.dap_types.specs.Limits.{most_written}
use Rattle.dap_types.specs.Model.{Dataset, Tree}
use Rattle.dap_client.specs.Held.{IsLong}
use Rattle.dap_client.specs.Verdict.{IsVerdict, dods_form, good, server_error, bad, is_fault}
use Rattle.reply_faults.specs.declared.bad.BadField.{BadField}
use Rattle.netcdf_writer.specs.Saved.{Stores}
use Rattle.netcdf_writer.specs.declared.stored.Stored.{Stored}
use Rattle.netcdf_writer.specs.declared.stored.Stored.TheVariants.{Written, Unsavable, BodyTooLarge, HeaderTooLong, ServerError, BadReply, ReadFault, WriteFault, LinkFault, Memory}

-- more bytes came than are saved, and in so many of them nothing is wrong that stays
abbrev pub IsTooLarge : List ℕ → Type 0
IsTooLarge body = IsLong dods_form most_written body

-- or something is wrong in them that stays
abbrev pub IsBadFront : List ℕ → BadField → Type 0
IsBadFront body field = (most_written < length body) × IsVerdict dods_form (take most_written body) (bad field.kind field.place) × (is_fault field.kind ≡ true)

-- the body is a data response, and what becomes of its dataset is told
abbrev pub IsStored : List ℕ → Option (List ℕ) → Option (List ℕ) → Stored → Type 0
IsStored body before now answer = (length body ≤ most_written) × ((d : Dataset) × (ts : List Tree) × IsVerdict dods_form body (good d ts) × Stores d ts before now answer)

-- the answer to a whole body
abbrev pub Judges : List ℕ → Option (List ℕ) → Option (List ℕ) → Stored → Type 0
Judges body before now (Written bytes) = IsStored body before now (Written bytes)
Judges body before now (Unsavable member why) = IsStored body before now (Unsavable member why)
Judges body before now HeaderTooLong = IsStored body before now HeaderTooLong
Judges body before now WriteFault = IsStored body before now WriteFault
Judges body before now BodyTooLarge = IsTooLarge body × (now ≡ before)
Judges body before now (ServerError code message) = (length body ≤ most_written) × IsVerdict dods_form body (server_error (record { code = code; message = message })) × (now ≡ before)
Judges body before now (BadReply field) = (((length body ≤ most_written) × IsVerdict dods_form body (bad field.kind field.place)) ⊎ IsBadFront body field) × (now ≡ before)
Judges body before now Memory = now ≡ before
Judges body before now ReadFault = ⊥
Judges body before now LinkFault = ⊥

-- some bytes were taken, at most one more than a body has that is saved
abbrev pub TakesFew : Option (List ℕ) → Option (List ℕ) → Type 0
TakesFew left behind = (taken : List ℕ) × Consumes left behind taken × (length taken ≤ most_written + 1)

-- the bytes were taken to the end of the source, or one more than a body has that is saved
abbrev pub IsReadWhole : List ℕ → Type 0 → Option (List ℕ) → Type 0
IsReadWhole body ended left = (length body ≤ most_written + 1) × ((ended × IsAtEnd left) ⊎ (length body ≡ most_written + 1))

-- the answer to what a source has left
abbrev pub Saves : Option (List ℕ) → Option (List ℕ) → Type 0 → Option (List ℕ) → Option (List ℕ) → Stored → Type 0
Saves left behind ended before now ReadFault = TakesFew left behind × (now ≡ before)
Saves left behind ended before now Memory = TakesFew left behind × (now ≡ before)
Saves left behind ended before now answer = (taken : List ℕ) × Consumes left behind taken × IsReadWhole taken ended behind × Judges taken before now answer
