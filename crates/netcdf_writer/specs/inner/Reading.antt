-- What was taken of a source, and what came of it.
use Rattle.std.specs.Prelude.{◌≡◌, ℕ, ◌+◌, ◌≤◌, length, Bool, false, List, ◌++◌, Option, Result, Ok, Err, Vec, ⊤, if◌then◌else◌}
use Rattle.std.specs.Io.KnownBytes.{Consumes, IsAtEnd}
use Rattle.dap_types.specs.Limits.{most_written}
use Rattle.dap_client.specs.Verdict.{is_fault}
use Rattle.netcdf_writer.specs.declared.judging.Judged.{Judged}
use Rattle.netcdf_writer.specs.declared.judging.Judged.TheVariants as judged
use Rattle.reply_faults.specs.declared.bad.BadField.{BadField}
use Rattle.netcdf_writer.specs.Saving.{IsBadFront, IsReadWhole, IsTooLarge, TakesFew}
use Rattle.netcdf_writer.specs.declared.saving.Halt.{Halt}
use Rattle.netcdf_writer.specs.declared.saving.Halt.TheVariants as halts
use Rattle.netcdf_writer.specs.declared.stored.Stored.{Stored}
use Rattle.netcdf_writer.specs.declared.stored.Stored.TheVariants.{BodyTooLarge, BadReply, Memory}

-- some bytes were taken behind so many
abbrev pub TakesSome : ℕ → Option (List ℕ) → Option (List ℕ) → Type 0
TakesSome held before now = (taken : List ℕ) × Consumes before now taken × (held + length taken ≤ most_written + 1)

-- one piece more, or nothing is left
abbrev pub TakesPiece : Option (List ℕ) → Option (List ℕ) → Type 0 → List ℕ → List ℕ → Result Bool Halt → Type 0
TakesPiece before now ended old new (Ok more) = ((taken : List ℕ) × Consumes before now taken × (new ≡ old ++ taken)) × (more ≡ false → ended × IsAtEnd now)
TakesPiece before now ended old new (Err halt) = TakesSome (length old) before now

-- all bytes, or one more than a body has that is saved
abbrev pub TakesBody : {Z : Type 0} → Option (List ℕ) → Option (List ℕ) → Type 0 → Result (Vec ℕ Z) Halt → Type 0
TakesBody before now ended (Ok body) = Consumes before now body.items × IsReadWhole body.items ended now
TakesBody before now ended (Err halt) = TakesFew before now

abbrev pub OnFailed : {X : Type 0} → Type 0 → Result X Halt → Type 0
OnFailed P (Ok x) = ⊤
OnFailed P (Err halts.Failed) = P
OnFailed P (Err halts.Memory) = ⊤

-- the count stays where nothing failed
abbrev pub IsKept : {X : Type 0} → ℕ → ℕ → Result X Halt → Type 0
IsKept before now (Ok x) = now ≡ before
IsKept before now (Err halts.Failed) = ⊤
IsKept before now (Err halts.Memory) = now ≡ before

-- what is told of a longer body, by what is told of its first bytes alone
abbrev pub bad_or_large : BadField → Stored
bad_or_large field = if is_fault field.kind then BadReply field else BodyTooLarge

abbrev pub large_of : Judged → Stored
large_of (judged.Good checked) = BodyTooLarge
large_of (judged.ServerError error) = BodyTooLarge
large_of (judged.Bad field) = bad_or_large field
large_of judged.Memory = Memory

abbrev pub IsOfLarge : List ℕ → Stored → Type 0
IsOfLarge body BodyTooLarge = IsTooLarge body
IsOfLarge body (BadReply field) = IsBadFront body field
IsOfLarge body Memory = ⊤
IsOfLarge body answer = ⊥
