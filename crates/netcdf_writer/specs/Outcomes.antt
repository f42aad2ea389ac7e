-- What an answer says, by its kind.
use Rattle.std.specs.Prelude.{ℕ, ℤ, List, ⊤}
use Rattle.reply_faults.specs.declared.bad.BadField.{BadField}
use Rattle.netcdf_writer.specs.declared.stored.Stored.{Stored}
use Rattle.netcdf_writer.specs.declared.stored.Stored.TheVariants.{Written, Unsavable, BodyTooLarge, HeaderTooLong, ServerError, BadReply, ReadFault, WriteFault, LinkFault, Memory}
use Rattle.netcdf_writer.specs.declared.stored.Why.{Why}

abbrev pub OnWritten : (ℕ → Type 0) → Stored → Type 0
OnWritten P (Written bytes) = P bytes
OnWritten P s = ⊤

abbrev pub OnUnsavable : (ℕ → Why → Type 0) → Stored → Type 0
OnUnsavable P (Unsavable member why) = P member why
OnUnsavable P s = ⊤

abbrev pub OnBodyTooLarge : Type 0 → Stored → Type 0
OnBodyTooLarge P BodyTooLarge = P
OnBodyTooLarge P s = ⊤

abbrev pub OnHeaderTooLong : Type 0 → Stored → Type 0
OnHeaderTooLong P HeaderTooLong = P
OnHeaderTooLong P s = ⊤

abbrev pub OnServerError : (ℤ → List ℕ → Type 0) → Stored → Type 0
OnServerError P (ServerError code message) = P code message
OnServerError P s = ⊤

abbrev pub OnBadReply : (BadField → Type 0) → Stored → Type 0
OnBadReply P (BadReply field) = P field
OnBadReply P s = ⊤

abbrev pub OnReadFault : Type 0 → Stored → Type 0
OnReadFault P ReadFault = P
OnReadFault P s = ⊤

abbrev pub OnWriteFault : Type 0 → Stored → Type 0
OnWriteFault P WriteFault = P
OnWriteFault P s = ⊤

abbrev pub OnLinkFault : Type 0 → Stored → Type 0
OnLinkFault P LinkFault = P
OnLinkFault P s = ⊤

-- nothing goes out but a file, or the front of one
abbrev pub WhereNothingPut : Type 0 → Stored → Type 0
WhereNothingPut P (Written bytes) = ⊤
WhereNothingPut P WriteFault = ⊤
WhereNothingPut P s = P

-- an answer to a dataset in memory
abbrev pub IsOfMemory : Stored → Type 0
IsOfMemory (Written bytes) = ⊤
IsOfMemory (Unsavable member why) = ⊤
IsOfMemory HeaderTooLong = ⊤
IsOfMemory WriteFault = ⊤
IsOfMemory Memory = ⊤
IsOfMemory s = ⊥
