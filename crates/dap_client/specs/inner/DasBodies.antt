-- A front of the body of a DAS, in pieces.
use Rattle.std.specs.Prelude.{◌≡◌, ℕ, ◌<◌, ◌≤◌, ⊤, List, ◌++◌, length}
use Rattle.das_text.specs.Reading.{DasOf, limit}
use Rattle.das_text.specs.View.{attributes_view}
use Rattle.reply_faults.specs.declared.bad.BadField.{BadField}
use Rattle.xdr_decode.specs.declared.filled.AllRefusal.{AllRefusal}
use Rattle.xdr_decode.specs.declared.filled.AllRefusal.TheVariants.{Refused, Memory}
use Rattle.dap_client.specs.Verdict.{JudgesDasText, bad}
use Rattle.dap_client.specs.declared.das_body.DasBody.{DasBody}
use Rattle.dap_client.specs.declared.das_body.DasBody.TheVariants.{Front, White, Wrong}

-- these bytes came; or as many as the limit and more: a DAS ended within it, and white space came; or this is wrong,
-- whatever follows
abbrev pub IsDasBody : List ℕ → DasBody → Type 0
IsDasBody bytes (Front front) = (front.items ≡ bytes) × (length bytes < limit)
IsDasBody bytes (White attributes) = (limit ≤ length bytes) × DasOf bytes (attributes_view attributes)
IsDasBody bytes (Wrong field) = (limit ≤ length bytes) × ((more : List ℕ) → JudgesDasText (bytes ++ more) (bad field.kind field.place))

-- what it says apart from any bytes: a front is shorter than the limit
abbrev pub IsShortDas : DasBody → Type 0
IsShortDas (Front front) = length front.items < limit
IsShortDas body = ⊤

-- of what a refusal says; want of memory says nothing
abbrev pub WhereRefused : (BadField → Type 0) → AllRefusal → Type 0
WhereRefused P (Refused field) = P field
WhereRefused P Memory = ⊤
