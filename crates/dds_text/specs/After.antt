-- Which bytes a reader of a DDS stands after, and what an answer says of them and the piece behind them.
use Rattle.std.specs.Prelude.{◌≡◌, ℕ, ◌+◌, ◌<◌, ◌≤◌, List, [], ◌++◌, length, take, Option, Some, None}
use Rattle.dap_types.specs.Model.{Dataset}
use Rattle.dap_types.specs.View.{dataset_view}
use Rattle.dap_types.specs.declared.declarations.Dataset as code
use Rattle.dds_text.specs.Reading.{IsBadText, IsDone, IsUnfinished, limit}
use Rattle.dds_text.specs.inner.Standing.{IsRead}
use Rattle.dds_text.specs.declared.front.Front.{Front}
use Rattle.dds_text.specs.declared.reader.DdsReader.{DdsReader}
use Rattle.dds_text.specs.declared.reader.DdsStep.{DdsStep}
use Rattle.dds_text.specs.declared.reader.DdsStep.TheVariants.{More, Done, Bad}
use Rattle.dds_text.specs.declared.reader.Verdict.{Verdict}
use Rattle.dds_text.specs.declared.reader.Verdict.TheVariants as verdict

-- whatever follows, a text of the dataset ends behind these bytes
abbrev pub EndsBehind : List ℕ → Dataset → Type 0
EndsBehind bytes d = (more : List ℕ) → IsDone (bytes ++ more) (length bytes) d

-- whatever follows these bytes, they are bad at this place
abbrev pub StaysBad : List ℕ → ℕ → Type 0
StaysBad bytes place = (more : List ℕ) → IsBadText (bytes ++ more) place

abbrev pub Stands : ℕ → Front → Verdict → List ℕ → Type 0
Stands start front verdict.Open bytes = IsRead front bytes × (length bytes < limit)
Stands start front (verdict.Done d) bytes = EndsBehind bytes (dataset_view d)
Stands start front (verdict.Bad place) bytes = (p : ℕ) × (place ≡ start + p) × StaysBad bytes p
Stands start front verdict.Spent bytes = ⊥

-- the dataset, where a text has ended
abbrev pub dataset_in : Verdict → Option code.Dataset
dataset_in (verdict.Done d) = Some d
dataset_in v = None

-- the reader has used these bytes
unfoldable pub DdsStandsAfter : DdsReader → List ℕ → Type 0
DdsStandsAfter r bytes = Stands r.start r.front r.verdict bytes

-- the place from which it counts
abbrev pub start_of : DdsReader → ℕ
start_of r = r.start

-- memory was wanted
unfoldable pub IsSpent : DdsReader → Type 0
IsSpent r = r.verdict ≡ verdict.Spent

-- the bytes of a piece that an answer uses
abbrev pub used_of : DdsStep → List ℕ → List ℕ
used_of More piece = piece
used_of (Done used) piece = take used piece
used_of (Bad place) piece = piece

-- an answer for a piece behind these bytes, which begin at a place
abbrev pub IsDdsStep : ℕ → List ℕ → List ℕ → DdsStep → Type 0
IsDdsStep start bytes piece More = IsUnfinished (bytes ++ piece)
IsDdsStep start bytes piece (Done used) = (used ≤ length piece) × ((d : Dataset) × IsDone (bytes ++ piece) (length bytes + used) d)
IsDdsStep start bytes piece (Bad place) = (p : ℕ) × (place ≡ start + p) × IsBadText (bytes ++ piece) p

-- the same, by the answer
abbrev pub WhereMore : Type 0 → DdsStep → Type 0
WhereMore P More = P
WhereMore P step = Unit {0}

abbrev pub WhereDone : (ℕ → Type 0) → DdsStep → Type 0
WhereDone P (Done used) = P used
WhereDone P step = Unit {0}

abbrev pub WhereBad : (ℕ → Type 0) → DdsStep → Type 0
WhereBad P (Bad place) = P place
WhereBad P step = Unit {0}

-- an answer, and where the reader stands then
abbrev pub Answers : ℕ → DdsReader → List ℕ → List ℕ → DdsStep → Type 0
Answers start reader bytes piece step = IsDdsStep start bytes piece step × DdsStandsAfter reader (bytes ++ used_of step piece)

-- a front of a piece is read, and all of it unless the limit is reached
abbrev pub IsClipped : List ℕ → List ℕ → List ℕ → Type 0
IsClipped bytes clip rest = (length (bytes ++ clip) ≤ limit) × (length (bytes ++ clip) < limit → rest ≡ [])
