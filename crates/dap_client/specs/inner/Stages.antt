-- How far the reader of a data response is, and what it has put by then.
use Rattle.std.specs.Prelude.{◌≡◌, ℕ, ◌+◌, ◌≤◌, ◌⊎◌, ⊤, Bool, true, false, List, [], ◌++◌, length, take, Option}
use Rattle.dap_types.specs.Limits.{most_piece}
use Rattle.dap_types.specs.Model.{Dataset}
use Rattle.dap_types.specs.View.{dataset_view}
use Rattle.dap_types.specs.WellFormed.{IsWellFormed}
use Rattle.dap_model.specs.Dds.{dds}
use Rattle.dap_model.specs.Partly.{ShowsLines}
use Rattle.dap_model.specs.Received.{IsOpen}
use Rattle.dap_errors.specs.Reading.{limit}
use Rattle.dds_text.specs.After as reading
use Rattle.dds_text.specs.Reading.{IsDone, IsUnfinished}
use Rattle.dds_text.specs.declared.reader.DdsReader.{DdsReader}
use Rattle.xdr_decode.specs.After as decoding
use Rattle.xdr_decode.specs.Shown.{ShowsFront}
use Rattle.xdr_decode.specs.Verdict.{budget}
use Rattle.reply_faults.specs.declared.bad.Bad.TheVariants.{Cut}
use Rattle.reply_faults.specs.declared.bad.BadField.{BadField}
use Rattle.xdr_decode.specs.declared.decoder.Decoder.{Decoder}
use Rattle.xdr_decode.specs.Verdict.{HasHeadOf, HasText}
use Rattle.dap_client.specs.Shows.{Gains, HasFewValues, StopsWithin}
use Rattle.dap_client.specs.Verdict.{bad, dods_form, IsVerdict, Judges, is_fault}
use Rattle.dap_client.specs.inner.DataLines.{IsLineFront}
use Rattle.error_word.specs.inner.FirstWords.{IsError, IsNoError, IsOpenWord}
use Rattle.dap_client.specs.inner.Objects.{IsObjectOf}
use Rattle.dap_client.specs.declared.data_line.DataLine.{DataLine}
use Rattle.error_word.specs.declared.first_word.FirstWord.{FirstWord}
use Rattle.dap_client.specs.declared.stage.Stage.{Stage}
use Rattle.dap_client.specs.declared.stage.Stage.TheVariants as stage

-- so many bytes are taken at once
abbrev pub piece_length : ℕ
piece_length = most_piece

-- a reader of the DDS has had these bytes
abbrev pub HadAll : DdsReader → List ℕ → Type 0
HadAll reader bytes = reading.DdsStandsAfter reader bytes × (reading.start_of reader ≡ 0)

-- the bytes are a text, which the reader of the DDS had
abbrev pub EndsText : DdsReader → List ℕ → Type 0
EndsText reader bytes = reading.DdsStandsAfter reader bytes × ((d : Dataset) × IsDone bytes (length bytes) d)

pub record IsFirst (word : FirstWord) (front : List ℕ) (reader : DdsReader) (bytes : List ℕ) : Type 0 where
  pub is_word : IsOpenWord word bytes
  pub kept : front ≡ take limit bytes
  pub had : HadAll reader bytes

-- behind a text, in the line behind it
pub record IsInLine (d : Dataset) (line : DataLine) (bytes : List ℕ) : Type 0 where
  pub text : List ℕ
  pub rest : List ℕ
  pub has_text : HasText bytes d text rest
  pub is_front : IsLineFront line rest
  pub well_formed : IsWellFormed d

-- behind a good `Data:` line: the DDS was put, and the lines of the values
pub record HasValues (decoder : Decoder) (bytes put : List ℕ) : Type 0 where
  pub head : List ℕ
  pub values : List ℕ
  pub lines : List ℕ
  pub has_head : HasHeadOf bytes (decoding.dataset_of decoder) head values
  pub stands : decoding.DecoderStandsAfter decoder values lines
  pub starts : decoding.start_of decoder ≡ length head
  pub room : decoding.place_of decoder ≤ length bytes
  pub is_put : put ≡ dds (decoding.dataset_of decoder) ++ lines

-- and nothing is wrong with the values
pub record IsInValues (decoder : Decoder) (bytes put : List ℕ) : Type 0 where
  pub begun : HasValues decoder bytes put
  pub good : IsOpen (decoding.dataset_of decoder) begun.values ⊎ decoding.EndsBehind (decoding.dataset_of decoder) begun.values (length begun.values)
  pub shows : ShowsFront (decoding.dataset_of decoder) begun.values begun.lines

-- what is wrong stays, whatever follows
pub record IsDataRefused (field : BadField) (bytes put : List ℕ) : Type 0 where
  pub stays : (more : List ℕ) → Judges dods_form (bytes ++ more) (bad field.kind field.place)
  pub is_fault : is_fault field.kind ≡ true
  pub shows : ShowsLines (take field.place bytes) put

-- as many bytes came as are looked at, and so this is their verdict, whatever follows
pub record IsFull (field : BadField) (bytes put : List ℕ) : Type 0 where
  pub full : length bytes ≡ budget
  pub stays : (more : List ℕ) → IsVerdict dods_form (bytes ++ more) (bad field.kind field.place)
  pub other : ¬ (field.kind ≡ Cut)
  pub shows : ShowsLines (take field.place bytes) put

abbrev pub IsStage : Stage → List ℕ → List ℕ → Type 0
IsStage (stage.First word front reader) bytes put = IsFirst word front.items reader bytes × (put ≡ [])
IsStage (stage.Error object) bytes put = IsError bytes × IsObjectOf bytes object × (put ≡ [])
IsStage (stage.Text reader) bytes put = IsNoError bytes × HadAll reader bytes × IsUnfinished bytes × (put ≡ [])
IsStage (stage.Line dataset line) bytes put = IsNoError bytes × IsInLine (dataset_view dataset) line bytes × (put ≡ [])
IsStage (stage.Values decoder) bytes put = IsNoError bytes × IsInValues decoder bytes put
IsStage (stage.Refused field) bytes put = IsDataRefused field bytes put
IsStage (stage.Full field) bytes put = IsFull field bytes put
IsStage stage.Failed bytes put = StopsWithin bytes put
IsStage stage.Spent bytes put = HasFewValues piece_length bytes × (put ≡ [])

-- the sink gained a text, and so the reader stands after these bytes
abbrev pub Moves : Option (List ℕ) → Option (List ℕ) → List ℕ → List ℕ → Stage → Type 0
Moves before now bytes put s = Gains before now (λ text. IsStage s bytes (put ++ text))

abbrev pub WhereFailed : Type 0 → Stage → Type 0
WhereFailed P stage.Failed = P
WhereFailed P s = ⊤

-- it looks at further bytes
abbrev pub is_open_stage : Stage → Bool
is_open_stage (stage.Refused field) = false
is_open_stage (stage.Full field) = false
is_open_stage stage.Failed = false
is_open_stage stage.Spent = false
is_open_stage s = true

-- nothing was put by then
abbrev pub IsQuiet : Stage → Type 0
IsQuiet (stage.Values decoder) = ⊥
IsQuiet (stage.Refused field) = ⊥
IsQuiet (stage.Full field) = ⊥
IsQuiet stage.Failed = ⊥
IsQuiet s = ⊤

abbrev pub WhereQuiet : Type 0 → Stage → Type 0
WhereQuiet P (stage.Values decoder) = ⊤
WhereQuiet P (stage.Refused field) = ⊤
WhereQuiet P (stage.Full field) = ⊤
WhereQuiet P stage.Failed = ⊤
WhereQuiet P s = P
