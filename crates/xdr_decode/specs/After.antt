-- Which bytes a decoder stands after and what it has put of them, and what an answer says of them and the
-- piece behind them.
use Rattle.std.specs.Prelude.{◌≡◌, ℕ, ◌+◌, ◌<◌, ◌^◌, ⊤, List, ◌++◌, length, take, All}
use Rattle.dap_types.specs.Model.{Dataset, Tree}
use Rattle.dap_types.specs.View.{dataset_view}
use Rattle.dap_types.specs.WellFormed.{IsWellFormed}
use Rattle.dap_model.specs.Received.{Fault, ValuesEndAt, IsBadField}
use Rattle.dap_model.specs.Xdr.{Field, SpellsFields}
use Rattle.xdr_decode.specs.Verdict.{kind_of}
use Rattle.reply_faults.specs.declared.bad.BadField.{BadField}
use Rattle.xdr_fields.specs.Wants.{Steps, said, says_next, wants_of}
use Rattle.xdr_decode.specs.inner.Places.{HaveMarks, IsOwn, IsPlaced, wants_left}
use Rattle.xdr_decode.specs.Shown.{ShowsFront}
use Rattle.xdr_decode.specs.declared.decoder.Decoder.{Decoder}
use Rattle.xdr_decode.specs.declared.decoder.Pushed.{Pushed}
use Rattle.xdr_decode.specs.declared.decoder.Pushed.TheVariants.{More, Done, Refused, WriteFault}
use Rattle.xdr_decode.specs.declared.decoder.State.{State}
use Rattle.xdr_decode.specs.declared.decoder.State.TheVariants as state

-- the dataset, the place from which a decoder counts, and the place of the next byte
abbrev pub dataset_of : Decoder → Dataset
dataset_of r = dataset_view r.dataset

abbrev pub start_of : Decoder → ℕ
start_of r = r.start

abbrev pub place_of : Decoder → ℕ
place_of r = r.taken + length r.held.items

-- good fields have come, and a proper part of the next one
pub record Reads (r : Decoder) (bytes put : List ℕ) : Type 0 where
  pub well_formed : IsWellFormed (dataset_of r)
  pub front : List ℕ
  pub own : List ℕ
  pub fields : List Field
  pub parts : bytes ≡ front ++ own
  pub good : SpellsFields fields front
  pub steps : Steps (wants_of (dataset_of r)) fields (wants_left (dataset_of r).members r.place)
  pub is_placed : IsPlaced (dataset_of r).members r.place
  pub is_own : IsOwn r.place (wants_left (dataset_of r).members r.place) r.held.items own
  pub is_put : put ≡ said (wants_of (dataset_of r)) fields ++ says_next (wants_left (dataset_of r).members r.place) own
  pub have_marks : HaveMarks r.place.stage r.taken
  pub is_place : place_of r ≡ start_of r + length bytes
  pub small : place_of r < 2 ^ 64

-- a bad field has come. It stays the first one, whatever follows
pub record IsStopped (r : Decoder) (bad : BadField) (bytes put : List ℕ) : Type 0 where
  pub fault : Fault
  pub place : ℕ
  pub stays : (more : List ℕ) → IsBadField (dataset_of r) (bytes ++ more) fault place
  pub shows : (more : List ℕ) → ShowsFront (dataset_of r) (bytes ++ more) put
  pub is : bad ≡ record { kind = kind_of fault; place = start_of r + place }

abbrev pub Stands : Decoder → State → List ℕ → List ℕ → Type 0
Stands r state.Reading bytes put = Reads r bytes put × All (λ b. b < 256) bytes
Stands r (state.Refused bad) bytes put = IsStopped r bad bytes put
Stands r state.Failed bytes put = ⊥

-- the decoder has used these bytes, and put this text
unfoldable pub DecoderStandsAfter : Decoder → List ℕ → List ℕ → Type 0
DecoderStandsAfter r bytes put = Stands r r.state bytes put

-- the sink failed before
unfoldable pub HasFailed : Decoder → Type 0
HasFailed r = r.state ≡ state.Failed

-- the sink failed before, and so many bytes were pushed, before that and behind it
pub record HasFailedBehind (r : Decoder) (n : ℕ) : Type 0 where
  pub failed : HasFailed r
  pub place : place_of r ≡ start_of r + n
  pub small : place_of r < 2 ^ 64

-- the bytes of a piece that an answer uses
abbrev pub used_of : Pushed → List ℕ → List ℕ
used_of (Done used) piece = take used piece
used_of answer piece = piece

-- by the answer
abbrev pub WhereMore : Type 0 → Pushed → Type 0
WhereMore P More = P
WhereMore P answer = ⊤

abbrev pub WhereDone : (ℕ → Type 0) → Pushed → Type 0
WhereDone P (Done used) = P used
WhereDone P answer = ⊤

abbrev pub WhereRefused : (BadField → Type 0) → Pushed → Type 0
WhereRefused P (Refused bad) = P bad
WhereRefused P answer = ⊤

abbrev pub WhereFault : Type 0 → Pushed → Type 0
WhereFault P WriteFault = P
WhereFault P answer = ⊤

abbrev pub UnlessFault : Type 0 → Pushed → Type 0
UnlessFault P WriteFault = ⊤
UnlessFault P answer = P

-- the place is that of the first bad field
abbrev pub IsFirstBad : Dataset → ℕ → List ℕ → BadField → Type 0
IsFirstBad d start bytes bad = (fault : Fault) × (place : ℕ) × IsBadField d bytes fault place × (bad ≡ record { kind = kind_of fault; place = start + place })

-- values end behind the first so many bytes
abbrev pub EndsBehind : Dataset → List ℕ → ℕ → Type 0
EndsBehind d bytes n = (ts : List Tree) × ValuesEndAt d ts bytes n
