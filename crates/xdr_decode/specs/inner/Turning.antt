-- How a decoder goes through a piece, one field after the other.
use Rattle.std.specs.Prelude.{◌≡◌, ℕ, ◌+◌, ◌*◌, ◌≤◌, ◌<◌, ⊤, ◌⊎◌, List, [], ◌∷◌, ◌++◌, length, min, take, Option, Some, Result, Ok, Err}
use Rattle.dap_types.specs.Model.{Dataset, Members}
use Rattle.dap_types.specs.WellFormed.{IsWellFormed}
use Rattle.dap_model.specs.Xdr.{Field, SpellsFields}
use Rattle.dap_outside.specs.declared.failed.Failed.{Failed}
use Rattle.xdr_fields.specs.Wants.{Want, a_text, Steps, room, said, says_next, wants_of}
use Rattle.xdr_decode.specs.After.{IsStopped, Reads, dataset_of, place_of, start_of}
use Rattle.dap_outside.specs.Buffered.{Puts}
use Rattle.xdr_decode.specs.inner.Places.{HaveMarks, IsPlaced, Spot, spot_at, wants_left}
use Rattle.xdr_decode.specs.declared.decoder.Decoder.{Decoder}
use Rattle.xdr_decode.specs.declared.decoder.Pushed.{Pushed}
use Rattle.xdr_decode.specs.declared.decoder.Pushed.TheVariants as pushed
use Rattle.xdr_decode.specs.declared.field.Ask.{Ask}
use Rattle.xdr_decode.specs.declared.place.Next.{Next}
use Rattle.xdr_decode.specs.declared.place.Next.TheVariants as next
use Rattle.xdr_decode.specs.declared.place.Place.{Place}
use Rattle.xdr_decode.specs.declared.place.Stage.{Stage}
use Rattle.xdr_decode.specs.declared.place.Stage.TheVariants as stage
use Rattle.xdr_decode.specs.declared.place.Text.{Text}
use Rattle.xdr_decode.specs.declared.place.Text.TheVariants as text
use Rattle.xdr_decode.specs.declared.next_field.Turn.{Turn}
use Rattle.xdr_decode.specs.declared.next_field.Turn.TheVariants as turn

-- good fields and bytes of the next one, what was put of them, and what is still to come
pub record Spelled (d : Dataset) (bytes put : List ℕ) (ws : List Want) (own : List ℕ) : Type 0 where
  pub front : List ℕ
  pub fields : List Field
  pub parts : bytes ≡ front ++ own
  pub good : SpellsFields fields front
  pub steps : Steps (wants_of d) fields ws
  pub is_put : put ≡ said (wants_of d) fields ++ says_next ws own

-- how many bytes the next field has
abbrev pub first_room : List Want → ℕ
first_room [] = 0
first_room (w ∷ ws) = room w

-- these are the bytes that came of the next field, which may be whole. Those of a string are not held
abbrev pub IsHeld : Text → List Want → List ℕ → List ℕ → Type 0
IsHeld (text.Bytes left size) ws held own = (held ≡ []) × (length own + left ≡ size)
IsHeld t ws held own = (held ≡ own) × (length own ≤ first_room ws)

-- between two fields, or within one
pub record Stays (r : Decoder) (bytes put : List ℕ) : Type 0 where
  pub well_formed : IsWellFormed (dataset_of r)
  pub own : List ℕ
  pub spelled : Spelled (dataset_of r) bytes put (wants_left (dataset_of r).members r.place) own
  pub is_placed : IsPlaced (dataset_of r).members r.place
  pub is_held : IsHeld r.place.text (wants_left (dataset_of r).members r.place) r.held.items own
  pub have_marks : HaveMarks r.place.stage r.taken
  pub is_place : place_of r ≡ start_of r + length bytes

-- of a string that comes next no more came than it has
abbrev pub IsLoose : List Want → List ℕ → Type 0
IsLoose (a_text n ∷ ws) own = length own ≤ n
IsLoose ws own = ⊤

-- the sink failed behind so many bytes of the rest
pub record IsBroken (d : Dataset) (rest bytes put : List ℕ) : Type 0 where
  pub used : ℕ
  pub wants : List Want
  pub own : List ℕ
  pub spelled : Spelled d (bytes ++ take used rest) put wants own
  pub is_loose : IsLoose wants own

abbrev pub IsSome : List Want → Type 0
IsSome ws = (w : Want) × (vs : List Want) × (ws ≡ w ∷ vs)

-- where an answer leaves the decoder that had read these bytes, with the rest of a piece behind them
abbrev pub IsLeft : Decoder → List ℕ → List ℕ → List ℕ → Result Turn Failed → Type 0
IsLeft r rest bytes put (Ok (turn.Went used)) = (used ≤ length rest) × Stays r (bytes ++ take used rest) put
IsLeft r rest bytes put (Ok turn.Ended) = Stays r bytes put × (wants_left (dataset_of r).members r.place ≡ [])
IsLeft r rest bytes put (Ok turn.Short) = Reads r (bytes ++ rest) put × IsSome (wants_left (dataset_of r).members r.place)
IsLeft r rest bytes put (Ok (turn.Bad bad)) = IsStopped r bad (bytes ++ rest) put
IsLeft r rest bytes put (Err e) = IsBroken (dataset_of r) rest bytes put

-- and what was put through the buffer
pub record Turns (before : Option (List ℕ)) (held : List ℕ) (now : Option (List ℕ)) (left : List ℕ) (r : Decoder) (rest bytes put : List ℕ) (result : Result Turn Failed) : Type 0 where
  pub gained : List ℕ
  pub is_left : IsLeft r rest bytes (put ++ gained) result
  pub puts : Puts before held now left result gained

-- of a string that comes next nothing was read
abbrev pub IsFresh : Text → Type 0
IsFresh (text.Bytes left size) = left ≡ size
IsFresh t = ⊤

-- how many fields without bytes may come at once
abbrev pub text_rank : Text → ℕ
text_rank text.Nothing = 0
text_rank (text.Bytes left size) = 4
text_rank (text.Padding size) = 2

abbrev pub stage_rank : Stage → ℕ
stage_rank (stage.Filler count) = 1
stage_rank s = 0

abbrev pub rank : Place → ℕ
rank p = text_rank p.text + stage_rank p.stage

-- it falls with each turn, with the bytes of the piece
abbrev pub weight : Decoder → ℕ
weight r = rank r.place + 6 * min 1 (length r.held.items)

abbrev pub Falls : Decoder → Decoder → List ℕ → Result Turn Failed → Type 0
Falls old new rest (Ok (turn.Went used)) = (used ≤ length rest) × (weight new < weight old + 6 * used) × (place_of new ≤ place_of old + used)
Falls old new rest r = place_of new ≤ place_of old + length rest

-- a field without bytes comes only behind a string or packed bytes
abbrev pub MayBeEmpty : Members → Place → Type 0
MayBeEmpty ms p =
    ((n : ℕ) × (p.text ≡ text.Padding n))
    ⊎ ((p.text ≡ text.Nothing) × (stage_rank p.stage ≡ 1) × (s : Spot) × (spot_at ms p ≡ Some s))

abbrev pub WhereField : (Ask → Type 0) → Next → Type 0
WhereField P (next.Field ask) = P ask
WhereField P n = ⊤

abbrev pub WhereBytes : (ℕ → Type 0) → Next → Type 0
WhereBytes P (next.Bytes left) = P left
WhereBytes P n = ⊤

-- where an answer leaves the decoder that had read these bytes, with a piece behind them
abbrev pub IsRead : Decoder → List ℕ → List ℕ → List ℕ → Result Pushed Failed → Type 0
IsRead r piece bytes put (Ok (pushed.Done used)) = (used ≤ length piece) × Stays r (bytes ++ take used piece) put × (wants_left (dataset_of r).members r.place ≡ [])
IsRead r piece bytes put (Ok pushed.More) = Reads r (bytes ++ piece) put × IsSome (wants_left (dataset_of r).members r.place)
IsRead r piece bytes put (Ok (pushed.Refused bad)) = IsStopped r bad (bytes ++ piece) put
IsRead r piece bytes put (Ok pushed.WriteFault) = ⊥
IsRead r piece bytes put (Err e) = IsBroken (dataset_of r) piece bytes put

pub record IsGoneThrough (before : Option (List ℕ)) (held : List ℕ) (now : Option (List ℕ)) (left : List ℕ) (r : Decoder) (piece bytes put : List ℕ) (result : Result Pushed Failed) : Type 0 where
  pub gained : List ℕ
  pub is_read : IsRead r piece bytes (put ++ gained) result
  pub puts : Puts before held now left result gained
