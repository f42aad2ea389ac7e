-- Where a push leaves a decoder.
use Rattle.std.specs.Prelude.{◌≡◌, ℕ, ◌≤◌, ⊤, List, [], ◌++◌, length, take, Option}
use Rattle.std.specs.Io.KnownBytes.{Appends}
use Rattle.xdr_decode.specs.After.{IsStopped, Reads, dataset_of}
use Rattle.xdr_decode.specs.inner.Places.{wants_left}
use Rattle.xdr_decode.specs.Shown.{ShowsSome}
use Rattle.xdr_decode.specs.inner.Turning.{IsSome}
use Rattle.xdr_decode.specs.declared.decoder.Decoder.{Decoder}
use Rattle.xdr_decode.specs.declared.decoder.Pushed.{Pushed}
use Rattle.xdr_decode.specs.declared.decoder.Pushed.TheVariants as pushed
use Rattle.xdr_decode.specs.declared.decoder.State.{State}
use Rattle.xdr_decode.specs.declared.decoder.State.TheVariants as state

-- by the answer
abbrev pub IsSaid : Decoder → List ℕ → List ℕ → List ℕ → Pushed → Type 0
IsSaid q piece bytes put (pushed.Done used) = (used ≤ length piece) × Reads q (bytes ++ take used piece) put × (wants_left (dataset_of q).members q.place ≡ []) × (q.state ≡ state.Reading)
IsSaid q piece bytes put pushed.More = Reads q (bytes ++ piece) put × IsSome (wants_left (dataset_of q).members q.place) × (q.state ≡ state.Reading)
IsSaid q piece bytes put (pushed.Refused bad) = IsStopped q bad (bytes ++ piece) put × (q.state ≡ state.Refused bad)
IsSaid q piece bytes put pushed.WriteFault = ShowsSome (dataset_of q) (bytes ++ piece) put × (q.state ≡ state.Failed)

-- with what the sink gained
pub record IsPushed (before now : Option (List ℕ)) (q : Decoder) (piece bytes put : List ℕ) (p : Pushed) : Type 0 where
  pub gained : List ℕ
  pub is_said : IsSaid q piece bytes (put ++ gained) p
  pub sent : Appends before now gained

-- an answer of the bytes, and not of the sink
abbrev pub IsAnswer : Pushed → Type 0
IsAnswer pushed.WriteFault = ⊥
IsAnswer p = ⊤

-- what becomes of the decoder
abbrev pub state_behind : Pushed → State
state_behind (pushed.Refused bad) = state.Refused bad
state_behind pushed.WriteFault = state.Failed
state_behind p = state.Reading
