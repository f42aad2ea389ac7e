-- What an answer says of a body that was to be put.
use Rattle.std.specs.Prelude.{◌≡◌, ◌≢◌, ℕ, ⊤, ◌+◌, ◌<◌, ◌≤◌, List, Option, Result, Ok, Err, length, take}
use Rattle.std.specs.Io.KnownBytes.{Appends}
use Rattle.dap_outside.specs.Causes.{Rose}
use Rattle.dap_outside.specs.Streams.{AppendsFront}
use Rattle.xdr_encode.specs.declared.fault.Fault.{Fault}
use Rattle.xdr_encode.specs.declared.fault.Fault.TheVariants.{Shelf, Sink}
use Rattle.xdr_encode.specs.declared.streamed.Streamed.{Streamed}
use Rattle.xdr_encode.specs.declared.streamed.Streamed.TheVariants.{Sent, ShelfFault, WriteFault}

abbrev pub streamed_at : Fault → Streamed
streamed_at Shelf = ShelfFault
streamed_at Sink = WriteFault

abbrev pub streamed_of : {T : Type 0} → Result T Fault → Streamed
streamed_of (Ok x) = Sent
streamed_of (Err fault) = streamed_at fault

-- the text went out whole, or a front of it that is not all
abbrev pub Streams : Streamed → Option (List ℕ) → Option (List ℕ) → List ℕ → Type 0
Streams Sent old new text = Appends old new text
Streams ShelfFault old new text = AppendsFront old new text
Streams WriteFault old new text = AppendsFront old new text

-- a fault comes only where the count of that object rose, and a count rises only with its own fault
abbrev pub RoseFor : Streamed → ℕ → ℕ → ℕ → ℕ → Type 0
RoseFor Sent reads reads' puts puts' = (reads' ≡ reads) × (puts' ≡ puts)
RoseFor ShelfFault reads reads' puts puts' = Rose reads reads' × (puts' ≡ puts)
RoseFor WriteFault reads reads' puts puts' = Rose puts puts' × (reads' ≡ reads)

-- no count falls
pub record HasStreamCauses (answer : Streamed) (reads reads' puts puts' : ℕ) : Type 0 where
  pub reads_later : reads ≤ reads'
  pub puts_later : puts ≤ puts'
  pub failed : RoseFor answer reads reads' puts puts'

-- a front of a text was put, not all of it, and no more was asked than may be with so many of its bytes put
pub record Stops (text : List ℕ) (may_ask : ℕ → ℕ → Type 0) (old new : Option (List ℕ)) (asked asked' : ℕ) : Type 0 where
  pub put : ℕ
  pub within : put < length text
  pub front : Appends old new (take put text)
  pub most : ℕ
  pub may : may_ask put most
  pub few : asked' ≤ asked + most

abbrev pub StopsAtFault : Streamed → List ℕ → (ℕ → ℕ → Type 0) → Option (List ℕ) → Option (List ℕ) → ℕ → ℕ → Type 0
StopsAtFault Sent text may_ask old new asked asked' = ⊤
StopsAtFault ShelfFault text may_ask old new asked asked' = Stops text may_ask old new asked asked'
StopsAtFault WriteFault text may_ask old new asked asked' = Stops text may_ask old new asked asked'

-- what was put without a file: the text, or a front of it where the sink failed
abbrev pub StreamsAlone : Streamed → Option (List ℕ) → Option (List ℕ) → List ℕ → Type 0
StreamsAlone answer old new text = Streams answer old new text × (answer ≢ ShelfFault)
