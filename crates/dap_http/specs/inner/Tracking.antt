-- What an unframer knows of the bytes that it has used, and what its answers make of it.
use Rattle.std.specs.Prelude.{◌≡◌, ℕ, ◌+◌, ◌<◌, ◌≤◌, ◌⊎◌, List, [], ◌++◌, length, take, IsTrue}
use Rattle.reply_faults.specs.declared.bad.BadField.{BadField}
use Rattle.reply_faults.specs.declared.bad.Bad.TheVariants.{BadChunk}
use Rattle.dap_http.specs.Codings.{Ends, Fails, Goes}
use Rattle.dap_http.specs.inner.Steps.{Known, is_open, run, start}
use Rattle.dap_http.specs.declared.chunk_step.At.TheVariants.{Done, Bad}
use Rattle.dap_http.specs.declared.coding.Coding.{Coding}
use Rattle.dap_http.specs.declared.coding.Coding.TheVariants.{Chunked, Length, ToEnd}
use Rattle.dap_http.specs.declared.unframer.Unframed.{Unframed}
use Rattle.dap_http.specs.declared.unframer.Unframed.TheVariants.{Part, More, End, Refused}
use Rattle.dap_http.specs.declared.unframer.Unframer.{Unframer}

-- it knows this of the chunked coding
pub record Tracks (u : Unframer) (k : Known) : Type 0 where
  pub at : u.at ≡ k.at
  pub used : u.used ≡ k.used
  pub from : u.from ≡ k.from
  pub lent : u.lent ≡ length k.body

-- what an answer says of what is known of a piece
abbrev pub Lands : Known → Unframer → List ℕ → Unframed → Type 0
Lands k u piece (Part lent used) =
    (used ≤ length piece) × (0 < length lent.now) × ((front : List ℕ) × (take used piece ≡ front ++ lent.now))
    × Tracks u (run k (take used piece)) × ((run k (take used piece)).body ≡ k.body ++ lent.now) × IsTrue (is_open u.at)
Lands k u piece More = Tracks u (run k piece) × ((run k piece).body ≡ k.body) × IsTrue (is_open u.at)
Lands k u piece (End used) =
    (used ≤ length piece) × Tracks u (run k (take used piece)) × ((run k (take used piece)).body ≡ k.body) × (u.at ≡ Done)
Lands k u piece (Refused bad) =
    Tracks u (run k piece) × ((run k piece).body ≡ k.body) × (u.at ≡ Bad) × (bad.kind ≡ BadChunk) × (bad.place ≡ u.from)

abbrev pub StandsIn : Coding → Unframer → List ℕ → Type 0
StandsIn Chunked u bytes = Tracks u (run start bytes) × (u.used ≡ length bytes)
StandsIn (Length n) u bytes = (u.lent ≡ length bytes) × (u.used ≡ length bytes) × (length bytes ≤ n)
StandsIn ToEnd u bytes = (u.lent ≡ length bytes) × (u.used ≡ length bytes)

-- A bad chunk at a place.
abbrev pub wrong_at : ℕ → BadField
wrong_at place = record { kind = BadChunk; place = place }

-- behind these bytes, of which the body is this, what an answer for a piece says
abbrev pub Says : Coding → List ℕ → List ℕ → List ℕ → Unframed → Type 0
Says coding bytes body piece (Part lent used) =
    (used ≤ length piece) × (0 < length lent.now) × ((front : List ℕ) × (take used piece ≡ front ++ lent.now))
    × (Goes coding (bytes ++ take used piece) (body ++ lent.now) ⊎ Ends coding (bytes ++ take used piece) (body ++ lent.now))
Says coding bytes body piece More = Goes coding (bytes ++ piece) body
Says coding bytes body piece (End used) = (used ≤ length piece) × Ends coding (bytes ++ take used piece) body
Says coding bytes body piece (Refused bad) = (bad.kind ≡ BadChunk) × Fails coding (bytes ++ piece) body bad.place

-- Behind these bytes an answer for a piece is the right one. Inner: `Unframer::next` says it clause by clause.
pub record IsRight (coding : Coding) (bytes piece : List ℕ) (answer : Unframed) : Type 0 where
  pub says : (body : List ℕ) → Goes coding bytes body → Says coding bytes body piece answer
  pub goes_on : (body : List ℕ) → Goes coding bytes body → Goes coding (bytes ++ piece) body → answer ≡ More
  pub ended : (body : List ℕ) (n : ℕ) → Goes coding bytes body → n ≤ length piece → Ends coding (bytes ++ take n piece) body → answer ≡ End n
  pub faulty : (body : List ℕ) (place : ℕ) → Goes coding bytes body → Fails coding (bytes ++ piece) body place → answer ≡ Refused (wrong_at place)
  pub again : (body : List ℕ) → Ends coding bytes body → answer ≡ End 0
  pub still : (body : List ℕ) (place : ℕ) → Fails coding bytes body place → answer ≡ Refused (wrong_at place)

-- of a body of a stated length, of which so many bytes came
abbrev pub Counts : ℕ → ℕ → ℕ → List ℕ → Unframed → Type 0
Counts lent now whole piece (Part bytes used) =
    (used ≤ length piece) × (bytes.now ≡ take used piece) × (0 < used) × (lent + used ≤ whole) × (now ≡ lent + used)
Counts lent now whole piece More = (piece ≡ []) × (lent < whole) × (now ≡ lent)
Counts lent now whole piece (End used) = (used ≡ 0) × (whole ≤ lent) × (now ≡ lent)
Counts lent now whole piece (Refused bad) = ⊥

-- of a body up to the end
abbrev pub Passes : ℕ → ℕ → List ℕ → Unframed → Type 0
Passes lent now piece (Part bytes used) = (used ≡ length piece) × (bytes.now ≡ piece) × (0 < used) × (now ≡ lent + used)
Passes lent now piece More = (piece ≡ []) × (now ≡ lent)
Passes lent now piece answer = ⊥
