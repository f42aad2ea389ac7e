-- What is known of a file from where a reader stands in it.
use Rattle.std.proofs.Common.{Bor, ◌≡◌, ◌≤◌, ℕ, true, List, ◌∷◌, [], ◌++◌, length, Some, refl, arith, ◌∙◌}
use Rattle.std.specs.Prelude.{Bool, false, Result, Ok, Err, IfOk}
use Rattle.std.specs.Bool.{MatchBool}
use Rattle.csv.specs.Reading.{default_config, reader_state, strip_bom, ReadRecord, ReadsOn, Ready, reader_trim}
use Rattle.csv.proofs.ReadFacts.{rows-end, rows-more}
use Rattle.csv.specs.declared.error.Error.{Error}
use Rattle.csv.specs.declared.reader.Trim.TheVariants as trim
use Rattle.csv.specs.declared.parser.State.TheVariants as st
use Rattle.csv.specs.declared.reader.Reader.{Reader}
use Rattle.csv_source.specs.Csv.{csv_records}
use Rattle.csv_source.specs.inner.Standing.{Stands}
use Rattle.csv_source.proofs.Recorded.{reached-bound, recorded, recorded-front}
use Rattle.csv_source.specs.inner.Held.{total_all}
use Rattle.csv_source.proofs.Sizes.{reached-total, strip_bom-shorter}

-- the records so far are the first ones
pub stands-front : (bytes : List ℕ) (done : List (List (List ℕ))) (reader : Reader (Bor (List ℕ))) → Stands bytes done reader
    → (rest : List (List (List ℕ))) × (csv_records bytes ≡ done ++ rest)
stands-front bytes done reader h = recorded-front bytes done (reader_state reader) h.rest h.reached

-- they are as many as the bytes at most
pub stands-count : (bytes : List ℕ) (done : List (List (List ℕ))) (reader : Reader (Bor (List ℕ))) → Stands bytes done reader → length done ≤ length bytes
stands-count bytes done reader h =
    let below = reached-bound default_config st.StartRecord (strip_bom bytes) done (reader_state reader) h.rest refl h.reached in
    omega (arith, below, strip_bom-shorter bytes)

-- and all their fields together are no longer than the bytes
pub stands-total : (bytes : List ℕ) (done : List (List (List ℕ))) (reader : Reader (Bor (List ℕ))) → Stands bytes done reader → total_all done ≤ length bytes
stands-total bytes done reader h =
    let below = reached-total default_config st.StartRecord (strip_bom bytes) done (reader_state reader) h.rest h.reached in
    omega (arith, below, strip_bom-shorter bytes)

-- what a read of a record does to where a reader stands
pub reads-stands : (old new : Reader (Bor (List ℕ))) (fields : List (List ℕ)) (r : Result Bool Error)
    → IfOk r (λ found. (reader_trim old ≡ trim.None) → Ready old → ReadRecord (λ s. Some s.now) old new found fields)
    → IfOk r (λ found. found ≡ true → ReadsOn old new)
    → IfOk r (λ found. (bytes : List ℕ) (done : List (List (List ℕ))) → Stands bytes done old
    → MatchBool found (Stands bytes (done ++ fields ∷ []) new) (csv_records bytes ≡ done))
reads-stands old new fields (Err e) reads on = tt
reads-stands old new fields (Ok true) reads on = λ bytes done h.
    let o = on refl in
    let m = rows-more (λ (s : Bor (List ℕ)). Some s.now) old new fields default_config st.StartRecord (strip_bom bytes) h.rest done h.config h.source h.reached (reads h.trim h.ready) in
    record {
      flexible = o.2 ∙ h.flexible;
      trim = o.1 ∙ h.trim;
      ready = (o.4 h.ready).0;
      config = o.0 ∙ h.config;
      rest = m.0;
      source = m.1;
      reached = m.2;
    }
reads-stands old new fields (Ok false) reads on = λ bytes done h.
    let over = rows-end (λ (s : Bor (List ℕ)). Some s.now) old new fields default_config h.rest h.config h.source (reads h.trim h.ready) in
    recorded bytes done (reader_state old) h.rest h.reached over
