-- What was read of a source into the reader of a body, and what was put by then.
use Rattle.std.specs.Prelude.{◌≡◌, ◌⊎◌, false, List, ℕ, ◌++◌, Option}
use Rattle.std.specs.Io.KnownBytes.{Appends, Consumes}
use Rattle.dap_client.specs.inner.Readers.{ReaderStandsAfter, is_open}
use Rattle.dap_client.specs.declared.reader.BodyReader.{BodyReader}

-- the reader stood after some bytes: so many more were taken, and this was put of them
abbrev pub ReadsOn : Option (List ℕ) → Option (List ℕ) → Option (List ℕ) → Option (List ℕ) → BodyReader → List ℕ → List ℕ → Type 0
ReadsOn left now written text reader bytes put =
    (more : List ℕ) × (further : List ℕ) × Consumes left now more × Appends written text further × ReaderStandsAfter reader (bytes ++ more) (put ++ further)

-- the reader was given all that was taken, and has put all that was put
abbrev pub Reads : Option (List ℕ) → Option (List ℕ) → Option (List ℕ) → Option (List ℕ) → BodyReader → Type 0
Reads left now written text reader = (bytes : List ℕ) × (put : List ℕ) × Consumes left now bytes × Appends written text put × ReaderStandsAfter reader bytes put

-- no more is looked at, or nothing is left
abbrev pub EndsReading : BodyReader → Type 0 → Type 0
EndsReading reader AtEnd = (is_open reader ≡ false) ⊎ AtEnd
