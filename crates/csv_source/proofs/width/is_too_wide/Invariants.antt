use Rattle.std.proofs.Common.{◌≡◌, ◌<◌, ℕ, List, [], drop, length}
use Rattle.csv.specs.Machine.{next_record}
use Rattle.csv.specs.Reading.{default_config}
use Rattle.csv.specs.declared.parser.State.TheVariants as st
use Rattle.csv_source.specs.inner.Width.{state_of}
use Rattle.csv_source.proofs.width.is_too_wide.Given as goal

-- so many fields of the record have ended, and the bytes that are left are read on from there
abbrev pub invariant-loop-byte : goal.invariant-loop-byte
invariant-loop-byte l =
    (l.ended < 1024) × (fields : List (List ℕ)) × (field : List ℕ) × (length fields ≡ l.ended)
    × (next_record default_config st.StartRecord [] [] l.text ≡ next_record default_config (state_of l.place) fields field (drop l.byte-index l.text))
