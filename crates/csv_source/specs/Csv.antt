-- The records of a file (RFC 4180, as `csv` defines them for every list of bytes).
use Rattle.std.specs.Prelude.{ℕ, List}
use Rattle.csv.specs.Reading.{default_config, records, strip_bom}

-- the fields of each record, by the defaults of `csv`, which reads past one byte order mark at the front
unfoldable pub csv_records : List ℕ → List (List (List ℕ))
csv_records bytes = records default_config (strip_bom bytes)
