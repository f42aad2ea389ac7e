-- How many fields the first record of a file has, byte by byte (RFC 4180).
use Rattle.std.specs.Prelude.{◌≡◌, ◌<◌, ◌≤◌, ℕ, Bool, false, List, ◌∷◌, length}
use Rattle.std.specs.Bool.{MatchBool}
use Rattle.csv.specs.Machine.{fields_after, is_end, step}
use Rattle.csv.specs.Reading.{default_config}
use Rattle.csv.specs.declared.parser.Action.TheVariants as act
use Rattle.csv.specs.declared.parser.State.{State}
use Rattle.csv.specs.declared.parser.State.TheVariants as st
use Rattle.dap_types.specs.Limits.{most_columns}
use Rattle.csv_source.specs.declared.width.Next.{Next}
use Rattle.csv_source.specs.declared.width.Next.TheVariants.{Within, FieldEnd, RecordEnd}
use Rattle.csv_source.specs.declared.width.Place.{Place}
use Rattle.csv_source.specs.declared.width.Place.TheVariants.{Front, Comma, Field, Quoted, Quote}

-- the state of a reader of `csv` at a place
abbrev pub state_of : Place → State
state_of Front = st.StartRecord
state_of Comma = st.StartField
state_of Field = st.InField
state_of Quoted = st.InQuoted
state_of Quote = st.AfterQuote

-- what a byte does in a state
abbrev pub IsStep : State → ℕ → Next → Type 0
IsStep s byte (Within place) =
    ((step default_config s byte).0 ≡ state_of place) × (is_end (step default_config s byte).1 ≡ false)
    × ((fields : List (List ℕ)) (field : List ℕ) → fields_after (step default_config s byte).1 fields field ≡ fields)
IsStep s byte FieldEnd = ((step default_config s byte).0 ≡ st.StartField) × ((step default_config s byte).1 ≡ act.EndField)
IsStep s byte RecordEnd = (step default_config s byte).1 ≡ act.EndRecord

-- whether a file's first record has more than 1,024 fields
abbrev pub TellsWidth : Bool → List (List (List ℕ)) → Type 0
TellsWidth wide records =
    MatchBool wide ((header : List (List ℕ)) × (rows : List (List (List ℕ))) × (records ≡ header ∷ rows) × (most_columns < length header))
    ((header : List (List ℕ)) (rows : List (List (List ℕ))) → records ≡ header ∷ rows → length header ≤ most_columns)
