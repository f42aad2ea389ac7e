-- The fields of a netCDF classic header, and what becomes of them from the front: numbers of a width,
-- and runs of bytes that are padded to a multiple of four (netCDF classic format specification).
use Rattle.std.specs.Prelude.{◌≡◌, ℕ, ◌+◌, ◌<◌, ◌⊎◌, Bool, List, [], ◌∷◌, ◌++◌, length, Option, Some, None, Result, Ok, Err, MatchOption, if◌then◌else◌}
use Rattle.netcdf_source.specs.Versions.{bytes_in, limit_of, number_bytes}
use Rattle.netcdf_source.specs.declared.version.Width.{Width}
use Rattle.netcdf_source.specs.declared.failure.Failure.{Failure}
use Rattle.netcdf_source.specs.declared.failure.Failure.TheVariants.{Cut, Streaming, Bad}
use Rattle.dap_model.specs.Xdr.{padded}

pub data Field : Type 0 where
  -- a number of a width
  number : Width → ℕ → Field
  -- so many bytes, these, and their padding
  run : ℕ → List ℕ → Field

abbrev pub field_len : Field → ℕ
field_len (number width n) = bytes_in width
field_len (run n bytes) = padded n

-- the bytes are those of the field; the bytes of a padding are free
abbrev pub Spells : Field → List ℕ → Type 0
Spells (number width n) bs = (n < limit_of width) × (bs ≡ number_bytes width n)
Spells (run n bytes) bs = (padding : List ℕ) × (length bytes ≡ n) × (length bs ≡ padded n) × (bs ≡ bytes ++ padding)

-- what a whole field may be refused for
pub data Fault : Type 0 where
  -- the file is still written
  streaming : Fault
  -- a value that is not allowed, told at so many bytes before the field
  bad : ℕ → Fault

abbrev pub bad_if : Bool → ℕ → Option Fault
bad_if b back = if b then Some (bad back) else None

-- a fault of the field at so many bytes from the end
abbrev pub failure : Fault → ℕ → Failure
failure streaming left = Streaming
failure (bad back) left = Bad (left + back)

-- a field, and its fault where it has one
pub record Judged : Type 0 where
  pub field : Field
  pub fault : Option Fault

abbrev pub judged : Width → (ℕ → Option Fault) → ℕ → Judged
judged width fault n = record { field = number width n; fault = fault n }

abbrev pub fine : Field → Judged
fine field = record { field = field; fault = None }

-- What becomes of the bytes, which begin with these fields as far as they go. The first field that
-- does not end within them, or has a fault, is what fails; else all fields stand there, and some
-- bytes are left.
unfoldable pub Ends : List Judged → List ℕ → Result (List ℕ) Failure → Type 0
Ends [] bytes end = end ≡ Ok bytes
Ends (j ∷ js) bytes end =
    ((length bytes < field_len j.field) × (end ≡ Err Cut))
    ⊎ ((front : List ℕ) × (rest : List ℕ) × (bytes ≡ front ++ rest) × Spells j.field front
    × MatchOption j.fault (Ends js rest end) (λ f. end ≡ Err (failure f (length bytes))))
