-- The generated file `soak.nc` (netCDF classic format, version 1): a record dimension `t`, dimensions `y` and
-- `x` of 32, and the record variables `s` of shorts and `i` of ints over the three, without attributes. Its
-- values come from a linear congruential generator.
use Rattle.std.specs.Prelude.{ℕ, zero, suc, ◌+◌, ◌*◌, ◌/◌, ◌%◌, ◌^◌, List, [], ◌∷◌, ◌++◌, nat_lt, if◌then◌else◌, codes}
use Rattle.std.specs.Int.{to_be_bytes, w16, w32}
use Rattle.std.specs.List.{flat_map, range_with_len}
use Rattle.dap_model.specs.Xdr.{word}

-- the state of the generator behind so many steps (Knuth, MMIX)
unfoldable pub state : ℕ → ℕ → ℕ
state start zero = start
state start (suc k) = (6364136223846793005 * state start k + 1442695040888963407) % 2 ^ 64

-- a value in a record of 1,024 shorts and then 1,024 ints: the high bits of a state
abbrev pub bytes_at : ℕ → ℕ → List ℕ
bytes_at in_record x = if nat_lt in_record 1024 then to_be_bytes w16 (x / 2 ^ 48) else to_be_bytes w32 (x / 2 ^ 32)

-- value k of the file, from 0, in the order of its bytes
abbrev pub value_bytes : ℕ → ℕ → List ℕ
value_bytes start k = bytes_at (k % 2048) (state start (k + 1))

-- so many values from the front
unfoldable pub values : ℕ → ℕ → List ℕ
values start count = flat_map (value_bytes start) (range_with_len 0 count)

-- a name of one byte, with its length and its padding
abbrev pub letter : List ℕ → List ℕ
letter name = word 1 ++ name ++ 0 ∷ 0 ∷ 0 ∷ []

-- an absent list
abbrev pub absent : List ℕ
absent = word 0 ++ word 0

-- a variable over the three dimensions: its type, its bytes in a record and its place
abbrev pub variable : List ℕ → ℕ → ℕ → ℕ → List ℕ
variable name external_type size begin =
    letter name ++ word 3 ++ word 0 ++ word 1 ++ word 2 ++ absent ++ word external_type ++ word size ++ word begin

-- what stands behind the number of records
abbrev pub described : List ℕ
described =
    word 10 ++ word 3 ++ letter (codes "t") ++ word 0 ++ letter (codes "y") ++ word 32 ++ letter (codes "x") ++ word 32
    ++ absent
    ++ word 11 ++ word 2 ++ variable (codes "s") 3 2048 156 ++ variable (codes "i") 4 4096 2204

unfoldable pub header : ℕ → List ℕ
header records = codes "CDF" ++ 1 ∷ word records ++ described

-- the bytes of the file
abbrev pub soak_bytes : ℕ → ℕ → List ℕ
soak_bytes start records = header records ++ values start (2048 * records)
