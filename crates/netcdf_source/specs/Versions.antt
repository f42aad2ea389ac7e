-- What the versions of the netCDF classic format differ in: the bytes of its numbers and its types
-- (netCDF classic format specification, magic, NON_NEG, OFFSET, nc_type).
use Rattle.std.specs.Prelude.{ℕ, ◌^◌, Bool, true, false, List}
use Rattle.std.specs.Int.{w32, w64, to_be_bytes}
use Rattle.netcdf_source.specs.declared.version.Version.{Version}
use Rattle.netcdf_source.specs.declared.version.Version.TheVariants.{One, Two, Five}
use Rattle.netcdf_source.specs.declared.version.Width.{Width}
use Rattle.netcdf_source.specs.declared.version.Width.TheVariants.{Four, Eight}

-- the byte of a magic
abbrev pub version_byte : Version → ℕ
version_byte One = 1
version_byte Two = 2
version_byte Five = 5

-- counts, lengths, ranks, dimension numbers and sizes
abbrev pub number_width : Version → Width
number_width One = Four
number_width Two = Four
number_width Five = Eight

-- the place of a variable
abbrev pub place_width : Version → Width
place_width One = Four
place_width Two = Eight
place_width Five = Eight

-- the types above 6 are those of version 5 alone
abbrev pub has_more_types : Version → Bool
has_more_types One = false
has_more_types Two = false
has_more_types Five = true

-- ---- numbers of a width

abbrev pub bytes_in : Width → ℕ
bytes_in Four = 4
bytes_in Eight = 8

-- numbers of the width are below it
abbrev pub limit_of : Width → ℕ
limit_of Four = 2 ^ 32
limit_of Eight = 2 ^ 64

-- the bytes of a number, the high byte first
abbrev pub number_bytes : Width → ℕ → List ℕ
number_bytes Four n = to_be_bytes w32 n
number_bytes Eight n = to_be_bytes w64 n

-- the largest number with a sign
abbrev pub largest : Width → ℕ
largest Four = 2147483647
largest Eight = 9223372036854775807

-- the number all bits of which are 1
abbrev pub all_ones : Width → ℕ
all_ones Four = 4294967295
all_ones Eight = 18446744073709551615
