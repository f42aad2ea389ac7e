-- The bytes of a header, as they are put.
use Rattle.std.specs.Prelude.{ℕ, Bool, true, false, List, ◌++◌, length, ◌==◌, if◌then◌else◌}
use Rattle.dap_model.specs.Xdr.{word}
use Rattle.dap_types.specs.declared.declarations.Dim.{Dim}
use Rattle.std.specs.List.{flat_map}
use Rattle.netcdf_source.specs.Versions.{number_bytes}
use Rattle.netcdf_source.specs.declared.version.Width.{Width}
use Rattle.netcdf_source.specs.declared.version.Width.TheVariants.{Four, Eight}
use Rattle.netcdf_writer.specs.File.{type_number}
use Rattle.netcdf_writer.specs.Names.{file_name}
use Rattle.netcdf_writer.specs.Printer.{name_bytes}
use Rattle.netcdf_writer.specs.Variables.{Variable}
use Rattle.netcdf_writer.specs.declared.header.Place.{Place}

abbrev pub width_if : Bool → Width
width_if true = Eight
width_if false = Four

-- the tag and the count of a list
unfoldable pub head_bytes : Width → ℕ → ℕ → List ℕ
head_bytes width tag count = word (if count == 0 then 0 else tag) ++ number_bytes width count

-- a variable at a place, whose dimensions have these numbers
unfoldable pub placed_bytes : Bool → (Dim → ℕ) → Variable → Place → List ℕ
placed_bytes five number v place =
    name_bytes (width_if five) (file_name v.name) ++ number_bytes (width_if five) (length v.dims) ++ flat_map (λ d. number_bytes (width_if five) (number d)) v.dims
    ++ head_bytes (width_if five) 0 0 ++ word (type_number v.base) ++ number_bytes (width_if five) place.size ++ number_bytes (width_if five) place.begin
