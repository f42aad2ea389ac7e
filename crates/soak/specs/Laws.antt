-- What the definitions promise of the generated file.
use Rattle.std.specs.Prelude.{◌≡◌, ℕ, ◌+◌, ◌-◌, ◌*◌, ◌/◌, ◌≤◌, length, take, Some, Ok}
use Rattle.dap_types.specs.Limits.{most_header}
use Rattle.netcdf_source.specs.Header.{IsHeader}
use Rattle.dap_http.specs.declared.kind.Kind.TheVariants.{Dods}
use Rattle.dap_server.specs.Files.{Files}
use Rattle.dap_server.specs.Results.{Results, result_text}
use Rattle.soak.specs.Asked.{file_name, target}
use Rattle.dap_model.specs.Body.{IsBody}
use Rattle.dap_model.specs.Dds.{dds}
use Rattle.soak.specs.Numbers.{left, numbers, soak_body}
use Rattle.soak.specs.File.{soak_bytes}
use Rattle.soak.specs.Header.{soak_contents}

-- the first bytes of the file are a header, which says this
abbrev pub HeaderIsRead : Type 0
HeaderIsRead = (start records : ℕ) → records ≤ 4096 → IsHeader (soak_contents records) (take most_header (soak_bytes start records)) (length (soak_bytes start records))

-- over files among which it is, its target has that body as its result
abbrev pub BodyIsServed : Type 0
BodyIsServed = (start records : ℕ) (files : Files) → 1 ≤ records → records ≤ 4096 → files file_name ≡ Some (soak_bytes start records)
    → Results (target records) files (Ok (result_text Dods (soak_body start records)))

-- s has 11 elements of 32 rows of every other record, and i one row of 32 of each
abbrev pub ElementsAreCounted : Type 0
ElementsAreCounted = (start records : ℕ) → 1 ≤ records → records ≤ 4096 → (numbers start records).elements ≡ 352 * ((records - 1) / 2 + 1) + 32 * records

-- of 1, of 3 and of 4,096 records
abbrev pub ElementsAreThese : Type 0
ElementsAreThese = (start : ℕ) → ((numbers start 1).elements ≡ 384) × ((numbers start 3).elements ≡ 800) × ((numbers start 4096).elements ≡ 851968)

-- the body is the DDS, the `Data:` line, two counts for each array and a word for each element
abbrev pub BytesAreCounted : Type 0
BytesAreCounted = (start records : ℕ) → 1 ≤ records → records ≤ 4096 → (numbers start records).bytes ≡ length (dds (left start records).dataset) + 22 + 4 * (numbers start records).elements

-- the body is the data response of what the constraint leaves
abbrev pub IsRead : Type 0
IsRead = (start records : ℕ) → 1 ≤ records → records ≤ 4096 → IsBody (soak_body start records) (left start records).dataset (left start records).trees
