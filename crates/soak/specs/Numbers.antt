-- The numbers that are said of the generated file: of what the constraint leaves of it, of its data response,
-- and of what is shown of that.
use Rattle.std.specs.Prelude.{ℕ, ◌-◌, ◌%◌, ◌^◌, List, ◌++◌, length, sum, sum_by, codes}
use Rattle.std.specs.Fmt.{decimal}
use Rattle.dap_types.specs.WellFormed.{elements_of, leaves_of}
use Rattle.dap_model.specs.Body.{body}
use Rattle.dap_model.specs.Shown.{shown}
use Rattle.dap_server.specs.Files.{Stored, netcdf_stored}
use Rattle.dap_server.specs.Results.{Left, left_of}
use Rattle.soak.specs.Asked.{file_name, soak_constraint}
use Rattle.soak.specs.File.{soak_bytes}
use Rattle.soak.specs.Header.{soak_contents}
use Rattle.soak.specs.declared.numbers.Numbers.{Numbers}

-- the file's dataset and values
abbrev pub stored : ℕ → ℕ → Stored
stored start records = netcdf_stored file_name (soak_bytes start records) (soak_contents records)

-- what the constraint leaves of them
abbrev pub left : ℕ → ℕ → Left
left start records = left_of (stored start records) (soak_constraint (records - 1))

abbrev pub soak_body : ℕ → ℕ → List ℕ
soak_body start records = body (left start records).dataset (left start records).trees

-- what is shown of that body
abbrev pub shown_text : ℕ → ℕ → List ℕ
shown_text start records = shown (left start records).dataset (left start records).trees (length (soak_body start records))

-- the elements of all leaves, the bytes of the body and of the shown text, and the sum of the latter
abbrev pub numbers : ℕ → ℕ → Numbers
numbers start records = record {
  elements = sum_by (λ leaf. elements_of leaf.1) (leaves_of (left start records).dataset);
  bytes = length (soak_body start records);
  shown = length (shown_text start records);
  sum = sum (shown_text start records) % 2 ^ 32;
}

-- a line for each: NAME N
abbrev pub lines_of : Numbers → List ℕ
lines_of n =
    codes "elements " ++ (decimal n.elements
    ++ (codes "\nbytes " ++ (decimal n.bytes
    ++ (codes "\nshown " ++ (decimal n.shown
    ++ (codes "\nsum " ++ (decimal n.sum ++ codes "\n")))))))
