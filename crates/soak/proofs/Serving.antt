-- What is asked of the generated file is served.
use Rattle.std.proofs.Common.{◌≡◌, ℕ, ◌+◌, ◌-◌, ◌*◌, ◌/◌, ◌≤◌, false, length, refl, sym, ap, ◌∙◌, arith, ltb, Some, None, Ok, inl, sum_by, option_map, length-append}
use Rattle.std.proofs.lemmas.Bool.Decides.{nat_tests}
use Rattle.dap_types.specs.WellFormed.{elements_of, leaves_of}
use Rattle.dap_model.specs.Body.{too_large}
use Rattle.dap_model.specs.Dds.{array_text, closing, dds, line}
use Rattle.file_names.specs.Names.{segment}
use Rattle.std.specs.Fmt.{decimal}
use Rattle.std.proofs.lemmas.Fmt.{length-decimal-le}
use Rattle.dap_model.specs.Filter.{constrained}
use Rattle.grid_projection.specs.Marks.{marks}
use Rattle.grid_projection.specs.Resolved.{cause}
use Rattle.dap_errors.specs.declared.cause.Cause.TheVariants.{NoFile}
use Rattle.dap_server.specs.Files.{Files, netcdf}
use Rattle.dap_server.specs.Results.{File, Opens}
use Rattle.dap_server.specs.Steps.{found_or}
use Rattle.dap_server.proofs.Accepted.{accepted_is_served}
use Rattle.soak.specs.Asked.{constraint_text, file_name, soak_constraint, target}
use Rattle.soak.specs.Datasets.{soak_left}
use Rattle.soak.specs.File.{soak_bytes}
use Rattle.soak.specs.Header.{soak_contents}
use Rattle.soak.specs.Laws.{ElementsAreCounted, ElementsAreThese, BodyIsServed}
use Rattle.soak.specs.Numbers.{left, stored}
use Rattle.soak.proofs.Headers.{header_is}
use Rattle.soak.proofs.Leaving.{dataset-is, left-is, no-cause}
use Rattle.soak.proofs.Requested.{asked}
use Rattle.soak.proofs.Spelled.{is-spelled}

opens : (start records : ℕ) (files : Files) → records ≤ 4096 → files file_name ≡ Some (soak_bytes start records) → Opens files file_name (Ok (stored start records))
unfolding segment
opens start records files few is =
    let file : File = record { form = netcdf; bytes = soak_bytes start records } in
    inl (
      file,
      sym (ap (λ o. found_or (option_map (λ bytes. record { form = netcdf; bytes = bytes }) o) NoFile) is),
      (soak_contents records, header_is start records few, refl),
    )

pub left-dataset : (start records : ℕ) → records ≤ 4096 → (left start records).dataset ≡ soak_left (records - 1)
left-dataset start records few = ap (λ d. constrained (marks d (soak_constraint (records - 1))) d) (dataset-is records few) ∙ left-is records

length-decimal : (n : ℕ) → n ≤ 4096 → length (decimal n) ≤ 4
length-decimal n few = length-decimal-le 4 n (omega arith) (omega arith) (omega arith)

pub dds-most : (last : ℕ) → last ≤ 4095 → length (dds (soak_left last)) ≤ 16777216
unfolding dds line array_text closing
dds-most last few =
    let s_size : length (decimal (last / 2 + 1)) ≤ 4 = length-decimal (last / 2 + 1) (omega arith) in
    let i_size : length (decimal (last + 1)) ≤ 4 = length-decimal (last + 1) (omega arith) in
    let rows : length (decimal 32) ≤ 4 = length-decimal 32 (omega arith) in
    let columns : length (decimal 11) ≤ 4 = length-decimal 11 (omega arith) in
    let row : length (decimal 1) ≤ 4 = length-decimal 1 (omega arith) in
    simp length-append (omega arith)

pub small : (last : ℕ) → last ≤ 4095 → too_large (soak_left last) ≡ None
small last few =
    let text : ltb 16777216 (length (dds (soak_left last))) ≡ false = grind (arith, nat_tests, dds-most last few) in
    let s_few : ltb 2147483647 ((last / 2 + 1) * 352) ≡ false = grind (arith, nat_tests) in
    let i_few : ltb 2147483647 ((last + 1) * 32) ≡ false = grind (arith, nat_tests) in
    simp (text, s_few, i_few) refl

pub is_served : BodyIsServed
is_served start records files some few is =
    accepted_is_served (target records) file_name (constraint_text records) files (stored start records) (soak_constraint (records - 1))
    (asked records few) (opens start records files few is) (is-spelled records few)
    (ap (λ d. cause d (soak_constraint (records - 1))) (dataset-is records few) ∙ no-cause records some few)
    (ap too_large (left-dataset start records few) ∙ small (records - 1) (omega arith))

pub elements_are : ElementsAreCounted
elements_are start records some few =
    let last = records - 1 in
    ap (λ d. sum_by (λ leaf. elements_of leaf.1) (leaves_of d)) (left-dataset start records few) ∙ omega arith

pub elements_are_these : ElementsAreThese
elements_are_these start = (elements_are start 1 (omega arith) (omega arith), elements_are start 3 (omega arith) (omega arith), elements_are start 4096 (omega arith) (omega arith))
