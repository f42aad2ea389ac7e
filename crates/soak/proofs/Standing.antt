-- Fields that are spelled one after the other, and have no fault, stand.
use Rattle.std.proofs.Common.{◌≡◌, ℕ, ◌+◌, inr, Bool, true, ◌&&◌, List, [], ◌∷◌, ◌++◌, length, Option, Some, None, Result, Ok, Err, MatchOption, refl, ap, ◌∙◌, append_assoc, length-append}
use Rattle.std.specs.Prelude.{nat_lt, ◌==◌, is_none}
use Rattle.std.specs.List.{list_all, flat_map}
use Rattle.std.proofs.lemmas.Bool.{ltb-true, eqb-true, and_parts}
use Rattle.std.proofs.lemmas.List.{length-replicate}
use Rattle.netcdf_source.specs.Fields.{Ends, Fault, Field, Judged, Spells, failure, number, run}
use Rattle.netcdf_source.specs.Versions.{limit_of, number_bytes}
use Rattle.netcdf_source.specs.declared.failure.Failure.{Failure}
use Rattle.dap_model.specs.Xdr.{fill, zeros}

-- a field with zero bytes as padding
abbrev pub field_spelling : Field → List ℕ
field_spelling (number width n) = number_bytes width n
field_spelling (run n bytes) = bytes ++ zeros n

abbrev pub field_fits : Field → Bool
field_fits (number width n) = nat_lt n (limit_of width)
field_fits (run n bytes) = length bytes == n

abbrev pub spelling : Judged → List ℕ
spelling j = field_spelling j.field

abbrev pub is_fine : Judged → Bool
is_fine j = is_none j.fault && field_fits j.field

spells : (f : Field) → field_fits f ≡ true → Spells f (field_spelling f)
spells (number width n) e = (ltb-true n (limit_of width) e, refl)
spells (run n bytes) e =
    let is : length bytes ≡ n = eqb-true (length bytes) n e in
    (zeros n, is, length-append bytes (zeros n) ∙ ap (λ k. k + length (zeros n)) is ∙ ap (λ k. n + k) (length-replicate (fill n) 0), refl)

goes_on : (o : Option Fault) (left : ℕ) (js : List Judged) (bytes : List ℕ) (end : Result (List ℕ) Failure)
    → is_none o ≡ true → Ends js bytes end → MatchOption o (Ends js bytes end) (λ f. end ≡ Err (failure f left))
goes_on None left js bytes end e h = h
goes_on (Some f) left js bytes end e h = absurd cc

pub stand : (js : List Judged) (rest : List ℕ) → list_all is_fine js ≡ true → Ends js (flat_map spelling js ++ rest) (Ok rest)
unfolding Ends
stand [] rest e = refl
stand (j ∷ js) rest e =
    let own = and_parts _ _ e in
    let parts = and_parts _ _ own.0 in
    inr (
      spelling j,
      flat_map spelling js ++ rest,
      append_assoc (spelling j) (flat_map spelling js) rest,
      spells j.field parts.1,
      goes_on j.fault _ js (flat_map spelling js ++ rest) (Ok rest) parts.0 (stand js rest own.1),
    )
