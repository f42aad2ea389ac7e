-- The header of the generated file.
use Rattle.std.proofs.Common.{◌≡◌, ℕ, zero, suc, ◌+◌, ◌*◌, ◌-◌, ◌^◌, ◌≤◌, eqb, ltb, Bool, true, false, List, [], ◌∷◌, ◌++◌, length, None, Ok, refl, sym, ap, subst, ◌∙◌, arith, ◌&&◌, not, length-append, take}
use Rattle.std.specs.Prelude.{codes}
use Rattle.std.specs.List.{list_all, flat_map, position_from}
use Rattle.std.proofs.Math.Seq.{take-append-add}
use Rattle.std.proofs.lemmas.Bool.{lt-ltb}
use Rattle.std.proofs.lemmas.Bool.Decides.{nat_tests}
use Rattle.netcdf_source.specs.Fields.{Ends}
use Rattle.netcdf_source.specs.Grammar.{HeaderTree, VariableTree, header_fields, in_turn, records_fault, tag_fault, count_fault, name_fault, repeat_fault, length_fault, type_fault, rank_fault, dimension_fault, size_fault, part_fault, begin_fault, dimension_fields, attribute_fields, id_fields, variable_fields}
use Rattle.netcdf_source.specs.Header.{Stands}
use Rattle.netcdf_source.specs.Parts.{length_at, part, past_end, record_size, shares, end_of, is_past, is_record}
use Rattle.netcdf_source.specs.Types.{size_of}
use Rattle.netcdf_source.specs.declared.external_type.ExternalType.{ExternalType}
use Rattle.netcdf_source.specs.declared.external_type.ExternalType.TheVariants.{Int, Short}
use Rattle.netcdf_source.specs.declared.header.Contents.{Contents}
use Rattle.netcdf_source.specs.declared.header.Variable.{Variable}
use Rattle.netcdf_source.specs.declared.version.Version.TheVariants.{One}
use Rattle.soak.specs.File.{described, header, soak_bytes, values}
use Rattle.soak.specs.Header.{dimensions, over_all, soak_contents}
use Rattle.soak.specs.Laws.{HeaderIsRead}
use Rattle.soak.proofs.Values.{length-values}
use Rattle.soak.proofs.Standing.{is_fine, spelling, stand}
use Rattle.dap_model.specs.Xdr.{word}

abbrev variable_tree : List ℕ → ℕ → ℕ → ℕ → VariableTree
variable_tree name number size begin = record { name = name; dimensions = 0 ∷ 1 ∷ 2 ∷ []; attributes = record { tag = 0; items = [] }; number = number; size = size; begin = begin }

abbrev tree : ℕ → HeaderTree
tree records = record {
  version = One;
  records = records;
  dimensions = record { tag = 10; items = dimensions };
  attributes = record { tag = 0; items = [] };
  variables = record { tag = 11; items = variable_tree (codes "s") 3 2048 156 ∷ variable_tree (codes "i") 4 4096 2204 ∷ [] };
}

are_fine : (records : ℕ) → records ≤ 4096 → list_all is_fine (header_fields (tree records)) ≡ true
unfolding header_fields in_turn records_fault tag_fault count_fault name_fault repeat_fault length_fault type_fault rank_fault dimension_fault size_fault part_fault begin_fault dimension_fields attribute_fields id_fields variable_fields length_at part shares
are_fine records few =
    let open_end : eqb records 4294967295 ≡ false = grind (arith, nat_tests) in
    let small : ltb 2147483647 records ≡ false = grind (arith, nat_tests) in
    let fits : ltb records (2 ^ 32) ≡ true = lt-ltb records (2 ^ 32) (omega arith) in
    simp (open_end, small, fits) refl

is_spelled : (records : ℕ) → flat_map spelling (header_fields (tree records)) ≡ word records ++ described
unfolding header_fields in_turn dimension_fields attribute_fields id_fields variable_fields
is_spelled records = refl

stands : (records : ℕ) (rest : List ℕ) → records ≤ 4096 → Stands (tree records) (header records ++ rest) (Ok rest)
unfolding header
stands records rest few = record {
  body = word records ++ described ++ rest;
  begins = refl;
  ends = subst (λ front. Ends (header_fields (tree records)) (front ++ rest) (Ok rest)) (is_spelled records) (stand (header_fields (tree records)) rest (are_fine records few));
}

two : {K : Type 0} (t : K → Bool) (v w : K) → t v ≡ false → t w ≡ false → position_from t 1 (v ∷ w ∷ []) ≡ None
two t v w a b = rw a (rw b refl)

not_past : (c : Contents) (len : ℕ) (v : Variable) → end_of c v ≤ len → is_past c len v ≡ false
not_past c len v le = let e : ltb len (end_of c v) ≡ false = grind (arith, nat_tests) in rw e (none (not (is_record c.dimensions v.dimensions && eqb c.records 0)))
  where
    none : (b : Bool) → (b && false) ≡ false
    none true = refl
    none false = refl

-- without a record nothing is past the end
no_record : (v : Variable) (len : ℕ) → is_record dimensions v.dimensions ≡ true → is_past (soak_contents 0) len v ≡ false
no_record v len e = rw e refl

end_is : (records begin : ℕ) (name : List ℕ) (external_type : ExternalType) → end_of (soak_contents records) (over_all name external_type begin) ≡ begin + (records - 1) * 6144 + 1024 * size_of external_type
unfolding end_of length_at part record_size shares
end_is records begin name external_type = refl

within : (records len : ℕ) → len ≡ 156 + 6144 * records → past_end (soak_contents records) len ≡ None
unfolding past_end length_at
within zero len is = two (is_past (soak_contents 0) len) (over_all (codes "s") Short 156) (over_all (codes "i") Int 2204) (no_record (over_all (codes "s") Short 156) len refl) (no_record (over_all (codes "i") Int 2204) len refl)
within (suc n) len is =
    two (is_past (soak_contents (suc n)) len) (over_all (codes "s") Short 156) (over_all (codes "i") Int 2204)
    (not_past (soak_contents (suc n)) len (over_all (codes "s") Short 156) (omega (arith, end_is (suc n) 156 (codes "s") Short)))
    (not_past (soak_contents (suc n)) len (over_all (codes "i") Int 2204) (omega (arith, end_is (suc n) 2204 (codes "i") Int)))

header-len : (records : ℕ) → length (header records) ≡ 156
unfolding header
header-len records = refl

file-len : (start records : ℕ) → length (soak_bytes start records) ≡ 156 + 6144 * records
file-len start records =
    length-append (header records) (values start (2048 * records)) ∙ ap (λ k. k + length (values start (2048 * records))) (header-len records)
    ∙ ap (λ k. 156 + k) (length-values start records)

front-is : (records : ℕ) (rest : List ℕ) → take 1048576 (header records ++ rest) ≡ header records ++ take 1048420 rest
front-is records rest = ap (λ n. take n (header records ++ rest)) (sym (ap (λ n. n + 1048420) (header-len records))) ∙ take-append-add (header records) rest 1048420

pub header_is : HeaderIsRead
header_is start records few = (
  tree records,
  take 1048420 (values start (2048 * records)),
  subst (λ front. Stands (tree records) front (Ok (take 1048420 (values start (2048 * records))))) (sym (front-is records (values start (2048 * records)))) (stands records (take 1048420 (values start (2048 * records))) few),
  refl,
  within records (length (soak_bytes start records)) (file-len start records),
)
