-- A list of one line.
use Rattle.std.proofs.Common.{◌≡◌, ◌≢◌, ℕ, ◌+◌, ◌≤◌, List, [], ◌∷◌, Some, None, refl, sym, ap, ◌∙◌, inl, arith}
use Rattle.std.proofs.lemmas.List.Elements.{All-cons, All-nil}
use Rattle.std.proofs.lemmas.List.Sums.{sum_by-cons}
use Rattle.das_text.specs.Model.{Attributes}
use Rattle.dap_types.specs.Model.{Dataset, Tree}
use Rattle.join_source.proofs.Alone.{one_is_itself}
use Rattle.join_source.specs.Members.{CanJoin, all_records, joined_dataset}
use Rattle.netcdf_source.specs.Attributes.{attributes_of}
use Rattle.netcdf_source.specs.Mapping.{HaveSameShape, records_of}
use Rattle.netcdf_source.specs.declared.header.Contents.{Contents}
use Rattle.dap_server.proofs.OpeningLists.{list_opens}
use Rattle.dap_server.specs.Files.{Stored, netcdf_stored}
use Rattle.dap_server.specs.Joins.{joined_stored, Member}
use Rattle.dap_server.specs.Laws.{OneLineIsItself}

sum-one : (c : Contents) → all_records (c ∷ []) ≡ c.records
sum-one c = sum_by-cons (λ x. x.records) c [] ∙ plain c.records where
  plain : (n : ℕ) → n + 0 ≡ n
  plain n = omega arith

can-join-one : (c : Contents) → records_of c ≢ None → c.records ≤ 2147483647 → CanJoin (c ∷ [])
can-join-one c has few = record {
  record_dimension = has;
  same = All-cons (HaveSameShape c) c [] (record { dimensions = refl; variables = refl }) (All-nil (HaveSameShape c));
  few = omega (arith, few, sum-one c);
}

abbrev stored-of : Dataset → List Tree → Attributes → Stored
stored-of d ts a = record { dataset = d; trees = ts; attributes = a }

abbrev one-member : Contents → List ℕ → Member
one-member c file = record { contents = c; bytes = file }

same-stored : (name file : List ℕ) (c : Contents) → netcdf_stored name file c ≡ joined_stored name (one-member c file ∷ [])
same-stored name file c =
    let (dataset, trees) = one_is_itself c name file in
    ap (λ d. stored-of d (netcdf_stored name file c).trees (attributes_of c)) (sym dataset) ∙ ap (λ ts. stored-of (joined_dataset (c ∷ []) name) ts (attributes_of c)) (sym trees)

pub one_line_is_itself : OneLineIsItself
one_line_is_itself files name bytes member file c form there l found header has few =
    list_opens (Some files) files name bytes _ form there
    (inl (member ∷ [], l, inl (one-member c file ∷ [], inl (one-member c file, (found, header), inl ([], refl, refl)), (can-join-one c has few, same-stored name file c))))
