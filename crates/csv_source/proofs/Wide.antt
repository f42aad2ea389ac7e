-- A table has a column at least.
use Rattle.std.proofs.Common.{◌≡◌, ℕ, ◌<◌, zero, suc, Bool, true, false, List, [], ◌∷◌, ◌++◌, length, map, Option, Some, None, refl, ap, subst, ◌+◌, arith, length-append}
use Rattle.std.proofs.lemmas.Bool.Decides.{nat_tests}
use Rattle.std.specs.Prelude.{Ok, Err, nat_lt, if◌then◌else◌}
use Rattle.csv.specs.Machine.{Read, ends_at_end, field_after, fields_after, is_end, next_record, step}
use Rattle.csv.specs.Reading.{default_config, records_from, records_next, strip_bom}
use Rattle.csv.specs.declared.parser.Action.{Action}
use Rattle.csv.specs.declared.parser.Action.TheVariants as act
use Rattle.csv.specs.declared.parser.Config.{Config}
use Rattle.csv.specs.declared.parser.State.{State}
use Rattle.csv.specs.declared.parser.State.TheVariants as st
use Rattle.csv_source.specs.Causes.{ok_unless, row_values, table_cause, table_of, table_of_records}
use Rattle.csv_source.specs.Csv.{csv_records}
use Rattle.csv_source.specs.Header.{columns_from, columns_of}
use Rattle.csv_source.specs.Table.{CsvTable, table}
use Rattle.csv_source.specs.declared.refusal.TableRefusal.{TableRefusal}
use Rattle.csv_source.specs.declared.refusal.TableRefusal.TheVariants.{TooLong, TooWide}

-- what ends a record gives it a field
end-wide : (a : Action) (fields : List (List ℕ)) (field : List ℕ) → is_end a ≡ true → 0 < length (fields_after a fields field)
end-wide act.EndField fields field is = cc is
end-wide act.Skip fields field is = cc is
end-wide act.Copy fields field is = cc is
end-wide act.EndRecord fields field is = omega (arith, length-append fields (field ∷ []))

next-wide : (cfg : Config) (s : State) (fields : List (List ℕ)) (field : List ℕ) (xs : List ℕ) (p : Read) → next_record cfg s fields field xs ≡ Some p → 0 < length p.0
unfolding next_record
next-wide cfg s fields field [] p e = at_end (ends_at_end s) e
  where
    at_end : (b : Bool) → (if b then Some (fields ++ (field ∷ []), st.StartRecord, []) else None) ≡ Some p → 0 < length p.0
    at_end true q =
        let same : p ≡ (fields ++ (field ∷ []), st.StartRecord, []) = cc q in
        rw same (omega (arith, length-append fields (field ∷ [])))
    at_end false q = cc q
next-wide cfg s fields field (c ∷ rest) p e =
    at_byte (is_end (step cfg s c).1) refl e
    (next-wide cfg (step cfg s c).0 (fields_after (step cfg s c).1 fields field) (field_after (step cfg s c).1 c field) rest p)
  where
    at_byte : (b : Bool) → is_end (step cfg s c).1 ≡ b
        → (if b then Some (fields_after (step cfg s c).1 fields field, (step cfg s c).0, rest)
        else next_record cfg (step cfg s c).0 (fields_after (step cfg s c).1 fields field) (field_after (step cfg s c).1 c field) rest) ≡ Some p
        → (next_record cfg (step cfg s c).0 (fields_after (step cfg s c).1 fields field) (field_after (step cfg s c).1 c field) rest ≡ Some p → 0 < length p.0)
        → 0 < length p.0
    at_byte true is q later =
        let same : p ≡ (fields_after (step cfg s c).1 fields field, (step cfg s c).0, rest) = cc q in
        rw same (end-wide (step cfg s c).1 fields field is)
    at_byte false is q later = later q

first-wide : (o : Option Read) (more : State → List ℕ → List (List (List ℕ))) (header : List (List ℕ)) (rows : List (List (List ℕ)))
    → ((p : Read) → o ≡ Some p → 0 < length p.0) → records_next more o ≡ header ∷ rows → 0 < length header
first-wide None more header rows wide is = cc is
first-wide (Some p) more header rows wide is = let same : p.0 ≡ header = cc is in subst (λ h. 0 < length h) same (wide p refl)

from-wide : (cfg : Config) (fuel : ℕ) (s : State) (xs : List ℕ) (header : List (List ℕ)) (rows : List (List (List ℕ))) → records_from cfg fuel s xs ≡ header ∷ rows → 0 < length header
unfolding records_from
from-wide cfg zero s xs header rows is = cc is
from-wide cfg (suc fuel) s xs header rows is = first-wide (next_record cfg s [] [] xs) (records_from cfg fuel) header rows (λ p e. next-wide cfg s [] [] xs p e) is

csv-wide : (bytes : List ℕ) (header : List (List ℕ)) (rows : List (List (List ℕ))) → csv_records bytes ≡ header ∷ rows → 0 < length header
unfolding csv_records
csv-wide bytes header rows is = from-wide default_config (length (strip_bom bytes) + 1) st.StartRecord (strip_bom bytes) header rows is

nonempty : (n : ℕ) → nat_lt 0 (suc n) ≡ true
nonempty n = grind (arith, nat_tests)

columns-wide : (header : List (List ℕ)) → 0 < length header → nat_lt 0 (length (columns_of header)) ≡ true
unfolding columns_from
columns-wide [] lt = absurd (omega (arith, lt))
columns-wide (field ∷ fields) lt = nonempty _

-- the columns of a table are those of its header
ok-columns : (o : Option TableRefusal) (whole t : CsvTable) → ok_unless o whole ≡ Ok t → whole.columns ≡ t.columns
ok-columns (Some cause) whole t is = cc is
ok-columns None whole t is = let same : whole ≡ t = cc is in ap (λ u. u.columns) same

header-columns : (file : List ℕ) (header : List (List ℕ)) (rows : List (List (List ℕ))) (t : CsvTable) → table_of_records file (header ∷ rows) ≡ Ok t → columns_of header ≡ t.columns
unfolding table_of_records
header-columns file header rows t is = by_test (nat_lt 1024 (length header)) is
  where
    whole : CsvTable
    whole = table file (columns_of header) (map (row_values (columns_of header)) rows)

    by_test : (b : Bool) → (if b then Err TooWide else ok_unless (table_cause (columns_of header) rows) whole) ≡ Ok t → columns_of header ≡ t.columns
    by_test true same = cc same
    by_test false same = ok-columns (table_cause (columns_of header) rows) whole t same

no-header : (file : List ℕ) (t : CsvTable) → table_of_records file [] ≡ Ok t → nat_lt 0 (length t.columns) ≡ true
unfolding table_of_records
no-header file t is = cc is

of-records : (file : List ℕ) (records : List (List (List ℕ))) (t : CsvTable) → ((header : List (List ℕ)) (rows : List (List (List ℕ))) → records ≡ header ∷ rows → 0 < length header)
    → table_of_records file records ≡ Ok t → nat_lt 0 (length t.columns) ≡ true
of-records file [] t wide is = no-header file t is
of-records file (header ∷ rows) t wide is =
    subst (λ columns. nat_lt 0 (length columns) ≡ true) (header-columns file header rows t is) (columns-wide header (wide header rows refl))

pub has-column : (file bytes : List ℕ) (t : CsvTable) → table_of file bytes ≡ Ok t → nat_lt 0 (length t.columns) ≡ true
unfolding table_of
has-column file bytes t is = by_test (nat_lt 67108864 (length bytes)) is
  where
    by_test : (b : Bool) → (if b then Err TooLong else table_of_records file (csv_records bytes)) ≡ Ok t → nat_lt 0 (length t.columns) ≡ true
    by_test true same = cc same
    by_test false same = of-records file (csv_records bytes) t (λ header rows e. csv-wide bytes header rows e) same
