-- The body of what the constraint leaves is one that is read.
use Rattle.std.proofs.Common.{◌≡◌, ℕ, zero, suc, ◌+◌, ◌-◌, ◌*◌, ◌/◌, ◌%◌, ◌^◌, ◌<◌, ◌≤◌, Bool, true, false, List, [], ◌∷◌, ◌++◌, length, refl, ap, subst, ◌∙◌, arith, All, length-append, length-take}
use Rattle.std.specs.Prelude.{codes, if◌then◌else◌, nat_lt, take}
use Rattle.std.specs.Int.{byte_at, bytes_high_first, to_be_bytes, w16, w32}
use Rattle.std.specs.List.{flat_map, list_all, range_with_len}
use Rattle.std.proofs.lemmas.Bool.{and_parts, ltb-true}
use Rattle.std.proofs.Math.Nat.{mod-lt, mul-add-mod_self_right}
use Rattle.std.proofs.lemmas.List.Elements.{All-append, All-cons, All-nil}
use Rattle.dap_types.specs.Model.{Tree}
use Rattle.dap_types.specs.WellFormed.{IsWellFormed}
use Rattle.dap_types.specs.declared.declarations.BaseType.TheVariants.{Int16, Int32}
use Rattle.dap_model.specs.Body.{too_large}
use Rattle.dap_model.specs.Dds.{dds}
use Rattle.dap_model.specs.Filter.{SuitsAll}
use Rattle.dap_model.specs.Fits.{FitsAll, values_in}
use Rattle.dap_model.specs.Grammar.{HasWords}
use Rattle.dap_model.specs.Rows.{kept}
use Rattle.dap_model.specs.Xdr.{array_fields, bytes_of, padded, xdr, word}
use Rattle.dap_model.proofs.FilteredWords.{constrained_has_words}
use Rattle.dap_model.proofs.Filtering.{filtered_all_fit}
use Rattle.dap_model.proofs.Lengths.{length-array_fields}
use Rattle.dap_model.proofs.Limits.{sent_is_read}
use Rattle.dap_model.proofs.Staying.{stays_well_formed}
use Rattle.dap_model.proofs.Values.{bytes_of-append}
use Rattle.file_names.specs.Names.{segment}
use Rattle.grid_projection.specs.Marks.{marks}
use Rattle.grid_projection.specs.Resolved.{cause}
use Rattle.grid_projection.proofs.MarksSuit.{marks_suit}
use Rattle.netcdf_source.proofs.Fitting.{values_fit}
use Rattle.netcdf_source.proofs.HeaderNames.{dataset_has_words}
use Rattle.netcdf_source.proofs.Joined.{dataset_is_well_formed}
use Rattle.sequence_select.specs.Selections.{selections}
use Rattle.soak.specs.Asked.{file_name, soak_constraint}
use Rattle.soak.specs.Datasets.{soak_left}
use Rattle.soak.specs.File.{bytes_at, described, header, soak_bytes, state, value_bytes, values}
use Rattle.soak.specs.Header.{soak_contents}
use Rattle.soak.specs.Laws.{BytesAreCounted, IsRead}
use Rattle.soak.specs.Numbers.{left, soak_body, stored}
use Rattle.soak.proofs.Headers.{header_is}
use Rattle.soak.proofs.Leaving.{dataset-is, no-cause}
use Rattle.soak.proofs.Serving.{dds-most, elements_are, left-dataset, small}

-- ---- the file is bytes

abbrev AreBytes : List ℕ → Type 0
AreBytes xs = All (λ b. b < 256) xs

byte-small : (i n : ℕ) → byte_at i n < 256
byte-small zero n = mod-lt n (omega arith)
byte-small (suc i) n = mod-lt (n / 256 ^ suc i) (omega arith)

bytes-small : (k n : ℕ) → AreBytes (bytes_high_first k n)
bytes-small zero n = All-nil (λ b. b < 256)
bytes-small (suc k) n = All-cons (λ b. b < 256) (byte_at k n) (bytes_high_first k n) (byte-small k n) (bytes-small k n)

at-small : (j x : ℕ) → AreBytes (bytes_at j x)
at-small j x = by (nat_lt j 1024)
  where
    by : (b : Bool) → AreBytes (if b then to_be_bytes w16 (x / 2 ^ 48) else to_be_bytes w32 (x / 2 ^ 32))
    by true = bytes-small 2 (x / 2 ^ 48)
    by false = bytes-small 4 (x / 2 ^ 32)

values-small : (start : ℕ) (ks : List ℕ) → AreBytes (flat_map (value_bytes start) ks)
values-small start [] = All-nil (λ b. b < 256)
values-small start (k ∷ ks) = All-append (λ b. b < 256) (value_bytes start k) (flat_map (value_bytes start) ks) (at-small (k % 2048) (state start (k + 1))) (values-small start ks)

by-test : (xs : List ℕ) → list_all (λ b. nat_lt b 256) xs ≡ true → AreBytes xs
by-test [] e = All-nil (λ b. b < 256)
by-test (b ∷ xs) e = let own = and_parts _ _ e in All-cons (λ b. b < 256) b xs (ltb-true b 256 own.0) (by-test xs own.1)

file-small : (start records : ℕ) → AreBytes (soak_bytes start records)
unfolding header values
file-small start records =
    All-append (λ b. b < 256) (header records) (values start (2048 * records))
    (All-append (λ b. b < 256) (codes "CDF" ++ 1 ∷ word records) described
    (All-append (λ b. b < 256) (codes "CDF" ++ 1 ∷ []) (word records) (by-test (codes "CDF" ++ 1 ∷ []) refl) (bytes-small 4 records)) (by-test described refl))
    (values-small start (range_with_len 0 (2048 * records)))

-- ---- the length of the body

whole-words : (n : ℕ) → padded (n * 4) ≡ 4 * n
whole-words n = omega (arith, mul-add-mod_self_right n 4 3)

xdr-len : (last : ℕ) (ts : List Tree) → FitsAll (soak_left last).members ts → length (xdr (soak_left last) ts) ≡ 16 + 4 * ((last / 2 + 1) * 352 + (last + 1) * 32)
unfolding bytes_of
xdr-len last [] fits = absurd fits
xdr-len last (t ∷ []) fits = absurd fits.1
xdr-len last (t ∷ u ∷ v ∷ ts) fits = absurd fits.1.1
xdr-len last (t ∷ u ∷ []) fits =
    let s_fields = array_fields Int16 (values_in t) in
    let i_fields = array_fields Int32 (values_in u) in
    let s_len : length (bytes_of s_fields) ≡ 8 + padded ((last / 2 + 1) * 352 * 4) = length-array_fields Int16 ((last / 2 + 1) ∷ 32 ∷ 11 ∷ []) t tt fits.0 in
    let i_len : length (bytes_of i_fields) ≡ 8 + padded ((last + 1) * 32 * 4) = length-array_fields Int32 ((last + 1) ∷ 1 ∷ 32 ∷ []) u tt fits.1.0 in
    ap length (bytes_of-append s_fields (i_fields ++ [])) ∙ length-append (bytes_of s_fields) (bytes_of (i_fields ++ []))
    ∙ ap (λ xs. length (bytes_of s_fields) + length xs) (bytes_of-append i_fields []) ∙ ap (λ k. length (bytes_of s_fields) + k) (length-append (bytes_of i_fields) [])
    ∙ omega (arith, s_len, i_len, whole-words ((last / 2 + 1) * 352), whole-words ((last + 1) * 32))

-- what is left fits its dataset
record Facts (start records : ℕ) : Type 0 where
  words : HasWords (stored start records).dataset
  well_formed : IsWellFormed (stored start records).dataset
  suits : SuitsAll (marks (stored start records).dataset (soak_constraint (records - 1))) 1 (stored start records).dataset.members
  fits : FitsAll (stored start records).dataset.members (stored start records).trees

front-short : (xs : List ℕ) → length (take 1048576 xs) ≤ 1048576
front-short xs = omega (arith, length-take 1048576 xs)

facts : (start records : ℕ) → 1 ≤ records → records ≤ 4096 → Facts start records
unfolding segment
facts start records some few =
    let file = soak_bytes start records in
    let c = soak_contents records in
    let is_header = header_is start records few in
    let well : IsWellFormed (stored start records).dataset = (dataset_is_well_formed c (take 1048576 file) file_name (length file) records (front-short file) is_header).0 in
    record {
      words = dataset_has_words c file_name file (file-small start records, is_header) (by-test file_name refl) (λ e. cc e);
      well_formed = well;
      suits = marks_suit (stored start records).dataset (soak_constraint (records - 1)) well
          (ap (λ d. cause d (soak_constraint (records - 1))) (dataset-is records few) ∙ no-cause records some few);
      fits = values_fit c file_name file (file-small start records, is_header);
    }

left-fits : (start records : ℕ) → 1 ≤ records → records ≤ 4096 → FitsAll (left start records).dataset.members (left start records).trees
left-fits start records some few =
    let f = facts start records some few in
    let s = stored start records in
    let c = soak_constraint (records - 1) in
    filtered_all_fit (marks s.dataset c) (kept (selections s.dataset c)) s.dataset.members 1 s.trees f.suits f.fits

body-len : (start records : ℕ) → 1 ≤ records → records ≤ 4096 → length (soak_body start records) ≡ length (dds (soak_left (records - 1))) + 22 + 4 * (((records - 1) / 2 + 1) * 352 + (records - 1 + 1) * 32)
body-len start records some few =
    let l = left start records in
    let is = left-dataset start records few in
    let values_len : length (xdr l.dataset l.trees) ≡ 16 + 4 * (((records - 1) / 2 + 1) * 352 + (records - 1 + 1) * 32) =
    ap (λ d. length (xdr d l.trees)) is ∙ xdr-len (records - 1) l.trees (subst (λ d. FitsAll d.members l.trees) is (left-fits start records some few)) in
    let front : length (dds l.dataset ++ codes "Data:\n") ≡ length (dds l.dataset) + 6 = length-append (dds l.dataset) (codes "Data:\n") in
    let text : length (dds l.dataset) ≡ length (dds (soak_left (records - 1))) = ap (λ d. length (dds d)) is in
    length-append (dds l.dataset ++ codes "Data:\n") (xdr l.dataset l.trees) ∙ omega (arith, values_len, front, text)

pub bytes_are : BytesAreCounted
bytes_are start records some few =
    body-len start records some few ∙ omega (arith, elements_are start records some few, ap (λ d. length (dds d)) (left-dataset start records few))

pub is_read : IsRead
is_read start records some few =
    let f = facts start records some few in
    let s = stored start records in
    let c = soak_constraint (records - 1) in
    let m = marks s.dataset c in
    sent_is_read (left start records).dataset (left start records).trees (constrained_has_words m s.dataset f.words) (stays_well_formed m s.dataset f.well_formed f.suits)
    (left-fits start records some few) (ap too_large (left-dataset start records few) ∙ small (records - 1) (omega arith))
    (omega (arith, body-len start records some few, dds-most (records - 1) (omega arith)))
