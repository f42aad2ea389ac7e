-- What a target is answered with of all of a netCDF file, saved, is the dataset and the values of that file.
use Rattle.std.proofs.Common.{◌≡◌, ℕ, ◌<◌, ◌≤◌, Bool, true, false, ◌&&◌, List, [], ◌∷◌, length, map, filter, take, inl, inr, Option, Some, option_map, Result, Ok, refl, ap, sym, subst, ◌∙◌, arith, length-take, if◌then◌else◌}
use Rattle.std.specs.Io.KnownBytes.{Appends}
use Rattle.std.specs.Option.{option_and_then}
use Rattle.both_ends.proofs.Again.{no_constraint, is_spelled, dataset_left}
use Rattle.dap_types.specs.Limits.{body_limit}
use Rattle.dap_types.specs.Model.{scalar, array, grid, Dataset, Tree, members_of}
use Rattle.dap_types.specs.Names.{file_id}
use Rattle.dap_types.specs.WellFormed.{IsWellFormed}
use Rattle.dap_model.proofs.Whole.{all_trees_whole}
use Rattle.dap_model.specs.Filter.{all_leaves_everywhere, leaves_everywhere}
use Rattle.dap_outside.specs.Files.{IsBytes}
use Rattle.dap_errors.specs.declared.cause.Cause.{Cause}
use Rattle.dap_errors.specs.declared.cause.Cause.TheVariants.{NoFile}
use Rattle.file_names.specs.Names.{dataset_name}
use Rattle.constraint_parse.proofs.Answer.{one_constraint}
use Rattle.constraint_parse.specs.Values.{Spells}
use Rattle.constraint_parse.specs.declared.constraint.Constraint.{Constraint}
use Rattle.grid_projection.specs.Marks.{marks}
use Rattle.dap_http.specs.Targets.{Asked}
use Rattle.dap_http.specs.declared.kind.Kind.TheVariants.{Dods}
use Rattle.netcdf_source.proofs.Fitting.{values_fit}
use Rattle.netcdf_source.proofs.Joined.{dataset_is_well_formed}
use Rattle.netcdf_source.specs.Header.{IsHeader}
use Rattle.netcdf_source.specs.Mapping.{array_of, column_of, dataset_of, element_dimensions, is_empty, is_grid, is_offered, maps_of, member_of}
use Rattle.netcdf_source.specs.Values.{file_trees}
use Rattle.netcdf_source.specs.declared.header.Contents.{Contents}
use Rattle.netcdf_source.specs.declared.header.Variable as source
use Rattle.dap_server.specs.Files.{Files, Form, IsStored, Stored, form_of, front, netcdf, netcdf_stored}
use Rattle.dap_server.specs.Results.{File, Opens, file_named, left_of}
use Rattle.dap_server.specs.Steps.{found_or}
use Rattle.dap_client.proofs.Bodies.{good_is_body}
use Rattle.dap_client.proofs.OneVerdict.{one_verdict}
use Rattle.dap_client.specs.Verdict.{IsVerdict, dods_form, good}
use Rattle.netcdf_writer.proofs.Bodies.{small_body}
use Rattle.netcdf_writer.proofs.ReadsSame.{reads_same}
use Rattle.netcdf_writer.specs.File.{cdf}
use Rattle.netcdf_writer.specs.Saved.{IsSavable, IsSmall}
use Rattle.netcdf_writer.specs.Variables.{variables}
use Rattle.both_ends.proofs.Resulting.{result_is_good}
use Rattle.both_ends.proofs.WholeMarks.{marks_whole}
use Rattle.dap_commands.specs.Laws.{AnswerIsSaved, IsSameFile}

-- ---- all of a file is left without a constraint

leaf_by : (c : Contents) (v : source.Variable) (e g : Bool)
    → leaves_everywhere (if e then scalar (column_of v) else if g then grid (file_id v.name) (array_of c v) (maps_of c v.dimensions) else array (array_of c v)) ≡ true
leaf_by c v true g = refl
leaf_by c v false true = refl
leaf_by c v false false = refl

member_leaf : (c : Contents) (v : source.Variable) → leaves_everywhere (member_of c v) ≡ true
unfolding member_of
member_leaf c v = leaf_by c v (is_empty (element_dimensions c v)) (is_grid c v)

members_leaves : (c : Contents) (vs : List source.Variable) → all_leaves_everywhere (members_of (map (member_of c) vs)) ≡ true
members_leaves c [] = refl
members_leaves c (v ∷ vs) = ap (λ b. b && all_leaves_everywhere (members_of (map (member_of c) vs))) (member_leaf c v) ∙ members_leaves c vs

left_whole : (name file : List ℕ) (c : Contents) → IsBytes file → IsHeader c (take 1048576 file) (length file)
    → ((left_of (netcdf_stored name file c) no_constraint).dataset ≡ dataset_of c name) × ((left_of (netcdf_stored name file c) no_constraint).trees ≡ file_trees c file)
left_whole name file c bytes header =
    let d = dataset_of c name in
    let well : IsWellFormed d = (dataset_is_well_formed c (take 1048576 file) name (length file) 0 (omega (arith, length-take 1048576 file)) header).0 in
    let leaves : all_leaves_everywhere d.members ≡ true = members_leaves c (filter (is_offered c) c.variables) in
    (dataset_left d well leaves, all_trees_whole (marks d no_constraint) d.members 1 (file_trees c file) leaves (marks_whole d) (values_fit c name file (bytes, header)))

-- ---- the file that is opened

abbrev file_at : Form → List ℕ → File
file_at form bytes = record { form = form; bytes = bytes }

named : (files : Files) (name file : List ℕ) → form_of name ≡ Some netcdf → files name ≡ Some file → file_named files name ≡ Some (file_at netcdf file)
named files name file form there = ap (λ (o : Option Form). option_and_then (λ f. option_map (file_at f) (files name)) o) form ∙ ap (option_map (file_at netcdf)) there

same_file : (f g : File) → Path (Result File Cause) (Ok f) (Ok g) → f ≡ g
same_file f g is = cc

opened_as : (files : Files) (name file : List ℕ) (s : Stored) → form_of name ≡ Some netcdf → files name ≡ Some file → Opens files name (Ok s) → IsStored (Some files) netcdf name file (Ok s)
opened_as files name file s form there (inl (found, is, so)) =
    subst (λ (f : File). IsStored (Some files) f.form name f.bytes (Ok s)) (same_file found (file_at netcdf file) (is ∙ ap (λ o. found_or o NoFile) (named files name file form there))) so
opened_as files name file s form there (inr (why, is, e)) = cc e

-- ---- what is saved of it

same_asked : (a b : Asked) → Path (Option Asked) (Some a) (Some b) → a ≡ b
same_asked a b is = cc

same_dataset : (d e : Dataset) (ts us : List Tree) → good d ts ≡ good e us → d ≡ e
same_dataset d e ts us is = cc

same_trees : (d e : Dataset) (ts us : List Tree) → good d ts ≡ good e us → ts ≡ us
same_trees d e ts us is = cc

below_limit : (n : ℕ) → n ≤ 16777216 → n < body_limit
below_limit n few = omega (arith, few)

abbrev under_name : List ℕ → Dataset → Dataset
under_name name d = record { name = dataset_name name; members = d.members }

abbrev IsWritten : Option (List ℕ) → Option (List ℕ) → ℕ → Dataset → List Tree → Type 0
IsWritten before now bytes d ts = IsSavable d ts × (bytes ≡ length (cdf (variables d ts))) × Appends before now (cdf (variables d ts))

saved_same : (c : Contents) (name file : List ℕ) (before now : Option (List ℕ)) (bytes : ℕ) (d : Dataset) (ts : List Tree) → IsHeader c (front file) (length file) → d ≡ dataset_of c name → ts ≡ file_trees c file → IsSmall d ts
    → IsWritten before now bytes d ts → (saved : List ℕ) × Appends before now saved × (bytes ≡ length saved) × IsSameFile c file saved
saved_same c name file before now bytes d ts header same_d same_t small written =
    let e = dataset_of c name in
    let few : IsSmall e (file_trees c file) = subst (IsSmall e) same_t (subst (λ x. IsSmall x ts) same_d small) in
    let all : IsWritten before now bytes e (file_trees c file) = subst (IsWritten before now bytes e) same_t (subst (λ x. IsWritten before now bytes x ts) same_d written) in
    let (contents, is, dataset, trees) = reads_same c file name header few all.0 in
    (cdf (variables e (file_trees c file)), all.2, all.1, record { contents = contents; header = is; dataset = λ other. ap (under_name other) dataset; trees = trees })

pub answer_is_saved : AnswerIsSaved
answer_is_saved target name file text files asks hold result before now bytes (few, (d, ts, verdict, stores)) =
    let r = result_is_good target files text hold result (below_limit (length text) few) in
    let asked = same_asked (record { name = r.name; kind = Dods; query = r.query }) (record { name = name; kind = Dods; query = [] }) (sym r.is_target ∙ asks.is_target) in
    let (c, header, stored) = opened_as files name file r.stored asks.form asks.there (subst (λ n. Opens files n (Ok r.stored)) (ap (λ (a : Asked). a.name) asked) r.opens) in
    let none = one_constraint [] r.constraint no_constraint (subst (λ q. Spells q r.constraint) (ap (λ (a : Asked). a.query) asked) r.spells) is_spelled in
    let of_none = subst (λ (k : Constraint). IsVerdict dods_form text (good (left_of r.stored k).dataset (left_of r.stored k).trees)) none r.verdict in
    let of_file = subst (λ (s : Stored). IsVerdict dods_form text (good (left_of s no_constraint).dataset (left_of s no_constraint).trees)) stored of_none in
    let same = one_verdict dods_form text (good d ts) _ verdict of_file in
    let whole = left_whole name file c (hold name file asks.there) header in
    let small = small_body text d ts (good_is_body text d ts verdict) few in
    (c, header, saved_same c name file before now bytes d ts header (same_dataset d _ ts _ same ∙ whole.0) (same_trees d _ ts _ same ∙ whole.1) small stores.written)
