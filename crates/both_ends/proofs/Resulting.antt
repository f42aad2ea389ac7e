-- The data response of a stored file is good.
use Rattle.std.proofs.Common.{◌≡◌, ◌≢◌, ℕ, ◌-◌, ◌<◌, ◌≤◌, ◌^◌, inl, inr, Bool, true, false, cond, List, [], All, length, take, codes, Option, Some, None, Result, Ok, Err, refl, sym, ap, ◌∙◌, subst, arith, length-take}
use Rattle.std.specs.Prelude.{nat_eq, nat_lt, option_map}
use Rattle.std.specs.List.{ends_with}
use Rattle.std.specs.Option.{option_and_then}
use Rattle.std.proofs.lemmas.Bool.{and_parts, ltb-true}
use Rattle.csv_source.proofs.Fitting as tables
use Rattle.csv_source.proofs.Formed.{formed}
use Rattle.csv_source.proofs.TableNames.{table-has-words}
use Rattle.csv_source.specs.Dataset.{table_dataset, table_trees}
use Rattle.csv_source.specs.Names as names
use Rattle.csv_source.specs.Causes.{table_of}
use Rattle.csv_source.specs.Table.{CsvTable}
use Rattle.file_names.specs.Names.{segment}
use Rattle.netcdf_source.proofs.Fitting.{values_fit}
use Rattle.netcdf_source.proofs.HeaderNames.{dataset_has_words}
use Rattle.netcdf_source.proofs.Joined.{dataset_is_well_formed}
use Rattle.netcdf_source.specs.Header.{IsHeader}
use Rattle.netcdf_source.specs.Mapping.{dataset_of}
use Rattle.netcdf_source.specs.Values.{file_trees}
use Rattle.netcdf_source.specs.declared.header.Contents.{Contents}
use Rattle.saved_source.proofs.Served.{saved_fits, saved_has_words, saved_is_well_formed}
use Rattle.saved_source.specs.Responses.{IsSaved}
use Rattle.dap_types.specs.Model.{Dataset, Tree}
use Rattle.dap_types.specs.WellFormed.{IsWellFormed}
use Rattle.dap_model.proofs.FilteredWords.{constrained_has_words}
use Rattle.dap_model.proofs.Filtering.{filtered_all_fit}
use Rattle.dap_model.proofs.Limits.{sent_is_read}
use Rattle.dap_model.proofs.Staying.{stays_well_formed}
use Rattle.dap_model.specs.Body.{body, too_large}
use Rattle.dap_model.specs.Dds.{dds}
use Rattle.dap_model.specs.Filter.{SuitsAll}
use Rattle.dap_model.specs.Fits.{FitsAll}
use Rattle.dap_model.specs.Grammar.{HasWords}
use Rattle.dap_model.specs.Rows.{kept}
use Rattle.dap_outside.specs.Files.{IsBytes}
use Rattle.dap_errors.specs.declared.cause.Cause.{Cause}
use Rattle.dap_errors.specs.declared.cause.Cause.TheVariants.{BadTarget, NoFile, TooLarge}
use Rattle.constraint_parse.specs.Values.{Spells}
use Rattle.constraint_parse.specs.declared.constraint.Constraint.{Constraint}
use Rattle.grid_projection.proofs.MarksSuit.{marks_suit}
use Rattle.grid_projection.specs.Marks.{marks}
use Rattle.grid_projection.specs.Resolved.{cause}
use Rattle.sequence_select.specs.Selections.{selections}
use Rattle.dap_http.specs.Targets.{Asked, target_of}
use Rattle.dap_http.specs.declared.kind.Kind.{Kind}
use Rattle.dap_http.specs.declared.kind.Kind.TheVariants.{Dds, Das, Dods, Ver}
use Rattle.dap_server.specs.Files.{Files, Form, IsStored, Stored, form_of, has_end, joined, netcdf, saved, table}
use Rattle.dap_server.specs.Joins.{IsJoined, bytes_in, contents_in}
use Rattle.both_ends.proofs.JoinedStored.{joined-sent, members-headed}
use Rattle.dap_server.specs.Results.{Answers, DodsAnswers, File, Left, Opens, Text, dds_text, dods_text, file_named, left_of, result_text}
use Rattle.dap_server.specs.Steps.{found_or, unless}
use Rattle.dap_client.proofs.Bodies.{body_good}
use Rattle.dap_client.specs.Verdict.{IsVerdict, bad, dods_form, good}
use Rattle.reply_faults.specs.declared.bad.Bad.TheVariants.{TooLong}
use Rattle.both_ends.proofs.LongBodies.{too-long}
use Rattle.both_ends.proofs.Names.{target-name}
use Rattle.both_ends.specs.Ends.{HoldBytes, ResultIsGood, ResultIsTooLong}

-- ---- what a stored file has can be sent

pub record CanBeSent (d : Dataset) (ts : List Tree) : Type 0 where
  pub words : HasWords d
  pub well_formed : IsWellFormed d
  pub fits : FitsAll d.members ts

-- something stands behind the last `/` of a name that ends so, and before that end
name-long : (end name : List ℕ) → has_end end name ≡ true → length end < length (segment name)
name-long end name is = ltb-true (length end) (length (segment name)) (and_parts (nat_lt (length end) (length (segment name))) (ends_with nat_eq (segment name) end) is).0

-- the form of a name by its ends
abbrev form-by : Bool → Bool → Bool → Bool → Option Form
form-by nc csv dods join = cond nc (Some netcdf) (cond csv (Some table) (cond dods (Some saved) (cond join (Some joined) None)))

form-netcdf : (name : List ℕ) → form_of name ≡ Some netcdf → length (codes ".nc") < length (segment name)
form-netcdf name is = go (has_end (codes ".nc") name) (has_end (codes ".csv") name) (has_end (codes ".dods") name) (has_end (codes ".join") name) refl is where
  go : (nc csv dods join : Bool) → has_end (codes ".nc") name ≡ nc → form-by nc csv dods join ≡ Some netcdf → length (codes ".nc") < length (segment name)
  go true csv dods join e same = name-long (codes ".nc") name e
  go false true dods join e same = let clash : table ≡ netcdf = cc in cc clash
  go false false true join e same = let clash : saved ≡ netcdf = cc in cc clash
  go false false false true e same = let clash : joined ≡ netcdf = cc in cc clash
  go false false false false e same = cc same

form-table : (name : List ℕ) → form_of name ≡ Some table → length (codes ".csv") < length (segment name)
form-table name is = go (has_end (codes ".nc") name) (has_end (codes ".csv") name) (has_end (codes ".dods") name) (has_end (codes ".join") name) refl is where
  go : (nc csv dods join : Bool) → has_end (codes ".csv") name ≡ csv → form-by nc csv dods join ≡ Some table → length (codes ".csv") < length (segment name)
  go true csv dods join e same = let clash : netcdf ≡ table = cc in cc clash
  go false true dods join e same = name-long (codes ".csv") name e
  go false false true join e same = let clash : saved ≡ table = cc in cc clash
  go false false false true e same = let clash : joined ≡ table = cc in cc clash
  go false false false false e same = cc same

form-saved : (name : List ℕ) → form_of name ≡ Some saved → length (codes ".dods") < length (segment name)
form-saved name is = go (has_end (codes ".nc") name) (has_end (codes ".csv") name) (has_end (codes ".dods") name) (has_end (codes ".join") name) refl is where
  go : (nc csv dods join : Bool) → has_end (codes ".dods") name ≡ dods → form-by nc csv dods join ≡ Some saved → length (codes ".dods") < length (segment name)
  go true csv dods join e same = let clash : netcdf ≡ saved = cc in cc clash
  go false true dods join e same = let clash : table ≡ saved = cc in cc clash
  go false false true join e same = name-long (codes ".dods") name e
  go false false false true e same = let clash : joined ≡ saved = cc in cc clash
  go false false false false e same = cc same

form-joined : (name : List ℕ) → form_of name ≡ Some joined → length (codes ".join") < length (segment name)
form-joined name is = go (has_end (codes ".nc") name) (has_end (codes ".csv") name) (has_end (codes ".dods") name) (has_end (codes ".join") name) refl is where
  go : (nc csv dods join : Bool) → has_end (codes ".join") name ≡ join → form-by nc csv dods join ≡ Some joined → length (codes ".join") < length (segment name)
  go true csv dods join e same = let clash : netcdf ≡ joined = cc in cc clash
  go false true dods join e same = let clash : table ≡ joined = cc in cc clash
  go false false true join e same = let clash : saved ≡ joined = cc in cc clash
  go false false false true e same = name-long (codes ".join") name e
  go false false false false e same = cc same

some-segment : (xs : List ℕ) (n : ℕ) → n < length xs → xs ≢ []
some-segment xs n long e = omega (arith, long, ap length e)

short-suffix : (suffix xs : List ℕ) → length suffix < length xs → names.without_suffix suffix xs ≢ []
short-suffix suffix xs long e = go (names.has_suffix suffix xs) e where
  go : (b : Bool) → cond b (names.before_suffix suffix xs) xs ≡ [] → ⊥
  go true same = omega (arith, long, ap length same, length-take (length xs - length suffix) xs)
  go false same = omega (arith, long, ap length same)

stored-netcdf : (name bytes : List ℕ) (c : Contents) → All (λ b. b < 256) name → IsBytes bytes → form_of name ≡ Some netcdf → IsHeader c (take 1048576 bytes) (length bytes)
    → CanBeSent (dataset_of c name) (file_trees c bytes)
stored-netcdf name bytes c name_bytes file_bytes form header = record {
  words = dataset_has_words c name bytes (file_bytes, header) name_bytes (some-segment (segment name) (length (codes ".nc")) (form-netcdf name form));
  well_formed = (dataset_is_well_formed c (take 1048576 bytes) name (length bytes) 0 (omega (arith, length-take 1048576 bytes)) header).0;
  fits = values_fit c name bytes (file_bytes, header);
}

stored-table : (name bytes : List ℕ) (t : CsvTable) → All (λ b. b < 256) name → IsBytes bytes → form_of name ≡ Some table → table_of name bytes ≡ Ok t → CanBeSent (table_dataset t) (table_trees t)
stored-table name bytes t name_bytes file_bytes form is = record {
  words = table-has-words name bytes t name_bytes file_bytes (short-suffix (codes ".csv") (segment name) (form-table name form)) is;
  well_formed = formed name bytes t is;
  fits = tables.fits name bytes t is;
}

stored-saved : (name bytes : List ℕ) (d : Dataset) (ts : List Tree) → All (λ b. b < 256) name → IsBytes bytes → form_of name ≡ Some saved → IsSaved bytes name d ts → CanBeSent d ts
stored-saved name bytes d ts name_bytes file_bytes form is = record {
  words = saved_has_words bytes name d ts name_bytes file_bytes (some-segment (segment name) (length (codes ".dods")) (form-saved name form)) is;
  well_formed = saved_is_well_formed bytes name d ts is;
  fits = saved_fits bytes name d ts is;
}

stored-joined : (files : Files) (name bytes : List ℕ) (s : Stored) → All (λ b. b < 256) name → HoldBytes files → form_of name ≡ Some joined → IsJoined (Some files) name bytes (Ok s) → CanBeSent s.dataset s.trees
stored-joined files name bytes s name_bytes hold form (inr (why, l, clash)) = cc clash
stored-joined files name bytes s name_bytes hold form (inl (listed, l, inr (why, members, clash))) = cc clash
stored-joined files name bytes s name_bytes hold form (inl (listed, l, inl (ms, members, (can, is)))) =
    let sent = joined-sent (contents_in ms) (bytes_in ms) name can (members-headed files 1 listed ms hold members) name_bytes (some-segment (segment name) (length (codes ".join")) (form-joined name form)) in
    subst (λ (x : Stored). CanBeSent x.dataset x.trees) (sym is) (record { words = sent.words; well_formed = sent.well_formed; fits = sent.fits })

stored : (files : Files) (form : Form) (name bytes : List ℕ) (s : Stored) → All (λ b. b < 256) name → HoldBytes files → IsBytes bytes → form_of name ≡ Some form → IsStored (Some files) form name bytes (Ok s) → CanBeSent s.dataset s.trees
stored files netcdf name bytes s name_bytes hold file_bytes form (c, header, is) = subst (λ (x : Stored). CanBeSent x.dataset x.trees) (sym is) (stored-netcdf name bytes c name_bytes file_bytes form header)
stored files table name bytes s name_bytes hold file_bytes form (t, is_table, is) = subst (λ (x : Stored). CanBeSent x.dataset x.trees) (sym is) (stored-table name bytes t name_bytes file_bytes form is_table)
stored files saved name bytes s name_bytes hold file_bytes form (d, ts, is_saved, is) = subst (λ (x : Stored). CanBeSent x.dataset x.trees) (sym is) (stored-saved name bytes d ts name_bytes file_bytes form is_saved)
stored files joined name bytes s name_bytes hold file_bytes form is = stored-joined files name bytes s name_bytes hold form is

-- what a name finds
found : (files : Files) (name : List ℕ) (file : File) → file_named files name ≡ Some file → (form_of name ≡ Some file.form) × (files name ≡ Some file.bytes)
found files name file is = go (form_of name) refl (files name) refl is where
  go : (o : Option Form) → form_of name ≡ o → (b : Option (List ℕ)) → files name ≡ b → option_and_then (λ (form : Form). option_map (λ (bytes : List ℕ). record { form = form; bytes = bytes }) b) o ≡ Some file
      → (form_of name ≡ Some file.form) × (files name ≡ Some file.bytes)
  go None e b h same = cc same
  go (Some form) e None h same = cc same
  go (Some form) e (Some bytes) h same =
      let one : record { form = form; bytes = bytes } ≡ file = cc in
      (e ∙ ap (λ (x : File). Some x.form) one, h ∙ ap (λ (x : File). Some x.bytes) one)

pub opened : (files : Files) (name : List ℕ) (s : Stored) → HoldBytes files → All (λ b. b < 256) name → Opens files name (Ok s) → CanBeSent s.dataset s.trees
opened files name s hold name_bytes (inl (file, is, stored_so)) =
    let (form, bytes) = found files name file (found-some (file_named files name) file is) in
    stored files file.form name file.bytes s name_bytes hold (hold name file.bytes bytes) form stored_so
  where
    found-some : (o : Option File) (file : File) → Ok file ≡ found_or o NoFile → o ≡ Some file
    found-some None file e = cc e
    found-some (Some x) file e = cc e
opened files name s hold name_bytes (inr (why, is, e)) = cc e

-- ---- and what a constraint leaves of it

pub left-good : (s : Stored) (c : Constraint) → CanBeSent s.dataset s.trees → cause s.dataset c ≡ None → too_large (left_of s c).dataset ≡ None → length (body (left_of s c).dataset (left_of s c).trees) < 2 ^ 40
    → IsVerdict dods_form (body (left_of s c).dataset (left_of s c).trees) (good (left_of s c).dataset (left_of s c).trees)
left-good s c can none small short =
    let suits : SuitsAll (marks s.dataset c) 1 s.dataset.members = marks_suit s.dataset c can.well_formed none in
    body_good _ _ _ (sent_is_read (left_of s c).dataset (left_of s c).trees (constrained_has_words (marks s.dataset c) s.dataset can.words) (stays_well_formed (marks s.dataset c) s.dataset can.well_formed suits)
    (filtered_all_fit (marks s.dataset c) (kept (selections s.dataset c)) s.dataset.members 1 s.trees suits can.fits) small short)

-- and what is wrong with it where it is too long
pub left-long : (s : Stored) (c : Constraint) → CanBeSent s.dataset s.trees → cause s.dataset c ≡ None → too_large (left_of s c).dataset ≡ None → 2 ^ 40 ≤ length (body (left_of s c).dataset (left_of s c).trees)
    → IsVerdict dods_form (body (left_of s c).dataset (left_of s c).trees) (bad TooLong (2 ^ 40))
left-long s c can none small long =
    let suits : SuitsAll (marks s.dataset c) 1 s.dataset.members = marks_suit s.dataset c can.well_formed none in
    too-long (left_of s c).dataset (left_of s c).trees (constrained_has_words (marks s.dataset c) s.dataset can.words) (stays_well_formed (marks s.dataset c) s.dataset can.well_formed suits)
    (filtered_all_fit (marks s.dataset c) (kept (selections s.dataset c)) s.dataset.members 1 s.trees suits can.fits) small long

-- ---- the steps of a result

-- the parts of a data response
record Parts (files : Files) (name query text : List ℕ) : Type 0 where
  stored : Stored
  constraint : Constraint
  opens : Opens files name (Ok stored)
  spells : Spells query constraint
  no_cause : cause stored.dataset constraint ≡ None
  is_small : too_large (left_of stored constraint).dataset ≡ None
  is_body : text ≡ body (left_of stored constraint).dataset (left_of stored constraint).trees

kind-of : Result Text Cause → Kind
kind-of (Ok t) = t.kind
kind-of (Err why) = Ver

text-in : Result Text Cause → List ℕ
text-in (Ok t) = t.text
text-in (Err why) = []

abbrev answer : Text → Result Text Cause
answer t = Ok t

another-kind : (text other : List ℕ) (kind : Kind) → ¬ (Dods ≡ kind) → answer (result_text Dods text) ≡ answer (result_text kind other) → ⊥
unfolding kind-of
another-kind text other kind differ same = differ (ap kind-of same)

dds-kind : (d : Dataset) (text : List ℕ) → Ok (result_text Dods text) ≡ dds_text d → ⊥
dds-kind d text same = go (nat_lt 16777216 (length (dds d))) same where
  go : (b : Bool) → Ok (result_text Dods text) ≡ cond b (Err (TooLarge 0)) (Ok (result_text Dds (dds d))) → ⊥
  go true e = cc e
  go false e = another-kind text (dds d) Dds (λ k. cc k) e

dods-small : (left : Left) (text : List ℕ) → Ok (result_text Dods text) ≡ dods_text left → (too_large left.dataset ≡ None) × (text ≡ body left.dataset left.trees)
unfolding text-in
dods-small left text same = go (too_large left.dataset) refl same where
  go : (o : Option ℕ) → too_large left.dataset ≡ o → Ok (result_text Dods text) ≡ unless (option_map (λ (leaf : ℕ). TooLarge leaf) o) (result_text Dods (body left.dataset left.trees)) → (too_large left.dataset ≡ None) × (text ≡ body left.dataset left.trees)
  go None e s = (e, ap text-in s)
  go (Some leaf) e s = cc s

left-is : (s : Stored) (c : Constraint) (left : Left) → Ok left ≡ unless (cause s.dataset c) (left_of s c) → (cause s.dataset c ≡ None) × (left ≡ left_of s c)
left-is s c left same = go (cause s.dataset c) refl same where
  go : (o : Option Cause) → cause s.dataset c ≡ o → Ok left ≡ unless o (left_of s c) → (cause s.dataset c ≡ None) × (left ≡ left_of s c)
  go None e h = let one : left ≡ left_of s c = cc in (e, one)
  go (Some why) e h = cc h

parts-of : (files : Files) (name query text : List ℕ) (s : Stored) → Opens files name (Ok s) → DodsAnswers s query (Ok (result_text Dods text)) → Parts files name query text
parts-of files name query text s opens (inl (left, inl (c, spells, is), same)) =
    let (none, one) = left-is s c left is in
    let (small, is_body) = dods-small left text same in
    record {
      stored = s;
      constraint = c;
      opens = opens;
      spells = spells;
      no_cause = none;
      is_small = subst (λ (l : Left). too_large l.dataset ≡ None) one small;
      is_body = subst (λ (l : Left). text ≡ body l.dataset l.trees) one is_body;
    }
parts-of files name query text s opens (inl (left, inr (why, reads, is), same)) = cc is
parts-of files name query text s opens (inr (why, leaves, is)) = cc is

by-kind : (kind : Kind) (files : Files) (name query text : List ℕ) → Answers kind files name query (Ok (result_text Dods text)) → (kind ≡ Dods) × Parts files name query text
by-kind Ver files name query text answers = absurd (another-kind text _ Ver (λ k. cc k) answers)
by-kind Das files name query text (inl (s, opens, is)) = absurd (another-kind text _ Das (λ k. cc k) is)
by-kind Das files name query text (inr (why, opens, is)) = cc is
by-kind Dds files name query text (inl (s, opens, inl (left, leaves, is))) = absurd (dds-kind left.dataset text is)
by-kind Dds files name query text (inl (s, opens, inr (why, leaves, is))) = cc is
by-kind Dds files name query text (inr (why, opens, is)) = cc is
by-kind Dods files name query text (inl (s, opens, answers)) = (refl, parts-of files name query text s opens answers)
by-kind Dods files name query text (inr (why, opens, is)) = cc is

found-asked : (o : Option Asked) (a : Asked) → Ok a ≡ found_or o BadTarget → o ≡ Some a
found-asked None a e = cc e
found-asked (Some b) a e = let same : a ≡ b = cc in ap (λ (x : Asked). Some x) (sym same)

pub result_is_good : ResultIsGood
result_is_good target files text hold (inl (a, is, answers)) short =
    let found_it = found-asked (target_of target) a is in
    let (kind, p) = by-kind a.kind files a.name a.query text answers in
    record {
      name = a.name;
      query = a.query;
      stored = p.stored;
      constraint = p.constraint;
      is_target = found_it ∙ ap (λ (k : Kind). Some (record { name = a.name; kind = k; query = a.query })) kind;
      opens = p.opens;
      spells = p.spells;
      no_cause = p.no_cause;
      is_body = p.is_body;
      verdict = subst (λ (t : List ℕ). IsVerdict dods_form t (good (left_of p.stored p.constraint).dataset (left_of p.stored p.constraint).trees)) (sym p.is_body)
          (left-good p.stored p.constraint (opened files a.name p.stored hold (target-name target a found_it) p.opens) p.no_cause p.is_small (subst (λ (t : List ℕ). length t < 2 ^ 40) p.is_body short));
    }
result_is_good target files text hold (inr (why, is, e)) short = cc e

pub result_is_too_long : ResultIsTooLong
result_is_too_long target files text hold (inl (a, is, answers)) long =
    let found_it = found-asked (target_of target) a is in
    let (kind, p) = by-kind a.kind files a.name a.query text answers in
    subst (λ (t : List ℕ). IsVerdict dods_form t (bad TooLong (2 ^ 40))) (sym p.is_body)
    (left-long p.stored p.constraint (opened files a.name p.stored hold (target-name target a found_it) p.opens) p.no_cause p.is_small (subst (λ (t : List ℕ). 2 ^ 40 ≤ length t) p.is_body long))
result_is_too_long target files text hold (inr (why, is, e)) long = cc e
