-- What is asked of some files has one answer at most, step by step.
use Rattle.std.proofs.Common.{◌≡◌, ◌≢◌, ◌⊎◌, ℕ, ◌<◌, All, true, [], ◌∷◌, List, length, Option, Some, None, IsSome, Result, Ok, Err, IsTrue, refl, sym, ap, ◌∙◌, inl, inr}
use Rattle.std.proofs.lemmas.Bool.{lt-ltb}
use Rattle.std.proofs.lemmas.List.Elements.{All-head, All-tail}
use Rattle.std.specs.List.{list_all}
use Rattle.std.specs.Prelude.{option_map}
use Rattle.std.specs.Option.{option_and_then}
use Rattle.viable.specs.Prefix.{is_byte}
use Rattle.constraint_parse.proofs.Answer.{one_constraint}
use Rattle.constraint_parse.proofs.OneFault.{one_fault}
use Rattle.constraint_parse.specs.Values.{Spells}
use Rattle.dap_errors.specs.declared.cause.Cause.{Cause}
use Rattle.dap_errors.specs.declared.cause.Cause.TheVariants.{NoFile}
use Rattle.dap_outside.specs.Files.{Told}
use Rattle.dap_errors.specs.declared.file_cause.FileCause.{FileCause}
use Rattle.dap_http.specs.declared.kind.Kind.{Kind}
use Rattle.dap_http.specs.declared.kind.Kind.TheVariants.{Dds, Das, Dods, Ver}
use Rattle.netcdf_source.proofs.OneVerdict.{one_verdict}
use Rattle.saved_source.proofs.OneAnswer.{one_refusal, one_saved, saved_not_refused}
use Rattle.saved_source.specs.declared.refusal.SavedRefusal.{SavedRefusal}
use Rattle.saved_source.specs.declared.refusal.SavedRefusal.TheVariants as responses
use Rattle.dap_server.specs.Files.{Files, Form, Stored, form_of, front, IsStored, joined, netcdf, saved, table, netcdf_stored, saved_cause, saved_stored}
use Rattle.dap_server.specs.Laws.{OneResult}
use Rattle.dap_server.specs.Results.{AnswersAmong, DdsAnswers, DodsAnswers, File, Leaves, OpensAmong, Reads}
use Rattle.dap_server.specs.Steps.{found_or}
use Rattle.dap_server.proofs.OneJoin.{join_one}
use Rattle.dap_server.proofs.OneStep.{One, is_one, same_value, then_one, then_one_of}

-- a text of bytes, as a test says it
pub all_bytes : (text : List ℕ) → All (λ byte. byte < 256) text → IsTrue (list_all is_byte text)
all_bytes [] fit = refl
all_bytes (b ∷ text) fit =
    let small : is_byte b ≡ true = lt-ltb b 256 (All-head (λ byte. byte < 256) b text fit) in
    rw small (all_bytes text (All-tail (λ byte. byte < 256) b text fit))

netcdf_one : (told : Told) (name bytes : List ℕ) → One (IsStored told netcdf name bytes)
netcdf_one told name bytes (Ok s) (Ok t) (c, is_c, is_s) (d, is_d, is_t) =
    let alike : c ≡ d = same_value c d (Ok c) refl (one_verdict (front bytes) (length bytes) (Ok c) (Ok d) is_c is_d) in
    ap Ok (is_s ∙ ap (netcdf_stored name bytes) alike ∙ sym is_t)
netcdf_one told name bytes (Ok s) (Err k) (c, is_c, is_s) (refusal, why, is_first, is_why, is_k) =
    cc (one_verdict (front bytes) (length bytes) (Ok c) (Err refusal) is_c is_first)
netcdf_one told name bytes (Err k) (Ok s) (refusal, why, is_first, is_why, is_k) (c, is_c, is_s) =
    cc (one_verdict (front bytes) (length bytes) (Ok c) (Err refusal) is_c is_first)
netcdf_one told name bytes (Err k) (Err l) (refusal, why, is_first, is_why, is_k) (other, reason, is_other, is_reason, is_l) =
    cc (one_verdict (front bytes) (length bytes) (Err refusal) (Err other) is_first is_other, is_why, is_reason, is_k, is_l)

table_one : (told : Told) (name bytes : List ℕ) → One (IsStored told table name bytes)
table_one told name bytes (Ok s) (Ok t) (c, is_c, is_s) (d, is_d, is_t) = cc (is_c, is_d, is_s, is_t)
table_one told name bytes (Ok s) (Err k) (c, is_c, is_s) (refusal, why, is_first, is_why, is_k) = cc (is_c, is_first)
table_one told name bytes (Err k) (Ok s) (refusal, why, is_first, is_why, is_k) (c, is_c, is_s) = cc (is_c, is_first)
table_one told name bytes (Err k) (Err l) (refusal, why, is_first, is_why, is_k) (other, reason, is_other, is_reason, is_l) =
    cc (is_first, is_other, is_why, is_reason, is_k, is_l)

-- a cause is none of a want of memory
no_cause : (why : FileCause) → None ≡ Some why → ⊥
no_cause why is = cc is

some_cause : (refusal : SavedRefusal) (why : FileCause) → saved_cause refusal ≡ Some why → refusal ≢ responses.Memory
some_cause refusal why is = λ e. no_cause why (sym (ap saved_cause e) ∙ is)

saved_one : (told : Told) (name bytes : List ℕ) → One (IsStored told saved name bytes)
saved_one told name bytes (Ok s) (Ok t) (d, ts, is_d, is_s) (e, us, is_e, is_t) =
    let (same, trees) = one_saved bytes name d e ts us is_d is_e in
    ap Ok (is_s ∙ ap (λ x. saved_stored x ts) same ∙ ap (saved_stored e) trees ∙ sym is_t)
saved_one told name bytes (Ok s) (Err k) (d, ts, is_d, is_s) (refusal, why, is_first, is_why, is_k) =
    absurd (saved_not_refused bytes name d ts refusal (some_cause refusal why is_why) is_d is_first)
saved_one told name bytes (Err k) (Ok s) (refusal, why, is_first, is_why, is_k) (d, ts, is_d, is_s) =
    absurd (saved_not_refused bytes name d ts refusal (some_cause refusal why is_why) is_d is_first)
saved_one told name bytes (Err k) (Err l) (refusal, why, is_first, is_why, is_k) (other, reason, is_other, is_reason, is_l) =
    let same : refusal ≡ other = one_refusal bytes name refusal other (some_cause refusal why is_why) (some_cause other reason is_reason) is_first is_other in
    cc (same, is_why, is_reason, is_k, is_l)

-- where the files of a list's lines are told, or the file is no list
abbrev pub AreTold : Told → Form → Type 0
AreTold told form = IsSome told ⊎ (form ≢ joined)

told_join : (told : Told) (name bytes : List ℕ) → AreTold told joined → One (IsStored told joined name bytes)
told_join (Some files) name bytes are = join_one files name bytes
told_join None name bytes (inl some) = cc some
told_join None name bytes (inr other) = absurd (other refl)

stored_one : (told : Told) (form : Form) (name bytes : List ℕ) → AreTold told form → One (IsStored told form name bytes)
stored_one told netcdf name bytes are = netcdf_one told name bytes
stored_one told table name bytes are = table_one told name bytes
stored_one told saved name bytes are = saved_one told name bytes
stored_one told joined name bytes are = told_join told name bytes are

abbrev file_of : Form → List ℕ → File
file_of form bytes = record { form = form; bytes = bytes }

abbrev ok-file : File → Result File Cause
ok-file file = Ok file

file-same : (file : File) (form : Form) (bytes : List ℕ) → ok-file file ≡ ok-file (file_of form bytes) → form ≡ file.form
file-same file form bytes is = sym (ap (λ (f : File). f.form) (same_value file (file_of form bytes) (ok-file file) refl is))

-- the form of a file that is found is that of its name
form-found : (o : Option Form) (found : Option (List ℕ)) (file : File) → Ok file ≡ found_or (option_and_then (λ form. option_map (λ bytes. record { form = form; bytes = bytes }) found) o) NoFile → o ≡ Some file.form
form-found None found file is = cc is
form-found (Some form) None file is = cc is
form-found (Some form) (Some bytes) file is = ap Some (file-same file form bytes is)

-- the form of a name says so
abbrev pub NameIsTold : Told → List ℕ → Type 0
NameIsTold told name = IsSome told ⊎ (form_of name ≢ Some joined)

told-form : (told : Told) (name : List ℕ) (form : Form) → NameIsTold told name → form_of name ≡ Some form → AreTold told form
told-form told name form (inl some) is = inl some
told-form told name form (inr other) is = inr (λ list. other (is ∙ ap Some list))

opens_one : (told : Told) (files : Files) (name : List ℕ) → NameIsTold told name → One (OpensAmong told files name)
opens_one told files name are =
    then_one_of _ _ (is_one _) (λ (file : File) found. stored_one told file.form name file.bytes (told-form told name file.form are (form-found (form_of name) (files name) file found)))

reads_one : (query : List ℕ) → IsTrue (list_all is_byte query) → One (Reads query)
reads_one query bytes (Ok c) (Ok d) is_c is_d = ap Ok (one_constraint query c d is_c is_d)
reads_one query bytes (Ok c) (Err k) is_c (place, fault, is_k) = absurd (fault.spells_none c is_c)
reads_one query bytes (Err k) (Ok c) (place, fault, is_k) is_c = absurd (fault.spells_none c is_c)
reads_one query bytes (Err k) (Err l) (place, fault, is_k) (other, faulty, is_l) =
    cc (one_fault is_byte Spells query place other bytes fault faulty, is_k, is_l)

leaves_one : (s : Stored) (query : List ℕ) → IsTrue (list_all is_byte query) → One (Leaves s query)
leaves_one s query bytes = then_one _ _ (reads_one query bytes) (λ c. is_one _)

dds_one : (s : Stored) (query : List ℕ) → IsTrue (list_all is_byte query) → One (DdsAnswers s query)
dds_one s query bytes = then_one _ _ (leaves_one s query bytes) (λ left. is_one _)

dods_one : (s : Stored) (query : List ℕ) → IsTrue (list_all is_byte query) → One (DodsAnswers s query)
dods_one s query bytes = then_one _ _ (leaves_one s query bytes) (λ left. is_one _)

pub answers_one : (told : Told) (kind : Kind) (files : Files) (name query : List ℕ) → NameIsTold told name → IsTrue (list_all is_byte query) → One (AnswersAmong told kind files name query)
answers_one told Ver files name query are bytes = is_one _
answers_one told Das files name query are bytes = then_one _ _ (opens_one told files name are) (λ s. is_one _)
answers_one told Dds files name query are bytes = then_one _ _ (opens_one told files name are) (λ s. dds_one s query bytes)
answers_one told Dods files name query are bytes = then_one _ _ (opens_one told files name are) (λ s. dods_one s query bytes)

pub one_result : OneResult
one_result files a one other bytes is_one is_other = answers_one (Some files) a.kind files a.name a.query (inl refl) bytes one other is_one is_other
