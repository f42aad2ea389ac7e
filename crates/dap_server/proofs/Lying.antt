-- From what a shelf said of a search and a read: files that it may have.
use Rattle.std.proofs.Common.{◌≡◌, ◌≢◌, ℕ, ◌≤◌, List, length, min, Result, Option, Some, None, Ok, Err, refl, sym, ap, ◌∙◌, inl, inr, arith, subst}
use Rattle.std.specs.Prelude.{option_map}
use Rattle.std.specs.Option.{option_and_then, option_map_or}
use Rattle.dap_errors.specs.declared.cause.Cause.{Cause}
use Rattle.dap_errors.specs.declared.cause.Cause.TheVariants.{NoFile}
use Rattle.dap_outside.specs.Files.{Told, Finds, HasSize}
use Rattle.dap_types.specs.Model.{Tree}
use Rattle.saved_source.specs.Responses as responses
use Rattle.dap_server.specs.Costs.{most_first, most_of_file, most_of_form}
use Rattle.dap_server.specs.Files.{Files, Form, MayHave, Stored, form_of, IsStored, joined, netcdf, saved, table}
use Rattle.dap_server.specs.Results.{File, OpensAmong, file_named}
use Rattle.dap_server.specs.Steps.{found_or}
use Rattle.dap_server.specs.inner.Joining.{MayOpen}
use Rattle.dap_server.specs.inner.Opening.{IsMissing, IsRead, Lies, OpenedAs, WhereRefused, stored_of}
use Rattle.dap_server.specs.declared.open.Opened.{Opened}
use Rattle.dap_server.specs.declared.open.Opened.TheVariants.{Netcdf, Saved, Table}
use Rattle.dap_server.specs.declared.no_answer.Stop.{Stop}
use Rattle.dap_server.specs.declared.no_answer.Stop.TheVariants.{Refused, ShelfFault, Memory}

pub same_bytes : (content : Option (List ℕ)) (bytes b : List ℕ) → content ≡ Some b → IsRead content bytes → bytes ≡ b
same_bytes None bytes b is is_read = cc is
same_bytes (Some told) bytes b is is_read = cc (is, is_read)

lies : {F : Type 0} (told : Told) (name_of content : F → Option (List ℕ)) (name : List ℕ) (file : F) (c : Option (List ℕ)) (size : ℕ) (bytes : List ℕ)
    → Finds told name_of content name (Some file) → c ≡ content file → IsRead c bytes → size ≡ length bytes → Lies told c size name bytes
lies None name_of content name file c size bytes finds same is_read is_size =
    record { files = λ n. Some bytes; may_have = tt; there = refl; is_read = is_read; tells = λ some. cc some; is_size = is_size }
lies (Some files) name_of content name file c size bytes (b, there, named, holds) same is_read is_size =
    let is : bytes ≡ b = same_bytes c bytes b (same ∙ holds) is_read in
    record { files = files; may_have = refl; there = there ∙ ap Some (sym is); is_read = is_read; tells = λ some. same ∙ holds ∙ ap Some (sym is); is_size = is_size }

-- the file of a form
abbrev file_of : Form → List ℕ → File
file_of form bytes = record { form = form; bytes = bytes }

named_file : (files : Files) (name bytes : List ℕ) (form : Form) → form_of name ≡ Some form → files name ≡ Some bytes → file_named files name ≡ Some (file_of form bytes)
named_file files name bytes form is there =
    ap (option_and_then (λ f. option_map (file_of f) (files name))) is ∙ ap (option_map (file_of form)) there

-- what a file of that form and name has is what is opened
pub opens : (told : Told) (files : Files) (name bytes : List ℕ) (form : Form) (r : Result Stored Cause) → form_of name ≡ Some form → files name ≡ Some bytes → IsStored told form name bytes r → OpensAmong told files name r
opens told files name bytes form r is there stored =
    inl (file_of form bytes, sym (ap (λ o. found_or o NoFile) (named_file files name bytes form is there)), stored)

-- a file that was opened, and what follows it
pub opened : (told : Told) (files : Files) (name bytes : List ℕ) (ts : List Tree) (o : Opened) → files name ≡ Some bytes → OpenedAs o name bytes ts → OpensAmong told files name (Ok (stored_of o name ts))
opened told files name bytes ts (Netcdf h) there (form, is_header, is_length, are) = opens told files name bytes _ _ form there (h.contents, is_header, ap (λ us. stored_of (Netcdf h) name us) are)
opened told files name bytes ts (Table t) there (form, is_table, are) = opens told files name bytes _ _ form there (t, is_table, ap (λ us. stored_of (Table t) name us) are)
opened told files name bytes ts (Saved s) there (form, is, holds) = opens told files name bytes _ _ form there (responses.dataset_in s.saved, ts, is, refl)

-- no file of that name, or no form of file
no_entry : (o : Option Form) → option_and_then (λ f. option_map (file_of f) None) o ≡ None
no_entry None = refl
no_entry (Some f) = refl

missing : (told : Told) (name : List ℕ) → IsMissing told name → MayOpen told name (Err NoFile)
missing None name is =
    ((λ n. None), tt, inr (NoFile, sym (ap (λ o. found_or o NoFile) (no_entry (form_of name))), refl))
missing (Some files) name is =
    (files, refl, inr (NoFile, sym (ap (λ o. found_or o NoFile) (ap (λ f. option_and_then (λ form. option_map (file_of form) f) (form_of name)) is ∙ no_entry (form_of name))), refl))

pub some_files : (told : Told) → (files : Files) × MayHave told files
some_files None = ((λ n. None), tt)
some_files (Some files) = (files, refl)

pub formless : (told : Told) (name : List ℕ) → form_of name ≡ None → MayOpen told name (Err NoFile)
formless told name is =
    let (files, may) = some_files told in
    (files, may, inr (NoFile, sym (ap (λ o. found_or o NoFile) (ap (option_and_then (λ form. option_map (file_of form) (files name))) is)), refl))

-- as the functions that open a file need them
abbrev Refuses : Told → List ℕ → Stop → Type 0
Refuses told name s = WhereRefused (λ cause. MayOpen told name (Err cause)) s

pub missing_stop : (told : Told) (name : List ℕ) (s : Stop) → WhereRefused (λ cause. (cause ≡ NoFile) × IsMissing told name) s → Refuses told name s
missing_stop told name (Refused cause) (is, m) = let (files, may, opens) = missing told name m in (files, may, rw is opens)
missing_stop told name ShelfFault x = tt
missing_stop told name Memory x = tt

pub spoiled_stop : {F : Type 0} (told told2 : Told) (name_of content : F → Option (List ℕ)) (name : List ℕ) (file : F) (form : Form) (s : Stop) → form_of name ≡ Some form
    → Finds told name_of content name (Some file) → told2 ≡ told → WhereRefused (λ cause. (bytes : List ℕ) × IsRead (content file) bytes × IsStored told2 form name bytes (Err cause)) s → Refuses told name s
spoiled_stop told told2 name_of content name file form (Refused cause) is finds same (bytes, is_read, stored) =
    let l = lies told name_of content name file (content file) (length bytes) bytes finds refl is_read refl in
    (l.files, l.may_have, opens told l.files name bytes form (Err cause) is l.there (subst (λ t. IsStored t form name bytes (Err cause)) same stored))
spoiled_stop told told2 name_of content name file form ShelfFault is finds same x = tt
spoiled_stop told told2 name_of content name file form Memory is finds same x = tt

pub found : {F : Type 0} (told : Told) (name_of content : F → Option (List ℕ)) (name : List ℕ) (file : F) (n : ℕ) (c : Option (List ℕ)) (size : ℕ) (o : Opened)
    → Finds told name_of content name (Some file) → (bytes : List ℕ) × IsRead (content file) bytes × (n ≡ length bytes) × ((ts : List Tree) × OpenedAs o name bytes ts) → c ≡ content file → size ≡ n
    → (bytes : List ℕ) × Lies told c size name bytes × ((ts : List Tree) × OpenedAs o name bytes ts)
found told name_of content name file n c size o finds (bytes, is_read, is_size, is_opened) same same_size =
    (bytes, lies told name_of content name file c size bytes finds same (rw same is_read) (same_size ∙ is_size), is_opened)

-- what is read first of a file that is no list
of_file : (files : Files) (o : Option Form) (bytes : List ℕ) → o ≢ Some joined → min (length bytes) (most_of_form o) ≤ most_of_file files o bytes
of_file files None bytes other = omega arith
of_file files (Some netcdf) bytes other = omega arith
of_file files (Some table) bytes other = omega arith
of_file files (Some saved) bytes other = omega arith
of_file files (Some joined) bytes other = absurd (other refl)

pub first_read : {F : Type 0} (told : Told) (name_of content : F → Option (List ℕ)) (name : List ℕ) (file : F) (size : ℕ)
    → form_of name ≢ Some joined → Finds told name_of content name (Some file) → HasSize (content file) size → min size (most_of_form (form_of name)) ≤ most_first told name
first_read None name_of content name file size other finds has = omega arith
first_read (Some files) name_of content name file size other (bytes, there, named, holds) has =
    let same : size ≡ length bytes = (rw holds at has) in
    let first = of_file files (form_of name) bytes other in
    rw (ap (λ o. option_map_or (most_of_file files (form_of name)) o 0) there, same) first
