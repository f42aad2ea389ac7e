-- From what a shelf said of a search and a read to the member of a line.
use Rattle.std.proofs.Common.{◌≡◌, ℕ, ◌≤◌, List, length, min, Option, Some, None, IsSome, Ok, Err, refl, sym, ap, ◌∙◌, inl, inr, subst, arith}
use Rattle.std.specs.Option.{option_map_or}
use Rattle.dap_errors.specs.declared.cause.Cause.{Cause}
use Rattle.dap_errors.specs.declared.cause.Cause.TheVariants.{Damaged}
use Rattle.dap_errors.specs.declared.file_cause.FileCause.TheVariants.{NoMember, BadMember}
use Rattle.dap_outside.specs.Files.{Told, Finds, HasSize}
use Rattle.netcdf_source.specs.File.{FileHeader}
use Rattle.netcdf_source.specs.Header.{IsHeader}
use Rattle.dap_server.proofs.Lying.{same_bytes}
use Rattle.dap_server.specs.Headers.{IsHeaderCause, front}
use Rattle.dap_server.specs.Joins.{IsMember, Member}
use Rattle.dap_server.specs.inner.Members.{IsFileOf, IsHeaderOf, bad_member, most_in_line}
use Rattle.dap_server.specs.inner.Opening.{IsRead, WhereRefused}
use Rattle.dap_server.specs.declared.no_answer.Stop.{Stop}
use Rattle.dap_server.specs.declared.no_answer.Stop.TheVariants.{Refused, ShelfFault, Memory}

-- no file of that name
pub missing : {F : Type 0} (told : Told) (name_of content : F → Option (List ℕ)) (name : List ℕ) (line : ℕ) → Finds told name_of content name None → IsMember told line name (Err (Damaged (NoMember line)))
missing None name_of content name line finds = inl (tt, refl)
missing (Some files) name_of content name line finds = inl (finds, refl)

-- the stop of a line whose file has no header
pub bad_header : (content : Option (List ℕ)) (line : ℕ) (s t : Stop) → WhereRefused (λ cause. (bytes : List ℕ) × IsRead content bytes × IsHeaderCause (front bytes) (length bytes) cause) s → t ≡ bad_member line s
    → WhereRefused (λ cause. (bytes : List ℕ) × (why : Cause) × IsRead content bytes × IsHeaderCause (front bytes) (length bytes) why × (cause ≡ Damaged (BadMember line))) t
bad_header content line (Refused why) t (bytes, is_read, is) e = rw e (bytes, why, is_read, is, refl)
bad_header content line ShelfFault t is e = rw e tt
bad_header content line Memory t is e = rw e tt

-- a file with a header
pub member : {F : Type 0} (told : Told) (name_of content : F → Option (List ℕ)) (name : List ℕ) (line : ℕ) (file : F) (n : ℕ) (c : Option (List ℕ)) (size : ℕ) (h : FileHeader)
    → Finds told name_of content name (Some file) → c ≡ content file → size ≡ n
    → (bytes : List ℕ) × IsRead (content file) bytes × (n ≡ length bytes) × IsHeader h.contents (front bytes) (length bytes) × (h.length ≡ length bytes)
    → (m : Member) × IsMember told line name (Ok m) × IsHeaderOf h m × IsRead c m.bytes × (IsSome told → c ≡ Some m.bytes) × (size ≡ length m.bytes)
member None name_of content name line file n c size h finds same same_size (bytes, is_read, is_size, is, len) =
    (record { contents = h.contents; bytes = bytes }, (tt, is), (refl, len), rw same is_read, (λ some. cc some), same_size ∙ is_size)
member (Some files) name_of content name line file n c size h (b, there, named, holds) same same_size (bytes, is_read, is_size, is, len) =
    let e : bytes ≡ b = same_bytes (content file) bytes b holds is_read in
    (record { contents = h.contents; bytes = bytes }, (there ∙ ap Some (sym e), is), (refl, len), rw same is_read, (λ some. same ∙ holds ∙ ap Some (sym e)), same_size ∙ is_size)

-- a file with none
pub spoiled : {F : Type 0} (told : Told) (name_of content : F → Option (List ℕ)) (name : List ℕ) (line : ℕ) (file : F) (s : Stop)
    → Finds told name_of content name (Some file)
    → WhereRefused (λ cause. (bytes : List ℕ) × (why : Cause) × IsRead (content file) bytes × IsHeaderCause (front bytes) (length bytes) why × (cause ≡ Damaged (BadMember line))) s
    → WhereRefused (λ cause. IsMember told line name (Err cause)) s
spoiled None name_of content name line file (Refused cause) finds (bytes, why, is_read, is, e) = inr (bytes, why, tt, is, e)
spoiled (Some files) name_of content name line file (Refused cause) (b, there, named, holds) (bytes, why, is_read, is, e) =
    inr (bytes, why, there ∙ ap Some (sym (same_bytes (content file) bytes b holds is_read)), is, e)
spoiled told name_of content name line file ShelfFault finds x = tt
spoiled told name_of content name line file Memory finds x = tt

-- what is read for it
pub first_read : {F : Type 0} (told : Told) (name_of content : F → Option (List ℕ)) (name : List ℕ) (file : F) (size : ℕ)
    → Finds told name_of content name (Some file) → HasSize (content file) size → min size 1048576 ≤ most_in_line told name
first_read None name_of content name file size finds has = omega arith
first_read (Some files) name_of content name file size (bytes, there, named, holds) has =
    let same : size ≡ length bytes = (rw holds at has) in
    rw (ap (λ o. option_map_or (λ b. min (length b) 1048576) o 0) there, same) (omega arith)

-- what was found by the text of a name
pub by_text : {F : Type 0} (told : Told) (name_of content : F → Option (List ℕ)) (text name : List ℕ) (found : Option F) → text ≡ name → Finds told name_of content text found → Finds told name_of content name found
by_text told name_of content text name found same finds = subst (λ n. Finds told name_of content n found) same finds

-- the file of a line with its header, as it is after it was read
pub read_member : {F : Type 0} (told : Told) (name_of content : F → Option (List ℕ)) (name : List ℕ) (line : ℕ) (file : F) (n : ℕ) (h : FileHeader) (content' : F → Option (List ℕ)) (size_of' : F → ℕ) (file' : F)
    → Finds told name_of content name (Some file) → content' file' ≡ content file → size_of' file' ≡ n
    → (bytes : List ℕ) × IsRead (content file) bytes × (n ≡ length bytes) × IsHeader h.contents (front bytes) (length bytes) × (h.length ≡ length bytes)
    → (m : Member) × IsMember told line name (Ok m) × IsHeaderOf h m × IsFileOf told content' size_of' file' m
read_member told name_of content name line file n h content' size_of' file' finds same same_size given =
    let (m, is, head, read, tells, size) = member told name_of content name line file n (content' file') (size_of' file') h finds same same_size given in
    (m, is, head, (read, tells, size))
