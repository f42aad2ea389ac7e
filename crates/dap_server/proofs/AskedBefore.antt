-- What was asked of a shelf before a list or a line of it was refused.
use Rattle.std.proofs.Common.{◌≡◌, ℕ, ◌+◌, ◌*◌, ◌≤◌, List, [], ◌∷◌, length, min, Option, Some, None, Result, Ok, Err, IfErr, ap, sym, ◌∙◌, subst, inl, inr, arith}
use Rattle.std.specs.Prelude.{sum_by, take}
use Rattle.std.proofs.lemmas.List.Sums.{sum_by-cons}
use Rattle.std.proofs.lemmas.List.{length-take}
use Rattle.std.specs.Option.{option_map_or}
use Rattle.dap_errors.specs.declared.cause.Cause.{Cause}
use Rattle.dap_errors.specs.declared.cause.Cause.TheVariants.{Damaged}
use Rattle.dap_errors.specs.declared.file_cause.FileCause.{FileCause}
use Rattle.dap_errors.specs.declared.file_cause.FileCause.TheVariants.{BadMember, Differs, NoMember, NoRecord, TooManyRecords}
use Rattle.dap_outside.specs.Files.{Told, Finds, HasSize}
use Rattle.dap_http.specs.declared.kind.Kind.{Kind}
use Rattle.netcdf_source.specs.File.{FileHeader}
use Rattle.join_source.specs.declared.body.JoinBody.{JoinBody}
use Rattle.join_source.specs.declared.refusal.JoinRefusal.{JoinRefusal}
use Rattle.join_source.specs.declared.refusal.JoinRefusal.TheVariants as joins
use Rattle.join_source.specs.Lists.{list_of}
use Rattle.dap_server.proofs.Lying.{same_bytes}
use Rattle.dap_server.proofs.OpeningLists.{Lines, of_any, size_is}
use Rattle.dap_server.proofs.Refusals.{NoLine}
use Rattle.dap_server.specs.Costs.{IsAskedBefore, IsBadAmong, IsBadLine, IsWithinBadLine, most_before, most_of_first}
use Rattle.dap_server.specs.Files.{Stored}
use Rattle.dap_server.specs.Joins.{AreJoined, Member, join_cause}
use Rattle.dap_server.specs.Prepared.{WhereRefuse}
use Rattle.dap_server.specs.Results.{Text}
use Rattle.dap_server.specs.inner.Joining.{most_of_size}
use Rattle.dap_server.specs.inner.Members.{AreHeadersOf, AsksLine, AsksLines, AsksToBad, most_in_first, most_in_line}
use Rattle.dap_server.specs.inner.Opening.{IsRead, WhereRefused}
use Rattle.dap_server.specs.inner.Preparing.{join_prepared, text_prepared}
use Rattle.dap_server.specs.declared.prepared.Prepared.{Prepared}
use Rattle.dap_server.specs.declared.no_answer.Stop.{Stop}
use Rattle.dap_server.specs.declared.no_answer.Stop.TheVariants.{Refused, ShelfFault, Memory}

-- ---- A line.

pub missing_line : (told : Told) (name : List ℕ) (line : ℕ) (cause : Cause) (before now : ℕ) → now ≡ before → cause ≡ Damaged (NoMember line) → AsksLine told name line cause before now
missing_line told name line cause before now same is = rw is (λ count behind. inl (behind, omega (arith, same)))

pub spoiled_line : (told : Told) (name : List ℕ) (line : ℕ) (cause : Cause) (before now : ℕ) → now ≤ before + most_in_line told name → cause ≡ Damaged (BadMember line) → AsksLine told name line cause before now
spoiled_line told name line cause before now read is = rw is (λ count behind. inr (behind, read))

-- of its file no more than the front
line_most : (told : Told) (name : List ℕ) → most_in_line told name ≤ 1048576
line_most None name = omega arith
line_most (Some files) name = go (files name) where
  go : (o : Option (List ℕ)) → option_map_or (λ file. min (length file) 1048576) o 0 ≤ 1048576
  go None = omega arith
  go (Some file) = omega arith

lines_most : (told : Told) (names : List (List ℕ)) → sum_by (λ name. most_in_line told name) names ≤ length names * 1048576
lines_most told [] = omega arith
lines_most told (name ∷ names) = omega (arith, sum_by-cons (λ name. most_in_line told name) name names, line_most told name, lines_most told names)

-- of the files of so many lines no more than as many fronts
first_most : (told : Told) (count : ℕ) (names : List (List ℕ)) → most_in_first told count names ≤ count * 1048576
first_most told count names =
    let few : length (take count names) ≤ count = omega (arith, length-take count names) in
    omega (arith, lines_most told (take count names), few)

-- ---- A list.

-- the list itself is asked before each line of it, and each before those behind it
list_before : {F : Type 0} (told : Told) (name_of content : F → Option (List ℕ)) (name : List ℕ) (file : F) (size count : ℕ)
    → Finds told name_of content name (Some file) → HasSize (content file) size → most_of_size size ≤ most_before told name count
list_before None name_of content name file size count finds has = omega (arith, of_any size)
list_before (Some files) name_of content name file size count (b, there, named, holds) has =
    let is : most_before (Some files) name count ≡ most_of_size (length b) + most_of_first files count (list_of b) =
    ap (λ o. option_map_or (λ bytes. most_of_size (length bytes) + most_of_first files count (list_of bytes)) o 0) there in
    omega (arith, is, ap most_of_size (size_is content file size b has holds))

lines_before : {F : Type 0} (told told2 : Told) (name_of content : F → Option (List ℕ)) (name : List ℕ) (file : F) (size : ℕ) (names : List (List ℕ)) (count : ℕ)
    → Finds told name_of content name (Some file) → HasSize (content file) size → (bytes : List ℕ) × IsRead (content file) bytes × (list_of bytes ≡ Ok names) → told2 ≡ told
    → most_of_size size + most_in_first told2 count names ≤ most_before told name count
lines_before None told2 name_of content name file size names count finds has (bytes, is_read, l) same = omega (arith, of_any size, first_most told2 count names)
lines_before (Some files) told2 name_of content name file size names count (b, there, named, holds) has (bytes, is_read, l) same =
    let lists : list_of b ≡ Ok names = subst (λ t. list_of t ≡ Ok names) (same_bytes (content file) bytes b holds is_read) l in
    let is : most_before (Some files) name count ≡ most_of_size (length b) + most_of_first files count (list_of b) =
    ap (λ o. option_map_or (λ bytes. most_of_size (length bytes) + most_of_first files count (list_of bytes)) o 0) there in
    let first : most_of_first files count (list_of b) ≡ most_in_first (Some files) count names = ap (most_of_first files count) lists in
    omega (arith, is, first, ap most_of_size (size_is content file size b has holds), ap (λ t. most_in_first t count names) same)

pub with_list : {F : Type 0} (told told2 : Told) (name_of content : F → Option (List ℕ)) (name : List ℕ) (file : F) (size : ℕ) (names : List (List ℕ)) (start before now : ℕ) (cause : Cause)
    → Finds told name_of content name (Some file) → HasSize (content file) size → (bytes : List ℕ) × IsRead (content file) bytes × (list_of bytes ≡ Ok names) → told2 ≡ told
    → before ≤ start + most_of_size size → AsksLines told2 names cause before now → IsAskedBefore told name cause start now
with_list told told2 name_of content name file size names start before now cause finds has listed same asked lines =
    λ count behind. omega (arith, asked, lines count behind, lines_before told told2 name_of content name file size names count finds has listed same)

-- and no file of a line
pub list_alone : {F : Type 0} (told : Told) (name_of content : F → Option (List ℕ)) (name : List ℕ) (file : F) (size : ℕ) (cause : Cause) (before now : ℕ)
    → Finds told name_of content name (Some file) → HasSize (content file) size → now ≤ before + most_of_size size → IsAskedBefore told name cause before now
list_alone told name_of content name file size cause before now finds has asked =
    λ count behind. omega (arith, asked, list_before told name_of content name file size count finds has)

-- nor the list
pub nothing_asked : (told : Told) (name : List ℕ) (cause : Cause) (before now : ℕ) → now ≤ before → IsAskedBefore told name cause before now
nothing_asked told name cause before now none = λ count behind. omega (arith, none)

pub no_line : (told : Told) (name : List ℕ) (cause : Cause) (before now : ℕ) → NoLine cause → IsAskedBefore told name cause before now
no_line told name cause before now none = λ count behind. absurd (none count behind)

same_why : (a b : FileCause) → Some a ≡ Some b → a ≡ b
same_why a b is = cc is

of_file_cause : (why other : FileCause) (cause : Cause) → Some other ≡ Some why → cause ≡ Damaged why → NoLine (Damaged other) → NoLine cause
of_file_cause why other cause there is none = subst NoLine (ap Damaged (same_why other why there) ∙ sym is) none

join_refusal : (refusal : JoinRefusal) (why : FileCause) (cause : Cause) → join_cause refusal ≡ Some why → cause ≡ Damaged why → NoLine cause
join_refusal joins.NoRecord why cause there is = of_file_cause why NoRecord cause there is (λ count behind. behind)
join_refusal (joins.Differs line) why cause there is = of_file_cause why (Differs line) cause there is (λ count behind. behind)
join_refusal joins.TooManyRecords why cause there is = of_file_cause why TooManyRecords cause there is (λ count behind. behind)
join_refusal joins.Memory why cause there is = cc there

pub not_together : {F : Type 0} (told : Told) (content : F → Option (List ℕ)) (size_of : F → ℕ) (names : List (List ℕ)) (headers : List FileHeader) (fs : List F) (name : List ℕ) (cause : Cause) → Lines told content size_of names headers fs
    → ((ms : List Member) → AreHeadersOf headers ms → AreJoined name ms (Err cause)) → NoLine cause
not_together told content size_of names headers fs name cause (ms, members, are, files) is =
    let (refusal, why, first, there, e) = is ms are in
    join_refusal refusal why cause there e

-- ---- Up to a line that is bad.

-- a list has its names
names_of : (o : Option (List ℕ)) (a b : List ℕ) (ns ms : List (List ℕ)) → o ≡ Some a → o ≡ Some b → list_of a ≡ Ok ns → list_of b ≡ Ok ms → ns ≡ ms
names_of o a b ns ms one other lists also =
    let alike : a ≡ b = cc (one, other) in
    let again : list_of b ≡ Ok ns = subst (λ t. list_of t ≡ Ok ns) alike lists in
    cc (again, also)

of_names : {F : Type 0} (told told2 : Told) (name_of content : F → Option (List ℕ)) (name : List ℕ) (file : F) (names : List (List ℕ)) (line : ℕ)
    → Finds told name_of content name (Some file) → (bytes : List ℕ) × IsRead (content file) bytes × (list_of bytes ≡ Ok names) → told2 ≡ told → IsBadLine told name line → IsBadAmong told2 names line
of_names None told2 name_of content name file names line finds listed same bad = absurd bad
of_names (Some files) told2 name_of content name file names line (b, there, named, holds) (bytes, is_read, l) same (own, others, found, lists, bad) =
    let one : list_of b ≡ Ok names = subst (λ t. list_of t ≡ Ok names) (same_bytes (content file) bytes b holds is_read) l in
    let is : others ≡ names = names_of (files name) own b others names found there lists one in
    subst (λ t. IsBadAmong t names line) (sym same) (subst (λ ns. IsBadAmong (Some files) ns line) is bad)

pub lines_to_bad : {F : Type 0} (told told2 : Told) (name_of content : F → Option (List ℕ)) (name : List ℕ) (file : F) (size : ℕ) (names : List (List ℕ)) (start before now : ℕ)
    → Finds told name_of content name (Some file) → HasSize (content file) size → (bytes : List ℕ) × IsRead (content file) bytes × (list_of bytes ≡ Ok names) → told2 ≡ told
    → before ≤ start + most_of_size size → AsksToBad told2 names before now → IsWithinBadLine told name start now
lines_to_bad told told2 name_of content name file size names start before now finds has listed same asked lines =
    λ line bad. omega (arith, asked, lines line (of_names told told2 name_of content name file names line finds listed same bad), lines_before told told2 name_of content name file size names line finds has listed same)

pub list_to_bad : {F : Type 0} (told : Told) (name_of content : F → Option (List ℕ)) (name : List ℕ) (file : F) (size : ℕ) (before now : ℕ)
    → Finds told name_of content name (Some file) → HasSize (content file) size → now ≤ before + most_of_size size → IsWithinBadLine told name before now
list_to_bad told name_of content name file size before now finds has asked =
    λ line bad. omega (arith, asked, list_before told name_of content name file size line finds has)

pub nothing_to_bad : (told : Told) (name : List ℕ) (before now : ℕ) → now ≤ before → IsWithinBadLine told name before now
nothing_to_bad told name before now none = λ line bad. omega (arith, none)

-- ---- What a query leaves.

pub left_asked : {V : Type 0} (told : Told) (name : List ℕ) (next : Stored → Result Text Cause → Type 0) (stored : List (List ℕ) → Stored) (r : Result V Stop) (before now : ℕ) → ((s : Stored) (cause : Cause) → next s (Err cause) → NoLine cause)
    → IfErr r (WhereRefused (λ why. (files : List (List ℕ)) → next (stored files) (Err why))) → IfErr r (WhereRefused (λ why. IsAskedBefore told name why before now))
left_asked told name next stored (Ok v) before now none is = tt
left_asked told name next stored (Err (Refused why)) before now none is = no_line told name why before now (none (stored []) why (is []))
left_asked told name next stored (Err ShelfFault) before now none is = tt
left_asked told name next stored (Err Memory) before now none is = tt

-- ---- The answer.

pub text_refuses : {F : Type 0} (P : Cause → Type 0) (k : Kind) (r : Result (List ℕ) Stop) (p : Prepared F) → p ≡ text_prepared k r → IfErr r (WhereRefused P) → WhereRefuse p P
text_refuses P k (Ok text) p is refuses = rw is tt
text_refuses P k (Err (Refused why)) p is refuses = rw is refuses
text_refuses P k (Err ShelfFault) p is refuses = rw is tt
text_refuses P k (Err Memory) p is refuses = rw is tt

pub join_refuses : {F : Type 0} (P : Cause → Type 0) (r : Result (JoinBody × List F) Stop) (p : Prepared F) → p ≡ join_prepared r → IfErr r (WhereRefused P) → WhereRefuse p P
join_refuses P (Ok (b, files)) p is refuses = rw is tt
join_refuses P (Err (Refused why)) p is refuses = rw is refuses
join_refuses P (Err ShelfFault) p is refuses = rw is tt
join_refuses P (Err Memory) p is refuses = rw is tt
