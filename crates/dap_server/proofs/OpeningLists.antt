-- From what a shelf said of a list and of the files that it names to what the list has.
use Rattle.std.proofs.Common.{◌≡◌, ◌≢◌, ℕ, ◌+◌, ◌*◌, ◌≤◌, ◌<◌, Bool, true, false, cond, List, [], ◌∷◌, length, Option, Some, None, Result, Ok, Err, refl, sym, ap, ◌∙◌, subst, inl, inr, arith}
use Rattle.std.specs.Prelude.{min, nat_lt, option_map, replicate}
use Rattle.std.specs.Option.{option_and_then, option_map_or}
use Rattle.std.proofs.lemmas.Bool.Decides.{nat_tests}
use Rattle.std.proofs.lemmas.List.{length-replicate}
use Rattle.dap_errors.specs.declared.cause.Cause.{Cause}
use Rattle.dap_errors.specs.declared.cause.Cause.TheVariants.{Damaged, NoFile}
use Rattle.dap_errors.specs.declared.file_cause.FileCause.TheVariants.{BadLine, Differs, JoinTooLong, NoRecord, TooManyRecords}
use Rattle.dap_outside.specs.Files.{Told, Finds, HasSize}
use Rattle.netcdf_source.specs.File.{FileHeader}
use Rattle.join_source.specs.Joins.{headers_in, name_in}
use Rattle.join_source.specs.Lists.{list_of}
use Rattle.join_source.specs.Members.{CanJoin, contents_of}
use Rattle.join_source.specs.declared.joined.Joined.{Joined}
use Rattle.join_source.specs.Causes.{IsCause}
use Rattle.join_source.specs.declared.refusal.JoinRefusal.{JoinRefusal}
use Rattle.join_source.specs.declared.refusal.JoinRefusal.TheVariants as joins
use Rattle.join_source.specs.declared.refusal.ListRefusal.{ListRefusal}
use Rattle.join_source.specs.declared.refusal.ListRefusal.TheVariants as lists
use Rattle.dap_server.proofs.ListNames.{GoodNames, good-names}
use Rattle.dap_server.proofs.Lying.{same_bytes}
use Rattle.dap_types.specs.Limits.{most_header}
use Rattle.dap_server.specs.Costs.{lines_in, lines_of, most_first, most_of_file, most_of_form, most_of_joined, most_of_lines, most_of_names}
use Rattle.dap_server.specs.Files.{Files, Form, MayHave, Stored, form_of, joined}
use Rattle.dap_server.specs.Joins.{AreJoined, IsJoined, Lists, Member, Members, contents_in, join_cause, list_cause}
use Rattle.dap_server.specs.Results.{File, OpensAmong}
use Rattle.dap_server.specs.Steps.{found_or}
use Rattle.dap_server.specs.inner.Joining.{IsJoinOf, MayOpenWithin, most_of_size}
use Rattle.dap_server.specs.inner.Members.{AreFilesOf, AreHeadersOf, most_in_lines}
use Rattle.dap_server.specs.inner.Opening.{IsMissing, IsRead, WhereRefused, stop_of}
use Rattle.dap_server.specs.declared.no_answer.Stop.{Stop}
use Rattle.dap_server.specs.declared.no_answer.Stop.TheVariants.{Refused, ShelfFault, Memory}

abbrev pub list_file : List ℕ → File
list_file bytes = record { form = joined; bytes = bytes }

abbrev pub named_by : Option (List ℕ) → Option Form → Option File
named_by found form = option_and_then (λ f. option_map (λ bytes. record { form = f; bytes = bytes }) found) form

-- what a list has is what is opened
pub list_opens : (told : Told) (files : Files) (name bytes : List ℕ) (r : Result Stored Cause) → form_of name ≡ Some joined → files name ≡ Some bytes → IsJoined told name bytes r → OpensAmong told files name r
list_opens told files name bytes r form there stored =
    inl (list_file bytes, sym (ap (λ o. found_or o NoFile) (ap (named_by (files name)) form ∙ ap (λ f. named_by f (Some joined)) there)), stored)

has_list : {F : Type 0} (told : Told) (name_of content : F → Option (List ℕ)) (name : List ℕ) (file : F) (bytes : List ℕ) → Finds told name_of content name (Some file) → IsRead (content file) bytes
    → (files : Files) × MayHave told files × (files name ≡ Some bytes)
has_list None name_of content name file bytes finds is_read = ((λ n. Some bytes), tt, refl)
has_list (Some files) name_of content name file bytes (b, there, named, holds) is_read = (files, refl, there ∙ ap Some (sym (same_bytes (content file) bytes b holds is_read)))

-- ---- Why none was opened, and what was asked till then.

-- the lines of the list that was found
pub found_lines : (files : Files) (name bytes : List ℕ) (names : Result (List (List ℕ)) ListRefusal) → files name ≡ Some bytes → list_of bytes ≡ names → lines_in files name ≡ lines_of names
found_lines files name bytes names there l = ap (λ o. option_map_or (λ b. lines_of (list_of b)) o 0) there ∙ ap lines_of l

no_list : (told : Told) (name : List ℕ) (before now : ℕ) → form_of name ≡ Some joined → now ≤ before → IsMissing told name → MayOpenWithin told name before now (Err NoFile)
no_list None name before now form asked is =
    ((λ n. None), tt, inr (NoFile, sym (ap (λ o. found_or o NoFile) (ap (named_by None) form)), refl), omega (arith, asked))
no_list (Some files) name before now form asked is =
    (files, refl, inr (NoFile, sym (ap (λ o. found_or o NoFile) (ap (named_by (files name)) form ∙ ap (λ f. named_by f (Some joined)) is)), refl), omega (arith, asked))

pub missing_list : (told : Told) (name : List ℕ) (before now : ℕ) (s : Stop) → form_of name ≡ Some joined → now ≤ before → WhereRefused (λ cause. (cause ≡ NoFile) × IsMissing told name) s
    → WhereRefused (λ cause. MayOpenWithin told name before now (Err cause)) s
missing_list told name before now (Refused cause) form asked (is, m) = rw is (no_list told name before now form asked m)
missing_list told name before now ShelfFault form asked x = tt
missing_list told name before now Memory form asked x = tt

-- a list that is opened stops so, behind what was found of it
pub list_stops : {F : Type 0} (told : Told) (name_of content : F → Option (List ℕ)) (name : List ℕ) (file : F) (before now : ℕ) (P : Cause → List ℕ → Type 0) (s : Stop) → form_of name ≡ Some joined
    → Finds told name_of content name (Some file) → ((cause : Cause) (bytes : List ℕ) → P cause bytes → IsJoined told name bytes (Err cause))
    → ((cause : Cause) (bytes : List ℕ) → P cause bytes → now ≤ before + most_of_joined (lines_of (list_of bytes)))
    → WhereRefused (λ cause. (bytes : List ℕ) × IsRead (content file) bytes × P cause bytes) s → WhereRefused (λ cause. MayOpenWithin told name before now (Err cause)) s
list_stops told name_of content name file before now P (Refused cause) form finds stored asked (bytes, is_read, is) =
    let (files, may, there) = has_list told name_of content name file bytes finds is_read in (
      files,
      may,
      list_opens told files name bytes (Err cause) form there (stored cause bytes is),
      omega (arith, asked cause bytes is, found_lines files name bytes (list_of bytes) there refl),
    )
list_stops told name_of content name file before now P ShelfFault form finds stored asked x = tt
list_stops told name_of content name file before now P Memory form finds stored asked x = tt

pub not_listed : {F : Type 0} (told : Told) (name_of content : F → Option (List ℕ)) (name : List ℕ) (file : F) (before now : ℕ) (s : Stop) → form_of name ≡ Some joined → Finds told name_of content name (Some file)
    → now ≤ before + 65536 → WhereRefused (λ cause. (bytes : List ℕ) × IsRead (content file) bytes × Lists bytes (Err cause)) s → WhereRefused (λ cause. MayOpenWithin told name before now (Err cause)) s
not_listed told name_of content name file before now s form finds asked is =
    list_stops told name_of content name file before now (λ cause bytes. Lists bytes (Err cause)) s form finds (λ cause bytes l. inr (cause, l, refl)) (λ cause bytes l. omega (arith, asked)) is

-- the names of a list, of which something is refused
abbrev WithNames : (Cause → Type 0) → List (List ℕ) → Cause → List ℕ → Type 0
WithNames P names cause bytes = (list_of bytes ≡ Ok names) × P cause

with_names : {F : Type 0} (content : F → Option (List ℕ)) (file : F) (names : List (List ℕ)) (P : Cause → Type 0) (s : Stop) → (bytes : List ℕ) × IsRead (content file) bytes × (list_of bytes ≡ Ok names)
    → WhereRefused P s → WhereRefused (λ cause. (bytes : List ℕ) × IsRead (content file) bytes × WithNames P names cause bytes) s
with_names content file names P (Refused cause) (bytes, is_read, l) is = (bytes, is_read, (l, is))
with_names content file names P ShelfFault l is = tt
with_names content file names P Memory l is = tt

asked_names : (names : List (List ℕ)) (bytes : List ℕ) (before now : ℕ) → list_of bytes ≡ Ok names → now ≤ before + most_of_joined (length names) → now ≤ before + most_of_joined (lines_of (list_of bytes))
asked_names names bytes before now l asked = omega (arith, asked, ap lines_of l)

pub bad_line : {F : Type 0} (told told2 : Told) (name_of content : F → Option (List ℕ)) (name : List ℕ) (file : F) (names : List (List ℕ)) (before now : ℕ) (s : Stop) → form_of name ≡ Some joined
    → Finds told name_of content name (Some file) → (bytes : List ℕ) × IsRead (content file) bytes × (list_of bytes ≡ Ok names) → told2 ≡ told → now ≤ before + most_of_joined (length names)
    → WhereRefused (λ cause. Members told2 1 names (Err cause)) s → WhereRefused (λ cause. MayOpenWithin told name before now (Err cause)) s
bad_line told told2 name_of content name file names before now s form finds l same asked is =
    list_stops told name_of content name file before now (WithNames (λ cause. Members told 1 names (Err cause)) names) s form finds (λ cause bytes (l, m). inl (names, l, inr (cause, m, refl)))
    (λ cause bytes (l, m). asked_names names bytes before now l asked)
    (with_names content file names (λ cause. Members told 1 names (Err cause)) s l (subst (λ t. WhereRefused (λ cause. Members t 1 names (Err cause)) s) same is))

-- what was opened of the lines
abbrev pub Lines : {F : Type 0} → Told → (F → Option (List ℕ)) → (F → ℕ) → List (List ℕ) → List FileHeader → List F → Type 0
Lines told content size_of names headers fs = (ms : List Member) × Members told 1 names (Ok ms) × AreHeadersOf headers ms × AreFilesOf told content size_of fs ms

not_joined-by : (told : Told) (name : List ℕ) (names : List (List ℕ)) (ms : List Member) (headers : List FileHeader) (s : Stop) → Members told 1 names (Ok ms) → AreHeadersOf headers ms
    → WhereRefused (λ cause. (ms : List Member) → AreHeadersOf headers ms → AreJoined name ms (Err cause)) s
    → WhereRefused (λ cause. (ms : List Member) × Members told 1 names (Ok ms) × AreJoined name ms (Err cause)) s
not_joined-by told name names ms headers (Refused cause) members are is = (ms, members, is ms are)
not_joined-by told name names ms headers ShelfFault members are is = tt
not_joined-by told name names ms headers Memory members are is = tt

pub not_joined : {F : Type 0} (told told2 : Told) (name_of content content3 : F → Option (List ℕ)) (size3 : F → ℕ) (name : List ℕ) (file : F) (names : List (List ℕ)) (headers : List FileHeader) (fs : List F) (before now : ℕ) (s : Stop)
    → form_of name ≡ Some joined → Finds told name_of content name (Some file) → (bytes : List ℕ) × IsRead (content file) bytes × (list_of bytes ≡ Ok names) → told2 ≡ told → now ≤ before + most_of_joined (length names)
    → Lines told2 content3 size3 names headers fs → WhereRefused (λ cause. (ms : List Member) → AreHeadersOf headers ms → AreJoined name ms (Err cause)) s
    → WhereRefused (λ cause. MayOpenWithin told name before now (Err cause)) s
not_joined told told2 name_of content content3 size3 name file names headers fs before now s form finds l same asked (ms, members, are, files) is =
    list_stops told name_of content name file before now (WithNames (λ cause. (ms : List Member) × Members told 1 names (Ok ms) × AreJoined name ms (Err cause)) names) s form finds
    (λ cause bytes (l, (ms, m, j)). inl (names, l, inl (ms, m, j))) (λ cause bytes (l, j). asked_names names bytes before now l asked)
    (with_names content file names (λ cause. (ms : List Member) × Members told 1 names (Ok ms) × AreJoined name ms (Err cause)) s l
    (not_joined-by told name names ms headers s (subst (λ t. Members t 1 names (Ok ms)) same members) are is))

-- ---- What was opened.

pub same_contents : (headers : List FileHeader) (ms : List Member) → AreHeadersOf headers ms → contents_of headers ≡ contents_in ms
same_contents [] [] is = refl
same_contents [] (m ∷ ms) is = absurd is
same_contents (h ∷ headers) [] is = absurd is
same_contents (h ∷ headers) (m ∷ ms) (own, others) = ap (λ c. c ∷ contents_of headers) own.0 ∙ ap (λ cs. m.contents ∷ cs) (same_contents headers ms others)

pub opened : {F : Type 0} (told told2 : Told) (name_of content content3 : F → Option (List ℕ)) (size3 : F → ℕ) (name : List ℕ) (file : F) (names : List (List ℕ)) (headers : List FileHeader) (fs : List F) (j : Joined)
    → Finds told name_of content name (Some file) → (bytes : List ℕ) × IsRead (content file) bytes × (list_of bytes ≡ Ok names) → told2 ≡ told
    → Lines told2 content3 size3 names headers fs → headers_in j ≡ headers → name_in j ≡ name → CanJoin (contents_of headers) → IsJoinOf told content3 size3 name j fs
opened told told2 name_of content content3 size3 name file names headers fs j finds (bytes, is_read, l) same (ms, members, are, are_files) same_headers named can =
    let (files, may, there) = has_list told name_of content name file bytes finds is_read in
    record {
      files = files;
      may_have = may;
      bytes = bytes;
      there = there;
      names = names;
      lists = l;
      ms = ms;
      members = subst (λ t. Members t 1 names (Ok ms)) same members;
      can_join = subst CanJoin (same_contents headers ms are) can;
      headers = subst (λ hs. AreHeadersOf hs ms) (sym same_headers) are;
      are_files = subst (λ t. AreFilesOf t content3 size3 fs ms) same are_files;
      named = named;
    }

-- ---- How many there are.

abbrev pub ok-of : List Member → Result (List Member) Cause
ok-of ms = Ok ms

pub ok-same : (a b : List Member) → ok-of a ≡ ok-of b → a ≡ b
ok-same a b is = cc is

members_long : (told : Told) (line : ℕ) (names : List (List ℕ)) (ms : List Member) → Members told line names (Ok ms) → length ms ≡ length names
members_long told line [] ms is = ap length (ok-same ms [] is)
members_long told line (name ∷ names) ms (inr (cause, is, bad)) = cc bad
members_long told line (name ∷ names) ms (inl (m, is, inr (cause, rest, bad))) = cc bad
members_long told line (name ∷ names) ms (inl (m, is, inl (others, rest, all))) = omega (arith, ap length (ok-same ms (m ∷ others) all), members_long told (line + 1) names others rest)

headers_long : (headers : List FileHeader) (ms : List Member) → AreHeadersOf headers ms → length headers ≡ length ms
headers_long [] [] are = refl
headers_long [] (m ∷ ms) are = absurd are
headers_long (h ∷ headers) [] are = absurd are
headers_long (h ∷ headers) (m ∷ ms) (own, others) = omega (arith, headers_long headers ms others)

files_long : {F : Type 0} (told : Told) (content : F → Option (List ℕ)) (size_of : F → ℕ) (fs : List F) (ms : List Member) → AreFilesOf told content size_of fs ms → length fs ≡ length ms
files_long told content size_of [] [] are = refl
files_long told content size_of [] (m ∷ ms) are = absurd are
files_long told content size_of (f ∷ fs) [] are = absurd are
files_long told content size_of (f ∷ fs) (m ∷ ms) (own, others) = omega (arith, files_long told content size_of fs ms others)

pub list_names : (content : Option (List ℕ)) (names : List (List ℕ)) → (bytes : List ℕ) × IsRead content bytes × (list_of bytes ≡ Ok names) → GoodNames names
list_names content names (bytes, is_read, l) = good-names bytes names l

pub some_headers : {F : Type 0} (told : Told) (content : F → Option (List ℕ)) (size_of : F → ℕ) (names : List (List ℕ)) (headers : List FileHeader) (fs : List F) → GoodNames names → Lines told content size_of names headers fs
    → (1 ≤ length headers) × (length headers ≤ 64)
some_headers told content size_of names headers fs good (ms, members, are, files) =
    let own = members_long told 1 names ms members in
    let all = headers_long headers ms are in
    (omega (arith, own, all, good.some), omega (arith, own, all, good.few))

-- ---- What was asked.

-- a list that is too large is none
too_long : (bytes : List ℕ) → 65536 < length bytes → list_of bytes ≡ Err lists.TooLong
unfolding list_of
too_long bytes large =
    let test : nat_lt 65536 (length bytes) ≡ true = grind (arith, nat_tests) in
    rw test refl

in_bytes : (content : Option (List ℕ)) (bytes : List ℕ) (s : Stop) → 65536 < length bytes → IsRead content bytes → s ≡ Refused (Damaged JoinTooLong)
    → WhereRefused (λ cause. (bytes : List ℕ) × IsRead content bytes × Lists bytes (Err cause)) s
in_bytes content bytes s large is_read is = rw is (bytes, is_read, (lists.TooLong, JoinTooLong, too_long bytes large, refl, refl))

pub too_large : (content : Option (List ℕ)) (size : ℕ) (s : Stop) → HasSize content size → 65536 < size → s ≡ Refused (Damaged JoinTooLong)
    → WhereRefused (λ cause. (bytes : List ℕ) × IsRead content bytes × Lists bytes (Err cause)) s
too_large None size s has large is = in_bytes None (replicate size 0) s (omega (arith, length-replicate {A = ℕ} size 0, large)) tt is
too_large (Some told) size s has large is = in_bytes (Some told) told s (omega (arith, has, large)) refl is

pub of_small : (size : ℕ) → size ≤ 65536 → most_of_size size ≡ size
of_small size small =
    let test : nat_lt 65536 size ≡ false = grind (arith, nat_tests) in
    rw test refl

pub of_any : (size : ℕ) → most_of_size size ≤ 65536
of_any size = go (nat_lt 65536 size) refl where
  go : (b : Bool) → nat_lt 65536 size ≡ b → cond b 0 size ≤ 65536
  go true is = omega arith
  go false is = grind (arith, nat_tests, is)

-- the list itself, and its lines
told_first : (files : Files) (name bytes : List ℕ) → form_of name ≡ Some joined → files name ≡ Some bytes → most_first (Some files) name ≡ most_of_size (length bytes) + most_of_lines files (list_of bytes)
told_first files name bytes form there =
    ap (λ o. option_map_or (most_of_file files o) (files name) 0) form ∙ ap (λ o. option_map_or (most_of_file files (Some joined)) o 0) there

pub untold_first : (name : List ℕ) → form_of name ≡ Some joined → most_first None name ≡ 65536 + 64 * 1048576
untold_first name form = ap most_of_form form

pub size_is : {F : Type 0} (content : F → Option (List ℕ)) (file : F) (size : ℕ) (b : List ℕ) → HasSize (content file) size → content file ≡ Some b → size ≡ length b
size_is content file size b has holds = (rw holds at has)

pub list_first : {F : Type 0} (told : Told) (name_of content : F → Option (List ℕ)) (name : List ℕ) (file : F) (size : ℕ) → form_of name ≡ Some joined → Finds told name_of content name (Some file) → HasSize (content file) size
    → most_of_size size ≤ most_first told name
list_first None name_of content name file size form finds has = omega (arith, of_any size, untold_first name form)
list_first (Some files) name_of content name file size form (b, there, named, holds) has =
    omega (arith, ap most_of_size (size_is content file size b has holds), told_first files name b form there)

pub lines_first : {F : Type 0} (told told2 : Told) (name_of content : F → Option (List ℕ)) (name : List ℕ) (file : F) (size : ℕ) (names : List (List ℕ)) → form_of name ≡ Some joined
    → Finds told name_of content name (Some file) → HasSize (content file) size → (bytes : List ℕ) × IsRead (content file) bytes × (list_of bytes ≡ Ok names) → told2 ≡ told
    → most_of_size size + most_in_lines told2 names ≤ most_first told name
lines_first None told2 name_of content name file size names form finds has (bytes, is_read, l) same =
    let good = good-names bytes names l in
    omega (arith, of_any size, good.few, untold_first name form, ap (λ t. most_in_lines t names) same)
lines_first (Some files) told2 name_of content name file size names form (b, there, named, holds) has (bytes, is_read, l) same =
    let is : list_of b ≡ Ok names = subst (λ t. list_of t ≡ Ok names) (same_bytes (content file) bytes b holds is_read) l in
    omega (arith, ap most_of_size (size_is content file size b has holds), told_first files name b form there, ap (most_of_lines files) is, ap (λ t. most_in_lines t names) same)

-- of each line no more than the front of its file
name_within : (o : Option (List ℕ)) (rest count : ℕ) → rest ≤ count * 1048576 → option_map_or (λ file. min (length file) most_header + rest) o 0 ≤ (count + 1) * 1048576
name_within None rest count is = omega arith
name_within (Some file) rest count is = omega (arith, is)

names_within : (files : Files) (names : List (List ℕ)) → most_of_names files names ≤ length names * 1048576
names_within files [] = omega arith
names_within files (name ∷ names) = omega (arith, name_within (files name) (most_of_names files names) (length names) (names_within files names))

-- of a list and of the files that it names, where they are told
pub list_within : (files : Files) (name : List ℕ) → form_of name ≡ Some joined → most_first (Some files) name ≤ most_of_joined (lines_in files name)
list_within files name form = go (files name) refl where
  none_found : files name ≡ None → most_first (Some files) name ≡ 0
  none_found is = ap (λ o. option_map_or (most_of_file files (form_of name)) o 0) is

  within : (names : Result (List (List ℕ)) ListRefusal) → most_of_lines files names ≤ lines_of names * 1048576
  within (Ok names) = names_within files names
  within (Err refusal) = omega arith

  go : (o : Option (List ℕ)) → files name ≡ o → most_first (Some files) name ≤ most_of_joined (lines_in files name)
  go None is = omega (arith, none_found is)
  go (Some bytes) is =
      omega (arith, told_first files name bytes form is, of_any (length bytes), within (list_of bytes), found_lines files name bytes (list_of bytes) is refl)

lines_within : (told : Told) (names : List (List ℕ)) → most_in_lines told names ≤ length names * 1048576
lines_within None names = omega arith
lines_within (Some files) names = names_within files names

-- the list itself, and the front of each file that it joins
pub joined_within : {F : Type 0} (told : Told) (content : F → Option (List ℕ)) (size_of : F → ℕ) (names : List (List ℕ)) (headers : List FileHeader) (fs : List F) (size : ℕ) → Lines told content size_of names headers fs
    → most_of_size size + most_in_lines told names ≤ most_of_joined (length fs)
joined_within told content size_of names headers fs size (ms, members, are, files) =
    omega (arith, of_any size, lines_within told names, members_long told 1 names ms members, files_long told content size_of fs ms files)

-- the list and the front of each file that a line of it has
pub names_asked : (told : Told) (names : List (List ℕ)) (size : ℕ) → most_of_size size + most_in_lines told names ≤ most_of_joined (length names)
names_asked told names size = omega (arith, of_any size, lines_within told names)

-- as many files are joined as the list has lines
pub join_lines : {F : Type 0} (told : Told) (content : F → Option (List ℕ)) (size_of : F → ℕ) (name : List ℕ) (j : Joined) (fs : List F) (is : IsJoinOf told content size_of name j fs) → lines_in is.files name ≡ length fs
join_lines told content size_of name j fs is =
    found_lines is.files name is.bytes (Ok is.names) is.there is.lists ∙ sym (members_long told 1 is.names is.ms is.members) ∙ sym (files_long told content size_of fs is.ms is.are_files)

-- ---- The stops of refusals.

pub list_refused : (bytes : List ℕ) (refusal : ListRefusal) (s : Stop) → (refusal ≢ lists.Memory → list_of bytes ≡ Err refusal) → s ≡ stop_of (list_cause refusal) → WhereRefused (λ cause. Lists bytes (Err cause)) s
list_refused bytes lists.TooLong s l is = rw is (lists.TooLong, JoinTooLong, l (λ e. cc e), refl, refl)
list_refused bytes (lists.BadLine line) s l is = rw is (lists.BadLine line, BadLine line, l (λ e. cc e), refl, refl)
list_refused bytes lists.Memory s l is = rw is tt

pub join_refused : (name : List ℕ) (headers : List FileHeader) (refusal : JoinRefusal) (s : Stop) → IsCause (contents_of headers) refusal → s ≡ stop_of (join_cause refusal)
    → WhereRefused (λ cause. (ms : List Member) → AreHeadersOf headers ms → AreJoined name ms (Err cause)) s
join_refused name headers joins.NoRecord s cause is = rw is (λ ms are. (joins.NoRecord, NoRecord, subst (λ cs. IsCause cs joins.NoRecord) (same_contents headers ms are) cause, refl, refl))
join_refused name headers (joins.Differs line) s cause is = rw is (λ ms are. (joins.Differs line, Differs line, subst (λ cs. IsCause cs (joins.Differs line)) (same_contents headers ms are) cause, refl, refl))
join_refused name headers joins.TooManyRecords s cause is =
    rw is (λ ms are. (joins.TooManyRecords, TooManyRecords, subst (λ cs. IsCause cs joins.TooManyRecords) (same_contents headers ms are) cause, refl, refl))
join_refused name headers joins.Memory s cause is = rw is tt
