-- What answering a target may ask of a shelf (this project's).
use Rattle.std.specs.Prelude.{◌≡◌, ℕ, ◌+◌, ◌*◌, ◌≤◌, Bool, true, false, ◌&&◌, List, [], ◌∷◌, ◌++◌, drop, length, min, nat_lt, sum_by, take, if◌then◌else◌, codes, is_some, Option, Some, None, Result, Ok, Err}
use Rattle.std.specs.Option.{option_map_or}
use Rattle.dap_types.specs.Limits.{most_header, most_lines, most_piece, most_saved, most_table}
use Rattle.dap_outside.specs.Files.{Told}
use Rattle.dap_errors.specs.declared.cause.Cause.{Cause}
use Rattle.dap_errors.specs.declared.cause.Cause.TheVariants.{Damaged, NoFile}
use Rattle.dap_errors.specs.declared.file_cause.FileCause.TheVariants.{BadLine, BadMember, JoinTooLong, NoMember}
use Rattle.dap_model.specs.Dds.{dds}
use Rattle.dap_model.specs.Filter.{Marks, constrained}
use Rattle.netcdf_source.specs.Header.{IsHeader}
use Rattle.netcdf_source.specs.Mapping.{dataset_of}
use Rattle.netcdf_source.specs.declared.header.Contents.{Contents}
use Rattle.constraint_parse.specs.Values.{Spells}
use Rattle.constraint_parse.specs.declared.constraint.Constraint.{Constraint}
use Rattle.grid_projection.specs.Marks.{marks}
use Rattle.xdr_encode.specs.Asked.{MarksAsk}
use Rattle.xdr_encode.specs.Costs.{marks_cost}
use Rattle.dap_http.specs.Targets.{Asked}
use Rattle.dap_http.specs.declared.kind.Kind.{Kind}
use Rattle.dap_http.specs.declared.kind.Kind.TheVariants.{Dds, Das, Dods, Ver}
use Rattle.join_source.specs.Asked.{JoinedAsk}
use Rattle.join_source.specs.Costs.{joined_cost}
use Rattle.join_source.specs.Lists.{list_of}
use Rattle.join_source.specs.Members.{CanJoin, joined_dataset}
use Rattle.join_source.specs.declared.refusal.ListRefusal.{ListRefusal}
use Rattle.dap_server.specs.Files.{Files, Form, MayHave, form_of, front, joined, netcdf, saved, table}
use Rattle.dap_server.specs.Joins.{IsMember, Member, Members, bytes_in, contents_in}

-- the version is no file's
abbrev pub is_of_file : Kind → Bool
is_of_file Ver = false
is_of_file Dds = true
is_of_file Das = true
is_of_file Dods = true

-- a file is looked for: of a kind that has one, under a name that says how it is read
abbrev pub asks_shelf : Asked → Bool
asks_shelf a = is_of_file a.kind && is_some (form_of a.name)

-- of so many files that are joined: their list, and the front of each
abbrev pub most_of_joined : ℕ → ℕ
most_of_joined count = most_piece + count * most_header

-- the lines of a list, none of one that is refused
abbrev pub lines_of : Result (List (List ℕ)) ListRefusal → ℕ
lines_of (Ok names) = length names
lines_of (Err refusal) = 0

-- the lines of the list of a name, none where no file has it
abbrev pub lines_in : Files → List ℕ → ℕ
lines_in files name = option_map_or (λ bytes. lines_of (list_of bytes)) (files name) 0

-- of this list and of the front of a file for each of its lines no more was asked than there is at most
abbrev pub IsWithinLines : Files → List ℕ → ℕ → ℕ → Type 0
IsWithinLines files name before now = now ≤ before + most_of_joined (lines_in files name)

-- no more was asked than for a list of that name that the shelf may have: where it tells its files, for the one that it has
abbrev pub IsWithinAList : Told → List ℕ → ℕ → ℕ → Type 0
IsWithinAList told name before now = (files : Files) × MayHave told files × IsWithinLines files name before now

-- where a list is refused by itself or by a line, so many lines' files were read: none, those before a line that
-- names none, and that of a line whose file has no header with them
abbrev pub IsBehindLines : Cause → ℕ → Type 0
IsBehindLines NoFile count = count ≡ 0
IsBehindLines (Damaged JoinTooLong) count = count ≡ 0
IsBehindLines (Damaged (BadLine line)) count = count ≡ 0
IsBehindLines (Damaged (NoMember line)) count = line ≡ count + 1
IsBehindLines (Damaged (BadMember line)) count = line ≡ count
IsBehindLines other count = ⊥

-- of the file of a name no more than its front
abbrev pub most_of_name : Files → List ℕ → ℕ
most_of_name files name = option_map_or (λ file. min (length file) most_header) (files name) 0

-- of the files of the first lines of a list, so many
abbrev pub most_of_first : Files → ℕ → Result (List (List ℕ)) ListRefusal → ℕ
most_of_first files count (Ok names) = sum_by (λ name. most_of_name files name) (take count names)
most_of_first files count (Err refusal) = 0

-- of the list of a name, which is not read where it is too long, and of the files of its first lines
abbrev pub most_before : Told → List ℕ → ℕ → ℕ
most_before None name count = most_of_joined count
most_before (Some files) name count =
    option_map_or (λ bytes. (if nat_lt most_piece (length bytes) then 0 else length bytes) + most_of_first files count (list_of bytes)) (files name) 0

-- then no more was asked than their list and the front of each: where the shelf tells its files, of those that it has
abbrev pub IsAskedBefore : Told → List ℕ → Cause → ℕ → ℕ → Type 0
IsAskedBefore told name cause before now = (count : ℕ) → IsBehindLines cause count → now ≤ before + most_before told name count

-- in files that are told, the line of some names with that number, from 1, names no file, or one without a header
abbrev pub IsBadAmong : Told → List (List ℕ) → ℕ → Type 0
IsBadAmong None names line = ⊥
IsBadAmong (Some files) names line =
    (before : ℕ) × (name : List ℕ) × (rest : List (List ℕ)) × (cause : Cause) × (line ≡ before + 1) × (drop before names ≡ name ∷ rest) × IsMember (Some files) line name (Err cause)

-- that line of the list of a name does
abbrev pub IsBadLine : Told → List ℕ → ℕ → Type 0
IsBadLine None name line = ⊥
IsBadLine (Some files) name line = (bytes : List ℕ) × (names : List (List ℕ)) × (files name ≡ Some bytes) × (list_of bytes ≡ Ok names) × IsBadAmong (Some files) names line

-- whatever comes of a list, no more was asked than its bytes and the front of each file up to a line that is bad, and
-- so up to the first
abbrev pub IsWithinBadLine : Told → List ℕ → ℕ → ℕ → Type 0
IsWithinBadLine told name before now = (line : ℕ) → IsBadLine told name line → now ≤ before + most_before told name line

-- the most that is read before an answer: the front of a netCDF file, another file whole, or a list and the
-- front of each file that it names
abbrev pub most_of_form : Option Form → ℕ
most_of_form (Some netcdf) = most_header
most_of_form (Some table) = most_table
most_of_form (Some saved) = most_saved
most_of_form (Some joined) = most_of_joined most_lines
most_of_form None = 0

-- of the files of some names in turn, up to the first name that no file has
abbrev pub most_of_names : Files → List (List ℕ) → ℕ
most_of_names files [] = 0
most_of_names files (name ∷ names) = option_map_or (λ file. min (length file) most_header + most_of_names files names) (files name) 0

abbrev pub most_of_lines : Files → Result (List (List ℕ)) ListRefusal → ℕ
most_of_lines files (Ok names) = most_of_names files names
most_of_lines files (Err refusal) = 0

-- of a list, which is not read where it is too long, and of the files that it names
abbrev pub most_of_list : Files → List ℕ → ℕ
most_of_list files bytes = (if nat_lt most_piece (length bytes) then 0 else length bytes) + most_of_lines files (list_of bytes)

-- of a file of that form
abbrev pub most_of_file : Files → Option Form → List ℕ → ℕ
most_of_file files (Some netcdf) bytes = min (length bytes) (most_of_form (Some netcdf))
most_of_file files (Some table) bytes = min (length bytes) (most_of_form (Some table))
most_of_file files (Some saved) bytes = min (length bytes) (most_of_form (Some saved))
most_of_file files (Some joined) bytes = most_of_list files bytes
most_of_file files None bytes = 0

-- of the file of a name: each byte once, where the files are told
abbrev pub most_first : Told → List ℕ → ℕ
most_first None name = most_of_form (form_of name)
most_first (Some files) name = option_map_or (most_of_file files (form_of name)) (files name) 0

-- What the shelf has of a name and a query: some bytes, that are a file with this header, and a constraint.
pub record IsFileAsked (told : Told) (name query : List ℕ) (bytes : List ℕ) (c : Contents) (constraint : Constraint) : Type 0 where
  pub files : Files
  pub may_have : MayHave told files
  pub there : files name ≡ Some bytes
  pub is_header : IsHeader c (front bytes) (length bytes)
  pub spells : Spells query constraint

-- The same of a list of files: it joins these, and there is a constraint.
pub record IsListAsked (told : Told) (name query : List ℕ) (ms : List Member) (constraint : Constraint) : Type 0 where
  pub files : Files
  pub may_have : MayHave told files
  pub bytes : List ℕ
  pub there : files name ≡ Some bytes
  pub names : List (List ℕ)
  pub lists : list_of bytes ≡ Ok names
  pub members : Members told 1 names (Ok ms)
  pub can_join : CanJoin (contents_in ms)
  pub spells : Spells query constraint

-- what a constraint marks of the dataset of a netCDF file
abbrev pub marks_of : Contents → List ℕ → Constraint → Marks
marks_of c name constraint = marks (dataset_of c name) constraint

-- of that of files that are joined
abbrev pub join_marks : List Contents → List ℕ → Constraint → Marks
join_marks cs name constraint = marks (joined_dataset cs name) constraint

-- the values that a data response has of netCDF files cost what its marks span. Nothing is asked for
-- those of a file that was read whole
abbrev pub IsFormCost : Option Form → Told → List ℕ → List ℕ → ℕ → Type 0
IsFormCost (Some netcdf) told name query cost =
    (bytes : List ℕ) × (c : Contents) × (constraint : Constraint) × IsFileAsked told name query bytes c constraint × (cost ≡ marks_cost c (marks_of c name constraint))
IsFormCost (Some table) told name query cost = cost ≡ 0
IsFormCost (Some saved) told name query cost = cost ≡ 0
IsFormCost (Some joined) told name query cost =
    (ms : List Member) × (constraint : Constraint) × IsListAsked told name query ms constraint × (cost ≡ joined_cost (contents_in ms) (join_marks (contents_in ms) name constraint))
IsFormCost None told name query cost = cost ≡ 0

abbrev pub IsCost : Told → Asked → ℕ → Type 0
IsCost told a cost = IsFormCost (form_of a.name) told a.name a.query cost

-- the bytes of a body before its values
abbrev pub head_len : Contents → List ℕ → Constraint → ℕ
head_len c name constraint = length (dds (constrained (marks_of c name constraint) (dataset_of c name)) ++ codes "Data:\n")

abbrev pub join_head_len : List Contents → List ℕ → Constraint → ℕ
join_head_len cs name constraint = length (dds (constrained (join_marks cs name constraint) (joined_dataset cs name)) ++ codes "Data:\n")

-- so many bytes may have been asked for the values where so many bytes of the body were put
abbrev pub IsFormCostAt : Option Form → Told → List ℕ → List ℕ → ℕ → ℕ → Type 0
IsFormCostAt (Some netcdf) told name query put cost =
    (bytes : List ℕ) × (c : Contents) × (constraint : Constraint) × IsFileAsked told name query bytes c constraint
    × MarksAsk c (marks_of c name constraint) bytes (head_len c name constraint) put cost
IsFormCostAt (Some table) told name query put cost = cost ≡ 0
IsFormCostAt (Some saved) told name query put cost = cost ≡ 0
IsFormCostAt (Some joined) told name query put cost =
    (ms : List Member) × (constraint : Constraint) × IsListAsked told name query ms constraint
    × JoinedAsk (contents_in ms) (join_marks (contents_in ms) name constraint) (bytes_in ms) (join_head_len (contents_in ms) name constraint) put cost
IsFormCostAt None told name query put cost = cost ≡ 0

abbrev pub IsCostAt : Told → Asked → ℕ → ℕ → Type 0
IsCostAt told a put cost = IsFormCostAt (form_of a.name) told a.name a.query put cost
