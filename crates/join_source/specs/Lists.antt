-- The list of the files that are joined (this project's): a name a line, each line ended by a line feed, which a
-- carriage return may stand before; the last one possibly by the end of the list. A carriage return alone ends no line:
-- one at the end of the list stays in its line, which is no name then.
use Rattle.std.specs.Prelude.{ℕ, ◌+◌, List, [], ◌∷◌, ◌++◌, ◌&&◌, ◌-◌, length, nat_eq, nat_lt, take, ◌==◌, if◌then◌else◌, Result, Ok, Err}
use Rattle.std.specs.List.{ends_with}
use Rattle.dap_types.specs.Limits.{most_lines, most_piece}
use Rattle.join_source.specs.Names.{is_member_name}
use Rattle.join_source.specs.declared.refusal.ListRefusal.{ListRefusal}
use Rattle.join_source.specs.declared.refusal.ListRefusal.TheVariants.{TooLong, BadLine}

-- without the carriage return at its end, if it has one there
abbrev pub without_return : List ℕ → List ℕ
without_return line = if ends_with nat_eq line (13 ∷ []) then take (length line - 1) line else line

-- the lines of some bytes behind the beginning of a line
unfoldable pub lines_from : List ℕ → List ℕ → List (List ℕ)
lines_from line [] = if length line == 0 then [] else line ∷ []
lines_from line (b ∷ bytes) = if b == 10 then without_return line ∷ lines_from [] bytes else lines_from (line ++ b ∷ []) bytes

abbrev pub lines_of : List ℕ → List (List ℕ)
lines_of bytes = lines_from [] bytes

-- The names in some lines behind those in the lines before them: the first line that is no name is bad, and so is one
-- behind as many as there may be, and the first one where there is none.
unfoldable pub names_from : List (List ℕ) → List (List ℕ) → Result (List (List ℕ)) ListRefusal
names_from names [] = if length names == 0 then Err (BadLine 1) else Ok names
names_from names (line ∷ lines) =
    if is_member_name line && nat_lt (length names) most_lines then names_from (names ++ line ∷ []) lines else Err (BadLine (length names + 1))

-- the names in a list, or the first thing that is wrong
unfoldable pub list_of : List ℕ → Result (List (List ℕ)) ListRefusal
list_of bytes = if nat_lt most_piece (length bytes) then Err TooLong else names_from [] (lines_of bytes)
