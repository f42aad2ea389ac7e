-- The fields of a head, by name and value (RFC 9110, sections 5.1 and 5.6.1; RFC 9112, section 5).
use Rattle.std.specs.Prelude.{ℕ, Bool, List, [], ◌∷◌, map, if◌then◌else◌, ◌==◌}
use Rattle.std.specs.List.{flat_map, slice_split}
use Rattle.std.specs.Str.{str_eq_ignore_ascii_case}
use Rattle.httparse.specs.Grammar.{Field, trim_ows}
use Rattle.httparse.specs.Spans.{name_and_value}

-- each name, and each value without the blanks around it
abbrev pub named : List Field → List (List ℕ × List ℕ)
named fields = map name_and_value fields

-- the field has this name, which has no case
abbrev pub is_named : List ℕ → (List ℕ × List ℕ) → Bool
is_named name field = str_eq_ignore_ascii_case field.0 name

-- the values of the fields of a name
abbrev pub value_of : List ℕ → (List ℕ × List ℕ) → List (List ℕ)
value_of name field = if is_named name field then field.1 ∷ [] else []

abbrev pub values_of : List ℕ → List (List ℕ × List ℕ) → List (List ℕ)
values_of name fields = flat_map (value_of name) fields

-- the parts of a value between its commas, without the blanks around them
abbrev pub parts_of : List ℕ → List (List ℕ)
parts_of value = map trim_ows (slice_split (λ b. b == 44) value)
