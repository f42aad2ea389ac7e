-- The grammar of a DDS (DAP 2.0, DDS; narrowed to this project's profile): a dataset as a list of
-- slots, what may stand in a slot, and which slot breaks a rule. The grammar has no limits; the rules
-- have them. A word that is no size is bad where no text goes on with it.
--
--   dataset   = "Dataset" "{" member* "}" word ";"
--   member    = base word dim* ";"
--             | "Structure" "{" member* "}" word ";"
--             | "Sequence" "{" (base word ";")* "}" word ";"
--             | "Grid" "{" "Array" ":" array "Maps" ":" array* "}" word ";"
--   array     = base word dim+ ";"
--   dim       = "[" size "]" | "[" word "=" size "]"
use Rattle.std.specs.Prelude.{◌≡◌, ℕ, ◌+◌, ◌<◌, ◌⊎◌, Bool, true, false, ◌&&◌, ◌||◌, not, List, [], ◌∷◌, ◌++◌, length, map, take, All, ◌==◌, nat_lt, nat_le, IsTrue, Option, Some, None, codes, option_map, slice_get}
use Rattle.std.specs.Char.{is_ascii_digit}
use Rattle.std.specs.Cmp.Lexicographic.{pointwise}
use Rattle.std.specs.List.{list_all, list_any}
use Rattle.std.specs.Option.{option_map_or}
use Rattle.std.specs.Str.{bytes_eq, str_eq_ignore_ascii_case}
use Rattle.std.specs.Str.Parse.{digits_value}
use Rattle.dap_types.specs.Limits.{most_depth, most_dimensions, most_elements, most_members}
use Rattle.dap_types.specs.Model.{Member, scalar, array, structure, grid, sequence, Members, no_members, member, Dataset, name_of, count, sizes}
use Rattle.dap_types.specs.WellFormed.{IsWellFormed, places_of}
use Rattle.dap_types.specs.declared.declarations.ArrayDecl.{ArrayDecl}
use Rattle.dap_types.specs.declared.declarations.Column.{Column}
use Rattle.dap_types.specs.declared.declarations.Dim.{Dim}
use Rattle.dap_model.specs.Dds.{type_word}
use Rattle.dap_model.specs.Tokens.{Token, is_word, whole_tokens, tokens_of}
use Rattle.dap_model.specs.Tokens as token

pub data Slot : Type 0 where
  -- a word, in either case
  keyword : List ℕ → Slot
  -- that very word
  name : List ℕ → Slot
  -- a number in 1 to 10 digits
  size : ℕ → Slot
  sign : ℕ → Slot

-- what may stand in a slot
abbrev pub spells : Slot → Token → Bool
spells (keyword k) (token.word w) = str_eq_ignore_ascii_case k w
spells (name n) (token.word w) = bytes_eq n w
spells (size n) (token.word w) =
    nat_le 1 (length w) && nat_le (length w) 10 && list_all is_ascii_digit w && digits_value 10 w == n && nat_le n most_elements
spells (sign b) (token.sign c) = b == c
spells slot t = false

-- a slot, and whether it breaks a rule
pub record Judged : Type 0 where
  pub slot : Slot
  pub broken : Bool

abbrev pub fine : Slot → Judged
fine s = record { slot = s; broken = false }

-- { } [ ] ; = : where they break no rule
abbrev pub opens : Judged
opens = fine (sign 123)

abbrev pub closes : Judged
closes = fine (sign 125)

abbrev pub end_of_dim : Judged
end_of_dim = fine (sign 93)

abbrev pub semicolon : Judged
semicolon = fine (sign 59)

abbrev pub equals : Judged
equals = fine (sign 61)

abbrev pub colon : Judged
colon = fine (sign 58)

-- the first word of member n: it may be too deep, or one member too many
abbrev pub head : ℕ → ℕ → List ℕ → Judged
head depth n w = record { slot = keyword w; broken = nat_lt most_depth depth || nat_lt most_members n }

-- a name, behind the names before it on its level
abbrev pub named : List (List ℕ) → List ℕ → Judged
named before n = record { slot = name n; broken = list_any (bytes_eq n) before }

-- a size, which for a Grid's map has to be that of the array
abbrev pub is_other : Option ℕ → ℕ → Bool
is_other wanted n = option_map_or (λ w. not (w == n)) wanted false

abbrev pub size_slots : Option ℕ → Option (List ℕ) → ℕ → List Judged
size_slots wanted None n = fine (size n) ∷ record { slot = sign 93; broken = is_other wanted n } ∷ []
size_slots wanted (Some dim) n =
    fine (name dim) ∷ equals ∷ record { slot = size n; broken = is_other wanted n } ∷ end_of_dim ∷ []

-- dimensions, the first of them the k-th, of which only so many are allowed
abbrev pub dim_slots : ℕ → Option ℕ → ℕ → List Dim → List Judged
dim_slots most wanted k [] = []
dim_slots most wanted k (dim ∷ dims) =
    record { slot = sign 91; broken = nat_lt most k } ∷ size_slots wanted dim.name dim.size ++ dim_slots most wanted (k + 1) dims

abbrev pub scalar_slots : ℕ → ℕ → List (List ℕ) → Column → List Judged
scalar_slots depth n before c = head depth n (type_word c.base) ∷ named before c.name ∷ semicolon ∷ []

abbrev pub array_slots : ℕ → Option ℕ → Judged → List (List ℕ) → ArrayDecl → List Judged
array_slots most wanted first before a = first ∷ named before a.name ∷ dim_slots most wanted 1 a.dims ++ semicolon ∷ []

abbrev pub column_slots : ℕ → ℕ → List (List ℕ) → List Column → List Judged
column_slots depth n before [] = []
column_slots depth n before (c ∷ cs) = scalar_slots depth n before c ++ column_slots depth (n + 1) (c.name ∷ before) cs

-- maps, of which there has to be one for each of these sizes
abbrev pub map_slots : ℕ → ℕ → List (List ℕ) → List ℕ → List ArrayDecl → List Judged
map_slots depth n before wanted [] = []
map_slots depth n before [] (m ∷ maps) =
    array_slots 1 None (record { slot = keyword (type_word m.base); broken = true }) before m ++ map_slots depth (n + 1) (m.name ∷ before) [] maps
map_slots depth n before (w ∷ wanted) (m ∷ maps) =
    array_slots 1 (Some w) (head depth n (type_word m.base)) before m ++ map_slots depth (n + 1) (m.name ∷ before) wanted maps

-- a whole: its word, its parts and its name
abbrev pub whole_slots : Judged → List Judged → Judged → Judged → List Judged
whole_slots first parts last own = first ∷ opens ∷ parts ++ last ∷ own ∷ semicolon ∷ []

-- member n, at a depth
abbrev mutual
  pub slots : ℕ → ℕ → List (List ℕ) → Member → List Judged
  slots depth n before (scalar c) = scalar_slots depth n before c
  slots depth n before (array a) = array_slots most_dimensions None (head depth n (type_word a.base)) before a
  slots depth n before (structure own parts) =
      whole_slots (head depth n (codes "Structure")) (slots_all (depth + 1) (n + 1) [] parts) closes (named before own)
  slots depth n before (grid own a maps) =
      whole_slots (head depth n (codes "Grid"))
      (fine (keyword (codes "Array")) ∷ colon
      ∷ array_slots most_dimensions None (head (depth + 1) (n + 1) (type_word a.base)) [] a
      ++ fine (keyword (codes "Maps")) ∷ colon
      ∷ map_slots (depth + 1) (n + 2) (a.name ∷ []) (sizes a) maps)
      (record { slot = sign 125; broken = nat_lt (length maps) (length a.dims) }) (named before own)
  slots depth n before (sequence own columns) =
      whole_slots (head depth n (codes "Sequence")) (column_slots (depth + 1) (n + 1) [] columns) closes (named before own)

  pub slots_all : ℕ → ℕ → List (List ℕ) → Members → List Judged
  slots_all depth n before no_members = []
  slots_all depth n before (member m ms) = slots depth n before m ++ slots_all depth (n + count m) (name_of m ∷ before) ms

abbrev pub dataset_slots : Dataset → List Judged
dataset_slots d = whole_slots (fine (keyword (codes "Dataset"))) (slots_all 1 1 [] d.members) closes (fine (name d.name))

-- each array has a dimension
abbrev pub has_dims : ArrayDecl → Bool
has_dims a = nat_lt 0 (length a.dims)

abbrev mutual
  pub have_dims : Member → Bool
  have_dims (array a) = has_dims a
  have_dims (structure own parts) = all_have_dims parts
  have_dims (grid own a maps) = list_all has_dims (a ∷ maps)
  have_dims (scalar c) = true
  have_dims (sequence own columns) = true

  pub all_have_dims : Members → Bool
  all_have_dims no_members = true
  all_have_dims (member m ms) = have_dims m && all_have_dims ms

-- the tokens stand for the dataset, which need not be well formed
abbrev pub StandsFor : List Token → Dataset → Type 0
StandsFor ts d = IsTrue (all_have_dims d.members) × IsTrue (pointwise spells (map (λ j. j.slot) (dataset_slots d)) ts)

-- a text that ends with the last token, and its dataset
pub record DdsOf (text : List ℕ) (d : Dataset) : Type 0 where
  pub stands : StandsFor (tokens_of text) d
  pub ends : (front : List ℕ) × (text ≡ front ++ codes ";")
  pub well_formed : IsWellFormed d

-- some tokens can follow
abbrev pub Begins : List Token → Type 0
Begins ts = (more : List Token) × (d : Dataset) × StandsFor (ts ++ more) d

-- the last of k tokens breaks a rule. Whatever follows, the rules speak of these tokens alone
abbrev pub Breaks : ℕ → List Token → Type 0
Breaks k ts = (more : List Token) × (d : Dataset) × StandsFor (ts ++ more) d
    × (option_map_or (λ j. j.broken) (slice_get (dataset_slots d) k) false ≡ true)

-- token k, from 0, is bad: with it the tokens begin no text of the grammar, or they break a rule
abbrev pub IsBad : List Token → ℕ → Type 0
IsBad ts k = (¬ Begins (take (k + 1) ts)) ⊎ Breaks k (take (k + 1) ts)

-- the bad token is the first
pub record IsFirstBad (ts : List Token) (k : ℕ) : Type 0 where
  pub within : k < length ts
  pub bad : IsBad ts k
  pub first : (j : ℕ) → j < k → ¬ (IsBad ts j)

-- the place of the bad token of a text
abbrev pub IsBadAt : List ℕ → ℕ → Type 0
IsBadAt text place = (k : ℕ) × IsFirstBad (tokens_of text) k × (option_map (λ p. p.place) (slice_get (whole_tokens text) k) ≡ Some place)

-- the names of a variable and of its dimensions are words
abbrev pub are_words : Member → Bool
are_words (array a) = is_word a.name && list_all (λ dim. option_map_or is_word dim.name true) a.dims
are_words m = is_word (name_of m)

-- every name in a dataset is a word
pub record HasWords (d : Dataset) : Type 0 where
  pub own : IsTrue (is_word d.name)
  pub inside : All (λ p. IsTrue (are_words p.variable)) (places_of d)
