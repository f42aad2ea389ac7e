-- A front of the values of a dataset, as the client reads it: good fields, the first bad field, and
-- the elements that can be shown by then (this project's).
use Rattle.std.specs.Prelude.{◌≡◌, ℕ, ◌<◌, ◌≤◌, ⊤, List, [], ◌∷◌, ◌++◌, length, take, codes, Bool, true, false, Option, Some, None, count_by, slice_get}
use Rattle.std.specs.Option.{option_map_or}
use Rattle.std.specs.List.{flat_map}
use Rattle.dap_types.specs.Model.{Dataset, Tree}
use Rattle.dap_types.specs.declared.declarations.BaseType.TheVariants.{Float64}
use Rattle.dap_model.specs.Body.{IsHead}
use Rattle.dap_model.specs.Dds.{dds}
use Rattle.dap_model.specs.Fits.{FitsAll}
use Rattle.dap_model.specs.Shown.{Element, element_line, elements_all, shown_byte}
use Rattle.dap_model.specs.Xdr.{Field, count, number, packed, filler, size, text, padding, mark, fields_all, Spells, SpellsField, SpellsFields, fill}

-- some values of the dataset have these fields, and then that one
abbrev pub MayFollow : Dataset → List Field → Field → Type 0
MayFollow d fs f = (ts : List Tree) × (rest : List Field) × FitsAll d.members ts × (fields_all d.members ts ≡ fs ++ f ∷ rest)

-- how many bytes a field has
abbrev pub width : Field → ℕ
width (number Float64 v) = 8
width (packed v) = 1
width (filler n) = fill n
width (text bytes) = length bytes
width (padding n) = fill n
width field = 4

pub data Fault : Type 0 where
  bad_count bad_word bad_padding wrong_mark : Fault

-- what is wrong with bytes that stand where such a field has to be. Any bytes are a good text
abbrev pub fault_of : Field → Option Fault
fault_of (count n) = Some bad_count
fault_of (size n) = Some bad_count
fault_of (number base v) = Some bad_word
fault_of (filler n) = Some bad_padding
fault_of (padding n) = Some bad_padding
fault_of (mark b) = Some wrong_mark
fault_of field = None

-- the first bad field of the bytes stands behind `front`: a field may stand there, the bytes of one
-- are there, and they spell none that may
pub record IsBadField (d : Dataset) (bs : List ℕ) (fault : Fault) (place : ℕ) : Type 0 where
  pub front : List ℕ
  pub own : List ℕ
  pub rest : List ℕ
  pub fields : List Field
  pub wanted : Field
  pub parts : bs ≡ front ++ own ++ rest
  pub good : SpellsFields fields front
  pub may_follow : MayFollow d fields wanted
  pub whole : length own ≡ width wanted
  pub bad : (f : Field) → MayFollow d fields f → ¬ (SpellsField f own)
  pub is_fault : fault_of wanted ≡ Some fault
  pub is_place : place ≡ length front

-- the values are ended by the first n bytes
abbrev pub ValuesEndAt : Dataset → List Tree → List ℕ → ℕ → Type 0
ValuesEndAt d ts bs n = (n ≤ length bs) × Spells d ts (take n bs)

-- the values are not ended: there are good whole fields, and then a proper part of one that may follow
pub record IsOpen (d : Dataset) (bs : List ℕ) : Type 0 where
  pub front : List ℕ
  pub own : List ℕ
  pub fields : List Field
  pub wanted : Field
  pub parts : bs ≡ front ++ own
  pub good : SpellsFields fields front
  pub may_follow : MayFollow d fields wanted
  pub cut : length own < width wanted

-- the last field of an element
abbrev pub ends_element : Field → Bool
ends_element (number base v) = true
ends_element (packed v) = true
ends_element (padding n) = true
ends_element field = false

-- the lines of the elements that these first fields of the trees hold whole
abbrev pub lines : Dataset → List Tree → List Field → List ℕ
lines d ts fs = flat_map element_line (take (count_by ends_element fs) (elements_all [] d.members ts))

-- the front of the line of an element that is open, of whose next field so many bytes stand: its path,
-- and of a text whose length stands the bytes that do, or all of it where only the padding is wanting
abbrev pub begun : Element → Field → ℕ → List ℕ
begun e (number base v) k = e.path ++ codes " = "
begun e (packed v) k = e.path ++ codes " = "
begun e (size n) k = e.path ++ codes " = "
begun e (text bytes) k = e.path ++ codes " = \"" ++ flat_map shown_byte (take k bytes)
begun e (padding n) k = element_line e
begun e f k = []

-- the fields behind them begin with one of which k bytes stand, and that is not whole
abbrev pub IsCut : List Field → ℕ → Type 0
IsCut [] k = k ≡ 0
IsCut (f ∷ rest) k = k < width f

-- the front of the line of the element that is open behind these fields, where there is one
abbrev pub open_line : Dataset → List Tree → List Field → List Field → ℕ → List ℕ
open_line d ts fs [] k = []
open_line d ts fs (f ∷ rest) k = option_map_or (λ e. begun e f k) (slice_get (elements_all [] d.members ts) (count_by ends_element fs)) []

-- the bytes of a text that is not whole are its own
abbrev pub AreOf : List Field → List ℕ → Type 0
AreOf (text bytes ∷ rest) own = own ≡ take (length own) bytes
AreOf fs own = ⊤

-- the bytes are a good front of the values of the dataset: `whole` are the lines of the elements
-- whose fields all stand in it, and `more` is the front of the line of the one that is open
pub record IsFront (d : Dataset) (bs whole more : List ℕ) : Type 0 where
  pub trees : List Tree
  pub fields : List Field
  pub rest : List Field
  pub front : List ℕ
  pub own : List ℕ
  pub parts : bs ≡ front ++ own
  pub fit : FitsAll d.members trees
  pub in_order : fields_all d.members trees ≡ fields ++ rest
  pub good : SpellsFields fields front
  pub cut : IsCut rest (length own)
  pub are_own : AreOf rest own
  pub are_lines : whole ≡ lines d trees fields
  pub is_begun : more ≡ open_line d trees fields rest (length own)

-- the one list begins with the other
abbrev pub IsPrefix : List ℕ → List ℕ → Type 0
IsPrefix xs ys = (rest : List ℕ) × (ys ≡ xs ++ rest)

-- what may be shown of a good front of a body with a good `Data:` line: the DDS, the lines of the whole
-- elements, and of the open element's line any front
pub record MayShow (good out : List ℕ) : Type 0 where
  pub head : List ℕ
  pub dataset : Dataset
  pub values : List ℕ
  pub whole : List ℕ
  pub more : List ℕ
  pub parts : good ≡ head ++ values
  pub is_head : IsHead head dataset
  pub is_front : IsFront dataset values whole more
  pub begins : IsPrefix (dds dataset ++ whole) out
  pub within : IsPrefix out (dds dataset ++ whole ++ more)

-- a body's front has a good `Data:` line
abbrev pub HasHead : List ℕ → Type 0
HasHead good = (head : List ℕ) × (values : List ℕ) × (d : Dataset) × (good ≡ head ++ values) × IsHead head d
