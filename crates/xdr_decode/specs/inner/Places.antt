-- Where a reader stands among the values of a dataset: the variable at a path of indexes, how far it was
-- read, and what is still to come from there on.
use Rattle.std.specs.Prelude.{◌≡◌, ℕ, zero, suc, ◌+◌, ◌-◌, ◌*◌, ◌<◌, ◌^◌, ⊤, List, [], ◌∷◌, ◌++◌, length, drop, codes, slice_get, Option, Some, None, All, ◌≤◌, option_map, if◌then◌else◌, nat_lt}
use Rattle.std.specs.Option.{option_map_or}
use Rattle.dap_types.specs.Model.{Member, scalar, array, structure, grid, sequence, Members, no_members, member, count, count_all, sizes, product}
use Rattle.dap_types.specs.WellFormed.{part_places, places}
use Rattle.dap_types.specs.WellFormed as well_formed
use Rattle.dap_types.specs.declared.declarations.ArrayDecl.{ArrayDecl}
use Rattle.dap_types.specs.declared.declarations.BaseType.{BaseType}
use Rattle.dap_types.specs.declared.declarations.BaseType.TheVariants.{Byte}
use Rattle.xdr_fields.specs.Wants.{Want, a_count, a_value, a_byte, a_filler, a_text, a_padding, rows, elements_left, values_left, wants, wants_all, wants_of_array, wants_of_arrays, cell_wants, row_path, room}
use Rattle.xdr_decode.specs.inner.Asked.{Asks}
use Rattle.xdr_decode.specs.declared.field.Ask.{Ask}
use Rattle.xdr_decode.specs.declared.place.Next.{Next}
use Rattle.xdr_decode.specs.declared.place.Next.TheVariants as next
use Rattle.xdr_decode.specs.declared.place.Place.{Place}
use Rattle.xdr_decode.specs.declared.place.Stage.{Stage}
use Rattle.xdr_decode.specs.declared.place.Stage.TheVariants as stage
use Rattle.xdr_decode.specs.declared.place.Text.{Text}
use Rattle.xdr_decode.specs.declared.place.Text.TheVariants as text

-- a variable with values of its own, the names above it, and what comes behind it
pub record Spot : Type 0 where
  pub above : List ℕ
  pub leaf : Member
  pub behind : List Want

abbrev pub members_from : ℕ → Members → Members
members_from zero ms = ms
members_from (suc i) no_members = no_members
members_from (suc i) (member m ms) = members_from i ms

-- others come behind it
abbrev pub followed : List ℕ → Members → Spot → Spot
followed above ms s = record s { behind = s.behind ++ wants_all above ms }

-- what is found in the first of some variables, before the others
abbrev pub spot_first : (List ℕ → Member → Option Spot) → List ℕ → Members → Option Spot
spot_first spot above no_members = None
spot_first spot above (member m ms) = option_map (followed above ms) (spot above m)

abbrev pub alone : List ℕ → Member → Option Spot
alone above leaf = Some (record { above = above; leaf = leaf; behind = [] })

-- an array of a Grid, before some maps
abbrev pub of_grid : List ℕ → List ArrayDecl → ArrayDecl → Spot
of_grid above maps a = record { above = above; leaf = array a; behind = wants_of_arrays above maps }

-- the variable at a path inside one: a Grid's array comes before its maps
abbrev pub spot_of : List ℕ → List ℕ → Member → Option Spot
spot_of path above (scalar column) = alone above (scalar column)
spot_of path above (array a) = alone above (array a)
spot_of [] above (structure name parts) = None
spot_of (i ∷ path) above (structure name parts) = spot_first (spot_of path) (above ++ name ++ codes ".") (members_from i parts)
spot_of [] above (grid name a maps) = None
spot_of (i ∷ path) above (grid name a maps) =
    option_map (of_grid (above ++ name ++ codes ".") (drop i maps)) (slice_get (a ∷ maps) i)
spot_of path above (sequence name columns) = alone above (sequence name columns)

abbrev pub spot : List ℕ → List ℕ → Members → Option Spot
spot [] above ms = None
spot (i ∷ path) above ms = spot_first (spot_of path) above (members_from i ms)

-- elements from one on, of so many, and what comes behind packed bytes
abbrev pub elements_wants : BaseType → List ℕ → List ℕ → ℕ → ℕ → List Want
elements_wants Byte path ns at count = elements_left a_byte path ns at (count - at) ++ a_filler count ∷ []
elements_wants base path ns at count = values_left base path ns at (count - at)

-- what is still to come of a variable
abbrev pub stage_wants : List ℕ → Member → Stage → List Want
stage_wants above (scalar column) stage.Start = a_value (above ++ column.name) column.base ∷ []
stage_wants above (array a) stage.Start = wants_of_array above a
stage_wants above (array a) (stage.Again count) = a_count count ∷ elements_wants a.base (above ++ a.name) (sizes a) 0 count
stage_wants above (array a) (stage.Elements at count) = elements_wants a.base (above ++ a.name) (sizes a) at count
stage_wants above (array a) (stage.Filler count) = a_filler count ∷ []
stage_wants above (sequence name columns) stage.Start = rows above name columns 0 ∷ []
stage_wants above (sequence name columns) (stage.Rows row) = rows above name columns row ∷ []
stage_wants above (sequence name columns) (stage.Cells row at) = cell_wants (row_path above name row) (drop at columns) ++ rows above name columns (row + 1) ∷ []
stage_wants above leaf s = []

-- the variable may be read so far: its count is that of its elements, and a cell is one of its row
abbrev pub IsStage : Member → Stage → Type 0
IsStage (scalar column) stage.Start = ⊤
IsStage (array a) stage.Start = ⊤
IsStage (array a) (stage.Again count) = count ≡ product (sizes a)
IsStage (array a) (stage.Elements at count) = (count ≡ product (sizes a)) × (at < count)
IsStage (array a) (stage.Filler count) = count ≡ product (sizes a)
IsStage (sequence name columns) stage.Start = ⊤
IsStage (sequence name columns) (stage.Rows row) = ⊤
IsStage (sequence name columns) (stage.Cells row at) = at < length columns
IsStage leaf s = ⊥

-- or it is read
abbrev pub IsStageOr : Member → Stage → Type 0
IsStageOr m stage.Behind = ⊤
IsStageOr m s = IsStage m s

-- one more row can be counted
abbrev pub IsEarly : Stage → Type 0
IsEarly (stage.Rows row) = row + 1 < 2 ^ 64
IsEarly (stage.Cells row at) = row + 1 < 2 ^ 64
IsEarly s = ⊤

-- so many bytes have the marks of the rows before
abbrev pub HaveMarks : Stage → ℕ → Type 0
HaveMarks (stage.Rows row) n = 4 * row ≤ n
HaveMarks (stage.Cells row at) n = 4 * row + 4 ≤ n
HaveMarks s n = ⊤

abbrev pub text_wants : Text → List Want
text_wants text.Nothing = []
text_wants (text.Bytes left size) = a_text size ∷ a_padding size ∷ []
text_wants (text.Padding size) = a_padding size ∷ []

abbrev pub spot_at : Members → Place → Option Spot
spot_at ms p = spot p.path.items [] ms

-- what is still to come of the values of some variables
unfoldable pub wants_left : Members → Place → List Want
wants_left ms p = text_wants p.text ++ option_map_or (λ s. stage_wants s.above s.leaf p.stage ++ s.behind) (spot_at ms p) []

abbrev pub IsStageAt : Option Spot → Stage → List ℕ → Type 0
IsStageAt None s path = path ≡ []
IsStageAt (Some at) s path = IsStage at.leaf s

-- there is such a variable, or none is left
abbrev pub IsPlaced : Members → Place → Type 0
IsPlaced ms p = IsStageAt (spot_at ms p) p.stage p.path.items

-- behind so many more bytes of a string
abbrev pub text_behind : ℕ → Text → Text
text_behind n (text.Bytes left size) = if nat_lt n left then text.Bytes (left - n) size else text.Padding size
text_behind n t = t

-- how many bytes of a string are still to come
abbrev pub IsCutText : Text → List ℕ → Type 0
IsCutText (text.Bytes left size) own = (0 < left) × (length own + left ≡ size)
IsCutText t own = ⊥

-- these are the bytes that came of the next field, which is not whole
abbrev pub IsOwn : Place → List Want → List ℕ → List ℕ → Type 0
IsOwn p [] held own = (held ≡ []) × (own ≡ [])
IsOwn p (a_text n ∷ ws) held own = (held ≡ []) × (length own < n) × IsCutText p.text own
IsOwn p (w ∷ ws) held own = (held ≡ own) × (length own < room w)

-- the first of some wants is asked for
abbrev pub AsksFirst : Ask → List Want → Type 0
AsksFirst ask [] = ⊥
AsksFirst ask (w ∷ ws) = Asks ask w

-- no variable is deeper than there is room for in a path of so many indexes, and each index is a u32
abbrev pub IsShallow : ℕ → well_formed.Place → Type 0
IsShallow used p = p.depth + used ≤ 16

abbrev pub HaveRoom : ℕ → Members → Type 0
HaveRoom used ms = All (IsShallow used) (places 1 [] ms) × (count_all ms < 2 ^ 32)

-- the same of the parts of one
abbrev pub HasRoom : ℕ → Member → Type 0
HasRoom used m = All (IsShallow used) (part_places 1 m) × (count m < 2 ^ 32)

-- nothing of a variable was read: what comes from there on
abbrev pub from_start : Spot → List Want
from_start s = stage_wants s.above s.leaf stage.Start ++ s.behind

-- a path goes on to the first variable with values inside one
abbrev pub IsInside : Member → List ℕ → List ℕ → Type 0
IsInside m old new = (rest : List ℕ) × (new ≡ old ++ rest)
    × ((above : List ℕ) → (s : Spot) × (spot_of rest above m ≡ Some s) × (from_start s ≡ wants above m))

-- the same among some, of which the first has this index
abbrev pub IsEntered : ℕ → Members → List ℕ → List ℕ → Type 0
IsEntered from ms old new = (k : ℕ) × (rest : List ℕ) × (new ≡ old ++ (from + k) ∷ rest)
    × ((above : List ℕ) → (s : Spot) × (spot (k ∷ rest) above ms ≡ Some s) × (from_start s ≡ wants_all above ms))

abbrev pub IsEmpty : Member → Type 0
IsEmpty m = (above : List ℕ) → wants above m ≡ []

abbrev pub AreEmpty : Members → Type 0
AreEmpty ms = (above : List ℕ) → wants_all above ms ≡ []

-- one path leads to the variable with values that is the first behind that of another
abbrev pub IsBehind : Members → List ℕ → List ℕ → Type 0
IsBehind ms old new = (above : List ℕ) (s : Spot) → spot old above ms ≡ Some s →
    (t : Spot) × (spot new above ms ≡ Some t) × (from_start t ≡ s.behind)

-- none is behind it
abbrev pub IsLast : Members → List ℕ → Type 0
IsLast ms old = (above : List ℕ) (s : Spot) → spot old above ms ≡ Some s → s.behind ≡ []

-- the same inside one
abbrev pub IsBehindIn : Member → List ℕ → List ℕ → Type 0
IsBehindIn m old new = (above : List ℕ) (s : Spot) → spot_of old above m ≡ Some s →
    (t : Spot) × (spot_of new above m ≡ Some t) × (from_start t ≡ s.behind)

abbrev pub IsLastIn : Member → List ℕ → Type 0
IsLastIn m old = (above : List ℕ) (s : Spot) → spot_of old above m ≡ Some s → s.behind ≡ []

-- what comes next, as the code has it
abbrev pub IsNext : Next → List Want → Text → Type 0
IsNext next.Nothing ws t = ws ≡ []
IsNext (next.Field ask) ws t = AsksFirst ask ws
IsNext (next.Bytes left) ws t = (size : ℕ) × (t ≡ text.Bytes left size)
