-- The XDR of trees is one of their spellings, and its length.
use Rattle.std.proofs.Common.{ℕ, pos, ◌+◌, ◌^◌, ◌<◌, List, [], ◌∷◌, ◌++◌, length, map, All, inl, refl, arith}
use Rattle.std.proofs.lemmas.List.Elements.{All-append, All-cons, All-nil}
use Rattle.std.specs.Bool.{⊤}
use Rattle.std.specs.List.{AllZip, flat_map}
use Rattle.dap_types.specs.Model.{Member, scalar, array, structure, grid, sequence, Members, no_members, member, Dataset, Tree, kids, name_of, sizes, product}
use Rattle.dap_types.specs.WellFormed.{Place, place, places, part_places, leaf_places, places_of, elements_of}
use Rattle.dap_types.specs.declared.declarations.ArrayDecl.{ArrayDecl}
use Rattle.dap_types.specs.declared.declarations.BaseType.{BaseType}
use Rattle.dap_types.specs.declared.declarations.BaseType.TheVariants.{Byte, Int16, UInt16, Int32, UInt32, Float32, Float64, Text, Url}
use Rattle.dap_types.specs.declared.declarations.Column.{Column}
use Rattle.dap_types.specs.declared.values.Value.{Value}
use Rattle.dap_types.specs.declared.values.Value.TheVariants as values
use Rattle.dap_model.proofs.Values.{all_first, all_rest, all_front, all_back, length-values_in}
use Rattle.dap_model.specs.Fits.{FitsArray, Fits, FitsAll, values_in}
use Rattle.dap_model.specs.Xdr.{Field, count, number, packed, filler, size, text, padding, mark, field_bytes, bytes_of, value_fields, array_fields, scalar_fields, cell_fields, row_fields, array_fields_of_each, fields, fields_all, xdr, SpellsField, SpellsFields, Spells}

-- a count that is a word
abbrev pub Small : Field → Type 0
Small (count n) = n < 2 ^ 32
Small field = ⊤

small_spells : (f : Field) → Small f → SpellsField f (field_bytes f)
unfolding field_bytes
small_spells (count n) small = (small, refl)
small_spells (number Byte (values.Whole (pos b))) small = inl refl
small_spells field small = refl

pub spelled : (fs : List Field) → All Small fs → SpellsFields fs (bytes_of fs)
unfolding bytes_of
spelled [] all = refl
spelled (f ∷ fs) all = (field_bytes f, bytes_of fs, refl, small_spells f (all_first Small f fs all), spelled fs (all_rest Small f fs all))

one_small : (f : Field) → Small f → All Small (f ∷ [])
one_small f small = All-cons Small f [] small (All-nil Small)

value_small : (base : BaseType) (v : Value) → All Small (value_fields base v)
value_small base (values.Whole z) = one_small (number base (values.Whole z)) tt
value_small base (values.Text bytes) =
    All-cons Small (size (length bytes)) (text bytes ∷ padding (length bytes) ∷ []) tt (All-cons Small (text bytes) (padding (length bytes) ∷ []) tt (one_small (padding (length bytes)) tt))
value_small base (values.Bits32 n) = one_small (number base (values.Bits32 n)) tt
value_small base (values.Bits64 n) = one_small (number base (values.Bits64 n)) tt

each_small : {X : Type 0} (form : X → List Field) → ((x : X) → All Small (form x)) → (xs : List X) → All Small (flat_map form xs)
each_small form small [] = All-nil Small
each_small form small (x ∷ xs) = All-append Small (form x) (flat_map form xs) (small x) (each_small form small xs)

values_small : (base : BaseType) (vs : List Value) → All Small (flat_map (value_fields base) vs)
values_small base vs = each_small (value_fields base) (value_small base) vs

packed_small : (vs : List Value) → All Small (map packed vs)
packed_small [] = All-nil Small
packed_small (v ∷ vs) = All-cons Small (packed v) (map packed vs) tt (packed_small vs)

twice : (n : ℕ) (fs : List Field) → n < 2 ^ 32 → All Small fs → All Small (count n ∷ count n ∷ fs)
twice n fs few small = All-cons Small (count n) (count n ∷ fs) few (All-cons Small (count n) fs few small)

array_small : (base : BaseType) (vs : List Value) → length vs < 2 ^ 32 → All Small (array_fields base vs)
array_small Byte vs few = twice (length vs) (map packed vs ++ filler (length vs) ∷ []) few (All-append Small (map packed vs) (filler (length vs) ∷ []) (packed_small vs) (one_small (filler (length vs)) tt))
array_small Int16 vs few = twice (length vs) (flat_map (value_fields Int16) vs) few (values_small Int16 vs)
array_small UInt16 vs few = twice (length vs) (flat_map (value_fields UInt16) vs) few (values_small UInt16 vs)
array_small Int32 vs few = twice (length vs) (flat_map (value_fields Int32) vs) few (values_small Int32 vs)
array_small UInt32 vs few = twice (length vs) (flat_map (value_fields UInt32) vs) few (values_small UInt32 vs)
array_small Float32 vs few = twice (length vs) (flat_map (value_fields Float32) vs) few (values_small Float32 vs)
array_small Float64 vs few = twice (length vs) (flat_map (value_fields Float64) vs) few (values_small Float64 vs)
array_small Text vs few = All-cons Small (count (length vs)) (flat_map (value_fields Text) vs) few (values_small Text vs)
array_small Url vs few = All-cons Small (count (length vs)) (flat_map (value_fields Url) vs) few (values_small Url vs)

fitting_small : (a : ArrayDecl) (t : Tree) → product (sizes a) < 2 ^ 32 → FitsArray a.base (sizes a) t → All Small (array_fields a.base (values_in t))
fitting_small a t few fit = array_small a.base (values_in t) (omega (arith, few, length-values_in a.base (sizes a) t fit))

abbrev Few : Place → Type 0
Few p = elements_of p.variable < 2 ^ 32

arrays_small : (arrays : List ArrayDecl) (ts : List Tree) (depth : ℕ) (earlier : List (List ℕ)) → All Few (leaf_places depth earlier (map array arrays))
    → AllZip (λ b u. FitsArray b.base (sizes b) u) arrays ts → All Small (array_fields_of_each arrays ts)
arrays_small [] [] depth earlier few fit = All-nil Small
arrays_small [] (t ∷ ts) depth earlier few fit = absurd fit
arrays_small (a ∷ arrays) [] depth earlier few fit = absurd fit
arrays_small (a ∷ arrays) (t ∷ ts) depth earlier few fit =
    let later = leaf_places depth (a.name ∷ earlier) (map array arrays) in
    All-append Small (array_fields a.base (values_in t)) (array_fields_of_each arrays ts) (fitting_small a t (all_first Few (place depth earlier (array a)) later few) fit.0)
    (arrays_small arrays ts depth (a.name ∷ earlier) (all_rest Few (place depth earlier (array a)) later few) fit.1)

cells_small : (columns : List Column) (ts : List Tree) → All Small (cell_fields columns ts)
cells_small [] ts = All-nil Small
cells_small (c ∷ columns) [] = All-nil Small
cells_small (c ∷ columns) (t ∷ ts) = All-append Small (scalar_fields c.base t) (cell_fields columns ts) (values_small c.base (values_in t)) (cells_small columns ts)

row_small : (columns : List Column) (row : Tree) → All Small (row_fields columns row)
row_small columns row = All-cons Small (mark 0x5a) (cell_fields columns (kids row)) tt (cells_small columns (kids row))

mutual
  fields_small : (m : Member) (t : Tree) (depth : ℕ) → elements_of m < 2 ^ 32 → All Few (part_places depth m) → Fits m t → All Small (fields m t)
  fields_small (scalar column) t depth few parts fit = values_small column.base (values_in t)
  fields_small (array a) t depth few parts fit = fitting_small a t few fit
  fields_small (structure name parts) t depth few inside fit = all_fields_small parts (kids t) depth [] inside fit.1
  fields_small (grid name a maps) t depth few inside fit = arrays_small (a ∷ maps) (kids t) depth [] inside fit.1
  fields_small (sequence name columns) t depth few inside fit =
      All-append Small (flat_map (row_fields columns) (kids t)) (mark 0xa5 ∷ []) (each_small (row_fields columns) (row_small columns) (kids t)) (one_small (mark 0xa5) tt)

  all_fields_small : (ms : Members) (ts : List Tree) (depth : ℕ) (earlier : List (List ℕ)) → All Few (places depth earlier ms) → FitsAll ms ts → All Small (fields_all ms ts)
  all_fields_small no_members ts depth earlier few fit = All-nil Small
  all_fields_small (member m ms) [] depth earlier few fit = absurd fit
  all_fields_small (member m ms) (t ∷ ts) depth earlier few fit =
      let later : List Place = places depth (name_of m ∷ earlier) ms in
      let inside = all_rest Few (place depth earlier m) (part_places (depth + 1) m ++ later) few in
      All-append Small (fields m t) (fields_all ms ts)
      (fields_small m t (depth + 1) (all_first Few (place depth earlier m) (part_places (depth + 1) m ++ later) few) (all_front Few (part_places (depth + 1) m) later inside) fit.0)
      (all_fields_small ms ts depth (name_of m ∷ earlier) (all_back Few (part_places (depth + 1) m) later inside) fit.1)

-- where every array has fewer than 2^32 elements, the XDR is a spelling
pub xdr_spells : (d : Dataset) (ts : List Tree) → All (λ p. elements_of p.variable < 2 ^ 32) (places_of d) → FitsAll d.members ts → Spells d ts (xdr d ts)
xdr_spells d ts few fit = record { fit = fit; spelled = spelled (fields_all d.members ts) (all_fields_small d.members ts 1 [] few fit) }
