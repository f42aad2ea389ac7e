-- The fields of values lead from what is to come of them to what stands behind them.
use Rattle.std.proofs.Common.{◌≡◌, ℕ, ◌+◌, ◌^◌, ◌<◌, List, [], ◌∷◌, ◌++◌, length, All, inl, refl, sym, subst, arith, append_assoc, append-nil}
use Rattle.std.specs.List.{AllZip, flat_map}
use Rattle.dap_types.specs.Model.{Member, Members, Tree, kids, sizes}
use Rattle.dap_types.specs.declared.declarations.ArrayDecl.{ArrayDecl}
use Rattle.dap_types.specs.declared.declarations.BaseType.{BaseType}
use Rattle.dap_types.specs.declared.declarations.BaseType.TheVariants.{Byte, Int16, UInt16, Int32, UInt32, Float32, Float64, Text, Url}
use Rattle.dap_types.specs.declared.declarations.Column.{Column}
use Rattle.dap_types.specs.declared.values.Value.{Value}
use Rattle.dap_model.proofs.Values.{all_first, all_rest}
use Rattle.dap_model.specs.Fits.{IsOf, Fits, FitsAll, FitsArray, FitsRow, FitsScalar, values_in}
use Rattle.dap_model.specs.Laws.{IsNumber}
use Rattle.dap_model.specs.Shown.{Element}
use Rattle.dap_model.specs.Xdr.{Field, number, packed, size, text, padding, mark, string_fields, array_fields, cell_fields, fields, fields_all, row_fields, scalar_fields, value_fields}
use Rattle.xdr_fields.proofs.Judged.{no_steps, one_step, steps_join}
use Rattle.xdr_fields.proofs.Walk.{Silent, value_walked, fitting_walked, scalar_walked, cells_walked, member_walked, members_walked}
use Rattle.xdr_fields.specs.Wants.{Want, a_byte, a_value, a_text, a_padding, rows, IsTextType, Goes, Steps, becomes, cell_wants, elements_left, index_texts, row_path, wants, wants_all, wants_of_array}
use Rattle.xdr_decode.specs.inner.Taken.{element_fields, element_want, elements_fields}

Leads : List Want → List Want → List Field → List Element → Type 0
Leads vs ws fs es = Steps ws fs vs

silent : (vs : List Want) (w : Want) (ws : List Want) (f : Field) (fs : List Field) (es : List Element) → Goes w f → Silent f → Steps (becomes w f ++ ws) fs vs → Steps (w ∷ ws) (f ∷ fs) vs
silent vs w ws f fs es goes quiet steps = one_step w ws f fs vs goes steps

one_number : (vs : List Want) (path : List ℕ) (base : BaseType) (v : Value) (ws : List Want) (fs : List Field) (es : List Element) → IsNumber base → IsOf base v → Steps ws fs vs → Steps (a_value path base ∷ ws) (number base v ∷ fs) vs
one_number vs path base v ws fs es num is steps = one_step (a_value path base) ws (number base v) fs vs (refl, num, is) steps

one_byte : (vs : List Want) (path : List ℕ) (v : Value) (ws : List Want) (fs : List Field) (es : List Element) → IsOf Byte v → Steps ws fs vs → Steps (a_byte path ∷ ws) (packed v ∷ fs) vs
one_byte vs path v ws fs es is steps = one_step (a_byte path) ws (packed v) fs vs is steps

one_text : (vs : List Want) (path : List ℕ) (base : BaseType) (bytes : List ℕ) (ws : List Want) (fs : List Field) (es : List Element) → IsTextType base → length bytes < 2 ^ 31 → Steps ws fs vs
    → Steps (a_value path base ∷ ws) (string_fields bytes ++ fs) vs
one_text vs path base bytes ws fs es txt short steps =
    let n = length bytes in
    one_step (a_value path base) ws (size n) (text bytes ∷ padding n ∷ fs) vs (txt, short)
    (one_step (a_text n) (a_padding n ∷ ws) (text bytes) (padding n ∷ fs) vs refl (one_step (a_padding n) ws (padding n) fs vs refl steps))

-- a value
pub value_lead : (path : List ℕ) (base : BaseType) (v : Value) (vs : List Want) → IsOf base v → Steps (a_value path base ∷ vs) (value_fields base v) vs
value_lead path base v vs is =
    subst (λ fs. Steps (a_value path base ∷ vs) fs vs) (append-nil (value_fields base v))
    (value_walked (λ ws fs es. Steps ws fs vs) (silent vs) (one_number vs) (one_byte vs) (one_text vs) path base v vs [] [] is (no_steps vs))

pub scalar_lead : (path : List ℕ) (base : BaseType) (t : Tree) (vs : List Want) → FitsScalar base t → Steps (a_value path base ∷ vs) (scalar_fields base t) vs
scalar_lead path base t vs fit =
    subst (λ fs. Steps (a_value path base ∷ vs) fs vs) (append-nil (scalar_fields base t))
    (scalar_walked (λ ws fs es. Steps ws fs vs) (silent vs) (one_number vs) (one_byte vs) (one_text vs) path base t vs [] [] fit (no_steps vs))

pub array_lead : (above : List ℕ) (a : ArrayDecl) (t : Tree) (vs : List Want) → FitsArray a.base (sizes a) t → Steps (wants_of_array above a ++ vs) (array_fields a.base (values_in t)) vs
array_lead above a t vs fit =
    subst (λ fs. Steps (wants_of_array above a ++ vs) fs vs) (append-nil (array_fields a.base (values_in t)))
    (fitting_walked (λ ws fs es. Steps ws fs vs) (silent vs) (one_number vs) (one_byte vs) (one_text vs) above a t vs [] [] fit (no_steps vs))

pub cells_lead : (above : List ℕ) (columns : List Column) (ts : List Tree) (vs : List Want) → AllZip (λ c t. FitsScalar c.base t) columns ts → Steps (cell_wants above columns ++ vs) (cell_fields columns ts) vs
cells_lead above columns ts vs fit =
    subst (λ fs. Steps (cell_wants above columns ++ vs) fs vs) (append-nil (cell_fields columns ts))
    (cells_walked (λ ws fs es. Steps ws fs vs) (silent vs) (one_number vs) (one_byte vs) (one_text vs) above columns ts vs [] [] fit (no_steps vs))

pub member_lead : (above : List ℕ) (m : Member) (t : Tree) (vs : List Want) → Fits m t → Steps (wants above m ++ vs) (fields m t) vs
member_lead above m t vs fit =
    subst (λ fs. Steps (wants above m ++ vs) fs vs) (append-nil (fields m t))
    (member_walked (λ ws fs es. Steps ws fs vs) (silent vs) (one_number vs) (one_byte vs) (one_text vs) above m t vs [] [] fit (no_steps vs))

pub members_lead : (above : List ℕ) (ms : Members) (ts : List Tree) (vs : List Want) → FitsAll ms ts → Steps (wants_all above ms ++ vs) (fields_all ms ts) vs
members_lead above ms ts vs fit =
    subst (λ fs. Steps (wants_all above ms ++ vs) fs vs) (append-nil (fields_all ms ts))
    (members_walked (λ ws fs es. Steps ws fs vs) (silent vs) (one_number vs) (one_byte vs) (one_text vs) above ms ts vs [] [] fit (no_steps vs))

-- elements of an array, from one on
pub element_lead : (base : BaseType) (path : List ℕ) (v : Value) (vs : List Want) → IsOf base v → Steps (element_want base path ∷ vs) (element_fields base v) vs
element_lead Byte path v vs is = one_step (a_byte path) vs (packed v) [] vs is (no_steps vs)
element_lead Int16 path v vs is = value_lead path Int16 v vs is
element_lead UInt16 path v vs is = value_lead path UInt16 v vs is
element_lead Int32 path v vs is = value_lead path Int32 v vs is
element_lead UInt32 path v vs is = value_lead path UInt32 v vs is
element_lead Float32 path v vs is = value_lead path Float32 v vs is
element_lead Float64 path v vs is = value_lead path Float64 v vs is
element_lead Text path v vs is = value_lead path Text v vs is
element_lead Url path v vs is = value_lead path Url v vs is

pub elements_lead : (base : BaseType) (path ns : List ℕ) (at : ℕ) (us : List Value) (vs : List Want) → All (IsOf base) us → Steps (elements_left (element_want base) path ns at (length us) ++ vs) (elements_fields base us) vs
unfolding elements_left
elements_lead base path ns at [] vs all = no_steps vs
elements_lead base path ns at (u ∷ us) vs all =
    let later : List Want = elements_left (element_want base) path ns (at + 1) (length us) ++ vs in
    steps_join (element_want base (path ++ index_texts ns at) ∷ later) (element_fields base u) (elements_fields base us) later vs
    (element_lead base (path ++ index_texts ns at) u later (all_first (IsOf base) u us all)) (elements_lead base path ns (at + 1) us vs (all_rest (IsOf base) u us all))

-- rows of a Sequence, from one on
pub rows_lead : (above name : List ℕ) (columns : List Column) (row : ℕ) (ts : List Tree) (vs : List Want) → All (FitsRow columns) ts
    → Steps (rows above name columns row ∷ vs) (flat_map (row_fields columns) ts) (rows above name columns (row + length ts) ∷ vs)
rows_lead above name columns row [] vs all =
    let e : row ≡ row + 0 = omega arith in
    subst (λ k. Steps (rows above name columns row ∷ vs) [] (rows above name columns k ∷ vs)) e (no_steps (rows above name columns row ∷ vs))
rows_lead above name columns row (t ∷ ts) vs all =
    let here = all_first (FitsRow columns) t ts all in
    let path : List ℕ = row_path above name row in
    let behind : List Want = rows above name columns (row + 1) ∷ vs in
    let e : (row + 1) + length ts ≡ row + length (t ∷ ts) = omega arith in
    let rest = rows_lead above name columns (row + 1) ts vs (all_rest (FitsRow columns) t ts all) in
    let cells = steps_join (cell_wants path columns ++ behind) (cell_fields columns (kids t)) (flat_map (row_fields columns) ts) behind (rows above name columns ((row + 1) + length ts) ∷ vs)
    (cells_lead path columns (kids t) behind here.1) rest in
    subst (λ k. Steps (rows above name columns row ∷ vs) (flat_map (row_fields columns) (t ∷ ts)) (rows above name columns k ∷ vs)) e
    (one_step (rows above name columns row) vs (mark 0x5a) (cell_fields columns (kids t) ++ flat_map (row_fields columns) ts) (rows above name columns ((row + 1) + length ts) ∷ vs) (inl refl)
    (subst (λ x. Steps x (cell_fields columns (kids t) ++ flat_map (row_fields columns) ts) (rows above name columns ((row + 1) + length ts) ∷ vs)) (sym (append_assoc (cell_wants path columns) (rows above name columns (row + 1) ∷ []) vs)) cells))
