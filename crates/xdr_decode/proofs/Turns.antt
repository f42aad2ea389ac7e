-- The cells of a row, the arrays of a Grid and the variables of a dataset, each read in turn.
use Rattle.std.proofs.Common.{◌≡◌, ℕ, suc, ◌+◌, ◌<◌, ◌≤◌, List, [], ◌∷◌, ◌++◌, length, map, get_or, refl, ap, ◌∙◌, sym, subst, arith, append-nil}
use Rattle.std.specs.List.{AllZip, flat_map}
use Rattle.dap_types.proofs.Views.{trees-push, view-One}
use Rattle.dap_types.specs.Model.{Tree, one, sizes}
use Rattle.dap_types.specs.View.{member_view, members_view, tree_view}
use Rattle.dap_types.specs.declared.declarations.ArrayDecl.{ArrayDecl}
use Rattle.dap_types.specs.declared.declarations.Column.{Column}
use Rattle.dap_types.specs.declared.declarations.Decl.{Decl}
use Rattle.dap_types.specs.declared.values.Tree as code
use Rattle.dap_types.specs.declared.values.Tree.{One}
use Rattle.dap_types.specs.declared.values.Value.{Value}
use Rattle.dap_model.specs.Fits.{IsOf, Fits, FitsAll, FitsArray, FitsScalar, values_in}
use Rattle.dap_model.specs.Xdr.{Field, array_fields, array_fields_of_each, cell_fields, fields, fields_all, in_turn, scalar_fields, value_fields}
use Rattle.xdr_fields.specs.Wants.{Want, a_value, cell_wants, wants, wants_all, wants_of_array, wants_of_arrays}
use Rattle.xdr_decode.proofs.InTurn.{Read, turn_fit, turn_push, turn_read, turn_start, turn_stop}
use Rattle.xdr_decode.proofs.Leading.{array_lead, member_lead, scalar_lead}
use Rattle.xdr_decode.specs.declared.values.Stop.{Stop}
use Rattle.xdr_decode.specs.inner.Taken.{Spelt, Stops}

none_seen : (trees : List code.Tree) → trees ≡ [] → map tree_view trees ≡ []
none_seen trees none = ap (map tree_view) none

more_seen : (trees more : List code.Tree) (t : code.Tree) → more ≡ trees ++ t ∷ [] → map tree_view more ≡ map tree_view trees ++ tree_view t ∷ []
more_seen trees more t is = ap (map tree_view) is ∙ trees-push trees t

-- ---- the cells of a row
abbrev FitsCell : Column → Tree → Type 0
FitsCell c t = FitsScalar c.base t

abbrev cell_form : Column → Tree → List Field
cell_form c t = scalar_fields c.base t

abbrev cell_want : List ℕ → Column → List Want
cell_want above c = a_value (above ++ c.name) c.base ∷ []

abbrev pub CellsRead : List Column → ℕ → List code.Tree → List ℕ → List ℕ → Type 0
CellsRead columns i trees start rest = Read (λ c t. FitsScalar c.base t) (λ c t. scalar_fields c.base t) columns i (map tree_view trees) start rest

pub cells_start : (columns : List Column) (trees : List code.Tree) (start : List ℕ) → trees ≡ [] → CellsRead columns 0 trees start start
cells_start columns trees start none = turn_start (λ c t. FitsScalar c.base t) (λ c t. scalar_fields c.base t) columns (map tree_view trees) start (none_seen trees none)

pub cells_push : (columns : List Column) (i : ℕ) (trees more : List code.Tree) (start mid rest : List ℕ) (c : Column) (v : Value) → CellsRead columns i trees start mid → i < length columns → c ≡ get_or columns i c
    → more ≡ trees ++ One v ∷ [] → IsOf c.base v → Spelt (value_fields c.base v) mid rest → CellsRead columns (i + 1) more start rest
cells_push columns i trees more start mid rest c v so lt at is fit read =
    turn_push (λ c t. FitsScalar c.base t) (λ c t. scalar_fields c.base t) columns i (map tree_view trees) (map tree_view more) start mid rest c (one v) so lt at
    (more_seen trees more (One v) is ∙ ap (λ t. map tree_view trees ++ t ∷ []) (view-One v)) fit (subst (λ fs. Spelt fs mid rest) (sym (append-nil (value_fields c.base v))) read)

cells_flat : (above : List ℕ) (columns : List Column) → flat_map (λ c. a_value (above ++ c.name) c.base ∷ []) columns ≡ cell_wants above columns
cells_flat above [] = refl
cells_flat above (c ∷ columns) = ap (λ l. a_value (above ++ c.name) c.base ∷ l) (cells_flat above columns)

pub cells_stopped : (columns : List Column) (i : ℕ) (trees : List code.Tree) (start mid : List ℕ) (c : Column) (e : Stop) → CellsRead columns i trees start mid → i < length columns → c ≡ get_or columns i c
    → ((path : List ℕ) → Stops (a_value path c.base ∷ []) mid e) → (above : List ℕ) → Stops (cell_wants above columns) start e
cells_stopped columns i trees start mid c e so lt at stop above =
    subst (λ ws. Stops ws start e) (cells_flat above columns)
    (turn_stop (λ c t. FitsScalar c.base t) (λ c t. scalar_fields c.base t) (λ c. a_value (above ++ c.name) c.base ∷ []) (λ c t vs fit. scalar_lead (above ++ c.name) c.base t vs fit) columns i (map tree_view trees) start mid c e so lt at
    (stop (above ++ c.name)))

pub cells_fit : (columns : List Column) (i : ℕ) (trees : List code.Tree) (start rest : List ℕ) → CellsRead columns i trees start rest → length columns ≤ i → AllZip (λ c t. FitsScalar c.base t) columns (map tree_view trees)
cells_fit columns i trees start rest so all = turn_fit (λ c t. FitsScalar c.base t) (λ c t. scalar_fields c.base t) columns i (map tree_view trees) start rest so all

pub cells_read : (columns : List Column) (i : ℕ) (trees : List code.Tree) (start rest : List ℕ) → CellsRead columns i trees start rest → length columns ≤ i → Spelt (cell_fields columns (map tree_view trees)) start rest
cells_read columns i trees start rest so all = turn_read (λ c t. FitsScalar c.base t) (λ c t. scalar_fields c.base t) columns i (map tree_view trees) start rest so all

-- ---- the arrays of a Grid
abbrev pub ArraysRead : List ArrayDecl → ℕ → List code.Tree → List ℕ → List ℕ → Type 0
ArraysRead arrays i trees start rest = Read (λ a t. FitsArray a.base (sizes a) t) (λ a t. array_fields a.base (values_in t)) arrays i (map tree_view trees) start rest

pub arrays_start : (arrays : List ArrayDecl) (trees : List code.Tree) (start : List ℕ) → trees ≡ [] → ArraysRead arrays 0 trees start start
arrays_start arrays trees start none = turn_start (λ a t. FitsArray a.base (sizes a) t) (λ a t. array_fields a.base (values_in t)) arrays (map tree_view trees) start (none_seen trees none)

pub arrays_push : (arrays : List ArrayDecl) (i : ℕ) (trees more : List code.Tree) (start mid rest : List ℕ) (a : ArrayDecl) (t : code.Tree) → ArraysRead arrays i trees start mid → i < length arrays → a ≡ get_or arrays i a
    → more ≡ trees ++ t ∷ [] → FitsArray a.base (sizes a) (tree_view t) → Spelt (array_fields a.base (values_in (tree_view t))) mid rest → ArraysRead arrays (i + 1) more start rest
arrays_push arrays i trees more start mid rest a t so lt at is fit read =
    turn_push (λ a t. FitsArray a.base (sizes a) t) (λ a t. array_fields a.base (values_in t)) arrays i (map tree_view trees) (map tree_view more) start mid rest a (tree_view t) so lt at (more_seen trees more t is) fit read

arrays_flat : (above : List ℕ) (arrays : List ArrayDecl) → flat_map (wants_of_array above) arrays ≡ wants_of_arrays above arrays
arrays_flat above [] = refl
arrays_flat above (a ∷ arrays) = ap (λ l. wants_of_array above a ++ l) (arrays_flat above arrays)

pub arrays_stopped : (arrays : List ArrayDecl) (i : ℕ) (trees : List code.Tree) (start mid : List ℕ) (a : ArrayDecl) (e : Stop) → ArraysRead arrays i trees start mid → i < length arrays → a ≡ get_or arrays i a
    → ((above : List ℕ) → Stops (wants_of_array above a) mid e) → (above : List ℕ) → Stops (wants_of_arrays above arrays) start e
arrays_stopped arrays i trees start mid a e so lt at stop above =
    subst (λ ws. Stops ws start e) (arrays_flat above arrays)
    (turn_stop (λ a t. FitsArray a.base (sizes a) t) (λ a t. array_fields a.base (values_in t)) (wants_of_array above) (λ a t vs fit. array_lead above a t vs fit) arrays i (map tree_view trees) start mid a e so lt at (stop above))

pub arrays_fit : (arrays : List ArrayDecl) (i : ℕ) (trees : List code.Tree) (start rest : List ℕ) → ArraysRead arrays i trees start rest → length arrays ≤ i → AllZip (λ a t. FitsArray a.base (sizes a) t) arrays (map tree_view trees)
arrays_fit arrays i trees start rest so all = turn_fit (λ a t. FitsArray a.base (sizes a) t) (λ a t. array_fields a.base (values_in t)) arrays i (map tree_view trees) start rest so all

pub arrays_read : (arrays : List ArrayDecl) (i : ℕ) (trees : List code.Tree) (start rest : List ℕ) → ArraysRead arrays i trees start rest → length arrays ≤ i → Spelt (array_fields_of_each arrays (map tree_view trees)) start rest
arrays_read arrays i trees start rest so all = turn_read (λ a t. FitsArray a.base (sizes a) t) (λ a t. array_fields a.base (values_in t)) arrays i (map tree_view trees) start rest so all

-- the first of some, and the others behind it
pub next_of : (a : ArrayDecl) (arrays : List ArrayDecl) (i : ℕ) (b : ArrayDecl) → b ≡ get_or arrays i b → b ≡ get_or (a ∷ arrays) (i + 1) b
next_of a arrays i b is =
    let e : suc i ≡ i + 1 = omega arith in
    subst (λ k. b ≡ get_or (a ∷ arrays) k b) e is

-- ---- the variables of a dataset
abbrev pub MembersRead : List Decl → ℕ → List code.Tree → List ℕ → List ℕ → Type 0
MembersRead decls i trees start rest = Read (λ d t. Fits (member_view d) t) (λ d t. fields (member_view d) t) decls i (map tree_view trees) start rest

pub members_start : (decls : List Decl) (trees : List code.Tree) (start : List ℕ) → trees ≡ [] → MembersRead decls 0 trees start start
members_start decls trees start none = turn_start (λ d t. Fits (member_view d) t) (λ d t. fields (member_view d) t) decls (map tree_view trees) start (none_seen trees none)

pub members_push : (decls : List Decl) (i : ℕ) (trees more : List code.Tree) (start mid rest : List ℕ) (d : Decl) (t : code.Tree) → MembersRead decls i trees start mid → i < length decls → d ≡ get_or decls i d
    → more ≡ trees ++ t ∷ [] → Fits (member_view d) (tree_view t) → Spelt (fields (member_view d) (tree_view t)) mid rest → MembersRead decls (i + 1) more start rest
members_push decls i trees more start mid rest d t so lt at is fit read =
    turn_push (λ d t. Fits (member_view d) t) (λ d t. fields (member_view d) t) decls i (map tree_view trees) (map tree_view more) start mid rest d (tree_view t) so lt at (more_seen trees more t is) fit read

members_flat : (above : List ℕ) (decls : List Decl) → flat_map (λ d. wants above (member_view d)) decls ≡ wants_all above (members_view decls)
members_flat above [] = refl
members_flat above (d ∷ decls) = ap (λ l. wants above (member_view d) ++ l) (members_flat above decls)

pub members_stopped : (decls : List Decl) (i : ℕ) (trees : List code.Tree) (start mid : List ℕ) (d : Decl) (e : Stop) → MembersRead decls i trees start mid → i < length decls → d ≡ get_or decls i d
    → ((above : List ℕ) → Stops (wants above (member_view d)) mid e) → (above : List ℕ) → Stops (wants_all above (members_view decls)) start e
members_stopped decls i trees start mid d e so lt at stop above =
    subst (λ ws. Stops ws start e) (members_flat above decls)
    (turn_stop (λ d t. Fits (member_view d) t) (λ d t. fields (member_view d) t) (λ d. wants above (member_view d)) (λ d t vs fit. member_lead above (member_view d) t vs fit) decls i (map tree_view trees) start mid d e so lt at (stop above))

all_fit : (decls : List Decl) (ts : List Tree) → AllZip (λ d t. Fits (member_view d) t) decls ts → FitsAll (members_view decls) ts
all_fit [] [] fit = tt
all_fit [] (t ∷ ts) fit = absurd fit
all_fit (d ∷ decls) [] fit = absurd fit
all_fit (d ∷ decls) (t ∷ ts) fit = (fit.0, all_fit decls ts fit.1)

all_fields : (decls : List Decl) (ts : List Tree) → AllZip (λ d t. Fits (member_view d) t) decls ts → in_turn (λ d t. fields (member_view d) t) decls ts ≡ fields_all (members_view decls) ts
all_fields [] [] fit = refl
all_fields [] (t ∷ ts) fit = absurd fit
all_fields (d ∷ decls) [] fit = absurd fit
all_fields (d ∷ decls) (t ∷ ts) fit = ap (λ l. fields (member_view d) t ++ l) (all_fields decls ts fit.1)

pub members_fit : (decls : List Decl) (i : ℕ) (trees : List code.Tree) (start rest : List ℕ) → MembersRead decls i trees start rest → length decls ≤ i → FitsAll (members_view decls) (map tree_view trees)
members_fit decls i trees start rest so all = all_fit decls (map tree_view trees) (turn_fit (λ d t. Fits (member_view d) t) (λ d t. fields (member_view d) t) decls i (map tree_view trees) start rest so all)

pub members_read : (decls : List Decl) (i : ℕ) (trees : List code.Tree) (start rest : List ℕ) → MembersRead decls i trees start rest → length decls ≤ i → Spelt (fields_all (members_view decls) (map tree_view trees)) start rest
members_read decls i trees start rest so all =
    subst (λ fs. Spelt fs start rest) (all_fields decls (map tree_view trees) (turn_fit (λ d t. Fits (member_view d) t) (λ d t. fields (member_view d) t) decls i (map tree_view trees) start rest so all))
    (turn_read (λ d t. Fits (member_view d) t) (λ d t. fields (member_view d) t) decls i (map tree_view trees) start rest so all)
