-- A variable by its kind: what was read of it, and why nothing was.
use Rattle.std.proofs.Common.{◌≡◌, ℕ, List, [], ◌∷◌, ◌++◌, map, All, codes, ap, ◌∙◌, sym, subst, append-nil}
use Rattle.std.specs.List.{AllZip, flat_map}
use Rattle.dap_types.proofs.Views.{kids-Many, view-Many, view-One}
use Rattle.dap_types.specs.Model.{Member, Members, scalar, structure, grid, sequence, sizes}
use Rattle.dap_types.specs.View.{tree_view}
use Rattle.dap_types.specs.declared.declarations.ArrayDecl.{ArrayDecl}
use Rattle.dap_types.specs.declared.declarations.Column.{Column}
use Rattle.dap_types.specs.declared.values.Tree as code
use Rattle.dap_types.specs.declared.values.Tree.{One, Many}
use Rattle.dap_types.specs.declared.values.Value.{Value}
use Rattle.dap_model.specs.Fits.{IsOf, IsMany, Fits, FitsAll, FitsArray, FitsRow, FitsScalar}
use Rattle.dap_model.specs.Xdr.{mark, array_fields_of_each, fields, fields_all, row_fields, value_fields}
use Rattle.xdr_fields.specs.Wants.{a_value, rows, wants, wants_all, wants_of_arrays}
use Rattle.xdr_decode.specs.declared.values.Stop.{Stop}
use Rattle.xdr_decode.specs.inner.Taken.{Spelt, Stops}

pub scalar_fits : (m : Member) (c : Column) (v : Value) → m ≡ scalar c → IsOf c.base v → Fits m (tree_view (One v))
scalar_fits m c v is fit = subst (λ n. Fits n (tree_view (One v))) (sym is) (subst (FitsScalar c.base) (sym (view-One v)) fit)

pub scalar_read : (m : Member) (c : Column) (v : Value) (a b : List ℕ) → m ≡ scalar c → Spelt (value_fields c.base v) a b → Spelt (fields m (tree_view (One v))) a b
scalar_read m c v a b is read =
    let same : fields m (tree_view (One v)) ≡ value_fields c.base v = ap (λ n. fields n (tree_view (One v))) is ∙ ap (fields (scalar c)) (view-One v) ∙ append-nil (value_fields c.base v) in
    subst (λ fs. Spelt fs a b) (sym same) read

pub scalar_stop : (above : List ℕ) (m : Member) (c : Column) (a : List ℕ) (e : Stop) → m ≡ scalar c → ((path : List ℕ) → Stops (a_value path c.base ∷ []) a e) → Stops (wants above m) a e
scalar_stop above m c a e is stop = subst (λ n. Stops (wants above n) a e) (sym is) (stop (above ++ c.name))

is_many : (trees : List code.Tree) → IsMany (tree_view (Many trees))
is_many trees = subst IsMany (sym (view-Many trees)) tt

pub structure_fits : (m : Member) (name : List ℕ) (parts : Members) (trees : List code.Tree) → m ≡ structure name parts → FitsAll parts (map tree_view trees) → Fits m (tree_view (Many trees))
structure_fits m name parts trees is fit = subst (λ n. Fits n (tree_view (Many trees))) (sym is) (is_many trees, subst (FitsAll parts) (sym (kids-Many trees)) fit)

pub structure_read : (m : Member) (name : List ℕ) (parts : Members) (trees : List code.Tree) (a b : List ℕ) → m ≡ structure name parts → Spelt (fields_all parts (map tree_view trees)) a b → Spelt (fields m (tree_view (Many trees))) a b
structure_read m name parts trees a b is read =
    subst (λ fs. Spelt fs a b) (sym (ap (λ n. fields n (tree_view (Many trees))) is ∙ ap (fields_all parts) (kids-Many trees))) read

pub structure_stop : (above : List ℕ) (m : Member) (name : List ℕ) (parts : Members) (a : List ℕ) (e : Stop) → m ≡ structure name parts → ((over : List ℕ) → Stops (wants_all over parts) a e) → Stops (wants above m) a e
structure_stop above m name parts a e is stop = subst (λ n. Stops (wants above n) a e) (sym is) (stop (above ++ name ++ codes "."))

pub grid_fits : (m : Member) (name : List ℕ) (own : ArrayDecl) (maps : List ArrayDecl) (trees : List code.Tree) → m ≡ grid name own maps → AllZip (λ b t. FitsArray b.base (sizes b) t) (own ∷ maps) (map tree_view trees) → Fits m (tree_view (Many trees))
grid_fits m name own maps trees is fit =
    subst (λ n. Fits n (tree_view (Many trees))) (sym is) (is_many trees, subst (AllZip (λ b t. FitsArray b.base (sizes b) t) (own ∷ maps)) (sym (kids-Many trees)) fit)

pub grid_read : (m : Member) (name : List ℕ) (own : ArrayDecl) (maps : List ArrayDecl) (trees : List code.Tree) (a b : List ℕ) → m ≡ grid name own maps → Spelt (array_fields_of_each (own ∷ maps) (map tree_view trees)) a b
    → Spelt (fields m (tree_view (Many trees))) a b
grid_read m name own maps trees a b is read =
    subst (λ fs. Spelt fs a b) (sym (ap (λ n. fields n (tree_view (Many trees))) is ∙ ap (array_fields_of_each (own ∷ maps)) (kids-Many trees))) read

pub grid_stop : (above : List ℕ) (m : Member) (name : List ℕ) (own : ArrayDecl) (maps : List ArrayDecl) (a : List ℕ) (e : Stop) → m ≡ grid name own maps → ((over : List ℕ) → Stops (wants_of_arrays over (own ∷ maps)) a e) → Stops (wants above m) a e
grid_stop above m name own maps a e is stop = subst (λ n. Stops (wants above n) a e) (sym is) (stop (above ++ name ++ codes "."))

pub sequence_fits : (m : Member) (name : List ℕ) (columns : List Column) (trees : List code.Tree) → m ≡ sequence name columns → All (FitsRow columns) (map tree_view trees) → Fits m (tree_view (Many trees))
sequence_fits m name columns trees is fit = subst (λ n. Fits n (tree_view (Many trees))) (sym is) (is_many trees, subst (All (FitsRow columns)) (sym (kids-Many trees)) fit)

pub sequence_read : (m : Member) (name : List ℕ) (columns : List Column) (trees : List code.Tree) (a b : List ℕ) → m ≡ sequence name columns → Spelt (flat_map (row_fields columns) (map tree_view trees) ++ mark 0xa5 ∷ []) a b
    → Spelt (fields m (tree_view (Many trees))) a b
sequence_read m name columns trees a b is read =
    subst (λ fs. Spelt fs a b) (sym (ap (λ n. fields n (tree_view (Many trees))) is ∙ ap (λ ts. flat_map (row_fields columns) ts ++ mark 0xa5 ∷ []) (kids-Many trees))) read

pub sequence_stop : (above : List ℕ) (m : Member) (name : List ℕ) (columns : List Column) (a : List ℕ) (e : Stop) → m ≡ sequence name columns → ((over own : List ℕ) → Stops (rows over own columns 0 ∷ []) a e) → Stops (wants above m) a e
sequence_stop above m name columns a e is stop = subst (λ n. Stops (wants above n) a e) (sym is) (stop above name)
