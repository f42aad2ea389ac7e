-- The elements of arrays and the rows of Sequences, one after the other.
use Rattle.std.proofs.Common.{◌≡◌, ℕ, zero, suc, ◌+◌, ◌-◌, ◌*◌, ◌<◌, List, [], ◌∷◌, ◌++◌, length, map, drop, get_or, All, inl, refl, ap, ◌∙◌, sym, subst, arith, append_assoc, append-nil, MatchBool, Bool, true, false}
use Rattle.std.proofs.lemmas.Bool.{false≢true}
use Rattle.std.proofs.lemmas.List.{length-map}
use Rattle.std.proofs.lemmas.Grind.{flat_map-append}
use Rattle.std.proofs.lemmas.List.Elements.{All-nil, All-push}
use Rattle.std.specs.List.{AllZip, flat_map}
use Rattle.dap_types.proofs.Views.{items-trees_of, kids-Many, trees-push, view-Many, view-One}
use Rattle.dap_types.specs.Model.{Tree, many, kids, trees_of, product}
use Rattle.dap_types.specs.View.{tree_view, trees_view}
use Rattle.dap_types.specs.declared.declarations.BaseType.{BaseType}
use Rattle.dap_types.specs.declared.declarations.Column.{Column}
use Rattle.dap_types.specs.declared.declarations.Dim.{Dim}
use Rattle.dap_types.specs.declared.values.Tree as code
use Rattle.dap_types.specs.declared.values.Tree.{One, Many}
use Rattle.dap_types.specs.declared.values.Value.{Value}
use Rattle.dap_model.proofs.Values.{length-values_in, values_of_fit}
use Rattle.dap_model.specs.Fits.{IsOf, IsMany, FitsArray, FitsRow, FitsScalar, values_in, values_in_all}
use Rattle.dap_model.specs.Xdr.{mark, cell_fields, row_fields}
use Rattle.xdr_fields.proofs.Judged.{no_steps, one_step}
use Rattle.xdr_fields.specs.Wants.{Want, Steps, cell_wants, elements_left, index_texts, row_path, rows}
use Rattle.xdr_decode.proofs.Leading.{elements_lead, rows_lead}
use Rattle.xdr_decode.proofs.Stopping.{spelt_none, spelt_then, stops_before, stops_behind}
use Rattle.xdr_decode.specs.declared.values.Stop.{Stop}
use Rattle.xdr_decode.specs.inner.Taken.{Spelt, Stops, element_fields, element_want, elements_fields, sizes_of}

pub left_split : (want : List ℕ → Want) (path ns : List ℕ) (at a b m : ℕ) → m ≡ a + b → elements_left want path ns at m ≡ elements_left want path ns at a ++ elements_left want path ns (at + a) b
unfolding elements_left
left_split want path ns at zero b m is =
    let e : m ≡ b = omega (arith, is) in
    let f : at ≡ at + 0 = omega arith in
    ap (λ k. elements_left want path ns at k) e ∙ ap (λ k. elements_left want path ns k b) f
left_split want path ns at (suc a) b zero is = absurd (omega (arith, is))
left_split want path ns at (suc a) b (suc m) is =
    let e : (at + 1) + a ≡ at + suc a = omega arith in
    ap (λ l. want (path ++ index_texts ns at) ∷ l) (left_split want path ns (at + 1) a b m (omega (arith, is)) ∙ ap (λ k. elements_left want path ns (at + 1) a ++ elements_left want path ns k b) e)

pub left_one : (want : List ℕ → Want) (path ns : List ℕ) (at : ℕ) → elements_left want path ns at 1 ≡ want (path ++ index_texts ns at) ∷ []
unfolding elements_left
left_one want path ns at = refl

-- the first ones were read
pub record EachRead (base : BaseType) (ns : List ℕ) (i : ℕ) (trees : List code.Tree) (start rest : List ℕ) : Type 0 where
  pub long : length trees ≡ i
  pub fit : All (FitsArray base ns) (map tree_view trees)
  pub read : Spelt (elements_fields base (values_in_all (trees_view trees))) start rest

pub each_start : (base : BaseType) (ns : List ℕ) (trees : List code.Tree) (start : List ℕ) → trees ≡ [] → EachRead base ns 0 trees start start
each_start base ns trees start none =
    subst (λ ts. EachRead base ns 0 ts start start) (sym none) (record { long = refl; fit = All-nil (FitsArray base ns); read = spelt_none start })

values_push : (ts : List Tree) (t : Tree) → values_in_all (trees_of (ts ++ t ∷ [])) ≡ values_in_all (trees_of ts) ++ values_in t
values_push [] t = append-nil (values_in t)
values_push (u ∷ ts) t = ap (λ l. values_in u ++ l) (values_push ts t) ∙ sym (append_assoc (values_in u) (values_in_all (trees_of ts)) (values_in t))

pub each_push : (base : BaseType) (ns : List ℕ) (i : ℕ) (trees more : List code.Tree) (start mid rest : List ℕ) (t : code.Tree)
    → EachRead base ns i trees start mid → more ≡ trees ++ t ∷ [] → FitsArray base ns (tree_view t) → Spelt (elements_fields base (values_in (tree_view t))) mid rest → EachRead base ns (i + 1) more start rest
each_push base ns i trees more start mid rest t so is fit read =
    let seen : map tree_view (trees ++ t ∷ []) ≡ map tree_view trees ++ tree_view t ∷ [] = trees-push trees t in
    let vs : List Value = values_in_all (trees_view trees) in
    let all : values_in_all (trees_view (trees ++ t ∷ [])) ≡ vs ++ values_in (tree_view t) = ap (λ ts. values_in_all (trees_of ts)) seen ∙ values_push (map tree_view trees) (tree_view t) in
    let fields : elements_fields base (values_in_all (trees_view (trees ++ t ∷ []))) ≡ elements_fields base vs ++ elements_fields base (values_in (tree_view t)) =
    ap (elements_fields base) all ∙ flat_map-append (element_fields base) vs (values_in (tree_view t)) in
    subst (λ ts. EachRead base ns (i + 1) ts start rest) (sym is) (record {
      long = omega (arith, so.long, length_two trees t);
      fit = subst (All (FitsArray base ns)) (sym seen) (All-push (FitsArray base ns) (map tree_view trees) (tree_view t) so.fit fit);
      read = subst (λ fs. Spelt fs start rest) (sym fields) (spelt_then (elements_fields base vs) (elements_fields base (values_in (tree_view t))) start mid rest so.read read);
    })
  where
    length_two : (xs : List code.Tree) (x : code.Tree) → length (xs ++ x ∷ []) ≡ length xs + 1
    length_two [] x = refl
    length_two (y ∷ xs) x = omega (arith, length_two xs x)

each_fit : (base : BaseType) (ns : List ℕ) (i : ℕ) (trees : List code.Tree) → length trees ≡ i → All (FitsArray base ns) (map tree_view trees) → FitsArray base (i ∷ ns) (many (trees_view trees))
each_fit base ns i trees long fit = (
  ap length (items-trees_of (map tree_view trees)) ∙ length-map trees tree_view ∙ long,
  subst (All (FitsArray base ns)) (sym (items-trees_of (map tree_view trees))) fit,
)

pub each_stop : (base : BaseType) (ns : List ℕ) (i count : ℕ) (trees : List code.Tree) (start mid : List ℕ) (e : Stop) → EachRead base ns i trees start mid → i < count
    → ((path ms : List ℕ) (at : ℕ) → Stops (elements_left (element_want base) path ms at (product ns)) mid e)
    → (path ms : List ℕ) (at : ℕ) → Stops (elements_left (element_want base) path ms at (count * product ns)) start e
each_stop base ns i count trees start mid e so lt stop path ms at =
    let p : ℕ = product ns in
    let k : ℕ = count - (i + 1) in
    let vs : List Value = values_in_all (trees_view trees) in
    let fit = each_fit base ns i trees so.long so.fit in
    let long : length vs ≡ i * p = length-values_in base (i ∷ ns) (many (trees_view trees)) fit in
    let parts : count ≡ (i + 1) + k = omega (arith, lt) in
    let whole : count * p ≡ i * p + (p + k * p) = ap (λ c. c * p) parts ∙ spread i k p in
    let later : List Want = elements_left (element_want base) path ms (at + i * p) (p + k * p) in
    let own : List Want = elements_left (element_want base) path ms (at + i * p) p in
    let rest : List Want = elements_left (element_want base) path ms ((at + i * p) + p) (k * p) in
    let steps : Steps (elements_left (element_want base) path ms at (i * p) ++ later) (elements_fields base vs) later =
    subst (λ n. Steps (elements_left (element_want base) path ms at n ++ later) (elements_fields base vs) later) long
    (elements_lead base path ms at vs later (values_of_fit base (i ∷ ns) (many (trees_view trees)) fit)) in
    let next : Stops later mid e =
    subst (λ ws. Stops ws mid e) (sym (left_split (element_want base) path ms (at + i * p) p (k * p) (p + k * p) refl)) (stops_before own rest mid e (stop path ms (at + i * p))) in
    subst (λ ws. Stops ws start e) (sym (left_split (element_want base) path ms at (i * p) (p + k * p) (count * p) whole))
    (stops_behind (elements_left (element_want base) path ms at (i * p) ++ later) later (elements_fields base vs) start mid e so.read steps next)
  where
    spread : (i k p : ℕ) → ((i + 1) + k) * p ≡ i * p + (p + k * p)
    spread i k p = omega arith

-- an array of no dimensions is one value
pub one_fits : (base : BaseType) (dims : List Dim) (v : Value) → dims ≡ [] → IsOf base v → FitsArray base (sizes_of dims) (tree_view (One v))
one_fits base dims v none is = subst (λ ds. FitsArray base (sizes_of ds) (tree_view (One v))) (sym none) (subst (FitsArray base []) (sym (view-One v)) is)

pub one_read : (base : BaseType) (v : Value) (start rest : List ℕ) → Spelt (element_fields base v) start rest → Spelt (elements_fields base (values_in (tree_view (One v)))) start rest
one_read base v start rest read =
    let is : elements_fields base (values_in (tree_view (One v))) ≡ element_fields base v = ap (λ t. elements_fields base (values_in t)) (view-One v) ∙ append-nil (element_fields base v) in
    subst (λ fs. Spelt fs start rest) (sym is) read

pub one_stop : (base : BaseType) (dims : List Dim) (start : List ℕ) (e : Stop) → dims ≡ [] → ((path : List ℕ) → Stops (element_want base path ∷ []) start e)
    → (path ms : List ℕ) (at : ℕ) → Stops (elements_left (element_want base) path ms at (product (sizes_of dims))) start e
one_stop base dims start e none stop path ms at =
    subst (λ ds. Stops (elements_left (element_want base) path ms at (product (sizes_of ds))) start e) (sym none)
    (subst (λ ws. Stops ws start e) (sym (left_one (element_want base) path ms at)) (stop (path ++ index_texts ms at)))

-- and one of some is as many of those without the first
sizes_apart : (dims : List Dim) (d : Dim) → ¬ (dims ≡ []) → d ≡ get_or dims 0 d → sizes_of dims ≡ d.size ∷ sizes_of (drop 1 dims)
sizes_apart [] d some is = absurd (some refl)
sizes_apart (c ∷ dims) d some is = ap (λ x. x.size ∷ sizes_of dims) (sym is)

pub many_fits : (base : BaseType) (dims : List Dim) (d : Dim) (trees : List code.Tree) → ¬ (dims ≡ []) → d ≡ get_or dims 0 d
    → length trees ≡ d.size → All (FitsArray base (sizes_of (drop 1 dims))) (map tree_view trees) → FitsArray base (sizes_of dims) (tree_view (Many trees))
many_fits base dims d trees some is long fit =
    subst (λ ns. FitsArray base ns (tree_view (Many trees))) (sym (sizes_apart dims d some is))
    (subst (FitsArray base (d.size ∷ sizes_of (drop 1 dims))) (sym (view-Many trees)) (each_fit base (sizes_of (drop 1 dims)) d.size trees long fit))

pub many_read : (base : BaseType) (trees : List code.Tree) (start rest : List ℕ) → Spelt (elements_fields base (values_in_all (trees_view trees))) start rest → Spelt (elements_fields base (values_in (tree_view (Many trees)))) start rest
many_read base trees start rest read = subst (λ t. Spelt (elements_fields base (values_in t)) start rest) (sym (view-Many trees)) read

pub many_stop : (base : BaseType) (dims : List Dim) (d : Dim) (start : List ℕ) (e : Stop) → ¬ (dims ≡ []) → d ≡ get_or dims 0 d
    → ((path ms : List ℕ) (at : ℕ) → Stops (elements_left (element_want base) path ms at (d.size * product (sizes_of (drop 1 dims)))) start e)
    → (path ms : List ℕ) (at : ℕ) → Stops (elements_left (element_want base) path ms at (product (sizes_of dims))) start e
many_stop base dims d start e some is stop path ms at =
    subst (λ ns. Stops (elements_left (element_want base) path ms at (product ns)) start e) (sym (sizes_apart dims d some is)) (stop path ms at)

-- the first rows were read
pub record RowsRead (columns : List Column) (trees : List code.Tree) (start rest : List ℕ) : Type 0 where
  pub fit : All (FitsRow columns) (map tree_view trees)
  pub read : Spelt (flat_map (row_fields columns) (map tree_view trees)) start rest

pub rows_start : (columns : List Column) (trees : List code.Tree) (start : List ℕ) → trees ≡ [] → RowsRead columns trees start start
rows_start columns trees start none =
    subst (λ ts. RowsRead columns ts start start) (sym none) (record { fit = All-nil (FitsRow columns); read = spelt_none start })

pub rows_push : (columns : List Column) (trees more cells : List code.Tree) (start mid behind rest : List ℕ)
    → RowsRead columns trees start mid → Spelt (mark 0x5a ∷ []) mid behind → more ≡ trees ++ Many cells ∷ []
    → AllZip (λ c t. FitsScalar c.base t) columns (map tree_view cells) → Spelt (cell_fields columns (map tree_view cells)) behind rest → RowsRead columns more start rest
rows_push columns trees more cells start mid behind rest so begun is fit read =
    let row : Tree = tree_view (Many cells) in
    let seen : map tree_view (trees ++ Many cells ∷ []) ≡ map tree_view trees ++ row ∷ [] = trees-push trees (Many cells) in
    let fields : flat_map (row_fields columns) (map tree_view (trees ++ Many cells ∷ [])) ≡ flat_map (row_fields columns) (map tree_view trees) ++ row_fields columns row =
    ap (flat_map (row_fields columns)) seen ∙ flat_map-append (row_fields columns) (map tree_view trees) (row ∷ [])
    ∙ ap (λ l. flat_map (row_fields columns) (map tree_view trees) ++ l) (append-nil (row_fields columns row)) in
    let whole : IsMany row = subst IsMany (sym (view-Many cells)) tt in
    let fits : AllZip (λ c t. FitsScalar c.base t) columns (kids row) = subst (AllZip (λ c t. FitsScalar c.base t) columns) (sym (kids-Many cells)) fit in
    let cells_read : Spelt (cell_fields columns (kids row)) behind rest = subst (λ ts. Spelt (cell_fields columns ts) behind rest) (sym (kids-Many cells)) read in
    let row_read : Spelt (row_fields columns row) mid rest = spelt_then (mark 0x5a ∷ []) (cell_fields columns (kids row)) mid behind rest begun cells_read in
    subst (λ ts. RowsRead columns ts start rest) (sym is) (record {
      fit = subst (All (FitsRow columns)) (sym seen) (All-push (FitsRow columns) (map tree_view trees) row so.fit (whole, fits));
      read = subst (λ fs. Spelt fs start rest) (sym fields) (spelt_then (flat_map (row_fields columns) (map tree_view trees)) (row_fields columns row) start mid rest so.read row_read);
    })

pub rows_end : (columns : List Column) (trees : List code.Tree) (start mid rest : List ℕ) → RowsRead columns trees start mid → Spelt (mark 0xa5 ∷ []) mid rest
    → Spelt (flat_map (row_fields columns) (map tree_view trees) ++ mark 0xa5 ∷ []) start rest
rows_end columns trees start mid rest so last = spelt_then (flat_map (row_fields columns) (map tree_view trees)) (mark 0xa5 ∷ []) start mid rest so.read last

-- a mark that stops
pub rows_stop : (columns : List Column) (trees : List code.Tree) (start mid : List ℕ) (e : Stop) → RowsRead columns trees start mid
    → ((above name : List ℕ) (row : ℕ) → Stops (rows above name columns row ∷ []) mid e) → (above name : List ℕ) → Stops (rows above name columns 0 ∷ []) start e
rows_stop columns trees start mid e so stop above name =
    let n : ℕ = 0 + length (map tree_view trees) in
    stops_behind (rows above name columns 0 ∷ []) (rows above name columns n ∷ []) (flat_map (row_fields columns) (map tree_view trees)) start mid e so.read
    (rows_lead above name columns 0 (map tree_view trees) [] so.fit) (stop above name n)

-- a row that stops
pub cells_stop : (columns : List Column) (trees : List code.Tree) (start mid behind : List ℕ) (e : Stop) → RowsRead columns trees start mid → Spelt (mark 0x5a ∷ []) mid behind
    → ((above : List ℕ) → Stops (cell_wants above columns) behind e) → (above name : List ℕ) → Stops (rows above name columns 0 ∷ []) start e
cells_stop columns trees start mid behind e so begun stop above name =
    rows_stop columns trees start mid e so (λ over own row.
    let cells : List Want = cell_wants (row_path over own row) columns in
    let later : List Want = cells ++ rows over own columns (row + 1) ∷ [] in
    stops_behind (rows over own columns row ∷ []) later (mark 0x5a ∷ []) mid behind e begun
    (one_step (rows over own columns row) [] (mark 0x5a) [] later (inl refl) (subst (λ l. Steps l [] later) (sym (append-nil later)) (no_steps later)))
    (stops_before cells (rows over own columns (row + 1) ∷ []) behind e (stop (row_path over own row)))) above name

-- by a test
pub mark_off : (A B : Type 0) (b : Bool) → b ≡ false → MatchBool b A B → B
mark_off A B true is m = absurd (false≢true (sym is))
mark_off A B false is m = m

pub mark_on : (A B : Type 0) (b : Bool) → b ≡ true → MatchBool b A B → A
mark_on A B true is m = m
mark_on A B false is m = absurd (false≢true is)

pub some_is : {X : Type 0} (xs : List X) → ¬ (length xs ≡ 0) → ¬ (xs ≡ [])
some_is xs some none = some (ap length none)
