-- The arrays of a response have no more elements than the response has bytes, and those of what is left
-- of it no more than they.
use Rattle.std.proofs.Common.{◌≡◌, ℕ, ◌+◌, ◌≤◌, Bool, true, false, cond, List, [], ◌∷◌, ◌++◌, length, map, All, Option, Some, None, refl, sym, ap, ◌∙◌, subst, arith, length-append}
use Rattle.std.proofs.lemmas.List.Elements.{All-append, All-cons, All-nil}
use Rattle.std.specs.List.{AllZip, zip}
use Rattle.std.specs.Option.{option_map_or}
use Rattle.std.specs.Prelude.{⊤}
use Rattle.dap_types.specs.Model.{Member, scalar, array, structure, grid, sequence, Members, no_members, member, members_of, Dataset, Tree, kids, product, sizes, count, name_of}
use Rattle.dap_types.specs.WellFormed.{Place, place, places, part_places, leaf_places, elements_of}
use Rattle.dap_types.specs.declared.declarations.ArrayDecl.{ArrayDecl}
use Rattle.dap_types.specs.declared.declarations.BaseType.{BaseType}
use Rattle.dap_types.specs.declared.declarations.BaseType.TheVariants.{Byte, Int16, UInt16, Int32, UInt32, Float32, Float64, Text, Url}
use Rattle.dap_types.specs.declared.declarations.Column.{Column}
use Rattle.dap_types.specs.declared.declarations.Dim.{Dim}
use Rattle.dap_types.specs.declared.slabs.Slab.{Slab}
use Rattle.dap_types.specs.declared.values.Value.{Value}
use Rattle.dap_model.proofs.Limits.{not_too_large}
use Rattle.dap_model.proofs.Values.{all_first, all_rest, bytes_of-append, length-values_in, values_of_fit}
use Rattle.dap_model.specs.Body.{too_large}
use Rattle.dap_model.specs.Cutting.{AreWithin, counted}
use Rattle.dap_model.specs.Dds.{dds}
use Rattle.dap_model.specs.Filter.{Marks, Suits, SuitEach, SuitsMember, SuitsAll, as_grid, constrained, filtered, filtered_all, has_mark, marked, stays_grid}
use Rattle.dap_model.specs.Fits.{Fits, FitsAll, FitsArray, IsOf, values_in}
use Rattle.dap_model.specs.Xdr.{array_fields, array_fields_of_each, bytes_of, fields, fields_all, SpellsFields}
use Rattle.xdr_decode.specs.inner.Taken.{element_fields, elements_fields}
use Rattle.xdr_encode.specs.Leaves.{counts_of, filler_of}
use Rattle.xdr_values.proofs.ArrayParts.{array_single, three_parts}
use Rattle.saved_source.proofs.ArrayParts.{count_few, counts_product}
use Rattle.xdr_values.proofs.ElementRuns.{run}
use Rattle.xdr_values.proofs.Exact.{fields_exact}
use Rattle.xdr_values.proofs.ElementRuns.{element_long}
use Rattle.xdr_values.proofs.Splitting.{spells_split}
use Rattle.xdr_values.proofs.TextRuns.{value_some}
use Rattle.saved_source.specs.Responses.{IsSaved, renamed, renamed_all, renamed_array}

-- ---- in bytes
element_some : (base : BaseType) (v : Value) → IsOf base v → 1 ≤ length (bytes_of (element_fields base v))
element_some Byte v is = omega (arith, element_long Byte v (λ e. cc e) (λ e. cc e) is)
element_some Int16 v is = omega (arith, element_long Int16 v (λ e. cc e) (λ e. cc e) is)
element_some UInt16 v is = omega (arith, element_long UInt16 v (λ e. cc e) (λ e. cc e) is)
element_some Int32 v is = omega (arith, element_long Int32 v (λ e. cc e) (λ e. cc e) is)
element_some UInt32 v is = omega (arith, element_long UInt32 v (λ e. cc e) (λ e. cc e) is)
element_some Float32 v is = omega (arith, element_long Float32 v (λ e. cc e) (λ e. cc e) is)
element_some Float64 v is = omega (arith, element_long Float64 v (λ e. cc e) (λ e. cc e) is)
element_some Text v is = omega (arith, value_some Text v tt is)
element_some Url v is = omega (arith, value_some Url v tt is)

run_long : (base : BaseType) (vs : List Value) → All (IsOf base) vs → length vs ≤ length (run base vs)
run_long base [] all = omega arith
run_long base (v ∷ vs) all =
    omega (
      arith,
      ap length (bytes_of-append (element_fields base v) (elements_fields base vs)),
      length-append (bytes_of (element_fields base v)) (bytes_of (elements_fields base vs)),
      element_some base v (all_first (IsOf base) v vs all),
      run_long base vs (all_rest (IsOf base) v vs all),
    )

array_few : (a : ArrayDecl) (t : Tree) (own : List ℕ) (n : ℕ) → FitsArray a.base (sizes a) t → SpellsFields (array_fields a.base (values_in t)) own → length own ≤ n → product (sizes a) ≤ n
array_few a t own n fit spelled le =
    let vs : List Value = values_in t in
    let k : ℕ = length vs in
    let is : own ≡ counts_of a.base k ++ (run a.base vs ++ filler_of a.base k) = fields_exact (array_fields a.base vs) own (array_single a.base vs) spelled ∙ three_parts a.base vs in
    omega (arith, ap length is, length-append (counts_of a.base k) (run a.base vs ++ filler_of a.base k), length-append (run a.base vs) (filler_of a.base k), run_long a.base vs (values_of_fit a.base (sizes a) t fit), length-values_in a.base (sizes a) t fit, le)

-- ---- of variables
abbrev EachFew : ℕ → List ArrayDecl → Type 0
EachFew n [] = ⊤
EachFew n (a ∷ arrays) = (product (sizes a) ≤ n) × EachFew n arrays

abbrev mutual
  IsFew : ℕ → Member → Type 0
  IsFew n (scalar column) = ⊤
  IsFew n (array a) = product (sizes a) ≤ n
  IsFew n (structure name parts) = AllFew n parts
  IsFew n (grid name a maps) = EachFew n (a ∷ maps)
  IsFew n (sequence name columns) = ⊤

  AllFew : ℕ → Members → Type 0
  AllFew n no_members = ⊤
  AllFew n (member m ms) = IsFew n m × AllFew n ms

each_few : (arrays : List ArrayDecl) (ts : List Tree) (own : List ℕ) (n : ℕ) → AllZip (λ a t. FitsArray a.base (sizes a) t) arrays ts → SpellsFields (array_fields_of_each arrays ts) own → length own ≤ n → EachFew n arrays
each_few [] ts own n fit spelled le = tt
each_few (a ∷ arrays) [] own n fit spelled le = absurd fit
each_few (a ∷ arrays) (t ∷ ts) own n fit spelled le =
    let (x, y, parts, first, rest) = spells_split (array_fields a.base (values_in t)) (array_fields_of_each arrays ts) own spelled in
    let long : length own ≡ length x + length y = ap length parts ∙ length-append x y in
    (array_few a t x n fit.0 first (omega (arith, long, le)), each_few arrays ts y n fit.1 rest (omega (arith, long, le)))

mutual
  is_few : (m : Member) (t : Tree) (own : List ℕ) (n : ℕ) → Fits m t → SpellsFields (fields m t) own → length own ≤ n → IsFew n m
  is_few (scalar column) t own n fit spelled le = tt
  is_few (array a) t own n fit spelled le = array_few a t own n fit spelled le
  is_few (structure name parts) t own n fit spelled le = all_few parts (kids t) own n fit.1 spelled le
  is_few (grid name a maps) t own n fit spelled le = each_few (a ∷ maps) (kids t) own n fit.1 spelled le
  is_few (sequence name columns) t own n fit spelled le = tt

  all_few : (ms : Members) (ts : List Tree) (own : List ℕ) (n : ℕ) → FitsAll ms ts → SpellsFields (fields_all ms ts) own → length own ≤ n → AllFew n ms
  all_few no_members ts own n fit spelled le = tt
  all_few (member m ms) [] own n fit spelled le = absurd fit
  all_few (member m ms) (t ∷ ts) own n fit spelled le =
      let (x, y, parts, first, rest) = spells_split (fields m t) (fields_all ms ts) own spelled in
      let long : length own ≡ length x + length y = ap length parts ∙ length-append x y in
      (is_few m t x n fit.0 first (omega (arith, long, le)), all_few ms ts y n fit.1 rest (omega (arith, long, le)))

-- ---- of what is left of them
counted_few : (a : ArrayDecl) (slabs : List Slab) (n : ℕ) → AreWithin slabs (sizes a) → product (sizes a) ≤ n → product (sizes (counted slabs a)) ≤ n
counted_few a slabs n within le = omega (arith, counts_product a.dims slabs within, count_few slabs (sizes a) within, le)

marked_few : (marks : Marks) (k : ℕ) (arrays : List ArrayDecl) (n : ℕ) → SuitEach marks k arrays → EachFew n arrays → EachFew n (marked counted marks k arrays)
marked_few marks k [] n suit few = tt
marked_few marks k (a ∷ arrays) n suit few = go (marks k) suit.0 (marked_few marks (k + 1) arrays n suit.1 few.1)
  where
    go : (o : Option (List Slab)) → Suits o a → EachFew n (marked counted marks (k + 1) arrays) → EachFew n (option_map_or (λ slabs. counted slabs a ∷ marked counted marks (k + 1) arrays) o (marked counted marks (k + 1) arrays))
    go None suits more = more
    go (Some slabs) suits more = (counted_few a slabs n suits few.0, more)

as_members_few : (n : ℕ) (arrays : List ArrayDecl) → EachFew n arrays → AllFew n (members_of (map array arrays))
as_members_few n [] few = tt
as_members_few n (a ∷ arrays) few = (few.0, as_members_few n arrays few.1)

as_grid_few : (n : ℕ) (name : List ℕ) (arrays : List ArrayDecl) → EachFew n arrays → IsFew n (as_grid name arrays)
as_grid_few n name [] few = tt
as_grid_few n name (a ∷ arrays) few = few

either_few : (b : Bool) (n : ℕ) (name : List ℕ) (arrays : List ArrayDecl) → EachFew n arrays → IsFew n (cond b (as_grid name arrays) (structure name (members_of (map array arrays))))
either_few true n name arrays few = as_grid_few n name arrays few
either_few false n name arrays few = as_members_few n arrays few

no_slabs_left : (dims : List Dim) → product (map (λ d. d.size) (map (λ (p : Dim × Slab). record p.0 { size = p.1.count }) (zip dims []))) ≡ 1
no_slabs_left [] = refl
no_slabs_left (d ∷ dims) = refl

cut_few : (a : ArrayDecl) (n : ℕ) (o : Option (List Slab)) → 1 ≤ n → Suits o a → product (sizes a) ≤ n → product (sizes (counted (option_map_or (λ slabs. slabs) o []) a)) ≤ n
cut_few a n None some suits few = omega (arith, no_slabs_left a.dims, some)
cut_few a n (Some slabs) some suits few = counted_few a slabs n suits few

kept_few : (b : Bool) (n : ℕ) (m : Member) (ms : Members) → IsFew n m → AllFew n ms → AllFew n (cond b (member m ms) ms)
kept_few true n m ms one rest = (one, rest)
kept_few false n m ms one rest = rest

mutual
  left_few : (marks : Marks) (k : ℕ) (m : Member) (n : ℕ) → 1 ≤ n → SuitsMember marks k m → IsFew n m → IsFew n (filtered marks k m)
  left_few marks k (scalar column) n some suits few = tt
  left_few marks k (array a) n some suits few = cut_few a n (marks k) some suits few
  left_few marks k (structure name parts) n some suits few = all_left_few marks (k + 1) parts n some suits few
  left_few marks k (grid name a maps) n some suits few = either_few (stays_grid marks k) n name (marked counted marks (k + 1) (a ∷ maps)) (marked_few marks (k + 1) (a ∷ maps) n suits few)
  left_few marks k (sequence name columns) n some suits few = tt

  all_left_few : (marks : Marks) (k : ℕ) (ms : Members) (n : ℕ) → 1 ≤ n → SuitsAll marks k ms → AllFew n ms → AllFew n (filtered_all marks k ms)
  all_left_few marks k no_members n some suits few = tt
  all_left_few marks k (member m ms) n some suits few =
      kept_few (has_mark marks k m) n (filtered marks k m) (filtered_all marks (k + count m) ms) (left_few marks k m n some suits.0 few.0) (all_left_few marks (k + count m) ms n some suits.1 few.1)

-- ---- under other names
each_renamed : (n : ℕ) (arrays : List ArrayDecl) → EachFew n arrays → EachFew n (map renamed_array arrays)
each_renamed n [] few = tt
each_renamed n (a ∷ arrays) few = (few.0, each_renamed n arrays few.1)

mutual
  one_renamed : (n : ℕ) (m : Member) → IsFew n m → IsFew n (renamed m)
  one_renamed n (scalar column) few = tt
  one_renamed n (array a) few = few
  one_renamed n (structure name parts) few = every_renamed n parts few
  one_renamed n (grid name a maps) few = each_renamed n (a ∷ maps) few
  one_renamed n (sequence name columns) few = tt

  every_renamed : (n : ℕ) (ms : Members) → AllFew n ms → AllFew n (renamed_all ms)
  every_renamed n no_members few = tt
  every_renamed n (member m ms) few = (one_renamed n m few.0, every_renamed n ms few.1)

-- ---- place by place
abbrev FewAt : ℕ → Place → Type 0
FewAt n p = elements_of p.variable ≤ n

few_here : (n : ℕ) (m : Member) → 1 ≤ n → IsFew n m → elements_of m ≤ n
few_here n (scalar column) some few = some
few_here n (array a) some few = few
few_here n (structure name parts) some few = some
few_here n (grid name a maps) some few = some
few_here n (sequence name columns) some few = some

array_places : (n depth : ℕ) (earlier : List (List ℕ)) (arrays : List ArrayDecl) → EachFew n arrays → All (FewAt n) (leaf_places depth earlier (map array arrays))
array_places n depth earlier [] few = All-nil (FewAt n)
array_places n depth earlier (a ∷ arrays) few =
    All-cons (FewAt n) (place depth earlier (array a)) (leaf_places depth (a.name ∷ earlier) (map array arrays)) few.0 (array_places n depth (a.name ∷ earlier) arrays few.1)

column_places : (n depth : ℕ) (earlier : List (List ℕ)) (columns : List Column) → 1 ≤ n → All (FewAt n) (leaf_places depth earlier (map scalar columns))
column_places n depth earlier [] some = All-nil (FewAt n)
column_places n depth earlier (c ∷ columns) some =
    All-cons (FewAt n) (place depth earlier (scalar c)) (leaf_places depth (c.name ∷ earlier) (map scalar columns)) some (column_places n depth (c.name ∷ earlier) columns some)

mutual
  part_few : (n depth : ℕ) (m : Member) → 1 ≤ n → IsFew n m → All (FewAt n) (part_places depth m)
  part_few n depth (scalar column) some few = All-nil (FewAt n)
  part_few n depth (array a) some few = All-nil (FewAt n)
  part_few n depth (structure name parts) some few = places_few n depth [] parts some few
  part_few n depth (grid name a maps) some few = array_places n depth [] (a ∷ maps) few
  part_few n depth (sequence name columns) some few = column_places n depth [] columns some

  places_few : (n depth : ℕ) (earlier : List (List ℕ)) (ms : Members) → 1 ≤ n → AllFew n ms → All (FewAt n) (places depth earlier ms)
  places_few n depth earlier no_members some few = All-nil (FewAt n)
  places_few n depth earlier (member m ms) some few =
      All-cons (FewAt n) (place depth earlier m) (part_places (depth + 1) m ++ places depth (name_of m ∷ earlier) ms) (few_here n m some few.0)
      (All-append (FewAt n) (part_places (depth + 1) m) (places depth (name_of m ∷ earlier) ms) (part_few n (depth + 1) m some few.0) (places_few n depth (name_of m ∷ earlier) ms some few.1))

-- what is left of a saved response is too large by its DDS alone
pub left_is_small : (marks : Marks) (bytes file_name : List ℕ) (d : Dataset) (ts : List Tree) → IsSaved bytes file_name d ts → SuitsAll marks 1 d.members → length (dds (constrained marks d)) ≤ 16777216 → too_large (constrained marks d) ≡ None
left_is_small marks bytes file_name d ts saved suits short =
    let body = saved.is_body in
    let values = body.is_values in
    let le : length body.values ≤ 2147483647 = omega (arith, saved.few, ap length body.parts, length-append body.head body.values) in
    let own : AllFew 2147483647 saved.response.members = all_few saved.response.members ts body.values 2147483647 values.fit values.spelled le in
    let all : AllFew 2147483647 d.members = subst (λ e. AllFew 2147483647 e.members) (sym saved.is_dataset) (every_renamed 2147483647 saved.response.members own) in
    not_too_large (constrained marks d) short (places_few 2147483647 1 [] (filtered_all marks 1 d.members) (omega arith) (all_left_few marks 1 d.members 2147483647 (omega arith) suits all))
