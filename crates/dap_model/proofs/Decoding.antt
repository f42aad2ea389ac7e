-- Two lists of values of one dataset, field by field: whatever is so of two field lists as soon as it is
-- so of their rests, where the first fields are of one kind and, if they are the same, the rests follow.
use Rattle.std.proofs.Common.{◌≡◌, ℕ, ◌^◌, ◌<◌, List, [], ◌∷◌, ◌++◌, length, map, All, false, ◌==◌, inl, inr, refl, ap, ◌∙◌, sym, subst, arith, append_assoc, append-nil}
use Rattle.std.proofs.lemmas.Bool.{false≢true}
use Rattle.std.proofs.lemmas.Bool.Decides.{Decides-eqb}
use Rattle.std.specs.Bool.{⊤}
use Rattle.std.specs.List.{AllZip, flat_map}
use Rattle.dap_types.specs.Model.{Member, scalar, array, structure, grid, sequence, Members, no_members, member, Tree, one, many, Trees, no_trees, tree, trees_of, items, kids, sizes}
use Rattle.dap_types.specs.declared.declarations.ArrayDecl.{ArrayDecl}
use Rattle.dap_types.specs.declared.declarations.BaseType.{BaseType}
use Rattle.dap_types.specs.declared.declarations.BaseType.TheVariants.{Byte, Int16, UInt16, Int32, UInt32, Float32, Float64, Text, Url}
use Rattle.dap_types.specs.declared.declarations.Column.{Column}
use Rattle.dap_types.specs.declared.values.Value.{Value}
use Rattle.dap_types.specs.declared.values.Value.TheVariants as values
use Rattle.dap_model.proofs.FieldKinds.{SameKind}
use Rattle.dap_model.proofs.Values.{all_first, all_rest, values_of_fit, length-values_in}
use Rattle.dap_model.proofs.Whole.{as_many}
use Rattle.dap_model.specs.Fits.{IsOf, FitsScalar, FitsArray, FitsRow, Fits, FitsAll, IsMany, values_in, values_in_all}
use Rattle.dap_model.specs.Laws.{IsNumber}
use Rattle.dap_model.specs.Xdr.{Field, count, number, packed, filler, size, text, padding, mark, string_fields, value_fields, array_fields, scalar_fields, cell_fields, row_fields, array_fields_of_each, fields, fields_all}

pub cons_same : {X : Type 0} (x y : X) (xs ys : List X) → x ≡ y → xs ≡ ys → x ∷ xs ≡ y ∷ ys
cons_same x y xs ys first rest = λ i. first i ∷ rest i

-- the parts of two appended lists, where the first are as long
pub split_same : {X : Type 0} (a b c d : List X) → length a ≡ length b → a ++ c ≡ b ++ d → (a ≡ b) × (c ≡ d)
split_same [] [] c d long same = (refl, same)
split_same [] (y ∷ b) c d long same = absurd (omega arith)
split_same (x ∷ a) [] c d long same = absurd (omega arith)
split_same (x ∷ a) (y ∷ b) c d long same =
    let first : x ≡ y = cc in
    let rest : a ++ c ≡ b ++ d = cc in
    let both = split_same a b c d (omega arith) rest in (cons_same x y a b first both.0, both.1)

-- trees of an array with the same values are the same
mutual
  trees_same : (base : BaseType) (ns : List ℕ) (t u : Tree) → FitsArray base ns t → FitsArray base ns u → values_in t ≡ values_in u → t ≡ u
  trees_same base [] (one v) (one w) fit fit' same = let is : v ≡ w = cc in ap one is
  trees_same base [] (one v) (many us) fit fit' same = absurd fit'
  trees_same base [] (many ts) u fit fit' same = absurd fit
  trees_same base (n ∷ ns) (one v) u fit fit' same = absurd fit
  trees_same base (n ∷ ns) (many ts) (one v) fit fit' same = absurd fit'
  trees_same base (n ∷ ns) (many ts) (many us) fit fit' same = ap many (all_trees_same base ns ts us fit.1 fit'.1 (fit.0 ∙ sym fit'.0) same)

  all_trees_same : (base : BaseType) (ns : List ℕ) (ts us : Trees) → All (FitsArray base ns) (items ts) → All (FitsArray base ns) (items us) → length (items ts) ≡ length (items us)
      → values_in_all ts ≡ values_in_all us → ts ≡ us
  all_trees_same base ns no_trees no_trees fit fit' long same = refl
  all_trees_same base ns no_trees (tree u us) fit fit' long same = absurd (omega arith)
  all_trees_same base ns (tree t ts) no_trees fit fit' long same = absurd (omega arith)
  all_trees_same base ns (tree t ts) (tree u us) fit fit' long same =
      let here = all_first (FitsArray base ns) t (items ts) fit in
      let here' = all_first (FitsArray base ns) u (items us) fit' in
      let both = split_same (values_in t) (values_in u) (values_in_all ts) (values_in_all us) (length-values_in base ns t here ∙ sym (length-values_in base ns u here')) same in
      let first = trees_same base ns t u here here' both.0 in
      let rest = all_trees_same base ns ts us (all_rest (FitsArray base ns) t (items ts) fit) (all_rest (FitsArray base ns) u (items us) fit') (omega arith) both.1 in
      λ i. tree (first i) (rest i)

pub plain : (base : BaseType) (v : Value) → IsNumber base → IsOf base v → value_fields base v ≡ number base v ∷ []
plain Text v num is = absurd num
plain Url v num is = absurd num
plain base (values.Whole z) num is = refl
plain base (values.Bits32 n) num is = refl
plain base (values.Bits64 n) num is = refl
plain base (values.Text bytes) num is = absurd is

-- types of texts
abbrev IsText : BaseType → Type 0
IsText Text = ⊤
IsText Url = ⊤
IsText base = ⊥

text_of : (base : BaseType) (v : Value) → IsText base → IsOf base v → (bytes : List ℕ) × (v ≡ values.Text bytes) × (length bytes < 2 ^ 31)
text_of Text (values.Text bytes) txt is = (bytes, refl, is)
text_of Url (values.Text bytes) txt is = (bytes, refl, is)
text_of Text v txt is = absurd is
text_of Url v txt is = absurd is
text_of base v txt is = absurd txt

abbrev mark_byte : Field → ℕ
mark_byte (mark b) = b
mark_byte f = 0

marks_differ : (a b : ℕ) → (a == b) ≡ false → mark a ≡ mark b → ⊥
marks_differ a b apart same = false≢true (sym apart ∙ (Decides-eqb a b).1 (ap mark_byte same))

module _ (Q : List Field → List Field → Type 0) (step : (f g : Field) (fs gs : List Field) → SameKind f g → (f ≡ g → Q fs gs) → Q (f ∷ fs) (g ∷ gs)) where
  regroup : (a b c a' b' c' : List Field) → Q (a ++ (b ++ c)) (a' ++ (b' ++ c')) → Q ((a ++ b) ++ c) ((a' ++ b') ++ c')
  regroup a b c a' b' c' q = subst (λ fs. Q fs ((a' ++ b') ++ c')) (sym (append_assoc a b c)) (subst (λ fs. Q (a ++ (b ++ c)) fs) (sym (append_assoc a' b' c')) q)

  texts_decoded : (base : BaseType) (a b : List ℕ) (fs gs : List Field) → length a < 2 ^ 31 → length b < 2 ^ 31 → (a ≡ b → Q fs gs) → Q (string_fields a ++ fs) (string_fields b ++ gs)
  texts_decoded base a b fs gs short short' rest =
      step (size (length a)) (size (length b)) (text a ∷ padding (length a) ∷ fs) (text b ∷ padding (length b) ∷ gs) (short, short')
      (λ s. let long : length a ≡ length b = cc in
      step (text a) (text b) (padding (length a) ∷ fs) (padding (length b) ∷ gs) long
      (λ t. let same : a ≡ b = cc in step (padding (length a)) (padding (length b)) fs gs long (λ p. rest same)))

  number_decoded : (base : BaseType) (v w : Value) (fs gs : List Field) → IsNumber base → IsOf base v → IsOf base w → (v ≡ w → Q fs gs) → Q (value_fields base v ++ fs) (value_fields base w ++ gs)
  number_decoded base v w fs gs num is is' rest =
      subst (λ x. Q (x ++ fs) (value_fields base w ++ gs)) (sym (plain base v num is))
      (subst (λ x. Q (number base v ∷ fs) (x ++ gs)) (sym (plain base w num is'))
      (step (number base v) (number base w) fs gs (refl, num, is, is') (λ same. let e : v ≡ w = cc in rest e)))

  text_decoded : (base : BaseType) (v w : Value) (fs gs : List Field) → IsText base → IsOf base v → IsOf base w → (v ≡ w → Q fs gs) → Q (value_fields base v ++ fs) (value_fields base w ++ gs)
  text_decoded base v w fs gs txt is is' rest =
      let a = text_of base v txt is in
      let b = text_of base w txt is' in
      subst (λ x. Q (value_fields base x ++ fs) (value_fields base w ++ gs)) (sym a.1)
      (subst (λ x. Q (string_fields a.0 ++ fs) (value_fields base x ++ gs)) (sym b.1)
      (texts_decoded base a.0 b.0 fs gs a.2 b.2 (λ same. rest (a.1 ∙ ap (λ x. values.Text x) same ∙ sym b.1))))

  value_decoded : (base : BaseType) (v w : Value) (fs gs : List Field) → IsOf base v → IsOf base w → (v ≡ w → Q fs gs) → Q (value_fields base v ++ fs) (value_fields base w ++ gs)
  value_decoded Byte v w fs gs is is' rest = number_decoded Byte v w fs gs tt is is' rest
  value_decoded Int16 v w fs gs is is' rest = number_decoded Int16 v w fs gs tt is is' rest
  value_decoded UInt16 v w fs gs is is' rest = number_decoded UInt16 v w fs gs tt is is' rest
  value_decoded Int32 v w fs gs is is' rest = number_decoded Int32 v w fs gs tt is is' rest
  value_decoded UInt32 v w fs gs is is' rest = number_decoded UInt32 v w fs gs tt is is' rest
  value_decoded Float32 v w fs gs is is' rest = number_decoded Float32 v w fs gs tt is is' rest
  value_decoded Float64 v w fs gs is is' rest = number_decoded Float64 v w fs gs tt is is' rest
  value_decoded Text v w fs gs is is' rest = text_decoded Text v w fs gs tt is is' rest
  value_decoded Url v w fs gs is is' rest = text_decoded Url v w fs gs tt is is' rest

  values_decoded : (base : BaseType) (vs ws : List Value) (fs gs : List Field) → length vs ≡ length ws → All (IsOf base) vs → All (IsOf base) ws → (vs ≡ ws → Q fs gs)
      → Q (flat_map (value_fields base) vs ++ fs) (flat_map (value_fields base) ws ++ gs)
  values_decoded base [] [] fs gs long is is' rest = rest refl
  values_decoded base [] (w ∷ ws) fs gs long is is' rest = absurd (omega arith)
  values_decoded base (v ∷ vs) [] fs gs long is is' rest = absurd (omega arith)
  values_decoded base (v ∷ vs) (w ∷ ws) fs gs long is is' rest =
      regroup (value_fields base v) (flat_map (value_fields base) vs) fs (value_fields base w) (flat_map (value_fields base) ws) gs
      (value_decoded base v w (flat_map (value_fields base) vs ++ fs) (flat_map (value_fields base) ws ++ gs) (all_first (IsOf base) v vs is) (all_first (IsOf base) w ws is')
      (λ first. values_decoded base vs ws fs gs (omega arith) (all_rest (IsOf base) v vs is) (all_rest (IsOf base) w ws is') (λ more. rest (cons_same v w vs ws first more))))

  bytes_decoded : (vs ws : List Value) (fs gs : List Field) → length vs ≡ length ws → All (IsOf Byte) vs → All (IsOf Byte) ws → (vs ≡ ws → Q fs gs) → Q (map packed vs ++ fs) (map packed ws ++ gs)
  bytes_decoded [] [] fs gs long is is' rest = rest refl
  bytes_decoded [] (w ∷ ws) fs gs long is is' rest = absurd (omega arith)
  bytes_decoded (v ∷ vs) [] fs gs long is is' rest = absurd (omega arith)
  bytes_decoded (v ∷ vs) (w ∷ ws) fs gs long is is' rest =
      step (packed v) (packed w) (map packed vs ++ fs) (map packed ws ++ gs) (all_first (IsOf Byte) v vs is, all_first (IsOf Byte) w ws is')
      (λ same. let first : v ≡ w = cc in bytes_decoded vs ws fs gs (omega arith) (all_rest (IsOf Byte) v vs is) (all_rest (IsOf Byte) w ws is') (λ more. rest (cons_same v w vs ws first more)))

  twice : (n m : ℕ) (fs gs : List Field) → n ≡ m → Q fs gs → Q (count n ∷ count n ∷ fs) (count m ∷ count m ∷ gs)
  twice n m fs gs same q = step (count n) (count m) (count n ∷ fs) (count m ∷ gs) same (λ c. step (count n) (count m) fs gs same (λ d. q))

  array_decoded : (base : BaseType) (vs ws : List Value) (fs gs : List Field) → length vs ≡ length ws → All (IsOf base) vs → All (IsOf base) ws → (vs ≡ ws → Q fs gs)
      → Q (array_fields base vs ++ fs) (array_fields base ws ++ gs)
  array_decoded Byte vs ws fs gs long is is' rest =
      twice (length vs) (length ws) ((map packed vs ++ filler (length vs) ∷ []) ++ fs) ((map packed ws ++ filler (length ws) ∷ []) ++ gs) long
      (regroup (map packed vs) (filler (length vs) ∷ []) fs (map packed ws) (filler (length ws) ∷ []) gs
      (bytes_decoded vs ws (filler (length vs) ∷ fs) (filler (length ws) ∷ gs) long is is' (λ same. step (filler (length vs)) (filler (length ws)) fs gs long (λ f. rest same))))
  array_decoded Int16 vs ws fs gs long is is' rest = twice (length vs) (length ws) (flat_map (value_fields Int16) vs ++ fs) (flat_map (value_fields Int16) ws ++ gs) long (values_decoded Int16 vs ws fs gs long is is' rest)
  array_decoded UInt16 vs ws fs gs long is is' rest = twice (length vs) (length ws) (flat_map (value_fields UInt16) vs ++ fs) (flat_map (value_fields UInt16) ws ++ gs) long (values_decoded UInt16 vs ws fs gs long is is' rest)
  array_decoded Int32 vs ws fs gs long is is' rest = twice (length vs) (length ws) (flat_map (value_fields Int32) vs ++ fs) (flat_map (value_fields Int32) ws ++ gs) long (values_decoded Int32 vs ws fs gs long is is' rest)
  array_decoded UInt32 vs ws fs gs long is is' rest = twice (length vs) (length ws) (flat_map (value_fields UInt32) vs ++ fs) (flat_map (value_fields UInt32) ws ++ gs) long (values_decoded UInt32 vs ws fs gs long is is' rest)
  array_decoded Float32 vs ws fs gs long is is' rest = twice (length vs) (length ws) (flat_map (value_fields Float32) vs ++ fs) (flat_map (value_fields Float32) ws ++ gs) long (values_decoded Float32 vs ws fs gs long is is' rest)
  array_decoded Float64 vs ws fs gs long is is' rest = twice (length vs) (length ws) (flat_map (value_fields Float64) vs ++ fs) (flat_map (value_fields Float64) ws ++ gs) long (values_decoded Float64 vs ws fs gs long is is' rest)
  array_decoded Text vs ws fs gs long is is' rest = step (count (length vs)) (count (length ws)) (flat_map (value_fields Text) vs ++ fs) (flat_map (value_fields Text) ws ++ gs) long (λ c. values_decoded Text vs ws fs gs long is is' rest)
  array_decoded Url vs ws fs gs long is is' rest = step (count (length vs)) (count (length ws)) (flat_map (value_fields Url) vs ++ fs) (flat_map (value_fields Url) ws ++ gs) long (λ c. values_decoded Url vs ws fs gs long is is' rest)

  fitting_decoded : (a : ArrayDecl) (t u : Tree) (fs gs : List Field) → FitsArray a.base (sizes a) t → FitsArray a.base (sizes a) u → (t ≡ u → Q fs gs)
      → Q (array_fields a.base (values_in t) ++ fs) (array_fields a.base (values_in u) ++ gs)
  fitting_decoded a t u fs gs fit fit' rest =
      array_decoded a.base (values_in t) (values_in u) fs gs (length-values_in a.base (sizes a) t fit ∙ sym (length-values_in a.base (sizes a) u fit'))
      (values_of_fit a.base (sizes a) t fit) (values_of_fit a.base (sizes a) u fit') (λ same. rest (trees_same a.base (sizes a) t u fit fit' same))

  arrays_decoded : (arrays : List ArrayDecl) (ts us : List Tree) (fs gs : List Field) → AllZip (λ b u. FitsArray b.base (sizes b) u) arrays ts → AllZip (λ b u. FitsArray b.base (sizes b) u) arrays us
      → (ts ≡ us → Q fs gs) → Q (array_fields_of_each arrays ts ++ fs) (array_fields_of_each arrays us ++ gs)
  arrays_decoded [] [] [] fs gs fit fit' rest = rest refl
  arrays_decoded [] [] (u ∷ us) fs gs fit fit' rest = absurd fit'
  arrays_decoded [] (t ∷ ts) us fs gs fit fit' rest = absurd fit
  arrays_decoded (a ∷ arrays) [] us fs gs fit fit' rest = absurd fit
  arrays_decoded (a ∷ arrays) (t ∷ ts) [] fs gs fit fit' rest = absurd fit'
  arrays_decoded (a ∷ arrays) (t ∷ ts) (u ∷ us) fs gs fit fit' rest =
      regroup (array_fields a.base (values_in t)) (array_fields_of_each arrays ts) fs (array_fields a.base (values_in u)) (array_fields_of_each arrays us) gs
      (fitting_decoded a t u (array_fields_of_each arrays ts ++ fs) (array_fields_of_each arrays us ++ gs) fit.0 fit'.0
      (λ first. arrays_decoded arrays ts us fs gs fit.1 fit'.1 (λ more. rest (cons_same t u ts us first more))))

  scalar_decoded : (base : BaseType) (t u : Tree) (fs gs : List Field) → FitsScalar base t → FitsScalar base u → (t ≡ u → Q fs gs) → Q (scalar_fields base t ++ fs) (scalar_fields base u ++ gs)
  scalar_decoded base (one v) (one w) fs gs fit fit' rest =
      regroup (value_fields base v) [] fs (value_fields base w) [] gs (value_decoded base v w fs gs fit fit' (λ same. rest (ap one same)))
  scalar_decoded base (one v) (many us) fs gs fit fit' rest = absurd fit'
  scalar_decoded base (many ts) u fs gs fit fit' rest = absurd fit

  cells_decoded : (columns : List Column) (ts us : List Tree) (fs gs : List Field) → AllZip (λ c t. FitsScalar c.base t) columns ts → AllZip (λ c t. FitsScalar c.base t) columns us
      → (ts ≡ us → Q fs gs) → Q (cell_fields columns ts ++ fs) (cell_fields columns us ++ gs)
  cells_decoded [] [] [] fs gs fit fit' rest = rest refl
  cells_decoded [] [] (u ∷ us) fs gs fit fit' rest = absurd fit'
  cells_decoded [] (t ∷ ts) us fs gs fit fit' rest = absurd fit
  cells_decoded (c ∷ columns) [] us fs gs fit fit' rest = absurd fit
  cells_decoded (c ∷ columns) (t ∷ ts) [] fs gs fit fit' rest = absurd fit'
  cells_decoded (c ∷ columns) (t ∷ ts) (u ∷ us) fs gs fit fit' rest =
      regroup (scalar_fields c.base t) (cell_fields columns ts) fs (scalar_fields c.base u) (cell_fields columns us) gs
      (scalar_decoded c.base t u (cell_fields columns ts ++ fs) (cell_fields columns us ++ gs) fit.0 fit'.0
      (λ first. cells_decoded columns ts us fs gs fit.1 fit'.1 (λ more. rest (cons_same t u ts us first more))))

  many_same : (t u : Tree) → IsMany t → IsMany u → kids t ≡ kids u → t ≡ u
  many_same t u is is' same = sym (as_many t is) ∙ ap (λ ts. many (trees_of ts)) same ∙ as_many u is'

  -- the rows of a Sequence, up to its last mark
  rows_decoded : (columns : List Column) (rows rows' : List Tree) (fs gs : List Field) → All (FitsRow columns) rows → All (FitsRow columns) rows' → (rows ≡ rows' → Q fs gs)
      → Q (flat_map (row_fields columns) rows ++ mark 0xa5 ∷ fs) (flat_map (row_fields columns) rows' ++ mark 0xa5 ∷ gs)
  rows_decoded columns [] [] fs gs fit fit' rest = step (mark 0xa5) (mark 0xa5) fs gs (inr refl, inr refl) (λ same. rest refl)
  rows_decoded columns [] (u ∷ rows') fs gs fit fit' rest =
      step (mark 0xa5) (mark 0x5a) fs ((cell_fields columns (kids u) ++ flat_map (row_fields columns) rows') ++ mark 0xa5 ∷ gs) (inr refl, inl refl) (λ same. absurd (marks_differ 0xa5 0x5a refl same))
  rows_decoded columns (t ∷ rows) [] fs gs fit fit' rest =
      step (mark 0x5a) (mark 0xa5) ((cell_fields columns (kids t) ++ flat_map (row_fields columns) rows) ++ mark 0xa5 ∷ fs) gs (inl refl, inr refl) (λ same. absurd (marks_differ 0x5a 0xa5 refl same))
  rows_decoded columns (t ∷ rows) (u ∷ rows') fs gs fit fit' rest =
      let here = all_first (FitsRow columns) t rows fit in
      let here' = all_first (FitsRow columns) u rows' fit' in
      step (mark 0x5a) (mark 0x5a) ((cell_fields columns (kids t) ++ flat_map (row_fields columns) rows) ++ mark 0xa5 ∷ fs) ((cell_fields columns (kids u) ++ flat_map (row_fields columns) rows') ++ mark 0xa5 ∷ gs) (inl refl, inl refl)
      (λ same. regroup (cell_fields columns (kids t)) (flat_map (row_fields columns) rows) (mark 0xa5 ∷ fs) (cell_fields columns (kids u)) (flat_map (row_fields columns) rows') (mark 0xa5 ∷ gs)
      (cells_decoded columns (kids t) (kids u) (flat_map (row_fields columns) rows ++ mark 0xa5 ∷ fs) (flat_map (row_fields columns) rows' ++ mark 0xa5 ∷ gs) here.1 here'.1
      (λ first. rows_decoded columns rows rows' fs gs (all_rest (FitsRow columns) t rows fit) (all_rest (FitsRow columns) u rows' fit')
      (λ more. rest (cons_same t u rows rows' (many_same t u here.0 here'.0 first) more)))))

  mutual
    member_decoded : (m : Member) (t u : Tree) (fs gs : List Field) → Fits m t → Fits m u → (t ≡ u → Q fs gs) → Q (fields m t ++ fs) (fields m u ++ gs)
    member_decoded (scalar column) t u fs gs fit fit' rest = scalar_decoded column.base t u fs gs fit fit' rest
    member_decoded (array a) t u fs gs fit fit' rest = fitting_decoded a t u fs gs fit fit' rest
    member_decoded (structure name parts) t u fs gs fit fit' rest = members_decoded parts (kids t) (kids u) fs gs fit.1 fit'.1 (λ same. rest (many_same t u fit.0 fit'.0 same))
    member_decoded (grid name a maps) t u fs gs fit fit' rest = arrays_decoded (a ∷ maps) (kids t) (kids u) fs gs fit.1 fit'.1 (λ same. rest (many_same t u fit.0 fit'.0 same))
    member_decoded (sequence name columns) t u fs gs fit fit' rest =
        regroup (flat_map (row_fields columns) (kids t)) (mark 0xa5 ∷ []) fs (flat_map (row_fields columns) (kids u)) (mark 0xa5 ∷ []) gs
        (rows_decoded columns (kids t) (kids u) fs gs fit.1 fit'.1 (λ same. rest (many_same t u fit.0 fit'.0 same)))

    members_decoded : (ms : Members) (ts us : List Tree) (fs gs : List Field) → FitsAll ms ts → FitsAll ms us → (ts ≡ us → Q fs gs) → Q (fields_all ms ts ++ fs) (fields_all ms us ++ gs)
    members_decoded no_members [] [] fs gs fit fit' rest = rest refl
    members_decoded no_members [] (u ∷ us) fs gs fit fit' rest = absurd fit'
    members_decoded no_members (t ∷ ts) us fs gs fit fit' rest = absurd fit
    members_decoded (member m ms) [] us fs gs fit fit' rest = absurd fit
    members_decoded (member m ms) (t ∷ ts) [] fs gs fit fit' rest = absurd fit'
    members_decoded (member m ms) (t ∷ ts) (u ∷ us) fs gs fit fit' rest =
        regroup (fields m t) (fields_all ms ts) fs (fields m u) (fields_all ms us) gs
        (member_decoded m t u (fields_all ms ts ++ fs) (fields_all ms us ++ gs) fit.0 fit'.0
        (λ first. members_decoded ms ts us fs gs fit.1 fit'.1 (λ more. rest (cons_same t u ts us first more))))

  -- all values of a dataset
  pub all_decoded : (ms : Members) (ts us : List Tree) → FitsAll ms ts → FitsAll ms us → (ts ≡ us → Q [] []) → Q (fields_all ms ts) (fields_all ms us)
  all_decoded ms ts us fit fit' rest =
      subst (λ fs. Q fs (fields_all ms us)) (append-nil (fields_all ms ts))
      (subst (λ fs. Q (fields_all ms ts ++ []) fs) (append-nil (fields_all ms us)) (members_decoded ms ts us [] [] fit fit' rest))
