-- A marked leaf of joined files, in each of them.
use Rattle.std.proofs.Common.{◌≡◌, ◌≢◌, ℕ, ◌+◌, ◌-◌, ◌<◌, ◌≤◌, Bool, true, false, cond, List, [], ◌∷◌, ◌++◌, All, length, Option, Some, None, refl, sym, ap, ◌∙◌, subst, arith, slice_index_or, inl}
use Rattle.std.proofs.Math.Nat.{le_trans, mul-le-mul_right}
use Rattle.std.proofs.lemmas.List.Elements.{All-head, All-tail}
use Rattle.std.proofs.lemmas.List.Sums.{sum_by-cons}
use Rattle.std.specs.List.{list_any}
use Rattle.std.specs.Option.{option_map_or}
use Rattle.std.specs.Prelude.{option_map, option_and_then, slice_get}
use Rattle.dap_types.specs.declared.declarations.BaseType.{BaseType}
use Rattle.dap_types.specs.declared.slabs.Slab.{Slab}
use Rattle.dap_model.specs.Cutting.{AreWithin, IsWithin}
use Rattle.dap_model.specs.Filter.{Marks}
use Rattle.hyperslab_plan.specs.Picked.{count_of}
use Rattle.netcdf_source.specs.File.{FileHeader}
use Rattle.netcdf_source.specs.Grammar.{is_record_dimension}
use Rattle.netcdf_source.specs.Layouts.{element_sizes, HasSizes, LeafHasSizes}
use Rattle.netcdf_source.specs.Mapping.{base_of, element_dimensions, has_record_dimension, has_texts, is_over_records, leaf_in, leaf_variable, leaves_from, records_of, with_records, HaveSameShape}
use Rattle.netcdf_source.specs.Parts.{inner, lengths}
use Rattle.netcdf_source.specs.declared.header.Contents.{Contents}
use Rattle.netcdf_source.specs.declared.header.Variable.{Variable}
use Rattle.xdr_encode.specs.Costs.{own_slabs}
use Rattle.xdr_encode.specs.Wanted.{AreSuited, IsUnmarked}
use Rattle.join_source.proofs.First.{first-is}
use Rattle.join_source.proofs.Leaves.{one-leaf, same-lengths, same-over}
use Rattle.join_source.proofs.Own.{own-sizes}
use Rattle.join_source.proofs.PickParts.{few-below}
use Rattle.join_source.proofs.Shapes.{same-leaves}
use Rattle.join_source.proofs.Within.{behind-within, front-within}
use Rattle.join_source.specs.Cutting.{behind, front_of}
use Rattle.join_source.specs.Members.{CanJoin, all_records, contents_of, first_of, joined_contents}
use Rattle.join_source.specs.Wanted.{AreFirst, AreOf, AreOverOwn, AreOverRecords, IsLarge, IsMarkedLeaf, first_header, joined_slots}
use Rattle.join_source.specs.declared.piece.Piece.{Piece}

-- ---- the first header, with any number of records

pub leaf-with : (c : Contents) (records n : ℕ) → c.records ≤ 2147483647 → records ≤ 2147483647 → leaf_variable (with_records records c) n ≡ leaf_variable c n
unfolding leaf_variable
leaf-with c records n few small =
    ap (λ ls. option_and_then (slice_get c.variables) (leaf_in ls n)) (same-leaves (with_records records c) c (record { dimensions = refl; variables = refl }) small few)

pub slabs-with : (c : Contents) (records : ℕ) (v : Variable) (slabs : List Slab) → own_slabs (with_records records c) v slabs ≡ own_slabs c v slabs
unfolding element_dimensions has_texts
slabs-with c records v slabs = refl

fixed-with : (c : Contents) (records : ℕ) (v : Variable) → HasSizes c v → is_over_records c v ≡ false → element_sizes (with_records records c) v ≡ element_sizes c v
fixed-with c records v sizes fixed = sizes.fixed fixed records ∙ sym (sizes.fixed fixed c.records) ∙ own-sizes c v

records-first : (headers : List FileHeader) (d : FileHeader) → 1 ≤ length headers → (slice_index_or headers 0 d).contents.records ≤ all_records (contents_of headers)
records-first [] d some = absurd (omega (arith, some))
records-first (h ∷ headers) d some =
    let sum : all_records (contents_of (h ∷ headers)) ≡ h.contents.records + all_records (contents_of headers) = sum_by-cons (λ c. c.records) h.contents (contents_of headers) in
    let le : h.contents.records ≤ all_records (contents_of (h ∷ headers)) = omega (arith, sum) in le

pub joined-is : (headers : List FileHeader) (d : FileHeader) → 1 ≤ length headers → joined_contents (contents_of headers) ≡ with_records (all_records (contents_of headers)) (slice_index_or headers 0 d).contents
unfolding joined_contents
joined-is headers d some = ap (with_records (all_records (contents_of headers))) (first-is headers d some)

-- ---- in each file

over-own : (c : Contents) (leaf : ℕ) (v : Variable) (rest : List Slab) → c.records ≤ 2147483647 → leaf_variable c leaf ≡ Some v → is_over_records c v ≡ true → has_record_dimension c ≡ true
    → AreWithin rest (inner (lengths c.dimensions (element_dimensions c v)))
    → (headers : List FileHeader) (left : Slab) (size : ℕ) → All (HaveSameShape c) (contents_of headers) → all_records (contents_of headers) ≤ 2147483647 → IsWithin left size → size ≤ 2147483647 → count_of (left ∷ rest) ≤ 2147483647
    → AreOverOwn headers leaf left rest
over-own c leaf v rest few is over has inside [] left size all sum within small count = tt
over-own c leaf v rest few is over has inside (h ∷ headers) left size all sum within small count =
    let parts : all_records (contents_of (h ∷ headers)) ≡ h.contents.records + all_records (contents_of headers) = sum_by-cons (λ c. c.records) h.contents (contents_of headers) in
    let own-few : h.contents.records ≤ 2147483647 = omega (arith, parts, sum) in
    let same : HaveSameShape c h.contents = All-head (HaveSameShape c) h.contents (contents_of headers) all in
    let other = one-leaf c h.contents leaf v same few own-few is in
    let picked = few-below left h.contents.records within.0 in (
      record {
        variable = other.0;
        is = other.1;
        over_records = sym (same-over c h.contents v other.0 same other.2) ∙ over;
        records = ap (λ b. cond b (Some h.contents.records) None) (sym (ap (list_any is_record_dimension) same.dimensions) ∙ has);
        few_records = own-few;
        within = front-within left size h.contents.records within;
        rest_within = subst (λ ns. AreWithin rest (inner ns)) (same-lengths c h.contents v other.0 same other.2) inside;
        few = le_trans (mul-le-mul_right (count_of rest) picked) count;
      },
      (size, within, small),
      over-own c leaf v rest few is over has inside headers (behind left h.contents.records) (size - h.contents.records) (All-tail (HaveSameShape c) h.contents (contents_of headers) all) (omega (arith, parts, sum))
          (behind-within left size h.contents.records within) (omega (arith, small)) (le_trans (mul-le-mul_right (count_of rest) (fewer left.count (front_of left h.contents.records).count)) count),
    )
  where
    fewer : (n m : ℕ) → n - m ≤ n
    fewer n m = omega arith

has-dimension : (c : Contents) → records_of c ≢ None → has_record_dimension c ≡ true
has-dimension c some = go (has_record_dimension c) some
  where
    go : (b : Bool) → ◌≢◌ {A = Option ℕ} (cond b (Some c.records) None) None → b ≡ true
    go true some = refl
    go false some = absurd (some refl)

one-each : (slabs : List Slab) (n : ℕ) (ns : List ℕ) → AreWithin slabs (n ∷ ns) → (first : Slab) × (rest : List Slab) × (slabs ≡ first ∷ rest) × IsWithin first n × AreWithin rest ns
one-each [] n ns within = absurd within
one-each (s ∷ slabs) n ns within = (s, slabs, refl, within.0, within.1)

header-first : (headers : List FileHeader) (d : FileHeader) → 1 ≤ length headers → first_header headers ≡ Some (slice_index_or headers 0 d)
header-first [] d some = absurd (omega (arith, some))
header-first (h ∷ headers) d some = refl

-- ---- the member with that number, which is marked

module _ (headers : List FileHeader) (marks : Marks) (n : ℕ) (h : FileHeader) (at : h ≡ slice_index_or headers 0 h) (some : 1 ≤ length headers) (can : CanJoin (contents_of headers)) where
  few-all : h.contents.records ≤ 2147483647
  few-all = subst (λ x. x.contents.records ≤ 2147483647) (sym at) (le_trans (records-first headers h some) can.few)

  joined : joined_contents (contents_of headers) ≡ with_records (all_records (contents_of headers)) h.contents
  joined = joined-is headers h some ∙ ap (λ x. with_records (all_records (contents_of headers)) x.contents) (sym at)

  -- it has the same members
  pub slots-same : joined_slots (contents_of headers) ≡ leaves_from h.contents 0 h.contents.variables
  slots-same = ap (λ c. leaves_from c 0 c.variables) joined ∙ same-leaves (with_records (all_records (contents_of headers)) h.contents) h.contents (record { dimensions = refl; variables = refl }) can.few few-all

  pub leaf-same : leaf_variable (joined_contents (contents_of headers)) n ≡ leaf_variable h.contents n
  leaf-same = ap (λ c. leaf_variable c n) joined ∙ leaf-with h.contents (all_records (contents_of headers)) n few-all can.few

  pub no-base : ◌≡◌ {A = Option BaseType} None (option_map (λ v. base_of v.external_type) (leaf_variable h.contents n)) → IsUnmarked (joined_contents (contents_of headers)) marks n
  no-base none = inl (leaf-same ∙ go (leaf_variable h.contents n) none)
    where
      go : (o : Option Variable) → ◌≡◌ {A = Option BaseType} None (option_map (λ v. base_of v.external_type) o) → o ≡ None
      go None e = refl
      go (Some v) e = absurd cc

  pub a-base : (base : BaseType) → ◌≡◌ {A = Option BaseType} (Some base) (option_map (λ v. base_of v.external_type) (leaf_variable h.contents n)) → (v : Variable) × (leaf_variable h.contents n ≡ Some v) × (base ≡ base_of v.external_type)
  a-base base e = go (leaf_variable h.contents n) e
    where
      go : (o : Option Variable) → ◌≡◌ {A = Option BaseType} (Some base) (option_map (λ v. base_of v.external_type) o) → (v : Variable) × (o ≡ Some v) × (base ≡ base_of v.external_type)
      go None e = absurd cc
      go (Some v) e = (v, refl, same (base_of v.external_type) e)
        where
          same : (b : BaseType) → ◌≡◌ {A = Option BaseType} (Some base) (Some b) → base ≡ b
          same b e = cc

-- the variable that it is, and its hyperslabs
pub record Here (cs : List Contents) (marks : Marks) (n : ℕ) (c : Contents) (base : BaseType) (marked_by slabs : List Slab) : Type 0 where
  pub variable : Variable
  pub is : leaf_variable (joined_contents cs) n ≡ Some variable
  pub own : leaf_variable c n ≡ Some variable
  pub base_is : base ≡ base_of variable.external_type
  pub marked : marks n ≡ Some marked_by
  pub slabs_are : slabs ≡ own_slabs (joined_contents cs) variable marked_by
  pub within : AreWithin slabs (element_sizes (joined_contents cs) variable)

module _ (headers : List FileHeader) (marks : Marks) (n : ℕ) (h : FileHeader) (at : h ≡ slice_index_or headers 0 h) (some : 1 ≤ length headers) (can : CanJoin (contents_of headers))
    (suited : AreSuited (joined_contents (contents_of headers)) marks) (base : BaseType) (marked_by slabs : List Slab) (marked : marks n ≡ Some marked_by)
    (base-found : ◌≡◌ {A = Option BaseType} (Some base) (option_map (λ v. base_of v.external_type) (leaf_variable h.contents n)))
    (cut : (v : Variable) → leaf_variable h.contents n ≡ Some v → slabs ≡ own_slabs h.contents v marked_by) where
  pub here : Here (contents_of headers) marks n h.contents base marked_by slabs
  unfolding AreSuited
  here =
      let v = a-base headers marks n h at some can base base-found in
      let is : leaf_variable (joined_contents (contents_of headers)) n ≡ Some v.0 = leaf-same headers marks n h at some can ∙ v.1 in
      let slabs-are : slabs ≡ own_slabs (joined_contents (contents_of headers)) v.0 marked_by
      = cut v.0 v.1 ∙ sym (slabs-with h.contents (all_records (contents_of headers)) v.0 marked_by) ∙ sym (ap (λ c. own_slabs c v.0 marked_by) (joined headers marks n h at some can)) in
      record {
        variable = v.0;
        is = is;
        own = v.1;
        base_is = v.2;
        marked = marked;
        slabs_are = slabs-are;
        within = subst (λ ss. AreWithin ss (element_sizes (joined_contents (contents_of headers)) v.0)) (sym slabs-are) (suited n v.0 marked_by is marked);
      }

  -- it has too many elements
  pub large-here : 2147483647 < count_of slabs → IsLarge (contents_of headers) marks n
  large-here many = record {
    variable = here.variable;
    is = here.is;
    marked_by = marked_by;
    marked = marked;
    within = subst (λ ss. AreWithin ss (element_sizes (joined_contents (contents_of headers)) here.variable)) here.slabs_are here.within;
    many = subst (λ ss. 2147483647 < count_of ss) here.slabs_are many;
  }

  over-is : (b : Bool) → b ≡ option_map_or (is_over_records h.contents) (leaf_variable h.contents n) false → b ≡ is_over_records h.contents here.variable
  over-is b e = e ∙ ap (λ o. option_map_or (is_over_records h.contents) o false) here.own

  over-same : is_over_records (joined_contents (contents_of headers)) here.variable ≡ is_over_records h.contents here.variable
  over-same = ap (λ c. is_over_records c here.variable) (joined headers marks n h at some can)

  sizes-are : element_sizes (joined_contents (contents_of headers)) here.variable ≡ element_sizes (with_records (all_records (contents_of headers)) h.contents) here.variable
  sizes-are = ap (λ c. element_sizes c here.variable) (joined headers marks n h at some can)

  -- a record variable
  pub records-ready : LeafHasSizes h.contents n → (b : Bool) → b ≡ option_map_or (is_over_records h.contents) (leaf_variable h.contents n) false → b ≡ true → count_of slabs ≤ 2147483647
      → (first : Slab) × (rest : List Slab) × (slabs ≡ first ∷ rest) × AreOverOwn headers n first rest
  unfolding LeafHasSizes
  records-ready sizes b b-is held few =
      let over : is_over_records h.contents here.variable ≡ true = sym (over-is b b-is) ∙ held in
      let ns : element_sizes (joined_contents (contents_of headers)) here.variable ≡ all_records (contents_of headers) ∷ inner (lengths h.contents.dimensions (element_dimensions h.contents here.variable))
      = sizes-are ∙ (sizes here.variable here.own).over_records over (all_records (contents_of headers)) in
      let parts = one-each slabs (all_records (contents_of headers)) (inner (lengths h.contents.dimensions (element_dimensions h.contents here.variable))) (subst (AreWithin slabs) ns here.within) in
      let first-same : first_of (contents_of headers) ≡ h.contents = first-is headers h some ∙ ap (λ x. x.contents) (sym at) in
      let same : All (HaveSameShape h.contents) (contents_of headers) = subst (λ c. All (HaveSameShape c) (contents_of headers)) first-same can.same in
      let has : records_of h.contents ≢ None = subst (λ c. records_of c ≢ None) first-same can.record_dimension in (
        parts.0,
        parts.1,
        parts.2,
        over-own h.contents n here.variable parts.1 (few-all headers marks n h at some can) here.own over (has-dimension h.contents has) parts.4 headers parts.0 (all_records (contents_of headers)) same can.few parts.3 can.few
            (subst (λ ss. count_of ss ≤ 2147483647) parts.2 few),
      )

  -- another one
  pub whole-ready : LeafHasSizes h.contents n → (b : Bool) → b ≡ option_map_or (is_over_records h.contents) (leaf_variable h.contents n) false → b ≡ false
      → (v : Variable) × (leaf_variable h.contents n ≡ Some v) × AreWithin slabs (element_sizes h.contents v)
  unfolding LeafHasSizes
  whole-ready sizes b b-is not-held =
      let fixed : is_over_records h.contents here.variable ≡ false = sym (over-is b b-is) ∙ not-held in
      let ns : element_sizes (joined_contents (contents_of headers)) here.variable ≡ element_sizes h.contents here.variable
      = sizes-are ∙ fixed-with h.contents (all_records (contents_of headers)) here.variable (sizes here.variable here.own) fixed in
      (here.variable, here.own, subst (AreWithin slabs) ns here.within)

  marked-leaf : (own : List Piece) → count_of slabs ≤ 2147483647 → AreOf (is_over_records h.contents here.variable) headers n base slabs own → IsMarkedLeaf headers marks n own
  marked-leaf own few of = record {
    variable = here.variable;
    marked_by = marked_by;
    marked = marked;
    asked = record {
      can_join = can;
      is = here.is;
      within = subst (λ ss. AreWithin ss (element_sizes (joined_contents (contents_of headers)) here.variable)) here.slabs_are here.within;
      few = subst (λ ss. count_of ss ≤ 2147483647) here.slabs_are few;
    };
    pieces = subst (λ b. AreOf b headers n (base_of here.variable.external_type) (own_slabs (joined_contents (contents_of headers)) here.variable marked_by) own) (sym over-same)
        (subst (λ x. AreOf (is_over_records h.contents here.variable) headers n x (own_slabs (joined_contents (contents_of headers)) here.variable marked_by) own) here.base_is
        (subst (λ ss. AreOf (is_over_records h.contents here.variable) headers n base ss own) here.slabs_are of));
  }

  pub records-found : (old new : List Piece) (b : Bool) → b ≡ option_map_or (is_over_records h.contents) (leaf_variable h.contents n) false → b ≡ true → count_of slabs ≤ 2147483647
      → (own : List Piece) × (new ≡ old ++ own) × AreOverRecords headers n base slabs own → (own : List Piece) × (new ≡ old ++ own) × IsMarkedLeaf headers marks n own
  records-found old new b b-is held few (own, is, of) = (own, is, marked-leaf own few (subst (λ x. AreOf x headers n base slabs own) (sym held ∙ over-is b b-is) of))

  pub whole-found : (old new : List Piece) (b : Bool) → b ≡ option_map_or (is_over_records h.contents) (leaf_variable h.contents n) false → b ≡ false → count_of slabs ≤ 2147483647
      → (own : List Piece) × (new ≡ old ++ own) × AreFirst h n base slabs own → (own : List Piece) × (new ≡ old ++ own) × IsMarkedLeaf headers marks n own
  whole-found old new b b-is not-held few (own, is, of) =
      (own, is, marked-leaf own few (subst (λ x. AreOf x headers n base slabs own) (sym not-held ∙ over-is b b-is) (h, header-first headers h some ∙ ap Some (sym at), of)))
