-- Headers of one shape have the same leaves, with any number of records that an array may have.
use Rattle.std.proofs.Common.{◌≡◌, ℕ, suc, zero, ◌+◌, ◌≤◌, Bool, true, false, not, ◌&&◌, cond, eqb, List, [], ◌∷◌, ◌++◌, map, Option, Some, None, refl, sym, ap, ◌∙◌, arith}
use Rattle.std.proofs.lemmas.Bool.Decides.{nat_tests}
use Rattle.std.specs.List.{list_all, position_from}
use Rattle.std.specs.Option.{option_map_or}
use Rattle.std.specs.Prelude.{is_none, is_some, nat_le, option_and_then, slice_get}
use Rattle.std.specs.Str.{bytes_eq}
use Rattle.netcdf_source.specs.Mapping.{are_small, coordinate_at, differ, element_size, has_dimension_name, has_texts, is_char, is_coordinate_of, is_empty, is_grid, is_offered, leaf_in, leaf_variable, leaves_from, leaves_of, own_dimension, own_dimension_in, shape_of, size_at, HaveSameShape, VariableShape}
use Rattle.netcdf_source.specs.Parts.{length_at}
use Rattle.netcdf_source.specs.declared.header.Contents.{Contents}
use Rattle.netcdf_source.specs.declared.header.Variable.{Variable}

-- without records, attributes and places
abbrev pub bare : Variable → Variable
bare v = record { name = v.name; dimensions = v.dimensions; attributes = []; external_type = v.external_type; begin = 0 }

abbrev pub plain : Contents → Contents
plain c = record { records = 0; dimensions = c.dimensions; attributes = []; variables = map bare c.variables }

same-all : {X : Type 0} (p q : X → Bool) → ((x : X) → p x ≡ q x) → (xs : List X) → list_all p xs ≡ list_all q xs
same-all p q same [] = refl
same-all p q same (x ∷ xs) = ap (λ b. b && list_all p xs) (same x) ∙ ap (λ b. q x && b) (same-all p q same xs)

pub same-map : {X Y : Type 0} (f g : X → Y) → ((x : X) → f x ≡ g x) → (xs : List X) → map f xs ≡ map g xs
same-map f g same [] = refl
same-map f g same (x ∷ xs) = ap (λ y. y ∷ map f xs) (same x) ∙ ap (λ ys. g x ∷ ys) (same-map f g same xs)

same-position : (p q : Variable → Bool) → ((v : Variable) → p v ≡ q (bare v)) → (k : ℕ) (vs : List Variable) → position_from p k vs ≡ position_from q k (map bare vs)
same-position p q same k [] = refl
same-position p q same k (v ∷ vs) =
    ap (λ b. cond b (Some k) (position_from p (k + 1) vs)) (same v) ∙ ap (λ o. cond (q (bare v)) (Some k) o) (same-position p q same (k + 1) vs)

module _ (c : Contents) (few : c.records ≤ 2147483647) where
  small-at : (i : ℕ) → nat_le (size_at c i) 2147483647 ≡ nat_le (size_at (plain c) i) 2147483647
  small-at i = go (length_at c.dimensions i)
    where
      go : (n : ℕ) → nat_le (cond (eqb n 0) c.records n) 2147483647 ≡ nat_le (cond (eqb n 0) 0 n) 2147483647
      go zero =
          let one : nat_le c.records 2147483647 ≡ true = grind (arith, nat_tests) in
          let other : nat_le 0 2147483647 ≡ true = grind (arith, nat_tests) in
          one ∙ sym other
      go (suc n) = let some : eqb (suc n) 0 ≡ false = grind (arith, nat_tests) in rw some refl

  small : (ids : List ℕ) → are_small c ids ≡ are_small (plain c) ids
  unfolding are_small
  small ids = same-all (λ i. nat_le (size_at c i) 2147483647) (λ i. nat_le (size_at (plain c) i) 2147483647) small-at ids

  size-same : (v : Variable) → element_size c v ≡ element_size (plain c) (bare v)
  unfolding element_size has_texts
  size-same v = refl

  pub offered-same : (v : Variable) → is_offered c v ≡ is_offered (plain c) (bare v)
  unfolding is_offered element_size has_texts
  offered-same v = ap (λ b. not (Rattle.netcdf_source.specs.Mapping.is_long v.external_type) && b && not (Rattle.std.specs.Prelude.nat_lt 65536 (element_size c v))) (small v.dimensions)

  own-same : (v : Variable) → own_dimension c v ≡ own_dimension (plain c) (bare v)
  unfolding own_dimension
  own-same v = go v.dimensions
    where
      go : (ids : List ℕ) → own_dimension_in c v ids ≡ own_dimension_in (plain c) (bare v) ids
      go [] = refl
      go (i ∷ []) = ap (λ o. cond (option_map_or (λ d. o && not (is_char v) && bytes_eq v.name d.name) (slice_get c.dimensions i) false) (Some i) None) (offered-same v)
      go (i ∷ j ∷ js) = refl

  pub coordinate-same : (i : ℕ) → coordinate_at c i ≡ coordinate_at (plain c) i
  unfolding coordinate_at
  coordinate-same i = same-position (is_coordinate_of c i) (is_coordinate_of (plain c) i) (λ v. ap (λ o. option_map_or (λ j. eqb j i) o false) (own-same v)) 0 c.variables

  pub grid-same : (v : Variable) → is_grid c v ≡ is_grid (plain c) (bare v)
  unfolding is_grid
  grid-same v =
      ap (λ o. not (is_char v) && is_none o && not (is_empty v.dimensions) && differ v.dimensions && list_all (λ i. is_some (coordinate_at c i)) v.dimensions) (own-same v)
      ∙ ap (λ b. not (is_char v) && is_none (own_dimension (plain c) (bare v)) && not (is_empty v.dimensions) && differ v.dimensions && b)
      (same-all (λ i. is_some (coordinate_at c i)) (λ i. is_some (coordinate_at (plain c) i)) (λ i. ap is_some (coordinate-same i)) v.dimensions)

  leaves-same : (k : ℕ) (v : Variable) → leaves_of c k v ≡ leaves_of (plain c) k (bare v)
  leaves-same k v =
      ap (λ b. cond b (None ∷ Some k ∷ map (coordinate_at c) v.dimensions) (Some k ∷ [])) (grid-same v)
      ∙ ap (λ ls. cond (is_grid (plain c) (bare v)) (None ∷ Some k ∷ ls) (Some k ∷ [])) (same-map (coordinate_at c) (coordinate_at (plain c)) coordinate-same v.dimensions)

  from-same : (k : ℕ) (vs : List Variable) → leaves_from c k vs ≡ leaves_from (plain c) k (map bare vs)
  unfolding leaves_from
  from-same k [] = refl
  from-same k (v ∷ vs) =
      ap (λ b. cond b (leaves_of c k v) [] ++ leaves_from c (k + 1) vs) (offered-same v)
      ∙ ap (λ ls. cond (is_offered (plain c) (bare v)) ls [] ++ leaves_from c (k + 1) vs) (leaves-same k v)
      ∙ ap (λ ls. cond (is_offered (plain c) (bare v)) (leaves_of (plain c) k (bare v)) [] ++ ls) (from-same (k + 1) vs)

  -- the leaves depend on the shape alone
  pub leaves-plain : leaves_from c 0 c.variables ≡ leaves_from (plain c) 0 (plain c).variables
  leaves-plain = from-same 0 c.variables

-- ---- one shape

abbrev unshaped : VariableShape → Variable
unshaped s = record { name = s.name; dimensions = s.dimensions; attributes = []; external_type = s.external_type; begin = 0 }

bare-shapes : (vs : List Variable) → map bare vs ≡ map unshaped (map shape_of vs)
bare-shapes [] = refl
bare-shapes (v ∷ vs) = ap (λ ws. bare v ∷ ws) (bare-shapes vs)

pub same-bare : (c d : Contents) → HaveSameShape c d → map bare c.variables ≡ map bare d.variables
same-bare c d same = bare-shapes c.variables ∙ ap (map unshaped) same.variables ∙ sym (bare-shapes d.variables)

pub same-plain : (c d : Contents) → HaveSameShape c d → plain c ≡ plain d
same-plain c d same =
    ap (λ ds. record { records = 0; dimensions = ds; attributes = []; variables = map bare c.variables }) same.dimensions
    ∙ ap (λ vs. record { records = 0; dimensions = d.dimensions; attributes = []; variables = vs }) (same-bare c d same)

-- headers of one shape have the same leaves
pub same-leaves : (c d : Contents) → HaveSameShape c d → c.records ≤ 2147483647 → d.records ≤ 2147483647 → leaves_from c 0 c.variables ≡ leaves_from d 0 d.variables
same-leaves c d same few others = leaves-plain c few ∙ ap (λ p. leaves_from p 0 p.variables) (same-plain c d same) ∙ sym (leaves-plain d others)

-- the variable at a place has another one there
pub same-at : (vs ws : List Variable) (k : ℕ) (v : Variable) → map bare vs ≡ map bare ws → slice_get vs k ≡ Some v → (w : Variable) × (slice_get ws k ≡ Some w) × (bare v ≡ bare w)
same-at [] ws k v same at = absurd cc
same-at (x ∷ vs) [] k v same at = absurd cc
same-at (x ∷ vs) (y ∷ ws) zero v same at = (y, refl, sym (ap bare (first at)) ∙ head same)
  where
    first : Path (Option Variable) (Some x) (Some v) → x ≡ v
    first e = cc

    head : bare x ∷ map bare vs ≡ bare y ∷ map bare ws → bare x ≡ bare y
    head e = cc
same-at (x ∷ vs) (y ∷ ws) (suc k) v same at = same-at vs ws k v (tail same) at
  where
    tail : bare x ∷ map bare vs ≡ bare y ∷ map bare ws → map bare vs ≡ map bare ws
    tail e = cc
