-- The output as a whole is the XDR forms of the batch's elements, one after the other.
use Rattle.std.proofs.Common.{◌≡◌, ℕ, ◌+◌, ◌*◌, ◌/◌, ◌%◌, ◌<◌, List, [], ◌∷◌, ◌++◌, length, get_or, map, take, drop, refl, sym, ap, ◌∙◌, arith, IsTrue}
use Rattle.std.specs.List.{flat_map, range_with_len}
use Rattle.std.proofs.Math.Nat.{mod-lt, div-lt_iff_lt-mul, div-add-mod'}
use Rattle.std.proofs.lemmas.Grind.{flat_map-append}
use Rattle.std.proofs.lemmas.List.{ext_get_or}
use Rattle.std.proofs.lemmas.List.Folds.{flat_map-map}
use Rattle.dap_types.specs.declared.declarations.BaseType.{BaseType}
use Rattle.dap_types.specs.declared.declarations.BaseType.TheVariants.{Byte, Int16, UInt16, Int32, UInt32, Float32, Float64, Text, Url}
use Rattle.dap_model.specs.Raw.{value_of}
use Rattle.dap_model.specs.Xdr.{bytes_of, field_bytes}
use Rattle.hyperslab_plan.specs.Numbers.{is_number, width_of}
use Rattle.hyperslab_plan.specs.Plans.{place_in}
use Rattle.hyperslab_plan.specs.declared.batch.Batch.{Batch}
use Rattle.hyperslab_plan.specs.declared.plan.Plan.{Plan}
use Rattle.hyperslab_plan.proofs.BlockLemmas.{length-blocks, get_or-blocks}
use Rattle.slab_fill.specs.Elements.{element_fields, form_of, values_of, xdr_of, batch_byte}
use Rattle.slab_fill.proofs.ChunkLemmas.{width_some}

-- a number's form has its width
long-form : (base : BaseType) (bytes : List ℕ) → IsTrue (is_number base) → length (form_of base bytes) ≡ width_of base
unfolding form_of bytes_of field_bytes
long-form Byte bytes number = refl
long-form Int16 bytes number = refl
long-form UInt16 bytes number = refl
long-form Int32 bytes number = refl
long-form UInt32 bytes number = refl
long-form Float32 bytes number = refl
long-form Float64 bytes number = refl
long-form Text bytes number = absurd cc
long-form Url bytes number = absurd cc

-- a list that agrees with blocks of one length, byte by byte
pub in_blocks : (f : ℕ → List ℕ) (m c : ℕ) (xs : List ℕ) → 0 < m → ((k : ℕ) → length (f k) ≡ m) → length xs ≡ c * m → ((i : ℕ) → i < length xs → get_or xs i 0 ≡ get_or (f (i / m)) (i % m) 0) → xs ≡ flat_map f (range_with_len 0 c)
in_blocks f m c xs some h long each =
    ext_get_or 0 xs (flat_map f (range_with_len 0 c)) (long ∙ sym (length-blocks f m 0 c h))
    (λ i lt.
    let whole : i / m * m + i % m ≡ i = div-add-mod' i m in
    let block : i / m < c = (div-lt_iff_lt-mul some).1 (omega arith) in
    each i lt ∙ ap (λ x. get_or (f x) (i % m) 0) (zero-first (i / m)) ∙ sym (get_or-blocks f m 0 c (i / m) (i % m) 0 h block (mod-lt i some)) ∙ ap (λ x. get_or (flat_map f (range_with_len 0 c)) x 0) whole)
  where
    zero-first : (x : ℕ) → x ≡ 0 + x
    zero-first x = omega arith

flat_map-flat_map : {X Y Z : Type 0} (g : Y → List Z) (f : X → List Y) (xs : List X) → flat_map g (flat_map f xs) ≡ flat_map (λ x. flat_map g (f x)) xs
flat_map-flat_map g f [] = refl
flat_map-flat_map g f (x ∷ xs) = flat_map-append g (f x) (flat_map f xs) ∙ ap (λ zs. flat_map g (f x) ++ zs) (flat_map-flat_map g f xs)

-- the forms of a batch's elements, by the number of each
forms : (plan : Plan) (batch : Batch) (raw : List ℕ) → xdr_of plan batch raw ≡ flat_map (λ j. form_of plan.base (take plan.size (drop (place_in plan j) raw))) (range_with_len 0 batch.count)
unfolding xdr_of values_of form_of bytes_of
forms plan batch raw =
    flat_map-flat_map field_bytes (element_fields plan.base) (map (λ j. value_of plan.base (take plan.size (drop (place_in plan j) raw))) (range_with_len 0 batch.count))
    ∙ flat_map-map (λ v. flat_map field_bytes (element_fields plan.base v)) (λ j. value_of plan.base (take plan.size (drop (place_in plan j) raw))) (range_with_len 0 batch.count)

pub whole : (plan : Plan) (batch : Batch) (raw out : List ℕ) → IsTrue (is_number plan.base) → length out ≡ batch.count * width_of plan.base → ((i : ℕ) → i < length out → get_or out i 0 ≡ batch_byte plan raw i) → out ≡ xdr_of plan batch raw
unfolding batch_byte
whole plan batch raw out number long each =
    in_blocks (λ j. form_of plan.base (take plan.size (drop (place_in plan j) raw))) (width_of plan.base) batch.count out (width_some plan.base) (λ k. long-form plan.base (take plan.size (drop (place_in plan k) raw)) number) long each
    ∙ sym (forms plan batch raw)
