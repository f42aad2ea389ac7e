-- What an array asks for next.
use Rattle.std.proofs.Common.{◌≡◌, ℕ, zero, suc, ◌-◌, ◌<◌, List, [], ◌∷◌, ◌++◌, Some, None, refl, ap, ◌∙◌, sym, subst, arith}
use Rattle.std.specs.Option.{option_map_or}
use Rattle.dap_types.specs.Model.{Member, Members, scalar, array, structure, grid, sequence, sizes}
use Rattle.dap_types.specs.declared.declarations.ArrayDecl.{ArrayDecl}
use Rattle.dap_types.specs.declared.declarations.BaseType.{BaseType}
use Rattle.dap_types.specs.declared.declarations.BaseType.TheVariants.{Byte, Int16, UInt16, Int32, UInt32, Float32, Float64, Text, Url}
use Rattle.xdr_fields.specs.Wants.{Want, a_value, a_byte, a_filler, elements_left, index_texts}
use Rattle.xdr_decode.specs.inner.Asked.{Asks, element_ask, width_of}
use Rattle.xdr_decode.specs.inner.Leaves.{IsLeaf}
use Rattle.xdr_decode.specs.inner.Places.{AsksFirst, IsPlaced, IsStage, IsStageAt, Spot, elements_wants, spot, spot_at, stage_wants, text_wants, wants_left}
use Rattle.xdr_decode.specs.declared.field.Ask.{Ask}
use Rattle.xdr_decode.specs.declared.field.Ask.TheVariants.{Packed, Padding, Value}
use Rattle.xdr_decode.specs.declared.path.Leaf.{Leaf}
use Rattle.xdr_decode.specs.declared.path.Leaf.TheVariants as leaf
use Rattle.xdr_decode.specs.declared.place.Place.{Place}
use Rattle.xdr_decode.specs.declared.place.Text.TheVariants as text
use Rattle.xdr_decode.specs.declared.place.Stage.{Stage}
use Rattle.xdr_decode.specs.declared.place.Stage.TheVariants as stage
use Rattle.dap_model.specs.Xdr.{fill}

-- a value has bytes
pub value_wide : (base : BaseType) → 0 < width_of (Value base)
value_wide Byte = omega arith
value_wide Int16 = omega arith
value_wide UInt16 = omega arith
value_wide Int32 = omega arith
value_wide UInt32 = omega arith
value_wide Float32 = omega arith
value_wide Float64 = omega arith
value_wide Text = omega arith
value_wide Url = omega arith

pub element_wide : (base : BaseType) → 0 < width_of (element_ask base)
element_wide Byte = omega arith
element_wide Int16 = value_wide Int16
element_wide UInt16 = value_wide UInt16
element_wide Int32 = value_wide Int32
element_wide UInt32 = value_wide UInt32
element_wide Float32 = value_wide Float32
element_wide Float64 = value_wide Float64
element_wide Text = value_wide Text
element_wide Url = value_wide Url

-- the first of some elements
left_first : (want : List ℕ → Want) (path ns : List ℕ) (at left : ℕ) (ask : Ask) (more : List Want) → 0 < left → ((p : List ℕ) → Asks ask (want p)) → AsksFirst ask (elements_left want path ns at left ++ more)
unfolding elements_left
left_first want path ns at zero ask more some asks = absurd (omega arith)
left_first want path ns at (suc left) ask more some asks = asks (path ++ index_texts ns at)

nil_behind : (ask : Ask) (ws : List Want) → AsksFirst ask (ws ++ []) → AsksFirst ask ws
nil_behind ask [] asks = absurd asks
nil_behind ask (w ∷ ws) asks = asks

bytes_first : (base : BaseType) (path ns : List ℕ) (at count : ℕ) → base ≡ Byte → at < count → AsksFirst Packed (elements_wants base path ns at count)
bytes_first base path ns at count same lt =
    let P : BaseType → Type 0 = λ b. AsksFirst Packed (elements_wants b path ns at count) in
    subst P (sym same) (left_first a_byte path ns at (count - at) Packed (a_filler count ∷ []) (omega (arith, lt)) (λ p. tt))

values_first : (base : BaseType) (path ns : List ℕ) (at count : ℕ) → ¬ (base ≡ Byte) → at < count → AsksFirst (Value base) (elements_wants base path ns at count)
values_first Byte path ns at count apart lt = absurd (apart refl)
values_first Int16 path ns at count apart lt = nil_behind (Value Int16) _ (left_first (λ p. a_value p Int16) path ns at (count - at) (Value Int16) [] (omega (arith, lt)) (λ p. refl))
values_first UInt16 path ns at count apart lt = nil_behind (Value UInt16) _ (left_first (λ p. a_value p UInt16) path ns at (count - at) (Value UInt16) [] (omega (arith, lt)) (λ p. refl))
values_first Int32 path ns at count apart lt = nil_behind (Value Int32) _ (left_first (λ p. a_value p Int32) path ns at (count - at) (Value Int32) [] (omega (arith, lt)) (λ p. refl))
values_first UInt32 path ns at count apart lt = nil_behind (Value UInt32) _ (left_first (λ p. a_value p UInt32) path ns at (count - at) (Value UInt32) [] (omega (arith, lt)) (λ p. refl))
values_first Float32 path ns at count apart lt = nil_behind (Value Float32) _ (left_first (λ p. a_value p Float32) path ns at (count - at) (Value Float32) [] (omega (arith, lt)) (λ p. refl))
values_first Float64 path ns at count apart lt = nil_behind (Value Float64) _ (left_first (λ p. a_value p Float64) path ns at (count - at) (Value Float64) [] (omega (arith, lt)) (λ p. refl))
values_first Text path ns at count apart lt = nil_behind (Value Text) _ (left_first (λ p. a_value p Text) path ns at (count - at) (Value Text) [] (omega (arith, lt)) (λ p. refl))
values_first Url path ns at count apart lt = nil_behind (Value Url) _ (left_first (λ p. a_value p Url) path ns at (count - at) (Value Url) [] (omega (arith, lt)) (λ p. refl))

elements_first : (base : BaseType) (path ns : List ℕ) (at count : ℕ) → at < count → AsksFirst (element_ask base) (elements_wants base path ns at count)
elements_first Byte path ns at count lt = bytes_first Byte path ns at count refl lt
elements_first Int16 path ns at count lt = values_first Int16 path ns at count apart_from lt
  where
    apart_from : ¬ (Int16 ≡ Byte)
    apart_from same = cc
elements_first UInt16 path ns at count lt = values_first UInt16 path ns at count apart_from lt
  where
    apart_from : ¬ (UInt16 ≡ Byte)
    apart_from same = cc
elements_first Int32 path ns at count lt = values_first Int32 path ns at count apart_from lt
  where
    apart_from : ¬ (Int32 ≡ Byte)
    apart_from same = cc
elements_first UInt32 path ns at count lt = values_first UInt32 path ns at count apart_from lt
  where
    apart_from : ¬ (UInt32 ≡ Byte)
    apart_from same = cc
elements_first Float32 path ns at count lt = values_first Float32 path ns at count apart_from lt
  where
    apart_from : ¬ (Float32 ≡ Byte)
    apart_from same = cc
elements_first Float64 path ns at count lt = values_first Float64 path ns at count apart_from lt
  where
    apart_from : ¬ (Float64 ≡ Byte)
    apart_from same = cc
elements_first Text path ns at count lt = values_first Text path ns at count apart_from lt
  where
    apart_from : ¬ (Text ≡ Byte)
    apart_from same = cc
elements_first Url path ns at count lt = values_first Url path ns at count apart_from lt
  where
    apart_from : ¬ (Url ≡ Byte)
    apart_from same = cc

pub element_asked : (above : List ℕ) (a : ArrayDecl) (m : Member) (s : Stage) (at count : ℕ) → s ≡ stage.Elements at count → array a ≡ m → IsStage m s → AsksFirst (element_ask a.base) (stage_wants above m s)
element_asked above a m s at count at_stage is placed =
    let P : Member → Stage → Type 0 = λ n t. IsStage n t → AsksFirst (element_ask a.base) (stage_wants above n t) in
    subst (λ t. P m t) (sym at_stage) (subst (λ n. P n (stage.Elements at count)) is (λ p. elements_first a.base (above ++ a.name) (sizes a) at count p.1)) placed

pub leaf_array : (l : Leaf) (a : _) (m : Member) → l ≡ leaf.Array a → IsLeaf l m → array a.now ≡ m
leaf_array l a m is same = inner m (subst (λ x. IsLeaf x m) is same)
  where
    inner : (m : Member) → IsLeaf (leaf.Array a) m → array a.now ≡ m
    inner (array b) same = ap array same
    inner (scalar c) same = absurd same
    inner (structure name parts) same = absurd same
    inner (grid name b maps) same = absurd same
    inner (sequence name cs) same = absurd same

pub asks_more : (ask : Ask) (ws more : List Want) → AsksFirst ask ws → AsksFirst ask (ws ++ more)
asks_more ask [] more asks = absurd asks
asks_more ask (w ∷ ws) more asks = asks

-- what a place asks for where no string is read
pub next_none : (ms : Members) (p : Place) → p.text ≡ text.Nothing → spot_at ms p ≡ None → wants_left ms p ≡ []
unfolding wants_left
next_none ms p none is = ap (λ t. text_wants t ++ option_map_or (λ s. stage_wants s.above s.leaf p.stage ++ s.behind) (spot_at ms p) []) none ∙ ap (λ o. option_map_or (λ s. stage_wants s.above s.leaf p.stage ++ s.behind) o []) is

pub next_some : (ms : Members) (p : Place) (s : Spot) → p.text ≡ text.Nothing → spot_at ms p ≡ Some s → IsPlaced ms p → (wants_left ms p ≡ stage_wants s.above s.leaf p.stage ++ s.behind) × IsStage s.leaf p.stage
unfolding wants_left
next_some ms p s none is placed = (
  ap (λ t. text_wants t ++ option_map_or (λ x. stage_wants x.above x.leaf p.stage ++ x.behind) (spot_at ms p) []) none ∙ ap (λ o. option_map_or (λ x. stage_wants x.above x.leaf p.stage ++ x.behind) o []) is,
  subst (λ o. IsStageAt o p.stage p.path.items) is placed,
)

pub next_padding : (ms : Members) (p : Place) (size k : ℕ) → p.text ≡ text.Padding size → k ≡ fill size → AsksFirst (Padding k) (wants_left ms p)
unfolding wants_left
next_padding ms p size k is same = subst (λ t. AsksFirst (Padding k) (text_wants t ++ option_map_or (λ s. stage_wants s.above s.leaf p.stage ++ s.behind) (spot_at ms p) [])) (sym is) same

pub some_spot : (ms : Members) (path items : List ℕ) (s : Spot) → path ≡ items → spot path [] ms ≡ Some s → spot items [] ms ≡ Some s
some_spot ms path items s same is = subst (λ p. spot p [] ms ≡ Some s) same is
