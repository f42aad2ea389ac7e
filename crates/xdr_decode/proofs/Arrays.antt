-- Arrays behind their counts (DAP 2.0, arrays).
use Rattle.std.proofs.Common.{◌≡◌, ℕ, ◌<◌, ◌^◌, List, [], ◌∷◌, ◌++◌, length, map, refl, ap, ◌∙◌, sym, subst, arith, append-nil}
use Rattle.dap_types.specs.declared.declarations.BaseType.{BaseType}
use Rattle.dap_types.specs.declared.declarations.BaseType.TheVariants.{Byte, Int16, UInt16, Int32, UInt32, Float32, Float64, Text, Url}
use Rattle.dap_types.specs.declared.values.Value.{Value}
use Rattle.dap_model.specs.Fits.{IsOf}
use Rattle.dap_model.specs.Laws.{IsNumber}
use Rattle.dap_model.specs.Xdr.{count, fill, filler, packed, array_fields, SpellsField}
use Rattle.std.specs.Prelude.{All, Result, Ok, Err, IfOk}
use Rattle.xdr_fields.proofs.Judged.{no_steps, one_step, steps_join}
use Rattle.xdr_fields.specs.Wants.{Want, a_count, a_filler, IsTextType, Steps, array_wants, elements_left}
use Rattle.xdr_decode.proofs.Leading.{elements_lead}
use Rattle.xdr_decode.proofs.Stopping.{spelt_then, stops_before, stops_behind}
use Rattle.xdr_decode.specs.declared.field.Token.{Token}
use Rattle.xdr_decode.specs.declared.values.Stop.{Stop}
use Rattle.xdr_decode.specs.inner.Taken.{IsTaken, Spelt, Stops, element_want, elements_fields}

-- a count and a filler that were read
pub count_spelt : (n : ℕ) (t : Token) (a b : List ℕ) → IsTaken (a_count n) t a b → Spelt (count n ∷ []) a b
count_spelt n t a b (own, parts, (count m, goes, spelled, is)) = (own, parts, (own, [], sym (append-nil own), subst (λ k. SpellsField (count k) own) goes spelled, refl))
count_spelt n t a b (own, parts, (f, goes, spelled, is)) = absurd goes

pub count_small : (n : ℕ) (t : Token) (a b : List ℕ) → IsTaken (a_count n) t a b → n < 2 ^ 32
count_small n t a b (own, parts, (count m, goes, spelled, is)) = let small : m < 2 ^ 32 = spelled.0 in omega (arith, small, goes)
count_small n t a b (own, parts, (f, goes, spelled, is)) = absurd goes

pub filler_spelt : (n : ℕ) (t : Token) (a b : List ℕ) → IsTaken (a_filler n) t a b → Spelt (filler n ∷ []) a b
filler_spelt n t a b (own, parts, (filler m, goes, spelled, is)) = (own, parts, (own, [], sym (append-nil own), subst (λ k. SpellsField (filler k) own) goes spelled, refl))
filler_spelt n t a b (own, parts, (f, goes, spelled, is)) = absurd goes

-- what an array is
wants_of_texts : (base : BaseType) (path ns : List ℕ) (n : ℕ) → IsTextType base → array_wants base path ns n ≡ a_count n ∷ elements_left (element_want base) path ns 0 n
wants_of_texts Text path ns n txt = refl
wants_of_texts Url path ns n txt = refl
wants_of_texts base path ns n txt = absurd txt

fields_of_texts : (base : BaseType) (vs : List Value) → IsTextType base → array_fields base vs ≡ count (length vs) ∷ elements_fields base vs
fields_of_texts Text vs txt = refl
fields_of_texts Url vs txt = refl
fields_of_texts base vs txt = absurd txt

wants_of_numbers : (base : BaseType) (path ns : List ℕ) (n : ℕ) → IsNumber base → ¬ (base ≡ Byte) → array_wants base path ns n ≡ a_count n ∷ a_count n ∷ elements_left (element_want base) path ns 0 n
wants_of_numbers Byte path ns n num wide = absurd (wide refl)
wants_of_numbers Int16 path ns n num wide = refl
wants_of_numbers UInt16 path ns n num wide = refl
wants_of_numbers Int32 path ns n num wide = refl
wants_of_numbers UInt32 path ns n num wide = refl
wants_of_numbers Float32 path ns n num wide = refl
wants_of_numbers Float64 path ns n num wide = refl
wants_of_numbers Text path ns n num wide = absurd num
wants_of_numbers Url path ns n num wide = absurd num

fields_of_numbers : (base : BaseType) (vs : List Value) → IsNumber base → ¬ (base ≡ Byte) → array_fields base vs ≡ count (length vs) ∷ count (length vs) ∷ elements_fields base vs
fields_of_numbers Byte vs num wide = absurd (wide refl)
fields_of_numbers Int16 vs num wide = refl
fields_of_numbers UInt16 vs num wide = refl
fields_of_numbers Int32 vs num wide = refl
fields_of_numbers UInt32 vs num wide = refl
fields_of_numbers Float32 vs num wide = refl
fields_of_numbers Float64 vs num wide = refl
fields_of_numbers Text vs num wide = absurd num
fields_of_numbers Url vs num wide = absurd num

pub fields_of_bytes : (vs : List Value) → map packed vs ≡ elements_fields Byte vs
fields_of_bytes [] = refl
fields_of_bytes (v ∷ vs) = ap (λ l. packed v ∷ l) (fields_of_bytes vs)

count_step : (n : ℕ) (ws : List Want) → Steps (a_count n ∷ ws) (count n ∷ []) ws
count_step n ws = one_step (a_count n) ws (count n) [] ws refl (no_steps ws)

two_steps : (n : ℕ) (ws : List Want) → Steps (a_count n ∷ a_count n ∷ ws) (count n ∷ count n ∷ []) ws
two_steps n ws = one_step (a_count n) (a_count n ∷ ws) (count n) (count n ∷ []) ws refl (count_step n ws)

-- strings
pub texts_read : (base : BaseType) (vs : List Value) (n : ℕ) (a b c : List ℕ) → IsTextType base → length vs ≡ n → Spelt (count n ∷ []) a b → Spelt (elements_fields base vs) b c → Spelt (array_fields base vs) a c
texts_read base vs n a b c txt long first rest =
    subst (λ fs. Spelt fs a c) (sym (fields_of_texts base vs txt)) (spelt_then (count (length vs) ∷ []) (elements_fields base vs) a b c (subst (λ k. Spelt (count k ∷ []) a b) (sym long) first) rest)

pub texts_count_stop : (base : BaseType) (path ns : List ℕ) (n : ℕ) (a : List ℕ) (e : Stop) → IsTextType base → Stops (a_count n ∷ []) a e → Stops (array_wants base path ns n) a e
texts_count_stop base path ns n a e txt stop =
    subst (λ ws. Stops ws a e) (sym (wants_of_texts base path ns n txt)) (stops_before (a_count n ∷ []) (elements_left (element_want base) path ns 0 n) a e stop)

pub texts_stop : (base : BaseType) (path ns : List ℕ) (n : ℕ) (a b : List ℕ) (e : Stop) → IsTextType base → Spelt (count n ∷ []) a b → Stops (elements_left (element_want base) path ns 0 n) b e → Stops (array_wants base path ns n) a e
texts_stop base path ns n a b e txt first stop =
    let later : List Want = elements_left (element_want base) path ns 0 n in
    subst (λ ws. Stops ws a e) (sym (wants_of_texts base path ns n txt)) (stops_behind (a_count n ∷ later) later (count n ∷ []) a b e first (count_step n later) stop)

-- numbers
pub two_counts : (n : ℕ) (a b c : List ℕ) → Spelt (count n ∷ []) a b → Spelt (count n ∷ []) b c → Spelt (count n ∷ count n ∷ []) a c
two_counts n a b c one two = spelt_then (count n ∷ []) (count n ∷ []) a b c one two

pub numbers_read : (base : BaseType) (vs : List Value) (n : ℕ) (a b c : List ℕ) → IsNumber base → ¬ (base ≡ Byte) → length vs ≡ n → Spelt (count n ∷ count n ∷ []) a b → Spelt (elements_fields base vs) b c → Spelt (array_fields base vs) a c
numbers_read base vs n a b c num wide long first rest =
    subst (λ fs. Spelt fs a c) (sym (fields_of_numbers base vs num wide))
    (spelt_then (count (length vs) ∷ count (length vs) ∷ []) (elements_fields base vs) a b c (subst (λ k. Spelt (count k ∷ count k ∷ []) a b) (sym long) first) rest)

count_stop : (n : ℕ) (ws : List Want) (a : List ℕ) (e : Stop) → Stops (a_count n ∷ []) a e → Stops (a_count n ∷ ws) a e
count_stop n ws a e stop = stops_before (a_count n ∷ []) ws a e stop

again_stop : (n : ℕ) (ws : List Want) (a b : List ℕ) (e : Stop) → Spelt (count n ∷ []) a b → Stops (a_count n ∷ []) b e → Stops (a_count n ∷ a_count n ∷ ws) a e
again_stop n ws a b e first stop = stops_behind (a_count n ∷ a_count n ∷ ws) (a_count n ∷ ws) (count n ∷ []) a b e first (count_step n (a_count n ∷ ws)) (count_stop n ws b e stop)

pub numbers_count_stop : (base : BaseType) (path ns : List ℕ) (n : ℕ) (a : List ℕ) (e : Stop) → IsNumber base → ¬ (base ≡ Byte) → Stops (a_count n ∷ []) a e → Stops (array_wants base path ns n) a e
numbers_count_stop base path ns n a e num wide stop =
    subst (λ ws. Stops ws a e) (sym (wants_of_numbers base path ns n num wide)) (count_stop n (a_count n ∷ elements_left (element_want base) path ns 0 n) a e stop)

pub numbers_again_stop : (base : BaseType) (path ns : List ℕ) (n : ℕ) (a b : List ℕ) (e : Stop) → IsNumber base → ¬ (base ≡ Byte) → Spelt (count n ∷ []) a b → Stops (a_count n ∷ []) b e → Stops (array_wants base path ns n) a e
numbers_again_stop base path ns n a b e num wide first stop =
    subst (λ ws. Stops ws a e) (sym (wants_of_numbers base path ns n num wide)) (again_stop n (elements_left (element_want base) path ns 0 n) a b e first stop)

pub numbers_stop : (base : BaseType) (path ns : List ℕ) (n : ℕ) (a b : List ℕ) (e : Stop) → IsNumber base → ¬ (base ≡ Byte) → Spelt (count n ∷ count n ∷ []) a b → Stops (elements_left (element_want base) path ns 0 n) b e
    → Stops (array_wants base path ns n) a e
numbers_stop base path ns n a b e num wide first stop =
    let later : List Want = elements_left (element_want base) path ns 0 n in
    subst (λ ws. Stops ws a e) (sym (wants_of_numbers base path ns n num wide)) (stops_behind (a_count n ∷ a_count n ∷ later) later (count n ∷ count n ∷ []) a b e first (two_steps n later) stop)

-- packed bytes
pub bytes_read : (vs : List Value) (n : ℕ) (a b c d : List ℕ) → length vs ≡ n → Spelt (count n ∷ count n ∷ []) a b → Spelt (elements_fields Byte vs) b c → Spelt (filler n ∷ []) c d → Spelt (array_fields Byte vs) a d
bytes_read vs n a b c d long first rest last =
    let m : ℕ = length vs in
    let begun : Spelt (count m ∷ count m ∷ []) a b = subst (λ k. Spelt (count k ∷ count k ∷ []) a b) (sym long) first in
    let own : Spelt (map packed vs) b c = subst (λ fs. Spelt fs b c) (sym (fields_of_bytes vs)) rest in
    let end : Spelt (filler m ∷ []) c d = subst (λ k. Spelt (filler k ∷ []) c d) (sym long) last in
    spelt_then (count m ∷ count m ∷ []) (map packed vs ++ filler m ∷ []) a b d begun (spelt_then (map packed vs) (filler m ∷ []) b c d own end)

pub bytes_count_stop : (path ns : List ℕ) (n : ℕ) (a : List ℕ) (e : Stop) → Stops (a_count n ∷ []) a e → Stops (array_wants Byte path ns n) a e
bytes_count_stop path ns n a e stop = count_stop n (a_count n ∷ elements_left (element_want Byte) path ns 0 n ++ a_filler n ∷ []) a e stop

pub bytes_again_stop : (path ns : List ℕ) (n : ℕ) (a b : List ℕ) (e : Stop) → Spelt (count n ∷ []) a b → Stops (a_count n ∷ []) b e → Stops (array_wants Byte path ns n) a e
bytes_again_stop path ns n a b e first stop = again_stop n (elements_left (element_want Byte) path ns 0 n ++ a_filler n ∷ []) a b e first stop

pub bytes_stop : (path ns : List ℕ) (n : ℕ) (a b : List ℕ) (e : Stop) → Spelt (count n ∷ count n ∷ []) a b → Stops (elements_left (element_want Byte) path ns 0 n) b e → Stops (array_wants Byte path ns n) a e
bytes_stop path ns n a b e first stop =
    let later : List Want = elements_left (element_want Byte) path ns 0 n ++ a_filler n ∷ [] in
    stops_behind (a_count n ∷ a_count n ∷ later) later (count n ∷ count n ∷ []) a b e first (two_steps n later) (stops_before (elements_left (element_want Byte) path ns 0 n) (a_filler n ∷ []) b e stop)

pub filler_stop : (path ns : List ℕ) (n : ℕ) (vs : List Value) (a b c : List ℕ) (e : Stop) → length vs ≡ n → All (IsOf Byte) vs → Spelt (count n ∷ count n ∷ []) a b → Spelt (elements_fields Byte vs) b c
    → Stops (a_filler n ∷ []) c e → Stops (array_wants Byte path ns n) a e
filler_stop path ns n vs a b c e long all first rest stop =
    let own : List Want = elements_left (element_want Byte) path ns 0 n in
    let later : List Want = own ++ a_filler n ∷ [] in
    let steps : Steps later (elements_fields Byte vs) (a_filler n ∷ []) =
    subst (λ k. Steps (elements_left (element_want Byte) path ns 0 k ++ a_filler n ∷ []) (elements_fields Byte vs) (a_filler n ∷ [])) long (elements_lead Byte path ns 0 vs (a_filler n ∷ []) all) in
    stops_behind (a_count n ∷ a_count n ∷ later) (a_filler n ∷ []) (count n ∷ count n ∷ elements_fields Byte vs) a c e
    (spelt_then (count n ∷ count n ∷ []) (elements_fields Byte vs) a b c first rest)
    (steps_join (a_count n ∷ a_count n ∷ later) (count n ∷ count n ∷ []) (elements_fields Byte vs) later (a_filler n ∷ []) (two_steps n later) steps) stop

-- through a result
pub both_ok : {T E : Type 0} {P Q R : T → Type 0} (r : Result T E) → ((x : T) → P x → Q x → R x) → IfOk r P → IfOk r Q → IfOk r R
both_ok (Ok x) f p q = f x p q
both_ok (Err e) f p q = tt

pub fill_same : (k m n : ℕ) → k ≡ fill m → m ≡ n → k ≡ fill n
fill_same k m n is same = is ∙ ap fill same
