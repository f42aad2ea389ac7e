-- Arrays in the bytes of a response: their counts, their elements and what fills them up.
use Rattle.std.proofs.Common.{◌≡◌, ℕ, ◌+◌, ◌<◌, ◌^◌, List, [], ◌∷◌, ◌++◌, length, map, refl, sym, ap, ◌∙◌, subst, arith, append_assoc, append-nil, length-append, ◌-◌}
use Rattle.xdr_encode.proofs.ArrayParts.{last, two_counts}
use Rattle.xdr_decode.proofs.Arrays.{fields_of_bytes}
use Rattle.dap_types.specs.Model.{Tree, product, sizes}
use Rattle.dap_types.specs.declared.declarations.ArrayDecl.{ArrayDecl}
use Rattle.dap_types.specs.declared.declarations.BaseType.{BaseType}
use Rattle.dap_types.specs.declared.declarations.BaseType.TheVariants.{Byte, Int16, UInt16, Int32, UInt32, Float32, Float64, Text, Url}
use Rattle.dap_types.specs.declared.values.Value.{Value}
use Rattle.dap_model.proofs.Values.{bytes_of-append, length-values_in, values_of_fit}
use Rattle.dap_model.specs.Fits.{FitsArray, values_in}
use Rattle.dap_model.specs.Xdr.{Field, count, packed, filler, array_fields, bytes_of, field_bytes, word, zeros, SpellsFields}
use Rattle.xdr_decode.specs.inner.Taken.{elements_fields}
use Rattle.xdr_encode.specs.Leaves.{counts_of, filler_of}
use Rattle.xdr_values.proofs.ElementRuns.{run, StepsOver}
use Rattle.xdr_values.proofs.Exact.{AllSingle, elements_single, fields_exact, single-append}
use Rattle.xdr_values.specs.Walked.{StandElements, StandsArray}
use Rattle.std.specs.Prelude.{min}
use Rattle.xdr_values.proofs.Values.{TellsRest}

-- ---- the bytes of an array in three parts
one_count : (n : ℕ) (fs : List Field) → bytes_of (count n ∷ fs) ≡ word n ++ bytes_of fs
unfolding bytes_of field_bytes
one_count n fs = refl

plain : (n : ℕ) (fs : List Field) → bytes_of (count n ∷ count n ∷ fs) ≡ (word n ++ word n) ++ (bytes_of fs ++ [])
plain n fs = two_counts n fs ∙ ap (λ l. (word n ++ word n) ++ l) (sym (append-nil (bytes_of fs)))

strings : (n : ℕ) (fs : List Field) → bytes_of (count n ∷ fs) ≡ word n ++ (bytes_of fs ++ [])
strings n fs = one_count n fs ∙ ap (λ l. word n ++ l) (sym (append-nil (bytes_of fs)))

bytes : (vs : List Value) → bytes_of (array_fields Byte vs) ≡ (word (length vs) ++ word (length vs)) ++ (run Byte vs ++ zeros (length vs))
bytes vs =
    two_counts (length vs) (map packed vs ++ filler (length vs) ∷ [])
    ∙ ap (λ l. (word (length vs) ++ word (length vs)) ++ l)
    (bytes_of-append (map packed vs) (filler (length vs) ∷ []) ∙ ap (λ l. bytes_of (map packed vs) ++ l) (last (length vs)) ∙ ap (λ fs. bytes_of fs ++ zeros (length vs)) (fields_of_bytes vs))

pub three_parts : (base : BaseType) (vs : List Value) → bytes_of (array_fields base vs) ≡ counts_of base (length vs) ++ (run base vs ++ filler_of base (length vs))
unfolding filler_of counts_of
three_parts Byte vs = bytes vs
three_parts Int16 vs = plain (length vs) (elements_fields Int16 vs)
three_parts UInt16 vs = plain (length vs) (elements_fields UInt16 vs)
three_parts Int32 vs = plain (length vs) (elements_fields Int32 vs)
three_parts UInt32 vs = plain (length vs) (elements_fields UInt32 vs)
three_parts Float32 vs = plain (length vs) (elements_fields Float32 vs)
three_parts Float64 vs = plain (length vs) (elements_fields Float64 vs)
three_parts Text vs = strings (length vs) (elements_fields Text vs)
three_parts Url vs = strings (length vs) (elements_fields Url vs)

-- ---- it has one spelling, and few elements
pub array_single : (base : BaseType) (vs : List Value) → AllSingle (array_fields base vs)
array_single Byte vs = (tt, (tt, single-append (map packed vs) (filler (length vs) ∷ []) (subst AllSingle (sym (fields_of_bytes vs)) (elements_single Byte vs)) (tt, tt)))
array_single Int16 vs = (tt, (tt, elements_single Int16 vs))
array_single UInt16 vs = (tt, (tt, elements_single UInt16 vs))
array_single Int32 vs = (tt, (tt, elements_single Int32 vs))
array_single UInt32 vs = (tt, (tt, elements_single UInt32 vs))
array_single Float32 vs = (tt, (tt, elements_single Float32 vs))
array_single Float64 vs = (tt, (tt, elements_single Float64 vs))
array_single Text vs = (tt, elements_single Text vs)
array_single Url vs = (tt, elements_single Url vs)

few_elements : (base : BaseType) (vs : List Value) (own : List ℕ) → SpellsFields (array_fields base vs) own → length vs < 2 ^ 32
few_elements Byte vs own (x, y, parts, first, rest) = first.0
few_elements Int16 vs own (x, y, parts, first, rest) = first.0
few_elements UInt16 vs own (x, y, parts, first, rest) = first.0
few_elements Int32 vs own (x, y, parts, first, rest) = first.0
few_elements UInt32 vs own (x, y, parts, first, rest) = first.0
few_elements Float32 vs own (x, y, parts, first, rest) = first.0
few_elements Float64 vs own (x, y, parts, first, rest) = first.0
few_elements Text vs own (x, y, parts, first, rest) = first.0
few_elements Url vs own (x, y, parts, first, rest) = first.0

-- an array that stands in bytes, in parts
pub record HasParts (a : ArrayDecl) (t : Tree) (bytes rest : List ℕ) : Type 0 where
  pub fit : FitsArray a.base (sizes a) t
  pub few : product (sizes a) < 2 ^ 32
  pub parts : bytes ≡ counts_of a.base (product (sizes a)) ++ (run a.base (values_in t) ++ (filler_of a.base (product (sizes a)) ++ rest))

pub array_parts : (a : ArrayDecl) (t : Tree) (bytes rest : List ℕ) → StandsArray a t bytes rest → HasParts a t bytes rest
array_parts a t bytes rest st =
    let (own, is, spelled) = st.spelt in
    let vs : List Value = values_in t in
    let n_is : length vs ≡ product (sizes a) = length-values_in a.base (sizes a) t st.fit in
    let exact : own ≡ bytes_of (array_fields a.base vs) = fields_exact (array_fields a.base vs) own (array_single a.base vs) spelled in
    let parted : own ≡ counts_of a.base (product (sizes a)) ++ (run a.base vs ++ filler_of a.base (product (sizes a))) =
    subst (λ n. own ≡ counts_of a.base n ++ (run a.base vs ++ filler_of a.base n)) n_is (exact ∙ three_parts a.base vs) in
    record {
      fit = st.fit;
      few = subst (λ n. n < 2 ^ 32) n_is (few_elements a.base vs own spelled);
      parts = is ∙ ap (λ l. l ++ rest) parted ∙ append_assoc (counts_of a.base (product (sizes a))) (run a.base vs ++ filler_of a.base (product (sizes a))) rest
          ∙ ap (λ l. counts_of a.base (product (sizes a)) ++ l) (append_assoc (run a.base vs) (filler_of a.base (product (sizes a))) rest);
    }

pub elements_stand : (a : ArrayDecl) (t : Tree) (bytes rest first : List ℕ) → HasParts a t bytes rest → first ≡ run a.base (values_in t) ++ (filler_of a.base (product (sizes a)) ++ rest)
    → StandElements a.base (values_in t) first (filler_of a.base (product (sizes a)) ++ rest)
elements_stand a t bytes rest first p is = record { are_of = values_of_fit a.base (sizes a) t p.fit; parts = is }

pub counts_long : (base : BaseType) (m n : ℕ) → length (counts_of base m) ≡ length (counts_of base n)
unfolding counts_of
counts_long Byte m n = refl
counts_long Int16 m n = refl
counts_long UInt16 m n = refl
counts_long Int32 m n = refl
counts_long UInt32 m n = refl
counts_long Float32 m n = refl
counts_long Float64 m n = refl
counts_long Text m n = refl
counts_long Url m n = refl

-- ---- types other than some
pub two_words : (base : BaseType) (n : ℕ) → ¬ (base ≡ Text) → ¬ (base ≡ Url) → counts_of base n ≡ word n ++ word n
unfolding counts_of
two_words Byte n a b = refl
two_words Int16 n a b = refl
two_words UInt16 n a b = refl
two_words Int32 n a b = refl
two_words UInt32 n a b = refl
two_words Float32 n a b = refl
two_words Float64 n a b = refl
two_words Text n a b = absurd (a refl)
two_words Url n a b = absurd (b refl)

pub no_filler : (base : BaseType) (n : ℕ) → ¬ (base ≡ Byte) → filler_of base n ≡ []
unfolding filler_of
no_filler Byte n a = absurd (a refl)
no_filler Int16 n a = refl
no_filler UInt16 n a = refl
no_filler Int32 n a = refl
no_filler UInt32 n a = refl
no_filler Float32 n a = refl
no_filler Float64 n a = refl
no_filler Text n a = refl
no_filler Url n a = refl

-- ---- where its elements stand, and what stands behind them
pub record ElementsAt (a : ArrayDecl) (t : Tree) (rest : List ℕ) (number : ℕ) (first mid : List ℕ) : Type 0 where
  pub front : first ≡ run a.base (values_in t) ++ (filler_of a.base number ++ rest)
  pub behind : mid ≡ filler_of a.base number ++ rest

pub elements_at : (a : ArrayDecl) (t : Tree) (bytes rest : List ℕ) (number width : ℕ) (first mid : List ℕ) → StandsArray a t bytes rest → number ≡ min (product (sizes a)) 4294967296
    → ((n : ℕ) → width ≡ length (counts_of a.base n)) → TellsRest bytes width first → StepsOver a.base number first mid → ElementsAt a t rest number first mid
elements_at a t bytes rest number width first mid st count_is width_is rests step =
    let p = array_parts a t bytes rest st in
    let n : ℕ = product (sizes a) in
    let small : n < 2 ^ 32 = p.few in
    let same : number ≡ n = omega (arith, count_is) in
    let first_is : first ≡ run a.base (values_in t) ++ (filler_of a.base n ++ rest) = rests (counts_of a.base n) _ p.parts (sym (width_is n)) in
    let mid_is : mid ≡ filler_of a.base n ++ rest =
    step (values_in t) (filler_of a.base n ++ rest) (length-values_in a.base (sizes a) t p.fit ∙ sym same) (omega arith) (elements_stand a t bytes rest first p first_is) in
    record { front = first_is ∙ ap (λ k. run a.base (values_in t) ++ (filler_of a.base k ++ rest)) (sym same); behind = mid_is ∙ ap (λ k. filler_of a.base k ++ rest) (sym same) }

-- the bytes of its elements
pub array_own : (a : ArrayDecl) (t : Tree) (rest : List ℕ) (number : ℕ) (first mid own : List ℕ) (at : ℕ) → ElementsAt a t rest number first mid → at ≡ length first - length mid
    → ((own' rest' : List ℕ) → first ≡ own' ++ rest' → length own' ≡ at → own ≡ own') → own ≡ run a.base (values_in t)
array_own a t rest number first mid own at e at_is tells =
    let tail : List ℕ = filler_of a.base number ++ rest in
    tells (run a.base (values_in t)) tail e.front (omega (arith, at_is, ap length e.front, ap length e.behind, length-append (run a.base (values_in t)) tail))
