-- The bytes that are written for equally spaced elements, by the bytes of each.
use Rattle.std.proofs.Common.{◌≡◌, ℕ, ◌+◌, ◌/◌, ◌%◌, ◌<◌, ◌≤◌, List, [], ◌∷◌, length, get_or, slice_index, take, drop, refl, sym, ap, ◌∙◌, subst, arith}
use Rattle.std.proofs.Math.Nat.{mod-one, div-one}
use Rattle.std.proofs.lemmas.List.{get_or-take, get_or-drop, length-take-le}
use Prim.Native.Nat.{zero, suc}
use Rattle.dap_types.specs.declared.declarations.BaseType.{BaseType}
use Rattle.dap_types.specs.declared.declarations.BaseType.TheVariants.{Byte, Int16, UInt16, Int32, UInt32, Float32, Float64}
use Rattle.slab_fill.specs.Elements.{form_of, row_byte}
use Rattle.slab_fill.specs.Spots.{spot, signed_word, unsigned_word}
use Rattle.slab_fill.proofs.FormLemmas.{AreBytes, form-Byte, form-Int16, form-UInt16, form-Int32, form-UInt32, form-Float32, form-Float64}

are-drop : (n : ℕ) (xs : List ℕ) → AreBytes xs → AreBytes (drop n xs)
are-drop n xs are i = subst (λ x. x < 256) (sym (get_or-drop n xs i 0)) (are (n + i))

are-take : (n : ℕ) (xs : List ℕ) → AreBytes xs → AreBytes (take n xs)
are-take zero xs are i = omega arith
are-take (suc n) [] are i = omega arith
are-take (suc n) (x ∷ xs) are zero = are 0
are-take (suc n) (x ∷ xs) are (suc i) = are-take n xs (λ j. are (suc j)) i

long-at : (n p : ℕ) (raw : List ℕ) → p + n ≤ length raw → length (take n (drop p raw)) ≡ n
long-at n zero raw fit = length-take-le n raw (omega arith)
long-at n (suc p) [] fit = length-take-le n [] (omega arith)
long-at n (suc p) (x ∷ raw) fit = long-at n p raw (omega arith)

one-at : (p : ℕ) (raw : List ℕ) → p + 1 ≤ length raw → take 1 (drop p raw) ≡ get_or raw p 0 ∷ []
one-at zero [] fit = absurd (omega arith)
one-at zero (x ∷ raw) fit = refl
one-at (suc p) [] fit = absurd (omega arith)
one-at (suc p) (x ∷ raw) fit = one-at p raw (omega arith)

two-at : (p : ℕ) (raw : List ℕ) → p + 2 ≤ length raw → take 2 (drop p raw) ≡ get_or raw p 0 ∷ get_or raw (p + 1) 0 ∷ []
two-at zero [] fit = absurd (omega arith)
two-at zero (x ∷ []) fit = absurd (omega arith)
two-at zero (x ∷ y ∷ raw) fit = refl
two-at (suc p) [] fit = absurd (omega arith)
two-at (suc p) (x ∷ raw) fit = two-at p raw (omega arith) ∙ ap (λ i. get_or raw p 0 ∷ get_or (x ∷ raw) i 0 ∷ []) (next p)
  where
    next : (p : ℕ) → suc (p + 1) ≡ suc p + 1
    next p = omega arith

-- byte b of the n that stand at p
byte-at : (n p b : ℕ) (raw : List ℕ) → b < n → get_or (take n (drop p raw)) b 0 ≡ get_or raw (p + b) 0
byte-at n p b raw lt = get_or-take n (drop p raw) b 0 lt ∙ get_or-drop p raw b 0

pub row-Byte : (raw : List ℕ) (at step k : ℕ) → AreBytes raw → spot at step k + 1 ≤ length raw → slice_index raw (spot at step k) ≡ row_byte Byte raw at step k
unfolding row_byte
row-Byte raw at step k are fit =
    sym (ap (λ j. slice_index (form_of Byte (take 1 (drop (spot at step j) raw))) (k % 1)) (div-one k)
    ∙ ap (λ b. slice_index (form_of Byte (take 1 (drop (spot at step k) raw))) b) (mod-one k)
    ∙ ap (λ bs. slice_index (form_of Byte bs) 0) (one-at (spot at step k) raw fit)
    ∙ ap (λ bs. slice_index bs 0) (form-Byte (get_or raw (spot at step k) 0) (are (spot at step k))))

pub row-Int16 : (raw : List ℕ) (at step k : ℕ) → spot at step (k / 4) + 2 ≤ length raw →
    slice_index (signed_word (slice_index raw (spot at step (k / 4))) (slice_index raw (spot at step (k / 4) + 1))) (k % 4) ≡ row_byte Int16 raw at step k
unfolding row_byte
row-Int16 raw at step k fit =
    sym (ap (λ bs. slice_index (form_of Int16 bs) (k % 4)) (two-at (spot at step (k / 4)) raw fit)
    ∙ ap (λ bs. slice_index bs (k % 4)) (form-Int16 (get_or raw (spot at step (k / 4)) 0) (get_or raw (spot at step (k / 4) + 1) 0)))

pub row-UInt16 : (raw : List ℕ) (at step k : ℕ) → AreBytes raw → spot at step (k / 4) + 2 ≤ length raw →
    slice_index (unsigned_word (slice_index raw (spot at step (k / 4))) (slice_index raw (spot at step (k / 4) + 1))) (k % 4) ≡ row_byte UInt16 raw at step k
unfolding row_byte
row-UInt16 raw at step k are fit =
    sym (ap (λ bs. slice_index (form_of UInt16 bs) (k % 4)) (two-at (spot at step (k / 4)) raw fit)
    ∙ ap (λ bs. slice_index bs (k % 4)) (form-UInt16 (get_or raw (spot at step (k / 4)) 0) (get_or raw (spot at step (k / 4) + 1) 0) (are (spot at step (k / 4))) (are (spot at step (k / 4) + 1))))

-- a form that is the bytes themselves
copied : (base : BaseType) (n p b : ℕ) (raw : List ℕ) → form_of base (take n (drop p raw)) ≡ take n (drop p raw) → b < n → slice_index raw (p + b) ≡ slice_index (form_of base (take n (drop p raw))) b
copied base n p b raw same lt = sym (ap (λ bs. slice_index bs b) same ∙ byte-at n p b raw lt)

module _ (raw : List ℕ) (at step k : ℕ) (are : AreBytes raw) where
  four : AreBytes (take 4 (drop (spot at step (k / 4)) raw))
  four = are-take 4 (drop (spot at step (k / 4)) raw) (are-drop (spot at step (k / 4)) raw are)

  pub row-Int32 : spot at step (k / 4) + 4 ≤ length raw → slice_index raw (spot at step (k / 4) + k % 4) ≡ row_byte Int32 raw at step k
  unfolding row_byte
  row-Int32 fit = copied Int32 4 (spot at step (k / 4)) (k % 4) raw (form-Int32 (take 4 (drop (spot at step (k / 4)) raw)) (long-at 4 (spot at step (k / 4)) raw fit) four) (omega arith)

  pub row-UInt32 : spot at step (k / 4) + 4 ≤ length raw → slice_index raw (spot at step (k / 4) + k % 4) ≡ row_byte UInt32 raw at step k
  unfolding row_byte
  row-UInt32 fit = copied UInt32 4 (spot at step (k / 4)) (k % 4) raw (form-UInt32 (take 4 (drop (spot at step (k / 4)) raw)) (long-at 4 (spot at step (k / 4)) raw fit) four) (omega arith)

  pub row-Float32 : spot at step (k / 4) + 4 ≤ length raw → slice_index raw (spot at step (k / 4) + k % 4) ≡ row_byte Float32 raw at step k
  unfolding row_byte
  row-Float32 fit = copied Float32 4 (spot at step (k / 4)) (k % 4) raw (form-Float32 (take 4 (drop (spot at step (k / 4)) raw)) (long-at 4 (spot at step (k / 4)) raw fit) four) (omega arith)

  pub row-Float64 : spot at step (k / 8) + 8 ≤ length raw → slice_index raw (spot at step (k / 8) + k % 8) ≡ row_byte Float64 raw at step k
  unfolding row_byte
  row-Float64 fit =
      copied Float64 8 (spot at step (k / 8)) (k % 8) raw
      (form-Float64 (take 8 (drop (spot at step (k / 8)) raw)) (long-at 8 (spot at step (k / 8)) raw fit) (are-take 8 (drop (spot at step (k / 8)) raw) (are-drop (spot at step (k / 8)) raw are))) (omega arith)
