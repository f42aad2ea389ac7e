-- The XDR form of a number out of its bytes in a file.
use Rattle.std.proofs.Common.{◌≡◌, ℕ, ◌^◌, ◌<◌, List, [], ◌∷◌, length, get_or, refl, ap, ◌∙◌, arith, append-nil}
use Rattle.std.specs.Int.{to_be_bytes, from_be_bytes, w16, w32, w64}
use Rattle.std.proofs.lemmas.Int.{of_z-to_z}
use Rattle.std.proofs.lemmas.Nat.{be_bytes_4, be_bytes_8}
use Rattle.dap_types.specs.declared.declarations.BaseType.TheVariants.{Byte, Int16, UInt16, Int32, UInt32, Float32, Float64}
use Rattle.dap_model.specs.Xdr.{bytes_of, field_bytes}
use Rattle.slab_fill.specs.Elements.{form_of}
use Rattle.slab_fill.specs.Spots.{signed_word, unsigned_word}

-- a list of bytes
abbrev pub AreBytes : List ℕ → Type 0
AreBytes bs = (i : ℕ) → get_or bs i 0 < 256

below_4 : (bs : List ℕ) → AreBytes bs → from_be_bytes w32 bs < 2 ^ 32
below_4 bs are = omega (arith, are 0, are 1, are 2, are 3)

below_2 : (high low : ℕ) → high < 256 → low < 256 → from_be_bytes w16 (high ∷ low ∷ []) < 2 ^ 16
below_2 high low a b = omega arith

pub form-Byte : (x : ℕ) → x < 256 → form_of Byte (x ∷ []) ≡ x ∷ []
unfolding form_of bytes_of field_bytes
form-Byte x lt = ap (λ y. y ∷ []) (omega arith)

pub form-Int16 : (high low : ℕ) → form_of Int16 (high ∷ low ∷ []) ≡ signed_word high low
unfolding form_of bytes_of field_bytes signed_word
form-Int16 high low = append-nil _

pub form-UInt16 : (high low : ℕ) → high < 256 → low < 256 → form_of UInt16 (high ∷ low ∷ []) ≡ unsigned_word high low
unfolding form_of bytes_of field_bytes unsigned_word
form-UInt16 high low a b = append-nil _ ∙ ap (to_be_bytes w32) (omega arith)

pub form-Int32 : (bs : List ℕ) → length bs ≡ 4 → AreBytes bs → form_of Int32 bs ≡ bs
unfolding form_of bytes_of field_bytes
form-Int32 bs long are = append-nil _ ∙ ap (to_be_bytes w32) (of_z-to_z w32 (from_be_bytes w32 bs) (below_4 bs are)) ∙ be_bytes_4 bs (from_be_bytes w32 bs) long are refl

pub form-UInt32 : (bs : List ℕ) → length bs ≡ 4 → AreBytes bs → form_of UInt32 bs ≡ bs
unfolding form_of bytes_of field_bytes
form-UInt32 bs long are = append-nil _ ∙ be_bytes_4 bs (from_be_bytes w32 bs) long are refl

pub form-Float32 : (bs : List ℕ) → length bs ≡ 4 → AreBytes bs → form_of Float32 bs ≡ bs
unfolding form_of bytes_of field_bytes
form-Float32 bs long are = append-nil _ ∙ be_bytes_4 bs (from_be_bytes w32 bs) long are refl

pub form-Float64 : (bs : List ℕ) → length bs ≡ 8 → AreBytes bs → form_of Float64 bs ≡ bs
unfolding form_of bytes_of field_bytes
form-Float64 bs long are = append-nil _ ∙ be_bytes_8 bs (from_be_bytes w64 bs) long are refl
