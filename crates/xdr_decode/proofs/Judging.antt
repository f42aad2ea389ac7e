-- One field: what the code reads in its bytes, and what it refuses.
use Rattle.std.proofs.Common.{◌≡◌, ◌≢◌, ℕ, ℤ, pos, ◌%◌, ◌^◌, ◌<◌, ◌≤◌, List, [], ◌∷◌, length, replicate, Some, None, inl, inr, refl, ap, ◌∙◌, sym, subst, arith}
use Rattle.std.proofs.lemmas.Int.{ints}
use Rattle.std.specs.Int.{to_be_bytes, cast_unsigned, w32, w64}
use mir.Val.{to_z, of_z}
use Rattle.dap_types.specs.declared.declarations.BaseType.{BaseType}
use Rattle.dap_types.specs.declared.declarations.BaseType.TheVariants.{Float32, Float64}
use Rattle.dap_types.specs.declared.values.Value.TheVariants as values
use Rattle.dap_model.proofs.FieldKinds.{word_same}
use Rattle.dap_model.proofs.Values.{whole_low, whole_high}
use Rattle.dap_model.specs.Received.{bad_count, bad_word, bad_padding, wrong_mark}
use Rattle.dap_model.specs.Xdr.{count, number, packed, filler, size, padding, mark, word, field_bytes}
use Rattle.reply_faults.specs.declared.bad.Bad.TheVariants as bad
use Rattle.xdr_fields.proofs.Decided.{IsWholeType, whole_good, whole_bad, whole_type, count_none, size_none, number_none, text_fault, filler_zeros, padding_zeros, mark_none}
use Rattle.xdr_fields.specs.Wants.{Want, a_count, a_value, a_byte, a_filler, a_padding, rows, IsTextType}
use Rattle.xdr_fields.specs.inner.Words.{whole_in}
use Rattle.xdr_decode.specs.inner.Asked.{Asks, IsGood, IsFaulty}
use Rattle.xdr_decode.specs.declared.field.Ask.TheVariants.{Count, Value, Packed, Filler, Padding, Mark}
use Rattle.xdr_decode.specs.declared.field.Token.TheVariants as token

pub count_good : (k bits : ℕ) (want : Want) → k ≡ bits → bits < 2 ^ 32 → Asks (Count k) want → IsGood want (word bits) token.Count
count_good k bits (a_count n) same small asks = let is : n ≡ bits = omega (arith, asks) in (count n, refl, (omega (arith, is), ap word (sym is)), omega (arith, is))
count_good k bits want same small asks = absurd asks

pub count_bad : (k bits : ℕ) (want : Want) → ¬ (bits ≡ k) → bits < 2 ^ 32 → Asks (Count k) want → IsFaulty want (word bits) bad.BadCount
count_bad k bits (a_count n) apart small asks = (bad_count, refl, refl, count_none n bits small (λ same. apart (omega (arith, asks, same))))
count_bad k bits want apart small asks = absurd asks

pub size_good : (base : BaseType) (bits : ℕ) (want : Want) → bits < 2 ^ 31 → IsTextType base → Asks (Value base) want → IsGood want (word bits) (token.Size bits)
unfolding field_bytes
size_good base bits (a_value path b) small txt asks = (size bits, (subst IsTextType asks txt, small), refl, refl)
size_good base bits want small txt asks = absurd asks

pub size_bad : (base : BaseType) (bits : ℕ) (want : Want) → 2 ^ 31 ≤ bits → bits < 2 ^ 32 → IsTextType base → Asks (Value base) want → IsFaulty want (word bits) bad.BadCount
size_bad base bits (a_value path b) large small txt asks =
    let txt' = subst IsTextType asks txt in (bad_count, ap Some (text_fault b txt'), refl, size_none path b bits small large txt')
size_bad base bits want large small txt asks = absurd asks

pub number_good : (base : BaseType) (bits : ℕ) (z : ℤ) (want : Want) → Some z ≡ whole_in base bits → bits < 2 ^ 32 → IsWholeType base → Asks (Value base) want → IsGood want (word bits) (token.Whole (to_z w64 (of_z w64 z)))
number_good base bits z (a_value path b) is small whole asks =
    let good = whole_good base bits z small (sym is) in
    let low = whole_low base z good.0 in
    let high = whole_high base z good.0 in
    let same : z ≡ to_z w64 (of_z w64 z) = omega (arith, ints, low, high) in
    let P : BaseType → Type 0 = λ c. IsGood (a_value path c) (word bits) (token.Whole (to_z w64 (of_z w64 z))) in
    subst P asks (number base (values.Whole z), (refl, (whole_type base whole).0, good.0), good.1, ap (λ y. values.Whole y) same)
number_good base bits z want is small whole asks = absurd asks

pub number_bad : (base : BaseType) (bits : ℕ) (want : Want) → None ≡ whole_in base bits → bits < 2 ^ 32 → IsWholeType base → Asks (Value base) want → IsFaulty want (word bits) bad.BadWord
number_bad base bits (a_value path b) is small whole asks =
    let type = whole_type base whole in
    let P : BaseType → Type 0 = λ c. IsFaulty (a_value path c) (word bits) bad.BadWord in
    subst P asks (bad_word, ap Some type.1, refl, number_none path base (word bits) type.0 (λ v. whole_bad base bits v small whole (sym is)))
number_bad base bits want is small whole asks = absurd asks

pub float_good : (bits : ℕ) (want : Want) → bits < 2 ^ 32 → Asks (Value Float32) want → IsGood want (word bits) (token.Bits32 bits)
unfolding field_bytes
float_good bits (a_value path b) small asks =
    let P : BaseType → Type 0 = λ c. IsGood (a_value path c) (word bits) (token.Bits32 bits) in subst P asks (number Float32 (values.Bits32 bits), (refl, tt, small), refl, refl)
float_good bits want small asks = absurd asks

pub double_good : (own : List ℕ) (bits : ℕ) (want : Want) → own ≡ to_be_bytes w64 bits → bits < 2 ^ 64 → Asks (Value Float64) want → IsGood want own (token.Bits64 bits)
unfolding field_bytes
double_good own bits (a_value path b) is small asks =
    let P : BaseType → Type 0 = λ c. IsGood (a_value path c) own (token.Bits64 bits) in subst P asks (number Float64 (values.Bits64 bits), (refl, tt, small), is, refl)
double_good own bits want is small asks = absurd asks

pub packed_good : (own : List ℕ) (b : ℕ) (want : Want) → own ≡ b ∷ [] → b < 256 → Asks Packed want → IsGood want own (token.Whole (to_z w64 (of_z w64 (pos b))))
unfolding field_bytes
packed_good own b (a_byte path) is small asks =
    let same : pos b ≡ to_z w64 (of_z w64 (pos b)) = omega (arith, ints) in
    let low : b ≡ cast_unsigned w32 (pos b) % 256 = omega (arith, ints) in
    (packed (values.Whole (pos b)), (omega (arith, ints), omega (arith, ints)), is ∙ ap (λ c. c ∷ []) low, ap (λ y. values.Whole y) same)
packed_good own b want is small asks = absurd asks

pub filler_good : (k : ℕ) (own : List ℕ) (want : Want) → length own ≡ k → own ≡ replicate (length own) 0 → Asks (Filler k) want → IsGood want own token.Zeros
unfolding field_bytes
filler_good k own (a_filler n) long is asks = (filler n, refl, is ∙ ap (λ m. replicate m 0) (long ∙ asks), tt)
filler_good k own want long is asks = absurd asks

pub filler_bad : (k : ℕ) (own : List ℕ) (want : Want) → length own ≡ k → own ≢ replicate (length own) 0 → Asks (Filler k) want → IsFaulty want own bad.BadPadding
filler_bad k own (a_filler n) long apart asks =
    (bad_padding, refl, refl, λ f goes spelled. apart (filler_zeros n own f goes spelled ∙ ap (λ m. replicate m 0) (sym (long ∙ asks))))
filler_bad k own want long apart asks = absurd asks

pub padding_good : (k : ℕ) (own : List ℕ) (want : Want) → length own ≡ k → own ≡ replicate (length own) 0 → Asks (Padding k) want → IsGood want own token.Zeros
unfolding field_bytes
padding_good k own (a_padding n) long is asks = (padding n, refl, is ∙ ap (λ m. replicate m 0) (long ∙ asks), tt)
padding_good k own want long is asks = absurd asks

pub padding_bad : (k : ℕ) (own : List ℕ) (want : Want) → length own ≡ k → own ≢ replicate (length own) 0 → Asks (Padding k) want → IsFaulty want own bad.BadPadding
padding_bad k own (a_padding n) long apart asks =
    (bad_padding, refl, refl, λ f goes spelled. apart (padding_zeros n own f goes spelled ∙ ap (λ m. replicate m 0) (sym (long ∙ asks))))
padding_bad k own want long apart asks = absurd asks

pub row_good : (bits : ℕ) (want : Want) → bits ≡ 0x5a000000 → Asks Mark want → IsGood want (word bits) token.Row
unfolding field_bytes
row_good bits (rows above name columns row) is asks = (mark 0x5a, inl refl, ap word is, refl)
row_good bits want is asks = absurd asks

pub end_good : (bits : ℕ) (want : Want) → bits ≡ 0xa5000000 → Asks Mark want → IsGood want (word bits) token.End
unfolding field_bytes
end_good bits (rows above name columns row) is asks = (mark 0xa5, inr refl, ap word is, refl)
end_good bits want is asks = absurd asks

pub mark_bad : (bits : ℕ) (want : Want) → bits < 2 ^ 32 → ¬ (bits ≡ 0x5a000000) → ¬ (bits ≡ 0xa5000000) → Asks Mark want → IsFaulty want (word bits) bad.WrongMark
mark_bad bits (rows above name columns row) small one two asks =
    (wrong_mark, refl, refl, mark_none above name columns row (word bits) (λ same. one (word_same bits 0x5a000000 small (omega arith) same)) (λ same. two (word_same bits 0xa5000000 small (omega arith) same)))
mark_bad bits want small one two asks = absurd asks
