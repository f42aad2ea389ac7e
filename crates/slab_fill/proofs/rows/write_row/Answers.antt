use Rattle.std.proofs.Common.{◌≡◌, ℕ, ◌+◌, ◌/◌, ◌%◌, ◌<◌, ◌≤◌, length, slice_index, sym, ◌∙◌, subst, arith}
use Rattle.std.proofs.Math.Nat.{div-one}
use Rattle.hyperslab_plan.specs.Numbers.{number_size, width_of}
use Rattle.slab_fill.specs.Elements.{row_byte}
use Rattle.slab_fill.specs.Spots.{spot}
use Rattle.slab_fill.proofs.ChunkLemmas.{in_elements}
use Rattle.slab_fill.proofs.RowLemmas.{row-Byte, row-Int16, row-UInt16, row-Int32, row-UInt32, row-Float32, row-Float64}
use Rattle.slab_fill.proofs.rows.write_row.Goals as goal

pub returns-in-Byte : goal.returns-in-Byte
returns-in-Byte c k lt =
    let room = subst (λ b. (j : ℕ) → j < length c.args.out.now / width_of b → spot c.args.at c.args.step j + number_size b ≤ length c.args.raw.now) c.in-Byte.is c.requires.room in
    subst (λ b. slice_index c.write_bytes.new.out k ≡ row_byte b c.args.raw.now c.args.at c.args.step k) (sym c.in-Byte.is)
    (c.write_bytes.ensures k lt ∙ row-Byte c.args.raw.now c.args.at c.args.step k (λ i. (c.type_inv.raw i).fits) (room (k) (omega (arith, div-one (length c.args.out.now)))))

pub returns-in-Int16 : goal.returns-in-Int16
returns-in-Int16 c k lt =
    let room = subst (λ b. (j : ℕ) → j < length c.args.out.now / width_of b → spot c.args.at c.args.step j + number_size b ≤ length c.args.raw.now) c.in-Int16.is c.requires.room in
    subst (λ b. slice_index c.write_signed.new.out k ≡ row_byte b c.args.raw.now c.args.at c.args.step k) (sym c.in-Int16.is)
    (c.write_signed.ensures k lt ∙ row-Int16 c.args.raw.now c.args.at c.args.step k (room (k / 4) (in_elements 4 (length c.args.out.now) k (omega arith) (subst (λ b. length c.args.out.now % width_of b ≡ 0) c.in-Int16.is c.requires.whole) lt)))

pub returns-in-UInt16 : goal.returns-in-UInt16
returns-in-UInt16 c k lt =
    let room = subst (λ b. (j : ℕ) → j < length c.args.out.now / width_of b → spot c.args.at c.args.step j + number_size b ≤ length c.args.raw.now) c.in-UInt16.is c.requires.room in
    subst (λ b. slice_index c.write_unsigned.new.out k ≡ row_byte b c.args.raw.now c.args.at c.args.step k) (sym c.in-UInt16.is)
    (c.write_unsigned.ensures k lt ∙ row-UInt16 c.args.raw.now c.args.at c.args.step k (λ i. (c.type_inv.raw i).fits) (room (k / 4) (in_elements 4 (length c.args.out.now) k (omega arith) (subst (λ b. length c.args.out.now % width_of b ≡ 0) c.in-UInt16.is c.requires.whole) lt)))

pub returns-in-Int32 : goal.returns-in-Int32
returns-in-Int32 c k lt =
    let room = subst (λ b. (j : ℕ) → j < length c.args.out.now / width_of b → spot c.args.at c.args.step j + number_size b ≤ length c.args.raw.now) c.in-Int32.is c.requires.room in
    subst (λ b. slice_index c.write_words.new.out k ≡ row_byte b c.args.raw.now c.args.at c.args.step k) (sym c.in-Int32.is)
    (c.write_words.ensures k lt ∙ row-Int32 c.args.raw.now c.args.at c.args.step k (λ i. (c.type_inv.raw i).fits) (room (k / 4) (in_elements 4 (length c.args.out.now) k (omega arith) (subst (λ b. length c.args.out.now % width_of b ≡ 0) c.in-Int32.is c.requires.whole) lt)))

pub returns-in-UInt32 : goal.returns-in-UInt32
returns-in-UInt32 c k lt =
    let room = subst (λ b. (j : ℕ) → j < length c.args.out.now / width_of b → spot c.args.at c.args.step j + number_size b ≤ length c.args.raw.now) c.in-UInt32.is c.requires.room in
    subst (λ b. slice_index c.write_words-in-UInt32.new.out k ≡ row_byte b c.args.raw.now c.args.at c.args.step k) (sym c.in-UInt32.is)
    (c.write_words-in-UInt32.ensures k lt ∙ row-UInt32 c.args.raw.now c.args.at c.args.step k (λ i. (c.type_inv.raw i).fits) (room (k / 4) (in_elements 4 (length c.args.out.now) k (omega arith) (subst (λ b. length c.args.out.now % width_of b ≡ 0) c.in-UInt32.is c.requires.whole) lt)))

pub returns-in-Float32 : goal.returns-in-Float32
returns-in-Float32 c k lt =
    let room = subst (λ b. (j : ℕ) → j < length c.args.out.now / width_of b → spot c.args.at c.args.step j + number_size b ≤ length c.args.raw.now) c.in-Float32.is c.requires.room in
    subst (λ b. slice_index c.write_words-in-Float32.new.out k ≡ row_byte b c.args.raw.now c.args.at c.args.step k) (sym c.in-Float32.is)
    (c.write_words-in-Float32.ensures k lt ∙ row-Float32 c.args.raw.now c.args.at c.args.step k (λ i. (c.type_inv.raw i).fits) (room (k / 4) (in_elements 4 (length c.args.out.now) k (omega arith) (subst (λ b. length c.args.out.now % width_of b ≡ 0) c.in-Float32.is c.requires.whole) lt)))

pub returns-in-Float64 : goal.returns-in-Float64
returns-in-Float64 c k lt =
    let room = subst (λ b. (j : ℕ) → j < length c.args.out.now / width_of b → spot c.args.at c.args.step j + number_size b ≤ length c.args.raw.now) c.in-Float64.is c.requires.room in
    subst (λ b. slice_index c.write_double_words.new.out k ≡ row_byte b c.args.raw.now c.args.at c.args.step k) (sym c.in-Float64.is)
    (c.write_double_words.ensures k lt ∙ row-Float64 c.args.raw.now c.args.at c.args.step k (λ i. (c.type_inv.raw i).fits) (room (k / 8) (in_elements 8 (length c.args.out.now) k (omega arith) (subst (λ b. length c.args.out.now % width_of b ≡ 0) c.in-Float64.is c.requires.whole) lt)))
