use Rattle.std.proofs.Common.{◌≡◌, ℕ, ◌+◌, ◌*◌, ◌/◌, ◌<◌, ◌≤◌, length, ◌∙◌, subst, arith}
use Rattle.hyperslab_plan.specs.Numbers.{number_size, width_of}
use Rattle.hyperslab_plan.specs.Plans.{place_in}
use Rattle.slab_fill.specs.Spots.{spot}
use Rattle.slab_fill.proofs.ChunkLemmas.{width_some, row-room, row-bytes, dense-placed, spot-start, in_elements}
use Rattle.slab_fill.proofs.chunk.write_dense.Goals as goal

pub overflow_mul-first : goal.overflow_mul-first
overflow_mul-first c =
    let w_pos : 0 < width_of c.args.plan.now.base = width_some c.args.plan.now.base in
    let some : 0 / width_of c.args.plan.now.base < length c.args.part.now / width_of c.args.plan.now.base = in_elements (width_of c.args.plan.now.base) (length c.args.part.now) 0 w_pos c.requires.whole c.requires.some in
    let one : 0 < length c.args.part.now / width_of c.args.plan.now.base = omega arith in
    let placed : (i : ℕ) → i < length c.args.part.now / width_of c.args.plan.now.base → spot (c.args.first * c.size-size.result) c.size-size.result i ≡ place_in c.args.plan.now (c.args.first + i)
    = dense-placed c.args.plan.now c.args._batch.now c.args.first c.size-size.result (length c.args.part.now / width_of c.args.plan.now.base) c.size-size.ensures.size c.requires.dense c.requires.batch c.requires.inside in
    let room : spot (c.args.first * c.size-size.result) c.size-size.result 0 + number_size c.base.result ≤ length c.args.raw.now
    = row-room c.args.plan.now c.args._batch.now c.base.result (c.args.first * c.size-size.result) c.size-size.result c.args.first (length c.args.part.now / width_of c.args.plan.now.base) 0 (length c.args.raw.now) c.base.ensures.base c.requires.number c.requires.batch c.requires.raw_len c.requires.inside placed one in
    omega (arith, room, spot-start (c.args.first * c.size-size.result) c.size-size.result)

pub write_row-requires-clause-room : goal.write_row-requires-clause-room
write_row-requires-clause-room c j lt =
    row-room c.args.plan.now c.args._batch.now c.base.result (c.args.first * c.size-size.result) c.size-size.result c.args.first (length c.args.part.now / width_of c.args.plan.now.base) j (length c.args.raw.now) c.base.ensures.base c.requires.number c.requires.batch c.requires.raw_len c.requires.inside
    (dense-placed c.args.plan.now c.args._batch.now c.args.first c.size-size.result (length c.args.part.now / width_of c.args.plan.now.base) c.size-size.ensures.size c.requires.dense c.requires.batch c.requires.inside)
    (subst (λ b. j < length c.args.part.now / width_of b) c.base.ensures.base lt)

pub returns : goal.returns
returns c k lt =
    c.write_row.ensures k lt
    ∙ row-bytes c.args.plan.now c.base.result c.args.raw.now (c.args.first * c.size-size.result) c.size-size.result c.args.first (length c.args.part.now / width_of c.args.plan.now.base) k c.base.ensures.base c.requires.number
    (in_elements (width_of c.args.plan.now.base) (length c.args.part.now) k (width_some c.args.plan.now.base) c.requires.whole lt)
    (dense-placed c.args.plan.now c.args._batch.now c.args.first c.size-size.result (length c.args.part.now / width_of c.args.plan.now.base) c.size-size.ensures.size c.requires.dense c.requires.batch c.requires.inside)
