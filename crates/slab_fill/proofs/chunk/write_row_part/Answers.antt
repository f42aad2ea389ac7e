use Rattle.std.proofs.Common.{◌+◌, ◌*◌, ◌/◌, ◌<◌, ◌≤◌, length, ap, ◌∙◌, subst, arith}
use Rattle.hyperslab_plan.specs.Numbers.{number_size, width_of}
use Rattle.slab_fill.specs.Spots.{spot}
use Rattle.slab_fill.proofs.ChunkLemmas.{width_some, row-room, row-bytes, rows-placed, spot-start, in_elements}
use Rattle.slab_fill.proofs.chunk.write_row_part.Goals as goal

pub overflow_mul-at : goal.overflow_mul-at
overflow_mul-at c =
    let w_pos : 0 < width_of c.args.plan.now.base = width_some c.args.plan.now.base in
    let some : 0 / width_of c.args.plan.now.base < length c.args.part.now / width_of c.args.plan.now.base = in_elements (width_of c.args.plan.now.base) (length c.args.part.now) 0 w_pos c.requires.whole c.requires.some in
    let one : 0 < length c.args.part.now / width_of c.args.plan.now.base = omega arith in
    let room : spot (c.args.row * c.spacing-spacing.result.row_len + c.args.column * c.spacing-spacing.result.jump) c.spacing-spacing.result.jump 0 + number_size c.base-base.result ≤ length c.args.raw.now = row-room c.args.plan.now c.args._batch.now c.base-base.result (c.args.row * c.spacing-spacing.result.row_len + c.args.column * c.spacing-spacing.result.jump) c.spacing-spacing.result.jump c.args.first (length c.args.part.now / width_of c.args.plan.now.base) 0 (length c.args.raw.now) c.base-base.ensures.base c.requires.number c.requires.batch c.requires.raw_len c.requires.inside
    (rows-placed c.args.plan.now c.spacing-spacing.result.per_row c.spacing-spacing.result.row_len c.spacing-spacing.result.jump c.args.row c.args.column c.args.first (length c.args.part.now / width_of c.args.plan.now.base) c.spacing-spacing.ensures.rows
    (ap (λ x. c.args.row * x + c.args.column) c.spacing-spacing.ensures.per_row ∙ c.requires.position) (omega (arith, c.requires.in_row, c.spacing-spacing.ensures.per_row))) one in
    omega (arith, room, spot-start (c.args.row * c.spacing-spacing.result.row_len + c.args.column * c.spacing-spacing.result.jump) c.spacing-spacing.result.jump)

pub overflow_mul-at-2 : goal.overflow_mul-at-2
overflow_mul-at-2 c =
    let w_pos : 0 < width_of c.args.plan.now.base = width_some c.args.plan.now.base in
    let some : 0 / width_of c.args.plan.now.base < length c.args.part.now / width_of c.args.plan.now.base = in_elements (width_of c.args.plan.now.base) (length c.args.part.now) 0 w_pos c.requires.whole c.requires.some in
    let one : 0 < length c.args.part.now / width_of c.args.plan.now.base = omega arith in
    let room : spot (c.args.row * c.spacing-spacing.result.row_len + c.args.column * c.spacing-spacing.result.jump) c.spacing-spacing.result.jump 0 + number_size c.base-base.result ≤ length c.args.raw.now = row-room c.args.plan.now c.args._batch.now c.base-base.result (c.args.row * c.spacing-spacing.result.row_len + c.args.column * c.spacing-spacing.result.jump) c.spacing-spacing.result.jump c.args.first (length c.args.part.now / width_of c.args.plan.now.base) 0 (length c.args.raw.now) c.base-base.ensures.base c.requires.number c.requires.batch c.requires.raw_len c.requires.inside
    (rows-placed c.args.plan.now c.spacing-spacing.result.per_row c.spacing-spacing.result.row_len c.spacing-spacing.result.jump c.args.row c.args.column c.args.first (length c.args.part.now / width_of c.args.plan.now.base) c.spacing-spacing.ensures.rows
    (ap (λ x. c.args.row * x + c.args.column) c.spacing-spacing.ensures.per_row ∙ c.requires.position) (omega (arith, c.requires.in_row, c.spacing-spacing.ensures.per_row))) one in
    omega (arith, room, spot-start (c.args.row * c.spacing-spacing.result.row_len + c.args.column * c.spacing-spacing.result.jump) c.spacing-spacing.result.jump)

pub overflow_add-at : goal.overflow_add-at
overflow_add-at c =
    let w_pos : 0 < width_of c.args.plan.now.base = width_some c.args.plan.now.base in
    let some : 0 / width_of c.args.plan.now.base < length c.args.part.now / width_of c.args.plan.now.base = in_elements (width_of c.args.plan.now.base) (length c.args.part.now) 0 w_pos c.requires.whole c.requires.some in
    let one : 0 < length c.args.part.now / width_of c.args.plan.now.base = omega arith in
    let room : spot (c.args.row * c.spacing-spacing.result.row_len + c.args.column * c.spacing-spacing.result.jump) c.spacing-spacing.result.jump 0 + number_size c.base-base.result ≤ length c.args.raw.now = row-room c.args.plan.now c.args._batch.now c.base-base.result (c.args.row * c.spacing-spacing.result.row_len + c.args.column * c.spacing-spacing.result.jump) c.spacing-spacing.result.jump c.args.first (length c.args.part.now / width_of c.args.plan.now.base) 0 (length c.args.raw.now) c.base-base.ensures.base c.requires.number c.requires.batch c.requires.raw_len c.requires.inside
    (rows-placed c.args.plan.now c.spacing-spacing.result.per_row c.spacing-spacing.result.row_len c.spacing-spacing.result.jump c.args.row c.args.column c.args.first (length c.args.part.now / width_of c.args.plan.now.base) c.spacing-spacing.ensures.rows
    (ap (λ x. c.args.row * x + c.args.column) c.spacing-spacing.ensures.per_row ∙ c.requires.position) (omega (arith, c.requires.in_row, c.spacing-spacing.ensures.per_row))) one in
    omega (arith, room, spot-start (c.args.row * c.spacing-spacing.result.row_len + c.args.column * c.spacing-spacing.result.jump) c.spacing-spacing.result.jump)

pub write_row-requires-clause-room : goal.write_row-requires-clause-room
write_row-requires-clause-room c j lt =
    row-room c.args.plan.now c.args._batch.now c.base-base.result (c.args.row * c.spacing-spacing.result.row_len + c.args.column * c.spacing-spacing.result.jump) c.spacing-spacing.result.jump c.args.first (length c.args.part.now / width_of c.args.plan.now.base) j (length c.args.raw.now) c.base-base.ensures.base c.requires.number c.requires.batch c.requires.raw_len c.requires.inside
    (rows-placed c.args.plan.now c.spacing-spacing.result.per_row c.spacing-spacing.result.row_len c.spacing-spacing.result.jump c.args.row c.args.column c.args.first (length c.args.part.now / width_of c.args.plan.now.base) c.spacing-spacing.ensures.rows
    (ap (λ x. c.args.row * x + c.args.column) c.spacing-spacing.ensures.per_row ∙ c.requires.position) (omega (arith, c.requires.in_row, c.spacing-spacing.ensures.per_row))) (subst (λ b. j < length c.args.part.now / width_of b) c.base-base.ensures.base lt)

pub returns : goal.returns
returns c k lt =
    c.write_row.ensures k lt
    ∙ row-bytes c.args.plan.now c.base-base.result c.args.raw.now (c.args.row * c.spacing-spacing.result.row_len + c.args.column * c.spacing-spacing.result.jump) c.spacing-spacing.result.jump c.args.first (length c.args.part.now / width_of c.args.plan.now.base) k c.base-base.ensures.base c.requires.number
    (in_elements (width_of c.args.plan.now.base) (length c.args.part.now) k (width_some c.args.plan.now.base) c.requires.whole lt)
    (rows-placed c.args.plan.now c.spacing-spacing.result.per_row c.spacing-spacing.result.row_len c.spacing-spacing.result.jump c.args.row c.args.column c.args.first (length c.args.part.now / width_of c.args.plan.now.base) c.spacing-spacing.ensures.rows
    (ap (λ x. c.args.row * x + c.args.column) c.spacing-spacing.ensures.per_row ∙ c.requires.position) (omega (arith, c.requires.in_row, c.spacing-spacing.ensures.per_row)))
