use Rattle.csv_source.proofs.KeptFields.{field-at}
use Rattle.csv_source.proofs.fields.field_at.Goals as goal

pub part-requires : goal.part-requires
part-requires c =
    let (field, order, within) = field-at 0 c.args.ends.now c.args.text.now c.args.at c.requires.are_ends c.requires.at in
    record { order = rw c.begin.ensures order; within = within }

pub returns : goal.returns
returns c =
    let (field, order, within) = field-at 0 c.args.ends.now c.args.text.now c.args.at c.requires.are_ends c.requires.at in
    rw (c.part.ensures, c.begin.ensures) field
