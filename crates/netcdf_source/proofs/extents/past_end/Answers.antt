use Rattle.std.proofs.Common.{◌<◌, length}
use Rattle.netcdf_source.proofs.Records.{size_at, sound_sizes}
use Rattle.netcdf_source.proofs.extents.past_end.Goals as goal

pub is_past-requires-clause-size : goal.is_past-requires-clause-size
is_past-requires-clause-size c =
    let lt : c.loop-i.i < length c.args.contents.now.variables = rw (← c.items-variables.ensures) c.loop-i-test.true in
    rw (c.index-variables-i.is, c.items-variables.ensures) (size_at c.args.contents.now.dimensions c.args.contents.now.variables (sound_sizes c.args.contents.now c.requires.sound) c.loop-i.i _ lt)
