use Rattle.netcdf_source.proofs.Steps.{sound_steps}
use Rattle.netcdf_source.proofs.file.Header.new.Goals as goal

pub layouts-requires-clause-steps : goal.layouts-requires-clause-steps
layouts-requires-clause-steps c = sound_steps c.args.contents c.requires.sound
