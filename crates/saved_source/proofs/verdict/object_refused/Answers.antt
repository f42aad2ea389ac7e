use Rattle.std.proofs.Common.{inl}
use Rattle.saved_source.proofs.verdict.object_refused.Goals as goal

pub returns-in-Ok : goal.returns-in-Ok
returns-in-Ok c file_name = (c.requires.few, inl (c.requires.error, c.in-Ok.ensures))
