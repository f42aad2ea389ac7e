use Rattle.std.proofs.Common.{◌++◌, inl, refl}
use Rattle.dap_client.proofs.Wrapped.{full_data, refused_stopped}
use Rattle.dap_client.proofs.part.closed.Goals as goal

pub returns-in-Refused-clause-stopped : goal.returns-in-Refused-clause-stopped
returns-in-Refused-clause-stopped c before piece put s none = refused_stopped c.in-Refused.field before (before ++ piece) put s.most (rw c.in-Refused.is at s.is_stage)

pub returns-in-Full-clause-stopped : goal.returns-in-Full-clause-stopped
returns-in-Full-clause-stopped c before piece put s none = full_data c.in-Full.field before (before ++ piece) put (rw c.in-Full.is at s.is_stage)

pub returns-in-Failed-clause-stopped : goal.returns-in-Failed-clause-stopped
returns-in-Failed-clause-stopped c before piece put s none = (refl, inl (rw c.in-Failed.is at s.is_stage))

pub returns-in-Spent-clause-stopped : goal.returns-in-Spent-clause-stopped
returns-in-Spent-clause-stopped c before piece put s none = let (few, nothing) = rw c.in-Spent.is at s.is_stage in (nothing, λ is. none nothing)

pub returns-in-Failed-clause-fault : goal.returns-in-Failed-clause-fault
returns-in-Failed-clause-fault c = c.in-Failed.is
