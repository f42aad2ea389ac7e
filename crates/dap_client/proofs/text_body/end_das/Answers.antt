use Rattle.std.proofs.Common.{inl}
use Rattle.dap_client.proofs.TextBodies.{das_known}
use Rattle.dap_client.proofs.text_body.end_das.Goals as goal

pub returns-in-White : goal.returns-in-White
returns-in-White c bytes long none opening o = let (empty, left) = rw c.in-White.is at opening in c.end_open.ensures bytes long none empty o

pub returns-in-Word : goal.returns-in-Word
returns-in-Word c bytes long none opening o = let (empty, left) = rw c.in-Word.is at opening in c.end_open-in-Word.ensures bytes long none empty o

pub returns-in-Whole : goal.returns-in-Whole
returns-in-Whole c bytes long none opening o = c.end_known.ensures bytes long none (inl (das_known bytes (rw c.in-Whole.is at opening))) o
