use Rattle.std.proofs.Common.{[], append-nil, sym, ap, subst, ◌∙◌}
use Rattle.std.proofs.lemmas.Bool.{false≢true}
use Rattle.dap_client.proofs.Ending.{faulty_other, cut_here, never_fault, refused_verdict}
use Rattle.dap_client.proofs.Filling.{in_line_cut, text_cut}
use Rattle.dap_client.specs.Verdict.{IsVerdict, bad, dods_form}
use Rattle.dap_client.specs.inner.Readers.{IsEnded, WhereWriteFault}
use Rattle.dap_client.specs.inner.Stages.{is_open_stage}
use Rattle.dap_client.proofs.reader.BodyReader.ended.Goals as goal

pub returns-in-First-clause-ended : goal.returns-in-First-clause-ended
returns-in-First-clause-ended c bytes put s =
    let (first, empty) = rw c.in-First.is at s.is_stage in
    subst (λ p. IsEnded bytes p c.end_first.result) (sym empty) (c.end_first.ensures.ended _ bytes s.taken (s.within (ap is_open_stage c.in-First.is)) first.is_word first.had)

pub returns-in-Error-clause-ended : goal.returns-in-Error-clause-ended
returns-in-Error-clause-ended c bytes put s =
    let (error, object, empty) = rw c.in-Error.is at s.is_stage in
    subst (λ p. IsEnded bytes p c.end_object.result) (sym empty) (c.end_object.ensures.ended bytes s.taken (s.within (ap is_open_stage c.in-Error.is)) error object)

pub returns-in-Text-clause-ended : goal.returns-in-Text-clause-ended
returns-in-Text-clause-ended c bytes put s =
    let (none, had, unfinished, empty) = rw c.in-Text.is at s.is_stage in
    subst (λ p. IsEnded bytes p c.bad.result) (sym empty) (subst (λ e. IsEnded bytes [] e) (sym c.bad.ensures) (cut_here bytes c.args.self.taken s.taken (s.within (ap is_open_stage c.in-Text.is)) (text_cut bytes none unfinished)))

pub returns-in-Line-clause-ended : goal.returns-in-Line-clause-ended
returns-in-Line-clause-ended c bytes put s =
    let (none, line, empty) = rw c.in-Line.is at s.is_stage in
    subst (λ p. IsEnded bytes p c.bad-in-Line.result) (sym empty) (subst (λ e. IsEnded bytes [] e) (sym c.bad-in-Line.ensures) (cut_here bytes c.args.self.taken s.taken (s.within (ap is_open_stage c.in-Line.is)) (in_line_cut _ _ bytes none line)))

pub returns-in-Values-clause-ended : goal.returns-in-Values-clause-ended
returns-in-Values-clause-ended c bytes put s =
    let (none, values) = rw c.in-Values.is at s.is_stage in c.end_values.ensures.ended bytes put (s.within (ap is_open_stage c.in-Values.is)) none values

pub returns-in-Refused-clause-ended : goal.returns-in-Refused-clause-ended
returns-in-Refused-clause-ended c bytes put s =
    let r = rw c.in-Refused.is at s.is_stage in
    (subst (λ l. IsVerdict dods_form l (bad c.in-Refused.field.kind c.in-Refused.field.place)) (append-nil bytes) (refused_verdict c.in-Refused.field bytes put s.most r []), r.shows)

pub returns-in-Full-clause-ended : goal.returns-in-Full-clause-ended
returns-in-Full-clause-ended c bytes put s =
    let f = rw c.in-Full.is at s.is_stage in
    (subst (λ l. IsVerdict dods_form l (bad c.in-Full.field.kind c.in-Full.field.place)) (append-nil bytes) (f.stays []), f.shows)

pub returns-in-Failed-clause-ended : goal.returns-in-Failed-clause-ended
returns-in-Failed-clause-ended c bytes put s = rw c.in-Failed.is at s.is_stage

pub returns-clause-ended : goal.returns-clause-ended
returns-clause-ended c bytes put s = rw c.in-Spent.is at s.is_stage

pub returns-in-First-clause-stays : goal.returns-in-First-clause-stays
returns-in-First-clause-stays c bytes put s closed = absurd (false≢true (sym closed ∙ ap is_open_stage c.in-First.is))

pub returns-in-Error-clause-stays : goal.returns-in-Error-clause-stays
returns-in-Error-clause-stays c bytes put s closed = absurd (false≢true (sym closed ∙ ap is_open_stage c.in-Error.is))

pub returns-in-Text-clause-stays : goal.returns-in-Text-clause-stays
returns-in-Text-clause-stays c bytes put s closed = absurd (false≢true (sym closed ∙ ap is_open_stage c.in-Text.is))

pub returns-in-Line-clause-stays : goal.returns-in-Line-clause-stays
returns-in-Line-clause-stays c bytes put s closed = absurd (false≢true (sym closed ∙ ap is_open_stage c.in-Line.is))

pub returns-in-Values-clause-stays : goal.returns-in-Values-clause-stays
returns-in-Values-clause-stays c bytes put s closed = absurd (false≢true (sym closed ∙ ap is_open_stage c.in-Values.is))

pub returns-in-Refused-clause-stays : goal.returns-in-Refused-clause-stays
returns-in-Refused-clause-stays c bytes put s closed =
    let r = rw c.in-Refused.is at s.is_stage in (refused_verdict c.in-Refused.field bytes put s.most r, faulty_other c.in-Refused.field.kind r.is_fault)

pub returns-in-Full-clause-stays : goal.returns-in-Full-clause-stays
returns-in-Full-clause-stays c bytes put s closed = let f = rw c.in-Full.is at s.is_stage in (f.stays, f.other)

pub returns-in-First-clause-failed : goal.returns-in-First-clause-failed
returns-in-First-clause-failed c = never_fault _ c.end_first.result c.end_first.ensures.failed

pub returns-in-Error-clause-failed : goal.returns-in-Error-clause-failed
returns-in-Error-clause-failed c = never_fault _ c.end_object.result c.end_object.ensures.failed

pub returns-in-Values-clause-failed : goal.returns-in-Values-clause-failed
returns-in-Values-clause-failed c = never_fault _ c.end_values.result c.end_values.ensures.failed

pub returns-in-Text-clause-failed : goal.returns-in-Text-clause-failed
returns-in-Text-clause-failed c = subst (WhereWriteFault _) (sym c.bad.ensures) tt

pub returns-in-Line-clause-failed : goal.returns-in-Line-clause-failed
returns-in-Line-clause-failed c = subst (WhereWriteFault _) (sym c.bad-in-Line.ensures) tt

pub returns-in-Failed-clause-failed : goal.returns-in-Failed-clause-failed
returns-in-Failed-clause-failed c = c.in-Failed.is
