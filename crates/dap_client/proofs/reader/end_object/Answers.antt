use Rattle.std.proofs.Common.{[], append-nil, refl, sym, subst, ◌∙◌, inl}
use Rattle.dap_errors.specs.Reading as errors
use Rattle.dap_client.proofs.Begun.{error_few}
use Rattle.dap_client.proofs.Ending.{cut_object, object_bad}
use Rattle.error_word.proofs.InMemory.{error_here}
use Rattle.dap_client.proofs.Filling.{behind_error}
use Rattle.dap_client.specs.inner.Readers.{IsEnded}
use Rattle.dap_client.proofs.reader.end_object.Goals as goal

pub returns-in-Ok-clause-ended : goal.returns-in-Ok-clause-ended
returns-in-Ok-clause-ended c bytes long small error o =
    let front = rw c.in-Front.is at o in
    let same = c.as_slice.ensures.value ∙ front.0 in
    (inl (small, inl (error_here bytes error, rw same at c.in-Ok.ensures.object)), refl)

pub returns-in-Err-Bad-clause-ended : goal.returns-in-Err-Bad-clause-ended
returns-in-Err-Bad-clause-ended c bytes long small error o =
    let front = rw c.in-Front.is at o in
    let same = c.as_slice.ensures.value ∙ front.0 in
    let wrong = rw (same, c.in-Err-Bad.field-0-is) at c.in-Err-Bad.ensures.bad in
    subst (λ e. IsEnded bytes [] e) (sym c.bad.ensures) (object_bad bytes c.in-Err-Bad.place small error wrong)

pub returns-in-Err-Cut-clause-ended : goal.returns-in-Err-Cut-clause-ended
returns-in-Err-Cut-clause-ended c bytes long small error o =
    let front = rw c.in-Front.is at o in
    let same = c.as_slice.ensures.value ∙ front.0 in
    let cut = subst errors.IsCut same (rw c.in-Err-Cut.field-0-is at c.in-Err-Cut.ensures.cut) in
    subst (λ e. IsEnded bytes [] e) (sym c.bad-in-Err-Cut.ensures) (cut_object bytes c.args.taken long small error cut)

pub returns-in-Front-clause-ended : goal.returns-in-Front-clause-ended
returns-in-Front-clause-ended c bytes long small error o = (error_few bytes 65536 error, refl)

pub returns-in-Behind-clause-ended : goal.returns-in-Behind-clause-ended
returns-in-Behind-clause-ended c bytes long small error o =
    let behind = rw c.in-Behind.is at o in (inl (small, inl (error_here bytes error, behind_error bytes _ _ behind)), refl)

pub returns-clause-ended : goal.returns-clause-ended
returns-clause-ended c bytes long small error o =
    let wrong = rw c.in-Bad.is at o in
    subst (λ e. IsEnded bytes [] e) (sym c.bad-in-Bad.ensures) (object_bad bytes c.in-Bad.place small error (subst (λ l. errors.IsBad l c.in-Bad.place) (append-nil bytes) (wrong [])))
