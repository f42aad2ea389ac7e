use Rattle.std.proofs.Common.{[], append-nil, refl, sym, subst, ◌∙◌, inl, inr}
use Rattle.dap_errors.specs.Reading as errors
use Rattle.error_word.proofs.InMemory.{error_here}
use Rattle.dap_client.proofs.Filling.{behind_error}
use Rattle.dap_client.specs.inner.TextBodies.{IsTextEnded}
use Rattle.dap_client.proofs.text_stage.end_object.Goals as goal

pub returns-in-Ok : goal.returns-in-Ok
returns-in-Ok c form bytes long error o =
    let front = rw c.in-Front.is at o in
    let same = c.as_slice.ensures.value ∙ front.0 in
    inl (error_here bytes error, rw same at c.in-Ok.ensures.object)

pub returns-in-Err-Bad : goal.returns-in-Err-Bad
returns-in-Err-Bad c form bytes long error o =
    let front = rw c.in-Front.is at o in
    let same = c.as_slice.ensures.value ∙ front.0 in
    let wrong = rw (same, c.in-Err-Bad.field-0-is) at c.in-Err-Bad.ensures.bad in
    subst (IsTextEnded form bytes) (sym c.bad.ensures) (inl (error_here bytes error, inl (wrong, refl)))

pub returns-in-Err-Cut : goal.returns-in-Err-Cut
returns-in-Err-Cut c form bytes long error o =
    let front = rw c.in-Front.is at o in
    let same = c.as_slice.ensures.value ∙ front.0 in
    let cut = subst errors.IsCut same (rw c.in-Err-Cut.field-0-is at c.in-Err-Cut.ensures.cut) in
    subst (IsTextEnded form bytes) (sym c.bad-in-Err-Cut.ensures) (inl (error_here bytes error, inr (cut, sym long, refl)))

pub returns-in-Behind : goal.returns-in-Behind
returns-in-Behind c form bytes long error o =
    let behind = rw c.in-Behind.is at o in inl (error_here bytes error, behind_error bytes _ _ behind)

pub returns : goal.returns
returns c form bytes long error o =
    let wrong = rw c.in-Bad.is at o in
    subst (IsTextEnded form bytes) (sym c.bad-in-Bad.ensures) (inl (error_here bytes error, inl (subst (λ l. errors.IsBad l c.in-Bad.place) (append-nil bytes) (wrong []), refl)))
