use Rattle.std.proofs.Common.{inl, inr, refl}
use Rattle.saved_source.proofs.verdict.object_place.Goals as goal
use Rattle.saved_source.proofs.verdict.object_place.Goals.{in-Ok, in-Err-Bad, in-Err-Cut, in-Err-Memory}

pub returns : goal.returns
returns c =
    elim c.match-read_error.branch [
      | in-Ok w ↦ rw w.result-is (let told = w.in-Ok.ensures in inl (w.in-Ok.field-0, told.object, w.begins_at.ensures.value))
      | in-Err-Bad w ↦ rw w.result-is (let told = w.in-Err-Bad.ensures in let bad = rw w.in-Err-Bad.field-0-is at told.bad in inr (inl bad))
      | in-Err-Cut w ↦ rw w.result-is (let told = w.in-Err-Cut.ensures in let cut = rw w.in-Err-Cut.field-0-is at told.cut in inr (inr (cut, refl)))
      | in-Err-Memory w ↦ rw w.result-is tt
    ]
