-- The last brace of an object.
use Rattle.std.proofs.Common.{◌≡◌, ℕ, sym, subst, false, ◌&&◌, ◌==◌, IsTrue, Result, Ok, Err}
use Rattle.std.specs.Prelude.{MatchResult}
use Rattle.std.proofs.Common.{List}
use Rattle.text_tokens.specs.Tokens.{sign, Next}
use Rattle.dap_errors.specs.Object.{signs, Field}
use Rattle.dap_errors.specs.inner.Machine.{Fields, Ended, has_both, said_by}
use Rattle.dap_errors.specs.inner.Standing.{StandsAt, StopsAt, Holds, Says}
use Rattle.dap_errors.specs.declared.found.Found.{Found}
use Rattle.dap_errors.specs.declared.object.ErrorObject.{ErrorObject}
use Rattle.dap_errors.specs.declared.object.Stop.{Stop}
use Rattle.dap_errors.specs.declared.object.Stop.TheVariants.{Bad}
use Rattle.dap_errors.proofs.Finding.{ended_step, not_ended}
use Rattle.dap_errors.proofs.Labels.{says_is}
use Rattle.dap_errors.proofs.Moves.{moves, stops_bad}

pub ended_at : (text : List ℕ) (at place behind b : ℕ) (done : List Field) (found : Found) (r : Result (ErrorObject × ℕ) Stop) → StandsAt text at (Fields done) → Next signs text at place behind (sign b) → Holds found done
    → MatchResult r (λ r. (r.1 ≡ behind) × ((done : List Field) → Holds found done → IsTrue (b == 125 && has_both done) × Says r.0 done)) (λ stop. (stop ≡ Bad place) × ((done : List Field) → Holds found done → (b == 125 && has_both done) ≡ false))
    → MatchResult r (λ r. StandsAt text r.1 (Ended r.0)) (StopsAt text)
ended_at text at place behind b done found (Ok r) st n h e =
    let (both, says) = e.1 done h in
    let there : StandsAt text behind (Ended (said_by done)) = moves text at place behind (sign b) (Fields done) (Ended (said_by done)) st n (ended_step done b both) in
    let said : StandsAt text behind (Ended r.0) = subst (λ (o : ErrorObject). StandsAt text behind (Ended o)) (sym (says_is r.0 done says)) there in
    subst (λ (k : ℕ). StandsAt text k (Ended r.0)) (sym e.0) said
ended_at text at place behind b done found (Err stop) st n h e =
    subst (StopsAt text) (sym e.0) (stops_bad text at place behind (sign b) (Fields done) st n tt (not_ended done b (e.1 done h)))
