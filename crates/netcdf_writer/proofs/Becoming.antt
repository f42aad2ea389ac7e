-- What becomes of a reply that was read.
use Rattle.std.proofs.Common.{◌≡◌, ℕ, List, Option, sym, subst, ◌∙◌}
use Rattle.dap_client.specs.declared.body_outcome.BodyOutcome.{BodyOutcome}
use Rattle.dap_client.specs.declared.body_outcome.BodyOutcome.TheVariants as outcomes
use Rattle.netcdf_writer.specs.Fetching.{Becomes}
use Rattle.netcdf_writer.specs.Saving.{Judges}
use Rattle.netcdf_writer.specs.declared.stored.Stored.{Stored}
use Rattle.netcdf_writer.specs.declared.stored.Stored.TheVariants.{BadReply, BodyTooLarge, LinkFault, Memory, ReadFault}

-- a failed read is the answer
pub becomes_fault : (outcome : BodyOutcome) (before now : Option (List ℕ)) (answer : Stored) → outcome ≡ outcomes.ReadFault → Becomes outcome before now answer → answer ≡ ReadFault
becomes_fault outcome before now answer is so = (subst (λ (o : BodyOutcome). Becomes o before now answer) is so).0

-- a body is judged without a dial
no_link_judged : (body : List ℕ) (before now : Option (List ℕ)) (answer : Stored) → answer ≡ LinkFault → Judges body before now answer → ⊥
no_link_judged body before now answer is so = subst (λ (s : Stored). Judges body before now s) is so

pub no_link_fault : (outcome : BodyOutcome) (before now : Option (List ℕ)) (answer : Stored) → answer ≡ LinkFault → Becomes outcome before now answer → ⊥
no_link_fault (outcomes.Good body) before now answer is so = no_link_judged body before now answer is so
no_link_fault (outcomes.ServerError body) before now answer is so = no_link_judged body before now answer is so
no_link_fault (outcomes.Bad field) before now answer is so = clash (sym so.0 ∙ is)
  where
    clash : BadReply field ≡ LinkFault → ⊥
    clash e = cc
no_link_fault outcomes.TooLarge before now answer is so = clash (sym so.0 ∙ is)
  where
    clash : BodyTooLarge ≡ LinkFault → ⊥
    clash e = cc
no_link_fault outcomes.ReadFault before now answer is so = clash (sym so.0 ∙ is)
  where
    clash : ReadFault ≡ LinkFault → ⊥
    clash e = cc
no_link_fault outcomes.Memory before now answer is so = clash (sym so.0 ∙ is)
  where
    clash : Memory ≡ LinkFault → ⊥
    clash e = cc
