use Rattle.hyperslab_plan.proofs.LawLemmas.{batch_holds, batch_is_fetched}
use Rattle.hyperslab_plan.proofs.laws.batches_hold.Goals as goal

pub returns : goal.returns
returns c = record { held = batch_holds; fetched = batch_is_fetched }
