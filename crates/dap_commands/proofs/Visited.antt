-- Each data response that stands in what a link of `serve` gained is good.
use Rattle.std.proofs.Common.{Some, refl}
use Rattle.dap_server.proofs.Connecting.{told-put}
use Rattle.both_ends.proofs.Standing.{served_is_good}
use Rattle.dap_commands.specs.Laws.{VisitsAreGood}

pub visits-are-good : {W : Type 0} → VisitsAreGood W
visits-are-good files state v hold is =
    let (taken, took, served) = is.requests in
    (told-put (Some files) 1 v.connection _ _ refl is.gained, served_is_good files taken _ v.connection v.served hold served)
