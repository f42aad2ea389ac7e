use Rattle.std.proofs.Common.{◌∙◌, arith}
use Rattle.dap_server.proofs.Connecting.{loop-end, loop-step}
use Rattle.dap_server.proofs.connection.serve_requests.Goals as goal

pub requests-preserved : goal.requests-preserved
requests-preserved g c =
    let kept = c.requests.invariant in
    let step = c.in-GoesOn.ensures in
    record {
      few = step.few;
      so_far = loop-step _ _ _ _ _ _ _ _ _ _ _ _ _ kept.files kept.so_far step.serves;
      shelf_later = omega (arith, kept.shelf_later, step.shelf_later);
      takes = step.causes.0 ∙ kept.takes;
      puts = step.causes.1 ∙ kept.puts;
      files = step.files ∙ kept.files;
      whole = step.whole ∙ kept.whole;
    }

pub returns-in-Ends-clause-serves : goal.returns-in-Ends-clause-serves
returns-in-Ends-clause-serves g c = loop-end _ _ _ _ _ _ _ _ _ _ _ _ c.in-Ends.served c.requests.invariant.files c.requests.invariant.so_far c.in-Ends.ensures.serves
