use Rattle.std.proofs.Common.{◌≡◌, ◌≤◌, ◌<◌, ◌-◌}
use Rattle.dap_http.specs.Reading.{kept_by}
use Rattle.dap_server.proofs.Connecting.{Whole-from}
use Rattle.dap_server.proofs.Requesting.{stand}
use Rattle.dap_server.proofs.connection.serve_requests.Given as goal

abbrev pub invariant-requests : goal.invariant-requests
invariant-requests g l =
    let source = g.L.Source in
    let sink = g.L.Sink in
    let shelf = g.S.Shelf in
    record {
      few : l.answered < 1000;
      so_far : Whole-from (shelf.files l.fn.shelf) (source.left l.fn.link) (stand (sink.written l.fn.link) (shelf.faults l.fn.shelf) (shelf.asked l.fn.shelf))
          l.answered l.before (kept_by l.reader) (source.left l.link) (stand (sink.written l.link) (shelf.faults l.shelf) (shelf.asked l.shelf));
      shelf_later : shelf.faults l.fn.shelf ≤ shelf.faults l.shelf;
      takes : source.take_faults l.link ≡ source.take_faults l.fn.link;
      puts : sink.put_faults l.link ≡ sink.put_faults l.fn.link;
      files : shelf.files l.shelf ≡ shelf.files l.fn.shelf;
      whole : source.whole l.link ≡ source.whole l.fn.link;
    }

abbrev pub decreases-requests : goal.decreases-requests
decreases-requests g l = 1000 - l.answered
