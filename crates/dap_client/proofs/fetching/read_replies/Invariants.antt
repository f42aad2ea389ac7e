use Rattle.std.proofs.Common.{◌≡◌, None}
use Rattle.dap_client.proofs.Sequels.{SoFar}
use Rattle.dap_client.specs.Following.{pending}
use Rattle.dap_client.specs.Replies.{form_of}
use Rattle.dap_client.proofs.fetching.read_replies.Given as goal

abbrev pub invariant-loop-whole : goal.invariant-loop-whole
invariant-loop-whole g l =
    let source = g.I.Source in
    let sink = g.O.Sink in
    record {
      so_far : SoFar (form_of l.kind) l.whole (source.left l.fn.source) (source.left l.source) (sink.written l.fn.out) (sink.written l.out) (pending l.replies);
      open_still : l.replies.stopped ≡ None;
      takes : source.take_faults l.source ≡ source.take_faults l.fn.source;
      puts : sink.put_faults l.out ≡ sink.put_faults l.fn.out;
      input : source.whole l.source ≡ source.whole l.fn.source;
      beside_source : source.beside_reading l.source ≡ source.beside_reading l.fn.source;
      beside_sink : sink.beside_writing l.out ≡ sink.beside_writing l.fn.out;
    }
