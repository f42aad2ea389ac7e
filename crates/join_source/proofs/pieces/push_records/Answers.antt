use Rattle.join_source.proofs.Files.{on_ok-map}
use Rattle.join_source.proofs.Putting.{records-put}
use Rattle.join_source.proofs.pieces.push_records.Goals as goal

pub returns : goal.returns
returns c = record {
  pushed = on_ok-map c.push-2.result (records-put c.args.pieces.now c.push.new.self c.push_each.new.pieces c.push-2.new.self c.args.headers.now c.args.leaf c.args.base c.args.slabs.now c.args.count c.in_ok-counts.field-0 c.in_ok-filler.field-0
      c.requires.count c.in_ok-counts.ensures c.in_ok-filler.ensures c.in_ok-push.ensures.ok c.in_ok-push_each.ensures.pushed) c.push-2.ensures.ok;
}
