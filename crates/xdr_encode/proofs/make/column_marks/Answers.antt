use Rattle.std.proofs.Common.{ap, length, ◌∙◌, ◌∷◌, [], arith, length-append}
use Rattle.grid_projection.specs.Resolved.{marks_in}
use Rattle.xdr_encode.proofs.TableSending.{push_marked}
use Rattle.xdr_encode.proofs.make.column_marks.Goals as goal

pub loop-column-preserved : goal.loop-column-preserved
loop-column-preserved c =
    let kept = c.loop-column.invariant in
    record {
      marked = c.in_ok-push.ensures.ok ∙ push_marked (marks_in c.args.marks.now) c.loop-column.column c.loop-column.chosen c.is_marked.result kept.marked c.is_marked.ensures;
      long = omega (arith, ap length c.in_ok-push.ensures.ok, length-append c.loop-column.chosen (c.is_marked.result ∷ []), kept.long);
    }
