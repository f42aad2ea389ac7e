use Rattle.std.proofs.Math.Nat.{mul-pos}
use Rattle.hyperslab_plan.proofs.FullLemmas.{rows_most}
use Rattle.hyperslab_plan.proofs.limits.rows_in.Goals as goal

pub returns-else-row_len-eq0-clause-most : goal.returns-else-row_len-eq0-clause-most
returns-else-row_len-eq0-clause-most c some n raw xdr =
    rows_most c.min.result c.args.row_len c.args.per_row c.args.width n c.min.ensures some (mul-pos c.requires.filled c.requires.wide) raw xdr
