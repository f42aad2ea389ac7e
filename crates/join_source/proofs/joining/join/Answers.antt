use Rattle.std.proofs.Common.{◌≢◌, ◌≤◌, None, length, sym, subst}
use Rattle.netcdf_source.specs.Mapping.{records_of}
use Rattle.join_source.proofs.Differing.{each-has-records, told-some}
use Rattle.join_source.proofs.joining.join.Goals as goal

pub sum_of-records-requires : goal.sum_of-records-requires
sum_of-records-requires c = λ k d lt.
    let some : 1 ≤ length c.items-items.result.now = subst (λ hs. 1 ≤ length hs) (sym c.items-items.ensures) c.requires.some in
    let has : records_of c.index-items-0.result.contents ≢ None = told-some (records_of c.index-items-0.result.contents) c.records.result c.is_none.result c.records.ensures c.is_none.ensures c.if-is_none.false in
    each-has-records c.items-items.result.now c.index-items-0.result d some (subst (λ h. records_of h.contents ≢ None) c.index-items-0.is has) c.in_default.ensures k lt
