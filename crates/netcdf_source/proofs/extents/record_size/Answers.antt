use Rattle.std.proofs.Common.{◌≡◌, ℕ, cond, eqb, ap, sym, ◌∙◌, arith}
use Rattle.std.proofs.lemmas.Bool.{ne_eqb}
use Rattle.netcdf_source.specs.Parts.{bare, mark, share}
use Rattle.netcdf_source.proofs.Records.{size_at, sum_next, shares_next, marks_le, bares_le, record_size_is}
use Rattle.netcdf_source.proofs.extents.record_size.Goals as goal

pub shares_of-shares-requires : goal.shares_of-shares-requires
shares_of-shares-requires c = rw c.variable-item.is (size_at c.args.dimensions.now c.args.variables.now c.requires.sizes c.loop-variable.variable-index _ c.loop-variable-test.true)

pub overflow_add-count : goal.overflow_add-count
overflow_add-count c =
    let dims = c.args.dimensions.now in
    let vs = c.args.variables.now in
    let i = c.loop-variable.variable-index in
    let v = c.variable-item.result in
    let is : c.shares_of-shares.result.count ≡ mark dims v = c.shares_of-shares.ensures.count in
    let next = sum_next (mark dims) vs i v c.loop-variable-test.true c.variable-item.is in
    omega (arith, is, next, marks_le dims vs, c.loop-variable.invariant.0, c.requires.count)

pub overflow_add-bare : goal.overflow_add-bare
overflow_add-bare c =
    let dims = c.args.dimensions.now in
    let vs = c.args.variables.now in
    let i = c.loop-variable.variable-index in
    let v = c.variable-item.result in
    let is : c.shares_of-shares.result.bare ≡ bare dims v = c.shares_of-shares.ensures.bare in
    let next = sum_next (bare dims) vs i v c.loop-variable-test.true c.variable-item.is in
    omega (arith, is, next, bares_le dims vs, c.loop-variable.invariant.1, c.requires.sum)

pub loop-variable-preserved : goal.loop-variable-preserved
loop-variable-preserved c =
    let dims = c.args.dimensions.now in
    let vs = c.args.variables.now in
    let i = c.loop-variable.variable-index in
    let v = c.variable-item.result in
    let one : c.shares_of-shares.result.count ≡ mark dims v = c.shares_of-shares.ensures.count in
    let two : c.shares_of-shares.result.bare ≡ bare dims v = c.shares_of-shares.ensures.bare in
    let three : c.shares_of-shares.result.padded ≡ share dims v.dimensions v.external_type = c.shares_of-shares.ensures.padded in
    let a = sum_next (mark dims) vs i v c.loop-variable-test.true c.variable-item.is in
    let b = sum_next (bare dims) vs i v c.loop-variable-test.true c.variable-item.is in
    let d = shares_next dims vs i v c.loop-variable-test.true c.variable-item.is in
    (omega (arith, one, a, c.loop-variable.invariant.0), omega (arith, two, b, c.loop-variable.invariant.1), omega (arith, three, d, c.loop-variable.invariant.2))

pub returns-then-count-eq1 : goal.returns-then-count-eq1
returns-then-count-eq1 c =
    let inv = c.loop-variable.invariant in
    let e = record_size_is c.args.dimensions.now c.args.variables.now c.loop-variable.variable-index c.loop-variable.count c.loop-variable.bare c.loop-variable.padded c.loop-variable-test.false inv.0 inv.1 inv.2 in
    ap (λ (n : ℕ). cond (eqb n 1) c.loop-variable.bare c.loop-variable.padded) (sym c.if-count-eq1.true) ∙ e

pub returns-else-count-eq1 : goal.returns-else-count-eq1
returns-else-count-eq1 c =
    let inv = c.loop-variable.invariant in
    let e = record_size_is c.args.dimensions.now c.args.variables.now c.loop-variable.variable-index c.loop-variable.count c.loop-variable.bare c.loop-variable.padded c.loop-variable-test.false inv.0 inv.1 inv.2 in
    ap (λ b. cond b c.loop-variable.bare c.loop-variable.padded) (sym (ne_eqb c.loop-variable.count 1 c.if-count-eq1.false)) ∙ e
