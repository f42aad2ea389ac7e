use Rattle.std.proofs.Common.{arith, sym, ◌∙◌, get_or}
use Rattle.dap_types.specs.declared.declarations.BaseType.TheVariants.{Byte}
use Rattle.csv_source.proofs.Columns.{typed-end, typed-hit, typed-miss}
use Rattle.csv_source.proofs.header.typed_by.Goals as goal

pub returns-in-Some : goal.returns-in-Some
returns-in-Some c =
    let (hit, name, long) = rw c.type_mark.ensures at c.in-Some.ensures.cases in
    let base = get_or c.args.bases.now c.loop-base.base-index Byte in
    rw name (sym (c.loop-base.invariant ∙ typed-hit c.args.bases.now c.loop-base.base-index Byte c.args.field.now c.loop-base-test.true hit))

pub loop-base-preserved : goal.loop-base-preserved
loop-base-preserved c =
    let miss = rw c.type_mark.ensures at c.in_default.ensures.cases in
    c.loop-base.invariant ∙ typed-miss c.args.bases.now c.loop-base.base-index Byte c.args.field.now c.loop-base-test.true miss

pub returns : goal.returns
returns c = sym (c.loop-base.invariant ∙ typed-end c.args.bases.now c.loop-base.base-index c.args.field.now (omega (arith, c.loop-base-test.false)))
