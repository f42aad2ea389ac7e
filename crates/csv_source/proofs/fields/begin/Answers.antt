use Rattle.std.proofs.Common.{◌≡◌, ◌-◌, suc, arith, sym, ap, ◌∙◌}
use Rattle.csv_source.specs.inner.Held.{begin_of}
use Rattle.csv_source.proofs.KeptFields.{begin-first, begin-later}
use Rattle.csv_source.proofs.fields.begin.Goals as goal

pub returns-then-at-eq0 : goal.returns-then-at-eq0
returns-then-at-eq0 c = let first : c.args.at ≡ 0 = omega (arith, c.if-at-eq0.true) in rw first (sym (begin-first c.args.ends.now))

pub returns-else-at-eq0 : goal.returns-else-at-eq0
returns-else-at-eq0 c =
    let later : c.args.at ≡ suc (c.args.at - 1) = omega (arith, c.if-at-eq0.false) in
    sym (ap (begin_of 0 c.args.ends.now) later ∙ begin-later 0 c.args.ends.now (c.args.at - 1) (omega (arith, c.if-at-eq0.false, c.requires)))
