use Rattle.std.proofs.Common.{ap, arith, length, refl, rules, subst}
use Rattle.xdr_decode.specs.Checking.{IsChecked}
use Rattle.saved_source.proofs.Read.{saved_is, saved_well_formed}
use Rattle.saved_source.proofs.saved.hold_saved.Goals as goal

pub returns-in_err-checked-clause-refused : goal.returns-in_err-checked-clause-refused
returns-in_err-checked-clause-refused c = let told = c.in_err-checked.ensures.refused c.args.file_name.now in search rules

pub returns-clause-saved : goal.returns-clause-saved
returns-clause-saved c =
    let good = c.in_ok-checked.ensures.good in
    let both = saved_is (record { response = c.in_ok-checked.checked.dataset; bytes = c.args.bytes; values_at = c.in_ok-checked.checked.values_at; file_name = c.in_ok-name.name }) c.args.bytes c.args.file_name.now c.in_ok-checked.checked good.0 (omega (arith, c.if-whole-gt-MOST.false, ap length c.bytes-whole.ensures)) (subst (λ bytes. IsChecked bytes c.in_ok-checked.checked good.0) c.bytes-whole.ensures good.1)
    refl refl refl c.in_ok-name.ensures c.in_ok-check_names.ensures.differ in
    (good.0, both.0, both.1)

pub returns-clause-well_formed : goal.returns-clause-well_formed
returns-clause-well_formed c =
    saved_well_formed (record { response = c.in_ok-checked.checked.dataset; bytes = c.args.bytes; values_at = c.in_ok-checked.checked.values_at; file_name = c.in_ok-name.name }) c.args.file_name.now c.in_ok-checked.checked refl c.in_ok-name.ensures
    c.in_ok-check_names.ensures.well_formed
