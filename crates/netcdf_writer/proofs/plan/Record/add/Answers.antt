use Rattle.std.proofs.Common.{not, sym, ap, ◌∙◌, true≢false}
use Rattle.netcdf_writer.specs.inner.Planned.{is_second}
use Rattle.netcdf_writer.specs.inner.Tables.{variable_view}
use Rattle.netcdf_writer.proofs.Records.{added_record, inner_clash, second_clash}
use Rattle.netcdf_writer.proofs.plan.Record.add.Goals as goal

pub returns-then-is_inner_record : goal.returns-then-is_inner_record
returns-then-is_inner_record c earlier so =
    (sym (ap not (inner_clash earlier (variable_view c.args.variable.now) (sym c.is_inner_record.ensures ∙ c.if-is_inner_record.true))), λ e. absurd (true≢false (sym e)))

pub returns-then-is_second : goal.returns-then-is_second
returns-then-is_second c earlier so =
    let v = variable_view c.args.variable.now in
    (sym (ap not (second_clash earlier v (sym c.is_inner_record.ensures ∙ c.if-is_inner_record.false) (ap (λ o. is_second o v.dims) (sym so.dim) ∙ sym c.is_second.ensures ∙ c.if-is_second.true))), λ e. absurd (true≢false (sym e)))

pub returns : goal.returns
returns c earlier so =
    added_record c.args.self.now (record { dim = c.first_of-self.result; bytes = c.saturating_add-self.result }) (variable_view c.args.variable.now) c.room_in_record.result earlier so
    (sym c.is_inner_record.ensures ∙ c.if-is_inner_record.false) (sym c.is_second.ensures ∙ c.if-is_second.false)
    c.first_of-self.ensures c.room_in_record.ensures.few c.room_in_record.ensures.many c.saturating_add-self.ensures
