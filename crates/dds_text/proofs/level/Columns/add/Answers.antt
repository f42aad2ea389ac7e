use Rattle.std.proofs.Common.{List, sym, subst}
use Rattle.dap_types.specs.declared.declarations.Column.{Column}
use Rattle.dds_text.specs.inner.Held.{NamesAre}
use Rattle.dds_text.specs.inner.States.{is_name_of_column}
use Rattle.dds_text.proofs.Named.{column_named}
use Rattle.dds_text.proofs.level.Columns.add.Goals as goal

pub returns-clause-names : goal.returns-clause-names
returns-clause-names c = λ have.
    let more = c.insert.new.self in
    let Q : List Column → Type 0 = λ cs. NamesAre more (is_name_of_column cs) in
    subst Q (sym c.in_ok-push.ensures) (column_named c.args.self.now.names more c.args.self.now.list c.args.column c.in_ok-insert.ensures.names have)
