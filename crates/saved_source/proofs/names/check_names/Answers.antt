use Rattle.std.proofs.Common.{subst, sym}
use Rattle.dap_types.specs.View.{dataset_view}
use Rattle.dap_types.specs.WellFormed.{fault}
use Rattle.saved_source.proofs.Repeating.{IsOther, fault_is, no_other, none_where_well_formed, told_first}
use Rattle.saved_source.specs.Responses.{first_repeated, saved_dataset}
use Rattle.saved_source.proofs.names.check_names.Goals as goal

pub returns-in-Ok-clause-differ : goal.returns-in-Ok-clause-differ
returns-in-Ok-clause-differ c = none_where_well_formed c.args.file_name.now (dataset_view c.args.response.now) (dataset_view c.in_ok-dataset.dataset) c.requires c.in_ok-dataset.ensures c.in-Ok.ensures.well_formed

pub returns-in-Err-Repeated-clause-first : goal.returns-in-Err-Repeated-clause-first
returns-in-Err-Repeated-clause-first c =
    told_first (fault (dataset_view c.in_ok-dataset.dataset)) (first_repeated (saved_dataset c.args.file_name.now (dataset_view c.args.response.now))) c.in-Err-Repeated.field-0 c.in-Err-Repeated.member c.in-Err-Repeated.ensures.first_fault
    (fault_is c.args.file_name.now (dataset_view c.args.response.now) (dataset_view c.in_ok-dataset.dataset) c.requires c.in_ok-dataset.ensures) c.in-Err-Repeated.field-0-is

pub unreachable-requires : goal.unreachable-requires
unreachable-requires c =
    no_other (fault (dataset_view c.in_ok-dataset.dataset)) (first_repeated (saved_dataset c.args.file_name.now (dataset_view c.args.response.now))) c.in-Err-TooDeep.field-0 c.in-Err-TooDeep.ensures.first_fault
    (fault_is c.args.file_name.now (dataset_view c.args.response.now) (dataset_view c.in_ok-dataset.dataset) c.requires c.in_ok-dataset.ensures) (subst IsOther (sym c.in-Err-TooDeep.field-0-is) tt)

pub unreachable-requires-in-Err-TooMany : goal.unreachable-requires-in-Err-TooMany
unreachable-requires-in-Err-TooMany c =
    no_other (fault (dataset_view c.in_ok-dataset.dataset)) (first_repeated (saved_dataset c.args.file_name.now (dataset_view c.args.response.now))) c.in-Err-TooMany.field-0 c.in-Err-TooMany.ensures.first_fault
    (fault_is c.args.file_name.now (dataset_view c.args.response.now) (dataset_view c.in_ok-dataset.dataset) c.requires c.in_ok-dataset.ensures) (subst IsOther (sym c.in-Err-TooMany.field-0-is) tt)

pub unreachable-requires-in-Err-BadGrid : goal.unreachable-requires-in-Err-BadGrid
unreachable-requires-in-Err-BadGrid c =
    no_other (fault (dataset_view c.in_ok-dataset.dataset)) (first_repeated (saved_dataset c.args.file_name.now (dataset_view c.args.response.now))) c.in-Err-BadGrid.field-0 c.in-Err-BadGrid.ensures.first_fault
    (fault_is c.args.file_name.now (dataset_view c.args.response.now) (dataset_view c.in_ok-dataset.dataset) c.requires c.in_ok-dataset.ensures) (subst IsOther (sym c.in-Err-BadGrid.field-0-is) tt)

pub unreachable-requires-in-Err-BadSize : goal.unreachable-requires-in-Err-BadSize
unreachable-requires-in-Err-BadSize c =
    no_other (fault (dataset_view c.in_ok-dataset.dataset)) (first_repeated (saved_dataset c.args.file_name.now (dataset_view c.args.response.now))) c.in-Err-BadSize.field-0 c.in-Err-BadSize.ensures.first_fault
    (fault_is c.args.file_name.now (dataset_view c.args.response.now) (dataset_view c.in_ok-dataset.dataset) c.requires c.in_ok-dataset.ensures) (subst IsOther (sym c.in-Err-BadSize.field-0-is) tt)
