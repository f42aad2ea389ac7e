use Rattle.dap_model.proofs.FieldKinds.{same_width}
use Rattle.dap_model.proofs.OneSpelling.{next_kind}
use Rattle.dap_model.proofs.OneVerdict.{kind_fault}
use Rattle.dap_model.proofs.laws.one_kind_follows.Goals as goal
use Rattle.dap_model.specs.Laws.{OneKindFollows}

law : OneKindFollows
law d fields f g may may' =
    let kind = next_kind d fields f g may may' in (same_width f g kind, kind_fault f g kind)

pub returns : goal.returns
returns c = record { law = law }
