use Rattle.std.proofs.Common.{length, ap, ◌∙◌}
use Rattle.dap_types.specs.declared.values.Value.{Value}
use Rattle.dap_model.proofs.Cuts.{nested_from_fits, cut-array_tree, values_in-array_tree}
use Rattle.dap_model.specs.Cutting.{cut, cut_nested}
use Rattle.dap_model.specs.Fits.{values_in}
use Rattle.dap_model.proofs.laws.cut_is_nested.Goals as goal
use Rattle.dap_model.specs.Laws.{CutIsNested}

law : CutIsNested
law base ns t fit =
    let nested = nested_from_fits base ns t fit in (
      nested.values,
      nested.is,
      λ slabs few. ap (λ u. values_in (cut slabs u)) nested.is ∙ ap values_in (cut-array_tree (length ns) slabs nested.values few)
          ∙ values_in-array_tree (length ns) (cut_nested Value (length ns) slabs nested.values),
    )

pub returns : goal.returns
returns c = record { law = law }
