use Rattle.std.proofs.Common.{ap, sym, ◌∙◌, ◌∷◌, []}
use Rattle.netcdf_writer.proofs.Owning.{own_structure, own_sequence, own_empty_grid, own_grid}
use Rattle.netcdf_writer.proofs.tops.Top.push_own.Goals as goal

pub returns-in-empty : goal.returns-in-empty
returns-in-empty c = own_empty_grid _ _ _ _ _ c.parts_of.result.now _ c.in-Grid.is c.parts_of.ensures c.in-empty.len_below

pub returns-in-Structure : goal.returns-in-Structure
returns-in-Structure c = own_structure _ _ _ _ _ c.in-Structure.is

pub returns-in-Sequence : goal.returns-in-Sequence
returns-in-Sequence c = own_sequence _ _ _ _ _ c.in-Sequence.is

pub returns-in-len1-up : goal.returns-in-len1-up
returns-in-len1-up c =
    rw (own_grid _ _ _ _ _ c.parts_of.result.now _ c.in-Grid.is c.parts_of.ensures c.in-len1-up.len_at_least c.tree-item.is ∙ ap (λ v. v ∷ []) (sym c.of_array-in-len1-up.ensures)) c.push-in-len1-up.ensures
