use Rattle.std.proofs.Common.{◌≡◌, ◌<◌, ◌∙◌, ap, arith, length, false}
use Rattle.std.proofs.lemmas.List.{length-map}
use Rattle.netcdf_source.specs.Mapping.{is_grid}
use Rattle.netcdf_source.proofs.LeafTable.{mapped_at}
use Rattle.netcdf_source.proofs.leaves.leaves.Goals as goal

pub bounds-grids-i : goal.bounds-grids-i
bounds-grids-i c =
    let long : length c.args.grids.now ≡ length c.args.contents.now.variables = ap length c.requires.grids ∙ length-map c.args.contents.now.variables (is_grid c.args.contents.now) in
    let lt : c.loop-i.i < length c.args.contents.now.variables = rw (← c.items-variable-items.ensures) c.loop-i-test.true in
    omega (arith, long, lt)

pub push_leaves-requires-clause-grid : goal.push_leaves-requires-clause-grid
push_leaves-requires-clause-grid c =
    let lt : c.loop-i.i < length c.args.contents.now.variables = rw (← c.items-variable-items.ensures) c.loop-i-test.true in
    rw (c.variable-item.is, c.items-variable-items.ensures) (mapped_at (is_grid c.args.contents.now) c.args.contents.now.variables c.args.grids.now c.loop-i.i _ false c.requires.grids lt)
