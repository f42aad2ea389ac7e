use Rattle.std.proofs.Common.{[], true, false, sym, ap, ◌∙◌}
use Rattle.netcdf_writer.specs.Variables.{all_dims, all_maps, stored_from}
use Rattle.netcdf_writer.specs.inner.Tables.{top_view, variable_views}
use Rattle.netcdf_writer.proofs.Planning.{beside_at, beside_dims, beside_maps, dims_told, maps_clash, one_planned, own_stored, records_told}
use Rattle.netcdf_writer.proofs.plan.Plan.add_variables.Goals as goal

pub returns-then-any_clashes : goal.returns-then-any_clashes
returns-then-any_clashes c all earlier tops so = (
  beside_maps all earlier (top_view c.args.top.now)
      (maps_clash c.args.names.now c.args.self.now.maps all earlier (top_view c.args.top.now) c.deref-2.result.now true tops so.maps (ap variable_views c.deref-2.ensures.value ∙ c.in_ok-maps.ensures)
      (sym c.if-any_clashes.true ∙ c.any_clashes.ensures)),
  tt,
)

pub returns-then-not-branch : goal.returns-then-not-branch
returns-then-not-branch c all earlier tops so =
    let top = top_view c.args.top.now in
    let of_maps = ap variable_views c.deref.ensures.value ∙ c.in_ok-maps.ensures in
    let own_is = own_stored c.args.names.now c.args.self.now.maps all earlier top _ (variable_views c.in_ok-own.own.items) tops so.maps of_maps c.in_ok-own.ensures in
    let step = c.in_ok-add_all.ensures (all_dims (stored_from all [] earlier)) so.dims in (
      beside_dims all earlier top
          (maps_clash c.args.names.now c.args.self.now.maps all earlier top c.deref-2.result.now false tops so.maps (ap variable_views c.deref-2.ensures.value ∙ c.in_ok-maps.ensures) (sym c.if-any_clashes.false ∙ c.any_clashes.ensures))
          (dims_told _ _ (variable_views c.deref-3.result.now) _ false (ap variable_views c.deref-3.ensures.value ∙ own_is) step.0 c.if-not-branch.true),
      tt,
    )

pub returns-then-not-add_all : goal.returns-then-not-add_all
returns-then-not-add_all c all earlier tops so =
    let top = top_view c.args.top.now in
    let of_maps = ap variable_views c.deref.ensures.value ∙ c.in_ok-maps.ensures in
    let own_is = own_stored c.args.names.now c.args.self.now.maps all earlier top _ (variable_views c.in_ok-own.own.items) tops so.maps of_maps c.in_ok-own.ensures in
    let step = c.in_ok-add_all.ensures (all_dims (stored_from all [] earlier)) so.dims in
    let sums = c.add_all-2.ensures (stored_from all [] earlier) so.records in (
      sym (beside_at all earlier top false false true
          (maps_clash c.args.names.now c.args.self.now.maps all earlier top c.deref-2.result.now false tops so.maps (ap variable_views c.deref-2.ensures.value ∙ c.in_ok-maps.ensures) (sym c.if-any_clashes.false ∙ c.any_clashes.ensures))
          (dims_told _ _ (variable_views c.deref-3.result.now) _ true (ap variable_views c.deref-3.ensures.value ∙ own_is) step.0 c.if-not-branch.false)
          (records_told _ _ (variable_views c.deref-4.result.now) _ false (ap variable_views c.deref-4.ensures.value ∙ own_is) sums.0 c.if-not-add_all.true)),
      tt,
    )

pub returns : goal.returns
returns c all earlier tops so =
    let top = top_view c.args.top.now in
    let of_maps = ap variable_views c.deref.ensures.value ∙ c.in_ok-maps.ensures in
    let own_is = own_stored c.args.names.now c.args.self.now.maps all earlier top _ (variable_views c.in_ok-own.own.items) tops so.maps of_maps c.in_ok-own.ensures in
    let step = c.in_ok-add_all.ensures (all_dims (stored_from all [] earlier)) so.dims in
    let sums = c.add_all-2.ensures (stored_from all [] earlier) so.records in (
      sym (beside_at all earlier top false false false
          (maps_clash c.args.names.now c.args.self.now.maps all earlier top c.deref-2.result.now false tops so.maps (ap variable_views c.deref-2.ensures.value ∙ c.in_ok-maps.ensures) (sym c.if-any_clashes.false ∙ c.any_clashes.ensures))
          (dims_told _ _ (variable_views c.deref-3.result.now) _ true (ap variable_views c.deref-3.ensures.value ∙ own_is) step.0 c.if-not-branch.false)
          (records_told _ _ (variable_views c.deref-4.result.now) _ true (ap variable_views c.deref-4.ensures.value ∙ own_is) sums.0 c.if-not-add_all.false)),
      one_planned c.args.self.now _ all earlier top (variable_views c.in_ok-own.own.items) (variable_views c.in_ok-maps.maps.items) so own_is c.in_ok-maps.ensures
          (rw c.deref-6.ensures.value at c.in_ok-append.ensures) (rw c.deref-3.ensures.value at step.1 c.if-not-branch.false)
          (rw c.deref-5.ensures.value at c.in_ok-add_maps.ensures (all_maps earlier) so.maps) (rw c.deref-4.ensures.value at sums.1 c.if-not-add_all.false),
    )
