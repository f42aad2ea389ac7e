use Rattle.std.proofs.Common.{refl}
use Rattle.dap_types.specs.View.{dataset_view}
use Rattle.xdr_decode.proofs.Beginning.{begins}
use Rattle.xdr_decode.proofs.Roomy.{roomy}
use Rattle.xdr_decode.specs.declared.decoder.State.TheVariants as state
use Rattle.xdr_decode.proofs.decoder.Decoder.new.Goals as goal

pub returns-clause-stands : goal.returns-clause-stands
returns-clause-stands c =
    let room = roomy (dataset_view c.args.dataset) c.requires in
    let placed = rw c.items.ensures at c.new-place.ensures in
    begins (record { start = c.args.start; dataset = c.args.dataset; place = c.new-place.result; held = c.new.result; taken = c.args.start; state = state.Reading })
    c.requires refl c.new.ensures refl c.ranges.start.fits placed.start (placed.wants room) (placed.placed room)
