use Rattle.std.proofs.Common.{Err, ap, ◌∙◌}
use Rattle.dap_client.proofs.Bodies.{body_good}
use Rattle.dap_types.specs.View.{dataset_view}
use Rattle.netcdf_writer.specs.Saved.{trees_in}
use Rattle.xdr_decode.specs.Verdict.{good}
use Rattle.netcdf_writer.proofs.Bodies.{no_body, of_stored, small_body}
use Rattle.netcdf_writer.proofs.saving.save_good.Goals as goal

pub write_cdf-requires : goal.write_cdf-requires
write_cdf-requires g c = small_body c.args.body.now (dataset_view c.in-Ok.filled.dataset) (trees_in c.in-Ok.filled) c.in-Ok.ensures.body c.requires.few

pub returns-in-Ok-clause-judges : goal.returns-in-Ok-clause-judges
returns-in-Ok-clause-judges g c =
    let d = dataset_view c.in-Ok.filled.dataset in
    let ts = trees_in c.in-Ok.filled in
    of_stored c.args.body.now _ _ c.write_cdf.result d ts c.requires.few (body_good c.args.body.now d ts c.in-Ok.ensures.body) c.write_cdf.ensures.answers c.write_cdf.ensures.stores

pub unreachable-requires : goal.unreachable-requires
unreachable-requires g c =
    let (d, ts, is) = c.requires.good in
    no_body c.decode_all.result _ (c.in-Err-Refused.is ∙ ap Err c.in-Err-Refused.field-0-is) d ts (c.decode_all.ensures.only (good d ts) is)
