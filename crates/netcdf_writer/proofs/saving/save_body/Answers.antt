use Rattle.std.proofs.Common.{inl, refl}
use Rattle.dap_types.specs.View.{dataset_view}
use Rattle.netcdf_writer.proofs.Bodies.{of_large}
use Rattle.netcdf_writer.proofs.saving.save_body.Goals as goal

pub returns-then-body-gt-MOST_BODY-clause-judges : goal.returns-then-body-gt-MOST_BODY-clause-judges
returns-then-body-gt-MOST_BODY-clause-judges g c = of_large c.args.body.now _ _ c.save_large.result refl c.save_large.ensures

pub save_good-requires-clause-good : goal.save_good-requires-clause-good
save_good-requires-clause-good g c = let (ts, is) = c.in-Good.ensures in (dataset_view c.in-Good.checked.dataset, ts, is.is_body)

pub returns-in-Bad-clause-judges : goal.returns-in-Bad-clause-judges
returns-in-Bad-clause-judges g c = (inl (c.if-body-gt-MOST_BODY.false, c.in-Bad.ensures), refl)
