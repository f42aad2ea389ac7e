use Rattle.std.proofs.Common.{map, ap, ◌∙◌}
use Rattle.std.specs.Prelude.{not}
use Rattle.std.specs.List.{list_any}
use Rattle.std.specs.Str.{bytes_eq}
use Rattle.dap_types.proofs.NameSets.{put}
use Rattle.netcdf_source.proofs.NewNames.{found, seen}
use Rattle.netcdf_source.proofs.names.Names.insert.Goals as goal

pub returns-clause-is_new : goal.returns-clause-is_new
returns-clause-is_new c = rw (← c.self.view_is) (c.in_ok-insert.ensures.added ∙ ap not (found c.args.name.now c.self.inside.set.keys))

pub returns-clause-names : goal.returns-clause-names
returns-clause-names c = λ n.
    let before = c.self.inside.set.keys in
    rw (← c.self.view_is)
    (ap (λ l. list_any (bytes_eq n) (map (λ k. k.now) l)) c.in_ok-insert.ensures.keys
    ∙ ap (list_any (bytes_eq n)) (seen c.args.name before)
    ∙ put c.args.name.now (map (λ k. k.now) before) n)
