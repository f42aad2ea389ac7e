use Rattle.std.proofs.Common.{Some, ap, ◌∙◌}
use Rattle.dap_server.specs.inner.Opening.{form_view}
use Rattle.dap_server.proofs.open.open_file.Goals as goal

pub unreachable-requires : goal.unreachable-requires
unreachable-requires g c = c.requires.no_list (c.requires.form ∙ ap (λ f. Some (form_view f)) c.in-Joined.is)
