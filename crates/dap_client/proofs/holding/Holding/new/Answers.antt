use Rattle.std.proofs.Common.{[], refl, ap, sym, arith, ◌∙◌}
use Rattle.dap_client.specs.Replies.{form_of}
use Rattle.dap_client.proofs.holding.Holding.new.Goals as goal

pub returns : goal.returns
returns c = record {
  after = ([], c.new.ensures.stands);
  is_form = ap form_of c.new.ensures.kind;
  is_limit = refl;
  held = (c.new-2.ensures.items, omega arith);
  not_version = λ e. c.requires (sym c.new.ensures.kind ∙ e);
}
