use Rattle.std.proofs.Common.{◌≤◌, length, take}
use Rattle.std.specs.List.{AllPass}
use Rattle.dap_model.specs.Tokens.{is_white}
use Rattle.dap_client.proofs.dds_body.first_other.Given as goal

abbrev pub invariant-loop-at : goal.invariant-loop-at
invariant-loop-at l = record {
  within : l.at ≤ length l.fn.piece;
  white : AllPass is_white (take l.at l.fn.piece);
}
