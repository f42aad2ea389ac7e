use Rattle.std.proofs.Common.{◌≡◌, take}
use Rattle.std.specs.List.{flat_map}
use Rattle.dap_model.specs.Shown.{shown_byte}
use Rattle.xdr_decode.proofs.value_text.plain_run.Given as goal

abbrev pub invariant-loop-at : goal.invariant-loop-at
invariant-loop-at l = flat_map shown_byte (take l.at l.text) ≡ take l.at l.text
