use Rattle.std.proofs.Common.{◌≡◌, ◌++◌, ◌-◌}
use Rattle.dap_model.specs.Shown.{hex}
use Rattle.text_lines.proofs.lines.put_hex.Given as goal

-- with the digits that are left it is the whole
abbrev pub invariant-loop-i : goal.invariant-loop-i
invariant-loop-i l = l.out.items ++ hex (l.digits - l.i) l.bits ≡ l.fn.out.items ++ hex l.digits l.bits
