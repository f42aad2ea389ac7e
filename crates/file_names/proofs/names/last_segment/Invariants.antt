use Rattle.std.proofs.Common.{◌≡◌, ◌≤◌, ◌+◌, length, take}
use Rattle.std.specs.Prelude.{◌==◌, not}
use Rattle.std.specs.List.{suffix_len}
use Rattle.file_names.proofs.names.last_segment.Given as goal

-- no byte from the start on is a `/`
abbrev pub invariant-loop-start : goal.invariant-loop-start
invariant-loop-start l =
    (l.start ≤ length l.file_name)
    × (suffix_len (λ b. not (b == 47)) l.file_name + l.start ≡ length l.file_name + suffix_len (λ b. not (b == 47)) (take l.start l.file_name))

abbrev pub decreases-loop-start : goal.decreases-loop-start
decreases-loop-start l = l.start
