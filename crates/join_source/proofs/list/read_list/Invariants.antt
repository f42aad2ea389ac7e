use Rattle.std.proofs.Common.{◌≡◌, ◌-◌, ◌≤◌, ◌<◌, [], drop, length, take}
use Rattle.join_source.specs.Lists.{lines_from, lines_of, names_from}
use Rattle.join_source.proofs.list.read_list.Given as goal

abbrev pub invariant-loop-k : goal.invariant-loop-k
invariant-loop-k l = record {
  start : l.start ≤ l.k;
  few : length l.names < 65;
  same : names_from l.names (lines_from (take (l.k - l.start) (drop l.start l.bytes)) (drop l.k l.bytes)) ≡ names_from [] (lines_of l.bytes);
}
