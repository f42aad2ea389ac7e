use Rattle.std.proofs.Common.{◌≡◌, take, min}
use Rattle.join_source.specs.Members.{all_records, contents_of}
use Rattle.join_source.proofs.joining.sum_of.Given as goal

abbrev pub invariant-loop-header : goal.invariant-loop-header
invariant-loop-header l = l.records ≡ min (all_records (contents_of (take l.header-index l.headers))) 2147483648
