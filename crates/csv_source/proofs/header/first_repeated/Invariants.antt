use Rattle.std.proofs.Common.{◌≡◌, ◌+◌, ℕ, List, [], map, take, drop}
use Rattle.std.specs.BTreeMap.{get_by}
use Rattle.std.specs.Cmp.Lexicographic.{slice_cmp}
use Rattle.std.specs.List.{list_any}
use Rattle.std.specs.Option.{is_some}
use Rattle.std.specs.Ordering.{nat_cmp}
use Rattle.std.specs.Str.{bytes_eq}
use Rattle.csv_source.specs.Header.{repeated_from}
use Rattle.csv_source.proofs.header.first_repeated.Given as goal

-- the names so far are those of the columns so far, and what is left decides
abbrev pub invariant-loop-i : goal.invariant-loop-i
invariant-loop-i l = record {
  same : repeated_from 1 [] l.columns ≡ repeated_from (l.i + 1) (map (λ c. c.name) (take l.i l.columns)) (drop l.i l.columns);
  named : (q : List ℕ) → is_some (get_by (λ k. slice_cmp nat_cmp q k.now) l.names) ≡ list_any (bytes_eq q) (map (λ c. c.name) (take l.i l.columns));
}
