use Rattle.std.proofs.Common.{◌≡◌, ◌++◌, drop}
use Rattle.das_text.specs.Das.{entries_text}
use Rattle.das_text.specs.View.{entries_view}
use Rattle.das_text.proofs.printing.+printing.Given as goal

abbrev pub invariant-put_entries-loop-entry : goal.invariant-put_entries-loop-entry
invariant-put_entries-loop-entry l =
    l.out.items ++ entries_text l.depth (entries_view (drop l.entry-index l.entries)) ≡ l.fn.out.items ++ entries_text l.depth (entries_view l.entries)
