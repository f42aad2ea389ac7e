-- How the cases end: the number and the line (this project's).
use Rattle.std.specs.Prelude.{◌≡◌, ℕ, List, codes, map, if◌then◌else◌, Option, Some, Result, Ok, Err}
use Rattle.std.specs.List.{list_all}
use Rattle.std.specs.Io.KnownBytes.{Appends}
use Rattle.dap_outside.specs.Files.{Told}
use Rattle.dap_cases.specs.Files.{AreListed}
use Rattle.dap_cases.specs.Reports.{agrees, report_of}
use Rattle.dap_cases.specs.declared.outcome.Outcome.{Outcome}
use Rattle.dap_cases.specs.declared.stop.Stop.{Stop}
use Rattle.dap_cases.specs.declared.stop.Stop.TheVariants.{Unread, WriteFault, Memory}

-- the numbers of `dap2` for the same: a failed read, a failed write and a want of memory
abbrev pub stop_number : Stop → ℕ
stop_number Unread = 7
stop_number WriteFault = 8
stop_number Memory = 10

abbrev pub stop_line : Stop → List ℕ
stop_line Unread = codes "dap2_cases: no list here that can be read\n"
stop_line WriteFault = codes "dap2_cases: write fault\n"
stop_line Memory = codes "dap2_cases: out of memory\n"

-- 0 where all were run and agree, and there alone; 1 where one does not agree; else the number of what stopped them
abbrev pub number_of : Result (List Outcome) Stop → ℕ
number_of (Ok outcomes) = if list_all agrees outcomes then 0 else 1
number_of (Err stop) = stop_number stop

-- the line of what stopped them; else standard error is as it was
abbrev pub SaysWhy : Result (List Outcome) Stop → (List ℕ → Type 0) → Type 0 → Type 0
SaysWhy (Ok outcomes) Line Silent = Silent
SaysWhy (Err stop) Line Silent = Line (stop_line stop)

-- the outcomes of the cases of the list, whose report was put; or what stopped them, a failed write only where the
-- output failed
abbrev pub IsRun : Told → Option (List ℕ) → Option (List ℕ) → Type 0 → Result (List Outcome) Stop → Type 0
IsRun told old new Failed (Ok outcomes) =
    ((files : List ℕ → Option (List ℕ)) → told ≡ Some files → AreListed files (map (λ o. o.name) outcomes)) × Appends old new (report_of outcomes)
IsRun told old new Failed (Err Unread) = new ≡ old
IsRun told old new Failed (Err WriteFault) = Failed
IsRun told old new Failed (Err Memory) = new ≡ old
