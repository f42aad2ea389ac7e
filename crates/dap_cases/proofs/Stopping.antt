-- How the cases end, by what came of them.
use Rattle.std.proofs.Common.{◌≡◌, ◌≢◌, ℕ, List, map, Option, Some, Result, Ok, Err, IfOk, OnErr, OnOk, ap, refl, subst}
use Rattle.std.specs.Io.KnownBytes.{Appends}
use Rattle.dap_outside.specs.Causes.{HasCause}
use Rattle.dap_outside.specs.Files.{Told}
use Rattle.dap_outside.specs.Streams.{AppendsFront}
use Rattle.dap_commands.proofs.Pieces.{line_said}
use Rattle.dap_commands.specs.Lines.{IsSaid}
use Rattle.dap_cases.specs.Endings.{IsRun}
use Rattle.dap_cases.specs.Files.{AreListed}
use Rattle.dap_cases.specs.Reports.{report_of}
use Rattle.dap_cases.specs.declared.outcome.Outcome.{Outcome}
use Rattle.dap_cases.specs.declared.stop.Stop.{Stop}
use Rattle.dap_cases.specs.declared.stop.Stop.TheVariants.{Unread, WriteFault, Memory}

-- what `run_cases` says of a run
pub is-run : {O : Type 0} (written : O → Option (List ℕ)) (told : Told) (out out_then : O) (Failed : Type 0) (ran : Result (List Outcome) Stop)
    → IfOk ran (λ outcomes. (files : List ℕ → Option (List ℕ)) → told ≡ Some files → AreListed files (map (λ o. o.name) outcomes))
    → IfOk ran (λ outcomes. Appends (written out) (written out_then) (report_of outcomes))
    → (ran ≡ Err WriteFault → Failed)
    → OnErr ran (ran ≢ Err WriteFault → out_then ≡ out)
    → IsRun told (written out) (written out_then) Failed ran
is-run written told out out_then Failed (Ok outcomes) listed put failed kept = (listed, put)
is-run written told out out_then Failed (Err Unread) listed put failed kept = ap written (kept (λ is. cc is))
is-run written told out out_then Failed (Err WriteFault) listed put failed kept = failed refl
is-run written told out out_then Failed (Err Memory) listed put failed kept = ap written (kept (λ is. cc is))

-- a line is said by what puts its bytes
pub bytes-said : {T E : Type 0} (r : Result T E) (line bytes : List ℕ) (before now : ℕ) (old new : Option (List ℕ)) → bytes ≡ line
    → OnOk r (Appends old new bytes) → OnErr r (AppendsFront old new bytes) → HasCause before now r → IsSaid line before now old new
bytes-said r line bytes before now old new same ok err cause = subst (λ l. IsSaid l before now old new) same (line_said r before now old new bytes ok err cause)
