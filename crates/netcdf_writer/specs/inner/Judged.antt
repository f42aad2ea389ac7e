-- The verdict on a body that stands in memory.
use Rattle.std.specs.Prelude.{◌≡◌, List, ℕ, ⊤}
use Rattle.dap_types.specs.Model.{Tree}
use Rattle.dap_client.specs.Verdict.{IsVerdict, bad, dods_form, server_error}
use Rattle.xdr_decode.specs.Checking.{IsChecked}
use Rattle.netcdf_writer.specs.declared.judging.Judged.{Judged}
use Rattle.netcdf_writer.specs.declared.judging.Judged.TheVariants as judged

-- it is told as it is, unless memory was wanted
abbrev pub IsJudged : List ℕ → Judged → Type 0
IsJudged body (judged.Good checked) = (ts : List Tree) × IsChecked body checked ts
IsJudged body (judged.ServerError error) = IsVerdict dods_form body (server_error error)
IsJudged body (judged.Bad field) = IsVerdict dods_form body (bad field.kind field.place)
IsJudged body judged.Memory = ⊤
