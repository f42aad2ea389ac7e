-- What is answered to the bytes of a header, by reading them.
use Rattle.std.specs.Prelude.{◌≡◌, ℕ, ◌-◌, ◌⊎◌, Bool, true, false, ◌&&◌, ◌==◌, List, ◌∷◌, Option, Some, None, Result, Ok, Err, if◌then◌else◌, nat_lt}
use Rattle.std.specs.Option.{option_map_or}
use Rattle.dap_types.specs.Limits.{most_header}
use Rattle.netcdf_source.specs.Parts.{past_end}
use Rattle.netcdf_source.specs.inner.Reading.{contents_at}
use Rattle.netcdf_source.specs.declared.header.Contents.{Contents}
use Rattle.netcdf_source.specs.declared.file.Header.{Header}
use Rattle.netcdf_source.specs.declared.refusal.HeaderRefusal.{HeaderRefusal}
use Rattle.netcdf_source.specs.declared.refusal.HeaderRefusal.TheVariants as refusals
use Rattle.netcdf_source.specs.declared.failure.Failure.{Failure}
use Rattle.netcdf_source.specs.declared.failure.Failure.TheVariants.{Cut, Streaming, Bad}
use Rattle.netcdf_source.specs.declared.version.Version.{Version}
use Rattle.netcdf_source.specs.declared.version.Version.TheVariants.{One, Two, Five}

-- the version of its byte
abbrev pub version_of_byte : ℕ → Option Version
version_of_byte n = if n == 1 then Some One else if n == 2 then Some Two else if n == 5 then Some Five else None

-- the version, where these four bytes are a magic
abbrev pub version_of : ℕ → ℕ → ℕ → ℕ → Option Version
version_of a b c version = if a == 0x43 && b == 0x44 && c == 0x46 then version_of_byte version else None

-- the version, where a magic stands in front
abbrev pub version_in : List ℕ → Option Version
version_in (a ∷ b ∷ c ∷ version ∷ body) = version_of a b c version
version_in front = None

unfoldable pub refusal_of : Failure → ℕ → ℕ → HeaderRefusal
refusal_of Cut whole file_len = if nat_lt most_header file_len then refusals.HeaderTooLong else refusals.HeaderCut
refusal_of Streaming whole file_len = refusals.Streaming
refusal_of (Bad left) whole file_len = refusals.BadField (whole - left)

abbrev pub judgement : Result (Contents × List ℕ) Failure → ℕ → ℕ → Result Contents HeaderRefusal
judgement (Ok c) whole file_len = option_map_or (λ var. Err (refusals.PastEnd var)) (past_end c.0 file_len) (Ok c.0)
judgement (Err f) whole file_len = Err (refusal_of f whole file_len)

unfoldable pub verdict : Version → List ℕ → ℕ → ℕ → Result Contents HeaderRefusal
verdict version body whole file_len = judgement (contents_at version body) whole file_len

-- the answer is that of a reading, unless memory was wanted
abbrev pub Answers : Result Header HeaderRefusal → Result Contents HeaderRefusal → Type 0
Answers (Ok h) read = read ≡ Ok h.contents
Answers (Err e) read = (e ≡ refusals.Memory) ⊎ (read ≡ Err e)

-- a shorter front that is cut wants more
abbrev pub AnswersFront : Bool → Result (Option Header) HeaderRefusal → Result Header HeaderRefusal → Type 0
AnswersFront is_whole result (Ok h) = result ≡ Ok (Some h)
AnswersFront true result (Err e) = result ≡ Err e
AnswersFront false result (Err refusals.HeaderCut) = result ≡ Ok None
AnswersFront false result (Err refusals.HeaderTooLong) = result ≡ Ok None
AnswersFront false result (Err e) = result ≡ Err e
