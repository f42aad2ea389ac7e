-- A front of the line `Data:`, byte by byte.
use Rattle.std.specs.Prelude.{◌≡◌, ℕ, ◌≤◌, ◌+◌, List, [], ◌∷◌, ◌++◌, length, take, codes}
use Rattle.std.specs.List.{AllPass}
use Rattle.dap_model.specs.Tokens.{is_white}
use Rattle.xdr_decode.specs.Verdict.{IsBadDataLine, IsDataLine}
use Rattle.dap_client.specs.declared.data_line.DataLine.{DataLine}
use Rattle.dap_client.specs.declared.data_line.LineStep.{LineStep}
use Rattle.dap_client.specs.declared.data_line.LineStep.TheVariants as step
use Rattle.dap_client.specs.declared.data_line.LineRead.{LineRead}
use Rattle.dap_client.specs.declared.data_line.LineRead.TheVariants as read

-- white space, and so many bytes of the rest
pub record HasCome (n : ℕ) (bytes : List ℕ) : Type 0 where
  pub white : List ℕ
  pub parts : bytes ≡ white ++ take n (codes "Data:\r")
  pub is_white : AllPass is_white white
  pub most : n ≤ 6

abbrev pub IsLineFront : DataLine → List ℕ → Type 0
IsLineFront line bytes = HasCome line.come bytes

-- with one more byte
abbrev pub IsStep : List ℕ → ℕ → LineStep → Type 0
IsStep bytes b (step.On line) = IsLineFront line (bytes ++ b ∷ [])
IsStep bytes b step.Ended = IsDataLine (bytes ++ b ∷ [])
IsStep bytes b step.Differs = (more : List ℕ) → ¬ (IsDataLine (bytes ++ b ∷ more))

-- with a piece
abbrev pub IsLineRead : List ℕ → List ℕ → LineRead → Type 0
IsLineRead bytes piece (read.On line) = IsLineFront line (bytes ++ piece)
IsLineRead bytes piece (read.Ended used) = (used ≤ length piece) × IsDataLine (bytes ++ take used piece)
IsLineRead bytes piece (read.Differs at) = IsBadDataLine (bytes ++ piece) (length bytes + at)
