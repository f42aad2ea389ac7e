-- What the parts of the one who judges a body find.
use Rattle.std.specs.Prelude.{◌≡◌, ℕ, ◌+◌, ⊤, List, length, Result, Ok, Err}
use Rattle.dap_types.specs.Model.{Dataset}
use Rattle.xdr_decode.specs.Verdict.{IsWrong, IsWrongIn}
use Rattle.reply_faults.specs.declared.bad.Bad.TheVariants.{Cut}
use Rattle.xdr_decode.specs.declared.filled.AllRefusal.{AllRefusal}
use Rattle.xdr_decode.specs.declared.filled.AllRefusal.TheVariants.{Refused, Memory}
use Rattle.xdr_decode.specs.declared.filled.Filled.{Filled}

-- what is wrong with a body of any length
abbrev pub IsRefusalIn : List ℕ → AllRefusal → Type 0
IsRefusalIn bytes (Refused b) = IsWrongIn bytes b.kind b.place
IsRefusalIn bytes Memory = ⊤

-- what is wrong with the values, with which a body of so many bytes ends
abbrev pub IsValuesRefusal : Dataset → ℕ → List ℕ → AllRefusal → Type 0
IsValuesRefusal d whole values (Refused b) = (at : ℕ) × IsWrong d values b.kind at × (b.place + length values ≡ whole + at)
IsValuesRefusal d whole values Memory = ⊤

-- nothing is wrong but that the bytes end
abbrev pub RanOut : Result Filled AllRefusal → Type 0
RanOut (Ok f) = ⊤
RanOut (Err (Refused b)) = b.kind ≡ Cut
RanOut (Err Memory) = ⊥
