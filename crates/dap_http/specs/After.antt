-- Which bytes an unframer stands after, and what its answers say.
use Rattle.std.specs.Prelude.{ℕ, List, length, take}
use Rattle.reply_faults.specs.declared.bad.BadField.{BadField}
use Rattle.dap_http.specs.inner.Tracking.{StandsIn}
use Rattle.dap_http.specs.declared.coding.Coding.{Coding}
use Rattle.dap_http.specs.declared.unframer.Unframed.{Unframed}
use Rattle.dap_http.specs.declared.unframer.Unframed.TheVariants.{Part, More, End, Refused}
use Rattle.dap_http.specs.declared.unframer.Unframer.{Unframer}

-- how many bytes it has used, and how many of the body it has lent; the coding of the body
abbrev pub used_by : Unframer → ℕ
used_by u = u.used

abbrev pub lent_by : Unframer → ℕ
lent_by u = u.lent

abbrev pub coding_of : Unframer → Coding
coding_of u = u.coding

-- it has used these bytes
unfoldable pub UnframerStandsAfter : Unframer → List ℕ → Type 0
UnframerStandsAfter u bytes = StandsIn u.coding u bytes

-- the bytes of a piece that an answer uses
abbrev pub used_of : Unframed → List ℕ → List ℕ
used_of (Part bytes used) piece = take used piece
used_of More piece = piece
used_of (End used) piece = take used piece
used_of (Refused bad) piece = piece

-- and how many they are
abbrev pub count_of : Unframed → List ℕ → ℕ
count_of (Part bytes used) piece = used
count_of More piece = length piece
count_of (End used) piece = used
count_of (Refused bad) piece = length piece

-- what is said of each kind of answer
abbrev pub WherePart : Unframed → (List ℕ → ℕ → Type 0) → Type 0
WherePart (Part lent used) P = P lent.now used
WherePart answer P = Unit {0}

abbrev pub WhereMore : Type 0 → Unframed → Type 0
WhereMore P More = P
WhereMore P answer = Unit {0}

abbrev pub WhereEnd : (ℕ → Type 0) → Unframed → Type 0
WhereEnd P (End used) = P used
WhereEnd P answer = Unit {0}

abbrev pub WhereBad : (BadField → Type 0) → Unframed → Type 0
WhereBad P (Refused bad) = P bad
WhereBad P answer = Unit {0}
