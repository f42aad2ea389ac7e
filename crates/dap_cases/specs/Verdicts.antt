-- What a run gives beside what must come.
use Rattle.std.specs.Prelude.{◌≡◌, ◌≢◌, ℕ, Bool, true, false, List, take, slice_get}
use Rattle.dap_cases.specs.declared.said.Said.{Said}
use Rattle.dap_cases.specs.declared.verdict.Verdict.{Verdict}
use Rattle.dap_cases.specs.declared.verdict.Verdict.TheVariants.{Agrees, Number, Stdout, Stderr, Unread}

-- two texts are the same before a place and not at it
pub record DiffersAt (place : ℕ) (a b : List ℕ) : Type 0 where
  pub before : take place a ≡ take place b
  pub there : slice_get a place ≢ slice_get b place

-- the same exactly where the number, the output and standard error are; else the first of them that is not, and where
abbrev pub Judges : Said → Said → Verdict → Type 0
Judges found wanted Agrees = (found.status ≡ wanted.status) × (found.out ≡ wanted.out) × (found.err ≡ wanted.err)
Judges found wanted (Number f w) = (f ≡ found.status) × (w ≡ wanted.status) × (f ≢ w)
Judges found wanted (Stdout place) = (found.status ≡ wanted.status) × DiffersAt place found.out wanted.out
Judges found wanted (Stderr place) = (found.status ≡ wanted.status) × (found.out ≡ wanted.out) × DiffersAt place found.err wanted.err
Judges found wanted Unread = ⊥

abbrev pub is_agreed : Verdict → Bool
is_agreed Agrees = true
is_agreed (Number f w) = false
is_agreed (Stdout place) = false
is_agreed (Stderr place) = false
is_agreed Unread = false
