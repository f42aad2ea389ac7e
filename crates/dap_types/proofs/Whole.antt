-- The first fault of a whole dataset.
use Rattle.std.proofs.Common.{◌≡◌, ℕ, Bool, true, false, [], length, Some, None, Ok, Err, inl, inr, ap, ◌∙◌, sym, ltb}
use Rattle.std.specs.Prelude.{◌⊎◌, if◌then◌else◌}
use Rattle.dap_types.proofs.Faults.{length-places}
use Rattle.dap_types.specs.Judged.{Judges}
use Rattle.dap_types.specs.Model.{Dataset, count_all}
use Rattle.dap_types.specs.WellFormed.{places, places_of, first_fault, fault}
use Rattle.dap_types.specs.declared.unfit.Unfit.{Unfit}
use Rattle.dap_types.specs.declared.unfit.Unfit.TheVariants.{Memory, TooMany}

too_many : (d : Dataset) (b : Bool) → b ≡ ltb 1000000 (count_all d.members) → ltb 1000000 (length (places_of d)) ≡ b
too_many d b is = ap (ltb 1000000) (length-places d.members 1 []) ∙ sym is

pub fault-many : (d : Dataset) (b : Bool) → b ≡ ltb 1000000 (count_all d.members) → b ≡ true → fault d ≡ Some TooMany
unfolding fault
fault-many d b is holds = ap (λ t. if t then Some TooMany else first_fault 1 (places_of d)) (too_many d b is ∙ holds)

fault-few : (d : Dataset) (b : Bool) → b ≡ ltb 1000000 (count_all d.members) → b ≡ false → fault d ≡ first_fault 1 (places_of d)
unfolding fault
fault-few d b is fails = ap (λ t. if t then Some TooMany else first_fault 1 (places_of d)) (too_many d b is ∙ fails)

pub fault-none : (d : Dataset) (b : Bool) (k : ℕ) → b ≡ ltb 1000000 (count_all d.members) → b ≡ false → Judges (places 1 [] d.members) 1 (Ok k) → fault d ≡ None
fault-none d b k is fails judged = fault-few d b is fails ∙ judged.1

pub fault-first : (d : Dataset) (b : Bool) (e : Unfit) → b ≡ ltb 1000000 (count_all d.members) → b ≡ false → Judges (places 1 [] d.members) 1 (Err e)
    → (e ≡ Memory) ⊎ (fault d ≡ Some e)
fault-first d b e is fails (inl want) = inl want
fault-first d b e is fails (inr first) = inr (fault-few d b is fails ∙ first)
