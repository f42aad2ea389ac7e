-- Reading items one after the other, as a loop does.
use Rattle.std.proofs.Common.{◌≡◌, ℕ, suc, ◌-◌, ◌+◌, ◌≤◌, ◌<◌, List, [], ◌∷◌, ◌++◌, Result, Ok, Err, refl, sym, ◌∙◌, arith}
use Rattle.netcdf_source.specs.declared.failure.Failure.{Failure}
use Rattle.netcdf_source.specs.declared.failure.Stop.{Stop}
use Rattle.netcdf_source.specs.declared.failure.Stop.TheVariants as stops
use Rattle.netcdf_source.specs.inner.Reading.{Fails, times}

pub goes_on : {X : Type 0} (read : List X → List ℕ → Result (X × List ℕ) Failure) (before : List X) (count i : ℕ) (bytes : List ℕ) (x : X) (after : List ℕ) (total : Result (List X × List ℕ) Failure)
    → i < count → read before bytes ≡ Ok (x, after) → times read (count - i) before bytes ≡ total → times read (count - (i + 1)) (before ++ x ∷ []) after ≡ total
unfolding times
goes_on read before count i bytes x after total lt h so_far =
    let k : count - i ≡ suc (count - (i + 1)) = omega arith in
    let one : times read (count - i) before bytes ≡ times read (count - (i + 1)) (before ++ x ∷ []) after = rw (k, h) refl in
    sym one ∙ so_far

pub ends : {X : Type 0} (read : List X → List ℕ → Result (X × List ℕ) Failure) (e : Stop) (before : List X) (count i : ℕ) (bytes : List ℕ) (total : Result (List X × List ℕ) Failure)
    → i < count → Fails e (read before bytes) → times read (count - i) before bytes ≡ total → Fails e total
unfolding times
ends read stops.Memory before count i bytes total lt h so_far = tt
ends read (stops.Failed f) before count i bytes total lt h so_far =
    let k : count - i ≡ suc (count - (i + 1)) = omega arith in
    let one : times read (count - i) before bytes ≡ Err f = rw (k, h) refl in
    sym so_far ∙ one

pub is_done : {X : Type 0} (read : List X → List ℕ → Result (X × List ℕ) Failure) (before : List X) (count i : ℕ) (bytes : List ℕ) (total : Result (List X × List ℕ) Failure)
    → count ≤ i → times read (count - i) before bytes ≡ total → total ≡ Ok (before, bytes)
unfolding times
is_done read before count i bytes total le so_far =
    let k : count - i ≡ 0 = omega arith in
    let one : times read (count - i) before bytes ≡ Ok (before, bytes) = rw k refl in
    sym so_far ∙ one
