-- From what each answer says to which answer comes.
use Rattle.std.proofs.Common.{◌≡◌, ◌⊎◌, inl, inr, ℕ, List, refl, ap, Result, Ok, Err}
use Rattle.std.specs.Prelude.{MatchResult, IfOk, IfErr}
use Rattle.dap_errors.specs.Reading.{ErrorOf, IsBad, IsCut}
use Rattle.dap_errors.specs.Refusals.{WhereBad, WhereCut}
use Rattle.dap_errors.specs.declared.object.ErrorObject.{ErrorObject}
use Rattle.dap_errors.specs.declared.object.ErrorRefusal.{ErrorRefusal}
use Rattle.dap_errors.specs.declared.object.ErrorRefusal.TheVariants.{Bad, Cut, Memory}
use Rattle.dap_errors.proofs.Single.{one_object, object_no_bad, object_no_cut, bad_no_cut, one_place}

-- what the answers say of the text
pub record Tells (bytes : List ℕ) (r : Result ErrorObject ErrorRefusal) : Type 0 where
  pub object : IfOk r (ErrorOf bytes)
  pub bad : IfErr r (WhereBad (IsBad bytes))
  pub cut : IfErr r (WhereCut (IsCut bytes))

pub read_of : (bytes : List ℕ) (r : Result ErrorObject ErrorRefusal) → Tells bytes r → (error : ErrorObject) → ErrorOf bytes error → MatchResult r (λ found. found ≡ error) (λ refusal. refusal ≡ Memory)
read_of bytes (Ok found) t error e = one_object bytes found error t.object e
read_of bytes (Err (Bad place)) t error e = absurd (object_no_bad bytes error place e t.bad)
read_of bytes (Err Cut) t error e = absurd (object_no_cut bytes error e t.cut)
read_of bytes (Err Memory) t error e = refl

pub refused_of : (bytes : List ℕ) (r : Result ErrorObject ErrorRefusal) → Tells bytes r → (place : ℕ) → IsBad bytes place → MatchResult r (λ _. ⊥) (λ refusal. (refusal ≡ Bad place) ⊎ (refusal ≡ Memory))
refused_of bytes (Ok found) t place b = object_no_bad bytes found place t.object b
refused_of bytes (Err (Bad other)) t place b = inl (ap Bad (one_place bytes other place t.bad b))
refused_of bytes (Err Cut) t place b = absurd (bad_no_cut bytes place b t.cut)
refused_of bytes (Err Memory) t place b = inr refl

pub broken_off_of : (bytes : List ℕ) (r : Result ErrorObject ErrorRefusal) → Tells bytes r → IsCut bytes → MatchResult r (λ _. ⊥) (λ refusal. (refusal ≡ Cut) ⊎ (refusal ≡ Memory))
broken_off_of bytes (Ok found) t c = object_no_cut bytes found t.object c
broken_off_of bytes (Err (Bad place)) t c = absurd (bad_no_cut bytes place t.bad c)
broken_off_of bytes (Err Cut) t c = inl refl
broken_off_of bytes (Err Memory) t c = inr refl
