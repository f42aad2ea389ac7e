-- From what each answer says to which answer comes.
use Rattle.std.proofs.Common.{◌≡◌, ◌⊎◌, inl, inr, ℕ, List, refl, ap, Result, Ok, Err}
use Rattle.std.specs.Prelude.{MatchResult, IfOk, IfErr}
use Rattle.das_text.specs.Model as model
use Rattle.das_text.specs.Reading.{DasOf, IsBad, IsTrailing, IsCut}
use Rattle.das_text.specs.Refusals.{WhereBad, WhereTrailing, WhereCut}
use Rattle.das_text.specs.View.{attributes_view}
use Rattle.das_text.specs.declared.entries.Attributes.{Attributes}
use Rattle.das_text.specs.declared.refusal.DasRefusal.{DasRefusal}
use Rattle.das_text.specs.declared.refusal.DasRefusal.TheVariants.{Bad, Trailing, Cut, Memory}
use Rattle.das_text.proofs.Single.{one_das, das_not_bad, das_not_trailing, das_not_cut, bad_not_trailing, bad_not_cut, trailing_not_cut, one_bad_place, one_trailing_place}

-- what the answers say of the text
pub record Tells (text : List ℕ) (r : Result Attributes DasRefusal) : Type 0 where
  pub das : IfOk r (λ a. DasOf text (attributes_view a))
  pub bad : IfErr r (WhereBad (IsBad text))
  pub trailing : IfErr r (WhereTrailing (IsTrailing text))
  pub cut : IfErr r (WhereCut (IsCut text))

pub read_of : (text : List ℕ) (r : Result Attributes DasRefusal) → Tells text r → (a : model.Attributes) → DasOf text a → MatchResult r (λ found. attributes_view found ≡ a) (λ refusal. refusal ≡ Memory)
read_of text (Ok found) t a x = one_das text (attributes_view found) a t.das x
read_of text (Err (Bad place)) t a x = absurd (das_not_bad text a place x t.bad)
read_of text (Err (Trailing place)) t a x = absurd (das_not_trailing text a place x t.trailing)
read_of text (Err Cut) t a x = absurd (das_not_cut text a x t.cut)
read_of text (Err Memory) t a x = refl

pub refused_of : (text : List ℕ) (r : Result Attributes DasRefusal) → Tells text r → (place : ℕ) → IsBad text place → MatchResult r (λ _. ⊥) (λ refusal. (refusal ≡ Bad place) ⊎ (refusal ≡ Memory))
refused_of text (Ok found) t place b = das_not_bad text (attributes_view found) place t.das b
refused_of text (Err (Bad other)) t place b = inl (ap Bad (one_bad_place text other place t.bad b))
refused_of text (Err (Trailing other)) t place b = absurd (bad_not_trailing text place other b t.trailing)
refused_of text (Err Cut) t place b = absurd (bad_not_cut text place b t.cut)
refused_of text (Err Memory) t place b = inr refl

pub followed_of : (text : List ℕ) (r : Result Attributes DasRefusal) → Tells text r → (place : ℕ) → IsTrailing text place → MatchResult r (λ _. ⊥) (λ refusal. (refusal ≡ Trailing place) ⊎ (refusal ≡ Memory))
followed_of text (Ok found) t place b = das_not_trailing text (attributes_view found) place t.das b
followed_of text (Err (Bad other)) t place b = absurd (bad_not_trailing text other place t.bad b)
followed_of text (Err (Trailing other)) t place b = inl (ap Trailing (one_trailing_place text other place t.trailing b))
followed_of text (Err Cut) t place b = absurd (trailing_not_cut text place b t.cut)
followed_of text (Err Memory) t place b = inr refl

pub broken_off_of : (text : List ℕ) (r : Result Attributes DasRefusal) → Tells text r → IsCut text → MatchResult r (λ _. ⊥) (λ refusal. (refusal ≡ Cut) ⊎ (refusal ≡ Memory))
broken_off_of text (Ok found) t c = das_not_cut text (attributes_view found) t.das c
broken_off_of text (Err (Bad place)) t c = absurd (bad_not_cut text place t.bad c)
broken_off_of text (Err (Trailing place)) t c = absurd (trailing_not_cut text place t.trailing c)
broken_off_of text (Err Cut) t c = inl refl
broken_off_of text (Err Memory) t c = inr refl
