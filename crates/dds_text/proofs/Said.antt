-- That what a reader says is all that can be said, from the laws of what bytes are.
use Rattle.std.proofs.Common.{◌≡◌, ℕ, ◌+◌, List, ◌++◌, length, Result, Ok, Err, refl, ap, ◌∙◌}
use Rattle.std.specs.Prelude.{IfOk, IfSome, MatchOption, []}
use Rattle.dap_types.specs.Model.{Dataset}
use Rattle.dds_text.specs.After.{Answers, Stands, dataset_in}
use Rattle.dds_text.specs.Reading.{IsBadText, IsDone, IsUnfinished}
use Rattle.dap_types.specs.View.{dataset_view}
use Rattle.dap_types.specs.WellFormed.{IsWellFormed}
use Rattle.dds_text.specs.declared.front.Front.{Front}
use Rattle.dds_text.specs.declared.reader.DdsReader.{DdsReader}
use Rattle.dds_text.specs.declared.reader.Verdict.{Verdict}
use Rattle.dds_text.specs.declared.reader.Verdict.TheVariants as verdict
use Rattle.dds_text.proofs.Pushed.{goes_on, done_bytes, bad_piece}
use Rattle.dds_text.specs.declared.reader.DdsStep.{DdsStep}
use Rattle.dds_text.specs.declared.reader.DdsStep.TheVariants.{More, Done, Bad}
use Rattle.dds_text.proofs.OneReading.{one_end, one_place, done_not_bad, done_not_unfinished, bad_not_unfinished}

-- what is said of each success
pub of_each : {A E : Type 0} (r : Result A E) (P Q : A → Type 0) → ((a : A) → P a → Q a) → IfOk r P → IfOk r Q
of_each (Ok a) P Q f p = f a p
of_each (Err e) P Q f p = tt

module _ (start : ℕ) (reader : DdsReader) (bytes piece : List ℕ) where
  pub is_done : (n : ℕ) (d : Dataset) → IsDone (bytes ++ piece) n d → (step : DdsStep) → Answers start reader bytes piece step → (used : ℕ) × (step ≡ Done used) × (length bytes + used ≡ n)
  is_done n d done More (open', after) = absurd (done_not_unfinished (bytes ++ piece) n d done open')
  is_done n d done (Done used) ((within, (e, ends)), after) = (used, refl, (one_end _ _ _ e d ends done).0)
  is_done n d done (Bad place) ((p, at, bad), after) = absurd (done_not_bad (bytes ++ piece) n p d done bad)

  pub is_bad : (q : ℕ) → IsBadText (bytes ++ piece) q → (step : DdsStep) → Answers start reader bytes piece step → step ≡ Bad (start + q)
  is_bad q bad More (open', after) = absurd (bad_not_unfinished (bytes ++ piece) q bad open')
  is_bad q bad (Done used) ((within, (e, ends)), after) = absurd (done_not_bad (bytes ++ piece) (length bytes + used) q e ends bad)
  is_bad q bad (Bad place) ((p, at, other), after) = ap Bad (at ∙ ap (λ k. start + k) (one_place (bytes ++ piece) p q other bad))

  pub is_more : IsUnfinished (bytes ++ piece) → (step : DdsStep) → Answers start reader bytes piece step → step ≡ More
  is_more goes More (open', after) = refl
  is_more goes (Done used) ((within, (e, ends)), after) = absurd (done_not_unfinished (bytes ++ piece) (length bytes + used) e ends goes)
  is_more goes (Bad place) ((p, at, other), after) = absurd (bad_not_unfinished (bytes ++ piece) p other goes)

-- the dataset that a reader gives
pub gives : (start : ℕ) (front : Front) (v : Verdict) (bytes : List ℕ) → Stands start front v bytes → MatchOption (dataset_in v) ((n : ℕ) (d : Dataset) → ¬ (IsDone bytes n d)) (λ d. IsDone bytes (length bytes) (dataset_view d))
gives start front verdict.Open bytes (read, short) = λ n d done. done_not_unfinished bytes n d done (goes_on front bytes read short)
gives start front (verdict.Done d) bytes ends = done_bytes bytes (dataset_view d) ends
gives start front (verdict.Bad place) bytes (p, at, stays) = λ n d done. done_not_bad bytes n p d done (bad_piece bytes p stays)
gives start front verdict.Spent bytes stands = absurd stands

pub gives_well_formed : (start : ℕ) (front : Front) (v : Verdict) (bytes : List ℕ) → Stands start front v bytes → IfSome (dataset_in v) (λ d. IsWellFormed (dataset_view d))
gives_well_formed start front verdict.Open bytes stands = tt
gives_well_formed start front (verdict.Done d) bytes ends = (ends []).is_text.well_formed
gives_well_formed start front (verdict.Bad place) bytes stands = tt
gives_well_formed start front verdict.Spent bytes stands = tt
