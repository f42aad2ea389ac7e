-- Where two texts differ.
use Rattle.std.proofs.Common.{◌≡◌, ◌≢◌, ◌∙◌, ℕ, ◌+◌, ◌<◌, ◌≤◌, List, length, take, get_or, sym, Some, None}
use Rattle.std.specs.Prelude.{slice_get}
use Rattle.std.proofs.lemmas.List.{take_all, take_more_same}
use Rattle.std.proofs.lemmas.Option.{slice_get-get_or, slice_get_past}
use Rattle.dap_cases.specs.Verdicts.{DiffersAt}

-- other bytes stand at a place within both
pub differs_within : (a b : List ℕ) (k : ℕ) → take k a ≡ take k b → k < length a → k < length b → get_or a k 0 ≢ get_or b k 0 → DiffersAt k a b
differs_within a b k same la lb other = record {
  before = same;
  there = λ e.
      let x : slice_get a k ≡ Some (get_or a k 0) = slice_get-get_or a k 0 la in
      let y : slice_get b k ≡ Some (get_or b k 0) = slice_get-get_or b k 0 lb in
      other (cc);
}

-- the second ends at a place within the first
pub differs_at_end : (a b : List ℕ) (k : ℕ) → take k a ≡ take k b → k < length a → length b ≤ k → DiffersAt k a b
differs_at_end a b k same la lb = record {
  before = same;
  there = λ e.
      let x : slice_get a k ≡ Some (get_or a k 0) = slice_get-get_or a k 0 la in
      let y : slice_get b k ≡ None = slice_get_past b k lb in
      cc;
}

-- the first ends at a place within the second
pub differs_behind : (a b : List ℕ) (k : ℕ) → take k a ≡ take k b → length a ≤ k → k < length b → DiffersAt k a b
differs_behind a b k same la lb = record {
  before = same;
  there = λ e.
      let x : slice_get a k ≡ None = slice_get_past a k la in
      let y : slice_get b k ≡ Some (get_or b k 0) = slice_get-get_or b k 0 lb in
      cc;
}

-- the same before the end of both
pub same_whole : (a b : List ℕ) (k : ℕ) → take k a ≡ take k b → length a ≤ k → length b ≤ k → a ≡ b
same_whole a b k same la lb = sym (take_all k a la) ∙ same ∙ take_all k b lb

-- the same at one more place
pub same_longer : (a b : List ℕ) (k : ℕ) → take k a ≡ take k b → k < length a → k < length b → get_or a k 0 ≡ get_or b k 0 → take (k + 1) a ≡ take (k + 1) b
same_longer a b k same la lb here = take_more_same a b k 0 la lb same here

pub ruleset differences = (differs_within, differs_at_end, differs_behind, same_whole, same_longer)
