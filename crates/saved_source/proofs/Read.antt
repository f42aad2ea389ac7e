-- A file that was read.
use Rattle.std.proofs.Common.{◌≡◌, ℕ, ◌≤◌, List, length, drop, None, sym, ap, ◌∙◌, subst}
use Rattle.dap_types.specs.Limits.{most_saved}
use Rattle.dap_types.specs.Model.{Tree}
use Rattle.dap_types.specs.View.{dataset_view}
use Rattle.dap_types.specs.WellFormed.{IsWellFormed}
use Rattle.dap_model.specs.Xdr.{Spells}
use Rattle.xdr_decode.specs.Checking.{IsChecked}
use Rattle.xdr_decode.specs.declared.check.Checked.{Checked}
use Rattle.saved_source.specs.Responses.{Holds, IsSaved, dataset_in, first_repeated, saved_dataset}
use Rattle.saved_source.specs.declared.saved.Saved.{Saved}

pub saved_is : (s : Saved) (bytes file_name : List ℕ) (c : Checked) (ts : List Tree) → length bytes ≤ most_saved → IsChecked bytes c ts → s.response ≡ c.dataset → s.values_at ≡ c.values_at → s.bytes ≡ bytes → s.file_name ≡ file_name
    → first_repeated (saved_dataset file_name (dataset_view c.dataset)) ≡ None → IsSaved bytes file_name (dataset_in s) ts × Holds s ts
unfolding dataset_in Holds
saved_is s bytes file_name c ts few checked response at same_bytes name differ =
    let same : dataset_in s ≡ saved_dataset file_name (dataset_view c.dataset) = ap (λ f. saved_dataset f (dataset_view s.response)) name ∙ ap (λ d. saved_dataset file_name (dataset_view d)) response in (
      record { response = dataset_view c.dataset; few = few; is_body = checked.is_body; is_dataset = same; names_differ = subst (λ e. first_repeated e ≡ None) (sym same) differ },
      subst (Spells (dataset_view s.response) ts) (sym (ap (λ n. drop n s.bytes) at ∙ ap (drop c.values_at) same_bytes)) (subst (λ d. Spells (dataset_view d) ts (drop c.values_at bytes)) (sym response) checked.values),
    )

pub saved_well_formed : (s : Saved) (file_name : List ℕ) (c : Checked) → s.response ≡ c.dataset → s.file_name ≡ file_name → IsWellFormed (saved_dataset file_name (dataset_view c.dataset)) → IsWellFormed (dataset_in s)
unfolding dataset_in
saved_well_formed s file_name c response name well =
    subst IsWellFormed (sym (ap (λ f. saved_dataset f (dataset_view s.response)) name ∙ ap (λ d. saved_dataset file_name (dataset_view d)) response)) well
