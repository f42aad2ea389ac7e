-- A body whose values were judged where they stand (DAP 2.0, DODS).
use Rattle.std.specs.Prelude.{◌≡◌, ℕ, ◌≤◌, ⊤, List, length, drop, Result, Ok, Err}
use Rattle.dap_types.specs.Model.{Tree}
use Rattle.dap_types.specs.View.{dataset_view}
use Rattle.dap_model.specs.Body.{IsBody}
use Rattle.dap_model.specs.Xdr.{Spells}
use Rattle.xdr_decode.specs.Verdict.{IsGood, Verdict, good, wrong}
use Rattle.xdr_decode.specs.declared.check.Checked.{Checked}
use Rattle.xdr_decode.specs.declared.filled.AllRefusal.{AllRefusal}
use Rattle.xdr_decode.specs.declared.filled.AllRefusal.TheVariants.{Refused, Memory}

-- it is a body of that dataset and these values, which stand from that place on
pub record IsChecked (body : List ℕ) (c : Checked) (ts : List Tree) : Type 0 where
  pub is_body : IsBody body (dataset_view c.dataset) ts
  pub within : c.values_at ≤ length body
  pub values : Spells (dataset_view c.dataset) ts (drop c.values_at body)

-- the same of a body of any length
pub record IsGoodAt (body : List ℕ) (c : Checked) (ts : List Tree) : Type 0 where
  pub is_good : IsGood body (dataset_view c.dataset) ts
  pub within : c.values_at ≤ length body
  pub values : Spells (dataset_view c.dataset) ts (drop c.values_at body)

-- the answer gives that verdict, or memory was wanted
abbrev pub Tells : Result Checked AllRefusal → Verdict → Type 0
Tells (Ok c) v = (ts : List Tree) × (v ≡ good (dataset_view c.dataset) ts)
Tells (Err (Refused b)) v = v ≡ wrong b.kind b.place
Tells (Err Memory) v = ⊤
