-- The body of a netCDF file, and why it is refused.
use Rattle.std.proofs.Common.{◌≡◌, ℕ, ◌<◌, ◌≤◌, Bool, true, false, cond, List, [], ◌++◌, codes, length, Option, Some, refl, sym, ap, ◌∙◌, subst, arith, append-nil, nat_lt}
use Rattle.std.proofs.lemmas.Bool.{ltb-true, ltb-false}
use Rattle.std.specs.List.{position_from}
use Rattle.dap_types.specs.Model.{Dataset}
use Rattle.dap_types.specs.WellFormed.{elements_of, leaves_of}
use Rattle.dap_model.specs.Body.{body, too_large}
use Rattle.dap_model.specs.Dds.{dds}
use Rattle.dap_model.specs.Filter.{Keeps, Marks, SuitsAll, constrained, constrained_trees}
use Rattle.dap_model.specs.Xdr.{bytes_of, xdr}
use Rattle.netcdf_source.specs.Mapping.{dataset_of, leaves_from}
use Rattle.netcdf_source.specs.Values.{file_trees}
use Rattle.netcdf_source.specs.declared.header.Contents.{Contents}
use Rattle.xdr_encode.proofs.CdfCounting.{cdf_too_large}
use Rattle.xdr_encode.proofs.CdfSending.{leaves_are_sent}
use Rattle.xdr_encode.proofs.Suiting.{are_suited}
use Rattle.xdr_encode.specs.CdfSent.{slots_sent}
use Rattle.xdr_encode.specs.Counts.{first_large, slots_counts}
use Rattle.xdr_encode.specs.Wanted.{AreSuited}

pub suited_for : (c : Contents) (marks : Marks) (d : Dataset) → (file_name : List ℕ) × (d ≡ dataset_of c file_name) → SuitsAll marks 1 d.members → AreSuited c marks
suited_for c marks d is suits = are_suited c is.0 marks (subst (λ e. SuitsAll marks 1 e.members) is.1 suits)

pub cdf_text : (c : Contents) (marks : Marks) (d : Dataset) → (file_name : List ℕ) × (d ≡ dataset_of c file_name) → (keeps : Keeps) (file text head rows leaves : List ℕ)
    → text ≡ dds (constrained marks d) → head ≡ text ++ codes "Data:\n" → rows ≡ [] → leaves ≡ bytes_of (slots_sent c file marks 1 (leaves_from c 0 c.variables))
    → (head ++ rows) ++ leaves ≡ body (constrained marks d) (constrained_trees marks keeps d (file_trees c file))
cdf_text c marks d is keeps file text head rows leaves text-is head-is no-rows leaves-are =
    ap (λ rs. (head ++ rs) ++ leaves) no-rows
    ∙ ap (λ h. h ++ leaves) (append-nil head ∙ head-is ∙ ap (λ t. t ++ codes "Data:\n") text-is)
    ∙ ap (λ l. (dds (constrained marks d) ++ codes "Data:\n") ++ l) (leaves-are ∙ sym values)
  where
    values : xdr (constrained marks d) (constrained_trees marks keeps d (file_trees c file)) ≡ bytes_of (slots_sent c file marks 1 (leaves_from c 0 c.variables))
    values = subst (λ e. xdr (constrained marks e) (constrained_trees marks keeps e (file_trees c file)) ≡ bytes_of (slots_sent c file marks 1 (leaves_from c 0 c.variables))) (sym is.1) (leaves_are_sent c is.0 file marks keeps)

pub small_head : (c : Contents) (marks : Marks) (d : Dataset) (o : Option ℕ) → (file_name : List ℕ) × (d ≡ dataset_of c file_name) → length (dds (constrained marks d)) ≤ 16777216
    → first_large 1 (slots_counts c marks 1 (leaves_from c 0 c.variables)) ≡ o → too_large (constrained marks d) ≡ o
small_head c marks d o is short counts =
    subst (λ e. too_large (constrained marks e) ≡ cond (nat_lt 16777216 (length (dds (constrained marks e)))) (Some 0) (first_large 1 (slots_counts c marks 1 (leaves_from c 0 c.variables)))) (sym is.1) (cdf_too_large c is.0 marks)
    ∙ go (nat_lt 16777216 (length (dds (constrained marks d)))) refl
  where
    go : (b : Bool) → nat_lt 16777216 (length (dds (constrained marks d))) ≡ b → cond b (Some 0) (first_large 1 (slots_counts c marks 1 (leaves_from c 0 c.variables))) ≡ o
    go true e = absurd (omega (arith, short, ltb-true 16777216 (length (dds (constrained marks d))) e))
    go false e = counts

pub long_head : (d : Dataset) → 16777216 < length (dds d) → too_large d ≡ Some 0
long_head d long = go (nat_lt 16777216 (length (dds d))) refl
  where
    go : (b : Bool) → nat_lt 16777216 (length (dds d)) ≡ b → cond b (Some 0) (position_from (λ leaf. nat_lt 2147483647 (elements_of leaf.1)) 1 (leaves_of d)) ≡ Some 0
    go true e = refl
    go false e = absurd (omega (arith, long, ltb-false 16777216 (length (dds d)) e))
