-- The body of joined files is what a constraint leaves of their dataset.
use Rattle.std.proofs.Common.{◌≡◌, ℕ, List, ◌++◌, codes, sym, ap, ◌∙◌, subst}
use Rattle.dap_types.specs.Model.{Dataset}
use Rattle.dap_model.specs.Body.{body}
use Rattle.dap_model.specs.Dds.{dds}
use Rattle.dap_model.specs.Filter.{Keeps, Marks, constrained, constrained_trees}
use Rattle.dap_model.specs.Xdr.{bytes_of, xdr}
use Rattle.netcdf_source.specs.declared.header.Contents.{Contents}
use Rattle.join_source.proofs.Sending.{leaves_are_sent}
use Rattle.join_source.specs.Members.{joined_contents, joined_dataset}
use Rattle.join_source.specs.Sent.{slots_sent}
use Rattle.join_source.specs.Trees.{joined_tree, joined_trees}
use Rattle.join_source.specs.Wanted.{joined_slots}

pub joined-text : (cs : List Contents) (marks : Marks) (d : Dataset) (file_name : List ℕ) → d ≡ joined_dataset cs file_name → (keeps : Keeps) (files : List (List ℕ)) (text head sent : List ℕ) → text ≡ dds (constrained marks d) → head ≡ text ++ codes "Data:\n"
    → sent ≡ bytes_of (slots_sent (joined_contents cs) (joined_tree cs files) marks 1 (joined_slots cs)) → head ++ sent ≡ body (constrained marks d) (constrained_trees marks keeps d (joined_trees cs files))
joined-text cs marks d file_name is keeps files text head sent text-is head-is sent-is =
    ap (λ h. h ++ sent) (head-is ∙ ap (λ t. t ++ codes "Data:\n") text-is)
    ∙ ap (λ l. (dds (constrained marks d) ++ codes "Data:\n") ++ l) (sent-is ∙ sym values)
  where
    values : xdr (constrained marks d) (constrained_trees marks keeps d (joined_trees cs files)) ≡ bytes_of (slots_sent (joined_contents cs) (joined_tree cs files) marks 1 (joined_slots cs))
    values = subst (λ e. xdr (constrained marks e) (constrained_trees marks keeps e (joined_trees cs files)) ≡ bytes_of (slots_sent (joined_contents cs) (joined_tree cs files) marks 1 (joined_slots cs))) (sym is)
        (leaves_are_sent (joined_contents cs) file_name (joined_tree cs files) marks keeps)
