-- A saved response is served as it is, and so is one that was written.
use Rattle.std.proofs.Common.{◌≡◌, ℕ, ◌≤◌, List, [], length, true, Some, None, Ok, refl, sym, ap, ◌∙◌, inl, subst}
use Rattle.dap_types.specs.Model.{Dataset, Tree}
use Rattle.dap_types.specs.WellFormed.{IsWellFormed}
use Rattle.dap_model.proofs.Whole.{all_trees_whole, filtered_all_whole}
use Rattle.dap_model.specs.Body.{body, too_large}
use Rattle.dap_model.specs.Dds.{dds}
use Rattle.dap_model.specs.Filter.{Marks, SuitsAll, all_leaves_everywhere, constrained, constrained_trees}
use Rattle.dap_model.specs.Rows.{kept}
use Rattle.constraint_parse.specs.Language.{ConstraintTree, no_items}
use Rattle.constraint_parse.specs.Values.{Spells}
use Rattle.constraint_parse.specs.declared.constraint.Constraint.{Constraint}
use Rattle.grid_projection.proofs.MarksSuit.{marks_suit}
use Rattle.grid_projection.specs.Marks.{marks}
use Rattle.saved_source.proofs.FewElements.{left_is_small}
use Rattle.saved_source.proofs.Served.{saved_fits, saved_is_well_formed}
use Rattle.saved_source.specs.Responses.{IsSaved, saved_dataset}
use Rattle.dap_server.proofs.Accepted.{accepted_is_served}
use Rattle.dap_server.proofs.Lying.{opens}
use Rattle.dap_server.specs.Files.{Stored, saved, saved_stored}
use Rattle.dap_server.specs.Results.{Results, left_of, result_text}
use Rattle.dap_http.specs.declared.kind.Kind.TheVariants.{Dods}
use Rattle.dap_client.proofs.Bodies.{good_is_body}
use Rattle.both_ends.proofs.LeftLeaves.{all_left, all_renamed}
use Rattle.both_ends.proofs.WholeMarks.{marks_whole}
use Rattle.both_ends.specs.Again.{AsksWhole, SavedIsServed, WrittenIsServedAgain}

-- the constraint that is no text
abbrev pub no_constraint : Constraint
no_constraint = record { items = []; clauses = [] }

pub is_spelled : Spells [] no_constraint
is_spelled = (record { items = no_items; clauses = [] }, refl, refl)

-- what it leaves
pub dataset_left : (d : Dataset) → IsWellFormed d → all_leaves_everywhere d.members ≡ true → constrained (marks d no_constraint) d ≡ d
dataset_left d well leaves = ap (λ ms. record d { members = ms }) (filtered_all_whole (marks d no_constraint) d.members 1 1 [] well.mapped leaves (marks_whole d))

pub saved_is_served : SavedIsServed
saved_is_served target name bytes files d ts asks there is leaves short =
    let well : IsWellFormed d = saved_is_well_formed bytes name d ts is in
    let m : Marks = marks d no_constraint in
    let s : Stored = saved_stored d ts in
    let same : constrained m d ≡ d = dataset_left d well leaves in
    let trees : constrained_trees m (kept []) d ts ≡ ts = all_trees_whole m d.members 1 ts leaves (marks_whole d) (saved_fits bytes name d ts is) in
    let suits : SuitsAll m 1 d.members = marks_suit d no_constraint well refl in
    let small : too_large (constrained m d) ≡ None = left_is_small m bytes name d ts is suits (subst (λ e. length (dds e) ≤ 16777216) (sym same) short) in
    let served : Results target files (Ok (result_text Dods (body (constrained m d) (constrained_trees m (kept []) d ts)))) =
    accepted_is_served target name [] files s no_constraint asks.is_target (opens (Some files) files name bytes saved (Ok s) asks.form there (d, ts, is, refl)) is_spelled refl small in
    subst (λ us. Results target files (Ok (result_text Dods (body d us)))) trees (subst (λ e. Results target files (Ok (result_text Dods (body e (constrained_trees m (kept []) d ts))))) same served)

pub written_is_served_again : WrittenIsServedAgain
written_is_served_again target other name files again text r asks there few differ short =
    let left = left_of r.stored r.constraint in
    let is : IsSaved text name (saved_dataset name left.dataset) left.trees =
    record { response = left.dataset; few = few; is_body = good_is_body text left.dataset left.trees r.verdict; is_dataset = refl; names_differ = differ } in
    saved_is_served other name text again (saved_dataset name left.dataset) left.trees asks there is
    (all_renamed left.dataset.members ∙ all_left (marks r.stored.dataset r.constraint) r.stored.dataset.members 1) short
