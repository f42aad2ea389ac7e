-- What goes out of a saved response where a constraint is laid on it (DAP 2.0, DODS and constraint
-- expressions).
use Rattle.std.specs.Prelude.{◌≡◌, ℕ, List, ◌++◌}
use Rattle.dap_types.specs.Model.{Dataset, Tree}
use Rattle.dap_types.specs.View.{dataset_view}
use Rattle.dap_model.specs.Body.{body}
use Rattle.dap_model.specs.Filter.{Marks, SuitsAll, constrained, constrained_trees}
use Rattle.dap_model.specs.Rows.{Selection, kept}
use Rattle.dap_model.specs.Xdr.{bytes_of}
use Rattle.grid_projection.specs.Resolved.{marks_in}
use Rattle.sequence_select.specs.Tests.{tested}
use Rattle.xdr_encode.specs.Marked.{members_sent}
use Rattle.saved_source.specs.Responses.{Holds}
use Rattle.saved_source.specs.declared.body.SavedBody.{SavedBody}

-- the response for what marks and clauses leave of a dataset and its values
abbrev pub filtered_body : Marks → List Selection → Dataset → List Tree → List ℕ
filtered_body marks clauses d ts = body (constrained marks d) (constrained_trees marks (kept clauses) d ts)

-- the text that goes out of a body
pub record IsText (b : SavedBody) (text : List ℕ) : Type 0 where
  pub values : List Tree
  pub holds : Holds b.saved values
  pub suits : SuitsAll (marks_in b.marks) 1 (dataset_view b.saved.response).members
  pub parts : text ≡ b.head ++ bytes_of (members_sent (marks_in b.marks) (kept (tested b.tests)) 1 (dataset_view b.saved.response).members values)

unfoldable pub Sends : SavedBody → List ℕ → Type 0
Sends b text = IsText b text
