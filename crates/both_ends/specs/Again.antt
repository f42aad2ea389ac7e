-- What a data response that was saved is served as (DAP 2.0, DODS), over all targets and files.
use Rattle.std.specs.Prelude.{◌≡◌, ℕ, ◌≤◌, true, List, [], length, Some, None, Ok}
use Rattle.dap_types.specs.Limits.{most_saved, most_text}
use Rattle.dap_types.specs.Model.{Dataset, Tree}
use Rattle.dap_model.specs.Body.{body}
use Rattle.dap_model.specs.Dds.{dds}
use Rattle.dap_model.specs.Filter.{all_leaves_everywhere}
use Rattle.dap_http.specs.Targets.{target_of}
use Rattle.dap_http.specs.declared.kind.Kind.TheVariants.{Dods}
use Rattle.saved_source.specs.Responses.{IsSaved, first_repeated, saved_dataset}
use Rattle.dap_server.specs.Files.{Files, form_of, saved}
use Rattle.dap_server.specs.Results.{Results, left_of, result_text}
use Rattle.both_ends.specs.Ends.{IsGoodResult}

-- the target asks for the whole of a file of that name, which is read as a saved response
pub record AsksWhole (target name : List ℕ) : Type 0 where
  pub is_target : target_of target ≡ Some (record { name = name; kind = Dods; query = [] })
  pub form : form_of name ≡ Some saved

-- A saved response that is asked for without a constraint is served as its dataset and its values. Its
-- variables stay as they are where each Structure and each Sequence of it has one; its DDS is not too long.
abbrev pub SavedIsServed : Type 0
SavedIsServed = (target name bytes : List ℕ) (files : Files) (d : Dataset) (ts : List Tree) → AsksWhole target name → files name ≡ Some bytes → IsSaved bytes name d ts
    → all_leaves_everywhere d.members ≡ true → length (dds d) ≤ most_text → Results target files (Ok (result_text Dods (body d ts)))

-- A data response that a target is answered with, saved under any name as it is, gives its dataset under that
-- name and its values back where it is asked for without a constraint, unless it is too long or two of its
-- names become one.
abbrev pub WrittenIsServedAgain : Type 0
WrittenIsServedAgain = (target other name : List ℕ) (files again : Files) (text : List ℕ) (r : IsGoodResult target files text) → AsksWhole other name → again name ≡ Some text → length text ≤ most_saved →
    let left = left_of r.stored r.constraint in
    let d = saved_dataset name left.dataset in
    first_repeated d ≡ None → length (dds d) ≤ most_text → Results other again (Ok (result_text Dods (body d left.trees)))
