-- What the definitions of this crate promise of one another and to those of `netcdf_source`, each as a
-- statement over all datasets and values.
use Rattle.std.specs.Prelude.{◌≡◌, ◌↔◌, ℕ, ◌<◌, true, List, [], length, take, map, All, Some}
use Rattle.std.specs.List.{AllZip}
use Rattle.dap_types.specs.Limits.{most_header, most_written}
use Rattle.dap_types.specs.Model.{Dataset, Tree}
use Rattle.dap_types.specs.Names.{file_id}
use Rattle.netcdf_source.specs.Header.{IsHeader}
use Rattle.netcdf_source.specs.Mapping.{base_of, dataset_of, dim_of}
use Rattle.netcdf_source.specs.Values.{file_trees, tree_of}
use Rattle.netcdf_source.specs.declared.header.Contents.{Contents}
use Rattle.netcdf_source.specs.declared.header.Variable as source
use Rattle.dap_client.specs.Verdict.{IsVerdict, bad, dods_form, is_fault}
use Rattle.dap_model.specs.Tokens.{tokens_of}
use Rattle.reply_faults.specs.declared.bad.Bad.{Bad}
use Rattle.netcdf_writer.specs.File.{cdf}
use Rattle.netcdf_writer.specs.Names.{undone}
use Rattle.netcdf_writer.specs.Saved.{IsSavable, IsSmall}
use Rattle.netcdf_writer.specs.Variables.{Variable, variables}

-- the bytes that a name is undone to are those whose escape it is; there are no others
abbrev pub NamesAreUndone : Type 0
NamesAreUndone = (name bytes : List ℕ) → All (λ b. b < 256) bytes → (undone name ≡ Some bytes) ↔ (file_id bytes ≡ name)

abbrev pub UndoneAreBytes : Type 0
UndoneAreBytes = (name bytes : List ℕ) → undone name ≡ Some bytes → All (λ b. b < 256) bytes

-- a variable of a file, as its header and its values are read: its name, type, dimensions and values
pub record IsReadAs (c : Contents) (file : List ℕ) (r : source.Variable) (v : Variable) : Type 0 where
  pub name : file_id r.name ≡ v.name
  pub base : base_of r.external_type ≡ v.base
  pub dims : map (dim_of c) r.dimensions ≡ v.dims
  pub tree : tree_of c file r ≡ v.tree

-- the file of a dataset that can be stored is read back: its header has no fault, each variable ends within
-- it, and they are the variables that were stored, in order
abbrev pub ReadsBack : Type 0
ReadsBack = (d : Dataset) (ts : List Tree) → IsSmall d ts → IsSavable d ts →
    let file = cdf (variables d ts) in (c : Contents) × IsHeader c (take most_header file) (length file) × AllZip (IsReadAs c file) c.variables (variables d ts)

-- What a data response without a constraint holds of a file is its dataset and its values. Where these can be stored, the
-- file that is written has them again, under the same name, whatever else stood in the first file.
abbrev pub ReadsSame : Type 0
ReadsSame = (c : Contents) (file name : List ℕ) → IsHeader c (take most_header file) (length file) → IsSmall (dataset_of c name) (file_trees c file) → IsSavable (dataset_of c name) (file_trees c file) →
    let saved = cdf (variables (dataset_of c name) (file_trees c file)) in
    (e : Contents) × IsHeader e (take most_header saved) (length saved) × (dataset_of e name ≡ dataset_of c name) × (file_trees e saved ≡ file_trees c file)

-- What is wrong with the first bytes of a body, as many as are saved, is what is wrong with all of it, whatever follows
-- them: where a whole token stands in them, so that it is known whether they begin an Error object
abbrev pub FirstBytesDecide : Type 0
FirstBytesDecide = (body : List ℕ) (kind : Bad) (place : ℕ) → most_written < length body → ¬ (tokens_of (take most_written body) ≡ []) → is_fault kind ≡ true
    → IsVerdict dods_form (take most_written body) (bad kind place) → IsVerdict dods_form body (bad kind place)
