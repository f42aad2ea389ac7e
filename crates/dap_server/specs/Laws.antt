-- What the definitions of this crate promise, each as a statement over all files and targets.
use Rattle.std.specs.Prelude.{◌≡◌, ◌≢◌, ◌≤◌, ℕ, List, [], ◌∷◌, ◌++◌, length, codes, IsTrue, Some, None, Result, Ok}
use Rattle.std.specs.List.{list_all}
use Rattle.viable.specs.Prefix.{is_byte}
use Rattle.dap_model.specs.Body.{too_large}
use Rattle.dap_model.specs.Dds.{dds}
use Rattle.dap_model.specs.Filter.{constrained}
use Rattle.dap_model.specs.Xdr.{xdr}
use Rattle.dap_errors.specs.declared.cause.Cause.{Cause}
use Rattle.constraint_parse.specs.Values.{Spells}
use Rattle.constraint_parse.specs.declared.constraint.Constraint.{Constraint}
use Rattle.grid_projection.specs.Marks.{marks}
use Rattle.grid_projection.specs.Resolved.{cause}
use Rattle.dap_http.specs.Targets.{Asked, target_of}
use Rattle.dap_http.specs.declared.kind.Kind.TheVariants.{Dods}
use Rattle.dap_types.specs.Limits.{most_elements}
use Rattle.join_source.specs.Lists.{list_of}
use Rattle.netcdf_source.specs.Header.{IsHeader}
use Rattle.netcdf_source.specs.Mapping.{records_of}
use Rattle.netcdf_source.specs.declared.header.Contents.{Contents}
use Rattle.dap_server.specs.Files.{Files, Stored, form_of, front, joined, netcdf_stored}
use Rattle.dap_server.specs.Results.{AnswersAsked, Opens, Results, Text, left_of, result_text}

-- what is asked by a query of bytes has one answer at most
abbrev pub OneResult : Type 0
OneResult = (files : Files) (a : Asked) (one other : Result Text Cause) → IsTrue (list_all is_byte a.query) → AnswersAsked files a one → AnswersAsked files a other → one ≡ other

-- What a constraint without a cause leaves of a stored dataset is the result of its target: its DDS, the
-- line `Data:` and the XDR of its values.
abbrev pub AcceptedIsServed : Type 0
AcceptedIsServed = (target name query : List ℕ) (files : Files) (s : Stored) (c : Constraint) → target_of target ≡ Some (record { name = name; kind = Dods; query = query })
    → Opens files name (Ok s) → Spells query c → cause s.dataset c ≡ None → too_large (constrained (marks s.dataset c) s.dataset) ≡ None
    → let left = left_of s c in Results target files (Ok (result_text Dods (dds left.dataset ++ codes "Data:\n" ++ xdr left.dataset left.trees)))

-- a list of one line has what the file of its line has, but that the dataset has the name of the list
abbrev pub OneLineIsItself : Type 0
OneLineIsItself = (files : Files) (name bytes member file : List ℕ) (c : Contents) → form_of name ≡ Some joined → files name ≡ Some bytes → list_of bytes ≡ Ok (member ∷ []) → files member ≡ Some file
    → IsHeader c (front file) (length file) → records_of c ≢ None → c.records ≤ most_elements → Opens files name (Ok (netcdf_stored name file c))
