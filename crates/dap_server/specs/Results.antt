-- What a target asks of some files: a text, or the first cause for which there is none. The steps are
-- taken in order: the target, the file, its contents, the syntax of the constraint, its items and
-- clauses, the size of what it leaves (DAP 2.0, URL suffixes and constraint expressions; the causes and
-- their order are this project's).
use Rattle.std.specs.Prelude.{◌≡◌, ℕ, List, length, nat_lt, if◌then◌else◌, Option, Some, option_map, Result, Ok, Err}
use Rattle.std.specs.Option.{option_and_then}
use Rattle.viable.specs.Prefix.{is_byte, IsFault}
use Rattle.dap_outside.specs.Files.{Told}
use Rattle.dap_types.specs.Limits.{most_text}
use Rattle.dap_types.specs.Model.{Dataset, Tree}
use Rattle.dap_model.specs.Body.{body, too_large}
use Rattle.dap_model.specs.Dds.{dds}
use Rattle.dap_model.specs.Filter.{constrained, constrained_trees}
use Rattle.dap_model.specs.Rows.{kept}
use Rattle.das_text.specs.Das.{das}
use Rattle.dap_errors.specs.declared.cause.Cause.{Cause}
use Rattle.dap_errors.specs.declared.cause.Cause.TheVariants.{Syntax, TooLarge, BadTarget, NoFile}
use Rattle.constraint_parse.specs.Values.{Spells}
use Rattle.constraint_parse.specs.declared.constraint.Constraint.{Constraint}
use Rattle.grid_projection.specs.Marks.{marks}
use Rattle.grid_projection.specs.Resolved.{cause}
use Rattle.sequence_select.specs.Selections.{selections}
pub use Rattle.dap_http.specs.Sent.{error_object}
use Rattle.dap_http.specs.Targets.{Asked, target_of}
use Rattle.dap_http.specs.Texts.{version}
use Rattle.dap_http.specs.declared.kind.Kind.{Kind}
use Rattle.dap_http.specs.declared.kind.Kind.TheVariants.{Dds, Das, Dods, Ver}
use Rattle.dap_server.specs.Files.{Files, Form, Stored, form_of, IsStored}
use Rattle.dap_server.specs.Steps.{Is, Then, found_or, unless}

-- the target
abbrev pub asked : List ℕ → Result Asked Cause
asked target = found_or (target_of target) BadTarget

-- a file of a form
pub record File : Type 0 where
  pub form : Form
  pub bytes : List ℕ

abbrev pub file_named : Files → List ℕ → Option File
file_named files name = option_and_then (λ form. option_map (λ bytes. record { form = form; bytes = bytes }) (files name)) (form_of name)

-- the file of a name, and what it has. A list is one of files that may be found by the names in it
abbrev pub OpensAmong : Told → Files → List ℕ → Result Stored Cause → Type 0
OpensAmong told files name = Then (Is (found_or (file_named files name) NoFile)) (λ file. IsStored told file.form name file.bytes)

-- so over files that are told, all of them
abbrev pub Opens : Files → List ℕ → Result Stored Cause → Type 0
Opens files name = OpensAmong (Some files) files name

-- the constraint that a query spells, or the place where it goes wrong
abbrev pub Reads : List ℕ → Result Constraint Cause → Type 0
Reads query (Ok constraint) = Spells query constraint
Reads query (Err cause) = (place : ℕ) × IsFault is_byte Spells query place × (cause ≡ Syntax place)

-- what a constraint leaves of a dataset and its values
pub record Left : Type 0 where
  pub dataset : Dataset
  pub trees : List Tree

abbrev pub left_of : Stored → Constraint → Left
left_of s c = record {
  dataset = constrained (marks s.dataset c) s.dataset;
  trees = constrained_trees (marks s.dataset c) (kept (selections s.dataset c)) s.dataset s.trees;
}

-- the same for the text of a query
abbrev pub Leaves : Stored → List ℕ → Result Left Cause → Type 0
Leaves s query = Then (Reads query) (λ c. Is (unless (cause s.dataset c) (left_of s c)))

-- a text of a kind
pub record Text : Type 0 where
  pub kind : Kind
  pub text : List ℕ

abbrev pub result_text : Kind → List ℕ → Text
result_text kind text = record { kind = kind; text = text }

-- a DDS may not be too long, and a data response may have no leaf with too many elements either
abbrev pub dds_text : Dataset → Result Text Cause
dds_text d = if nat_lt most_text (length (dds d)) then Err (TooLarge 0) else Ok (result_text Dds (dds d))

abbrev pub dods_text : Left → Result Text Cause
dods_text left = unless (option_map (λ leaf. TooLarge leaf) (too_large left.dataset)) (result_text Dods (body left.dataset left.trees))

-- what a stored file is answered with, by the kind. For the attributes the query is not read
abbrev pub das_text : Stored → Result Text Cause
das_text s = Ok (result_text Das (das s.attributes))

abbrev pub DdsAnswers : Stored → List ℕ → Result Text Cause → Type 0
DdsAnswers s query = Then (Leaves s query) (λ left. Is (dds_text left.dataset))

abbrev pub DodsAnswers : Stored → List ℕ → Result Text Cause → Type 0
DodsAnswers s query = Then (Leaves s query) (λ left. Is (dods_text left))

-- what some files are answered with, among those that may be found. For the version no file is looked up
abbrev pub AnswersAmong : Told → Kind → Files → List ℕ → List ℕ → Result Text Cause → Type 0
AnswersAmong told Ver files name query = Is (Ok (result_text Ver version))
AnswersAmong told Das files name query = Then (OpensAmong told files name) (λ s. Is (das_text s))
AnswersAmong told Dds files name query = Then (OpensAmong told files name) (λ s. DdsAnswers s query)
AnswersAmong told Dods files name query = Then (OpensAmong told files name) (λ s. DodsAnswers s query)

abbrev pub Answers : Kind → Files → List ℕ → List ℕ → Result Text Cause → Type 0
Answers kind files name query = AnswersAmong (Some files) kind files name query

abbrev pub AnswersAsked : Files → Asked → Result Text Cause → Type 0
AnswersAsked files a = Answers a.kind files a.name a.query

-- the text or the first cause of a target
abbrev pub ResultsAmong : Told → List ℕ → Files → Result Text Cause → Type 0
ResultsAmong told target files = Then (Is (asked target)) (λ a. AnswersAmong told a.kind files a.name a.query)

abbrev pub Results : List ℕ → Files → Result Text Cause → Type 0
Results target files = ResultsAmong (Some files) target files

-- what is put of an answer: its text, or the Error object for its cause
abbrev pub put_of : Result Text Cause → List ℕ
put_of (Ok t) = t.text
put_of (Err cause) = error_object cause
