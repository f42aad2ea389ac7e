-- From the body of a netCDF file, of a table or of a saved response to that of what was opened.
use Rattle.std.proofs.Common.{◌≡◌, ℕ, ◌≤◌, ◌<◌, List, All, length, Ok, Err, IsTrue, refl, sym, subst, arith}
use Rattle.constraint_parse.specs.Values.{Spells}
use Rattle.constraint_parse.specs.declared.constraint.Constraint.{Constraint}
use Rattle.csv_source.specs.Table.{CsvTable}
use Rattle.dap_http.specs.declared.kind.Kind.TheVariants.{Dods}
use Rattle.dap_outside.specs.Files.{Told}
use Rattle.dap_types.specs.Model.{Tree}
use Rattle.netcdf_source.specs.File.{FileHeader}
use Rattle.netcdf_source.specs.Laws.{HasHeader}
use Rattle.saved_source.specs.Bodies.{Sends}
use Rattle.saved_source.specs.Responses.{Holds, IsSaved}
use Rattle.saved_source.specs.Responses as responses
use Rattle.saved_source.specs.declared.body.SavedBody.{SavedBody}
use Rattle.xdr_encode.specs.Asked.{MarksAsk}
use Rattle.xdr_encode.specs.Bodies.{FitsFile, HasNoFile, MayAsk, cost_in, text_in}
use Rattle.xdr_encode.specs.Costs.{marks_cost}
use Rattle.xdr_encode.specs.declared.body.Body.{Body}
use Rattle.dap_server.proofs.DataGiven.{not_first}
use Rattle.dap_server.proofs.Sending.{asks_nothing}
use Rattle.dap_server.specs.Costs.{IsFileAsked, IsFormCost, IsFormCostAt, head_len, marks_of}
use Rattle.dap_server.specs.Files.{form_of, is_read_first, netcdf_stored, saved_stored, table_stored}
use Rattle.dap_server.specs.Results.{DodsAnswers, result_text}
use Rattle.dap_server.specs.inner.Opening.{Has, IsHeldBy, OpenedAs, WhereRefused, stored_of}
use Rattle.dap_server.specs.declared.open.Opened.TheVariants as opened
use Rattle.dap_server.specs.declared.saved_file.SavedFile.{SavedFile}
use Rattle.dap_server.specs.declared.no_answer.Stop.{Stop}
use Rattle.dap_server.specs.declared.no_answer.Stop.TheVariants.{Refused, ShelfFault, Memory}

-- of a netCDF file
pub netcdf_text : (h : FileHeader) (name query : List ℕ) (b : Body)
    → ((bytes : List ℕ) → HasHeader h.contents bytes → DodsAnswers (netcdf_stored name bytes h.contents) query (Ok (result_text Dods (text_in b bytes))))
    → (bytes held : List ℕ) (ts : List Tree) → OpenedAs (opened.Netcdf h) name bytes ts → IsHeldBy (opened.Netcdf h) bytes held
    → DodsAnswers (stored_of (opened.Netcdf h) name ts) query (Ok (result_text Dods (text_in b held)))
netcdf_text h name query b is bytes held ts as_file is_held =
    subst (λ us. DodsAnswers (stored_of (opened.Netcdf h) name us) query (Ok (result_text Dods (text_in b held)))) (sym as_file.3)
    (subst (λ t. DodsAnswers (netcdf_stored name bytes h.contents) query (Ok (result_text Dods (text_in b t)))) (sym is_held.0) (is bytes (is_held.1, as_file.1)))

pub netcdf_accepted : (h : FileHeader) (name query : List ℕ) → ((bytes : List ℕ) → (text : List ℕ) × DodsAnswers (netcdf_stored name bytes h.contents) query (Ok (result_text Dods text)))
    → (bytes : List ℕ) (ts : List Tree) → OpenedAs (opened.Netcdf h) name bytes ts → (text : List ℕ) × DodsAnswers (stored_of (opened.Netcdf h) name ts) query (Ok (result_text Dods text))
netcdf_accepted h name query is bytes ts as_file =
    let (text, answers) = is bytes in
    (text, subst (λ us. DodsAnswers (stored_of (opened.Netcdf h) name us) query (Ok (result_text Dods text))) (sym as_file.3) answers)

pub netcdf_alone : (h : FileHeader) (name : List ℕ) (b : Body) (bytes : List ℕ) (ts : List Tree) → OpenedAs (opened.Netcdf h) name bytes ts → IsTrue (is_read_first (form_of name)) → HasNoFile b
netcdf_alone h name b bytes ts as_file first = absurd (not_first (form_of name) as_file.0 first)

pub netcdf_fits : (h : FileHeader) (name : List ℕ) (b : Body) → FitsFile b h.length → (bytes : List ℕ) (ts : List Tree) → OpenedAs (opened.Netcdf h) name bytes ts → FitsFile b (length bytes)
netcdf_fits h name b is bytes ts as_file = subst (FitsFile b) as_file.2 is

asked : (h : FileHeader) (told : Told) (name query bytes : List ℕ) (ts : List Tree) (constraint : Constraint) → OpenedAs (opened.Netcdf h) name bytes ts → Has told name bytes → Spells query constraint
    → IsFileAsked told name query bytes h.contents constraint
asked h told name query bytes ts constraint as_file has spells =
    record { files = has.0; may_have = has.1; there = has.2; is_header = as_file.1; spells = spells }

pub netcdf_cost : (h : FileHeader) (name query : List ℕ) (b : Body) → (constraint : Constraint) × Spells query constraint × (cost_in b ≤ marks_cost h.contents (marks_of h.contents name constraint))
    → (told : Told) (bytes : List ℕ) (ts : List Tree) → OpenedAs (opened.Netcdf h) name bytes ts → Has told name bytes → (cost : ℕ) × IsFormCost (form_of name) told name query cost × (cost_in b ≤ cost)
netcdf_cost h name query b (constraint, spells, few) told bytes ts as_file has = (
  marks_cost h.contents (marks_of h.contents name constraint),
  subst (λ f. IsFormCost f told name query (marks_cost h.contents (marks_of h.contents name constraint))) (sym as_file.0)
      (bytes, h.contents, constraint, asked h told name query bytes ts constraint as_file has spells, refl),
  few,
)

pub netcdf_cost_at : (h : FileHeader) (name query : List ℕ) (b : Body)
    → (constraint : Constraint) × Spells query constraint × ((bytes : List ℕ) (put cost : ℕ) → HasHeader h.contents bytes → MayAsk b bytes put cost
    → MarksAsk h.contents (marks_of h.contents name constraint) bytes (head_len h.contents name constraint) put cost)
    → (told : Told) (bytes : List ℕ) (ts : List Tree) (put cost : ℕ) → OpenedAs (opened.Netcdf h) name bytes ts → Has told name bytes → All (λ byte. byte < 256) bytes → MayAsk b bytes put cost
    → IsFormCostAt (form_of name) told name query put cost
netcdf_cost_at h name query b (constraint, spells, asks) told bytes ts put cost as_file has are_bytes may =
    subst (λ f. IsFormCostAt f told name query put cost) (sym as_file.0)
    (bytes, h.contents, constraint, asked h told name query bytes ts constraint as_file has spells, asks bytes put cost (are_bytes, as_file.1) may)

pub netcdf_refused : (h : FileHeader) (name query : List ℕ) (s : Stop) → WhereRefused (λ why. (bytes : List ℕ) → DodsAnswers (netcdf_stored name bytes h.contents) query (Err why)) s
    → WhereRefused (λ why. (bytes : List ℕ) (ts : List Tree) → OpenedAs (opened.Netcdf h) name bytes ts → DodsAnswers (stored_of (opened.Netcdf h) name ts) query (Err why)) s
netcdf_refused h name query (Refused why) is = λ bytes ts as_file. subst (λ us. DodsAnswers (stored_of (opened.Netcdf h) name us) query (Err why)) (sym as_file.3) (is bytes)
netcdf_refused h name query ShelfFault is = tt
netcdf_refused h name query Memory is = tt

-- of a table
pub table_text : (t : CsvTable) (name query : List ℕ) (b : Body) → ((held : List ℕ) → DodsAnswers (table_stored t) query (Ok (result_text Dods (text_in b held))))
    → (bytes held : List ℕ) (ts : List Tree) → OpenedAs (opened.Table t) name bytes ts → IsHeldBy (opened.Table t) bytes held
    → DodsAnswers (stored_of (opened.Table t) name ts) query (Ok (result_text Dods (text_in b held)))
table_text t name query b is bytes held ts as_file is_held =
    subst (λ us. DodsAnswers (stored_of (opened.Table t) name us) query (Ok (result_text Dods (text_in b held)))) (sym as_file.2) (is held)

pub table_accepted : (t : CsvTable) (name query : List ℕ) (b : Body) → ((held : List ℕ) → DodsAnswers (table_stored t) query (Ok (result_text Dods (text_in b held))))
    → (bytes : List ℕ) (ts : List Tree) → OpenedAs (opened.Table t) name bytes ts → (text : List ℕ) × DodsAnswers (stored_of (opened.Table t) name ts) query (Ok (result_text Dods text))
table_accepted t name query b is bytes ts as_file = (text_in b bytes, table_text t name query b is bytes bytes ts as_file tt)

pub table_cost : (t : CsvTable) (name query : List ℕ) (b : Body) → cost_in b ≡ 0
    → (told : Told) (bytes : List ℕ) (ts : List Tree) → OpenedAs (opened.Table t) name bytes ts → Has told name bytes → (cost : ℕ) × IsFormCost (form_of name) told name query cost × (cost_in b ≤ cost)
table_cost t name query b is told bytes ts as_file has = (0, subst (λ f. IsFormCost f told name query 0) (sym as_file.0) refl, omega (arith, is))

pub table_cost_at : (t : CsvTable) (name query : List ℕ) (b : Body) → HasNoFile b
    → (told : Told) (bytes : List ℕ) (ts : List Tree) (put cost : ℕ) → OpenedAs (opened.Table t) name bytes ts → Has told name bytes → All (λ byte. byte < 256) bytes → MayAsk b bytes put cost
    → IsFormCostAt (form_of name) told name query put cost
table_cost_at t name query b is told bytes ts put cost as_file has are_bytes may =
    subst (λ f. IsFormCostAt f told name query put cost) (sym as_file.0) (asks_nothing b bytes put cost is may)

pub table_refused : (t : CsvTable) (name query : List ℕ) (s : Stop) → WhereRefused (λ why. DodsAnswers (table_stored t) query (Err why)) s
    → WhereRefused (λ why. (bytes : List ℕ) (ts : List Tree) → OpenedAs (opened.Table t) name bytes ts → DodsAnswers (stored_of (opened.Table t) name ts) query (Err why)) s
table_refused t name query (Refused why) is = λ bytes ts as_file. subst (λ us. DodsAnswers (stored_of (opened.Table t) name us) query (Err why)) (sym as_file.2) is
table_refused t name query ShelfFault is = tt
table_refused t name query Memory is = tt

-- of a saved response
abbrev AnswersSaved : SavedFile → List ℕ → SavedBody → Type 0
AnswersSaved s query b = (bytes name : List ℕ) (ts : List Tree) → IsSaved bytes name (responses.dataset_in s.saved) ts → Holds s.saved ts
    → (text : List ℕ) × Sends b text × DodsAnswers (saved_stored (responses.dataset_in s.saved) ts) query (Ok (result_text Dods text))

pub saved_sends : (s : SavedFile) (name query : List ℕ) (b : SavedBody) → AnswersSaved s query b
    → (bytes : List ℕ) (ts : List Tree) → OpenedAs (opened.Saved s) name bytes ts → (text : List ℕ) × Sends b text × DodsAnswers (stored_of (opened.Saved s) name ts) query (Ok (result_text Dods text))
saved_sends s name query b is bytes ts as_file = is bytes name ts as_file.1 as_file.2

pub saved_accepted : (s : SavedFile) (name query : List ℕ) (b : SavedBody) → AnswersSaved s query b
    → (bytes : List ℕ) (ts : List Tree) → OpenedAs (opened.Saved s) name bytes ts → (text : List ℕ) × DodsAnswers (stored_of (opened.Saved s) name ts) query (Ok (result_text Dods text))
saved_accepted s name query b is bytes ts as_file = let (text, sends, answers) = is bytes name ts as_file.1 as_file.2 in (text, answers)

pub saved_refused : (s : SavedFile) (name query : List ℕ) (stop : Stop) → WhereRefused (λ why. (ts : List Tree) → DodsAnswers (saved_stored (responses.dataset_in s.saved) ts) query (Err why)) stop
    → WhereRefused (λ why. (bytes : List ℕ) (ts : List Tree) → OpenedAs (opened.Saved s) name bytes ts → DodsAnswers (stored_of (opened.Saved s) name ts) query (Err why)) stop
saved_refused s name query (Refused why) is = λ bytes ts as_file. is ts
saved_refused s name query ShelfFault is = tt
saved_refused s name query Memory is = tt
