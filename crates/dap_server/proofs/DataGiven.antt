-- From the body of what was opened to what the files of a shelf answer.
use Rattle.std.proofs.Common.{◌≡◌, ℕ, ◌≤◌, List, length, Option, Some, IsSome, IsTrue, Ok, sym, ap, ◌∙◌, inl, inr, subst}
use Rattle.std.specs.Prelude.{is_some}
use Rattle.std.proofs.lemmas.Bool.{false≢true}
use Rattle.dap_http.specs.declared.kind.Kind.TheVariants.{Dods}
use Rattle.dap_outside.specs.Files.{IsBytes, Told}
use Rattle.xdr_encode.specs.Bodies.{FitsFile, HasNoFile, MayAsk, cost_in, text_in}
use Rattle.dap_types.specs.Model.{Tree}
use Rattle.saved_source.specs.Bodies.{Sends}
use Rattle.dap_server.proofs.Lying.{same_bytes}
use Rattle.dap_server.proofs.Making as making
use Rattle.dap_server.specs.Costs.{IsFormCost, IsFormCostAt}
use Rattle.dap_server.specs.Files.{Form, IsOneFile, form_of, is_read_first, netcdf, saved}
use Rattle.dap_server.specs.Prepared.{IsOver}
use Rattle.dap_server.specs.Results.{DodsAnswers, result_text}
use Rattle.dap_server.specs.inner.Opening.{Has, IsHeldBy, IsRead, Lies, OpenedAs, stored_of}
use Rattle.dap_server.specs.inner.Preparing.{MayGiveAs, WhereOfFile, WhereOfSaved}
use Rattle.dap_server.specs.declared.data_body.DataBody.{DataBody}
use Rattle.dap_server.specs.declared.data_body.DataBody.TheVariants as bodies
use Rattle.dap_server.specs.declared.open.Opened.{Opened}
use Rattle.dap_server.specs.declared.open.Opened.TheVariants as opened

-- the values of a netCDF file are not read before they go out
pub not_first : (f : Option Form) → f ≡ Some netcdf → IsTrue (is_read_first f) → ⊥
not_first f is first = false≢true (sym (ap is_read_first is) ∙ first)

-- what is told of a file is told as bytes
abbrev TellsBytes : Option (List ℕ) → Type 0
TellsBytes content = (file : List ℕ) → content ≡ Some file → IsBytes file

held_by : (content : Option (List ℕ)) (name bytes held : List ℕ) (ts : List Tree) (o : Opened) → TellsBytes content → IsRead content bytes → OpenedAs o name bytes ts → IsOver name content held → IsHeldBy o bytes held
held_by content name bytes held ts (opened.Netcdf h) fit is_read is (inl over) =
    let same : bytes ≡ held = same_bytes content bytes held over is_read in
    (sym same, subst IsBytes (sym same) (fit held over))
held_by content name bytes held ts (opened.Netcdf h) fit is_read is (inr first) = absurd (not_first (form_of name) is.0 first)
held_by content name bytes held ts (opened.Table t) fit is_read is over = tt
held_by content name bytes held ts (opened.Saved s) fit is_read is over = tt

-- the data response over the bytes of its file
pub over : (told : Told) (content : Option (List ℕ)) (size : ℕ) (name query bytes : List ℕ) (ts : List Tree) (o : Opened) (d : DataBody) → TellsBytes content → Lies told content size name bytes → OpenedAs o name bytes ts
    → WhereOfFile d (λ b. (bytes held : List ℕ) (ts : List Tree) → OpenedAs o name bytes ts → IsHeldBy o bytes held → DodsAnswers (stored_of o name ts) query (Ok (result_text Dods (text_in b held))))
    → WhereOfFile d (λ b. (held : List ℕ) → IsOver name content held → MayGiveAs told Dods name query (Ok (result_text Dods (text_in b held))))
over told content size name query bytes ts o (bodies.OfFile b) fit l is text = λ held is_over.
    making.follows told content size name bytes ts o (λ s. DodsAnswers s query) _ l is (text bytes held ts is (held_by content name bytes held ts o fit l.is_read is is_over))
over told content size name query bytes ts o (bodies.Saved b) fit l is text = tt

-- that of a saved response
pub sends : (told : Told) (content : Option (List ℕ)) (size : ℕ) (name query bytes : List ℕ) (ts : List Tree) (o : Opened) (d : DataBody) → Lies told content size name bytes → OpenedAs o name bytes ts
    → WhereOfSaved d (λ b. (bytes : List ℕ) (ts : List Tree) → OpenedAs o name bytes ts → (text : List ℕ) × Sends b text × DodsAnswers (stored_of o name ts) query (Ok (result_text Dods text)))
    → WhereOfSaved d (λ b. (text : List ℕ) × Sends b text × MayGiveAs told Dods name query (Ok (result_text Dods text)))
sends told content size name query bytes ts o (bodies.OfFile b) l is sent = tt
sends told content size name query bytes ts o (bodies.Saved b) l is sent =
    let (text, sends, answers) = sent bytes ts is in
    (text, sends, making.follows told content size name bytes ts o (λ s. DodsAnswers s query) _ l is answers)

pub of_saved : (name bytes : List ℕ) (ts : List Tree) (o : Opened) (d : DataBody) → OpenedAs o name bytes ts → WhereOfSaved d (λ b. (bytes : List ℕ) (ts : List Tree) → OpenedAs o name bytes ts → form_of name ≡ Some saved)
    → WhereOfSaved d (λ b. form_of name ≡ Some saved)
of_saved name bytes ts o (bodies.OfFile b) is named = tt
of_saved name bytes ts o (bodies.Saved b) is named = named bytes ts is

-- some response there is
pub accepted : (told : Told) (content : Option (List ℕ)) (size : ℕ) (name query bytes : List ℕ) (ts : List Tree) (o : Opened) → Lies told content size name bytes → OpenedAs o name bytes ts
    → ((bytes : List ℕ) (ts : List Tree) → OpenedAs o name bytes ts → (text : List ℕ) × DodsAnswers (stored_of o name ts) query (Ok (result_text Dods text))) → (text : List ℕ) × MayGiveAs told Dods name query (Ok (result_text Dods text))
accepted told content size name query bytes ts o l is some =
    let (text, answers) = some bytes ts is in
    (text, making.follows told content size name bytes ts o (λ s. DodsAnswers s query) _ l is answers)

-- that of a netCDF file or of a table
pub of_file : (name bytes : List ℕ) (ts : List Tree) (o : Opened) (d : DataBody) → OpenedAs o name bytes ts → WhereOfFile d (λ b. (bytes : List ℕ) (ts : List Tree) → OpenedAs o name bytes ts → IsOneFile (form_of name))
    → WhereOfFile d (λ b. IsOneFile (form_of name))
of_file name bytes ts o (bodies.OfFile b) is named = named bytes ts is
of_file name bytes ts o (bodies.Saved b) is named = tt

-- where its values were read it goes out alone
pub alone : (name bytes : List ℕ) (ts : List Tree) (o : Opened) (d : DataBody) → OpenedAs o name bytes ts
    → WhereOfFile d (λ b. (bytes : List ℕ) (ts : List Tree) → OpenedAs o name bytes ts → IsTrue (is_read_first (form_of name)) → HasNoFile b) → WhereOfFile d (λ b. IsTrue (is_read_first (form_of name)) → HasNoFile b)
alone name bytes ts o (bodies.OfFile b) is goes = goes bytes ts is
alone name bytes ts o (bodies.Saved b) is goes = tt

-- it reads within its file
pub fits : (told : Told) (content : Option (List ℕ)) (size : ℕ) (name bytes : List ℕ) (ts : List Tree) (o : Opened) (d : DataBody) → Lies told content size name bytes → OpenedAs o name bytes ts
    → WhereOfFile d (λ b. (bytes : List ℕ) (ts : List Tree) → OpenedAs o name bytes ts → FitsFile b (length bytes)) → WhereOfFile d (λ b. FitsFile b size)
fits told content size name bytes ts o (bodies.OfFile b) l is fit = subst (FitsFile b) (sym l.is_size) (fit bytes ts is)
fits told content size name bytes ts o (bodies.Saved b) l is fit = tt

-- what it costs
pub cost : (told : Told) (content : Option (List ℕ)) (size : ℕ) (name query bytes : List ℕ) (ts : List Tree) (o : Opened) (d : DataBody) → Lies told content size name bytes → OpenedAs o name bytes ts
    → WhereOfFile d (λ b. (told : Told) (bytes : List ℕ) (ts : List Tree) → OpenedAs o name bytes ts → Has told name bytes → (cost : ℕ) × IsFormCost (form_of name) told name query cost × (cost_in b ≤ cost))
    → WhereOfFile d (λ b. (cost : ℕ) × IsFormCost (form_of name) told name query cost × (cost_in b ≤ cost))
cost told content size name query bytes ts o (bodies.OfFile b) l is costs = costs told bytes ts is (l.files, l.may_have, l.there)
cost told content size name query bytes ts o (bodies.Saved b) l is costs = tt

pub cost_at : (told : Told) (content : Option (List ℕ)) (size : ℕ) (name query bytes : List ℕ) (ts : List Tree) (o : Opened) (d : DataBody) → TellsBytes content → Lies told content size name bytes → OpenedAs o name bytes ts
    → WhereOfFile d (λ b. (told : Told) (bytes : List ℕ) (ts : List Tree) (put cost : ℕ) → OpenedAs o name bytes ts → Has told name bytes → IsBytes bytes → MayAsk b bytes put cost → IsFormCostAt (form_of name) told name query put cost)
    → WhereOfFile d (λ b. (file : List ℕ) (put cost : ℕ) → content ≡ Some file → MayAsk b file put cost → IsFormCostAt (form_of name) told name query put cost)
cost_at told content size name query bytes ts o (bodies.OfFile b) fit l is costs = λ file put cost tells may.
    let same : bytes ≡ file = same_bytes content bytes file tells l.is_read in
    costs told bytes ts put cost is (l.files, l.may_have, l.there) (subst IsBytes (sym same) (fit file tells)) (subst (λ f. MayAsk b f put cost) (sym same) may)
cost_at told content size name query bytes ts o (bodies.Saved b) fit l is costs = tt

-- a shelf that tells its files tells the content of this one
pub tells_some : (told : Told) (content : Option (List ℕ)) (size : ℕ) (name bytes : List ℕ) → Lies told content size name bytes → IsSome told → IsSome content
tells_some told content size name bytes l told_some = ap is_some (l.tells told_some)
