-- What the steps of one kind make of an answer.
use Rattle.std.specs.Prelude.{◌≡◌, ◌≢◌, ◌≤◌, ℕ, ⊤, List, Option, Some, IsSome, IsTrue, Result, Ok, Err}
use Rattle.dap_errors.specs.declared.cause.Cause.{Cause}
use Rattle.dap_http.specs.Targets.{Asked}
use Rattle.dap_http.specs.declared.kind.Kind.{Kind}
use Rattle.dap_http.specs.declared.kind.Kind.TheVariants.{Dods}
use Rattle.dap_outside.specs.Files.{Told}
use Rattle.dap_server.specs.Costs.{IsCost, IsCostAt, asks_shelf}
use Rattle.dap_server.specs.Files.{Files, IsOneFile, MayHave, form_of, is_read_first, saved}
use Rattle.dap_server.specs.Prepared.{IsJoinedFor, IsOver, MayGive, WhereBody, WhereJoined, WhereRefuse, WhereSaved, WhereShelfFault, WhereText}
use Rattle.dap_server.specs.Results.{AnswersAmong, Text, result_text}
use Rattle.dap_server.specs.declared.data_body.DataBody.{DataBody}
use Rattle.dap_server.specs.declared.data_body.DataBody.TheVariants as bodies
use Rattle.dap_server.specs.declared.prepared.Prepared.{Prepared}
use Rattle.dap_server.specs.declared.prepared.Prepared.TheVariants as prepared
use Rattle.dap_server.specs.declared.no_answer.Stop.{Stop}
use Rattle.dap_server.specs.declared.no_answer.Stop.TheVariants.{Refused, ShelfFault, Memory}
use Rattle.xdr_encode.specs.Bodies.{FitsFile, HasNoFile, MayAsk, cost_in, text_in}
use Rattle.xdr_encode.specs.declared.body.Body.{Body}
use Rattle.join_source.specs.declared.body.JoinBody.{JoinBody}
use Rattle.saved_source.specs.Bodies.{Sends}
use Rattle.saved_source.specs.declared.body.SavedBody.{SavedBody}

-- the files that the shelf may have answer a name and a query of this kind so
abbrev pub MayGiveAs : Told → Kind → List ℕ → List ℕ → Result Text Cause → Type 0
MayGiveAs told kind name query answer = (files : Files) × MayHave told files × AnswersAmong told kind files name query answer

-- what is asked by a kind, a name and a query
abbrev pub asked_as : Kind → List ℕ → List ℕ → Asked
asked_as kind name query = record { name = name; kind = kind; query = query }

abbrev pub stopped : {F : Type 0} → Stop → Prepared F
stopped (Refused cause) = prepared.Refuse cause
stopped ShelfFault = prepared.ShelfFault
stopped Memory = prepared.Memory

abbrev pub text_prepared : {F : Type 0} → Kind → Result (List ℕ) Stop → Prepared F
text_prepared kind (Ok text) = prepared.Text kind text
text_prepared kind (Err stop) = stopped stop

abbrev pub data_prepared : {F : Type 0} → DataBody → F → Prepared F
data_prepared (bodies.OfFile b) file = prepared.Body b file
data_prepared (bodies.Saved b) file = prepared.Saved b

abbrev pub body_prepared : {F : Type 0} → Result (DataBody × F) Stop → Prepared F
body_prepared (Ok (d, file)) = data_prepared d file
body_prepared (Err stop) = stopped stop

abbrev pub join_prepared : {F : Type 0} → Result (JoinBody × List F) Stop → Prepared F
join_prepared (Ok (b, files)) = prepared.Joined b files
join_prepared (Err stop) = stopped stop

-- by the body
abbrev pub WhereOfFile : DataBody → (Body → Type 0) → Type 0
WhereOfFile (bodies.OfFile b) P = P b
WhereOfFile (bodies.Saved b) P = ⊤

abbrev pub WhereOfSaved : DataBody → (SavedBody → Type 0) → Type 0
WhereOfSaved (bodies.Saved b) P = P b
WhereOfSaved (bodies.OfFile b) P = ⊤

-- What was made of what is asked, over files that a shelf may have. Behind it the shelf tells so of the
-- content and the size of its files.
pub record IsMade {F : Type 0} (told : Told) (content : F → Option (List ℕ)) (size_of : F → ℕ) (a : Asked) (Fault : Type 0) (p : Prepared F) : Type 0 where
  pub text : WhereText p (λ kind text. (kind ≢ Dods) × MayGive told a (Ok (result_text kind text)))
  pub body : WhereBody p (λ b file. (bytes : List ℕ) → IsOver a.name (content file) bytes → MayGive told a (Ok (result_text Dods (text_in b bytes))))
  pub accepted : WhereBody p (λ b file. (text : List ℕ) × MayGive told a (Ok (result_text Dods text)))
  pub of_file : WhereBody p (λ b file. (a.kind ≡ Dods) × IsOneFile (form_of a.name))
  pub tells : WhereBody p (λ b file. IsSome told → IsSome (content file))
  pub alone : WhereBody p (λ b file. IsTrue (is_read_first (form_of a.name)) → HasNoFile b)
  pub fits : WhereBody p (λ b file. FitsFile b (size_of file))
  pub cost : WhereBody p (λ b file. (cost : ℕ) × IsCost told a cost × (cost_in b ≤ cost))
  pub cost_at : WhereBody p (λ b file. (bytes : List ℕ) (put cost : ℕ) → content file ≡ Some bytes → MayAsk b bytes put cost → IsCostAt told a put cost)
  pub sends : WhereSaved p (λ b. (text : List ℕ) × Sends b text × MayGive told a (Ok (result_text Dods text)))
  pub of_saved : WhereSaved p (λ b. (a.kind ≡ Dods) × (form_of a.name ≡ Some saved))
  pub joined : WhereJoined p (IsJoinedFor told content size_of a)
  pub refused : WhereRefuse p (λ cause. MayGive told a (Err cause))
  pub shelf_fault : WhereShelfFault p (IsTrue (asks_shelf a) × Fault)
