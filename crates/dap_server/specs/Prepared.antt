-- What an answer to a target says.
use Rattle.std.specs.Prelude.{◌≡◌, ◌⊎◌, ◌≤◌, ℕ, ⊤, List, map, Option, Some, IsSome, IsTrue, Result, Ok, Err}
use Rattle.dap_errors.specs.declared.cause.Cause.{Cause}
use Rattle.dap_http.specs.Targets.{Asked}
use Rattle.dap_http.specs.declared.kind.Kind.{Kind}
use Rattle.dap_http.specs.declared.kind.Kind.TheVariants.{Dods}
use Rattle.dap_outside.specs.Files.{Told}
use Rattle.join_source.specs.Bodies.{FitsFiles, MayAsk, cost_in, text_in}
use Rattle.join_source.specs.Pieces.{AreTold}
use Rattle.join_source.specs.declared.body.JoinBody.{JoinBody}
use Rattle.saved_source.specs.declared.body.SavedBody.{SavedBody}
use Rattle.xdr_encode.specs.declared.body.Body.{Body}
use Rattle.dap_server.specs.Costs.{IsCost, IsCostAt, IsWithinLines}
use Rattle.dap_server.specs.Files.{Files, MayHave, form_of, is_read_first, joined}
use Rattle.dap_server.specs.Results.{AnswersAmong, Text, result_text}
use Rattle.dap_server.specs.declared.prepared.Prepared.{Prepared}
use Rattle.dap_server.specs.declared.prepared.Prepared.TheVariants as prepared

-- the files that the shelf may have answer so
abbrev pub MayGive : Told → Asked → Result Text Cause → Type 0
MayGive told a answer = (files : Files) × MayHave told files × AnswersAmong told a.kind files a.name a.query answer

-- The files that the shelf may have answer so, and of the list that they have by this name, and of the files that it
-- lists, no more was asked than what it has lines for.
abbrev pub MayGiveWithin : Told → Asked → ℕ → ℕ → Result Text Cause → Type 0
MayGiveWithin told a before now answer =
    (files : Files) × MayHave told files × AnswersAmong told a.kind files a.name a.query answer × IsWithinLines files a.name before now

-- all files that it may have answer so
abbrev pub MustGive : Told → Asked → Result Text Cause → Type 0
MustGive told a answer = (files : Files) → MayHave told files → AnswersAmong told a.kind files a.name a.query answer

-- a body goes out over these bytes: they are those of its file, or its values were read before
abbrev pub IsOver : List ℕ → Option (List ℕ) → List ℕ → Type 0
IsOver name content bytes = (content ≡ Some bytes) ⊎ IsTrue (is_read_first (form_of name))

-- by the variant
abbrev pub WhereText : {F : Type 0} → Prepared F → (Kind → List ℕ → Type 0) → Type 0
WhereText (prepared.Text kind text) P = P kind text
WhereText (prepared.Body b file) P = ⊤
WhereText (prepared.Saved b) P = ⊤
WhereText (prepared.Joined b files) P = ⊤
WhereText (prepared.Refuse cause) P = ⊤
WhereText prepared.ShelfFault P = ⊤
WhereText prepared.Memory P = ⊤

abbrev pub WhereBody : {F : Type 0} → Prepared F → (Body → F → Type 0) → Type 0
WhereBody (prepared.Body b file) P = P b file
WhereBody (prepared.Text kind text) P = ⊤
WhereBody (prepared.Saved b) P = ⊤
WhereBody (prepared.Joined b files) P = ⊤
WhereBody (prepared.Refuse cause) P = ⊤
WhereBody prepared.ShelfFault P = ⊤
WhereBody prepared.Memory P = ⊤

abbrev pub WhereSaved : {F : Type 0} → Prepared F → (SavedBody → Type 0) → Type 0
WhereSaved (prepared.Saved b) P = P b
WhereSaved (prepared.Text kind text) P = ⊤
WhereSaved (prepared.Body b file) P = ⊤
WhereSaved (prepared.Joined b files) P = ⊤
WhereSaved (prepared.Refuse cause) P = ⊤
WhereSaved prepared.ShelfFault P = ⊤
WhereSaved prepared.Memory P = ⊤

abbrev pub WhereJoined : {F : Type 0} → Prepared F → (JoinBody → List F → Type 0) → Type 0
WhereJoined (prepared.Joined b files) P = P b files
WhereJoined (prepared.Text kind text) P = ⊤
WhereJoined (prepared.Body b file) P = ⊤
WhereJoined (prepared.Saved b) P = ⊤
WhereJoined (prepared.Refuse cause) P = ⊤
WhereJoined prepared.ShelfFault P = ⊤
WhereJoined prepared.Memory P = ⊤

abbrev pub WhereRefuse : {F : Type 0} → Prepared F → (Cause → Type 0) → Type 0
WhereRefuse (prepared.Refuse cause) P = P cause
WhereRefuse (prepared.Text kind text) P = ⊤
WhereRefuse (prepared.Body b file) P = ⊤
WhereRefuse (prepared.Saved b) P = ⊤
WhereRefuse (prepared.Joined b files) P = ⊤
WhereRefuse prepared.ShelfFault P = ⊤
WhereRefuse prepared.Memory P = ⊤

abbrev pub WhereShelfFault : {F : Type 0} → Prepared F → Type 0 → Type 0
WhereShelfFault prepared.ShelfFault P = P
WhereShelfFault (prepared.Text kind text) P = ⊤
WhereShelfFault (prepared.Body b file) P = ⊤
WhereShelfFault (prepared.Saved b) P = ⊤
WhereShelfFault (prepared.Joined b files) P = ⊤
WhereShelfFault (prepared.Refuse cause) P = ⊤
WhereShelfFault prepared.Memory P = ⊤

abbrev pub WhereNoShelfFault : {F : Type 0} → Prepared F → Type 0 → Type 0
WhereNoShelfFault (prepared.Text kind text) P = P
WhereNoShelfFault (prepared.Body b file) P = P
WhereNoShelfFault (prepared.Saved b) P = P
WhereNoShelfFault (prepared.Joined b files) P = P
WhereNoShelfFault (prepared.Refuse cause) P = P
WhereNoShelfFault prepared.ShelfFault P = ⊤
WhereNoShelfFault prepared.Memory P = P

-- by the answer of files that are joined, whose data response has some text
abbrev pub WhereOfList : {F : Type 0} → Prepared F → (Result Text Cause → Type 0) → Type 0
WhereOfList (prepared.Text kind text) P = P (Ok (result_text kind text))
WhereOfList (prepared.Joined b files) P = (text : List ℕ) × P (Ok (result_text Dods text))
WhereOfList (prepared.Refuse cause) P = P (Err cause)
WhereOfList (prepared.Body b file) P = ⊤
WhereOfList (prepared.Saved b) P = ⊤
WhereOfList prepared.ShelfFault P = ⊤
WhereOfList prepared.Memory P = ⊤

-- it is this answer, unless the shelf failed or memory was wanted
abbrev pub IsFor : {F : Type 0} → Result Text Cause → Prepared F → Type 0
IsFor answer (prepared.Text kind text) = answer ≡ Ok (result_text kind text)
IsFor answer (prepared.Body b file) = (text : List ℕ) × (answer ≡ Ok (result_text Dods text))
IsFor answer (prepared.Saved b) = (text : List ℕ) × (answer ≡ Ok (result_text Dods text))
IsFor answer (prepared.Joined b files) = (text : List ℕ) × (answer ≡ Ok (result_text Dods text))
IsFor answer (prepared.Refuse cause) = answer ≡ Err cause
IsFor answer prepared.ShelfFault = ⊤
IsFor answer prepared.Memory = ⊤

-- A body of joined files, which are these: over their bytes it is the data response. It reads within them,
-- and no more than its marks cost.
pub record IsJoinedFor {F : Type 0} (told : Told) (content : F → Option (List ℕ)) (size_of : F → ℕ) (a : Asked) (b : JoinBody) (files : List F) : Type 0 where
  pub body : (contents : List (List ℕ)) → AreTold (map content files) contents → MayGive told a (Ok (result_text Dods (text_in b contents)))
  pub accepted : (text : List ℕ) × MayGive told a (Ok (result_text Dods text))
  pub of_list : (a.kind ≡ Dods) × (form_of a.name ≡ Some joined)
  pub tells : IsSome told → (contents : List (List ℕ)) × AreTold (map content files) contents
  pub fits : FitsFiles b (map size_of files)
  pub cost : (cost : ℕ) × IsCost told a cost × (cost_in b ≤ cost)
  pub cost_at : (contents : List (List ℕ)) (put cost : ℕ) → AreTold (map content files) contents → MayAsk b contents put cost → IsCostAt told a put cost
