-- The server's half of the headline: what is served of a stored file and a constraint (DAP 2.0, DODS).
--
-- `run` says by `answer` and `answered` what it puts for each target, for 1 to 64 workers, and
-- `serve_connection` by `served` and `no_fault` what it puts for each request. This is what that is.
use Rattle.std.specs.Prelude.{◌≡◌, ◌≢◌, ℕ, ◌⊎◌, Bool, List, ◌∷◌, ◌++◌, codes, IsTrue, Option, Some, None, Result, Ok, Err}
use Rattle.std.specs.Io.KnownBytes.{Appends}
use Rattle.std.specs.List.{list_all}
use Rattle.viable.specs.Prefix.{is_byte, IsFault}
use Rattle.dap_model.specs.Body.{too_large}
use Rattle.dap_model.specs.Dds.{dds}
use Rattle.dap_model.specs.Xdr.{xdr}
use Rattle.dap_errors.specs.declared.cause.Cause.{Cause}
use Rattle.dap_errors.specs.declared.cause.Cause.TheVariants.{OutOfMemory, ReadFailed, Syntax, TooLarge}
use Rattle.constraint_parse.specs.Values.{Spells}
use Rattle.constraint_parse.specs.declared.constraint.Constraint.{Constraint}
use Rattle.grid_projection.specs.Resolved.{cause}
use Rattle.httparse.specs.Grammar.{RequestHead}
use Rattle.dap_http.specs.Carried.{Carries}
use Rattle.dap_http.specs.Frames.{IsProperFront}
use Rattle.dap_http.specs.Targets.{target_of}
use Rattle.dap_http.specs.declared.kind.Kind.TheVariants.{Dods}
use Rattle.dap_outside.specs.Causes.{Rose}
use Rattle.dap_outside.specs.Streams.{AppendsFront}
use Rattle.dap_server.specs.Connections.{Connection, part_of_reply, put_from}
use Rattle.dap_server.specs.Connections as connections
use Rattle.dap_server.specs.Files.{Files, Stored}
use Rattle.dap_server.specs.Replies.{IsRequestAnswered, Turn, replies, reply_of, request}
use Rattle.dap_server.specs.Whole.{AnswersAll}
use Rattle.dap_server.specs.Results.{Opens, Results, Text, error_object, left_of, result_text}
use Rattle.dap_server.specs.declared.served.Served.{Served}
use Rattle.both_ends.specs.Ends.{reply_behind}
use Rattle.dap_commands.specs.Answer.{AnswerSays, MustResult, status_of_result, status_of_cause}
use Rattle.dap_commands.specs.Causes.{IsCause}
use Rattle.dap_commands.specs.Lines.{IsSaid}
use Rattle.dap_commands.specs.declared.status.Status.{Status}
use Rattle.dap_commands.specs.declared.status.Status.TheVariants.{Complete, Refused, Damaged, Memory}

-- the target asks for the values of a stored file, by this query
pub record Asks (target query : List ℕ) (files : Files) (s : Stored) : Type 0 where
  pub name : List ℕ
  pub is_target : target_of target ≡ Some (record { name = name; kind = Dods; query = query })
  pub is_stored : Opens files name (Ok s)
  pub is_bytes : IsTrue (list_all is_byte query)

-- the constraint that the query spells has no cause, and what it leaves is not too large
abbrev pub IsAccepted : List ℕ → Stored → Constraint → Type 0
IsAccepted query s c = Spells query c × (cause s.dataset c ≡ None) × (too_large (left_of s c).dataset ≡ None)

-- any other query has a first cause: its syntax, else its items and clauses, else the size of what they leave
abbrev pub IsFirstCause : List ℕ → Stored → Cause → Type 0
IsFirstCause query s why =
    ((place : ℕ) × IsFault is_byte Spells query place × (why ≡ Syntax place))
    ⊎ ((c : Constraint) × Spells query c
    × ((cause s.dataset c ≡ Some why) ⊎ ((leaf : ℕ) × (cause s.dataset c ≡ None) × (too_large (left_of s c).dataset ≡ Some leaf) × (why ≡ TooLarge leaf))))

-- the constrained DDS, the `Data:` line and the XDR of the filtered dataset
abbrev pub served_body : Stored → Constraint → List ℕ
served_body s c = let left = left_of s c in dds left.dataset ++ codes "Data:\n" ++ xdr left.dataset left.trees

-- The target has this result and no other, so `answer` ends with its status where no fault came and memory was
-- had; and GET is answered by it.
pub record HasResult (target : List ℕ) (files : Files) (r : Result Text Cause) : Type 0 where
  pub must : MustResult (Some files) target r
  pub only : (other : Result Text Cause) → Results target files other → other ≡ r
  pub get : (k : ℕ) (head : RequestHead) (answer : Result Text Cause) → head.method ≡ codes "GET" → head.target ≡ target → IsRequestAnswered files (request k head) answer → answer ≡ r

-- what a run did to its output and to standard error, and how often these failed
pub record Puts : Type 0 where
  pub out : Option (List ℕ)
  pub out_then : Option (List ℕ)
  pub out_faults : ℕ
  pub out_faults_then : ℕ
  pub err : Option (List ℕ)
  pub err_then : Option (List ℕ)
  pub err_faults : ℕ
  pub err_faults_then : ℕ

-- standard error gained the line, as the clauses of `run` say it
abbrev pub SaysLine : Puts → List ℕ → Type 0
SaysLine p line = IsSaid line p.err_faults p.err_faults_then p.err p.err_then

-- a run of `answer`: what it put, and how often the shelf failed
pub record Answering : Type 0 where
  pub puts : Puts
  pub shelf_faults : ℕ
  pub shelf_faults_then : ℕ

-- no count of a fault rose, and memory was had
abbrev pub IsSound : Answering → Status → Type 0
IsSound a status = ¬ (Rose a.shelf_faults a.shelf_faults_then) × ¬ (Rose a.puts.out_faults a.puts.out_faults_then) × (status ≢ Memory)

-- the clauses `answer` and `answered` of `run` for this target, over a shelf that tells these files
pub record Says (target : List ℕ) (files : Files) (a : Answering) (status : Status) : Type 0 where
  pub says : AnswerSays (Some files) target (Appends a.puts.out a.puts.out_then) (AppendsFront a.puts.out a.puts.out_then) (SaysLine a.puts) status
  pub comes : (r : Result Text Cause) → MustResult (Some files) target r → ¬ (Rose a.shelf_faults a.shelf_faults_then) → ¬ (Rose a.puts.out_faults a.puts.out_faults_then) → status ≢ Memory → status ≡ status_of_result r

-- ---- On a connection.

-- it is this answer, or the cause of a failed read or of a want of memory
abbrev pub IsOrFailed : Result Text Cause → Result Text Cause → Type 0
IsOrFailed r answer = (answer ≡ r) ⊎ ((answer ≡ Err ReadFailed) ⊎ (answer ≡ Err OutOfMemory))

-- A turn is answered so, and its reply stands in what was put right behind those of the turns before it.
pub record StandsAnswered (put : List ℕ) (before : List Turn) (t : Turn) (r : Result Text Cause) : Type 0 where
  pub rest : List ℕ
  pub stands : put ≡ replies 1 before ++ (reply_behind before t ++ rest)
  pub answer : IsOrFailed r t.answer

-- A turn has this answer and no other, and its reply stands in what was put right behind those of the turns before it.
pub record StandsWhole (put : List ℕ) (before : List Turn) (t : Turn) (r : Result Text Cause) : Type 0 where
  pub rest : List ℕ
  pub stands : put ≡ replies 1 before ++ (reply_behind before t ++ rest)
  pub answer : t.answer ≡ r

-- a turn whose request is GET for the target
abbrev pub Gets : List ℕ → Turn → Type 0
Gets target t = (t.head.method ≡ codes "GET") × (t.head.target ≡ target)

-- In every run of `serve_connection` over a shelf that tells these files, by its clause `served`: each turn that gets
-- the target is answered so, and so is one whose reply broke off. Where no fault came and memory was had, by its clause
-- `no_fault`, the turns are those of all requests of the input, and each that gets the target has this answer.
pub record AnswersGet (target : List ℕ) (files : Files) (r : Result Text Cause) : Type 0 where
  pub whole : (taken : List ℕ) (ended : Bool) (c : Connection) (served : Served) → connections.IsConnectionServed (Some files) taken ended c served
      → (before after : List Turn) (t : Turn) → c.turns ≡ before ++ t ∷ after → Gets target t → StandsAnswered (put_from 1 c) before t r
  pub broken_off : (taken : List ℕ) (ended : Bool) (c : Connection) (served : Served) → connections.IsConnectionServed (Some files) taken ended c served
      → (t : Turn) (part : List ℕ) → c.behind ≡ part_of_reply t part → Gets target t
      → IsOrFailed r t.answer × IsProperFront part (reply_behind c.turns t)
  pub no_fault : (input gained : List ℕ) (served : Served) → (all : AnswersAll input files gained served)
      → (before after : List Turn) (t : Turn) → all.replies.turns ≡ before ++ t ∷ after → Gets target t → StandsWhole gained before t r

-- ---- A target's answer.

-- `answer` is complete but for faults and want of memory, and wherever it is, it put the body; the reply to GET
-- carries it; and on every connection GET is answered by it
pub record IsServed (target : List ℕ) (files : Files) (body : List ℕ) : Type 0 where
  pub has : HasResult target files (Ok (result_text Dods body))
  pub complete : (a : Answering) (status : Status) → Says target files a status → IsSound a status → status ≡ Complete
  pub put : (a : Answering) → Says target files a Complete → Appends a.puts.out a.puts.out_then body
  pub carried : (k : ℕ) (head : RequestHead) → head.method ≡ codes "GET" → Carries (reply_of (request k head) (Ok (result_text Dods body))) body
  pub answered : AnswersGet target files (Ok (result_text Dods body))

-- It is never complete for a cause, but refused or the file damaged, and wherever it is, it put the Error object of
-- this one; the reply to GET carries that, and on every connection GET is answered by it.
pub record IsRefused (target : List ℕ) (files : Files) (why : Cause) : Type 0 where
  pub has : HasResult target files (Err why)
  pub refused : (a : Answering) (status : Status) → Says target files a status → IsSound a status → status ≡ status_of_cause why
  pub never : (a : Answering) → Says target files a Complete → ⊥
  pub put : (a : Answering) (status : Status) → (status ≡ Refused) ⊎ (status ≡ Damaged) → Says target files a status → (status ≡ status_of_cause why) × Appends a.puts.out a.puts.out_then (error_object why)
  pub carried : (k : ℕ) (head : RequestHead) → head.method ≡ codes "GET" → IsCause why → Carries (reply_of (request k head) (Err why)) (error_object why)
  pub answered : AnswersGet target files (Err why)
