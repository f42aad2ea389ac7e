-- The client's half of the headline: what is shown by a run of `show`, and by one of `fetch`, as the clauses of
-- `run` say it (DAP 2.0, DODS; the shown text is this project's).
use Rattle.std.specs.Prelude.{◌≡◌, ◌≢◌, ℕ, ⊤, Bool, true, IsTrue, List, [], ◌∷◌, ◌++◌, length, Option, Some}
use Rattle.std.specs.List.{flat_map}
use Rattle.std.specs.Io.KnownBytes.{Appends, IsAtEnd}
use Rattle.dap_types.specs.Limits.{body_limit}
use Rattle.dap_types.specs.Model.{Dataset, Tree}
use Rattle.dap_model.specs.Body.{IsBody}
use Rattle.dap_model.specs.Shown.{shown}
use Rattle.dap_outside.specs.Causes.{Rose}
use Rattle.dap_outside.specs.Links.{LinkState}
use Rattle.dap_http.specs.Delivered.{Delivers}
use Rattle.dap_http.specs.Urls.{UrlParts}
use Rattle.dap_http.specs.declared.kind.Kind.TheVariants.{Dods}
use Rattle.reply_faults.specs.declared.bad.Bad.TheVariants.{TooLong}
use Rattle.dap_client.specs.Fetched.{DialState}
use Rattle.dap_client.specs.Verdict.{Verdict, IsVerdict, dods_form}
use Rattle.dap_commands.specs.Fetch.{FetchSays}
use Rattle.dap_commands.specs.Lines.{bad_reply_line}
use Rattle.dap_commands.specs.ServerHalf.{Puts, SaysLine}
use Rattle.dap_commands.specs.Show.{ShowSays, status_of_verdict}
use Rattle.dap_commands.specs.declared.status.Status.{Status}
use Rattle.dap_commands.specs.declared.status.Status.TheVariants.{BadReply, Complete, Memory}

-- ---- Data responses.

-- bytes, a dataset and its values
pub record Response : Type 0 where
  pub bytes : List ℕ
  pub dataset : Dataset
  pub trees : List Tree

-- the bytes are a data response of that dataset and those values
abbrev pub IsResponse : Response → Type 0
IsResponse r = IsBody r.bytes r.dataset r.trees

-- its DDS, a line for each value, and `complete N`
abbrev pub text_of : Response → List ℕ
text_of r = shown r.dataset r.trees (length r.bytes)

abbrev pub text_of_all : List Response → List ℕ
text_of_all rs = flat_map text_of rs

-- they stand in these bytes, each carried whole by a reply, one reply behind the other (RFC 9112)
abbrev pub AreReplies : List Response → List ℕ → Type 0
AreReplies [] bytes = ⊤
AreReplies (r ∷ rs) bytes = (rest : List ℕ) × Delivers bytes true r.bytes rest × IsResponse r × AreReplies rs rest

-- ---- A run of `show`.

-- what it took of its input, how often that failed, and what it put
pub record Showing : Type 0 where
  pub left : Option (List ℕ)
  pub left_then : Option (List ℕ)
  pub is_ended_then : Bool
  pub take_faults : ℕ
  pub take_faults_then : ℕ
  pub puts : Puts

-- the clauses `show` and `shows` of `run`
pub record Shows (s : Showing) (status : Status) : Type 0 where
  pub says : ShowSays s.left s.left_then (IsTrue s.is_ended_then) (IsAtEnd s.left_then) s.puts.out s.puts.out_then (SaysLine s.puts) status
  pub comes : (body : List ℕ) (v : Verdict) → s.left ≡ Some body → IsVerdict dods_form body v → ¬ (Rose s.take_faults s.take_faults_then) → ¬ (Rose s.puts.out_faults s.puts.out_faults_then)
      → status ≢ Memory → status ≡ status_of_verdict v

-- It is complete, but for faults and want of memory; and wherever it is, it put this text and nothing else, and
-- nothing of its input is left.
pub record IsShown (s : Showing) (status : Status) (text : List ℕ) : Type 0 where
  pub complete : ¬ (Rose s.take_faults s.take_faults_then) → ¬ (Rose s.puts.out_faults s.puts.out_faults_then) → status ≢ Memory → status ≡ Complete
  pub put : status ≡ Complete → Appends s.puts.out s.puts.out_then text × (s.left_then ≡ Some [])

-- It refuses a data response as too long: it is never complete, but for faults and want of memory it is a bad reply,
-- and wherever it is, its line says so.
pub record IsShownTooLong (s : Showing) (status : Status) : Type 0 where
  pub refused : ¬ (Rose s.take_faults s.take_faults_then) → ¬ (Rose s.puts.out_faults s.puts.out_faults_then) → status ≢ Memory → status ≡ BadReply
  pub says : status ≡ BadReply → SaysLine s.puts (bad_reply_line (record { kind = TooLong; place = body_limit }))
  pub never : status ≢ Complete

-- ---- A run of `fetch` for data.

-- the URL and the constraints, what the dial had, and what was put
pub record Fetching (W : Type 0) : Type 0 where
  pub state : W → LinkState
  pub url : UrlParts
  pub constraints : List (List ℕ)
  pub dial : DialState W
  pub dial_then : DialState W
  pub puts : Puts

-- the clause `fetch` of `run`
abbrev pub FetchesData : {W : Type 0} → Fetching W → Status → Type 0
FetchesData f status =
    FetchSays f.state f.url Dods f.constraints f.dial f.dial_then (record { written = f.puts.out; faults = f.puts.out_faults }) (record { written = f.puts.out_then; faults = f.puts.out_faults_then }) (SaysLine f.puts) status

-- the dial tells its links, of which this one came back by the run; and it tells its whole input
pub record HasRead {W : Type 0} (f : Fetching W) (link : W) (input : List ℕ) : Type 0 where
  pub others : List ((List ℕ × ℕ) × W)
  pub back : f.dial.back ≡ Some others
  pub back_then : f.dial_then.back ≡ Some (others ++ ((f.url.host, f.url.port), link) ∷ [])
  pub whole : (f.state link).whole ≡ Some input

-- the same over that link
pub record IsFetched {W : Type 0} (f : Fetching W) (link : W) (status : Status) (text : List ℕ) : Type 0 where
  pub complete : ¬ (Rose 0 (f.state link).take_faults) → ¬ (Rose 0 (f.state link).put_faults) → ¬ (Rose f.puts.out_faults f.puts.out_faults_then) → status ≢ Memory → status ≡ Complete
  pub put : status ≡ Complete → Appends f.puts.out f.puts.out_then text
