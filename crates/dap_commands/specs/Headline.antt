-- THE HEADLINE. For every stored file, accepted constraint and number of workers, the served body is the
-- constrained DDS, the `Data:` line and the XDR of the file's dataset filtered by the constraint; every other
-- constraint has a first cause and is answered by it; and the client, whatever pieces it reads, shows that filtered
-- dataset from exactly those bytes, and calls nothing else than a data response complete. One of 2^40 bytes or more it
-- refuses as too long.
--
-- `ServerHalf` says what a target asks, and what is served; `ClientHalf` what a run of `show` and of `fetch` is.
use Rattle.std.specs.Prelude.{◌≡◌, ℕ, ◌<◌, ◌≤◌, ◌⊎◌, List, [], ◌∷◌, ◌++◌, length, codes, IsTrue, Some, Ok, Err}
use Rattle.std.specs.List.{list_all}
use Rattle.dap_types.specs.Limits.{body_limit}
use Rattle.viable.specs.Prefix.{is_byte}
use Rattle.dap_errors.specs.declared.cause.Cause.{Cause}
use Rattle.constraint_parse.specs.declared.constraint.Constraint.{Constraint}
use Rattle.httparse.specs.Grammar.{RequestHead}
use Rattle.dap_http.specs.Targets.{target_of}
use Rattle.dap_http.specs.declared.kind.Kind.TheVariants.{Dods}
use Rattle.dap_server.specs.Files.{Files, Stored}
use Rattle.dap_server.specs.Replies.{reply_of, request}
use Rattle.dap_server.specs.Results.{Opens, left_of}
use Rattle.dap_server.specs.Results as results
use Rattle.reply_faults.specs.declared.bad.Bad.TheVariants.{TooLong}
use Rattle.dap_client.specs.Replies.{IsReplyVerdict}
use Rattle.dap_client.specs.Verdict.{IsVerdict, bad, dods_form}
use Rattle.both_ends.specs.Ends.{HoldBytes}
use Rattle.dap_commands.specs.ClientHalf.{AreReplies, FetchesData, Fetching, HasRead, IsFetched, IsResponse, IsShown, IsShownTooLong, Response, Showing, Shows, text_of, text_of_all}
use Rattle.dap_commands.specs.Laws.{VisitsAreGood}
use Rattle.dap_commands.specs.ServerHalf.{Asks, IsAccepted, IsFirstCause, IsRefused, IsServed, served_body}
use Rattle.dap_commands.specs.declared.status.Status.{Status}
use Rattle.dap_commands.specs.declared.status.Status.TheVariants.{Complete}

-- the served body, with the filtered dataset and its values
abbrev pub served : Stored → Constraint → Response
served s c = let left = left_of s c in record { bytes = served_body s c; dataset = left.dataset; trees = left.trees }

-- It is a data response of that dataset, and so is what the reply to GET carries, alone or, where it is in chunks,
-- before others.
pub record IsReadBack (s : Stored) (c : Constraint) : Type 0 where
  pub is_response : IsResponse (served s c)
  pub alone : (k : ℕ) (head : RequestHead) → head.method ≡ codes "GET" → AreReplies (served s c ∷ []) (reply_of (request k head) (Ok (results.result_text Dods (served_body s c))))
  pub before : (k : ℕ) (head : RequestHead) (rs : List Response) (more : List ℕ) → head.method ≡ codes "GET" → head.minor ≡ 1 → AreReplies rs more
      → AreReplies (served s c ∷ rs) (reply_of (request k head) (Ok (results.result_text Dods (served_body s c))) ++ more)

-- It has 2^40 bytes or more: who reads it refuses it as too long, alone and where the reply to GET carries it.
pub record IsTooLong (s : Stored) (c : Constraint) : Type 0 where
  pub verdict : IsVerdict dods_form (served_body s c) (bad TooLong body_limit)
  pub carried : (k : ℕ) (head : RequestHead) → head.method ≡ codes "GET"
      → IsReplyVerdict dods_form (reply_of (request k head) (Ok (results.result_text Dods (served_body s c)))) (length (served_body s c)) (bad TooLong body_limit)
  pub shown : (w : Showing) (status : Status) → Shows w status → w.left ≡ Some (served_body s c) → IsShownTooLong w status

-- over the links V of a door and W of a dial
pub record Headline (V W : Type 0) : Type 0 where
  -- the server: each query is accepted or has a first cause
  pub judged : (target query : List ℕ) (files : Files) (s : Stored) → Asks target query files s → ((c : Constraint) × IsAccepted query s c) ⊎ ((why : Cause) × IsFirstCause query s why)
  pub accepted : (target query : List ℕ) (files : Files) (s : Stored) (c : Constraint) → Asks target query files s → IsAccepted query s c → IsServed target files (served_body s c)
  pub refused : (target query : List ℕ) (files : Files) (s : Stored) (why : Cause) → Asks target query files s → IsFirstCause query s why → IsRefused target files why
  pub damaged : (target name query : List ℕ) (files : Files) (why : Cause) → target_of target ≡ Some (record { name = name; kind = Dods; query = query }) → IsTrue (list_all is_byte query)
      → Opens files name (Err why) → IsRefused target files why
  -- what is served of files that hold bytes is read back
  pub read_back : (target query : List ℕ) (files : Files) (s : Stored) (c : Constraint) → Asks target query files s → IsAccepted query s c → HoldBytes files
      → length (served_body s c) < body_limit → IsReadBack s c
  pub too_long : (target query : List ℕ) (files : Files) (s : Stored) (c : Constraint) → Asks target query files s → IsAccepted query s c → HoldBytes files
      → body_limit ≤ length (served_body s c) → IsTooLong s c
  -- and so is each data response that stands in what a link of `serve` gained
  pub visits : VisitsAreGood V
  -- the client: `show` of a data response shows it, and nothing else is complete
  pub shown : (s : Showing) (status : Status) (r : Response) → Shows s status → s.left ≡ Some r.bytes → IsResponse r → IsShown s status (text_of r)
  pub shown_alone : (s : Showing) (bytes : List ℕ) → Shows s Complete → s.left ≡ Some bytes → (r : Response) × (r.bytes ≡ bytes) × IsResponse r
  -- `fetch` shows as many data responses as there are constraints, out of the replies of its link, and nothing else
  -- is complete
  pub fetched : (f : Fetching W) (link : W) (input : List ℕ) (status : Status) (rs : List Response) → FetchesData f status → HasRead f link input → AreReplies rs input
      → length rs ≡ length f.constraints → IsFetched f link status (text_of_all rs)
  pub fetched_alone : (f : Fetching W) (link : W) (input : List ℕ) → FetchesData f Complete → HasRead f link input
      → (rs : List Response) × (length rs ≡ length f.constraints) × AreReplies rs input
