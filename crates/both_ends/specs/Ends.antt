-- What both ends promise of one another (DAP 2.0, DODS; RFC 9112), over all targets and stored files.
use Rattle.std.specs.Prelude.{◌≡◌, ℕ, ◌+◌, ◌<◌, ◌≤◌, Bool, false, true, List, [], ◌∷◌, ◌++◌, length, codes, Some, None, Ok}
use Rattle.dap_types.specs.Limits.{body_limit}
use Rattle.dap_model.specs.Body.{body}
use Rattle.dap_outside.specs.Files.{IsBytes}
use Rattle.constraint_parse.specs.Values.{Spells}
use Rattle.constraint_parse.specs.declared.constraint.Constraint.{Constraint}
use Rattle.grid_projection.specs.Resolved.{cause}
use Rattle.dap_http.specs.Delivered.{Delivers}
use Rattle.dap_http.specs.Targets.{target_of}
use Rattle.dap_http.specs.declared.kind.Kind.TheVariants.{Dods}
use Rattle.dap_server.specs.Connections.{Connection, IsConnectionServed, put_from}
use Rattle.dap_server.specs.Files.{Files, Stored}
use Rattle.dap_server.specs.Replies.{Request, Turn, is_head, replies, reply_of, request}
use Rattle.dap_server.specs.Results.{Opens, Results, left_of, result_text}
use Rattle.dap_server.specs.Whole.{AnswersAll}
use Rattle.dap_server.specs.declared.served.Served.{Served}
use Rattle.dap_client.specs.Replies.{IsReplyVerdict}
use Rattle.dap_client.specs.Verdict.{Verdict, IsVerdict, bad, dods_form, good}
use Rattle.reply_faults.specs.declared.bad.Bad.TheVariants.{TooLong}

-- each of these files holds bytes
abbrev pub HoldBytes : Files → Type 0
HoldBytes files = (name bytes : List ℕ) → files name ≡ Some bytes → IsBytes bytes

-- The text is the body of what a constraint leaves of a stored dataset, and the verdict on it is good, with that dataset
-- and those values.
pub record IsGoodResult (target : List ℕ) (files : Files) (text : List ℕ) : Type 0 where
  pub name : List ℕ
  pub query : List ℕ
  pub stored : Stored
  pub constraint : Constraint
  pub is_target : target_of target ≡ Some (record { name = name; kind = Dods; query = query })
  pub opens : Opens files name (Ok stored)
  pub spells : Spells query constraint
  pub no_cause : cause stored.dataset constraint ≡ None
  pub is_body : text ≡ body (left_of stored constraint).dataset (left_of stored constraint).trees
  pub verdict : IsVerdict dods_form text (good (left_of stored constraint).dataset (left_of stored constraint).trees)

-- a data response of fewer than 2^40 bytes that a target is answered with is good
abbrev pub ResultIsGood : Type 0
ResultIsGood = (target : List ℕ) (files : Files) (text : List ℕ) → HoldBytes files → Results target files (Ok (result_text Dods text)) → length text < body_limit → IsGoodResult target files text

-- one of 2^40 bytes or more is too long for who reads it, and nothing else is wrong with its first 2^40 bytes
abbrev pub ResultIsTooLong : Type 0
ResultIsTooLong =
    (target : List ℕ) (files : Files) (text : List ℕ) → HoldBytes files → Results target files (Ok (result_text Dods text)) → body_limit ≤ length text → IsVerdict dods_form text (bad TooLong body_limit)

-- The reply to a request other than HEAD delivers the data response, whole; where it is sent in chunks, whatever stands
-- behind it.
abbrev pub ReplyDelivers : Type 0
ReplyDelivers = (q : Request) (text : List ℕ) → is_head q ≡ false →
    Delivers (reply_of q (Ok (result_text Dods text))) true text []
    × ((more : List ℕ) → q.minor ≡ 1 → Delivers (reply_of q (Ok (result_text Dods text)) ++ more) true text more)

-- so that the verdict on the data response, whatever it is, is the verdict on the reply
abbrev pub ReplyIsJudged : Type 0
ReplyIsJudged = (q : Request) (text : List ℕ) (v : Verdict) → is_head q ≡ false → IsVerdict dods_form text v
    → IsReplyVerdict dods_form (reply_of q (Ok (result_text Dods text))) (length text) v

-- ---- What a connection has put.

-- the reply of a turn behind these turns
abbrev pub reply_behind : List Turn → Turn → List ℕ
reply_behind before t = reply_of (request (length before + 1) t.head) t.answer

-- It stands in what was put right behind the replies of the turns before, and the verdict on it as it stands there,
-- before the rest, is good with what the constraint leaves of the stored file; the next one begins where it ends.
pub record StandsGood (files : Files) (put : List ℕ) (before : List Turn) (t : Turn) (text : List ℕ) : Type 0 where
  pub rest : List ℕ
  pub stands : put ≡ replies 1 before ++ (reply_behind before t ++ rest)
  pub result : IsGoodResult t.head.target files text
  pub delivers : Delivers (reply_behind before t ++ rest) true text rest
  pub verdict : IsReplyVerdict dods_form (reply_behind before t ++ rest) (length text) (good (left_of result.stored result.constraint).dataset (left_of result.stored result.constraint).trees)

-- so does the reply of each of these turns that answers GET with a data response of fewer than 2^40 bytes
abbrev pub StandGood : Files → List ℕ → List Turn → Type 0
StandGood files put turns =
    (before after : List Turn) (t : Turn) (text : List ℕ) → turns ≡ before ++ t ∷ after → t.head.method ≡ codes "GET" → t.answer ≡ Ok (result_text Dods text) → length text < body_limit
    → StandsGood files put before t text

-- In every run of `serve_connection`, over a shelf that tells files which hold bytes: the replies in what it put, by
-- its clause `served`.
abbrev pub ServedIsGood : Type 0
ServedIsGood = (files : Files) (taken : List ℕ) (ended : Bool) (c : Connection) (served : Served) → HoldBytes files → IsConnectionServed (Some files) taken ended c served → StandGood files (put_from 1 c) c.turns

-- and in one in which no fault came and memory was had, the replies to all requests of the input, by its clause
-- `no_fault`
abbrev pub AllAreGood : Type 0
AllAreGood = (input : List ℕ) (files : Files) (gained : List ℕ) (served : Served) → HoldBytes files → (all : AnswersAll input files gained served) → StandGood files gained all.replies.turns
