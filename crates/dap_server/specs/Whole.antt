-- A connection that was served whole: no fault came, and memory was had.
use Rattle.std.specs.Prelude.{◌≡◌, ℕ, ◌+◌, ◌⊎◌, false, List, [], ◌++◌, length, MatchBool}
use Rattle.dap_errors.specs.Causes.{http_status}
use Rattle.dap_errors.specs.declared.cause.Cause.{Cause}
use Rattle.dap_errors.specs.declared.cause.Cause.TheVariants.{BadRequest, HeadTooLong}
use Rattle.dap_http.specs.Requests.{IsBadRequest, IsGone, IsTooLong}
use Rattle.dap_server.specs.Connections.{ends_after, last_status}
use Rattle.dap_server.specs.Files.{Files}
use Rattle.dap_server.specs.Replies.{Replies, last_reply}
use Rattle.dap_server.specs.declared.served.Ending.TheVariants.{Closed, Gone}
use Rattle.dap_server.specs.declared.served.Served.{Served}

-- bytes that hold no request are refused so
abbrev pub IsRequestRefused : List ℕ → Cause → Type 0
IsRequestRefused left cause = ((cause ≡ BadRequest) × IsBadRequest left) ⊎ ((cause ≡ HeadTooLong) × IsTooLong left)

-- What comes behind the last of `count` requests, which had that status, where it does not end the
-- connection: one more reply, which does; or the peer is gone.
abbrev pub EndsBehind : List ℕ → List ℕ → ℕ → ℕ → Served → Type 0
EndsBehind left tail count status served =
    ((cause : Cause) × IsRequestRefused left cause × (tail ≡ last_reply cause) × (served ≡ record { replies = count + 1; status = http_status cause; ending = Closed }))
    ⊎ (IsGone left × (tail ≡ []) × (served ≡ record { replies = count; status = status; ending = Gone }))

-- all requests of the input were answered, in order, each by its reply
pub record AnswersAll (input : List ℕ) (files : Files) (gained : List ℕ) (served : Served) : Type 0 where
  pub text : List ℕ
  pub tail : List ℕ
  pub replies : Replies input files text
  pub gained_is : gained ≡ text ++ tail
  pub ends : MatchBool (ends_after false 1 replies.turns)
      ((tail ≡ []) × (served ≡ record { replies = length replies.turns; status = last_status 0 replies.turns; ending = Closed }))
      (EndsBehind replies.behind tail (length replies.turns) (last_status 0 replies.turns) served)
