-- What a connection has answered of the bytes that were taken from it, and how it ended (RFC 9112, section
-- 9; the causes of each end are this project's).
use Rattle.std.specs.Prelude.{◌≡◌, ℕ, ◌+◌, ◌-◌, ◌^◌, ◌≤◌, ⊤, ◌⊎◌, Bool, false, ◌&&◌, ◌||◌, not, List, [], ◌∷◌, ◌++◌, length, min, IsTrue, MatchBool, Option, Some, None, Result, Ok, Err}
use Rattle.std.specs.Option.{option_map_or}
use Rattle.dap_outside.specs.Causes.{Rose}
use Rattle.dap_outside.specs.Files.{Told}
use Rattle.dap_errors.specs.Causes.{http_status}
use Rattle.dap_errors.specs.declared.cause.Cause.{Cause}
use Rattle.dap_errors.specs.declared.cause.Cause.TheVariants.{BadRequest, HeadTooLong, OutOfMemory, ReadFailed}
use Rattle.dap_http.specs.Frames.{IsProperFront}
use Rattle.dap_http.specs.Requests.{FirstRequest, HasNoRequest, IsBadRequest, IsGone, IsTooLong, is_other}
use Rattle.dap_http.specs.Targets.{Asked, target_of}
use Rattle.dap_server.specs.Costs.{IsCost, asks_shelf, most_first}
use Rattle.dap_server.specs.Files.{Files, MayHave, form_of, is_read_first}
use Rattle.dap_server.specs.Replies.{IsRequestAnsweredAmong, Request, Turn, head_of, is_data, is_head, is_last, last_reply, replies, reply_of, reply_status, request, wants}
use Rattle.dap_server.specs.Results.{Text}
use Rattle.dap_server.specs.declared.served.Ending.{Ending}
use Rattle.dap_server.specs.declared.served.Ending.TheVariants.{Closed, Gone, ReadFault, WriteFault, Broken}
use Rattle.dap_server.specs.declared.served.Served.{Served}

-- ---- What a request may be answered.

-- a request that looks for a file
abbrev pub LooksForFile : Option Asked → Type 0
LooksForFile None = ⊥
LooksForFile (Some a) = IsTrue (asks_shelf a)

-- It is answered by what it asks of files that the shelf may have. One that looks for a file may be answered
-- by the cause of a failed read, and any by that of a want of memory.
abbrev pub MayAnswer : Told → Request → Result Text Cause → Type 0
MayAnswer told q answer =
    ((files : Files) × MayHave told files × IsRequestAnsweredAmong told files q answer)
    ⊎ (((answer ≡ Err ReadFailed) × (is_other q.method ≡ false) × LooksForFile (target_of q.target))
    ⊎ (answer ≡ Err OutOfMemory))

-- turn k answers the first request of the bytes, behind which that is left
abbrev pub IsTurn : Told → ℕ → List ℕ → Turn → List ℕ → Type 0
IsTurn told k bytes t left = FirstRequest bytes t.head left × MayAnswer told (request k t.head) t.answer

-- the connection ends behind turn k
abbrev pub is_last_turn : ℕ → Turn → Bool
is_last_turn k t = is_last (request k t.head) t.answer

-- These turns answer the first requests of the bytes in order, of which the first is turn k, and none
-- comes behind a last one. That is left behind them.
abbrev pub AreTurns : Told → ℕ → List ℕ → List Turn → List ℕ → Type 0
AreTurns told k bytes [] left = left ≡ bytes
AreTurns told k bytes (t ∷ turns) left =
    (rest : List ℕ) × IsTurn told k bytes t rest × MatchBool (is_last_turn k t) ((turns ≡ []) × (left ≡ rest)) (AreTurns told (k + 1) rest turns left)

-- the last of them ends the connection; without any it is as before
abbrev pub ends_after : Bool → ℕ → List Turn → Bool
ends_after before k [] = before
ends_after before k (t ∷ turns) = ends_after (is_last_turn k t) (k + 1) turns

-- the status of the last of them
abbrev pub last_status : ℕ → List Turn → ℕ
last_status before [] = before
last_status before (t ∷ turns) = last_status (reply_status t.answer) turns

-- ---- How a connection may end.

-- bytes that hold no request may be refused so, or for a want of memory
abbrev pub MayRefuse : List ℕ → Cause → Type 0
MayRefuse left cause =
    ((cause ≡ BadRequest) × IsBadRequest left)
    ⊎ (((cause ≡ HeadTooLong) × IsTooLong left)
    ⊎ ((cause ≡ OutOfMemory) × HasNoRequest left))

-- what stands behind the replies of the turns: nothing; a refusal; some bytes from the front of the next
-- reply, or of a refusal
pub data Behind : Type 0 where
  nothing : Behind
  refusal : Cause → Behind
  part_of_reply : Turn → List ℕ → Behind
  part_of_refusal : Cause → List ℕ → Behind

abbrev pub behind_text : Behind → List ℕ
behind_text nothing = []
behind_text (refusal cause) = last_reply cause
behind_text (part_of_reply t part) = part
behind_text (part_of_refusal cause part) = part

abbrev pub sends_data : Result Text Cause → Bool
sends_data (Ok t) = is_data t.kind
sends_data (Err cause) = false

-- values go out: it is data, to GET
abbrev pub sends_values : Request → Result Text Cause → Bool
sends_values q answer = sends_data answer && not (is_head q)

-- the file could not be read further: its values go out, and the head is out
pub record IsBroken (q : Request) (answer : Result Text Cause) (part : List ℕ) : Type 0 where
  pub values : IsTrue (sends_values q answer)
  pub head_is_out : (more : List ℕ) × (part ≡ head_of q answer ++ more)
  pub breaks_off : IsProperFront part (reply_of q answer)

-- how a connection that goes on behind so many turns may end, where the end mark stands or not
abbrev pub Stops : Told → ℕ → List ℕ → Bool → Ending → Behind → Type 0
Stops told k left ended Closed (refusal cause) = MayRefuse left cause
Stops told k left ended Gone nothing = IsTrue ended × IsGone left
Stops told k left ended ReadFault nothing = HasNoRequest left
Stops told k left ended WriteFault (part_of_reply t part) = ((rest : List ℕ) × IsTurn told k left t rest) × IsProperFront part (reply_of (request k t.head) t.answer)
Stops told k left ended WriteFault (part_of_refusal cause part) = MayRefuse left cause × IsProperFront part (last_reply cause)
Stops told k left ended Broken (part_of_reply t part) = ((rest : List ℕ) × IsTurn told k left t rest) × IsBroken (request k t.head) t.answer part
Stops told k left ended ending behind = ⊥

-- it is closed by the last turn, and only so
abbrev pub IsClosed : Ending → Behind → Type 0
IsClosed Closed nothing = ⊤
IsClosed ending behind = ⊥

pub record Connection : Type 0 where
  pub turns : List Turn
  pub left : List ℕ
  pub behind : Behind

-- all that it put, where the first turn answers request k
abbrev pub put_from : ℕ → Connection → List ℕ
put_from k c = replies k c.turns ++ behind_text c.behind

-- the values of a file are read as they go out
abbrev pub is_read_late : List ℕ → Bool
is_read_late target = option_map_or (λ a. not (is_read_first (form_of a.name))) (target_of target) false

-- values go out that are read from a file that the shelf does not tell
abbrev pub is_hidden : Told → Request → Result Text Cause → Bool
is_hidden None q answer = sends_values q answer && is_read_late q.target
is_hidden (Some files) q answer = false

-- What was put of what stands behind the turns: all of it, unless it has hidden values.
abbrev pub IsPutBehind : Told → ℕ → Behind → List ℕ → Type 0
IsPutBehind told k nothing put = put ≡ []
IsPutBehind told k (refusal cause) put = put ≡ last_reply cause
IsPutBehind told k (part_of_reply t part) put = is_hidden told (request k t.head) t.answer ≡ false → put ≡ part
IsPutBehind told k (part_of_refusal cause part) put = put ≡ part

-- What was put of turns, of which the first answers request k, and of what stands behind them: the reply of
-- each in order, where it has no hidden values, and some bytes where it has.
abbrev pub ArePut : Told → ℕ → List Turn → Behind → List ℕ → Type 0
ArePut told k [] behind put = IsPutBehind told k behind put
ArePut told k (t ∷ turns) behind put =
    (own : List ℕ) × (others : List ℕ) × (put ≡ own ++ others)
    × (is_hidden told (request k t.head) t.answer ≡ false → own ≡ reply_of (request k t.head) t.answer)
    × ArePut told (k + 1) turns behind others

-- of a connection. Where the shelf tells its files it is `put_from`
abbrev pub IsPut : Told → ℕ → Connection → List ℕ → Type 0
IsPut told k c put = ArePut told k c.turns c.behind put

abbrev pub whole_behind : Behind → ℕ
whole_behind nothing = 0
whole_behind (refusal cause) = 1
whole_behind (part_of_reply t part) = 0
whole_behind (part_of_refusal cause part) = 0

abbrev pub status_behind : ℕ → Behind → ℕ
status_behind before nothing = before
status_behind before (refusal cause) = http_status cause
status_behind before (part_of_reply t part) = before
status_behind before (part_of_refusal cause part) = before

-- A connection of which these bytes were taken was served so, behind n requests that were answered before,
-- the last of them with that status. `replies` counts the whole replies.
pub record IsServedFrom (n before : ℕ) (told : Told) (taken : List ℕ) (ended : Bool) (c : Connection) (served : Served) : Type 0 where
  pub turns : AreTurns told (n + 1) taken c.turns c.left
  pub ends : MatchBool (ends_after false (n + 1) c.turns) (IsClosed served.ending c.behind) (Stops told (n + 1 + length c.turns) c.left ended served.ending c.behind)
  pub counted : served.replies ≡ n + length c.turns + whole_behind c.behind
  pub status : served.status ≡ status_behind (last_status before c.turns) c.behind

-- from its first request on
abbrev pub IsConnectionServed : Told → List ℕ → Bool → Connection → Served → Type 0
IsConnectionServed told taken ended c served = IsServedFrom 0 0 told taken ended c served

-- ---- How often the shelf failed, and what was asked of it.

abbrev pub has_failed : Result Text Cause → ℕ
has_failed (Ok t) = 0
has_failed (Err ReadFailed) = 1
has_failed (Err cause) = 0

abbrev pub failed_turns : List Turn → ℕ
failed_turns [] = 0
failed_turns (t ∷ turns) = has_failed t.answer + failed_turns turns

abbrev pub failed_behind : Behind → ℕ
failed_behind nothing = 0
failed_behind (refusal cause) = 0
failed_behind (part_of_reply t part) = has_failed t.answer
failed_behind (part_of_refusal cause part) = 0

abbrev pub breaks : Ending → ℕ
breaks Closed = 0
breaks Gone = 0
breaks ReadFault = 0
breaks WriteFault = 0
breaks Broken = 1

-- the answers for which a read failed, and one that broke off by it
abbrev pub failures : Connection → Ending → ℕ
failures c ending = failed_turns c.turns + failed_behind c.behind + breaks ending

-- a count rose by as many, or stands at its end
abbrev pub RoseBy : ℕ → ℕ → ℕ → Type 0
RoseBy n before now = min (before + n) (2 ^ 64 - 1) ≤ now

-- Whether the answers leave open that the shelf failed: a want of memory may come in place of a failed read,
-- and the sink may fail once more where a reply with values breaks off.
abbrev pub leaves_open : List Turn → Ending → Behind → Bool
leaves_open [] WriteFault (part_of_reply t part) = wants t.answer || sends_values (request 1 t.head) t.answer
leaves_open [] ending behind = false
leaves_open (t ∷ turns) ending behind = wants t.answer || leaves_open turns ending behind

-- The shelf failed at least so often. Where it is said that it never did, its count is as it was.
abbrev pub FailedBy : ℕ → Bool → ℕ → ℕ → Type 0
FailedBy n open_end before now = RoseBy n before now × (n ≡ 0 → open_end ≡ false → now ≡ before)

-- a fault of the link comes only where the count of that side rose, and no count rises without its fault
abbrev pub RoseFor : Ending → ℕ → ℕ → ℕ → ℕ → Type 0
RoseFor ReadFault takes takes' puts puts' = Rose takes takes' × (puts' ≡ puts)
RoseFor WriteFault takes takes' puts puts' = Rose puts puts' × (takes' ≡ takes)
RoseFor ending takes takes' puts puts' = (takes' ≡ takes) × (puts' ≡ puts)

-- what may be asked for a target, whose values go out or not: the first read of its file, and the cost of its values
abbrev pub MayAskFor : Told → Option Asked → Bool → ℕ → Type 0
MayAskFor told None values n = n ≡ 0
MayAskFor told (Some a) values n = (cost : ℕ) × MatchBool values (IsCost told a cost) (cost ≡ 0) × (n ≡ most_first told a.name + cost)

-- What an answer to a request may have asked: nothing where its method is neither GET nor HEAD, and the cost of values for
-- GET alone.
abbrev pub MayAsk : Told → Request → Result Text Cause → ℕ → Type 0
MayAsk told q answer n = MatchBool (is_other q.method) (n ≡ 0) (MayAskFor told (target_of q.target) (sends_values q answer) n)

abbrev pub TurnsMayAsk : Told → List Turn → ℕ → Type 0
TurnsMayAsk told [] n = n ≡ 0
TurnsMayAsk told (t ∷ turns) n =
    (own : ℕ) × (others : ℕ) × MayAsk told (request 1 t.head) t.answer own × TurnsMayAsk told turns others × (n ≡ own + others)

abbrev pub BehindMayAsk : Told → Behind → ℕ → Type 0
BehindMayAsk told nothing n = n ≡ 0
BehindMayAsk told (refusal cause) n = n ≡ 0
BehindMayAsk told (part_of_reply t part) n = MayAsk told (request 1 t.head) t.answer n
BehindMayAsk told (part_of_refusal cause part) n = n ≡ 0

-- those of all requests that were read
abbrev pub ConnectionMayAsk : Told → Connection → ℕ → Type 0
ConnectionMayAsk told c n = (own : ℕ) × (last : ℕ) × TurnsMayAsk told c.turns own × BehindMayAsk told c.behind last × (n ≡ own + last)
