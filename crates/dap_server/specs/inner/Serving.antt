-- How the requests of a connection are served one by one.
use Rattle.std.specs.Prelude.{◌≡◌, ℕ, ◌+◌, ◌<◌, ◌≤◌, ⊤, ◌⊎◌, Bool, true, false, ◌||◌, List, ◌++◌, MatchBool, Option, Some, None, Result, Err}
use Rattle.std.specs.Io.KnownBytes.{Appends, Consumes}
use Rattle.dap_types.specs.Limits.{most_requests}
use Rattle.dap_errors.specs.Causes.{http_status}
use Rattle.dap_errors.specs.declared.cause.Cause.{Cause}
use Rattle.dap_errors.specs.declared.cause.Cause.TheVariants.{OutOfMemory}
use Rattle.dap_http.specs.Frames.{IsProperFront}
use Rattle.dap_http.specs.Texts.{description_of, head_text, is_chunked}
use Rattle.dap_http.specs.declared.kind.Kind.TheVariants.{Dods}
use Rattle.dap_http.specs.Targets.{Asked}
use Rattle.dap_http.specs.declared.head_reader.Head.{Head}
use Rattle.dap_outside.specs.Causes.{Rose}
use Rattle.dap_outside.specs.Files.{Told}
use Rattle.xdr_encode.specs.Bodies.{HasNoFile}
use Rattle.xdr_encode.specs.declared.body.Body.{Body}
use Rattle.dap_server.specs.Connections.{Connection, ConnectionMayAsk, FailedBy, IsBroken, IsPut, IsServedFrom, IsTurn, MayAnswer, MayAsk, RoseFor, failures, has_failed, is_hidden, is_last_turn, leaves_open, sends_values}
use Rattle.dap_server.specs.Costs.{IsCost}
use Rattle.dap_server.specs.Replies.{Request, Turn, is_last, last_reply, reply_of, reply_status, request, wants}
use Rattle.dap_server.specs.Results.{Text}
use Rattle.dap_server.specs.declared.served.Ending.TheVariants.{Closed, WriteFault, Broken}
use Rattle.dap_server.specs.declared.served.Served.{Served}
use Rattle.dap_server.specs.declared.reply_outcome.Answered.{Answered}
use Rattle.dap_server.specs.declared.reply_outcome.Answered.TheVariants as answered
use Rattle.dap_server.specs.declared.reply_outcome.Next.{Next}
use Rattle.dap_server.specs.declared.reply_outcome.Next.TheVariants as next

-- ---- Bytes that are put.

-- some of a text is put, from the front, and not all
abbrev pub PutsPart : List ℕ → Option (List ℕ) → Option (List ℕ) → Type 0
PutsPart bytes old new = (part : List ℕ) × IsProperFront part bytes × Appends old new part

-- a text that stands whole is put as a reply of that status, or where the sink fails some of it
abbrev pub PutsText : List ℕ → ℕ → Bool → Option (List ℕ) → Option (List ℕ) → Answered → Type 0
PutsText bytes status last old new (answered.Whole s l) = (s ≡ status) × (l ≡ last) × Appends old new bytes
PutsText bytes status last old new answered.Broken = ⊥
PutsText bytes status last old new answered.WriteFault = PutsPart bytes old new

-- a body goes out over these bytes: they are those of its file, or it has no values of one
abbrev pub GoesOver : Body → Option (List ℕ) → List ℕ → Type 0
GoesOver b content bytes = (content ≡ Some bytes) ⊎ HasNoFile b

-- a head and a framed body are put, or a part of them. It breaks off behind the head
abbrev pub PutsValues : List ℕ → List ℕ → Bool → Option (List ℕ) → Option (List ℕ) → Answered → Type 0
PutsValues front text ends old new (answered.Whole status last) = Appends old new (front ++ text)
PutsValues front text ends old new answered.Broken = (part : List ℕ) × IsProperFront part text × Appends old new (front ++ part)
PutsValues front text ends old new answered.WriteFault = (part : List ℕ) × IsProperFront part (front ++ text) × Appends old new part

-- the status of what is put whole, and whether it is the last
abbrev pub SaysWhole : Bool → Answered → Type 0
SaysWhole ends (answered.Whole status last) = (status ≡ 200) × (last ≡ ends)
SaysWhole ends answered.Broken = ⊤
SaysWhole ends answered.WriteFault = ⊤

-- the reply of an answer is put, or some of it
abbrev pub PutsReply : Request → Result Text Cause → Option (List ℕ) → Option (List ℕ) → Answered → Type 0
PutsReply q answer old new (answered.Whole status last) = (status ≡ reply_status answer) × (last ≡ is_last q answer) × Appends old new (reply_of q answer)
PutsReply q answer old new answered.Broken = (part : List ℕ) × IsBroken q answer part × Appends old new part
PutsReply q answer old new answered.WriteFault = (part : List ℕ) × IsProperFront part (reply_of q answer) × Appends old new part

-- that of a cause, or of a want of memory in its place
abbrev pub PutsCause : Request → Cause → Option (List ℕ) → Option (List ℕ) → Answered → Type 0
PutsCause q cause old new result = (final : Cause) × ((final ≡ cause) ⊎ (final ≡ OutOfMemory)) × PutsReply q (Err final) old new result

-- what was put of the reply of an answer, by what became of it: the reply or some of it, and any bytes
-- where it has hidden values
abbrev pub IsPutOf : Told → Request → Result Text Cause → List ℕ → Answered → Type 0
IsPutOf told q answer put (answered.Whole status last) = (status ≡ reply_status answer) × (last ≡ is_last q answer) × (is_hidden told q answer ≡ false → put ≡ reply_of q answer)
IsPutOf told q answer put answered.Broken = (part : List ℕ) × IsBroken q answer part × (is_hidden told q answer ≡ false → put ≡ part)
IsPutOf told q answer put answered.WriteFault = (part : List ℕ) × IsProperFront part (reply_of q answer) × (is_hidden told q answer ≡ false → put ≡ part)

abbrev pub PutsKnown : Told → Request → Result Text Cause → Option (List ℕ) → Option (List ℕ) → Answered → Type 0
PutsKnown told q answer old new result = (put : List ℕ) × Appends old new put × IsPutOf told q answer put result

-- ---- Faults.

-- the sink's count rose where it failed, and else stayed
abbrev pub SinkRose : Answered → ℕ → ℕ → Type 0
SinkRose answered.WriteFault puts puts' = Rose puts puts'
SinkRose other puts puts' = puts' ≡ puts

-- the shelf's count rose where the file could not be read further, and stayed where all was put
abbrev pub ShelfRose : Answered → ℕ → ℕ → Type 0
ShelfRose (answered.Whole status last) reads reads' = reads' ≡ reads
ShelfRose answered.Broken reads reads' = Rose reads reads'
ShelfRose answered.WriteFault reads reads' = reads ≤ reads'

-- ---- One request.

-- a head that was read, as a request
abbrev pub request_in : Head → Bool → Request
request_in h ends = record { method = h.method; target = h.target; minor = h.minor; ends = ends }

-- the head before its values
abbrev pub data_front : Request → List ℕ
data_front q = head_text 200 (description_of Dods) None (is_chunked Dods q.minor) q.ends

abbrev pub broken : Answered → ℕ
broken (answered.Whole status last) = 0
broken answered.Broken = 1
broken answered.WriteFault = 0

-- it is left open whether the shelf failed
abbrev pub is_open : Request → Result Text Cause → Answered → Bool
is_open q answer (answered.Whole status last) = wants answer
is_open q answer answered.Broken = false
is_open q answer answered.WriteFault = wants answer || sends_values q answer

-- how a link and a shelf stand: what the link has written, how often the shelf failed, and what was asked
-- of it
pub record Stand : Type 0 where
  pub written : Option (List ℕ)
  pub faults : ℕ
  pub asked : ℕ

-- the cost of the values of an answer to a request
abbrev pub Costs : Told → Asked → Request → Result Text Cause → ℕ → Type 0
Costs told a q answer cost = MatchBool (sends_values q answer) (IsCost told a cost) (cost ≡ 0)

-- a request was answered, and no more was asked than its answer may ask
abbrev pub AnswersWith : (Result Text Cause → ℕ → Type 0) → Told → Request → Stand → Stand → Answered → Type 0
AnswersWith Asks told q a b result =
    (answer : Result Text Cause) × MayAnswer told q answer × PutsKnown told q answer a.written b.written result
    × FailedBy (has_failed answer + broken result) (is_open q answer result) a.faults b.faults
    × ((n : ℕ) × Asks answer n × (b.asked ≤ a.asked + n))

abbrev pub Answers : Told → Request → Stand → Stand → Answered → Type 0
Answers told q a b result = AnswersWith (MayAsk told q) told q a b result

-- ---- Requests in turn.

-- behind n requests, of which the last had that status, the bytes that are kept and those that are taken
-- are served so
abbrev pub ServesFrom : ℕ → ℕ → Told → List ℕ → Option (List ℕ) → Option (List ℕ) → Stand → Stand → Bool → Served → Type 0
ServesFrom n before told kept left left' a b ended served =
    (c : Connection) × (taken : List ℕ)
    × Consumes left left' taken
    × ((put : List ℕ) × Appends a.written b.written put × IsPut told (n + 1) c put)
    × IsServedFrom n before told (kept ++ taken) ended c served
    × FailedBy (failures c served.ending) (leaves_open c.turns served.ending c.behind) a.faults b.faults
    × ((m : ℕ) × ConnectionMayAsk told c m × (b.asked ≤ a.asked + m))

-- one of them was answered, and others may follow
abbrev pub GoesOn : ℕ → Told → List ℕ → List ℕ → Option (List ℕ) → Option (List ℕ) → Stand → Stand → ℕ → Type 0
GoesOn n told kept kept' left left' a b status =
    (t : Turn) × (taken : List ℕ)
    × Consumes left left' taken
    × ((put : List ℕ) × Appends a.written b.written put × (is_hidden told (request (n + 1) t.head) t.answer ≡ false → put ≡ reply_of (request (n + 1) t.head) t.answer))
    × IsTurn told (n + 1) (kept ++ taken) t kept'
    × (is_last_turn (n + 1) t ≡ false)
    × (status ≡ reply_status t.answer)
    × FailedBy (has_failed t.answer) (wants t.answer) a.faults b.faults
    × ((m : ℕ) × MayAsk told (request 1 t.head) t.answer m × (b.asked ≤ a.asked + m))

abbrev pub Serves : ℕ → ℕ → Told → List ℕ → List ℕ → Option (List ℕ) → Option (List ℕ) → Stand → Stand → Bool → Next → Type 0
Serves n before told kept kept' left left' a b ended (next.GoesOn status) = GoesOn n told kept kept' left left' a b status
Serves n before told kept kept' left left' a b ended (next.Ends served) = ServesFrom n before told kept left left' a b ended served

-- a reply that ends the connection is put, or where the sink fails some of it
abbrev pub PutsLast : List ℕ → ℕ → ℕ → ℕ → Option (List ℕ) → Option (List ℕ) → Served → Type 0
PutsLast bytes status n before old new served =
    ((served ≡ record { replies = n + 1; status = status; ending = Closed }) × Appends old new bytes)
    ⊎ ((served ≡ record { replies = n; status = before; ending = WriteFault }) × ((part : List ℕ) × IsProperFront part bytes × Appends old new part))

-- that of a refusal, or for a want of memory in its place
abbrev pub PutsRefusal : Cause → ℕ → ℕ → Option (List ℕ) → Option (List ℕ) → Served → Type 0
PutsRefusal cause n before old new served =
    (final : Cause) × ((final ≡ cause) ⊎ (final ≡ OutOfMemory)) × PutsLast (last_reply final) (http_status final) n before old new served

-- what comes behind the reply to request n + 1
abbrev pub next_of : ℕ → ℕ → Answered → Next
next_of n before (answered.Whole status false) = next.GoesOn status
next_of n before (answered.Whole status true) = next.Ends (record { replies = n + 1; status = status; ending = Closed })
next_of n before answered.Broken = next.Ends (record { replies = n; status = before; ending = Broken })
next_of n before answered.WriteFault = next.Ends (record { replies = n; status = before; ending = WriteFault })

-- a fault of the link comes only where the count of that side rose, and no count rises without its fault
abbrev pub RoseNext : Next → ℕ → ℕ → ℕ → ℕ → Type 0
RoseNext (next.GoesOn status) takes takes' puts puts' = (takes' ≡ takes) × (puts' ≡ puts)
RoseNext (next.Ends served) takes takes' puts puts' = RoseFor served.ending takes takes' puts puts'

-- it is not the last that a connection may have
abbrev pub GoesOnFew : ℕ → Next → Type 0
GoesOnFew n (next.GoesOn status) = n + 1 < most_requests
GoesOnFew n (next.Ends served) = ⊤
