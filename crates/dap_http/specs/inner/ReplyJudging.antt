-- What the bytes of a reply begin with.
use Rattle.std.proofs.Common.{inl, inr}
use Rattle.std.specs.Prelude.{◌≡◌, ℕ, ◌<◌, ◌≤◌, ◌⊎◌, Bool, not, ◌&&◌, List, [], ◌++◌, length, drop, Result, Ok, Err, IsTrue}
use Rattle.std.specs.Str.{bytes_eq, str_eq_ignore_ascii_case}
use Rattle.httparse.specs.Grammar.{NeverHasResponse, ResponseHead}
use Rattle.reply_faults.specs.declared.bad.Bad.{Bad}
use Rattle.dap_http.specs.Fields.{is_named}
use Rattle.dap_http.specs.Reading.{Answers, AnswersFinalHead}
use Rattle.dap_http.specs.Replies.{Interim, NoMoreReply, ReadsReply, coding_in, is_interim}
use Rattle.dap_http.specs.Requests.{feeds}
use Rattle.dap_http.specs.declared.coding.Coding.{Coding}
use Rattle.dap_http.specs.declared.reply_judge.ReplyJudged.{ReplyJudged}
use Rattle.dap_http.specs.declared.reply_judge.ReplyJudged.TheVariants as judged
use Rattle.dap_http.specs.declared.reply_reader.ReplyRead.{ReplyRead}
use Rattle.dap_http.specs.declared.reply_reader.ReplyRead.TheVariants as reply
use Rattle.dap_http.specs.declared.reply_reader.Step.{Step}
use Rattle.dap_http.specs.declared.reply_reader.Step.TheVariants as step

-- a coding or what is wrong
abbrev pub as_sum : Result Coding Bad → Bad ⊎ Coding
as_sum (Ok coding) = inr coding
as_sum (Err kind) = inl kind

-- a field of this name with another value, without regard to case
abbrev pub is_otherwise : List ℕ → List ℕ → (List ℕ × List ℕ) → Bool
is_otherwise name plain field = is_named name field && not (str_eq_ignore_ascii_case field.1 plain)

-- and with regard to each byte
abbrev pub differs : List ℕ → List ℕ → (List ℕ × List ℕ) → Bool
differs name value field = is_named name field && not (bytes_eq field.1 value)

-- no head yet stands in these bytes
abbrev pub HasNoReplyHead : List ℕ → Type 0
HasNoReplyHead bytes = (head : ResponseHead) (rest : List ℕ) → ¬ (ReadsReply bytes head rest)

abbrev pub MayBecomeReply : List ℕ → Type 0
MayBecomeReply bytes = (more : List ℕ) × (head : ResponseHead) × ReadsReply (bytes ++ more) head []

-- the bytes begin with a head of so many
abbrev pub HeadOf : List ℕ → ℕ → ResponseHead → Type 0
HeadOf bytes len head = (0 < len) × (len ≤ length bytes) × ReadsReply bytes head (drop len bytes)

-- an interim head; a final one and its coding; none yet; none, whatever follows
abbrev pub IsReplyJudged : List ℕ → ReplyJudged → Type 0
IsReplyJudged bytes (judged.Interim len) = (head : ResponseHead) × HeadOf bytes len head × IsTrue (is_interim head)
IsReplyJudged bytes (judged.Final coding len) =
    (head : ResponseHead) × HeadOf bytes len head × IsTrue (not (is_interim head)) × (coding_in head ≡ as_sum coding)
IsReplyJudged bytes judged.Partial = HasNoReplyHead bytes × (MayBecomeReply bytes ⊎ (129 ≤ feeds bytes))
IsReplyJudged bytes judged.Bad = NoMoreReply bytes × (NeverHasResponse bytes ⊎ (130 ≤ feeds bytes))

-- interim heads stand up to a place
pub record IsPast (bytes : List ℕ) (at : ℕ) : Type 0 where
  pub within : at ≤ length bytes
  pub heads : (before : List ResponseHead) × Interim before bytes (drop at bytes)

-- What a turn of the reader gives: an answer, or a place farther on or more bytes.
abbrev pub Steps : List ℕ → List ℕ → Bool → ℕ → Step → Type 0
Steps bytes kept ended at (step.Done read) = Answers bytes kept ended read
Steps bytes kept ended at (step.On next) = (kept ≡ bytes) × IsPast bytes next

abbrev pub Settles : List ℕ → ResponseHead → List ℕ → Step → Type 0
Settles input head rest (step.Done read) = AnswersFinalHead input head rest read
Settles input head rest (step.On next) = Unit {0}

-- the answer at a final head
abbrev pub IsReadOf : Result Coding Bad → ReplyRead → Type 0
IsReadOf (Ok coding) read = read ≡ reply.Final coding
IsReadOf (Err kind) read = read ≡ reply.Refused (record { kind = kind; place = 0 })
