-- What the readers of heads hold and answer.
use Rattle.std.proofs.Common.{inl, inr}
use Rattle.std.specs.Prelude.{◌≡◌, ℕ, ◌+◌, ◌≤◌, ◌<◌, ◌⊎◌, List, length, Bool, IsTrue, codes}
use Rattle.std.specs.Str.{bytes_eq}
use Rattle.httparse.specs.Grammar.{RequestHead, ResponseHead}
use Rattle.dap_types.specs.Limits.{most_reply_heads}
use Rattle.reply_faults.specs.declared.bad.BadField.{BadField}
use Rattle.reply_faults.specs.declared.bad.Bad.{Bad}
use Rattle.reply_faults.specs.declared.bad.Bad.TheVariants as bad
use Rattle.dap_http.specs.Requests.{FirstRequest, HasNoRequest, IsBadRequest, IsGone, IsTooLong, ends_itself}
use Rattle.dap_http.specs.Replies.{AreCut, AreTooLong, HasFinal, HasNoFinal, IsNoReply, coding_in}
use Rattle.dap_http.specs.declared.coding.Coding.{Coding}
use Rattle.dap_http.specs.declared.head_reader.Head.{Head}
use Rattle.dap_http.specs.declared.head_reader.HeadReader.{HeadReader}
use Rattle.dap_http.specs.declared.head_reader.HeadRead.{HeadRead}
use Rattle.dap_http.specs.declared.head_reader.HeadRead.TheVariants as read
use Rattle.dap_http.specs.declared.reply_reader.ReplyReader.{ReplyReader}
use Rattle.dap_http.specs.declared.reply_reader.ReplyRead.{ReplyRead}
use Rattle.dap_http.specs.declared.reply_reader.ReplyRead.TheVariants as reply

-- the bytes that were taken behind the last head
abbrev pub kept_by : HeadReader → List ℕ
kept_by r = r.kept.items

abbrev pub rest_of : ReplyReader → List ℕ
rest_of r = r.kept.items

-- the head tells these parts of a tree of the grammar
pub record IsHead (h : Head) (tree : RequestHead) : Type 0 where
  pub method : h.method ≡ tree.method
  pub target : h.target ≡ tree.target
  pub minor : h.minor ≡ tree.minor
  pub ends : h.ends ≡ ends_itself tree

-- What an answer says of the bytes read, those kept, and the end mark. Where it gives no head, all of
-- them are kept, and the next read judges them again.
abbrev pub Gives : List ℕ → List ℕ → Bool → HeadRead → Type 0
Gives bytes kept ended (read.Head h) = (tree : RequestHead) × FirstRequest bytes tree kept × IsHead h tree
Gives bytes kept ended read.Gone = IsTrue ended × IsGone bytes × (kept ≡ bytes)
Gives bytes kept ended read.BadRequest = IsBadRequest bytes × (kept ≡ bytes)
Gives bytes kept ended read.HeadTooLong = IsTooLong bytes × (kept ≡ bytes)
Gives bytes kept ended read.ReadFault = HasNoRequest bytes × (kept ≡ bytes)
Gives bytes kept ended (read.Memory is_head) =
    ((tree : RequestHead) × (rest : List ℕ) × FirstRequest bytes tree rest × (is_head ≡ bytes_eq tree.method (codes "HEAD"))) × (kept ≡ bytes)

-- a head, or a fault or want of memory in its place
abbrev pub IsFound : HeadRead → Type 0
IsFound (read.Head h) = Unit {0}
IsFound read.ReadFault = Unit {0}
IsFound (read.Memory is_head) = Unit {0}
IsFound other = ⊥

-- the final head stands in the bytes, within 65,536 of them, and gives this
abbrev pub GivesFinal : List ℕ → List ℕ → Bad ⊎ Coding → Type 0
GivesFinal bytes kept answer =
    (head : ResponseHead) × HasFinal bytes head kept × (length bytes ≤ length kept + most_reply_heads) × (coding_in head ≡ answer)

-- What an answer says of the bytes read, those kept, and the end mark. Where no final head stands in
-- them, all of them are kept.
abbrev pub Answers : List ℕ → List ℕ → Bool → ReplyRead → Type 0
Answers bytes kept ended (reply.Final coding) = GivesFinal bytes kept (inr coding)
Answers bytes kept ended (reply.Refused f) =
    (f.place ≡ 0)
    × (((f.kind ≡ bad.BadHead) × IsNoReply bytes × (kept ≡ bytes))
    ⊎ (((f.kind ≡ bad.HeadTooLong) × AreTooLong bytes × (kept ≡ bytes))
    ⊎ (((f.kind ≡ bad.Cut) × IsTrue ended × AreCut bytes × (kept ≡ bytes))
    ⊎ GivesFinal bytes kept (inl f.kind))))
Answers bytes kept ended reply.ReadFault = HasNoFinal bytes × (kept ≡ bytes)
Answers bytes kept ended reply.Memory = kept ≡ bytes

-- what comes where a final head stands in the input: its coding or its fault, or that it is too long
abbrev pub AnswersFinalHead : List ℕ → ResponseHead → List ℕ → ReplyRead → Type 0
AnswersFinalHead input head rest (reply.Final coding) = coding_in head ≡ inr coding
AnswersFinalHead input head rest (reply.Refused f) = (coding_in head ≡ inl f.kind) ⊎ ((f.kind ≡ bad.HeadTooLong) × (length rest + most_reply_heads < length input))
AnswersFinalHead input head rest reply.ReadFault = Unit {0}
AnswersFinalHead input head rest reply.Memory = Unit {0}
