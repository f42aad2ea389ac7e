-- The verdict on a reply (RFC 9112): its heads and its framing, and then the body that they bring, read
-- by what it was asked for, whatever the status is.
use Rattle.std.specs.Prelude.{◌≡◌, ℕ, ◌≤◌, ◌⊎◌, true, false, List, [], ◌++◌, length, if◌then◌else◌}
use Rattle.dap_types.specs.Limits.{body_limit, most_piece, most_reply_heads}
use Rattle.dap_model.specs.Tokens.{tokens_of}
use Rattle.error_word.specs.Saying.{says_error}
use Rattle.reply_faults.specs.declared.bad.BadField.{BadField}
use Rattle.dap_http.specs.Codings.{Ends, Fails}
use Rattle.dap_http.specs.Delivered.{BreaksOff, Delivers, HasCoding, HasCome}
use Rattle.dap_http.specs.declared.coding.Coding.{Coding}
use Rattle.dap_http.specs.declared.kind.Kind.{Kind}
use Rattle.dap_http.specs.declared.kind.Kind.TheVariants as kind
use Rattle.dap_client.specs.Verdict.{Form, JudgesDods, Verdict, IsVerdict, bad, das_form, dds_form, dods_form, is_final}

-- what a body of that kind is read as
abbrev pub form_of : Kind → Form
form_of kind.Dds = dds_form
form_of kind.Das = das_form
form_of kind.Dods = dods_form
form_of kind.Ver = dods_form

-- what is wrong first, where the body breaks off: the verdict on the bytes of it that came, where that is
-- more than that they end; else what is wrong with the heads or the framing
abbrev pub first_of : Verdict → BadField → Verdict
first_of v wrong = if is_final v then v else bad wrong.kind wrong.place

-- the verdict on a reply that brings so many bytes of a body
abbrev pub IsReplyVerdict : Form → List ℕ → ℕ → Verdict → Type 0
IsReplyVerdict form reply n v =
    ((body : List ℕ) × (rest : List ℕ) × Delivers reply true body rest × (n ≡ length body) × IsVerdict form body v)
    ⊎ ((body : List ℕ) × (wrong : BadField) × (front : Verdict) × BreaksOff reply true body wrong × (n ≡ length body) × IsVerdict form body front × (v ≡ first_of front wrong))

-- this much of its body has come with these bytes: nothing before its final head
abbrev pub Brings : List ℕ → List ℕ → Type 0
Brings reply body =
    ((coding : Coding) × (behind : List ℕ) × HasCoding reply coding behind × HasCome coding behind body)
    ⊎ (((coding : Coding) (behind : List ℕ) → ¬ (HasCoding reply coding behind)) × (length body ≡ 0))

-- this much of its body has come with a front of the bytes that stand behind its final head
abbrev pub BringsFirst : List ℕ → List ℕ → Type 0
BringsFirst reply body =
    (coding : Coding) × (front : List ℕ) × (more : List ℕ) × HasCoding reply coding (front ++ more) × HasCome coding front body

-- ---- What is taken for a reply.

-- a data response is bad, whatever follows: its first word is whole and not `Error`
abbrev pub IsBadData : List ℕ → Type 0
IsBadData body =
    (field : BadField) × ((more : List ℕ) → ¬ (tokens_of (body ++ more) ≡ []) × (says_error (body ++ more) ≡ false) × JudgesDods (body ++ more) (bad field.kind field.place))

-- the body is bad, whatever follows. A DDS, a DAS and an Error object have a limit of their own, and may be judged there
abbrev pub Spoils : Form → List ℕ → Type 0
Spoils dods_form body = IsBadData body
Spoils form body = ⊥

-- behind a head, the framing has ended or is bad, or the body is
abbrev pub Settles : Form → Coding → List ℕ → Type 0
Settles form coding behind =
    ((body : List ℕ) × Ends coding behind body)
    ⊎ (((body : List ℕ) × (place : ℕ) × Fails coding behind body place)
    ⊎ ((body : List ℕ) × HasCome coding behind body × Spoils form body))

-- the final head stands in the bytes, and what stands behind it settles the reply
pub record IsSettled (form : Form) (reply : List ℕ) : Type 0 where
  pub coding : Coding
  pub behind : List ℕ
  pub has_coding : HasCoding reply coding behind
  pub settles : Settles form coding behind

-- All that was taken for a reply: where no head in it gives a coding, no more than heads may have; no more than a piece
-- behind bytes that settle the reply; and no more bytes of a body than are looked at
pub record StopsInTime (form : Form) (reply : List ℕ) : Type 0 where
  pub heads : ((coding : Coding) (behind : List ℕ) → ¬ (HasCoding reply coding behind)) → length reply ≤ most_reply_heads
  pub settled : (front more : List ℕ) → reply ≡ front ++ more → IsSettled form front → length more ≤ most_piece
  pub body : (body : List ℕ) → Brings reply body → length body ≤ body_limit

-- a reply has one verdict, where its final head tells how the body is coded
abbrev pub OneReplyVerdict : Type 0
OneReplyVerdict =
    (form : Form) (reply behind : List ℕ) (coding : Coding) (n m : ℕ) (v w : Verdict) → HasCoding reply coding behind
    → IsReplyVerdict form reply n v → IsReplyVerdict form reply m w → (n ≡ m) × (v ≡ w)
