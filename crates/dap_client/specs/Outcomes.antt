-- What an outcome says, by its kind.
use Rattle.std.specs.Prelude.{◌≡◌, ℕ, ℤ, List, ⊤}
use Rattle.reply_faults.specs.declared.bad.Bad.{Bad}
use Rattle.reply_faults.specs.declared.bad.Bad.TheVariants.{Cut}
use Rattle.reply_faults.specs.declared.bad.BadField.{BadField}
use Rattle.dap_client.specs.Verdict.{Verdict, bad, good, good_das, good_dds, server_error}
use Rattle.dap_client.specs.declared.outcome.Outcome.{Outcome}
use Rattle.dap_client.specs.declared.outcome.Outcome.TheVariants.{Complete, ServerError, BadReply, ReadFault, WriteFault, LinkFault, Memory}

abbrev pub OnComplete : (ℕ → Type 0) → Outcome → Type 0
OnComplete P (Complete bytes) = P bytes
OnComplete P o = ⊤

abbrev pub OnServerError : (ℤ → List ℕ → Type 0) → Outcome → Type 0
OnServerError P (ServerError code message) = P code message
OnServerError P o = ⊤

abbrev pub OnBadReply : (BadField → Type 0) → Outcome → Type 0
OnBadReply P (BadReply field) = P field
OnBadReply P o = ⊤

abbrev pub OnReadFault : Type 0 → Outcome → Type 0
OnReadFault P ReadFault = P
OnReadFault P o = ⊤

abbrev pub OnWriteFault : Type 0 → Outcome → Type 0
OnWriteFault P WriteFault = P
OnWriteFault P o = ⊤

abbrev pub OnLinkFault : Type 0 → Outcome → Type 0
OnLinkFault P LinkFault = P
OnLinkFault P o = ⊤

abbrev pub OnMemory : Type 0 → Outcome → Type 0
OnMemory P Memory = P
OnMemory P o = ⊤

-- nothing goes out for an Error object, and where memory was wanted
abbrev pub WhereNothingPut : Type 0 → Outcome → Type 0
WhereNothingPut P (ServerError code message) = P
WhereNothingPut P Memory = P
WhereNothingPut P o = ⊤

-- the outcome for a verdict on so many bytes
abbrev pub outcome_of : ℕ → Verdict → Outcome
outcome_of n (good d ts) = Complete n
outcome_of n (good_dds d) = Complete n
outcome_of n (good_das a) = Complete n
outcome_of n (server_error e) = ServerError e.code e.message
outcome_of n (bad kind place) = BadReply (record { kind = kind; place = place })

-- nothing but a fault, or want of memory, comes in its place
abbrev pub Answers : ℕ → Verdict → Outcome → Type 0
Answers n v ReadFault = ⊤
Answers n v WriteFault = ⊤
Answers n v Memory = ⊤
Answers n v o = o ≡ outcome_of n v

-- the body was read to its end
abbrev pub WhereWhole : Type 0 → Outcome → Type 0
WhereWhole P (Complete bytes) = P
WhereWhole P (ServerError code message) = P
WhereWhole P (BadReply field) = WhereCut P field.kind
  where
    WhereCut : Type 0 → Bad → Type 0
    WhereCut P Cut = P
    WhereCut P kind = ⊤
WhereWhole P o = ⊤
