-- What of a reply has come with some bytes (RFC 9112, sections 6.3, 7.1 and 8): its body, whole or up to
-- a place, or what is wrong with its heads or its framing.
use Rattle.std.proofs.Common.{inl, inr}
use Rattle.std.specs.Prelude.{◌≡◌, ℕ, ◌⊎◌, Bool, List, [], ◌++◌, length, IsTrue}
use Rattle.reply_faults.specs.declared.bad.BadField.{BadField}
use Rattle.reply_faults.specs.declared.bad.Bad.TheVariants.{BadChunk, BadHead, Cut, HeadTooLong}
use Rattle.dap_http.specs.Codings.{Ends, Fails, Goes}
use Rattle.dap_http.specs.Reading.{GivesFinal}
use Rattle.dap_http.specs.Replies.{AreCut, AreTooLong, IsNoReply}
use Rattle.dap_http.specs.declared.coding.Coding.{Coding}
use Rattle.dap_http.specs.declared.coding.Coding.TheVariants.{ToEnd}

-- the final head stands in the bytes, within 65,536 of them, and says how the body is coded; this stands
-- behind it
abbrev pub HasCoding : List ℕ → Coding → List ℕ → Type 0
HasCoding reply coding behind = GivesFinal reply behind (inr coding)

-- what is wrong with the heads, where the end of the bytes is that of the reply or is not told
abbrev pub HasBadHead : List ℕ → Bool → BadField → Type 0
HasBadHead reply ended bad =
    (bad.place ≡ 0)
    × (((bad.kind ≡ BadHead) × IsNoReply reply)
    ⊎ (((bad.kind ≡ HeadTooLong) × AreTooLong reply)
    ⊎ (((bad.kind ≡ Cut) × IsTrue ended × AreCut reply)
    ⊎ ((behind : List ℕ) × GivesFinal reply behind (inl bad.kind)))))

-- ---- What stands behind a head.

-- the front of a framed body, or a whole one and a rest. This came of the body
pub record HasCome (coding : Coding) (behind body : List ℕ) : Type 0 where
  pub front : List ℕ
  pub rest : List ℕ
  pub parts : behind ≡ front ++ rest
  pub comes : (Goes coding front body × (rest ≡ [])) ⊎ Ends coding front body

-- a whole framed body and a rest; without a framing it is all bytes, once they have ended
abbrev pub IsWholeBody : Coding → List ℕ → Bool → List ℕ → List ℕ → Type 0
IsWholeBody coding behind ended body rest =
    ((framed : List ℕ) × Ends coding framed body × (behind ≡ framed ++ rest))
    ⊎ ((coding ≡ ToEnd) × IsTrue ended × (behind ≡ body) × (rest ≡ []))

-- a framing that is bad, or that goes on where the bytes have ended. This came of the body
abbrev pub IsBrokenBody : Coding → List ℕ → Bool → List ℕ → BadField → Type 0
IsBrokenBody coding behind ended body bad =
    ((bad.kind ≡ BadChunk) × Fails coding behind body bad.place)
    ⊎ (Goes coding behind body × ¬ (coding ≡ ToEnd) × IsTrue ended × (bad ≡ record { kind = Cut; place = length body }))

-- ---- The whole reply.

-- it has this body; the rest stands behind its framing
pub record Delivers (reply : List ℕ) (ended : Bool) (body rest : List ℕ) : Type 0 where
  pub coding : Coding
  pub behind : List ℕ
  pub has_coding : HasCoding reply coding behind
  pub is_whole : IsWholeBody coding behind ended body rest

-- it breaks off behind this much of a body: its heads are wrong, or its framing is bad or cut
abbrev pub BreaksOff : List ℕ → Bool → List ℕ → BadField → Type 0
BreaksOff reply ended body bad =
    (HasBadHead reply ended bad × (body ≡ []))
    ⊎ ((coding : Coding) × (behind : List ℕ) × HasCoding reply coding behind × IsBrokenBody coding behind ended body bad)
