-- The body that a reply carries to who reads it (RFC 9112, section 6.3).
use Rattle.std.proofs.Common.{inr}
use Rattle.std.specs.Prelude.{◌≡◌, ℕ, ◌⊎◌, Bool, List, Option, Some, None, if◌then◌else◌}
use Rattle.httparse.specs.Grammar.{ResponseHead}
use Rattle.dap_http.specs.Codings.{Ends}
use Rattle.dap_http.specs.Replies.{HasFinal, coding_in}
use Rattle.dap_http.specs.declared.coding.Coding.{Coding}
use Rattle.dap_http.specs.declared.coding.Coding.TheVariants.{Chunked, Length, ToEnd}

-- the bytes behind its final head are the body as its coding frames it, and nothing else
pub record Carries (reply body : List ℕ) : Type 0 where
  pub head : ResponseHead
  pub framed : List ℕ
  pub coding : Coding
  pub is_final : HasFinal reply head framed
  pub is_coding : coding_in head ≡ inr coding
  pub ends : Ends coding framed body ⊎ ((coding ≡ ToEnd) × (framed ≡ body))

-- how a head that is sent says the length of its body
abbrev pub said : Option ℕ → Bool → Coding
said (Some n) in_chunks = Length n
said None in_chunks = if in_chunks then Chunked else ToEnd
