-- What the steps of a reader of a body give.
use Rattle.std.specs.Prelude.{◌≡◌, ℕ, ◌+◌, ◌-◌, ◌≤◌, ◌⊎◌, Bool, List, [], length, Option, Some, None}
use Rattle.dap_types.specs.Limits.{body_limit, most_piece}
use Rattle.dap_http.specs.After.{UnframerStandsAfter, used_by}
use Rattle.dap_http.specs.Codings.{Goes}
use Rattle.dap_http.specs.Following.{Arrives, Follows, body_coding}
use Rattle.dap_http.specs.declared.coding.Coding.{Coding}
use Rattle.dap_http.specs.declared.body_parts.Arrived.{Arrived}
use Rattle.dap_http.specs.declared.body_parts.BodyParts.{BodyParts}

-- how many bytes were taken
abbrev pub taken_by : BodyParts → ℕ
taken_by p = used_by p.unframer + (p.end - p.to)

-- all bytes that were taken are used, and the body goes on
abbrev pub IsUsedUp : BodyParts → List ℕ → List ℕ → Type 0
IsUsedUp p bytes body = (p.to ≡ p.end) × UnframerStandsAfter p.unframer bytes × Goes (body_coding p) bytes body

-- nothing was taken, or a piece while the framing went on, of no more bytes than a body may still have
abbrev pub TakesPiece : Coding → List ℕ → List ℕ → List ℕ → Type 0
TakesPiece coding bytes body taken =
    (taken ≡ []) ⊎ (Goes coding bytes body × (length taken ≤ most_piece) × (length body + length taken ≤ body_limit))

-- what the waiting bytes give: an answer, or nothing more
abbrev pub Unframes : BodyParts → List ℕ → List ℕ → Option Arrived → Type 0
Unframes p bytes body (Some a) = (ended : Bool) → Arrives p bytes body ended a
Unframes p bytes body None = IsUsedUp p bytes body

-- what a turn gives: an answer, or more bytes
abbrev pub Turns : BodyParts → List ℕ → List ℕ → Bool → Option Arrived → Type 0
Turns p bytes body ended (Some a) = Arrives p bytes body ended a
Turns p bytes body ended None = Follows p bytes body
