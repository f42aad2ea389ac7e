-- Which bytes a reader of the body of a reply stands after, and what its answers say.
use Rattle.std.specs.Prelude.{◌≡◌, ℕ, ◌<◌, ◌≤◌, ◌⊎◌, Bool, List, [], ◌++◌, length}
use Rattle.std.specs.List.{between}
use Rattle.dap_types.specs.Limits.{body_limit, most_piece}
use Rattle.dap_http.specs.After.{UnframerStandsAfter, coding_of}
use Rattle.dap_http.specs.Codings.{Ends, Goes}
use Rattle.dap_http.specs.Delivered.{HasCome, IsBrokenBody, IsWholeBody}
use Rattle.dap_http.specs.declared.coding.Coding.{Coding}
use Rattle.dap_http.specs.declared.body_parts.Arrived.{Arrived}
use Rattle.dap_http.specs.declared.body_parts.Arrived.TheVariants.{Part, End, Refused, ReadFault}
use Rattle.dap_http.specs.declared.body_parts.BodyParts.{BodyParts}

-- how the body is coded
abbrev pub body_coding : BodyParts → Coding
body_coding p = coding_of p.unframer

-- the bytes of the body that came last
abbrev pub part_of : BodyParts → List ℕ
part_of p = between p.from p.to p.room.items

-- the bytes that were taken and are not used yet
abbrev pub waiting : BodyParts → List ℕ
waiting p = between p.to p.end p.room.items

-- these bytes behind the head were taken, and this came of the body
unfoldable pub Follows : BodyParts → List ℕ → List ℕ → Type 0
Follows p bytes body =
    (used : List ℕ) × UnframerStandsAfter p.unframer used × (bytes ≡ used ++ waiting p)
    × (Goes (body_coding p) used body ⊎ Ends (body_coding p) used body)

-- it follows some bytes, and fewer came of the body than no body has
abbrev pub IsShort : BodyParts → Type 0
IsShort p = (bytes : List ℕ) × (body : List ℕ) × Follows p bytes body × (length body < body_limit)

-- No more was taken behind the head than tells the body: at most a piece behind a front with which the
-- framing went on (or behind nothing), of which a front of the body had come; and at most 2^40 bytes of
-- the body.
pub record IsInTime (coding : Coding) (bytes body : List ℕ) : Type 0 where
  pub front : List ℕ
  pub more : List ℕ
  pub came : List ℕ
  pub later : List ℕ
  pub parts : bytes ≡ front ++ more
  pub body_parts : body ≡ came ++ later
  pub goes : ((front ≡ []) × (came ≡ [])) ⊎ Goes coding front came
  pub few : length more ≤ most_piece
  pub short : (other : List ℕ) → HasCome coding bytes other → length other ≤ body_limit

-- what an answer says of the bytes taken, the body before, and the end mark
abbrev pub Arrives : BodyParts → List ℕ → List ℕ → Bool → Arrived → Type 0
Arrives p bytes body ended Part = (0 < length (part_of p)) × Follows p bytes (body ++ part_of p)
Arrives p bytes body ended End = IsWholeBody (body_coding p) bytes ended body (waiting p)
Arrives p bytes body ended (Refused bad) = IsBrokenBody (body_coding p) bytes ended body bad
Arrives p bytes body ended ReadFault = Follows p bytes body × HasCome (body_coding p) bytes body
