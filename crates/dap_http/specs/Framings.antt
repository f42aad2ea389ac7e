-- What a framing has done to the sink below it: how that sink stood at the start, and what it has gained.
use Rattle.std.specs.Prelude.{◌≡◌, ◌<◌, ◌⊎◌, ℕ, Bool, true, false, List, [], ◌∷◌, ◌++◌, length, drop, Option, Some, None}
use Rattle.std.specs.Str.{bytes_eq}
use Rattle.dap_http.specs.Frames.{IsFront, IsProperFront, framed}
use Rattle.dap_http.specs.inner.Putting.{front_in}
use Rattle.dap_http.specs.declared.framer.Framer.{Framer}

-- what a framer puts before the body
abbrev pub front_of : Framer → List ℕ
front_of f = front_in f.gathered

-- what was written where a history of sinks begins
abbrev pub start_of : {O : Type 0} → (O → Option (List ℕ)) → List (O × ℕ) → Option (List ℕ)
start_of written [] = None
start_of written (first ∷ others) = written first.0

-- what was written once still stands at the front
abbrev pub has_grown : Option (List ℕ) → Option (List ℕ) → Bool
has_grown None now = true
has_grown (Some start) None = false
has_grown (Some start) (Some now) = bytes_eq now (start ++ drop (length start) now)

-- the sink below has gained what the framing says, and nothing else
abbrev pub has_gained : Option (List ℕ) → Option (List ℕ) → List ℕ → Bool
has_gained None now gained = true
has_gained (Some start) None gained = false
has_gained (Some start) (Some now) gained = bytes_eq now (start ++ gained)

-- the body bytes that were put are told where that is so
abbrev pub told_where : Bool → List ℕ → Option (List ℕ)
told_where true body = Some body
told_where false body = None

-- what is put is not all yet: more of the body comes, or it is sent in chunks, and the last one comes
abbrev pub IsUnfinished : Bool → List ℕ → Type 0
IsUnfinished in_chunks more = (0 < length more) ⊎ (in_chunks ≡ true)

-- these bytes are what goes out before a body and a part of it, which its rest may follow
abbrev pub EndsEarly : List ℕ → List ℕ → Bool → List ℕ → Type 0
EndsEarly bytes front in_chunks body = (part : List ℕ) × (bytes ≡ front ++ part) × ((more : List ℕ) → IsFront part (framed in_chunks (body ++ more)))
    × ((more : List ℕ) → IsUnfinished in_chunks more → IsProperFront part (framed in_chunks (body ++ more)))
