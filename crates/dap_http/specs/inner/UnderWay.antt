-- A framed body under way: the frames that were put whole, and one that is being gathered or put. The first
-- has before its head what goes out before the body.
use Rattle.std.specs.Prelude.{◌≡◌, ℕ, ◌+◌, ◌-◌, ◌<◌, ◌≤◌, ◌⊎◌, Bool, true, false, ◌||◌, ◌==◌, nat_lt, List, [], ◌∷◌, ◌++◌, length, take, drop, map, All, codes, Vec}
use Rattle.std.specs.List.{flat_map}
use Rattle.std.specs.declared.alloc.Global.{Global}
use Rattle.httparse.specs.Ascii.{crlf_bytes}
use Rattle.dap_types.specs.Limits.{most_piece}
use Rattle.dap_http.specs.Frames.{chunk}

-- the head of a chunk of 65,536 bytes
abbrev pub full_head : List ℕ
full_head = codes "10000\r\n"

-- what stands before a whole piece of a body, and behind it
abbrev pub head_of : Bool → List ℕ
head_of true = full_head
head_of false = []

abbrev pub end_of : Bool → List ℕ
end_of true = crlf_bytes
end_of false = []

-- a piece as it is sent
abbrev pub piece_of : Bool → List ℕ → List ℕ
piece_of true piece = chunk piece
piece_of false piece = piece

-- the frames that were put whole, and where in each the body bytes begin
abbrev pub frames_of : List (Vec ℕ Global × ℕ) → List (List ℕ × ℕ)
frames_of items = map (λ x. (x.0.items, x.1)) items

-- the body bytes in a frame
abbrev pub held_in : List ℕ → ℕ → List ℕ
held_in frame from = take most_piece (drop from frame)

-- the body so far
unfoldable pub body_of : List (List ℕ × ℕ) → List ℕ → ℕ → List ℕ
body_of frames frame from = flat_map (λ f. held_in f.0 f.1) frames ++ held_in frame from

-- what was put of it
unfoldable pub gained_of : List (List ℕ × ℕ) → List ℕ → ℕ → List ℕ
gained_of frames frame sent = flat_map (λ f. f.0) frames ++ take sent frame

-- what goes out before the body
unfoldable pub front_before : Bool → List (List ℕ × ℕ) → List ℕ → ℕ → List ℕ
front_before in_chunks [] frame from = take (from - length (head_of in_chunks)) frame
front_before in_chunks (f ∷ frames) frame from = take (f.1 - length (head_of in_chunks)) f.0

-- A frame that is being gathered: what it begins with and the bytes it holds, nothing of which was put; or all
-- of it, of which some was put.
abbrev pub IsGathered : Bool → List ℕ → List ℕ → ℕ → List ℕ → Type 0
IsGathered in_chunks lead frame sent held =
    ((length held < most_piece) × (frame ≡ lead ++ (head_of in_chunks ++ held)) × (sent ≡ 0))
    ⊎ ((length held ≡ most_piece) × (frame ≡ lead ++ piece_of in_chunks held) × (sent ≤ length frame))

-- whole frames were put, and then a part of one
pub record InFrames (in_chunks : Bool) (front frame : List ℕ) (from sent : ℕ) (body gained : List ℕ) : Type 0 where
  pub pieces : List (List ℕ)
  pub held : List ℕ
  pub before : List ℕ
  pub lead : List ℕ
  pub whole : All (λ piece. length piece ≡ most_piece) pieces
  pub from_is : length lead + length (head_of in_chunks) ≡ from
  pub goes_on : before ++ lead ≡ front ++ flat_map (piece_of in_chunks) pieces
  pub gathered : IsGathered in_chunks lead frame sent held
  pub body_is : body ≡ flat_map (λ piece. piece) pieces ++ held
  pub gained_is : gained ≡ before ++ take sent frame

-- there is room for a byte, or the frame is whole
abbrev pub has_room : Bool → ℕ → ℕ → Bool
has_room in_chunks from n = nat_lt n (from + most_piece) || n == (from + most_piece) + length (end_of in_chunks)
