-- A body as it is sent in chunks (RFC 9112, section 7.1): pieces of 65,536 bytes and a rest that is not
-- empty, which is this project's choice, each as a chunk, and then the last chunk.
use Rattle.std.specs.Prelude.{◌≡◌, ℕ, zero, suc, ◌+◌, ◌/◌, ◌<◌, Bool, false, List, [], ◌∷◌, ◌++◌, length, take, drop, codes, if◌then◌else◌}
use Rattle.std.specs.List.{flat_map}
use Rattle.std.specs.Fmt.{digits}
use Rattle.httparse.specs.Ascii.{crlf_bytes}
use Rattle.dap_types.specs.Limits.{most_piece}

-- the first so many pieces of n bytes
abbrev pub first_pieces : ℕ → ℕ → List ℕ → List (List ℕ)
first_pieces n zero body = []
first_pieces n (suc k) body = take n body ∷ first_pieces n k (drop n body)

unfoldable pub piece_size : ℕ
piece_size = most_piece

abbrev pub pieces : List ℕ → List (List ℕ)
pieces body = first_pieces piece_size ((length body + 65535) / 65536) body

-- its size in lower-case hexadecimal digits without leading zeros, and its bytes, each with a line end
abbrev pub chunk : List ℕ → List ℕ
chunk piece = ((digits 16 false (length piece) ++ crlf_bytes) ++ piece) ++ crlf_bytes

abbrev pub last_chunk : List ℕ
last_chunk = codes "0\r\n\r\n"

unfoldable pub chunked : List ℕ → List ℕ
chunked body = flat_map chunk (pieces body) ++ last_chunk

-- the body as it is sent
abbrev pub framed : Bool → List ℕ → List ℕ
framed in_chunks body = if in_chunks then chunked body else body

-- some bytes from the front of others
abbrev pub IsFront : List ℕ → List ℕ → Type 0
IsFront part all = (rest : List ℕ) × (all ≡ part ++ rest)

-- and not all of them
abbrev pub IsProperFront : List ℕ → List ℕ → Type 0
IsProperFront part all = (rest : List ℕ) × (0 < length rest) × (all ≡ part ++ rest)
