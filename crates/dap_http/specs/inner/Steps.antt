-- The chunked coding byte by byte: what a reader that keeps no bytes knows of those it has used. Inner:
-- the promises speak of `Chunks`.
use Rattle.std.specs.Prelude.{ℕ, ◌+◌, ◌-◌, ◌*◌, ◌^◌, Bool, true, false, List, [], ◌∷◌, ◌++◌, if◌then◌else◌, ◌==◌, nat_lt, nat_le, ◌&&◌, ◌||◌}
use Rattle.std.specs.Char.{is_ascii_hexdigit, digit_value}
use Rattle.httparse.specs.Grammar.{is_ows}
use Rattle.dap_types.specs.Limits.{most_trailers}
use Rattle.dap_http.specs.declared.chunk_step.At.{At}
use Rattle.dap_http.specs.declared.chunk_step.At.TheVariants.{Line, Digits, Blanks, Extension, LineFeed, Data, EndCr, EndLf, Fresh, Trailer, EmptyCr, TrailerCr, Done, Bad}

-- what comes behind a chunk line of that size
abbrev pub behind_line : ℕ → At
behind_line size = if size == 0 then Fresh most_trailers else Data size

abbrev pub step_text : ℕ → ℕ → ℕ → At
step_text n size b =
    if b == 13 then LineFeed size
    else if b == 10 || nat_lt 1021 n then Bad
    else Extension (n + 1) size

abbrev pub step_blanks : ℕ → ℕ → ℕ → At
step_blanks n size b =
    if b == 13 then LineFeed size
    else if nat_lt 1021 n then Bad
    else if is_ows b then Blanks (n + 1) size
    else if b == 59 then Extension (n + 1) size
    else Bad

abbrev pub step_digits : ℕ → ℕ → ℕ → At
step_digits n size b =
    if is_ascii_hexdigit b
    then (if nat_lt n 8 then Digits (n + 1) (size * 16 + digit_value b) else Bad)
    else step_blanks n size b

abbrev pub step_trailer : ℕ → ℕ → At → At
step_trailer room b cr =
    if b == 13 then (if nat_lt room 2 then Bad else cr)
    else (if nat_lt room 3 then Bad else Trailer (room - 1))

abbrev pub step : At → ℕ → At
step Line b = if is_ascii_hexdigit b then Digits 1 (digit_value b) else Bad
step (Digits n size) b = step_digits n size b
step (Blanks n size) b = step_blanks n size b
step (Extension n size) b = step_text n size b
step (LineFeed size) b = if b == 10 then behind_line size else Bad
step (Data left) b = if nat_le left 1 then EndCr else Data (left - 1)
step EndCr b = if b == 13 then EndLf else Bad
step EndLf b = if b == 10 then Line else Bad
step (Fresh room) b = step_trailer room b (EmptyCr (room - 1))
step (Trailer room) b = step_trailer room b (TrailerCr (room - 1))
step (EmptyCr room) b = if b == 10 then Done else step_trailer room b (TrailerCr (room - 1))
step (TrailerCr room) b = if b == 10 then Fresh (room - 1) else step_trailer room b (TrailerCr (room - 1))
step Done b = Done
step Bad b = Bad

-- a line, a line end or the bytes of a chunk begin here
abbrev pub is_start : At → Bool
is_start Line = true
is_start (Data left) = true
is_start EndCr = true
is_start (Fresh room) = true
is_start at = false

abbrev pub is_done : At → Bool
is_done Done = true
is_done at = false

abbrev pub is_data : At → Bool
is_data (Data left) = true
is_data at = false

-- a number that so many digits can write, and bytes of a chunk to come
abbrev pub is_number : At → Bool
is_number (Digits n size) = nat_le n 8 && nat_lt size (16 ^ n)
is_number (Data left) = nat_lt 0 left
is_number at = true

-- what is known, how many bytes were used, where the last line began, and the body so far
pub record Known : Type 0 where
  pub at : At
  pub used : ℕ
  pub from : ℕ
  pub body : List ℕ

abbrev pub start : Known
start = record { at = Line; used = 0; from = 0; body = [] }

abbrev pub advance : Known → ℕ → Known
advance k b = record {
  at = step k.at b;
  used = if is_done k.at then k.used else k.used + 1;
  from = if is_start (step k.at b) then k.used + 1 else k.from;
  body = if is_data k.at then k.body ++ (b ∷ []) else k.body;
}

abbrev pub run : Known → List ℕ → Known
run k [] = k
run k (b ∷ bytes) = run (advance k b) bytes

-- bytes of a chunk, the end, or a fault
abbrev pub stops : At → Bool
stops (Data left) = true
stops Done = true
stops Bad = true
stops at = false

-- neither the end nor a fault
abbrev pub is_open : At → Bool
is_open Done = false
is_open Bad = false
is_open at = true
