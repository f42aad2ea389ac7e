-- How much of a limit is left behind a text.
use Rattle.std.specs.Prelude.{◌≡◌, ◌+◌, ◌<◌, ℕ, List, Option, MatchOption, length}

-- so many bytes are left behind the text, or it has more bytes than there were
abbrev pub IsLeftBehind : ℕ → List ℕ → Option ℕ → Type 0
IsLeftBehind left text result = MatchOption result (left < length text) (λ rest. left ≡ rest + length text)
