-- Laws of what sources and sinks tell.
use Rattle.std.specs.Prelude.{ℕ, List, Option, IsSome}

-- what told its bytes before some of them went or came, tells them afterwards
abbrev pub TellsOn : (Option (List ℕ) → Option (List ℕ) → List ℕ → Type 0) → Type 0
TellsOn Moves = (old new : Option (List ℕ)) (bytes : List ℕ) → Moves old new bytes → IsSome old → IsSome new
