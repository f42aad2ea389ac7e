-- Where the parser stands in a text, for the contracts of its parts.
use Rattle.std.specs.Prelude.{◌≡◌, ◌≢◌, ℕ, not, List, [], ◌<◌, ◌≤◌, length, IsTrue, Some, slice_index, ⊤}
use Rattle.viable.specs.Characters.{byte}
use Rattle.viable.specs.inner.Standing.{Stands}
use Rattle.viable.specs.Prefix.{is_byte, IsFault}
use Rattle.constraint_parse.specs.Language.{is_blank, Token, ConstraintTree, IsSpaced, IsTextOf, SlabTree, StepTree, ItemTree, path, call}
use Rattle.constraint_parse.specs.inner.Machine.{State, Naming, Stepped, Opened, SecondOpened, ThirdOpened, Called, ClauseNaming, ClauseNamed, Compared, Bracing, step, read}

-- what may follow in a state
abbrev pub Rest : State → List ℕ → ConstraintTree → Type 0
Rest s bytes tree = (tokens : List Token) × IsSpaced bytes tokens × (read s tokens ≡ Some tree)

abbrev pub StandsAt : List ℕ → ℕ → State → Type 0
StandsAt text at s = Stands Rest IsTextOf text at s

abbrev pub IsFaultAt : List ℕ → ℕ → Type 0
IsFaultAt text place = IsFault is_byte IsTextOf text place

-- a place of the text, at which no blank stands
pub record IsPlace (text : List ℕ) (at : ℕ) : Type 0 where
  pub within : at ≤ length text
  pub unblank : at < length text → IsTrue (not (is_blank (slice_index text at)))

-- another byte stands at the place, or none
abbrev pub Lacks : List ℕ → ℕ → ℕ → Type 0
Lacks text at byte = at < length text → slice_index text at ≢ byte

-- a name is what comes next, and nothing else
abbrev pub ReadsName : State → Type 0
ReadsName (Naming items steps) = ⊤
ReadsName (ClauseNaming items clauses labels) = ⊤
ReadsName _ = ⊥

-- a number is what comes next, and nothing else
abbrev pub ReadsNumber : State → Type 0
ReadsNumber (Opened items steps n slabs) = ⊤
ReadsNumber (SecondOpened items steps n slabs a) = ⊤
ReadsNumber (ThirdOpened items steps n slabs a b) = ⊤
ReadsNumber _ = ⊥

-- where the parser stands behind a token
abbrev pub StandsBehind : List ℕ → ℕ → State → Token → Type 0
StandsBehind text to s t = (next : State) → step s t ≡ Some next → StandsAt text to next

-- a call may stand behind these steps and slabs
abbrev pub MayCall : List StepTree → List SlabTree → Type 0
MayCall steps slabs = (steps ≡ []) × (slabs ≡ [])

-- a call may stand behind the name
abbrev pub ReadsCall : State → Type 0
ReadsCall (Stepped items [] n []) = ⊤
ReadsCall (ClauseNamed items clauses [] n) = ⊤
ReadsCall _ = ⊥

-- Behind an item: only its end may stand there.
abbrev pub StandsBehindItem : List ℕ → ℕ → List ItemTree → ItemTree → Type 0
StandsBehindItem text at items (path front last) =
    StandsAt text at (Stepped items front last.label last.slabs) × Lacks text at (byte "[") × Lacks text at (byte ".") × (MayCall front last.slabs → Lacks text at (byte "("))
StandsBehindItem text at items (call n a) = StandsAt text at (Called items n a)

-- a value is one of what may come next
abbrev pub ReadsValue : State → Type 0
ReadsValue (Compared items clauses labels n o) = ⊤
ReadsValue (Bracing items clauses labels n o values) = ⊤
ReadsValue _ = ⊥

-- a value alone is what comes next
abbrev pub ReadsValueOnly : State → Type 0
ReadsValueOnly (Bracing items clauses labels n o values) = ⊤
ReadsValueOnly _ = ⊥
