-- Where a reader of a DDS stands behind some bytes, for the contracts of its parts.
use Rattle.std.specs.Prelude.{◌≡◌, ℕ, ◌+◌, ◌≤◌, List, [], ◌∷◌, ◌++◌, length, map, take, Option, Some, None, codes, if◌then◌else◌}
use Rattle.std.specs.Option.{option_and_then}
use Rattle.dap_types.specs.Model.{Dataset}
use Rattle.dap_types.specs.View.{dataset_view}
use Rattle.dap_model.specs.Tokens.{Token, sign, word, Placed, is_sign, whole_tokens, tokens_of}
use Rattle.dds_text.specs.inner.Held.{IsSound, go, state_view}
use Rattle.dds_text.specs.Reading.{limit}
use Rattle.dds_text.specs.inner.States.{State, begun, ended, IsOpenState}
use Rattle.dds_text.specs.inner.Words.{left}
use Rattle.dds_text.specs.declared.parser.Parser.{Parser}
use Rattle.dds_text.specs.declared.parser.Taken.{Taken}
use Rattle.dds_text.specs.declared.parser.Taken.TheVariants.{Next, Bad, Done}
use Rattle.dds_text.specs.declared.front.Front.{Front}
use Rattle.dds_text.specs.declared.front.Found.{Found}
use Rattle.dds_text.specs.declared.front.Found.TheVariants as found
use Rattle.viable.specs.Characters.{byte}

-- the state behind tokens of which none breaks a rule
abbrev pub run : State → List Token → Option State
run s [] = Some s
run s (t ∷ ts) = option_and_then (λ next. run next ts) (go s t)

-- behind a word, if there is one
abbrev pub after_word : List ℕ → State → Option State
after_word [] s = Some s
after_word (b ∷ bs) s = go s (word (b ∷ bs))

-- behind a byte, if it is a sign
abbrev pub after_sign : ℕ → State → Option State
after_sign b s = if is_sign b then go s (sign b) else Some s

-- what the parser holds is this state
unfoldable pub Holds : Parser → State → Type 0
Holds p s = (s ≡ state_view p.levels p.state) × IsSound p.levels p.state

-- the parser holds the state, if there is one
abbrev pub LeadsTo : Parser → Option State → Type 0
LeadsTo p next = (s : State) × (next ≡ Some s) × Holds p s

-- what a sign is to a state that goes on to this one
abbrev pub IsTaken : Parser → ℕ → Option State → Taken → Type 0
IsTaken p b next Next = LeadsTo p next
IsTaken p b next Bad = next ≡ None
IsTaken p b next (Done d) = (next ≡ Some (ended (dataset_view d))) × (b ≡ byte ";")

-- the tokens of the bytes lead to the state that the parser holds, and this word is not whole
abbrev pub Reads : Parser → List ℕ → List ℕ → Type 0
Reads p part text = (s : State) × (run begun (tokens_of text) ≡ Some s) × Holds p s × (part ≡ left text)

-- the same inside a piece, of which this part belongs to the word that is not whole
abbrev pub IsReadTo : Front → List ℕ → List ℕ → Type 0
IsReadTo f part text = Reads f.parser (f.word.items ++ part) text × (f.began + length (left text) ≡ length text)

-- all is held of the bytes
abbrev pub IsRead : Front → List ℕ → Type 0
IsRead f text = IsReadTo f [] text × (f.length ≡ length text)

-- the tokens lead to the end of a dataset, at the last byte
abbrev pub EndsDds : List ℕ → Dataset → Type 0
EndsDds text d = (run begun (tokens_of text) ≡ Some (ended d)) × ((front : List ℕ) × (text ≡ front ++ codes ";"))

-- the first token that does not go on or breaks a rule
abbrev pub StopsAt : List ℕ → ℕ → Type 0
StopsAt text place = (before more : List Placed) × (bad : Placed) × (s : State)
    × (whole_tokens text ≡ before ++ bad ∷ more) × (bad.place ≡ place) × (run begun (map (λ p. p.token) before) ≡ Some s) × (go s bad.token ≡ None) × IsOpenState s

-- what is found in a piece behind the bytes
abbrev pub IsFound : Front → List ℕ → List ℕ → Found → Type 0
IsFound f text piece found.Nothing = IsRead f (text ++ piece)
IsFound f text piece (found.Bad place) = StopsAt (text ++ piece) place
IsFound f text piece (found.Done used d) = (used ≤ length piece) × EndsDds (text ++ take used piece) (dataset_view d)

-- what is found at a byte, at this index of a piece
abbrev pub IsFoundAt : Front → List ℕ → ℕ → List ℕ → ℕ → Found → Type 0
IsFoundAt f text b more i found.Nothing = IsReadTo f [] (text ++ b ∷ [])
IsFoundAt f text b more i (found.Bad place) = StopsAt (text ++ b ∷ more) place
IsFoundAt f text b more i (found.Done used d) = (used ≡ i + 1) × EndsDds (text ++ b ∷ []) (dataset_view d)

-- the bad token begins within the limit
abbrev pub IsPlaced : Found → Type 0
IsPlaced (found.Bad place) = place ≤ limit
IsPlaced f = Unit {0}
