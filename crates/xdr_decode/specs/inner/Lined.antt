-- The parts of the line between a DDS and the values, as texts, and why none of them is read.
use Rattle.std.specs.Prelude.{◌≡◌, ℕ, ◌⊎◌, List, [], ◌∷◌, ◌++◌, length, codes, false, ⊤}
use Rattle.dap_model.specs.Tokens.{is_white}
use Rattle.xdr_decode.specs.declared.data_line.LineStop.{LineStop}
use Rattle.xdr_decode.specs.declared.data_line.LineStop.TheVariants.{Cut, Differs}

-- the front of some of these texts, but with one more byte that of none
pub record Parts (Texts : List ℕ → Type 0) (bytes : List ℕ) (left : ℕ) : Type 0 where
  pub front : List ℕ
  pub next : ℕ
  pub rest : List ℕ
  pub parts : bytes ≡ front ++ next ∷ rest
  pub is_left : left ≡ length (next ∷ rest)
  pub other : ℕ
  pub more : List ℕ
  pub begun : Texts (front ++ other ∷ more)
  pub none : (text behind after : List ℕ) → Texts text → text ++ behind ≡ front ++ next ∷ after → ⊥

-- none of these texts begins the bytes: they end inside one, or differ from each
abbrev pub StopsIn : (List ℕ → Type 0) → List ℕ → LineStop → Type 0
StopsIn Texts bytes Cut = (next : ℕ) × (more : List ℕ) × Texts (bytes ++ next ∷ more)
StopsIn Texts bytes (Differs left) = Parts Texts bytes left

-- one of these texts begins the bytes
abbrev pub Behind : (List ℕ → Type 0) → List ℕ → List ℕ → Type 0
Behind Texts bytes rest = (text : List ℕ) × Texts text × (bytes ≡ text ++ rest)

abbrev pub IsText : List ℕ → List ℕ → Type 0
IsText wanted text = text ≡ wanted

-- a line feed, before which a carriage return may stand
abbrev pub EndLines : List ℕ → Type 0
EndLines end = (end ≡ codes "\n") ⊎ (end ≡ codes "\r\n")

-- behind the white space
abbrev pub WordLines : List ℕ → Type 0
WordLines text = (end : List ℕ) × EndLines end × (text ≡ codes "Data:" ++ end)

-- no white space comes next
abbrev pub EndsWhite : List ℕ → Type 0
EndsWhite [] = ⊤
EndsWhite (b ∷ bytes) = is_white b ≡ false
