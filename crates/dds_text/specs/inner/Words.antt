-- The word that is not whole yet at the end of some bytes.
use Rattle.std.specs.Prelude.{ℕ, List, [], ◌∷◌, ◌++◌, ◌||◌, if◌then◌else◌}
use Rattle.dap_model.specs.Tokens.{is_white, is_sign}

-- the front of a word, behind the front of one
abbrev pub left_from : List ℕ → List ℕ → List ℕ
left_from front [] = front
left_from front (b ∷ bs) = if is_white b || is_sign b then left_from [] bs else left_from (front ++ b ∷ []) bs

-- the front of a word at the end of the bytes
abbrev pub left : List ℕ → List ℕ
left bytes = left_from [] bytes
