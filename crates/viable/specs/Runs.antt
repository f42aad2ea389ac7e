-- Runs: longest stretches of bytes of one class.
use Rattle.std.specs.Prelude.{◌≡◌, ℕ, ◌+◌, Bool, true, false, ◌&&◌, not, List, [], ◌∷◌, ◌++◌, length, drop, IsTrue}
use Rattle.std.specs.List.{list_all}

-- one or more bytes of a class
abbrev pub is_run : (ℕ → Bool) → List ℕ → Bool
is_run test [] = false
is_run test (b ∷ bytes) = test b && list_all test bytes

-- no byte of the class comes next
abbrev pub ends_with : (ℕ → Bool) → List ℕ → Bool
ends_with test [] = true
ends_with test (b ∷ bytes) = not (test b)

-- bytes of a class stand between `from` and `to`
pub record IsRunOf (test : ℕ → Bool) (text : List ℕ) (from to : ℕ) (run : List ℕ) : Type 0 where
  pub whole : drop from text ≡ run ++ drop to text
  pub to_is : to ≡ from + length run
  pub of_class : IsTrue (list_all test run)

-- these are the longest run of bytes of a class from `from` on
pub record IsRunTo (test : ℕ → Bool) (text : List ℕ) (from to : ℕ) (run : List ℕ) : Type 0 where
  pub is_run_of : IsRunOf test text from to run
  pub longest : IsTrue (ends_with test (drop to text))
