-- The front of a body while its first word may be `Error`, letter by letter.
use Rattle.std.specs.Prelude.{◌≡◌, ℕ, ◌≤◌, true, false, List, [], ◌++◌, take, codes}
use Rattle.std.specs.List.{AllPass}
use Rattle.std.specs.Str.{str_to_ascii_lowercase}
use Rattle.dap_model.specs.Tokens.{is_white, tokens_of}
use Rattle.dds_text.specs.inner.Words.{left}
use Rattle.error_word.specs.Saying.{says_error}
use Rattle.error_word.specs.declared.first_word.FirstWord.{FirstWord}
use Rattle.error_word.specs.declared.first_word.Found.{Found}
use Rattle.error_word.specs.declared.first_word.Found.TheVariants.{Open, Error, Other}

-- white space, and so many letters of the word
pub record HasLetters (n : ℕ) (bytes : List ℕ) : Type 0 where
  pub white : List ℕ
  pub parts : bytes ≡ white ++ left bytes
  pub is_white : AllPass is_white white
  pub no_token : tokens_of bytes ≡ []
  pub is_front : str_to_ascii_lowercase (left bytes) ≡ take n (codes "error")
  pub most : n ≤ 5

abbrev pub IsOpenWord : FirstWord → List ℕ → Type 0
IsOpenWord word bytes = HasLetters word.letters bytes

-- whatever follows, the first word is `Error`, or is not
abbrev pub IsError : List ℕ → Type 0
IsError bytes = (more : List ℕ) → says_error (bytes ++ more) ≡ true

abbrev pub IsNoError : List ℕ → Type 0
IsNoError bytes = (more : List ℕ) → says_error (bytes ++ more) ≡ false

abbrev pub IsFoundIn : List ℕ → Found → Type 0
IsFoundIn bytes (Open word) = IsOpenWord word bytes
IsFoundIn bytes Error = IsError bytes
IsFoundIn bytes Other = IsNoError bytes
