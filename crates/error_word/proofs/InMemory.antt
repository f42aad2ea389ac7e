-- The first word of a body of which all bytes are there.
use Rattle.std.proofs.Common.{◌≡◌, ℕ, true, false, List, [], sym, ap, ◌∙◌, append-nil}
use Rattle.dap_model.specs.Tokens.{tokens_of}
use Rattle.error_word.specs.Saying.{begins_error, says_error}
use Rattle.error_word.specs.inner.FirstWords.{IsError, IsNoError}

pub no_error : (bytes : List ℕ) → tokens_of bytes ≡ [] → says_error bytes ≡ false
unfolding says_error
no_error bytes none = ap begins_error none

pub no_error_here : (bytes : List ℕ) → IsNoError bytes → says_error bytes ≡ false
no_error_here bytes none = ap says_error (sym (append-nil bytes)) ∙ none []

pub error_here : (bytes : List ℕ) → IsError bytes → says_error bytes ≡ true
error_here bytes error = ap says_error (sym (append-nil bytes)) ∙ error []
