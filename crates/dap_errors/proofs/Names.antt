-- Words by their names.
use Rattle.std.proofs.Common.{◌≡◌, refl, Some, None, true, false}
use Rattle.std.specs.Prelude.{codes}
use Rattle.text_tokens.specs.Tokens.{Token, sign, word, quoted}
use Rattle.dap_errors.specs.Object.{is_error_word}
use Rattle.dap_errors.specs.inner.Machine.{Start, Named, step}
use Rattle.dap_errors.specs.inner.Standing.{has_name}

-- a word of this name is the word of an object
pub start_named : (t : Token) → has_name (codes "error") t ≡ true → step Start t ≡ Some Named
unfolding is_error_word
start_named (word w) h = rw h refl
start_named (sign b) h = cc
start_named (quoted p) h = cc

pub start_other : (t : Token) → has_name (codes "error") t ≡ false → step Start t ≡ None
unfolding is_error_word
start_other (word w) h = rw h refl
start_other (sign b) h = refl
start_other (quoted p) h = refl
