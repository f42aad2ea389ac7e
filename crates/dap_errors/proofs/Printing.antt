-- The pieces of a printed Error object, one behind the other.
use Rattle.std.proofs.Common.{◌≡◌, ℕ, List, [], ◌++◌, append_assoc}
use Rattle.std.specs.Prelude.{codes}
use Rattle.std.specs.Fmt.{decimal}
use Rattle.viable.specs.Quoted.{escape}
use Rattle.dap_errors.specs.Printed.{error_text}

pub in_order : (none one two three four five a b c d e : List ℕ) → none ≡ [] → one ≡ none ++ a → two ≡ one ++ b → three ≡ two ++ c → four ≡ three ++ d → five ≡ four ++ e
    → five ≡ a ++ b ++ c ++ d ++ e
in_order none one two three four five a b c d e h1 h2 h3 h4 h5 h6 = rw (h6, h5, h4, h3, h2, h1) (simp append_assoc)

pub printed : (code : ℕ) (message text : List ℕ) → text ≡ codes "Error {\n    code = " ++ decimal code ++ codes ";\n    message = \"" ++ escape message ++ codes "\";\n};\n" → text ≡ error_text code message
unfolding error_text
printed code message text e = e
