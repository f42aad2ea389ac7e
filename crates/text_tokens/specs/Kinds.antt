-- What the kind of a token says of it.
use Rattle.std.specs.Prelude.{◌≡◌, ℕ, List}
use Rattle.viable.specs.Quoted.{Piece}
use Rattle.text_tokens.specs.Tokens.{Token, sign, word, quoted}
use Rattle.text_tokens.specs.declared.tokens.Kind.{Kind}
use Rattle.text_tokens.specs.declared.tokens.Kind.TheVariants as kinds

abbrev pub IsKind : Kind → Token → Type 0
IsKind (kinds.Sign b) token = token ≡ sign b
IsKind kinds.Word token = (bytes : List ℕ) × (token ≡ word bytes)
IsKind kinds.Quoted token = (pieces : List Piece) × (token ≡ quoted pieces)
