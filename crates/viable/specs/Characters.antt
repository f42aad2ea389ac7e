-- A byte by its character: `byte "{"` is that of a brace.
use Prim.Native.Char.{code}
use Prim.Native.String.{String, [], ◌∷◌}
use Rattle.std.specs.Prelude.{ℕ}

abbrev pub byte : String → ℕ
byte [] = 0
byte (c ∷ others) = code c
