-- The printed text of an Error object (DAP 2.0, Error objects; the layout is this project's).
use Rattle.std.specs.Prelude.{ℕ, List, ◌++◌, codes}
use Rattle.std.specs.Fmt.{decimal}
use Rattle.viable.specs.Quoted.{escape}

-- the message stands between quotes, its own quotes and backslashes behind backslashes
unfoldable pub error_text : ℕ → List ℕ → List ℕ
error_text code message =
    codes "Error {\n    code = " ++ decimal code ++ codes ";\n    message = \"" ++ escape message ++ codes "\";\n};\n"
