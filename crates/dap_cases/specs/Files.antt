-- What the cases take from the files of a shelf that tells them.
use Rattle.std.specs.Prelude.{◌≡◌, ◌++◌, ℕ, List, [], Option, codes, unwrap_or, Some}
use Rattle.std.specs.Str.Lines.{lines}
use Rattle.dap_cases.specs.Cases.{IsCase}
use Rattle.dap_cases.specs.declared.case.Case.{Case}

-- the bytes of the file of a name, none where there is no such file
abbrev pub held : (List ℕ → Option (List ℕ)) → List ℕ → List ℕ
held files name = unwrap_or (files name) []

-- the folder of the case of a name
abbrev pub folder_named : List ℕ → List ℕ
folder_named name = codes "cases/" ++ name ++ codes "/"

-- the case that the files of a folder are, whose name ends with `/`
abbrev pub IsCaseIn : (List ℕ → Option (List ℕ)) → List ℕ → Case → Type 0
IsCaseIn files folder c =
    IsCase (held files (folder ++ codes "args")) (held files (folder ++ codes "stdin")) (held files (folder ++ codes "stdout"))
    (held files (folder ++ codes "stderr")) (held files (folder ++ codes "status")) c

-- the names in the file `list`, one a line
abbrev pub AreListed : (List ℕ → Option (List ℕ)) → List (List ℕ) → Type 0
AreListed files names = (text : List ℕ) × (files (codes "list") ≡ Some text) × (names ≡ lines text)
