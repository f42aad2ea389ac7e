-- What is asked of the generated file: a part of each of its variables (DAP 2.0, constraint expressions).
use Rattle.std.specs.Prelude.{ℕ, pos, true, ◌-◌, List, [], ◌∷◌, ◌++◌, None, Some, codes}
use Rattle.std.specs.Fmt.{decimal}
use Rattle.constraint_parse.specs.declared.constraint.Constraint.{Constraint}
use Rattle.constraint_parse.specs.declared.constraint.Item.TheVariants.{Path}
use Rattle.constraint_parse.specs.declared.constraint.Number.TheVariants.{Small}
use Rattle.constraint_parse.specs.declared.constraint.RawSlab.{RawSlab}
use Rattle.dap_http.specs.Texts.{request_text}
use Rattle.dap_http.specs.declared.kind.Kind.TheVariants.{Dods}
use Rattle.grid_projection.specs.Worked.{by, to}

abbrev pub file_name : List ℕ
file_name = codes "soak.nc"

-- s[0:2:L][0:31][1:3:31],i[0:L][31:31][0:31], L being the last record
abbrev pub constraint_text : ℕ → List ℕ
constraint_text records =
    let last = decimal (records - 1) in codes "s[0:2:" ++ (last ++ (codes "][0:31][1:3:31],i[0:" ++ (last ++ codes "][31:31][0:31]")))

-- what that text spells
abbrev pub soak_constraint : ℕ → Constraint
soak_constraint last = record {
  items = Path (record { name = codes "s"; slabs = by 0 2 last ∷ to 0 31 ∷ by 1 3 31 ∷ [] } ∷ [])
      ∷ Path (record { name = codes "i"; slabs = to 0 last ∷ to 31 31 ∷ to 0 31 ∷ [] } ∷ []) ∷ [];
  clauses = [];
}

-- ---- The request for it (RFC 9112, section 3.2; RFC 3986, section 2.1).

abbrev pub url_text : List ℕ
url_text = codes "http://localhost/soak.nc"

abbrev pub request : ℕ → List ℕ
request records = request_text (codes "localhost") 80 (codes "/soak.nc") Dods (constraint_text records) true

-- its target: the brackets are escaped
abbrev pub target : ℕ → List ℕ
target records =
    let last = decimal (records - 1) in codes "/soak.nc.dods?s%5B0:2:" ++ (last ++ (codes "%5D%5B0:31%5D%5B1:3:31%5D,i%5B0:" ++ (last ++ codes "%5D%5B31:31%5D%5B0:31%5D")))
