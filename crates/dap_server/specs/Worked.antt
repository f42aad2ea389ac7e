-- What the definitions say of some targets.
use Rattle.std.specs.Prelude.{◌≡◌, codes, Some, None, Ok, Err}
use Rattle.dap_errors.specs.declared.cause.Cause.TheVariants.{BadTarget, NoFile}
use Rattle.dap_http.specs.declared.kind.Kind.TheVariants.{Dds, Dods, Ver}
use Rattle.dap_server.specs.Files.{Files, form_of, joined, netcdf, saved, table}
use Rattle.dap_server.specs.Results.{Results, asked, result_text}

abbrev pub nothing : Files
nothing name = None

-- no file of that name; a target of no kind; the version, whatever the name
abbrev pub NoSuchFile : Type 0
NoSuchFile = Results (codes "none.csv.dods") nothing (Err NoFile)

abbrev pub NoKind : Type 0
NoKind = Results (codes "none.html") nothing (Err BadTarget)

abbrev pub AnyVersion : Type 0
AnyVersion = Results (codes "any.ver") nothing (Ok (result_text Ver (codes "Core version: DAP/2.0\nServer version: dap2/1.0\n")))

-- a query behind a name, and one with escapes
abbrev pub Call : Type 0
Call = asked (codes "/v.nc.dds?mean(v)") ≡ Ok (record { name = codes "v.nc"; kind = Dds; query = codes "mean(v)" })

abbrev pub Escaped : Type 0
Escaped = asked (codes "http://x/e.nc.dods?s%5B0%5D") ≡ Ok (record { name = codes "e.nc"; kind = Dods; query = codes "s[0]" })

-- how a file is read
abbrev pub Forms : Type 0
Forms = (form_of (codes "a/v.nc") ≡ Some netcdf) × (form_of (codes "buoys.csv") ≡ Some table) × (form_of (codes "x.nc.dods") ≡ Some saved) × (form_of (codes "a/x.join") ≡ Some joined) × (form_of (codes "a/.nc") ≡ None) × (form_of (codes "a.html") ≡ None)
