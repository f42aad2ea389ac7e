-- The name of a list, by its form.
use Rattle.std.proofs.Common.{◌≡◌, ◌≢◌, true, false, Option, Some, None, refl, ap}
use Rattle.dap_server.specs.Files.{Form, is_joined, joined, netcdf, saved, table}

-- the form of a list's name
pub list_form : (o : Option Form) → is_joined o ≡ true → o ≡ Some joined
list_form None is = cc is
list_form (Some netcdf) is = cc is
list_form (Some table) is = cc is
list_form (Some saved) is = cc is
list_form (Some joined) is = refl

pub no_list_form : (o : Option Form) → is_joined o ≡ false → o ≢ Some joined
no_list_form o is list = cc (ap is_joined list, is)

pub not_formless : {A : Type 0} (o : Option Form) → o ≡ Some joined → o ≡ None → A
not_formless o is none = cc (is, none)
