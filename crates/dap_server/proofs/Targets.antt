-- The worked targets, by computation.
use Rattle.std.proofs.Common.{refl, inl, inr}
use Rattle.target_names.specs.Names.{is_name}
use Rattle.file_names.specs.Names.{segment}
use Rattle.percent_encoding.specs.Percent.{percent_decode}
use Rattle.dap_errors.specs.declared.cause.Cause.TheVariants.{BadTarget, NoFile}
use Rattle.dap_http.specs.Targets.{target_of}
use Rattle.dap_http.specs.Texts.{version}
use Rattle.dap_server.specs.Worked.{NoSuchFile, NoKind, AnyVersion, Call, Escaped, Forms}

pub call : Call
unfolding target_of is_name percent_decode
call = refl

pub escaped : Escaped
unfolding target_of is_name percent_decode
escaped = refl

pub no_such_file : NoSuchFile
unfolding target_of is_name percent_decode segment
no_such_file = inl (_, refl, inr (NoFile, inr (NoFile, refl, refl), refl))

pub no_kind : NoKind
unfolding target_of is_name percent_decode
no_kind = inr (BadTarget, refl, refl)

pub any_version : AnyVersion
unfolding target_of is_name percent_decode version
any_version = inl (_, refl, refl)

pub forms : Forms
unfolding segment
forms = (refl, refl, refl, refl, refl, refl)
