use Rattle.std.proofs.Common.{◌∙◌, ap}
use Rattle.dap_http.specs.Urls.{is_host}
use Rattle.dap_client.proofs.Hosts.{url-host}
use Rattle.dap_client.specs.Fetched.{parts_of}
use Rattle.dap_client.proofs.host.host_of.Goals as goal

pub host_text-requires : goal.host_text-requires
host_text-requires c =
    let (text, is) = c.requires in
    ap is_host c.bytes.ensures ∙ url-host text (parts_of c.args.url.now) is
