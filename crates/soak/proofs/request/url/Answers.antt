use Rattle.std.proofs.Common.{◌≡◌, Some, None, Err, ap, ◌∙◌}
use Rattle.std.specs.Prelude.{codes}
use Rattle.dap_http.specs.Urls.{UrlParts, url_of}
use Rattle.soak.specs.Asked.{url_text}
use Rattle.soak.proofs.Requested.{url-is}
use Rattle.soak.proofs.request.url.Goals as goal

no-none : (a : UrlParts) → url_of url_text ≡ Some a → url_of url_text ≡ None → ⊥
no-none a is none = cc (is, none)

same : (a b : UrlParts) → url_of url_text ≡ Some a → url_of url_text ≡ Some b → a ≡ b
same a b is other = cc (is, other)

pub unreachable-requires : goal.unreachable-requires
unreachable-requires c =
    no-none (record { host = codes "localhost"; port = 80; path = codes "/soak.nc" }) url-is (c.read.ensures.bad (c.in-Err-BadUrl.is ∙ ap Err c.in-Err-BadUrl.field-0-is))

pub returns-in-Ok : goal.returns-in-Ok
returns-in-Ok c =
    let u = c.in-Ok.url in
    let e =
    same (record { host = u.host; port = u.port; path = u.path }) (record { host = codes "localhost"; port = 80; path = codes "/soak.nc" }) c.in-Ok.ensures.ok url-is in
    (ap (λ (p : UrlParts). p.host) e, ap (λ (p : UrlParts). p.port) e, ap (λ (p : UrlParts). p.path) e)
