-- The reply to the request for the generated file (RFC 9112, sections 6.1 and 7.1).
use Rattle.std.specs.Prelude.{ℕ, true, List, ◌++◌, None}
use Rattle.dap_http.specs.Frames.{framed}
use Rattle.dap_http.specs.Texts.{description_of, head_text}
use Rattle.dap_http.specs.declared.kind.Kind.TheVariants.{Dods}
use Rattle.soak.specs.Numbers.{soak_body}

-- the head, behind which the connection ends, and the body in chunks
abbrev pub reply : ℕ → ℕ → List ℕ
reply start records = head_text 200 (description_of Dods) None true true ++ framed true (soak_body start records)
