use Rattle.std.proofs.Common.{◌∙◌, ap, Err}
use Rattle.http_header.specs.Token.{is_token_byte as header_token_byte}
use Rattle.httparse.specs.Grammar.{is_token_byte}
use Rattle.dap_http.proofs.head_judge.method_of.Goals as goal

pub unreachable-requires : goal.unreachable-requires
unfolding header_token_byte is_token_byte
unreachable-requires c = c.from_bytes.ensures.invalid.0 (c.in-Err-Invalid.is ∙ ap Err c.in-Err-Invalid.field-0-is) c.requires
