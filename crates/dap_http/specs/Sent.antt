-- Replies as they are sent (RFC 9112, sections 4 and 6; DAP 2.0, HTTP headers of responses and Error objects).
use Rattle.std.specs.Prelude.{ℕ, Bool, true, false, List, length, if◌then◌else◌, codes, Option, Some, None}
use Rattle.dap_errors.specs.Causes.{error_code, http_status, message_text}
use Rattle.dap_errors.specs.Printed.{error_text}
use Rattle.dap_errors.specs.declared.cause.Cause.{Cause}
use Rattle.dap_http.specs.Texts.{head_text}
use Rattle.dap_http.specs.declared.kind.Kind.{Kind}
use Rattle.dap_http.specs.declared.kind.Kind.TheVariants.{Dds, Das, Dods, Ver}

-- the Error object for a cause
abbrev pub error_object : Cause → List ℕ
error_object cause = error_text (error_code cause) (message_text cause)

-- the head before an Error object
abbrev pub error_head : Bool → Cause → List ℕ
error_head ends cause = head_text (http_status cause) (codes "dods_error") (Some (length (error_object cause))) false ends

-- data has no stated length
abbrev pub is_data : Kind → Bool
is_data Dods = true
is_data Dds = false
is_data Das = false
is_data Ver = false

abbrev pub stated_length : Kind → List ℕ → Option ℕ
stated_length kind text = if is_data kind then None else Some (length text)
