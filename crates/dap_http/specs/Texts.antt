-- The heads that are sent (RFC 9112, sections 3, 4 and 5), and the texts that no file has a part in. Their
-- layout is this project's.
use Rattle.std.specs.Prelude.{◌≡◌, ℕ, ◌/◌, ◌%◌, ◌⊎◌, Bool, true, false, ◌||◌, List, [], ◌∷◌, ◌++◌, length, if◌then◌else◌, ◌==◌, codes, decimal, unwrap_or, Option, Some, None}
use Rattle.std.specs.List.{flat_map, list_any}
use Rattle.std.specs.Char.{is_ascii_alphanumeric}
use Rattle.std.specs.Fmt.{digit_glyph}
use Rattle.std.specs.Str.{bytes_eq}
use Rattle.http.specs.StatusCode.{code_digits, reason_phrase}
use Rattle.dap_errors.specs.Causes.{error_code, http_status, message_text}
use Rattle.dap_errors.specs.Printed.{error_text}
use Rattle.dap_errors.specs.declared.cause.Cause.TheVariants.{OutOfMemory}
use Rattle.dap_http.specs.Targets.{suffix_of}
use Rattle.dap_http.specs.declared.kind.Kind.{Kind}
use Rattle.dap_http.specs.declared.kind.Kind.TheVariants.{Dds, Das, Dods, Ver}

-- a status that a reply may have
abbrev pub IsReplyStatus : ℕ → Type 0
IsReplyStatus n = (n ≡ 200) ⊎ ((n ≡ 400) ⊎ ((n ≡ 404) ⊎ ((n ≡ 405) ⊎ ((n ≡ 431) ⊎ ((n ≡ 500) ⊎ ((n ≡ 502) ⊎ (n ≡ 503)))))))

abbrev pub status_line : ℕ → List ℕ
status_line status = codes "HTTP/1.1 " ++ code_digits status ++ codes " " ++ unwrap_or (reason_phrase status) [] ++ codes "\r\n"

abbrev pub server_lines : List ℕ
server_lines = codes "XDODS-Server: dap2/1.0\r\nXDAP: 2.0\r\n"

-- the methods that are allowed, where another was asked for
abbrev pub allow_line : ℕ → List ℕ
allow_line status = if status == 405 then codes "Allow: GET, HEAD\r\n" else []

-- what the body of each kind is called; that of an Error object is `dods_error`
abbrev pub description_of : Kind → List ℕ
description_of Dds = codes "dods_dds"
description_of Das = codes "dods_das"
description_of Dods = codes "dods_data"
description_of Ver = codes "dods_version"

-- data is sent in chunks where the request's version knows them (RFC 9112, section 6.1)
abbrev pub is_chunked : Kind → ℕ → Bool
is_chunked Dods minor = minor == 1
is_chunked kind minor = false

-- data is bytes, all else is text
abbrev pub content_type : List ℕ → List ℕ
content_type description = if bytes_eq description (codes "dods_data") then codes "application/octet-stream" else codes "text/plain"

-- what the body is
abbrev pub description_lines : List ℕ → List ℕ
description_lines description =
    codes "Content-Description: " ++ description ++ codes "\r\nContent-Type: "
    ++ content_type description ++ codes "\r\n"

-- how its length is told: by a number, else by chunks, else not at all
abbrev pub length_line : Option ℕ → Bool → List ℕ
length_line (Some n) in_chunks = codes "Content-Length: " ++ decimal n ++ codes "\r\n"
length_line None in_chunks = if in_chunks then codes "Transfer-Encoding: chunked\r\n" else []

abbrev pub close_line : Bool → List ℕ
close_line close = if close then codes "Connection: close\r\n" else []

-- the head of a reply
unfoldable pub head_text : ℕ → List ℕ → Option ℕ → Bool → Bool → List ℕ
head_text status description len in_chunks close =
    status_line status ++ server_lines ++ allow_line status ++ description_lines description
    ++ length_line len in_chunks ++ close_line close ++ codes "\r\n"

-- a letter, a digit or one of - _ . ~ , & = : /
unfoldable pub is_plain : ℕ → Bool
is_plain b = is_ascii_alphanumeric b || list_any (λ c. c == b) (codes "-_.~,&=:/")

-- the byte, or a percent sign and its two digits in capitals (RFC 3986, section 2.1)
abbrev pub escaped_byte : ℕ → List ℕ
escaped_byte b = if is_plain b then b ∷ [] else 37 ∷ digit_glyph true (b / 16 % 16) ∷ digit_glyph true (b % 16) ∷ []

abbrev pub escaped : List ℕ → List ℕ
escaped bytes = flat_map escaped_byte bytes

-- `?` and the constraint, where it is not empty
abbrev pub query_text : List ℕ → List ℕ
query_text [] = []
query_text (b ∷ ce) = 63 ∷ escaped (b ∷ ce)

-- the first line of a request for a path, a kind and a constraint
abbrev pub request_line : List ℕ → Kind → List ℕ → List ℕ
request_line path kind ce = codes "GET " ++ path ++ suffix_of kind ++ query_text ce ++ codes " HTTP/1.1\r\n"

-- to whom it goes, and who asks
abbrev pub host_lines : List ℕ → ℕ → List ℕ
host_lines host port = codes "Host: " ++ host ++ codes ":" ++ decimal port ++ codes "\r\nUser-Agent: dap2/1.0\r\nAccept-Encoding: identity\r\n"

-- the head of a request
unfoldable pub request_text : List ℕ → ℕ → List ℕ → Kind → List ℕ → Bool → List ℕ
request_text host port path kind ce close =
    request_line path kind ce ++ host_lines host port ++ close_line close ++ codes "\r\n"

unfoldable pub version : List ℕ
version = codes "Core version: DAP/2.0\nServer version: dap2/1.0\n"

-- the Error object for a want of memory (DAP 2.0, Error objects)
unfoldable pub memory_error : List ℕ
memory_error = error_text (error_code OutOfMemory) (message_text OutOfMemory)

-- the whole reply for a want of memory, or its head alone
unfoldable pub memory_text : Bool → List ℕ
memory_text head =
    head_text (http_status OutOfMemory) (codes "dods_error") (Some (length memory_error)) false true ++ (if head then [] else memory_error)
