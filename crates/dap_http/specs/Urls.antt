-- A URL without its kind (RFC 3986, section 3; RFC 9110, section 4.2.1), in steps that are this project's
-- profile.
use Rattle.std.specs.Prelude.{ℕ, Bool, ◌&&◌, ◌||◌, not, List, [], ◌∷◌, length, drop, if◌then◌else◌, ◌==◌, nat_le, nat_lt, nat_eq, codes, Option, Some, None}
use Rattle.std.specs.List.{before_first, list_all, position_or_len, starts_with}
use Rattle.std.specs.Char.{is_ascii_alphanumeric, is_ascii_digit}
use Rattle.std.specs.Str.Parse.{digits_value}
use Rattle.dap_types.specs.Limits.{most_host, most_port}
use Rattle.target_names.specs.Names.{is_slash}
use Rattle.dap_http.specs.Targets.{from_slash}

-- a host, a port and a path
pub record UrlParts : Type 0 where
  pub host : List ℕ
  pub port : ℕ
  pub path : List ℕ

-- 1 to 255 letters, digits, `-` and `.`
abbrev pub is_host_byte : ℕ → Bool
is_host_byte b = is_ascii_alphanumeric b || b == 45 || b == 46

abbrev pub is_host : List ℕ → Bool
is_host host = nat_lt 0 (length host) && nat_le (length host) most_host && list_all is_host_byte host

-- two or more bytes from 21 to 7e, in hexadecimal digits, but `?` and `#`
abbrev pub is_path_byte : ℕ → Bool
is_path_byte b = nat_le 33 b && nat_le b 126 && not (b == 63 || b == 35)

abbrev pub is_path : List ℕ → Bool
is_path path = nat_lt 1 (length path) && list_all is_path_byte path

-- 80 where there is none, else what 1 to 5 digits behind the `:` write, 1 to 65,535
abbrev pub is_short : List ℕ → Bool
is_short digits = nat_lt 0 (length digits) && nat_le (length digits) 5 && list_all is_ascii_digit digits

abbrev pub is_port : ℕ → Bool
is_port n = nat_lt 0 n && nat_le n most_port

abbrev pub numbered : ℕ → Option ℕ
numbered n = if is_port n then Some n else None

abbrev pub port_of : List ℕ → Option ℕ
port_of digits = if is_short digits then numbered (digits_value 10 digits) else None

abbrev pub port_in : List ℕ → Option ℕ
port_in [] = Some 80
port_in (colon ∷ digits) = port_of digits

abbrev pub is_colon : ℕ → Bool
is_colon b = b == 58

abbrev pub from_colon : List ℕ → List ℕ
from_colon authority = drop (position_or_len is_colon authority) authority

abbrev pub hosted : List ℕ → Option ℕ → List ℕ → Option UrlParts
hosted host None path = None
hosted host (Some port) path = if is_host host then Some (record { host = host; port = port; path = path }) else None

-- the host ends before the first `:` of what stands before the path, the path begins at the first `/`
abbrev pub routed : List ℕ → Option (List ℕ) → Option UrlParts
routed authority None = None
routed authority (Some path) = if is_path path then hosted (before_first is_colon authority) (port_in (from_colon authority)) path else None

-- what a URL says, or none where the text is none
unfoldable pub url_of : List ℕ → Option UrlParts
url_of text =
    if starts_with nat_eq text (codes "http://")
    then routed (before_first is_slash (drop 7 text)) (from_slash (drop 7 text))
    else None
