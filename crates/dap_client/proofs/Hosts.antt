-- A host is a text, and that of a URL is a host.
use Rattle.std.proofs.Common.{◌≡◌, ℕ, zero, suc, ◌<◌, Bool, true, false, cond, drop, List, [], ◌∷◌, Option, Some, None, get_or, refl, subst, arith, tests}
use Rattle.std.specs.Prelude.{codes, nat_eq}
use Rattle.std.specs.List.{before_first, list_all, starts_with}
use Rattle.std.specs.Str.{IsUtf8}
use Rattle.std.proofs.lemmas.Bool.{and_parts}
use Rattle.std.proofs.lemmas.Str.{IsUtf8-from_ascii}
use Rattle.target_names.specs.Names.{is_slash}
use Rattle.dap_http.specs.Targets.{from_slash}
use Rattle.dap_http.specs.Urls.{UrlParts, from_colon, hosted, is_colon, is_host, is_host_byte, is_path, port_in, routed, url_of}

hosted-host : (host : List ℕ) (port : Option ℕ) (path : List ℕ) (u : UrlParts) → hosted host port path ≡ Some u → is_host u.host ≡ true
hosted-host host None path u e = cc e
hosted-host host (Some port) path u e = go (is_host host) refl e where
  go : (b : Bool) → is_host host ≡ b → cond b (Some (record { host = host; port = port; path = path })) None ≡ Some u → is_host u.host ≡ true
  go true is same = let one : record { host = host; port = port; path = path } ≡ u = cc in subst (λ (x : UrlParts). is_host x.host ≡ true) one is
  go false is same = cc same

routed-host : (authority : List ℕ) (path : Option (List ℕ)) (u : UrlParts) → routed authority path ≡ Some u → is_host u.host ≡ true
routed-host authority None u e = cc e
routed-host authority (Some path) u e = go (is_path path) e where
  go : (b : Bool) → cond b (hosted (before_first is_colon authority) (port_in (from_colon authority)) path) None ≡ Some u → is_host u.host ≡ true
  go true same = hosted-host (before_first is_colon authority) (port_in (from_colon authority)) path u same
  go false same = cc same

pub url-host : (text : List ℕ) (u : UrlParts) → url_of text ≡ Some u → is_host u.host ≡ true
unfolding url_of
url-host text u e = go (starts_with nat_eq text (codes "http://")) e where
  rest : List ℕ
  rest = drop 7 text

  go : (b : Bool) → cond b (routed (before_first is_slash rest) (from_slash rest)) None ≡ Some u → is_host u.host ≡ true
  go true same = routed-host (before_first is_slash rest) (from_slash rest) u same
  go false same = cc same

byte-small : (b : ℕ) → is_host_byte b ≡ true → b < 128
byte-small b e = grind (arith, tests, e)

small-bytes : (xs : List ℕ) → list_all is_host_byte xs ≡ true → (i : ℕ) → get_or xs i 0 < 128
small-bytes [] e i = omega arith
small-bytes (x ∷ xs) e zero = byte-small x (and_parts (is_host_byte x) (list_all is_host_byte xs) e).0
small-bytes (x ∷ xs) e (suc i) = small-bytes xs (and_parts (is_host_byte x) (list_all is_host_byte xs) e).1 i

pub host-text : (host : List ℕ) → is_host host ≡ true → IsUtf8 host
host-text host is =
    let (long, all) = and_parts _ (list_all is_host_byte host) is in
    IsUtf8-from_ascii host (small-bytes host all)
