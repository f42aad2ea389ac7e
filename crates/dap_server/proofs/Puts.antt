-- What a sink has gained.
use Rattle.std.proofs.Common.{◌≡◌, ℕ, List, take, drop, Option, sym, subst, arith, length-drop, take-append-drop}
use Rattle.std.specs.Io.KnownBytes.{Appends}
use Rattle.dap_outside.specs.Streams.{AppendsFront}
use Rattle.dap_http.specs.Frames.{IsProperFront}

-- some bytes, from the front, and not all
pub part-of : (a b : Option (List ℕ)) (bytes : List ℕ) → AppendsFront a b bytes → (part : List ℕ) × IsProperFront part bytes × Appends a b part
part-of a b bytes (k, less, appends) = (take k bytes, (drop k bytes, omega (arith, less, length-drop k bytes), sym (take-append-drop k bytes)), appends)

-- any bytes, since a start at which it stood so
pub since-start : (w start out : Option (List ℕ)) → start ≡ w → (put : List ℕ) × Appends start out put → (put : List ℕ) × Appends w out put
since-start w start out same gained = subst (λ o. (put : List ℕ) × Appends o out put) same gained
