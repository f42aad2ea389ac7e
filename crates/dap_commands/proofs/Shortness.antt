-- The Error object of a cause is short.
use Rattle.std.proofs.Common.{ℕ, ◌+◌, ◌*◌, ◌<◌, ◌≤◌, ◌^◌, Bool, true, false, List, [], ◌∷◌, ◌++◌, length, codes, arith, length-append, lit≤}
use Rattle.std.specs.Prelude.{◌==◌, ◌||◌, if◌then◌else◌}
use Rattle.std.specs.Fmt.{decimal}
use Rattle.std.specs.List.{flat_map}
use Rattle.std.proofs.lemmas.Fmt.{length-decimal-le}
use Rattle.viable.specs.Quoted.{escape, escaped_piece, piece_bytes}
use Rattle.dap_errors.specs.Causes.{error_code, file_cause_text, message_text, spot_text}
use Rattle.dap_errors.specs.Printed.{error_text}
use Rattle.dap_errors.specs.declared.spot.Spot.{Spot}
use Rattle.dap_errors.specs.declared.spot.Spot.TheVariants as spots
use Rattle.dap_errors.specs.declared.file_cause.FileCause.{FileCause}
use Rattle.dap_errors.specs.declared.file_cause.FileCause.TheVariants as files
use Rattle.dap_errors.specs.declared.cause.Cause.{Cause}
use Rattle.dap_errors.specs.declared.cause.Cause.TheVariants as causes
use Rattle.dap_commands.specs.Causes.{IsCause, IsFileCause, IsSpot}

digits : (n : ℕ) → n < 2 ^ 64 → length (decimal n) ≤ 20
digits n small = length-decimal-le 20 n (omega arith) (omega (arith, small)) (omega (arith, small))

word-digits : (n : ℕ) → n < 2 ^ 32 → length (decimal n) ≤ 20
word-digits n small = digits n (omega (arith, small))

-- so many bytes, and a number
said : (text : List ℕ) (n k : ℕ) → length (decimal n) ≤ 20 → length text ≤ k → length (text ++ decimal n) ≤ k + 20
said text n k few short = omega (arith, few, short, length-append text (decimal n))

more : (a b : List ℕ) (k m : ℕ) → length a ≤ k → length b ≤ m → length (a ++ b) ≤ k + m
more a b k m one two = omega (arith, one, two, length-append a b)

spot-short : (spot : Spot) → IsSpot spot → length (spot_text spot) ≤ 40
spot-short (spots.Item n) is = said (codes "item ") n 20 (word-digits n is) (lit≤ tt)
spot-short (spots.Clause n) is = said (codes "clause ") n 20 (word-digits n is) (lit≤ tt)

file-short : (why : FileCause) → IsFileCause why → length (file_cause_text why) ≤ 120
file-short (files.BadField place) is = omega (arith, said (codes "bad field at ") place 40 (digits place is) (lit≤ tt))
file-short (files.PastEnd var) is = omega (arith, more (codes "variable " ++ decimal var) (codes " past the end") 40 40 (said (codes "variable ") var 20 (word-digits var is) (lit≤ tt)) (lit≤ tt))
file-short (files.RepeatedColumn column) is = omega (arith, said (codes "repeated column ") column 40 (word-digits column is) (lit≤ tt))
file-short (files.Ragged row) is = omega (arith, said (codes "ragged row ") row 40 (word-digits row is) (lit≤ tt))
file-short (files.BadCell row column) is =
    said (codes "bad cell in row " ++ decimal row ++ codes " column ") column 100 (word-digits column is.1)
    (more (codes "bad cell in row " ++ decimal row) (codes " column ") 60 40 (said (codes "bad cell in row ") row 40 (word-digits row is.0) (lit≤ tt)) (lit≤ tt))
file-short (files.BadBody place) is = omega (arith, said (codes "bad body at ") place 40 (digits place is) (lit≤ tt))
file-short (files.RepeatedName member) is = omega (arith, said (codes "repeated name in member ") member 40 (word-digits member is) (lit≤ tt))
file-short (files.BadLine line) is = omega (arith, said (codes "bad line ") line 40 (word-digits line is) (lit≤ tt))
file-short (files.NoMember line) is = omega (arith, said (codes "no member in line ") line 40 (word-digits line is) (lit≤ tt))
file-short (files.BadMember line) is = omega (arith, said (codes "bad member in line ") line 40 (word-digits line is) (lit≤ tt))
file-short (files.Differs line) is = omega (arith, more (codes "member " ++ decimal line) (codes " differs") 40 40 (said (codes "member ") line 20 (word-digits line is) (lit≤ tt)) (lit≤ tt))
file-short files.NotCdf is = lit≤ tt
file-short files.Streaming is = lit≤ tt
file-short files.HeaderCut is = lit≤ tt
file-short files.HeaderTooLong is = lit≤ tt
file-short files.TooLong is = lit≤ tt
file-short files.NoHeader is = lit≤ tt
file-short files.TooWide is = lit≤ tt
file-short files.SavedTooLong is = lit≤ tt
file-short files.JoinTooLong is = lit≤ tt
file-short files.NoRecord is = lit≤ tt
file-short files.TooManyRecords is = lit≤ tt

at-spot : (text : List ℕ) (spot : Spot) → IsSpot spot → length text ≤ 40 → length (text ++ spot_text spot) ≤ 200
at-spot text spot is short = omega (arith, more text (spot_text spot) 40 40 short (spot-short spot is))

message-short : (why : Cause) → IsCause why → length (message_text why) ≤ 200
message-short (causes.Syntax place) is = omega (arith, said (codes "syntax at ") place 40 (digits place is) (lit≤ tt))
message-short (causes.UnknownName spot) is = at-spot (codes "unknown name in ") spot is (lit≤ tt)
message-short (causes.NotArray spot) is = at-spot (codes "not an array in ") spot is (lit≤ tt)
message-short (causes.SlabCount spot) is = at-spot (codes "slab count in ") spot is (lit≤ tt)
message-short (causes.BadSlab spot) is = at-spot (codes "bad slab in ") spot is (lit≤ tt)
message-short (causes.TwoSlabs spot) is = at-spot (codes "two slabs in ") spot is (lit≤ tt)
message-short (causes.TooMany spot) is = at-spot (codes "too many in ") spot is (lit≤ tt)
message-short (causes.NotColumn spot) is = at-spot (codes "not a column in ") spot is (lit≤ tt)
message-short (causes.TypeMismatch spot) is = at-spot (codes "type mismatch in ") spot is (lit≤ tt)
message-short (causes.FloatCompared spot) is = at-spot (codes "float compared in ") spot is (lit≤ tt)
message-short (causes.Unsupported spot) is = at-spot (codes "unsupported in ") spot is (lit≤ tt)
message-short (causes.BigNumber spot) is = at-spot (codes "big number in ") spot is (lit≤ tt)
message-short (causes.TooLarge leaf) is = omega (arith, said (codes "too large: leaf ") leaf 40 (word-digits leaf is) (lit≤ tt))
message-short (causes.Damaged why) is = omega (arith, more (codes "damaged file: ") (file_cause_text why) 40 120 (lit≤ tt) (file-short why is))
message-short (causes.UpstreamBad place) is = omega (arith, said (codes "bad upstream reply at ") place 40 (digits place is) (lit≤ tt))
message-short causes.BadTarget is = lit≤ tt
message-short causes.NoFile is = lit≤ tt
message-short causes.BadMethod is = lit≤ tt
message-short causes.BadRequest is = lit≤ tt
message-short causes.HeadTooLong is = lit≤ tt
message-short causes.ReadFailed is = lit≤ tt
message-short causes.OutOfMemory is = lit≤ tt
message-short causes.UpstreamFault is = lit≤ tt
message-short causes.UpstreamLarge is = lit≤ tt

code-short : (why : Cause) → error_code why < 100
code-short (causes.Syntax place) = omega arith
code-short (causes.UnknownName spot) = omega arith
code-short (causes.NotArray spot) = omega arith
code-short (causes.SlabCount spot) = omega arith
code-short (causes.BadSlab spot) = omega arith
code-short (causes.TwoSlabs spot) = omega arith
code-short (causes.TooMany spot) = omega arith
code-short (causes.NotColumn spot) = omega arith
code-short (causes.TypeMismatch spot) = omega arith
code-short (causes.FloatCompared spot) = omega arith
code-short (causes.Unsupported spot) = omega arith
code-short (causes.BigNumber spot) = omega arith
code-short (causes.TooLarge leaf) = omega arith
code-short (causes.Damaged why) = omega arith
code-short (causes.UpstreamBad place) = omega arith
code-short causes.BadTarget = omega arith
code-short causes.NoFile = omega arith
code-short causes.BadMethod = omega arith
code-short causes.BadRequest = omega arith
code-short causes.HeadTooLong = omega arith
code-short causes.ReadFailed = omega arith
code-short causes.OutOfMemory = omega arith
code-short causes.UpstreamFault = omega arith
code-short causes.UpstreamLarge = omega arith

-- escaping at most doubles a text
piece-two : (b : ℕ) → length (piece_bytes (escaped_piece b)) ≤ 2
piece-two b = go (b == 34 || b == 92) where
  go : (c : Bool) → length (piece_bytes (if c then Rattle.viable.specs.Quoted.escaped b else Rattle.viable.specs.Quoted.plain b)) ≤ 2
  go true = lit≤ tt
  go false = lit≤ tt

escape-double : (xs : List ℕ) → length (escape xs) ≤ length xs * 2
unfolding escape
escape-double [] = lit≤ tt
escape-double (x ∷ xs) = omega (arith, piece-two x, escape-double xs, length-append (piece_bytes (escaped_piece x)) (flat_map (λ b. piece_bytes (escaped_piece b)) xs))

pub object-short : (why : Cause) → IsCause why → length (error_text (error_code why) (message_text why)) < 10 ^ 18
unfolding error_text
object-short why is =
    let code = decimal (error_code why) in
    let message = escape (message_text why) in
    let few : length code ≤ 20 = word-digits (error_code why) (omega (arith, code-short why)) in
    let short : length message ≤ 400 = omega (arith, escape-double (message_text why), message-short why is) in
    let a : length (codes "Error {\n    code = " ++ code) ≤ 60 = more (codes "Error {\n    code = ") code 40 20 (lit≤ tt) few in
    let b : length (codes "Error {\n    code = " ++ code ++ codes ";\n    message = \"") ≤ 100 = more (codes "Error {\n    code = " ++ code) (codes ";\n    message = \"") 60 40 a (lit≤ tt) in
    let c : length (codes "Error {\n    code = " ++ code ++ codes ";\n    message = \"" ++ message) ≤ 500 = more (codes "Error {\n    code = " ++ code ++ codes ";\n    message = \"") message 100 400 b short in
    let all = more (codes "Error {\n    code = " ++ code ++ codes ";\n    message = \"" ++ message) (codes "\";\n};\n") 500 40 c (lit≤ tt) in
    omega (arith, all)
