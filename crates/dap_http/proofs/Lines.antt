-- A line that fits is run over, byte by byte, to what comes behind it.
use Rattle.std.proofs.Common.{◌≡◌, ℕ, ◌+◌, ◌*◌, ◌<◌, ◌≤◌, Bool, true, false, not, List, [], ◌∷◌, ◌++◌, length, refl, sym, ap, ◌∙◌, arith, append_assoc, length-append, inl, inr, Option, Some, None}
use Rattle.std.specs.Prelude.{if◌then◌else◌, ◌==◌, ◌||◌, nat_lt, IsTrue}
use Rattle.std.specs.Char.{is_ascii_hexdigit, digit_value}
use Rattle.std.specs.Str.Parse.{digits_value, digits_value_after}
use Rattle.std.proofs.lemmas.Bool.{lt-ltb, le-ltb, eqb-true, true≢false, or_cases}
use Rattle.std.proofs.lemmas.List.Elements.{All-head, All-tail}
use Rattle.httparse.specs.Ascii.{crlf_bytes}
use Rattle.httparse.specs.Grammar.{AllPass, ChunkLine, chunk_size, IsExtension, is_extension_byte, is_ows, print_chunk_line, print_extension, print_end, crlf}
use Rattle.dap_http.specs.declared.chunk_step.At.{At}
use Rattle.dap_http.specs.declared.chunk_step.At.TheVariants.{Line, Digits, Blanks, Extension, LineFeed, Data, Fresh, Bad}
use Rattle.dap_http.specs.Chunks.{IsSizeLine}
use Rattle.dap_http.specs.inner.Steps.{behind_line, is_data, is_done, is_start, run, step, step_blanks}
use Rattle.dap_http.proofs.Runs.{begins, known, run-append, stays}

-- ---- one byte

pub step-hex : (n s b : ℕ) → is_ascii_hexdigit b ≡ true → n < 8 → step (Digits n s) b ≡ Digits (n + 1) (s * 16 + digit_value b)
step-hex n s b hex few =
    ap (λ v. if v then (if nat_lt n 8 then Digits (n + 1) (s * 16 + digit_value b) else Bad) else step_blanks n s b) hex
    ∙ ap (λ v. if v then Digits (n + 1) (s * 16 + digit_value b) else Bad) (lt-ltb n 8 few)

pub step-first : (b : ℕ) → is_ascii_hexdigit b ≡ true → step Line b ≡ Digits 1 (digit_value b)
step-first b hex = ap (λ v. if v then Digits 1 (digit_value b) else Bad) hex

-- behind its digits a line goes on with blanks or an extension, or ends
pub data IsBehind (n s : ℕ) : At → Type 0 where
  digits : IsBehind n s (Digits n s)
  blanks : IsBehind n s (Blanks n s)

pub step-behind : (n s : ℕ) (at : At) (b : ℕ) → IsBehind n s at → is_ascii_hexdigit b ≡ false → step at b ≡ step_blanks n s b
step-behind n s at b digits non = ap (λ v. if v then (if nat_lt n 8 then Digits (n + 1) (s * 16 + digit_value b) else Bad) else step_blanks n s b) non
step-behind n s at b blanks non = refl

pub ows-no-hex : (b : ℕ) → is_ows b ≡ true → is_ascii_hexdigit b ≡ false
ows-no-hex b ows = elim (or_cases (b == 32) (b == 9) ows) [
  | inl e ↦ let same : b ≡ 32 = eqb-true b 32 e in rw same refl
  | inr e ↦ let same : b ≡ 9 = eqb-true b 9 e in rw same refl
]

pub ows-no-cr : (b : ℕ) → is_ows b ≡ true → (b == 13) ≡ false
ows-no-cr b ows = elim (or_cases (b == 32) (b == 9) ows) [
  | inl e ↦ let same : b ≡ 32 = eqb-true b 32 e in rw same refl
  | inr e ↦ let same : b ≡ 9 = eqb-true b 9 e in rw same refl
]

pub step-ows : (n s b : ℕ) → is_ows b ≡ true → n ≤ 1021 → step_blanks n s b ≡ Blanks (n + 1) s
step-ows n s b ows few =
    ap (λ v. if v then LineFeed s else if nat_lt 1021 n then Bad else if is_ows b then Blanks (n + 1) s else if b == 59 then Extension (n + 1) s else Bad) (ows-no-cr b ows)
    ∙ ap (λ v. if v then Bad else if is_ows b then Blanks (n + 1) s else if b == 59 then Extension (n + 1) s else Bad) (le-ltb 1021 n few)
    ∙ ap (λ v. if v then Blanks (n + 1) s else if b == 59 then Extension (n + 1) s else Bad) ows

pub step-semicolon : (n s : ℕ) → n ≤ 1021 → step_blanks n s 59 ≡ Extension (n + 1) s
step-semicolon n s few = ap (λ v. if v then Bad else Extension (n + 1) s) (le-ltb 1021 n few)

pub step-extension : (n s b : ℕ) → (b == 13) ≡ false → (b == 10) ≡ false → n ≤ 1021 → step (Extension n s) b ≡ Extension (n + 1) s
step-extension n s b cr lf few =
    ap (λ v. if v then LineFeed s else if b == 10 || nat_lt 1021 n then Bad else Extension (n + 1) s) cr
    ∙ ap (λ v. if v || nat_lt 1021 n then Bad else Extension (n + 1) s) lf
    ∙ ap (λ v. if v then Bad else Extension (n + 1) s) (le-ltb 1021 n few)

starts-behind : (s : ℕ) → is_start (behind_line s) ≡ true
starts-behind s = go (s == 0) where
  go : (v : Bool) → is_start (if v then Fresh 16384 else Data s) ≡ true
  go true = refl
  go false = refl

-- ---- the bytes of a chunk line

pub run-digits : (ds : List ℕ) → AllPass is_ascii_hexdigit ds → (n s u f m v : ℕ) (body : List ℕ) → m ≡ n + length ds → v ≡ u + length ds → m ≤ 8
    → run (known (Digits n s) u f body) ds ≡ known (Digits m (digits_value_after 16 s ds)) v f body
run-digits [] all n s u f m v body p q few =
    let em : m ≡ n = omega (arith, p) in
    let ev : v ≡ u = omega (arith, q) in
    rw (em, ev) refl
run-digits (d ∷ ds) all n s u f m v body p q few =
    let hex : is_ascii_hexdigit d ≡ true = All-head (λ b. IsTrue (is_ascii_hexdigit b)) d ds all in
    let one : step (Digits n s) d ≡ Digits (n + 1) (s * 16 + digit_value d) = step-hex n s d hex (omega (arith, p, few)) in
    let first = stays (Digits n s) (Digits (n + 1) (s * 16 + digit_value d)) u f body d one refl refl refl in
    ap (λ k. run k ds) first
    ∙ run-digits ds (All-tail (λ b. IsTrue (is_ascii_hexdigit b)) d ds all) (n + 1) (s * 16 + digit_value d) (u + 1) f m v body (omega (arith, p)) (omega (arith, q)) few

-- a line end
run-end : (at : At) (s u f v : ℕ) (body : List ℕ) → step at 13 ≡ LineFeed s → is_done at ≡ false → is_data at ≡ false → v ≡ u + 2
    → run (known at u f body) (13 ∷ 10 ∷ []) ≡ known (behind_line s) v v body
run-end at s u f v body one done dat p =
    let first = stays at (LineFeed s) u f body 13 one done dat refl in
    let last = begins (LineFeed s) (behind_line s) (u + 1) f body 10 refl refl refl (starts-behind s) in
    let same : v ≡ (u + 1) + 1 = omega (arith, p) in
    ap (λ k. run k (10 ∷ [])) first ∙ last ∙ ap (λ n. known (behind_line s) n n body) (sym same)

extension-no : (b : ℕ) → is_extension_byte b ≡ true → ((b == 13) ≡ false) × ((b == 10) ≡ false)
extension-no b e = go (b == 13) (b == 10) e where
  go : (x y : Bool) → not (x || y) ≡ true → (x ≡ false) × (y ≡ false)
  go false false p = (refl, refl)
  go false true p = absurd (true≢false (sym p))
  go true y p = absurd (true≢false (sym p))

run-extension : (t : List ℕ) → AllPass is_extension_byte t → (n s u f v : ℕ) (body : List ℕ) → v ≡ u + length t + 2 → n + length t ≤ 1022
    → run (known (Extension n s) u f body) (t ++ (13 ∷ 10 ∷ [])) ≡ known (behind_line s) v v body
run-extension [] all n s u f v body p few = run-end (Extension n s) s u f v body refl refl refl (omega (arith, p))
run-extension (x ∷ t) all n s u f v body p few =
    let (cr, lf) = extension-no x (All-head (λ b. IsTrue (is_extension_byte b)) x t all) in
    let one = step-extension n s x cr lf (omega (arith, few)) in
    let first = stays (Extension n s) (Extension (n + 1) s) u f body x one refl refl refl in
    ap (λ k. run k (t ++ (13 ∷ 10 ∷ []))) first
    ∙ run-extension t (All-tail (λ b. IsTrue (is_extension_byte b)) x t all) (n + 1) s (u + 1) f v body (omega (arith, p)) (omega (arith, few))

behind-done : (n s : ℕ) (at : At) → IsBehind n s at → (is_done at ≡ false) × (is_data at ≡ false)
behind-done n s at digits = (refl, refl)
behind-done n s at blanks = (refl, refl)

run-behind : (pad : List ℕ) → AllPass is_ows pad → (e : Option (List ℕ)) → IsExtension e → (n s u f v : ℕ) (at : At) (body : List ℕ) → IsBehind n s at
    → v ≡ u + length pad + length (print_extension e) + 2 → n + length pad + length (print_extension e) ≤ 1022
    → run (known at u f body) (pad ++ (print_extension e ++ (13 ∷ 10 ∷ []))) ≡ known (behind_line s) v v body
run-behind [] all None ext n s u f v at body behind p few =
    let (done, dat) = behind-done n s at behind in
    run-end at s u f v body (step-behind n s at 13 behind refl) done dat (omega (arith, p))
run-behind [] all (Some t) ext n s u f v at body behind p few =
    let (done, dat) = behind-done n s at behind in
    let one = step-behind n s at 59 behind refl ∙ step-semicolon n s (omega (arith, few)) in
    let first = stays at (Extension (n + 1) s) u f body 59 one done dat refl in
    ap (λ k. run k (t ++ (13 ∷ 10 ∷ []))) first ∙ run-extension t ext (n + 1) s (u + 1) f v body (omega (arith, p)) (omega (arith, few))
run-behind (x ∷ pad) all e ext n s u f v at body behind p few =
    let (done, dat) = behind-done n s at behind in
    let ows : is_ows x ≡ true = All-head (λ b. IsTrue (is_ows b)) x pad all in
    let one = step-behind n s at x behind (ows-no-hex x ows) ∙ step-ows n s x ows (omega (arith, few)) in
    let first = stays at (Blanks (n + 1) s) u f body x one done dat refl in
    ap (λ k. run k (pad ++ (print_extension e ++ (13 ∷ 10 ∷ [])))) first
    ∙ run-behind pad (All-tail (λ b. IsTrue (is_ows b)) x pad all) e ext (n + 1) s (u + 1) f v (Blanks (n + 1) s) body blanks (omega (arith, p)) (omega (arith, few))

-- ---- a whole chunk line

pub line-parts : (l : ChunkLine) → print_chunk_line l ≡ l.digits ++ (l.pad ++ (print_extension l.extension ++ crlf_bytes))
unfolding print_chunk_line
line-parts l =
    append_assoc (l.digits ++ l.pad) (print_extension l.extension) (print_end crlf)
    ∙ append_assoc l.digits l.pad (print_extension l.extension ++ print_end crlf)

line-length : (l : ChunkLine) → length (print_chunk_line l) ≡ length l.digits + length l.pad + length (print_extension l.extension) + 2
line-length l =
    let e : length (print_chunk_line l) ≡ length (l.digits ++ (l.pad ++ (print_extension l.extension ++ crlf_bytes))) = ap length (line-parts l) in
    let a = length-append l.digits (l.pad ++ (print_extension l.extension ++ crlf_bytes)) in
    let b = length-append l.pad (print_extension l.extension ++ crlf_bytes) in
    let c = length-append (print_extension l.extension) crlf_bytes in
    omega (arith, e, a, b, c)

run-parts : (ds pad : List ℕ) (e : Option (List ℕ)) → AllPass is_ascii_hexdigit ds → AllPass is_ows pad → IsExtension e → 0 < length ds → length ds ≤ 8
    → (u f v : ℕ) (body : List ℕ) → v ≡ u + length ds + length pad + length (print_extension e) + 2 → length ds + length pad + length (print_extension e) ≤ 1022
    → run (known Line u f body) (ds ++ (pad ++ (print_extension e ++ (13 ∷ 10 ∷ [])))) ≡ known (behind_line (digits_value 16 ds)) v v body
run-parts [] pad e hexes owses ext some few u f v body p short = absurd (omega (arith, some))
run-parts (d ∷ ds) pad e hexes owses ext some few u f v body p short =
    let hex : is_ascii_hexdigit d ≡ true = All-head (λ b. IsTrue (is_ascii_hexdigit b)) d ds hexes in
    let value = digits_value_after 16 (digit_value d) ds in
    let same : value ≡ digits_value 16 (d ∷ ds) = ap (λ n. digits_value_after 16 n ds) (omega arith) in
    let first = stays Line (Digits 1 (digit_value d)) u f body d (step-first d hex) refl refl refl in
    let others = run-digits ds (All-tail (λ b. IsTrue (is_ascii_hexdigit b)) d ds hexes) 1 (digit_value d) (u + 1) f (1 + length ds) ((u + 1) + length ds) body refl refl (omega (arith, few)) in
    let rest = pad ++ (print_extension e ++ (13 ∷ 10 ∷ [])) in
    let end = run-behind pad owses e ext (1 + length ds) value ((u + 1) + length ds) f v (Digits (1 + length ds) value) body digits (omega (arith, p)) (omega (arith, short)) in
    ap (λ k. run k (ds ++ rest)) first ∙ run-append (known (Digits 1 (digit_value d)) (u + 1) f body) ds rest ∙ ap (λ k. run k rest) others ∙ end
    ∙ ap (λ n. known (behind_line n) v v body) same

pub run-line : (l : ChunkLine) → IsSizeLine l → (u f v : ℕ) (body : List ℕ) → v ≡ u + length (print_chunk_line l)
    → run (known Line u f body) (print_chunk_line l) ≡ known (behind_line (chunk_size l)) v v body
run-line l is u f v body p =
    let long = line-length l in
    let valid = is.is_line in
    ap (run (known Line u f body)) (line-parts l)
    ∙ run-parts l.digits l.pad l.extension valid.digits.2 valid.pad valid.extension valid.digits.0 is.few u f v body (omega (arith, p, long)) (omega (arith, long, is.short))
