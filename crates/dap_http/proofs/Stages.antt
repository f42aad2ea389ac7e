-- Whole chunks, lines and bytes are run over to what comes behind them.
use Rattle.std.proofs.Common.{◌≡◌, ℕ, ◌+◌, ◌-◌, ◌<◌, ◌≤◌, ◌⊎◌, true, false, List, [], ◌∷◌, ◌++◌, length, refl, sym, ap, ◌∙◌, arith, append_assoc, append-nil, length-append, inl, inr}
use Rattle.std.specs.Prelude.{if◌then◌else◌, ◌==◌, nat_lt, All}
use Rattle.std.proofs.lemmas.Bool.{le-ltb, le-leb, lt-leb, ne_eqb, eqb-true}
use Rattle.std.proofs.lemmas.List.Elements.{All-head, All-tail}
use Rattle.plain_lemmas.proofs.Truths.{true_or_false}
use Rattle.httparse.specs.Ascii.{crlf_bytes}
use Rattle.httparse.specs.Grammar.{ChunkLine, chunk_size, print_chunk_line}
use Rattle.dap_http.specs.declared.chunk_step.At.{At}
use Rattle.dap_http.specs.declared.chunk_step.At.TheVariants.{Line, Data, EndCr, EndLf, Fresh, Trailer, EmptyCr, TrailerCr, Done, Bad}
use Rattle.dap_http.specs.Chunks.{Chunk, IsChunk, IsInLine, IsSizeLine, IsStage, IsTrailer, Stage, at_bytes, at_end, at_line, at_trailer, bodies, body_before, print_chunk, print_chunks, print_stage, print_trailers}
use Rattle.dap_http.specs.inner.Steps.{Known, advance, behind_line, is_data, is_done, is_start, run, start, step, step_trailer}
use Rattle.dap_http.proofs.Lines.{run-line}
use Rattle.dap_http.proofs.Runs.{begins, known, run-append, stays}
use Rattle.dap_http.proofs.Seams.{in-line-tail, no-feed}

-- ---- the bytes of a chunk

pub takes : (at next : At) (u f : ℕ) (body : List ℕ) (x : ℕ) → step at x ≡ next → is_done at ≡ false → is_data at ≡ true → is_start next ≡ true
    → advance (known at u f body) x ≡ known next (u + 1) (u + 1) (body ++ x ∷ [])
takes at next u f body x e done dat starts = rw (e, done, dat, starts) refl

pub step-last : (left x : ℕ) → left ≤ 1 → step (Data left) x ≡ EndCr
step-last left x le = ap (λ v. if v then EndCr else Data (left - 1)) (le-leb left 1 le)

pub step-more : (left x : ℕ) → 1 < left → step (Data left) x ≡ Data (left - 1)
step-more left x lt = ap (λ v. if v then EndCr else Data (left - 1)) (lt-leb left 1 lt)

pub run-part : (xs : List ℕ) (left r u v : ℕ) (body : List ℕ) → left ≡ r + length xs → 0 < r → v ≡ u + length xs
    → run (known (Data left) u u body) xs ≡ known (Data r) v v (body ++ xs)
run-part [] left r u v body p some q =
    let el : left ≡ r = omega (arith, p) in
    let ev : v ≡ u = omega (arith, q) in
    rw (el, ev, append-nil body) refl
run-part (x ∷ xs) left r u v body p some q =
    let first = takes (Data left) (Data (left - 1)) u u body x (step-more left x (omega (arith, p, some))) refl refl refl in
    ap (λ k. run k xs) first ∙ run-part xs (left - 1) r (u + 1) v (body ++ x ∷ []) (omega (arith, p)) some (omega (arith, q))
    ∙ ap (known (Data r) v v) (append_assoc body (x ∷ []) xs)

pub run-data : (xs : List ℕ) (left u f v : ℕ) (body : List ℕ) → left ≡ length xs → 0 < left → v ≡ u + length xs
    → run (known (Data left) u f body) xs ≡ known EndCr v v (body ++ xs)
run-data [] left u f v body p some q = absurd (omega (arith, p, some))
run-data (x ∷ []) left u f v body p some q =
    let ev : v ≡ u + 1 = omega (arith, q) in
    takes (Data left) EndCr u f body x (step-last left x (omega (arith, p))) refl refl refl ∙ ap (λ n. known EndCr n n (body ++ x ∷ [])) (sym ev)
run-data (x ∷ y ∷ xs) left u f v body p some q =
    let first = takes (Data left) (Data (left - 1)) u f body x (step-more left x (omega (arith, p))) refl refl refl in
    ap (λ k. run k (y ∷ xs)) first ∙ run-data (y ∷ xs) (left - 1) (u + 1) (u + 1) v (body ++ x ∷ []) (omega (arith, p)) (omega (arith, p)) (omega (arith, q))
    ∙ ap (known EndCr v v) (append_assoc body (x ∷ []) (y ∷ xs))

-- a line end behind them
pub run-crlf : (u f v : ℕ) (body : List ℕ) → v ≡ u + 2 → run (known EndCr u f body) crlf_bytes ≡ known Line v v body
run-crlf u f v body q =
    let same : v ≡ (u + 1) + 1 = omega (arith, q) in
    let first = stays EndCr EndLf u f body 13 refl refl refl refl in
    ap (λ k. run k (10 ∷ [])) first ∙ begins EndLf Line (u + 1) f body 10 refl refl refl refl ∙ ap (λ n. known Line n n body) (sym same)

-- ---- chunks

pub run-chunk : (c : Chunk) → IsChunk c → (u v : ℕ) (body : List ℕ) → v ≡ u + length (print_chunk c)
    → run (known Line u u body) (print_chunk c) ≡ known Line v v (body ++ c.bytes)
run-chunk c is u v body q =
    let line = print_chunk_line c.line in
    let a = u + length line in
    let d = a + length c.bytes in
    let non_zero : (chunk_size c.line == 0) ≡ false = ne_eqb (chunk_size c.line) 0 (λ e. omega (arith, e, is.some)) in
    let goes : behind_line (chunk_size c.line) ≡ Data (chunk_size c.line) = ap (λ t. if t then Fresh 16384 else Data (chunk_size c.line)) non_zero in
    let one = run-line c.line is.line u u a body refl ∙ ap (λ at. known at a a body) goes in
    let two = run-data c.bytes (chunk_size c.line) a a d body (sym is.size) is.some refl in
    let long : length (print_chunk c) ≡ length (line ++ c.bytes) + 2 = length-append (line ++ c.bytes) crlf_bytes in
    let three = run-crlf d a v (body ++ c.bytes) (omega (arith, q, long, length-append line c.bytes)) in
    let three' = run-crlf d d v (body ++ c.bytes) (omega (arith, q, long, length-append line c.bytes)) in
    run-append (known Line u u body) (line ++ c.bytes) crlf_bytes
    ∙ ap (λ k. run k crlf_bytes) (run-append (known Line u u body) line c.bytes ∙ ap (λ k. run k c.bytes) one ∙ two) ∙ three'

pub run-chunks : (cs : List Chunk) → All IsChunk cs → (u v : ℕ) (body : List ℕ) → v ≡ u + length (print_chunks cs)
    → run (known Line u u body) (print_chunks cs) ≡ known Line v v (body ++ bodies cs)
run-chunks [] all u v body q =
    let ev : v ≡ u = omega (arith, q) in
    rw (ev, append-nil body) refl
run-chunks (c ∷ cs) all u v body q =
    let long = length-append (print_chunk c) (print_chunks cs) in
    let a = u + length (print_chunk c) in
    let first = run-chunk c (All-head IsChunk c cs all) u a body refl in
    run-append (known Line u u body) (print_chunk c) (print_chunks cs) ∙ ap (λ k. run k (print_chunks cs)) first
    ∙ run-chunks cs (All-tail IsChunk c cs all) a v (body ++ c.bytes) (omega (arith, q, long)) ∙ ap (known Line v v) (append_assoc body c.bytes (bodies cs))

-- ---- trailer lines

-- inside a trailer line, with room for so many bytes: `open` unless a CR came last
pub data IsTrailing (r : ℕ) : At → Type 0 where
  plain : IsTrailing r (Trailer r)
  behind_cr : IsTrailing r (TrailerCr r)
  behind_first_cr : IsTrailing r (EmptyCr r)

trailing-open : (r : ℕ) (at : At) → IsTrailing r at → (is_done at ≡ false) × (is_data at ≡ false)
trailing-open r at plain = (refl, refl)
trailing-open r at behind_cr = (refl, refl)
trailing-open r at behind_first_cr = (refl, refl)

trailer-cr : (r : ℕ) (cr : At) → 2 ≤ r → step_trailer r 13 cr ≡ cr
trailer-cr r cr le = ap (λ v. if v then Bad else cr) (le-ltb r 2 le)

trailer-plain : (r b : ℕ) (cr : At) → (b == 13) ≡ false → 3 ≤ r → step_trailer r b cr ≡ Trailer (r - 1)
trailer-plain r b cr non le =
    ap (λ v. if v then (if nat_lt r 2 then Bad else cr) else (if nat_lt r 3 then Bad else Trailer (r - 1))) non
    ∙ ap (λ v. if v then Bad else Trailer (r - 1)) (le-ltb r 3 le)

trailing-cr : (r : ℕ) (at : At) → IsTrailing r at → 2 ≤ r → step at 13 ≡ TrailerCr (r - 1)
trailing-cr r at plain le = trailer-cr r (TrailerCr (r - 1)) le
trailing-cr r at behind_cr le = trailer-cr r (TrailerCr (r - 1)) le
trailing-cr r at behind_first_cr le = trailer-cr r (TrailerCr (r - 1)) le

-- the bytes that may come: behind a CR no line feed
may-come : (r : ℕ) (at : At) → IsTrailing r at → List ℕ → Type 0
may-come r at plain xs = IsInLine xs
may-come r at behind_cr xs = IsInLine (13 ∷ xs)
may-come r at behind_first_cr xs = IsInLine (13 ∷ xs)

trailing-plain : (r : ℕ) (at : At) (w : IsTrailing r at) (x : ℕ) (xs : List ℕ) → may-come r at w (x ∷ xs) → (x == 13) ≡ false → 3 ≤ r → step at x ≡ Trailer (r - 1)
unfolding may-come
trailing-plain r at plain x xs may non le = trailer-plain r x (TrailerCr (r - 1)) non le
trailing-plain r at behind_cr x xs may non le =
    ap (λ v. if v then Fresh (r - 1) else step_trailer r x (TrailerCr (r - 1))) (ne_eqb x 10 (no-feed x xs may)) ∙ trailer-plain r x (TrailerCr (r - 1)) non le
trailing-plain r at behind_first_cr x xs may non le =
    ap (λ v. if v then Done else step_trailer r x (TrailerCr (r - 1))) (ne_eqb x 10 (no-feed x xs may)) ∙ trailer-plain r x (TrailerCr (r - 1)) non le

still-in-line : (r : ℕ) (at : At) (w : IsTrailing r at) (x : ℕ) (xs : List ℕ) → may-come r at w (x ∷ xs) → IsInLine (x ∷ xs)
unfolding may-come
still-in-line r at plain x xs may = may
still-in-line r at behind_cr x xs may = in-line-tail 13 (x ∷ xs) may
still-in-line r at behind_first_cr x xs may = in-line-tail 13 (x ∷ xs) may

run-trailing : (xs : List ℕ) (r : ℕ) (at : At) (w : IsTrailing r at) → may-come r at w xs → (u f v q : ℕ) (body : List ℕ) → r ≡ q + length xs + 2 → v ≡ u + length xs + 2
    → run (known at u f body) (xs ++ crlf_bytes) ≡ known (Fresh q) v v body
unfolding may-come
run-trailing [] r at w may u f v q body p t =
    let (done, dat) = trailing-open r at w in
    let first = stays at (TrailerCr (r - 1)) u f body 13 (trailing-cr r at w (omega (arith, p))) done dat refl in
    let last = begins (TrailerCr (r - 1)) (Fresh (r - 1 - 1)) (u + 1) f body 10 refl refl refl refl in
    let er : r - 1 - 1 ≡ q = omega (arith, p) in
    let ev : (u + 1) + 1 ≡ v = omega (arith, t) in
    ap (λ k. run k (10 ∷ [])) first ∙ last ∙ ap (λ n. known (Fresh n) ((u + 1) + 1) ((u + 1) + 1) body) er ∙ ap (λ n. known (Fresh q) n n body) ev
run-trailing (x ∷ xs) r at w may u f v q body p t =
    let (done, dat) = trailing-open r at w in
    let line : IsInLine (x ∷ xs) = still-in-line r at w x xs may in
    elim (true_or_false (x == 13)) [
      | inl cr ↦
          let same : x ≡ 13 = eqb-true x 13 cr in
          let one : step at x ≡ TrailerCr (r - 1) = ap (step at) same ∙ trailing-cr r at w (omega (arith, p)) in
          let first = stays at (TrailerCr (r - 1)) u f body x one done dat refl in
          let inside : IsInLine (13 ∷ xs) = rw same at line in
          ap (λ k. run k (xs ++ crlf_bytes)) first ∙ run-trailing xs (r - 1) (TrailerCr (r - 1)) behind_cr inside (u + 1) f v q body (omega (arith, p)) (omega (arith, t))
      | inr non ↦
          let one = trailing-plain r at w x xs may non (omega (arith, p)) in
          let first = stays at (Trailer (r - 1)) u f body x one done dat refl in
          ap (λ k. run k (xs ++ crlf_bytes)) first
          ∙ run-trailing xs (r - 1) (Trailer (r - 1)) plain (in-line-tail x xs line) (u + 1) f v q body (omega (arith, p)) (omega (arith, t))
    ]

pub run-trailer : (line : List ℕ) → IsTrailer line → (r q u f v : ℕ) (body : List ℕ) → r ≡ q + length line + 2 → v ≡ u + length line + 2
    → run (known (Fresh r) u f body) (line ++ crlf_bytes) ≡ known (Fresh q) v v body
unfolding may-come
run-trailer [] is r q u f v body p t = absurd (omega (arith, is.some))
run-trailer (x ∷ xs) is r q u f v body p t = go (true_or_false (x == 13)) where
  go : ((x == 13) ≡ true) ⊎ ((x == 13) ≡ false) → run (known (Fresh r) u f body) ((x ∷ xs) ++ crlf_bytes) ≡ known (Fresh q) v v body
  go (inl cr) =
      let same : x ≡ 13 = eqb-true x 13 cr in
      let one : step (Fresh r) x ≡ EmptyCr (r - 1) = ap (step (Fresh r)) same ∙ trailer-cr r (EmptyCr (r - 1)) (omega (arith, p)) in
      let first = stays (Fresh r) (EmptyCr (r - 1)) u f body x one refl refl refl in
      let line = is.one in
      let inside : IsInLine (13 ∷ xs) = rw same at line in
      ap (λ k. run k (xs ++ crlf_bytes)) first ∙ run-trailing xs (r - 1) (EmptyCr (r - 1)) behind_first_cr inside (u + 1) f v q body (omega (arith, p)) (omega (arith, t))
  go (inr non) =
      let first = stays (Fresh r) (Trailer (r - 1)) u f body x (trailer-plain r x (EmptyCr (r - 1)) non (omega (arith, p))) refl refl refl in
      ap (λ k. run k (xs ++ crlf_bytes)) first
      ∙ run-trailing xs (r - 1) (Trailer (r - 1)) plain (in-line-tail x xs is.one) (u + 1) f v q body (omega (arith, p)) (omega (arith, t))

-- the empty line
pub run-empty : (r u f v : ℕ) (body : List ℕ) → 2 ≤ r → v ≡ u + 2 → run (known (Fresh r) u f body) crlf_bytes ≡ known Done v f body
run-empty r u f v body le t =
    let same : (u + 1) + 1 ≡ v = omega (arith, t) in
    let first = stays (Fresh r) (EmptyCr (r - 1)) u f body 13 (trailer-cr r (EmptyCr (r - 1)) le) refl refl refl in
    ap (λ k. run k (10 ∷ [])) first ∙ stays (EmptyCr (r - 1)) Done (u + 1) f body 10 refl refl refl refl ∙ ap (λ n. known Done n f body) same

pub run-trailers : (lines : List (List ℕ)) → All IsTrailer lines → (r q u v : ℕ) (body : List ℕ) → r ≡ q + length (print_trailers lines) → v ≡ u + length (print_trailers lines)
    → run (known (Fresh r) u u body) (print_trailers lines) ≡ known (Fresh q) v v body
run-trailers [] all r q u v body p t =
    let er : r ≡ q = omega (arith, p) in
    let ev : v ≡ u = omega (arith, t) in
    rw (er, ev) refl
run-trailers (line ∷ lines) all r q u v body p t =
    let long : length (print_trailers (line ∷ lines)) ≡ length (line ++ crlf_bytes) + length (print_trailers lines) = length-append (line ++ crlf_bytes) (print_trailers lines) in
    let own : length (line ++ crlf_bytes) ≡ length line + 2 = length-append line crlf_bytes in
    let mid = q + length (print_trailers lines) in
    let at = u + (length line + 2) in
    let first = run-trailer line (All-head IsTrailer line lines all) r mid u u at body (omega (arith, p, long, own)) (omega arith) in
    run-append (known (Fresh r) u u body) (line ++ crlf_bytes) (print_trailers lines) ∙ ap (λ k. run k (print_trailers lines)) first
    ∙ run-trailers lines (All-tail IsTrailer line lines all) mid q at v body refl (omega (arith, t, long, own))

-- ---- stages

abbrev pub at_stage : Stage → At
at_stage (at_line chunks) = Line
at_stage (at_bytes chunks l) = Data (chunk_size l)
at_stage (at_end chunks l bytes) = EndCr
at_stage (at_trailer chunks l lines) = Fresh (16384 - length (print_trailers lines))

abbrev pub behind : Stage → Known
behind s = known (at_stage s) (length (print_stage s)) (length (print_stage s)) (body_before s)

chunks-line : (cs : List Chunk) (l : ChunkLine) → All IsChunk cs → IsSizeLine l → (v : ℕ) → v ≡ length (print_chunks cs ++ print_chunk_line l)
    → run start (print_chunks cs ++ print_chunk_line l) ≡ known (behind_line (chunk_size l)) v v (bodies cs)
chunks-line cs l all is v p =
    let first = run-chunks cs all 0 (length (print_chunks cs)) [] (omega arith) in
    run-append start (print_chunks cs) (print_chunk_line l) ∙ ap (λ k. run k (print_chunk_line l)) first
    ∙ run-line l is (length (print_chunks cs)) (length (print_chunks cs)) v (bodies cs) (p ∙ length-append (print_chunks cs) (print_chunk_line l))

pub sized : (n : ℕ) → 0 < n → behind_line n ≡ Data n
sized n some = ap (λ t. if t then Fresh 16384 else Data n) (ne_eqb n 0 (λ e. omega (arith, e, some)))

pub run-stage : (s : Stage) → IsStage s → run start (print_stage s) ≡ behind s
run-stage (at_line cs) all = run-chunks cs all 0 (length (print_chunks cs)) [] (omega arith)
run-stage (at_bytes cs l) (all, is, some) =
    let v = length (print_chunks cs ++ print_chunk_line l) in
    chunks-line cs l all is v refl ∙ ap (λ at. known at v v (bodies cs)) (sized (chunk_size l) some)
run-stage (at_end cs l bytes) (all, is, some, size) =
    let v = length (print_chunks cs ++ print_chunk_line l) in
    let first = chunks-line cs l all is v refl ∙ ap (λ at. known at v v (bodies cs)) (sized (chunk_size l) some) in
    run-append start (print_chunks cs ++ print_chunk_line l) bytes ∙ ap (λ k. run k bytes) first
    ∙ run-data bytes (chunk_size l) v v (length ((print_chunks cs ++ print_chunk_line l) ++ bytes)) (bodies cs) (sym size) some (length-append (print_chunks cs ++ print_chunk_line l) bytes)
run-stage (at_trailer cs l lines) (all, is, none, trailers, short) =
    let v = length (print_chunks cs ++ print_chunk_line l) in
    let first = chunks-line cs l all is v refl ∙ ap (λ n. known (behind_line n) v v (bodies cs)) none in
    run-append start (print_chunks cs ++ print_chunk_line l) (print_trailers lines) ∙ ap (λ k. run k (print_trailers lines)) first
    ∙ run-trailers lines trailers 16384 (16384 - length (print_trailers lines)) v (length ((print_chunks cs ++ print_chunk_line l) ++ print_trailers lines)) (bodies cs)
    (omega (arith, short)) (length-append (print_chunks cs ++ print_chunk_line l) (print_trailers lines))
