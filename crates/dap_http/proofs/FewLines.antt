-- How many bytes frame a body: at most 1,026 beside each of its bytes, and 17,410 behind them.
use Rattle.std.proofs.Common.{ℕ, ◌+◌, ◌-◌, ◌*◌, ◌≤◌, ◌⊎◌, List, [], ◌∷◌, ◌++◌, length, refl, ap, arith, length-append, inl, inr}
use Rattle.std.specs.Prelude.{All}
use Rattle.std.proofs.lemmas.List.Elements.{All-head, All-tail}
use Rattle.httparse.specs.Ascii.{crlf_bytes}
use Rattle.httparse.specs.Grammar.{print_chunk_line}
use Rattle.dap_http.specs.Chunks.{Chunk, Fits, GoesOn, IsChunk, IsStage, IsWhole, MayFit, Stage, at_bytes, at_end, at_line, at_trailer, bodies, body_before, body_in, print_chunk, print_chunks, print_stage, print_trailers}
use Rattle.dap_http.specs.Codings.{Ends, Goes}
use Rattle.dap_http.specs.declared.coding.Coding.{Coding}
use Rattle.dap_http.specs.declared.coding.Coding.TheVariants.{Chunked, Length, ToEnd}

chunk-few : (c : Chunk) → IsChunk c → length (print_chunk c) ≤ 1027 * length c.bytes
chunk-few c is =
    omega (arith, is.line.short, is.some, is.size, length-append (print_chunk_line c.line ++ c.bytes) crlf_bytes, length-append (print_chunk_line c.line) c.bytes)

chunks-few : (cs : List Chunk) → All IsChunk cs → length (print_chunks cs) ≤ 1027 * length (bodies cs)
chunks-few [] all = omega arith
chunks-few (c ∷ cs) all =
    omega (arith, chunk-few c (All-head IsChunk c cs all), chunks-few cs (All-tail IsChunk c cs all), length-append (print_chunk c) (print_chunks cs), length-append c.bytes (bodies cs))

-- a part of something that fits
part-few : (s : Stage) (part : List ℕ) → MayFit s part → (n : ℕ) → ((more : List ℕ) → Fits s (part ++ more) → length (part ++ more) ≤ n) → length part ≤ n
part-few s part (inl none) n most = omega (arith, ap length none)
part-few s part (inr (more, some, fits)) n most = omega (arith, most more fits, length-append part more)

stage-few : (s : Stage) (part : List ℕ) → IsStage s → MayFit s part → length (print_stage s ++ part) ≤ 1027 * length (body_before s ++ body_in s part) + 17410
stage-few (at_line cs) part is may =
    let few = part-few (at_line cs) part may 1024 (λ more f. let (l, size, text) = f in omega (arith, size.short, ap length text)) in
    omega (arith, few, chunks-few cs is, length-append (print_chunks cs) part, length-append (bodies cs) [])
stage-few (at_bytes cs l) part (all, size, some) may =
    omega (arith, size.short, chunks-few cs all, length-append (print_chunks cs ++ print_chunk_line l) part, length-append (print_chunks cs) (print_chunk_line l), length-append (bodies cs) part)
stage-few (at_end cs l bytes) part (all, size, some, long) may =
    let few = part-few (at_end cs l bytes) part may 2 (λ more text. omega (arith, ap length text)) in
    omega (
      arith,
      few,
      size.short,
      chunks-few cs all,
      length-append ((print_chunks cs ++ print_chunk_line l) ++ bytes) part,
      length-append (print_chunks cs ++ print_chunk_line l) bytes,
      length-append (print_chunks cs) (print_chunk_line l),
      length-append (bodies cs) bytes,
      length-append (bodies cs ++ bytes) [],
    )
stage-few (at_trailer cs l lines) part (all, size, zero, trailers, few_lines) may =
    let few = part-few (at_trailer cs l lines) part may (16384 - length (print_trailers lines))
    (λ more f. let (line, inside, text, short) = f in omega (arith, short, length-append (print_trailers lines) (part ++ more))) in
    omega (
      arith,
      few,
      few_lines,
      size.short,
      chunks-few cs all,
      length-append ((print_chunks cs ++ print_chunk_line l) ++ print_trailers lines) part,
      length-append (print_chunks cs ++ print_chunk_line l) (print_trailers lines),
      length-append (print_chunks cs) (print_chunk_line l),
      length-append (bodies cs) [],
    )

goes-few : (bytes body : List ℕ) → GoesOn bytes body → length bytes ≤ 1027 * length body + 40000
goes-few bytes body g = omega (arith, stage-few g.stage g.part g.is_stage g.part_may, ap length g.bytes_are, ap length g.body_is)

whole-few : (bytes body : List ℕ) → IsWhole bytes body → length bytes ≤ 1027 * length body + 40000
whole-few bytes body w =
    let s = at_trailer w.chunks w.last w.lines in
    let few = stage-few s [] w.is_stage (inl refl) in
    omega (arith, few, ap length w.bytes_are, ap length w.body_is, length-append (print_stage s) crlf_bytes, length-append (print_stage s) [], length-append (bodies w.chunks) [])

pub few-lines : (c : Coding) (bytes body : List ℕ) → Goes c bytes body ⊎ Ends c bytes body → length bytes ≤ 1027 * length body + 40000
few-lines Chunked bytes body (inl g) = goes-few bytes body g
few-lines Chunked bytes body (inr e) = whole-few bytes body e
few-lines (Length n) bytes body (inl (same, few)) = omega (arith, ap length same)
few-lines (Length n) bytes body (inr (same, all)) = omega (arith, ap length same)
few-lines ToEnd bytes body (inl same) = omega (arith, ap length same)
few-lines ToEnd bytes body (inr none) = absurd none
