-- What stands behind a stage and what fits there: the next stage, or the end.
use Rattle.std.proofs.Common.{◌≡◌, ℕ, ◌+◌, ◌<◌, ◌≤◌, List, [], ◌∷◌, ◌++◌, length, refl, sym, ap, ◌∙◌, arith, append_assoc, append-nil, length-append, inl, inr}
use Rattle.std.specs.Prelude.{All}
use Rattle.std.specs.List.{flat_map}
use Rattle.std.proofs.lemmas.Bool.{cases_lt}
use Rattle.std.proofs.lemmas.Grind.{flat_map-append}
use Rattle.std.proofs.lemmas.List.Elements.{All-nil, All-push}
use Rattle.httparse.specs.Ascii.{crlf_bytes}
use Rattle.httparse.specs.Grammar.{ChunkLine, chunk_size, print_chunk_line, print_extension}
use Rattle.dap_http.specs.declared.chunk_step.At.TheVariants.{Done, Bad}
use Rattle.dap_http.specs.Chunks.{Chunk, Fits, IsChunk, IsInLine, IsSizeLine, IsStage, IsTrailer, IsWhole, NeverFits, Stage, at_bytes, at_end, at_line, at_trailer, bodies, body_before, body_in, print_chunk, print_chunks, print_stage, print_trailers}
use Rattle.dap_http.specs.inner.Steps.{Known, run, start}
use Rattle.dap_http.proofs.Runs.{bad-stays, done-stays, known, moves-on, run-append}
use Rattle.dap_http.proofs.Seams.{split}
use Rattle.dap_http.proofs.Stages.{at_stage, behind, run-empty, run-stage}

pub data NextStage (s : Stage) (text : List ℕ) : Type 0 where
  goes : (next : Stage) → IsStage next → print_stage next ≡ print_stage s ++ text → body_before next ≡ body_before s ++ body_in s text → NextStage s text
  ends : IsWhole (print_stage s ++ text) (body_before s) → run (behind s) text ≡ known Done (length (print_stage s) + length text) (length (print_stage s)) (body_before s) → NextStage s text

-- the items of one more
one : {A : Type 0} (f : A → List ℕ) (xs : List A) (x : A) → flat_map f (xs ++ x ∷ []) ≡ flat_map f xs ++ f x
one f xs x = flat_map-append f xs (x ∷ []) ∙ ap (λ t. flat_map f xs ++ t) (append-nil (f x))

line-next : (cs : List Chunk) (l : ChunkLine) → All IsChunk cs → IsSizeLine l → NextStage (at_line cs) (print_chunk_line l)
line-next cs l all is = elim (cases_lt 0 (chunk_size l)) [
  | inl some ↦ goes (at_bytes cs l) (all, is, some) refl (sym (append-nil (bodies cs)))
  | inr none ↦
      goes (at_trailer cs l []) (all, is, omega (arith, none), All-nil IsTrailer, omega arith) (append-nil (print_chunks cs ++ print_chunk_line l)) (sym (append-nil (bodies cs)))
]

end-next : (cs : List Chunk) (l : ChunkLine) (bytes : List ℕ) → IsStage (at_end cs l bytes) → NextStage (at_end cs l bytes) crlf_bytes
end-next cs l bytes (all, is, some, size) =
    let c : Chunk = record { line = l; bytes = bytes } in
    let valid : IsChunk c = record { line = is; some = some; size = size } in
    let printed : print_chunks (cs ++ c ∷ []) ≡ ((print_chunks cs ++ print_chunk_line l) ++ bytes) ++ crlf_bytes =
    one print_chunk cs c ∙ sym (append_assoc (print_chunks cs) (print_chunk_line l ++ bytes) crlf_bytes)
    ∙ ap (λ t. t ++ crlf_bytes) (sym (append_assoc (print_chunks cs) (print_chunk_line l) bytes)) in
    goes (at_line (cs ++ c ∷ [])) (All-push IsChunk cs c all valid) printed (one (λ (k : Chunk). k.bytes) cs c ∙ sym (append-nil (bodies cs ++ bytes)))

trailer-next : (cs : List Chunk) (l : ChunkLine) (lines : List (List ℕ)) (line : List ℕ) → IsStage (at_trailer cs l lines) → IsInLine line
    → length (print_trailers lines ++ (line ++ crlf_bytes)) ≤ 16384 → NextStage (at_trailer cs l lines) (line ++ crlf_bytes)
trailer-next cs l lines [] stage inside short =
    let (all, is, none, trailers, few) = stage in
    let long : length (print_trailers lines ++ crlf_bytes) ≡ length (print_trailers lines) + 2 = length-append (print_trailers lines) crlf_bytes in
    ends
    (record { chunks = cs; last = l; lines = lines; is_stage = stage; fits = ([], inside, refl, short); bytes_are = refl; body_is = refl })
    (run-empty _ _ _ _ _ (omega (arith, short, long, few)) refl)
trailer-next cs l lines (x ∷ xs) (all, is, none, trailers, few) inside short =
    let line = x ∷ xs in
    let valid : IsTrailer line = record { some = omega arith; one = inside } in
    let printed : print_trailers (lines ++ line ∷ []) ≡ print_trailers lines ++ (line ++ crlf_bytes) = one (λ (t : List ℕ). t ++ crlf_bytes) lines line in
    let fits : length (print_trailers (lines ++ line ∷ [])) ≤ 16384 = rw printed short in
    goes (at_trailer cs l (lines ++ line ∷ [])) (all, is, none, All-push IsTrailer lines line trailers valid, fits)
    (ap (λ t. (print_chunks cs ++ print_chunk_line l) ++ t) printed ∙ sym (append_assoc (print_chunks cs ++ print_chunk_line l) (print_trailers lines) (line ++ crlf_bytes)))
    (sym (append-nil (bodies cs)))

pub next-stage : (s : Stage) (text : List ℕ) → IsStage s → Fits s text → NextStage s text
next-stage (at_line cs) text all (l, is, e) = rw e (line-next cs l all is)
next-stage (at_bytes cs l) text (all, is, some) size = goes (at_end cs l text) (all, is, some, size) refl refl
next-stage (at_end cs l bytes) text stage e = rw e (end-next cs l bytes stage)
next-stage (at_trailer cs l lines) text stage (line, inside, e, short) =
    let few : length (print_trailers lines ++ (line ++ crlf_bytes)) ≤ 16384 = rw e at short in
    rw e (trailer-next cs l lines line stage inside few)

-- running over it
pub run-next : (s next : Stage) (text : List ℕ) → IsStage s → IsStage next → print_stage next ≡ print_stage s ++ text → run (behind s) text ≡ behind next
run-next s next text is nexts e =
    ap (λ k. run k text) (sym (run-stage s is)) ∙ sym (run-append start (print_stage s) text) ∙ ap (run start) (sym e) ∙ run-stage next nexts

pub stage-not-bad : (s : Stage) → ¬ (at_stage s ≡ Bad)
stage-not-bad (at_line cs) e = cc
stage-not-bad (at_bytes cs l) e = cc
stage-not-bad (at_end cs l bytes) e = cc
stage-not-bad (at_trailer cs l lines) e = cc

line-some : (l : ChunkLine) → 0 < length (print_chunk_line l)
unfolding print_chunk_line
line-some l =
    let a = length-append (l.digits ++ l.pad ++ print_extension l.extension) crlf_bytes in
    omega (arith, a)

-- what fits is not empty
pub fits-some : (s : Stage) (text : List ℕ) → IsStage s → Fits s text → 0 < length text
fits-some (at_line cs) text all (l, is, e) = rw e (line-some l)
fits-some (at_bytes cs l) text (all, is, some) size = omega (arith, some, size)
fits-some (at_end cs l bytes) text stage e = rw e (omega arith)
fits-some (at_trailer cs l lines) text stage (line, inside, e, short) =
    let long = length-append line crlf_bytes in
    rw e (omega (arith, long))

-- Where a byte brings a fault, nothing that fits begins with the bytes up to it.
pub bad-never : (s : Stage) (part : List ℕ) (b : ℕ) → IsStage s → ¬ ((run (behind s) part).at ≡ Done) → (run (behind s) part).from ≡ length (print_stage s)
    → (run (behind s) (part ++ b ∷ [])).at ≡ Bad → NeverFits s (part ++ b ∷ [])
bad-never s part b is going from bad more text rest fits e = elim (cases_lt (length part) (length text)) [
  | inl longer ↦
      let (x, whole, q) = split (part ++ b ∷ []) more text rest e (omega (arith, longer, length-append part (b ∷ []))) in
      let stuck = bad-stays (run (behind s) (part ++ b ∷ [])) x bad in
      let at : (run (behind s) text).at ≡ Bad = ap (λ t. (run (behind s) t).at) whole ∙ ap (λ (k : Known). k.at) (run-append (behind s) (part ++ b ∷ []) x) ∙ stuck.at in
      over (next-stage s text is fits) at
  | inr shorter ↦
      let (x, whole, q) = split text rest part (b ∷ more) (sym e ∙ append_assoc part (b ∷ []) more) shorter in
      let same : run (behind s) part ≡ run (run (behind s) text) x = ap (run (behind s)) whole ∙ run-append (behind s) text x in
      past (next-stage s text is fits) x same
]
  where
    over : NextStage s text → (run (behind s) text).at ≡ Bad → ⊥
    over (goes next nexts printed body) at = stage-not-bad next (sym (ap (λ (k : Known). k.at) (run-next s next text is nexts printed)) ∙ at)
    over (ends w runs) at =
        let done : (run (behind s) text).at ≡ Done = ap (λ (k : Known). k.at) runs in
        let clash : Done ≡ Bad = sym done ∙ at in
        cc

    past : NextStage s text → (x : List ℕ) → run (behind s) part ≡ run (run (behind s) text) x → ⊥
    past (goes next nexts printed body) x same =
        let goes-on = moves-on (behind next) x (omega arith) in
        let f : (run (behind s) part).from ≡ (run (behind next) x).from =
        ap (λ (k : Known). k.from) same ∙ ap (λ (k : Known). (run k x).from) (run-next s next text is nexts printed) in
        let long : length (print_stage next) ≡ length (print_stage s) + length text = ap length printed ∙ length-append (print_stage s) text in
        omega (arith, goes-on.from, f, from, long, fits-some s text is fits)
    past (ends w runs) x same =
        let done : (run (behind s) text).at ≡ Done = ap (λ (k : Known). k.at) runs in
        let stay = done-stays (run (behind s) text) x done in
        going (ap (λ (k : Known). k.at) same ∙ stay.at ∙ done)
