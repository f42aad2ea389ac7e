-- Whatever bytes are, a run over them shows it.
use Rattle.std.proofs.Common.{◌≡◌, ℕ, ◌+◌, ◌-◌, ◌<◌, ◌⊎◌, true, false, List, [], ◌∷◌, ◌++◌, length, refl, sym, ap, ◌∙◌, arith, append_assoc, append-nil, length-append, inl, inr, subst}
use Rattle.std.specs.Prelude.{if◌then◌else◌}
use Rattle.std.proofs.lemmas.Bool.{true≢false}
use Rattle.httparse.specs.Ascii.{crlf_bytes}
use Rattle.httparse.specs.Grammar.{chunk_size}
use Rattle.dap_http.specs.declared.chunk_step.At.{At}
use Rattle.dap_http.specs.declared.chunk_step.At.TheVariants.{Done, Bad}
use Rattle.dap_http.specs.Chunks.{Fits, GoesOn, IsFaulty, IsStage, IsWhole, MayFit, NeverFits, Stage, at_bytes, at_end, at_line, at_trailer, bodies, body_before, body_in, print_stage, print_trailers}
use Rattle.dap_http.specs.inner.Steps.{Known, advance, is_open, is_start, run, start, step}
use Rattle.dap_http.proofs.Inside.{bad-not-bytes, data-is, is_bytes, live, open-is, stepped}
use Rattle.dap_http.proofs.Next.{NextStage, ends, goes, next-stage, run-next, stage-not-bad}
use Rattle.dap_http.proofs.Runs.{bad-stays, body-grows, done-stays, known, run-append, used-most}
use Rattle.dap_http.proofs.Seams.{one-more}
use Rattle.dap_http.proofs.Stages.{at_stage, behind, run-empty, run-part, run-stage}
use Rattle.dap_http.proofs.Told.{InState, Tells, begun, going, no-bytes, over, push, tells, there, wrong}

stage-not-done : (s : Stage) → ¬ (at_stage s ≡ Done)
stage-not-done (at_line cs) e = cc
stage-not-done (at_bytes cs l) e = cc
stage-not-done (at_end cs l bytes) e = cc
stage-not-done (at_trailer cs l lines) e = cc

-- neither the end nor a fault
pub open-from : (at : At) → ¬ (at ≡ Done) → ¬ (at ≡ Bad) → is_open at ≡ true
open-from Done done bad = absurd (done refl)
open-from Bad done bad = absurd (bad refl)
open-from at done bad = refl

-- a body that neither grows nor shrinks
same-body : (a x y : List ℕ) → (a ++ x) ++ y ≡ a → a ++ x ≡ a
same-body a [] y e = append-nil a
same-body a (x ∷ xs) y e =
    let long : length (a ++ x ∷ xs) + length y ≡ length a = sym (length-append (a ++ x ∷ xs) y) ∙ ap length e in
    absurd (omega (arith, long, length-append a (x ∷ xs)))

pub record Goes (k : Known) (text : List ℕ) : Type 0 where
  pub at : is_open k.at ≡ true
  pub body : k.body ≡ text

goes-line : (s : Stage) (part more : List ℕ) → IsStage s → is_bytes s ≡ false → 0 < length more → NextStage s (part ++ more) → Goes (there s part) (body_before s)
goes-line s part more is other some (goes next nexts text body) =
    let m = there s part in
    let all : run m more ≡ behind next = sym (run-append (behind s) part more) ∙ run-next s next (part ++ more) is nexts text in
    let at : (run m more).at ≡ at_stage next = ap (λ (n : Known). n.at) all in
    let (x, first) = body-grows (behind s) part in
    let (y, last) = body-grows m more in
    let shrunk : body_before next ≡ body_before s = body ∙ ap (λ t. body_before s ++ t) (no-bytes s (part ++ more) other) ∙ append-nil (body_before s) in
    let total : (body_before s ++ x) ++ y ≡ body_before s = ap (λ t. t ++ y) (sym first) ∙ sym last ∙ ap (λ (n : Known). n.body) all ∙ shrunk in
    record {
      at = open-from m.at
          (λ done. stage-not-done next (sym at ∙ (done-stays m more done).at ∙ done))
          (λ bad. stage-not-bad next (sym at ∙ (bad-stays m more bad).at));
      body = first ∙ same-body (body_before s) x y total;
    }
goes-line s part more is other some (ends whole runs) =
    let m = there s part in
    let all : run m more ≡ known Done (length (print_stage s) + length (part ++ more)) (length (print_stage s)) (body_before s) = sym (run-append (behind s) part more) ∙ runs in
    let at : (run m more).at ≡ Done = ap (λ (n : Known). n.at) all in
    let (x, first) = body-grows (behind s) part in
    let (y, last) = body-grows m more in
    let total : (body_before s ++ x) ++ y ≡ body_before s = ap (λ t. t ++ y) (sym first) ∙ sym last ∙ ap (λ (n : Known). n.body) all in
    let used : (run m more).used ≡ length (print_stage s) + length (part ++ more) = ap (λ (n : Known). n.used) all in
    let most = used-most (behind s) part in
    record {
      at = open-from m.at
          (λ done. omega (arith, (done-stays m more done).used, used, most, length-append part more, some))
          (λ bad. let clash : Bad ≡ Done = sym ((bad-stays m more bad).at) ∙ at in cc);
      body = first ∙ same-body (body_before s) x y total;
    }

goes-more : (s : Stage) (part more : List ℕ) → IsStage s → 0 < length more → Fits s (part ++ more) → Goes (there s part) (body_before s ++ body_in s part)
goes-more (at_bytes cs l) part more (all, is, some) rest fits =
    let s = at_bytes cs l in
    let runs = run-part part (chunk_size l) (length more) (length (print_stage s)) (length (print_stage s) + length part) (bodies cs)
    (omega (arith, fits, length-append part more)) rest refl in
    record { at = ap (λ (n : Known). is_open n.at) runs; body = ap (λ (n : Known). n.body) runs }
goes-more (at_line cs) part more is some fits =
    let g = goes-line (at_line cs) part more is refl some (next-stage (at_line cs) (part ++ more) is fits) in
    record { at = g.at; body = g.body ∙ sym (append-nil _) }
goes-more (at_end cs l bytes) part more is some fits =
    let g = goes-line (at_end cs l bytes) part more is refl some (next-stage (at_end cs l bytes) (part ++ more) is fits) in
    record { at = g.at; body = g.body ∙ sym (append-nil _) }
goes-more (at_trailer cs l lines) part more is some fits =
    let g = goes-line (at_trailer cs l lines) part more is refl some (next-stage (at_trailer cs l lines) (part ++ more) is fits) in
    record { at = g.at; body = g.body ∙ sym (append-nil _) }

goes-there : (s : Stage) (part : List ℕ) → IsStage s → MayFit s part → Goes (there s part) (body_before s ++ body_in s part)
goes-there s part is (inl none) =
    let state = begun s is in
    let (done, at) = open-is (there s []).at s [] state.holds in
    rw none (record { at = at; body = state.body })
goes-there s part is (inr (more, some, fits)) = goes-more s part more is some fits

at-stage : (s : Stage) (part bytes : List ℕ) → IsStage s → bytes ≡ print_stage s ++ part → run start bytes ≡ there s part
at-stage s part bytes is e = ap (run start) e ∙ run-append start (print_stage s) part ∙ ap (λ k. run k part) (run-stage s is)

pub goes-known : (bytes body : List ℕ) → GoesOn bytes body → Goes (run start bytes) body
goes-known bytes body g =
    let there_is = at-stage g.stage g.part bytes g.is_stage g.bytes_are in
    rw (there_is, g.body_is) (goes-there g.stage g.part g.is_stage g.part_may)

pub record Ends (k : Known) (text : List ℕ) (n : ℕ) : Type 0 where
  pub at : k.at ≡ Done
  pub body : k.body ≡ text
  pub used : k.used ≡ n

pub ends-known : (bytes body : List ℕ) → IsWhole bytes body → Ends (run start bytes) body (length bytes)
ends-known bytes body w =
    let s = at_trailer w.chunks w.last w.lines in
    let there_is = at-stage s crlf_bytes bytes w.is_stage w.bytes_are in
    let (line, inside, text, short) = w.fits in
    let long : length (print_trailers w.lines ++ crlf_bytes) ≡ length (print_trailers w.lines) + 2 = length-append (print_trailers w.lines) crlf_bytes in
    let runs = run-empty (16384 - length (print_trailers w.lines)) (length (print_stage s)) (length (print_stage s)) (length (print_stage s) + 2) (bodies w.chunks) (omega (arith, short, long)) refl in
    let all = there_is ∙ runs in
    let count : length bytes ≡ length (print_stage s) + 2 = ap length w.bytes_are ∙ length-append (print_stage s) crlf_bytes in
    record { at = ap (λ (n : Known). n.at) all; body = ap (λ (n : Known). n.body) all ∙ sym w.body_is; used = ap (λ (n : Known). n.used) all ∙ sym count }

pub record Fails (k : Known) (text : List ℕ) (place : ℕ) : Type 0 where
  pub at : k.at ≡ Bad
  pub body : k.body ≡ text
  pub from : k.from ≡ place

scan : (s : Stage) (rest part : List ℕ) → InState s part → NeverFits s (part ++ rest) → 0 < length (part ++ rest) → Fails (there s (part ++ rest)) (body_before s) (length (print_stage s))
scan s [] part state never some = absurd (none (live (there s part).at s part state.holds)) where
  none : MayFit s part → ⊥
  none (inl empty) = omega (arith, ap length empty, length-append part [], some)
  none (inr (more, more_some, fits)) = never more (part ++ more) [] fits (ap (λ t. t ++ more) (append-nil part) ∙ sym (append-nil (part ++ more)))
scan s (b ∷ rest) part state never some =
    let seam : part ++ b ∷ rest ≡ (part ++ b ∷ []) ++ rest = sym (append_assoc part (b ∷ []) rest) in
    elim (stepped (there s part).at s part b state.holds) [
      | inl holds ↦
          rw seam (scan s rest (part ++ b ∷ []) (push s part b state holds) (rw seam at never) (omega (arith, length-append (part ++ b ∷ []) rest, one-more part b)))
      | inr other ↦ fault s rest part b state never other
    ]
  where
    fault : (s : Stage) (rest part : List ℕ) (b : ℕ) → InState s part → NeverFits s (part ++ b ∷ rest) → Fits s (part ++ b ∷ []) ⊎ (step (there s part).at b ≡ Bad)
        → Fails (there s (part ++ b ∷ rest)) (body_before s) (length (print_stage s))
    fault s rest part b state never (inl fits) =
        absurd (never [] (part ++ b ∷ []) rest fits (append-nil (part ++ b ∷ rest) ∙ sym (append_assoc part (b ∷ []) rest)))
    fault s rest part b state never (inr bad) =
        let m = there s part in
        let other = bad-not-bytes m.at s part b state.holds bad in
        let body : (advance m b).body ≡ body_before s =
        ap (λ v. if v then m.body ++ (b ∷ []) else m.body) (data-is m.at s part state.holds ∙ other) ∙ state.body ∙ ap (λ t. body_before s ++ t) (no-bytes s part other) ∙ append-nil (body_before s) in
        let from : (advance m b).from ≡ length (print_stage s) = ap (λ a. if is_start a then m.used + 1 else m.from) bad ∙ state.from other in
        let stuck = bad-stays (advance m b) rest bad in
        let whole : there s (part ++ b ∷ rest) ≡ run (advance m b) rest = run-append (behind s) part (b ∷ rest) in
        rw whole (record { at = stuck.at; body = stuck.body ∙ body; from = stuck.from ∙ from })

pub fails-known : (bytes body : List ℕ) (place : ℕ) → IsFaulty bytes body place → Fails (run start bytes) body place
fails-known bytes body place f =
    let there_is = at-stage f.stage f.rest bytes f.is_stage f.bytes_are in
    rw (there_is, f.body_is, f.place_is) (scan f.stage f.rest [] (begun f.stage f.is_stage) f.never f.some)

-- ---- and the other way round

pub known-goes : (bytes : List ℕ) → is_open (run start bytes).at ≡ true → GoesOn bytes (run start bytes).body
known-goes bytes at = go (tells bytes) at where
  go : Tells (run start bytes) bytes → is_open (run start bytes).at ≡ true → GoesOn bytes (run start bytes).body
  go (going s part is printed same state) at = record {
    stage = s;
    part = part;
    is_stage = is;
    bytes_are = printed;
    part_may = live (there s part).at s part state.holds;
    body_is = ap (λ (n : Known). n.body) same ∙ state.body;
  }
  go (over front rest e whole done used) at = absurd (true≢false (sym at ∙ ap is_open done))
  go (wrong f bad used) at = absurd (true≢false (sym at ∙ ap is_open bad))

pub known-ends : (bytes : List ℕ) → (run start bytes).at ≡ Done → (run start bytes).used ≡ length bytes → IsWhole bytes (run start bytes).body
known-ends bytes at used = go (tells bytes) where
  go : Tells (run start bytes) bytes → IsWhole bytes (run start bytes).body
  go (going s part is printed same state) =
      let (done, opens) = open-is (there s part).at s part state.holds in
      let is_done_at : (there s part).at ≡ Done = sym (ap (λ (n : Known). n.at) same) ∙ at in
      absurd (true≢false (sym opens ∙ ap is_open is_done_at))
  go (over front [] e whole done count) = let same : front ≡ bytes = sym (append-nil front) ∙ sym e in subst (λ (t : List ℕ). IsWhole t (run start bytes).body) same whole
  go (over front (r ∷ rest) e whole done count) = absurd (omega (arith, count, used, ap length e, length-append front (r ∷ rest)))
  go (wrong f bad count) = let clash : Done ≡ Bad = sym at ∙ bad in absurd (cc)

pub known-fails : (bytes : List ℕ) → (run start bytes).at ≡ Bad → IsFaulty bytes (run start bytes).body (run start bytes).from
known-fails bytes at = go (tells bytes) where
  go : Tells (run start bytes) bytes → IsFaulty bytes (run start bytes).body (run start bytes).from
  go (going s part is printed same state) =
      let (done, opens) = open-is (there s part).at s part state.holds in
      let is_bad : (there s part).at ≡ Bad = sym (ap (λ (n : Known). n.at) same) ∙ at in
      absurd (true≢false (sym opens ∙ ap is_open is_bad))
  go (over front rest e whole done count) = let clash : Done ≡ Bad = sym done ∙ at in absurd (cc)
  go (wrong f bad count) = f
