-- What is known of bytes is what they are, and whatever they are is known.
use Rattle.std.proofs.Common.{◌≡◌, ℕ, ◌+◌, Bool, false, List, [], ◌∷◌, ◌++◌, length, refl, sym, ap, ◌∙◌, arith, append_assoc, append-nil, length-append, inl, inr}
use Rattle.std.specs.Prelude.{if◌then◌else◌}
use Rattle.std.proofs.lemmas.Bool.{true≢false}
use Rattle.std.proofs.lemmas.List.Elements.{All-nil}
use Rattle.dap_http.specs.declared.chunk_step.At.TheVariants.{Done, Bad}
use Rattle.dap_http.specs.Chunks.{IsChunk, IsFaulty, IsStage, IsWhole, Stage, at_bytes, at_end, at_line, at_trailer, bodies, body_before, body_in, print_stage}
use Rattle.dap_http.specs.inner.Steps.{Known, advance, is_data, is_done, is_start, run, start, step}
use Rattle.dap_http.proofs.Inside.{Holds, Steps, bad-not-bytes, data-is, is_bytes, open-is, start-is, stepped}
use Rattle.dap_http.proofs.Next.{NextStage, bad-never, ends, goes, next-stage, run-next}
use Rattle.dap_http.proofs.Runs.{bad-stays, done-stays, known, run-append}
use Rattle.dap_http.proofs.Seams.{one-more}
use Rattle.dap_http.proofs.Stages.{at_stage, behind}

-- what is known behind a stage and a part of what fits there
abbrev pub there : Stage → List ℕ → Known
there s part = run (behind s) part

pub record InState (s : Stage) (part : List ℕ) : Type 0 where
  pub holds : Holds (there s part).at s part
  pub from : is_bytes s ≡ false → (there s part).from ≡ length (print_stage s)
  pub body : (there s part).body ≡ body_before s ++ body_in s part
  pub used : (there s part).used ≡ length (print_stage s) + length part

pub no-bytes : (s : Stage) (text : List ℕ) → is_bytes s ≡ false → body_in s text ≡ []
no-bytes (at_line cs) text is = refl
no-bytes (at_bytes cs l) text is = absurd (true≢false is)
no-bytes (at_end cs l bytes) text is = refl
no-bytes (at_trailer cs l lines) text is = refl

no-text : (s : Stage) → body_before s ++ body_in s [] ≡ body_before s
no-text (at_line cs) = append-nil _
no-text (at_bytes cs l) = append-nil _
no-text (at_end cs l bytes) = append-nil _
no-text (at_trailer cs l lines) = append-nil _

more-body : (s : Stage) (part : List ℕ) (b : ℕ) (body : List ℕ) (d : Bool) → d ≡ is_bytes s → body ≡ body_before s ++ body_in s part
    → (if d then body ++ (b ∷ []) else body) ≡ body_before s ++ body_in s (part ++ b ∷ [])
more-body (at_line cs) part b body d e is = ap (λ v. if v then body ++ (b ∷ []) else body) e ∙ is
more-body (at_bytes cs l) part b body d e is = ap (λ v. if v then body ++ (b ∷ []) else body) e ∙ ap (λ t. t ++ b ∷ []) is ∙ append_assoc (bodies cs) part (b ∷ [])
more-body (at_end cs l bytes) part b body d e is = ap (λ v. if v then body ++ (b ∷ []) else body) e ∙ is
more-body (at_trailer cs l lines) part b body d e is = ap (λ v. if v then body ++ (b ∷ []) else body) e ∙ is

pub there-more : (s : Stage) (part : List ℕ) (b : ℕ) → there s (part ++ b ∷ []) ≡ advance (there s part) b
there-more s part b = run-append (behind s) part (b ∷ [])

-- one more byte inside
pub push : (s : Stage) (part : List ℕ) (b : ℕ) → InState s part → Holds (step (there s part).at b) s (part ++ b ∷ []) → InState s (part ++ b ∷ [])
push s part b in_state holds =
    let k = there s part in
    let e = there-more s part b in
    let at : (there s (part ++ b ∷ [])).at ≡ step k.at b = ap (λ (m : Known). m.at) e in
    let (done, going) = open-is k.at s part in_state.holds in
    record {
      holds = rw at holds;
      from = λ other.
          let starts = start-is (step k.at b) s (part ++ b ∷ []) holds (omega (arith, one-more part b)) other in
          ap (λ (m : Known). m.from) e ∙ ap (λ v. if v then k.used + 1 else k.from) starts ∙ in_state.from other;
      body = ap (λ (m : Known). m.body) e ∙ more-body s part b k.body (is_data k.at) (data-is k.at s part in_state.holds) in_state.body;
      used =
          let one : (there s (part ++ b ∷ [])).used ≡ k.used + 1 = ap (λ (m : Known). m.used) e ∙ ap (λ v. if v then k.used else k.used + 1) done in
          omega (arith, one, in_state.used, one-more part b);
    }

starts-there : (s : Stage) → IsStage s → Holds (at_stage s) s []
starts-there (at_line cs) is = refl
starts-there (at_bytes cs l) (all, is, some) = (omega arith, some)
starts-there (at_end cs l bytes) is = refl
starts-there (at_trailer cs l lines) (all, is, none, trailers, short) = (refl, omega (arith, short))

pub begun : (s : Stage) → IsStage s → InState s []
begun s is = record { holds = starts-there s is; from = λ other. refl; body = sym (no-text s); used = omega arith }

-- ---- soundness

pub data Tells (k : Known) (bytes : List ℕ) : Type 0 where
  going : (s : Stage) (part : List ℕ) → IsStage s → bytes ≡ print_stage s ++ part → k ≡ there s part → InState s part → Tells k bytes
  over : (front rest : List ℕ) → bytes ≡ front ++ rest → IsWhole front k.body → k.at ≡ Done → k.used ≡ length front → Tells k bytes
  wrong : IsFaulty bytes k.body k.from → k.at ≡ Bad → k.used ≡ length bytes → Tells k bytes

pub faulty-more : (bytes body : List ℕ) (place : ℕ) (more : List ℕ) → IsFaulty bytes body place → IsFaulty (bytes ++ more) body place
faulty-more bytes body place more f = record {
  stage = f.stage;
  rest = f.rest ++ more;
  is_stage = f.is_stage;
  bytes_are = ap (λ t. t ++ more) f.bytes_are ∙ append_assoc (print_stage f.stage) f.rest more;
  some = omega (arith, length-append f.rest more, f.some);
  never = λ others text rest fits e. f.never (more ++ others) text rest fits (sym (append_assoc f.rest more others) ∙ e);
  place_is = f.place_is;
  body_is = f.body_is;
}

tell-more : (k : Known) (bytes : List ℕ) (b : ℕ) → Tells k bytes → Tells (advance k b) (bytes ++ b ∷ [])
tell-more k bytes b (over front rest is whole at used) =
    let same = done-stays k (b ∷ []) at in
    over front (rest ++ b ∷ []) (ap (λ t. t ++ b ∷ []) is ∙ append_assoc front rest (b ∷ [])) (rw same.body whole) (same.at ∙ at) (same.used ∙ used)
tell-more k bytes b (wrong f at used) =
    let same = bad-stays k (b ∷ []) at in
    wrong (rw (same.body, same.from) (faulty-more bytes k.body k.from (b ∷ []) f)) same.at (omega (arith, same.used, used, length-append bytes (b ∷ [])))
tell-more k bytes b (going s part is printed same in_state) = go (stepped (there s part).at s part b in_state.holds) where
  after : advance k b ≡ there s (part ++ b ∷ [])
  after = ap (λ m. advance m b) same ∙ sym (there-more s part b)

  all : bytes ++ b ∷ [] ≡ print_stage s ++ (part ++ b ∷ [])
  all = ap (λ t. t ++ b ∷ []) printed ∙ append_assoc (print_stage s) part (b ∷ [])

  fitting : NextStage s (part ++ b ∷ []) → Tells (advance k b) (bytes ++ b ∷ [])
  fitting (goes next nexts text body) =
      going next [] nexts (all ∙ sym text ∙ sym (append-nil (print_stage next))) (after ∙ run-next s next (part ++ b ∷ []) is nexts text) (begun next nexts)
  fitting (ends whole runs) =
      let e : advance k b ≡ known Done (length (print_stage s) + length (part ++ b ∷ [])) (length (print_stage s)) (body_before s) = after ∙ runs in
      rw (e, all) (over (print_stage s ++ (part ++ b ∷ [])) [] (sym (append-nil (print_stage s ++ (part ++ b ∷ [])))) whole refl (sym (length-append (print_stage s) (part ++ b ∷ []))))

  go : Steps (step (there s part).at b) s (part ++ b ∷ []) → Tells (advance k b) (bytes ++ b ∷ [])
  go (inl holds) = going s (part ++ b ∷ []) is all after (push s part b in_state holds)
  go (inr (inl fits)) = fitting (next-stage s (part ++ b ∷ []) is fits)
  go (inr (inr bad)) =
      let m = there s part in
      let other = bad-not-bytes m.at s part b in_state.holds bad in
      let e = there-more s part b in
      let at : (there s (part ++ b ∷ [])).at ≡ Bad = ap (λ (n : Known). n.at) e ∙ bad in
      let (done, open_at) = open-is m.at s part in_state.holds in
      let non_done : ¬ (m.at ≡ Done) = λ d. true≢false (sym (ap is_done d) ∙ done) in
      let body : (advance m b).body ≡ body_before s =
      ap (λ v. if v then m.body ++ (b ∷ []) else m.body) (data-is m.at s part in_state.holds ∙ other) ∙ in_state.body ∙ ap (λ t. body_before s ++ t) (no-bytes s part other) ∙ append-nil (body_before s) in
      let from : (advance m b).from ≡ length (print_stage s) = ap (λ a. if is_start a then m.used + 1 else m.from) bad ∙ in_state.from other in
      let used : (advance m b).used ≡ m.used + 1 = ap (λ v. if v then m.used else m.used + 1) done in
      let f : IsFaulty (bytes ++ b ∷ []) (advance m b).body (advance m b).from = record {
        stage = s;
        rest = part ++ b ∷ [];
        is_stage = is;
        bytes_are = all;
        some = omega (arith, one-more part b);
        never = bad-never s part b is non_done (in_state.from other) at;
        place_is = from;
        body_is = body;
      } in
      let moved : advance k b ≡ advance m b = ap (λ n. advance n b) same in
      rw moved (wrong f bad (omega (arith, used, in_state.used, ap length printed, length-append (print_stage s) part, length-append bytes (b ∷ []))))

tells-from : (k : Known) (bytes rest : List ℕ) → Tells k bytes → Tells (run k rest) (bytes ++ rest)
tells-from k bytes [] t = rw (append-nil bytes) t
tells-from k bytes (b ∷ rest) t = rw (sym (append_assoc bytes (b ∷ []) rest)) (tells-from (advance k b) (bytes ++ b ∷ []) rest (tell-more k bytes b t))

pub tells : (bytes : List ℕ) → Tells (run start bytes) bytes
tells bytes = tells-from start [] bytes (going (at_line []) [] (All-nil IsChunk) refl refl (begun (at_line []) (All-nil IsChunk)))
