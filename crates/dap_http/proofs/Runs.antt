-- Running over bytes of the chunked coding: runs one behind the other, and what stays or grows.
use Rattle.std.proofs.Common.{◌≡◌, ℕ, ◌+◌, ◌≤◌, Bool, true, false, List, [], ◌∷◌, ◌++◌, length, refl, sym, ap, ◌∙◌, arith, append_assoc, append-nil}
use Rattle.std.proofs.lemmas.Bool.{true≢false}
use Rattle.std.specs.Prelude.{if◌then◌else◌}
use Rattle.dap_http.specs.declared.chunk_step.At.{At}
use Rattle.dap_http.specs.declared.chunk_step.At.TheVariants.{Done, Bad}
use Rattle.dap_http.specs.inner.Steps.{Known, advance, is_data, is_done, is_start, run, step}

abbrev pub known : At → ℕ → ℕ → List ℕ → Known
known at used from body = record { at = at; used = used; from = from; body = body }

pub run-append : (k : Known) (a b : List ℕ) → run k (a ++ b) ≡ run (run k a) b
run-append k [] b = refl
run-append k (x ∷ a) b = run-append (advance k x) a b

-- one more byte of a line
pub stays : (at next : At) (u f : ℕ) (body : List ℕ) (x : ℕ) → step at x ≡ next → is_done at ≡ false → is_data at ≡ false → is_start next ≡ false
    → advance (known at u f body) x ≡ known next (u + 1) f body
stays at next u f body x e done dat starts = rw (e, done, dat, starts) refl

-- the last byte of a line
pub begins : (at next : At) (u f : ℕ) (body : List ℕ) (x : ℕ) → step at x ≡ next → is_done at ≡ false → is_data at ≡ false → is_start next ≡ true
    → advance (known at u f body) x ≡ known next (u + 1) (u + 1) body
begins at next u f body x e done dat starts = rw (e, done, dat, starts) refl

-- behind the end nothing changes
pub record Same (k l : Known) : Type 0 where
  pub at : l.at ≡ k.at
  pub used : l.used ≡ k.used
  pub body : l.body ≡ k.body

pub done-stays : (k : Known) (bytes : List ℕ) → k.at ≡ Done → Same k (run k bytes)
done-stays k [] is = record { at = refl; used = refl; body = refl }
done-stays k (b ∷ bytes) is =
    let at : (advance k b).at ≡ Done = ap (λ a. step a b) is in
    let used : (advance k b).used ≡ k.used = ap (λ a. if is_done a then k.used else k.used + 1) is in
    let body : (advance k b).body ≡ k.body = ap (λ a. if is_data a then k.body ++ (b ∷ []) else k.body) is in
    let more = done-stays (advance k b) bytes at in
    record { at = more.at ∙ at ∙ sym is; used = more.used ∙ used; body = more.body ∙ body }

-- behind a fault nothing but the count changes
pub record Stuck (k l : Known) (n : ℕ) : Type 0 where
  pub at : l.at ≡ Bad
  pub used : l.used ≡ k.used + n
  pub from : l.from ≡ k.from
  pub body : l.body ≡ k.body

pub bad-stays : (k : Known) (bytes : List ℕ) → k.at ≡ Bad → Stuck k (run k bytes) (length bytes)
bad-stays k [] is = record { at = is; used = omega arith; from = refl; body = refl }
bad-stays k (b ∷ bytes) is =
    let at : (advance k b).at ≡ Bad = ap (λ a. step a b) is in
    let used : (advance k b).used ≡ k.used + 1 = ap (λ a. if is_done a then k.used else k.used + 1) is in
    let from : (advance k b).from ≡ k.from = ap (λ a. if is_start (step a b) then k.used + 1 else k.from) is in
    let body : (advance k b).body ≡ k.body = ap (λ a. if is_data a then k.body ++ (b ∷ []) else k.body) is in
    let more = bad-stays (advance k b) bytes at in
    record { at = more.at; used = omega (arith, more.used, used); from = more.from ∙ from; body = more.body ∙ body }

-- the body only grows
grown : (d : Bool) (body : List ℕ) (b : ℕ) → (x : List ℕ) × ((if d then body ++ (b ∷ []) else body) ≡ body ++ x)
grown true body b = (b ∷ [], refl)
grown false body b = ([], sym (append-nil body))

pub body-grows : (k : Known) (bytes : List ℕ) → (x : List ℕ) × ((run k bytes).body ≡ k.body ++ x)
body-grows k [] = ([], sym (append-nil k.body))
body-grows k (b ∷ bytes) =
    let (x, first) = grown (is_data k.at) k.body b in
    let (y, more) = body-grows (advance k b) bytes in
    (x ++ y, more ∙ ap (λ t. t ++ y) first ∙ append_assoc k.body x y)

-- as many bytes are used as there are, but behind the end
counted : (d : Bool) (u : ℕ) → (if d then u else u + 1) ≤ u + 1
counted true u = omega arith
counted false u = omega arith

pub used-most : (k : Known) (bytes : List ℕ) → (run k bytes).used ≤ k.used + length bytes
used-most k [] = omega arith
used-most k (b ∷ bytes) =
    let first : (advance k b).used ≤ k.used + 1 = counted (is_done k.at) k.used in
    let more = used-most (advance k b) bytes in
    omega (arith, first, more)

-- where the last line began only moves on
pub record MovesOn (k l : Known) : Type 0 where
  pub from : k.from ≤ l.from
  pub within : l.from ≤ l.used

moved : (done starts : Bool) (u f : ℕ) → (done ≡ true → starts ≡ false) → f ≤ u
    → (f ≤ (if starts then u + 1 else f)) × ((if starts then u + 1 else f) ≤ (if done then u else u + 1))
moved false true u f keep le = (omega (arith, le), omega arith)
moved false false u f keep le = (omega arith, omega (arith, le))
moved true true u f keep le = absurd (true≢false (keep refl))
moved true false u f keep le = (omega arith, le)

done-starts : (at : At) (b : ℕ) → is_done at ≡ true → is_start (step at b) ≡ false
done-starts Done b is = refl
done-starts at b is = absurd (true≢false (sym is))

pub moves-on : (k : Known) (bytes : List ℕ) → k.from ≤ k.used → MovesOn k (run k bytes)
moves-on k [] le = record { from = omega arith; within = le }
moves-on k (b ∷ bytes) le =
    let (from, within) = moved (is_done k.at) (is_start (step k.at b)) k.used k.from (done-starts k.at b) le in
    let more = moves-on (advance k b) bytes within in
    record { from = omega (arith, from, more.from); within = more.within }
