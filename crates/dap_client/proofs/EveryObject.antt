-- Each text is an Error object, or bad at a place, or cut.
use Rattle.std.proofs.Common.{◌≡◌, ℕ, ◌+◌, ◌<◌, ◌≤◌, List, [], ◌∷◌, ◌++◌, length, drop, refl, ap, ◌∙◌, Bool, true, false, ◌==◌, IsTrue, inl, inr, ◌⊎◌}
use Rattle.std.specs.List.{list_all}
use Rattle.std.proofs.lemmas.Bool.{cases_lt, eqb-true, eqb-false}
use Rattle.text_tokens.specs.Tokens.{is_white}
use Rattle.text_tokens.proofs.Every.{every, Verdict}
use Rattle.dap_errors.specs.Object.{signs, IsObject}
use Rattle.dap_errors.specs.inner.Machine.{Start, Ended, step, IsOpenState}
use Rattle.dap_errors.specs.Reading.{front, limit, ObjectEndsAt, ErrorOf, IsBad, IsCut, IsEnd, IsStray, IsUnended}
use Rattle.dap_errors.specs.declared.object.ErrorObject.{ErrorObject}
use Rattle.dap_errors.proofs.Live.{machine}
use Rattle.das_text.proofs.EveryText.{Behind, behind}

abbrev pub Answer : List ℕ → Type 0
Answer text = ((e : ErrorObject) × ErrorOf text e) ⊎ ((place : ℕ) × IsBad text place) ⊎ IsCut text

-- behind an object stands its end, or a first byte that may not stand there
abbrev Ends : List ℕ → Type 0
Ends l = IsEnd l ⊎ ((n : ℕ) × IsStray l n)

behind_semicolon : (l white rest : List ℕ) → l ≡ white ++ 59 ∷ rest → IsTrue (list_all is_white white) → Behind rest → Ends l
behind_semicolon l white rest is all (inl also) = inl (inr (white, rest, all, also, is))
behind_semicolon l white rest is all (inr (more, c, last, so, also, other)) =
    inr (length (white ++ 59 ∷ more), (white ++ 59 ∷ more, last, c, is ∙ ap (λ (z : List ℕ). white ++ 59 ∷ z) so ∙ whole white more, refl, other, inr (white, more, all, also, refl)))
  where
    whole : (xs ys : List ℕ) → xs ++ 59 ∷ (ys ++ c ∷ last) ≡ (xs ++ 59 ∷ ys) ++ c ∷ last
    whole [] ys = refl
    whole (x ∷ xs) ys = ap (λ (z : List ℕ). x ∷ z) (whole xs ys)

ends_of : (l : List ℕ) → Behind l → Ends l
ends_of l (inl all) = inl (inl all)
ends_of l (inr (white, b, rest, is, all, other)) = on (b == 59) refl
  where
    on : (c : Bool) → (b == 59) ≡ c → Ends l
    on true e = behind_semicolon l white rest (is ∙ ap (λ (z : ℕ). white ++ z ∷ rest) (eqb-true b 59 e)) all (behind rest)
    on false e = inr (length white, (white, rest, b, is, refl, other, inl (all, λ same. eqb-false b 59 e same)))

ended : (text : List ℕ) (to : ℕ) (e : ErrorObject) → ObjectEndsAt text to e → Ends (drop to text) → Answer text
ended text to e ends (inl end) = inl (e, record { behind = to; ends = ends; end = end })
ended text to e ends (inr (n, stray)) = inr (inl (_, inr (inl (record { behind = to; error = e; count = n; ends = ends; stray = stray; place_is = refl }))))

unended : (text : List ℕ) → IsUnended text → (length text < limit) ⊎ (limit ≤ length text) → Answer text
unended text b (inl short) = inr (inr (b, short))
unended text b (inr long) = inr (inl (limit, inr (inr (b, long, refl))))

pub every_object : (text : List ℕ) → Answer text
every_object text = on (every signs IsObject step Start Ended IsOpenState machine (front text))
  where
    on : Verdict signs IsObject step Start Ended IsOpenState machine (front text) → Answer text
    on (inl (to, e, ends)) = ended text to e ends (ends_of (drop to text) (behind (drop to text)))
    on (inr (inl (place, b))) = inr (inl (place, inl b))
    on (inr (inr b)) = unended text b (cases_lt (length text) limit)
