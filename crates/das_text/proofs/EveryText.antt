-- Each text is a DAS, or bad, or followed by something else, or cut.
use Rattle.std.proofs.Common.{◌≡◌, ℕ, ◌<◌, ◌≤◌, List, [], ◌∷◌, ◌++◌, length, drop, refl, ap, Bool, true, false, not, IsTrue, inl, inr, ◌⊎◌}
use Rattle.std.specs.List.{list_all}
use Rattle.std.proofs.lemmas.Bool.{cases_lt}
use Rattle.text_tokens.specs.Tokens.{is_white}
use Rattle.text_tokens.proofs.Every.{every, Verdict}
use Rattle.das_text.specs.Grammar.{signs, IsDas}
use Rattle.das_text.specs.inner.Machine.{start, step, ended, IsOpenState}
use Rattle.das_text.specs.Model.{Attributes}
use Rattle.das_text.specs.Reading.{front, limit, DasOf, DasEndsAt, IsTrailing, IsBad, IsCut, IsUnended}
use Rattle.das_text.proofs.Language.{machine}

abbrev pub Answer : List ℕ → Type 0
Answer text = ((a : Attributes) × DasOf text a) ⊎ ((place : ℕ) × IsBad text place) ⊎ ((place : ℕ) × IsTrailing text place) ⊎ IsCut text

-- only white space, or another byte behind some
abbrev pub Behind : List ℕ → Type 0
Behind l = IsTrue (list_all is_white l) ⊎ ((white : List ℕ) × (b : ℕ) × (rest : List ℕ) × (l ≡ white ++ b ∷ rest) × IsTrue (list_all is_white white) × IsTrue (not (is_white b)))

pub behind : (l : List ℕ) → Behind l
behind [] = inl refl
behind (b ∷ l) = on (is_white b) refl (behind l)
  where
    on : (c : Bool) → is_white b ≡ c → Behind l → Behind (b ∷ l)
    on true e (inl all) = inl (rw (e, all) refl)
    on true e (inr (white, c, rest, is, all, other)) = inr (b ∷ white, c, rest, ap (λ (z : List ℕ). b ∷ z) is, rw (e, all) refl, other)
    on false e more = inr ([], b, l, refl, refl, rw e refl)

behind_end : (text : List ℕ) (to : ℕ) (a : Attributes) → DasEndsAt text to a → Behind (drop to text) → Answer text
behind_end text to a ends (inl all) = inl (a, record { behind = to; ends = ends; white = all })
behind_end text to a ends (inr (white, b, rest, is, all, other)) =
    inr (inr (inl (_, record { behind = to; attributes = a; ends = ends; trails = record { white = white; byte = b; rest = rest; bytes_are = is; all_white = all; other = other; place_is = refl } })))

unended : (text : List ℕ) → IsUnended text → (length text < limit) ⊎ (limit ≤ length text) → Answer text
unended text b (inl short) = inr (inr (inr (b, short)))
unended text b (inr long) = inr (inl (limit, inr (b, long, refl)))

pub every_text : (text : List ℕ) → Answer text
every_text text = on (every signs IsDas step start ended IsOpenState machine (front text))
  where
    on : Verdict signs IsDas step start ended IsOpenState machine (front text) → Answer text
    on (inl (to, a, ends)) = behind_end text to a ends (behind (drop to text))
    on (inr (inl (place, b))) = inr (inl (place, inl b))
    on (inr (inr b)) = unended text b (cases_lt (length text) limit)
