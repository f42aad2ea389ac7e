-- One more byte of a name that is escaped.
use Rattle.std.proofs.Common.{◌≡◌, ℕ, ◌+◌, ◌-◌, ◌<◌, ◌≤◌, true, false, ◌&&◌, List, [], ◌∷◌, ◌++◌, length, drop, take, get_or, refl, sym, ap, ◌∙◌, append_assoc, append-nil, arith, ◌==◌, suc, zero}
use Rattle.std.proofs.lemmas.List.{drop_all}
use Rattle.std.proofs.Math.Seq.{take-length}
use Rattle.std.proofs.Common.{length-drop}
use Rattle.plain_lemmas.proofs.Lists.{drop_next}
use Rattle.dap_types.specs.Names.{constraint_id_from, constraint_id, upper_case, escaped_byte, begins_with_digits}

pub digit_step : (out rest : List ℕ) (left b : ℕ) → 0 < left
    → (out ++ upper_case b ∷ []) ++ constraint_id_from (left - 1) rest ≡ out ++ constraint_id_from left (b ∷ rest)
digit_step out rest zero b l = absurd (omega arith)
digit_step out rest (suc left) b l = let n : suc left - 1 ≡ left = omega arith in rw (n, append_assoc) refl

pub escape_step : (out rest : List ℕ) (left b : ℕ) → left ≡ 0 → b ≡ 37 → begins_with_digits rest ≡ true
    → (out ++ 37 ∷ []) ++ constraint_id_from 2 rest ≡ out ++ constraint_id_from left (b ∷ rest)
escape_step out rest left b l e d = rw (l, e, append_assoc) (rw d refl)

pub plain_step : (out rest : List ℕ) (left b : ℕ) → left ≡ 0 → ((b == 37) && begins_with_digits rest) ≡ false
    → (out ++ escaped_byte b) ++ constraint_id_from 0 rest ≡ out ++ constraint_id_from left (b ∷ rest)
plain_step out rest left b l e = rw (l, append_assoc) (rw e refl)

pub ruleset escape_laws = (digit_step, escape_step, plain_step)

pub name_more : (bytes out out' : List ℕ) (left left' i : ℕ) (rest goal : List ℕ) → out ++ constraint_id_from left (drop i bytes) ≡ goal → i < length bytes
    → rest ≡ drop (i + 1) bytes
    → out' ++ constraint_id_from left' rest ≡ out ++ constraint_id_from left (get_or bytes i 0 ∷ rest)
    → out' ++ constraint_id_from left' (drop (i + 1) bytes) ≡ goal
name_more bytes out out' left left' i rest goal e h r s =
    ap (λ (x : List ℕ). out' ++ constraint_id_from left' x) (sym r) ∙ s ∙ ap (λ (x : List ℕ). out ++ constraint_id_from left (get_or bytes i 0 ∷ x)) r
    ∙ ap (λ (x : List ℕ). out ++ constraint_id_from left x) (sym (drop_next bytes i h)) ∙ e

pub rest_is : (bytes : List ℕ) (i : ℕ) → take (length bytes - i) (drop i bytes) ≡ drop i bytes
rest_is bytes i = rw (← length-drop i bytes) (take-length (drop i bytes))

pub name_ends : (bytes out : List ℕ) (left i : ℕ) → out ++ constraint_id_from left (drop i bytes) ≡ constraint_id_from 0 bytes → length bytes ≤ i → out ≡ constraint_id bytes
unfolding constraint_id
name_ends bytes out left i e h =
    let d : drop i bytes ≡ [] = drop_all i bytes h in
    sym (append-nil out) ∙ (rw d at e)
