-- Bytes are one thing alone to a reader: ended with one dataset, bad at one place, or unfinished.
use Rattle.std.proofs.Common.{◌≡◌, ℕ, ◌+◌, ◌<◌, ◌≤◌, inl, inr, ⊎_elim, List, [], ◌∷◌, ◌++◌, length, map, take, drop, slice_get, option_map, refl, sym, ap, subst, ◌∙◌, append_assoc, append-nil, length-take-le, take-append-drop, take-take, take_all, codes, arith}
use Rattle.std.proofs.lemmas.Bool.{cases_order, cases_lt}
use Rattle.std.proofs.lemmas.Option.{same_Some}
use Rattle.plain_lemmas.proofs.Lists.{last_part}
use Rattle.dap_types.specs.Model.{Dataset}
use Rattle.dap_model.specs.Grammar.{IsFirstBad}
use Rattle.dap_model.specs.Tokens.{Token, Placed, ended as ended_word, sign_at, tokens_from, whole_tokens, tokens_of}
use Rattle.dds_text.specs.inner.Machine.{Keeps}
use Rattle.dds_text.specs.Reading.{IsEnded, IsDdsRefused, IsOpen, limit, IsDone, IsBadText, IsUnfinished}
use Rattle.dds_text.specs.inner.States.{begun, ended}
use Rattle.dds_text.specs.inner.Words.{left, left_from}
use Rattle.dds_text.proofs.Bytes.{tokens_from-append}
use Rattle.dds_text.proofs.Readings.{keeps_on, behind_ended, same_dataset, tokens_grow, ended_kept}

-- bytes that end with a semicolon hold a token
not_none : {X : Type 0} (xs ys : List X) (x : X) → xs ++ x ∷ ys ≡ [] → ⊥
not_none [] ys x e = cc
not_none (z ∷ xs) ys x e = cc

holds_token : (front : List ℕ) (at : ℕ) (w : List ℕ) → map (λ (p : Placed). p.token) (tokens_from front at (w ++ 59 ∷ [])) ≡ [] → ⊥
holds_token front at w none =
    let whole = tokens_from-append front at (at + length w) w (59 ∷ []) refl in
    from (tokens_from front at w) (ended_word (left_from front w) (at + length w)) (sym whole)
  where
    none_left : (ps : List Placed) → map (λ (p : Placed). p.token) ps ≡ [] → ps ≡ []
    none_left [] e = refl
    none_left (p ∷ ps) e = cc

    from : (xs ys : List Placed) → xs ++ ((ys ++ sign_at 59 (at + length w)) ++ []) ≡ tokens_from front at (w ++ 59 ∷ []) → ⊥
    from xs ys same =
        let flat : xs ++ ys ++ sign_at 59 (at + length w) ≡ [] = append_assoc xs ys (sign_at 59 (at + length w)) ∙ ap (λ zs. xs ++ zs) (sym (append-nil (ys ++ sign_at 59 (at + length w)))) ∙ same ∙ none_left (tokens_from front at (w ++ 59 ∷ [])) none in
        not_none (xs ++ ys) [] (record { token = Rattle.dap_model.specs.Tokens.sign 59; place = at + length w }) flat

-- two ends, one not behind the other
nothing_between : (first u w : List ℕ) (d e : Dataset) → Keeps begun (tokens_of first) (ended d) → Keeps begun (tokens_of (first ++ u)) (ended e) → first ++ u ≡ w ++ codes ";" → (u ≡ []) × (d ≡ e)
nothing_between first u w d e kept whole last =
    let rest = behind_ended d (map (λ (p : Placed). p.token) (tokens_from (left first) (length first) u)) (ended e)
    (keeps_on begun (ended d) (ended e) (tokens_of first) (map (λ (p : Placed). p.token) (tokens_from (left first) (length first) u)) kept (subst (λ ts. Keeps begun ts (ended e)) (tokens_grow first u) whole)) in
    (none u last rest.0, same_dataset d e rest.1)
  where
    none : (u : List ℕ) → first ++ u ≡ w ++ codes ";" → map (λ (p : Placed). p.token) (tokens_from (left first) (length first) u) ≡ [] → u ≡ []
    none [] last empty = refl
    none (b ∷ bs) last empty =
        let (v, is) = last_part first bs w b 59 last in
        absurd (holds_token (left first) (length first) v (ap (λ x. map (λ (p : Placed). p.token) (tokens_from (left first) (length first) x)) (sym is) ∙ empty))

same_end : (bytes : List ℕ) (n m : ℕ) (d e : Dataset) → n ≤ m → IsEnded bytes n d → IsEnded bytes m e → (n ≡ m) × (d ≡ e)
same_end bytes n m d e le a b =
    let first : List ℕ = take n bytes in
    let u : List ℕ = drop n (take m bytes) in
    let inner : take n (take m bytes) ≡ first = take-take n m bytes le in
    let split : first ++ u ≡ take m bytes = ap (λ z. z ++ u) (sym inner) ∙ take-append-drop n (take m bytes) in
    let (w, last) = b.is_text.ends in
    let (none, same) = nothing_between first u w d e (ended_kept bytes n d a) (subst (λ z. Keeps begun (tokens_of z) (ended e)) (sym split) (ended_kept bytes m e b)) (split ∙ last) in
    let whole : first ≡ take m bytes = sym (append-nil first) ∙ ap (λ z. first ++ z) (sym none) ∙ split in
    let long : length first ≡ n = length-take-le n bytes a.within in
    let longer : length (take m bytes) ≡ m = length-take-le m bytes b.within in
    (sym long ∙ ap length whole ∙ longer, same)

pub one_end : (bytes : List ℕ) (n m : ℕ) (d e : Dataset) → IsEnded bytes n d → IsEnded bytes m e → (n ≡ m) × (d ≡ e)
one_end bytes n m d e a b =
    ⊎_elim (λ less. let both = same_end bytes m n e d (omega arith) b a in (sym both.0, sym both.1)) (λ le. same_end bytes n m d e le a b) (cases_lt m n)

-- one first bad token
pub one_first : (ts : List Token) (j k : ℕ) → IsFirstBad ts j → IsFirstBad ts k → j ≡ k
one_first ts j k a b = ⊎_elim (λ same. same) (λ apart. absurd (⊎_elim (λ lt. b.first j lt a.bad) (λ gt. a.first k gt b.bad) apart)) (cases_order j k)

one_refusal : (bytes : List ℕ) (p q : ℕ) → IsDdsRefused bytes p → IsDdsRefused bytes q → p ≡ q
one_refusal bytes p q a b =
    let (j, first, at) = a.bad in
    let (k, first', at') = b.bad in
    same_Some p q (sym at ∙ ap (λ i. option_map (λ p. p.place) (slice_get (whole_tokens bytes) i)) (one_first (tokens_of bytes) j k first first') ∙ at')

refused_not_open : (bytes : List ℕ) (p : ℕ) → IsDdsRefused bytes p → IsOpen bytes → ⊥
refused_not_open bytes p a o = let (k, first, at) = a.bad in o.good k first.within first.bad

pub one_place : (bytes : List ℕ) (p q : ℕ) → IsBadText bytes p → IsBadText bytes q → p ≡ q
one_place bytes p q (inl a) (inl b) = one_refusal (take limit bytes) p q a b
one_place bytes p q (inl a) (inr b) = absurd (refused_not_open (take limit bytes) p a b.0)
one_place bytes p q (inr a) (inl b) = absurd (refused_not_open (take limit bytes) q b a.0)
one_place bytes p q (inr a) (inr b) = a.2 ∙ sym b.2

pub done_not_bad : (bytes : List ℕ) (n p : ℕ) (d : Dataset) → IsDone bytes n d → IsBadText bytes p → ⊥
done_not_bad bytes n p d is (inl a) = a.unended n d is
done_not_bad bytes n p d is (inr a) = a.0.unended n d is

-- within the limit all bytes count
all_within : (bytes : List ℕ) → length bytes < limit → take limit bytes ≡ bytes
all_within bytes lt = take_all limit bytes (omega arith)

pub done_not_unfinished : (bytes : List ℕ) (n : ℕ) (d : Dataset) → IsDone bytes n d → IsUnfinished bytes → ⊥
done_not_unfinished bytes n d is o = o.0.unended n d (subst (λ bs. IsEnded bs n d) (all_within bytes o.1) is)

pub bad_not_unfinished : (bytes : List ℕ) (p : ℕ) → IsBadText bytes p → IsUnfinished bytes → ⊥
bad_not_unfinished bytes p (inl a) o = refused_not_open bytes p (subst (λ bs. IsDdsRefused bs p) (all_within bytes o.1) a) o.0
bad_not_unfinished bytes p (inr a) o = absurd (omega (arith, a.1, o.1))
