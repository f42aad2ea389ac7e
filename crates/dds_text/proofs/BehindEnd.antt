-- The bad token of bytes among which a text ends stands behind its end.
use Rattle.std.proofs.Common.{◌≡◌, ℕ, zero, suc, ◌+◌, ◌≤◌, List, [], ◌∷◌, ◌++◌, length, take, drop, slice_get, Bool, true, false, ◌||◌, if◌then◌else◌, Some, option_map, All, refl, sym, ap, subst, ◌∙◌, ⊎_elim, length-append, length-take-le, take-append-drop, arith}
use Rattle.std.proofs.lemmas.Bool.{cases_lt}
use Rattle.std.proofs.lemmas.List.{length-map}
use Rattle.std.proofs.lemmas.List.Elements.{All-append, All-cons, All-nil}
use Rattle.std.proofs.lemmas.Option.{none-some, same_Some}
use Rattle.dap_types.specs.Model.{Dataset}
use Rattle.dap_model.proofs.Values.{all_first, all_rest}
use Rattle.dap_model.specs.Grammar.{IsBad, IsFirstBad, IsBadAt}
use Rattle.dap_model.specs.Tokens.{Placed, is_white, is_sign, ended as ended_word, sign_at, tokens_from, whole_tokens, tokens_of}
use Rattle.dds_text.specs.Reading.{IsEnded}
use Rattle.dds_text.specs.inner.States.{ended}
use Rattle.dds_text.specs.inner.Words.{left}
use Rattle.dds_text.proofs.Bytes.{left-stop, whole_tokens-append}
use Rattle.dds_text.proofs.Readings.{ended_kept, tokens_split}
use Rattle.dds_text.proofs.Verdicts.{none_bad}

-- the place is not before this one
abbrev From : ℕ → Placed → Type 0
From low p = low ≤ p.place

word_from : (low : ℕ) (front : List ℕ) (at : ℕ) → low + length front ≤ at → All (From low) (ended_word front at)
word_from low [] at le = All-nil (From low)
word_from low (b ∷ bs) at le = All-cons (From low) _ [] (omega (arith, le)) (All-nil (From low))

sign_from : (low b at : ℕ) → low ≤ at → All (From low) (sign_at b at)
sign_from low b at le = from (is_sign b)
  where
    from : (c : Bool) → All (From low) (if c then record { token = Rattle.dap_model.specs.Tokens.sign b; place = at } ∷ [] else [])
    from true = All-cons (From low) _ [] le (All-nil (From low))
    from false = All-nil (From low)

tokens_after : (low : ℕ) (front : List ℕ) (at : ℕ) (bytes : List ℕ) → low + length front ≤ at → All (From low) (tokens_from front at bytes)
tokens_after low front at [] le = All-nil (From low)
tokens_after low front at (b ∷ bytes) le =
    from (is_white b || is_sign b) (tokens_after low [] (at + 1) bytes (omega (arith, le))) (tokens_after low (front ++ b ∷ []) (at + 1) bytes (omega (arith, le, length-append front (b ∷ []))))
  where
    from : (c : Bool) → All (From low) (tokens_from [] (at + 1) bytes) → All (From low) (tokens_from (front ++ b ∷ []) (at + 1) bytes)
        → All (From low) (if c then ended_word front at ++ sign_at b at ++ tokens_from [] (at + 1) bytes else tokens_from (front ++ b ∷ []) (at + 1) bytes)
    from true behind inside =
        All-append (From low) (ended_word front at ++ sign_at b at) (tokens_from [] (at + 1) bytes)
        (All-append (From low) (ended_word front at) (sign_at b at) (word_from low front at le) (sign_from low b at (omega (arith, le)))) behind
    from false behind inside = inside

-- the elements behind the first ones
place_from : (low : ℕ) (ps qs : List Placed) (k place : ℕ) → length ps ≤ k → All (From low) qs → option_map (λ p. p.place) (slice_get (ps ++ qs) k) ≡ Some place → low ≤ place
place_from low [] [] k place le all is = absurd (none-some place is)
place_from low [] (q ∷ qs) zero place le all is = subst (λ n. low ≤ n) (same_Some q.place place is) (all_first (From low) q qs all)
place_from low [] (q ∷ qs) (suc k) place le all is = place_from low [] qs k place (omega arith) (all_rest (From low) q qs all) is
place_from low (p ∷ ps) qs zero place le all is = absurd (omega (arith, le))
place_from low (p ∷ ps) qs (suc k) place le all is = place_from low ps qs k place (omega (arith, le)) all is

-- no token of the text itself is bad
behind_tokens : (bytes : List ℕ) (n k : ℕ) (d : Dataset) → IsEnded bytes n d → IsFirstBad (tokens_of bytes) k → length (tokens_of (take n bytes)) ≤ k
behind_tokens bytes n k d is first =
    let (more, split) = tokens_split bytes n in
    ⊎_elim (λ lt. absurd (none_bad (tokens_of (take n bytes)) more (ended d) k (ended_kept bytes n d is) lt (subst (λ ts. IsBad ts k) split first.bad))) (λ le. le) (cases_lt k (length (tokens_of (take n bytes))))

pub bad_behind_end : (bytes : List ℕ) (n place : ℕ) (d : Dataset) → IsEnded bytes n d → IsBadAt bytes place → n ≤ place
bad_behind_end bytes n place d is (k, first, at) =
    let text : List ℕ = take n bytes in
    let rest : List ℕ = drop n bytes in
    let long : length text ≡ n = length-take-le n bytes is.within in
    let (w, last) = is.is_text.ends in
    let empty : left text ≡ [] = ap left last ∙ left-stop w 59 refl in
    let split : whole_tokens bytes ≡ whole_tokens text ++ tokens_from (left text) (length text) rest = ap whole_tokens (sym (take-append-drop n bytes)) ∙ whole_tokens-append text rest in
    let behind : All (From n) (tokens_from (left text) (length text) rest) = tokens_after n (left text) (length text) rest (omega (arith, long, ap length empty)) in
    let count : length (whole_tokens text) ≤ k = omega (arith, behind_tokens bytes n k d is first, length-map (whole_tokens text) (λ (p : Placed). p.token)) in
    place_from n (whole_tokens text) (tokens_from (left text) (length text) rest) k place count behind (ap (λ ps. option_map (λ p. p.place) (slice_get ps k)) (sym split) ∙ at)
