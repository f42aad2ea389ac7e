-- A text is one thing alone: an object, bad at one place, or cut.
use Rattle.std.proofs.Common.{◌≡◌, List, ℕ, ◌+◌, drop, sym, ap, subst, ◌∙◌, inl, inr, arith}
use Rattle.text_tokens.specs.Languages.{tokens_of}
use Rattle.text_tokens.specs.Tokens.{Placed}
use Rattle.text_tokens.proofs.Languages.{IsPrefixFree, same_end, spells_no_bad, spells_no_break, bads_same, bad_no_break}
use Rattle.text_tokens.proofs.Machines.{prefix_free, says_one}
use Rattle.dap_errors.specs.Object.{signs, IsObject}
use Rattle.dap_errors.specs.inner.Machine.{Start, Ended, step, IsOpenState}
use Rattle.dap_errors.specs.Reading.{IsEnd, IsStray, front, ErrorOf, IsBad, IsCut}
use Rattle.dap_errors.specs.declared.object.ErrorObject.{ErrorObject}
use Rattle.dap_errors.proofs.Live.{machine}
use Rattle.dap_errors.proofs.Trails.{end_not_stray, stray_same}

free : IsPrefixFree IsObject
free = prefix_free signs IsObject step Start Ended IsOpenState machine

pub one_object : (bytes : List ℕ) (e e' : ErrorObject) → ErrorOf bytes e → ErrorOf bytes e' → e ≡ e'
one_object bytes e e' a b =
    let (tokens, to) = same_end signs IsObject free (front bytes) a.behind b.behind e e' a.ends b.ends in
    says_one signs IsObject step Start Ended IsOpenState machine (tokens_of b.ends.tokens) e e' (subst (λ (z : List Placed). IsObject (tokens_of z) e) tokens a.ends.says) b.ends.says

pub object_no_bad : (bytes : List ℕ) (e : ErrorObject) (place : ℕ) → ErrorOf bytes e → IsBad bytes place → ⊥
object_no_bad bytes e place a (inl b) = spells_no_bad signs IsObject free (front bytes) a.behind place e a.ends b
object_no_bad bytes e place a (inr (inl b)) =
    let (tokens, to) = same_end signs IsObject free (front bytes) a.behind b.behind e b.error a.ends b.ends in
    end_not_stray (drop b.behind bytes) b.count (subst (λ (k : ℕ). IsEnd (drop k bytes)) to a.end) b.stray
object_no_bad bytes e place a (inr (inr b)) = spells_no_break signs IsObject free (front bytes) a.behind e a.ends b.0

pub object_no_cut : (bytes : List ℕ) (e : ErrorObject) → ErrorOf bytes e → IsCut bytes → ⊥
object_no_cut bytes e a c = spells_no_break signs IsObject free (front bytes) a.behind e a.ends c.0

pub bad_no_cut : (bytes : List ℕ) (place : ℕ) → IsBad bytes place → IsCut bytes → ⊥
bad_no_cut bytes place (inl b) c = bad_no_break signs IsObject free (front bytes) place b c.0
bad_no_cut bytes place (inr (inl b)) c = spells_no_break signs IsObject free (front bytes) b.behind b.error b.ends c.0
bad_no_cut bytes place (inr (inr b)) c = absurd (omega (arith, b.1, c.1))

pub one_place : (bytes : List ℕ) (place place' : ℕ) → IsBad bytes place → IsBad bytes place' → place ≡ place'
one_place bytes place place' (inl b) (inl d) = bads_same signs IsObject free (front bytes) place place' b d
one_place bytes place place' (inl b) (inr (inl d)) = absurd (spells_no_bad signs IsObject free (front bytes) d.behind place d.error d.ends b)
one_place bytes place place' (inl b) (inr (inr d)) = absurd (bad_no_break signs IsObject free (front bytes) place b d.0)
one_place bytes place place' (inr (inl b)) (inl d) = absurd (spells_no_bad signs IsObject free (front bytes) b.behind place' b.error b.ends d)
one_place bytes place place' (inr (inl b)) (inr (inl d)) =
    let (tokens, to) = same_end signs IsObject free (front bytes) b.behind d.behind b.error d.error b.ends d.ends in
    let count : b.count ≡ d.count = stray_same (drop d.behind bytes) b.count d.count (subst (λ (k : ℕ). IsStray (drop k bytes) b.count) to b.stray) d.stray in
    b.place_is ∙ ap (λ (k : ℕ). k + b.count) to ∙ ap (λ (k : ℕ). d.behind + k) count ∙ sym d.place_is
one_place bytes place place' (inr (inl b)) (inr (inr d)) = absurd (spells_no_break signs IsObject free (front bytes) b.behind b.error b.ends d.0)
one_place bytes place place' (inr (inr b)) (inl d) = absurd (bad_no_break signs IsObject free (front bytes) place' d b.0)
one_place bytes place place' (inr (inr b)) (inr (inl d)) = absurd (spells_no_break signs IsObject free (front bytes) d.behind d.error d.ends b.0)
one_place bytes place place' (inr (inr b)) (inr (inr d)) = b.2 ∙ sym d.2
