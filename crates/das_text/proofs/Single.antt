-- A text is one thing alone: a DAS, bad at one place, followed at one place, or cut.
use Rattle.std.proofs.Common.{◌≡◌, ℕ, ◌+◌, List, ◌∷◌, length, drop, sym, ap, subst, ◌∙◌, IsTrue, arith, inl, inr}
use Rattle.std.specs.List.{list_all}
use Rattle.plain_lemmas.proofs.Lists.{has_item}
use Rattle.viable.proofs.Runs.{run_unique}
use Rattle.text_tokens.specs.Languages.{tokens_of}
use Rattle.text_tokens.specs.Tokens.{Placed, is_white}
use Rattle.text_tokens.proofs.Languages.{IsPrefixFree, same_end, spells_no_bad, spells_no_break, bads_same, bad_no_break}
use Rattle.text_tokens.proofs.Machines.{prefix_free, says_one}
use Rattle.das_text.specs.Grammar.{signs, IsDas}
use Rattle.das_text.specs.inner.Machine.{start, step, ended, IsOpenState}
use Rattle.das_text.specs.Model.{Attributes}
use Rattle.das_text.specs.Reading.{front, DasOf, HasBehind, IsTrailing, IsBad, IsCut}
use Rattle.das_text.proofs.Language.{machine}
use Rattle.text_tokens.proofs.Unique.{false_true}

free : IsPrefixFree IsDas
free = prefix_free signs IsDas step start ended IsOpenState machine

white_no_more : (text : List ℕ) (behind place : ℕ) → IsTrue (list_all is_white (drop behind text)) → HasBehind text behind place → ⊥
white_no_more text behind place all h =
    false_true (is_white h.byte) (has_item is_white h.white h.byte h.rest (subst (λ (z : List ℕ). IsTrue (list_all is_white z)) h.bytes_are all)) h.other

behind_same : (text : List ℕ) (behind place other : ℕ) → HasBehind text behind place → HasBehind text behind other → place ≡ other
behind_same text behind place other h k =
    let (same, rest) = run_unique is_white h.white k.white (h.byte ∷ h.rest) (k.byte ∷ k.rest) (sym h.bytes_are ∙ k.bytes_are) h.all_white k.all_white h.other k.other in
    h.place_is ∙ ap (λ (z : List ℕ). behind + length z) same ∙ sym k.place_is

pub one_das : (text : List ℕ) (a b : Attributes) → DasOf text a → DasOf text b → a ≡ b
one_das text a b x y =
    let (tokens, to) = same_end signs IsDas free (front text) x.behind y.behind a b x.ends y.ends in
    says_one signs IsDas step start ended IsOpenState machine (tokens_of y.ends.tokens) a b (subst (λ (z : List Placed). IsDas (tokens_of z) a) tokens x.ends.says) y.ends.says

pub das_not_bad : (text : List ℕ) (a : Attributes) (place : ℕ) → DasOf text a → IsBad text place → ⊥
das_not_bad text a place x (inl b) = spells_no_bad signs IsDas free (front text) x.behind place a x.ends b
das_not_bad text a place x (inr b) = spells_no_break signs IsDas free (front text) x.behind a x.ends b.0

pub das_not_trailing : (text : List ℕ) (a : Attributes) (place : ℕ) → DasOf text a → IsTrailing text place → ⊥
das_not_trailing text a place x t =
    let (tokens, to) = same_end signs IsDas free (front text) x.behind t.behind a t.attributes x.ends t.ends in
    white_no_more text t.behind place (subst (λ (k : ℕ). IsTrue (list_all is_white (drop k text))) to x.white) t.trails

pub das_not_cut : (text : List ℕ) (a : Attributes) → DasOf text a → IsCut text → ⊥
das_not_cut text a x c = spells_no_break signs IsDas free (front text) x.behind a x.ends c.0

pub bad_not_trailing : (text : List ℕ) (place other : ℕ) → IsBad text place → IsTrailing text other → ⊥
bad_not_trailing text place other (inl b) t = spells_no_bad signs IsDas free (front text) t.behind place t.attributes t.ends b
bad_not_trailing text place other (inr b) t = spells_no_break signs IsDas free (front text) t.behind t.attributes t.ends b.0

pub bad_not_cut : (text : List ℕ) (place : ℕ) → IsBad text place → IsCut text → ⊥
bad_not_cut text place (inl b) c = bad_no_break signs IsDas free (front text) place b c.0
bad_not_cut text place (inr b) c = absurd (omega (arith, b.1, c.1))

pub trailing_not_cut : (text : List ℕ) (place : ℕ) → IsTrailing text place → IsCut text → ⊥
trailing_not_cut text place t c = spells_no_break signs IsDas free (front text) t.behind t.attributes t.ends c.0

pub one_bad_place : (text : List ℕ) (place other : ℕ) → IsBad text place → IsBad text other → place ≡ other
one_bad_place text place other (inl b) (inl d) = bads_same signs IsDas free (front text) place other b d
one_bad_place text place other (inl b) (inr d) = absurd (bad_no_break signs IsDas free (front text) place b d.0)
one_bad_place text place other (inr b) (inl d) = absurd (bad_no_break signs IsDas free (front text) other d b.0)
one_bad_place text place other (inr b) (inr d) = b.2 ∙ sym d.2

pub one_trailing_place : (text : List ℕ) (place other : ℕ) → IsTrailing text place → IsTrailing text other → place ≡ other
one_trailing_place text place other t u =
    let (tokens, to) = same_end signs IsDas free (front text) t.behind u.behind t.attributes u.attributes t.ends u.ends in
    behind_same text u.behind place other (subst (λ (k : ℕ). HasBehind text k place) to t.trails) u.trails
