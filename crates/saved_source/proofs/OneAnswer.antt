-- A file holds one dataset with its values, or is refused for one cause.
use Rattle.std.proofs.Common.{◌≡◌, ◌≢◌, ℕ, List, Option, Some, None, Result, Ok, Err, IfOk, IfErr, inl, inr, refl, sym, ap, subst, ◌∙◌, arith}
use Rattle.std.specs.Prelude.{MatchResult, ◌⊎◌}
use Rattle.std.proofs.lemmas.Bool.{false≢true}
use Rattle.dap_model.proofs.OneBody.{one_body}
use Rattle.dap_types.specs.Model.{Dataset, Tree}
use Rattle.dap_model.specs.Body.{IsBody}
use Rattle.dap_errors.proofs.Single.{bad_no_cut, object_no_bad, object_no_cut, one_place}
use Rattle.error_word.proofs.Bodies.{body_no_error}
use Rattle.xdr_decode.proofs.OneVerdict.{one_verdict}
use Rattle.xdr_decode.specs.Verdict.{good, wrong}
use Rattle.reply_faults.specs.declared.bad.Bad.{Bad}
use Rattle.saved_source.specs.Refusals.{HasRepeated, IsBadAt, IsObjectAt, IsRefusal}
use Rattle.saved_source.specs.Responses.{Holds, IsSaved, dataset_in, first_repeated, saved_dataset}
use Rattle.saved_source.specs.declared.refusal.SavedRefusal.{SavedRefusal}
use Rattle.saved_source.specs.declared.refusal.SavedRefusal.TheVariants.{TooLong, BadBody, RepeatedName, Memory}
use Rattle.saved_source.specs.declared.saved.Saved.{Saved}

-- ---- the response
wrong_good : (d : Dataset) (ts : List Tree) (kind : Bad) (place : ℕ) → good d ts ≡ wrong kind place → ⊥
wrong_good d ts kind place e = cc

wrong_places : (kind other : Bad) (place spot : ℕ) → wrong kind place ≡ wrong other spot → place ≡ spot
wrong_places kind other place spot e = cc

-- ---- an Error object is told at one place
object_places : (bytes : List ℕ) (place spot : ℕ) → IsObjectAt bytes place → IsObjectAt bytes spot → place ≡ spot
object_places bytes place spot (inl (e, a, p)) (inl (f, b, q)) = p ∙ sym q
object_places bytes place spot (inl (e, a, p)) (inr (inl b)) = absurd (object_no_bad bytes e spot a b)
object_places bytes place spot (inl (e, a, p)) (inr (inr (b, q))) = absurd (object_no_cut bytes e a b)
object_places bytes place spot (inr (inl a)) (inl (f, b, q)) = absurd (object_no_bad bytes f place b a)
object_places bytes place spot (inr (inl a)) (inr (inl b)) = one_place bytes place spot a b
object_places bytes place spot (inr (inl a)) (inr (inr (b, q))) = absurd (bad_no_cut bytes place a b)
object_places bytes place spot (inr (inr (a, p))) (inl (f, b, q)) = absurd (object_no_cut bytes f b a)
object_places bytes place spot (inr (inr (a, p))) (inr (inl b)) = absurd (bad_no_cut bytes spot b a)
object_places bytes place spot (inr (inr (a, p))) (inr (inr (b, q))) = p ∙ sym q

bad_places : (bytes : List ℕ) (place spot : ℕ) → IsBadAt bytes place → IsBadAt bytes spot → place ≡ spot
bad_places bytes place spot (inl (s, a)) (inl (t, b)) = object_places bytes place spot a b
bad_places bytes place spot (inl (s, a)) (inr (t, b)) = absurd (false≢true (sym t ∙ s))
bad_places bytes place spot (inr (s, a)) (inl (t, b)) = absurd (false≢true (sym s ∙ t))
bad_places bytes place spot (inr (s, (kind, a))) (inr (t, (other, b))) = wrong_places kind other place spot (one_verdict bytes (wrong kind place) (wrong other spot) a b)

body_not_bad : (bytes : List ℕ) (d : Dataset) (ts : List Tree) (place : ℕ) → IsBody bytes d ts → IsBadAt bytes place → ⊥
body_not_bad bytes d ts place a (inl (s, b)) = false≢true (sym (body_no_error bytes d ts a) ∙ s)
body_not_bad bytes d ts place a (inr (s, (kind, b))) = wrong_good d ts kind place (one_verdict bytes (good d ts) (wrong kind place) a b)

-- ---- a file
pub one_saved : (bytes name : List ℕ) (d e : Dataset) (ts us : List Tree) → IsSaved bytes name d ts → IsSaved bytes name e us → (d ≡ e) × (ts ≡ us)
one_saved bytes name d e ts us a b =
    let (same, trees) = one_body bytes a.response b.response ts us a.is_body b.is_body in
    (a.is_dataset ∙ ap (saved_dataset name) same ∙ sym b.is_dataset, trees)

some_none : (n : ℕ) (o : Option ℕ) → o ≡ Some n → o ≡ None → ⊥
some_none n o a b = let both : Some n ≡ None = sym a ∙ b in cc

saved_not_repeated : (bytes name : List ℕ) (d : Dataset) (ts : List Tree) (n : ℕ) → IsSaved bytes name d ts → HasRepeated bytes name n → ⊥
saved_not_repeated bytes name d ts n a h =
    let (same, trees) = one_body bytes a.response h.response ts h.values a.is_body h.is_body in
    some_none n (first_repeated (saved_dataset name h.response)) h.is_first (ap (λ r. first_repeated (saved_dataset name r)) (sym same) ∙ ap first_repeated (sym a.is_dataset) ∙ a.names_differ)

pub saved_not_refused : (bytes name : List ℕ) (d : Dataset) (ts : List Tree) (why : SavedRefusal) → why ≢ Memory → IsSaved bytes name d ts → IsRefusal bytes name why → ⊥
saved_not_refused bytes name d ts TooLong some a long = omega (arith, a.few, long)
saved_not_refused bytes name d ts (BadBody place) some a (few, bad) = body_not_bad bytes a.response ts place a.is_body bad
saved_not_refused bytes name d ts (RepeatedName n) some a (few, h) = saved_not_repeated bytes name d ts n a h
saved_not_refused bytes name d ts Memory some a r = some refl

same_first : (bytes name : List ℕ) (n m : ℕ) → HasRepeated bytes name n → HasRepeated bytes name m → n ≡ m
same_first bytes name n m a b =
    let (same, trees) = one_body bytes a.response b.response a.values b.values a.is_body b.is_body in
    let one : Some n ≡ Some m = sym a.is_first ∙ ap (λ r. first_repeated (saved_dataset name r)) same ∙ b.is_first in
    cc

pub one_refusal : (bytes name : List ℕ) (why other : SavedRefusal) → why ≢ Memory → other ≢ Memory → IsRefusal bytes name why → IsRefusal bytes name other → why ≡ other
one_refusal bytes name Memory other some also a b = absurd (some refl)
one_refusal bytes name TooLong Memory some also a b = absurd (also refl)
one_refusal bytes name (BadBody p) Memory some also a b = absurd (also refl)
one_refusal bytes name (RepeatedName n) Memory some also a b = absurd (also refl)
one_refusal bytes name TooLong TooLong some also a b = refl
one_refusal bytes name TooLong (BadBody q) some also a (few, b) = absurd (omega (arith, a, few))
one_refusal bytes name TooLong (RepeatedName m) some also a (few, b) = absurd (omega (arith, a, few))
one_refusal bytes name (BadBody p) TooLong some also (few, a) b = absurd (omega (arith, b, few))
one_refusal bytes name (BadBody p) (BadBody q) some also (few, a) (short, b) = ap BadBody (bad_places bytes p q a b)
one_refusal bytes name (BadBody p) (RepeatedName m) some also (few, a) (short, b) = absurd (body_not_bad bytes b.response b.values p b.is_body a)
one_refusal bytes name (RepeatedName n) TooLong some also (few, a) b = absurd (omega (arith, b, few))
one_refusal bytes name (RepeatedName n) (BadBody q) some also (few, a) (short, b) = absurd (body_not_bad bytes a.response a.values q a.is_body b)
one_refusal bytes name (RepeatedName n) (RepeatedName m) some also (few, a) (short, b) = ap RepeatedName (same_first bytes name n m a b)

-- ---- an answer that is right is the only one
abbrev IsRight : List ℕ → List ℕ → Result Saved SavedRefusal → Type 0
IsRight bytes name r = IfOk r (λ s. (ts : List Tree) × IsSaved bytes name (dataset_in s) ts × Holds s ts)

pub only_saved : (bytes name : List ℕ) (r : Result Saved SavedRefusal) → IsRight bytes name r → IfErr r (IsRefusal bytes name) → (d : Dataset) (ts : List Tree) → IsSaved bytes name d ts → MatchResult r (λ s. (dataset_in s ≡ d) × Holds s ts) (λ e. e ≡ Memory)
only_saved bytes name (Ok s) (us, is, holds) refused d ts a = let (same, trees) = one_saved bytes name (dataset_in s) d us ts is a in (same, subst (Holds s) trees holds)
only_saved bytes name (Err Memory) right refused d ts a = refl
only_saved bytes name (Err TooLong) right refused d ts a = absurd (saved_not_refused bytes name d ts TooLong (λ e. cc) a refused)
only_saved bytes name (Err (BadBody p)) right refused d ts a = absurd (saved_not_refused bytes name d ts (BadBody p) (λ e. cc) a refused)
only_saved bytes name (Err (RepeatedName n)) right refused d ts a = absurd (saved_not_refused bytes name d ts (RepeatedName n) (λ e. cc) a refused)

pub only_refused : (bytes name : List ℕ) (r : Result Saved SavedRefusal) → IsRight bytes name r → IfErr r (IsRefusal bytes name) → (why : SavedRefusal) → why ≢ Memory → IsRefusal bytes name why → MatchResult r (λ s. ⊥) (λ e. (e ≡ why) ⊎ (e ≡ Memory))
only_refused bytes name (Ok s) (us, is, holds) refused why some a = saved_not_refused bytes name (dataset_in s) us why some is a
only_refused bytes name (Err Memory) right refused why some a = inr refl
only_refused bytes name (Err TooLong) right refused why some a = inl (one_refusal bytes name TooLong why (λ e. cc) some refused a)
only_refused bytes name (Err (BadBody p)) right refused why some a = inl (one_refusal bytes name (BadBody p) why (λ e. cc) some refused a)
only_refused bytes name (Err (RepeatedName n)) right refused why some a = inl (one_refusal bytes name (RepeatedName n) why (λ e. cc) some refused a)
