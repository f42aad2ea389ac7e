-- Bytes that spell fields, cut where some of the fields end.
use Rattle.std.proofs.Common.{◌≡◌, ℕ, List, [], ◌∷◌, ◌++◌, refl, sym, ap, ◌∙◌, append_assoc, append-nil}
use Rattle.dap_model.specs.Xdr.{Field, SpellsField, SpellsFields}
use Rattle.xdr_decode.specs.inner.Taken.{Spelt}

pub spells_split : (fs gs : List Field) (own : List ℕ) → SpellsFields (fs ++ gs) own → (a : List ℕ) × (b : List ℕ) × (own ≡ a ++ b) × SpellsFields fs a × SpellsFields gs b
spells_split [] gs own s = ([], own, refl, refl, s)
spells_split (f ∷ fs) gs own (x, y, parts, first, rest) =
    let (a, b, is, one, two) = spells_split fs gs y rest in
    (x ++ a, b, parts ∙ ap (λ l. x ++ l) is ∙ sym (append_assoc x a b), (x, a, refl, first, one), two)

-- what stands between
pub record Between (fs gs : List Field) (bytes rest : List ℕ) : Type 0 where
  pub mid : List ℕ
  pub before : Spelt fs bytes mid
  pub behind : Spelt gs mid rest

pub spelt_split : (fs gs : List Field) (bytes rest : List ℕ) → Spelt (fs ++ gs) bytes rest → Between fs gs bytes rest
spelt_split fs gs bytes rest (own, is, s) =
    let (a, b, parts, one, two) = spells_split fs gs own s in
    record { mid = b ++ rest; before = (a, is ∙ ap (λ l. l ++ rest) parts ∙ append_assoc a b rest, one); behind = (b, refl, two) }

pub spelt_none : (bytes rest : List ℕ) → Spelt [] bytes rest → bytes ≡ rest
spelt_none bytes rest (own, is, none) = is ∙ ap (λ l. l ++ rest) none

pub spelt_first : (f : Field) (fs : List Field) (bytes rest : List ℕ) → Spelt (f ∷ fs) bytes rest → Between (f ∷ []) fs bytes rest
spelt_first f fs bytes rest s = spelt_split (f ∷ []) fs bytes rest s

-- one field
pub spelt_one : (f : Field) (bytes rest : List ℕ) → Spelt (f ∷ []) bytes rest → (own : List ℕ) × (bytes ≡ own ++ rest) × SpellsField f own
spelt_one f bytes rest (own, is, (x, y, parts, first, none)) =
    let same : own ≡ x = parts ∙ ap (λ l. x ++ l) none ∙ append-nil x in
    (x, is ∙ ap (λ l. l ++ rest) same, first)
