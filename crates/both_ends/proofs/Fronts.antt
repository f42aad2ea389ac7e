-- A front of the values of a dataset is open.
use Rattle.std.proofs.Common.{◌≡◌, ℕ, ◌+◌, ◌-◌, ◌<◌, List, [], ◌∷◌, ◌++◌, length, take, inl, inr, refl, ap, ◌∙◌, sym, subst, arith, append_assoc, append-nil, length-append, length-take}
use Rattle.std.proofs.Math.Seq.{take-append-add}
use Rattle.std.proofs.lemmas.Bool.{cases_lt}
use Rattle.std.proofs.lemmas.List.{take-append-le}
use Rattle.dap_types.specs.Model.{Dataset, Tree}
use Rattle.dap_model.proofs.FieldKinds.{spelled_width}
use Rattle.dap_model.proofs.OneSpelling.{next_kind}
use Rattle.dap_model.specs.Fits.{FitsAll}
use Rattle.dap_model.specs.Received.{IsOpen, MayFollow, width}
use Rattle.dap_model.specs.Xdr.{Field, Spells, SpellsField, SpellsFields, fields_all}

-- one good field more
one_more : (fs : List Field) (f : Field) (a b : List ℕ) → SpellsFields fs a → SpellsField f b → SpellsFields (fs ++ f ∷ []) (a ++ b)
one_more [] f a b none one = (b, [], ap (λ (l : List ℕ). l ++ b) none ∙ sym (append-nil b), one, refl)
one_more (g ∷ fs) f a b (own, rest, is, first, others) one =
    (own, rest ++ b, ap (λ (l : List ℕ). l ++ b) is ∙ append_assoc own rest b, first, one_more fs f rest b others one)

-- good fields, and so many bytes of those that follow
front-open : (d : Dataset) (before fs : List Field) (a b : List ℕ) (n : ℕ) (ts : List Tree) (more : List Field) → FitsAll d.members ts → fields_all d.members ts ≡ (before ++ fs) ++ more
    → SpellsFields before a → SpellsFields fs b → n < length b → IsOpen d (a ++ take n b)
front-open d before [] a b n ts more fit in_order good none lt = absurd (omega (arith, lt, ap length none))
front-open d before (f ∷ fs) a b n ts more fit in_order good (own, rest, is, one, others) lt =
    let follows : MayFollow d before f = (ts, fs ++ more, fit, in_order ∙ append_assoc before (f ∷ fs) more) in
    let wide : length own ≡ width f = spelled_width f f own (next_kind d before f f follows follows) one in
    let long : length b ≡ length own + length rest = ap length is ∙ length-append own rest in
    elim (cases_lt n (length own)) [
      | inl inside ↦ record {
        front = a;
        own = take n own;
        fields = before;
        wanted = f;
        parts = ap (λ (l : List ℕ). a ++ take n l) is ∙ ap (λ (l : List ℕ). a ++ l) (take-append-le n own rest (omega (arith, inside)));
        good = good;
        may_follow = follows;
        cut = omega (arith, length-take n own, inside, wide);
      }
      | inr behind ↦ (
          let k : ℕ = n - length own in
          let at : n ≡ length own + k = omega (arith, behind) in
          let taken : take n b ≡ own ++ take k rest = ap (take n) is ∙ ap (λ (m : ℕ). take m (own ++ rest)) at ∙ take-append-add own rest k in
          let laid : (a ++ own) ++ take k rest ≡ a ++ take n b = append_assoc a own (take k rest) ∙ ap (λ (l : List ℕ). a ++ l) (sym taken) in
          subst (IsOpen d) laid
          (front-open d (before ++ f ∷ []) fs (a ++ own) rest k ts more fit (in_order ∙ ap (λ (l : List Field). l ++ more) (sym (append_assoc before (f ∷ []) fs)))
          (one_more before f a own good one) others (omega (arith, at, long, lt)))
          )
    ]

-- a proper front of a spelling of values is open
pub front_open : (d : Dataset) (ts : List Tree) (bs : List ℕ) (n : ℕ) → Spells d ts bs → n < length bs → IsOpen d (take n bs)
front_open d ts bs n spells lt = front-open d [] (fields_all d.members ts) [] bs n ts [] spells.fit (sym (append-nil (fields_all d.members ts))) refl spells.spelled lt
