-- Bytes spell at most one list of values of a dataset, no spelling is a proper front of another, and the
-- field that may follow good fields is of one kind.
use Rattle.std.proofs.Common.{◌≡◌, ℕ, List, [], ◌∷◌, ◌++◌, length, ap, ◌∙◌, sym, subst, append_assoc}
use Rattle.plain_lemmas.proofs.Lists.{cons_first, cons_rest}
use Rattle.dap_types.specs.Model.{Dataset, Tree}
use Rattle.dap_model.proofs.Decoding.{all_decoded, split_same}
use Rattle.dap_model.proofs.FieldKinds.{SameKind, spelled_width, same_width, spelled_same, kinds_back}
use Rattle.dap_model.specs.Fits.{FitsAll}
use Rattle.dap_model.specs.Received.{MayFollow}
use Rattle.dap_model.specs.Xdr.{Field, fields_all, SpellsField, SpellsFields, Spells}

-- one spelling is a front of the other
abbrev Front : Type 0 → List Field → List Field → Type 0
Front E fs gs = (bs more : List ℕ) → SpellsFields fs bs → SpellsFields gs (bs ++ more) → E × (more ≡ [])

front_step : (E : Type 0) (f g : Field) (fs gs : List Field) → SameKind f g → (f ≡ g → Front E fs gs) → Front E (f ∷ fs) (g ∷ gs)
front_step E f g fs gs kind rest bs more a b =
    let wide : length a.0 ≡ length b.0 = spelled_width f g a.0 kind a.3 ∙ same_width f g kind ∙ sym (spelled_width g f b.0 (kinds_back f g kind) b.3) in
    let whole : a.0 ++ (a.1 ++ more) ≡ b.0 ++ b.1 = sym (append_assoc a.0 a.1 more) ∙ ap (λ l. l ++ more) (sym a.2) ∙ b.2 in
    let both = split_same a.0 b.0 (a.1 ++ more) b.1 wide whole in
    let same = spelled_same f g a.0 kind a.3 (subst (SpellsField g) (sym both.0) b.3) in
    rest same a.1 more a.4 (subst (SpellsFields gs) (sym both.1) b.4)

front_end : (E : Type 0) → E → Front E [] []
front_end E e bs more a b = (e, ap (λ l. l ++ more) (sym a) ∙ b)

pub one_spelling : (d : Dataset) (ts us : List Tree) (bs more : List ℕ) → Spells d ts bs → Spells d us (bs ++ more) → (ts ≡ us) × (more ≡ [])
one_spelling d ts us bs more a b = all_decoded (Front (ts ≡ us)) (front_step (ts ≡ us)) d.members ts us a.fit b.fit (front_end (ts ≡ us)) bs more a.spelled b.spelled

-- behind the same fields
abbrev Next : List Field → List Field → Type 0
Next fs gs = (before : List Field) (f g : Field) (r s : List Field) → fs ≡ before ++ f ∷ r → gs ≡ before ++ g ∷ s → SameKind f g

next_step : (f g : Field) (fs gs : List Field) → SameKind f g → (f ≡ g → Next fs gs) → Next (f ∷ fs) (g ∷ gs)
next_step f g fs gs kind rest [] h k r s a b =
    subst (λ x. SameKind h x) (cons_first g k gs s b) (subst (λ x. SameKind x g) (cons_first f h fs r a) kind)
next_step f g fs gs kind rest (p ∷ before) h k r s a b =
    rest (cons_first f p fs (before ++ h ∷ r) a ∙ sym (cons_first g p gs (before ++ k ∷ s) b)) before h k r s (cons_rest f p fs (before ++ h ∷ r) a) (cons_rest g p gs (before ++ k ∷ s) b)

next_end : Next [] []
next_end [] f g r s a b = cc
next_end (p ∷ before) f g r s a b = cc

pub next_kind : (d : Dataset) (before : List Field) (f g : Field) → MayFollow d before f → MayFollow d before g → SameKind f g
next_kind d before f g a b = all_decoded Next next_step d.members a.0 b.0 a.2 b.2 (λ same. next_end) before f g a.1 b.1 a.3 b.3

-- where the values are ended, no field may follow
abbrev Ended : List Field → List Field → Type 0
Ended fs gs = (g : Field) (s : List Field) → gs ≡ fs ++ g ∷ s → ⊥

ended_step : (f g : Field) (fs gs : List Field) → SameKind f g → (f ≡ g → Ended fs gs) → Ended (f ∷ fs) (g ∷ gs)
ended_step f g fs gs kind rest h s is = rest (sym (cons_first g f gs (fs ++ h ∷ s) is)) h s (cons_rest g f gs (fs ++ h ∷ s) is)

ended_end : Ended [] []
ended_end g s is = cc

pub none_follows : (d : Dataset) (ts : List Tree) (f : Field) → FitsAll d.members ts → MayFollow d (fields_all d.members ts) f → ⊥
none_follows d ts f fit may = all_decoded Ended ended_step d.members ts may.0 fit may.2 (λ same. ended_end) f may.1 may.3
