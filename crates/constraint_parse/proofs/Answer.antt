-- From trees to constraints, and what the answers of the parser say.
use Rattle.std.proofs.Common.{◌≡◌, List, ℕ, sym, ap, ◌∙◌, Result, Ok, Err, IsTrue, refl, ◌⊎◌, inl, inr}
use Rattle.std.specs.Prelude.{MatchResult, IfOk, IfErr}
use Rattle.std.specs.List.{list_all}
use Rattle.viable.specs.Prefix.{is_byte, IsFault}
use Rattle.constraint_parse.specs.Language.{IsTextOf}
use Rattle.constraint_parse.specs.Values.{constraint_value, Spells}
use Rattle.constraint_parse.specs.Refusals.{AtFault, Refuses}
use Rattle.constraint_parse.specs.Slabs.{has_slabs}
use Rattle.constraint_parse.specs.declared.constraint.Constraint.{Constraint}
use Rattle.constraint_parse.specs.declared.refusal.ParseRefusal.{ParseRefusal}
use Rattle.constraint_parse.specs.declared.refusal.ParseRefusal.TheVariants.{Syntax, Memory}
use Rattle.constraint_parse.proofs.Judged.{judged}
use Rattle.constraint_parse.proofs.Single.{one_tree}
use Rattle.constraint_parse.proofs.SlabsFit.{slabs_fit}

-- a text spells at most one constraint
pub one_constraint : (text : List ℕ) (one other : Constraint) → Spells text one → Spells text other → one ≡ other
one_constraint text one other s t = s.2 ∙ ap constraint_value (one_tree text s.0 t.0 s.1 t.1) ∙ sym t.2

-- a fault of the trees' language is one of what the trees stand for
pub fault_spelled : (text : List ℕ) (place : ℕ) → IsFault is_byte IsTextOf text place → IsFault is_byte Spells text place
fault_spelled text place h = record {
  spells_none = λ c s. h.spells_none s.0 s.1;
  within = h.within;
  viable = (h.viable.0, h.viable.1, constraint_value h.viable.2, (h.viable.2, h.viable.3, refl));
  longest = λ lt b. h.longest lt (b.0, b.1, b.3.0, b.3.1);
}

-- a text spells a constraint or has a fault
pub spelled_or_at_fault : (text : List ℕ) → ((constraint : Constraint) × Spells text constraint) ⊎ ((place : ℕ) × IsFault is_byte Spells text place)
spelled_or_at_fault text = elim (judged text) [
  | inl t ↦ inl (constraint_value t.0, (t.0, t.1, refl))
  | inr f ↦ inr (f.0, fault_spelled text f.0 f.1)
]

-- what the body of the parser answers
abbrev pub Answers : List ℕ → Result Constraint ParseRefusal → Type 0
Answers text r = MatchResult r (Spells text) (Refuses text)

pub spelled_of : (text : List ℕ) (r : Result Constraint ParseRefusal) → Answers text r → IfOk r (Spells text)
spelled_of text (Ok c) h = h
spelled_of text (Err e) h = tt

pub read_of : (text : List ℕ) (r : Result Constraint ParseRefusal) → Answers text r → (c : Constraint) → Spells text c → MatchResult r (λ found. found ≡ c) (λ e. e ≡ Memory)
read_of text (Ok found) h c s = one_constraint text found c h s
read_of text (Err (Syntax place)) h c s = absurd (h.spells_none s.0 s.1)
read_of text (Err Memory) h c s = refl

pub slabs_of : (text : List ℕ) (r : Result Constraint ParseRefusal) → Answers text r → IfOk r (λ c. IsTrue (list_all has_slabs c.items))
slabs_of text (Ok c) h = rw h.2 (slabs_fit h.0.items)
slabs_of text (Err e) h = tt

pub fault_of : (text : List ℕ) (r : Result Constraint ParseRefusal) → Answers text r → IfErr r (AtFault (IsFault is_byte Spells text))
fault_of text (Ok c) h = tt
fault_of text (Err (Syntax place)) h = fault_spelled text place h
fault_of text (Err Memory) h = tt
