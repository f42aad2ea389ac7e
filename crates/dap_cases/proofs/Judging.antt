-- The verdict on a case, of the runs of it.
use Rattle.std.proofs.Common.{◌≡◌, ◌∙◌, ℕ, true, List, ◌++◌, codes, Option, Some, Result, Ok, Err, inr, refl, subst}
use Rattle.std.specs.Prelude.{IfOk}
use Rattle.dap_outside.specs.Files.{Told}
use Rattle.dap_cases.specs.Files.{IsCaseIn, folder_named}
use Rattle.dap_cases.specs.Prefixed.{told_below}
use Rattle.dap_cases.specs.Runs.{AreWordsOf, IsGiven, IsVerdictIn, IsVerdictOn}
use Rattle.dap_cases.specs.Verdicts.{Judges, is_agreed}
use Rattle.dap_cases.specs.declared.case.Case.{Case}
use Rattle.dap_cases.specs.declared.said.Said.{Said}
use Rattle.dap_cases.specs.declared.verdict.Verdict.{Verdict}
use Rattle.dap_cases.specs.declared.verdict.Verdict.TheVariants.{Agrees, Number, Stdout, Stderr, Unread}

pub agreed : (v : Verdict) → is_agreed v ≡ true → v ≡ Agrees
agreed Agrees is = refl
agreed (Number f w) is = cc is
agreed (Stdout place) is = cc is
agreed (Stderr place) is = cc is
agreed Unread is = cc is

-- that on a later run, where the first agreed
pub judged-later : {E : Type 0} (r : Result Verdict E) (told later : Told) (c d : Case) (v : Verdict)
    → AreWordsOf c.words d.words × (d.input ≡ c.input) × (d.wanted ≡ c.wanted) → v ≡ Agrees → (s : Said) × IsGiven told c.words c.input s × Judges s c.wanted v
    → IfOk r (λ w. (s : Said) × IsGiven later d.words d.input s × Judges s d.wanted w) → IfOk r (IsVerdictOn told c)
judged-later (Ok w) told later c d v (words, input, wanted) agrees (s, is, judges) (t, gives, later_judges) = record {
  some = (later, d.words, t, words, subst (λ i. IsGiven later d.words i t) input gives, subst (λ k. Judges t k w) wanted later_judges);
  passed = λ _. (s, is, subst (λ u. Judges s c.wanted u) agrees judges);
}
judged-later (Err e) told later c d v same agrees first given = tt

-- of the case that stands in the folder of a name
pub verdict-in : {E : Type 0} (r : Result Verdict E) (told now : Told) (prefix folder name : List ℕ) (c : Case)
    → now ≡ told → prefix ≡ folder_named name ++ codes "data/" → folder ≡ folder_named name
    → ((files : List ℕ → Option (List ℕ)) → told ≡ Some files → IsCaseIn files folder c) → IfOk r (IsVerdictOn (told_below prefix now) c)
    → IfOk r (λ v. (files : List ℕ → Option (List ℕ)) → told ≡ Some files → IsVerdictIn files name v)
verdict-in (Ok v) told now prefix folder name c same is named case_in on = λ files has.
    inr (
      c,
      subst (λ f. IsCaseIn files f c) named (case_in files has),
      subst (λ p. IsVerdictOn (told_below p (Some files)) c v) is (subst (λ t. IsVerdictOn (told_below prefix t) c v) (same ∙ has) on),
    )
verdict-in (Err e) told now prefix folder name c same is named case_in on = tt
