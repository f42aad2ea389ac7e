-- What the contract of `run` says of a run over streams in memory is what its words give.
use Rattle.std.proofs.Common.{◌≡◌, ℕ, Bool, IsTrue, List, [], ◌∷◌, Option, Some, ap, arith, get_or, length, subst, sym}
use Rattle.std.specs.Prelude.{◌↔◌, IfSome}
use Rattle.std.specs.Io.KnownBytes.{Appends, IsAtEnd}
use Rattle.std.proofs.lemmas.Option.{same_Some}
use Rattle.dap_outside.specs.Files.{Told}
use Rattle.dap_outside.specs.Streams.{AppendsFront}
use Rattle.dap_commands.specs.Answer.{AnswerSays}
use Rattle.dap_commands.specs.Lines.{IsSaid, line_of, number_of}
use Rattle.dap_commands.specs.Serve.{VerSays}
use Rattle.dap_commands.specs.Show.{ShowSays}
use Rattle.dap_commands.specs.Soak.{SoakSays}
use Rattle.dap_commands.specs.Words.{AreAnswer, AreSoak, IsCommand, IsShow, IsVer}
use Rattle.dap_commands.specs.declared.status.Status.{Status}
use Rattle.dap_commands.specs.declared.status.Status.TheVariants as statuses
use Rattle.dap_cases.specs.Runs.{IsGiven}

-- the clauses, of the output and of standard error before and then, and of how often that failed
pub record Says (told : Told) (words : List (List ℕ)) (left : Option (List ℕ)) (status : Status) (out out_then err err_then : Option (List ℕ)) (failures failures_then : ℕ) : Type 0 where
  pub answer : (target : List ℕ) (workers : ℕ) → AreAnswer words target workers
      → AnswerSays told target (Appends out out_then) (AppendsFront out out_then) (λ line. IsSaid line failures failures_then err err_then) status
  pub show : IsShow words → (left_then : Option (List ℕ)) × (ended : Bool)
      × ShowSays left left_then (IsTrue ended) (IsAtEnd left_then) out out_then (λ line. IsSaid line failures failures_then err err_then) status
  pub ver : IsVer words → VerSays (Appends out out_then) (AppendsFront out out_then) status
  pub soak : (start records : ℕ) → AreSoak words start records → SoakSays start records (Appends out out_then) (AppendsFront out out_then) status
  pub no_command : ¬ (IsCommand words) → out_then ≡ out
  pub usage : (status ≡ statuses.Words) ↔ (¬ (IsCommand words))
  pub line : IfSome (line_of status) (λ line. IsSaid line failures failures_then err err_then)
  pub silent : status ≡ statuses.Complete → err_then ≡ err

pub given : (told : Told) (words : List (List ℕ)) (input : List ℕ) (status : Status) (left out out_then err err_then : Option (List ℕ)) (put said : List ℕ) (failures failures_then n : ℕ)
    → left ≡ Some input → out ≡ Some [] → out_then ≡ Some put → err ≡ Some [] → err_then ≡ Some said → failures ≡ 0 → n ≡ number_of status
    → Says told words left status out out_then err err_then failures failures_then → IsGiven told words input (record { status = n; out = put; err = said })
given told words input status left out out_then err err_then put said failures failures_then n had none gained silent told_then zero number says =
    let a = subst (λ x. Says told words x status out out_then err err_then failures failures_then) had says in
    let b = subst (λ x. Says told words (Some input) status x out_then err err_then failures failures_then) none a in
    let c = subst (λ x. Says told words (Some input) status (Some []) x err err_then failures failures_then) gained b in
    let d = subst (λ x. Says told words (Some input) status (Some []) (Some put) x err_then failures failures_then) silent c in
    let e = subst (λ x. Says told words (Some input) status (Some []) (Some put) (Some []) x failures failures_then) told_then d in
    let f : Says told words (Some input) status (Some []) (Some put) (Some []) (Some said) 0 failures_then = subst (λ x. Says told words (Some input) status (Some []) (Some put) (Some []) (Some said) x failures_then) zero e in
    record {
      status = status;
      failures = failures_then;
      number = number;
      answer = f.answer;
      show = f.show;
      ver = f.ver;
      soak = f.soak;
      no_command = λ other. same_Some put [] (f.no_command other);
      usage = f.usage;
      line = f.line;
      silent = λ complete. same_Some said [] (f.silent complete);
    }

-- a list of two
pub two-items : (xs : List (List ℕ)) (x : List ℕ) → length xs ≡ 2 → x ≡ get_or xs 0 x → (y : List ℕ) × (xs ≡ x ∷ y ∷ [])
two-items [] x e is = cc e
two-items (y ∷ []) x e is = cc e
two-items (y ∷ z ∷ []) x e is = (z, ap (λ w. w ∷ z ∷ []) (sym is))
two-items (y ∷ z ∷ w ∷ xs) x e is = absurd (omega (arith, e))
