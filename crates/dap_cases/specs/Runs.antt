-- What a run of a case gives, as the contract of `run` has it, and the verdict on it.
use Rattle.std.specs.Prelude.{◌≡◌, ◌++◌, ◌↔◌, ◌⊎◌, ℕ, Bool, IsTrue, IfSome, List, [], ◌∷◌, codes, Option, Some}
use Rattle.std.specs.Io.KnownBytes.{Appends, IsAtEnd}
use Rattle.dap_outside.specs.Files.{Told}
use Rattle.dap_outside.specs.Streams.{AppendsFront}
use Rattle.dap_commands.specs.Answer.{AnswerSays}
use Rattle.dap_commands.specs.Lines.{IsSaid, line_of, number_of}
use Rattle.dap_commands.specs.Serve.{VerSays}
use Rattle.dap_commands.specs.Show.{ShowSays}
use Rattle.dap_commands.specs.Soak.{SoakSays}
use Rattle.dap_commands.specs.Words.{AreAnswer, AreSoak, IsCommand, IsShow, IsVer}
use Rattle.dap_commands.specs.declared.status.Status.{Status}
use Rattle.dap_commands.specs.declared.status.Status.TheVariants as statuses
use Rattle.dap_cases.specs.Files.{IsCaseIn, folder_named}
use Rattle.dap_cases.specs.Prefixed.{told_below}
use Rattle.dap_cases.specs.Verdicts.{Judges}
use Rattle.dap_cases.specs.declared.case.Case.{Case}
use Rattle.dap_cases.specs.declared.said.Said.{Said}
use Rattle.dap_cases.specs.declared.verdict.Verdict.{Verdict}
use Rattle.dap_cases.specs.declared.verdict.Verdict.TheVariants.{Agrees, Unread}

-- it puts that to standard error, and nothing else
abbrev pub Puts : ℕ → List ℕ → List ℕ → Type 0
Puts failures err line = IsSaid line 0 failures (Some []) (Some err)

-- What words give over some files and some bytes of standard input: by their status what they put, and the line.
pub record IsGiven (told : Told) (words : List (List ℕ)) (input : List ℕ) (s : Said) : Type 0 where
  pub status : Status
  pub failures : ℕ
  pub number : s.status ≡ number_of status
  pub answer : (target : List ℕ) (workers : ℕ) → AreAnswer words target workers
      → AnswerSays told target (Appends (Some []) (Some s.out)) (AppendsFront (Some []) (Some s.out)) (Puts failures s.err) status
  pub show : IsShow words → (left : Option (List ℕ)) × (ended : Bool)
      × ShowSays (Some input) left (IsTrue ended) (IsAtEnd left) (Some []) (Some s.out) (Puts failures s.err) status
  pub ver : IsVer words → VerSays (Appends (Some []) (Some s.out)) (AppendsFront (Some []) (Some s.out)) status
  pub soak : (start records : ℕ) → AreSoak words start records
      → SoakSays start records (Appends (Some []) (Some s.out)) (AppendsFront (Some []) (Some s.out)) status
  pub no_command : ¬ (IsCommand words) → s.out ≡ []
  pub usage : (status ≡ statuses.Words) ↔ (¬ (IsCommand words))
  pub line : IfSome (line_of status) (Puts failures s.err)
  pub silent : status ≡ statuses.Complete → s.err ≡ []

-- the words of a case, or `answer` and its target with 7 workers
abbrev pub AreWordsOf : List (List ℕ) → List (List ℕ) → Type 0
AreWordsOf own words =
    (words ≡ own) ⊎ ((target : List ℕ) × (own ≡ codes "answer" ∷ target ∷ []) × (words ≡ codes "answer" ∷ target ∷ codes "7" ∷ []))

-- It is that on what some run of the case gives, and it is that it agrees only where the run of its own words over these
-- files gives what must come.
pub record IsVerdictOn (told : Told) (c : Case) (v : Verdict) : Type 0 where
  pub some : (files : Told) × (words : List (List ℕ)) × (s : Said) × AreWordsOf c.words words × IsGiven files words c.input s × Judges s c.wanted v
  pub passed : v ≡ Agrees → (s : Said) × IsGiven told c.words c.input s × Judges s c.wanted Agrees

-- a file of the case of a name could not be read, or it is the verdict on the case that stands in its folder
abbrev pub IsVerdictIn : (List ℕ → Option (List ℕ)) → List ℕ → Verdict → Type 0
IsVerdictIn files name v =
    (v ≡ Unread) ⊎ ((c : Case) × IsCaseIn files (folder_named name) c × IsVerdictOn (told_below (folder_named name ++ codes "data/") (Some files)) c v)
