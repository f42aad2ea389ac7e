-- The commands say that the words are one, and with which numbers.
use Rattle.std.proofs.Common.{◌≡◌, ◌≢◌, ℕ, List, [], Option, Some, ap, ◌∙◌, subst}
use Rattle.dap_outside.specs.Files.{Told}
use Rattle.dap_outside.specs.Links.{LinkState}
use Rattle.dap_commands.specs.Answer.{AnswerSays}
use Rattle.dap_commands.specs.Serve.{ServeSays, Serves, Standing, Visit}
use Rattle.dap_commands.specs.declared.status.Status.{Status}
use Rattle.dap_commands.specs.declared.status.Status.TheVariants.{Words}

pub answer-no-words : (told : Told) (target : List ℕ) (Out Front Line : List ℕ → Type 0) (status : Status) → AnswerSays told target Out Front Line status → status ≡ Words → ⊥
answer-no-words told target Out Front Line status says is = subst (AnswerSays told target Out Front Line) is says

pub serve-no-words : (requests came : ℕ) (lines : List ℕ) (Out Front : List ℕ → Type 0) (status : Status) → ServeSays requests came lines Out Front status → status ≡ Words → ⊥
serve-no-words requests came lines Out Front status says is = subst (ServeSays requests came lines Out Front) is says

-- the same port, and the same number of links
pub serve-for : {W : Type 0} (told : Told) (state : W → LinkState) (port port2 requests requests2 : ℕ) (a b : Standing W) (status : Status) (listens : Option ℕ) → port ≡ port2 → requests ≡ requests2
    → (visits : List (Visit W)) × Serves told state requests a b visits status × (visits ≢ [] → listens ≡ Some port)
    → (visits : List (Visit W)) × Serves told state requests2 a b visits status × (visits ≢ [] → listens ≡ Some port2)
serve-for told state port port2 requests requests2 a b status listens p q (visits, serves, at) =
    (visits, subst (λ r. Serves told state r a b visits status) q serves, λ some. at some ∙ ap (λ n. Some n) p)
