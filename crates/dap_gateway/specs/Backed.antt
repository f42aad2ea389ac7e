-- What a cache is worth: each body that it keeps is the good body of the last reply to its request.
use Rattle.std.specs.Prelude.{◌≡◌, ◌≢◌, ◌≤◌, ℕ, ⊤, true, List, [], ◌∷◌, ◌++◌, length, All, map, IsTrue, Option, Some, None}
use Rattle.std.specs.Option.{option_and_then, option_map}
use Rattle.target_names.specs.Names.{is_name}
use Rattle.dap_types.specs.Limits.{most_kept}
use Rattle.dap_outside.specs.Links.{LinkState}
use Rattle.dap_http.specs.Delivered.{Delivers}
use Rattle.dap_http.specs.Targets.{Asked}
use Rattle.dap_client.specs.Held.{IsToldOf}
use Rattle.dap_client.specs.Replies.{form_of}
use Rattle.dap_client.specs.Verdict.{Form}
use Rattle.dap_client.specs.declared.body_outcome.BodyOutcome.TheVariants.{Good}
use Rattle.dap_gateway.specs.Upstream.{key_of}

-- a link that came back: where it went to, what was written on it, and its whole input, which is its reply's bytes
pub record Exchange : Type 0 where
  pub host : List ℕ
  pub port : ℕ
  pub written : List ℕ
  pub reply : List ℕ

-- where the link tells these
abbrev pub exchange_of : {W : Type 0} → (W → LinkState) → (List ℕ × ℕ) × W → Option Exchange
exchange_of state pair =
    option_and_then (λ written. option_map (λ reply. record { host = pair.0.0; port = pair.0.1; written = written; reply = reply }) (state pair.1).whole) (state pair.1).written

abbrev pub all_of : List (Option Exchange) → Option (List Exchange)
all_of [] = Some []
all_of (one ∷ more) = option_and_then (λ e. option_map (λ es. e ∷ es) (all_of more)) one

-- the history: the links that came back in order, where the dial tells them and all of these tell their bytes
abbrev pub history : {W : Type 0} → (W → LinkState) → Option (List ((List ℕ × ℕ) × W)) → Option (List Exchange)
history state back = option_and_then (λ links. all_of (map (exchange_of state) links)) back

-- the last link of the history on which that was written
pub record IsLast (exchanges : List Exchange) (key : List ℕ) (e : Exchange) : Type 0 where
  pub before : List Exchange
  pub after : List Exchange
  pub parts : exchanges ≡ before ++ e ∷ after
  pub is_written : e.written ≡ key
  pub later : All (λ x. x.written ≢ key) after

-- the reply brought this good body
abbrev pub IsGoodReply : Form → List ℕ → List ℕ → Type 0
IsGoodReply form reply body = (rest : List ℕ) × Delivers reply true body rest × IsToldOf form body (Good body)

-- of a request to the host and port, the body is that of the last reply, and small
pub record IsBacked (host : List ℕ) (port : ℕ) (exchanges : List Exchange) (pair : List ℕ × List ℕ) : Type 0 where
  pub asked : Asked
  pub is_key : pair.0 ≡ key_of host port asked
  pub named : IsTrue (is_name asked.name)
  pub exchange : Exchange
  pub last : IsLast exchanges pair.0 exchange
  pub good : IsGoodReply (form_of asked.kind) exchange.reply pair.1
  pub small : length pair.1 ≤ most_kept

abbrev pub AreBacked : List ℕ → ℕ → Option (List Exchange) → List (List ℕ × List ℕ) → Type 0
AreBacked host port None pairs = ⊤
AreBacked host port (Some exchanges) pairs = All (IsBacked host port exchanges) pairs
