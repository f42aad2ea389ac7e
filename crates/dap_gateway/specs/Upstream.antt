-- What is asked of the other server over a new link, which then comes back to the dial (RFC 9112, sections 3 and 9).
use Rattle.std.specs.Prelude.{◌≡◌, ℕ, ◌⊎◌, true, List, [], ◌∷◌, ◌++◌, Some, IsTrue}
use Rattle.std.specs.Option.{option_map}
use Rattle.std.specs.Io.KnownBytes.{Appends, Consumes, IsAtEnd}
use Rattle.dap_types.specs.Limits.{most_body}
use Rattle.dap_outside.specs.Causes.{Rose}
use Rattle.dap_outside.specs.Links.{IsNew, LinkState}
use Rattle.dap_outside.specs.Streams.{AppendsFront}
use Rattle.dap_http.specs.Targets.{Asked}
use Rattle.dap_http.specs.Texts.{request_text}
use Rattle.dap_client.specs.Fetched.{DialState}
use Rattle.dap_client.specs.Held.{IsExact, Says}
use Rattle.dap_client.specs.Replies.{StopsInTime}
use Rattle.dap_client.specs.Shows.{Takes}
use Rattle.dap_client.specs.Verdict.{Form}
use Rattle.dap_client.specs.declared.body_outcome.BodyOutcome.{BodyOutcome}
use Rattle.dap_client.specs.declared.body_outcome.BodyOutcome.TheVariants.{ReadFault}

-- the request for what a target asks for. Its path is `/` and the target's name
abbrev pub key_of : List ℕ → ℕ → Asked → List ℕ
key_of host port a = request_text host port (47 ∷ a.name) a.kind a.query true

-- it failed before the request was out: some of it went, from the front, and nothing was read
pub record IsUnasked (key : List ℕ) (came back : LinkState) (outcome : BodyOutcome) : Type 0 where
  pub sent : AppendsFront came.written back.written key
  pub none_taken : back.left ≡ came.left
  pub is_fault : outcome ≡ ReadFault
  pub fault : Rose came.put_faults back.put_faults
  pub no_read : back.take_faults ≡ came.take_faults

-- the request went out without a failed put, and this is what the reply brought, of which no more was taken than settles it,
-- and a piece; a fault came only where the count of takes rose, and with any other outcome it is what it was
pub record IsAsked (form : Form) (key : List ℕ) (came back : LinkState) (outcome : BodyOutcome) : Type 0 where
  pub sent : Appends came.written back.written key
  pub says : (taken : List ℕ) × Consumes came.left back.left taken × Says form most_body taken back.ended outcome
  pub most : Takes came.left back.left (StopsInTime form)
  pub exact : (reply : List ℕ) → came.left ≡ Some reply → IsExact form most_body reply outcome
  pub fault : outcome ≡ ReadFault → Rose came.take_faults back.take_faults
  pub kept_reading : ¬ (outcome ≡ ReadFault) → back.take_faults ≡ came.take_faults
  pub kept_sending : back.put_faults ≡ came.put_faults

-- over a link as it came and as it was handed back
pub record IsAskedOver (form : Form) (key : List ℕ) (came back : LinkState) (outcome : BodyOutcome) : Type 0 where
  pub is_new : IsNew came
  pub whole : back.whole ≡ came.whole
  pub end : IsTrue back.ended → IsAtEnd back.left
  pub asked : IsUnasked key came back outcome ⊎ IsAsked form key came back outcome

-- a link was connected to the host and the port, without a failure of the dial, and came back to it
pub record IsConnected {W : Type 0} (state : W → LinkState) (host : List ℕ) (port : ℕ) (form : Form) (key : List ℕ) (a b : DialState W) (outcome : BodyOutcome) : Type 0 where
  pub came : W
  pub link : W
  pub back : b.back ≡ option_map (λ links. links ++ ((host, port), link) ∷ []) a.back
  pub kept : b.faults ≡ a.faults
  pub over : IsAskedOver form key (state came) (state link) outcome

-- or the dial failed
pub record IsUnconnected {W : Type 0} (a b : DialState W) (outcome : BodyOutcome) : Type 0 where
  pub back : b.back ≡ a.back
  pub is_fault : outcome ≡ ReadFault
  pub fault : Rose a.faults b.faults

abbrev pub Dials : {W : Type 0} → (W → LinkState) → List ℕ → ℕ → Form → List ℕ → DialState W → DialState W → BodyOutcome → Type 0
Dials state host port form key a b outcome = IsUnconnected a b outcome ⊎ IsConnected state host port form key a b outcome
