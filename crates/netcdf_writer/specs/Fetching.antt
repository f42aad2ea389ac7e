-- What becomes of a data response that is asked for over a new link, which then comes back to the dial, and is saved
-- (RFC 9112, sections 3 and 9; DAP 2.0, DODS).
use Rattle.std.specs.Prelude.{◌≡◌, ℕ, ◌⊎◌, true, List, [], ◌∷◌, ◌++◌, Option, Some}
use Rattle.std.specs.Option.{option_map}
use Rattle.std.specs.Io.KnownBytes.{Appends, Consumes}
use Rattle.dap_types.specs.Limits.{most_written}
use Rattle.dap_outside.specs.Causes.{Rose}
use Rattle.dap_outside.specs.Links.{IsNew, LinkState}
use Rattle.dap_outside.specs.Streams.{AppendsFront}
use Rattle.dap_http.specs.Texts.{request_text}
use Rattle.dap_http.specs.Urls.{UrlParts}
use Rattle.dap_http.specs.declared.kind.Kind.TheVariants.{Dods}
use Rattle.dap_client.specs.Fetched.{DialState, SinkState}
use Rattle.dap_client.specs.Held.{IsExact, Says}
use Rattle.dap_client.specs.Replies.{StopsInTime}
use Rattle.dap_client.specs.Shows.{Takes}
use Rattle.dap_client.specs.Verdict.{dods_form}
use Rattle.dap_client.specs.declared.body_outcome.BodyOutcome.{BodyOutcome}
use Rattle.dap_client.specs.declared.body_outcome.BodyOutcome.TheVariants as outcomes
use Rattle.netcdf_writer.specs.Saving.{Judges}
use Rattle.netcdf_writer.specs.declared.stored.Stored.{Stored}
use Rattle.netcdf_writer.specs.declared.stored.Stored.TheVariants.{BodyTooLarge, BadReply, ReadFault, WriteFault, LinkFault, Memory}

-- a body that was read is judged and stored; what else is told of a reply is the answer, and nothing is put
abbrev pub Becomes : BodyOutcome → Option (List ℕ) → Option (List ℕ) → Stored → Type 0
Becomes (outcomes.Good body) before now answer = Judges body before now answer
Becomes (outcomes.ServerError body) before now answer = Judges body before now answer
Becomes (outcomes.Bad field) before now answer = (answer ≡ BadReply field) × (now ≡ before)
Becomes outcomes.TooLarge before now answer = (answer ≡ BodyTooLarge) × (now ≡ before)
Becomes outcomes.ReadFault before now answer = (answer ≡ ReadFault) × (now ≡ before)
Becomes outcomes.Memory before now answer = (answer ≡ Memory) × (now ≡ before)

-- the link failed before the request was out: some of it went, from the front, and nothing was read nor put
pub record IsUnasked (request : List ℕ) (came back : LinkState) (before now : SinkState) (answer : Stored) : Type 0 where
  pub sent : AppendsFront came.written back.written request
  pub none_taken : back.left ≡ came.left
  pub none_put : now ≡ before
  pub is_fault : answer ≡ WriteFault
  pub fault : Rose came.put_faults back.put_faults
  pub no_read : back.take_faults ≡ came.take_faults

-- the request went out without a failed put, this is what the reply brought, of which no more was taken than settles it,
-- and a piece, and the answer is what becomes of it. A fault came only where its count rose, and with any other answer
-- the count is what it was
pub record IsAsked (request : List ℕ) (came back : LinkState) (before now : SinkState) (answer : Stored) : Type 0 where
  pub outcome : BodyOutcome
  pub sent : Appends came.written back.written request
  pub says : (taken : List ℕ) × Consumes came.left back.left taken × Says dods_form most_written taken back.ended outcome
  pub most : Takes came.left back.left (StopsInTime dods_form)
  pub exact : (reply : List ℕ) → came.left ≡ Some reply → IsExact dods_form most_written reply outcome
  pub becomes : Becomes outcome before.written now.written answer
  pub read_fault : answer ≡ ReadFault → Rose came.take_faults back.take_faults
  pub write_fault : answer ≡ WriteFault → Rose before.faults now.faults
  pub kept_reading : ¬ (answer ≡ ReadFault) → back.take_faults ≡ came.take_faults
  pub kept_writing : ¬ (answer ≡ WriteFault) → now.faults ≡ before.faults
  pub kept_sending : back.put_faults ≡ came.put_faults

-- over a link as it came and as it was handed back
pub record IsSavedOver (request : List ℕ) (came back : LinkState) (before now : SinkState) (answer : Stored) : Type 0 where
  pub is_new : IsNew came
  pub whole : back.whole ≡ came.whole
  pub asked : IsUnasked request came back before now answer ⊎ IsAsked request came back before now answer

-- a link was connected to the host and the port of the URL, without a failure of the dial, and came back to it
pub record IsConnected {W : Type 0} (state : W → LinkState) (url : UrlParts) (ce : List ℕ) (a b : DialState W) (before now : SinkState) (answer : Stored) : Type 0 where
  pub came : W
  pub link : W
  pub back : b.back ≡ option_map (λ links. links ++ ((url.host, url.port), link) ∷ []) a.back
  pub kept : b.faults ≡ a.faults
  pub over : IsSavedOver (request_text url.host url.port url.path Dods ce true) (state came) (state link) before now answer

-- or none was: the dial failed, or memory was wanted before
pub record IsUnconnected {W : Type 0} (a b : DialState W) (before now : SinkState) (answer : Stored) : Type 0 where
  pub back : b.back ≡ a.back
  pub none_put : now ≡ before
  pub is_fault : ((answer ≡ LinkFault) × Rose a.faults b.faults) ⊎ ((answer ≡ Memory) × (b.faults ≡ a.faults))

abbrev pub SavesUrl : {W : Type 0} → (W → LinkState) → UrlParts → List ℕ → DialState W → DialState W → SinkState → SinkState → Stored → Type 0
SavesUrl state url ce a b before now answer = IsUnconnected a b before now answer ⊎ IsConnected state url ce a b before now answer
