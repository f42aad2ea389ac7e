-- What the command `relay` says of the links that came in, each answered out of the cache or by what the other server
-- replied (the lines, the cache and the causes are this project's).
use Rattle.std.specs.Prelude.{◌≡◌, ◌≢◌, ℕ, ◌+◌, ◌-◌, ◌^◌, ◌<◌, ◌≤◌, Bool, true, false, ◌||◌, List, [], ◌∷◌, ◌++◌, All, length, map, sum_by, codes, nat_lt, ⊤, IfSome, IsSome, Option, Some, None, option_map, if◌then◌else◌}
use Rattle.std.specs.Fmt.{decimal}
use Rattle.std.specs.Io.KnownBytes.{Appends, Consumes}
use Rattle.dap_outside.specs.Causes.{Rose}
use Rattle.dap_outside.specs.Links.{IsNew, LinkState}
use Rattle.dap_outside.specs.Streams.{AppendsFront}
use Rattle.dap_client.specs.Fetched.{DialState}
use Rattle.dap_client.specs.declared.body_outcome.BodyOutcome.{BodyOutcome}
use Rattle.dap_client.specs.declared.body_outcome.BodyOutcome.TheVariants as outcomes
use Rattle.dap_gateway.specs.Backed.{AreBacked, Exchange, history}
use Rattle.dap_gateway.specs.Steady.{EachBrought, EachTells, IsSteady, WasAsked}
use Rattle.dap_gateway.specs.Turns.{ComesTo, IsTurn, IsUnrelayed, Turn, hit, miss, no_memory, reply_of, status_in}
use Rattle.dap_gateway.specs.Turns as turns
use Rattle.dap_gateway.specs.declared.relayed.Relayed.{Relayed}
use Rattle.dap_gateway.specs.declared.relayed.Relayed.TheVariants as endings
use Rattle.dap_commands.specs.declared.status.Status.{Status}
use Rattle.dap_commands.specs.declared.status.Status.TheVariants.{Complete, Words, Unsaved, Refused, Damaged, BadReply, ReadFault, WriteFault, LinkFault, Memory, ServerError}

-- ---- The line of a link.

-- the status of the reply, or why there is none
abbrev pub relayed_name : Relayed → List ℕ
relayed_name (endings.Replied status kept) = decimal status
relayed_name endings.Gone = codes "gone"
relayed_name endings.ReadFault = codes "read fault"
relayed_name endings.WriteFault = codes "write fault"

-- whether a reply came out of the cache
abbrev pub source_name : Relayed → List ℕ
source_name (endings.Replied status true) = codes " hit"
source_name (endings.Replied status false) = codes " miss"
source_name endings.Gone = []
source_name endings.ReadFault = []
source_name endings.WriteFault = []

-- connection K STATUS hit
abbrev pub relay_line : ℕ → Relayed → List ℕ
relay_line k relayed = codes "connection " ++ (decimal k ++ (codes " " ++ (relayed_name relayed ++ (source_name relayed ++ codes "\n"))))

-- ---- Faults of the other server.

-- the reply says that the other server could not be asked (code 23)
abbrev pub fault_of : BodyOutcome → ℕ
fault_of outcomes.ReadFault = 1
fault_of outcome = 0

abbrev pub fault_in : Option Turn → ℕ
fault_in (Some (miss w outcome)) = fault_of outcome
fault_in turn = 0

-- it says so, or memory was wanted: behind a want of memory nothing is told of what was asked
abbrev pub MayHaveFailed : Option Turn → Type 0
MayHaveFailed (Some (miss w outcome)) = outcome ≡ outcomes.ReadFault
MayHaveFailed (Some (no_memory head_alone)) = ⊤
MayHaveFailed turn = ⊥

-- a count of a link rose, which are 0 where it is connected
abbrev pub has_failed : LinkState → Bool
has_failed l = nat_lt 0 l.take_faults || nat_lt 0 l.put_faults

-- So many such replies are at most as many as the count of the dial rose by and links of it failed, where that count does
-- not stand at its end
abbrev pub AreCounted : ℕ → ℕ → ℕ → ℕ → Type 0
AreCounted faults failed a b = b < 2 ^ 64 - 1 → a + faults ≤ b + failed

-- ---- A link that was relayed.

-- what the links of the door and of the dial tell, what the dial tells, the host and the port of the other server, and
-- for how many pairs its cache has room
pub record Gateway (V W C : Type 0) : Type 0 where
  pub door_link : V → LinkState
  pub dial_link : W → LinkState
  pub dial : C → DialState W
  pub host : List ℕ
  pub port : ℕ
  pub room : ℕ

-- A link of the door as it came in and as it came back, and the bytes that were taken of it; the dial and the pairs of
-- the cache before and behind it; what it came to, where something was put; the link that came back to the dial for it, if
-- one did; and what was told of it.
pub record RelayedLink (V W C : Type 0) : Type 0 where
  pub came : V
  pub back : V
  pub taken : List ℕ
  pub dial : C
  pub dial_then : C
  pub pairs : List (List ℕ × List ℕ)
  pub pairs_then : List (List ℕ × List ℕ)
  pub turn : Option Turn
  pub asked : Option W
  pub relayed : Relayed

module _ {V W C : Type 0} (g : Gateway V W C) where
  abbrev pub before : RelayedLink V W C → turns.Standing
  before r = record { written = (g.door_link r.came).written; pairs = r.pairs }

  abbrev pub behind : RelayedLink V W C → turns.Standing
  behind r = record { written = (g.door_link r.back).written; pairs = r.pairs_then }

  -- The client was gone or could not be read, and nothing was put, asked or kept; or it came to this turn, by its first
  -- request and by the cache that it found. Then the turn says what was put, what was asked over the dial, and what is
  -- in the cache behind it.
  abbrev pub CameTo : RelayedLink V W C → Option Turn → Type 0
  CameTo r None = IsUnrelayed (r.dial_then ≡ r.dial) r.taken (g.door_link r.back).ended (before r) (behind r) r.relayed
  CameTo r (Some turn) =
      (c : ComesTo g.dial_link (r.dial_then ≡ r.dial) g.host g.port g.room r.taken (before r) (behind r) (g.dial r.dial) (g.dial r.dial_then) r.relayed) × (c.turn ≡ turn)

  -- a link that came back to the dial, behind the host and the port that it went to
  abbrev pub came_back : Option W → List ((List ℕ × ℕ) × W)
  came_back None = []
  came_back (Some link) = ((g.host, g.port), link) ∷ []

  abbrev pub failed_in : Option W → ℕ
  failed_in None = 0
  failed_in (Some link) = if has_failed (g.dial_link link) then 1 else 0

  -- ---- Each link.

  -- It was relayed by the dial and the cache that it found. A fault of it comes only where a count of it rose, and each count
  -- rises for its own fault alone: those of the dial and of the link that came back to it only where the reply says that the
  -- other server could not be asked, or that memory was wanted.
  pub record IsRelayed (r : RelayedLink V W C) : Type 0 where
    pub is_new : IsNew (g.door_link r.came)
    pub whole : (g.door_link r.back).whole ≡ (g.door_link r.came).whole
    pub consumes : Consumes (g.door_link r.came).left (g.door_link r.back).left r.taken
    pub came_to : CameTo r r.turn
    pub asked : (g.dial r.dial_then).back ≡ option_map (λ links. links ++ came_back r.asked) (g.dial r.dial).back
    pub later : (g.dial r.dial).faults ≤ (g.dial r.dial_then).faults
    pub counted : AreCounted (fault_in r.turn) (failed_in r.asked) (g.dial r.dial).faults (g.dial r.dial_then).faults
    pub dial_kept : ¬ (MayHaveFailed r.turn) → ((g.dial r.dial_then).faults ≡ (g.dial r.dial).faults) × (failed_in r.asked ≡ 0)
    pub read_fault : r.relayed ≡ endings.ReadFault → Rose (g.door_link r.came).take_faults (g.door_link r.back).take_faults
    pub reading_kept : r.relayed ≢ endings.ReadFault → (g.door_link r.back).take_faults ≡ (g.door_link r.came).take_faults
    pub write_fault : r.relayed ≡ endings.WriteFault → Rose (g.door_link r.came).put_faults (g.door_link r.back).put_faults
    pub writing_kept : r.relayed ≢ endings.WriteFault → (g.door_link r.back).put_faults ≡ (g.door_link r.came).put_faults

  -- the links of the dial, as they are connected, tell what is written on them
  abbrev pub TellsWritten : Type 0
  TellsWritten = (l : W) → IsNew (g.dial_link l) → IsSome (g.dial_link l).written

  -- the links that came back to a dial
  abbrev pub history_of : C → Option (List Exchange)
  history_of d = history g.dial_link (g.dial d).back

  -- each body in the cache that it found is the good body of the last reply to its request
  abbrev pub IsBacked : RelayedLink V W C → Type 0
  IsBacked r = AreBacked g.host g.port (history_of r.dial) r.pairs

  -- ---- The same without the cache.

  -- Where the body was in the cache, it is what each reply to that request brought, whatever is told of it but for a fault
  -- or want of memory; else it asked for itself
  abbrev pub IsToldOf : List Exchange → Turn → Turn → Type 0
  IsToldOf exchanges (hit w body) without = (without ≡ miss w (outcomes.Good body)) × WasAsked exchanges w.key × EachBrought exchanges w body × EachTells exchanges w body
  IsToldOf exchanges turn without = without ≡ turn

  -- What the same bytes come to with an empty cache, by what the other server replied, is answered alike.
  pub record IsAsWithout (exchanges : List Exchange) (taken : List ℕ) (turn : Turn) : Type 0 where
    pub without : Turn
    pub is_turn : IsTurn g.host g.port [] taken without
    pub told : IsToldOf exchanges turn without
    pub answers : reply_of without ≡ reply_of turn
    pub status : status_in without ≡ status_in turn

  abbrev pub IsAnsweredAlike : List Exchange → RelayedLink V W C → Type 0
  IsAnsweredAlike exchanges r = IfSome r.turn (IsAsWithout exchanges r.taken)

  -- ---- Links one after the other.

  -- each found the dial and the cache as the one before it left them
  abbrev pub Follow : C → List (List ℕ × List ℕ) → List (RelayedLink V W C) → C → Type 0
  Follow d pairs [] last = last ≡ d
  Follow d pairs (r ∷ relays) last = (r.dial ≡ d) × (r.pairs ≡ pairs) × Follow r.dial_then r.pairs_then relays last

  abbrev pub faults_in : List (RelayedLink V W C) → ℕ
  faults_in relays = sum_by (λ r. fault_in r.turn) relays

  abbrev pub failures_in : List (RelayedLink V W C) → ℕ
  failures_in relays = sum_by (λ r. failed_in r.asked) relays

  -- a line for each, of which the first has that number
  abbrev pub lines_from : ℕ → List (RelayedLink V W C) → List ℕ
  lines_from k [] = []
  lines_from k (r ∷ relays) = relay_line k r.relayed ++ lines_from (k + 1) relays

-- by the status: how many of so many links came, and their lines, whole or a front of them. Memory is wanted before the
-- first alone
abbrev pub RelaySays : ℕ → ℕ → List ℕ → (List ℕ → Type 0) → (List ℕ → Type 0) → Status → Type 0
RelaySays requests came lines Out Front Complete = (came ≡ requests) × Out lines
RelaySays requests came lines Out Front WriteFault = (came ≢ 0) × (came < requests + 1) × Front lines
RelaySays requests came lines Out Front LinkFault = (came < requests) × Out lines
RelaySays requests came lines Out Front Memory = (came ≡ 0) × Out lines
RelaySays requests came lines Out Front Words = ⊥
RelaySays requests came lines Out Front Unsaved = ⊥
RelaySays requests came lines Out Front Refused = ⊥
RelaySays requests came lines Out Front Damaged = ⊥
RelaySays requests came lines Out Front BadReply = ⊥
RelaySays requests came lines Out Front ReadFault = ⊥
RelaySays requests came lines Out Front ServerError = ⊥

-- the links that came back to a door, a dial, and what the output has
pub record RelayStanding (V C : Type 0) : Type 0 where
  pub back : Option (List V)
  pub dial : C
  pub written : Option (List ℕ)

-- These links came back to the door, in order, the first of so many that were asked for being link k and finding
-- these pairs in the cache, and a line was put for each. Where the bodies in the cache that the first found are those of
-- the last replies to their requests, they are so for each.
pub record RelaysFrom {V W C : Type 0} (g : Gateway V W C) (k requests : ℕ) (pairs : List (List ℕ × List ℕ)) (a b : RelayStanding V C) (relays : List (RelayedLink V W C)) (status : Status) : Type 0 where
  pub back : b.back ≡ option_map (λ links. links ++ map (λ r. r.back) relays) a.back
  pub relayed : All (IsRelayed g) relays
  pub follow : Follow g a.dial pairs relays b.dial
  pub later : (g.dial a.dial).faults ≤ (g.dial b.dial).faults
  pub counted : AreCounted (faults_in g relays) (failures_in g relays) (g.dial a.dial).faults (g.dial b.dial).faults
  pub backed : TellsWritten g → AreBacked g.host g.port (history_of g a.dial) pairs → All (IsBacked g) relays
  pub says : RelaySays requests (length relays) (lines_from g k relays) (Appends a.written b.written) (AppendsFront a.written b.written) status

-- From the first on, with the empty cache. Where equal requests got equal replies, each link is answered as it would be
-- without the cache.
pub record Relays {V W C : Type 0} (g : Gateway V W C) (requests : ℕ) (a b : RelayStanding V C) (relays : List (RelayedLink V W C)) (status : Status) : Type 0 where
  pub all : RelaysFrom g 1 requests [] a b relays status
  pub backed : TellsWritten g → All (IsBacked g) relays
  pub alike : TellsWritten g → (exchanges : List Exchange) → history_of g b.dial ≡ Some exchanges → IsSteady exchanges → All (IsAnsweredAlike g exchanges) relays
