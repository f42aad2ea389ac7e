-- What the command `serve` says of the links that came in, and `ver` of the version (the lines are this
-- project's).
use Rattle.std.specs.Prelude.{◌≡◌, ◌≢◌, ℕ, ◌+◌, ◌<◌, ◌≤◌, false, List, [], ◌∷◌, ◌++◌, All, length, map, sum_by, codes, Option, Some, option_map}
use Rattle.std.specs.Fmt.{decimal}
use Rattle.std.specs.Io.KnownBytes.{Appends, Consumes}
use Rattle.dap_http.specs.Texts.{version}
use Rattle.dap_outside.specs.Causes.{Rose}
use Rattle.dap_outside.specs.Files.{Told}
use Rattle.dap_outside.specs.Links.{IsNew, LinkState}
use Rattle.dap_outside.specs.Streams.{AppendsFront}
use Rattle.dap_server.specs.Connections.{Connection, ConnectionMayAsk, IsConnectionServed, IsPut, RoseBy, RoseFor, failures, leaves_open}
use Rattle.dap_server.specs.Files.{Files}
use Rattle.dap_server.specs.Whole.{AnswersAll}
use Rattle.dap_server.specs.declared.served.Ending.{Ending}
use Rattle.dap_server.specs.declared.served.Ending.TheVariants as endings
use Rattle.dap_server.specs.declared.served.Served.{Served}
use Rattle.dap_commands.specs.declared.status.Status.{Status}
use Rattle.dap_commands.specs.declared.status.Status.TheVariants.{Complete, Words, Unsaved, Refused, Damaged, BadReply, ReadFault, WriteFault, LinkFault, Memory, ServerError}

-- ---- The line of a link.

abbrev pub ending_name : Ending → List ℕ
ending_name endings.Closed = codes "closed"
ending_name endings.Gone = codes "gone"
ending_name endings.ReadFault = codes "read fault"
ending_name endings.WriteFault = codes "write fault"
ending_name endings.Broken = codes "broken"

-- connection K REPLIES ENDING
abbrev pub link_line : ℕ → Served → List ℕ
link_line k served = codes "connection " ++ (decimal k ++ (codes " " ++ (decimal served.replies ++ (codes " " ++ (ending_name served.ending ++ codes "\n")))))

-- ---- A link that was served.

-- a link as it came in and as it came back, what was answered on it, how it ended, and the most that was asked of the
-- shelf for it
pub record Visit (W : Type 0) : Type 0 where
  pub came : W
  pub back : W
  pub connection : Connection
  pub served : Served
  pub most : ℕ

-- Its first requests were answered in order, as `serve_connection` answers them, and that is what it gained, but for
-- values of files that are not told. A count of the link rose for its own fault alone. No more was asked of the shelf
-- than those answers may ask.
pub record IsServedOn (told : Told) (came back : LinkState) (c : Connection) (served : Served) (most : ℕ) : Type 0 where
  pub is_new : IsNew came
  pub whole : back.whole ≡ came.whole
  pub requests : (taken : List ℕ) × Consumes came.left back.left taken × IsConnectionServed told taken back.ended c served
  pub gained : (put : List ℕ) × Appends came.written back.written put × IsPut told 1 c put
  pub causes : RoseFor served.ending came.take_faults back.take_faults came.put_faults back.put_faults
  pub asks : ConnectionMayAsk told c most

-- where the files and the input are told, no count of the link rose and memory was had, all its requests
-- were answered
abbrev pub IsAnswered : Told → LinkState → LinkState → Served → Type 0
IsAnswered told came back served =
    (files : Files) (input : List ℕ) → told ≡ Some files → came.left ≡ Some input
    → ¬ (Rose came.take_faults back.take_faults) → ¬ (Rose came.put_faults back.put_faults) → served.status ≢ 503
    → (gained : List ℕ) × Appends came.written back.written gained × AnswersAll input files gained served

abbrev pub IsVisit : {W : Type 0} → Told → (W → LinkState) → Visit W → Type 0
IsVisit told state v = IsServedOn told (state v.came) (state v.back) v.connection v.served v.most

abbrev pub IsWholeVisit : {W : Type 0} → Told → (W → LinkState) → Visit W → Type 0
IsWholeVisit told state v = IsAnswered told (state v.came) (state v.back) v.served

-- ---- Links one after the other.

-- the answers for which a read of a file failed, and the replies that broke off by it, of all links
abbrev pub failures_in : {W : Type 0} → List (Visit W) → ℕ
failures_in visits = sum_by (λ v. failures v.connection v.served.ending) visits

-- no answer of it says that a read failed, and none leaves it open
abbrev pub IsCalm : {W : Type 0} → Visit W → Type 0
IsCalm v = (failures v.connection v.served.ending ≡ 0) × (leaves_open v.connection.turns v.served.ending v.connection.behind ≡ false)

-- the most that was asked of the shelf for all of them
abbrev pub most_asked : {W : Type 0} → List (Visit W) → ℕ
most_asked visits = sum_by (λ v. v.most) visits

-- a line for each, of which the first has that number
abbrev pub lines_from : {W : Type 0} → ℕ → List (Visit W) → List ℕ
lines_from k [] = []
lines_from k (v ∷ visits) = link_line k v.served ++ lines_from (k + 1) visits

-- by the status: how many of so many links came, and their lines, whole or a front of them
abbrev pub ServeSays : ℕ → ℕ → List ℕ → (List ℕ → Type 0) → (List ℕ → Type 0) → Status → Type 0
ServeSays requests came lines Out Front Complete = (came ≡ requests) × Out lines
ServeSays requests came lines Out Front WriteFault = (came ≢ 0) × (came < requests + 1) × Front lines
ServeSays requests came lines Out Front LinkFault = (came < requests) × Out lines
ServeSays requests came lines Out Front Words = ⊥
ServeSays requests came lines Out Front Unsaved = ⊥
ServeSays requests came lines Out Front Refused = ⊥
ServeSays requests came lines Out Front Damaged = ⊥
ServeSays requests came lines Out Front BadReply = ⊥
ServeSays requests came lines Out Front ReadFault = ⊥
ServeSays requests came lines Out Front Memory = ⊥
ServeSays requests came lines Out Front ServerError = ⊥

-- the links that came back to a door, how often the shelf failed, what was asked of it, and what the output has
pub record Standing (W : Type 0) : Type 0 where
  pub back : Option (List W)
  pub faults : ℕ
  pub asked : ℕ
  pub written : Option (List ℕ)

-- These links came back, in order, the first of so many that were asked for being link k. Each was served by
-- itself; the shelf failed at least as often as they say, and never where none leaves it open; no more was asked of it
-- than they may ask; where it never failed, each was answered whole.
pub record ServesFrom {W : Type 0} (told : Told) (state : W → LinkState) (k requests : ℕ) (a b : Standing W) (visits : List (Visit W)) (status : Status) : Type 0 where
  pub back : b.back ≡ option_map (λ links. links ++ map (λ v. v.back) visits) a.back
  pub later : a.faults ≤ b.faults
  pub served : All (IsVisit told state) visits
  pub failed : RoseBy (failures_in visits) a.faults b.faults
  pub calm : All IsCalm visits → b.faults ≡ a.faults
  pub asked : b.asked ≤ a.asked + most_asked visits
  pub answered : ¬ (Rose a.faults b.faults) → All (IsWholeVisit told state) visits
  pub says : ServeSays requests (length visits) (lines_from k visits) (Appends a.written b.written) (AppendsFront a.written b.written) status

-- from the first on
abbrev pub Serves : {W : Type 0} → Told → (W → LinkState) → ℕ → Standing W → Standing W → List (Visit W) → Status → Type 0
Serves told state requests a b visits status = ServesFrom told state 1 requests a b visits status

-- ---- The version.

-- the version text is put, or where the output failed a front of it
abbrev pub VerSays : (List ℕ → Type 0) → (List ℕ → Type 0) → Status → Type 0
VerSays Out Front Complete = Out version
VerSays Out Front WriteFault = Front version
VerSays Out Front Words = ⊥
VerSays Out Front Unsaved = ⊥
VerSays Out Front Refused = ⊥
VerSays Out Front Damaged = ⊥
VerSays Out Front BadReply = ⊥
VerSays Out Front ReadFault = ⊥
VerSays Out Front LinkFault = ⊥
VerSays Out Front Memory = ⊥
VerSays Out Front ServerError = ⊥
