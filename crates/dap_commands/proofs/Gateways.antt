-- Links that are relayed one after the other.
use Rattle.std.proofs.Common.{◌≡◌, ◌≢◌, ℕ, suc, ◌+◌, ◌-◌, ◌^◌, ◌<◌, ◌≤◌, ◌⊎◌, inl, inr, true, List, [], ◌∷◌, ◌++◌, length, map, All, IfSome, Option, Some, None, option_map, refl, sym, ap, ◌∙◌, subst, arith, codes}
use Rattle.std.specs.Prelude.{nat_lt, ◌||◌, if◌then◌else◌}
use Rattle.std.specs.List.{Contains}
use Rattle.std.specs.Option.{option_and_then}
use Rattle.std.proofs.KnownBytes.{Appends-trans, Appends-nil}
use Rattle.std.proofs.lemmas.Bool.Decides.{nat_tests}
use Rattle.std.proofs.lemmas.List.Elements.{All-cons, All-head, All-nil, All-tail, Contains-append_left}
use Rattle.std.proofs.lemmas.List.Sums.{sum_by-cons}
use Rattle.std.specs.Fmt.{decimal}
use Rattle.std.specs.Io.KnownBytes.{Appends, Consumes}
use Rattle.dap_commands.proofs.Visiting.{back-none, back-more}
use Rattle.plain_lemmas.proofs.Truths.{or_true}
use Rattle.dap_types.specs.Limits.{most_body}
use Rattle.dap_outside.proofs.Fronts.{front_more, front_of}
use Rattle.dap_outside.specs.Causes.{Rose}
use Rattle.dap_outside.specs.Links.{IsNew, LinkState}
use Rattle.dap_outside.specs.Streams.{AppendsFront}
use Rattle.dap_client.specs.Fetched.{DialState}
use Rattle.dap_client.specs.Replies.{form_of}
use Rattle.dap_client.specs.Verdict.{Form}
use Rattle.dap_client.specs.declared.body_outcome.BodyOutcome.{BodyOutcome}
use Rattle.dap_client.specs.declared.body_outcome.BodyOutcome.TheVariants as outcomes
use Rattle.dap_gateway.proofs.Backing.{history-more}
use Rattle.dap_gateway.proofs.Replied.{hit-is-replied, hit-is-told}
use Rattle.dap_gateway.specs.Backed.{AreBacked, Exchange, IsGoodReply, exchange_of, history}
use Rattle.dap_gateway.specs.Backed as backing
use Rattle.dap_gateway.specs.Steady.{IsSteady}
use Rattle.dap_gateway.specs.Turns.{Asks, IsTurn, Turn, early, hit, miss, no_memory}
use Rattle.dap_gateway.specs.Turns as turns
use Rattle.dap_client.specs.Held.{IsExact}
use Rattle.dap_gateway.specs.Upstream.{Dials, IsAsked, IsAskedOver, IsUnasked}
use Rattle.dap_gateway.specs.declared.relayed.Relayed.{Relayed}
use Rattle.dap_gateway.specs.declared.relayed.Relayed.TheVariants as endings
use Rattle.dap_gateway.specs.declared.wanted.Wanted.{Wanted}
use Rattle.dap_commands.specs.Relay.{AreCounted, CameTo, Follow, Gateway, IsAnsweredAlike, IsAsWithout, IsBacked, IsRelayed, MayHaveFailed, RelaySays, RelayedLink, Relays, RelaysFrom, RelayStanding, TellsWritten, came_back, relayed_name, failed_in, failures_in, fault_in, fault_of, faults_in, has_failed, history_of, lines_from, relay_line, source_name}
use Rattle.dap_commands.specs.declared.status.Status.{Status}
use Rattle.dap_commands.specs.declared.status.Status.TheVariants.{Complete, Words, Unsaved, Refused, Damaged, BadReply, ReadFault, WriteFault, LinkFault, Memory, ServerError}
use Rattle.dap_gateway.proofs.Coming.{Pairs}

-- ---- Sums.

same-le : (n : ℕ) → n ≤ n
same-le n = omega arith

least : (n : ℕ) → 0 ≤ n
least n = omega arith

zero-few : 0 ≤ 1
zero-few = omega arith

one-is : (n : ℕ) → n ≡ 1 → 1 ≤ n
one-is n is = omega (arith, is)

few-one : (n m : ℕ) → m ≡ 1 → n ≤ 1 → n ≤ m
few-one n m is few = omega (arith, is, few)

le-trans : (a b c : ℕ) → a ≤ b → b ≤ c → a ≤ c
le-trans a b c p q = omega (arith, p, q)

added : (a b n m : ℕ) → n ≤ m → a ≤ b → a + n ≤ b + m
added a b n m few later = omega (arith, few, later)

no-more : (a b n m : ℕ) → n ≡ 0 → a ≤ b → a + n ≤ b + m
no-more a b n m none later = omega (arith, none, later)

rose-more : (a b n m : ℕ) → n ≤ 1 → Rose a b → b < 2 ^ 64 - 1 → a + n ≤ b + m
rose-more a b n m few up below = omega (arith, few, up, below)

both-more : (a m b n n2 all k k2 every : ℕ) → all ≡ n + n2 → every ≡ k + k2 → a + n ≤ m + k → m + n2 ≤ b + k2 → a + all ≤ b + every
both-more a m b n n2 all k k2 every p q first others = omega (arith, p, q, first, others)

below-first : (a b : ℕ) → a ≤ b → b < 2 ^ 64 - 1 → a < 2 ^ 64 - 1
below-first a b later below = omega (arith, later, below)

rose-some : (before now : ℕ) → before ≡ 0 → Rose before now → 0 < now
rose-some before now none up = omega (arith, none, up)

-- ---- The line of a link.

-- in its pieces
pub line-is : (k : ℕ) (relayed : Relayed) (number ending source : List ℕ) → number ≡ decimal k → ending ≡ relayed_name relayed → source ≡ source_name relayed
    → codes "connection " ++ (number ++ (codes " " ++ (ending ++ (source ++ (codes "\n" ++ []))))) ≡ relay_line k relayed
line-is k relayed number ending source p q r =
    ap (λ n. codes "connection " ++ (n ++ (codes " " ++ (ending ++ (source ++ codes "\n"))))) p
    ∙ ap (λ n. codes "connection " ++ (decimal k ++ (codes " " ++ (n ++ (source ++ codes "\n"))))) q
    ∙ ap (λ n. codes "connection " ++ (decimal k ++ (codes " " ++ (relayed_name relayed ++ (n ++ codes "\n"))))) r

says-more : (requests came : ℕ) (line lines : List ℕ) (a m b : Option (List ℕ)) (status : Status) → status ≢ Memory → Appends a m line
    → RelaySays requests came lines (Appends m b) (AppendsFront m b) status → RelaySays (requests + 1) (suc came) (line ++ lines) (Appends a b) (AppendsFront a b) status
says-more requests came line lines a m b Complete had puts (is, out) = (omega (arith, is), Appends-trans a m b line lines puts out)
says-more requests came line lines a m b WriteFault had puts (some, few, front) = (λ e. some (omega (arith, e)), omega (arith, few), front_more a m b line lines puts front)
says-more requests came line lines a m b LinkFault had puts (few, out) = (omega (arith, few), Appends-trans a m b line lines puts out)
says-more requests came line lines a m b Memory had puts says = absurd (had refl)
says-more requests came line lines a m b Words had puts says = absurd says
says-more requests came line lines a m b Unsaved had puts says = absurd says
says-more requests came line lines a m b Refused had puts says = absurd says
says-more requests came line lines a m b Damaged had puts says = absurd says
says-more requests came line lines a m b BadReply had puts says = absurd says
says-more requests came line lines a m b ReadFault had puts says = absurd says
says-more requests came line lines a m b ServerError had puts says = absurd says

-- ---- One link.

some-first : (n : ℕ) → 0 < n → nat_lt 0 n ≡ true
some-first n some = grind (arith, nat_tests)

-- of equal dials the links that came back are the same
same-back : {W C : Type 0} (dial : C → DialState W) (d e : C) → e ≡ d → (dial e).back ≡ option_map (λ links. links ++ []) (dial d).back
same-back dial d e same = ap (λ x. (dial x).back) same ∙ back-none (dial d).back

fault-few : (outcome : BodyOutcome) → fault_of outcome ≤ 1
fault-few (outcomes.Good body) = zero-few
fault-few (outcomes.ServerError object) = zero-few
fault-few (outcomes.Bad field) = zero-few
fault-few outcomes.TooLarge = zero-few
fault-few outcomes.ReadFault = same-le 1
fault-few outcomes.Memory = zero-few

fault-by : (outcome : BodyOutcome) (n : ℕ) → (outcome ≡ outcomes.ReadFault → n ≡ 1) → fault_of outcome ≤ n
fault-by (outcomes.Good body) n up = least n
fault-by (outcomes.ServerError object) n up = least n
fault-by (outcomes.Bad field) n up = least n
fault-by outcomes.TooLarge n up = least n
fault-by outcomes.ReadFault n up = one-is n (up refl)
fault-by outcomes.Memory n up = least n

module _ {V W C : Type 0} (g : Gateway V W C) where
  fails : (link : W) → has_failed (g.dial_link link) ≡ true → failed_in g (Some link) ≡ 1
  fails link is = ap (λ t. if t then 1 else 0) is

  take-failed : (link : W) → 0 < (g.dial_link link).take_faults → failed_in g (Some link) ≡ 1
  take-failed link some = fails link (ap (λ t. t || nat_lt 0 (g.dial_link link).put_faults) (some-first (g.dial_link link).take_faults some))

  put-failed : (link : W) → 0 < (g.dial_link link).put_faults → failed_in g (Some link) ≡ 1
  put-failed link some = fails link (ap (λ t. nat_lt 0 (g.dial_link link).take_faults || t) (some-first (g.dial_link link).put_faults some) ∙ or_true (nat_lt 0 (g.dial_link link).take_faults))

  fault-failed : (form : Form) (key : List ℕ) (came link : W) (outcome : BodyOutcome) → IsAskedOver form key (g.dial_link came) (g.dial_link link) outcome → fault_of outcome ≤ failed_in g (Some link)
  fault-failed form key came link outcome over = go over.asked where
    go : IsUnasked key (g.dial_link came) (g.dial_link link) outcome ⊎ IsAsked form key (g.dial_link came) (g.dial_link link) outcome → fault_of outcome ≤ failed_in g (Some link)
    go (inl unasked) = few-one (fault_of outcome) (failed_in g (Some link)) (put-failed link (rose-some (g.dial_link came).put_faults (g.dial_link link).put_faults over.is_new.puts unasked.fault)) (fault-few outcome)
    go (inr asked) = fault-by outcome (failed_in g (Some link)) (λ is. take-failed link (rose-some (g.dial_link came).take_faults (g.dial_link link).take_faults over.is_new.takes (asked.fault is)))

  none-failed : (link : W) → (g.dial_link link).take_faults ≡ 0 → (g.dial_link link).put_faults ≡ 0 → failed_in g (Some link) ≡ 0
  none-failed link takes puts = ap (λ n. if nat_lt 0 n || nat_lt 0 (g.dial_link link).put_faults then 1 else 0) takes ∙ ap (λ n. if nat_lt 0 0 || nat_lt 0 n then 1 else 0) puts

  -- a link over which it was asked without a fault
  sound-link : (form : Form) (key : List ℕ) (came link : W) (outcome : BodyOutcome) → ¬ (outcome ≡ outcomes.ReadFault) → IsAskedOver form key (g.dial_link came) (g.dial_link link) outcome → failed_in g (Some link) ≡ 0
  sound-link form key came link outcome no_fault over = go over.asked where
    go : IsUnasked key (g.dial_link came) (g.dial_link link) outcome ⊎ IsAsked form key (g.dial_link came) (g.dial_link link) outcome → failed_in g (Some link) ≡ 0
    go (inl unasked) = absurd (no_fault unasked.is_fault)
    go (inr asked) = none-failed link (asked.kept_reading no_fault ∙ over.is_new.takes) (asked.kept_sending ∙ over.is_new.puts)

  -- the link that came back to the dial for a turn, and what it counts
  record Asking (t : Option Turn) (a b : DialState W) : Type 0 where
    pub link : Option W
    pub back : b.back ≡ option_map (λ links. links ++ came_back g link) a.back
    pub counted : AreCounted (fault_in t) (failed_in g link) a.faults b.faults
    pub kept : ¬ (MayHaveFailed t) → (b.faults ≡ a.faults) × (failed_in g link ≡ 0)

  dialled : (form : Form) (key : List ℕ) (a b : DialState W) (w : Wanted) (outcome : BodyOutcome) → a.faults ≤ b.faults → Dials g.dial_link g.host g.port form key a b outcome → Asking (Some (miss w outcome)) a b
  dialled form key a b w outcome later (inl not) =
      record {
        link = None;
        back = not.back ∙ back-none a.back;
        counted = λ below. rose-more a.faults b.faults (fault_of outcome) 0 (fault-few outcome) not.fault below;
        kept = λ no_fault. absurd (no_fault not.is_fault);
      }
  dialled form key a b w outcome later (inr c) =
      record {
        link = Some c.link;
        back = c.back;
        counted = λ below. added a.faults b.faults (fault_of outcome) (failed_in g (Some c.link)) (fault-failed form key c.came c.link outcome c.over) later;
        kept = λ no_fault. (c.kept, sound-link form key c.came c.link outcome no_fault c.over);
      }

  -- one that says nothing of a fault, behind which one may have been
  quiet : (t u : Option Turn) (a b : DialState W) → a.faults ≤ b.faults → fault_in u ≡ 0 → MayHaveFailed u → Asking t a b → Asking u a b
  quiet t u a b later none may asking =
      record { link = asking.link; back = asking.back; counted = λ below. no-more a.faults b.faults (fault_in u) (failed_in g asking.link) none later; kept = λ sound. absurd (sound may) }

  none-asked : (t : Option Turn) (d e : C) → (g.dial d).faults ≤ (g.dial e).faults → fault_in t ≡ 0 → e ≡ d → Asking t (g.dial d) (g.dial e)
  none-asked t d e later none same =
      record {
        link = None;
        back = same-back g.dial d e same;
        counted = λ below. no-more (g.dial d).faults (g.dial e).faults (fault_in t) 0 none later;
        kept = λ sound. (ap (λ x. (g.dial x).faults) same, refl);
      }

  asking-of : (t : Turn) (ps : Pairs) (taken : List ℕ) (d e : C) → (g.dial d).faults ≤ (g.dial e).faults → Asks g.dial_link (e ≡ d) g.host g.port ps taken (g.dial d) (g.dial e) t → Asking (Some t) (g.dial d) (g.dial e)
  asking-of (early head_alone given) ps taken d e later asks = none-asked (Some (early head_alone given)) d e later refl asks
  asking-of (hit w body) ps taken d e later asks = none-asked (Some (hit w body)) d e later refl asks
  asking-of (miss w outcome) ps taken d e later asks = dialled (form_of w.kind) w.key (g.dial d) (g.dial e) w outcome later asks
  asking-of (no_memory head_alone) ps taken d e later (inl same) = none-asked (Some (no_memory head_alone)) d e later refl same
  asking-of (no_memory head_alone) ps taken d e later (inr (w, outcome, wants, none, dials)) =
      quiet (Some (miss w outcome)) (Some (no_memory head_alone)) (g.dial d) (g.dial e) later refl tt (dialled (form_of w.kind) w.key (g.dial d) (g.dial e) w outcome later dials)

  -- the next link was relayed
  abbrev pub Came : Option (List V) → Option (List V) → C → C → Pairs → Pairs → Relayed → Type 0
  Came back back1 d e ps qs relayed =
      (r : RelayedLink V W C) × (r.relayed ≡ relayed) × (r.dial ≡ d) × (r.dial_then ≡ e) × (r.pairs ≡ ps) × (r.pairs_then ≡ qs)
      × (back1 ≡ option_map (λ links. links ++ r.back ∷ []) back) × IsRelayed g r

  pub came-of : (came link : V) (back back1 : Option (List V)) (d e : C) (ps qs : Pairs) (taken : List ℕ) (relayed : Relayed) → back1 ≡ option_map (λ links. links ++ link ∷ []) back
      → IsNew (g.door_link came) → (g.door_link link).whole ≡ (g.door_link came).whole → Consumes (g.door_link came).left (g.door_link link).left taken
      → turns.Relays g.dial_link (e ≡ d) g.host g.port g.room taken (g.door_link link).ended (record { written = (g.door_link came).written; pairs = ps }) (record { written = (g.door_link link).written; pairs = qs })
      (g.dial d) (g.dial e) relayed
      → (g.dial d).faults ≤ (g.dial e).faults → (relayed ≡ endings.ReadFault → Rose (g.door_link came).take_faults (g.door_link link).take_faults)
      → (relayed ≢ endings.ReadFault → (g.door_link link).take_faults ≡ (g.door_link came).take_faults)
      → (relayed ≡ endings.WriteFault → Rose (g.door_link came).put_faults (g.door_link link).put_faults)
      → (relayed ≢ endings.WriteFault → (g.door_link link).put_faults ≡ (g.door_link came).put_faults) → Came back back1 d e ps qs relayed
  came-of came link back back1 d e ps qs taken relayed in_back new whole consumes (inl not) later read read_kept write write_kept =
      let asking = none-asked None d e later refl not.not_called in (
        record { came = came; back = link; taken = taken; dial = d; dial_then = e; pairs = ps; pairs_then = qs; turn = None; asked = asking.link; relayed = relayed },
        refl,
        refl,
        refl,
        refl,
        refl,
        in_back,
        record {
          is_new = new;
          whole = whole;
          consumes = consumes;
          came_to = not;
          asked = asking.back;
          later = later;
          counted = asking.counted;
          dial_kept = asking.kept;
          read_fault = read;
          reading_kept = read_kept;
          write_fault = write;
          writing_kept = write_kept;
        },
      )
  came-of came link back back1 d e ps qs taken relayed in_back new whole consumes (inr comes) later read read_kept write write_kept =
      let asking = asking-of comes.turn ps taken d e later comes.asks in (
        record { came = came; back = link; taken = taken; dial = d; dial_then = e; pairs = ps; pairs_then = qs; turn = Some comes.turn; asked = asking.link; relayed = relayed },
        refl,
        refl,
        refl,
        refl,
        refl,
        in_back,
        record {
          is_new = new;
          whole = whole;
          consumes = consumes;
          came_to = (comes, refl);
          asked = asking.back;
          later = later;
          counted = asking.counted;
          dial_kept = asking.kept;
          read_fault = read;
          reading_kept = read_kept;
          write_fault = write;
          writing_kept = write_kept;
        },
      )

  -- ---- Links one after the other.

  abbrev pub standing : Option (List V) → C → Option (List ℕ) → RelayStanding V C
  standing back d written = record { back = back; dial = d; written = written }

  abbrev Worth : C → Pairs → Type 0
  Worth d ps = AreBacked g.host g.port (history_of g d) ps

  -- the cache is worth as much behind a link as before it
  abbrev pub Keeps : C → C → Pairs → Pairs → Type 0
  Keeps d e ps qs = TellsWritten g → Worth d ps → Worth e qs

  counted-more : (r : RelayedLink V W C) (relays : List (RelayedLink V W C)) (a m b : ℕ) → m ≤ b → AreCounted (fault_in r.turn) (failed_in g r.asked) a m → AreCounted (faults_in g relays) (failures_in g relays) m b
      → AreCounted (faults_in g (r ∷ relays)) (failures_in g (r ∷ relays)) a b
  counted-more r relays a m b later first others = λ below.
      both-more a m b (fault_in r.turn) (faults_in g relays) (faults_in g (r ∷ relays)) (failed_in g r.asked) (failures_in g relays) (failures_in g (r ∷ relays))
      (sum_by-cons (λ (x : RelayedLink V W C). fault_in x.turn) r relays) (sum_by-cons (λ (x : RelayedLink V W C). failed_in g x.asked) r relays) (first (below-first m b later below)) (others below)

  none-counted : (n : ℕ) → AreCounted (faults_in g []) (failures_in g []) n n
  none-counted n = λ below. no-more n n (faults_in g []) (failures_in g []) refl (same-le n)

  relays-more : (k requests : ℕ) (r : RelayedLink V W C) (back back1 : Option (List V)) (written written1 : Option (List ℕ)) (b : RelayStanding V C) (relays : List (RelayedLink V W C)) (status : Status) → status ≢ Memory
      → back1 ≡ option_map (λ links. links ++ r.back ∷ []) back → IsRelayed g r → Keeps r.dial r.dial_then r.pairs r.pairs_then → Appends written written1 (relay_line k r.relayed)
      → RelaysFrom g (k + 1) requests r.pairs_then (standing back1 r.dial_then written1) b relays status → RelaysFrom g k (requests + 1) r.pairs (standing back r.dial written) b (r ∷ relays) status
  relays-more k requests r back back1 written written1 b relays status had came is keeps puts rest =
      record {
        back = rest.back ∙ ap (option_map (λ links. links ++ map (λ (x : RelayedLink V W C). x.back) relays)) came ∙ back-more back r.back (map (λ (x : RelayedLink V W C). x.back) relays);
        relayed = All-cons (IsRelayed g) r relays is rest.relayed;
        follow = (refl, refl, rest.follow);
        later = le-trans (g.dial r.dial).faults (g.dial r.dial_then).faults (g.dial b.dial).faults is.later rest.later;
        counted = counted-more r relays (g.dial r.dial).faults (g.dial r.dial_then).faults (g.dial b.dial).faults rest.later is.counted rest.counted;
        backed = λ tells worth. All-cons (IsBacked g) r relays worth (rest.backed tells (keeps tells worth));
        says = says-more requests (length relays) (relay_line k r.relayed) (lines_from g (k + 1) relays) written written1 b.written status had puts rest.says;
      }

  -- a link was relayed, and its line was put in part
  relays-part : (k requests : ℕ) (r : RelayedLink V W C) (back back1 : Option (List V)) (written written1 : Option (List ℕ)) → back1 ≡ option_map (λ links. links ++ r.back ∷ []) back → IsRelayed g r
      → AppendsFront written written1 (relay_line k r.relayed) → RelaysFrom g k (requests + 1) r.pairs (standing back r.dial written) (standing back1 r.dial_then written1) (r ∷ []) WriteFault
  relays-part k requests r back back1 written written1 came is puts =
      record {
        back = came;
        relayed = All-cons (IsRelayed g) r [] is (All-nil (IsRelayed g));
        follow = (refl, refl, refl);
        later = is.later;
        counted = counted-more r [] (g.dial r.dial).faults (g.dial r.dial_then).faults (g.dial r.dial_then).faults (same-le (g.dial r.dial_then).faults) is.counted (none-counted (g.dial r.dial_then).faults);
        backed = λ tells worth. All-cons (IsBacked g) r [] worth (All-nil (IsBacked g));
        says = (λ e. cc e, omega arith, front_of written written1 (relay_line k r.relayed) [] puts);
      }

  -- no link came
  relays-none : (k requests : ℕ) (ps : Pairs) (a : RelayStanding V C) → 0 < requests → RelaysFrom g k requests ps a a [] LinkFault
  relays-none k requests ps a some =
      record {
        back = back-none a.back;
        relayed = All-nil (IsRelayed g);
        follow = refl;
        later = same-le (g.dial a.dial).faults;
        counted = none-counted (g.dial a.dial).faults;
        backed = λ tells worth. All-nil (IsBacked g);
        says = (some, Appends-nil a.written);
      }

  -- none is asked for
  relays-all : (k requests : ℕ) (ps : Pairs) (a : RelayStanding V C) → requests ≡ 0 → RelaysFrom g k requests ps a a [] Complete
  relays-all k requests ps a none =
      record {
        back = back-none a.back;
        relayed = All-nil (IsRelayed g);
        follow = refl;
        later = same-le (g.dial a.dial).faults;
        counted = none-counted (g.dial a.dial).faults;
        backed = λ tells worth. All-nil (IsBacked g);
        says = (sym none, Appends-nil a.written);
      }

  -- what comes of the links from here on is what comes of all
  abbrev pub All-from : ℕ → Pairs → RelayStanding V C → ℕ → Pairs → RelayStanding V C → Type 0
  All-from requests first start n ps a = (b : RelayStanding V C) (relays : List (RelayedLink V W C)) (status : Status) → status ≢ Memory → RelaysFrom g (n + 1) (requests - n) ps a b relays status
      → (all : List (RelayedLink V W C)) × RelaysFrom g 1 requests first start b all status

  one-less : (requests n : ℕ) → n < requests → requests - (n + 1) + 1 ≡ requests - n
  one-less requests n within = omega (arith, within)

  pub all-start : (requests : ℕ) (ps : Pairs) (start : RelayStanding V C) → All-from requests ps start 0 ps start
  all-start requests ps start = λ b relays status had rest. (relays, subst (λ r. RelaysFrom g 1 r ps start b relays status) (omega arith) rest)

  all-step : (requests n : ℕ) (first : Pairs) (start : RelayStanding V C) (r : RelayedLink V W C) (back back1 : Option (List V)) (written written1 : Option (List ℕ)) → n < requests
      → All-from requests first start n r.pairs (standing back r.dial written) → back1 ≡ option_map (λ links. links ++ r.back ∷ []) back → IsRelayed g r → Keeps r.dial r.dial_then r.pairs r.pairs_then
      → Appends written written1 (relay_line (n + 1) r.relayed) → All-from requests first start (n + 1) r.pairs_then (standing back1 r.dial_then written1)
  all-step requests n first start r back back1 written written1 within so_far came is keeps puts = λ b relays status had rest.
      so_far b (r ∷ relays) status had (subst (λ m. RelaysFrom g (n + 1) m r.pairs (standing back r.dial written) b (r ∷ relays) status) (one-less requests n within)
      (relays-more (n + 1) (requests - (n + 1)) r back back1 written written1 b relays status had came is keeps puts rest))

  all-part : (requests n : ℕ) (first : Pairs) (start : RelayStanding V C) (r : RelayedLink V W C) (back back1 : Option (List V)) (written written1 : Option (List ℕ)) → n < requests
      → All-from requests first start n r.pairs (standing back r.dial written) → back1 ≡ option_map (λ links. links ++ r.back ∷ []) back → IsRelayed g r → AppendsFront written written1 (relay_line (n + 1) r.relayed)
      → (all : List (RelayedLink V W C)) × RelaysFrom g 1 requests first start (standing back1 r.dial_then written1) all WriteFault
  all-part requests n first start r back back1 written written1 within so_far came is puts =
      so_far (standing back1 r.dial_then written1) (r ∷ []) WriteFault (λ e. cc e) (subst (λ m. RelaysFrom g (n + 1) m r.pairs (standing back r.dial written) (standing back1 r.dial_then written1) (r ∷ []) WriteFault) (one-less requests n within)
      (relays-part (n + 1) (requests - (n + 1)) r back back1 written written1 came is puts))

  pub loop-step : (requests n : ℕ) (first : Pairs) (start : RelayStanding V C) (back back1 : Option (List V)) (d d1 : C) (ps ps1 : Pairs) (written written1 : Option (List ℕ)) (relayed : Relayed) → n < requests
      → All-from requests first start n ps (standing back d written) → Came back back1 d d1 ps ps1 relayed → Keeps d d1 ps ps1 → Appends written written1 (relay_line (n + 1) relayed)
      → All-from requests first start (n + 1) ps1 (standing back1 d1 written1)
  loop-step requests n first start back back1 d d1 ps ps1 written written1 relayed within so_far (r, told, from, to, found, left, in_back, is) keeps puts =
      subst (λ e. All-from requests first start (n + 1) ps1 (standing back1 e written1)) to
      (subst (λ qs. All-from requests first start (n + 1) qs (standing back1 r.dial_then written1)) left
      (all-step requests n first start r back back1 written written1 within
      (subst (λ x. All-from requests first start n r.pairs (standing back x written)) (sym from) (subst (λ qs. All-from requests first start n qs (standing back d written)) (sym found) so_far))
      in_back is
      (subst (λ x. Keeps x r.dial_then r.pairs r.pairs_then) (sym from) (subst (λ x. Keeps d x r.pairs r.pairs_then) (sym to) (subst (λ qs. Keeps d d1 qs r.pairs_then) (sym found) (subst (λ qs. Keeps d d1 ps qs) (sym left) keeps))))
      (subst (λ x. Appends written written1 (relay_line (n + 1) x)) (sym told) puts)))

  pub loop-part : (requests n : ℕ) (first : Pairs) (start : RelayStanding V C) (back back1 : Option (List V)) (d d1 : C) (ps ps1 : Pairs) (written written1 : Option (List ℕ)) (relayed : Relayed) → n < requests
      → All-from requests first start n ps (standing back d written) → Came back back1 d d1 ps ps1 relayed → AppendsFront written written1 (relay_line (n + 1) relayed)
      → (all : List (RelayedLink V W C)) × RelaysFrom g 1 requests first start (standing back1 d1 written1) all WriteFault
  loop-part requests n first start back back1 d d1 ps ps1 written written1 relayed within so_far (r, told, from, to, found, left, in_back, is) puts =
      subst (λ e. (all : List (RelayedLink V W C)) × RelaysFrom g 1 requests first start (standing back1 e written1) all WriteFault) to
      (all-part requests n first start r back back1 written written1 within
      (subst (λ x. All-from requests first start n r.pairs (standing back x written)) (sym from) (subst (λ qs. All-from requests first start n qs (standing back d written)) (sym found) so_far))
      in_back is (subst (λ x. AppendsFront written written1 (relay_line (n + 1) x)) (sym told) puts))

  -- none came
  pub loop-none : (requests n : ℕ) (first : Pairs) (start : RelayStanding V C) (back back1 : Option (List V)) (d d1 : C) (ps : Pairs) (written : Option (List ℕ)) → n < requests
      → All-from requests first start n ps (standing back d written) → back1 ≡ back → d1 ≡ d → (all : List (RelayedLink V W C)) × RelaysFrom g 1 requests first start (standing back1 d1 written) all LinkFault
  loop-none requests n first start back back1 d d1 ps written within so_far p q =
      subst (λ x. (all : List (RelayedLink V W C)) × RelaysFrom g 1 requests first start (standing x d1 written) all LinkFault) (sym p)
      (subst (λ x. (all : List (RelayedLink V W C)) × RelaysFrom g 1 requests first start (standing back x written) all LinkFault) (sym q)
      (so_far (standing back d written) [] LinkFault (λ e. cc e) (relays-none (n + 1) (requests - n) ps (standing back d written) (omega (arith, within)))))

  -- all came
  pub loop-all : (requests n : ℕ) (first : Pairs) (start : RelayStanding V C) (ps : Pairs) (a : RelayStanding V C) → requests ≤ n → All-from requests first start n ps a
      → (all : List (RelayedLink V W C)) × RelaysFrom g 1 requests first start a all Complete
  loop-all requests n first start ps a over so_far = so_far a [] Complete (λ e. cc e) (relays-all (n + 1) (requests - n) ps a (omega (arith, over)))

  -- ---- The same without the cache.

  -- the history of a dial, of which that was the history before
  record Grew (d : C) (es : List Exchange) : Type 0 where
    pub before : List Exchange
    pub told : history_of g d ≡ Some before
    pub among : (x : Exchange) → Contains before x → Contains es x

  some-list : (a b : List Exchange) → Some a ≡ Some b → a ≡ b
  some-list a b is = cc is

  grew-one : (asked : Option W) (d e : C) (es : List Exchange) → (g.dial e).back ≡ option_map (λ links. links ++ came_back g asked) (g.dial d).back → history_of g e ≡ Some es → Grew d es
  grew-one None d e es back is = record { before = es; told = ap (history g.dial_link) (back-none (g.dial d).back ∙ sym back) ∙ is; among = λ x inside. inside }
  grew-one (Some link) d e es back is = go (history_of g d) (exchange_of g.dial_link ((g.host, g.port), link)) refl (sym (history-more g.dial_link (g.dial d).back ((g.host, g.port), link)) ∙ ap (history g.dial_link) (sym back) ∙ is) where
    go : (h : Option (List Exchange)) (y : Option Exchange) → history_of g d ≡ h → option_and_then (λ xs. option_map (λ x. xs ++ x ∷ []) y) h ≡ Some es → Grew d es
    go None y told whole = cc whole
    go (Some xs) None told whole = cc whole
    go (Some xs) (Some x) told whole = record { before = xs; told = told; among = λ z inside. subst (λ l. Contains l z) (some-list (xs ++ x ∷ []) es whole) (Contains-append_left xs (x ∷ []) z inside) }

  grew : (d : C) (ps : Pairs) (relays : List (RelayedLink V W C)) (last : C) (es : List Exchange) → Follow g d ps relays last → All (IsRelayed g) relays → history_of g last ≡ Some es → Grew d es
  grew d ps [] last es same all is = record { before = es; told = ap (history_of g) (sym same) ∙ is; among = λ x inside. inside }
  grew d ps (r ∷ relays) last es (from, found, follow) all is =
      let rest = grew r.dial_then r.pairs_then relays last es follow (All-tail (IsRelayed g) r relays all) is in
      let one = All-head (IsRelayed g) r relays all in
      let first = grew-one r.asked r.dial r.dial_then rest.before one.asked rest.told in
      record { before = first.before; told = ap (history_of g) (sym from) ∙ first.told; among = λ x inside. rest.among x (first.among x inside) }

  alike-turn : (es : List Exchange) (ps : Pairs) (taken : List ℕ) (d : C) (t : Turn) → IsSteady es → Grew d es → Worth d ps → IsTurn g.host g.port ps taken t → IsAsWithout g es taken t
  alike-turn es ps taken d (early head_alone given) steady old worth is = record { without = early head_alone given; is_turn = is; told = refl; answers = refl; status = refl }
  alike-turn es ps taken d (no_memory head_alone) steady old worth is = record { without = no_memory head_alone; is_turn = is; told = refl; answers = refl; status = refl }
  alike-turn es ps taken d (miss w outcome) steady old worth (wants, none, had) = record { without = miss w outcome; is_turn = (wants, refl, had); told = refl; answers = refl; status = refl }
  alike-turn es ps taken d (hit w body) steady old worth (wants, found) =
      let quiet_before : IsSteady old.before = λ e f in_e in_f same. steady e f (old.among e in_e) (old.among f in_f) same in
      let backed = subst (λ h. AreBacked g.host g.port h ps) old.told worth in
      let ((e0, in_e0, own), brought) = hit-is-replied g.host g.port old.before ps taken w body quiet_before backed wants found in
      let tells = hit-is-told g.host g.port old.before ps taken w body quiet_before backed wants found in
      record {
        without = miss w (outcomes.Good body);
        is_turn = (wants, refl, λ e. cc e);
        told = (
          refl,
          (e0, old.among e0 in_e0, own),
          λ e inside written. subst (λ reply. IsGoodReply (form_of w.kind) reply body) (steady e0 e (old.among e0 in_e0) inside (own ∙ sym written)) (brought e0 in_e0 own),
          λ e outcome inside written exact. tells e0 outcome in_e0 own (subst (λ reply. IsExact (form_of w.kind) most_body reply outcome) (steady e e0 inside (old.among e0 in_e0) (written ∙ sym own)) exact),
        );
        answers = refl;
        status = refl;
      }

  alike-one : (es : List Exchange) (r : RelayedLink V W C) (t : Option Turn) → IsSteady es → Grew r.dial es → IsBacked g r → CameTo g r t → IfSome t (IsAsWithout g es r.taken)
  alike-one es r None steady old worth came = tt
  alike-one es r (Some t) steady old worth (comes, same) = alike-turn es r.pairs r.taken r.dial t steady old worth (subst (λ u. IsTurn g.host g.port r.pairs r.taken u) same comes.is_turn)

  alike-all : (es : List Exchange) (d : C) (ps : Pairs) (relays : List (RelayedLink V W C)) (last : C) → IsSteady es → Follow g d ps relays last → All (IsRelayed g) relays → All (IsBacked g) relays → history_of g last ≡ Some es
      → All (IsAnsweredAlike g es) relays
  alike-all es d ps [] last steady follow all worth is = All-nil (IsAnsweredAlike g es)
  alike-all es d ps (r ∷ relays) last steady (from, found, follow) all worth is =
      let old = grew r.dial r.pairs (r ∷ relays) last es (refl, refl, follow) all is in
      let one = All-head (IsRelayed g) r relays all in
      All-cons (IsAnsweredAlike g es) r relays (alike-one es r r.turn steady old (All-head (IsBacked g) r relays worth) one.came_to)
      (alike-all es r.dial_then r.pairs_then relays last steady follow (All-tail (IsRelayed g) r relays all) (All-tail (IsBacked g) r relays worth) is)

  no-pairs : (h : Option (List Exchange)) → AreBacked g.host g.port h []
  no-pairs None = tt
  no-pairs (Some es) = All-nil (backing.IsBacked g.host g.port es)

  pub relays-whole : (requests : ℕ) (ps : Pairs) (a b : RelayStanding V C) (relays : List (RelayedLink V W C)) (status : Status) → ps ≡ [] → RelaysFrom g 1 requests ps a b relays status → Relays g requests a b relays status
  relays-whole requests ps a b relays status none from =
      let all = subst (λ qs. RelaysFrom g 1 requests qs a b relays status) none from in
      let worth = λ (tells : TellsWritten g). all.backed tells (no-pairs (history_of g a.dial)) in
      record { all = all; backed = worth; alike = λ tells es is steady. alike-all es a.dial [] relays b.dial steady all.follow all.relayed (worth tells) is }

  -- the door did not listen
  pub none-came : (requests : ℕ) (back back1 : Option (List V)) (d : C) (written : Option (List ℕ)) → 0 < requests → back1 ≡ back → Relays g requests (standing back d written) (standing back1 d written) [] LinkFault
  none-came requests back back1 d written some p =
      subst (λ x. Relays g requests (standing back d written) (standing x d written) [] LinkFault) (sym p) (relays-whole requests [] (standing back d written) (standing back d written) [] LinkFault refl (relays-none 1 requests [] (standing back d written) some))

  -- memory was wanted before
  pub none-had : (requests : ℕ) (a : RelayStanding V C) → Relays g requests a a [] Memory
  none-had requests a =
      relays-whole requests [] a a [] Memory refl
      (record {
        back = back-none a.back;
        relayed = All-nil (IsRelayed g);
        follow = refl;
        later = same-le (g.dial a.dial).faults;
        counted = none-counted (g.dial a.dial).faults;
        backed = λ tells worth. All-nil (IsBacked g);
        says = (refl, Appends-nil a.written);
      })

-- of caches with equal room
pub came-for : {V W C : Type 0} (door_link : V → LinkState) (dial_link : W → LinkState) (dial : C → DialState W) (host : List ℕ) (port room other : ℕ) → room ≡ other
    → (back back1 : Option (List V)) (d e : C) (ps qs : Pairs) (relayed : Relayed) → Came (record { door_link = door_link; dial_link = dial_link; dial = dial; host = host; port = port; room = room }) back back1 d e ps qs relayed
    → Came (record { door_link = door_link; dial_link = dial_link; dial = dial; host = host; port = port; room = other }) back back1 d e ps qs relayed
came-for door_link dial_link dial host port room other same back back1 d e ps qs relayed came =
    subst (λ n. Came (record { door_link = door_link; dial_link = dial_link; dial = dial; host = host; port = port; room = n }) back back1 d e ps qs relayed) same came

-- over the empty cache with that room, once the door listens
pub whole-for : {V W C : Type 0} (door_link : V → LinkState) (dial_link : W → LinkState) (dial : C → DialState W) (host : List ℕ) (port room other requests : ℕ) (ps : Pairs) (back back0 : Option (List V)) (d : C) (written : Option (List ℕ)) (b : RelayStanding V C)
    (status : Status) (heard listens : Option ℕ) (p : ℕ) → room ≡ other → ps ≡ [] → back ≡ back0 → listens ≡ heard → heard ≡ Some p
    → (relays : List (RelayedLink V W C))
    × RelaysFrom (record { door_link = door_link; dial_link = dial_link; dial = dial; host = host; port = port; room = room }) 1 requests ps (record { back = back; dial = d; written = written }) b relays status
    → (relays : List (RelayedLink V W C))
    × Relays (record { door_link = door_link; dial_link = dial_link; dial = dial; host = host; port = port; room = other }) requests (record { back = back0; dial = d; written = written }) b relays status × (relays ≢ [] → listens ≡ Some p)
whole-for door_link dial_link dial host port room other requests ps back back0 d written b status heard listens p same none stays kept is (relays, from) = (
  relays,
  subst (λ x. Relays (record { door_link = door_link; dial_link = dial_link; dial = dial; host = host; port = port; room = other }) requests (record { back = x; dial = d; written = written }) b relays status) stays
      (relays-whole (record { door_link = door_link; dial_link = dial_link; dial = dial; host = host; port = port; room = other }) requests ps (record { back = back; dial = d; written = written }) b relays status none
      (subst (λ n. RelaysFrom (record { door_link = door_link; dial_link = dial_link; dial = dial; host = host; port = port; room = n }) 1 requests ps (record { back = back; dial = d; written = written }) b relays status) same from)),
  λ some. kept ∙ is,
)
