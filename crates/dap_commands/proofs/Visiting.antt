-- Links that are served one after the other.
use Rattle.std.proofs.Common.{◌≡◌, ℕ, suc, ◌+◌, ◌-◌, ◌<◌, ◌≤◌, List, [], ◌∷◌, ◌++◌, length, map, All, Option, Some, None, option_map, refl, sym, ap, ◌∙◌, subst, arith, append_assoc, append-nil, codes}
use Rattle.std.proofs.KnownBytes.{Appends-trans, Appends-nil}
use Rattle.std.proofs.lemmas.List.Elements.{All-cons, All-head, All-nil, All-tail}
use Rattle.std.proofs.lemmas.List.Sums.{sum_by-cons}
use Rattle.std.specs.Fmt.{decimal}
use Rattle.std.specs.Io.KnownBytes.{Appends}
use Rattle.dap_client.proofs.Told.{rose_later, rose_on}
use Rattle.dap_outside.proofs.Fronts.{front_more, front_of}
use Rattle.dap_outside.specs.Causes.{Rose}
use Rattle.dap_outside.specs.Files.{Told}
use Rattle.dap_outside.specs.Links.{LinkState}
use Rattle.dap_outside.specs.Streams.{AppendsFront}
use Rattle.dap_server.specs.Connections.{FailedBy, RoseBy, failures, leaves_open}
use Rattle.dap_server.specs.declared.served.Served.{Served}
use Rattle.dap_commands.specs.Serve.{IsCalm, IsVisit, IsWholeVisit, ServeSays, ServesFrom, Standing, Visit, ending_name, failures_in, lines_from, link_line, most_asked}
use Rattle.dap_commands.specs.declared.status.Status.{Status}
use Rattle.dap_commands.specs.declared.status.Status.TheVariants.{Complete, Words, Unsaved, Refused, Damaged, BadReply, ReadFault, WriteFault, LinkFault, Memory, ServerError}

abbrev pub standing : {W : Type 0} → Option (List W) → ℕ → ℕ → Option (List ℕ) → Standing W
standing back faults asked written = record { back = back; faults = faults; asked = asked; written = written }

pub back-none : {W : Type 0} (o : Option (List W)) → o ≡ option_map (λ links. links ++ []) o
back-none None = refl
back-none (Some links) = ap (λ l. Some l) (sym (append-nil links))

pub back-more : {W : Type 0} (o : Option (List W)) (v : W) (vs : List W) → option_map (λ links. links ++ vs) (option_map (λ links. links ++ v ∷ []) o) ≡ option_map (λ links. links ++ v ∷ vs) o
back-more None v vs = refl
back-more (Some links) v vs = ap (λ l. Some l) (append_assoc links (v ∷ []) vs)

-- a link was served, and a line was put, before others
module _ {W : Type 0} (told : Told) (state : W → LinkState) where
  says-more : (k requests came : ℕ) (line lines : List ℕ) (a m b : Option (List ℕ)) (status : Status) → Appends a m line
      → ServeSays requests came lines (Appends m b) (AppendsFront m b) status → ServeSays (requests + 1) (suc came) (line ++ lines) (Appends a b) (AppendsFront a b) status
  says-more k requests came line lines a m b Complete puts (is, out) = (omega (arith, is), Appends-trans a m b line lines puts out)
  says-more k requests came line lines a m b WriteFault puts (some, few, front) = (λ e. some (omega (arith, e)), omega (arith, few), front_more a m b line lines puts front)
  says-more k requests came line lines a m b LinkFault puts (few, out) = (omega (arith, few), Appends-trans a m b line lines puts out)
  says-more k requests came line lines a m b Words puts says = absurd says
  says-more k requests came line lines a m b Unsaved puts says = absurd says
  says-more k requests came line lines a m b Refused puts says = absurd says
  says-more k requests came line lines a m b Damaged puts says = absurd says
  says-more k requests came line lines a m b BadReply puts says = absurd says
  says-more k requests came line lines a m b ReadFault puts says = absurd says
  says-more k requests came line lines a m b Memory puts says = absurd says
  says-more k requests came line lines a m b ServerError puts says = absurd says

  failures-more : (v : Visit W) (visits : List (Visit W)) (a m b : ℕ) → a ≤ m → m ≤ b → RoseBy (failures v.connection v.served.ending) a m → RoseBy (failures_in visits) m b
      → RoseBy (failures_in (v ∷ visits)) a b
  failures-more v visits a m b first later one others =
      let sum : failures_in (v ∷ visits) ≡ failures v.connection v.served.ending + failures_in visits = sum_by-cons (λ v. failures v.connection v.served.ending) v visits in
      rw sum (omega (arith, first, later, one, others))

  calm-first : (v : Visit W) (visits : List (Visit W)) (a m : ℕ) → FailedBy (failures v.connection v.served.ending) (leaves_open v.connection.turns v.served.ending v.connection.behind) a m → All IsCalm (v ∷ visits) → m ≡ a
  calm-first v visits a m rose all = let (none, shut) = All-head IsCalm v visits all in rose.1 none shut

  asked-more : (v : Visit W) (visits : List (Visit W)) (a m b : ℕ) → m ≤ a + v.most → b ≤ m + most_asked visits → b ≤ a + most_asked (v ∷ visits)
  asked-more v visits a m b first others =
      let sum : most_asked (v ∷ visits) ≡ v.most + most_asked visits = sum_by-cons (λ v. v.most) v visits in
      rw sum (omega (arith, first, others))

  pub serves-more : (k requests : ℕ) (a m b : Standing W) (v : Visit W) (visits : List (Visit W)) (status : Status) → m.back ≡ option_map (λ links. links ++ v.back ∷ []) a.back
      → IsVisit told state v → a.faults ≤ m.faults → FailedBy (failures v.connection v.served.ending) (leaves_open v.connection.turns v.served.ending v.connection.behind) a.faults m.faults → m.asked ≤ a.asked + v.most
      → (¬ (Rose a.faults m.faults) → IsWholeVisit told state v) → Appends a.written m.written (link_line k v.served)
      → ServesFrom told state (k + 1) requests m b visits status → ServesFrom told state k (requests + 1) a b (v ∷ visits) status
  serves-more k requests a m b v visits status came is first rose asks whole puts rest =
      record {
        back = rest.back ∙ ap (option_map (λ links. links ++ map (λ w. w.back) visits)) came ∙ back-more a.back v.back (map (λ w. w.back) visits);
        later = omega (arith, first, rest.later);
        served = All-cons (IsVisit told state) v visits is rest.served;
        failed = failures-more v visits a.faults m.faults b.faults first rest.later rose.0 rest.failed;
        calm = λ all. rest.calm (All-tail IsCalm v visits all) ∙ calm-first v visits a.faults m.faults rose all;
        asked = asked-more v visits a.asked m.asked b.asked asks rest.asked;
        answered = λ quiet. All-cons (IsWholeVisit told state) v visits (whole (λ up. quiet (rose_on a.faults m.faults b.faults rest.later up)))
            (rest.answered (λ up. quiet (rose_later a.faults m.faults b.faults first up)));
        says = says-more k requests (length visits) (link_line k v.served) (lines_from (k + 1) visits) a.written m.written b.written status puts rest.says;
      }

  -- a link was served, and its line was put in part
  pub serves-part : (k requests : ℕ) (a b : Standing W) (v : Visit W) → b.back ≡ option_map (λ links. links ++ v.back ∷ []) a.back
      → IsVisit told state v → a.faults ≤ b.faults → FailedBy (failures v.connection v.served.ending) (leaves_open v.connection.turns v.served.ending v.connection.behind) a.faults b.faults → b.asked ≤ a.asked + v.most
      → (¬ (Rose a.faults b.faults) → IsWholeVisit told state v) → AppendsFront a.written b.written (link_line k v.served)
      → ServesFrom told state k (requests + 1) a b (v ∷ []) WriteFault
  serves-part k requests a b v came is first rose asks whole puts =
      record {
        back = came;
        later = first;
        served = All-cons (IsVisit told state) v [] is (All-nil (IsVisit told state));
        failed = failures-more v [] a.faults b.faults b.faults first (omega arith) rose.0 (omega arith);
        calm = λ all. calm-first v [] a.faults b.faults rose all;
        asked = asked-more v [] a.asked b.asked b.asked asks (omega arith);
        answered = λ quiet. All-cons (IsWholeVisit told state) v [] (whole quiet) (All-nil (IsWholeVisit told state));
        says = (λ e. cc e, omega arith, front_of a.written b.written (link_line k v.served) [] puts);
      }

  -- no link came
  pub serves-none : (k requests : ℕ) (a : Standing W) → 0 < requests → ServesFrom told state k requests a a [] LinkFault
  serves-none k requests a some =
      record {
        back = back-none a.back;
        later = omega arith;
        served = All-nil (IsVisit told state);
        failed = omega arith;
        calm = λ all. refl;
        asked = omega arith;
        answered = λ quiet. All-nil (IsWholeVisit told state);
        says = (some, Appends-nil a.written);
      }

  -- none is asked for
  pub serves-all : (k requests : ℕ) (a : Standing W) → requests ≡ 0 → ServesFrom told state k requests a a [] Complete
  serves-all k requests a none =
      record {
        back = back-none a.back;
        later = omega arith;
        served = All-nil (IsVisit told state);
        failed = omega arith;
        calm = λ all. refl;
        asked = omega arith;
        answered = λ quiet. All-nil (IsWholeVisit told state);
        says = (sym none, Appends-nil a.written);
      }

  -- what comes of the links from here on is what comes of all
  abbrev pub All-from : ℕ → Standing W → ℕ → Standing W → Type 0
  All-from requests start n a = (b : Standing W) (visits : List (Visit W)) (status : Status) → ServesFrom told state (n + 1) (requests - n) a b visits status
      → (all : List (Visit W)) × ServesFrom told state 1 requests start b all status

  pub all-start : (requests : ℕ) (start : Standing W) → All-from requests start 0 start
  all-start requests start = λ b visits status rest. (visits, subst (λ r. ServesFrom told state 1 r start b visits status) (omega arith) rest)

  pub all-step : (requests n : ℕ) (start a m : Standing W) (v : Visit W) → n < requests → All-from requests start n a → m.back ≡ option_map (λ links. links ++ v.back ∷ []) a.back
      → IsVisit told state v → a.faults ≤ m.faults → FailedBy (failures v.connection v.served.ending) (leaves_open v.connection.turns v.served.ending v.connection.behind) a.faults m.faults → m.asked ≤ a.asked + v.most
      → (¬ (Rose a.faults m.faults) → IsWholeVisit told state v) → Appends a.written m.written (link_line (n + 1) v.served) → All-from requests start (n + 1) m
  all-step requests n start a m v within so_far came is first rose asks whole puts = λ b visits status rest.
      so_far b (v ∷ visits) status (subst (λ r. ServesFrom told state (n + 1) r a b (v ∷ visits) status) (one-less requests n within)
      (serves-more (n + 1) (requests - (n + 1)) a m b v visits status came is first rose asks whole puts rest))
    where
      one-less : (requests n : ℕ) → n < requests → requests - (n + 1) + 1 ≡ requests - n
      one-less requests n within = omega (arith, within)

  pub all-part : (requests n : ℕ) (start a b : Standing W) (v : Visit W) → n < requests → All-from requests start n a → b.back ≡ option_map (λ links. links ++ v.back ∷ []) a.back
      → IsVisit told state v → a.faults ≤ b.faults → FailedBy (failures v.connection v.served.ending) (leaves_open v.connection.turns v.served.ending v.connection.behind) a.faults b.faults → b.asked ≤ a.asked + v.most
      → (¬ (Rose a.faults b.faults) → IsWholeVisit told state v) → AppendsFront a.written b.written (link_line (n + 1) v.served)
      → (all : List (Visit W)) × ServesFrom told state 1 requests start b all WriteFault
  all-part requests n start a b v within so_far came is first rose asks whole puts =
      so_far b (v ∷ []) WriteFault (subst (λ r. ServesFrom told state (n + 1) r a b (v ∷ []) WriteFault) (one-less requests n within)
      (serves-part (n + 1) (requests - (n + 1)) a b v came is first rose asks whole puts))
    where
      one-less : (requests n : ℕ) → n < requests → requests - (n + 1) + 1 ≡ requests - n
      one-less requests n within = omega (arith, within)

  -- the next link was served
  abbrev pub Came : Told → Option (List W) → Option (List W) → ℕ → ℕ → ℕ → ℕ → Served → Type 0
  Came t back back1 faults faults1 asked asked1 served =
      (v : Visit W) × (v.served ≡ served) × (back1 ≡ option_map (λ links. links ++ v.back ∷ []) back) × IsVisit t state v
      × FailedBy (failures v.connection v.served.ending) (leaves_open v.connection.turns v.served.ending v.connection.behind) faults faults1 × (asked1 ≤ asked + v.most) × (¬ (Rose faults faults1) → IsWholeVisit t state v)

  pub loop-step : (requests n : ℕ) (start : Standing W) (t : Told) (back back1 : Option (List W)) (faults faults1 asked asked1 : ℕ) (written written1 : Option (List ℕ)) (served : Served) → t ≡ told → n < requests
      → All-from requests start n (standing back faults asked written) → Came t back back1 faults faults1 asked asked1 served → faults ≤ faults1 → Appends written written1 (link_line (n + 1) served)
      → All-from requests start (n + 1) (standing back1 faults1 asked1 written1)
  loop-step requests n start t back back1 faults faults1 asked asked1 written written1 served same within so_far came later puts =
      let (v, is_v, came_back, is, rose, asks, whole) = subst (λ u. Came u back back1 faults faults1 asked asked1 served) same came in
      all-step requests n start (standing back faults asked written) (standing back1 faults1 asked1 written1) v within so_far came_back is later rose asks whole
      (subst (λ r. Appends written written1 (link_line (n + 1) r)) (sym is_v) puts)

  pub loop-part : (requests n : ℕ) (start : Standing W) (t : Told) (back back1 : Option (List W)) (faults faults1 asked asked1 : ℕ) (written written1 : Option (List ℕ)) (served : Served) → t ≡ told → n < requests
      → All-from requests start n (standing back faults asked written) → Came t back back1 faults faults1 asked asked1 served → faults ≤ faults1 → AppendsFront written written1 (link_line (n + 1) served)
      → (all : List (Visit W)) × ServesFrom told state 1 requests start (standing back1 faults1 asked1 written1) all WriteFault
  loop-part requests n start t back back1 faults faults1 asked asked1 written written1 served same within so_far came later puts =
      let (v, is_v, came_back, is, rose, asks, whole) = subst (λ u. Came u back back1 faults faults1 asked asked1 served) same came in
      all-part requests n start (standing back faults asked written) (standing back1 faults1 asked1 written1) v within so_far came_back is later rose asks whole
      (subst (λ r. AppendsFront written written1 (link_line (n + 1) r)) (sym is_v) puts)

  -- none came
  pub loop-none : (requests n : ℕ) (start : Standing W) (back back1 : Option (List W)) (faults faults1 asked asked1 : ℕ) (written : Option (List ℕ)) → n < requests
      → All-from requests start n (standing back faults asked written) → back1 ≡ back → faults1 ≡ faults → asked1 ≡ asked
      → (all : List (Visit W)) × ServesFrom told state 1 requests start (standing back1 faults1 asked1 written) all LinkFault
  loop-none requests n start back back1 faults faults1 asked asked1 written within so_far p q r =
      subst (λ b. (all : List (Visit W)) × ServesFrom told state 1 requests start (standing b faults1 asked1 written) all LinkFault) (sym p)
      (subst (λ f. (all : List (Visit W)) × ServesFrom told state 1 requests start (standing back f asked1 written) all LinkFault) (sym q)
      (subst (λ n. (all : List (Visit W)) × ServesFrom told state 1 requests start (standing back faults n written) all LinkFault) (sym r)
      (so_far (standing back faults asked written) [] LinkFault (serves-none (n + 1) (requests - n) (standing back faults asked written) (omega (arith, within))))))

  -- all came
  pub loop-all : (requests n : ℕ) (start a : Standing W) → requests ≤ n → All-from requests start n a
      → (all : List (Visit W)) × ServesFrom told state 1 requests start a all Complete
  loop-all requests n start a over so_far = so_far a [] Complete (serves-all (n + 1) (requests - n) a (omega (arith, over)))

  -- the door did not listen
  pub none-came : (requests : ℕ) (back back1 : Option (List W)) (faults asked : ℕ) (written : Option (List ℕ)) → 0 < requests → back1 ≡ back
      → ServesFrom told state 1 requests (standing back faults asked written) (standing back1 faults asked written) [] LinkFault
  none-came requests back back1 faults asked written some p =
      subst (λ b. ServesFrom told state 1 requests (standing back faults asked written) (standing b faults asked written) [] LinkFault) (sym p) (serves-none 1 requests (standing back faults asked written) some)

-- the line of a link in its pieces
pub line-is : (k : ℕ) (served : Served) (number replies ending : List ℕ) → number ≡ decimal k → replies ≡ decimal served.replies → ending ≡ ending_name served.ending
    → codes "connection " ++ (number ++ (codes " " ++ (replies ++ (codes " " ++ (ending ++ (codes "\n" ++ [])))))) ≡ link_line k served
line-is k served number replies ending p q r =
    ap (λ n. codes "connection " ++ (n ++ (codes " " ++ (replies ++ (codes " " ++ (ending ++ codes "\n")))))) p
    ∙ ap (λ n. codes "connection " ++ (decimal k ++ (codes " " ++ (n ++ (codes " " ++ (ending ++ codes "\n")))))) q
    ∙ ap (λ n. codes "connection " ++ (decimal k ++ (codes " " ++ (decimal served.replies ++ (codes " " ++ (n ++ codes "\n")))))) r
