-- The headline, of a run of a command.
use Rattle.std.proofs.Common.{◌≡◌, ◌≢◌, ℕ, ◌<◌, ◌⊎◌, All, IsTrue, List, length, inl, inr, Some, Result, Err, refl, sym, ◌∙◌, subst}
use Rattle.std.specs.Io.KnownBytes.{Appends}
use Rattle.std.specs.List.{list_all}
use Rattle.std.proofs.lemmas.List.Elements.{All-weaker}
use Rattle.viable.specs.Prefix.{is_byte}
use Rattle.dap_types.specs.Limits.{body_limit}
use Rattle.dap_http.specs.Targets.{target_of}
use Rattle.dap_http.specs.declared.kind.Kind.TheVariants.{Dods}
use Rattle.both_ends.proofs.Standing.{all_are_good}
use Rattle.both_ends.specs.Ends.{HoldBytes, IsGoodResult}
use Rattle.dap_errors.specs.declared.cause.Cause.{Cause}
use Rattle.dap_errors.specs.declared.cause.Cause.TheVariants as causes
use Rattle.constraint_parse.specs.declared.constraint.Constraint.{Constraint}
use Rattle.dap_outside.specs.Causes.{Rose}
use Rattle.dap_outside.specs.Files.{Told}
use Rattle.dap_outside.specs.Links.{LinkState}
use Rattle.dap_outside.specs.Streams.{AppendsFront}
use Rattle.dap_server.specs.Files.{Files, Stored}
use Rattle.dap_server.specs.Results.{Opens, Text, error_object}
use Rattle.dap_commands.proofs.BothEnds.{answered-is-good}
use Rattle.dap_commands.proofs.Headlines.{headline}
use Rattle.dap_commands.proofs.ShownWhole.{shown-alone, shown-whole}
use Rattle.dap_commands.proofs.Visited.{visits-are-good}
use Rattle.dap_commands.specs.Answer.{AnswerSays, MustResult, status_of_result, status_of_cause}
use Rattle.dap_commands.specs.ClientHalf.{IsResponse, Response, Showing, Shows, text_of}
use Rattle.dap_commands.specs.Headline.{Headline}
use Rattle.dap_commands.specs.Laws.{IsGoodVisit, IsWholeGoodVisit}
use Rattle.dap_commands.specs.Serve.{IsVisit, IsWholeVisit, Serves, Standing, Visit}
use Rattle.dap_commands.specs.ServerHalf.{Answering, Asks, IsAccepted, IsFirstCause, IsRefused, IsServed, IsSound, Says, SaysLine, served_body}
use Rattle.dap_commands.specs.declared.status.Status.{Status}
use Rattle.dap_commands.specs.declared.status.Status.TheVariants.{Complete, Refused, Damaged, Memory}

-- what `run` says of `answer`, over a shelf that tells these files
pub run-says : (told : Told) (files : Files) (target : List ℕ) (a : Answering) (status : Status) → told ≡ Some files
    → AnswerSays told target (Appends a.puts.out a.puts.out_then) (AppendsFront a.puts.out a.puts.out_then) (SaysLine a.puts) status
    → ((r : Result Text Cause) → MustResult told target r → ¬ (Rose a.shelf_faults a.shelf_faults_then) → ¬ (Rose a.puts.out_faults a.puts.out_faults_then) → status ≢ Memory → status ≡ status_of_result r)
    → Says target files a status
run-says told files target a status is says comes = record {
  says = subst (λ (t : Told). AnswerSays t target (Appends a.puts.out a.puts.out_then) (AppendsFront a.puts.out a.puts.out_then) (SaysLine a.puts) status) is says;
  comes = λ r must still quiet had. comes r (subst (λ (t : Told). MustResult t target r) (sym is) must) still quiet had;
}

-- no link is spoken of
abbrev NoLink : Type 0
NoLink = ⊥

whole : Headline NoLink NoLink
whole = headline

pub run-accepted : (target query : List ℕ) (files : Files) (s : Stored) (c : Constraint) (a : Answering) (status : Status) → Says target files a status → Asks target query files s → IsAccepted query s c → IsSound a status
    → (status ≡ Complete) × Appends a.puts.out a.puts.out_then (served_body s c)
run-accepted target query files s c a status says asks accepted sound =
    let served : IsServed target files (served_body s c) = whole.accepted target query files s c asks accepted in
    let complete = served.complete a status says sound in
    (complete, served.put a (subst (λ (x : Status). Says target files a x) complete says))

refused-so : (why : Cause) → (status_of_cause why ≡ Refused) ⊎ (status_of_cause why ≡ Damaged)
refused-so (causes.Damaged why) = inr refl
refused-so (causes.Syntax place) = inl refl
refused-so (causes.UnknownName spot) = inl refl
refused-so (causes.NotArray spot) = inl refl
refused-so (causes.SlabCount spot) = inl refl
refused-so (causes.BadSlab spot) = inl refl
refused-so (causes.TwoSlabs spot) = inl refl
refused-so (causes.TooMany spot) = inl refl
refused-so (causes.NotColumn spot) = inl refl
refused-so (causes.TypeMismatch spot) = inl refl
refused-so (causes.FloatCompared spot) = inl refl
refused-so (causes.Unsupported spot) = inl refl
refused-so (causes.BigNumber spot) = inl refl
refused-so (causes.TooLarge leaf) = inl refl
refused-so causes.BadTarget = inl refl
refused-so causes.NoFile = inl refl
refused-so causes.BadMethod = inl refl
refused-so causes.BadRequest = inl refl
refused-so causes.HeadTooLong = inl refl
refused-so causes.ReadFailed = inl refl
refused-so causes.OutOfMemory = inl refl
refused-so (causes.UpstreamBad place) = inl refl
refused-so causes.UpstreamFault = inl refl
refused-so causes.UpstreamLarge = inl refl

either-status : (status other : Status) → status ≡ other → (other ≡ Refused) ⊎ (other ≡ Damaged) → (status ≡ Refused) ⊎ (status ≡ Damaged)
either-status status other is (inl refused) = inl (is ∙ refused)
either-status status other is (inr damaged) = inr (is ∙ damaged)

refused-by : (target : List ℕ) (files : Files) (why : Cause) (a : Answering) (status : Status) → IsRefused target files why → Says target files a status → IsSound a status
    → (status ≡ status_of_cause why) × Appends a.puts.out a.puts.out_then (error_object why)
refused-by target files why a status answered says sound =
    answered.put a status (either-status status (status_of_cause why) (answered.refused a status says sound) (refused-so why)) says

pub run-refused : (target query : List ℕ) (files : Files) (s : Stored) (why : Cause) (a : Answering) (status : Status) → Says target files a status → Asks target query files s → IsFirstCause query s why → IsSound a status
    → (status ≡ status_of_cause why) × Appends a.puts.out a.puts.out_then (error_object why)
run-refused target query files s why a status says asks first sound = refused-by target files why a status (whole.refused target query files s why asks first) says sound

pub run-damaged : (target name query : List ℕ) (files : Files) (why : Cause) (a : Answering) (status : Status) → Says target files a status
    → target_of target ≡ Some (record { name = name; kind = Dods; query = query }) → IsTrue (list_all is_byte query) → Opens files name (Err why) → IsSound a status
    → (status ≡ status_of_cause why) × Appends a.puts.out a.puts.out_then (error_object why)
run-damaged target name query files why a status says is bytes opens sound = refused-by target files why a status (whole.damaged target name query files why is bytes opens) says sound

pub run-good : (target name query : List ℕ) (files : Files) (a : Answering) (status : Status) → HoldBytes files → Says target files a status
    → target_of target ≡ Some (record { name = name; kind = Dods; query = query }) → status ≡ Complete
    → (text : List ℕ) × Appends a.puts.out a.puts.out_then text × (length text < body_limit → IsGoodResult target files text)
run-good target name query files a status hold says is complete = answered-is-good target name query files a is hold (subst (λ (s : Status). Says target files a s) complete says)

-- ---- the links of `serve`

module _ {W : Type 0} (files : Files) (state : W → LinkState) (hold : HoldBytes files) where
  pub good-visits : (visits : List (Visit W)) → All (IsVisit (Some files) state) visits → All (IsGoodVisit files state) visits
  good-visits visits are = All-weaker (IsVisit (Some files) state) (IsGoodVisit files state) (λ v is. visits-are-good files state v hold is) visits are

  whole-visit : (v : Visit W) → IsWholeVisit (Some files) state v → IsWholeGoodVisit files state v
  whole-visit v is = λ input left takes puts had.
      let (gained, appends, all) = is files input refl left takes puts had in
      (gained, appends, (all, all_are_good input files gained v.served hold all))

  pub whole-visits : (visits : List (Visit W)) → All (IsWholeVisit (Some files) state) visits → All (IsWholeGoodVisit files state) visits
  whole-visits visits are = All-weaker (IsWholeVisit (Some files) state) (IsWholeGoodVisit files state) whole-visit visits are

  -- what `run` says of `serve`, over a shelf that tells these files
  pub run-visits : (told : Told) (requests : ℕ) (a b : Standing W) (visits : List (Visit W)) (status : Status) → told ≡ Some files → Serves told state requests a b visits status
      → Serves (Some files) state requests a b visits status × All (IsGoodVisit files state) visits × (¬ (Rose a.faults b.faults) → All (IsWholeGoodVisit files state) visits)
  run-visits told requests a b visits status is serves =
      let these : Serves (Some files) state requests a b visits status = subst (λ (t : Told). Serves t state requests a b visits status) is serves in
      (these, good-visits visits these.served, λ quiet. whole-visits visits (these.answered quiet))

pub run-shown : (s : Showing) (status : Status) (r : Response) → Shows s status → s.left ≡ Some r.bytes → IsResponse r → ¬ (Rose s.take_faults s.take_faults_then) → ¬ (Rose s.puts.out_faults s.puts.out_faults_then) → status ≢ Memory
    → (status ≡ Complete) × Appends s.puts.out s.puts.out_then (text_of r)
run-shown s status r says left is takes puts had =
    let all = shown-whole s status r says left is in
    let complete = all.complete takes puts had in
    (complete, (all.put complete).0)

pub run-shown-alone : (s : Showing) (status : Status) (bytes : List ℕ) → Shows s status → s.left ≡ Some bytes → status ≡ Complete
    → (r : Response) × (r.bytes ≡ bytes) × IsResponse r × Appends s.puts.out s.puts.out_then (text_of r)
run-shown-alone s status bytes says left complete =
    let (r, same, is) = shown-alone s bytes (subst (λ (x : Status). Shows s x) complete says) left in
    let all = shown-whole s status r says (left ∙ sym (some-same bytes r.bytes same)) is in
    (r, same, is, (all.put complete).0)
  where
    some-same : (xs ys : List ℕ) → ys ≡ xs → Some ys ≡ Some xs
    some-same xs ys e = cc e
