-- The headline, from the clauses that it gathers.
use Rattle.std.proofs.Common.{◌≡◌, ◌⊎◌, ℕ, Bool, true, false, List, [], ◌++◌, inl, inr, Option, Some, None, Result, Ok, Err, refl, sym, ap, subst, ◌∙◌, option_map}
use Rattle.std.specs.Prelude.{codes, IsTrue, MatchBool, if◌then◌else◌}
use Rattle.std.specs.Io.KnownBytes.{Appends}
use Rattle.std.specs.List.{list_all}
use Rattle.dap_outside.specs.Streams.{AppendsFront}
use Rattle.std.proofs.lemmas.List.Sums.{AllPass-from_list_all}
use Rattle.soak.proofs.Answering.{answers}
use Rattle.viable.specs.Prefix.{is_byte}
use Rattle.httparse.specs.Grammar.{RequestHead, is_value_byte}
use Rattle.dap_errors.specs.declared.cause.Cause.{Cause}
use Rattle.dap_errors.specs.declared.cause.Cause.TheVariants as causes
use Rattle.dap_http.specs.Carried.{Carries}
use Rattle.dap_http.specs.Frames.{framed}
use Rattle.dap_http.specs.Requests.{is_other}
use Rattle.dap_http.specs.Targets.{Asked, target_of}
use Rattle.dap_http.specs.Texts.{IsReplyStatus, description_of, head_text, is_chunked}
use Rattle.dap_http.specs.declared.kind.Kind.TheVariants.{Dods}
use Rattle.dap_http.proofs.Carrying.{carries-data, carries-text}
use Rattle.dap_server.specs.Files.{Files, Stored}
use Rattle.dap_server.specs.Replies.{IsRequestAnswered, Request, error_head, is_last, reply_of, request}
use Rattle.dap_server.specs.Results.{DodsAnswers, Left, Results, ResultsAmong, Text, error_object, left_of, result_text}
use Rattle.dap_server.specs.Steps.{found_or, unless}
use Rattle.dap_server.proofs.Accepted.{accepted_is_served}
use Rattle.dap_server.proofs.OneAnswer.{one_result}
use Rattle.dap_model.specs.Body.{body, too_large}
use Rattle.constraint_parse.proofs.Answer.{spelled_or_at_fault}
use Rattle.constraint_parse.specs.Values.{Spells}
use Rattle.constraint_parse.specs.declared.constraint.Constraint.{Constraint}
use Rattle.grid_projection.specs.Resolved.{cause}
use Rattle.dap_errors.specs.Causes.{http_status}
use Rattle.dap_commands.proofs.Connected.{answers-get}
use Rattle.dap_commands.proofs.Shortness.{object-short}
use Rattle.dap_commands.proofs.Visited.{visits-are-good}
use Rattle.dap_commands.specs.Causes.{IsCause}
use Rattle.dap_commands.specs.Answer.{AnswerSays, MayResult, status_of_cause}
use Rattle.dap_commands.proofs.FetchedWhole.{fetched-alone, fetched-whole}
use Rattle.dap_commands.proofs.ReadBack.{read-back, too-long}
use Rattle.dap_commands.proofs.ShownWhole.{shown-alone, shown-whole}
use Rattle.dap_commands.specs.Headline.{Headline}
use Rattle.dap_commands.specs.ServerHalf.{Asks, HasResult, IsAccepted, IsFirstCause, IsRefused, IsServed, SaysLine, served_body}
use Rattle.dap_commands.specs.declared.status.Status.{Status}
use Rattle.dap_commands.specs.declared.status.Status.TheVariants as status
use Rattle.both_ends.proofs.Standing.{is-get, no-head}

-- ---- one result of a target

one : (files : Files) (target name query : List ℕ) (r other : Result Text Cause) → target_of target ≡ Some (record { name = name; kind = Dods; query = query }) → IsTrue (list_all is_byte query)
    → Results target files r → Results target files other → other ≡ r
one files target name query r other is bytes has given =
    let a : Asked = record { name = name; kind = Dods; query = query } in
    one_result files a other r bytes (answers files target a other is given) (answers files target a r is has)

getting : (files : Files) (k : ℕ) (head : RequestHead) (target : List ℕ) (answer : Result Text Cause) → head.method ≡ codes "GET" → head.target ≡ target → IsRequestAnswered files (request k head) answer → Results target files answer
getting files k head target answer is_get is_target answered =
    subst (λ t. Results t files answer) is_target (by (is_other head.method) (is-get (request k head) is_get) answered)
  where
    by : (b : Bool) → b ≡ false → MatchBool b (answer ≡ Err causes.BadMethod) (Results head.target files answer) → Results head.target files answer
    by true e m = absurd cc
    by false e m = m

has-result : (files : Files) (target name query : List ℕ) (r : Result Text Cause) → target_of target ≡ Some (record { name = name; kind = Dods; query = query }) → IsTrue (list_all is_byte query)
    → Results target files r → HasResult target files r
has-result files target name query r is bytes has = record {
  must = λ others same. subst (λ (fs : Files). ResultsAmong (Some files) target fs r) (sym same) has;
  only = λ other given. one files target name query r other is bytes has given;
  get = λ k head answer is_get is_target answered. one files target name query r answer is bytes has (getting files k head target answer is_get is_target answered);
}

-- ---- what is put

pub told : (files : Files) (target : List ℕ) (r : Result Text Cause) → MayResult (Some files) target r → Results target files r
told files target r (others, same, given) = subst (λ (fs : Files). ResultsAmong (Some files) target fs r) same given

put-body : (files : Files) (target bytes : List ℕ) → HasResult target files (Ok (result_text Dods bytes)) → (Out Front Line : List ℕ → Type 0) → AnswerSays (Some files) target Out Front Line status.Complete → Out bytes
put-body files target bytes has Out Front Line (t, may, out) =
    let same : t ≡ result_text Dods bytes = ok_is t (result_text Dods bytes) (has.only (Ok t) (told files target (Ok t) may)) in
    subst (λ (x : Text). Out x.text) same out
  where
    ok_is : (v w : Text) → Path (Result Text Cause) (Ok v) (Ok w) → v ≡ w
    ok_is v w e = cc

never-whole : (files : Files) (target : List ℕ) (why : Cause) → HasResult target files (Err why) → (Out Front Line : List ℕ → Type 0) → AnswerSays (Some files) target Out Front Line status.Complete → ⊥
never-whole files target why has Out Front Line (t, may, out) = no t (has.only (Ok t) (told files target (Ok t) may))
  where
    no : (t : Text) → Path (Result Text Cause) (Ok t) (Err why) → ⊥
    no t e = cc

err-is : (v w : Cause) → Path (Result Text Cause) (Err v) (Err w) → v ≡ w
err-is v w e = cc

put-cause : (files : Files) (target : List ℕ) (why : Cause) → HasResult target files (Err why) → (Out Front Line : List ℕ → Type 0) (s : Status) → (s ≡ status.Refused) ⊎ (s ≡ status.Damaged)
    → AnswerSays (Some files) target Out Front Line s → (s ≡ status_of_cause why) × Out (error_object why)
put-cause files target why has Out Front Line s (inl e) says = refused (subst (AnswerSays (Some files) target Out Front Line) e says)
  where
    refused : AnswerSays (Some files) target Out Front Line status.Refused → (s ≡ status_of_cause why) × Out (error_object why)
    refused (k, may, is, out, line) =
        let same : k ≡ why = err-is k why (has.only (Err k) (told files target (Err k) may)) in
        (e ∙ sym is ∙ ap status_of_cause same, subst (λ c. Out (error_object c)) same out)
put-cause files target why has Out Front Line s (inr e) says = damaged (subst (AnswerSays (Some files) target Out Front Line) e says)
  where
    damaged : AnswerSays (Some files) target Out Front Line status.Damaged → (s ≡ status_of_cause why) × Out (error_object why)
    damaged (k, may, out, line) =
        let same : causes.Damaged k ≡ why = err-is (causes.Damaged k) why (has.only (Err (causes.Damaged k)) (told files target (Err (causes.Damaged k)) may)) in
        (e ∙ ap status_of_cause same, subst (λ c. Out (error_object c)) same out)

-- ---- what is carried

carried : (bytes : List ℕ) (k : ℕ) (head : RequestHead) → head.method ≡ codes "GET" → Carries (reply_of (request k head) (Ok (result_text Dods bytes))) bytes
carried bytes k head is_get =
    let q : Request = request k head in
    let in_chunks = is_chunked Dods q.minor in
    let last = is_last q (Ok (result_text Dods bytes)) in
    let all = AllPass-from_list_all is_value_byte (description_of Dods) refl in
    subst (λ b. Carries (head_text 200 (description_of Dods) None in_chunks last ++ (if b then [] else framed in_chunks bytes)) bytes) (sym (no-head q is_get))
    (carries-data 200 (description_of Dods) bytes in_chunks last (inl refl) all)

status-sent : (why : Cause) → IsReplyStatus (http_status why)
status-sent (causes.Syntax place) = inr (inl refl)
status-sent (causes.UnknownName spot) = inr (inl refl)
status-sent (causes.NotArray spot) = inr (inl refl)
status-sent (causes.SlabCount spot) = inr (inl refl)
status-sent (causes.BadSlab spot) = inr (inl refl)
status-sent (causes.TwoSlabs spot) = inr (inl refl)
status-sent (causes.TooMany spot) = inr (inl refl)
status-sent (causes.NotColumn spot) = inr (inl refl)
status-sent (causes.TypeMismatch spot) = inr (inl refl)
status-sent (causes.FloatCompared spot) = inr (inl refl)
status-sent (causes.Unsupported spot) = inr (inl refl)
status-sent (causes.BigNumber spot) = inr (inl refl)
status-sent (causes.TooLarge leaf) = inr (inl refl)
status-sent causes.BadTarget = inr (inl refl)
status-sent causes.NoFile = inr (inr (inl refl))
status-sent causes.BadMethod = inr (inr (inr (inl refl)))
status-sent causes.BadRequest = inr (inl refl)
status-sent causes.HeadTooLong = inr (inr (inr (inr (inl refl))))
status-sent (causes.Damaged why) = inr (inr (inr (inr (inr (inl refl)))))
status-sent causes.ReadFailed = inr (inr (inr (inr (inr (inl refl)))))
status-sent causes.OutOfMemory = inr (inr (inr (inr (inr (inr (inr refl))))))
status-sent (causes.UpstreamBad place) = inr (inr (inr (inr (inr (inr (inl refl))))))
status-sent causes.UpstreamFault = inr (inr (inr (inr (inr (inr (inl refl))))))
status-sent causes.UpstreamLarge = inr (inr (inr (inr (inr (inr (inl refl))))))

object-carried : (why : Cause) (k : ℕ) (head : RequestHead) → head.method ≡ codes "GET" → IsCause why → Carries (reply_of (request k head) (Err why)) (error_object why)
object-carried why k head is_get cause_is =
    let q : Request = request k head in
    let last = is_last q (Err why) in
    let all = AllPass-from_list_all is_value_byte (codes "dods_error") refl in
    subst (λ b. Carries (error_head last why ++ (if b then [] else error_object why)) (error_object why)) (sym (no-head q is_get))
    (carries-text (http_status why) (codes "dods_error") (error_object why) false last (status-sent why) all (object-short why cause_is))

-- ---- each query is judged

sized : (query : List ℕ) (s : Stored) (c : Constraint) (o : Option ℕ) → Spells query c → cause s.dataset c ≡ None → too_large (left_of s c).dataset ≡ o
    → ((c : Constraint) × IsAccepted query s c) ⊎ ((why : Cause) × IsFirstCause query s why)
sized query s c None spells none small = inl (c, (spells, none, small))
sized query s c (Some leaf) spells none large = inr (causes.TooLarge leaf, inr (c, spells, inr (leaf, none, large, refl)))

resolved : (query : List ℕ) (s : Stored) (c : Constraint) (o : Option Cause) → Spells query c → cause s.dataset c ≡ o
    → ((c : Constraint) × IsAccepted query s c) ⊎ ((why : Cause) × IsFirstCause query s why)
resolved query s c None spells none = sized query s c (too_large (left_of s c).dataset) spells none refl
resolved query s c (Some why) spells is = inr (why, inr (c, spells, inl is))

judged-query : (query : List ℕ) (s : Stored) → ((c : Constraint) × IsAccepted query s c) ⊎ ((why : Cause) × IsFirstCause query s why)
judged-query query s = elim (spelled_or_at_fault query) [
  | inl (c, spells) ↦ resolved query s c (cause s.dataset c) spells refl
  | inr (place, fault) ↦ inr (causes.Syntax place, inl (place, fault, refl))
]

-- ---- the whole

refuses : (files : Files) (target name query : List ℕ) (why : Cause) → target_of target ≡ Some (record { name = name; kind = Dods; query = query }) → IsTrue (list_all is_byte query)
    → Results target files (Err why) → IsRefused target files why
refuses files target name query why is bytes has =
    let all = has-result files target name query (Err why) is bytes has in
    record {
      has = all;
      refused = λ a status w sound. w.comes (Err why) all.must sound.0 sound.1 sound.2;
      never = λ a w. never-whole files target why all (Appends a.puts.out a.puts.out_then) (AppendsFront a.puts.out a.puts.out_then) (SaysLine a.puts) w.says;
      put = λ a status either w. put-cause files target why all (Appends a.puts.out a.puts.out_then) (AppendsFront a.puts.out a.puts.out_then) (SaysLine a.puts) status either w.says;
      carried = object-carried why;
      answered = answers-get target files (Err why) all;
    }

serves : (files : Files) (target name query bytes : List ℕ) → target_of target ≡ Some (record { name = name; kind = Dods; query = query }) → IsTrue (list_all is_byte query)
    → Results target files (Ok (result_text Dods bytes)) → IsServed target files bytes
serves files target name query bytes is all_bytes has =
    let all = has-result files target name query (Ok (result_text Dods bytes)) is all_bytes has in
    record {
      has = all;
      complete = λ a status w sound. w.comes (Ok (result_text Dods bytes)) all.must sound.0 sound.1 sound.2;
      put = λ a w. put-body files target bytes all (Appends a.puts.out a.puts.out_then) (AppendsFront a.puts.out a.puts.out_then) (SaysLine a.puts) w.says;
      carried = carried bytes;
      answered = answers-get target files (Ok (result_text Dods bytes)) all;
    }

first-cause : (target query : List ℕ) (files : Files) (s : Stored) (why : Cause) → Asks target query files s → IsFirstCause query s why → Results target files (Err why)
first-cause target query files s why a first =
    inl (record { name = a.name; kind = Dods; query = query }, sym (ap (λ o. found_or o causes.BadTarget) a.is_target), inl (s, a.is_stored, by first))
  where
    by : IsFirstCause query s why → DodsAnswers s query (Err why)
    by (inl (place, fault, is)) = inr (why, inr (why, (place, fault, is), refl), refl)
    by (inr (c, spells, inl is)) = inr (why, inl (c, spells, sym (ap (λ o. unless o (left_of s c)) is)), refl)
    by (inr (c, spells, inr (leaf, none, large, is))) =
        let left : Left = left_of s c in
        inl (
          left,
          inl (c, spells, sym (ap (λ o. unless o left) none)),
          ap Err is ∙ sym (ap (λ o. unless (option_map (λ k. causes.TooLarge k) o) (result_text Dods (body left.dataset left.trees))) large),
        )

pub headline : {V W : Type 0} → Headline V W
headline {V} {W} = record {
  judged = λ target query files s a. judged-query query s;
  accepted = λ target query files s c a (spells, none, small).
      serves files target a.name query (served_body s c) a.is_target a.is_bytes (accepted_is_served target a.name query files s c a.is_target a.is_stored spells none small);
  refused = λ target query files s why a first. refuses files target a.name query why a.is_target a.is_bytes (first-cause target query files s why a first);
  damaged = λ target name query files why is bytes opens.
      refuses files target name query why is bytes (inl (record { name = name; kind = Dods; query = query }, sym (ap (λ o. found_or o causes.BadTarget) is), inr (why, opens, refl)));
  read_back = read-back;
  too_long = too-long;
  visits = visits-are-good;
  shown = shown-whole;
  shown_alone = shown-alone;
  fetched = fetched-whole;
  fetched_alone = fetched-alone;
}
