-- From what `prepare` and the parts of an answer say to what the command says.
use Rattle.std.proofs.Common.{◌≡◌, ◌≢◌, ℕ, ◌+◌, ◌≤◌, true, List, [], Option, Some, None, Result, Ok, Err, IsSome, IsTrue, refl, sym, ap, ◌∙◌, inl, inr, subst, arith}
use Rattle.std.specs.Prelude.{is_some, get_or}
use Rattle.dap_errors.specs.Causes.{message_text}
use Rattle.dap_errors.specs.declared.cause.Cause.{Cause}
use Rattle.dap_errors.specs.declared.cause.Cause.TheVariants as causes
use Rattle.dap_errors.specs.declared.file_cause.FileCause.{FileCause}
use Rattle.dap_http.specs.Targets.{Asked, target_of}
use Rattle.dap_http.specs.declared.kind.Kind.TheVariants.{Dods}
use Rattle.dap_outside.specs.Files.{Told}
use Rattle.dap_server.proofs.Lying.{some_files}
use Rattle.dap_server.specs.Connections.{is_read_late}
use Rattle.dap_server.specs.Costs.{IsCost, IsCostAt, most_first}
use Rattle.dap_server.specs.Files.{Form, IsOneFile, form_of, is_read_first, joined, netcdf, saved, table}
use Rattle.dap_server.specs.Prepared.{IsOver, MayGive, MustGive}
use Rattle.dap_server.specs.Results.{AnswersAmong, Text, error_object, result_text}
use Rattle.dap_server.specs.Steps.{found_or}
use Rattle.dap_commands.specs.Answer.{AnswerSays, HasNoText, MayAskAs, MayAskFor, MayHaveAsked, MayResult, MustResult, WhereKnown, looks_up, most_before, status_of_cause}
use Rattle.dap_commands.specs.inner.Puts.{BodyPut, IsPut, RefusalPut, TextPut, start_of}
use Rattle.dap_commands.specs.Lines.{cause_line, damaged_line, line_of, refused_line}
use Rattle.dap_commands.specs.Words.{AreAnswer}
use Rattle.xdr_encode.specs.Streamed.{Stops}
use Rattle.dap_commands.specs.declared.status.Status.{Status}
use Rattle.dap_commands.specs.declared.status.Status.TheVariants.{Complete, Words, Unsaved, Refused, Damaged, BadReply, ReadFault, WriteFault, LinkFault, Memory, ServerError}

pub may_result : (told : Told) (target : List ℕ) (a : Asked) (r : Result Text Cause) → target_of target ≡ Some a → MayGive told a r → MayResult told target r
may_result told target a r is (files, may, answers) = (files, may, inl (a, sym (ap (λ o. found_or o causes.BadTarget) is), answers))

same_asked : (o : Option Asked) (a b : Asked) → o ≡ Some a → Ok b ≡ found_or o causes.BadTarget → b ≡ a
same_asked None a b is found = cc is
same_asked (Some c) a b is found = cc (is, found)

no_cause : (o : Option Asked) (a : Asked) (k : Cause) → o ≡ Some a → Err k ≡ found_or o causes.BadTarget → ⊥
no_cause None a k is found = cc is
no_cause (Some c) a k is found = cc found

pub must_give : (told : Told) (target : List ℕ) (a : Asked) (r : Result Text Cause) → target_of target ≡ Some a → MustResult told target r → MustGive told a r
must_give told target a r is must = λ files may. elim (must files may) [
  | inl (b, found, answers) ↦ subst (λ (x : Asked). AnswersAmong told x.kind files x.name x.query r) (same_asked (target_of target) a b is found) answers
  | inr (k, found, is_r) ↦ absurd (no_cause (target_of target) a k is found)
]

-- a target that asks for nothing
bad_found : (o : Option Asked) → o ≡ None → Err causes.BadTarget ≡ found_or o causes.BadTarget
bad_found None is = refl
bad_found (Some c) is = cc is

only_bad : (o : Option Asked) (k : Cause) → o ≡ None → Err k ≡ found_or o causes.BadTarget → k ≡ causes.BadTarget
only_bad None k is found = cc found
only_bad (Some c) k is found = cc is

nothing_found : (o : Option Asked) (b : Asked) → o ≡ None → Ok b ≡ found_or o causes.BadTarget → ⊥
nothing_found None b is found = cc found
nothing_found (Some c) b is found = cc is

pub bad_result : (told : Told) (target : List ℕ) → target_of target ≡ None → MayResult told target (Err causes.BadTarget)
bad_result told target is = let (files, may) = some_files told in (files, may, inr (causes.BadTarget, bad_found (target_of target) is, refl))

pub must_be_bad : (told : Told) (target : List ℕ) (r : Result Text Cause) → target_of target ≡ None → MustResult told target r → r ≡ Err causes.BadTarget
must_be_bad told target r is must =
    let (files, may) = some_files told in
    elim (must files may) [
      | inl (b, found, answers) ↦ absurd (nothing_found (target_of target) b is found)
      | inr (k, found, is_r) ↦ is_r ∙ ap Err (only_bad (target_of target) k is found)
    ]

where_known : (told : Told) (target : List ℕ) (r : Result Text Cause) (P : Type 0) → P → WhereKnown told target r P
where_known (Some files) target r P is = is
where_known None target (Err cause) P is = is
where_known None target (Ok t) P is = λ late. is

-- a cause with that status
damaged_is : (cause : Cause) → status_of_cause cause ≡ Damaged → (why : FileCause) × (cause ≡ causes.Damaged why)
damaged_is (causes.Damaged why) is = (why, refl)
damaged_is (causes.Syntax place) is = cc is
damaged_is (causes.UnknownName spot) is = cc is
damaged_is (causes.NotArray spot) is = cc is
damaged_is (causes.SlabCount spot) is = cc is
damaged_is (causes.BadSlab spot) is = cc is
damaged_is (causes.TwoSlabs spot) is = cc is
damaged_is (causes.TooMany spot) is = cc is
damaged_is (causes.NotColumn spot) is = cc is
damaged_is (causes.TypeMismatch spot) is = cc is
damaged_is (causes.FloatCompared spot) is = cc is
damaged_is (causes.Unsupported spot) is = cc is
damaged_is (causes.BigNumber spot) is = cc is
damaged_is (causes.TooLarge leaf) is = cc is
damaged_is causes.BadTarget is = cc is
damaged_is causes.NoFile is = cc is
damaged_is causes.BadMethod is = cc is
damaged_is causes.BadRequest is = cc is
damaged_is causes.HeadTooLong is = cc is
damaged_is causes.ReadFailed is = cc is
damaged_is causes.OutOfMemory is = cc is
damaged_is (causes.UpstreamBad place) is = cc is
damaged_is causes.UpstreamFault is = cc is
damaged_is causes.UpstreamLarge is = cc is

module _ (told : Told) (target : List ℕ) (Out Front Line : List ℕ → Type 0) where
  pub text_says : (t : Text) → MayResult told target (Ok t) → (status : Status) → TextPut t.text Out Front status → AnswerSays told target Out Front Line status
  text_says t may Complete put = (t, may, where_known told target (Ok t) (Out t.text) put)
  text_says t may WriteFault put = (Ok t, may, where_known told target (Ok t) (Front t.text) put)
  text_says t may Words put = absurd put
  text_says t may Unsaved put = absurd put
  text_says t may Refused put = absurd put
  text_says t may Damaged put = absurd put
  text_says t may BadReply put = absurd put
  text_says t may ReadFault put = absurd put
  text_says t may Memory put = absurd put
  text_says t may ServerError put = absurd put
  text_says t may LinkFault put = absurd put

  refusal_says : (cause : Cause) (status : Status) → MayResult told target (Err cause) → RefusalPut cause Out Front Line status → AnswerSays told target Out Front Line status
  refusal_says cause Refused may (is, out, line) = (cause, may, is, out, subst (λ s. Line (cause_line (start_of s) (message_text cause))) is line)
  refusal_says cause Damaged may (is, out, line) =
      let (why, whole) = damaged_is cause is in
      let said : Line (damaged_line (message_text cause)) = subst (λ s. Line (cause_line (start_of s) (message_text cause))) is line in
      (why, subst (λ k. MayResult told target (Err k)) whole may, subst (λ k. Out (error_object k)) whole out, subst (λ k. Line (damaged_line (message_text k))) whole said)
  refusal_says cause WriteFault may front = (Err cause, may, where_known told target (Err cause) (Front (error_object cause)) front)
  refusal_says cause Memory may out = out
  refusal_says cause Complete may put = absurd put
  refusal_says cause Words may put = absurd put
  refusal_says cause Unsaved may put = absurd put
  refusal_says cause BadReply may put = absurd put
  refusal_says cause ReadFault may put = absurd put
  refusal_says cause ServerError may put = absurd put
  refusal_says cause LinkFault may put = absurd put

  -- data of which the text is known, and data of which it is not
  known_says : (text : List ℕ) (status : Status) → IsTrue (looks_up target) → MayResult told target (Ok (result_text Dods text)) → BodyPut text Out Front status → AnswerSays told target Out Front Line status
  known_says text Complete looks may put = (result_text Dods text, may, where_known told target _ (Out text) put)
  known_says text ReadFault looks may put = (looks, inr (text, may, where_known told target _ (Front text) put))
  known_says text WriteFault looks may put = (Ok (result_text Dods text), may, where_known told target _ (Front text) put)
  known_says text Words looks may put = absurd put
  known_says text Unsaved looks may put = absurd put
  known_says text Refused looks may put = absurd put
  known_says text Damaged looks may put = absurd put
  known_says text BadReply looks may put = absurd put
  known_says text Memory looks may put = absurd put
  known_says text ServerError looks may put = absurd put
  known_says text LinkFault looks may put = absurd put

  hidden_says : (text : List ℕ) (status : Status) → IsTrue (looks_up target) → MayResult told target (Ok (result_text Dods text))
      → ((P : Type 0) → WhereKnown told target (Ok (result_text Dods text)) P) → IsPut status → AnswerSays told target Out Front Line status
  hidden_says text Complete looks may hidden put = (result_text Dods text, may, hidden (Out text))
  hidden_says text ReadFault looks may hidden put = (looks, inr (text, may, hidden (Front text)))
  hidden_says text WriteFault looks may hidden put = (Ok (result_text Dods text), may, hidden (Front text))
  hidden_says text Words looks may hidden put = absurd put
  hidden_says text Unsaved looks may hidden put = absurd put
  hidden_says text Refused looks may hidden put = absurd put
  hidden_says text Damaged looks may hidden put = absurd put
  hidden_says text BadReply looks may hidden put = absurd put
  hidden_says text Memory looks may hidden put = absurd put
  hidden_says text ServerError looks may hidden put = absurd put
  hidden_says text LinkFault looks may hidden put = absurd put

pub refuse_says : (told : Told) (target : List ℕ) (Out Front Line : List ℕ → Type 0) (cause : Cause) (status : Status) → MayResult told target (Err cause)
    → RefusalPut cause Out Front Line status → AnswerSays told target Out Front Line status
refuse_says = refusal_says

-- nothing is said of data that is read from a netCDF file which is not told
late : (target : List ℕ) (a : Asked) → target_of target ≡ Some a → form_of a.name ≡ Some netcdf → is_read_late target ≡ true
late target a is is_netcdf = rw (is, is_netcdf) refl

late_join : (target : List ℕ) (a : Asked) → target_of target ≡ Some a → form_of a.name ≡ Some joined → is_read_late target ≡ true
late_join target a is is_joined = rw (is, is_joined) refl

-- a netCDF file or a table has a form
pub has_form : (o : Option Form) → IsOneFile o → IsTrue (is_some o)
has_form o (inl is) = ap is_some is
has_form o (inr is) = ap is_some is

looks : (target : List ℕ) (a : Asked) → target_of target ≡ Some a → a.kind ≡ Dods → IsTrue (is_some (form_of a.name)) → IsTrue (looks_up target)
looks target a is is_dods has = rw (is, is_dods) has

hidden_none : (target text : List ℕ) → is_read_late target ≡ true → (P : Type 0) → WhereKnown None target (Ok (result_text Dods text)) P
hidden_none target text is_late P = λ early. cc (is_late, early)

abbrev Body : Type 0
Body = List ℕ → List ℕ

pub body_says : (told : Told) (target : List ℕ) (Out Front Line : List ℕ → Type 0) (a : Asked) (content : Option (List ℕ)) (text_over : Body) (status : Status)
    → target_of target ≡ Some a → a.kind ≡ Dods → IsTrue (is_some (form_of a.name))
    → ((bytes : List ℕ) → IsOver a.name content bytes → MayGive told a (Ok (result_text Dods (text_over bytes))))
    → (text : List ℕ) × MayGive told a (Ok (result_text Dods text))
    → (IsSome told → IsSome content)
    → ((bytes : List ℕ) → content ≡ Some bytes → BodyPut (text_over bytes) Out Front status)
    → (IsTrue (is_read_first (form_of a.name)) → (bytes : List ℕ) → BodyPut (text_over bytes) Out Front status)
    → IsPut status → AnswerSays told target Out Front Line status
body_says (Some files) target Out Front Line a (Some bytes) text_over status is is_dods has over accepted tells put alone is_put =
    known_says (Some files) target Out Front Line (text_over bytes) status (looks target a is is_dods has) (may_result (Some files) target a _ is (over bytes (inl refl))) (put bytes refl)
body_says (Some files) target Out Front Line a None text_over status is is_dods has over accepted tells put alone is_put = cc (tells refl)
body_says None target Out Front Line a content text_over status is is_dods has over accepted tells put alone is_put = by_form (form_of a.name) refl
  where
    by_form : (form : Option Form) → form_of a.name ≡ form → AnswerSays None target Out Front Line status
    by_form None e = cc (subst (λ o. IsTrue (is_some o)) e has)
    by_form (Some table) e =
        let first : IsTrue (is_read_first (form_of a.name)) = ap is_read_first e in
        known_says None target Out Front Line (text_over []) status (looks target a is is_dods has) (may_result None target a _ is (over [] (inr first))) (alone first [])
    by_form (Some saved) e =
        let first : IsTrue (is_read_first (form_of a.name)) = ap is_read_first e in
        known_says None target Out Front Line (text_over []) status (looks target a is is_dods has) (may_result None target a _ is (over [] (inr first))) (alone first [])
    by_form (Some joined) e =
        hidden_says None target Out Front Line accepted.0 status (looks target a is is_dods has) (may_result None target a _ is accepted.1)
        (hidden_none target accepted.0 (late_join target a is e)) is_put
    by_form (Some netcdf) e =
        hidden_says None target Out Front Line accepted.0 status (looks target a is is_dods has) (may_result None target a _ is accepted.1)
        (hidden_none target accepted.0 (late target a is e)) is_put

-- the body of joined files
pub joined_says : (told : Told) (target : List ℕ) (Out Front Line : List ℕ → Type 0) (a : Asked) (AreThese : List (List ℕ) → Type 0) (text_over : List (List ℕ) → List ℕ) (status : Status)
    → target_of target ≡ Some a → (a.kind ≡ Dods) × (form_of a.name ≡ Some joined)
    → ((contents : List (List ℕ)) → AreThese contents → MayGive told a (Ok (result_text Dods (text_over contents))))
    → (text : List ℕ) × MayGive told a (Ok (result_text Dods text))
    → (IsSome told → (contents : List (List ℕ)) × AreThese contents)
    → ((contents : List (List ℕ)) → AreThese contents → BodyPut (text_over contents) Out Front status)
    → IsPut status → AnswerSays told target Out Front Line status
joined_says None target Out Front Line a AreThese text_over status is (is_dods, form) over accepted tells put is_put =
    hidden_says None target Out Front Line accepted.0 status (looks target a is is_dods (ap is_some form)) (may_result None target a _ is accepted.1)
    (hidden_none target accepted.0 (late_join target a is form)) is_put
joined_says (Some files) target Out Front Line a AreThese text_over status is (is_dods, form) over accepted tells put is_put =
    let (contents, these) = tells refl in
    known_says (Some files) target Out Front Line (text_over contents) status (looks target a is is_dods (ap is_some form)) (may_result (Some files) target a _ is (over contents these)) (put contents these)

-- where no count rose
pub text_only : (text : List ℕ) (Out Front : List ℕ → Type 0) (Rises : Type 0) (status : Status) → TextPut text Out Front status → (status ≡ WriteFault → Rises) → ¬ Rises → status ≡ Complete
text_only text Out Front Rises Complete put rises quiet = refl
text_only text Out Front Rises WriteFault put rises quiet = absurd (quiet (rises refl))
text_only text Out Front Rises Words put rises quiet = absurd put
text_only text Out Front Rises Unsaved put rises quiet = absurd put
text_only text Out Front Rises Refused put rises quiet = absurd put
text_only text Out Front Rises Damaged put rises quiet = absurd put
text_only text Out Front Rises BadReply put rises quiet = absurd put
text_only text Out Front Rises ReadFault put rises quiet = absurd put
text_only text Out Front Rises Memory put rises quiet = absurd put
text_only text Out Front Rises ServerError put rises quiet = absurd put
text_only text Out Front Rises LinkFault put rises quiet = absurd put

pub body_only : (Reads Rises : Type 0) (status : Status) → IsPut status → (status ≡ ReadFault → Reads) → (status ≡ WriteFault → Rises) → ¬ Reads → ¬ Rises → status ≡ Complete
body_only Reads Rises Complete put reads rises still quiet = refl
body_only Reads Rises ReadFault put reads rises still quiet = absurd (still (reads refl))
body_only Reads Rises WriteFault put reads rises still quiet = absurd (quiet (rises refl))
body_only Reads Rises Words put reads rises still quiet = absurd put
body_only Reads Rises Unsaved put reads rises still quiet = absurd put
body_only Reads Rises Refused put reads rises still quiet = absurd put
body_only Reads Rises Damaged put reads rises still quiet = absurd put
body_only Reads Rises BadReply put reads rises still quiet = absurd put
body_only Reads Rises Memory put reads rises still quiet = absurd put
body_only Reads Rises ServerError put reads rises still quiet = absurd put
body_only Reads Rises LinkFault put reads rises still quiet = absurd put

pub refuse_only : (cause : Cause) (Out Front Line : List ℕ → Type 0) (Rises : Type 0) (status : Status) → RefusalPut cause Out Front Line status → (status ≡ WriteFault → Rises) → ¬ Rises
    → status ≢ Memory → status ≡ status_of_cause cause
refuse_only cause Out Front Line Rises Refused put rises quiet had = sym put.0
refuse_only cause Out Front Line Rises Damaged put rises quiet had = sym put.0
refuse_only cause Out Front Line Rises WriteFault put rises quiet had = absurd (quiet (rises refl))
refuse_only cause Out Front Line Rises Memory put rises quiet had = absurd (had refl)
refuse_only cause Out Front Line Rises Complete put rises quiet had = absurd put
refuse_only cause Out Front Line Rises Words put rises quiet had = absurd put
refuse_only cause Out Front Line Rises Unsaved put rises quiet had = absurd put
refuse_only cause Out Front Line Rises BadReply put rises quiet had = absurd put
refuse_only cause Out Front Line Rises ReadFault put rises quiet had = absurd put
refuse_only cause Out Front Line Rises ServerError put rises quiet had = absurd put
refuse_only cause Out Front Line Rises LinkFault put rises quiet had = absurd put

-- what is asked
pub asks_first : (told : Told) (target : List ℕ) (a : Asked) (before now : ℕ) → target_of target ≡ Some a → now ≤ before + most_first told a.name
    → (most : ℕ) × MayAskFor told target most × (now ≤ before + most)
asks_first told target a before now is first = (most_first told a.name + 0, rw is (0, inl refl, refl), omega (arith, first))

pub asks_all : (told : Told) (target : List ℕ) (a : Asked) (before then_ now cost own : ℕ) → target_of target ≡ Some a → then_ ≤ before + most_first told a.name → now ≤ then_ + own → own ≤ cost
    → (text : List ℕ) × MayGive told a (Ok (result_text Dods text)) → IsCost told a cost → (most : ℕ) × MayAskFor told target most × (now ≤ before + most)
asks_all told target a before then_ now cost own is first next few accepted is_cost =
    (most_first told a.name + cost, rw is (cost, inr (accepted, is_cost), refl), omega (arith, first, next, few))

-- where no text was put, the first read alone
pub asks_before : (told : Told) (target : List ℕ) (a : Asked) (before now : ℕ) → target_of target ≡ Some a → now ≤ before + most_first told a.name → now ≤ before + most_before told target
asks_before told target a before now is first = rw is first

pub text_is_put : (text : List ℕ) (Out Front : List ℕ → Type 0) (status : Status) → TextPut text Out Front status → HasNoText status → ⊥
text_is_put text Out Front Complete put none = none
text_is_put text Out Front WriteFault put none = none
text_is_put text Out Front ReadFault put none = none
text_is_put text Out Front Words put none = put
text_is_put text Out Front Unsaved put none = put
text_is_put text Out Front Refused put none = put
text_is_put text Out Front Damaged put none = put
text_is_put text Out Front BadReply put none = put
text_is_put text Out Front Memory put none = put
text_is_put text Out Front ServerError put none = put
text_is_put text Out Front LinkFault put none = put

pub body_is_put : (status : Status) → IsPut status → HasNoText status → ⊥
body_is_put Complete put none = none
body_is_put WriteFault put none = none
body_is_put ReadFault put none = none
body_is_put Words put none = put
body_is_put Unsaved put none = put
body_is_put Refused put none = put
body_is_put Damaged put none = put
body_is_put BadReply put none = put
body_is_put Memory put none = put
body_is_put ServerError put none = put
body_is_put LinkFault put none = put

pub asks_nothing : (told : Told) (target : List ℕ) (before : ℕ) → (most : ℕ) × MayAskFor told target most × (before ≤ before + most)
asks_nothing told target before = by_asked (target_of target)
  where
    by_asked : (o : Option Asked) → (most : ℕ) × MayAskAs told o most × (before ≤ before + most)
    by_asked None = (0, refl, omega arith)
    by_asked (Some a) = (most_first told a.name + 0, (0, inl refl, refl), omega arith)

-- what was asked where a body was put in part
pub asked_then : (told : Told) (target : List ℕ) (a : Asked) (content : Option (List ℕ)) (text_over : List ℕ → List ℕ) (may_ask : List ℕ → ℕ → ℕ → Type 0) (old new : Option (List ℕ)) (before mid now : ℕ)
    → target_of target ≡ Some a → IsSome told → (IsSome told → IsSome content)
    → ((bytes : List ℕ) → IsOver a.name content bytes → MayGive told a (Ok (result_text Dods (text_over bytes))))
    → ((bytes : List ℕ) (put cost : ℕ) → content ≡ Some bytes → may_ask bytes put cost → IsCostAt told a put cost)
    → ((bytes : List ℕ) → content ≡ Some bytes → Stops (text_over bytes) (may_ask bytes) old new mid now)
    → mid ≤ before + most_first told a.name → MayHaveAsked told target old new before now
asked_then told target a None text_over may_ask old new before mid now is some tells over costs stops first = cc (tells some)
asked_then told target a (Some bytes) text_over may_ask old new before mid now is some tells over costs stops first =
    let s = stops bytes refl in
    rw is (inr (
      text_over bytes,
      over bytes (inl refl),
      record { put = s.put; within = s.within; front = s.front; most = s.most; may = costs bytes s.put s.most refl s.may; few = omega (arith, s.few, first) },
    ))

-- the same of joined files
pub joined_asked_then : (told : Told) (target : List ℕ) (a : Asked) (AreThese : List (List ℕ) → Type 0) (text_over : List (List ℕ) → List ℕ) (may_ask : List (List ℕ) → ℕ → ℕ → Type 0) (old new : Option (List ℕ)) (before mid now : ℕ)
    → target_of target ≡ Some a → IsSome told → (IsSome told → (contents : List (List ℕ)) × AreThese contents)
    → ((contents : List (List ℕ)) → AreThese contents → MayGive told a (Ok (result_text Dods (text_over contents))))
    → ((contents : List (List ℕ)) (put cost : ℕ) → AreThese contents → may_ask contents put cost → IsCostAt told a put cost)
    → ((contents : List (List ℕ)) → AreThese contents → Stops (text_over contents) (may_ask contents) old new mid now)
    → mid ≤ before + most_first told a.name → MayHaveAsked told target old new before now
joined_asked_then told target a AreThese text_over may_ask old new before mid now is some tells over costs stops first =
    let (contents, these) = tells some in
    let s = stops contents these in
    rw is (inr (
      text_over contents,
      over contents these,
      record { put = s.put; within = s.within; front = s.front; most = s.most; may = costs contents s.put s.most these s.may; few = omega (arith, s.few, first) },
    ))

-- words have one target
pub same_target : (words : List (List ℕ)) (t u : List ℕ) (v w : ℕ) → AreAnswer words t v → AreAnswer words u w → t ≡ u
same_target words t u v w (inl p) (inl q) = ap (λ ws. get_or ws 1 t) (sym p.0 ∙ q.0)
same_target words t u v w (inl p) (inr (word, q, n)) = ap (λ ws. get_or ws 1 t) (sym p.0 ∙ q)
same_target words t u v w (inr (word, p, n)) (inl q) = ap (λ ws. get_or ws 1 t) (sym p ∙ q.0)
same_target words t u v w (inr (word, p, n)) (inr (other, q, m)) = ap (λ ws. get_or ws 1 t) (sym p ∙ q)

-- the line of a cause on another one, where the status has no line of its own
pub another_line : (told : Told) (target : List ℕ) (Out Front Line Other : List ℕ → Type 0) (status : Status) → (line_of status ≡ None → (l : List ℕ) → Line l → Other l)
    → AnswerSays told target Out Front Line status → AnswerSays told target Out Front Other status
another_line told target Out Front Line Other Complete pass says = says
another_line told target Out Front Line Other Refused pass (cause, may, is, out, line) = (cause, may, is, out, pass refl (refused_line (message_text cause)) line)
another_line told target Out Front Line Other Damaged pass (why, may, out, line) = (why, may, out, pass refl (damaged_line (message_text (causes.Damaged why))) line)
another_line told target Out Front Line Other ReadFault pass says = says
another_line told target Out Front Line Other WriteFault pass says = says
another_line told target Out Front Line Other Memory pass says = says
another_line told target Out Front Line Other Words pass says = says
another_line told target Out Front Line Other Unsaved pass says = says
another_line told target Out Front Line Other BadReply pass says = says
another_line told target Out Front Line Other ServerError pass says = says
another_line told target Out Front Line Other LinkFault pass says = says
