-- From the answers of each kind to that of a target.
use Rattle.std.proofs.Common.{◌≡◌, ◌≢◌, ℕ, ◌≤◌, Bool, List, Option, Some, None, IsSome, Result, Ok, Err, IfOk, IfErr, IsTrue, true, false, refl, sym, ap, ◌∙◌, inl, inr, subst}
use Rattle.std.specs.Prelude.{⊤, is_some}
use Rattle.std.specs.List.{list_all}
use Rattle.plain_lemmas.proofs.Options.{without_value}
use Rattle.viable.specs.Prefix.{is_byte}
use Rattle.dap_errors.specs.declared.cause.Cause.{Cause}
use Rattle.dap_http.specs.Targets.{Asked, asked_of}
use Rattle.dap_http.specs.declared.kind.Kind.{Kind}
use Rattle.dap_http.specs.Texts.{version}
use Rattle.dap_http.specs.declared.kind.Kind.TheVariants.{Das, Dds, Dods, Ver}
use Rattle.dap_http.specs.declared.target.Target.{Target}
use Rattle.dap_outside.specs.Files.{Told}
use Rattle.xdr_encode.specs.Bodies.{FitsFile, HasNoFile, MayAsk, cost_in, text_in}
use Rattle.dap_types.specs.Model.{Tree}
use Rattle.saved_source.specs.Bodies.{Sends}
use Rattle.dap_server.proofs.Lying as lying
use Rattle.dap_server.proofs.OneAnswer.{answers_one, one_result}
use Rattle.dap_server.proofs.ListForms.{list_form, no_list_form}
use Rattle.dap_server.specs.Costs.{IsFormCost, IsFormCostAt, asks_shelf, is_of_file}
use Rattle.dap_server.specs.Files.{Files, IsOneFile, MayHave, Stored, form_of, is_joined, is_read_first, saved}
use Rattle.dap_server.specs.Prepared.{IsFor, IsOver, MayGive, MustGive, WhereBody, WhereNoShelfFault, WhereRefuse, WhereJoined, WhereSaved, WhereText}
use Rattle.dap_server.specs.Results.{AnswersAmong, OpensAmong, Text, das_text, result_text}
use Rattle.dap_server.specs.Steps.{Is, Then}
use Rattle.dap_server.proofs.UntoldLists.{untold_list}
use Rattle.dap_server.specs.inner.Joining.{MayOpen}
use Rattle.dap_server.specs.inner.Opening.{Lies, OpenedAs, StaysBut, WhereFault, WhereRefused, attributes_in, stored_of}
use Rattle.dap_server.specs.inner.Preparing.{asked_as, IsMade, MayGiveAs, WhereOfFile, WhereOfSaved, body_prepared, text_prepared}
use Rattle.dap_server.specs.declared.open.Opened.{Opened}
use Rattle.dap_server.specs.declared.data_body.DataBody.{DataBody}
use Rattle.dap_server.specs.declared.data_body.DataBody.TheVariants as bodies
use Rattle.das_text.specs.Das.{das}
use Rattle.dap_server.specs.declared.prepared.Prepared.{Prepared}
use Rattle.dap_server.specs.declared.prepared.Prepared.TheVariants as prepared
use Rattle.dap_server.specs.declared.no_answer.Stop.{Stop}
use Rattle.dap_server.specs.declared.no_answer.Stop.TheVariants.{Refused, ShelfFault, Memory}

-- what follows a file that was opened
pub follows : (told : Told) (content : Option (List ℕ)) (size : ℕ) (name bytes : List ℕ) (ts : List Tree) (o : Opened) (next : Stored → Result Text Cause → Type 0) (r : Result Text Cause)
    → Lies told content size name bytes → OpenedAs o name bytes ts → next (stored_of o name ts) r → (files : Files) × MayHave told files × Then (OpensAmong told files name) next r
follows told content size name bytes ts o next r l is n = (l.files, l.may_have, inl (stored_of o name ts, lying.opened told l.files name bytes ts o l.there is, n))

-- or the cause for which none was
pub stops : (told : Told) (name : List ℕ) (next : Stored → Result Text Cause → Type 0) (s : Stop) → WhereRefused (λ why. MayOpen told name (Err why)) s
    → WhereRefused (λ why. (files : Files) × MayHave told files × Then (OpensAmong told files name) next (Err why)) s
stops told name next (Refused why) (files, may, opens) = (files, may, inr (why, opens, refl))
stops told name next ShelfFault x = tt
stops told name next Memory x = tt

pub same_asked : (t : Target) (k : Kind) (name query : List ℕ) → t.kind ≡ k → name ≡ t.name → query ≡ t.query → asked_as k name query ≡ asked_of t
same_asked t k name query is is_name is_query = ap (λ n. asked_as k n query) is_name ∙ ap (asked_as k t.name) is_query ∙ ap (λ kind. asked_as kind t.name t.query) (sym is)

-- the name of what is asked does not say how a file is read
pub no_form : (t : Target) (k : Kind) (name : List ℕ) → t.kind ≡ k → name ≡ t.name → is_of_file k ≡ true → asks_shelf (asked_of t) ≡ false → form_of name ≡ None
no_form t k name is is_name of_file none =
    let asks : asks_shelf (asked_of t) ≡ is_some (form_of name) = rw (is, sym is_name, of_file) refl in
    without_value (form_of name) (sym asks ∙ none)

-- a text is made
text_made : {F : Type 0} (told : Told) (content : F → Option (List ℕ)) (size_of : F → ℕ) (k : Kind) (name query : List ℕ) (Fault : Type 0) (r : Result (List ℕ) Stop) (p : Prepared F) → p ≡ text_prepared k r
    → k ≢ Dods → IfOk r (λ text. MayGiveAs told k name query (Ok (result_text k text))) → IfErr r (WhereRefused (λ why. MayGiveAs told k name query (Err why)))
    → IfErr r (WhereFault (IsTrue (asks_shelf (asked_as k name query)) × Fault)) → IsMade told content size_of (asked_as k name query) Fault p
text_made told content size_of k name query Fault (Ok text) p made none gives refuses faults =
    rw made (record { text = (none, gives); body = tt; accepted = tt; of_file = tt; tells = tt; alone = tt; fits = tt; cost = tt; cost_at = tt; sends = tt; of_saved = tt; joined = tt; refused = tt; shelf_fault = tt })
text_made told content size_of k name query Fault (Err (Refused why)) p made none gives refuses faults =
    rw made (record { text = tt; body = tt; accepted = tt; of_file = tt; tells = tt; alone = tt; fits = tt; cost = tt; cost_at = tt; sends = tt; of_saved = tt; joined = tt; refused = refuses; shelf_fault = tt })
text_made told content size_of k name query Fault (Err ShelfFault) p made none gives refuses faults =
    rw made (record { text = tt; body = tt; accepted = tt; of_file = tt; tells = tt; alone = tt; fits = tt; cost = tt; cost_at = tt; sends = tt; of_saved = tt; joined = tt; refused = tt; shelf_fault = faults })
text_made told content size_of k name query Fault (Err Memory) p made none gives refuses faults =
    rw made (record { text = tt; body = tt; accepted = tt; of_file = tt; tells = tt; alone = tt; fits = tt; cost = tt; cost_at = tt; sends = tt; of_saved = tt; joined = tt; refused = tt; shelf_fault = tt })

pub text_for : {F : Type 0} (told : Told) (content : F → Option (List ℕ)) (size_of : F → ℕ) (t : Target) (k : Kind) (name query : List ℕ) (Fault : Type 0) (r : Result (List ℕ) Stop) (p : Prepared F) → p ≡ text_prepared k r
    → t.kind ≡ k → name ≡ t.name → query ≡ t.query → k ≢ Dods → IfOk r (λ text. MayGiveAs told k name query (Ok (result_text k text))) → IfErr r (WhereRefused (λ why. MayGiveAs told k name query (Err why)))
    → IfErr r (WhereFault (IsTrue (asks_shelf (asked_as k name query)) × Fault)) → IsMade told content size_of (asked_of t) Fault p
text_for told content size_of t k name query Fault r p made is is_name is_query none gives refuses faults =
    subst (λ a. IsMade told content size_of a Fault p) (same_asked t k name query is is_name is_query) (text_made told content size_of k name query Fault r p made none gives refuses faults)

-- a body is made
pub body_made : {F : Type 0} (told : Told) (content : F → Option (List ℕ)) (size_of : F → ℕ) (name query : List ℕ) (Fault : Type 0) (r : Result (DataBody × F) Stop) (p : Prepared F) → p ≡ body_prepared r
    → IfOk r (λ q. WhereOfFile q.0 (λ b. (bytes : List ℕ) → IsOver name (content q.1) bytes → MayGiveAs told Dods name query (Ok (result_text Dods (text_in b bytes)))))
    → IfOk r (λ q. WhereOfSaved q.0 (λ b. (text : List ℕ) × Sends b text × MayGiveAs told Dods name query (Ok (result_text Dods text))))
    → IfOk r (λ q. WhereOfSaved q.0 (λ b. form_of name ≡ Some saved))
    → IfOk r (λ q. (text : List ℕ) × MayGiveAs told Dods name query (Ok (result_text Dods text)))
    → IfOk r (λ q. WhereOfFile q.0 (λ b. IsOneFile (form_of name)))
    → IfOk r (λ q. IsSome told → IsSome (content q.1))
    → IfOk r (λ q. WhereOfFile q.0 (λ b. IsTrue (is_read_first (form_of name)) → HasNoFile b))
    → IfOk r (λ q. WhereOfFile q.0 (λ b. FitsFile b (size_of q.1)))
    → IfOk r (λ q. WhereOfFile q.0 (λ b. (cost : ℕ) × IsFormCost (form_of name) told name query cost × (cost_in b ≤ cost)))
    → IfOk r (λ q. WhereOfFile q.0 (λ b. (bytes : List ℕ) (put cost : ℕ) → content q.1 ≡ Some bytes → MayAsk b bytes put cost → IsFormCostAt (form_of name) told name query put cost))
    → IfErr r (WhereRefused (λ why. MayGiveAs told Dods name query (Err why)))
    → IfErr r (WhereFault (IsTrue (is_some (form_of name)) × Fault))
    → IsMade told content size_of (asked_as Dods name query) Fault p
body_made told content size_of name query Fault (Ok (bodies.OfFile b, file)) p made over sends named accepted form tells alone fits cost cost_at refuses faults =
    rw made (record { text = tt; body = over; accepted = accepted; of_file = (refl, form); tells = tells; alone = alone; fits = fits; cost = cost; cost_at = cost_at; sends = tt; of_saved = tt; joined = tt; refused = tt; shelf_fault = tt })
body_made told content size_of name query Fault (Ok (bodies.Saved b, file)) p made over sends named accepted form tells alone fits cost cost_at refuses faults =
    rw made (record { text = tt; body = tt; accepted = tt; of_file = tt; tells = tt; alone = tt; fits = tt; cost = tt; cost_at = tt; sends = sends; of_saved = (refl, named); joined = tt; refused = tt; shelf_fault = tt })
body_made told content size_of name query Fault (Err (Refused why)) p made over sends named accepted form tells alone fits cost cost_at refuses faults =
    rw made (record { text = tt; body = tt; accepted = tt; of_file = tt; tells = tt; alone = tt; fits = tt; cost = tt; cost_at = tt; sends = tt; of_saved = tt; joined = tt; refused = refuses; shelf_fault = tt })
body_made told content size_of name query Fault (Err ShelfFault) p made over sends named accepted form tells alone fits cost cost_at refuses faults =
    rw made (record { text = tt; body = tt; accepted = tt; of_file = tt; tells = tt; alone = tt; fits = tt; cost = tt; cost_at = tt; sends = tt; of_saved = tt; joined = tt; refused = tt; shelf_fault = faults })
body_made told content size_of name query Fault (Err Memory) p made over sends named accepted form tells alone fits cost cost_at refuses faults =
    rw made (record { text = tt; body = tt; accepted = tt; of_file = tt; tells = tt; alone = tt; fits = tt; cost = tt; cost_at = tt; sends = tt; of_saved = tt; joined = tt; refused = tt; shelf_fault = tt })

-- it is the one that all files give which the shelf may have
same : (told : Told) (a : Asked) (one other : Result Text Cause) → IsTrue (list_all is_byte a.query) → MayGive told a one → MustGive told a other → other ≡ one
same (Some told) a one other bytes (files, may, gives) must =
    one_result told a other one bytes (must told refl) (subst (λ (f : Files). AnswersAmong (Some told) a.kind f a.name a.query one) may gives)
same None a one other bytes (files, may, gives) must = by_list (is_joined (form_of a.name)) refl where
  by_list : (b : Bool) → is_joined (form_of a.name) ≡ b → other ≡ one
  by_list true is = untold_list a other one (list_form (form_of a.name) is) files gives must
  by_list false is = answers_one None a.kind files a.name a.query (inr (no_list_form (form_of a.name) is)) bytes other one (must files tt) gives

pub only : {F : Type 0} (told : Told) (a : Asked) (p : Prepared F) → IsTrue (list_all is_byte a.query)
    → WhereText p (λ kind text. (kind ≢ Dods) × MayGive told a (Ok (result_text kind text)))
    → WhereBody p (λ b file. (text : List ℕ) × MayGive told a (Ok (result_text Dods text)))
    → WhereSaved p (λ b. (text : List ℕ) × Sends b text × MayGive told a (Ok (result_text Dods text)))
    → WhereJoined p (λ b files. (text : List ℕ) × MayGive told a (Ok (result_text Dods text)))
    → WhereRefuse p (λ why. MayGive told a (Err why))
    → (answer : Result Text Cause) → MustGive told a answer → IsFor answer p
only told a (prepared.Text kind text) bytes is x y j z answer must = same told a (Ok (result_text kind text)) answer bytes is.1 must
only told a (prepared.Body b file) bytes x (text, is) y j z answer must = (text, same told a (Ok (result_text Dods text)) answer bytes is must)
only told a (prepared.Saved b) bytes x y (text, sends, is) j z answer must = (text, same told a (Ok (result_text Dods text)) answer bytes is must)
only told a (prepared.Joined b files) bytes x y z (text, is) u answer must = (text, same told a (Ok (result_text Dods text)) answer bytes is must)
only told a (prepared.Refuse why) bytes x y z j is answer must = same told a (Err why) answer bytes is must
only told a prepared.ShelfFault bytes x y z j u answer must = tt
only told a prepared.Memory bytes x y z j u answer must = tt

-- the same for a text that was made of what was opened, whatever its bytes
pub follows_ok : {T : Type 0} (told : Told) (content : Option (List ℕ)) (size : ℕ) (name bytes : List ℕ) (ts : List Tree) (o : Opened) (next : Stored → Result Text Cause → Type 0) (answer : T → Text) (r : Result T Stop)
    → Lies told content size name bytes → OpenedAs o name bytes ts → IfOk r (λ t. (ts : List Tree) → next (stored_of o name ts) (Ok (answer t)))
    → IfOk r (λ t. (files : Files) × MayHave told files × Then (OpensAmong told files name) next (Ok (answer t)))
follows_ok told content size name bytes ts o next answer (Ok t) l is n = follows told content size name bytes ts o next _ l is (n ts)
follows_ok told content size name bytes ts o next answer (Err s) l is n = tt

pub follows_err : {T : Type 0} (told : Told) (content : Option (List ℕ)) (size : ℕ) (name bytes : List ℕ) (ts : List Tree) (o : Opened) (next : Stored → Result Text Cause → Type 0) (r : Result T Stop)
    → Lies told content size name bytes → OpenedAs o name bytes ts → IfErr r (WhereRefused (λ why. (ts : List Tree) → next (stored_of o name ts) (Err why)))
    → IfErr r (WhereRefused (λ why. (files : Files) × MayHave told files × Then (OpensAmong told files name) next (Err why)))
follows_err told content size name bytes ts o next (Ok t) l is n = tt
follows_err told content size name bytes ts o next (Err (Refused why)) l is n = follows told content size name bytes ts o next _ l is (n ts)
follows_err told content size name bytes ts o next (Err ShelfFault) l is n = tt
follows_err told content size name bytes ts o next (Err Memory) l is n = tt

-- the same by its stop
pub follows_stop : (told : Told) (content : Option (List ℕ)) (size : ℕ) (name bytes : List ℕ) (ts : List Tree) (o : Opened) (next : Stored → Result Text Cause → Type 0) (s : Stop)
    → Lies told content size name bytes → OpenedAs o name bytes ts → WhereRefused (λ why. (bytes : List ℕ) (ts : List Tree) → OpenedAs o name bytes ts → next (stored_of o name ts) (Err why)) s
    → WhereRefused (λ why. (files : Files) × MayHave told files × Then (OpensAmong told files name) next (Err why)) s
follows_stop told content size name bytes ts o next (Refused why) l is n = follows told content size name bytes ts o next _ l is (n bytes ts is)
follows_stop told content size name bytes ts o next ShelfFault l is n = tt
follows_stop told content size name bytes ts o next Memory l is n = tt

-- the attributes of what was opened
pub das_follows : (told : Told) (content : Option (List ℕ)) (size : ℕ) (name bytes : List ℕ) (ts : List Tree) (o : Opened) (text : List ℕ) → Lies told content size name bytes → OpenedAs o name bytes ts
    → text ≡ das (attributes_in o) → (files : Files) × MayHave told files × Then (OpensAmong told files name) (λ s. Is (das_text s)) (Ok (result_text Das text))
das_follows told content size name bytes ts o text l is is_text = follows told content size name bytes ts o (λ s. Is (das_text s)) _ l is (ap (λ t. Ok (result_text Das t)) is_text)

pub das_stops : (told : Told) (name : List ℕ) (s : Stop) → WhereRefused (λ why. MayOpen told name (Err why)) s
    → WhereRefused (λ why. (query : List ℕ) → MayGiveAs told Das name query (Err why)) s
das_stops told name (Refused why) is = λ query. stops told name (λ s. Is (das_text s)) (Refused why) is
das_stops told name ShelfFault is = tt
das_stops told name Memory is = tt

-- no fault is any fault
pub no_fault : {T : Type 0} (r : Result T Stop) (P : Type 0) → IfErr r (WhereFault ⊥) → IfErr r (WhereFault P)
no_fault (Ok t) P is = tt
no_fault (Err (Refused why)) P is = tt
no_fault (Err ShelfFault) P is = absurd is
no_fault (Err Memory) P is = tt

-- no refusal is any refusal
pub no_refusal : {T : Type 0} (r : Result T Stop) (P : Cause → Type 0) → IfErr r (WhereRefused (λ why. ⊥)) → IfErr r (WhereRefused P)
no_refusal (Ok t) P is = tt
no_refusal (Err (Refused why)) P is = absurd is
no_refusal (Err ShelfFault) P is = tt
no_refusal (Err Memory) P is = tt

-- the version, whatever is asked
pub version_given : (told : Told) (name query : List ℕ) (r : Result (List ℕ) Stop) → IfOk r (λ text. text ≡ version) → IfOk r (λ text. MayGiveAs told Ver name query (Ok (result_text Ver text)))
version_given told name query (Ok text) is =
    let (files, may) = lying.some_files told in
    (files, may, ap (λ t. Ok (result_text Ver t)) is)
version_given told name query (Err stop) is = tt

-- the attributes, whatever the query
pub das_given : (told : Told) (name query : List ℕ) (r : Result (List ℕ) Stop) → IfOk r (λ text. (query : List ℕ) → MayGiveAs told Das name query (Ok (result_text Das text)))
    → IfOk r (λ text. MayGiveAs told Das name query (Ok (result_text Das text)))
das_given told name query (Ok text) is = is query
das_given told name query (Err stop) is = tt

pub das_not_given : (told : Told) (name query : List ℕ) (r : Result (List ℕ) Stop) → IfErr r (WhereRefused (λ why. (query : List ℕ) → MayGiveAs told Das name query (Err why)))
    → IfErr r (WhereRefused (λ why. MayGiveAs told Das name query (Err why)))
das_not_given told name query (Ok text) is = tt
das_not_given told name query (Err (Refused why)) is = is query
das_not_given told name query (Err ShelfFault) is = tt
das_not_given told name query (Err Memory) is = tt

-- a text is no data
abbrev pub IsText : Kind → Type 0
IsText Ver = ⊤
IsText Dds = ⊤
IsText Das = ⊤
IsText Dods = ⊥

pub no_data : (k : Kind) → IsText k → k ≢ Dods
no_data k is = λ e. subst IsText e is

-- ---- the shelf's count

-- whatever the step gave
pub still_stays : {V : Type 0} (r : Result V Stop) (f f1 : ℕ) → f1 ≡ f → StaysBut r f f1
still_stays (Ok v) f f1 same = same
still_stays (Err (Refused why)) f f1 same = same
still_stays (Err ShelfFault) f f1 same = tt
still_stays (Err Memory) f f1 same = same

pub text_stays : {F : Type 0} (k : Kind) (r : Result (List ℕ) Stop) (p : Prepared F) (f f1 : ℕ) → p ≡ text_prepared k r → StaysBut r f f1 → WhereNoShelfFault p (f1 ≡ f)
text_stays k (Ok text) p f f1 is stays = rw is stays
text_stays k (Err (Refused why)) p f f1 is stays = rw is stays
text_stays k (Err ShelfFault) p f f1 is stays = rw is tt
text_stays k (Err Memory) p f f1 is stays = rw is stays

pub body_stays : {F : Type 0} (r : Result (DataBody × F) Stop) (p : Prepared F) (f f1 : ℕ) → p ≡ body_prepared r → StaysBut r f f1 → WhereNoShelfFault p (f1 ≡ f)
body_stays (Ok (bodies.OfFile b, file)) p f f1 is stays = rw is stays
body_stays (Ok (bodies.Saved b, file)) p f f1 is stays = rw is stays
body_stays (Err (Refused why)) p f f1 is stays = rw is stays
body_stays (Err ShelfFault) p f f1 is stays = rw is tt
body_stays (Err Memory) p f f1 is stays = rw is stays
