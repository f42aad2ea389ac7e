-- From what was made of a list and its files to the answer to a target.
use Rattle.std.proofs.Common.{◌≡◌, ℕ, List, Option, Some, Result, Ok, Err, IfOk, IfErr, IsTrue, sym, ap, subst}
use Rattle.std.specs.Prelude.{is_some}
use Rattle.dap_errors.specs.declared.cause.Cause.{Cause}
use Rattle.dap_http.specs.Targets.{Asked, asked_of}
use Rattle.dap_http.specs.declared.kind.Kind.{Kind}
use Rattle.dap_http.specs.declared.kind.Kind.TheVariants.{Dods}
use Rattle.dap_http.specs.declared.target.Target.{Target}
use Rattle.dap_outside.specs.Files.{Told}
use Rattle.join_source.specs.declared.body.JoinBody.{JoinBody}
use Rattle.dap_server.proofs.Making.{same_asked}
use Rattle.dap_server.specs.Files.{Form, form_of, joined}
use Rattle.dap_server.specs.Prepared.{IsJoinedFor, MayGive, MayGiveWithin, WhereJoined, WhereNoShelfFault, WhereOfList}
use Rattle.dap_server.specs.Results.{Text, result_text}
use Rattle.dap_server.specs.inner.Opening.{StaysBut, WhereFault, WhereRefused}
use Rattle.dap_server.specs.inner.Preparing.{IsMade, MayGiveAs, asked_as, body_prepared, join_prepared, text_prepared}
use Rattle.dap_server.specs.declared.data_body.DataBody.{DataBody}
use Rattle.dap_server.specs.declared.data_body.DataBody.TheVariants as bodies
use Rattle.dap_server.specs.declared.prepared.Prepared.{Prepared}
use Rattle.dap_server.specs.declared.prepared.Prepared.TheVariants as prepared
use Rattle.dap_server.specs.declared.no_answer.Stop.{Stop}
use Rattle.dap_server.specs.declared.no_answer.Stop.TheVariants.{Refused, ShelfFault, Memory}

-- the shelf failed where a file was looked for
pub with_form : {V : Type 0} (o : Option Form) (Fault : Type 0) (r : Result V Stop) → o ≡ Some joined → IfErr r (WhereFault Fault) → IfErr r (WhereFault (IsTrue (is_some o) × Fault))
with_form o Fault (Ok v) is why = tt
with_form o Fault (Err (Refused cause)) is why = tt
with_form o Fault (Err ShelfFault) is why = (ap is_some is, why)
with_form o Fault (Err Memory) is why = tt

pub join_made : {F : Type 0} (told : Told) (content : F → Option (List ℕ)) (size_of : F → ℕ) (name query : List ℕ) (Fault : Type 0) (r : Result (JoinBody × List F) Stop) (p : Prepared F) → p ≡ join_prepared r
    → IfOk r (λ q. IsJoinedFor told content size_of (asked_as Dods name query) q.0 q.1)
    → IfErr r (WhereRefused (λ why. MayGiveAs told Dods name query (Err why)))
    → IfErr r (WhereFault (IsTrue (is_some (form_of name)) × Fault))
    → IsMade told content size_of (asked_as Dods name query) Fault p
join_made told content size_of name query Fault (Ok (b, files)) p made body refuses faults =
    rw made (record { text = tt; body = tt; accepted = tt; of_file = tt; tells = tt; alone = tt; fits = tt; cost = tt; cost_at = tt; sends = tt; of_saved = tt; joined = body; refused = tt; shelf_fault = tt })
join_made told content size_of name query Fault (Err (Refused why)) p made body refuses faults =
    rw made (record { text = tt; body = tt; accepted = tt; of_file = tt; tells = tt; alone = tt; fits = tt; cost = tt; cost_at = tt; sends = tt; of_saved = tt; joined = tt; refused = refuses; shelf_fault = tt })
join_made told content size_of name query Fault (Err ShelfFault) p made body refuses faults =
    rw made (record { text = tt; body = tt; accepted = tt; of_file = tt; tells = tt; alone = tt; fits = tt; cost = tt; cost_at = tt; sends = tt; of_saved = tt; joined = tt; refused = tt; shelf_fault = faults })
join_made told content size_of name query Fault (Err Memory) p made body refuses faults =
    rw made (record { text = tt; body = tt; accepted = tt; of_file = tt; tells = tt; alone = tt; fits = tt; cost = tt; cost_at = tt; sends = tt; of_saved = tt; joined = tt; refused = tt; shelf_fault = tt })

pub join_stays : {F : Type 0} (r : Result (JoinBody × List F) Stop) (p : Prepared F) (f f1 : ℕ) → p ≡ join_prepared r → StaysBut r f f1 → WhereNoShelfFault p (f1 ≡ f)
join_stays (Ok (b, files)) p f f1 is stays = rw is stays
join_stays (Err (Refused why)) p f f1 is stays = rw is stays
join_stays (Err ShelfFault) p f f1 is stays = rw is tt
join_stays (Err Memory) p f f1 is stays = rw is stays

-- the same of a target
pub made_for : {F : Type 0} (told : Told) (content : F → Option (List ℕ)) (size_of : F → ℕ) (t : Target) (name query : List ℕ) (Fault : Type 0) (p : Prepared F) → t.kind ≡ Dods → name ≡ t.name → query ≡ t.query
    → IsMade told content size_of (asked_as Dods name query) Fault p → IsMade told content size_of (asked_of t) Fault p
made_for told content size_of t name query Fault p is is_name is_query made = subst (λ a. IsMade told content size_of a Fault p) (same_asked t Dods name query is is_name is_query) made

-- the response that a body of joined files is of
pub join_accepted : {F : Type 0} (told : Told) (content : F → Option (List ℕ)) (size_of : F → ℕ) (a : Asked) (p : Prepared F) → WhereJoined p (IsJoinedFor told content size_of a)
    → WhereJoined p (λ b files. (text : List ℕ) × MayGive told a (Ok (result_text Dods text)))
join_accepted told content size_of a (prepared.Joined b files) is = is.accepted
join_accepted told content size_of a (prepared.Text kind text) is = tt
join_accepted told content size_of a (prepared.Body b file) is = tt
join_accepted told content size_of a (prepared.Saved b) is = tt
join_accepted told content size_of a (prepared.Refuse why) is = tt
join_accepted told content size_of a prepared.ShelfFault is = tt
join_accepted told content size_of a prepared.Memory is = tt

-- where the shelf tells the same files
pub join_moved : {F : Type 0} (told told2 : Told) (content : F → Option (List ℕ)) (size_of : F → ℕ) (a : Asked) (b : JoinBody) (fs fs2 : List F) → told2 ≡ told → fs2 ≡ fs → IsJoinedFor told content size_of a b fs → IsJoinedFor told2 content size_of a b fs2
join_moved told told2 content size_of a b fs fs2 same same_files is = subst (λ t. IsJoinedFor t content size_of a b fs2) (sym same) (subst (λ l. IsJoinedFor told content size_of a b l) (sym same_files) is)

-- what is said of the files that a list joins, and of none where there is no list
pub join_files : {F : Type 0} (P : List F → Type 0) (r : Result (JoinBody × List F) Stop) (p : Prepared F) → p ≡ join_prepared r → IfOk r (λ q. P q.1) → WhereJoined p (λ b files. P files)
join_files P (Ok (b, files)) p is holds = rw is holds
join_files P (Err (Refused why)) p is holds = rw is tt
join_files P (Err ShelfFault) p is holds = rw is tt
join_files P (Err Memory) p is holds = rw is tt

pub body_no_files : {F : Type 0} (P : JoinBody → List F → Type 0) (r : Result (DataBody × F) Stop) (p : Prepared F) → p ≡ body_prepared r → WhereJoined p P
body_no_files P (Ok (bodies.OfFile b, file)) p is = rw is tt
body_no_files P (Ok (bodies.Saved b, file)) p is = rw is tt
body_no_files P (Err (Refused why)) p is = rw is tt
body_no_files P (Err ShelfFault) p is = rw is tt
body_no_files P (Err Memory) p is = rw is tt

pub text_no_files : {F : Type 0} (P : JoinBody → List F → Type 0) (k : Kind) (r : Result (List ℕ) Stop) (p : Prepared F) → p ≡ text_prepared k r → WhereJoined p P
text_no_files P k (Ok text) p is = rw is tt
text_no_files P k (Err (Refused why)) p is = rw is tt
text_no_files P k (Err ShelfFault) p is = rw is tt
text_no_files P k (Err Memory) p is = rw is tt

-- the answer of a list
pub list_given : {F : Type 0} (P : Result Text Cause → Type 0) (r : Result (JoinBody × List F) Stop) (p : Prepared F) → p ≡ join_prepared r → IfOk r (λ q. (text : List ℕ) × P (Ok (result_text Dods text)))
    → IfErr r (WhereRefused (λ why. P (Err why))) → WhereOfList p P
list_given P (Ok (b, files)) p is gives refuses = rw is gives
list_given P (Err (Refused why)) p is gives refuses = rw is refuses
list_given P (Err ShelfFault) p is gives refuses = rw is tt
list_given P (Err Memory) p is gives refuses = rw is tt

pub list_told : {F : Type 0} (P : Result Text Cause → Type 0) (k : Kind) (r : Result (List ℕ) Stop) (p : Prepared F) → p ≡ text_prepared k r → IfOk r (λ text. P (Ok (result_text k text)))
    → IfErr r (WhereRefused (λ why. P (Err why))) → WhereOfList p P
list_told P k (Ok text) p is gives refuses = rw is gives
list_told P k (Err (Refused why)) p is gives refuses = rw is refuses
list_told P k (Err ShelfFault) p is gives refuses = rw is tt
list_told P k (Err Memory) p is gives refuses = rw is tt

-- in the words of the target
pub list_asked : {F : Type 0} (told : Told) (t : Target) (k : Kind) (name query : List ℕ) (before now : ℕ) (p : Prepared F) → t.kind ≡ k → name ≡ t.name → query ≡ t.query
    → WhereOfList p (MayGiveWithin told (asked_as k name query) before now) → WhereOfList p (MayGiveWithin told (asked_of t) before now)
list_asked told t k name query before now p is is_name is_query given = subst (λ a. WhereOfList p (MayGiveWithin told a before now)) (same_asked t k name query is is_name is_query) given
