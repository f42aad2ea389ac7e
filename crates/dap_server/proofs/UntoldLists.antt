-- Where a shelf tells no files, a list may be missing or be empty, so that no answer has to be given.
use Rattle.std.proofs.Common.{◌≡◌, ℕ, List, [], Some, None, Result, Ok, Err, refl, sym, ap, ◌∙◌, inl, inr, subst}
use Rattle.std.specs.Prelude.{⊤}
use Rattle.dap_errors.specs.declared.cause.Cause.{Cause}
use Rattle.dap_errors.specs.declared.cause.Cause.TheVariants.{Damaged, NoFile}
use Rattle.dap_errors.specs.declared.file_cause.FileCause.TheVariants as causes
use Rattle.dap_http.specs.Targets.{Asked}
use Rattle.dap_http.specs.declared.kind.Kind.{Kind}
use Rattle.dap_http.specs.declared.kind.Kind.TheVariants.{Dds, Das, Dods, Ver}
use Rattle.join_source.specs.Lists.{list_of, lines_from, names_from}
use Rattle.join_source.specs.declared.refusal.ListRefusal.{ListRefusal}
use Rattle.join_source.specs.declared.refusal.ListRefusal.TheVariants as lists
use Rattle.dap_server.proofs.OpeningLists.{list_file, named_by}
use Rattle.dap_server.specs.Files.{Files, IsStored, Stored, form_of, joined}
use Rattle.dap_server.specs.Joins.{IsJoined, list_cause}
use Rattle.dap_server.specs.Prepared.{MustGive}
use Rattle.dap_server.specs.Results.{AnswersAmong, DdsAnswers, DodsAnswers, File, OpensAmong, Text, das_text, file_named}
use Rattle.dap_server.specs.Steps.{Is, Then, found_or}

abbrev none : Files
none name = None

abbrev empty : Files
empty name = Some []

abbrev bad : Cause
bad = Damaged (causes.BadLine 1)

abbrev err-of : (V : Type 0) → Cause → Result V Cause
err-of V cause = Err cause

no-empty : list_of [] ≡ Err (lists.BadLine 1)
unfolding list_of names_from lines_from
no-empty = refl

-- a missing list
none-found : (name : List ℕ) → form_of name ≡ Some joined → found_or (file_named none name) NoFile ≡ Err NoFile
none-found name form = ap (λ o. found_or o NoFile) (ap (named_by None) form)

none-opens : (name : List ℕ) (q : Result Stored Cause) → form_of name ≡ Some joined → OpensAmong None none name q → q ≡ Err NoFile
none-opens name q form (inl (file, found, stored)) = cc (found, none-found name form)
none-opens name q form (inr (cause, found, is)) = cc (found, none-found name form, is)

-- an empty one
bad-refusal : (refusal : ListRefusal) (q : Result Stored Cause) (cause : Cause) → list_of [] ≡ Err refusal → ((why : Rattle.dap_errors.specs.declared.file_cause.FileCause.FileCause) × (list_cause refusal ≡ Some why) × (cause ≡ Damaged why)) → q ≡ Err cause → q ≡ Err bad
bad-refusal lists.TooLong q cause l is e = cc (l, no-empty)
bad-refusal (lists.BadLine line) q cause l (why, is_why, is) e =
    let same : line ≡ 1 = cc (l, no-empty) in
    cc (is_why, is, e, same)
bad-refusal lists.Memory q cause l is e = cc (l, no-empty)

empty-joined : (name : List ℕ) (q : Result Stored Cause) → IsJoined None name [] q → q ≡ Err bad
empty-joined name q (inl (names, l, next)) = cc (l, no-empty)
empty-joined name q (inr (cause, (refusal, why, l, is_why, is), e)) = bad-refusal refusal q cause l (why, is_why, is) e

abbrev ok-file : File → Result File Cause
ok-file file = Ok file

empty-found : (name : List ℕ) → form_of name ≡ Some joined → found_or (file_named empty name) NoFile ≡ ok-file (list_file [])
empty-found name form = ap (λ o. found_or o NoFile) (ap (named_by (Some [])) form)

empty-file : (name : List ℕ) (file : File) → form_of name ≡ Some joined → Ok file ≡ found_or (file_named empty name) NoFile → file ≡ list_file []
empty-file name file form found = cc (found ∙ empty-found name form)

empty-opens : (name : List ℕ) (q : Result Stored Cause) → form_of name ≡ Some joined → OpensAmong None empty name q → q ≡ Err bad
empty-opens name q form (inl (file, found, stored)) =
    empty-joined name q (subst (λ (f : File). IsStored None f.form name f.bytes q) (empty-file name file form found) stored)
empty-opens name q form (inr (cause, found, is)) = cc (found, empty-found name form)

stopped : {W : Type 0} (first : Result Stored Cause → Type 0) (next : Stored → Result W Cause → Type 0) (r : Result W Cause) (cause : Cause) → ((q : Result Stored Cause) → first q → q ≡ Err cause) → Then first next r → r ≡ Err cause
stopped {W} first next r cause one (inl (s, f, n)) = cc (one (Ok s) f)
stopped {W} first next r cause one (inr (k, f, is)) = cc (one (Err k) f, is)

clash : {W : Type 0} (name : List ℕ) (next : Stored → Result W Cause → Type 0) (r : Result W Cause) → form_of name ≡ Some joined → Then (OpensAmong None none name) next r → Then (OpensAmong None empty name) next r → ⊥
clash {W} name next r form first second =
    let missing : r ≡ Err NoFile = stopped (OpensAmong None none name) next r NoFile (λ q f. none-opens name q form f) first in
    let damaged : r ≡ Err bad = stopped (OpensAmong None empty name) next r bad (λ q f. empty-opens name q form f) second in
    cc (missing, damaged)

-- what all files answer that may be there
pub untold_list : (a : Asked) (other one : Result Text Cause) → form_of a.name ≡ Some joined → (files : Files) → AnswersAmong None a.kind files a.name a.query one → MustGive None a other → other ≡ one
untold_list a other one form files gives must = go a.kind gives must where
  go : (k : Kind) → AnswersAmong None k files a.name a.query one → ((fs : Files) → ⊤ → AnswersAmong None k fs a.name a.query other) → other ≡ one
  go Ver g m = m files tt ∙ sym g
  go Das g m = absurd (clash a.name (λ s. Is (das_text s)) other form (m none tt) (m empty tt))
  go Dds g m = absurd (clash a.name (λ s. DdsAnswers s a.query) other form (m none tt) (m empty tt))
  go Dods g m = absurd (clash a.name (λ s. DodsAnswers s a.query) other form (m none tt) (m empty tt))
