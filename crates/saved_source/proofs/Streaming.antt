-- A body on its way out: its head, and behind it what goes out of its members.
use Rattle.std.proofs.Common.{◌≡◌, ℕ, ◌+◌, ◌<◌, ◌≤◌, ◌^◌, List, [], ◌++◌, length, codes, Option, Result, Ok, Err, OnErr, OnOk, sym, ap, ◌∙◌, subst, arith, append-nil}
use Rattle.dap_types.specs.Model.{Dataset, Tree, count_all}
use Rattle.dap_types.specs.View.{dataset_view, members_view}
use Rattle.dap_types.specs.WellFormed.{IsWellFormed, places_of}
use Rattle.dap_types.specs.declared.declarations.Decl.{Decl}
use Rattle.dap_model.proofs.Numbering.{members_are_counted}
use Rattle.dap_model.specs.Dds.{dds}
use Rattle.dap_model.specs.Filter.{Marks, SuitsAll, constrained}
use Rattle.dap_model.specs.Rows.{Selection, kept}
use Rattle.dap_model.specs.Xdr.{bytes_of}
use Rattle.dap_outside.proofs.Passing.{front_as, front_first, front_second, passes_as, passes_two, stopped_before}
use Rattle.dap_outside.specs.Buffered.{Passes, PassesFront}
use Rattle.dap_outside.specs.Streams.{AppendsFront}
use Rattle.grid_projection.specs.Resolved.{marks_in}
use Rattle.sequence_select.specs.Tests.{tested}
use Rattle.xdr_encode.specs.Marked.{members_sent}
use Rattle.saved_source.proofs.Bodies.{suits_response, whole_text}
use Rattle.saved_source.proofs.Renaming.{same_counts}
use Rattle.saved_source.specs.Bodies.{Sends, filtered_body}
use Rattle.saved_source.specs.Responses.{Holds, dataset_in, values_of}
use Rattle.saved_source.specs.Walked.{StandMembers}
use Rattle.saved_source.specs.declared.body.SavedBody.{SavedBody}
use Rattle.saved_source.specs.declared.saved.Saved.{Saved}

-- ---- a body that was made
pub few_members : (s : Saved) (d : Dataset) → d ≡ dataset_in s → IsWellFormed d → 1 + count_all (members_view s.response.members) < 2 ^ 32
unfolding dataset_in
few_members s d is well =
    let own : count_all d.members ≡ count_all (members_view s.response.members) = ap (λ e. count_all e.members) is ∙ same_counts (members_view s.response.members) in
    let places : length (places_of d) ≡ count_all d.members = members_are_counted d in
    let few : length (places_of d) ≤ 1000000 = well.few in
    omega arith

pub body_text : (b : SavedBody) (marks : Marks) (clauses : List Selection) (d : Dataset) (ts : List Tree) → marks_in b.marks ≡ marks → tested b.tests ≡ clauses → b.head ≡ dds (constrained marks d) ++ codes "Data:\n" → d ≡ dataset_in b.saved → SuitsAll marks 1 d.members → Holds b.saved ts
    → Sends b (filtered_body marks clauses d ts)
unfolding Sends dataset_in
body_text b marks clauses d ts marks_are tests_are head_is d_is suits holds = record {
  values = ts;
  holds = holds;
  suits = subst (λ m. SuitsAll m 1 (dataset_view b.saved.response).members) (sym marks_are) (suits_response marks b.saved.file_name (dataset_view b.saved.response) d d_is suits);
  parts = whole_text marks (kept clauses) b.saved.file_name (dataset_view b.saved.response) d ts b.head d_is head_is
      ∙ ap (λ m. b.head ++ bytes_of (members_sent m (kept clauses) 1 (dataset_view b.saved.response).members ts)) (sym marks_are)
      ∙ ap (λ cs. b.head ++ bytes_of (members_sent (marks_in b.marks) (kept cs) 1 (dataset_view b.saved.response).members ts)) (sym tests_are);
}

-- ---- a body that goes out
pub record Told (b : SavedBody) (text : List ℕ) (decls : List Decl) (bytes : List ℕ) : Type 0 where
  pub values : List Tree
  pub stand : StandMembers (marks_in b.marks) 1 (members_view decls) values bytes []
  pub parts : text ≡ b.head ++ bytes_of (members_sent (marks_in b.marks) (kept (tested b.tests)) 1 (members_view decls) values)

pub told : (b : SavedBody) (text : List ℕ) (decls : List Decl) (bytes : List ℕ) → decls ≡ b.saved.response.members → bytes ≡ values_of b.saved → Sends b text → Told b text decls bytes
unfolding Sends Holds
told b text decls bytes decls_are bytes_are s = record {
  values = s.values;
  stand = subst (λ ds. StandMembers (marks_in b.marks) 1 (members_view ds) s.values bytes []) (sym decls_are)
      (subst (λ l. StandMembers (marks_in b.marks) 1 (members_view b.saved.response.members) s.values l []) (sym bytes_are)
      (record { fit = s.holds.fit; suits = s.suits; spelt = (values_of b.saved, sym (append-nil (values_of b.saved)), s.holds.spelled) }));
  parts = s.parts ∙ ap (λ ds. b.head ++ bytes_of (members_sent (marks_in b.marks) (kept (tested b.tests)) 1 (members_view ds) s.values)) (sym decls_are);
}

pub head_failed : (a b : Option (List ℕ)) (held text head own rest : List ℕ) → held ≡ [] → own ≡ head → text ≡ head ++ rest → PassesFront a held b own → AppendsFront a b text
head_failed a b held text head own rest empty own_is parts p = stopped_before a b held text empty (front_as a b held (own ++ rest) text (ap (λ l. l ++ rest) own_is ∙ sym parts) (front_first a b held own rest p))

pub rest_failed : (a b c : Option (List ℕ)) (held mid text head own rest : List ℕ) → held ≡ [] → own ≡ head → text ≡ head ++ rest → Passes a held b mid own → PassesFront b mid c rest → AppendsFront a c text
rest_failed a b c held mid text head own rest empty own_is parts p q =
    stopped_before a c held text empty (front_as a c held (own ++ rest) text (ap (λ l. l ++ rest) own_is ∙ sym parts) (front_second a b c held mid own rest p q))

pub all_passed : (a b c : Option (List ℕ)) (held mid left text head own rest : List ℕ) → own ≡ head → text ≡ head ++ rest → Passes a held b mid own → Passes b mid c left rest → Passes a held c left text
all_passed a b c held mid left text head own rest own_is parts p q = passes_as a c held left (own ++ rest) text (ap (λ l. l ++ rest) own_is ∙ sym parts) (passes_two a b c held mid left own rest p q)

pub on_ok_each : {T E : Type 0} (r : Result T E) (S P : List ℕ → Type 0) → ((text : List ℕ) → S text → OnOk r (P text)) → OnOk r ((text : List ℕ) → S text → P text)
on_ok_each (Ok x) S P each = each
on_ok_each (Err e) S P each = tt

pub on_err_each : {T E : Type 0} (r : Result T E) (S P : List ℕ → Type 0) → ((text : List ℕ) → S text → OnErr r (P text)) → OnErr r ((text : List ℕ) → S text → P text)
on_err_each (Ok x) S P each = tt
on_err_each (Err e) S P each = each
