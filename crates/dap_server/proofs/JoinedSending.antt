-- From what the maker of a body of joined files says to what these are answered with.
use Rattle.std.proofs.Common.{◌≡◌, ℕ, List, ◌++◌, length, Err, codes, ap, ◌∙◌, subst}
use Rattle.dap_types.specs.Model.{Dataset}
use Rattle.dap_model.specs.Dds.{dds}
use Rattle.dap_model.specs.Filter.{Marks, constrained}
use Rattle.dap_errors.specs.declared.cause.Cause.{Cause}
use Rattle.constraint_parse.specs.declared.constraint.Constraint.{Constraint}
use Rattle.grid_projection.specs.Marks.{marks}
use Rattle.join_source.specs.Asked.{JoinedAsk}
use Rattle.join_source.specs.Members.{joined_dataset}
use Rattle.netcdf_source.specs.declared.header.Contents.{Contents}
use Rattle.dap_server.proofs.Answering.{dds_refused}
use Rattle.dap_server.specs.Costs.{join_head_len, join_marks}
use Rattle.dap_server.specs.Files.{Stored}
use Rattle.dap_server.specs.Results.{DdsAnswers}
use Rattle.dap_server.specs.inner.Marking.{IsRefusedOn}
use Rattle.dap_server.specs.inner.Opening.{WhereRefused}
use Rattle.dap_server.specs.declared.no_answer.Stop.{Stop}
use Rattle.dap_server.specs.declared.no_answer.Stop.TheVariants.{Refused, ShelfFault, Memory}

-- what is asked at a fault, in the words of the name and the constraint
pub asks_as : (cs : List Contents) (name : List ℕ) (constraint : Constraint) (d : Dataset) (m : Marks) (files : List (List ℕ)) (put cost : ℕ) → d ≡ joined_dataset cs name → m ≡ marks d constraint
    → JoinedAsk cs m files (length (dds (constrained m d) ++ codes "Data:\n")) put cost → JoinedAsk cs (join_marks cs name constraint) files (join_head_len cs name constraint) put cost
asks_as cs name constraint d m files put cost is_d is_m asks =
    subst (λ e. JoinedAsk cs (marks e constraint) files (length (dds (constrained (marks e constraint) e) ++ codes "Data:\n")) put cost) is_d
    (subst (λ n. JoinedAsk cs n files (length (dds (constrained n d) ++ codes "Data:\n")) put cost) is_m asks)

pub marked_as : (cs : List Contents) (name : List ℕ) (constraint : Constraint) (d : Dataset) (m : Marks) → d ≡ joined_dataset cs name → m ≡ marks d constraint → m ≡ join_marks cs name constraint
marked_as cs name constraint d m is_d is_m = is_m ∙ ap (λ e. marks e constraint) is_d

-- each cause of a refusal answers
pub for_refused : {P Q : Cause → Type 0} → ((why : Cause) → P why → Q why) → (stop : Stop) → WhereRefused P stop → WhereRefused Q stop
for_refused f (Refused why) p = f why p
for_refused f ShelfFault p = tt
for_refused f Memory p = tt

-- a query that is refused on the dataset of files of any bytes
pub dds_refused_stop : {X : Type 0} (stored : X → Stored) (query : List ℕ) (d : Dataset) (s : Stop) → ((x : X) → d ≡ (stored x).dataset) → WhereRefused (IsRefusedOn d query) s
    → WhereRefused (λ why. (x : X) → DdsAnswers (stored x) query (Err why)) s
dds_refused_stop stored query d (Refused why) is_d is = λ x. dds_refused (stored x) query d why (is_d x) is
dds_refused_stop stored query d ShelfFault is_d is = tt
dds_refused_stop stored query d Memory is_d is = tt
