-- The response of what is left, out of what goes out of its members.
use Rattle.std.proofs.Common.{◌≡◌, ℕ, List, ◌++◌, codes, sym, ap, ◌∙◌, subst}
use Rattle.dap_types.specs.Model.{Dataset, Tree}
use Rattle.dap_model.specs.Body.{body}
use Rattle.dap_model.specs.Dds.{dds}
use Rattle.dap_model.specs.Filter.{Marks, Keeps, SuitsAll, constrained, constrained_trees}
use Rattle.dap_model.specs.Xdr.{bytes_of, xdr}
use Rattle.xdr_encode.proofs.Marking.{marked_are_sent}
use Rattle.xdr_encode.specs.Marked.{members_sent}
use Rattle.saved_source.proofs.Renaming.{all_sent, all_suit}
use Rattle.saved_source.specs.Responses.{saved_dataset}

joined : (text line values sent head : List ℕ) → values ≡ sent → head ≡ text ++ line → (text ++ line) ++ values ≡ head ++ sent
joined text line values sent head is head_is = ap (λ l. l ++ values) (sym head_is) ∙ ap (λ l. head ++ l) is

-- the DDS, the line, and what goes out of the members under their own names
pub whole_text : (marks : Marks) (keeps : Keeps) (name : List ℕ) (response d : Dataset) (ts : List Tree) (head : List ℕ) → d ≡ saved_dataset name response → head ≡ dds (constrained marks d) ++ codes "Data:\n"
    → body (constrained marks d) (constrained_trees marks keeps d ts) ≡ head ++ bytes_of (members_sent marks keeps 1 response.members ts)
whole_text marks keeps name response d ts head is head_is =
    let left : members_sent marks keeps 1 d.members ts ≡ members_sent marks keeps 1 response.members ts = ap (λ e. members_sent marks keeps 1 e.members ts) is ∙ all_sent marks keeps 1 response.members ts in
    let values : xdr (constrained marks d) (constrained_trees marks keeps d ts) ≡ bytes_of (members_sent marks keeps 1 response.members ts) = ap bytes_of (marked_are_sent marks keeps d ts ∙ left) in
    joined (dds (constrained marks d)) (codes "Data:\n") (xdr (constrained marks d) (constrained_trees marks keeps d ts)) (bytes_of (members_sent marks keeps 1 response.members ts)) head values head_is

pub suits_response : (marks : Marks) (name : List ℕ) (response d : Dataset) → d ≡ saved_dataset name response → SuitsAll marks 1 d.members → SuitsAll marks 1 response.members
suits_response marks name response d is suits = all_suit marks 1 response.members (subst (λ e. SuitsAll marks 1 e.members) is suits)
