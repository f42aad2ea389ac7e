-- From the body of a saved response to what a stored file is answered with.
use Rattle.std.proofs.Common.{◌≡◌, ℕ, List, None, Ok, Err, refl, sym, subst}
use Rattle.dap_types.specs.Model.{Dataset, Tree}
use Rattle.dap_model.specs.Body.{too_large}
use Rattle.dap_model.specs.Filter.{Marks, constrained}
use Rattle.constraint_parse.specs.Values.{Spells}
use Rattle.constraint_parse.specs.declared.constraint.Constraint.{Constraint}
use Rattle.grid_projection.specs.Marks.{marks}
use Rattle.grid_projection.specs.Resolved.{cause}
use Rattle.sequence_select.specs.Selections.{selections}
use Rattle.xdr_encode.proofs.CdfBodies.{long_head}
use Rattle.saved_source.specs.Bodies.{Sends, filtered_body}
use Rattle.saved_source.specs.Refusals.{IsBodyRefusal}
use Rattle.saved_source.specs.Responses.{Holds, IsSaved}
use Rattle.saved_source.specs.declared.body.SavedBody.{SavedBody}
use Rattle.saved_source.specs.declared.refusal.SavedBodyRefusal.{SavedBodyRefusal}
use Rattle.saved_source.specs.declared.refusal.SavedBodyRefusal.TheVariants as bodies
use Rattle.saved_source.specs.declared.saved.Saved.{Saved}
use Rattle.dap_http.specs.declared.kind.Kind.TheVariants.{Dods}
use Rattle.dap_server.proofs.Answering.{dods_large, dods_small}
use Rattle.dap_server.specs.Files.{saved_stored}
use Rattle.dap_server.specs.Results.{DodsAnswers, result_text}
use Rattle.dap_server.specs.inner.Opening.{WhereRefused, saved_stop}
use Rattle.dap_server.specs.declared.no_answer.Stop.{Stop}

-- the response that it sends is that of what the constraint leaves
pub saved_text : (e : Dataset) (query : List ℕ) (d : Dataset) (c : Constraint) (m : Marks) (s : Saved) (b : SavedBody) → d ≡ e → Spells query c → cause d c ≡ None → m ≡ marks d c
    → ((ts : List Tree) → Holds s ts → Sends b (filtered_body m (selections d c) d ts))
    → ((bytes name : List ℕ) (ts : List Tree) → IsSaved bytes name d ts → too_large (constrained m d) ≡ None)
    → (bytes name : List ℕ) (ts : List Tree) → IsSaved bytes name e ts → Holds s ts → (text : List ℕ) × Sends b text × DodsAnswers (saved_stored e ts) query (Ok (result_text Dods text))
saved_text e query d c m s b is_d spells accepted is_m sends fits bytes name ts is holds =
    let small : too_large (constrained m d) ≡ None = fits bytes name ts (subst (λ x. IsSaved bytes name x ts) (sym is_d) is) in
    let text : List ℕ = filtered_body m (selections d c) d ts in
    (text, sends ts holds, dods_small (saved_stored e ts) query d c m text is_d spells accepted is_m small refl)

-- it is too large
pub saved_large : (e : Dataset) (query : List ℕ) (d : Dataset) (c : Constraint) (m : Marks) (refusal : SavedBodyRefusal) (s : Stop) → d ≡ e → Spells query c → cause d c ≡ None → m ≡ marks d c
    → IsBodyRefusal (constrained m d) refusal → s ≡ saved_stop refusal → WhereRefused (λ why. (ts : List Tree) → DodsAnswers (saved_stored e ts) query (Err why)) s
saved_large e query d c m bodies.TooLarge s is_d spells accepted is_m long is =
    rw is (λ ts. dods_large (saved_stored e ts) query d c m 0 is_d spells accepted is_m (long_head (constrained m d) long))
saved_large e query d c m bodies.Memory s is_d spells accepted is_m long is = rw is tt
