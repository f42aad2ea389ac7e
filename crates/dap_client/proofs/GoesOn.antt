-- What is read of a data response that goes on is not bad yet.
use Rattle.std.proofs.Common.{◌≡◌, ℕ, ◌<◌, true, false, List, [], ◌∷◌, ◌++◌, length, refl, sym, ap, subst, ◌∙◌, append-nil, length-append, inl, inr, arith}
use Rattle.std.proofs.lemmas.Bool.{false≢true}
use Rattle.dap_model.specs.Tokens.{tokens_of}
use Rattle.dap_types.specs.View.{dataset_view}
use Rattle.xdr_decode.specs.Verdict.{budget}
use Rattle.reply_faults.specs.declared.bad.Bad.{Bad}
use Rattle.reply_faults.specs.declared.bad.Bad.TheVariants.{Cut}
use Rattle.dap_client.proofs.Filling.{in_line_cut, text_cut, values_verdict}
use Rattle.dap_client.proofs.OneVerdict.{one_verdict}
use Rattle.dap_client.proofs.Only.{dods_end}
use Rattle.dap_client.specs.After.{IsPart, BodyStandsAfter, form_in}
use Rattle.dap_client.specs.Replies.{IsBadData, Spoils, form_of}
use Rattle.dap_client.specs.Verdict.{Form, Judges, JudgesDods, Verdict, bad, das_form, dds_form, dods_form, is_fault, is_final}
use Rattle.dap_client.specs.inner.Stages.{IsStage, is_open_stage}
use Rattle.dap_client.specs.inner.TextBodies.{IsText}
use Rattle.dap_client.specs.declared.body.Body.{Body}
use Rattle.dap_client.specs.declared.part.Part.{Part}
use Rattle.dap_client.specs.declared.part.Part.TheVariants as part
use Rattle.dap_client.specs.declared.stage.Stage.{Stage}
use Rattle.dap_client.specs.declared.stage.Stage.TheVariants as stage

-- what is wrong whatever follows is more than that the bytes end
stays-fault : (bytes : List ℕ) (kind : Bad) (place : ℕ) → ((more : List ℕ) → JudgesDods (bytes ++ more) (bad kind place)) → is_fault kind ≡ true
stays-fault bytes Cut place stays = absurd (omega (arith, dods_end (bytes ++ []) place (stays []), dods_end (bytes ++ 0 ∷ []) place (stays (0 ∷ [])), length-append bytes [], length-append bytes (0 ∷ [])))
stays-fault bytes kind place stays = refl

no-fault-yet : (bytes : List ℕ) (v : Verdict) → length bytes < budget → Judges dods_form bytes v → is_final v ≡ false → ¬ (IsBadData bytes)
no-fault-yet bytes v small judged other (field, stays) =
    let wrong : Judges dods_form bytes (bad field.kind field.place) = subst (λ (l : List ℕ). Judges dods_form l (bad field.kind field.place)) (append-nil bytes) (inr ((stays []).1, (stays []).2)) in
    let same : v ≡ bad field.kind field.place = one_verdict dods_form bytes v (bad field.kind field.place) (inl (small, judged)) (inl (small, wrong)) in
    false≢true (sym other ∙ ap is_final same ∙ stays-fault bytes field.kind field.place (λ more. (stays more).2))

pub stage-goes-on : (s : Stage) (bytes put : List ℕ) → is_open_stage s ≡ true → length bytes < budget → IsStage s bytes put → ¬ (IsBadData bytes)
stage-goes-on (stage.First word front reader) bytes put on small (first, empty) (field, stays) = (stays []).0 (ap tokens_of (append-nil bytes) ∙ first.is_word.no_token)
stage-goes-on (stage.Error object) bytes put on small (error, object_is, empty) (field, stays) = false≢true (sym (stays []).1 ∙ error [])
stage-goes-on (stage.Text reader) bytes put on small (none, had, unfinished, empty) bad_data = no-fault-yet bytes (bad Cut (length bytes)) small (text_cut bytes none unfinished).0 refl bad_data
stage-goes-on (stage.Line dataset line) bytes put on small (none, o, empty) bad_data = no-fault-yet bytes (bad Cut (length bytes)) small (in_line_cut (dataset_view dataset) line bytes none o).0 refl bad_data
stage-goes-on (stage.Values decoder) bytes put on small (none, o) bad_data = let (v, judged, other, shows) = values_verdict decoder bytes put none o in no-fault-yet bytes v small judged other bad_data
stage-goes-on (stage.Refused field) bytes put on small is bad_data = false≢true on
stage-goes-on (stage.Full field) bytes put on small is bad_data = false≢true on
stage-goes-on stage.Failed bytes put on small is bad_data = false≢true on
stage-goes-on stage.Spent bytes put on small is bad_data = false≢true on

text-goes-on : (form : Form) (bytes : List ℕ) → IsText form → ¬ (Spoils form bytes)
text-goes-on dods_form bytes text spoils = text
text-goes-on dds_form bytes text spoils = spoils
text-goes-on das_form bytes text spoils = spoils

part-goes-on : (form : Form) (p : Part) (bytes put : List ℕ) → IsPart form p bytes put → length bytes < budget → ¬ (Spoils form bytes)
part-goes-on form (part.Data reader) bytes put (same, s, on) small spoils = stage-goes-on reader.stage bytes put on small s.is_stage (subst (λ (f : Form). Spoils f bytes) same spoils)
part-goes-on form (part.Text stage) bytes put (text, s, empty) small spoils = text-goes-on form bytes text spoils

pub body-goes-on : (r : Body) (bytes put : List ℕ) → BodyStandsAfter r bytes put → ¬ (Spoils (form_in r) bytes)
unfolding BodyStandsAfter
body-goes-on r bytes put (p, long, small) spoils = part-goes-on (form_of r.kind) r.part bytes put p small spoils
