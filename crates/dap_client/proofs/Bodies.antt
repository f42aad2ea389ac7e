-- The good bodies are those of the model.
use Rattle.std.proofs.Common.{◌≡◌, ℕ, ◌^◌, ◌<◌, List, length, ap, ◌∙◌, inl, inr, arith}
use Rattle.std.proofs.lemmas.Bool.{false≢true}
use Rattle.dap_types.specs.Model.{Dataset, Tree}
use Rattle.dap_model.specs.Body.{IsBody}
use Rattle.xdr_decode.proofs.OneVerdict.{good_body}
use Rattle.xdr_decode.specs.Verdict.{budget}
use Rattle.reply_faults.specs.declared.bad.Bad.TheVariants.{TooLong}
use Rattle.dap_client.proofs.Filling.{budget_is}
use Rattle.error_word.proofs.Bodies.{body_no_error}
use Rattle.dap_client.specs.Verdict.{IsVerdict, bad, dods_form, good, is_final}

short_body : (n : ℕ) → n < 2 ^ 40 → n < budget
short_body n short = omega (arith, short, budget_is)

pub body_good : (bytes : List ℕ) (d : Dataset) (ts : List Tree) → IsBody bytes d ts → IsVerdict dods_form bytes (good d ts)
body_good bytes d ts b = inl (short_body (length bytes) b.limit, inr (body_no_error bytes d ts b, (b.head, b.values, (b.is_head, b.parts), b.is_values)))

good_other : (d : Dataset) (ts : List Tree) (place : ℕ) → good d ts ≡ bad TooLong place → ⊥
good_other d ts place is = cc

pub good_is_body : (bytes : List ℕ) (d : Dataset) (ts : List Tree) → IsVerdict dods_form bytes (good d ts) → IsBody bytes d ts
good_is_body bytes d ts (inl (small, inl (error, judged))) = absurd judged
good_is_body bytes d ts (inl (small, inr (none, judged))) = good_body bytes d ts judged small
good_is_body bytes d ts (inr (long, front, judged, inl (final, same))) = absurd (false≢true (ap is_final same ∙ final))
good_is_body bytes d ts (inr (long, front, judged, inr (other, same))) = absurd (good_other d ts budget same)
