-- A data response that is too long is judged so: its first bytes are a good front of it.
use Rattle.std.proofs.Common.{◌≡◌, ℕ, ◌+◌, ◌-◌, ◌<◌, ◌≤◌, ◌^◌, true, false, inl, inr, List, ◌∷◌, [], ◌++◌, length, take, All, codes, None, refl, sym, ap, ◌∙◌, subst, arith, append_assoc, length-append, take_all}
use Rattle.std.proofs.Math.Seq.{take-append-add}
use Rattle.std.proofs.lemmas.Bool.{cases_lt}
use Rattle.std.proofs.lemmas.List.Elements.{All-cons, All-nil}
use Rattle.dap_types.specs.Model.{Dataset, Tree}
use Rattle.dap_types.specs.WellFormed.{IsWellFormed}
use Rattle.dap_model.proofs.Limits.{within_limits}
use Rattle.dap_model.proofs.PrintedDataset.{reads_print}
use Rattle.dap_model.proofs.PrintedMembers.{dds_text, dds-text}
use Rattle.dap_model.proofs.Spelling.{xdr_spells}
use Rattle.dap_model.specs.Body.{IsHead, body, too_large}
use Rattle.dap_model.specs.Dds.{dds}
use Rattle.dap_model.specs.Fits.{FitsAll}
use Rattle.dap_model.specs.Grammar.{HasWords}
use Rattle.dap_model.specs.Tokens.{is_white}
use Rattle.dap_model.specs.Xdr.{Spells, xdr}
use Rattle.xdr_decode.specs.Verdict.{budget}
use Rattle.reply_faults.specs.declared.bad.Bad.TheVariants.{Cut, TooLong}
use Rattle.error_word.proofs.Bodies.{text_no_error}
use Rattle.error_word.specs.Saying.{says_error}
use Rattle.dap_client.proofs.Filling.{budget_is}
use Rattle.dap_client.specs.Verdict.{IsVerdict, Judges, bad, dods_form, good}
use Rattle.both_ends.proofs.Fronts.{front_open}

-- the head of a data response, as it is sent
printed-head : (d : Dataset) → HasWords d → IsWellFormed d → length (dds d) ≤ 16777216 → IsHead (dds d ++ codes "Data:\n") d
printed-head d words is short =
    let shorter : length (dds d) ≡ length (dds_text d) + 1 = ap length (dds-text d) ∙ length-append (dds_text d) (codes "\n") in
    record {
      text = dds_text d;
      white = codes "\n";
      end = codes "\n";
      parts = ap (λ (l : List ℕ). l ++ codes "Data:\n") (dds-text d) ∙ sym (append_assoc (dds_text d ++ codes "\n") (codes "Data:") (codes "\n"));
      is_text = reads_print d words is;
      is_white = All-cons (λ b. is_white b ≡ true) 10 [] refl (All-nil (λ b. is_white b ≡ true));
      is_end = inl refl;
      text_limit = omega (arith, short, shorter);
    }

-- what begins with a head is no Error object
head-no-error : (head more : List ℕ) (d : Dataset) → IsHead head d → says_error (head ++ more) ≡ false
head-no-error head more d h =
    let laid : head ++ more ≡ h.text ++ (h.white ++ (codes "Data:" ++ (h.end ++ more))) =
    ap (λ (l : List ℕ). l ++ more) h.parts ∙ append_assoc (h.text ++ h.white ++ codes "Data:") h.end more
    ∙ append_assoc (h.text ++ h.white) (codes "Data:") (h.end ++ more) ∙ append_assoc h.text h.white (codes "Data:" ++ (h.end ++ more)) in
    ap says_error laid ∙ text_no_error h.text (h.white ++ (codes "Data:" ++ (h.end ++ more))) d h.is_text

-- a head and some of its values, which go on
cut-judged : (head values : List ℕ) (d : Dataset) (ts : List Tree) (k : ℕ) → IsHead head d → Spells d ts values → k < length values
    → Judges dods_form (head ++ take k values) (bad Cut (length (head ++ take k values)))
cut-judged head values d ts k h spells lt = inr (
  head-no-error head (take k values) d h,
  inr (inr (inr (d, head, take k values, length (take k values), (h, refl), inr (inr (front_open d ts values k spells lt, refl, refl)), length-append head (take k values)))),
)

whole-judged : (head values : List ℕ) (d : Dataset) (ts : List Tree) → IsHead head d → Spells d ts values → Judges dods_form (head ++ values) (good d ts)
whole-judged head values d ts h spells = inr (head-no-error head values d h, (head, values, (h, refl), spells))

limit-is : budget ≡ 2 ^ 40
limit-is = budget_is

long-judged : (head values : List ℕ) (d : Dataset) (ts : List Tree) → IsHead head d → Spells d ts values → length head < 2 ^ 40 → 2 ^ 40 ≤ length (head ++ values) → IsVerdict dods_form (head ++ values) (bad TooLong (2 ^ 40))
long-judged head values d ts h spells few long =
    let k : ℕ = budget - length head in
    let at : budget ≡ length head + k = omega (arith, few, budget_is) in
    let front : take budget (head ++ values) ≡ head ++ take k values = ap (λ (n : ℕ). take n (head ++ values)) at ∙ take-append-add head values k in
    let enough : budget ≤ length (head ++ values) = omega (arith, long, budget_is) in
    let place : bad TooLong (2 ^ 40) ≡ bad TooLong budget = ap (bad TooLong) (sym limit-is) in
    elim (cases_lt k (length values)) [
      | inl lt ↦ inr (
        enough,
        bad Cut (length (head ++ take k values)),
        subst (λ (l : List ℕ). Judges dods_form l (bad Cut (length (head ++ take k values)))) (sym front) (cut-judged head values d ts k h spells lt),
        inr (refl, place),
      )
      | inr ge ↦ inr (
        enough,
        good d ts,
        subst (λ (l : List ℕ). Judges dods_form l (good d ts)) (sym (front ∙ ap (λ (l : List ℕ). head ++ l) (take_all k values ge))) (whole-judged head values d ts h spells),
        inr (refl, place),
      )
    ]

-- what is sent of a dataset that is not too large
pub too-long : (d : Dataset) (ts : List Tree) → HasWords d → IsWellFormed d → FitsAll d.members ts → too_large d ≡ None → 2 ^ 40 ≤ length (body d ts) → IsVerdict dods_form (body d ts) (bad TooLong (2 ^ 40))
too-long d ts words is fit none long =
    let limits = within_limits d none in
    long-judged (dds d ++ codes "Data:\n") (xdr d ts) d ts (printed-head d words is limits.0)
    (xdr_spells d ts (λ k p lt. let few = limits.1 k p lt in omega (arith, few)) fit)
    (omega (arith, limits.0, length-append (dds d) (codes "Data:\n"))) long
