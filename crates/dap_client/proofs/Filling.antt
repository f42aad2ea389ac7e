-- The stages once as many bytes came as are looked at.
use Rattle.std.proofs.Common.{◌≡◌, ℕ, ◌+◌, ◌<◌, ◌≤◌, Bool, true, false, List, [], ◌++◌, length, take, drop, refl, sym, ap, subst, ◌∙◌, append-nil, length-append, inl, inr, ◌⊎◌, ⊎_elim, arith}
use Rattle.std.proofs.Math.Seq.{take-append_seam}
use Rattle.std.proofs.lemmas.List.{take-append-drop, take_all}
use Rattle.dap_types.specs.Model.{Dataset}
use Rattle.dap_model.proofs.OneVerdict.{bad_not_open, ended_not_bad}
use Rattle.dap_model.specs.Partly.{ShowsLines}
use Rattle.dap_model.specs.Xdr.{Spells}
use Rattle.dap_errors.specs.Reading.{ErrorOf, IsEnd}
use Rattle.dap_errors.specs.declared.object.ErrorObject.{ErrorObject}
use Rattle.dds_text.specs.Reading.{IsBadText, IsUnfinished}
use Rattle.xdr_decode.specs.After as decoding
use Rattle.xdr_decode.specs.Verdict.{budget}
use Rattle.reply_faults.specs.declared.bad.Bad.TheVariants.{BadDds, Cut, TooLong}
use Rattle.xdr_decode.specs.declared.decoder.Decoder.{Decoder}
use Rattle.dap_client.proofs.Begun.{error_no_head}
use Rattle.dap_client.proofs.DataLines.{unended}
use Rattle.dap_client.proofs.Lines.{cut_no_head, line_cut}
use Rattle.dap_client.proofs.Texts.{bad_no_head, open_no_head}
use Rattle.dap_client.proofs.Values.{all_good, may_show}
use Rattle.dap_client.specs.Verdict.{Judges, Verdict, bad, dods_form, good, is_final, server_error}
use Rattle.error_word.proofs.InMemory.{error_here, no_error, no_error_here}
use Rattle.error_word.specs.inner.FirstWords.{IsError, IsNoError, IsOpenWord}
use Rattle.dap_client.specs.inner.Objects.{IsBehind, IsTrail}
use Rattle.dap_client.specs.inner.Stages.{IsFull, IsInLine, IsInValues}
use Rattle.dap_client.specs.declared.data_line.DataLine.{DataLine}
use Rattle.error_word.specs.declared.first_word.FirstWord.{FirstWord}

-- ---- the verdict on bytes of each stage
pub first_bad : (word : FirstWord) (bytes : List ℕ) (place p start : ℕ) → IsOpenWord word bytes → start ≡ 0 → place ≡ start + p → IsBadText (bytes ++ []) p → Judges dods_form bytes (bad BadDds place) × ShowsLines (take place bytes) []
first_bad word bytes place p start o zero is bad' =
    let here : IsBadText bytes place = subst (IsBadText bytes) (omega (arith, zero, is)) (subst (λ l. IsBadText l p) (append-nil bytes) bad') in
    (inr (no_error bytes o.no_token, inl (here, refl)), inr (bad_no_head bytes place here, refl))

pub first_cut : (word : FirstWord) (bytes : List ℕ) → IsOpenWord word bytes → IsUnfinished (bytes ++ []) → Judges dods_form bytes (bad Cut (length bytes)) × ShowsLines (take (length bytes) bytes) []
first_cut word bytes o unfinished = (
  inr (no_error bytes o.no_token, inr (inr (inl (inl (subst IsUnfinished (append-nil bytes) unfinished), refl, refl)))),
  subst (λ l. ShowsLines l []) (sym (take_all (length bytes) bytes (omega arith))) (inr (open_no_head word bytes o, refl)),
)

pub text_cut : (bytes : List ℕ) → IsNoError bytes → IsUnfinished bytes → Judges dods_form bytes (bad Cut (length bytes)) × ShowsLines (take (length bytes) bytes) []
text_cut bytes none unfinished = (
  inr (no_error_here bytes none, inr (inr (inl (inl unfinished, refl, refl)))),
  subst (λ l. ShowsLines l []) (sym (take_all (length bytes) bytes (omega arith))) (inr (cut_no_head bytes (inl unfinished), refl)),
)

pub in_line_cut : (d : Dataset) (line : DataLine) (bytes : List ℕ) → IsNoError bytes → IsInLine d line bytes → Judges dods_form bytes (bad Cut (length bytes)) × ShowsLines (take (length bytes) bytes) []
in_line_cut d line bytes none o =
    let cut = line_cut d line bytes o (unended line.come o.rest o.is_front) in (
      inr (no_error_here bytes none, inr (inr (inl (cut, refl, refl)))),
      subst (λ l. ShowsLines l []) (sym (take_all (length bytes) bytes (omega arith))) (inr (cut_no_head bytes cut, refl)),
    )

-- all values are shown where none is bad
pub values_lines : (decoder : Decoder) (bytes put : List ℕ) → IsInValues decoder bytes put → ShowsLines bytes put
values_lines decoder bytes put o =
    let d = decoding.dataset_of decoder in
    let b = o.begun in
    let s = o.shows in
    let all : b.values ≡ s.good = all_good d b.values s.good s.has_good (λ fault p wrong. ⊎_elim (λ on. bad_not_open d b.values fault p wrong on) (λ e. ended_not_bad d e.0 b.values (length b.values) fault p e.1 wrong) o.good) in
    inl (may_show d bytes b.head s.good s.whole s.more b.lines put (b.has_head.1 ∙ ap (λ l. b.head ++ l) all) b.has_head.0 s.is_front s.begins s.within b.is_put)

pub values_verdict : (decoder : Decoder) (bytes put : List ℕ) → IsNoError bytes → IsInValues decoder bytes put → (v : Verdict) × Judges dods_form bytes v × (is_final v ≡ false) × ShowsLines bytes put
values_verdict decoder bytes put none o =
    let d = decoding.dataset_of decoder in
    let b = o.begun in
    let long : length bytes ≡ length b.head + length b.values = ap length b.has_head.1 ∙ length-append b.head b.values in
    ⊎_elim
    (λ on. (bad Cut (length bytes), inr (no_error_here bytes none, inr (inr (inr (d, b.head, b.values, length b.values, b.has_head, inr (inr (on, refl, refl)), long)))), refl, values_lines decoder bytes put o))
    (λ e. (good d e.0, inr (no_error_here bytes none, (b.head, b.values, b.has_head, subst (Spells d e.0) (take_all (length b.values) b.values (omega arith)) e.1.1)), refl, values_lines decoder bytes put o))
    o.good

-- ---- where the budget is reached
pub full_front : (bytes more : List ℕ) → length bytes ≡ budget → take budget (bytes ++ more) ≡ bytes
full_front bytes more full = ap (λ n. take n (bytes ++ more)) (sym full) ∙ take-append_seam bytes more

full_long : (bytes more : List ℕ) → length bytes ≡ budget → budget ≤ length (bytes ++ more)
full_long bytes more full = omega (arith, full, length-append bytes more)

bad_dds_other : BadDds ≡ Cut → ⊥
bad_dds_other is = cc

too_long_other : TooLong ≡ Cut → ⊥
too_long_other is = cc

pub full_bad : (bytes put : List ℕ) (place : ℕ) → length bytes ≡ budget → Judges dods_form bytes (bad BadDds place) → ShowsLines (take place bytes) put → IsFull (record { kind = BadDds; place = place }) bytes put
full_bad bytes put place full judged shows = record {
  full = full;
  stays = λ more. inr (full_long bytes more full, bad BadDds place, subst (λ l. Judges dods_form l (bad BadDds place)) (sym (full_front bytes more full)) judged, inl (refl, refl));
  other = bad_dds_other;
  shows = shows;
}

pub budget_is : budget ≡ 1099511627776
unfolding budget
budget_is = refl

pub full_too_long : (bytes put : List ℕ) (v : Verdict) → length bytes ≡ budget → Judges dods_form bytes v → is_final v ≡ false → ShowsLines bytes put → IsFull (record { kind = TooLong; place = 1099511627776 }) bytes put
full_too_long bytes put v full judged other shows = record {
  full = full;
  stays = λ more. inr (full_long bytes more full, v, subst (λ l. Judges dods_form l v) (sym (full_front bytes more full)) judged, inr (other, ap (bad TooLong) (sym budget_is)));
  other = too_long_other;
  shows = subst (λ l. ShowsLines l put) (sym (take_all 1099511627776 bytes (omega (arith, full, budget_is)))) shows;
}

pub unfinished_not_full : (bytes : List ℕ) → length bytes ≡ budget → IsUnfinished bytes → ⊥
unfinished_not_full bytes full unfinished = omega (arith, full, budget_is, unfinished.1)

-- an Error object
trail_end : (semicolon : Bool) (bytes : List ℕ) → IsTrail semicolon bytes → IsEnd bytes
trail_end false bytes all = inl all
trail_end true bytes parts = inr parts

pub behind_error : (bytes : List ℕ) (object : ErrorObject) (semicolon : Bool) → IsBehind bytes object semicolon → ErrorOf bytes object
behind_error bytes object semicolon o = record { behind = o.behind; ends = o.ends; end = trail_end semicolon (drop o.behind bytes) o.trail }

pub nothing_of_error : (bytes : List ℕ) (place : ℕ) → IsError bytes → ShowsLines (take place bytes) []
nothing_of_error bytes place error = inr (λ h. error_no_head bytes (take place bytes) (drop place bytes) error (sym (take-append-drop place bytes)) h, refl)

pub full_object : (bytes : List ℕ) (object : ErrorObject) (semicolon : Bool) → length bytes ≡ budget → IsError bytes → IsBehind bytes object semicolon → IsFull (record { kind = TooLong; place = 1099511627776 }) bytes []
full_object bytes object semicolon full error o =
    full_too_long bytes [] (server_error object) full (inl (error_here bytes error, behind_error bytes object semicolon o)) refl
    (subst (λ l. ShowsLines l []) (take_all (length bytes) bytes (omega arith)) (nothing_of_error bytes (length bytes) error))

pub short_not_full : (bytes : List ℕ) → length bytes ≡ budget → length bytes < 65536 → ⊥
short_not_full bytes full short = omega (arith, full, budget_is, short)

pub full_in_line : (d : Dataset) (line : DataLine) (bytes : List ℕ) → length bytes ≡ budget → IsNoError bytes → IsInLine d line bytes → IsFull (record { kind = TooLong; place = 1099511627776 }) bytes []
full_in_line d line bytes full none o =
    let (judged, shows) = in_line_cut d line bytes none o in
    full_too_long bytes [] (bad Cut (length bytes)) full judged refl (subst (λ l. ShowsLines l []) (take_all (length bytes) bytes (omega arith)) shows)

pub full_values : (decoder : Decoder) (bytes put : List ℕ) → length bytes ≡ budget → IsNoError bytes → IsInValues decoder bytes put → IsFull (record { kind = TooLong; place = 1099511627776 }) bytes put
full_values decoder bytes put full none o = let (v, judged, other, shows) = values_verdict decoder bytes put none o in full_too_long bytes put v full judged other shows

pub full_at : (n taken : ℕ) → n ≡ taken → taken ≡ 1099511627776 → n ≡ budget
full_at n taken one two = omega (arith, one, two, budget_is)

pub less_than_full : (taken : ℕ) → taken ≤ 1099511627776 → (taken ≡ 1099511627776 → ⊥) → taken < budget
less_than_full taken le not = omega (arith, le, not, budget_is)

pub nothing_within : 0 < budget
nothing_within = omega (arith, budget_is)

pub nothing_most : 0 ≤ budget
nothing_most = omega (arith, budget_is)

pub most_at : (n taken : ℕ) → n ≡ taken → taken ≤ 1099511627776 → n ≤ budget
most_at n taken is le = omega (arith, is, le, budget_is)
