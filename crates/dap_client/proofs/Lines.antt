-- What stands behind a piece of the line `Data:`, and where the DDS is put behind it.
use Rattle.std.proofs.Common.{◌≡◌, ℕ, ◌+◌, ◌<◌, ◌≤◌, List, [], ◌∷◌, ◌++◌, length, take, drop, codes, refl, sym, ap, subst, ◌∙◌, append_assoc, append-nil, length-append, inl, inr, ◌⊎◌, ⊎_elim, arith}
use Rattle.std.proofs.Math.Seq.{take-append-add, take-append_seam}
use Rattle.std.proofs.lemmas.List.{take-append-drop}
use Rattle.std.proofs.lemmas.List.Elements.{All-nil}
use Rattle.dap_types.specs.Model.{Dataset}
use Rattle.dap_model.proofs.OneBody.{one_head}
use Rattle.dap_model.specs.Body.{IsHead}
use Rattle.dap_model.specs.Dds.{dds}
use Rattle.dap_model.specs.Received.{IsFront, HasHead}
use Rattle.xdr_fields.proofs.Fronts.{Shows, shows}
use Rattle.xdr_fields.proofs.Judged.{judge}
use Rattle.xdr_fields.specs.Wants.{wants_of}
use Rattle.xdr_decode.proofs.OneVerdict.{cut_head}
use Rattle.xdr_decode.proofs.Turning.{faulty_wide}
use Rattle.xdr_decode.specs.Verdict.{EndsInDataLine, EndsInHead, HasText, IsBadDataLine, IsDataLine, kind_of}
use Rattle.reply_faults.specs.declared.bad.Bad.TheVariants.{BadDataLine}
use Rattle.dap_client.specs.Shows.{HasFewValues, StopsWithin}
use Rattle.dap_client.specs.inner.DataLines.{IsLineFront}
use Rattle.error_word.specs.inner.FirstWords.{IsNoError}
use Rattle.dap_client.specs.inner.Stages.{IsInLine, IsDataRefused}
use Rattle.dap_client.specs.declared.data_line.DataLine.{DataLine}

-- no values are a good front
both_none : (a b : List ℕ) → [] ≡ a ++ b → (a ≡ []) × (b ≡ [])
both_none [] b is = (refl, sym is)
both_none (x ∷ a) b is = cc

of_none : (d : Dataset) (bs put : List ℕ) → bs ≡ [] → Shows d bs put → (whole : List ℕ) × (more : List ℕ) × IsFront d [] whole more
of_none d bs put none s = (s.whole, s.more, subst (λ l. IsFront d l s.whole s.more) none s.is_front)

pub empty_front : (d : Dataset) → (whole : List ℕ) × (more : List ℕ) × IsFront d [] whole more
empty_front d = ⊎_elim
    (λ e. let (front, rest) = both_none e.front e.rest e.parts in of_none d (e.front ++ []) _ (append-nil e.front ∙ front) (shows d e.leads.fields [] e.front [] e.leads.steps e.leads.spelled refl))
    (λ r. ⊎_elim
    (λ e. of_none d (e.front ++ e.own) _ (sym e.parts) (shows d e.leads.fields (e.wanted ∷ e.behind) e.front e.own e.leads.steps e.leads.spelled e.short))
    (λ e. let (front, rest) = both_none e.front (e.own ++ e.rest) e.parts in
    of_none d (e.front ++ []) _ (append-nil e.front ∙ front) (shows d e.leads.fields (e.wanted ∷ e.behind) e.front [] e.leads.steps e.leads.spelled (faulty_wide e.wanted e.own (kind_of e.fault) (e.fault, e.is_fault, refl, e.none) e.whole)))
    r)
    (judge (wants_of d) [] (All-nil (λ b. b < 256)))

-- a put of the DDS failed
pub dds_fault : (d : Dataset) (bytes piece : List ℕ) (k : ℕ) → IsHead bytes d → StopsWithin (bytes ++ piece) (take k (dds d))
dds_fault d bytes piece k h =
    let (whole, more, front) = empty_front d in (
      bytes,
      piece,
      refl,
      inl (record {
        head = bytes;
        dataset = d;
        values = [];
        whole = whole;
        more = more;
        parts = sym (append-nil bytes);
        is_head = h;
        is_front = front;
        within = (
          drop k (dds d) ++ (whole ++ more),
          append_assoc (dds d) whole more ∙ ap (λ l. l ++ (whole ++ more)) (sym (take-append-drop k (dds d))) ∙ append_assoc (take k (dds d)) (drop k (dds d)) (whole ++ more),
        );
      }),
    )

-- a piece alone stands behind the line
pub few_behind : (d : Dataset) (bytes piece : List ℕ) → IsHead bytes d → length piece ≤ 65536 → HasFewValues 65536 (bytes ++ piece)
few_behind d bytes piece h few e head values (g, is) =
    let (heads, datasets, same) = one_head bytes head piece values d e h g is in
    omega (arith, few, ap length same)

-- more stands behind a text
pub text_more : (bytes more text rest : List ℕ) (d : Dataset) → HasText bytes d text rest → HasText (bytes ++ more) d text (rest ++ more)
text_more bytes more text rest d has = record { parts = ap (λ l. l ++ more) has.parts ∙ append_assoc text rest more; is_text = has.is_text; text_limit = has.text_limit }

-- the line goes on
pub line_on : (d : Dataset) (line next : DataLine) (bytes piece : List ℕ) (o : IsInLine d line bytes) → IsLineFront next (o.rest ++ piece) → IsInLine d next (bytes ++ piece)
line_on d line next bytes piece o front = record {
  text = o.text;
  rest = o.rest ++ piece;
  has_text = text_more bytes piece o.text o.rest d o.has_text;
  is_front = front;
  well_formed = o.well_formed;
}

-- it ends
pub line_head : (d : Dataset) (line : DataLine) (bytes front : List ℕ) (o : IsInLine d line bytes) → IsDataLine (o.rest ++ front) → IsHead (bytes ++ front) d
line_head d line bytes front o l = record {
  text = o.text;
  white = l.white;
  end = l.end;
  parts = ap (λ k. k ++ front) o.has_text.parts ∙ append_assoc o.text o.rest front ∙ ap (λ k. o.text ++ k) l.parts ∙ sym (append_assoc o.text l.white (codes "Data:" ++ l.end)) ∙ sym (append_assoc (o.text ++ l.white) (codes "Data:") l.end);
  is_text = o.has_text.is_text;
  is_white = l.is_white;
  is_end = l.is_end;
  text_limit = o.has_text.text_limit;
}

pub bad_line_more : (bytes more : List ℕ) (place : ℕ) → IsBadDataLine bytes place → IsBadDataLine (bytes ++ more) place
bad_line_more bytes more place b = record {
  front = b.front;
  next = b.next;
  rest = b.rest ++ more;
  parts = ap (λ l. l ++ more) b.parts ∙ append_assoc b.front (b.next ∷ b.rest) more;
  begun = b.begun;
  bad = b.bad;
  is_place = b.is_place;
}

-- bytes that end in a head have none
pub cut_no_head : (bytes : List ℕ) → EndsInHead bytes → ¬ (HasHead bytes)
cut_no_head bytes cut (head, values, d, parts, h) = cut_head bytes d head values cut (h, parts)

-- it differs
pub line_refused : (d : Dataset) (line : DataLine) (bytes piece : List ℕ) (place at : ℕ) (o : IsInLine d line bytes) → length bytes ≡ place → IsNoError (bytes ++ piece) → IsBadDataLine (o.rest ++ piece) (length o.rest + at)
    → IsDataRefused (record { kind = BadDataLine; place = place + at }) (bytes ++ piece) []
line_refused d line bytes piece place at o long none bad =
    let text : List ℕ = o.text in
    let has = text_more bytes piece text o.rest d o.has_text in
    let parts : bytes ++ piece ≡ text ++ (o.rest ++ piece) = has.parts in
    let spot : place + at ≡ length text + (length o.rest + at) = omega (arith, long, ap length o.has_text.parts, length-append text o.rest) in
    let front : take (place + at) (bytes ++ piece) ≡ text ++ bad.front =
    ap (λ n. take n (bytes ++ piece)) (spot ∙ ap (λ n. length text + n) bad.is_place) ∙ ap (take (length text + length bad.front)) parts ∙ take-append-add text (o.rest ++ piece) (length bad.front)
    ∙ ap (λ l. text ++ take (length bad.front) l) bad.parts ∙ ap (λ l. text ++ l) (take-append_seam bad.front (bad.next ∷ bad.rest)) in
    record {
      stays = λ more. inr (
        none more,
        inr (inl (
          (
            d,
            text,
            (o.rest ++ piece) ++ more,
            length o.rest + at,
            text_more (bytes ++ piece) more text (o.rest ++ piece) d has,
            bad_line_more (o.rest ++ piece) more (length o.rest + at) bad,
            spot,
          ),
          refl,
        )),
      );
      is_fault = refl;
      shows = inr (
        cut_no_head (take (place + at) (bytes ++ piece)) (inr (d, text, bad.front, record { parts = front; is_text = o.has_text.is_text; text_limit = o.has_text.text_limit }, bad.begun)),
        refl,
      );
    }

-- nothing of it is wrong while it goes on
pub line_cut : (d : Dataset) (line : DataLine) (bytes : List ℕ) (o : IsInLine d line bytes) → EndsInDataLine o.rest → EndsInHead bytes
line_cut d line bytes o cut = inr (d, o.text, o.rest, o.has_text, cut)

pub differs_within : (rest piece : List ℕ) (at : ℕ) → IsBadDataLine (rest ++ piece) (length rest + at) → at < length piece
differs_within rest piece at bad = omega (arith, bad.is_place, ap length bad.parts, length-append rest piece, length-append bad.front (bad.next ∷ bad.rest))
