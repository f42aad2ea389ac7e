-- What may be put of some front of a data response is what may be put of its good part.
use Rattle.std.proofs.Common.{◌≡◌, ℕ, ◌+◌, ◌<◌, true, List, [], ◌∷◌, ◌++◌, length, take, drop, codes, Some, None, refl, ap, ◌∙◌, sym, subst, arith, append_assoc, append-nil, inl, inr}
use Rattle.std.proofs.Math.Seq.{take-append-add, take-append_seam}
use Rattle.std.proofs.lemmas.Bool.{false≢true}
use Rattle.std.proofs.lemmas.List.{take-append-drop, take_all}
use Rattle.dap_types.specs.Model.{Dataset, Tree}
use Rattle.dap_model.proofs.OneBody.{one_head}
use Rattle.dap_model.specs.Dds.{dds}
use Rattle.dap_model.specs.Partly.{ShowsPart}
use Rattle.dap_model.specs.Received.{Fault, HasHead, IsBadField, IsFront, IsOpen, IsPrefix}
use Rattle.dap_model.specs.Xdr.{Spells, fields_all}
use Rattle.xdr_fields.proofs.Decided.{fault_room, width_room}
use Rattle.xdr_fields.proofs.Growing.{Grown, Reaches, bad_stuck, grown, prefix_trans, reaches_all, short_stuck}
use Rattle.xdr_fields.proofs.Judged.{all_lead, follows_steps, steps_follow}
use Rattle.xdr_fields.specs.Wants.{Want, a_count, a_value, a_byte, a_filler, a_text, a_padding, rows, fault_in, wants_of}
use Rattle.xdr_fields.specs.inner.Reached.{IsCut, IsEnded, IsSpoilt}
use Rattle.xdr_decode.proofs.OneVerdict.{bad_head, bad_line_head, cut_head}
use Rattle.xdr_decode.proofs.Turning.{faulty_wide}
use Rattle.xdr_decode.specs.Verdict.{HasHeadOf, HasMore, IsWrong, kind_of}
use Rattle.reply_faults.specs.declared.bad.Bad.{Bad}
use Rattle.error_word.proofs.Bodies.{text_no_error}
use Rattle.dap_client.proofs.Lines.{empty_front}
use Rattle.dap_client.specs.Answered.{good_part}
use Rattle.dap_client.specs.GoodParts.{IsGoodPart}
use Rattle.dap_client.specs.Shows.{StopsWithin}
use Rattle.error_word.specs.Saying.{says_error}
use Rattle.dap_client.specs.Verdict.{Judges, JudgesDods, Verdict, bad, dods_form, good, good_das, good_dds, server_error}

-- ---- values, field by field
record Reached (d : Dataset) (values own : List ℕ) : Type 0 where
  grows : (bs rest whole more : List ℕ) → values ≡ bs ++ rest → IsFront d bs whole more → Grown d own (whole ++ more)

ended : (d : Dataset) (values own : List ℕ) (e : IsEnded (wants_of d) values) → own ≡ e.front → Reached d values own
ended d values own e is = record {
  grows = λ bs rest whole more parts front. grown d bs rest whole more e.leads.fields [] e.front e.rest own [] front e.leads.steps e.leads.spelled (sym parts ∙ e.parts) tt refl tt (is ∙ sym (append-nil e.front));
}

cut : (d : Dataset) (values : List ℕ) → IsCut (wants_of d) values → Reached d values values
cut d values e = record {
  grows = λ bs rest whole more parts front.
      grown d bs rest whole more e.leads.fields (e.wanted ∷ e.behind) e.front e.own values e.own front e.leads.steps e.leads.spelled (sym parts ∙ e.parts)
      (short_stuck e.wanted e.behind e.own e.short) e.short (reaches_all (e.wanted ∷ e.behind) e.own) e.parts;
}

no_fault : (fault : Fault) → None ≡ Some fault → ⊥
no_fault fault same = cc

-- a text is never bad
reaches_bad : (w : Want) (ws : List Want) (fault : Fault) (y : List ℕ) → fault_in w ≡ Some fault → Reaches (w ∷ ws) y []
reaches_bad (a_text n) ws fault y is = absurd (no_fault fault is)
reaches_bad (a_count n) ws fault y is = tt
reaches_bad (a_value path base) ws fault y is = tt
reaches_bad (a_byte path) ws fault y is = tt
reaches_bad (a_filler n) ws fault y is = tt
reaches_bad (a_padding n) ws fault y is = tt
reaches_bad (rows above name columns row) ws fault y is = tt

spoilt : (d : Dataset) (values own : List ℕ) (e : IsSpoilt (wants_of d) values) → own ≡ e.front → Reached d values own
spoilt d values own e is = record {
  grows = λ bs rest whole more parts front.
      grown d bs rest whole more e.leads.fields (e.wanted ∷ e.behind) e.front (e.own ++ e.rest) own [] front e.leads.steps e.leads.spelled (sym parts ∙ e.parts)
      (bad_stuck e.wanted e.behind e.own e.rest e.whole e.none) (faulty_wide e.wanted e.own (kind_of e.fault) (e.fault, e.is_fault, refl, e.none) e.whole)
      (reaches_bad e.wanted e.behind e.fault (e.own ++ e.rest) e.is_fault) (is ∙ sym (append-nil e.front));
}

spelled_reached : (d : Dataset) (ts : List Tree) (values : List ℕ) → Spells d ts values → Reached d values values
spelled_reached d ts values s =
    ended d values values (record { front = values; rest = []; leads = record { fields = fields_all d.members ts; steps = all_lead d ts s.fit; spelled = s.spelled }; parts = sym (append-nil values) }) refl

more_reached : (d : Dataset) (values : List ℕ) (place : ℕ) (m : HasMore d values place) → Reached d values m.whole
more_reached d values place m =
    ended d values m.whole (record { front = m.whole; rest = m.next ∷ m.rest; leads = record { fields = fields_all d.members m.trees; steps = all_lead d m.trees m.spelled.fit; spelled = m.spelled.spelled }; parts = m.parts }) refl

open_reached : (d : Dataset) (values : List ℕ) → IsOpen d values → Reached d values values
open_reached d values o =
    let (w, ws, steps, goes) = follows_steps d o.fields o.wanted o.may_follow in
    cut d values (record { front = o.front; own = o.own; wanted = w; behind = ws; leads = record { fields = o.fields; steps = steps; spelled = o.good }; parts = o.parts; short = subst (λ n. length o.own < n) (width_room w o.wanted goes) o.cut })

bad_reached : (d : Dataset) (values : List ℕ) (fault : Fault) (place : ℕ) (b : IsBadField d values fault place) → Reached d values b.front
bad_reached d values fault place b =
    let (w, ws, steps, goes) = follows_steps d b.fields b.wanted b.may_follow in
    spoilt d values b.front
    (record {
      front = b.front;
      own = b.own;
      rest = b.rest;
      wanted = w;
      behind = ws;
      fault = fault;
      leads = record { fields = b.fields; steps = steps; spelled = b.good };
      parts = b.parts ∙ append_assoc b.front b.own b.rest;
      whole = b.whole ∙ width_room w b.wanted goes;
      is_fault = sym (fault_room w b.wanted goes) ∙ b.is_fault;
      none = λ f on. b.bad f (steps_follow d b.fields f w ws steps on);
    })
    refl

-- the values before what is wrong
seam : (values front rest : List ℕ) (at : ℕ) → values ≡ front ++ rest → at ≡ length front → take at values ≡ front
seam values front rest at parts is = ap (λ n. take n values) is ∙ ap (take (length front)) parts ∙ take-append_seam front rest

wrong_reached : (d : Dataset) (values : List ℕ) (kind : Bad) (at : ℕ) → IsWrong d values kind at → Reached d values (take at values)
wrong_reached d values kind at (inl (fault, b, k)) =
    subst (Reached d values) (sym (seam values b.front (b.own ++ b.rest) at (b.parts ∙ append_assoc b.front b.own b.rest) b.is_place)) (bad_reached d values fault at b)
wrong_reached d values kind at (inr (inl (m, k))) = subst (Reached d values) (sym (seam values m.whole (m.next ∷ m.rest) at m.parts m.is_place)) (more_reached d values at m)
wrong_reached d values kind at (inr (inr (o, p, k))) = subst (Reached d values) (sym (take_all at values (omega (arith, p)))) (open_reached d values o)

-- ---- with a good `Data:` line
lines_grow : (dds' whole more further' rest : List ℕ) → IsPrefix (whole ++ more) (further' ++ rest) → IsPrefix (dds' ++ whole ++ more) (dds' ++ further' ++ rest)
lines_grow dds' whole more further' rest (x, is) = (
  x,
  append_assoc dds' further' rest ∙ ap (λ l. dds' ++ l) is ∙ sym (append_assoc dds' (whole ++ more) x) ∙ ap (λ l. l ++ x) (sym (append_assoc dds' whole more)),
)

of_values : (d : Dataset) (bytes head values part own front rest text : List ℕ) → HasHeadOf bytes d head values → Reached d values own → part ≡ head ++ own → bytes ≡ front ++ rest → ShowsPart front text → ShowsPart part text
of_values d bytes head values part own front rest text (h, parts) r part_is is (inl p) =
    let (heads, datasets, behind) = one_head head p.head values (p.values ++ rest) d p.dataset h p.is_head (sym parts ∙ is ∙ ap (λ l. l ++ rest) p.parts ∙ append_assoc p.head p.values rest) in
    let g = r.grows p.values rest p.whole p.more behind (subst (λ e. IsFront e p.values p.whole p.more) (sym datasets) p.is_front) in
    inl (record {
      head = head;
      dataset = d;
      values = own;
      whole = g.whole;
      more = g.more;
      parts = part_is;
      is_head = h;
      is_front = g.is_front;
      within = prefix_trans text (dds d ++ p.whole ++ p.more) (dds d ++ g.whole ++ g.more) (subst (λ e. IsPrefix text (dds e ++ p.whole ++ p.more)) (sym datasets) p.within)
          (lines_grow (dds d) p.whole p.more g.whole g.more g.within);
    })
of_values d bytes head values part own front rest text (h, parts) r part_is is (inr (none, empty)) =
    let (whole, more, start) = empty_front d in
    let g = r.grows [] values whole more refl start in
    inl (record {
      head = head;
      dataset = d;
      values = own;
      whole = g.whole;
      more = g.more;
      parts = part_is;
      is_head = h;
      is_front = g.is_front;
      within = subst (λ t. IsPrefix t (dds d ++ g.whole ++ g.more)) (sym empty) (dds d ++ g.whole ++ g.more, refl);
    })

-- ---- without one
pub head_more : (bytes front rest : List ℕ) → bytes ≡ front ++ rest → HasHead front → HasHead bytes
head_more bytes front rest is (head, values, d, parts, h) = (head, values ++ rest, d, is ∙ ap (λ l. l ++ rest) parts ∙ append_assoc head values rest, h)

of_none : (bytes part left front rest text : List ℕ) → ¬ (HasHead bytes) → bytes ≡ part ++ left → bytes ≡ front ++ rest → ShowsPart front text → ShowsPart part text
of_none bytes part left front rest text none part_is is (inl p) = absurd (none (head_more bytes front rest is (p.head, p.values, p.dataset, p.parts, p.is_head)))
of_none bytes part left front rest text none part_is is (inr (no_head, empty)) = inr (λ h. none (head_more bytes part left part_is h), empty)

none_by : (bytes : List ℕ) → ((d : Dataset) (head values : List ℕ) → HasHeadOf bytes d head values → ⊥) → ¬ (HasHead bytes)
none_by bytes never (head, values, d, parts, h) = never d head values (h, parts)

error_none : (bytes : List ℕ) → says_error bytes ≡ true → ¬ (HasHead bytes)
error_none bytes says (head, values, d, parts, h) =
    let behind : List ℕ = h.white ++ (codes "Data:" ++ (h.end ++ values)) in
    let laid : bytes ≡ h.text ++ behind =
    parts ∙ ap (λ l. l ++ values) h.parts ∙ append_assoc (h.text ++ h.white ++ codes "Data:") h.end values ∙ append_assoc (h.text ++ h.white) (codes "Data:") (h.end ++ values) ∙ append_assoc h.text h.white (codes "Data:" ++ (h.end ++ values)) in
    false≢true (sym (text_no_error h.text behind d h.is_text) ∙ ap says_error (sym laid) ∙ says)

-- ---- the good part
good_front : (v : Verdict) (bytes : List ℕ) → (left : List ℕ) × (bytes ≡ good_part v bytes ++ left)
good_front (bad kind place) bytes = (drop place bytes, sym (take-append-drop place bytes))
good_front (good d ts) bytes = ([], sym (append-nil bytes))
good_front (good_dds d) bytes = ([], sym (append-nil bytes))
good_front (good_das a) bytes = ([], sym (append-nil bytes))
good_front (server_error e) bytes = ([], sym (append-nil bytes))

of_body : (bytes front rest text : List ℕ) (v : Verdict) → JudgesDods bytes v → bytes ≡ front ++ rest → ShowsPart front text → ShowsPart (good_part v bytes) text
of_body bytes front rest text (good d ts) (head, values, has, s) is shows = of_values d bytes head values bytes values front rest text has (spelled_reached d ts values s) has.1 is shows
of_body bytes front rest text (bad kind place) (inl (b, k)) is shows =
    of_none bytes (take place bytes) (drop place bytes) front rest text (none_by bytes (λ d head values has. bad_head bytes place d head values b has)) (sym (take-append-drop place bytes)) is shows
of_body bytes front rest text (bad kind place) (inr (inl (b, k))) is shows =
    of_none bytes (take place bytes) (drop place bytes) front rest text (none_by bytes (λ d head values has. bad_line_head bytes place d head values b has)) (sym (take-append-drop place bytes)) is shows
of_body bytes front rest text (bad kind place) (inr (inr (inl (c, at, k)))) is shows =
    of_none bytes (take place bytes) (drop place bytes) front rest text (none_by bytes (λ d head values has. cut_head bytes d head values c has)) (sym (take-append-drop place bytes)) is shows
of_body bytes front rest text (bad kind place) (inr (inr (inr (d, head, values, at, has, wrong, place_is)))) is shows =
    let part_is : take place bytes ≡ head ++ take at values = ap (λ n. take n bytes) place_is ∙ ap (take (length head + at)) has.1 ∙ take-append-add head values at in
    of_values d bytes head values (take place bytes) (take at values) front rest text has (wrong_reached d values kind at wrong) part_is is shows
of_body bytes front rest text (good_dds d) judged is shows = absurd judged
of_body bytes front rest text (good_das a) judged is shows = absurd judged
of_body bytes front rest text (server_error e) judged is shows = absurd judged

of_judged : (bytes front rest text : List ℕ) (v : Verdict) → Judges dods_form bytes v → bytes ≡ front ++ rest → ShowsPart front text → ShowsPart (good_part v bytes) text
of_judged bytes front rest text v (inl (says, error)) is shows =
    let (left, parts) = good_front v bytes in of_none bytes (good_part v bytes) left front rest text (error_none bytes says) parts is shows
of_judged bytes front rest text v (inr (says, judged)) is shows = of_body bytes front rest text v judged is shows

pub stops_in_good_part : (bytes part text : List ℕ) → IsGoodPart bytes part → (StopsWithin bytes text → ShowsPart part text) × (ShowsPart part text → StopsWithin bytes text)
stops_in_good_part bytes part text (v, judged, is) = (
  λ s. let (front, rest, parts, shows) = s in subst (λ l. ShowsPart l text) (sym is) (of_judged bytes front rest text v judged parts shows),
  λ shows. let (left, parts) = good_front v bytes in (part, left, parts ∙ ap (λ l. l ++ left) (sym is), shows),
)
