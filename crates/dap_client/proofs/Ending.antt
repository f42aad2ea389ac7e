-- What the bytes are where they end, by the stage of the reader.
use Rattle.std.proofs.Common.{◌≡◌, ℕ, suc, ◌+◌, ◌-◌, ◌<◌, ◌≤◌, true, false, cond, List, [], ◌∷◌, ◌++◌, length, take, drop, codes, refl, sym, ap, subst, ◌∙◌, append_assoc, append-nil, length-append, inl, inr, ◌⊎◌, ⊎_elim, arith, Option, Result, Ok, Err, OnErr}
use Rattle.std.proofs.Math.Seq.{take-append-add, take-length}
use Rattle.std.specs.Io.KnownBytes.{Appends}
use Rattle.dap_outside.specs.Streams.{AppendsFront}
use Rattle.std.proofs.lemmas.Bool.{cases_lt, false≢true}
use Rattle.std.proofs.lemmas.List.{take-append-drop, take-append-le, take_all, nil_from_length}
use Rattle.std.proofs.lemmas.List.Sums.{sum_by-cons}
use Rattle.std.specs.Fmt.{decimal}
use Rattle.std.specs.List.{count_by, flat_map}
use Rattle.dap_errors.specs.Reading as errors
use Rattle.dap_types.specs.Model.{Dataset, Tree}
use Rattle.dap_model.proofs.OneSpelling.{one_spelling}
use Rattle.dap_model.proofs.OneVerdict.{bad_not_open, ended_not_bad, ended_not_open}
use Rattle.dap_model.specs.Dds.{dds}
use Rattle.dap_model.specs.Fits.{FitsAll}
use Rattle.dap_model.specs.Partly.{ShowsLines}
use Rattle.dap_model.specs.Received.{ValuesEndAt, IsCut, IsFront, IsOpen, ends_element, lines, open_line}
use Rattle.dap_model.specs.Shown.{element_line, elements_all, shown}
use Rattle.dap_model.specs.Xdr.{Field, count, filler, mark, number, packed, size, text, padding, fields_all, Spells, SpellsFields}
use Rattle.xdr_fields.proofs.Walk.{Silent, all_walked}
use Rattle.xdr_decode.specs.After as decoding
use Rattle.xdr_decode.specs.Shown.{ShowsFront}
use Rattle.xdr_decode.specs.Verdict.{budget}
use Rattle.dap_client.proofs.Values.{all_good}
use Rattle.reply_faults.specs.declared.bad.Bad.{Bad}
use Rattle.reply_faults.specs.declared.bad.Bad.TheVariants.{BadError, Cut}
use Rattle.reply_faults.specs.declared.bad.BadField.{BadField}
use Rattle.xdr_decode.specs.declared.decoder.Decoder.{Decoder}
use Rattle.error_word.proofs.InMemory.{error_here, no_error_here}
use Rattle.dap_client.proofs.Filling.{nothing_of_error, values_lines}
use Rattle.error_word.specs.inner.FirstWords.{IsError, IsNoError}
use Rattle.dap_client.specs.inner.Readers.{IsEnded, IsFinished, WhereWriteFault, completed}
use Rattle.dap_client.specs.declared.reader.Ended.{Ended}
use Rattle.dap_client.specs.Verdict.{IsVerdict, Judges, bad, dods_form, good, is_fault}
use Rattle.dap_client.specs.Shows.{BreaksOff}
use Rattle.dap_client.specs.declared.outcome.Outcome.TheVariants as outcome
use Rattle.dap_client.specs.inner.Stages.{IsInValues, IsDataRefused}
use Rattle.dap_client.specs.declared.reader.Ended.TheVariants as ended

-- ---- the lines of whole values
silent_field : (f : Field) → Silent f → ends_element f ≡ false
silent_field (count n) silent = refl
silent_field (number b v) silent = absurd silent
silent_field (packed v) silent = absurd silent
silent_field (filler n) silent = refl
silent_field (size n) silent = refl
silent_field (text b) silent = refl
silent_field (padding n) silent = absurd silent
silent_field (mark b) silent = refl

counts_one : (f : Field) (fs : List Field) (n : ℕ) → ends_element f ≡ true → count_by ends_element fs ≡ n → count_by ends_element (f ∷ fs) ≡ suc n
counts_one f fs n is rest =
    let e : count_by ends_element (f ∷ fs) ≡ 1 + count_by ends_element fs = sum_by-cons (λ x. cond (ends_element x) 1 0) f fs ∙ ap (λ c. cond c 1 0 + count_by ends_element fs) is in
    omega (arith, e, rest)

counts_none : (f : Field) (fs : List Field) (n : ℕ) → ends_element f ≡ false → count_by ends_element fs ≡ n → count_by ends_element (f ∷ fs) ≡ n
counts_none f fs n is rest =
    let e : count_by ends_element (f ∷ fs) ≡ 0 + count_by ends_element fs = sum_by-cons (λ x. cond (ends_element x) 1 0) f fs ∙ ap (λ c. cond c 1 0 + count_by ends_element fs) is in
    omega (arith, e, rest)

all_counted : (d : Dataset) (ts : List Tree) → FitsAll d.members ts → count_by ends_element (fields_all d.members ts) ≡ length (elements_all [] d.members ts)
all_counted d ts fit = all_walked (λ ws fs es. count_by ends_element fs ≡ length es)
    (λ w ws f fs es goes silent q. counts_none f fs (length es) (silent_field f silent) q)
    (λ path base v ws fs es num is q. counts_one (number base v) fs (length es) refl q)
    (λ path v ws fs es is q. counts_one (packed v) fs (length es) refl q)
    (λ path base bytes ws fs es txt short q.
    counts_none (size (length bytes)) (text bytes ∷ padding (length bytes) ∷ fs) (suc (length es)) refl
    (counts_none (text bytes) (padding (length bytes) ∷ fs) (suc (length es)) refl (counts_one (padding (length bytes)) fs (length es) refl q)))
    d.members ts fit refl

all_lines : (d : Dataset) (ts : List Tree) → FitsAll d.members ts → lines d ts (fields_all d.members ts) ≡ flat_map element_line (elements_all [] d.members ts)
all_lines d ts fit =
    ap (λ n. flat_map element_line (take n (elements_all [] d.members ts))) (all_counted d ts fit)
    ∙ ap (flat_map element_line) (take_all (length (elements_all [] d.members ts)) (elements_all [] d.members ts) (omega arith))

-- a front that is all of the values
record IsAll (d : Dataset) (ts : List Tree) (whole more : List ℕ) : Type 0 where
  lines_are : whole ≡ flat_map element_line (elements_all [] d.members ts)
  none : more ≡ []

front_all : (d : Dataset) (ts : List Tree) (bs whole more : List ℕ) → Spells d ts bs → IsFront d bs whole more → IsAll d ts whole more
front_all d ts bs whole more s f = by f.rest f.in_order f.cut f.is_begun
  where
    by : (rest : List Field) → fields_all d.members f.trees ≡ f.fields ++ rest → IsCut rest (length f.own) → more ≡ open_line d f.trees f.fields rest (length f.own) → IsAll d ts whole more
    by [] order cut begun =
        let all : bs ≡ f.front = f.parts ∙ ap (λ l. f.front ++ l) (nil_from_length f.own cut) ∙ append-nil f.front in
        let fields : f.fields ≡ fields_all d.members f.trees = sym (order ∙ append-nil f.fields) in
        let own : Spells d f.trees bs = record { fit = f.fit; spelled = subst (λ l. SpellsFields (fields_all d.members f.trees) l) (sym all) (subst (λ fs. SpellsFields fs f.front) fields f.good) } in
        let same : f.trees ≡ ts = (one_spelling d f.trees ts bs [] own (subst (Spells d ts) (sym (append-nil bs)) s)).0 in
        record {
          lines_are = f.are_lines ∙ ap (lines d f.trees) fields ∙ all_lines d f.trees f.fit ∙ ap (λ us. flat_map element_line (elements_all [] d.members us)) same;
          none = begun;
        }
    by (w ∷ rest) order cut begun =
        let on : IsOpen d bs = record { front = f.front; own = f.own; fields = f.fields; wanted = w; parts = f.parts; good = f.good; may_follow = (f.trees, rest, f.fit, order); cut = cut } in
        absurd (ended_not_open d ts bs (length bs) (omega arith, subst (Spells d ts) (sym (take_all (length bs) bs (omega arith))) s) on)

-- all that is shown of values that are whole was put
pub lines_whole : (d : Dataset) (ts : List Tree) (values lines' : List ℕ) → ValuesEndAt d ts values (length values) → ShowsFront d values lines' → lines' ≡ flat_map element_line (elements_all [] d.members ts)
lines_whole d ts values lines' at shows =
    let s : Spells d ts values = subst (Spells d ts) (take_all (length values) values (omega arith)) at.1 in
    let good : values ≡ shows.good = all_good d values shows.good shows.has_good (λ fault p bad. ended_not_bad d ts values (length values) fault p at bad) in
    let a = front_all d ts shows.good shows.whole shows.more (subst (Spells d ts) good s) shows.is_front in
    let (x, begins) = shows.begins in
    let (y, within) = shows.within in
    let empty : x ≡ [] = nil_from_length x (omega (arith, ap length begins, ap length within, ap length a.none, length-append shows.whole shows.more, length-append lines' y, length-append shows.whole x)) in
    begins ∙ ap (λ l. shows.whole ++ l) empty ∙ append-nil shows.whole ∙ a.lines_are

pub shown_whole : (d : Dataset) (ts : List Tree) (n : ℕ) (lines' put : List ℕ) → put ≡ dds d ++ lines' → lines' ≡ flat_map element_line (elements_all [] d.members ts) → shown d ts n ≡ put ++ completed n
shown_whole d ts n lines' put is_put are =
    append_assoc (dds d ++ flat_map element_line (elements_all [] d.members ts) ++ codes "complete ") (decimal n) (codes "\n")
    ∙ append_assoc (dds d ++ flat_map element_line (elements_all [] d.members ts)) (codes "complete ") (decimal n ++ codes "\n")
    ∙ ap (λ l. (dds d ++ l) ++ (codes "complete " ++ (decimal n ++ codes "\n"))) (sym are)
    ∙ ap (λ l. l ++ (codes "complete " ++ (decimal n ++ codes "\n"))) (sym is_put)
    ∙ ap (λ l. put ++ l) (sym (append_assoc (codes "complete ") (decimal n) (codes "\n")))

-- ---- the values end here
pub whole_end : (decoder : Decoder) (bytes put : List ℕ) → length bytes < budget → IsNoError bytes → (o : IsInValues decoder bytes put) → decoding.EndsBehind (decoding.dataset_of decoder) o.begun.values (length o.begun.values) → IsEnded bytes put ended.Whole
whole_end decoder bytes put small none o (ts, at) =
    let d = decoding.dataset_of decoder in
    let b = o.begun in
    let s : Spells d ts b.values = subst (Spells d ts) (take_all (length b.values) b.values (omega arith)) at.1 in
    (d, ts, inl (small, inr (no_error_here bytes none, (b.head, b.values, b.has_head, s))), shown_whole d ts (length bytes) b.lines put b.is_put (lines_whole d ts b.values b.lines at o.shows))

pub cut_end : (decoder : Decoder) (bytes put : List ℕ) (field : BadField) → length bytes < budget → IsNoError bytes → (o : IsInValues decoder bytes put) → IsOpen (decoding.dataset_of decoder) o.begun.values
    → field ≡ record { kind = Cut; place = decoding.start_of decoder + length o.begun.values } → IsEnded bytes put (ended.Bad field)
cut_end decoder bytes put field small none o on is =
    let d = decoding.dataset_of decoder in
    let b = o.begun in
    let long : length bytes ≡ length b.head + length b.values = ap length b.has_head.1 ∙ length-append b.head b.values in
    let place : decoding.start_of decoder + length b.values ≡ length bytes = ap (λ n. n + length b.values) b.starts ∙ sym long in
    let P : ℕ → Type 0 = λ n. IsEnded bytes put (ended.Bad (record { kind = Cut; place = n })) in
    subst (λ f. IsEnded bytes put (ended.Bad f)) (sym is)
    (subst P (sym place) (
      inl (small, inr (no_error_here bytes none, inr (inr (inr (d, b.head, b.values, length b.values, b.has_head, inr (inr (on, refl, refl)), long))))),
      subst (λ l. ShowsLines l put) (sym (take_all (length bytes) bytes (omega arith))) (values_lines decoder bytes put o),
    ))

pub refused_end : (decoder : Decoder) (bytes put : List ℕ) (field : BadField) (start : ℕ) (o : IsInValues decoder bytes put) → decoding.IsFirstBad (decoding.dataset_of decoder) start o.begun.values field → ⊥
refused_end decoder bytes put field start o (fault, place, wrong, is) =
    let d = decoding.dataset_of decoder in
    let b = o.begun in
    ⊎_elim (λ on. bad_not_open d b.values fault place wrong on) (λ e. ended_not_bad d e.0 b.values (length b.values) fault place e.1 wrong) o.good

-- ---- an Error object ends here
pub object_bad : (bytes : List ℕ) (place : ℕ) → length bytes < budget → IsError bytes → errors.IsBad bytes place → IsEnded bytes [] (ended.Bad (record { kind = BadError; place = place }))
object_bad bytes place small error wrong = (inl (small, inl (error_here bytes error, inl (wrong, refl))), nothing_of_error bytes place error)

pub cut_object : (bytes : List ℕ) (taken : ℕ) → length bytes ≡ taken → length bytes < budget → IsError bytes → errors.IsCut bytes → IsEnded bytes [] (ended.Bad (record { kind = Cut; place = taken }))
cut_object bytes taken long small error cut =
    subst (λ n. IsEnded bytes [] (ended.Bad (record { kind = Cut; place = n }))) long (inl (small, inl (error_here bytes error, inr (cut, refl, refl))), nothing_of_error bytes (length bytes) error)

-- ---- the bytes end in the DDS, or in the line behind it
pub cut_here : (bytes : List ℕ) (taken : ℕ) → length bytes ≡ taken → length bytes < budget → Judges dods_form bytes (bad Cut (length bytes)) × ShowsLines (take (length bytes) bytes) [] → IsEnded bytes [] (ended.Bad (record { kind = Cut; place = taken }))
cut_here bytes taken long small (judged, shows) = subst (λ n. IsEnded bytes [] (ended.Bad (record { kind = Cut; place = n }))) long (inl (small, judged), shows)

-- ---- what was wrong stays so
pub refused_verdict : (field : BadField) (bytes put : List ℕ) → length bytes ≤ budget → IsDataRefused field bytes put → (more : List ℕ) → IsVerdict dods_form (bytes ++ more) (bad field.kind field.place)
refused_verdict field bytes put most r more = ⊎_elim
    (λ less. inl (less, r.stays more))
    (λ le.
    let room : budget ≡ length bytes + (budget - length bytes) = omega (arith, most) in
    let front : take budget (bytes ++ more) ≡ bytes ++ take (budget - length bytes) more = ap (λ n. take n (bytes ++ more)) room ∙ take-append-add bytes more (budget - length bytes) in
    inr (le, bad field.kind field.place, subst (λ l. Judges dods_form l (bad field.kind field.place)) (sym front) (r.stays (take (budget - length bytes) more)), inl (r.is_fault, refl)))
    (cases_lt (length (bytes ++ more)) budget)

pub faulty_other : (kind : Bad) → is_fault kind ≡ true → kind ≡ Cut → ⊥
faulty_other kind fault is = false≢true (sym (ap is_fault is) ∙ fault)

pub never_fault : (P : Type 0) (e : Ended) → WhereWriteFault ⊥ e → WhereWriteFault P e
never_fault P ended.Whole never = tt
never_fault P (ended.ServerError object) never = tt
never_fault P (ended.Bad field) never = tt
never_fault P ended.WriteFault never = absurd never
never_fault P ended.Memory never = tt

-- a text that was put whole, where nothing of what follows it was
pub err_before : {T E : Type 0} (r : Result T E) (a b c : Option (List ℕ)) (xs ys : List ℕ) → 0 < length ys → Appends a b xs → OnErr r (c ≡ b) → OnErr r (AppendsFront a c (xs ++ ys))
err_before (Ok x) a b c xs ys some sent same = tt
err_before (Err e) a b c xs ys some sent same =
    let front : take (length xs) (xs ++ ys) ≡ xs = take-append-le (length xs) xs ys (omega arith) ∙ take-length xs in
    (length xs, omega (arith, some, length-append xs ys), subst (Appends a c) (sym front) (subst (λ w. Appends a w xs) (sym same) sent))

-- ---- as an outcome
pub whole_finished : (bytes put : List ℕ) (n : ℕ) → length bytes ≡ n → IsEnded bytes put ended.Whole → IsFinished bytes put (completed n) (outcome.Complete n)
whole_finished bytes put n long (d, ts, v, is) = subst (λ m. IsFinished bytes put (completed m) (outcome.Complete m)) long (refl, (d, ts, v, is))

pub broken_off : (bytes put : List ℕ) (n k : ℕ) → k < length (completed n) → length bytes ≡ n → IsEnded bytes put ended.Whole → BreaksOff bytes (put ++ take k (completed n))
broken_off bytes put n k less long (d, ts, v, is) =
    let line : List ℕ = codes "complete " ++ decimal n in
    let within : take k (completed n) ≡ take k line = take-append-le k line (codes "\n") (omega (arith, less, length-append line (codes "\n"))) in
    let all : shown d ts (length bytes) ≡ (put ++ line) ++ codes "\n" = is ∙ ap (λ m. put ++ completed m) long ∙ sym (append_assoc put line (codes "\n")) in
    inr (d, ts, put ++ line, v, all, (drop k line, ap (λ l. put ++ l) (sym (take-append-drop k line) ∙ ap (λ l. l ++ drop k line) (sym within)) ∙ sym (append_assoc put (take k (completed n)) (drop k line))))
