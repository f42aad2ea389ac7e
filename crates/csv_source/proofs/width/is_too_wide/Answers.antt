use Rattle.std.proofs.Common.{◌≡◌, ◌+◌, ◌∙◌, [], ◌∷◌, ◌++◌, add-one, ap, arith, drop, drop-cons, get_or, length-append, refl, sym}
use Rattle.std.proofs.lemmas.List.{drop_all}
use Rattle.csv.specs.Machine.{field_after, next_record, step}
use Rattle.csv.specs.Reading.{default_config}
use Rattle.csv.specs.declared.parser.State.TheVariants as st
use Rattle.csv_source.specs.inner.Width.{state_of}
use Rattle.csv_source.proofs.Widths.{field-ends, goes-within, narrow, record-ends, text-ends, too-wide}
use Rattle.csv_source.proofs.width.is_too_wide.Goals as goal
use Rattle.csv_source.proofs.width.is_too_wide.Goals.{in-Within, in-FieldEnd+else-ended-eq-MOST_COLUMNS}

pub loop-byte-init : goal.loop-byte-init
loop-byte-init c = (omega arith, [], [], refl, refl)

pub loop-byte-preserved : goal.loop-byte-preserved
loop-byte-preserved c =
    let (few, fields, field, count, stands) = c.loop-byte.invariant in
    let text = c.without_mark-text.result.now in
    let i = c.loop-byte.byte-index in
    let here : drop i text ≡ get_or text i 0 ∷ drop (i + 1) text = drop-cons text i 0 c.loop-byte-test.true ∙ rw add-one refl in
    let before : next_record default_config st.StartRecord [] [] text ≡ next_record default_config (state_of c.loop-byte.place) fields field (get_or text i 0 ∷ drop (i + 1) text) =
    stands ∙ ap (next_record default_config (state_of c.loop-byte.place) fields field) here in
    elim c.match-step.branch [
      | in-Within w ↦
          let one = field_after (step default_config (state_of c.loop-byte.place) (get_or text i 0)).1 (get_or text i 0) field in (
            omega (arith, few, w.ended-is),
            fields,
            one,
            count ∙ sym w.ended-is,
            before ∙ goes-within (state_of c.loop-byte.place) (get_or text i 0) fields field (drop (i + 1) text) w.in-Within.then w.in-Within.ensures
                ∙ ap (λ p. next_record default_config (state_of p) fields one (drop (i + 1) text)) (sym w.place-is),
          )
      | in-FieldEnd+else-ended-eq-MOST_COLUMNS w ↦ (
        omega (arith, few, w.ended-is, w.if-ended-eq-MOST_COLUMNS.false),
        fields ++ (field ∷ []),
        [],
        omega (arith, length-append fields (field ∷ []), count, w.ended-is),
        before ∙ field-ends (state_of c.loop-byte.place) (get_or text i 0) fields field (drop (i + 1) text) w.in-FieldEnd.ensures
            ∙ ap (λ p. next_record default_config (state_of p) (fields ++ (field ∷ [])) [] (drop (i + 1) text)) (sym w.place-is),
      )
    ]

pub returns-then-ended-eq-MOST_COLUMNS : goal.returns-then-ended-eq-MOST_COLUMNS
returns-then-ended-eq-MOST_COLUMNS c =
    let (few, fields, field, count, stands) = c.loop-byte.invariant in
    let text = c.without_mark-text.result.now in
    let i = c.loop-byte.byte-index in
    let here : drop i text ≡ get_or text i 0 ∷ drop (i + 1) text = drop-cons text i 0 c.loop-byte-test.true ∙ rw add-one refl in
    let on : next_record default_config st.StartRecord [] [] text ≡ next_record default_config st.StartField (fields ++ (field ∷ [])) [] (drop (i + 1) text) =
    stands ∙ ap (next_record default_config (state_of c.loop-byte.place) fields field) here ∙ field-ends (state_of c.loop-byte.place) (get_or text i 0) fields field (drop (i + 1) text) c.in-FieldEnd.ensures in
    too-wide c.args.bytes.now text c.without_mark-text.ensures st.StartField (fields ++ (field ∷ [])) [] (drop (i + 1) text) on tt (omega (arith, length-append fields (field ∷ []), count, c.if-ended-eq-MOST_COLUMNS.true))

pub returns-in-RecordEnd : goal.returns-in-RecordEnd
returns-in-RecordEnd c =
    let (few, fields, field, count, stands) = c.loop-byte.invariant in
    let text = c.without_mark-text.result.now in
    let i = c.loop-byte.byte-index in
    let here : drop i text ≡ get_or text i 0 ∷ drop (i + 1) text = drop-cons text i 0 c.loop-byte-test.true ∙ rw add-one refl in
    narrow c.args.bytes.now text c.without_mark-text.ensures (state_of c.loop-byte.place) fields field (get_or text i 0 ∷ drop (i + 1) text)
    (stands ∙ ap (next_record default_config (state_of c.loop-byte.place) fields field) here) (omega (arith, few, count))
    (record-ends (state_of c.loop-byte.place) (get_or text i 0) fields field (drop (i + 1) text) c.in-RecordEnd.ensures)

pub returns : goal.returns
returns c =
    let (few, fields, field, count, stands) = c.loop-byte.invariant in
    let text = c.without_mark-text.result.now in
    narrow c.args.bytes.now text c.without_mark-text.ensures (state_of c.loop-byte.place) fields field []
    (stands ∙ ap (next_record default_config (state_of c.loop-byte.place) fields field) (drop_all c.loop-byte.byte-index text c.loop-byte-test.false)) (omega (arith, few, count))
    (text-ends (state_of c.loop-byte.place) fields field)
