use Rattle.std.proofs.Common.{◌≡◌, ◌∷◌, ◌++◌, ◌+◌, ◌<◌, ◌∙◌, [], Some, length, drop, sym, ap, arith, append_assoc}
use Rattle.std.proofs.lemmas.List.{append-nil, drop_all}
use Rattle.csv.specs.Records.{field_at, fields_of}
use Rattle.csv.proofs.RecordFacts.{field-get, field-there}
use Rattle.csv_source.specs.Header.{column_of, columns_from}
use Rattle.csv_source.proofs.Columns.{columns-end, columns-step}
use Rattle.csv_source.proofs.Rows.{fields-here}
use Rattle.csv_source.proofs.header.header_columns.Goals as goal
use Rattle.csv_source.proofs.header.header_columns.Goals.{in-Some+in_ok-field_column+in_ok-push, in_default}

pub fields-preserved : goal.fields-preserved
fields-preserved c =
    let fields = fields_of c.args.header.now in
    let i = c.fields.i in
    let small : i < length fields = omega (arith, c.len-i-end.ensures, c.fields-test.true) in
    elim c.match-get.branch [
      | in-Some+in_ok-field_column+in_ok-push w ↦
          let at : field_at fields i ≡ Some w.in-Some.field.now = rw w.in-Some.is at (sym c.get.ensures.value) in
          let is = field-get fields i w.in-Some.field.now at in
          let step = columns-step (i + 1) (drop i fields) (drop (i + 1) fields) w.in-Some.field.now (fields-here fields i w.in-Some.field.now small is) in
          rw (w.columns-is, w.in_ok-push.ensures.ok, w.in_ok-field_column.ensures)
          (c.fields.invariant ∙ rw step (sym (append_assoc c.fields.columns (column_of (i + 1) w.in-Some.field.now ∷ []) (columns_from (i + 1 + 1) (drop (i + 1) fields)))))
      | in_default w ↦ absurd (field-there fields i small (rw w.in_default.is at (sym c.get.ensures.value)))
    ]

pub returns : goal.returns
returns c =
    let fields = fields_of c.args.header.now in
    let none = columns-end (c.fields.i + 1) (drop c.fields.i fields) (drop_all c.fields.i fields (omega (arith, c.len-i-end.ensures, c.fields-test.false))) in
    sym (c.fields.invariant ∙ ap (λ xs. c.fields.columns ++ xs) none ∙ append-nil c.fields.columns)
