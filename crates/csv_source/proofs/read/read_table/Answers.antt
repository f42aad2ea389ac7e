use Rattle.std.proofs.Common.{rules, sym, subst, ap, arith, ◌≡◌, ◌∙◌, ◌∷◌, [], true, false, None, Some}
use Rattle.std.proofs.lemmas.Result.{err_from_is_err_and}
use Rattle.csv.specs.Records.{fields_of}
use Rattle.csv_source.specs.Csv.{csv_records}
use Rattle.csv_source.specs.Header.{columns_of, repeated}
use Rattle.csv_source.specs.inner.Held.{fields_in}
use Rattle.csv_source.proofs.Columns.{columns-length}
use Rattle.csv_source.proofs.Standings.{stands-front}
use Rattle.csv_source.specs.inner.Width.{TellsWidth}
use Rattle.csv_source.proofs.Widths.{few-fields}
use Rattle.csv_source.proofs.TableFacts.{file-long, file-records, no-header, repeats, row-wrong, table-found, too-wide}
use Rattle.csv_source.proofs.read.read_table.Goals as goal

pub returns-then-bytes-gt-MOST_BYTES-clause-first_cause : goal.returns-then-bytes-gt-MOST_BYTES-clause-first_cause
returns-then-bytes-gt-MOST_BYTES-clause-first_cause c = λ _. file-long c.args.file_name.now c.args.bytes.now (omega (arith, c.if-bytes-gt-MOST_BYTES.true))

pub returns-then-not-branch-clause-first_cause : goal.returns-then-not-branch-clause-first_cause
returns-then-not-branch-clause-first_cause c = λ _.
    let file_name = c.args.file_name.now in
    let bytes = c.args.bytes.now in
    let reads = c.in_ok-next_record.ensures.reads bytes [] c.open-reader.ensures in
    let none : c.in_ok-next_record.field-0 ≡ false = search (rules, c.if-not-branch.true) in
    file-records file_name bytes (omega (arith, c.if-bytes-gt-MOST_BYTES.false)) ∙ no-header file_name (csv_records bytes) (rw none at reads)

pub returns-then-is_too_wide-clause-first_cause : goal.returns-then-is_too_wide-clause-first_cause
returns-then-is_too_wide-clause-first_cause c = λ _.
    let file_name = c.args.file_name.now in
    let bytes = c.args.bytes.now in
    let tells : TellsWidth true (csv_records bytes) = subst (λ b. TellsWidth b (csv_records bytes)) c.if-is_too_wide.true c.is_too_wide.ensures in
    let (header, rest, front, wide) = tells in
    file-records file_name bytes (omega (arith, c.if-bytes-gt-MOST_BYTES.false)) ∙ too-wide file_name (csv_records bytes) header rest front wide

pub first_repeated-requires : goal.first_repeated-requires
first_repeated-requires c =
    let header = fields_of c.next_record.new.into in
    let reads = c.in_ok-next_record.ensures.reads c.args.bytes.now [] c.open-reader.ensures in
    let found : c.in_ok-next_record.field-0 ≡ true = search (rules, c.if-not-branch.false) in
    let narrow = few-fields c.args.bytes.now header c.next_record.new.reader c.is_too_wide.result c.if-is_too_wide.false c.is_too_wide.ensures (rw found at reads) in
    rw (c.items.ensures, c.in_ok-columns.ensures) (omega (arith, columns-length 1 header, narrow))

pub returns-in-Some-clause-first_cause : goal.returns-in-Some-clause-first_cause
returns-in-Some-clause-first_cause c = λ _.
    let file_name = c.args.file_name.now in
    let bytes = c.args.bytes.now in
    let header = fields_of c.next_record.new.into in
    let reads = c.in_ok-next_record.ensures.reads bytes [] c.open-reader.ensures in
    let found : c.in_ok-next_record.field-0 ≡ true = search (rules, c.if-not-branch.false) in
    let narrow = few-fields c.args.bytes.now header c.next_record.new.reader c.is_too_wide.result c.if-is_too_wide.false c.is_too_wide.ensures (rw found at reads) in
    let (rest, front) = stands-front bytes (header ∷ []) c.next_record.new.reader (rw found at reads) in
    let again : repeated (columns_of header) ≡ Some c.in-Some.column = ap repeated (sym (c.items.ensures ∙ c.in_ok-columns.ensures)) ∙ sym c.in_ok-column.ensures ∙ c.in-Some.is in
    file-records file_name bytes (omega (arith, c.if-bytes-gt-MOST_BYTES.false))
    ∙ repeats file_name (csv_records bytes) header rest c.in-Some.column front narrow again

pub read_rows-requires-clause-few : goal.read_rows-requires-clause-few
read_rows-requires-clause-few c =
    let header = fields_of c.next_record.new.into in
    let reads = c.in_ok-next_record.ensures.reads c.args.bytes.now [] c.open-reader.ensures in
    let found : c.in_ok-next_record.field-0 ≡ true = search (rules, c.if-not-branch.false) in
    let narrow = few-fields c.args.bytes.now header c.next_record.new.reader c.is_too_wide.result c.if-is_too_wide.false c.is_too_wide.ensures (rw found at reads) in
    rw (c.items-2.ensures, c.in_ok-columns.ensures) (omega (arith, columns-length 1 header, narrow))

pub returns-in_err-cells-clause-first_cause : goal.returns-in_err-cells-clause-first_cause
returns-in_err-cells-clause-first_cause c =
    let file_name = c.args.file_name.now in
    let bytes = c.args.bytes.now in
    let header = fields_of c.next_record.new.into in
    let reads = c.in_ok-next_record.ensures.reads c.args.bytes.now [] c.open-reader.ensures in
    let found : c.in_ok-next_record.field-0 ≡ true = search (rules, c.if-not-branch.false) in
    let narrow = few-fields c.args.bytes.now header c.next_record.new.reader c.is_too_wide.result c.if-is_too_wide.false c.is_too_wide.ensures (rw found at reads) in
    let once : repeated (columns_of header) ≡ None = ap repeated (sym (c.items.ensures ∙ c.in_ok-columns.ensures)) ∙ sym c.in_ok-column.ensures ∙ c.in_default.is in
    let p = err_from_is_err_and c.from_residual-in_err-cells.result c.from_residual-in_err-cells.ensures.1 in
    let bad = rw (c.items-2.ensures, c.in_ok-columns.ensures) at c.in_err-cells.ensures.first_cause in
    rw (p.1, p.2) (λ other.
    file-records file_name bytes (omega (arith, c.if-bytes-gt-MOST_BYTES.false))
    ∙ row-wrong file_name (csv_records bytes) header c.in_err-cells.field-0.0 narrow once (bad other))

pub invariant_of-result : goal.invariant_of-result
invariant_of-result c =
    let header = fields_of c.next_record.new.into in
    let reads = c.in_ok-next_record.ensures.reads c.args.bytes.now [] c.open-reader.ensures in
    let found : c.in_ok-next_record.field-0 ≡ true = search (rules, c.if-not-branch.false) in
    let narrow = few-fields c.args.bytes.now header c.next_record.new.reader c.is_too_wide.result c.if-is_too_wide.false c.is_too_wide.ensures (rw found at reads) in
    let few = columns-length 1 header in
    let rows = rw (c.items-2.ensures) at c.in_ok-cells.ensures.are_rows in
    let once : repeated (columns_of header) ≡ None = ap repeated (sym (c.items.ensures ∙ c.in_ok-columns.ensures)) ∙ sym c.in_ok-column.ensures ∙ c.in_default.is in
    record {
      once = rw c.in_ok-columns.ensures once;
      few = rw c.in_ok-columns.ensures (omega (arith, few, narrow));
      are_rows = rows;
      are_ends = c.in_ok-cells.ensures.are_ends;
      short = c.in_ok-cells.ensures.short;
    }

pub returns-clause-table : goal.returns-clause-table
returns-clause-table c =
    let file_name = c.args.file_name.now in
    let bytes = c.args.bytes.now in
    let header = fields_of c.next_record.new.into in
    let reads = c.in_ok-next_record.ensures.reads c.args.bytes.now [] c.open-reader.ensures in
    let found : c.in_ok-next_record.field-0 ≡ true = search (rules, c.if-not-branch.false) in
    let narrow = few-fields c.args.bytes.now header c.next_record.new.reader c.is_too_wide.result c.if-is_too_wide.false c.is_too_wide.ensures (rw found at reads) in
    let once : repeated (columns_of header) ≡ None = ap repeated (sym (c.items.ensures ∙ c.in_ok-columns.ensures)) ∙ sym c.in_ok-column.ensures ∙ c.in_default.is in
    rw (c.in_ok-columns.ensures, c.in_ok-new.ensures) (
    file-records file_name bytes (omega (arith, c.if-bytes-gt-MOST_BYTES.false))
    ∙ table-found file_name (csv_records bytes) header c.in_ok-cells.rows (fields_in c.in_ok-cells.cells.ends.items c.in_ok-cells.cells.text.items)
    narrow
    once
    (rw (c.items-2.ensures, c.in_ok-columns.ensures) at c.in_ok-cells.ensures.rows)
    (rw (c.items-2.ensures, c.in_ok-columns.ensures) at c.in_ok-cells.ensures.are_rows)
    )
