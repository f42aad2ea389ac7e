use Rattle.std.proofs.Common.{rules, refl, arith, ◌≡◌, ◌∷◌, ◌+◌, true, false, length}
use Rattle.std.proofs.lemmas.Result.{err_from_is_err_and}
use Rattle.csv.specs.Records.{fields_of}
use Rattle.csv_source.specs.inner.Held.{AreEnds, fields_from, fields_in, rows_of, total_all}
use Rattle.csv_source.proofs.Reading.{row-bad, row-more, row-room}
use Rattle.csv_source.proofs.Rows.{rows_of-length}
use Rattle.csv_source.proofs.Standings.{stands-count}
use Rattle.csv_source.proofs.read.read_rows.Goals as goal

pub records-init : goal.records-init
unfolding rows_of fields_from AreEnds total_all
records-init c =
    rw (c.in_ok-cells.ensures.text, c.in_ok-cells.ensures.ends)
    record {
      stands = c.requires.stands;
      are_ends = refl;
      count = omega arith;
      are_rows = refl;
      long = refl;
      short = omega arith;
    }

pub returns-then-not-branch-clause-rows : goal.returns-then-not-branch-clause-rows
returns-then-not-branch-clause-rows c =
    let none : c.in_ok-next_record.field-0 ≡ false = search (rules, c.if-not-branch.true) in
    let held = fields_of c.args.header ∷ rows_of (length c.args.columns.now) c.records.rows (fields_in c.records.cells.ends.items c.records.cells.text.items) in
    rw none at (c.in_ok-next_record.ensures.reads c.args.bytes.now held c.records.invariant.stands)

pub overflow_add-rows : goal.overflow_add-rows
overflow_add-rows c =
    let found : c.in_ok-next_record.field-0 ≡ true = search (rules, c.if-not-branch.false) in
    let held = fields_of c.args.header ∷ rows_of (length c.args.columns.now) c.records.rows (fields_in c.records.cells.ends.items c.records.cells.text.items) in
    let stands = rw found at (c.in_ok-next_record.ensures.reads c.args.bytes.now held c.records.invariant.stands) in
    let room = row-room c.args.bytes.now (fields_of c.args.header) (length c.args.columns.now) c.records.rows (fields_in c.records.cells.ends.items c.records.cells.text.items) (fields_of c.next_record.new.into) c.next_record.new.reader c.requires.short stands in
    omega (arith, room.0)

pub push_row-requires-clause-short : goal.push_row-requires-clause-short
push_row-requires-clause-short c =
    let found : c.in_ok-next_record.field-0 ≡ true = search (rules, c.if-not-branch.false) in
    let held = fields_of c.args.header ∷ rows_of (length c.args.columns.now) c.records.rows (fields_in c.records.cells.ends.items c.records.cells.text.items) in
    let stands = rw found at (c.in_ok-next_record.ensures.reads c.args.bytes.now held c.records.invariant.stands) in
    let room = row-room c.args.bytes.now (fields_of c.args.header) (length c.args.columns.now) c.records.rows (fields_in c.records.cells.ends.items c.records.cells.text.items) (fields_of c.next_record.new.into) c.next_record.new.reader c.requires.short stands in
    omega (arith, room.1, c.records.invariant.long)

-- no file has so many rows
pub unreachable-requires : goal.unreachable-requires
unreachable-requires c =
    let fields = fields_in c.records.cells.ends.items c.records.cells.text.items in
    let held = fields_of c.args.header ∷ rows_of (length c.args.columns.now) c.records.rows fields in
    let count = stands-count c.args.bytes.now held c.records.reader c.records.invariant.stands in
    omega (arith, count, rows_of-length (length c.args.columns.now) c.records.rows fields, c.requires.short, c.records-test.false)

pub returns-in_err-push_row-clause-first_cause : goal.returns-in_err-push_row-clause-first_cause
returns-in_err-push_row-clause-first_cause c =
    let found : c.in_ok-next_record.field-0 ≡ true = search (rules, c.if-not-branch.false) in
    let fields = fields_in c.records.cells.ends.items c.records.cells.text.items in
    let rows = rows_of (length c.args.columns.now) c.records.rows fields in
    let stands = rw found at (c.in_ok-next_record.ensures.reads c.args.bytes.now (fields_of c.args.header ∷ rows) c.records.invariant.stands) in
    let p = err_from_is_err_and c.from_residual-in_err-push_row.result c.from_residual-in_err-push_row.ensures.1 in
    let count : c.records.rows + 1 ≡ length rows + 1 = omega (arith, rows_of-length (length c.args.columns.now) c.records.rows fields) in
    rw (p.1, p.2) (λ other. row-bad c.args.bytes.now (fields_of c.args.header) c.args.columns.now rows (fields_of c.next_record.new.into) c.in_err-push_row.field-0.0 (c.records.rows + 1) c.next_record.new.reader stands c.records.invariant.are_rows count (c.in_err-push_row.ensures.first_cause other))

pub records-preserved : goal.records-preserved
records-preserved c =
    let inv = c.records.invariant in
    let found : c.in_ok-next_record.field-0 ≡ true = search (rules, c.if-not-branch.false) in
    let fields = fields_in c.records.cells.ends.items c.records.cells.text.items in
    let held = fields_of c.args.header ∷ rows_of (length c.args.columns.now) c.records.rows fields in
    let stands = rw found at (c.in_ok-next_record.ensures.reads c.args.bytes.now held inv.stands) in
    let room = row-room c.args.bytes.now (fields_of c.args.header) (length c.args.columns.now) c.records.rows fields (fields_of c.next_record.new.into) c.next_record.new.reader c.requires.short stands in
    let e = c.in_ok-push_row.ensures in
    let m = row-more c.args.bytes.now (fields_of c.args.header) c.args.columns.now c.records.rows fields (fields_of c.next_record.new.into) (fields_in c.push_row.new.cells.ends.items c.push_row.new.cells.text.items) c.next_record.new.reader stands inv.count inv.are_rows e.row e.fields in
    record {
      stands = m.0;
      are_ends = e.are_ends;
      count = m.1;
      are_rows = m.2;
      long = omega (arith, e.length, inv.long, m.3);
      short = omega (arith, e.length, inv.long, room.1);
    }
