use Rattle.std.proofs.Common.{arith, refl, sym, ap, ◌∙◌, ◌≡◌, ◌<◌, ◌∷◌, ◌++◌, ◌+◌, [], Some, length, take, append_assoc, true, false}
use Rattle.std.specs.Prelude.{◌==◌}
use Rattle.std.proofs.lemmas.Bool.Decides.{nat_tests}
use Rattle.std.proofs.lemmas.List.{append-nil, take_more}
use Rattle.csv.specs.Records.{field_at, fields_of}
use Rattle.csv.proofs.RecordFacts.{field-get, field-there}
use Rattle.csv_source.specs.Cells.{is_cell}
use Rattle.csv_source.specs.inner.Held.{fields_in, total}
use Rattle.csv_source.proofs.KeptFields.{total-append, total-none, total-one, total-take}
use Rattle.csv_source.proofs.RowCauses.{bad-step, row-bad-cell, row-end, row-ragged, row-step}
use Rattle.csv_source.proofs.read.push_row.Goals as goal
use Rattle.csv_source.proofs.read.push_row.Goals.{in-Some+else-not-may_be_cell+in_ok-push, in_default}

pub returns-then-len-columns-clause-first_cause : goal.returns-then-len-columns-clause-first_cause
returns-then-len-columns-clause-first_cause c = λ _.
    row-ragged c.args.columns.now c.args.number (fields_of c.args.row.now) (grind (arith, nat_tests, c.len.ensures, c.if-len-columns.true))

pub loop-i-init : goal.loop-i-init
loop-i-init c = record {
  are_ends = c.requires.are_ends;
  fields = sym (append-nil (fields_in c.args.cells.now.ends.items c.args.cells.now.text.items));
  long = omega (arith, total-none);
  row = refl;
  cause = refl;
}

pub returns-then-not-may_be_cell-clause-first_cause : goal.returns-then-not-may_be_cell-clause-first_cause
returns-then-not-may_be_cell-clause-first_cause c = λ _.
    let fields = fields_of c.args.row.now in
    let i = c.loop-i.i in
    let there : i < length fields = omega (arith, c.loop-i-test.true, c.len.ensures, c.if-len-columns.false) in
    let at : field_at fields i ≡ Some c.in-Some.field.now = rw c.in-Some.is at (sym c.get.ensures.value) in
    let is = field-get fields i c.in-Some.field.now at in
    let bad : is_cell c.index-columns-i.result.base c.in-Some.field.now ≡ false = sym c.may_be_cell.ensures ∙ c.if-not-may_be_cell.true in
    let step = bad-step c.args.columns.now fields i (i + 1) c.index-columns-i.result c.in-Some.field.now c.loop-i-test.true c.index-columns-i.is there is in
    let same : (length fields == length c.args.columns.now) ≡ true = grind (arith, nat_tests, c.len.ensures, c.if-len-columns.false) in
    row-bad-cell c.args.columns.now c.args.number (i + 1) fields same (c.loop-i.invariant.cause ∙ step ∙ rw bad refl)

pub push-requires-clause-short : goal.push-requires-clause-short
push-requires-clause-short c =
    let fields = fields_of c.args.row.now in
    let i = c.loop-i.i in
    let there : i < length fields = omega (arith, c.loop-i-test.true, c.len.ensures, c.if-len-columns.false) in
    let at : field_at fields i ≡ Some c.in-Some.field.now = rw c.in-Some.is at (sym c.get.ensures.value) in
    let is = field-get fields i c.in-Some.field.now at in
    let most = total-take fields (i + 1) in
    let next : take (i + 1) fields ≡ take i fields ++ c.in-Some.field.now ∷ [] = take_more fields i [] there ∙ rw is refl in
    let more = ap total next ∙ total-append (take i fields) (c.in-Some.field.now ∷ []) in
    omega (arith, most, more, total-one c.in-Some.field.now, c.loop-i.invariant.long, c.requires.short)

pub loop-i-preserved : goal.loop-i-preserved
loop-i-preserved c =
    let inv = c.loop-i.invariant in
    let fields = fields_of c.args.row.now in
    let i = c.loop-i.i in
    let there : i < length fields = omega (arith, c.loop-i-test.true, c.len.ensures, c.if-len-columns.false) in
    elim c.match-get.branch [
      | in-Some+else-not-may_be_cell+in_ok-push w ↦
          let field = w.in-Some.field.now in
          let at : field_at fields i ≡ Some field = rw w.in-Some.is at (sym c.get.ensures.value) in
          let is = field-get fields i field at in
          let good : is_cell c.index-columns-i.result.base field ≡ true = sym w.may_be_cell.ensures ∙ w.if-not-may_be_cell.false in
          let row = row-step c.args.columns.now fields i c.index-columns-i.result field c.loop-i-test.true c.index-columns-i.is there is in
          let bad = bad-step c.args.columns.now fields i (i + 1) c.index-columns-i.result field c.loop-i-test.true c.index-columns-i.is there is in
          let more : take (i + 1) fields ≡ take i fields ++ field ∷ [] = take_more fields i [] there ∙ rw is refl in
          let long = ap total more ∙ total-append (take i fields) (field ∷ []) in
          let e = w.in_ok-push.ensures in
          record {
            are_ends = rw w.cells-is e.are_ends;
            fields = rw w.cells-is (e.fields ∙ ap (λ xs. xs ++ field ∷ []) inv.fields ∙ append_assoc (fields_in c.args.cells.now.ends.items c.args.cells.now.text.items) (take i fields) (field ∷ []) ∙ rw (← more) refl);
            long = rw w.cells-is (omega (arith, e.length, inv.long, long, total-one field));
            row = inv.row ∙ row ∙ rw good refl;
            cause = inv.cause ∙ bad ∙ rw good refl;
          }
      | in_default w ↦ absurd (field-there fields i there (rw w.in_default.is at (sym c.get.ensures.value)))
    ]

pub returns-clause-row : goal.returns-clause-row
returns-clause-row c =
    c.loop-i.invariant.row ∙ row-end c.args.columns.now (fields_of c.args.row.now) c.loop-i.i (omega (arith, c.loop-i-test.false)) (omega (arith, c.loop-i-test.false, c.len.ensures, c.if-len-columns.false))
