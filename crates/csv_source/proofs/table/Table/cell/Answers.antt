use Rattle.std.proofs.Common.{◌≡◌, refl, subst, length}
use Rattle.std.proofs.lemmas.Option.{slice_get_read}
use Rattle.dap_model.specs.Fits.{IsOf}
use Rattle.csv_source.specs.Lent.{lent_value}
use Rattle.csv_source.proofs.CellFacts.{held-read}
use Rattle.csv_source.proofs.table.Table.cell.Goals as goal

pub place-at-requires : goal.place-at-requires
place-at-requires c = record { few = rw c.items-2.ensures c.self.invariant.few }

pub get-requires-clause-at : goal.get-requires-clause-at
get-requires-clause-at c =
    let below = rw (← c.self.view_is) at c.requires.row in
    let inside = rw (← c.self.view_is) at c.requires.column in
    let there = slice_get_read c.self.inside.columns (length c.self.inside.columns) c.args.column c.index-items-column.result refl inside (rw c.items.ensures at c.index-items-column.is) in
    let (field, at, good, short, room, value) = held-read c.self.inside.columns c.self.inside.rows c.self.inside.cells.ends.items c.self.inside.cells.text.items c.args.row c.args.column c.index-items-column.result c.self.invariant below there in
    rw (c.place-at.ensures, c.items-2.ensures) room

pub lent-requires-clause-cell : goal.lent-requires-clause-cell
lent-requires-clause-cell c =
    let below = rw (← c.self.view_is) at c.requires.row in
    let inside = rw (← c.self.view_is) at c.requires.column in
    let there = slice_get_read c.self.inside.columns (length c.self.inside.columns) c.args.column c.index-items-column.result refl inside (rw c.items.ensures at c.index-items-column.is) in
    let (field, at, good, short, room, value) = held-read c.self.inside.columns c.self.inside.rows c.self.inside.cells.ends.items c.self.inside.cells.text.items c.args.row c.args.column c.index-items-column.result c.self.invariant below there in
    let same : field ≡ c.get.result.now = cc (at, rw (c.place-at.ensures, c.items-2.ensures) at c.get.ensures.field) in
    rw (← c.index-items-column.is, ← same) good

pub lent-requires-clause-short : goal.lent-requires-clause-short
lent-requires-clause-short c =
    let below = rw (← c.self.view_is) at c.requires.row in
    let inside = rw (← c.self.view_is) at c.requires.column in
    let there = slice_get_read c.self.inside.columns (length c.self.inside.columns) c.args.column c.index-items-column.result refl inside (rw c.items.ensures at c.index-items-column.is) in
    let (field, at, good, short, room, value) = held-read c.self.inside.columns c.self.inside.rows c.self.inside.cells.ends.items c.self.inside.cells.text.items c.args.row c.args.column c.index-items-column.result c.self.invariant below there in
    let same : field ≡ c.get.result.now = cc (at, rw (c.place-at.ensures, c.items-2.ensures) at c.get.ensures.field) in
    rw (← same) short

pub returns-clause-value : goal.returns-clause-value
returns-clause-value c =
    let below = rw (← c.self.view_is) at c.requires.row in
    let inside = rw (← c.self.view_is) at c.requires.column in
    let there = slice_get_read c.self.inside.columns (length c.self.inside.columns) c.args.column c.index-items-column.result refl inside (rw c.items.ensures at c.index-items-column.is) in
    let (field, at, good, short, room, value) = held-read c.self.inside.columns c.self.inside.rows c.self.inside.cells.ends.items c.self.inside.cells.text.items c.args.row c.args.column c.index-items-column.result c.self.invariant below there in
    let same : field ≡ c.get.result.now = cc (at, rw (c.place-at.ensures, c.items-2.ensures) at c.get.ensures.field) in
    let is = rw (← c.index-items-column.is, ← same) at c.lent.ensures.value in
    rw (← c.self.view_is, is) value

pub returns-clause-fits : goal.returns-clause-fits
returns-clause-fits c = λ column here.
    let inside = rw (← c.self.view_is) at c.requires.column in
    let mine = rw (← c.self.view_is) at here in
    let there = slice_get_read c.self.inside.columns (length c.self.inside.columns) c.args.column c.index-items-column.result refl inside (rw c.items.ensures at c.index-items-column.is) in
    let same : c.index-items-column.result ≡ column = cc (there, mine) in
    subst (λ x. IsOf x.base (lent_value c.lent.result)) same (rw (← c.index-items-column.is) at c.lent.ensures.fits)
