use Rattle.std.proofs.Common.{refl, sym}
use Rattle.xdr_decode.proofs.Spots.{past, some_of, at_base, at_array, at_sequence, at_structure, at_grid, past_grid, short_grid}
use Rattle.xdr_decode.proofs.path.+leaf_at.Goals as goal

pub returns-then-at-decls : goal.returns-then-at-decls
returns-then-at-decls t c = λ above. past c.args.path.now above c.args.decls.now (some_of c.args.path.now c.if-is_empty.ensures) c.if-at-decls.true

pub returns-in-Base : goal.returns-in-Base
returns-in-Base t c = λ above.
    let r = at_base c.args.path.now above c.args.decls.now c.index-decls-at.result c.in-Base.column (some_of c.args.path.now c.if-is_empty.ensures) c.if-at-decls.false c.index-decls-at.is c.in-Base.is in
    (r.0, r.1, rw r.2 refl)

pub returns-in-Array : goal.returns-in-Array
returns-in-Array t c = λ above.
    let r = at_array c.args.path.now above c.args.decls.now c.index-decls-at.result c.in-Array.array (some_of c.args.path.now c.if-is_empty.ensures) c.if-at-decls.false c.index-decls-at.is c.in-Array.is in
    (r.0, r.1, rw r.2 refl)

pub returns-in-Structure : goal.returns-in-Structure
returns-in-Structure t c = λ above.
    let lends = c.leaf_at.ensures in
    at_structure c.args.path.now above c.args.decls.now c.index-decls-at.result c.in-Structure.field-0 c.in-Structure.parts c.leaf_at.result (some_of c.args.path.now c.if-is_empty.ensures) c.if-at-decls.false c.index-decls-at.is c.in-Structure.is
    (rw (sym c.items.ensures) lends)

pub returns-then-path-lt2 : goal.returns-then-path-lt2
returns-then-path-lt2 t c = λ above.
    short_grid c.args.path.now above c.args.decls.now c.index-decls-at.result c.in-Grid.field-0 c.in-Grid.array c.in-Grid.maps (some_of c.args.path.now c.if-is_empty.ensures) c.if-at-decls.false c.index-decls-at.is c.in-Grid.is c.if-path-lt2.true

pub returns-in-Some : goal.returns-in-Some
returns-in-Some t c = λ above.
    let r = at_grid c.args.path.now above c.args.decls.now c.index-decls-at.result c.in-Grid.field-0 c.in-Grid.array c.in-Grid.maps c.in-Some.array.now (some_of c.args.path.now c.if-is_empty.ensures) c.if-at-decls.false c.index-decls-at.is c.in-Grid.is c.if-path-lt2.false
    (rw (sym c.items-in-Grid.ensures) c.in-Some.ensures) in
    (r.0, r.1, rw r.2 refl)

pub returns-in-None : goal.returns-in-None
returns-in-None t c = λ above.
    past_grid c.args.path.now above c.args.decls.now c.index-decls-at.result c.in-Grid.field-0 c.in-Grid.array c.in-Grid.maps (some_of c.args.path.now c.if-is_empty.ensures) c.if-at-decls.false c.index-decls-at.is c.in-Grid.is c.if-path-lt2.false
    (rw (sym c.items-in-Grid.ensures) c.in-None.ensures)

pub returns-in-Sequence : goal.returns-in-Sequence
returns-in-Sequence t c = λ above.
    let r = at_sequence c.args.path.now above c.args.decls.now c.index-decls-at.result c.in-Sequence.name c.in-Sequence.columns (some_of c.args.path.now c.if-is_empty.ensures) c.if-at-decls.false c.index-decls-at.is c.in-Sequence.is in
    (r.0, r.1, rw r.2 (refl, c.items-in-Sequence.ensures))
