use Rattle.std.proofs.Common.{◌≡◌, ◌-◌, ◌++◌, drop, take, length, refl, sym, ap, ◌∙◌, arith, length-append}
use Rattle.std.proofs.lemmas.List.{length-drop, length-take-le, take-append-drop, take_rest}
use Rattle.std.proofs.lemmas.Result.{err_from_is_err_and}
use Rattle.dap_client.specs.After.{form_in}
use Rattle.dap_client.proofs.HeldBodies.{memory-taken}
use Rattle.dap_client.proofs.HeldPieces.{counted-few, short-err, taken-as}
use Rattle.dap_client.proofs.holding.take_into.Goals as goal

pub overflow-requires-clause-stands : goal.overflow-requires-clause-stands
overflow-requires-clause-stands c = c.requires.stands

pub overflow-requires-clause-full : goal.overflow-requires-clause-full
overflow-requires-clause-full c =
    let room = c.args.limit - c.len.result in
    omega (arith, length-take-le room c.args.part.now (omega (arith, c.if-part-room.true)), c.len.ensures, c.args.kept.ok.0, c.requires.short)

pub overflow-requires-clause-some : goal.overflow-requires-clause-some
overflow-requires-clause-some c =
    let room = c.args.limit - c.len.result in
    omega (arith, ap length (take_rest c.args.part.now room), length-drop room c.args.part.now, c.if-part-room.true)

pub overflow-requires-clause-few : goal.overflow-requires-clause-few
overflow-requires-clause-few c =
    let room = c.args.limit - c.len.result in
    omega (arith, length-take-le room c.args.part.now (omega (arith, c.if-part-room.true)), ap length (take_rest c.args.part.now room), length-drop room c.args.part.now, c.if-part-room.true, c.requires.few)

pub judge-requires-clause-stands : goal.judge-requires-clause-stands
judge-requires-clause-stands c = (c.args.kept.items, c.requires.stands)

pub judge-requires-clause-within : goal.judge-requires-clause-within
judge-requires-clause-within c = omega (arith, (counted-few c.args.reader c.args.kept.items c.requires.stands).0, c.requires.short, c.requires.few, c.ranges.limit.fits)

pub judge-requires-clause-few : goal.judge-requires-clause-few
judge-requires-clause-few c = c.requires.few

pub returns-in_err-judged : goal.returns-in_err-judged
returns-in_err-judged c =
    let p = err_from_is_err_and c.from_residual.result c.from_residual.ensures.1 in
    rw (p.1, p.2)
    (short-err (form_in c.args.reader) c.args.limit c.args.kept.items c.args.part.now c.in_err-judged.field-0.0 (omega (arith, c.if-part-room.false, c.len.ensures, c.args.kept.ok.0, c.requires.short))
    (c.in_err-judged.ensures.judged c.args.kept.items c.requires.stands))

pub returns-in_err-longer : goal.returns-in_err-longer
returns-in_err-longer c =
    let p = err_from_is_err_and c.from_residual-in_err-longer.result c.from_residual-in_err-longer.ensures.1 in
    rw (p.1, p.2) (memory-taken (form_in c.args.reader) c.args.limit (c.args.kept.items ++ c.args.part.now) c.in_err-longer.field-0.0 c.in_err-longer.ensures.err)

pub returns : goal.returns
returns c =
    let (stands, form) = c.in_ok-judged.ensures.judged c.args.kept.items c.requires.stands in
    record {
      after = stands;
      is_form = form;
      is_limit = refl;
      held = (c.in_ok-longer.ensures.ok, omega (arith, length-append c.args.kept.items c.args.part.now, c.if-part-room.false, c.len.ensures, c.args.kept.ok.0, c.requires.short));
      not_version = λ e. c.requires.kind (sym c.in_ok-judged.ensures.kind ∙ e);
    }

pub returns-then-part-room : goal.returns-then-part-room
returns-then-part-room c =
    let room = c.args.limit - c.len.result in
    let part = c.args.part.now in
    let form = form_in c.args.reader in
    let all : take room part ++ take (length part - room) (drop room part) ≡ part = ap (λ l. take room part ++ l) (take_rest part room) ∙ take-append-drop room part in
    taken-as form form c.args.limit c.args.limit (c.args.kept.items ++ part) (c.args.kept.items ++ (take room part ++ take (length part - room) (drop room part))) c.overflow.result
    refl refl (ap (λ l. c.args.kept.items ++ l) all) c.overflow.ensures
