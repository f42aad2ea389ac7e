use Rattle.std.proofs.Common.{◌≡◌, ◌+◌, ◌++◌, length, take, refl, sym, subst, inl, arith, length-append, length-take-le}
use Rattle.dds_text.specs.Reading.{IsBadText}
use Rattle.dap_client.proofs.DdsBodies.{piece_parts}
use Rattle.dap_client.proofs.Texts.{done_in_piece, reader_bad}
use Rattle.dap_client.specs.inner.DdsBodies.{IsDdsBody}
use Rattle.dap_client.proofs.dds_body.read_text.Goals as goal

pub end_text-requires-clause-stands : goal.end_text-requires-clause-stands
end_text-requires-clause-stands c =
    let (bytes, is, had) = c.requires.stands in
    let (le, has) = rw c.in-Done.is at (c.in_ok-push.ensures.done bytes had.0) in
    let stands = rw c.in-Done.is at (c.in_ok-push.ensures.stands bytes had.0) in
    let place : length (bytes ++ take c.in-Done.used c.args.piece.now) ≡ c.args.place + c.in-Done.used =
    omega (arith, is, le, length-append bytes (take c.in-Done.used c.args.piece.now), length-take-le c.in-Done.used c.args.piece.now le) in
    (bytes ++ take c.in-Done.used c.args.piece.now, place, (stands, (has.0, done_in_piece bytes c.args.piece.now c.in-Done.used has.0 le has.1)))

pub returns-in-Done : goal.returns-in-Done
returns-in-Done c = record {
  body = λ bytes is had.
      (let (le, has) = rw c.in-Done.is at (c.in_ok-push.ensures.done bytes had.0) in
      let stands = rw c.in-Done.is at (c.in_ok-push.ensures.stands bytes had.0) in
      let place : length (bytes ++ take c.in-Done.used c.args.piece.now) ≡ c.args.place + c.in-Done.used =
      omega (arith, is, le, length-append bytes (take c.in-Done.used c.args.piece.now), length-take-le c.in-Done.used c.args.piece.now le) in
      subst (λ l. IsDdsBody l c.end_text.result) (piece_parts bytes c.args.piece.now c.in-Done.used le)
      (c.end_text.ensures.body (bytes ++ take c.in-Done.used c.args.piece.now) place (stands, (has.0, done_in_piece bytes c.args.piece.now c.in-Done.used has.0 le has.1))));
}

pub returns-in-Bad : goal.returns-in-Bad
returns-in-Bad c = record {
  body = λ bytes is had.
      (let (p, at, bad) = rw c.in-Bad.is at (c.in_ok-push.ensures.bad bytes had.0) in
      let stands = rw c.in-Bad.is at (c.in_ok-push.ensures.stands bytes had.0) in
      let same : p ≡ c.in-Bad.place = omega (arith, at, had.1) in
      subst (IsDdsBody (bytes ++ c.args.piece.now)) (sym c.wrong.ensures)
      (λ more. inl (subst (IsBadText ((bytes ++ c.args.piece.now) ++ more)) same (reader_bad c.push.new.self (bytes ++ c.args.piece.now) p stands bad more), refl)));
}
