use Rattle.std.proofs.Common.{arith, ◌+◌, ◌^◌, ◌++◌, [], take, refl, sym, subst, ◌∙◌}
use Rattle.std.proofs.KnownBytes.{Appends-nil}
use Rattle.dap_client.proofs.DdsBodies.{piece_parts}
use Rattle.dap_client.proofs.Texts.{done_in_piece, few_in_piece, text_refused}
use Rattle.dap_client.proofs.Values.{slice_small, taken_front}
use Rattle.error_word.specs.inner.FirstWords.{IsNoError}
use Rattle.dap_client.specs.inner.Stages.{IsStage, Moves}
use Rattle.dap_client.proofs.stage.read_text.Goals as goal

pub returns-in-Ok-More-clause-stage : goal.returns-in-Ok-More-clause-stage
returns-in-Ok-More-clause-stage g c bytes long none o few = (
  [],
  Appends-nil (g.O.Sink.written c.args.out.now),
  (none, (rw c.in-Ok-More.field-0-is at (c.in-Ok-More.ensures.stands bytes o.0), c.push.ensures.start ∙ o.1), rw c.in-Ok-More.field-0-is at (c.in-Ok-More.ensures.more bytes o.0), refl),
)

pub returns-in-Ok-Done-clause-stage : goal.returns-in-Ok-Done-clause-stage
returns-in-Ok-Done-clause-stage g c bytes long none o few =
    let used = c.in-Ok-Done.used in
    let piece = c.args.piece.now in
    let stands = rw c.in-Ok-Done.field-0-is at (c.in-Ok-Done.ensures.stands bytes o.0) in
    let (le, (d, done)) = rw c.in-Ok-Done.field-0-is at (c.in-Ok-Done.ensures.done bytes o.0) in
    let same = piece_parts bytes piece used le in
    subst (λ l. Moves (g.O.Sink.written c.args.out.now) (g.O.Sink.written c.end_text.new.out) l [] c.end_text.result) same
    (c.end_text.ensures.stage (bytes ++ take used piece) (taken_front bytes piece c.args.place used long le) (subst IsNoError (sym same) none) (stands, (d, done_in_piece bytes piece used d le done)))

pub returns-in-Ok-Bad-clause-stage : goal.returns-in-Ok-Bad-clause-stage
returns-in-Ok-Bad-clause-stage g c bytes long none o few =
    let stands = rw c.in-Ok-Bad.field-0-is at (c.in-Ok-Bad.ensures.stands bytes o.0) in
    let (p, is, bad) = rw c.in-Ok-Bad.field-0-is at (c.in-Ok-Bad.ensures.bad bytes o.0) in (
      [],
      Appends-nil (g.O.Sink.written c.args.out.now),
      subst (λ s. IsStage s (bytes ++ c.args.piece.now) []) (sym c.refused.ensures)
          (text_refused c.push.new.self (bytes ++ c.args.piece.now) c.in-Ok-Bad.place p _ stands none o.1 is bad),
    )

pub returns-in-Err-clause-stage : goal.returns-in-Err-clause-stage
returns-in-Err-clause-stage g c bytes long none o few = ([], Appends-nil (g.O.Sink.written c.args.out.now), (few_in_piece bytes c.args.piece.now few c.requires.few, refl))

pub end_text-requires-clause-stands : goal.end_text-requires-clause-stands
end_text-requires-clause-stands g c =
    let used = c.in-Ok-Done.used in
    let piece = c.args.piece.now in
    let (bytes, long, o) = c.requires.stands in
    let stands = rw c.in-Ok-Done.field-0-is at (c.in-Ok-Done.ensures.stands bytes o.0) in
    let (le, (d, done)) = rw c.in-Ok-Done.field-0-is at (c.in-Ok-Done.ensures.done bytes o.0) in
    (bytes ++ take used piece, taken_front bytes piece c.args.place used long le, (stands, (d, done_in_piece bytes piece used d le done)))

pub overflow_add-place : goal.overflow_add-place
overflow_add-place g c =
    let (bytes, long, o) = c.requires.stands in
    let (le, (d, done)) = rw c.in-Ok-Done.field-0-is at (c.in-Ok-Done.ensures.done bytes o.0) in omega (arith, le, c.requires.small)

pub slice_bounds-end_text-count : goal.slice_bounds-end_text-count
slice_bounds-end_text-count g c =
    let (bytes, long, o) = c.requires.stands in
    let (le, (d, done)) = rw c.in-Ok-Done.field-0-is at (c.in-Ok-Done.ensures.done bytes o.0) in omega (arith, le)

pub slice_bounds-end_text-start : goal.slice_bounds-end_text-start
slice_bounds-end_text-start g c =
    let (bytes, long, o) = c.requires.stands in
    let (le, (d, done)) = rw c.in-Ok-Done.field-0-is at (c.in-Ok-Done.ensures.done bytes o.0) in omega (arith, le)

pub end_text-requires-clause-small : goal.end_text-requires-clause-small
end_text-requires-clause-small g c =
    let (bytes, long, o) = c.requires.stands in
    let (le, (d, done)) = rw c.in-Ok-Done.field-0-is at (c.in-Ok-Done.ensures.done bytes o.0) in slice_small c.args.piece.now c.args.place c.in-Ok-Done.used (2 ^ 63) le c.requires.small
