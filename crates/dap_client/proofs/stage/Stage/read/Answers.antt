use Rattle.std.proofs.Common.{◌++◌, [], sym, subst}
use Rattle.std.proofs.KnownBytes.{Appends-nil}
use Rattle.std.proofs.lemmas.Bool.{false≢true}
use Rattle.dap_outside.specs.Causes.{Rose}
use Rattle.dap_client.proofs.Texts.{unfinished_no_head}
use Rattle.dap_client.proofs.Waiting.{error_on, no_error_on, where_never}
use Rattle.dap_client.specs.inner.Stages.{Moves}
use Rattle.dap_client.proofs.stage.Stage.read.Goals as goal

pub returns-in-First-clause-stage : goal.returns-in-First-clause-stage
returns-in-First-clause-stage g c bytes put long o =
    let (first, empty) = rw c.in-First.is at o in
    subst (λ p. Moves (g.O.Sink.written c.args.out.now) (g.O.Sink.written c.read_first.new.out) (bytes ++ c.args.piece.now) p c.read_first.result) (sym empty) (c.read_first.ensures.stage bytes long first)

pub returns-in-Error-clause-stage : goal.returns-in-Error-clause-stage
returns-in-Error-clause-stage g c bytes put long o =
    let (error, object, empty) = rw c.in-Error.is at o in
    subst (λ p. Moves (g.O.Sink.written c.args.out.now) (g.O.Sink.written c.args.out.now) (bytes ++ c.args.piece.now) p c.in_object.result) (sym empty)
    ([], Appends-nil (g.O.Sink.written c.args.out.now), c.in_object.ensures.stage (bytes ++ c.args.piece.now) (c.read_object.ensures bytes long (error_on bytes c.args.piece.now error) object))

pub returns-in-Error-clause-cause : goal.returns-in-Error-clause-cause
returns-in-Error-clause-cause g c = where_never (Rose (g.O.Sink.put_faults c.args.out.now) (g.O.Sink.put_faults c.args.out.now)) c.in_object.result c.in_object.ensures.cause

pub returns-in-Text-clause-stage : goal.returns-in-Text-clause-stage
returns-in-Text-clause-stage g c bytes put long o =
    let (none, had, unfinished, empty) = rw c.in-Text.is at o in
    subst (λ p. Moves (g.O.Sink.written c.args.out.now) (g.O.Sink.written c.read_text.new.out) (bytes ++ c.args.piece.now) p c.read_text.result) (sym empty)
    (c.read_text.ensures.stage bytes long (no_error_on bytes c.args.piece.now none) had (unfinished_no_head bytes unfinished))

pub returns-in-Line-clause-stage : goal.returns-in-Line-clause-stage
returns-in-Line-clause-stage g c bytes put long o =
    let (none, line, empty) = rw c.in-Line.is at o in
    subst (λ p. Moves (g.O.Sink.written c.args.out.now) (g.O.Sink.written c.read_line.new.out) (bytes ++ c.args.piece.now) p c.read_line.result) (sym empty)
    (c.read_line.ensures.stage bytes long (no_error_on bytes c.args.piece.now none) line)

pub returns-in-Values-clause-stage : goal.returns-in-Values-clause-stage
returns-in-Values-clause-stage g c bytes put long o =
    let (none, values) = rw c.in-Values.is at o in c.read_values.ensures.stage bytes put long (no_error_on bytes c.args.piece.now none) values.begun

pub returns-in-Refused-clause-stage : goal.returns-in-Refused-clause-stage
returns-in-Refused-clause-stage g c bytes put long o = absurd (false≢true (rw c.in-Refused.is at c.requires.still_open))

pub returns-in-Full-clause-stage : goal.returns-in-Full-clause-stage
returns-in-Full-clause-stage g c bytes put long o = absurd (false≢true (rw c.in-Full.is at c.requires.still_open))

pub returns-in-Failed-clause-stage : goal.returns-in-Failed-clause-stage
returns-in-Failed-clause-stage g c bytes put long o = absurd (false≢true (rw c.in-Failed.is at c.requires.still_open))

pub returns-in-Spent-clause-stage : goal.returns-in-Spent-clause-stage
returns-in-Spent-clause-stage g c bytes put long o = absurd (false≢true (rw c.in-Spent.is at c.requires.still_open))

pub returns-in-Failed-clause-cause : goal.returns-in-Failed-clause-cause
returns-in-Failed-clause-cause g c = absurd (false≢true (rw c.in-Failed.is at c.requires.still_open))

pub read_first-requires-clause-stands : goal.read_first-requires-clause-stands
read_first-requires-clause-stands g c = let (bytes, put, long, o) = c.requires.stands in let (first, empty) = rw c.in-First.is at o in (bytes, long, first)

pub read_object-requires-clause-stands : goal.read_object-requires-clause-stands
read_object-requires-clause-stands g c = let (bytes, put, long, o) = c.requires.stands in let (error, object, empty) = rw c.in-Error.is at o in (bytes, long, object)

pub read_text-requires-clause-stands : goal.read_text-requires-clause-stands
read_text-requires-clause-stands g c = let (bytes, put, long, o) = c.requires.stands in let (none, had, unfinished, empty) = rw c.in-Text.is at o in (bytes, long, had)

pub read_line-requires-clause-stands : goal.read_line-requires-clause-stands
read_line-requires-clause-stands g c = let (bytes, put, long, o) = c.requires.stands in let (none, line, empty) = rw c.in-Line.is at o in (bytes, long, line)

pub read_values-requires-clause-stands : goal.read_values-requires-clause-stands
read_values-requires-clause-stands g c = let (bytes, put, long, o) = c.requires.stands in let (none, values) = rw c.in-Values.is at o in (bytes, put, long, values.begun)

pub returns-in-Failed-clause-kept : goal.returns-in-Failed-clause-kept
returns-in-Failed-clause-kept g c = absurd (false≢true (rw c.in-Failed.is at c.requires.still_open))
