use Rattle.std.proofs.Common.{[], ◌++◌, refl}
use Rattle.std.proofs.KnownBytes.{Appends-nil}
use Rattle.dap_outside.specs.Causes.{Rose}
use Rattle.dap_client.proofs.Texts.{few_nothing, open_no_head}
use Rattle.dap_client.proofs.Waiting.{where_never}
use Rattle.dap_client.proofs.stage.read_first.Goals as goal

pub returns-in-Open-clause-stage : goal.returns-in-Open-clause-stage
returns-in-Open-clause-stage g c bytes long o =
    let (word, kept) = c.in-Open.ensures bytes long o.is_word o.kept in
    ([], Appends-nil (g.O.Sink.written c.args.out.now), c.wait.ensures.stage bytes word kept o.had)

pub returns-in-Open-clause-cause : goal.returns-in-Open-clause-cause
returns-in-Open-clause-cause g c = where_never (Rose (g.O.Sink.put_faults c.args.out.now) (g.O.Sink.put_faults c.args.out.now)) c.wait.result c.wait.ensures.cause

pub returns-in-Error-clause-stage : goal.returns-in-Error-clause-stage
returns-in-Error-clause-stage g c bytes long o =
    ([], Appends-nil (g.O.Sink.written c.args.out.now), c.in_object.ensures.stage (bytes ++ c.args.piece.now) (c.in-Error.ensures bytes long o.is_word o.kept))

pub returns-in-Error-clause-cause : goal.returns-in-Error-clause-cause
returns-in-Error-clause-cause g c = where_never (Rose (g.O.Sink.put_faults c.args.out.now) (g.O.Sink.put_faults c.args.out.now)) c.in_object.result c.in_object.ensures.cause

pub returns-in-Other-clause-stage : goal.returns-in-Other-clause-stage
returns-in-Other-clause-stage g c bytes long o = c.read_text.ensures.stage bytes long (c.in-Other.ensures bytes long o.is_word o.kept) o.had (open_no_head c.args.word bytes o.is_word)

pub returns-in-Spent-clause-stage : goal.returns-in-Spent-clause-stage
returns-in-Spent-clause-stage g c bytes long o =
    let (word, open_still) = c.in-Spent.ensures bytes long o.is_word o.kept in
    ([], Appends-nil (g.O.Sink.written c.args.out.now), (few_nothing (bytes ++ c.args.piece.now) (open_no_head word (bytes ++ c.args.piece.now) open_still), refl))

pub read_first-requires-clause-stands : goal.read_first-requires-clause-stands
read_first-requires-clause-stands g c = let (bytes, long, o) = c.requires.stands in (bytes, long, o.is_word, o.kept)

pub read_text-requires-clause-stands : goal.read_text-requires-clause-stands
read_text-requires-clause-stands g c = let (bytes, long, o) = c.requires.stands in (bytes, long, o.had)
