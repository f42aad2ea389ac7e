use Rattle.std.proofs.Common.{rules}
use Rattle.plain_lemmas.proofs.Options.{if_ok-map, if_err-map}
use Rattle.xdr_decode.proofs.Lined.{word_end_stop, word_read, word_stop}
use Rattle.xdr_decode.specs.inner.Lined.{StopsIn, WordLines}
use Rattle.xdr_decode.proofs.data_line.word_line.Goals as goal

pub returns-in_err-rest-clause-stop : goal.returns-in_err-rest-clause-stop
returns-in_err-rest-clause-stop c =
    let stop : StopsIn WordLines c.args.bytes.now c.in_err-rest.field-0.0 = word_stop c.args.bytes.now c.in_err-rest.field-0.0 c.in_err-rest.ensures.stop in
    search (rules, stop)

pub returns-clause-read : goal.returns-clause-read
returns-clause-read c = if_ok-map c.line_end.result (λ behind read. word_read c.args.bytes.now c.in_ok-rest.rest.now behind.now c.in_ok-rest.ensures.read read) c.line_end.ensures.read

pub returns-clause-stop : goal.returns-clause-stop
returns-clause-stop c = if_err-map c.line_end.result (λ e stop. word_end_stop c.args.bytes.now c.in_ok-rest.rest.now e c.in_ok-rest.ensures.read stop) c.line_end.ensures.stop
