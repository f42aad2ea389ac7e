use Rattle.xdr_decode.proofs.Lined.{line_read, line_stop}
use Rattle.plain_lemmas.proofs.Options.{if_ok-map, if_err-map}
use Rattle.xdr_decode.proofs.data_line.data_line.Goals as goal

pub returns-clause-read : goal.returns-clause-read
returns-clause-read c =
    if_ok-map c.word_line.result (λ behind read. line_read c.args.bytes.now c.split_white.result.0.now c.split_white.result.1.now behind.now c.split_white.ensures.parts c.split_white.ensures.white read) c.word_line.ensures.read

pub returns-clause-stop : goal.returns-clause-stop
returns-clause-stop c =
    if_err-map c.word_line.result (λ e stop. line_stop c.args.bytes.now c.split_white.result.0.now c.split_white.result.1.now e c.split_white.ensures.parts c.split_white.ensures.white c.split_white.ensures.end stop) c.word_line.ensures.stop
