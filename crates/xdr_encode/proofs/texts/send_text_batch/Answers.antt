use Rattle.xdr_encode.proofs.Sending.{batch-front}
use Rattle.xdr_encode.proofs.texts.send_text_batch.Goals as goal

pub returns-in_default-clause-err : goal.returns-in_default-clause-err
returns-in_default-clause-err g c = λ bytes e. batch-front c.args.plan.now bytes c.args.batch.now (g.O.Sink.written c.args.out.now) c.requires.batch
