use Rattle.std.proofs.Common.{ℕ, List}
use Rattle.dap_outside.proofs.Fronts.{on_err}
use Rattle.dap_outside.proofs.Passing.{stopped_before}
use Rattle.dap_outside.specs.Streams.{AppendsFront}
use Rattle.hyperslab_plan.specs.Batches.{Fetched}
use Rattle.xdr_encode.proofs.TextForms.{texts-sent, texts-stopped}
use Rattle.xdr_encode.specs.Elements.{forms_from}
use Rattle.xdr_encode.proofs.texts.put_all_texts.Goals as goal

pub returns-in_err-put_texts-clause-err : goal.returns-in_err-put_texts-clause-err
returns-in_err-put_texts-clause-err g c =
    let stopped : (bytes : List ℕ) → Fetched c.args.plan.now c.args.batch.now bytes c.args.raw.now → AppendsFront (g.O.Sink.written c.args.out.now) (g.O.Sink.written c.put_texts.new.out) (forms_from c.args.plan.now bytes c.args.batch.now.first c.args.batch.now.count)
    = λ bytes got. stopped_before _ _ _ _ c.clear.ensures (c.in_err-put_texts.ensures.puts bytes got) in
    on_err _ _ stopped

pub returns-clause-ok : goal.returns-clause-ok
returns-clause-ok g c =
    texts-sent c.flush.result (λ bytes. Fetched c.args.plan.now c.args.batch.now bytes c.args.raw.now) (λ bytes. forms_from c.args.plan.now bytes c.args.batch.now.first c.args.batch.now.count) _ _ _ _ _ c.clear.ensures c.in_ok-put_texts.ensures.puts c.flush.ensures.ok

pub returns-clause-err : goal.returns-clause-err
returns-clause-err g c =
    texts-stopped c.flush.result (λ bytes. Fetched c.args.plan.now c.args.batch.now bytes c.args.raw.now) (λ bytes. forms_from c.args.plan.now bytes c.args.batch.now.first c.args.batch.now.count) _ _ _ _ _ c.clear.ensures c.in_ok-put_texts.ensures.puts c.flush.ensures.err
