use Rattle.std.proofs.Common.{◌+◌, ◌∙◌, arith, refl}
use Rattle.dap_model.specs.Xdr.{bytes_of, string_fields}
use Rattle.dap_outside.proofs.Passing.{puts_failed, way_ends, way_failed, way_more}
use Rattle.xdr_encode.proofs.TextForms.{text-here, texts-begin, texts-end, texts-step}
use Rattle.xdr_encode.proofs.texts.put_texts.Goals as goal

pub loop-j-init : goal.loop-j-init
loop-j-init g c = record {
  way = λ bytes got. texts-begin c.args.plan.now bytes c.args.batch.now.first c.args.batch.now.count (g.O.Sink.written c.args.out.now) c.args.buffer.now.bytes.items;
  count = refl;
  beside = refl;
}

pub returns-in_err-put_text-clause-puts : goal.returns-in_err-put_text-clause-puts
returns-in_err-put_text-clause-puts g c = λ bytes got.
    let here = text-here c.args.plan.now bytes c.args.raw.now (c.args.batch.now.first + c.loop-j.j) c.place-at.result c.size-size.result c.without_zeros.result.now c.requires.text c.size-size.ensures.size
    (c.place-at.ensures.bytes bytes c.args.raw.now got) c.without_zeros.ensures.same in
    puts_failed c.from_residual.result _ _ _ _ _ c.from_residual.ensures.0
    (way_failed _ _ _ _ _ _ _ _ _ (texts-step c.args.plan.now bytes c.args.batch.now.first c.args.batch.now.count c.loop-j.j (bytes_of (string_fields c.without_zeros.result.now)) here c.loop-j-test.true) (c.loop-j.invariant.way bytes got) c.in_err-put_text.ensures.puts)

pub loop-j-preserved : goal.loop-j-preserved
loop-j-preserved g c = record {
  way = λ bytes got.
      let here = text-here c.args.plan.now bytes c.args.raw.now (c.args.batch.now.first + c.loop-j.j) c.place-at.result c.size-size.result c.without_zeros.result.now c.requires.text c.size-size.ensures.size
      (c.place-at.ensures.bytes bytes c.args.raw.now got) c.without_zeros.ensures.same in
      way_more _ _ _ _ _ _ _ _ _ _ (texts-step c.args.plan.now bytes c.args.batch.now.first c.args.batch.now.count c.loop-j.j (bytes_of (string_fields c.without_zeros.result.now)) here c.loop-j-test.true) (c.loop-j.invariant.way bytes got) c.in_ok-put_text.ensures.puts;
  count = c.in_ok-put_text.ensures.cause.kept ∙ c.loop-j.invariant.count;
  beside = c.put_text.ensures.beside ∙ c.loop-j.invariant.beside;
}

pub returns-clause-puts : goal.returns-clause-puts
returns-clause-puts g c = λ bytes got.
    way_ends _ _ _ _ _ _ (texts-end c.args.plan.now bytes c.args.batch.now.first c.args.batch.now.count c.loop-j.j c.loop-j-test.false) (c.loop-j.invariant.way bytes got)
