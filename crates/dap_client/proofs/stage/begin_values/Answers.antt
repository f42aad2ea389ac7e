use Rattle.std.proofs.Common.{◌++◌, take, refl, sym, subst, ◌∙◌}
use Rattle.dap_types.specs.View.{dataset_view}
use Rattle.dap_model.specs.Dds.{dds}
use Rattle.dap_client.proofs.Lines.{dds_fault, few_behind}
use Rattle.dap_client.proofs.Values.{first_values, moves_none, moves_on}
use Rattle.dap_client.specs.Shows.{StopsWithin}
use Rattle.dap_client.specs.inner.Stages.{HasValues}
use Rattle.dap_client.specs.declared.stage.Stage.TheVariants as stage
use Rattle.dap_client.proofs.stage.begin_values.Goals as goal

pub returns-in_default-clause-stage : goal.returns-in_default-clause-stage
returns-in_default-clause-stage g c bytes long none h =
    moves_none (g.O.Sink.written c.args.out.now) (bytes ++ c.args.piece.now) stage.Spent (few_behind (dataset_view c.args.dataset) bytes c.args.piece.now h c.requires.few, refl)

pub read_values-requires-clause-stands : goal.read_values-requires-clause-stands
read_values-requires-clause-stands g c =
    let (bytes, long, h, well) = c.requires.stands in
    let d = dataset_view c.args.dataset in
    (bytes, dds d, long, first_values c.new.result d bytes (dds d) c.args.place c.new.ensures.dataset c.new.ensures.stands c.new.ensures.start c.new.ensures.place long h refl)

pub returns-in-Ok-put_all-clause-stage : goal.returns-in-Ok-put_all-clause-stage
returns-in-Ok-put_all-clause-stage g c bytes long none h =
    let d = dataset_view c.args.dataset in
    let text = c.bytes.result.now in
    let o : HasValues c.new.result bytes text = first_values c.new.result d bytes text c.args.place c.new.ensures.dataset c.new.ensures.stands c.new.ensures.start c.new.ensures.place long h (c.bytes.ensures ∙ c.in-Ok.ensures.text) in
    moves_on (g.O.Sink.written c.args.out.now) (g.O.Sink.written c.put_all.new.out) (g.O.Sink.written c.read_values.new.out) text (bytes ++ c.args.piece.now) c.read_values.result c.in-Ok-put_all.ensures.ok
    (c.read_values.ensures.stage bytes text long none o)

pub returns-in-Err-clause-stage : goal.returns-in-Err-clause-stage
returns-in-Err-clause-stage g c bytes long none h =
    let d = dataset_view c.args.dataset in
    let (k, le, sent) = c.in-Err.ensures.err in
    (take k c.bytes.result.now, sent, subst (λ l. StopsWithin (bytes ++ c.args.piece.now) (take k l)) (sym (c.bytes.ensures ∙ c.in-Ok.ensures.text)) (dds_fault d bytes c.args.piece.now k h))

pub returns-in-Ok-put_all-clause-kept : goal.returns-in-Ok-put_all-clause-kept
returns-in-Ok-put_all-clause-kept g c = λ n. c.read_values.ensures.kept n ∙ c.in-Ok-put_all.ensures.cause.kept

pub returns-in-Err-clause-kept : goal.returns-in-Err-clause-kept
returns-in-Err-clause-kept g c = λ n. absurd (n refl)
