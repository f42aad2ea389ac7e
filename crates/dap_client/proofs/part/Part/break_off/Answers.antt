use Rattle.std.proofs.Common.{sym, subst}
use Rattle.dap_client.proofs.TextBodies.{broken_text}
use Rattle.dap_client.proofs.Wrapped.{no_head, no_write_fault, open_shows}
use Rattle.dap_client.specs.After.{IsBrokenOff}
use Rattle.dap_client.specs.Verdict.{Form}
use Rattle.dap_client.specs.inner.Stages.{IsStage}
use Rattle.dap_client.proofs.part.Part.break_off.Goals as goal

pub break_data-requires : goal.break_data-requires
break_data-requires c =
    let (form, bytes, put, p) = c.requires.stands in
    let (same, s, on) = rw c.in-Data.is at p in
    no_write_fault c.in-Data.reader c.ended.result on c.ended.ensures.failed

pub returns-in-Data : goal.returns-in-Data
returns-in-Data c form bytes put long small p =
    let (same, s, on) = rw c.in-Data.is at p in
    subst (λ (f : Form). IsBrokenOff f bytes put c.args.wrong c.break_data.result) (sym same)
    (c.break_data.ensures bytes put (c.ended.ensures.ended bytes put s) (open_shows c.in-Data.reader.stage bytes put on s.is_stage) (λ none. no_head c.in-Data.reader.stage bytes on (subst (IsStage c.in-Data.reader.stage bytes) none s.is_stage)))

pub returns-in-Text : goal.returns-in-Text
returns-in-Text c form bytes put long small p =
    let (text, s, none) = rw c.in-Text.is at p in
    subst (λ l. IsBrokenOff form bytes l c.args.wrong c.break_text.result) (sym none)
    (broken_text form bytes c.args.wrong c.break_text.result small text (c.break_text.ensures.first form bytes (c.ended-in-Text.ensures form bytes long s)))
