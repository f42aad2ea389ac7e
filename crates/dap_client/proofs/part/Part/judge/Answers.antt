use Rattle.std.proofs.Common.{◌≡◌, ◌+◌, ◌<◌, ◌^◌, ◌++◌, length, None, OnOk, sym, subst, ◌∙◌, arith}
use Rattle.dap_client.specs.After.{IsRead}
use Rattle.dap_client.specs.Shows.{Gains}
use Rattle.dap_client.specs.Verdict.{Form}
use Rattle.dap_client.proofs.Quietly.{never_rose}
use Rattle.dap_client.proofs.part.Part.judge.Goals as goal

pub judge_data-requires-clause-stands : goal.judge_data-requires-clause-stands
judge_data-requires-clause-stands c =
    let (form, bytes, put, long, p) = c.requires.stands in
    let (same, s, on) = rw c.in-Data.is at p in
    (bytes, put, s)

pub judge_data-requires-clause-still_open : goal.judge_data-requires-clause-still_open
judge_data-requires-clause-still_open c =
    let (form, bytes, put, long, p) = c.requires.stands in
    let (same, s, on) = rw c.in-Data.is at p in
    on

pub judge_data-requires-clause-within : goal.judge_data-requires-clause-within
judge_data-requires-clause-within c =
    let (form, bytes, put, long, p) = c.requires.stands in
    let (same, s, on) = rw c.in-Data.is at p in
    omega (arith, s.taken, long, c.requires.within)

pub returns-in-Data-clause-read : goal.returns-in-Data-clause-read
returns-in-Data-clause-read c form bytes put long p =
    let (same, s, on) = rw c.in-Data.is at p in
    subst (λ (f : Form). Gains None None (λ text. IsRead f bytes (bytes ++ c.args.piece.now) (put ++ text) c.judge_data.result)) (sym same)
    (c.judge_data.ensures.read bytes put s)

pub returns-in-Data-clause-goes_on : goal.returns-in-Data-clause-goes_on
returns-in-Data-clause-goes_on c =
    let (form, bytes, put, long, p) = c.requires.stands in
    let (same, s, on) = rw c.in-Data.is at p in
    subst (λ n. OnOk c.judge_data.result (n + length c.args.piece.now < 2 ^ 40)) (sym s.taken ∙ long) c.judge_data.ensures.goes_on

pub returns-in_default-clause-fault : goal.returns-in_default-clause-fault
returns-in_default-clause-fault c = λ is. never_rose (c.read.ensures.fault is)
