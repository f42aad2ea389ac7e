use Rattle.std.proofs.Common.{◌≡◌, ◌+◌, ◌<◌, ◌^◌, [], ◌++◌, length, length-append, OnOk, ap, sym, subst, ◌∙◌, arith}
use Rattle.std.proofs.KnownBytes.{Appends-nil}
use Rattle.dap_client.specs.After.{IsRead}
use Rattle.dap_client.specs.Shows.{Gains}
use Rattle.dap_client.specs.Verdict.{Form}
use Rattle.dap_client.proofs.part.Part.read.Goals as goal

pub read_data-requires-clause-stands : goal.read_data-requires-clause-stands
read_data-requires-clause-stands g c =
    let (form, bytes, put, long, p) = c.requires.stands in
    let (same, s, on) = rw c.in-Data.is at p in
    (bytes, put, s)

pub read_data-requires-clause-still_open : goal.read_data-requires-clause-still_open
read_data-requires-clause-still_open g c =
    let (form, bytes, put, long, p) = c.requires.stands in
    let (same, s, on) = rw c.in-Data.is at p in
    on

pub read_data-requires-clause-within : goal.read_data-requires-clause-within
read_data-requires-clause-within g c =
    let (form, bytes, put, long, p) = c.requires.stands in
    let (same, s, on) = rw c.in-Data.is at p in
    omega (arith, s.taken, long, c.requires.within)

pub returns-in-Data-clause-read : goal.returns-in-Data-clause-read
returns-in-Data-clause-read g c form bytes put long p =
    let (same, s, on) = rw c.in-Data.is at p in
    subst (λ (f : Form). Gains (g.O.Sink.written c.args.out.now) (g.O.Sink.written c.read_data.new.out) (λ text. IsRead f bytes (bytes ++ c.args.piece.now) (put ++ text) c.read_data.result)) (sym same)
    (c.read_data.ensures.read bytes put s)

pub returns-in-Data-clause-goes_on : goal.returns-in-Data-clause-goes_on
returns-in-Data-clause-goes_on g c =
    let (form, bytes, put, long, p) = c.requires.stands in
    let (same, s, on) = rw c.in-Data.is at p in
    subst (λ n. OnOk c.read_data.result (n + length c.args.piece.now < 2 ^ 40)) (sym s.taken ∙ long) c.read_data.ensures.goes_on

pub read-stage-requires-clause-stands : goal.read-stage-requires-clause-stands
read-stage-requires-clause-stands g c =
    let (form, bytes, put, long, p) = c.requires.stands in
    let (text, s, none) = rw c.in-Text.is at p in
    (form, bytes, long, s)

pub returns-in-Text-clause-read : goal.returns-in-Text-clause-read
returns-in-Text-clause-read g c form bytes put long p =
    let (text, s, none) = rw c.in-Text.is at p in
    let piece = c.args.piece.now in
    let all : length (bytes ++ piece) ≡ c.args.place + length piece = length-append bytes piece ∙ ap (λ n. n + length piece) long in
    let here = c.text_at.ensures.read form bytes (bytes ++ piece) all c.requires.within text (c.read-stage.ensures form bytes long s) in
    ([], Appends-nil _, subst (λ l. IsRead form bytes (bytes ++ piece) l c.text_at.result) (sym (ap (λ l. l ++ []) none)) here)

pub returns-in-Text-clause-goes_on : goal.returns-in-Text-clause-goes_on
returns-in-Text-clause-goes_on g c = c.text_at.ensures.goes_on c.requires.within

pub returns-in-Text-clause-fault : goal.returns-in-Text-clause-fault
returns-in-Text-clause-fault g c = λ is. absurd (c.text_at.ensures.fault is)

pub returns-in-Data-clause-fault : goal.returns-in-Data-clause-fault
returns-in-Data-clause-fault g c = c.read_data.ensures.fault
