use Rattle.std.proofs.Common.{◌++◌}
use Rattle.dap_client.proofs.text_stage.read_first.Goals as goal

pub read_first-requires-clause-stands : goal.read_first-requires-clause-stands
read_first-requires-clause-stands c = let (form, bytes, long, word, kept, text) = c.requires.stands in (bytes, long, word, kept)

pub wait-requires-clause-stands : goal.wait-requires-clause-stands
wait-requires-clause-stands c = let (form, bytes, long, word, kept, text) = c.requires.stands in (form, bytes, long, text)

pub read_text-requires-clause-stands : goal.read_text-requires-clause-stands
read_text-requires-clause-stands c = let (form, bytes, long, word, kept, text) = c.requires.stands in (form, bytes, long, text)

pub returns-in-Open : goal.returns-in-Open
returns-in-Open c form bytes long word kept text =
    let (open_still, more) = c.in-Open.ensures bytes long word kept in
    c.wait.ensures form bytes long open_still more text

pub returns-in-Error : goal.returns-in-Error
returns-in-Error c form bytes long word kept text = c.in_object.ensures form (bytes ++ c.args.piece.now) (c.in-Error.ensures bytes long word kept)

pub returns-in-Other : goal.returns-in-Other
returns-in-Other c form bytes long word kept text = c.read_text.ensures form bytes long (c.in-Other.ensures bytes long word kept) text
