use Rattle.std.proofs.Common.{◌++◌}
use Rattle.dap_client.proofs.TextBodies.{wrong_on}
use Rattle.dap_client.proofs.Waiting.{error_on, no_error_on}
use Rattle.dap_client.proofs.text_stage.TextStage.read.Goals as goal

pub read_first-requires-clause-stands : goal.read_first-requires-clause-stands
read_first-requires-clause-stands c =
    let (form, bytes, long, s) = c.requires.stands in
    let (word, kept, text) = rw c.in-First.is at s in
    (form, bytes, long, word, kept, text)

pub read_object-requires-clause-stands : goal.read_object-requires-clause-stands
read_object-requires-clause-stands c =
    let (form, bytes, long, s) = c.requires.stands in
    let (error, object) = rw c.in-Error.is at s in
    (bytes, long, object)

pub read_text-requires-clause-stands : goal.read_text-requires-clause-stands
read_text-requires-clause-stands c =
    let (form, bytes, long, s) = c.requires.stands in
    let (none, text) = rw c.in-Text.is at s in
    (form, bytes, long, text)

pub returns-in-First : goal.returns-in-First
returns-in-First c form bytes long s = let (word, kept, text) = rw c.in-First.is at s in c.read_first.ensures form bytes long word kept text

pub returns-in-Error : goal.returns-in-Error
returns-in-Error c form bytes long s = let (error, object) = rw c.in-Error.is at s in c.in_object.ensures form (bytes ++ c.args.piece.now) (c.read_object.ensures bytes long (error_on bytes c.args.piece.now error) object)

pub returns-in-Text : goal.returns-in-Text
returns-in-Text c form bytes long s = let (none, text) = rw c.in-Text.is at s in c.read_text.ensures form bytes long (no_error_on bytes c.args.piece.now none) text

pub returns-in-Wrong : goal.returns-in-Wrong
returns-in-Wrong c form bytes long s = wrong_on form c.in-Wrong.field bytes c.args.piece.now (rw c.in-Wrong.is at s)
