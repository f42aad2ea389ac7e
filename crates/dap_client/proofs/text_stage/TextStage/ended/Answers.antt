use Rattle.std.proofs.Common.{[], append-nil, subst}
use Rattle.error_word.proofs.InMemory.{no_error, no_error_here}
use Rattle.dap_client.specs.Verdict.{Judges, bad}
use Rattle.dap_client.proofs.text_stage.TextStage.ended.Goals as goal

pub returns-in-First : goal.returns-in-First
returns-in-First c form bytes long s = let (word, kept, text) = rw c.in-First.is at s in c.ended.ensures form bytes long (no_error bytes word.no_token) text

pub returns-in-Error : goal.returns-in-Error
returns-in-Error c form bytes long s = let (error, object) = rw c.in-Error.is at s in c.end_object.ensures form bytes long error object

pub returns-in-Text : goal.returns-in-Text
returns-in-Text c form bytes long s = let (none, text) = rw c.in-Text.is at s in c.ended-in-Text.ensures form bytes long (no_error_here bytes none) text

pub returns-in-Wrong : goal.returns-in-Wrong
returns-in-Wrong c form bytes long s = let w = rw c.in-Wrong.is at s in subst (λ l. Judges form l (bad c.in-Wrong.field.kind c.in-Wrong.field.place)) (append-nil bytes) (w.stays [])
