use Rattle.std.proofs.Common.{◌∙◌}
use Rattle.dap_client.proofs.Few.{no_more, none_more}
use Rattle.dap_client.proofs.Told.{err_of, none_taken, on_bad_reply, on_complete, on_write_fault, only_answers, stopped, told, where_whole}
use Rattle.dap_client.proofs.showing.show.Goals as goal

pub returns-in_default-clause-memory : goal.returns-in_default-clause-memory
returns-in_default-clause-memory g c = none_taken _

pub returns-in-Ok-read_body-clause-complete : goal.returns-in-Ok-read_body-clause-complete
returns-in-Ok-read_body-clause-complete g c = on_complete _ _ _ _ _ c.finish.result
    (told _ _ _ _ _ c.read_body.new.reader c.finish.result c.read_body.ensures.reads c.finish.ensures.stands c.finish.ensures.stays)

pub returns-in-Ok-read_body-clause-put_so_far : goal.returns-in-Ok-read_body-clause-put_so_far
returns-in-Ok-read_body-clause-put_so_far g c = on_write_fault _ _ _ _ _ c.finish.result
    (told _ _ _ _ _ c.read_body.new.reader c.finish.result c.read_body.ensures.reads c.finish.ensures.stands c.finish.ensures.stays)

pub returns-in-Ok-read_body-clause-ended : goal.returns-in-Ok-read_body-clause-ended
returns-in-Ok-read_body-clause-ended g c = where_whole _ _ _ _ _ _ c.finish.result
    (told _ _ _ _ _ c.read_body.new.reader c.finish.result c.read_body.ensures.reads c.finish.ensures.stands c.finish.ensures.stays) c.in-Ok-read_body.ensures.end

pub returns-in-Ok-read_body-clause-bad_reply : goal.returns-in-Ok-read_body-clause-bad_reply
returns-in-Ok-read_body-clause-bad_reply g c = on_bad_reply _ _ _ _ _ _ _ c.finish.result
    (told _ _ _ _ _ c.read_body.new.reader c.finish.result c.read_body.ensures.reads c.finish.ensures.stands c.finish.ensures.stays) c.in-Ok-read_body.ensures.end

pub returns-in-Ok-read_body-clause-only : goal.returns-in-Ok-read_body-clause-only
returns-in-Ok-read_body-clause-only g c = λ body v has is.
    only_answers _ _ _ _ _ _ c.finish.result body v has
    (told _ _ _ _ _ c.read_body.new.reader c.finish.result c.read_body.ensures.reads c.finish.ensures.stands c.finish.ensures.stays) c.in-Ok-read_body.ensures.end (λ at. at.1) is

pub returns-clause-read_so_far : goal.returns-clause-read_so_far
returns-clause-read_so_far g c = stopped _ _ _ _ c.read_body.new.reader c.read_body.ensures.reads

pub returns-in_default-clause-most : goal.returns-in_default-clause-most
returns-in_default-clause-most g c = none_more _

pub returns-in-Ok-read_body-clause-most : goal.returns-in-Ok-read_body-clause-most
returns-in-Ok-read_body-clause-most g c = no_more _ _ _ _ c.read_body.new.reader c.read_body.ensures.reads

pub returns-clause-most : goal.returns-clause-most
returns-clause-most g c = no_more _ _ _ _ c.read_body.new.reader c.read_body.ensures.reads

pub returns-in-Ok-read_body-clause-kept_writing : goal.returns-in-Ok-read_body-clause-kept_writing
returns-in-Ok-read_body-clause-kept_writing g c = λ n. c.finish.ensures.kept n ∙ c.read_body.ensures.kept (λ failed. n (c.finish.ensures.failed failed))

pub returns-clause-kept_writing : goal.returns-clause-kept_writing
returns-clause-kept_writing g c = λ n. err_of _ _ c.in-Err.is c.read_body.ensures.none_put
