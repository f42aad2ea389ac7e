use Rattle.std.proofs.Common.{refl, inl, inr}
use Rattle.dap_server.proofs.Connecting.{last-rose, next-few, next-rose, refusal-rose}
use Rattle.dap_server.proofs.Requesting.{memory-turn, serve-fault, serve-gone, serve-head, serve-refused}
use Rattle.dap_server.proofs.connection.serve_next.Goals as goal

pub returns-in-Head-clause-serves : goal.returns-in-Head-clause-serves
returns-in-Head-clause-serves g c =
    let (taken, consumes, gives) = c.in-Head.ensures.reads in
    serve-head c.args.answered c.args.before _ _ _ taken _ _ _ _ _ _ _ _ _ _ (g.L.Source.ended c.answer.new.out) c.in-Head.head c.ends_at-ends.result c.answer.result c.next_of.result c.next_of.ensures gives consumes
    (g.met.L.Link.keeps_left _ _ c.answer.ensures.beside) (g.met.L.Link.keeps_written _ _ c.in-Head.ensures.beside) c.ends_at-ends.ensures c.answer.ensures.answers

pub returns-in-Head-clause-few : goal.returns-in-Head-clause-few
returns-in-Head-clause-few g c =
    next-few c.args.answered c.args.before _ c.in-Head.head c.ends_at-ends.result _ _ c.answer.result c.next_of.result c.next_of.ensures c.requires.few c.ends_at-ends.ensures c.answer.ensures.answers

pub returns-in-Head-clause-causes : goal.returns-in-Head-clause-causes
returns-in-Head-clause-causes g c =
    next-rose c.args.answered c.args.before c.answer.result c.next_of.result _ _ _ _ _ _ c.next_of.ensures (c.in-Head.ensures.kept (λ e. cc e)) (g.met.L.Link.keeps_take_faults _ _ c.answer.ensures.beside)
    (g.met.L.Link.keeps_put_faults _ _ c.in-Head.ensures.beside) c.answer.ensures.fault

pub returns-in-Gone-clause-serves : goal.returns-in-Gone-clause-serves
returns-in-Gone-clause-serves g c =
    let (taken, consumes, gives) = c.in-Gone.ensures.reads in
    serve-gone c.args.answered c.args.before _ _ taken _ _ _ _ _ _ _ consumes (g.met.L.Link.keeps_written _ _ c.in-Gone.ensures.beside) gives.0 gives.1

pub returns-in-ReadFault-clause-serves : goal.returns-in-ReadFault-clause-serves
returns-in-ReadFault-clause-serves g c =
    let (taken, consumes, gives) = c.in-ReadFault.ensures.reads in
    serve-fault c.args.answered c.args.before _ _ taken _ _ _ _ _ _ _ consumes (g.met.L.Link.keeps_written _ _ c.in-ReadFault.ensures.beside) gives.0

pub returns-in-BadRequest-clause-serves : goal.returns-in-BadRequest-clause-serves
returns-in-BadRequest-clause-serves g c =
    let (taken, consumes, gives) = c.in-BadRequest.ensures.reads in
    serve-refused c.args.answered c.args.before _ _ taken _ _ _ _ _ _ _ _ _ _ c.refuse.result (inl (refl, gives.0)) consumes
    (g.met.L.Link.keeps_left _ _ c.refuse.ensures.beside) (g.met.L.Link.keeps_written _ _ c.in-BadRequest.ensures.beside) c.refuse.ensures.puts

pub returns-in-HeadTooLong-clause-serves : goal.returns-in-HeadTooLong-clause-serves
returns-in-HeadTooLong-clause-serves g c =
    let (taken, consumes, gives) = c.in-HeadTooLong.ensures.reads in
    serve-refused c.args.answered c.args.before _ _ taken _ _ _ _ _ _ _ _ _ _ c.refuse-in-HeadTooLong.result (inr (refl, gives.0)) consumes
    (g.met.L.Link.keeps_left _ _ c.refuse-in-HeadTooLong.ensures.beside) (g.met.L.Link.keeps_written _ _ c.in-HeadTooLong.ensures.beside) c.refuse-in-HeadTooLong.ensures.puts

pub returns-in-Memory-clause-serves : goal.returns-in-Memory-clause-serves
returns-in-Memory-clause-serves g c =
    let (taken, consumes, gives) = c.in-Memory.ensures.reads in
    let (tree, rest, first, is) = gives.0 in
    memory-turn c.args.answered c.args.before _ _ rest taken _ _ _ _ _ _ _ _ _ tree c.in-Memory.head c.memory_reply.result.now c.put_last.result first is consumes
    (g.met.L.Link.keeps_left _ _ c.put_last.ensures.beside) (g.met.L.Link.keeps_written _ _ c.in-Memory.ensures.beside) c.memory_reply.ensures c.put_last.ensures.puts

pub returns-in-BadRequest-clause-causes : goal.returns-in-BadRequest-clause-causes
returns-in-BadRequest-clause-causes g c =
    refusal-rose _ _ _ _ _ c.refuse.result _ _ _ _ _ _ c.refuse.ensures.puts (c.in-BadRequest.ensures.kept (λ e. cc e)) (g.met.L.Link.keeps_take_faults _ _ c.refuse.ensures.beside)
    (g.met.L.Link.keeps_put_faults _ _ c.in-BadRequest.ensures.beside) c.refuse.ensures.causes

pub returns-in-HeadTooLong-clause-causes : goal.returns-in-HeadTooLong-clause-causes
returns-in-HeadTooLong-clause-causes g c =
    refusal-rose _ _ _ _ _ c.refuse-in-HeadTooLong.result _ _ _ _ _ _ c.refuse-in-HeadTooLong.ensures.puts (c.in-HeadTooLong.ensures.kept (λ e. cc e)) (g.met.L.Link.keeps_take_faults _ _ c.refuse-in-HeadTooLong.ensures.beside)
    (g.met.L.Link.keeps_put_faults _ _ c.in-HeadTooLong.ensures.beside) c.refuse-in-HeadTooLong.ensures.causes

pub returns-in-Memory-clause-causes : goal.returns-in-Memory-clause-causes
returns-in-Memory-clause-causes g c =
    last-rose _ _ _ _ _ _ c.put_last.result _ _ _ _ _ _ c.put_last.ensures.puts (c.in-Memory.ensures.kept (λ e. cc e)) (g.met.L.Link.keeps_take_faults _ _ c.put_last.ensures.beside)
    (g.met.L.Link.keeps_put_faults _ _ c.in-Memory.ensures.beside) c.put_last.ensures.causes
