use Rattle.std.proofs.Common.{◌++◌, ℕ, List, [], ap, subst, append_assoc, inr, ◌∙◌}
use Rattle.std.proofs.KnownBytes.{Appends-nil, Consumes-trans}
use Rattle.dap_http.proofs.Finals.{gives-more}
use Rattle.dap_http.specs.Reading.{rest_of}
use Rattle.dap_client.specs.After.{IsBrokenOff}
use Rattle.dap_client.specs.Answered.{ShowsStopped, Tells}
use Rattle.dap_client.specs.Replies.{StopsInTime, form_of}
use Rattle.dap_client.specs.Verdict.{Form}
use Rattle.dap_client.proofs.InTime.{stops-lifted, stops-short}
use Rattle.dap_client.proofs.Lifted.{bad-head, fault-told, head-told, lifted}
use Rattle.dap_client.proofs.reply.read_one.Goals as goal

pub returns-in-Final-clause-tells : goal.returns-in-Final-clause-tells
returns-in-Final-clause-tells g c =
    let (u, before, has, few) = c.in-Final.ensures.reads in
    let (t, x, after, put, told, stops) = c.read_body.ensures.tells in
    let old = rest_of c.args.heads.now in
    let mid = rest_of c.read.new.self in
    let form = form_of c.args.kind in (
      u ++ t,
      x,
      Consumes-trans _ _ _ u t before after,
      put,
      subst (λ (l : List ℕ). Tells form l (g.I.Source.ended c.read_body.new.source) (rest_of c.read_body.new.heads) x c.read_body.result) (append_assoc old u t)
          (lifted form c.in-Final.coding ((old ++ u) ++ t) (mid ++ t) (rest_of c.read_body.new.heads) x (g.I.Source.ended c.read_body.new.source) c.read_body.result
          (gives-more (old ++ u) t mid (inr c.in-Final.coding) has) told),
      subst (StopsInTime form) (append_assoc old u t) (stops-lifted form c.in-Final.coding ((old ++ u) ++ t) (mid ++ t) (gives-more (old ++ u) t mid (inr c.in-Final.coding) has) stops),
    )

pub break_off-requires : goal.break_off-requires
break_off-requires g c = ([], [], c.new.ensures.stands)

pub returns-in-Refused-clause-tells : goal.returns-in-Refused-clause-tells
returns-in-Refused-clause-tells g c =
    let (u, before, answers, few) = c.in-Refused.ensures.reads in
    let reply = rest_of c.args.heads.now ++ u in
    let form = form_of c.args.kind in
    let broken : IsBrokenOff form [] [] c.in-Refused.wrong c.break_off.result =
    subst (λ (f : Form). IsBrokenOff f [] [] c.in-Refused.wrong c.break_off.result) (ap form_of c.new.ensures.kind) (c.break_off.ensures [] [] c.new.ensures.stands) in (
      u,
      [],
      before,
      Appends-nil _,
      head-told form reply (rest_of c.read.new.self) (g.I.Source.ended c.read.new.source) c.in-Refused.wrong c.break_off.result
          (bad-head reply (rest_of c.read.new.self) (g.I.Source.ended c.read.new.source) c.in-Refused.wrong answers) few broken,
      stops-short form reply few,
    )

pub returns-in-ReadFault-clause-tells : goal.returns-in-ReadFault-clause-tells
returns-in-ReadFault-clause-tells g c =
    let (u, before, answers, few) = c.in-ReadFault.ensures.reads in
    let reply = rest_of c.args.heads.now ++ u in
    let form = form_of c.args.kind in (
      u,
      [],
      before,
      Appends-nil _,
      fault-told form reply (rest_of c.read.new.self) (rest_of c.read.new.self) (g.I.Source.ended c.read.new.source) c.leave.result c.leave.ensures.fault answers
          (subst (λ (f : Form). ShowsStopped f [] []) (ap form_of c.new-in-ReadFault.ensures.kind) (c.leave.ensures.shows [] [] c.new-in-ReadFault.ensures.stands)),
      stops-short form reply few,
    )

pub returns-in-Final-clause-kept_reading : goal.returns-in-Final-clause-kept_reading
returns-in-Final-clause-kept_reading g c = λ n. c.read_body.ensures.kept_reading n ∙ c.in-Final.ensures.kept (λ e. cc e)

pub returns-in-Refused-clause-kept_reading : goal.returns-in-Refused-clause-kept_reading
returns-in-Refused-clause-kept_reading g c = λ n. c.in-Refused.ensures.kept (λ e. cc e)

pub returns-in-ReadFault-clause-kept_reading : goal.returns-in-ReadFault-clause-kept_reading
returns-in-ReadFault-clause-kept_reading g c = λ n. absurd (n c.leave.ensures.fault)
