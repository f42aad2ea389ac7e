use Rattle.std.proofs.Common.{◌++◌, ℕ, List, [], length, ap, subst, arith, append_assoc, inr, ◌∙◌, refl}
use Rattle.std.proofs.KnownBytes.{Consumes-trans}
use Rattle.dap_http.proofs.Finals.{gives-more}
use Rattle.dap_http.specs.Reading.{rest_of}
use Rattle.dap_client.specs.Held.{Says}
use Rattle.dap_client.specs.Replies.{StopsInTime, form_of}
use Rattle.dap_client.specs.inner.Behind.{StopsBehind}
use Rattle.dap_client.specs.inner.Holding.{SaysBehind}
use Rattle.dap_client.proofs.HeldReplies.{head-held, lifted-held}
use Rattle.dap_client.proofs.InTime.{stops-lifted, stops-short}
use Rattle.dap_client.proofs.Lifted.{bad-head}
use Rattle.dap_client.proofs.reading.read_held.Goals as goal

pub read_behind-requires-clause-few : goal.read_behind-requires-clause-few
read_behind-requires-clause-few g c = omega (arith, ap length c.rest.ensures, c.read.new.self.few)

pub returns-in-Final-clause-says : goal.returns-in-Final-clause-says
returns-in-Final-clause-says g c =
    let (u, before, has, few) = c.in-Final.ensures.reads in
    let (t, after, says, stops) = c.read_behind.ensures.says in
    let old = rest_of c.args.heads.now in
    let mid = rest_of c.read.new.self in
    let form = form_of c.args.kind in
    let ended = g.I.Source.ended c.read_behind.new.source in (
      u ++ t,
      Consumes-trans _ _ _ u t before after,
      subst (λ (l : List ℕ). Says form c.args.limit l ended c.read_behind.result) (append_assoc old u t)
          (lifted-held form c.args.limit c.in-Final.coding ((old ++ u) ++ t) (mid ++ t) ended c.read_behind.result (gives-more (old ++ u) t mid (inr c.in-Final.coding) has)
          (subst (λ (l : List ℕ). SaysBehind form c.args.limit c.in-Final.coding (l ++ t) ended c.read_behind.result) c.rest.ensures says)),
      subst (StopsInTime form) (append_assoc old u t)
          (stops-lifted form c.in-Final.coding ((old ++ u) ++ t) (mid ++ t) (gives-more (old ++ u) t mid (inr c.in-Final.coding) has)
          (subst (λ (l : List ℕ). StopsBehind form c.in-Final.coding (l ++ t)) c.rest.ensures stops)),
    )

pub break_off-requires : goal.break_off-requires
break_off-requires g c = (form_of c.args.kind, c.args.limit, [], c.new.ensures)

pub returns-in-Refused-clause-says : goal.returns-in-Refused-clause-says
returns-in-Refused-clause-says g c =
    let (u, before, answers, few) = c.in-Refused.ensures.reads in
    let reply = rest_of c.args.heads.now ++ u in
    let form = form_of c.args.kind in
    let ended = g.I.Source.ended c.read.new.source in (
      u,
      before,
      head-held form c.args.limit reply ended c.in-Refused.wrong c.break_off.result (bad-head reply (rest_of c.read.new.self) ended c.in-Refused.wrong answers)
          (c.break_off.ensures.says form c.args.limit [] c.new.ensures),
      stops-short form reply few,
    )

pub returns-in-Refused-clause-read_fault : goal.returns-in-Refused-clause-read_fault
returns-in-Refused-clause-read_fault g c = λ e. absurd (c.break_off.ensures.no_fault e)

pub returns-in-ReadFault-clause-says : goal.returns-in-ReadFault-clause-says
returns-in-ReadFault-clause-says g c = let (u, before, answers, few) = c.in-ReadFault.ensures.reads in (u, before, tt, stops-short (form_of c.args.kind) (rest_of c.args.heads.now ++ u) few)

pub returns-in-Final-clause-kept : goal.returns-in-Final-clause-kept
returns-in-Final-clause-kept g c = λ n. c.read_behind.ensures.kept n ∙ c.in-Final.ensures.kept (λ e. cc e)

pub returns-in-Refused-clause-kept : goal.returns-in-Refused-clause-kept
returns-in-Refused-clause-kept g c = λ n. c.in-Refused.ensures.kept (λ e. cc e)

pub returns-in-ReadFault-clause-kept : goal.returns-in-ReadFault-clause-kept
returns-in-ReadFault-clause-kept g c = λ n. absurd (n refl)
