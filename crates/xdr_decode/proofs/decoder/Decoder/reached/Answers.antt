use Rattle.std.proofs.Common.{ap, refl, ◌∙◌}
use Rattle.reply_faults.specs.declared.bad.Bad.TheVariants.{Cut}
use Rattle.xdr_decode.proofs.Standing.{cut_place, ends_next, opens_next}
use Rattle.xdr_decode.proofs.decoder.Decoder.reached.Goals as goal

pub returns-in-Nothing-clause-ended : goal.returns-in-Nothing-clause-ended
returns-in-Nothing-clause-ended c = λ bytes put s. ends_next c.args.self.now bytes put c.next.result s (rw c.items.ensures at c.next.ensures.next) c.in-Nothing.is

pub returns-in_default : goal.returns-in_default
returns-in_default c =
    record {
      ended = λ bytes put s. tt;
      cut = λ bytes put s. (
        opens_next c.args.self.now bytes put c.next.result s (rw c.items.ensures at c.next.ensures.next) c.in_default.not-Nothing,
        c.cut.ensures ∙ ap (λ n. record { kind = Cut; place = n }) (cut_place c.args.self.now bytes put _ _ s refl refl),
      );
    }
