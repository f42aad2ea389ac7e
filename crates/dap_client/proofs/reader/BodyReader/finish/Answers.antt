use Rattle.std.proofs.Common.{◌≡◌, ◌∙◌, append-nil, inl, [], refl, sym, subst}
use Rattle.std.proofs.KnownBytes.{Appends-nil}
use Rattle.dap_client.proofs.Ending.{broken_off, whole_finished}
use Rattle.dap_client.specs.Shows.{StopsWithin}
use Rattle.dap_client.specs.inner.Readers.{IsFinished}
use Rattle.dap_client.specs.declared.reader.Ended.TheVariants as ended
use Rattle.dap_client.proofs.reader.BodyReader.finish.Goals as goal

pub returns-in-Ok-clause-stands : goal.returns-in-Ok-clause-stands
returns-in-Ok-clause-stands g c bytes put s = (_, c.in-Ok.ensures.ok, whole_finished bytes put _ s.taken (rw c.in-Whole.is at (c.ended.ensures.ended bytes put s)))

pub returns-in-Err-clause-stands : goal.returns-in-Err-clause-stands
returns-in-Err-clause-stands g c bytes put s =
    let (k, less, sent) = c.in-Err.ensures.err in (_, sent, broken_off bytes put _ k less s.taken (rw c.in-Whole.is at (c.ended.ensures.ended bytes put s)))

pub returns-in-ServerError-clause-stands : goal.returns-in-ServerError-clause-stands
returns-in-ServerError-clause-stands g c bytes put s =
    ([], Appends-nil (g.O.Sink.written c.args.out.now), subst (IsFinished bytes put []) (sym c.server_error.ensures) (rw c.in-ServerError.is at (c.ended.ensures.ended bytes put s), refl))

pub returns-in-Bad-clause-stands : goal.returns-in-Bad-clause-stands
returns-in-Bad-clause-stands g c bytes put s = ([], Appends-nil (g.O.Sink.written c.args.out.now), (rw c.in-Bad.is at (c.ended.ensures.ended bytes put s), refl))

pub returns-in-WriteFault-clause-stands : goal.returns-in-WriteFault-clause-stands
returns-in-WriteFault-clause-stands g c bytes put s =
    ([], Appends-nil (g.O.Sink.written c.args.out.now), inl (subst (StopsWithin bytes) (sym (append-nil put)) (rw c.in-WriteFault.is at (c.ended.ensures.ended bytes put s))))

pub returns-in-Memory-clause-stands : goal.returns-in-Memory-clause-stands
returns-in-Memory-clause-stands g c bytes put s = ([], Appends-nil (g.O.Sink.written c.args.out.now), (rw c.in-Memory.is at (c.ended.ensures.ended bytes put s), refl))

pub returns-in-Bad-clause-stays : goal.returns-in-Bad-clause-stays
returns-in-Bad-clause-stays g c bytes put s closed = rw c.in-Bad.is at (c.ended.ensures.stays bytes put s closed)

pub returns-in-Ok-clause-failed : goal.returns-in-Ok-clause-failed
returns-in-Ok-clause-failed g c failed = let clash : ended.Whole ≡ ended.WriteFault = sym c.in-Whole.is ∙ c.ended.ensures.has_failed failed in absurd (cc)

pub returns-in-Err-clause-failed : goal.returns-in-Err-clause-failed
returns-in-Err-clause-failed g c failed = let clash : ended.Whole ≡ ended.WriteFault = sym c.in-Whole.is ∙ c.ended.ensures.has_failed failed in absurd (cc)

pub returns-in-ServerError-clause-failed : goal.returns-in-ServerError-clause-failed
returns-in-ServerError-clause-failed g c failed = let clash : ended.ServerError c.in-ServerError.object ≡ ended.WriteFault = sym c.in-ServerError.is ∙ c.ended.ensures.has_failed failed in absurd (cc)

pub returns-in-Bad-clause-failed : goal.returns-in-Bad-clause-failed
returns-in-Bad-clause-failed g c failed = let clash : ended.Bad c.in-Bad.field ≡ ended.WriteFault = sym c.in-Bad.is ∙ c.ended.ensures.has_failed failed in absurd (cc)

pub returns-in-Memory-clause-failed : goal.returns-in-Memory-clause-failed
returns-in-Memory-clause-failed g c failed = let clash : ended.Memory ≡ ended.WriteFault = sym c.in-Memory.is ∙ c.ended.ensures.has_failed failed in absurd (cc)
