use Rattle.std.proofs.Common.{◌<◌, take, sym, subst}
use Rattle.std.specs.Io.KnownBytes.{Consumes}
use Rattle.dap_http.proofs.Parts.{takes-nothing}
use Rattle.dap_client.proofs.Told.{none_read, still_short}
use Rattle.dap_client.proofs.showing.read_piece.Goals as goal

pub piece_length-most-requires : goal.piece_length-most-requires
piece_length-most-requires g c = subst (λ n. n < 1099511627776) (sym c.taken.ensures) (still_short c.args.reader.now c.requires.stands c.requires.still_open)

pub returns-in_err-count-clause-reads : goal.returns-in_err-count-clause-reads
returns-in_err-count-clause-reads g c = λ bytes put s. none_read _ _ _ c.args.reader.now bytes put (takes-nothing _ _ c.in_err-count.ensures.err.0) s

pub returns-then-count-eq0-clause-reads : goal.returns-then-count-eq0-clause-reads
returns-then-count-eq0-clause-reads g c = λ bytes put s.
    none_read _ _ _ c.args.reader.now bytes put (subst (λ n. Consumes (g.I.Source.left c.args.source.now) (g.I.Source.left c.take.new.self) (take n c.take.new.into)) c.if-count-eq0.true c.in_ok-count.ensures.bytes) s
