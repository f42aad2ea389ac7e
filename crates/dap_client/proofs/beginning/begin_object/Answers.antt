use Rattle.std.proofs.Common.{ℕ, List, ◌++◌, sym, subst, append_assoc, arith}
use Rattle.dap_errors.specs.Reading.{IsBad, limit}
use Rattle.dap_client.proofs.Begun.{blank_bad, full_front, short_front}
use Rattle.dap_client.proofs.beginning.begin_object.Goals as goal

pub returns-then-len-eq-LIMIT : goal.returns-then-len-eq-LIMIT
returns-then-len-eq-LIMIT c bytes is word kept error =
    let long = full_front bytes c.args.front.items kept (omega (arith, c.len.ensures, c.if-len-eq-LIMIT.true)) in
    let bad : (more : List ℕ) → IsBad ((bytes ++ c.args.piece.now) ++ more) limit =
    λ more. subst (λ l. IsBad l limit) (sym (append_assoc bytes c.args.piece.now more)) (blank_bad bytes c.args.word.letters word long (c.args.piece.now ++ more)) in
    (error, bad)

pub read_object-requires-clause-stands : goal.read_object-requires-clause-stands
read_object-requires-clause-stands c =
    let (bytes, is, word, kept) = c.requires.stands in
    (bytes, is, short_front bytes c.args.front.items kept (λ full. c.if-len-eq-LIMIT.false (omega (arith, c.len.ensures, full))))

pub returns : goal.returns
returns c bytes is word kept error = c.read_object.ensures bytes is error (short_front bytes c.args.front.items kept (λ full. c.if-len-eq-LIMIT.false (omega (arith, c.len.ensures, full))))
