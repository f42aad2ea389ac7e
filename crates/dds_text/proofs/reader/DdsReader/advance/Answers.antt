use Rattle.std.proofs.Common.{◌≡◌, ◌+◌, ◌++◌, ◌∙◌, length, sym, ap, arith}
use Rattle.dds_text.specs.After.{DdsStandsAfter, IsSpent}
use Rattle.dds_text.specs.declared.reader.DdsStep.TheVariants.{Bad}
use Rattle.dds_text.specs.declared.reader.Verdict.TheVariants as verdict
use Rattle.dds_text.proofs.OneReading.{one_place, done_not_bad, done_not_unfinished, bad_not_unfinished}
use Rattle.dds_text.proofs.Pushed.{goes_on, bad_piece, done_bytes, stays_bad, nothing_used, done_piece}
use Rattle.dds_text.proofs.reader.DdsReader.advance.Goals as goal

pub returns-in-Open-clause-spent : goal.returns-in-Open-clause-spent
unfolding IsSpent
returns-in-Open-clause-spent c = λ spent. absurd (let no : verdict.Open ≡ verdict.Spent = sym c.in-Open.is ∙ spent in cc)

pub returns-in-Open-clause-again : goal.returns-in-Open-clause-again
unfolding DdsStandsAfter
returns-in-Open-clause-again c = λ bytes d stands done.
    let (read, short) = rw c.in-Open.is at stands in
    absurd (done_not_unfinished bytes (length bytes) d done (goes_on c.args.self.now.front bytes read short))

pub returns-in-Open-clause-still : goal.returns-in-Open-clause-still
unfolding DdsStandsAfter
returns-in-Open-clause-still c = λ bytes place stands bad.
    let (read, short) = rw c.in-Open.is at stands in
    absurd (bad_not_unfinished bytes place bad (goes_on c.args.self.now.front bytes read short))

pub returns-in-Done-clause-spent : goal.returns-in-Done-clause-spent
unfolding IsSpent
returns-in-Done-clause-spent c = λ spent. absurd (let no : verdict.Done c.in-Done.field-0 ≡ verdict.Spent = sym c.in-Done.is ∙ spent in cc)

pub returns-in-Done-clause-answers : goal.returns-in-Done-clause-answers
unfolding DdsStandsAfter
returns-in-Done-clause-answers c = λ bytes stands.
    let ends = rw c.in-Done.is at stands in
    let used = nothing_used bytes c.args.piece.now _ ends in
    ((omega arith, (_, done_piece bytes c.args.piece.now 0 _ (omega arith) used)), rw c.in-Done.is used)

pub returns-in-Done-clause-still : goal.returns-in-Done-clause-still
unfolding DdsStandsAfter
returns-in-Done-clause-still c = λ bytes place stands bad.
    let ends = rw c.in-Done.is at stands in
    absurd (done_not_bad bytes (length bytes) place _ (done_bytes bytes _ ends) bad)

pub returns-in-Bad-clause-spent : goal.returns-in-Bad-clause-spent
unfolding IsSpent
returns-in-Bad-clause-spent c = λ spent. absurd (let no : verdict.Bad c.in-Bad.place ≡ verdict.Spent = sym c.in-Bad.is ∙ spent in cc)

pub returns-in-Bad-clause-answers : goal.returns-in-Bad-clause-answers
unfolding DdsStandsAfter
returns-in-Bad-clause-answers c = λ bytes stands.
    let (p, at, stays) = rw c.in-Bad.is at stands in
    let more = stays_bad bytes c.args.piece.now p stays in
    ((p, at, bad_piece (bytes ++ c.args.piece.now) p more), rw c.in-Bad.is (p, at, more))

pub returns-in-Bad-clause-again : goal.returns-in-Bad-clause-again
unfolding DdsStandsAfter
returns-in-Bad-clause-again c = λ bytes d stands done.
    let (p, at, stays) = rw c.in-Bad.is at stands in
    absurd (done_not_bad bytes (length bytes) p d done (bad_piece bytes p stays))

pub returns-in-Bad-clause-still : goal.returns-in-Bad-clause-still
unfolding DdsStandsAfter
returns-in-Bad-clause-still c = λ bytes place stands bad.
    let (p, at, stays) = rw c.in-Bad.is at stands in
    ap Bad (at ∙ ap (λ k. c.args.self.now.start + k) (one_place bytes p place (bad_piece bytes p stays) bad))

pub returns-in-Spent-clause-spends : goal.returns-in-Spent-clause-spends
unfolding IsSpent
returns-in-Spent-clause-spends c = c.in-Spent.is
