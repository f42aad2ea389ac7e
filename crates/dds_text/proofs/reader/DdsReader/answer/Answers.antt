use Rattle.std.proofs.Common.{sym, ◌∙◌, ◌++◌, ◌≡◌, ◌<◌, ◌≤◌, length, length-append, arith}
use Rattle.dap_types.specs.View.{dataset_view}
use Rattle.dds_text.specs.After.{DdsStandsAfter}
use Rattle.dds_text.specs.Reading.{limit}
use Rattle.dds_text.proofs.Pushed.{below, too_long, bad_token, goes_on, piece_goes_on, ends_behind, done_piece}
use Rattle.dds_text.proofs.reader.DdsReader.answer.Goals as goal

pub returns-then-self-eq-LIMIT-clause-answers : goal.returns-then-self-eq-LIMIT-clause-answers
returns-then-self-eq-LIMIT-clause-answers c = λ bytes clip rest is_open found clipped.
    let read = rw c.in-Nothing.is at found in
    c.refuse.ensures.answers bytes (clip ++ rest) (too_long c.args.self.now.front bytes clip rest read (sym read.1 ∙ c.if-self-eq-LIMIT.true))

pub returns-else-self-eq-LIMIT-clause-answers : goal.returns-else-self-eq-LIMIT-clause-answers
unfolding DdsStandsAfter
returns-else-self-eq-LIMIT-clause-answers c = λ bytes clip rest is_open found clipped.
    let read = rw c.in-Nothing.is at found in
    let n : c.args.self.now.front.length ≡ length (bytes ++ clip) = read.1 in
    let short : length (bytes ++ clip) < limit = below _ _ _ n c.if-self-eq-LIMIT.false clipped.0 in
    let (on, less) = piece_goes_on c.args.self.now.front bytes clip rest (clipped.1 short) read short in
    (goes_on c.args.self.now.front (bytes ++ (clip ++ rest)) on less, rw is_open (on, less))

pub returns-in-Bad-clause-answers : goal.returns-in-Bad-clause-answers
returns-in-Bad-clause-answers c = λ bytes clip rest is_open found clipped.
    let stops = rw c.in-Bad.is at found in
    c.refuse-in-Bad.ensures.answers bytes (clip ++ rest) (bad_token bytes clip rest c.in-Bad.place clipped.0 stops)

pub returns-in-Done-clause-answers : goal.returns-in-Done-clause-answers
unfolding DdsStandsAfter
returns-in-Done-clause-answers c = λ bytes clip rest is_open found clipped.
    let (within, ends) = rw c.in-Done.is at found in
    let behind = ends_behind bytes clip rest c.in-Done.used (dataset_view c.in-Done.dataset) clipped.0 within ends in
    let inside : c.in-Done.used ≤ length (clip ++ rest) = omega (arith, within, length-append clip rest) in
    ((inside, (dataset_view c.in-Done.dataset, done_piece bytes (clip ++ rest) c.in-Done.used (dataset_view c.in-Done.dataset) inside behind)), behind)
