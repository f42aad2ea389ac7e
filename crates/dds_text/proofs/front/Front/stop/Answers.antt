use Rattle.std.proofs.Common.{◌++◌, refl, arith}
use Rattle.plain_lemmas.proofs.Truths.{match_true, match_false}
use Rattle.dap_types.specs.View.{dataset_view}
use Rattle.dds_text.proofs.Bytes.{bad_word, bad_sign}
use Rattle.dds_text.proofs.Stops.{holds_open, stopped, ended_at}
use Rattle.dds_text.proofs.front.Front.stop.Goals as goal

pub returns-then-not-branch-clause-found : goal.returns-then-not-branch-clause-found
returns-then-not-branch-clause-found c = λ text more is at stop.
    let ((s, r, held, part), began) = is in
    bad_word text (c.args.self.now.word.items ++ c.args.part.now) c.args.byte more c.args.self.now.began s r part stop began
    (match_false _ _ _ c.if-not-branch.true (c.in_ok-end_word.ensures s held)) (holds_open _ s held)

pub returns-in-Next-clause-found : goal.returns-in-Next-clause-found
returns-in-Next-clause-found c = λ text more is at stop.
    let ((s, r, held, part), began) = is in
    let (word_ends, empty) = match_true _ _ _ c.if-not-branch.false (c.in_ok-end_word.ensures s held) in
    let (s1, first, held1) = word_ends in
    let (s2, second, held2) = rw c.in-Next.is at (c.in_ok-take_sign.ensures s1 held1) in
    stopped _ _ _ text (c.args.self.now.word.items ++ c.args.part.now) c.args.byte s s1 s2 r part stop first second held2 empty (omega (arith, at))

pub returns-in-Bad-clause-found : goal.returns-in-Bad-clause-found
returns-in-Bad-clause-found c = λ text more is at stop.
    let ((s, r, held, part), began) = is in
    let (word_ends, empty) = match_true _ _ _ c.if-not-branch.false (c.in_ok-end_word.ensures s held) in
    let (s1, first, held1) = word_ends in
    let none = rw c.in-Bad.is at (c.in_ok-take_sign.ensures s1 held1) in
    rw (← at) (bad_sign text (c.args.self.now.word.items ++ c.args.part.now) c.args.byte more s s1 r part stop first none (holds_open _ s1 held1))

pub returns-in-Done-clause-found : goal.returns-in-Done-clause-found
returns-in-Done-clause-found c = λ text more is at stop.
    let ((s, r, held, part), began) = is in
    let (word_ends, empty) = match_true _ _ _ c.if-not-branch.false (c.in_ok-end_word.ensures s held) in
    let (s1, first, held1) = word_ends in
    let (second, last) = rw c.in-Done.is at (c.in_ok-take_sign.ensures s1 held1) in
    (refl, ended_at text (c.args.self.now.word.items ++ c.args.part.now) c.args.byte s s1 (dataset_view c.in-Done.dataset) r part stop first second last)
