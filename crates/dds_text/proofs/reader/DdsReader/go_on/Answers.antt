use Rattle.std.proofs.Common.{refl, subst, List, ℕ, ◌-◌, take, drop, take-append-drop}
use Rattle.dds_text.specs.After.{DdsStandsAfter, IsSpent, Answers}
use Rattle.dds_text.specs.Reading.{limit}
use Rattle.dds_text.specs.inner.Standing.{IsFound}
use Rattle.dds_text.proofs.Pushed.{clipped_at}
use Rattle.dds_text.proofs.reader.DdsReader.go_on.Goals as goal

pub returns-in-Err-clause-spends : goal.returns-in-Err-clause-spends
unfolding IsSpent
returns-in-Err-clause-spends c = refl

pub returns-in-Ok-clause-answers : goal.returns-in-Ok-clause-answers
unfolding DdsStandsAfter
returns-in-Ok-clause-answers c = λ bytes is_open stands.
    let (read, short) = rw is_open at stands in
    let room = limit - c.args.self.now.front.length in
    let P : List ℕ → Type 0 = λ l. IsFound c.read.new.self bytes l c.in-Ok.found in
    let Q : List ℕ → Type 0 = λ l. Answers c.args.self.now.start c.answer.new.self bytes l c.answer.result in
    subst Q (take-append-drop room c.args.piece.now)
    (c.answer.ensures.answers bytes (take room c.args.piece.now) (drop room c.args.piece.now) is_open (subst P c.clipped.ensures (c.in-Ok.ensures.found bytes read)) (clipped_at bytes c.args.piece.now c.args.self.now.front.length read.1 short))
